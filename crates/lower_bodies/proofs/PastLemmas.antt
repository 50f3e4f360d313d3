-- What stands in nothing that the walk of a method goes past.
use Rattle.std.proofs.Common.{◌≡◌, ℕ, List, [], ◌∷◌, ◌++◌, refl, ap, sym, ◌∙◌}
use Rattle.std.specs.Prelude.{Bool, true, false, not, ◌==◌, ◌&&◌, ◌||◌}
use Rattle.std.proofs.lemmas.Bool.{and_parts, eqb-true}
use Rattle.ilasm_grammar.specs.Ilasm.{body_at, has_bit}
use Rattle.ilasm_grammar.specs.declared.productions.TheConstants.{INIT_OPT_SOME, ITEM_ENTRYPOINT, ITEM_MAXSTACK, ITEM_NAME, LOCAL, OVERRIDDEN_METHOD, OVERRIDDEN_SPEC}
use Rattle.ilasm_grammar.proofs.TableCheck.{ilasm_tables}
use Rattle.ilasm_grammar.proofs.Tables.{all_below}
use Rattle.source_flags.specs.declared.outside.Shut.TheVariants.{Instructions}
use Rattle.source_flags.proofs.Apart.{all_outside, are_apart, is_past, mask_of, stays}
use Rattle.source_model.specs.Clauses.{clause_forms}
use Rattle.source_model.specs.Forest.{Forest, is_among, parts, parts_outside}
use Rattle.source_model.specs.Instructions.{instruction_forms}
use Rattle.source_model.specs.Source.{Source}
use Rattle.source_nodes.specs.Derived.{HasBodies}
use Rattle.lower_bodies.specs.HeldItems.{going_forms, head_forms, line_forms, passed_forms, told_forms}

pub local_past : is_past Instructions (LOCAL ∷ []) ≡ true
unfolding is_past mask_of ilasm_tables has_bit
local_past = refl

pub clauses_past : is_past Instructions clause_forms ≡ true
unfolding is_past mask_of ilasm_tables has_bit
clauses_past = refl

-- the nonterminals that stand somewhere below what is gone past
unfoldable pub passed_mask : ℕ
passed_mask = 0x1ffff8fb000000003fffffffffffe3820

passed_closed : all_below (stays passed_mask passed_forms) ilasm_tables.productions ≡ true
unfolding ilasm_tables body_at has_bit passed_mask
passed_closed = refl

-- these productions stand in nothing that is gone past
unfoldable pub is_unpassed : List ℕ → Bool
is_unpassed sought = are_apart passed_mask sought

pub same_past : (sought : List ℕ) → is_unpassed sought ≡ true → (s : Source) (f : Forest) → HasBodies s f → parts_outside passed_forms sought f ≡ parts sought f
unfolding is_unpassed
same_past sought e s f h = all_outside passed_mask passed_forms sought passed_closed e s f h

pub instructions_unpassed : is_unpassed instruction_forms ≡ true
unfolding is_unpassed passed_mask ilasm_tables has_bit
instructions_unpassed = refl

pub labels_unpassed : is_unpassed (ITEM_NAME ∷ []) ≡ true
unfolding is_unpassed passed_mask ilasm_tables has_bit
labels_unpassed = refl

pub locals_unpassed : is_unpassed (LOCAL ∷ []) ≡ true
unfolding is_unpassed passed_mask ilasm_tables has_bit
locals_unpassed = refl

pub init_unpassed : is_unpassed (INIT_OPT_SOME ∷ []) ≡ true
unfolding is_unpassed passed_mask ilasm_tables has_bit
init_unpassed = refl

pub bound_unpassed : is_unpassed (ITEM_MAXSTACK ∷ []) ≡ true
unfolding is_unpassed passed_mask ilasm_tables has_bit
bound_unpassed = refl

pub clauses_unpassed : is_unpassed clause_forms ≡ true
unfolding is_unpassed passed_mask ilasm_tables has_bit
clauses_unpassed = refl

pub lines_unpassed : is_unpassed line_forms ≡ true
unfolding is_unpassed passed_mask ilasm_tables has_bit
lines_unpassed = refl

pub overrides_unpassed : is_unpassed (OVERRIDDEN_METHOD ∷ OVERRIDDEN_SPEC ∷ []) ≡ true
unfolding is_unpassed passed_mask ilasm_tables has_bit
overrides_unpassed = refl

pub entry_unpassed : is_unpassed (ITEM_ENTRYPOINT ∷ []) ≡ true
unfolding is_unpassed passed_mask ilasm_tables has_bit
entry_unpassed = refl

-- ---- one production

-- none of these is among others
abbrev apart_from : List ℕ → List ℕ → Bool
apart_from ys [] = true
apart_from ys (x ∷ xs) = not (is_among ys x) && apart_from ys xs

not_true : (b : Bool) → not b ≡ true → b ≡ false
not_true true e = absurd cc
not_true false e = refl

none_of : (ys xs : List ℕ) → apart_from ys xs ≡ true → (p : ℕ) → is_among xs p ≡ true → is_among ys p ≡ false
none_of ys [] a p h = absurd cc
none_of ys (x ∷ xs) a p h = go (x == p) refl h (and_parts _ _ a) (none_of ys xs (and_parts _ _ a).1 p)
  where
    go : (c : Bool) → (x == p) ≡ c → (c || is_among xs p) ≡ true → (not (is_among ys x) ≡ true) × (apart_from ys xs ≡ true)
        → (is_among xs p ≡ true → is_among ys p ≡ false) → is_among ys p ≡ false
    go true e more both rest = ap (is_among ys) (sym (eqb-true x p e)) ∙ not_true (is_among ys x) both.0
    go false e more both rest = rest more

pub instruction_untold : (p : ℕ) → is_among instruction_forms p ≡ true → is_among told_forms p ≡ false
instruction_untold = none_of told_forms instruction_forms refl

pub head_untold : (p : ℕ) → is_among head_forms p ≡ true → is_among told_forms p ≡ false
head_untold = none_of told_forms head_forms refl

pub name_untold : (p : ℕ) → is_among (ITEM_NAME ∷ []) p ≡ true → is_among told_forms p ≡ false
name_untold = none_of told_forms (ITEM_NAME ∷ []) refl

-- what goes on with the items of a method is nothing that is looked for or gone past
pub going_untold : (p : ℕ) → is_among going_forms p ≡ true → is_among told_forms p ≡ false
going_untold = none_of told_forms going_forms refl

pub going_unpassed : (p : ℕ) → is_among going_forms p ≡ true → is_among passed_forms p ≡ false
going_unpassed = none_of passed_forms going_forms refl

pub going_no_instruction : (p : ℕ) → is_among going_forms p ≡ true → is_among instruction_forms p ≡ false
going_no_instruction = none_of instruction_forms going_forms refl

pub going_unnamed : (p : ℕ) → is_among going_forms p ≡ true → is_among (ITEM_NAME ∷ []) p ≡ false
going_unnamed = none_of (ITEM_NAME ∷ []) going_forms refl

-- what is gone past, by its kinds
among_both : (xs ys : List ℕ) (p : ℕ) → is_among (xs ++ ys) p ≡ (is_among xs p || is_among ys p)
among_both [] ys p = refl
among_both (x ∷ xs) ys p = ap (λ c. (x == p) || c) (among_both xs ys p) ∙ go (x == p)
  where
    go : (c : Bool) → (c || (is_among xs p || is_among ys p)) ≡ ((c || is_among xs p) || is_among ys p)
    go true = refl
    go false = refl

among_passed : (p : ℕ) → is_among passed_forms p ≡ (is_among head_forms p || (is_among (ITEM_NAME ∷ []) p || is_among instruction_forms p))
among_passed p =
    among_both head_forms (ITEM_NAME ∷ instruction_forms) p
    ∙ ap (λ c. is_among head_forms p || c) (among_both (ITEM_NAME ∷ []) instruction_forms p)

last_true : (a b : Bool) → (a || (b || true)) ≡ true
last_true true b = refl
last_true false true = refl
last_true false false = refl

middle_true : (a b : Bool) → (a || (true || b)) ≡ true
middle_true true b = refl
middle_true false b = refl

pub instruction_passed : (p : ℕ) → is_among instruction_forms p ≡ true → is_among passed_forms p ≡ true
instruction_passed p e =
    among_passed p ∙ ap (λ c. is_among head_forms p || (is_among (ITEM_NAME ∷ []) p || c)) e ∙ last_true (is_among head_forms p) (is_among (ITEM_NAME ∷ []) p)

pub name_passed : (p : ℕ) → is_among (ITEM_NAME ∷ []) p ≡ true → is_among passed_forms p ≡ true
name_passed p e =
    among_passed p ∙ ap (λ c. is_among head_forms p || (c || is_among instruction_forms p)) e ∙ middle_true (is_among head_forms p) (is_among instruction_forms p)

pub head_passed : (p : ℕ) → is_among head_forms p ≡ true → is_among passed_forms p ≡ true
head_passed p e = among_passed p ∙ ap (λ c. c || (is_among (ITEM_NAME ∷ []) p || is_among instruction_forms p)) e

pub not_passed : (p : ℕ) → is_among head_forms p ≡ false → is_among (ITEM_NAME ∷ []) p ≡ false → is_among instruction_forms p ≡ false → is_among passed_forms p ≡ false
not_passed p h n i =
    among_passed p
    ∙ ap (λ c. c || (is_among (ITEM_NAME ∷ []) p || is_among instruction_forms p)) h
    ∙ ap (λ c. c || is_among instruction_forms p) n
    ∙ i
