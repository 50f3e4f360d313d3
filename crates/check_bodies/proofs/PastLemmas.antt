-- What stands in nothing that the walk for the lines of a method goes past.
use Rattle.std.proofs.Common.{◌≡◌, ℕ, List, [], ◌∷◌, ◌++◌, refl, ap, sym, ◌∙◌}
use Rattle.std.specs.Prelude.{Bool, true, false, not, ◌==◌, ◌||◌}
use Rattle.std.specs.List.{list_all}
use Rattle.std.proofs.lemmas.Bool.{and_parts, eqb-true, false≢true}
use Rattle.ilasm_grammar.specs.Ilasm.{body_at, has_bit}
use Rattle.ilasm_grammar.specs.declared.productions.TheConstants.{ITEM_NAME}
use Rattle.ilasm_grammar.proofs.TableCheck.{ilasm_tables}
use Rattle.ilasm_grammar.proofs.Tables.{all_below}
use Rattle.source_flags.proofs.Apart.{all_outside, are_apart, stays}
use Rattle.source_model.specs.Forest.{Forest, is_among, parts, parts_outside}
use Rattle.source_model.specs.Instructions.{instruction_forms}
use Rattle.source_model.specs.Source.{Source}
use Rattle.source_nodes.specs.Derived.{HasBodies}
use Rattle.check_bodies.specs.CodeLines.{head_forms, others}

-- what the walk goes past: the head of a method, types, instructions and the names of labels
abbrev pub passed_forms : List ℕ
passed_forms = head_forms ++ (ITEM_NAME ∷ instruction_forms)

-- the nonterminals that stand somewhere below that
unfoldable passed_mask : ℕ
passed_mask = 0x1ffff8fb000000003fffffffffffe3820

passed_closed : all_below (stays passed_mask passed_forms) ilasm_tables.productions ≡ true
unfolding ilasm_tables body_at has_bit passed_mask
passed_closed = refl

instructions_apart : are_apart passed_mask instruction_forms ≡ true
unfolding ilasm_tables has_bit passed_mask
instructions_apart = refl

names_apart : are_apart passed_mask (ITEM_NAME ∷ []) ≡ true
unfolding ilasm_tables has_bit passed_mask
names_apart = refl

others_apart : are_apart passed_mask others ≡ true
unfolding ilasm_tables has_bit passed_mask
others_apart = refl

pub instructions_past : (s : Source) (f : Forest) → HasBodies s f → parts_outside passed_forms instruction_forms f ≡ parts instruction_forms f
instructions_past s f h = all_outside passed_mask passed_forms instruction_forms passed_closed instructions_apart s f h

pub labels_past : (s : Source) (f : Forest) → HasBodies s f → parts_outside passed_forms (ITEM_NAME ∷ []) f ≡ parts (ITEM_NAME ∷ []) f
labels_past s f h = all_outside passed_mask passed_forms (ITEM_NAME ∷ []) passed_closed names_apart s f h

pub others_past : (s : Source) (f : Forest) → HasBodies s f → parts_outside passed_forms others f ≡ parts others f
others_past s f h = all_outside passed_mask passed_forms others passed_closed others_apart s f h

-- ---- one production

-- what holds of each of some productions holds of one that is among them
pub all_of : (t : ℕ → Bool) (ps : List ℕ) → list_all t ps ≡ true → (q : ℕ) → is_among ps q ≡ true → t q ≡ true
all_of t [] all q e = absurd (false≢true e)
all_of t (p ∷ ps) all q e = go (p == q) refl (all_of t ps (and_parts (t p) (list_all t ps) all).1 q)
  where
    go : (c : Bool) → (p == q) ≡ c → (is_among ps q ≡ true → t q ≡ true) → t q ≡ true
    go true same later = ap t (sym (eqb-true p q same)) ∙ (and_parts (t p) (list_all t ps) all).0
    go false apart later = later (sym (ap (λ (c : Bool). c || is_among ps q) apart) ∙ e)

not_true : (b : Bool) → not b ≡ true → b ≡ false
not_true true e = absurd (false≢true e)
not_true false e = refl

pub form_no_name : (q : ℕ) → is_among instruction_forms q ≡ true → is_among (ITEM_NAME ∷ []) q ≡ false
form_no_name q e = not_true _ (all_of (λ p. not (is_among (ITEM_NAME ∷ []) p)) instruction_forms refl q e)

pub form_no_other : (q : ℕ) → is_among instruction_forms q ≡ true → is_among others q ≡ false
form_no_other q e = not_true _ (all_of (λ p. not (is_among others p)) instruction_forms refl q e)

pub name_no_other : (q : ℕ) → is_among (ITEM_NAME ∷ []) q ≡ true → is_among others q ≡ false
name_no_other q e = not_true _ (all_of (λ p. not (is_among others p)) (ITEM_NAME ∷ []) refl q e)

pub other_no_head : (q : ℕ) → is_among others q ≡ true → is_among head_forms q ≡ false
other_no_head q e = not_true _ (all_of (λ p. not (is_among head_forms p)) others refl q e)

pub form_passed : (q : ℕ) → is_among instruction_forms q ≡ true → is_among passed_forms q ≡ true
form_passed q e = all_of (is_among passed_forms) instruction_forms refl q e

pub name_passed : (q : ℕ) → is_among (ITEM_NAME ∷ []) q ≡ true → is_among passed_forms q ≡ true
name_passed q e = all_of (is_among passed_forms) (ITEM_NAME ∷ []) refl q e

pub head_passed : (q : ℕ) → is_among head_forms q ≡ true → is_among passed_forms q ≡ true
head_passed q e = all_of (is_among passed_forms) head_forms refl q e

among_both : (xs ys : List ℕ) (p : ℕ) → is_among (xs ++ ys) p ≡ (is_among xs p || is_among ys p)
among_both [] ys p = refl
among_both (x ∷ xs) ys p = ap (λ c. (x == p) || c) (among_both xs ys p) ∙ go (x == p)
  where
    go : (c : Bool) → (c || (is_among xs p || is_among ys p)) ≡ ((c || is_among xs p) || is_among ys p)
    go true = refl
    go false = refl

pub not_passed : (p : ℕ) → is_among head_forms p ≡ false → is_among (ITEM_NAME ∷ []) p ≡ false → is_among instruction_forms p ≡ false → is_among passed_forms p ≡ false
not_passed p head name form =
    among_both head_forms (ITEM_NAME ∷ instruction_forms) p
    ∙ ap (λ c. is_among head_forms p || c) (among_both (ITEM_NAME ∷ []) instruction_forms p)
    ∙ ap (λ c. c || (is_among (ITEM_NAME ∷ []) p || is_among instruction_forms p)) head
    ∙ ap (λ c. c || is_among instruction_forms p) name
    ∙ form
