-- The tokens of names that stand for labels, from the bodies of productions.
use Rattle.std.proofs.Common.{◌≡◌, ℕ, zero, suc, ◌+◌, List, [], ◌∷◌, ◌++◌, Some, map, refl, ap, sym, subst, ◌∙◌}
use Rattle.std.specs.Prelude.{Bool, true, false, ◌==◌, ◌||◌, slice_get, if◌then◌else◌}
use Rattle.std.specs.List.{AllByRecursion, flat_map}
use Rattle.std.proofs.lemmas.Bool.Decides.{Decides-eqb}
use Rattle.il_lexer.specs.declared.types.TokenKind.TheVariants as kind
use Rattle.il_lexer.specs.declared.word.TheConstants as w
use Rattle.ilasm_grammar.specs.Grammar.{rule_of}
use Rattle.ilasm_grammar.specs.Ilasm.{ilasm, rule_by}
use Rattle.ilasm_grammar.specs.declared.nonterminals.TheConstants as n
use Rattle.ilasm_grammar.specs.declared.productions.TheConstants.{
  ITEM_NAME,
  INSTRUCTION_OP_BRANCH,
  INSTRUCTION_SWITCH,
  NAMES,
  COMMA_NAME,
  TRY_RANGE_NAME,
  HANDLER_HANDLER,
  FILTER_START_NAME,
}
use Rattle.ilasm_grammar.specs.declared.symbol.Symbol.{Symbol}
use Rattle.ilasm_grammar.specs.declared.symbol.Symbol.TheVariants.{Terminal, Nonterminal}
use Rattle.ilasm_grammar.specs.declared.terminals.TheConstants as t
use Rattle.source_model.specs.BodyFaults.{label_names, label_names_in}
use Rattle.source_model.specs.Forest.{Forest, none, leaf, branch, Part, part, parts, below_each, each, is_among, leaf_at}
use Rattle.source_model.specs.Instructions.{labels, names_in, targets, instructions_of, instruction_forms}
use Rattle.source_model.specs.Source.{Source}
use Rattle.source_nodes.specs.Derived.{terminal_at, Fits, FitsBody, HasBodies}
use Rattle.source_syntax.specs.Methods.{AreNames}
use Rattle.source_nodes.specs.Readers.{IsOf}
use Rattle.source_nodes.proofs.WrittenNames.{fits_rule, is_name}

-- ---- the tokens at the top of a body

-- the terminals among the symbols of a body
abbrev terminals_in : List Symbol → List ℕ
terminals_in [] = []
terminals_in (Terminal x ∷ more) = x ∷ terminals_in more
terminals_in (Nonterminal x ∷ more) = terminals_in more

pub leaf_fits : (s : Source) (body : List Symbol) (f : Forest) → Fits s body f → (k x : ℕ) → slice_get (terminals_in body) k ≡ Some x → terminal_at s (leaf_at k f) ≡ Some x
leaf_fits s [] none h k x e = absurd cc
leaf_fits s [] (leaf l a) h k x e = absurd h
leaf_fits s [] (branch p b a) h k x e = absurd h
leaf_fits s (Terminal y ∷ more) none h k x e = absurd h
leaf_fits s (Terminal y ∷ more) (leaf l a) h zero x e = let same : y ≡ x = cc in h.0 ∙ ap Some same
leaf_fits s (Terminal y ∷ more) (leaf l a) h (suc k) x e = leaf_fits s more a h.1 k x e
leaf_fits s (Terminal y ∷ more) (branch p b a) h k x e = absurd h
leaf_fits s (Nonterminal y ∷ more) none h k x e = absurd h
leaf_fits s (Nonterminal y ∷ more) (leaf l a) h k x e = absurd h
leaf_fits s (Nonterminal y ∷ more) (branch p b a) h k x e = leaf_fits s more a h.1 k x e

-- a name that a production has at its top
name_at : (s : Source) (p head : ℕ) (body : List Symbol) → ilasm p ≡ Some (rule_of head body) → (k : ℕ) → slice_get (terminals_in body) k ≡ Some t.NAME
    → (f : Forest) → FitsBody s p f → IsOf s kind.Name (leaf_at k f)
name_at s p head body rule k at f h = is_name s (leaf_at k f) (leaf_fits s body f (fits_rule s p head body f rule h) k t.NAME at)

rule_label : ilasm ITEM_NAME ≡ Some (rule_of n.ITEM (Terminal t.NAME ∷ Terminal (t.WORDS + w.COLON) ∷ []))
unfolding ilasm rule_by
rule_label = refl

rule_branch : ilasm INSTRUCTION_OP_BRANCH ≡ Some (rule_of n.INSTRUCTION (Nonterminal n.OP_BRANCH ∷ Terminal t.NAME ∷ []))
unfolding ilasm rule_by
rule_branch = refl

rule_names : ilasm NAMES ≡ Some (rule_of n.NAMES (Terminal t.NAME ∷ Nonterminal n.COMMA_NAME_STAR ∷ []))
unfolding ilasm rule_by
rule_names = refl

rule_comma_name : ilasm COMMA_NAME ≡ Some (rule_of n.COMMA_NAME (Terminal (t.WORDS + w.COMMA) ∷ Terminal t.NAME ∷ []))
unfolding ilasm rule_by
rule_comma_name = refl

rule_try : ilasm TRY_RANGE_NAME ≡ Some (rule_of n.TRY_RANGE (Terminal t.NAME ∷ Terminal (t.WORDS + w.TO) ∷ Terminal t.NAME ∷ []))
unfolding ilasm rule_by
rule_try = refl

rule_handler : ilasm HANDLER_HANDLER ≡ Some (rule_of n.HANDLER (Terminal (t.WORDS + w.HANDLER) ∷ Terminal t.NAME ∷ Terminal (t.WORDS + w.TO) ∷ Terminal t.NAME ∷ []))
unfolding ilasm rule_by
rule_handler = refl

rule_filter : ilasm FILTER_START_NAME ≡ Some (rule_of n.FILTER_START (Terminal t.NAME ∷ []))
unfolding ilasm rule_by
rule_filter = refl

-- ---- what stands below parts

-- below a part stands its body, and it is one of those that were sought
pub record IsFit (s : Source) (sought : List ℕ) (p : Part) : Type 0 where
  pub fits : FitsBody s p.production p.below
  pub bodies : HasBodies s p.below
  pub among : is_among sought p.production ≡ true

pub all_append : {X : Type 0} (P : X → Type 0) (xs ys : List X) → AllByRecursion P xs → AllByRecursion P ys → AllByRecursion P (xs ++ ys)
all_append P [] ys h i = i
all_append P (x ∷ xs) ys h i = (h.0, all_append P xs ys h.1 i)

pub parts_fit : (s : Source) (sought : List ℕ) (f : Forest) → HasBodies s f → AllByRecursion (IsFit s sought) (parts sought f)
parts_fit s sought none h = tt
parts_fit s sought (leaf k a) h = parts_fit s sought a h
parts_fit s sought (branch q b a) h =
    all_append (IsFit s sought) (if is_among sought q then part q b ∷ [] else parts sought b) (parts sought a)
    (go (is_among sought q) refl (parts_fit s sought b h.1)) (parts_fit s sought a h.2)
  where
    go : (c : Bool) → is_among sought q ≡ c → AllByRecursion (IsFit s sought) (parts sought b)
        → AllByRecursion (IsFit s sought) (if c then part q b ∷ [] else parts sought b)
    go true e inner = (record { fits = h.0; bodies = h.1; among = e }, tt)
    go false e inner = inner

pub one_of : (p q : ℕ) → is_among (p ∷ []) q ≡ true → p ≡ q
one_of p q e = (Decides-eqb p q).0 (only (p == q) e)
  where
    only : (c : Bool) → (c || false) ≡ true → c ≡ true
    only true h = refl
    only false h = absurd cc

-- what stands below parts of one production
pub each_fit : (s : Source) (p : ℕ) (ps : List Part) → AllByRecursion (IsFit s (p ∷ [])) ps → AllByRecursion (λ f. FitsBody s p f × HasBodies s f) (below_each ps)
each_fit s p [] h = tt
each_fit s p (q ∷ ps) h =
    ((subst (λ r. FitsBody s r q.below) (sym (one_of p q.production h.0.among)) h.0.fits, h.0.bodies), each_fit s p ps h.1)

-- ---- names

module _ (s : Source) where
  mapped : {X : Type 0} (P : X → Type 0) (g : X → ℕ) (xs : List X) → ((x : X) → P x → IsOf s kind.Name (g x)) → AllByRecursion P xs → AreNames s (map g xs)
  mapped P g [] each h = tt
  mapped P g (x ∷ xs) each h = (each x h.0, mapped P g xs each h.1)

  collected : {X : Type 0} (P : X → Type 0) (g : X → List ℕ) (xs : List X) → ((x : X) → P x → AreNames s (g x)) → AllByRecursion P xs → AreNames s (flat_map g xs)
  collected P g [] each h = tt
  collected P g (x ∷ xs) each h = all_append (IsOf s kind.Name) (g x) (flat_map g xs) (each x h.0) (collected P g xs each h.1)

  chosen_names : (c : Bool) (xs ys : List ℕ) → (c ≡ true → AreNames s xs) → (c ≡ false → AreNames s ys) → AreNames s (if c then xs else ys)
  chosen_names true xs ys h i = h refl
  chosen_names false xs ys h i = i refl

  Below : ℕ → Forest → Type 0
  Below p f = FitsBody s p f × HasBodies s f

  fits_as : (p : Part) (q : ℕ) → (p.production == q) ≡ true → FitsBody s p.production p.below → FitsBody s q p.below
  fits_as p q e h = subst (λ r. FitsBody s r p.below) ((Decides-eqb p.production q).0 e) h

  pub labels_are_names : (f : Forest) → HasBodies s f → AreNames s (labels f)
  labels_are_names f h =
      mapped (λ g. FitsBody s ITEM_NAME g × HasBodies s g) (leaf_at 0) (each ITEM_NAME f)
      (λ g fit. name_at s ITEM_NAME _ _ rule_label 0 refl g fit.0)
      (each_fit s ITEM_NAME (parts (ITEM_NAME ∷ []) f) (parts_fit s (ITEM_NAME ∷ []) f h))

  list_is_names : (f : Forest) → FitsBody s NAMES f × HasBodies s f → AreNames s (names_in f)
  list_is_names f h = (
    name_at s NAMES _ _ rule_names 0 refl f h.0,
    mapped (λ g. FitsBody s COMMA_NAME g × HasBodies s g) (leaf_at 1) (each COMMA_NAME f)
        (λ g fit. name_at s COMMA_NAME _ _ rule_comma_name 1 refl g fit.0)
        (each_fit s COMMA_NAME (parts (COMMA_NAME ∷ []) f) (parts_fit s (COMMA_NAME ∷ []) f h.1)),
  )

  pub targets_are_names : (p : Part) → FitsBody s p.production p.below → HasBodies s p.below → AreNames s (targets p)
  targets_are_names p h bodies =
      chosen_names (p.production == INSTRUCTION_OP_BRANCH) (leaf_at 0 p.below ∷ [])
      (if p.production == INSTRUCTION_SWITCH then flat_map names_in (each NAMES p.below) else [])
      (λ e. (name_at s INSTRUCTION_OP_BRANCH _ _ rule_branch 0 refl p.below (fits_as p INSTRUCTION_OP_BRANCH e h), tt))
      (λ _. chosen_names (p.production == INSTRUCTION_SWITCH) (flat_map names_in (each NAMES p.below)) []
      (λ _. collected (λ g. FitsBody s NAMES g × HasBodies s g) names_in (each NAMES p.below) list_is_names
      (each_fit s NAMES (parts (NAMES ∷ []) p.below) (parts_fit s (NAMES ∷ []) p.below bodies)))
      (λ _. tt))

  part_has_names : (p : Part) → FitsBody s p.production p.below → HasBodies s p.below → AreNames s (label_names_in p)
  part_has_names p h bodies =
      chosen_names (p.production == TRY_RANGE_NAME) (leaf_at 0 p.below ∷ leaf_at 2 p.below ∷ []) _
      (λ e. (
        name_at s TRY_RANGE_NAME _ _ rule_try 0 refl p.below (fits_as p TRY_RANGE_NAME e h),
        (name_at s TRY_RANGE_NAME _ _ rule_try 2 refl p.below (fits_as p TRY_RANGE_NAME e h), tt),
      ))
      (λ _. chosen_names (p.production == HANDLER_HANDLER) (leaf_at 1 p.below ∷ leaf_at 3 p.below ∷ []) _
      (λ e. (
        name_at s HANDLER_HANDLER _ _ rule_handler 1 refl p.below (fits_as p HANDLER_HANDLER e h),
        (name_at s HANDLER_HANDLER _ _ rule_handler 3 refl p.below (fits_as p HANDLER_HANDLER e h), tt),
      ))
      (λ _. chosen_names (p.production == FILTER_START_NAME) (leaf_at 0 p.below ∷ []) (targets p)
      (λ e. (name_at s FILTER_START_NAME _ _ rule_filter 0 refl p.below (fits_as p FILTER_START_NAME e h), tt))
      (λ _. targets_are_names p h bodies)))

  pub label_names_are_names : (f : Forest) → HasBodies s f → AreNames s (label_names f)
  label_names_are_names f h =
      let sought = INSTRUCTION_OP_BRANCH ∷ INSTRUCTION_SWITCH ∷ TRY_RANGE_NAME ∷ HANDLER_HANDLER ∷ FILTER_START_NAME ∷ [] in
      collected (IsFit s sought) label_names_in (parts sought f) (λ p fit. part_has_names p fit.fits fit.bodies) (parts_fit s sought f h)

  pub all_targets_are_names : (f : Forest) → HasBodies s f → AreNames s (flat_map targets (instructions_of f))
  all_targets_are_names f h =
      collected (IsFit s instruction_forms) targets (instructions_of f) (λ p fit. targets_are_names p fit.fits fit.bodies) (parts_fit s instruction_forms f h)
