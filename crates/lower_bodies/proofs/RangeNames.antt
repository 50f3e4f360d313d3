-- The names of the ranges of clauses, from the bodies of their productions (ECMA-335 II.19).
use Rattle.std.proofs.Common.{◌≡◌, ℕ, [], ◌∷◌, Some, refl, ap, sym, subst, ◌∙◌}
use Rattle.std.specs.Prelude.{Bool, true, false, ◌==◌, ◌||◌, is_some, slice_get, if◌then◌else◌}
use Rattle.std.proofs.lemmas.Bool.Decides.{Decides-eqb}
use Rattle.il_lexer.specs.declared.types.TokenKind.TheVariants.{Name}
use Rattle.ilasm_grammar.specs.Ilasm.{ilasm, rule_by}
use Rattle.ilasm_grammar.specs.declared.productions.TheConstants.{FILTER_START_NAME, HANDLER_HANDLER, TRY_RANGE_NAME}
use Rattle.ilasm_grammar.specs.declared.terminals.TheConstants as t
use Rattle.source_model.specs.Clauses.{stands}
use Rattle.source_model.specs.Forest.{Forest, none, leaf, branch, child, leaf_at, which}
use Rattle.source_model.specs.Source.{Source}
use Rattle.source_nodes.specs.Derived.{FitsBody, HasBodies}
use Rattle.source_nodes.specs.Readers.{IsOf}
use Rattle.source_syntax.proofs.NameTokens.{name_at, terminals_of_rule}

-- ---- what stands at the top

abbrev pub asked : ℕ → Unit {0} → Forest → Bool
asked p i f = stands p f

pub stands_here : (p q : ℕ) (b a : Forest) → (p == q) ≡ true → true ≡ stands p (branch q b a)
stands_here p q b a e = sym (ap (λ (c : Bool). is_some (if c || false then Some q else which (p ∷ []) a)) e)

pub stands_past : (p q : ℕ) (b a : Forest) → (p == q) ≡ false → stands p a ≡ stands p (branch q b a)
stands_past p q b a e = sym (ap (λ (c : Bool). is_some (if c || false then Some q else which (p ∷ []) a)) e)

module _ (s : Source) where
  stands_fits : (p : ℕ) (f : Forest) → HasBodies s f → stands p f ≡ true → FitsBody s p (child (p ∷ []) f)
  stands_fits p none h e = absurd cc
  stands_fits p (leaf k a) h e = stands_fits p a h e
  stands_fits p (branch q b a) h e = go (p == q) refl (λ on. stands_fits p a h.2 on)
    where
      go : (c : Bool) → (p == q) ≡ c → (stands p a ≡ true → FitsBody s p (child (p ∷ []) a)) → FitsBody s p (child (p ∷ []) (branch q b a))
      go true is after =
          subst (FitsBody s p) (sym (ap (λ (c : Bool). if c || false then b else child (p ∷ []) a) is))
          (subst (λ r. FitsBody s r b) (sym ((Decides-eqb p q).0 is)) h.0)
      go false apart after =
          subst (FitsBody s p) (sym (ap (λ (c : Bool). if c || false then b else child (p ∷ []) a) apart))
          (after (stands_past p q b a apart ∙ e))

  first_try : slice_get (terminals_of_rule (ilasm TRY_RANGE_NAME)) 0 ≡ Some t.NAME
  unfolding ilasm rule_by
  first_try = refl

  second_try : slice_get (terminals_of_rule (ilasm TRY_RANGE_NAME)) 2 ≡ Some t.NAME
  unfolding ilasm rule_by
  second_try = refl

  first_handler : slice_get (terminals_of_rule (ilasm HANDLER_HANDLER)) 1 ≡ Some t.NAME
  unfolding ilasm rule_by
  first_handler = refl

  second_handler : slice_get (terminals_of_rule (ilasm HANDLER_HANDLER)) 3 ≡ Some t.NAME
  unfolding ilasm rule_by
  second_handler = refl

  filter_first : slice_get (terminals_of_rule (ilasm FILTER_START_NAME)) 0 ≡ Some t.NAME
  unfolding ilasm rule_by
  filter_first = refl

  pub try_names : (f : Forest) → HasBodies s f → stands TRY_RANGE_NAME f ≡ true
      → IsOf s Name (leaf_at 0 (child (TRY_RANGE_NAME ∷ []) f)) × IsOf s Name (leaf_at 2 (child (TRY_RANGE_NAME ∷ []) f))
  try_names f h on =
      let fit = stands_fits TRY_RANGE_NAME f h on in
      (name_at s TRY_RANGE_NAME 0 (child (TRY_RANGE_NAME ∷ []) f) first_try fit, name_at s TRY_RANGE_NAME 2 (child (TRY_RANGE_NAME ∷ []) f) second_try fit)

  pub handler_names : (f : Forest) → HasBodies s f → stands HANDLER_HANDLER f ≡ true
      → IsOf s Name (leaf_at 1 (child (HANDLER_HANDLER ∷ []) f)) × IsOf s Name (leaf_at 3 (child (HANDLER_HANDLER ∷ []) f))
  handler_names f h on =
      let fit = stands_fits HANDLER_HANDLER f h on in
      (name_at s HANDLER_HANDLER 1 (child (HANDLER_HANDLER ∷ []) f) first_handler fit, name_at s HANDLER_HANDLER 3 (child (HANDLER_HANDLER ∷ []) f) second_handler fit)

  pub filter_name : (f : Forest) → HasBodies s f → stands FILTER_START_NAME f ≡ true → IsOf s Name (leaf_at 0 (child (FILTER_START_NAME ∷ []) f))
  filter_name f h on = name_at s FILTER_START_NAME 0 (child (FILTER_START_NAME ∷ []) f) filter_first (stands_fits FILTER_START_NAME f h on)
