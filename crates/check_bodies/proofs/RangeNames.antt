-- The names of the ranges of clauses, from the bodies of their productions (ECMA-335 II.19).
use Rattle.std.proofs.Common.{◌≡◌, ℕ, [], ◌∷◌, Option, None, Some, refl, ap, sym, subst, ◌∙◌}
use Rattle.std.specs.Prelude.{Bool, true, false, ◌==◌, ◌||◌, ◌&&◌, nat_lt, is_some, slice_get, if◌then◌else◌}
use Rattle.std.proofs.lemmas.Bool.Decides.{Decides-eqb}
use Rattle.il_lexer.specs.declared.types.TokenKind.TheVariants.{Name}
use Rattle.assembly_tree.specs.WellFormedBodies.{filter_before, is_forward}
use Rattle.assembly_tree.specs.declared.body.ClauseKind.TheVariants as handles
use Rattle.ilasm_grammar.specs.Ilasm.{ilasm, rule_by}
use Rattle.ilasm_grammar.specs.declared.productions.TheConstants.{CLAUSE_CATCH, CLAUSE_FILTER, CLAUSE_FINALLY, FILTER_START_NAME, HANDLER_HANDLER, TRY_RANGE_NAME}
use Rattle.ilasm_grammar.specs.declared.terminals.TheConstants as t
use Rattle.source_model.specs.BodyFaults.{clause_backwards}
use Rattle.source_model.specs.Clauses.{Range, clause, clause_forms, clause_kind, filter_start, handler_range, stands, try_range}
use Rattle.source_model.specs.Forest.{Forest, none, leaf, branch, child, first_token, is_among, leaf_at, part, which}
use Rattle.source_model.specs.Nodes.{Node}
use Rattle.source_model.specs.Source.{Source}
use Rattle.source_model.specs.Types.{the_owner}
use Rattle.source_nodes.specs.Derived.{FitsBody, HasBodies}
use Rattle.source_nodes.specs.Least.{least}
use Rattle.source_nodes.specs.Readers.{IsOf}
use Rattle.source_syntax.proofs.NameTokens.{name_at, terminals_of_rule}
use Rattle.check_bodies.specs.Ranges.{backwards_at, filter_of, is_forward_in, range_of, starts_before}
use Rattle.check_bodies.specs.declared.clause_ranges.CodeRange.{CodeRange}

-- ---- what stands at the top

abbrev pub asked : ℕ → Unit {0} → Forest → Bool
asked p i f = stands p f

pub stands_here : (p q : ℕ) (b a : Forest) → (p == q) ≡ true → true ≡ stands p (branch q b a)
stands_here p q b a e = sym (ap (λ (c : Bool). is_some (if c || false then Some q else which (p ∷ []) a)) e)

pub stands_past : (p q : ℕ) (b a : Forest) → (p == q) ≡ false → stands p a ≡ stands p (branch q b a)
stands_past p q b a e = sym (ap (λ (c : Bool). is_some (if c || false then Some q else which (p ∷ []) a)) e)

module _ (s : Source) where
  stands_fits : (p : ℕ) (f : Forest) → HasBodies s f → stands p f ≡ true → FitsBody s p (child (p ∷ []) f)
  stands_fits p none h e = absurd cc
  stands_fits p (leaf k a) h e = stands_fits p a h e
  stands_fits p (branch q b a) h e = go (p == q) refl (λ on. stands_fits p a h.2 on)
    where
      go : (c : Bool) → (p == q) ≡ c → (stands p a ≡ true → FitsBody s p (child (p ∷ []) a)) → FitsBody s p (child (p ∷ []) (branch q b a))
      go true is after =
          subst (FitsBody s p) (sym (ap (λ (c : Bool). if c || false then b else child (p ∷ []) a) is))
          (subst (λ r. FitsBody s r b) (sym ((Decides-eqb p q).0 is)) h.0)
      go false apart after =
          subst (FitsBody s p) (sym (ap (λ (c : Bool). if c || false then b else child (p ∷ []) a) apart))
          (after (stands_past p q b a apart ∙ e))

  first_try : slice_get (terminals_of_rule (ilasm TRY_RANGE_NAME)) 0 ≡ Some t.NAME
  unfolding ilasm rule_by
  first_try = refl

  second_try : slice_get (terminals_of_rule (ilasm TRY_RANGE_NAME)) 2 ≡ Some t.NAME
  unfolding ilasm rule_by
  second_try = refl

  first_handler : slice_get (terminals_of_rule (ilasm HANDLER_HANDLER)) 1 ≡ Some t.NAME
  unfolding ilasm rule_by
  first_handler = refl

  second_handler : slice_get (terminals_of_rule (ilasm HANDLER_HANDLER)) 3 ≡ Some t.NAME
  unfolding ilasm rule_by
  second_handler = refl

  filter_first : slice_get (terminals_of_rule (ilasm FILTER_START_NAME)) 0 ≡ Some t.NAME
  unfolding ilasm rule_by
  filter_first = refl

  pub try_names : (f : Forest) → HasBodies s f → stands TRY_RANGE_NAME f ≡ true
      → IsOf s Name (leaf_at 0 (child (TRY_RANGE_NAME ∷ []) f)) × IsOf s Name (leaf_at 2 (child (TRY_RANGE_NAME ∷ []) f))
  try_names f h on =
      let fit = stands_fits TRY_RANGE_NAME f h on in
      (name_at s TRY_RANGE_NAME 0 (child (TRY_RANGE_NAME ∷ []) f) first_try fit, name_at s TRY_RANGE_NAME 2 (child (TRY_RANGE_NAME ∷ []) f) second_try fit)

  pub handler_names : (f : Forest) → HasBodies s f → stands HANDLER_HANDLER f ≡ true
      → IsOf s Name (leaf_at 1 (child (HANDLER_HANDLER ∷ []) f)) × IsOf s Name (leaf_at 3 (child (HANDLER_HANDLER ∷ []) f))
  handler_names f h on =
      let fit = stands_fits HANDLER_HANDLER f h on in
      (name_at s HANDLER_HANDLER 1 (child (HANDLER_HANDLER ∷ []) f) first_handler fit, name_at s HANDLER_HANDLER 3 (child (HANDLER_HANDLER ∷ []) f) second_handler fit)

  pub filter_name : (f : Forest) → HasBodies s f → stands FILTER_START_NAME f ≡ true → IsOf s Name (leaf_at 0 (child (FILTER_START_NAME ∷ []) f))
  filter_name f h on = name_at s FILTER_START_NAME 0 (child (FILTER_START_NAME ∷ []) f) filter_first (stands_fits FILTER_START_NAME f h on)

-- ---- clauses

module _ (s : Source) (n : Node) where
  filtered : (h p : ℕ) (b : Forest) → starts_before (filter_of s n.below p b) h ≡ filter_before h (clause_kind s n.around n.below (part p b))
  filtered h p b = go (p == CLAUSE_CATCH) (p == CLAUSE_FILTER) (p == CLAUSE_FINALLY) refl refl
    where
      go : (c d e : Bool) → (p == CLAUSE_CATCH) ≡ c → (p == CLAUSE_FILTER) ≡ d
          → starts_before (if d then Some (filter_start s n.below b) else None) h
          ≡ filter_before h (if c then handles.Catch (the_owner s n.around b) else if d then handles.Filter (filter_start s n.below b) else if e then handles.Finally else handles.Fault)
      go true true e is also =
          let same = sym ((Decides-eqb p CLAUSE_CATCH).0 is) ∙ (Decides-eqb p CLAUSE_FILTER).0 also in
          let both : (CLAUSE_CATCH == CLAUSE_FILTER) ≡ true = (Decides-eqb CLAUSE_CATCH CLAUSE_FILTER).1 same in
          absurd cc
      go true false e is also = refl
      go false true e is also = refl
      go false false true is also = refl
      go false false false is also = refl

  -- a clause from its ranges
  pub forward_is : (t b : Forest) (p : ℕ) (x y : CodeRange) (o : Option ℕ) → range_of x ≡ try_range s n.below t → range_of y ≡ handler_range s n.below b
      → o ≡ filter_of s n.below p b
      → is_forward_in x y o ≡ is_forward (clause s n.around n.below (record { tried = t; clause = part p b }))
  forward_is t b p x y o tried handler filter =
      let guarded = try_range s n.below t in
      let handled = handler_range s n.below b in
      ap (λ (r : Range). nat_lt r.start r.end && nat_lt y.start y.end && starts_before o y.start) tried
      ∙ ap (λ (r : Range). nat_lt guarded.start guarded.end && nat_lt r.start r.end && starts_before o r.start) handler
      ∙ ap (λ q. nat_lt guarded.start guarded.end && nat_lt handled.start handled.end && starts_before q handled.start) filter
      ∙ ap (λ q. nat_lt guarded.start guarded.end && nat_lt handled.start handled.end && q) (filtered handled.start p b)

  pub backwards_is : (t b : Forest) (p token : ℕ) (forward : Bool) → is_among clause_forms p ≡ true
      → forward ≡ is_forward (clause s n.around n.below (record { tried = t; clause = part p b })) → token ≡ first_token b
      → least (if forward then [] else token ∷ []) ≡ least (backwards_at s n t p b)
  backwards_is t b p token forward own is first =
      ap (λ k. least (if forward then [] else k ∷ [])) first
      ∙ ap (λ (c : Bool). least (if c then [] else first_token b ∷ [])) is
      ∙ sym (ap (λ (c : Bool). least (if c then clause_backwards s n (record { tried = t; clause = part p b }) else [])) own)
