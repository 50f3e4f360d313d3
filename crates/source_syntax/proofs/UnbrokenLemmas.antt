-- Unbroken signatures can be read.
use Rattle.std.proofs.Common.{◌≡◌, ℕ, ◌⊎◌, inl, inr, List, [], ◌∷◌, ◌++◌, length, refl, ap, sym, subst, ◌∙◌, arith}
use Rattle.std.specs.Prelude.{Bool, true, false, ◌==◌, ◌||◌, ◌&&◌, if◌then◌else◌}
use Rattle.std.specs.List.{flat_map}
use Rattle.std.proofs.lemmas.Bool.Decides.{Decides-eqb}
use Rattle.std.proofs.lemmas.Grind.{flat_map-append}
use Rattle.ilasm_grammar.specs.declared.productions.TheConstants.{DEF_ARGS_OPT_SOME, METHOD_GENERICS, SIGNATURE, TYPE}
use Rattle.source_model.specs.Forest.{Forest, none, leaf, branch, child, chosen, is_among, the}
use Rattle.source_model.specs.Members.{in_method}
use Rattle.source_model.specs.Nodes.{Around, Node, entered, nodes_in, typars}
use Rattle.source_model.specs.Signatures.{generic_arguments_token, is_field_unbroken, is_method_unbroken, is_property_unbroken, is_reference_unbroken, not_in_property}
use Rattle.source_model.specs.Source.{Source}
use Rattle.source_model.specs.TypeRules.{are_unbroken, breaks_signature, is_nothing, number_in_signature_out_of_range, past_count, path_too_long, scope_undeclared, typar_undeclared, type_too_deep, type_undeclared}
use Rattle.source_nodes.specs.Derived.{FitsBody, HasBodies, OfEach}
use Rattle.source_syntax.specs.Places.{IsReadable, IsSound}
use Rattle.source_syntax.specs.Sound.{HasSoundMethod, HasSoundProperty, HasSoundReference, HasSoundType, UnbrokenIsSound}
use Rattle.source_syntax.proofs.ReferenceLemmas.{of_the}
use Rattle.source_nodes.proofs.Empties.{nothing_in}
use Rattle.source_nodes.proofs.WrittenNames.{both_true}

-- ---- nothing

nothing_of : (ks : List ℕ) → is_nothing ks ≡ true → ks ≡ []
nothing_of [] e = refl
nothing_of (k ∷ ks) e = let h = (Decides-eqb (length (k ∷ ks)) 0).0 e in absurd (omega (arith, h))

-- of what a node breaks nothing is a number or a count
numbers_unbroken : (s : Source) (m : Node) → breaks_signature s m ≡ [] → number_in_signature_out_of_range s m ≡ []
numbers_unbroken s m e =
    (nothing_in (type_undeclared s m ++ scope_undeclared s m ++ typar_undeclared s m) (number_in_signature_out_of_range s m)
    (nothing_in (type_undeclared s m ++ scope_undeclared s m ++ typar_undeclared s m ++ number_in_signature_out_of_range s m) (type_too_deep s m)
    (nothing_in (type_undeclared s m ++ scope_undeclared s m ++ typar_undeclared s m ++ number_in_signature_out_of_range s m ++ type_too_deep s m) (path_too_long m) e).0).0).1

-- ---- forests in which nothing is broken

module _ (s : Source) where
  abbrev Breaks : Around → Forest → List ℕ
  Breaks a f = flat_map (breaks_signature s) (nodes_in s a f)

  -- what a production breaks by itself, below it and after it
  split : (a : Around) (p : ℕ) (b after : Forest) → Breaks a (branch p b after) ≡ []
      → (number_in_signature_out_of_range s (record { production = p; below = b; around = entered s a p b }) ≡ [])
      × (Breaks (entered s a p b) b ≡ []) × (Breaks a after ≡ [])
  split a p b after e =
      let m : Node = record { production = p; below = b; around = entered s a p b } in
      let own = nothing_in (breaks_signature s m) (flat_map (breaks_signature s) (nodes_in s (entered s a p b) b ++ nodes_in s a after)) e in
      let rest =
      nothing_in (Breaks (entered s a p b) b) (Breaks a after)
      (sym (flat_map-append (breaks_signature s) (nodes_in s (entered s a p b) b) (nodes_in s a after)) ∙ own.1) in
      (numbers_unbroken s m own.0, rest.0, rest.1)

  readable : (a : Around) (f : Forest) → HasBodies s f → Breaks a f ≡ [] → IsReadable s f
  readable a none bodies e = tt
  readable a (leaf k after) bodies e = readable a after bodies e
  readable a (branch p b after) bodies e =
      let parts = split a p b after e in ((bodies.0, parts.0), readable (entered s a p b) b bodies.1 parts.1, readable a after bodies.2 parts.2)

  unbroken : (a : Around) (f : Forest) → HasBodies s f → are_unbroken s (nodes_in s a f) ≡ true → IsReadable s f
  unbroken a f bodies e = readable a f bodies (nothing_of (Breaks a f) e)

  -- what stands below a production
  unbroken_below : (a : Around) (p : ℕ) (b : Forest) → HasBodies s b → are_unbroken s (nodes_in s a (branch p b none)) ≡ true → IsReadable s b
  unbroken_below a p b bodies e = readable (entered s a p b) b bodies (split a p b none (nothing_of (Breaks a (branch p b none)) e)).1

-- ---- the trees at the top that are chosen

of_chosen : (P : ℕ → Forest → Type 0) (sought : List ℕ) (f : Forest) → OfEach P f → OfEach P (chosen sought f)
of_chosen P sought none each = tt
of_chosen P sought (leaf k a) each = of_chosen P sought a each
of_chosen P sought (branch p b a) each = go (is_among sought p) refl (of_chosen P sought a each.2)
  where
    go : (c : Bool) → is_among sought p ≡ c → OfEach P (chosen sought a) → OfEach P (chosen sought (branch p b a))
    go true is after =
        subst (OfEach P) (sym (ap (λ (c : Bool). if c then branch p b (chosen sought a) else chosen sought a) is)) (each.0, each.1, after)
    go false is after = subst (OfEach P) (sym (ap (λ (c : Bool). if c then branch p b (chosen sought a) else chosen sought a) is)) after

chosen_child : (P : ℕ → Forest → Type 0) (sought : List ℕ) (p : ℕ) (f : Forest) → is_among sought p ≡ true → OfEach P (chosen sought f)
    → (child (p ∷ []) f ≡ none) ⊎ (P p (child (p ∷ []) f) × OfEach P (child (p ∷ []) f))
chosen_child P sought p none known each = inl refl
chosen_child P sought p (leaf k a) known each = chosen_child P sought p a known each
chosen_child P sought p (branch q b a) known each = go (p == q) refl (chosen_child P sought p a known)
  where
    go : (c : Bool) → (p == q) ≡ c → (OfEach P (chosen sought a) → (child (p ∷ []) a ≡ none) ⊎ (P p (child (p ∷ []) a) × OfEach P (child (p ∷ []) a)))
        → (child (p ∷ []) (branch q b a) ≡ none) ⊎ (P p (child (p ∷ []) (branch q b a)) × OfEach P (child (p ∷ []) (branch q b a)))
    go true is after =
        let same = (Decides-eqb p q).0 is in
        let own : OfEach P (branch q b (chosen sought a)) =
        subst (OfEach P) (ap (λ (c : Bool). if c then branch q b (chosen sought a) else chosen sought a) (ap (is_among sought) (sym same) ∙ known)) each in
        inr
        (subst (λ g. P p g × OfEach P g) (sym (ap (λ (c : Bool). if c || false then b else child (p ∷ []) a) is))
        (subst (λ r. P r b × OfEach P b) (sym same) (own.0, own.1)))
    go false apart after =
        subst (λ g. (g ≡ none) ⊎ (P p g × OfEach P g)) (sym (ap (λ (c : Bool). if c || false then b else child (p ∷ []) a) apart)) (after (rest (is_among sought q) refl))
      where
        rest : (c : Bool) → is_among sought q ≡ c → OfEach P (chosen sought a)
        rest true is =
            let own : OfEach P (branch q b (chosen sought a)) = subst (OfEach P) (ap (λ (c : Bool). if c then branch q b (chosen sought a) else chosen sought a) is) each in own.2
        rest false is = subst (OfEach P) (ap (λ (c : Bool). if c then branch q b (chosen sought a) else chosen sought a) is) each

module _ (s : Source) (f : Forest) (sought : List ℕ) (each : IsReadable s (chosen sought f)) where
  type_sound : is_among sought TYPE ≡ true → HasSoundType s f
  type_sound known = elim (chosen_child (IsSound s) sought TYPE f known each) [
    | inl e ↦ record { fits = inl e; each = subst (IsReadable s) (sym e) tt }
    | inr h ↦ record { fits = inr h.0.0; each = h.1 }
  ]

  child_readable : (p : ℕ) → is_among sought p ≡ true → IsReadable s (child (p ∷ []) f)
  child_readable p known = elim (chosen_child (IsSound s) sought p f known each) [ inl e ↦ subst (IsReadable s) (sym e) tt | inr h ↦ h.1 ]

-- ---- signatures

three_of_four : (b c d e : Bool) → (b && c && d && e) ≡ true → (b ≡ true) × (c ≡ true) × (d ≡ true)
three_of_four true true true e h = (refl, refl, refl)
three_of_four false c d e h = absurd cc
three_of_four true false d e h = absurd cc
three_of_four true true false e h = absurd cc

pub field_sound : (s : Source) (a : Around) (f : Forest) → HasBodies s f → is_field_unbroken s a f ≡ true → HasSoundType s f
field_sound s a f bodies e =
    type_sound s f (TYPE ∷ []) (unbroken s a (chosen (TYPE ∷ []) f) (of_chosen (FitsBody s) (TYPE ∷ []) f bodies) e) refl

pub method_sound : (s : Source) (a : Around) (f : Forest) → HasBodies s f → is_method_unbroken s a f ≡ true → HasSoundMethod s f
method_sound s a f bodies e =
    let sought = TYPE ∷ DEF_ARGS_OPT_SOME ∷ [] in
    let own = (both_true (are_unbroken s (nodes_in s (in_method a f) (chosen sought f))) (is_nothing (past_count (typars f))) e).0 in
    let each = unbroken s (in_method a f) (chosen sought f) (of_chosen (FitsBody s) sought f bodies) own in
    record { ret = type_sound s f sought each refl; parameters = child_readable s f sought each DEF_ARGS_OPT_SOME refl }

pub property_sound : (s : Source) (a : Around) (f : Forest) → HasBodies s f → is_property_unbroken s a f ≡ true → HasSoundProperty s f
property_sound s a f bodies e =
    let sought = TYPE ∷ SIGNATURE ∷ [] in
    let own = (both_true (are_unbroken s (nodes_in s a (chosen sought f))) (is_nothing (not_in_property f)) e).0 in
    let each = unbroken s a (chosen sought f) (of_chosen (FitsBody s) sought f bodies) own in
    record { ret = type_sound s f sought each refl; parameters = child_readable s f sought each SIGNATURE refl }

pub reference_sound : (s : Source) (a : Around) (f : Forest) → HasBodies s f → is_reference_unbroken s a f ≡ true → HasSoundReference s f
reference_sound s a f bodies e =
    let own =
    three_of_four (are_unbroken s (nodes_in s a (chosen (TYPE ∷ []) f))) (are_unbroken s (nodes_in s a (branch METHOD_GENERICS (the METHOD_GENERICS f) none)))
    (are_unbroken s (nodes_in s a (branch SIGNATURE (the SIGNATURE f) none))) (is_nothing (generic_arguments_token f)) e in
    record {
      ret = type_sound s f (TYPE ∷ []) (unbroken s a (chosen (TYPE ∷ []) f) (of_chosen (FitsBody s) (TYPE ∷ []) f bodies) own.0) refl;
      generics = unbroken_below s a METHOD_GENERICS (the METHOD_GENERICS f) (of_the (FitsBody s) METHOD_GENERICS f bodies) own.1;
      arguments = unbroken_below s a SIGNATURE (the SIGNATURE f) (of_the (FitsBody s) SIGNATURE f bodies) own.2;
    }

pub unbroken_is_sound : UnbrokenIsSound
unbroken_is_sound = record {
  field = λ s a f bodies e. field_sound s a f bodies e;
  method = λ s a f bodies e. method_sound s a f bodies e;
  property = λ s a f bodies e. property_sound s a f bodies e;
  reference = λ s a f bodies e. reference_sound s a f bodies e;
}
