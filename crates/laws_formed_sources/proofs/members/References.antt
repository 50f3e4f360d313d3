-- The references to accessors in a faultless source break nothing (ECMA-335 II.15.3, II.22.28).
use Rattle.std.proofs.Common.{◌≡◌, ◌⊎◌, ℕ, inl, inr, List, [], ◌∷◌, ◌++◌, Some, refl, ap, sym, subst, ◌∙◌}
use Rattle.std.specs.Prelude.{Bool, true, false, not, ◌==◌, ◌||◌, ◌&&◌}
use Rattle.std.specs.List.{AllByRecursion}
use Rattle.std.proofs.lemmas.Bool.{and_from, cases_Bool}
use Rattle.std.proofs.lemmas.Bool.Decides.{Decides-eqb}
use Rattle.ilasm_grammar.specs.Grammar.{Rule}
use Rattle.ilasm_grammar.specs.Ilasm.{ilasm, rule_by}
use Rattle.ilasm_grammar.specs.declared.nonterminals.TheConstants as n
use Rattle.ilasm_grammar.specs.declared.productions.TheConstants.{METHOD_GENERICS, METHOD_REF, SIGNATURE, TYPE}
use Rattle.ilasm_grammar.specs.declared.symbol.Symbol.{Symbol}
use Rattle.source_model.specs.Forest.{Forest, Part, none, branch, below_each, chosen, first_or, is_among, part, parts, the}
use Rattle.source_model.specs.Nodes.{Around, Node, entered, nodes, nodes_in}
use Rattle.source_model.specs.Signatures.{generic_arguments_token, is_reference_unbroken}
use Rattle.source_model.specs.Source.{Source}
use Rattle.source_model.specs.TypeRules.{are_unbroken, is_nothing}
use Rattle.source_nodes.specs.Derived.{Fits}
use Rattle.source_syntax.proofs.BodyLemmas.{all_in}
use Rattle.source_flags.proofs.Gathered.{IsSought, of_parts}
use Rattle.laws_formed_sources.specs.sources.Productions.{AllFaultless, IsFaultlessAt}
use Rattle.laws_formed_sources.specs.sources.Remaining.{Among}
use Rattle.laws_formed_sources.proofs.sources.Differing.{unbroken}
use Rattle.laws_formed_sources.proofs.sources.Occurring.{IsThere, Occurs, parts_occur, seeks}
use Rattle.laws_formed_sources.proofs.sources.Parts.{IsOf}
use Rattle.laws_formed_sources.proofs.sources.Rules.{Stays, body_of, fits_of, stays_from}
use Rattle.laws_formed_sources.proofs.sources.Types.{bodies_of}
use Rattle.laws_formed_sources.proofs.sources.Unbroken.{AllBounded, AllDeclared}
use Rattle.laws_formed_sources.proofs.members.Nodes.{among_either, chosen_in}

-- ---- what holds no class and no method

abbrev pub plain : ℕ → Bool
plain m = not (is_among (n.SOURCE ∷ n.DECL_STAR ∷ n.DECL ∷ n.CLASS ∷ n.MEMBER_STAR ∷ n.MEMBER ∷ n.METHOD ∷ []) m)

plain_stays : Stays plain
unfolding ilasm
plain_stays p r is c = stays_from plain _ _ _ p r is c refl

plain_seeks : (sought : List ℕ) (p : ℕ) (r : Rule) → ilasm p ≡ Some r → seeks plain sought p r.head r.body ≡ true
plain_seeks sought p r is = elim (cases_Bool (plain r.head)) [
  | inl own ↦
      ap (λ (c : Bool). not c || (is_among sought p || all_in plain r.body)) own
      ∙ ap (λ (c : Bool). is_among sought p || c) (plain_stays p r is own) ∙ either_true (is_among sought p)
  | inr other ↦ ap (λ (c : Bool). not c || (is_among sought p || all_in plain r.body)) other
]
  where
    either_true : (c : Bool) → (c || true) ≡ true
    either_true true = refl
    either_true false = refl

reference_plain : all_in plain (body_of (ilasm METHOD_REF)) ≡ true
unfolding ilasm rule_by
reference_plain = refl

the_only : (w q : ℕ) → is_among (w ∷ []) q ≡ true → w ≡ q
the_only w q e = elim (cases_Bool (w == q)) [
  | inl is ↦ (Decides-eqb w q).0 is
  | inr other ↦ let h : false ≡ true = sym (ap (λ (c : Bool). c || false) other) ∙ e in absurd cc
]

module _ (s : Source) (c : Around) where
  -- a production that stands at its place, faultless
  abbrev pub IsFound : ℕ → Forest → Type 0
  IsFound w g = IsThere s c (part w g) × IsOf s w g

  first_found : (w : ℕ) (ps : List Part) → AllByRecursion (IsThere s c) ps → AllByRecursion (IsSought (IsFaultlessAt s) (w ∷ [])) ps
      → (first_or none (below_each ps) ≡ none) ⊎ IsFound w (first_or none (below_each ps))
  first_found w [] h i = inl refl
  first_found w (p ∷ ps) h i = inr (subst (λ q. IsFound q p.below) (sym (the_only w p.production i.0.0)) (h.0, (i.0.1, i.0.2)))

  pub the_found : (w : ℕ) (body : List Symbol) (f : Forest) → Fits s body f → all_in plain body ≡ true → AllFaultless s f → Occurs s c f
      → (the w f ≡ none) ⊎ IsFound w (the w f)
  the_found w body f fits e all occurs =
      first_found w (parts (w ∷ []) f) (parts_occur s plain (w ∷ []) (plain_seeks (w ∷ [])) refl refl f body fits (bodies_of s f all) e c occurs)
      (of_parts (IsFaultlessAt s) (w ∷ []) f all)

  pub parts_there : (sought : List ℕ) (body : List Symbol) (f : Forest) → Fits s body f → all_in plain body ≡ true → AllFaultless s f → Occurs s c f
      → AllByRecursion (IsThere s c) (parts sought f)
  parts_there sought body f fits e all occurs = parts_occur s plain sought (plain_seeks sought) refl refl f body fits (bodies_of s f all) e c occurs

  -- ---- references

  module _ (declared : AllDeclared s) (bounded : AllBounded s) where
    branch_unbroken : (w : ℕ) (g : Forest) → entered s c w g ≡ c → IsFound w g → are_unbroken s (nodes_in s c (branch w g none)) ≡ true
    branch_unbroken w g same h = unbroken s declared bounded c (branch w g none) (λ m i. go m (subst (λ x. Among m ((record { production = w; below = g; around = x } ∷ nodes_in s x g) ++ [])) same i))
      where
        go : (m : Node) → Among m ((record { production = w; below = g; around = c } ∷ nodes_in s c g) ++ []) → Among m (nodes s)
        go m i = elim (among_either m (record { production = w; below = g; around = c } ∷ nodes_in s c g) [] i) [
          | inl j ↦ elim j [
            | inl is ↦ subst (λ x. Among x (nodes s)) is h.0.0
            | inr k ↦ h.0.1 m k
          ]
          | inr j ↦ absurd j
        ]

    the_unbroken : (w : ℕ) (f : Forest) → ((g : Forest) → entered s c w g ≡ c) → are_unbroken s (nodes_in s c (branch w none none)) ≡ true
        → (the w f ≡ none) ⊎ IsFound w (the w f) → are_unbroken s (nodes_in s c (branch w (the w f) none)) ≡ true
    the_unbroken w f same empty (inl e) = ap (λ g. are_unbroken s (nodes_in s c (branch w g none))) e ∙ empty
    the_unbroken w f same empty (inr h) = branch_unbroken w (the w f) (same (the w f)) h

    pub reference_unbroken : (f : Forest) → IsOf s METHOD_REF f → Occurs s c f → generic_arguments_token f ≡ [] → is_reference_unbroken s c f ≡ true
    reference_unbroken f h occurs barred =
        let fits = fits_of s METHOD_REF f h.0.range.fits in
        let own = unbroken s declared bounded c (chosen (TYPE ∷ []) f) (λ m i. occurs m (chosen_in s c (TYPE ∷ []) f m i)) in
        let generics = the_unbroken METHOD_GENERICS f (λ g. refl) refl (the_found METHOD_GENERICS (body_of (ilasm METHOD_REF)) f fits reference_plain h.1 occurs) in
        let signature = the_unbroken SIGNATURE f (λ g. refl) refl (the_found SIGNATURE (body_of (ilasm METHOD_REF)) f fits reference_plain h.1 occurs) in
        let t = are_unbroken s (nodes_in s c (chosen (TYPE ∷ []) f)) in
        let g = are_unbroken s (nodes_in s c (branch METHOD_GENERICS (the METHOD_GENERICS f) none)) in
        let k = are_unbroken s (nodes_in s c (branch SIGNATURE (the SIGNATURE f) none)) in
        and_from (t && g && k) (is_nothing (generic_arguments_token f)) (and_from (t && g) k (and_from t g own generics) signature) (ap is_nothing barred)

    pub empty_unbroken : is_reference_unbroken s c none ≡ true
    empty_unbroken = refl
