-- What stands below accessors, and that no property or event stands in a method.
use Rattle.std.proofs.Common.{◌≡◌, ℕ, List, [], ◌∷◌, ◌++◌, Option, None, Some, refl, ap, sym, ◌∙◌}
use Rattle.std.specs.Prelude.{Bool, true, false, not, ◌==◌, ◌||◌, if◌then◌else◌}
use Rattle.std.proofs.lemmas.Grind.{flat_map-append}
use Rattle.ilasm_grammar.specs.Grammar.{Rule}
use Rattle.ilasm_grammar.specs.Ilasm.{ilasm, rule_by}
use Rattle.ilasm_grammar.specs.declared.nonterminals.TheConstants as n
use Rattle.ilasm_grammar.specs.declared.productions.TheConstants.{EVENT, METHOD, METHOD_REF, PROPERTY}
use Rattle.ilasm_grammar.specs.declared.symbol.Symbol.TheVariants.{Nonterminal}
use Rattle.source_model.specs.Forest.{Forest, Part, none, leaf, branch, has, is_among, part, parts, the}
use Rattle.source_model.specs.Nodes.{Around, Node, entered, nodes_in}
use Rattle.source_model.specs.Source.{Source}
use Rattle.source_nodes.specs.Derived.{FitsBody, FitsRule, HasBodies, head_of}
use Rattle.source_syntax.proofs.BodyLemmas.{StaysChosen, closed_rule, fits_has, goes_on_with, nowhere_below}
use Rattle.source_syntax.proofs.NameTokens.{IsBody, the_body}
use Rattle.source_nodes.proofs.WrittenNames.{one_in, other_true}
use Rattle.check_members.specs.OwnMethods.{accessor_items, accessors_of, has_accessors, undeclared_at}
use Rattle.check_visitor.specs.Surroundings.{found_in}
use Rattle.check_names.proofs.SignatureParts.{all_rules, everywhere}

-- ---- below an accessor stands a reference

one_reference : (p : ℕ) → head_of p ≡ Some n.METHOD_REF → p ≡ METHOD_REF
unfolding ilasm
one_reference p e = one_in _ _ _ n.METHOD_REF METHOD_REF p e refl

abbrev refers : ℕ → Option Rule → Bool
refers p None = true
refers p (Some r) = not (is_among accessor_items p) || goes_on_with n.METHOD_REF r.body

all_refer : all_rules refers 641 ≡ true
unfolding ilasm rule_by
all_refer = refl

pub accessor_body : (s : Source) (p : ℕ) (b : Forest) → is_among accessor_items p ≡ true → FitsBody s p b → HasBodies s b → IsBody s METHOD_REF (the METHOD_REF b)
accessor_body s p b own fits bodies = the_body s METHOD_REF b (go (ilasm p) fits (everywhere refers (λ q. refl) all_refer p)) bodies
  where
    go : (o : Option Rule) → FitsRule s o b → refers p o ≡ true → has METHOD_REF b ≡ true
    go None h e = absurd h
    go (Some r) h e =
        fits_has s r.body b n.METHOD_REF METHOD_REF h (other_true (is_among accessor_items p) (goes_on_with n.METHOD_REF r.body) e own) one_reference

-- ---- methods

-- the nonterminals of what stands in methods: all but those of a source, a class and its members
abbrev in_methods : ℕ → Bool
in_methods m =
    not (m == n.SOURCE || (m == n.DECL_STAR || (m == n.DECL || (m == n.CLASS || (m == n.MEMBER_STAR || (m == n.MEMBER || (m == n.METHOD || (m == n.PROPERTY || m == n.EVENT))))))))

method_stays : StaysChosen in_methods n.METHOD
unfolding ilasm
method_stays p r is c = closed_rule in_methods n.METHOD _ _ _ p r is c refl

head_property : head_of PROPERTY ≡ Some n.PROPERTY
unfolding ilasm rule_by
head_property = refl

head_event : head_of EVENT ≡ Some n.EVENT
unfolding ilasm rule_by
head_event = refl

head_method : head_of METHOD ≡ Some n.METHOD
unfolding ilasm rule_by
head_method = refl

no_property : (s : Source) (b : Forest) → FitsBody s METHOD b → HasBodies s b → parts (PROPERTY ∷ []) b ≡ []
no_property s b fits bodies =
    (nowhere_below in_methods n.METHOD method_stays s PROPERTY n.PROPERTY head_property refl (branch METHOD b none) (Nonterminal n.METHOD ∷ [])
    (head_method, tt) (fits, bodies, tt) refl).0

no_event : (s : Source) (b : Forest) → FitsBody s METHOD b → HasBodies s b → parts (EVENT ∷ []) b ≡ []
no_event s b fits bodies =
    (nowhere_below in_methods n.METHOD method_stays s EVENT n.EVENT head_event refl (branch METHOD b none) (Nonterminal n.METHOD ∷ [])
    (head_method, tt) (fits, bodies, tt) refl).0

-- a forest without a production has none below its first tree and none after that
nothing_in : (xs ys : List Part) → xs ++ ys ≡ [] → (xs ≡ []) × (ys ≡ [])
nothing_in [] ys e = (refl, e)
nothing_in (x ∷ xs) ys e = absurd cc

without : (q p : ℕ) (b a : Forest) → parts (q ∷ []) (branch p b a) ≡ [] → ((q == p) ≡ false) × (parts (q ∷ []) b ≡ []) × (parts (q ∷ []) a ≡ [])
without q p b a e = go (q == p) refl
  where
    both : (c : Bool) → (q == p) ≡ c → (if c || false then part p b ∷ [] else parts (q ∷ []) b) ++ parts (q ∷ []) a ≡ []
    both c is = sym (ap (λ (c : Bool). (if c || false then part p b ∷ [] else parts (q ∷ []) b) ++ parts (q ∷ []) a) is) ∙ e

    go : (c : Bool) → (q == p) ≡ c → ((q == p) ≡ false) × (parts (q ∷ []) b ≡ []) × (parts (q ∷ []) a ≡ [])
    go true is = let h : part p b ∷ parts (q ∷ []) a ≡ [] = both true is in absurd cc
    go false is = let h = nothing_in (parts (q ∷ []) b) (parts (q ∷ []) a) (both false is) in (is, h.0, h.1)

nothing_found : (s : Source) (a : Around) (f : Forest) → parts (PROPERTY ∷ []) f ≡ [] → parts (EVENT ∷ []) f ≡ [] → found_in undeclared_at s a f ≡ []
nothing_found s a none h i = refl
nothing_found s a (leaf k after) h i = nothing_found s a after h i
nothing_found s a (branch p b after) h i =
    let v = without PROPERTY p b after h in
    let w = without EVENT p b after i in
    let m : Node = record { production = p; below = b; around = entered s a p b } in
    let plain : has_accessors p ≡ false = ap (λ (c : Bool). c || ((EVENT == p) || false)) v.0 ∙ ap (λ (c : Bool). c || false) w.0 in
    let here : undeclared_at s m ≡ [] = ap (λ (c : Bool). if c then accessors_of s (entered s a p b) (parts accessor_items b) else []) plain in
    flat_map-append (undeclared_at s) (m ∷ nodes_in s (entered s a p b) b) (nodes_in s a after)
    ∙ ap (λ ks. (ks ++ found_in undeclared_at s (entered s a p b) b) ++ found_in undeclared_at s a after) here
    ∙ ap (λ ks. ks ++ found_in undeclared_at s a after) (nothing_found s (entered s a p b) b v.1 w.1)
    ∙ nothing_found s a after v.2 w.2

pub nothing_in_method : (s : Source) (a : Around) (b : Forest) → FitsBody s METHOD b → HasBodies s b → found_in undeclared_at s a b ≡ []
nothing_in_method s a b fits bodies = nothing_found s a b (no_property s b fits bodies) (no_event s b fits bodies)
