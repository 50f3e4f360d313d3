-- The fields and methods of a class, and those outside of any, are nodes of their source, each with what stands around it
-- (ECMA-335 II.10.2).
use Rattle.std.proofs.Common.{◌≡◌, ℕ, inl, inr, List, [], ◌∷◌, ◌++◌, Some, refl, ap, sym, subst, ◌∙◌}
use Rattle.std.specs.Prelude.{Bool, true, false, not, ◌==◌, ◌||◌, if◌then◌else◌, option_map}
use Rattle.std.specs.List.{AllByRecursion}
use Rattle.std.proofs.lemmas.Bool.{cases_Bool}
use Rattle.std.proofs.lemmas.Bool.Decides.{Decides-eqb}
use Rattle.std.proofs.lemmas.Option.{same_Some}
use Rattle.ilasm_grammar.specs.Grammar.{Rule}
use Rattle.ilasm_grammar.specs.Ilasm.{ilasm, rule_by}
use Rattle.ilasm_grammar.specs.declared.nonterminals.TheConstants as n
use Rattle.ilasm_grammar.specs.declared.productions.TheConstants.{CLASS, DECL_ASSEMBLY, DECL_CLASS, DECL_CORFLAGS, DECL_CUSTOM, DECL_DATA, DECL_FIELD, DECL_FILE, DECL_IMAGEBASE, DECL_METHOD, DECL_MODULE, DECL_STACKRESERVE, DECL_SUBSYSTEM, MEMBER_CLASS, MEMBER_CUSTOM, MEMBER_DATA, MEMBER_EVENT, MEMBER_FIELD, MEMBER_METHOD, MEMBER_PACK, MEMBER_PARAM, MEMBER_PROPERTY, MEMBER_SIZE, METHOD}
use Rattle.ilasm_grammar.specs.declared.symbol.Symbol.{Symbol}
use Rattle.ilasm_grammar.specs.declared.symbol.Symbol.TheVariants.{Terminal, Nonterminal}
use Rattle.source_model.specs.Forest.{Forest, Part, none, leaf, branch, below_each, first_or, is_among, part, parts, the}
use Rattle.source_model.specs.Items.{declarations, members}
use Rattle.source_model.specs.Nodes.{Around, Node, class_token, entered, nodes, nodes_in, type_id}
use Rattle.source_model.specs.Source.{Source}
use Rattle.source_nodes.specs.Derived.{Fits, FitsBody, HasBodies, head_of}
use Rattle.source_syntax.proofs.BodyLemmas.{all_in}
use Rattle.source_nodes.proofs.WrittenNames.{both_true, other_true}
use Rattle.source_flags.proofs.Gathered.{all_append}
use Rattle.laws_formed_sources.specs.sources.Remaining.{Among}
use Rattle.laws_formed_sources.proofs.sources.Rules.{body_of, fits_of, rule_below, rule_passes}

pub among_front : {X : Type 0} (q : X) (xs ys : List X) → Among q xs → Among q (xs ++ ys)
among_front q [] ys h = absurd h
among_front q (x ∷ xs) ys (inl e) = inl e
among_front q (x ∷ xs) ys (inr h) = inr (among_front q xs ys h)

pub among_back : {X : Type 0} (q : X) (xs ys : List X) → Among q ys → Among q (xs ++ ys)
among_back q [] ys h = h
among_back q (x ∷ xs) ys h = inr (among_back q xs ys h)

head_class : head_of CLASS ≡ Some n.CLASS
unfolding ilasm rule_by
head_class = refl

head_method : head_of METHOD ≡ Some n.METHOD
unfolding ilasm rule_by
head_method = refl

-- productions that are sought, or go on with chosen nonterminals alone
abbrev pub seeks : (ℕ → Bool) → List ℕ → ℕ → ℕ → List Symbol → Bool
seeks chosen sought p h body = not (chosen h) || (is_among sought p || all_in chosen body)

module _ (s : Source) where
  abbrev pub Occurs : Around → Forest → Type 0
  Occurs c f = (n : Node) → Among n (nodes_in s c f) → Among n (nodes s)

  -- a part is a node with this around it, and so is all below it
  abbrev pub IsThere : Around → Part → Type 0
  IsThere c q = Among (record { production = q.production; below = q.below; around = c }) (nodes s) × Occurs c q.below

  unchanged : (c : Around) (p : ℕ) (b : Forest) → (p == CLASS) ≡ false → (p == METHOD) ≡ false → entered s c p b ≡ c
  unchanged c p b e m =
      ap (λ (x : Bool). if x then record { path = c.path ++ type_id s (class_token b) ∷ []; class = b; method = none }
      else if p == METHOD then record { path = c.path; class = c.class; method = b } else c) e
      ∙ ap (λ (x : Bool). if x then record { path = c.path; class = c.class; method = b } else c) m

  module _ (chosen : ℕ → Bool) (sought : List ℕ) (closed : (p : ℕ) (r : Rule) → ilasm p ≡ Some r → seeks chosen sought p r.head r.body ≡ true)
      (no_class : chosen n.CLASS ≡ false) (no_method : chosen n.METHOD ≡ false) where
    apart : (p q l m : ℕ) → head_of p ≡ Some m → chosen m ≡ true → head_of q ≡ Some l → chosen l ≡ false → (p == q) ≡ false
    apart p q l m h c i d = elim (cases_Bool (p == q)) [
      | inl is ↦
          let same : m ≡ l = same_Some m l (sym h ∙ ap head_of ((Decides-eqb p q).0 is) ∙ i) in
          let both : true ≡ false = sym c ∙ ap chosen same ∙ d in absurd cc
      | inr other ↦ other
    ]

    pub parts_occur : (f : Forest) (body : List Symbol) → Fits s body f → HasBodies s f → all_in chosen body ≡ true → (c : Around) → Occurs c f
        → AllByRecursion (IsThere c) (parts sought f)
    parts_occur none body h each e c occurs = tt
    parts_occur (leaf k a) [] h each e c occurs = absurd h
    parts_occur (leaf k a) (Terminal t ∷ more) h each e c occurs = parts_occur a more h.1 each e c occurs
    parts_occur (leaf k a) (Nonterminal m ∷ more) h each e c occurs = absurd h
    parts_occur (branch p b a) [] h each e c occurs = absurd h
    parts_occur (branch p b a) (Terminal t ∷ more) h each e c occurs = absurd h
    parts_occur (branch p b a) (Nonterminal m ∷ more) h each e c occurs =
        let both = both_true (chosen m) (all_in chosen more) e in
        let same = unchanged c p b (apart p CLASS n.CLASS m h.0 both.0 head_class no_class) (apart p METHOD n.METHOD m h.0 both.0 head_method no_method) in
        let own : Among (record { production = p; below = b; around = c }) (nodes s) =
        subst (λ x. Among (record { production = p; below = b; around = x }) (nodes s)) same (occurs (record { production = p; below = b; around = entered s c p b }) (inl refl)) in
        let below : Occurs c b = subst (λ x. Occurs x b) same (λ n i. occurs n (inr (among_front n (nodes_in s (entered s c p b) b) (nodes_in s c a) i))) in
        let after : Occurs c a = λ n i. occurs n (inr (among_back n (nodes_in s (entered s c p b) b) (nodes_in s c a) i)) in
        let r = rule_below s p b (ilasm p) refl each.0 in
        let heads : r.0.head ≡ m = same_Some r.0.head m (sym (ap (option_map (λ (x : Rule). x.head)) r.1) ∙ h.0) in
        let passed = other_true (chosen r.0.head) (is_among sought p || all_in chosen r.0.body) (closed p r.0 r.1) (ap chosen heads ∙ both.0) in
        all_append (IsThere c) (if is_among sought p then part p b ∷ [] else parts sought b) (parts sought a)
        (elim (cases_Bool (is_among sought p)) [
          | inl is ↦ subst (λ (x : Bool). AllByRecursion (IsThere c) (if x then part p b ∷ [] else parts sought b)) (sym is) ((own, below), tt)
          | inr other ↦
              subst (λ (x : Bool). AllByRecursion (IsThere c) (if x then part p b ∷ [] else parts sought b)) (sym other)
              (parts_occur b r.0.body r.2 each.1 (sym (ap (λ (x : Bool). x || all_in chosen r.0.body) other) ∙ passed) c below)
        ])
        (parts_occur a more h.1 each.2 both.1 c after)

  -- what a part holds alone
  pub alone_occurs : (w m : ℕ) → ((p : ℕ) → head_of p ≡ Some m → p ≡ w) → (b : Forest) (c : Around) → Fits s (Nonterminal m ∷ []) b → Occurs c b
      → Among (record { production = w; below = the w b; around = entered s c w (the w b) }) (nodes s) × Occurs (entered s c w (the w b)) (the w b)
  alone_occurs w m one none c h occurs = absurd h
  alone_occurs w m one (leaf k a) c h occurs = absurd h
  alone_occurs w m one (branch p g (leaf k a)) c h occurs = absurd h.1
  alone_occurs w m one (branch p g (branch q d a)) c h occurs = absurd h.1
  alone_occurs w m one (branch p g none) c h occurs =
      let is : p ≡ w = one p h.0 in
      let there : Occurs c (branch w g none) = subst (λ q. Occurs c (branch q g none)) is occurs in
      let same : the w (branch p g none) ≡ g =
      ap (λ (x : Bool). first_or none (below_each ((if x || false then part p g ∷ [] else parts (w ∷ []) g) ++ []))) ((Decides-eqb w p).1 (sym is)) in
      subst (λ x. Among (record { production = w; below = x; around = entered s c w x }) (nodes s) × Occurs (entered s c w x) x) (sym same) (
        there (record { production = w; below = g; around = entered s c w g }) (inl refl),
        λ n i. there n (inr (among_front n (nodes_in s (entered s c w g) g) [] i)),
      )

-- ---- members, and declarations outside of any class

abbrev pub member_productions : List ℕ
member_productions =
    MEMBER_CLASS ∷ MEMBER_FIELD ∷ MEMBER_METHOD ∷ MEMBER_PROPERTY ∷ MEMBER_EVENT ∷ MEMBER_CUSTOM ∷ MEMBER_DATA ∷ MEMBER_PARAM ∷ MEMBER_PACK
    ∷ MEMBER_SIZE ∷ []

abbrev pub declared_productions : List ℕ
declared_productions =
    DECL_ASSEMBLY ∷ DECL_MODULE ∷ DECL_IMAGEBASE ∷ DECL_FILE ∷ DECL_STACKRESERVE ∷ DECL_SUBSYSTEM ∷ DECL_CORFLAGS ∷ DECL_CLASS
    ∷ DECL_FIELD ∷ DECL_METHOD ∷ DECL_CUSTOM ∷ DECL_DATA ∷ []

abbrev in_class : ℕ → Bool
in_class m = not (is_among (n.SOURCE ∷ n.DECL_STAR ∷ n.DECL ∷ n.CLASS ∷ n.METHOD ∷ []) m)

abbrev outside : ℕ → Bool
outside m = not (is_among (n.MEMBER_STAR ∷ n.MEMBER ∷ n.CLASS ∷ n.METHOD ∷ []) m)

class_rules : (p : ℕ) (r : Rule) → ilasm p ≡ Some r → seeks in_class member_productions p r.head r.body ≡ true
unfolding ilasm
class_rules p r is = rule_passes (seeks in_class member_productions) _ _ _ p r is refl

source_rules : (p : ℕ) (r : Rule) → ilasm p ≡ Some r → seeks outside declared_productions p r.head r.body ≡ true
unfolding ilasm
source_rules p r is = rule_passes (seeks outside declared_productions) _ _ _ p r is refl

class_body : all_in in_class (body_of (ilasm CLASS)) ≡ true
unfolding ilasm rule_by
class_body = refl

pub members_occur : (s : Source) (f : Forest) → FitsBody s CLASS f → HasBodies s f → (c : Around) → Occurs s c f → AllByRecursion (IsThere s c) (members f)
members_occur s f fits each c occurs =
    parts_occur s in_class member_productions class_rules refl refl f (body_of (ilasm CLASS)) (fits_of s CLASS f fits) each class_body c occurs

pub declarations_occur : (s : Source) (f : Forest) → Fits s (Nonterminal n.SOURCE ∷ []) f → HasBodies s f → (c : Around) → Occurs s c f → AllByRecursion (IsThere s c) (declarations f)
declarations_occur s f fits each c occurs =
    parts_occur s outside declared_productions source_rules refl refl f (Nonterminal n.SOURCE ∷ []) fits each refl c occurs
