-- A source without fields and methods outside of any class declares none of them twice; and whether it has some.
use Rattle.std.proofs.Common.{◌≡◌, ℕ, zero, suc, ◌<◌, List, [], ◌∷◌, ◌++◌, map, length, refl, ap, sym, subst, ◌∙◌, arith}
use Rattle.std.proofs.lemmas.Bool.{eqb-true, lt-ltb}
use Rattle.std.proofs.lemmas.List.{map-append}
use Rattle.std.proofs.lemmas.List.Elements.{filter-append}
use Rattle.std.proofs.lemmas.List.Folds.{list_any-append}
use Rattle.std.specs.Cmp.{IsTotalOrder}
use Rattle.std.specs.List.{list_any}
use Rattle.std.specs.Prelude.{Bool, true, false, not, nat_lt, filter, ◌==◌, ◌||◌, if◌then◌else◌, None}
use Rattle.type_terms.specs.Order.{term_order}
use Rattle.ilasm_grammar.specs.declared.productions.TheConstants.{DECL_FIELD, DECL_METHOD}
use Rattle.ilasm_grammar.specs.declared.tree.TreeNode.{TreeNode}
use Rattle.ilasm_grammar.specs.declared.tree.TreeNode.TheVariants.{Branch, Leaf}
use Rattle.source_model.specs.DeclaredTwice.{members_twice_in}
use Rattle.source_model.specs.Forest as tree
use Rattle.source_model.specs.Forest.{Forest, Part, part, is_among, parts, preorder, the}
use Rattle.source_model.specs.Items.{declarations}
use Rattle.source_model.specs.Nodes.{nothing_around}
use Rattle.source_model.specs.Source.{Source}
use Rattle.source_nodes.specs.Least.{least}
use Rattle.check_bodies.proofs.PastLemmas.{all_of}
use Rattle.check_members.proofs.LoneLemmas.{none_twice}
use Rattle.check_members.proofs.MemberWalks.{forests_other}
use Rattle.check_members.specs.MemberKinds.{declarers, declares, forests_of, is_chosen, parts_at, places, production_of}
use Rattle.check_members.specs.declared.member_kinds.Kind.{Kind}
use Rattle.check_members.specs.declared.member_kinds.Kind.TheVariants.{Field, Method, Property, Event}
use Rattle.check_members.specs.declared.member_kinds.Level.TheVariants as level
use Rattle.check_source.specs.Passes.{outer_members}
use Rattle.check_source.proofs.CensusLemmas.{count_first, count_of, one_if}

-- no field and no method
none_chosen : (nodes : List TreeNode) → 0 ≡ count_of DECL_FIELD nodes → 0 ≡ count_of DECL_METHOD nodes → list_any (is_chosen outer_members) nodes ≡ false
none_chosen [] e h = refl
none_chosen (Leaf k ∷ nodes) e h =
    let first = count_first DECL_FIELD (Leaf k) nodes in
    let second = count_first DECL_METHOD (Leaf k) nodes in
    none_chosen nodes (omega (arith, e, first)) (omega (arith, h, second))
none_chosen (Branch q n ∷ nodes) e h = go (DECL_FIELD == q) refl (DECL_METHOD == q) refl (none_chosen nodes)
  where
    go : (c : Bool) → (DECL_FIELD == q) ≡ c → (d : Bool) → (DECL_METHOD == q) ≡ d
        → (0 ≡ count_of DECL_FIELD nodes → 0 ≡ count_of DECL_METHOD nodes → list_any (is_chosen outer_members) nodes ≡ false)
        → list_any (is_chosen outer_members) (Branch q n ∷ nodes) ≡ false
    go true own d other rest =
        let one : one_if (DECL_FIELD == q) ≡ 1 = ap one_if own in
        absurd (omega (arith, e, one, count_first DECL_FIELD (Branch q n) nodes))
    go false own true other rest =
        let one : one_if (DECL_METHOD == q) ≡ 1 = ap one_if other in
        absurd (omega (arith, h, one, count_first DECL_METHOD (Branch q n) nodes))
    go false own false other rest =
        let first : 0 ≡ count_of DECL_FIELD nodes = omega (arith, e, count_first DECL_FIELD (Branch q n) nodes) in
        let second : 0 ≡ count_of DECL_METHOD nodes = omega (arith, h, count_first DECL_METHOD (Branch q n) nodes) in
        ap (λ (c : Bool). (c || (DECL_METHOD == q || false)) || list_any (is_chosen outer_members) nodes) own
        ∙ ap (λ (c : Bool). (c || false) || list_any (is_chosen outer_members) nodes) other
        ∙ rest first second

or_true : (b : Bool) → (b || true) ≡ true
or_true true = refl
or_true false = refl

-- a field or a method
some_chosen : (p : ℕ) → is_among outer_members p ≡ true → (nodes : List TreeNode) → 0 < count_of p nodes → list_any (is_chosen outer_members) nodes ≡ true
some_chosen p own [] some = absurd (omega (arith, some))
some_chosen p own (Leaf k ∷ nodes) some = let first = count_first p (Leaf k) nodes in some_chosen p own nodes (omega (arith, some, first))
some_chosen p own (Branch q n ∷ nodes) some = go (p == q) refl (some_chosen p own nodes)
  where
    go : (c : Bool) → (p == q) ≡ c → (0 < count_of p nodes → list_any (is_chosen outer_members) nodes ≡ true)
        → list_any (is_chosen outer_members) (Branch q n ∷ nodes) ≡ true
    go true is rest =
        ap (λ (c : Bool). c || list_any (is_chosen outer_members) nodes)
        (subst (λ (x : ℕ). is_among outer_members x ≡ true) (eqb-true p q is) own)
    go false is rest =
        let none : one_if (p == q) ≡ 0 = ap one_if is in
        let later = rest (omega (arith, some, none, count_first p (Branch q n) nodes)) in
        ap (λ (c : Bool). is_among outer_members q || c) later ∙ or_true (is_among outer_members q)

pub fields_counted : (n : ℕ) (nodes : List TreeNode) → 0 < n → n ≡ count_of DECL_FIELD nodes → nat_lt 0 n ≡ list_any (is_chosen outer_members) nodes
fields_counted n nodes some e = lt-ltb 0 n some ∙ sym (some_chosen DECL_FIELD refl nodes (omega (arith, some, e)))

-- without fields
pub methods_counted : (n : ℕ) (nodes : List TreeNode) → 0 ≡ count_of DECL_FIELD nodes → n ≡ count_of DECL_METHOD nodes
    → nat_lt 0 n ≡ list_any (is_chosen outer_members) nodes
methods_counted zero nodes none e = sym (none_chosen nodes none e)
methods_counted (suc n) nodes none e = lt-ltb 0 (suc n) (omega arith) ∙ sym (some_chosen DECL_METHOD refl nodes (omega (arith, e)))

neither : (a b : Bool) → (a || b) ≡ false → (a ≡ false) × (b ≡ false)
neither false b e = (refl, e)
neither true b e = absurd cc

unless : (a b : Bool) → (a || not b) ≡ true → a ≡ false → b ≡ false
unless true b e h = absurd cc
unless false true e h = absurd cc
unless false false e h = refl

-- another declaration declares no member
no_member : (kind : Kind) (q : ℕ) → is_among (places level.Source) q ≡ true → is_among outer_members q ≡ false → is_among (declarers kind) q ≡ false
no_member Field q place other =
    unless (is_among outer_members q) (is_among (declarers Field) q)
    (all_of (λ p. is_among outer_members p || not (is_among (declarers Field) p)) (places level.Source) refl q place) other
no_member Method q place other =
    unless (is_among outer_members q) (is_among (declarers Method) q)
    (all_of (λ p. is_among outer_members p || not (is_among (declarers Method) p)) (places level.Source) refl q place) other
no_member Property q place other =
    unless (is_among outer_members q) (is_among (declarers Property) q)
    (all_of (λ p. is_among outer_members p || not (is_among (declarers Property) p)) (places level.Source) refl q place) other
no_member Event q place other =
    unless (is_among outer_members q) (is_among (declarers Event) q)
    (all_of (λ p. is_among outer_members p || not (is_among (declarers Event) p)) (places level.Source) refl q place) other

both : (kind : Kind) (ps qs : List Part) → forests_of kind (ps ++ qs) ≡ forests_of kind ps ++ forests_of kind qs
both kind ps qs =
    let below = λ (p : Part). the (production_of kind) p.below in
    ap (map below) (filter-append (declares kind) ps qs)
    ∙ map-append below (filter (declares kind) ps) (filter (declares kind) qs)

none_declared : (kind : Kind) (f : Forest) → list_any (is_chosen outer_members) (preorder f) ≡ false → forests_of kind (parts_at level.Source f) ≡ []
none_declared kind tree.none e = refl
none_declared kind (tree.leaf k a) e = none_declared kind a e
none_declared kind (tree.branch q b a) e =
    let here = neither (is_among outer_members q) (list_any (is_chosen outer_members) (preorder b ++ preorder a)) e in
    let rest = neither (list_any (is_chosen outer_members) (preorder b)) (list_any (is_chosen outer_members) (preorder a))
    (sym (list_any-append (is_chosen outer_members) (preorder b) (preorder a)) ∙ here.1) in
    go (is_among (places level.Source) q) refl here.0 (none_declared kind b rest.0) (none_declared kind a rest.1)
  where
    go : (c : Bool) → is_among (places level.Source) q ≡ c → is_among outer_members q ≡ false
        → forests_of kind (parts_at level.Source b) ≡ [] → forests_of kind (parts_at level.Source a) ≡ []
        → forests_of kind (parts_at level.Source (tree.branch q b a)) ≡ []
    go true place other inner after =
        ap (λ (c : Bool). forests_of kind ((if c then part q b ∷ [] else parts (places level.Source) b) ++ parts (places level.Source) a)) place
        ∙ forests_other kind q b (parts_at level.Source a) (no_member kind q place other)
        ∙ after
    go false place other inner after =
        ap (λ (c : Bool). forests_of kind ((if c then part q b ∷ [] else parts (places level.Source) b) ++ parts (places level.Source) a)) place
        ∙ both kind (parts_at level.Source b) (parts_at level.Source a)
        ∙ ap (λ fs. fs ++ forests_of kind (parts_at level.Source a)) inner
        ∙ after

pub no_outer_twice : (s : Source) → IsTotalOrder term_order → list_any (is_chosen outer_members) (preorder s.tree) ≡ false
    → None ≡ least (members_twice_in s nothing_around (declarations s.tree))
no_outer_twice s total e =
    none_twice s nothing_around (declarations s.tree) total (λ kind.
    let none : length (forests_of kind (declarations s.tree)) ≡ 0 = ap length (none_declared kind s.tree e) in
    omega (arith, none))
