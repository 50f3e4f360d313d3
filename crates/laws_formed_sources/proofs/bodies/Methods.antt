-- The methods of a source that breaks no rule, and what of its rules is said of one method.
use Rattle.std.proofs.Common.{◌≡◌, ℕ, inl, inr, List, [], ◌∷◌, ◌++◌, cond, map, refl, ap, sym, subst, ◌∙◌, arith}
use Rattle.std.specs.Prelude.{Bool, true, false, not, ◌==◌, ◌||◌, if◌then◌else◌, filter}
use Rattle.std.specs.List.{AllByRecursion, enumerate_from, flat_map, list_all}
use Rattle.std.proofs.lemmas.Bool.{and_from, cases_Bool}
use Rattle.std.proofs.lemmas.Bool.Decides.{Decides-eqb}
use Rattle.ilasm_grammar.specs.declared.productions.TheConstants.{CLASS, METHOD}
use Rattle.source_model.specs.BodyFaults.{all_methods, branch_too_far, clause_backwards, label_names, targets_at_the_end}
use Rattle.source_model.specs.BodyNumbers.{body_numbers_out_of_range_in}
use Rattle.source_model.specs.Clauses.{guarded}
use Rattle.source_model.specs.Forest.{Forest, none, leaf, branch, is_among}
use Rattle.source_model.specs.Instructions.{instructions_of, is_label}
use Rattle.source_model.specs.Nodes.{Around, Node, class_token, entered, nodes, nodes_in, nothing_around, type_id}
use Rattle.source_model.specs.Source.{Source}
use Rattle.source_nodes.specs.Derived.{DerivationsHaveBodies}
use Rattle.laws_formed_sources.specs.sources.Laws.{IsRight}
use Rattle.laws_formed_sources.specs.sources.Productions.{AllFaultless, HasFewTypars, IsFaultlessAt}
use Rattle.laws_formed_sources.specs.bodies.Laws.{IsGoodNode}
use Rattle.laws_formed_sources.proofs.sources.Members.{In, in_either}
use Rattle.laws_formed_sources.proofs.sources.Signatures.{few_typars}
use Rattle.laws_formed_sources.proofs.sources.Unbroken.{all_bounded, all_declared, all_faultless, empty_in}

-- ---- lists

pub none_of : {X : Type 0} (g : X → List ℕ) (q : X) (xs : List X) → In q xs → flat_map g xs ≡ [] → g q ≡ []
none_of g q [] i e = absurd i
none_of g q (x ∷ xs) (inl is) e = ap g (sym is) ∙ (empty_in (g x) (flat_map g xs) e).0
none_of g q (x ∷ xs) (inr i) e = none_of g q xs i (empty_in (g x) (flat_map g xs) e).1

pub none_each : {X : Type 0} (g : X → List ℕ) (xs : List X) → flat_map g xs ≡ [] → AllByRecursion (λ x. g x ≡ []) xs
none_each g [] e = tt
none_each g (x ∷ xs) e = let both = empty_in (g x) (flat_map g xs) e in (both.0, none_each g xs both.1)

pub filter_in : {X : Type 0} (test : X → Bool) (q : X) (xs : List X) → In q (filter test xs) → In q xs × (test q ≡ true)
filter_in test q [] i = absurd i
filter_in test q (x ∷ xs) i = go (test x) refl i (filter_in test q xs)
  where
    go : (c : Bool) → test x ≡ c → In q (cond c (x ∷ filter test xs) (filter test xs)) → (In q (filter test xs) → In q xs × (test q ≡ true)) → In q (x ∷ xs) × (test q ≡ true)
    go true is (inl e) rest = (inl e, ap test (sym e) ∙ is)
    go true is (inr j) rest = let later = rest j in (inr later.0, later.1)
    go false is j rest = let later = rest j in (inr later.0, later.1)

pub in_filter : {X : Type 0} (test : X → Bool) (q : X) (xs : List X) → In q xs → test q ≡ true → In q (filter test xs)
in_filter test q [] i e = absurd i
in_filter test q (x ∷ xs) i e = go (test x) refl i (λ j. in_filter test q xs j e)
  where
    go : (c : Bool) → test x ≡ c → In q (x ∷ xs) → (In q xs → In q (filter test xs)) → In q (cond c (x ∷ filter test xs) (filter test xs))
    go true is (inl same) rest = inl same
    go true is (inr j) rest = inr (rest j)
    go false is (inl same) rest = let no : test q ≡ false = ap test (sym same) ∙ is in absurd cc
    go false is (inr j) rest = rest j

pub all_hold : {X : Type 0} (P : X → Type 0) (q : X) (xs : List X) → AllByRecursion P xs → In q xs → P q
all_hold P q [] h i = absurd i
all_hold P q (x ∷ xs) h (inl e) = subst P e h.0
all_hold P q (x ∷ xs) h (inr i) = all_hold P q xs h.1 i

pub all_pass : {X Y : Type 0} (test : Y → Bool) (f : X → Y) (xs : List X) → ((x : X) → In x xs → test (f x) ≡ true) → list_all test (map f xs) ≡ true
all_pass test f [] each = refl
all_pass test f (x ∷ xs) each = and_from (test (f x)) (list_all test (map f xs)) (each x (inl refl)) (all_pass test f xs (λ y i. each y (inr i)))

-- ---- nodes

either : (P : Around → Type 0) (c d : Bool) (x y z : Around) → P x → P y → P z → P (if c then x else if d then y else z)
either P true d x y z h i j = h
either P false true x y z h i j = i
either P false false x y z h i j = j

pub entered_few : (s : Source) (a : Around) → HasFewTypars a → (p : ℕ) (b : Forest) → AllFaultless s b → HasFewTypars (entered s a p b)
entered_few s a few p b all =
    either HasFewTypars (p == CLASS) (p == METHOD) (record { path = a.path ++ type_id s (class_token b) ∷ []; class = b; method = none })
    (record { path = a.path; class = a.class; method = b }) a (record { class = few_typars s b all; method = omega arith })
    (record { class = few.class; method = few_typars s b all }) few

pub good_nodes : (s : Source) (a : Around) → HasFewTypars a → (f : Forest) → AllFaultless s f → (n : Node) → In n (nodes_in s a f) → IsGoodNode s n
good_nodes s a few none all n i = absurd i
good_nodes s a few (leaf k f) all n i = good_nodes s a few f all n i
good_nodes s a few (branch p b f) all n (inl is) =
    subst (IsGoodNode s) is (record { own = all.0; all = all.1; few = entered_few s a few p b all.1 })
good_nodes s a few (branch p b f) all n (inr i) = elim (in_either n (nodes_in s (entered s a p b) b) (nodes_in s a f) i) [
  | inl j ↦ good_nodes s (entered s a p b) (entered_few s a few p b all.1) b all.1 n j
  | inr j ↦ good_nodes s a few f all.2 n j
]

-- ---- methods

pub record IsGoodMethod (s : Source) (n : Node) : Type 0 where
  pub own : IsFaultlessAt s METHOD n.below
  pub all : AllFaultless s n.below
  pub few : HasFewTypars n.around
  pub numbers : body_numbers_out_of_range_in s n ≡ []
  pub labels : filter (λ k. not (is_label s n.below k)) (label_names n.below) ≡ []
  pub far : flat_map (branch_too_far s n) (enumerate_from 0 (instructions_of n.below)) ≡ []
  pub ends : flat_map (targets_at_the_end s n.below) (instructions_of n.below) ≡ []
  pub backwards : flat_map (clause_backwards s n) (guarded n.below) ≡ []

pub no_typars : HasFewTypars nothing_around
no_typars = record { class = omega arith; method = omega arith }

method_alone : (n : Node) → is_among (METHOD ∷ []) n.production ≡ true → METHOD ≡ n.production
method_alone n e = elim (cases_Bool (METHOD == n.production)) [
  | inl is ↦ (Decides-eqb METHOD n.production).0 is
  | inr other ↦ let h : false ≡ true = sym (ap (λ (c : Bool). c || false) other) ∙ e in absurd cc
]

pub good_method : DerivationsHaveBodies → (s : Source) → IsRight s → (n : Node) → In n (all_methods s) → IsGoodMethod s n
unfolding nodes
good_method derived s r n i =
    let at = filter_in (λ (m : Node). is_among (METHOD ∷ []) m.production) n (nodes s) i in
    let all = all_faultless s (derived s r.read.derived).1 r.faultless in
    let good = good_nodes s nothing_around no_typars s.tree all n at.0 in
    let bounded = all_bounded s r.faultless in
    let declared = all_declared s r.faultless in
    record {
      own = subst (λ p. IsFaultlessAt s p n.below) (sym (method_alone n at.1)) good.own;
      all = good.all;
      few = good.few;
      numbers = none_of (body_numbers_out_of_range_in s) n (all_methods s) i bounded.body-numbers;
      labels = none_of (λ (m : Node). filter (λ k. not (is_label s m.below k)) (label_names m.below)) n (all_methods s) i declared.labels;
      far = none_of (λ (m : Node). flat_map (branch_too_far s m) (enumerate_from 0 (instructions_of m.below))) n (all_methods s) i bounded.branches;
      ends = none_of (λ (m : Node). flat_map (targets_at_the_end s m.below) (instructions_of m.below)) n (all_methods s) i bounded.targets;
      backwards = none_of (λ (m : Node). flat_map (clause_backwards s m) (guarded m.below)) n (all_methods s) i bounded.clauses;
    }
