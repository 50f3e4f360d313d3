-- The nodes of a faultless source: what stands below them and around them.
use Rattle.std.proofs.Common.{◌≡◌, ◌⊎◌, ℕ, inl, inr, List, [], ◌∷◌, ◌++◌, cond, ap, sym, subst, ◌∙◌}
use Rattle.std.specs.Prelude.{Bool, true, ◌==◌, filter, if◌then◌else◌}
use Rattle.std.specs.List.{flat_map}
use Rattle.std.proofs.lemmas.Bool.{cases_Bool}
use Rattle.std.proofs.lemmas.Bool.Decides.{Decides-eqb}
use Rattle.ilasm_grammar.specs.declared.productions.TheConstants.{CLASS, METHOD}
use Rattle.source_model.specs.Forest.{Forest, none, leaf, branch, chosen, is_among}
use Rattle.source_model.specs.Nodes.{Around, Node, class_token, entered, nodes, nodes_in, nothing_around, type_id}
use Rattle.source_model.specs.Source.{Source}
use Rattle.laws_formed_sources.specs.sources.Productions.{AllFaultless, IsFaultlessAt}
use Rattle.laws_formed_sources.specs.sources.Remaining.{Among}
use Rattle.laws_formed_sources.proofs.sources.Occurring.{Occurs, among_back, among_front}
use Rattle.laws_formed_sources.proofs.sources.Unbroken.{empty_in}

-- ---- lists

pub among_either : {X : Type 0} (q : X) (xs ys : List X) → Among q (xs ++ ys) → Among q xs ⊎ Among q ys
among_either q [] ys h = inr h
among_either q (x ∷ xs) ys (inl e) = inl (inl e)
among_either q (x ∷ xs) ys (inr h) = elim (among_either q xs ys h) [ inl i ↦ inl (inr i) | inr i ↦ inr i ]

pub none_at : {X Y : Type 0} (g : X → List Y) (q : X) (xs : List X) → Among q xs → flat_map g xs ≡ [] → g q ≡ []
none_at g q [] h e = absurd h
none_at g q (x ∷ xs) (inl is) e = subst (λ y. g y ≡ []) is (empty_in (g x) (flat_map g xs) e).0
none_at g q (x ∷ xs) (inr h) e = none_at g q xs h (empty_in (g x) (flat_map g xs) e).1

pub filter_in : {X : Type 0} (test : X → Bool) (q : X) (xs : List X) → Among q xs → test q ≡ true → Among q (filter test xs)
filter_in test q [] h e = absurd h
filter_in test q (x ∷ xs) (inl is) e =
    subst (Among q) (sym (ap (λ (c : Bool). cond c (x ∷ filter test xs) (filter test xs)) (ap test is ∙ e))) (inl is)
filter_in test q (x ∷ xs) (inr h) e = elim (cases_Bool (test x)) [
  | inl own ↦ subst (Among q) (sym (ap (λ (c : Bool). cond c (x ∷ filter test xs) (filter test xs)) own)) (inr (filter_in test q xs h e))
  | inr other ↦ subst (Among q) (sym (ap (λ (c : Bool). cond c (x ∷ filter test xs) (filter test xs)) other)) (filter_in test q xs h e)
]

-- ---- nodes

module _ (s : Source) where
  -- what stands below a node stands in the forest
  below_in : (f : Forest) (a : Around) (n : Node) → Among n (nodes_in s a f) → (m : Node) → Among m (nodes_in s n.around n.below) → Among m (nodes_in s a f)
  below_in none a n i m j = absurd i
  below_in (leaf k f) a n i m j = below_in f a n i m j
  below_in (branch p b f) a n (inl is) m j =
      inr (among_front m (nodes_in s (entered s a p b) b) (nodes_in s a f) (subst (λ (x : Node). Among m (nodes_in s x.around x.below)) (sym is) j))
  below_in (branch p b f) a n (inr i) m j = elim (among_either n (nodes_in s (entered s a p b) b) (nodes_in s a f) i) [
    | inl k ↦ inr (among_front m (nodes_in s (entered s a p b) b) (nodes_in s a f) (below_in b (entered s a p b) n k m j))
    | inr k ↦ inr (among_back m (nodes_in s (entered s a p b) b) (nodes_in s a f) (below_in f a n k m j))
  ]

  pub node_occurs : (n : Node) → Among n (nodes s) → Occurs s n.around n.below
  unfolding nodes
  node_occurs n i m j = below_in s.tree nothing_around n i m j

  abbrev IsGoodNode : Node → Type 0
  IsGoodNode n = IsFaultlessAt s n.production n.below × AllFaultless s n.below

  good_in : (f : Forest) (a : Around) → AllFaultless s f → (n : Node) → Among n (nodes_in s a f) → IsGoodNode n
  good_in none a all n i = absurd i
  good_in (leaf k f) a all n i = good_in f a all n i
  good_in (branch p b f) a all n (inl is) = subst IsGoodNode is (all.0, all.1)
  good_in (branch p b f) a all n (inr i) = elim (among_either n (nodes_in s (entered s a p b) b) (nodes_in s a f) i) [
    | inl k ↦ good_in b (entered s a p b) all.1 n k
    | inr k ↦ good_in f a all.2 n k
  ]

  pub node_good : AllFaultless s s.tree → (n : Node) → Among n (nodes s) → IsFaultlessAt s n.production n.below × AllFaultless s n.below
  unfolding nodes
  node_good all n i = good_in s.tree nothing_around all n i

  -- a class is the innermost around its own parts
  own_class : (a : Around) (p : ℕ) (b : Forest) → p ≡ CLASS → (entered s a p b).class ≡ b
  own_class a p b e =
      ap (λ (x : Bool). (if x then record { path = a.path ++ type_id s (class_token b) ∷ []; class = b; method = none }
      else if p == METHOD then record { path = a.path; class = a.class; method = b } else a).class) ((Decides-eqb p CLASS).1 e)

  abbrev IsInnermost : Node → Type 0
  IsInnermost n = n.production ≡ CLASS → n.around.class ≡ n.below

  class_in : (f : Forest) (a : Around) (n : Node) → Among n (nodes_in s a f) → IsInnermost n
  class_in none a n i = absurd i
  class_in (leaf k f) a n i = class_in f a n i
  class_in (branch p b f) a n (inl is) = subst IsInnermost is (own_class a p b)
  class_in (branch p b f) a n (inr i) = elim (among_either n (nodes_in s (entered s a p b) b) (nodes_in s a f) i) [
    | inl k ↦ class_in b (entered s a p b) n k
    | inr k ↦ class_in f a n k
  ]

  pub node_class : (n : Node) → Among n (nodes s) → n.production ≡ CLASS → n.around.class ≡ n.below
  unfolding nodes
  node_class n i = class_in s.tree nothing_around n i

  -- the chosen trees of a forest hold nothing that it doesn't
  pub chosen_in : (a : Around) (sought : List ℕ) (f : Forest) (n : Node) → Among n (nodes_in s a (chosen sought f)) → Among n (nodes_in s a f)
  chosen_in a sought none n i = i
  chosen_in a sought (leaf k f) n i = chosen_in a sought f n i
  chosen_in a sought (branch p b f) n i = elim (cases_Bool (is_among sought p)) [
    | inl is ↦
        let own : List Node = record { production = p; below = b; around = entered s a p b } ∷ nodes_in s (entered s a p b) b in
        elim (among_either n own (nodes_in s a (chosen sought f))
        (subst (λ (x : Bool). Among n (nodes_in s a (if x then branch p b (chosen sought f) else chosen sought f))) is i)) [
          | inl j ↦ among_front n own (nodes_in s a f) j
          | inr j ↦ among_back n own (nodes_in s a f) (chosen_in a sought f n j)
        ]
    | inr other ↦
        among_back n (record { production = p; below = b; around = entered s a p b } ∷ nodes_in s (entered s a p b) b) (nodes_in s a f)
        (chosen_in a sought f n (subst (λ (x : Bool). Among n (nodes_in s a (if x then branch p b (chosen sought f) else chosen sought f))) other i))
  ]
