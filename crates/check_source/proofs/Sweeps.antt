-- How far the pass over the declarations of a source has come.
use Rattle.std.proofs.Common.{◌≡◌, ℕ, suc, ◌+◌, ◌≤◌, List, [], ◌∷◌, ◌++◌, length, take, drop, Bool, true, false, ◌||◌, Option, None, refl, sym, ap, subst, ◌∙◌, arith, append_assoc, append-nil}
use Rattle.std.specs.Prelude.{◌==◌, if◌then◌else◌}
use Rattle.std.specs.List.{flat_map}
use Rattle.std.proofs.lemmas.Bool.{eqb-true}
use Rattle.std.proofs.lemmas.List.{take-append-drop}
use Rattle.ilasm_grammar.specs.declared.productions.TheConstants.{CLASS, DECL_STAR_MORE, SOURCE}
use Rattle.ilasm_grammar.specs.declared.tree.TreeNode.{TreeNode}
use Rattle.ilasm_grammar.specs.declared.tree.TreeNode.TheVariants.{Branch, Leaf}
use Rattle.type_terms.specs.declared.name.TypeId.{TypeId}
use Rattle.source_model.specs.DeclaredTwice.{members_twice, members_twice_in}
use Rattle.source_model.specs.Forest.{Forest, none, leaf, branch, joined, preorder, tokens_of}
use Rattle.source_model.specs.Items.{declarations, members}
use Rattle.source_model.specs.Laws.{ForestOpens, ForestsJoin, OneForest}
use Rattle.source_model.specs.Nodes.{Node, entered, nodes, nodes_in, nothing_around}
use Rattle.source_model.specs.Source.{Source}
use Rattle.source_model.specs.TokenOrder.{TokensStandInOrder}
use Rattle.source_nodes.specs.Derived.{DerivationsHaveBodies, FitsBody}
use Rattle.source_nodes.specs.Least.{least, sooner}
use Rattle.source_nodes.specs.Readers.{Reads}
use Rattle.source_nodes.specs.Walk.{IsForest}
use Rattle.source_nodes.specs.declared.reader.Reader.{Reader}
use Rattle.source_nodes.proofs.Collecting.{of_joined}
use Rattle.source_syntax.proofs.LeastLemmas.{least_append, sooner_assoc, sooner_comm}
use Rattle.source_syntax.proofs.MethodLemmas.{back_run, front_run, nothing_more}
use Rattle.check_visitor.specs.Surroundings.{found_in, is_scope}
use Rattle.check_visitor.proofs.AskingLemmas.{at_branch, into_parts, node_of}
use Rattle.check_bodies.specs.AllOfBodies.{body_broken, broken_in_bodies}
use Rattle.check_bodies.specs.AmongNodes.{StandsIn}
use Rattle.check_bodies.proofs.BodyLemmas.{all_bodies}
use Rattle.check_bodies.proofs.MethodWalks.{chosen_broken}
use Rattle.check_members.specs.MemberKinds.{class_around, twice_within}
use Rattle.check_members.proofs.TwiceLemmas.{all_twice}
use Rattle.check_names.specs.AllOfParts.{broken_at, broken_in_parts}
use Rattle.check_names.specs.Asked.{is_asked}
use Rattle.check_names.specs.DeclaredClasses.{inner_path}
use Rattle.check_names.proofs.AskedLemmas.{nothing_asked}
use Rattle.check_names.proofs.PartLemmas.{all_parts}
use Rattle.check_source.specs.AllDeclared.{AreDeclarations}
use Rattle.check_source.specs.Passes.{broken_among, broken_in_passes, is_outer}
use Rattle.check_source.specs.declared.all_declared.Declarations.{Declarations}

-- ---- what is found in a forest is what is found in its trees, one by one

pub record IsSplit (found : Forest → List ℕ) : Type 0 where
  pub leaf : (k : ℕ) (a : Forest) → found (leaf k a) ≡ found a
  pub tree : (p : ℕ) (b a : Forest) → least (found (branch p b a)) ≡ sooner (least (found (branch p b none))) (least (found a))
  pub outer : (p : ℕ) (b a : Forest) → is_outer p ≡ true → least (found (branch p b a)) ≡ least (found (joined b a))

outer_is : (p : ℕ) (P : ℕ → Type 0) → P SOURCE → P DECL_STAR_MORE → is_outer p ≡ true → P p
outer_is p P first second e = go (p == SOURCE) refl (p == DECL_STAR_MORE) refl e
  where
    go : (c : Bool) → (p == SOURCE) ≡ c → (d : Bool) → (p == DECL_STAR_MORE) ≡ d → (c || d) ≡ true → P p
    go true is d also h = subst P (sym (eqb-true p SOURCE is)) first
    go false is true also h = subst P (sym (eqb-true p DECL_STAR_MORE also)) second
    go false is false also h = absurd cc

split_nodes : ForestsJoin → (s : Source) (broken : Source → Node → List ℕ) → ((n : Node) → is_outer n.production ≡ true → None ≡ least (broken s n))
    → IsSplit (found_in broken s nothing_around)
split_nodes joins s broken quiet = record {
  leaf = λ k a. refl;
  tree = λ p b a.
      let own = sooner (least (broken s (node_of broken s nothing_around p b))) (least (found_in broken s (entered s nothing_around p b) b)) in
      at_branch broken s nothing_around p b a
      ∙ ap (λ o. sooner o (least (found_in broken s nothing_around a))) (nothing_more own ∙ sym (at_branch broken s nothing_around p b none));
  outer = λ p b a e.
      sym (into_parts broken s nothing_around joins p b a None None (outer_is p (λ q. is_scope q ≡ false) refl refl e)
      (quiet (node_of broken s nothing_around p b) e));
}

twice_joined : (s : Source) (path : List TypeId) (f g : Forest) → twice_within s path (joined f g) ≡ twice_within s path f ++ twice_within s path g
twice_joined s path none g = refl
twice_joined s path (leaf k a) g = twice_joined s path a g
twice_joined s path (branch p b a) g =
    let own : List ℕ = if p == CLASS then members_twice_in s (class_around s path b) (members b) ++ twice_within s (inner_path s path b) b
    else twice_within s path b in
    ap (λ ks. own ++ ks) (twice_joined s path a g) ∙ sym (append_assoc own (twice_within s path a) (twice_within s path g))

split_twice : (s : Source) → IsSplit (twice_within s [])
split_twice s = record {
  leaf = λ k a. refl;
  tree = λ p b a.
      let own : List ℕ = if p == CLASS then members_twice_in s (class_around s [] b) (members b) ++ twice_within s (inner_path s [] b) b
      else twice_within s [] b in
      least_append own (twice_within s [] a)
      ∙ ap (λ ks. sooner (least ks) (least (twice_within s [] a))) (sym (append-nil own));
  outer = λ p b a e.
      outer_is p (λ q. least (twice_within s [] (branch q b a)) ≡ least (twice_within s [] (joined b a))) (ap least (sym (twice_joined s [] b a)))
      (ap least (sym (twice_joined s [] b a))) e;
}

crossed : (a b c d : Option ℕ) → sooner (sooner a b) (sooner c d) ≡ sooner (sooner a c) (sooner b d)
crossed a b c d =
    sooner_assoc a b (sooner c d)
    ∙ ap (sooner a) (sym (sooner_assoc b c d) ∙ ap (λ o. sooner o d) (sooner_comm b c) ∙ sooner_assoc c b d)
    ∙ sym (sooner_assoc a c (sooner b d))

split_both : (f g : Forest → List ℕ) → IsSplit f → IsSplit g → IsSplit (λ x. f x ++ g x)
split_both f g first second = record {
  leaf = λ k a. ap (λ ks. ks ++ g (leaf k a)) (first.leaf k a) ∙ ap (λ ks. f a ++ ks) (second.leaf k a);
  tree = λ p b a.
      let alone = branch p b none in
      least_append (f (branch p b a)) (g (branch p b a))
      ∙ ap (λ o. sooner o (least (g (branch p b a)))) (first.tree p b a)
      ∙ ap (sooner (sooner (least (f alone)) (least (f a)))) (second.tree p b a)
      ∙ crossed (least (f alone)) (least (f a)) (least (g alone)) (least (g a))
      ∙ ap (λ o. sooner o (sooner (least (f a)) (least (g a)))) (sym (least_append (f alone) (g alone)))
      ∙ ap (sooner (least (f alone ++ g alone))) (sym (least_append (f a) (g a)));
  outer = λ p b a e.
      least_append (f (branch p b a)) (g (branch p b a))
      ∙ ap (λ o. sooner o (least (g (branch p b a)))) (first.outer p b a e)
      ∙ ap (sooner (least (f (joined b a)))) (second.outer p b a e)
      ∙ sym (least_append (f (joined b a)) (g (joined b a)));
}

no_method : (s : Source) (n : Node) → is_outer n.production ≡ true → None ≡ least (body_broken s n)
no_method s n e = outer_is n.production (λ p. None ≡ least (body_broken s (record { production = p; below = n.below; around = n.around }))) refl refl e

split_all : ForestsJoin → (s : Source) (d : Declarations) → IsSplit (broken_among s d)
split_all joins s d =
    let at = broken_at d.externs.names d.own.names d.classes.paths d.labels.names in
    split_both (λ f. found_in body_broken s nothing_around f ++ found_in at s nothing_around f) (twice_within s [])
    (split_both (found_in body_broken s nothing_around) (found_in at s nothing_around) (split_nodes joins s body_broken (no_method s))
    (split_nodes joins s at
    (λ n e. nothing_asked s n d.externs.names d.own.names d.classes.paths d.labels.names (outer_is n.production (λ p. is_asked p ≡ false) refl refl e))))
    (split_twice s)

-- ---- parts of a source

stands_past_leaf : (s : Source) (k : ℕ) (a : Forest) → StandsIn s (leaf k a) → StandsIn s a
stands_past_leaf s k a h =
    let back = back_run (k ∷ []) (tokens_of a) h.first h.count h.in-order in
    record { bodies = h.bodies; first = back.0; count = back.1; in-order = back.2 }

stands_after : (s : Source) (p : ℕ) (b a : Forest) → StandsIn s (branch p b a) → StandsIn s a
stands_after s p b a h =
    let back = back_run (tokens_of b) (tokens_of a) h.first h.count h.in-order in
    record { bodies = h.bodies.2; first = back.0; count = back.1; in-order = back.2 }

stands_alone : (s : Source) (p : ℕ) (b a : Forest) → StandsIn s (branch p b a) → StandsIn s (branch p b none)
stands_alone s p b a h = record {
  bodies = (h.bodies.0, h.bodies.1, tt);
  first = h.first;
  count = length (tokens_of b);
  in-order = append-nil (tokens_of b) ∙ front_run (tokens_of b) (tokens_of a) h.first h.count h.in-order;
}

stands_joined : ForestsJoin → (s : Source) (p : ℕ) (b a : Forest) → StandsIn s (branch p b a) → StandsIn s (joined b a)
stands_joined joins s p b a h = record {
  bodies = of_joined (FitsBody s) b a h.bodies.1 h.bodies.2;
  first = h.first;
  count = h.count;
  in-order = joins.tokens b a ∙ h.in-order;
}

-- ---- the pass

-- what is left is a forest, a part of the source that is read, and what is found in it completes what was found
pub record Swept (r : Reader) (d : Declarations) (left : List TreeNode) (found : Option ℕ) : Type 0 where
  pub forest : Forest
  pub is : preorder forest ≡ left
  pub stands : (s : Source) → Reads r s → StandsIn s s.tree → StandsIn s forest
  pub rest : (s : Source) → Reads r s → AreDeclarations s d → StandsIn s s.tree → sooner found (least (broken_among s d forest)) ≡ least (broken_among s d s.tree)

pub begin : OneForest → (r : Reader) (d : Declarations) → IsForest r.nodes.now → Swept r d r.nodes.now None
begin one r d f = record {
  forest = f.0;
  is = f.1;
  stands = λ s reads h. subst (StandsIn s) (one.one s.tree f.0 (reads.nodes ∙ sym f.1)) h;
  rest = λ s reads all h. ap (λ g. least (broken_among s d g)) (one.one f.0 s.tree (f.1 ∙ sym reads.nodes));
}

module _ (opens : ForestOpens) (joins : ForestsJoin) (r : Reader) (d : Declarations) (left rest : List TreeNode) (found : Option ℕ) (w : Swept r d left found) where
  pub past_leaf : (token : ℕ) → left ≡ Leaf token ∷ rest → Swept r d rest found
  past_leaf token e =
      let b = opens.leaf w.forest token rest (w.is ∙ e) in
      record {
        forest = b.after;
        is = b.rest;
        stands = λ s reads h. stands_past_leaf s token b.after (subst (StandsIn s) b.is (w.stands s reads h));
        rest = λ s reads all h.
            ap (λ ks. sooner found (least ks)) (sym ((split_all joins s d).leaf token b.after))
            ∙ ap (λ g. sooner found (least (broken_among s d g))) (sym b.is)
            ∙ w.rest s reads all h;
      }

  pub into_outer : (p count : ℕ) → left ≡ Branch p count ∷ rest → is_outer p ≡ true → Swept r d rest found
  into_outer p count e outer =
      let b = opens.branch w.forest p count rest (w.is ∙ e) in
      record {
        forest = joined b.below b.after;
        is = joins.nodes b.below b.after ∙ ap (λ ns. ns ++ preorder b.after) b.inner ∙ ap (λ ns. take count rest ++ ns) b.rest ∙ take-append-drop count rest;
        stands = λ s reads h. stands_joined joins s p b.below b.after (subst (StandsIn s) b.is (w.stands s reads h));
        rest = λ s reads all h.
            ap (sooner found) (sym ((split_all joins s d).outer p b.below b.after outer))
            ∙ ap (λ g. sooner found (least (broken_among s d g))) (sym b.is)
            ∙ w.rest s reads all h;
      }

  -- the first tree fits, and its nodes are those of a forest
  pub first_fits : (p count : ℕ) → left ≡ Branch p count ∷ rest → count + 1 ≤ length left
  first_fits p count e =
      let within = (opens.branch w.forest p count rest (w.is ∙ e)).within in
      let long : length left ≡ suc (length rest) = ap length e in
      omega (arith, within, long)

  alone : (p count : ℕ) (b a : Forest) → preorder (branch p b a) ≡ Branch p count ∷ rest → preorder b ≡ take count rest
      → preorder (branch p b none) ≡ Branch p count ∷ take count rest
  alone p count b a whole inner =
      let counts : length (preorder b) ≡ count = cc in
      ap (λ n. Branch p n ∷ (preorder b ++ [])) counts ∙ ap (λ ns. Branch p count ∷ ns) (append-nil (preorder b) ∙ inner)

  first_nodes : (p count : ℕ) → left ≡ Branch p count ∷ rest → take (count + 1) left ≡ Branch p count ∷ take count rest
  first_nodes p count e =
      let more : count + 1 ≡ suc count = omega arith in
      ap (λ n. take n left) more ∙ ap (take (suc count)) e

  after_nodes : (p count : ℕ) → left ≡ Branch p count ∷ rest → drop (count + 1) left ≡ drop count rest
  after_nodes p count e =
      let more : count + 1 ≡ suc count = omega arith in
      ap (λ n. drop n left) more ∙ ap (drop (suc count)) e

  pub first_is_forest : (p count : ℕ) → left ≡ Branch p count ∷ rest → IsForest (take (count + 1) left)
  first_is_forest p count e =
      let b = opens.branch w.forest p count rest (w.is ∙ e) in
      (branch p b.below none, alone p count b.below b.after (ap preorder (sym b.is) ∙ w.is ∙ e) b.inner ∙ sym (first_nodes p count e))

  -- the first tree, which was asked
  pub past_tree : (p count : ℕ) → left ≡ Branch p count ∷ rest → (here : Option ℕ)
      → ((s : Source) (f : Forest) → Reads r s → AreDeclarations s d → preorder f ≡ take (count + 1) left → StandsIn s f → here ≡ least (broken_among s d f))
      → Swept r d (drop (count + 1) left) (sooner found here)
  past_tree p count e here asked =
      let b = opens.branch w.forest p count rest (w.is ∙ e) in
      let first = branch p b.below none in
      let nodes = alone p count b.below b.after (ap preorder (sym b.is) ∙ w.is ∙ e) b.inner ∙ sym (first_nodes p count e) in
      record {
        forest = b.after;
        is = b.rest ∙ sym (after_nodes p count e);
        stands = λ s reads h. stands_after s p b.below b.after (subst (StandsIn s) b.is (w.stands s reads h));
        rest = λ s reads all h.
            let now = subst (StandsIn s) b.is (w.stands s reads h) in
            sooner_assoc found here (least (broken_among s d b.after))
            ∙ ap (λ o. sooner found (sooner o (least (broken_among s d b.after)))) (asked s first reads all nodes (stands_alone s p b.below b.after now))
            ∙ ap (sooner found) (sym ((split_all joins s d).tree p b.below b.after))
            ∙ ap (λ g. sooner found (least (broken_among s d g))) (sym b.is)
            ∙ w.rest s reads all h;
      }

-- at the end nothing is left
pub ended : ForestOpens → (r : Reader) (d : Declarations) (left : List TreeNode) (found : Option ℕ) → left ≡ [] → Swept r d left found
    → (s : Source) → Reads r s → AreDeclarations s d → StandsIn s s.tree → found ≡ least (broken_among s d s.tree)
ended opens r d left found e w s reads all h =
    nothing_more found ∙ ap (λ g. sooner found (least (broken_among s d g))) (sym (opens.none w.forest (w.is ∙ e))) ∙ w.rest s reads all h

-- ---- the whole pass

passes_at : TokensStandInOrder → DerivationsHaveBodies → (r : Reader) (s : Source) (d : Declarations) → Reads r s → AreDeclarations s d
    → sooner (least (broken_among s d s.tree)) (least (members_twice_in s nothing_around (declarations s.tree))) ≡ least (broken_in_passes s)
unfolding nodes
passes_at order bodies r s d reads all =
    let ns = nodes_in s nothing_around s.tree in
    let by_bodies = flat_map (body_broken s) ns in
    let by_parts = flat_map (broken_at d.externs.names d.own.names d.classes.paths d.labels.names s) ns in
    let inner = twice_within s [] s.tree in
    let outer = members_twice_in s nothing_around (declarations s.tree) in
    let bodies_are : least by_bodies ≡ least (broken_in_bodies s) = ap least (sym (chosen_broken s ns)) ∙ all_bodies s in
    let parts_are : least by_parts ≡ least (broken_in_parts s) =
    all_parts s d.externs d.own d.labels d.classes all.externs all.own all.classes all.labels order bodies r reads in
    let members_are : sooner (least outer) (least inner) ≡ least (members_twice s) = all_twice s (least outer) (least inner) refl refl in
    let both_are : least (by_bodies ++ by_parts) ≡ least (broken_in_bodies s ++ broken_in_parts s) =
    least_append by_bodies by_parts
    ∙ ap (λ o. sooner o (least by_parts)) bodies_are
    ∙ ap (sooner (least (broken_in_bodies s))) parts_are
    ∙ sym (least_append (broken_in_bodies s) (broken_in_parts s)) in
    ap (λ o. sooner o (least outer)) (least_append (by_bodies ++ by_parts) inner)
    ∙ sooner_assoc (least (by_bodies ++ by_parts)) (least inner) (least outer)
    ∙ ap (sooner (least (by_bodies ++ by_parts))) (sooner_comm (least inner) (least outer) ∙ members_are)
    ∙ ap (λ o. sooner o (least (members_twice s))) both_are
    ∙ sym (least_append (broken_in_bodies s ++ broken_in_parts s) (members_twice s))

pub passes_are : TokensStandInOrder → DerivationsHaveBodies → (r : Reader) (s : Source) (d : Declarations) → Reads r s → AreDeclarations s d → (inner outer : Option ℕ)
    → inner ≡ least (broken_among s d s.tree) → outer ≡ least (members_twice_in s nothing_around (declarations s.tree))
    → sooner inner outer ≡ least (broken_in_passes s)
passes_are order bodies r s d reads all inner outer i o =
    ap (λ x. sooner x outer) i ∙ ap (sooner (least (broken_among s d s.tree))) o ∙ passes_at order bodies r s d reads all
