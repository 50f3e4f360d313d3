-- Clauses that aren't forward among the nodes of a method, piece by piece.
use Rattle.std.proofs.Common.{◌≡◌, ℕ, List, [], ◌∷◌, ◌++◌, ap, sym, ◌∙◌, refl, append_assoc, append-nil}
use Rattle.std.specs.Prelude.{Bool, true, false, ◌==◌, Option, if◌then◌else◌}
use Rattle.std.specs.List.{flat_map}
use Rattle.std.proofs.lemmas.Bool.Decides.{Decides-eqb}
use Rattle.ilasm_grammar.specs.declared.productions.TheConstants.{ITEM_TRY}
use Rattle.ilasm_grammar.specs.declared.tree.TreeNode.{TreeNode}
use Rattle.source_model.specs.BodyFaults.{clause_backwards}
use Rattle.source_model.specs.Clauses.{Guarded, clause_forms, guarded_in}
use Rattle.source_model.specs.Forest as tree
use Rattle.source_model.specs.Forest.{Forest, is_among, joined, part, preorder}
use Rattle.source_model.specs.Nodes.{Node}
use Rattle.source_model.specs.Source.{Source}
use Rattle.source_nodes.specs.Derived.{HasBodies}
use Rattle.source_nodes.specs.Least.{least, sooner}
use Rattle.source_nodes.specs.Readers.{Reads}
use Rattle.source_nodes.specs.declared.reader.Reader.{Reader}
use Rattle.source_syntax.proofs.LeastLemmas.{flat_append, least_append, sooner_assoc, sooner_comm}
use Rattle.check_bodies.specs.CodePlaces.{ArePlaces}
use Rattle.check_bodies.specs.Ranges.{backwards_at}
use Rattle.check_bodies.specs.declared.code_places.CodePlaces.{CodePlaces}
use Rattle.check_visitor.proofs.AskingLemmas.{Bodied}

-- a method of a source that is read, and what stands below the innermost `.try` around some of its nodes
pub record Within (r : Reader) (x : CodePlaces) (tried nodes : List TreeNode) : Type 0 where
  pub source : Source
  pub node : Node
  pub forest : Forest
  pub reads : Reads r source
  pub places : ArePlaces x source node.below
  pub tried-bodies : HasBodies source forest
  pub tried-is : preorder forest ≡ tried
  pub bodied : Bodied source nodes

module _ (s : Source) (n : Node) where
  abbrev pub found_among : Forest → Forest → List ℕ
  found_among t f = flat_map (clause_backwards s n) (guarded_in t f)

  guarded_joined : (t b a : Forest) → guarded_in t (joined b a) ≡ guarded_in t b ++ guarded_in t a
  guarded_joined t tree.none a = refl
  guarded_joined t (tree.leaf k f) a = guarded_joined t f a
  guarded_joined t (tree.branch p b f) a =
      let here : List Guarded =
      guarded_in (if p == ITEM_TRY then b else t) b ++ (if is_among clause_forms p then record { tried = t; clause = part p b } ∷ [] else []) in
      ap (λ gs. here ++ gs) (guarded_joined t f a) ∙ sym (append_assoc here (guarded_in t f) (guarded_in t a))

  at_clause : (t : Forest) (p : ℕ) (b : Forest)
      → flat_map (clause_backwards s n) (if is_among clause_forms p then record { tried = t; clause = part p b } ∷ [] else []) ≡ backwards_at s n t p b
  at_clause t p b = go (is_among clause_forms p)
    where
      go : (c : Bool) → flat_map (clause_backwards s n) (if c then record { tried = t; clause = part p b } ∷ [] else [])
          ≡ (if c then clause_backwards s n (record { tried = t; clause = part p b }) else [])
      go true = append-nil (clause_backwards s n (record { tried = t; clause = part p b }))
      go false = refl

  at_branch : (t : Forest) (p : ℕ) (b a : Forest) → least (found_among t (tree.branch p b a))
      ≡ sooner (sooner (least (found_among (if p == ITEM_TRY then b else t) b)) (least (backwards_at s n t p b))) (least (found_among t a))
  at_branch t p b a =
      let within = guarded_in (if p == ITEM_TRY then b else t) b in
      let here : List Guarded = if is_among clause_forms p then record { tried = t; clause = part p b } ∷ [] else [] in
      ap least (flat_append (clause_backwards s n) (within ++ here) (guarded_in t a))
      ∙ least_append (flat_map (clause_backwards s n) (within ++ here)) (found_among t a)
      ∙ ap (λ x. sooner x (least (found_among t a)))
      (ap least (flat_append (clause_backwards s n) within here)
      ∙ least_append (flat_map (clause_backwards s n) within) (flat_map (clause_backwards s n) here)
      ∙ ap (λ ks. sooner (least (flat_map (clause_backwards s n) within)) (least ks)) (at_clause t p b))

  with_nothing : (o : Option ℕ) → sooner o (least []) ≡ o
  with_nothing o = sooner_comm o (least [])

  -- past a `.try`, whose parts were asked
  pub past_try : (t : Forest) (p : ℕ) (b a : Forest) (found within : Option ℕ) → p ≡ ITEM_TRY → within ≡ least (found_among b b)
      → sooner (sooner found within) (least (found_among t a)) ≡ sooner found (least (found_among t (tree.branch p b a)))
  past_try t p b a found within own w =
      let own_test : (p == ITEM_TRY) ≡ true = (Decides-eqb p ITEM_TRY).1 own in
      let no_clause : is_among clause_forms p ≡ false = ap (is_among clause_forms) own in
      sooner_assoc found within (least (found_among t a))
      ∙ ap (λ x. sooner found (sooner x (least (found_among t a))))
      (w ∙ sym (with_nothing (least (found_among b b)))
      ∙ sym (ap (λ (c : Bool). sooner (least (found_among (if c then b else t) b)) (least (backwards_at s n t p b))) own_test
      ∙ ap (λ (c : Bool). sooner (least (found_among b b)) (least (if c then clause_backwards s n (record { tried = t; clause = part p b }) else []))) no_clause))
      ∙ ap (sooner found) (sym (at_branch t p b a))

  -- into any other production
  pub into_other : (t : Forest) (p : ℕ) (b a : Forest) (found here : Option ℕ) → (p == ITEM_TRY) ≡ false → here ≡ least (backwards_at s n t p b)
      → sooner (sooner found here) (least (found_among t (joined b a))) ≡ sooner found (least (found_among t (tree.branch p b a)))
  into_other t p b a found here other h =
      let low = least (found_among t b) in
      let rest = least (found_among t a) in
      let both : least (found_among t (joined b a)) ≡ sooner low rest =
      ap (λ gs. least (flat_map (clause_backwards s n) gs)) (guarded_joined t b a)
      ∙ ap least (flat_append (clause_backwards s n) (guarded_in t b) (guarded_in t a)) ∙ least_append (found_among t b) (found_among t a) in
      sooner_assoc found here (least (found_among t (joined b a)))
      ∙ ap (λ x. sooner found (sooner here x)) both
      ∙ ap (sooner found)
      (sym (sooner_assoc here low rest) ∙ ap (λ x. sooner x rest) (sooner_comm here low) ∙ ap (λ x. sooner (sooner low x) rest) h
      ∙ sym (ap (λ (c : Bool). sooner (sooner (least (found_among (if c then b else t) b)) (least (backwards_at s n t p b))) rest) other))
      ∙ ap (sooner found) (sym (at_branch t p b a))

-- the least of what was found and of what the rest has
abbrev pub sought : (r : Reader) (x : CodePlaces) (tried nodes : List TreeNode) → Option ℕ → Within r x tried nodes → Forest → Option ℕ
sought r x tried nodes found i f = sooner found (least (found_among i.source i.node i.forest f))
