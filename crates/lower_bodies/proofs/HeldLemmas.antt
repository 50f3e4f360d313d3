-- How far the walk for what a method has has come.
use Rattle.std.proofs.Common.{◌≡◌, ℕ, ◌+◌, ◌≤◌, List, [], ◌∷◌, ◌++◌, length, take, drop, refl, ap, sym, ◌∙◌, arith, length-drop, drop-drop, slice_get}
use Rattle.std.specs.Prelude.{Bool, true, false, Some, ◌||◌, ◌==◌, if◌then◌else◌}
use Rattle.std.proofs.lemmas.List.{drop_all, drop_more, take-append-drop}
use Rattle.std.proofs.lemmas.Option.{slice_get_within, get_or_from_slice_get}
use Rattle.ilasm_grammar.specs.declared.productions.TheConstants.{INIT_OPT_SOME, ITEM_ENTRYPOINT, ITEM_MAXSTACK, LOCAL, OVERRIDDEN_METHOD, OVERRIDDEN_SPEC}
use Rattle.ilasm_grammar.specs.declared.tree.TreeNode.{TreeNode}
use Rattle.ilasm_grammar.specs.declared.tree.TreeNode.TheVariants.{Branch, Leaf}
use Rattle.source_model.specs.Clauses.{clause_forms}
use Rattle.source_model.specs.Forest as tree
use Rattle.source_model.specs.Forest.{Forest, Part, is_among, is_any_part, joined, part, parts, parts_outside, preorder}
use Rattle.source_model.specs.Laws.{ForestOpens, ForestsJoin, OneForest}
use Rattle.source_nodes.specs.Derived.{HasBodies}
use Rattle.source_nodes.specs.Walk.{IsForest}
use Rattle.source_model.specs.Source.{Source}
use Rattle.lower_bodies.specs.HeldItems.{AddsTo, IsHeld, holding_nothing, holds, line_forms, passed_forms, told_forms}
use Rattle.lower_bodies.specs.declared.held.Held.{Held}
use Rattle.lower_bodies.proofs.PastLemmas.{is_unpassed, same_past}

-- what is known, with what the rest holds, is what the whole holds
abbrev pub Says : List ℕ → Bool → Forest → Forest → Type 0
Says sought known rest f = holds sought f ≡ (known || holds sought rest)

pub record AllSay (x : Held) (rest f : Forest) : Type 0 where
  pub overrides : Says (OVERRIDDEN_METHOD ∷ OVERRIDDEN_SPEC ∷ []) x.overrides rest f
  pub entry : Says (ITEM_ENTRYPOINT ∷ []) x.entry rest f
  pub bound : Says (ITEM_MAXSTACK ∷ []) x.bound rest f
  pub local : Says (LOCAL ∷ []) x.local rest f
  pub init : Says (INIT_OPT_SOME ∷ []) x.init rest f
  pub clause : Says clause_forms x.clause rest f
  pub lines : Says line_forms x.lines rest f

-- up to `at` this is known; what is left is a forest, and what it holds completes what the whole holds
pub record Walked (nodes : List TreeNode) (at : ℕ) (x : Held) : Type 0 where
  pub left : Forest
  pub within : at ≤ length nodes
  pub is : preorder left ≡ drop at nodes
  pub says : (f : Forest) → preorder f ≡ nodes → AllSay x left f

or_or : (a b c : Bool) → (a || (b || c)) ≡ ((a || b) || c)
or_or true b c = refl
or_or false b c = refl

or_false : (a : Bool) → (a || false) ≡ a
or_false true = refl
or_false false = refl

-- ---- what isn't looked for adds nothing

neither : (a b : Bool) → (a || b) ≡ false → (a ≡ false) × (b ≡ false)
neither true b e = absurd cc
neither false b e = (refl, e)

among_neither : (xs ys : List ℕ) (p : ℕ) → is_among (xs ++ ys) p ≡ false → (is_among xs p ≡ false) × (is_among ys p ≡ false)
among_neither [] ys p e = (refl, e)
among_neither (x ∷ xs) ys p e =
    let h = neither (x == p) (is_among (xs ++ ys) p) e in
    let rest = among_neither xs ys p h.1 in
    (ap (λ c. c || is_among xs p) h.0 ∙ rest.0, rest.1)

adds_nothing : (a b : Bool) → b ≡ false → a ≡ (a || b)
adds_nothing a b e = sym (or_false a) ∙ ap (λ c. a || c) (sym e)

-- a production that is none of those that are looked for
pub record Untold (p : ℕ) : Type 0 where
  pub overrides : is_among (OVERRIDDEN_METHOD ∷ OVERRIDDEN_SPEC ∷ []) p ≡ false
  pub entry : is_among (ITEM_ENTRYPOINT ∷ []) p ≡ false
  pub bound : is_among (ITEM_MAXSTACK ∷ []) p ≡ false
  pub local : is_among (LOCAL ∷ []) p ≡ false
  pub init : is_among (INIT_OPT_SOME ∷ []) p ≡ false
  pub clause : is_among clause_forms p ≡ false
  pub lines : is_among line_forms p ≡ false

all_untold : (p : ℕ) → is_among told_forms p ≡ false → Untold p
all_untold p e =
    let h1 = among_neither (OVERRIDDEN_METHOD ∷ OVERRIDDEN_SPEC ∷ []) (ITEM_ENTRYPOINT ∷ ITEM_MAXSTACK ∷ LOCAL ∷ INIT_OPT_SOME ∷ (clause_forms ++ line_forms)) p e in
    let h2 = among_neither (ITEM_ENTRYPOINT ∷ []) (ITEM_MAXSTACK ∷ LOCAL ∷ INIT_OPT_SOME ∷ (clause_forms ++ line_forms)) p h1.1 in
    let h3 = among_neither (ITEM_MAXSTACK ∷ []) (LOCAL ∷ INIT_OPT_SOME ∷ (clause_forms ++ line_forms)) p h2.1 in
    let h4 = among_neither (LOCAL ∷ []) (INIT_OPT_SOME ∷ (clause_forms ++ line_forms)) p h3.1 in
    let h5 = among_neither (INIT_OPT_SOME ∷ []) (clause_forms ++ line_forms) p h4.1 in
    let h6 = among_neither clause_forms line_forms p h5.1 in
    record { overrides = h1.0; entry = h2.0; bound = h3.0; local = h4.0; init = h5.0; clause = h6.0; lines = h6.1 }

pub untold : (x : Held) (p : ℕ) → is_among told_forms p ≡ false → AddsTo x p x
untold x p e =
    let u = all_untold p e in
    record {
      overrides = adds_nothing x.overrides _ u.overrides;
      entry = adds_nothing x.entry _ u.entry;
      bound = adds_nothing x.bound _ u.bound;
      local = adds_nothing x.local _ u.local;
      init = adds_nothing x.init _ u.init;
      clause = adds_nothing x.clause _ u.clause;
      lines = adds_nothing x.lines _ u.lines;
    }

-- a branch holds what is sought where it is that, or where it stands in it or after it
branch_holds : ForestsJoin → (sought : List ℕ) (p : ℕ) (b a : Forest) → is_among passed_forms p ≡ false
    → holds sought (tree.branch p b a) ≡ (is_among sought p || holds sought (joined b a))
branch_holds joins sought p b a unshut = go (is_among sought p) refl
  where
    inner : List Part
    inner = parts_outside passed_forms sought b

    later : List Part
    later = parts_outside passed_forms sought a

    go : (c : Bool) → is_among sought p ≡ c → holds sought (tree.branch p b a) ≡ (c || holds sought (joined b a))
    go true e = ap (λ (c : Bool). is_any_part ((if c then part p b ∷ [] else if is_among passed_forms p then [] else inner) ++ later)) e
    go false e =
        ap (λ (c : Bool). is_any_part ((if c then part p b ∷ [] else if is_among passed_forms p then [] else inner) ++ later)) e
        ∙ ap (λ (c : Bool). is_any_part ((if c then [] else inner) ++ later)) unshut
        ∙ ap is_any_part (sym (joins.parts passed_forms sought b a))

goes_in : ForestsJoin → (sought : List ℕ) (known more : Bool) (p : ℕ) (b a f : Forest) → is_among passed_forms p ≡ false
    → more ≡ (known || is_among sought p) → Says sought known (tree.branch p b a) f → Says sought more (joined b a) f
goes_in joins sought known more p b a f other adds says =
    says ∙ ap (λ c. known || c) (branch_holds joins sought p b a other) ∙ or_or known (is_among sought p) (holds sought (joined b a))
    ∙ ap (λ c. c || holds sought (joined b a)) (sym adds)

-- one that is gone past holds what stands after it
goes_past : (sought : List ℕ) (known : Bool) (p : ℕ) (b a f : Forest) → is_among passed_forms p ≡ true → is_among sought p ≡ false
    → Says sought known (tree.branch p b a) f → Says sought known a f
goes_past sought known p b a f closed other says =
    let inner : List Part = parts_outside passed_forms sought b in
    let later : List Part = parts_outside passed_forms sought a in
    says
    ∙ ap (λ (c : Bool). known || is_any_part ((if c then part p b ∷ [] else if is_among passed_forms p then [] else inner) ++ later)) other
    ∙ ap (λ (c : Bool). known || is_any_part ((if c then [] else inner) ++ later)) closed

module _ (one : OneForest) (opens : ForestOpens) (joins : ForestsJoin) (nodes : List TreeNode) where
  pub begins : IsForest nodes → Walked nodes 0 holding_nothing
  begins g = record {
    left = g.0;
    within = omega arith;
    is = g.1;
    says = λ f e.
        let same : f ≡ g.0 = one.one f g.0 (e ∙ sym g.1) in
        record {
          overrides = ap (holds (OVERRIDDEN_METHOD ∷ OVERRIDDEN_SPEC ∷ [])) same;
          entry = ap (holds (ITEM_ENTRYPOINT ∷ [])) same;
          bound = ap (holds (ITEM_MAXSTACK ∷ [])) same;
          local = ap (holds (LOCAL ∷ [])) same;
          init = ap (holds (INIT_OPT_SOME ∷ [])) same;
          clause = ap (holds clause_forms) same;
          lines = ap (holds line_forms) same;
        };
  }

  -- what says something of one forest says it of an equal one
  moved : (x : Held) (g h f : Forest) → g ≡ h → AllSay x g f → AllSay x h f
  moved x g h f e s = record {
    overrides = s.overrides ∙ ap (λ k. x.overrides || holds (OVERRIDDEN_METHOD ∷ OVERRIDDEN_SPEC ∷ []) k) e;
    entry = s.entry ∙ ap (λ k. x.entry || holds (ITEM_ENTRYPOINT ∷ []) k) e;
    bound = s.bound ∙ ap (λ k. x.bound || holds (ITEM_MAXSTACK ∷ []) k) e;
    local = s.local ∙ ap (λ k. x.local || holds (LOCAL ∷ []) k) e;
    init = s.init ∙ ap (λ k. x.init || holds (INIT_OPT_SOME ∷ []) k) e;
    clause = s.clause ∙ ap (λ k. x.clause || holds clause_forms k) e;
    lines = s.lines ∙ ap (λ k. x.lines || holds line_forms k) e;
  }

  -- what is left at a node begins with it
  from_node : (at : ℕ) (node : TreeNode) → slice_get nodes at ≡ Some node → drop at nodes ≡ node ∷ drop (at + 1) nodes
  from_node at node e =
      drop_more nodes at node (slice_get_within nodes at node e)
      ∙ ap (λ x. x ∷ drop (at + 1) nodes) (get_or_from_slice_get nodes at node node e)

  pub past_leaf : (at token : ℕ) (x : Held) → slice_get nodes at ≡ Some (Leaf token) → Walked nodes at x → Walked nodes (at + 1) x
  past_leaf at token x e w =
      let b = opens.leaf w.left token (drop (at + 1) nodes) (w.is ∙ from_node at (Leaf token) e) in
      let less = slice_get_within nodes at (Leaf token) e in
      record {
        left = b.after;
        within = omega (arith, less);
        is = b.rest;
        says = λ f whole.
            let s = moved x w.left (tree.leaf token b.after) f b.is (w.says f whole) in
            record { overrides = s.overrides; entry = s.entry; bound = s.bound; local = s.local; init = s.init; clause = s.clause; lines = s.lines };
      }

  -- one that is gone past is none of those that are looked for, and what stands in it doesn't count
  pub past_shut : (at p count : ℕ) (x : Held) → slice_get nodes at ≡ Some (Branch p count) → is_among passed_forms p ≡ true → is_among told_forms p ≡ false
      → Walked nodes at x → Walked nodes (at + 1 + count) x
  past_shut at p count x e closed other w =
      let b = opens.branch w.left p count (drop (at + 1) nodes) (w.is ∙ from_node at (Branch p count) e) in
      let less = slice_get_within nodes at (Branch p count) e in
      let u = all_untold p other in
      record {
        left = b.after;
        within = omega (arith, less, b.within, length-drop (at + 1) nodes);
        is = b.rest ∙ drop-drop count (at + 1) nodes;
        says = λ f whole.
            let s = moved x w.left (tree.branch p b.below b.after) f b.is (w.says f whole) in
            record {
              overrides = goes_past (OVERRIDDEN_METHOD ∷ OVERRIDDEN_SPEC ∷ []) x.overrides p b.below b.after f closed u.overrides s.overrides;
              entry = goes_past (ITEM_ENTRYPOINT ∷ []) x.entry p b.below b.after f closed u.entry s.entry;
              bound = goes_past (ITEM_MAXSTACK ∷ []) x.bound p b.below b.after f closed u.bound s.bound;
              local = goes_past (LOCAL ∷ []) x.local p b.below b.after f closed u.local s.local;
              init = goes_past (INIT_OPT_SOME ∷ []) x.init p b.below b.after f closed u.init s.init;
              clause = goes_past clause_forms x.clause p b.below b.after f closed u.clause s.clause;
              lines = goes_past line_forms x.lines p b.below b.after f closed u.lines s.lines;
            };
      }

  pub into_branch : (at p count : ℕ) (x y : Held) → slice_get nodes at ≡ Some (Branch p count) → is_among passed_forms p ≡ false → AddsTo x p y
      → Walked nodes at x → Walked nodes (at + 1) y
  into_branch at p count x y e other adds w =
      let b = opens.branch w.left p count (drop (at + 1) nodes) (w.is ∙ from_node at (Branch p count) e) in
      let less = slice_get_within nodes at (Branch p count) e in
      record {
        left = joined b.below b.after;
        within = omega (arith, less);
        is = joins.nodes b.below b.after ∙ ap (λ ns. ns ++ preorder b.after) b.inner ∙ ap (λ ns. take count (drop (at + 1) nodes) ++ ns) b.rest
            ∙ take-append-drop count (drop (at + 1) nodes);
        says = λ f whole.
            let s = moved x w.left (tree.branch p b.below b.after) f b.is (w.says f whole) in
            record {
              overrides = goes_in joins (OVERRIDDEN_METHOD ∷ OVERRIDDEN_SPEC ∷ []) x.overrides y.overrides p b.below b.after f other adds.overrides s.overrides;
              entry = goes_in joins (ITEM_ENTRYPOINT ∷ []) x.entry y.entry p b.below b.after f other adds.entry s.entry;
              bound = goes_in joins (ITEM_MAXSTACK ∷ []) x.bound y.bound p b.below b.after f other adds.bound s.bound;
              local = goes_in joins (LOCAL ∷ []) x.local y.local p b.below b.after f other adds.local s.local;
              init = goes_in joins (INIT_OPT_SOME ∷ []) x.init y.init p b.below b.after f other adds.init s.init;
              clause = goes_in joins clause_forms x.clause y.clause p b.below b.after f other adds.clause s.clause;
              lines = goes_in joins line_forms x.lines y.lines p b.below b.after f other adds.lines s.lines;
            };
      }

  pub ends : (at : ℕ) (x : Held) → length nodes ≤ at → Walked nodes at x → (f : Forest) → preorder f ≡ nodes → IsHeld x f
  ends at x over w f whole =
      let s = moved x w.left tree.none f (opens.none w.left (w.is ∙ drop_all at nodes over)) (w.says f whole) in
      record {
        overrides = sym (s.overrides ∙ or_false x.overrides);
        entry = sym (s.entry ∙ or_false x.entry);
        bound = sym (s.bound ∙ or_false x.bound);
        local = sym (s.local ∙ or_false x.local);
        init = sym (s.init ∙ or_false x.init);
        clause = sym (s.clause ∙ or_false x.clause);
        lines = sym (s.lines ∙ or_false x.lines);
      }

-- ---- what isn't held

no_part : (ps : List Part) → is_any_part ps ≡ false → ps ≡ []
no_part [] e = refl
no_part (p ∷ ps) e = absurd cc

pub not_held : (sought : List ℕ) → is_unpassed sought ≡ true → (s : Source) (f : Forest) → HasBodies s f → holds sought f ≡ false → parts sought f ≡ []
not_held sought past s f h e = sym (same_past sought past s f h) ∙ no_part (parts_outside passed_forms sought f) e
