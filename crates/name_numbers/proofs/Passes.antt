-- Nodes are looked at one after the other, in passes.
use Rattle.std.proofs.Common.{◌≡◌, ℕ, zero, suc, ◌+◌, ◌<◌, ◌≤◌, ◌⊎◌, inl, inr, Bool, true, false, List, Option, Some, length, set, refl, sym, ◌∙◌, ap, subst, arith}
use Rattle.std.proofs.lemmas.Bool.{cases_lt}
use Rattle.std.proofs.lemmas.List.{length-set, get_or-set_same, get_or-set_other}
use Rattle.std.proofs.lemmas.Option.{none-some, same_Some}
use Rattle.type_terms.specs.declared.name.TypeId.{TypeId}
use Rattle.name_numbers.specs.Names.{name_by, node_at, parent_at, id_at, is_root, max_texts, named_at, number_at, root_at, depth_at}
use Rattle.name_numbers.specs.Table.{Finds, Told, told}
use Rattle.name_numbers.specs.Numbering.{HaveNumbers, HasEntry, IsNumbering, AreBelow, Visits, Settles, IsSort, GivesNumber}
use Rattle.name_numbers.specs.declared.numbering.Named.{Named}
use Rattle.name_numbers.specs.declared.numbering.Node.{Node}
use Rattle.name_numbers.specs.declared.numbering.Numbering.{Numbering}
use Rattle.name_numbers.proofs.Growing.{grown}
use Rattle.name_numbers.proofs.Naming.{at_end, enough, parent_has}

-- ---- one node

module _ (heap : List ℕ) (nodes : List Node) (last k : ℕ) (old : Numbering) (state : IsNumbering heap nodes last old) where
  abbrev named : List Named
  named = old.named.items

  abbrev outer : ℕ
  outer = parent_at nodes k

  pub visit_no : (0 < depth_at named k) ⊎ ((depth_at named outer ≡ 0) ⊎ (100 < depth_at named outer)) → Visits heap nodes last k (k + 1) old old false
  visit_no why = record {
    state = state;
    named = λ j from less some few. let is : j ≡ k = omega arith in elim why [
      | inl there ↦ subst (λ z. 0 < depth_at named z) (sym is) there
      | inr not ↦ let same : depth_at named (parent_at nodes j) ≡ depth_at named outer = ap (λ z. depth_at named (parent_at nodes z)) is in elim not [
        | inl none ↦ absurd (omega arith)
        | inr many ↦ absurd (omega arith)
      ]
    ];
    kept = λ j some. refl;
    outside = λ j away. refl;
    still = λ e j. refl;
    below = λ bound less all. all;
  }

  module _ (inside : (j : ℕ) → j < length nodes → parent_at nodes j < length nodes) (there : k < length nodes) (node : is_root last k ≡ false)
      (unnamed : depth_at named k ≡ 0) (behind : 0 < depth_at named outer) (few : depth_at named outer ≤ 100)
      (new : Numbering) (m : ℕ) (finds : Finds new.table heap)
      (gives : GivesNumber heap (record { parent = number_at named outer; id = id_at heap nodes k }) k old.table.entries new.table.entries m)
      (set_is : new.named.items ≡ set named k (record { number = m; root = root_at named outer; depth = depth_at named outer + 1 })) where
    abbrev none : Named
    none = record { number = 0; root = 0; depth = 0 }

    abbrev fresh : Named
    fresh = record { number = m; root = root_at named outer; depth = depth_at named outer + 1 }

    less_named : k < length named
    less_named = let l = state.long in omega arith

    here_is : named_at new.named.items k ≡ fresh
    here_is = ap (λ (ns : List Named). named_at ns k) set_is ∙ get_or-set_same named k fresh none less_named

    other_is : (j : ℕ) → (j ≡ k → ⊥) → named_at new.named.items j ≡ named_at named j
    other_is j n = ap (λ (ns : List Named). named_at ns j) set_is ∙ get_or-set_other named k j fresh none n

    only_told : (p : ℕ) (x : TypeId) (j : ℕ) → HasEntry heap new.table.entries p x j
        → HasEntry heap old.table.entries p x j ⊎ ((p ≡ number_at named outer) × (x ≡ id_at heap nodes k) × (j ≡ k) × (m ≡ k))
    only_told p x j h = elim (gives.only (record { parent = p; id = x }) j h) [
      | inl was ↦ inl was
      | inr is ↦ inr (ap (λ (t : Told). t.parent) is.0, ap (λ (t : Told). t.id) is.0, is.1, is.2)
    ]

    numbers : HaveNumbers (parent_at nodes) (id_at heap nodes) (is_root last) (length nodes) max_texts (HasEntry heap new.table.entries)
        (number_at new.named.items) (root_at new.named.items) (depth_at new.named.items)
    numbers =
        grown (parent_at nodes) (id_at heap nodes) (is_root last) (length nodes) max_texts (HasEntry heap old.table.entries) (HasEntry heap new.table.entries)
        (number_at named) (root_at named) (depth_at named) (number_at new.named.items) (root_at new.named.items) (depth_at new.named.items)
        state.numbers k there node inside unnamed behind few m
        (λ p x j h. gives.keeps (record { parent = p; id = x }) j h) only_told gives.here gives.old_or_new
        (ap (λ (n : Named). n.number) here_is) (ap (λ (n : Named). n.root) here_is) (ap (λ (n : Named). n.depth) here_is)
        (λ j n. let o = other_is j n in (ap (λ (n : Named). n.number) o, ap (λ (n : Named). n.root) o, ap (λ (n : Named). n.depth) o))

    visit_yes : Visits heap nodes last k (k + 1) old new true
    visit_yes = record {
      state = record { finds = finds; long = ap length set_is ∙ length-set named k fresh ∙ state.long; numbers = numbers };
      named = λ j from less some small. let is : j ≡ k = omega arith in
          subst (λ z. 0 < depth_at new.named.items z) (sym is) (let d : depth_at new.named.items k ≡ depth_at named outer + 1 = ap (λ (n : Named). n.depth) here_is in omega arith);
      kept = λ j some. other_is j (λ e. let d : depth_at named j ≡ depth_at named k = ap (depth_at named) e in absurd (omega arith));
      outside = λ j away. other_is j (λ e. elim away [ inl low ↦ absurd (omega arith) | inr high ↦ absurd (omega arith) ]);
      still = λ e j. absurd cc;
      below = λ bound less all. gives.below bound (omega arith) all;
    }

-- the same, by what was read of the node and of what encloses it
pub visited : (heap : List ℕ) (nodes : List Node) (last k : ℕ) (old : Numbering) → IsNumbering heap nodes last old
    → ((j : ℕ) → j < length nodes → parent_at nodes j < length nodes) → k < length nodes → is_root last k ≡ false
    → (node : Node) → node ≡ node_at nodes k → (outer : Named) → outer ≡ named_at old.named.items node.parent
    → depth_at old.named.items k ≡ 0 → (outer.depth ≡ 0 → ⊥) → outer.depth ≤ 100 → (new : Numbering) (m : ℕ) → Finds new.table heap
    → GivesNumber heap (told heap (record { parent = outer.number; space = node.space; text = node.text })) k old.table.entries new.table.entries m
    → new.named.items ≡ set old.named.items k (record { number = m; root = outer.root; depth = outer.depth + 1 }) → Visits heap nodes last k (k + 1) old new true
visited heap nodes last k old state inside there no_root node node_is outer outer_is unnamed behind few new m finds gives set_is =
    let ns : List Named = old.named.items in
    let at : outer ≡ named_at ns (parent_at nodes k) = outer_is ∙ ap (λ (n : Node). named_at ns n.parent) node_is in
    let depth : outer.depth ≡ depth_at ns (parent_at nodes k) = ap (λ (n : Named). n.depth) at in
    let by_outer : GivesNumber heap (told heap (record { parent = number_at ns (parent_at nodes k); space = node.space; text = node.text })) k old.table.entries new.table.entries m
    = subst (λ (o : Named). GivesNumber heap (told heap (record { parent = o.number; space = node.space; text = node.text })) k old.table.entries new.table.entries m) at gives in
    let by_node : GivesNumber heap (record { parent = number_at ns (parent_at nodes k); id = id_at heap nodes k }) k old.table.entries new.table.entries m
    = subst (λ (n : Node). GivesNumber heap (told heap (record { parent = number_at ns (parent_at nodes k); space = n.space; text = n.text })) k old.table.entries new.table.entries m) node_is by_outer in
    let set_at : new.named.items ≡ set ns k (record { number = m; root = root_at ns (parent_at nodes k); depth = depth_at ns (parent_at nodes k) + 1 })
    = subst (λ (o : Named). new.named.items ≡ set ns k (record { number = m; root = o.root; depth = o.depth + 1 })) at set_is in
    visit_yes heap nodes last k old state inside there no_root unnamed (omega arith) (omega arith) new m finds by_node set_at

-- ---- nodes one after the other

pub visits_none : (heap : List ℕ) (nodes : List Node) (last from : ℕ) (old : Numbering) → IsNumbering heap nodes last old → Visits heap nodes last from from old old false
visits_none heap nodes last from old state = record {
  state = state;
  named = λ k low high some few. absurd (omega arith);
  kept = λ k some. refl;
  outside = λ k away. refl;
  still = λ e k. refl;
  below = λ bound less all. all;
}

pub visits_more : (heap : List ℕ) (nodes : List Node) (last from i : ℕ) (old mid new : Numbering) (b c changed : Bool) → (changed ≡ false → (b ≡ false) × (c ≡ false)) → from ≤ i
    → Visits heap nodes last from i old mid b → Visits heap nodes last i (i + 1) mid new c → Visits heap nodes last from (i + 1) old new changed
visits_more heap nodes last from i old mid new b c changed falls order first then =
    let depth_kept : (k : ℕ) → 0 < depth_at old.named.items k → depth_at mid.named.items k ≡ depth_at old.named.items k
    = λ k some. ap (λ (n : Named). n.depth) (first.kept k some) in
    record {
      state = then.state;
      named = λ k low high some few. elim (cases_lt k i) [
        | inl less ↦
            let was = first.named k low less some few in
            let d : depth_at new.named.items k ≡ depth_at mid.named.items k = ap (λ (n : Named). n.depth) (then.kept k was) in
            omega arith
        | inr here ↦
            let d = depth_kept (parent_at nodes k) some in
            then.named k here high (omega arith) (omega arith)
      ];
      kept = λ k some. then.kept k (let d = depth_kept k some in omega arith) ∙ first.kept k some;
      outside = λ k away. elim away [
        | inl low ↦ then.outside k (inl (omega arith)) ∙ first.outside k (inl low)
        | inr high ↦ then.outside k (inr high) ∙ first.outside k (inr (omega arith))
      ];
      still = λ e k. let p = falls e in then.still p.1 k ∙ first.still p.0 k;
      below = λ bound less all. then.below bound less (first.below bound (omega arith) all);
    }

-- ---- passes

-- each node of a range with a name of so many texts has a number
pub record AreSoFar (heap : List ℕ) (nodes : List Node) (last from to most : ℕ) (old new : Numbering) : Type 0 where
  pub few : most ≤ 100
  pub state : IsNumbering heap nodes last new
  pub all : (k : ℕ) (name : ℕ × List TypeId) → from ≤ k → k < to → name_by (parent_at nodes) (id_at heap nodes) (is_root last) most k ≡ Some name
      → 0 < depth_at new.named.items k
  pub outside : (k : ℕ) → (k < from) ⊎ (to ≤ k) → named_at new.named.items k ≡ named_at old.named.items k
  pub below : (bound : ℕ) → to ≤ bound → AreBelow old.table.entries bound → AreBelow new.table.entries bound

module _ (heap : List ℕ) (nodes : List Node) (last from to : ℕ) (sort : IsSort nodes last from to) where
  abbrev N : ℕ → ℕ → Option (ℕ × List TypeId)
  N most k = name_by (parent_at nodes) (id_at heap nodes) (is_root last) most k

  -- no node of a range has a name without a text
  none_yet : (k : ℕ) (name : ℕ × List TypeId) → from ≤ k → k < to → N 0 k ≡ Some name → ⊥
  none_yet k name low high h = none-some name (sym (at_end (parent_at nodes) (id_at heap nodes) (is_root last) k (sort.no_root k low high)) ∙ h)

  pub begun : (old : Numbering) → IsNumbering heap nodes last old → AreSoFar heap nodes last from to 0 old old
  begun old state = record {
    few = omega arith;
    state = state;
    all = λ k name low high h. absurd (none_yet k name low high h);
    outside = λ k away. refl;
    below = λ bound less all. all;
  }

  -- where the nodes with names of so many texts have a number, so have those with one text more, behind a pass
  step : (most : ℕ) (before : Numbering) (after : List Named) → most < 100 → IsNumbering heap nodes last before
      → ((k : ℕ) (name : ℕ × List TypeId) → from ≤ k → k < to → N most k ≡ Some name → 0 < depth_at before.named.items k)
      → ((k : ℕ) → from ≤ k → k < to → 0 < depth_at before.named.items (parent_at nodes k) → depth_at before.named.items (parent_at nodes k) ≤ 100 → 0 < depth_at after k)
      → (k : ℕ) (name : ℕ × List TypeId) → from ≤ k → k < to → N (most + 1) k ≡ Some name → 0 < depth_at after k
  step most before after few state all named k name low high h =
      let outer : ℕ = parent_at nodes k in
      let outer_there : outer < length nodes = sort.there k (let w = sort.within in omega arith) in
      let p = parent_has (parent_at nodes) (id_at heap nodes) (is_root last) (most + 1) k name (sort.no_root k low high) h in
      let q : ℕ × List TypeId = p.0 in
      let told = enough (parent_at nodes) (id_at heap nodes) (is_root last) (most + 1) outer q p.1 most (let l = p.4 in omega arith) in
      let some : 0 < depth_at before.named.items outer = elim (sort.inside k low high) [
        | inl root ↦ (state.numbers.roots outer outer_there root).1
        | inr in_range ↦ all outer q in_range.0 in_range.1 told
      ] in
      let has = state.numbers.has outer outer_there some in
      let full_told = enough (parent_at nodes) (id_at heap nodes) (is_root last) most outer q told 100 (let l = p.4 in omega arith) in
      let same : (root_at before.named.items outer, has.0) ≡ q = same_Some _ q (sym has.1 ∙ full_told) in
      let long : length has.0 ≡ length q.1 = ap (λ (z : ℕ × List TypeId). length z.1) same in
      named k low high some (let d = has.2 in let l = p.4 in omega arith)

  pub one_more : (most : ℕ) (old mid new : Numbering) (changed : Bool) → most < 100 → AreSoFar heap nodes last from to most old mid
      → Visits heap nodes last from to mid new changed → AreSoFar heap nodes last from to (most + 1) old new
  one_more most old mid new changed few so visits = record {
    few = omega arith;
    state = visits.state;
    all = step most mid new.named.items few so.state so.all visits.named;
    outside = λ k away. visits.outside k away ∙ so.outside k away;
    below = λ bound less all. visits.below bound less (so.below bound less all);
  }

  -- a pass that names nothing leaves nothing to be named
  closed : (mid new : Numbering) → IsNumbering heap nodes last mid → Visits heap nodes last from to mid new false → (most : ℕ) → most ≤ 100
      → (k : ℕ) (name : ℕ × List TypeId) → from ≤ k → k < to → N most k ≡ Some name → 0 < depth_at mid.named.items k
  closed mid new state visits zero few k name low high h = absurd (none_yet k name low high h)
  closed mid new state visits (suc most) few k name low high h =
      step most mid mid.named.items (omega arith) state (closed mid new state visits most (omega arith))
      (λ j low high some small. let n = visits.named j low high some small in let d : depth_at new.named.items j ≡ depth_at mid.named.items j = ap (λ (n : Named). n.depth) (visits.still refl j) in omega arith)
      k name low high (let e : suc most ≡ most + 1 = omega arith in subst (λ z. N z k ≡ Some name) e h)

  pub settled_still : (most : ℕ) (old mid new : Numbering) → AreSoFar heap nodes last from to most old mid → Visits heap nodes last from to mid new false → Settles heap nodes last from to old new
  settled_still most old mid new so visits = record {
    state = visits.state;
    all = λ k name low high h.
        let d : depth_at new.named.items k ≡ depth_at mid.named.items k = ap (λ (n : Named). n.depth) (visits.still refl k) in
        let s = closed mid new so.state visits 100 (omega arith) k name low high h in
        omega arith;
    outside = λ k away. visits.outside k away ∙ so.outside k away;
    below = λ bound less all. visits.below bound less (so.below bound less all);
  }

  pub settled : (most : ℕ) (old new : Numbering) → 100 ≤ most → AreSoFar heap nodes last from to most old new → Settles heap nodes last from to old new
  settled most old new done so = record { state = so.state; all = λ k name low high h. so.all k name low high (let e : 100 ≡ most = let f = so.few in omega arith in subst (λ z. N z k ≡ Some name) e h); outside = so.outside; below = so.below }
