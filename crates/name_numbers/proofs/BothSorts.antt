-- All nodes of both sorts have their numbers.
use Rattle.std.proofs.Common.{◌≡◌, ℕ, ◌<◌, inl, inr, true, false, List, [], Some, length, refl, sym, ◌∙◌, ap, subst, arith}
use Rattle.std.specs.Prelude.{slice_get}
use Rattle.std.proofs.lemmas.Bool.{cases_lt, cases_Bool, false≢true}
use Rattle.std.proofs.lemmas.Option.{same_Some}
use Rattle.type_terms.specs.declared.name.TypeId.{TypeId}
use Rattle.name_numbers.specs.Names.{name_by, name_of, parent_at, id_at, is_root, AreNodes, AreNumbers, AreRoots, root_named, named_at, number_at, root_at, depth_at}
use Rattle.name_numbers.specs.Numbering.{HaveNumbers, HasEntry, IsNumbering, AreBelow, Settles}
use Rattle.name_numbers.specs.Table.{Finds}
use Rattle.name_numbers.specs.declared.numbering.Named.{Named}
use Rattle.name_numbers.specs.declared.numbering.Node.{Node}
use Rattle.name_numbers.specs.declared.numbering.Numbering.{Numbering}
use Rattle.name_numbers.specs.declared.table.Entry.{Entry}
use Rattle.name_numbers.proofs.Naming.{full, at_root, no_texts}
use Rattle.name_numbers.proofs.Roots.{root_cases, no_root}

-- ---- the roots alone

module _ (heap : List ℕ) (nodes : List Node) (last : ℕ) (state : Numbering) (finds : Finds state.table heap) (empty : state.table.entries ≡ [])
    (roots : AreRoots (length nodes) last state.named.items) where
  abbrev named : List Named
  named = state.named.items

  not_both : (k : ℕ) → is_root last k ≡ true → is_root last k ≡ false → ⊥
  not_both k e f = false≢true (sym f ∙ e)

  is_named : (k : ℕ) → k < length nodes → is_root last k ≡ true → named_at named k ≡ root_named k
  is_named k less e = roots.root k less e

  root_of : (k : ℕ) → k < length nodes → 0 < depth_at named k → is_root last k ≡ true
  root_of k less some = elim (cases_Bool (is_root last k)) [
    | inl e ↦ e
    | inr e ↦ let d = roots.other k less e in absurd (omega arith)
  ]

  name_is : (k : ℕ) → is_root last k ≡ true → name_by (parent_at nodes) (id_at heap nodes) (is_root last) 100 k ≡ full k []
  name_is k e = at_root (parent_at nodes) (id_at heap nodes) (is_root last) 100 k e

  number_is : (k : ℕ) → k < length nodes → is_root last k ≡ true → number_at named k ≡ k
  number_is k less e = ap (λ (n : Named). n.number) (is_named k less e)

  depth_is : (k : ℕ) → k < length nodes → is_root last k ≡ true → depth_at named k ≡ 1
  depth_is k less e = ap (λ (n : Named). n.depth) (is_named k less e)

  none_noted : (p : ℕ) (x : TypeId) (k : ℕ) → HasEntry heap state.table.entries p x k → ⊥
  none_noted p x k h =
      let at : slice_get [] h.place ≡ Some h.entry = ap (λ (es : List Entry). slice_get es h.place) (sym empty) ∙ h.at in
      absurd cc

  pub roots_numbered : HaveNumbers (parent_at nodes) (id_at heap nodes) (is_root last) (length nodes) 100 (HasEntry heap state.table.entries)
      (number_at named) (root_at named) (depth_at named)
  roots_numbered = record {
    roots = λ k less e. (number_is k less e, let d = depth_is k less e in omega arith);
    steps = λ k less e some. absurd (not_both k (root_of k less some) e);
    has = λ k less some.
        let e = root_of k less some in
        ([], name_is k e ∙ ap (λ o. full o []) (sym (ap (λ (n : Named). n.root) (is_named k less e))), depth_is k less e);
    same = λ j k less_j less_k some_j some_k.
        let e = root_of j less_j some_j in
        let f = root_of k less_k some_k in
        let a = number_is j less_j e in
        let b = number_is k less_k f in (
          λ same. let both : j ≡ k = sym a ∙ same ∙ b in ap (λ z. name_by (parent_at nodes) (id_at heap nodes) (is_root last) 100 z) both,
          λ same.
              let both : j ≡ k = ap (λ (n : ℕ × List TypeId). n.0) (same_Some _ _ (sym (name_is j e) ∙ same ∙ name_is k f)) in
              a ∙ both ∙ sym b,
        );
    there = λ k less some.
        let e = root_of k less some in
        let n = number_is k less e in
        (omega arith, subst (λ z. 0 < depth_at named z) (sym n) some, ap (number_at named) n);
    noted = λ k less e some own. absurd (not_both k (root_of k less some) e);
    noting = λ p x k h. absurd (none_noted p x k h);
  }

  pub roots_state : IsNumbering heap nodes last state
  roots_state = record { finds = finds; long = roots.long; numbers = roots_numbered }

pub none_below : (entries : List Entry) (bound : ℕ) → entries ≡ [] → AreBelow entries bound
none_below entries bound empty e k at =
    let here : slice_get [] k ≡ Some e = ap (λ (es : List Entry). slice_get es k) (sym empty) ∙ at in
    absurd cc

-- ---- both sorts

module _ (heap : List ℕ) (nodes : List Node) (middle last : ℕ) (ok : AreNodes nodes middle last) (begun first second : Numbering)
    (below : AreBelow begun.table.entries middle) (one : Settles heap nodes last 1 middle begun first) (two : Settles heap nodes last middle last first second) where
  kept : (k : ℕ) → k < middle → named_at second.named.items k ≡ named_at first.named.items k
  kept k less = two.outside k (inl less)

  all_named : (k : ℕ) (name : ℕ × List TypeId) → k < length nodes → name_of heap nodes last k ≡ Some name → 0 < depth_at second.named.items k
  all_named k name less h = elim (root_cases last k) [
    | inl root ↦ (two.state.numbers.roots k less root).1
    | inr inner ↦ elim (cases_lt k middle) [
      | inl low ↦
          let s = one.all k name inner.0 low h in
          let d : depth_at second.named.items k ≡ depth_at first.named.items k = ap (λ (n : Named). n.depth) (kept k low) in
          omega arith
      | inr high ↦ two.all k name high inner.1 h
    ]
  ]

  -- the number of a node of the first sort is that of one
  inner_early : (k : ℕ) → k < length nodes → is_root last k ≡ false → 0 < depth_at first.named.items k → number_at first.named.items k < middle
  inner_early k less e some =
      let s = one.state.numbers in
      let m : ℕ = number_at first.named.items k in
      let t = s.there k less some in
      let same : name_of heap nodes last m ≡ name_of heap nodes last k = (s.same m k t.0 less t.1 some).0 t.2 in
      let no : is_root last m ≡ false = elim (cases_Bool (is_root last m)) [
        | inl root ↦
            let name : name_of heap nodes last k ≡ full m [] = sym same ∙ at_root (parent_at nodes) (id_at heap nodes) (is_root last) 100 m root in
            absurd (false≢true (sym e ∙ no_texts (parent_at nodes) (id_at heap nodes) (is_root last) 100 k (m, []) name refl))
        | inr n ↦ n
      ] in
      let noted = s.noted m t.0 no t.1 t.2 in
      let b = one.below middle (omega arith) below noted.entry noted.place noted.at in
      let n = noted.number_is in
      omega arith

  early : (k : ℕ) → k < middle → 0 < depth_at second.named.items k → number_at second.named.items k < middle
  early k less some =
      let within : k < length nodes = let o = ok.order in let w = ok.within in omega arith in
      let same = kept k less in
      let depth : depth_at second.named.items k ≡ depth_at first.named.items k = ap (λ (n : Named). n.depth) same in
      let number : number_at second.named.items k ≡ number_at first.named.items k = ap (λ (n : Named). n.number) same in
      elim (root_cases last k) [
        | inl root ↦ let r = (one.state.numbers.roots k within root).0 in omega arith
        | inr inner ↦ let e = inner_early k within (no_root last k inner.0 inner.1) (omega arith) in omega arith
      ]

  pub all_numbered : AreNumbers heap nodes middle last second.named.items
  all_numbered = record {
    long = two.state.long;
    has = two.state.numbers.has;
    all = all_named;
    same = two.state.numbers.same;
    there = two.state.numbers.there;
    early = early;
  }
