-- One node more gets its number.
use Rattle.std.proofs.Common.{◌≡◌, ℕ, ◌+◌, ◌<◌, ◌≤◌, ◌⊎◌, inl, inr, Bool, true, false, List, [], ◌∷◌, ◌++◌, Some, length, sym, ◌∙◌, ap, subst, arith}
use Rattle.std.specs.Prelude.{◌↔◌}
use Rattle.std.proofs.lemmas.Bool.{cases_eq, cases_Bool}
use Rattle.std.proofs.lemmas.List.{length-append}
use Rattle.std.proofs.lemmas.Option.{same_Some}
use Rattle.name_numbers.specs.Names.{name_by}
use Rattle.name_numbers.specs.Numbering.{HaveNumbers}
use Rattle.name_numbers.proofs.Naming.{at_root, parent_has, child_has, full, snoc_same}

module _ {X : Type 0} (up : ℕ → ℕ) (id : ℕ → X) (root : ℕ → Bool) (count most : ℕ) (Has Then : ℕ → X → ℕ → Type 0)
    (number origin depth : ℕ → ℕ) (numbered origin_then depth_then : ℕ → ℕ)
    (old : HaveNumbers up id root count most Has number origin depth)
    (k : ℕ) (there : k < count) (node : root k ≡ false) (inside : (j : ℕ) → j < count → up j < count) (unnamed : depth k ≡ 0)
    (behind : 0 < depth (up k)) (few : depth (up k) ≤ most) (m : ℕ)
    (keeps : (p : ℕ) (x : X) (j : ℕ) → Has p x j → Then p x j)
    (only : (p : ℕ) (x : X) (j : ℕ) → Then p x j → Has p x j ⊎ ((p ≡ number (up k)) × (x ≡ id k) × (j ≡ k) × (m ≡ k)))
    (here : Then (number (up k)) (id k) m)
    (old_or_new : Has (number (up k)) (id k) m ⊎ ((m ≡ k) × ((j : ℕ) → Has (number (up k)) (id k) j → ⊥)))
    (number_is : numbered k ≡ m) (origin_is : origin_then k ≡ origin (up k)) (depth_is : depth_then k ≡ depth (up k) + 1)
    (others : (j : ℕ) → (j ≡ k → ⊥) → (numbered j ≡ number j) × (origin_then j ≡ origin j) × (depth_then j ≡ depth j)) where
  outer : up k < count
  outer = inside k there

  -- a node with a number is another
  apart : (j : ℕ) → 0 < depth j → j ≡ k → ⊥
  apart j some e = let d : depth j ≡ depth k = ap depth e in absurd (omega arith)

  number_kept : (j : ℕ) → 0 < depth j → numbered j ≡ number j
  number_kept j some = (others j (apart j some)).0

  depth_kept : (j : ℕ) → 0 < depth j → 0 < depth_then j
  depth_kept j some = let d = (others j (apart j some)).2 in omega arith

  -- the name of what encloses the node, and its own
  abbrev before : List X
  before = (old.has (up k) outer behind).0

  before_is : name_by up id root most (up k) ≡ full (origin (up k)) before
  before_is = (old.has (up k) outer behind).1

  before_long : depth (up k) ≡ length before + 1
  before_long = (old.has (up k) outer behind).2

  name_is : name_by up id root most k ≡ full (origin (up k)) (before ++ id k ∷ [])
  name_is = child_has up id root most k (origin (up k), before) node before_is (let l = before_long in omega arith)

  -- a node that was named with this name before has a number that is noted for it
  alike_root : (j : ℕ) → name_by up id root most j ≡ name_by up id root most k → root j ≡ true → ⊥
  alike_root j same e =
      let n : full j [] ≡ full (origin (up k)) (before ++ id k ∷ []) = sym (at_root up id root most j e) ∙ same ∙ name_is in
      let l : 0 ≡ length (before ++ id k ∷ []) = ap (λ (z : ℕ × List X). length z.1) (same_Some _ _ n) in
      let a = length-append before (id k ∷ []) in
      absurd (omega arith)

  alike_node : (j : ℕ) → name_by up id root most j ≡ name_by up id root most k → root j ≡ false
  alike_node j same = elim (cases_Bool (root j)) [ inl e ↦ absurd (alike_root j same e) | inr e ↦ e ]

  alike_noted : (j : ℕ) → j < count → 0 < depth j → number j ≡ j → name_by up id root most j ≡ name_by up id root most k → Has (number (up k)) (id k) j
  alike_noted j less some own same =
      let n = alike_node j same in
      let p = parent_has up id root most j (origin (up k), before ++ id k ∷ []) n (same ∙ name_is) in
      let q : ℕ × List X = p.0 in
      let s = snoc_same before q.1 (id k) (id j) p.3 in
      let behind_j = old.steps j less n some in
      let names : name_by up id root most (up j) ≡ name_by up id root most (up k)
      = p.1 ∙ (let o : origin (up k) ≡ q.0 = p.2 in let b : before ≡ q.1 = s.0 in (λ i. full (sym o i) (sym b i))) ∙ sym before_is in
      let numbers : number (up j) ≡ number (up k) = (old.same (up j) (up k) (inside j less) outer behind_j behind).1 names in
      subst (λ x. Has (number (up k)) x j) (sym s.1) (subst (λ p. Has p (id j) j) numbers (old.noted j less n some own))

  alike : (j : ℕ) → j < count → 0 < depth j → name_by up id root most j ≡ name_by up id root most k → Has (number (up k)) (id k) (number j)
  alike j less some same =
      let t = old.there j less some in
      alike_noted (number j) t.0 t.1 t.2 ((old.same (number j) j t.0 less t.1 some).0 t.2 ∙ same)

  found : Has (number (up k)) (id k) m → (m < count) × (0 < depth m) × (number m ≡ m) × (name_by up id root most m ≡ name_by up id root most k)
  found has =
      let t = old.noting (number (up k)) (id k) m has in
      let behind_m = old.steps m t.0 t.1 t.2 in
      let names : name_by up id root most (up m) ≡ name_by up id root most (up k) = (old.same (up m) (up k) (inside m t.0) outer behind_m behind).0 (sym t.4) in
      let name : name_by up id root most m ≡ full (origin (up k)) (before ++ id m ∷ [])
      = child_has up id root most m (origin (up k), before) t.1 (names ∙ before_is) (let l = before_long in omega arith) in
      (t.0, t.2, t.3, name ∙ ap (λ x. full (origin (up k)) (before ++ x ∷ [])) (sym t.5) ∙ sym name_is)

  related : (j : ℕ) → j < count → 0 < depth j → (m ≡ number j) ↔ (name_by up id root most k ≡ name_by up id root most j)
  related j less some = elim old_or_new [
    | inl has ↦
        let f = found has in
        let s = old.same m j f.0 less f.1 some in
        (λ e. sym f.3 ∙ s.0 (f.2 ∙ e), λ e. sym f.2 ∙ s.1 (f.3 ∙ e))
    | inr new ↦ (
      λ e. let t = old.there j less some in absurd (apart (number j) t.1 (sym e ∙ new.0)),
      λ e. absurd (new.1 (number j) (alike j less some (sym e))),
    )
  ]

  -- ---- each part of what holds of the numbers

  then_roots : (j : ℕ) → j < count → root j ≡ true → (numbered j ≡ j) × (0 < depth_then j)
  then_roots j less e =
      let o = old.roots j less e in
      (number_kept j o.1 ∙ o.0, depth_kept j o.1)

  then_behind : 0 < depth_then (up k)
  then_behind = depth_kept (up k) behind

  then_steps : (j : ℕ) → j < count → root j ≡ false → 0 < depth_then j → 0 < depth_then (up j)
  then_steps j less e some = elim (cases_eq j k) [
    | inl is ↦ subst (λ z. 0 < depth_then (up z)) (sym is) then_behind
    | inr other ↦ let d = (others j other).2 in depth_kept (up j) (old.steps j less e (omega arith))
  ]

  abbrev HasThen : ℕ → Type 0
  HasThen j = (path : List X) × (name_by up id root most j ≡ Some (origin_then j, path)) × (depth_then j ≡ length path + 1)

  has_here : HasThen k
  has_here = (
    before ++ id k ∷ [],
    name_is ∙ ap (λ o. full o (before ++ id k ∷ [])) (sym origin_is),
    let l = before_long in let d = depth_is in let a = length-append before (id k ∷ []) in omega arith,
  )

  then_has : (j : ℕ) → j < count → 0 < depth_then j → HasThen j
  then_has j less some = elim (cases_eq j k) [
    | inl is ↦ subst HasThen (sym is) has_here
    | inr other ↦
        let o = others j other in
        let h = old.has j less (let d = o.2 in omega arith) in
        (h.0, h.1 ∙ ap (λ r. full r h.0) (sym o.1), o.2 ∙ h.2)
  ]

  abbrev SameThen : ℕ → ℕ → Type 0
  SameThen i j = (numbered i ≡ numbered j) ↔ (name_by up id root most i ≡ name_by up id root most j)

  same_here : (j : ℕ) → j < count → 0 < depth j → SameThen k j
  same_here j less some =
      let r = related j less some in
      let n = number_kept j some in
      (λ e. r.0 (sym number_is ∙ e ∙ n), λ e. number_is ∙ r.1 e ∙ sym n)

  then_same : (i j : ℕ) → i < count → j < count → 0 < depth_then i → 0 < depth_then j → SameThen i j
  then_same i j less_i less_j some_i some_j = elim (cases_eq i k) [
    | inl is ↦ elim (cases_eq j k) [
      | inl also ↦ let both : i ≡ j = is ∙ sym also in (λ e. ap (λ z. name_by up id root most z) both, λ e. ap numbered both)
      | inr other ↦ let d = (others j other).2 in subst (λ z. SameThen z j) (sym is) (same_here j less_j (omega arith))
    ]
    | inr apart_i ↦ elim (cases_eq j k) [
      | inl is ↦
          let d = (others i apart_i).2 in
          let s = same_here i less_i (omega arith) in
          subst (λ z. SameThen i z) (sym is) (λ e. sym (s.0 (sym e)), λ e. sym (s.1 (sym e)))
      | inr apart_j ↦
          let o = others i apart_i in
          let p = others j apart_j in
          let s = old.same i j less_i less_j (let d = o.2 in omega arith) (let d = p.2 in omega arith) in
          (λ e. s.0 (sym o.0 ∙ e ∙ p.0), λ e. o.0 ∙ s.1 e ∙ sym p.0)
    ]
  ]

  abbrev ThereThen : ℕ → Type 0
  ThereThen j = (j < count) × (0 < depth_then j) × (numbered j ≡ j)

  number_there : ThereThen m
  number_there = elim old_or_new [
    | inl has ↦ let f = found has in (f.0, depth_kept m f.1, number_kept m f.1 ∙ f.2)
    | inr new ↦ subst ThereThen (sym new.0) (there, let d = depth_is in omega arith, number_is ∙ new.0)
  ]

  then_there : (j : ℕ) → j < count → 0 < depth_then j → (numbered j < count) × (0 < depth_then (numbered j)) × (numbered (numbered j) ≡ numbered j)
  then_there j less some = elim (cases_eq j k) [
    | inl is ↦ subst ThereThen (sym (ap numbered is ∙ number_is)) number_there
    | inr other ↦
        let o = others j other in
        let t = old.there j less (let d = o.2 in omega arith) in
        subst ThereThen (sym o.0) (t.0, depth_kept (number j) t.1, number_kept (number j) t.1 ∙ t.2)
  ]

  then_noted : (j : ℕ) → j < count → root j ≡ false → 0 < depth_then j → numbered j ≡ j → Then (numbered (up j)) (id j) j
  then_noted j less e some own = elim (cases_eq j k) [
    | inl is ↦
        let mine : m ≡ k = sym number_is ∙ ap numbered (sym is) ∙ own ∙ is in
        subst (λ z. Then (numbered (up z)) (id z) z) (sym is)
        (subst (λ p. Then p (id k) k) (sym (number_kept (up k) behind)) (subst (λ z. Then (number (up k)) (id k) z) mine here))
    | inr other ↦
        let o = others j other in
        let named : 0 < depth j = let d = o.2 in omega arith in
        let before_j = old.steps j less e named in
        subst (λ p. Then p (id j) j) (sym (number_kept (up j) before_j)) (keeps (number (up j)) (id j) j (old.noted j less e named (sym o.0 ∙ own)))
  ]

  abbrev NotingThen : ℕ → X → ℕ → Type 0
  NotingThen p x j = (j < count) × (root j ≡ false) × (0 < depth_then j) × (numbered j ≡ j) × (p ≡ numbered (up j)) × (x ≡ id j)

  then_noting : (p : ℕ) (x : X) (j : ℕ) → Then p x j → NotingThen p x j
  then_noting p x j h = elim (only p x j h) [
    | inl was ↦
        let t = old.noting p x j was in
        let before_j = old.steps j t.0 t.1 t.2 in
        (t.0, t.1, depth_kept j t.2, number_kept j t.2 ∙ t.3, t.4 ∙ sym (number_kept (up j) before_j), t.5)
    | inr new ↦
        subst (NotingThen p x) (sym new.2)
        (there, node, let d = depth_is in omega arith, number_is ∙ new.3, new.0 ∙ sym (number_kept (up k) behind), new.1)
  ]

  pub grown : HaveNumbers up id root count most Then numbered origin_then depth_then
  grown = record {
    roots = then_roots;
    steps = then_steps;
    has = then_has;
    same = then_same;
    there = then_there;
    noted = then_noted;
    noting = then_noting;
  }
