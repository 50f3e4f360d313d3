-- Names by recursion along the nodes that enclose a node.
use Rattle.std.proofs.Common.{◌≡◌, ℕ, zero, suc, ◌+◌, ◌<◌, ◌≤◌, inl, inr, Bool, true, false, List, [], ◌∷◌, ◌++◌, Option, Some, None, length, refl, sym, ◌∙◌, ap, arith}
use Rattle.std.proofs.lemmas.Bool.{cases_Bool, cond-true, cond-false}
use Rattle.std.proofs.lemmas.List.{length-append}
use Rattle.std.proofs.lemmas.Option.{same_Some, none-some}
use Rattle.name_numbers.specs.Names.{name_by, longer}

-- a name that is there
abbrev pub full : {X : Type 0} → ℕ → List X → Option (ℕ × List X)
full r path = Some (r, path)

pub snoc_same : {X : Type 0} (xs ys : List X) (x y : X) → xs ++ x ∷ [] ≡ ys ++ y ∷ [] → (xs ≡ ys) × (x ≡ y)
snoc_same [] [] x y e = (refl, cc)
snoc_same [] (b ∷ ys) x y e =
    let l : length (x ∷ []) ≡ length (b ∷ ys ++ y ∷ []) = ap length e in
    let m = length-append ys (y ∷ []) in
    absurd (omega arith)
snoc_same (a ∷ xs) [] x y e =
    let l : length (a ∷ xs ++ x ∷ []) ≡ length (y ∷ []) = ap length e in
    let m = length-append xs (x ∷ []) in
    absurd (omega arith)
snoc_same (a ∷ xs) (b ∷ ys) x y e =
    let tails : xs ++ x ∷ [] ≡ ys ++ y ∷ [] = cc in
    let r = snoc_same xs ys x y tails in
    let heads : a ≡ b = cc in
    let both : a ∷ xs ≡ b ∷ ys = let h = r.0 in cc in
    (both, r.1)

pub longer_some : {X : Type 0} (x : X) (o : Option (ℕ × List X)) (n : ℕ × List X) → longer x o ≡ Some n
    → (m : ℕ × List X) × (o ≡ Some m) × (n.0 ≡ m.0) × (n.1 ≡ m.1 ++ x ∷ [])
longer_some {X = X} x None n e = absurd (none-some n e)
longer_some {X = X} x (Some m) n e = let s = sym (same_Some _ _ e) in (m, refl, ap (λ (z : ℕ × List X). z.0) s, ap (λ (z : ℕ × List X). z.1) s)

module _ {X : Type 0} (up : ℕ → ℕ) (id : ℕ → X) (root : ℕ → Bool) where
  abbrev N : ℕ → ℕ → Option (ℕ × List X)
  N most k = name_by up id root most k

  pub at_root : (most k : ℕ) → root k ≡ true → name_by up id root most k ≡ Some (k, [])
  unfolding name_by
  at_root zero k e = cond-true (root k) _ _ e
  at_root (suc most) k e = cond-true (root k) _ _ e

  pub at_node : (most k : ℕ) → root k ≡ false → name_by up id root (suc most) k ≡ longer (id k) (name_by up id root most (up k))
  unfolding name_by
  at_node most k e = cond-false (root k) _ _ e

  pub at_end : (k : ℕ) → root k ≡ false → name_by up id root zero k ≡ None
  unfolding name_by
  at_end k e = cond-false (root k) _ _ e

  -- a name in parts, at a node that is no root
  pub parts : (most k : ℕ) (n : ℕ × List X) → root k ≡ false → name_by up id root (suc most) k ≡ Some n
      → (m : ℕ × List X) × (name_by up id root most (up k) ≡ Some m) × (n.0 ≡ m.0) × (n.1 ≡ m.1 ++ id k ∷ [])
  parts most k n e h = longer_some (id k) (name_by up id root most (up k)) n (sym (at_node most k e) ∙ h)

  root_parts : (most k : ℕ) (n : ℕ × List X) → root k ≡ true → name_by up id root most k ≡ Some n → (k, []) ≡ n
  root_parts most k n e h = same_Some (k, []) n (sym (at_root most k e) ∙ h)

  -- a name has at most so many texts
  pub short : (most k : ℕ) (n : ℕ × List X) → name_by up id root most k ≡ Some n → length n.1 ≤ most
  short zero k n h = elim (cases_Bool (root k)) [
    | inl e ↦ let l : 0 ≡ length n.1 = ap (λ (z : ℕ × List X). length z.1) (root_parts zero k n e h) in omega arith
    | inr e ↦ absurd (none-some n (sym (at_end k e) ∙ h))
  ]
  short (suc most) k n h = elim (cases_Bool (root k)) [
    | inl e ↦ let l : 0 ≡ length n.1 = ap (λ (z : ℕ × List X). length z.1) (root_parts (suc most) k n e h) in omega arith
    | inr e ↦
        let p = parts most k n e h in
        let s = short most (up k) p.0 p.1 in
        let l : length n.1 ≡ length (p.0).1 + 1 = ap length p.3 ∙ length-append (p.0).1 (id k ∷ []) in
        omega arith
  ]

  -- and is told by as many steps
  pub enough : (most k : ℕ) (n : ℕ × List X) → name_by up id root most k ≡ Some n → (g : ℕ) → length n.1 ≤ g → name_by up id root g k ≡ Some n
  enough zero k n h g le = elim (cases_Bool (root k)) [
    | inl e ↦ at_root g k e ∙ ap Some (root_parts zero k n e h)
    | inr e ↦ absurd (none-some n (sym (at_end k e) ∙ h))
  ]
  enough (suc most) k n h zero le = elim (cases_Bool (root k)) [
    | inl e ↦ at_root zero k e ∙ ap Some (root_parts (suc most) k n e h)
    | inr e ↦
        let p = parts most k n e h in
        let l : length n.1 ≡ length (p.0).1 + 1 = ap length p.3 ∙ length-append (p.0).1 (id k ∷ []) in
        absurd (omega arith)
  ]
  enough (suc most) k n h (suc g) le = elim (cases_Bool (root k)) [
    | inl e ↦ at_root (suc g) k e ∙ ap Some (root_parts (suc most) k n e h)
    | inr e ↦
        let p = parts most k n e h in
        let l : length n.1 ≡ length (p.0).1 + 1 = ap length p.3 ∙ length-append (p.0).1 (id k ∷ []) in
        let less : length (p.0).1 ≤ g = omega arith in
        let i = enough most (up k) p.0 p.1 g less in
        at_node g k e ∙ ap (longer (id k)) i ∙ sym (at_node most k e ∙ ap (longer (id k)) p.1) ∙ h
  ]

  -- the name of what encloses a node
  pub parent_has : (most k : ℕ) (n : ℕ × List X) → root k ≡ false → name_by up id root most k ≡ Some n
      → (m : ℕ × List X) × (name_by up id root most (up k) ≡ Some m) × (n.0 ≡ m.0) × (n.1 ≡ m.1 ++ id k ∷ []) × (length m.1 < most)
  parent_has zero k n e h = absurd (none-some n (sym (at_end k e) ∙ h))
  parent_has (suc most) k n e h =
      let p = parts most k n e h in
      let s = short most (up k) p.0 p.1 in
      (p.0, enough most (up k) p.0 p.1 (suc most) (omega arith), p.2, p.3, omega arith)

  -- the name of a node, by that of what encloses it
  pub child_has : (most k : ℕ) (m : ℕ × List X) → root k ≡ false → name_by up id root most (up k) ≡ Some m → length m.1 < most
      → name_by up id root most k ≡ Some (m.0, m.1 ++ id k ∷ [])
  child_has zero k m e h less = absurd (omega arith)
  child_has (suc most) k m e h less =
      let i = enough (suc most) (up k) m h most (omega arith) in
      at_node most k e ∙ ap (longer (id k)) i

  -- a name without texts is a root's
  pub no_texts : (most k : ℕ) (n : ℕ × List X) → name_by up id root most k ≡ Some n → length n.1 ≡ 0 → root k ≡ true
  no_texts most k n h z = elim (cases_Bool (root k)) [
    | inl e ↦ e
    | inr e ↦
        let p = parent_has most k n e h in
        let l : length n.1 ≡ length (p.0).1 + 1 = ap length p.3 ∙ length-append (p.0).1 (id k ∷ []) in
        absurd (omega arith)
  ]
