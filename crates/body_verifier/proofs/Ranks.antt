-- How often what is known before an instruction can still change.
use Rattle.std.proofs.Common.{◌≡◌, ◌⊎◌, inl, inr, refl, sym, ◌∙◌, ap, subst, ℕ, zero, suc, ◌+◌, ◌*◌, ◌<◌, ◌≤◌, arith, List, [], ◌∷◌, length, Option, None, Some}
use Rattle.type_terms.specs.declared.term.SigType.{SigType}
use Rattle.type_hierarchy.specs.Hierarchy.{Hierarchy, object, parent, Chain, alone, further}
use Rattle.type_hierarchy.specs.Laws.{IsGrounded}
use Rattle.type_hierarchy.specs.Relations.{Below, equal, below_bad, null_below_ref, null_below_boxed, ref_chain, boxed_chain}
use Rattle.type_hierarchy.specs.Stack.{Stack, i4, i8, native, float, null, ref, boxed, val, ptr, bad}
use Rattle.body_verifier.specs.Potential.{rank, ranks, changes, IsLow}
use Rattle.code_flow.specs.Stacks.{Each}
use Rattle.code_flow.specs.Typings.{State, unreached, stack, clash, AtMost, below_all, above_all, stacks}

module _ (w : Hierarchy) (height : SigType → ℕ) (g : IsGrounded w height) (top : ℕ) (low : (t : SigType) → height t + 2 ≤ top) where
  chain_height : (s t : SigType) → Chain w s t → (s ≡ t) ⊎ (height t < height s)
  chain_height s t alone = inl refl
  chain_height s t (further {s = m} c e) = elim (chain_height s m c) [
    | inl is ↦ let less : height t < height m = g.lower m t e in let same : height s ≡ height m = ap height is in inr (omega arith)
    | inr below ↦ let less : height t < height m = g.lower m t e in inr (omega arith)
  ]

  below_bad_rank : (s : Stack) → (s ≡ bad) ⊎ (0 < rank height top s)
  unfolding rank
  below_bad_rank bad = inl refl
  below_bad_rank i4 = inr (omega arith)
  below_bad_rank i8 = inr (omega arith)
  below_bad_rank native = inr (omega arith)
  below_bad_rank float = inr (omega arith)
  below_bad_rank null = inr (omega (arith, low object))
  below_bad_rank (ref t) = inr (omega arith)
  below_bad_rank (boxed t) = inr (omega arith)
  below_bad_rank (val t) = inr (omega arith)
  below_bad_rank (ptr t) = inr (omega arith)

  boxed_height : (s t p : SigType) → parent w s ≡ Some p → Chain w p t → height t < height s
  boxed_height s t p e c = elim (chain_height p t c) [
    | inl is ↦ let less : height p < height s = g.lower s p e in let same : height p ≡ height t = ap height is in omega arith
    | inr below ↦ let less : height p < height s = g.lower s p e in omega arith
  ]

  below_rank : (s t : Stack) → Below w s t → (s ≡ t) ⊎ (rank height top t < rank height top s)
  unfolding rank
  below_rank s t equal = inl refl
  below_rank s t below_bad = below_bad_rank s
  below_rank s t (null_below_ref {t = u}) = inr (omega (arith, low u))
  below_rank s t (null_below_boxed {t = u}) = inr (omega (arith, low u))
  below_rank s t (ref_chain {s = a} {t = b} c) = elim (chain_height a b c) [ inl e ↦ inl (ap ref e) | inr less ↦ inr (omega arith) ]
  below_rank s t (boxed_chain {s = a} {t = b} {p = p} e c) = let less : height b < height a = boxed_height a b p e c in inr (omega arith)

  each_rank : (xs ys : List Stack) → Each (Below w) xs ys → (xs ≡ ys) ⊎ (ranks height top ys < ranks height top xs)
  unfolding ranks
  each_rank [] [] h = inl refl
  each_rank [] (y ∷ ys) h = absurd h
  each_rank (x ∷ xs) [] h = absurd h
  each_rank (x ∷ xs) (y ∷ ys) h = elim (below_rank x y h.0) [
    | inl e ↦ elim (each_rank xs ys h.1) [
      | inl more ↦ inl (cc)
      | inr less ↦ let same : rank height top x ≡ rank height top y = ap (rank height top) e in inr (omega arith)
    ]
    | inr first ↦ elim (each_rank xs ys h.1) [
      | inl more ↦ let same : ranks height top xs ≡ ranks height top ys = ap (ranks height top) more in inr (omega arith)
      | inr less ↦ inr (omega arith)
    ]
  ]

  rank_low : (s : Stack) → rank height top s ≤ top
  unfolding rank
  rank_low bad = omega arith
  rank_low i4 = omega (arith, low object)
  rank_low i8 = omega (arith, low object)
  rank_low native = omega (arith, low object)
  rank_low float = omega (arith, low object)
  rank_low null = omega arith
  rank_low (ref t) = omega (arith, low t)
  rank_low (boxed t) = omega (arith, low t)
  rank_low (val t) = omega (arith, low object)
  rank_low (ptr t) = omega (arith, low object)

  ranks_low : (n : ℕ) (xs : List Stack) → length xs ≤ n → ranks height top xs ≤ n * top
  unfolding ranks
  ranks_low n [] h = omega arith
  ranks_low zero (x ∷ xs) h = absurd (omega arith)
  ranks_low (suc n) (x ∷ xs) h = let first = rank_low x in let more = ranks_low n xs (omega arith) in omega arith

  -- what rises changes less often afterwards
  pub changes_fall : (depth : ℕ) (x z : State) → AtMost w x z → (x ≡ z → ⊥) → IsLow depth z → changes height top depth z < changes height top depth x
  unfolding changes
  changes_fall depth unreached unreached h ne d = absurd (ne refl)
  changes_fall depth unreached (stack s) h ne d = let a = ranks_low depth s (d s refl) in omega arith
  changes_fall depth unreached clash h ne d = omega arith
  changes_fall depth (stack s) unreached h ne d = elim h [ ]
  changes_fall depth (stack s) (stack t) (stacks h) ne d = elim (each_rank s t h) [ inl e ↦ absurd (ne (ap stack e)) | inr less ↦ omega arith ]
  changes_fall depth (stack s) clash h ne d = omega arith
  changes_fall depth clash unreached h ne d = elim h [ ]
  changes_fall depth clash (stack t) h ne d = elim h [ ]
  changes_fall depth clash clash h ne d = absurd (ne refl)

  pub changes_low : (depth : ℕ) (x : State) → IsLow depth x → changes height top depth x ≤ depth * top + 2
  unfolding changes
  changes_low depth unreached d = omega arith
  changes_low depth (stack s) d = let a = ranks_low depth s (d s refl) in omega arith
  changes_low depth clash d = omega arith

pub first_changes : (height : SigType → ℕ) (top depth : ℕ) → changes height top depth (stack []) ≡ 1
unfolding changes ranks
first_changes height top depth = refl

pub unreached_changes : (height : SigType → ℕ) (top depth : ℕ) → changes height top depth unreached ≡ depth * top + 2
unfolding changes
unreached_changes height top depth = refl
