-- A list of lists, one for each instruction, that grows by one.
use Rattle.std.proofs.Common.{◌≡◌, inl, inr, ℕ, zero, suc, ◌+◌, ◌<◌, List, [], ◌∷◌, ◌++◌, length, refl, sym, ◌∙◌, ap, subst, Some, arith}
use Rattle.std.specs.Prelude.{slice_get}
use Rattle.std.proofs.lemmas.Bool.{cases_lt}

get_front : {X : Type 0} (xs ys : List X) (j : ℕ) → j < length xs → slice_get (xs ++ ys) j ≡ slice_get xs j
get_front [] ys j h = absurd (omega arith)
get_front (x ∷ xs) ys zero h = refl
get_front (x ∷ xs) ys (suc j) h = get_front xs ys j (omega arith)

get_last : {X : Type 0} (xs : List X) (y : X) (k : ℕ) → length xs ≡ k → slice_get (xs ++ y ∷ []) k ≡ Some y
get_last [] y zero e = refl
get_last [] y (suc k) e = absurd (omega arith)
get_last (x ∷ xs) y zero e = absurd (omega arith)
get_last (x ∷ xs) y (suc k) e = get_last xs y k (omega arith)

pub grown : {X Y : Type 0} (P : ℕ → X → Y → Type 0) (code : List X) (all : List Y) (k : ℕ) (i : X) (g : Y) → length all ≡ k → slice_get code k ≡ Some i → P k i g
    → ((j : ℕ) (x : X) (h : Y) → j < k → slice_get code j ≡ Some x → slice_get all j ≡ Some h → P j x h)
    → (j : ℕ) (x : X) (h : Y) → j < k + 1 → slice_get code j ≡ Some x → slice_get (all ++ g ∷ []) j ≡ Some h → P j x h
grown {X = X} {Y = Y} P code all k i g len at p before j x h less a b = elim (cases_lt j k) [
  | inl e ↦ before j x h e a (sym (get_front all (g ∷ []) j (omega (arith, len))) ∙ b)
  | inr e ↦
      let same : j ≡ k = omega arith in
      let c : Some x ≡ Some i = sym a ∙ ap (λ (n : ℕ). slice_get code n) same ∙ at in
      let d : Some h ≡ Some g = sym b ∙ ap (λ (n : ℕ). slice_get (all ++ g ∷ []) n) same ∙ get_last all g k len in
      let ex : i ≡ x = cc in
      let eh : g ≡ h = cc in
      let one = subst (λ (n : ℕ). P n i g) (sym same) p in
      subst (λ (y : Y). P j x y) eh (subst (λ (z : X). P j z g) ex one)
]

pub longer : {Y : Type 0} (all : List Y) (g : Y) (k : ℕ) → length all ≡ k → length (all ++ g ∷ []) ≡ k + 1
longer [] g k e = omega arith
longer (x ∷ xs) g zero e = absurd (omega arith)
longer (x ∷ xs) g (suc k) e = let h = longer xs g k (omega arith) in omega (arith, h)
