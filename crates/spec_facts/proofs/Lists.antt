-- Lists of what is found, after one more is.
use Rattle.std.proofs.Common.{◌≡◌, ℕ, zero, suc, ◌<◌, List, [], ◌∷◌, ◌++◌, length, replicate, Option, Some, None, refl, ap, arith}
use Rattle.std.specs.Prelude.{slice_get, slice_set}
use Rattle.signature_facts.specs.declared.facts.Facts.{Facts}
use Rattle.spec_facts.specs.Rounds.{unknown}

pub set_there : {X : Type 0} (xs : List X) (k : ℕ) (v : X) → k < length xs → slice_get (slice_set xs k v) k ≡ Some v
set_there [] k v h = absurd (omega arith)
set_there (x ∷ xs) zero v h = refl
set_there (x ∷ xs) (suc k) v h = set_there xs k v (omega arith)

pub set_else : {X : Type 0} (xs : List X) (j k : ℕ) (v : X) → (j ≡ k → ⊥) → slice_get (slice_set xs k v) j ≡ slice_get xs j
set_else [] j k v ne = refl
set_else (x ∷ xs) zero zero v ne = absurd (ne refl)
set_else (x ∷ xs) zero (suc k) v ne = refl
set_else (x ∷ xs) (suc j) zero v ne = refl
set_else (x ∷ xs) (suc j) (suc k) v ne = set_else xs j k v (λ e. ne (omega arith))

pub one_known : (facts : List (Option Facts)) (k : ℕ) (f : Facts) → slice_get facts k ≡ Some None → unknown (slice_set facts k (Some f)) < unknown facts
one_known [] k f e = absurd cc
one_known (None ∷ facts) zero f e = omega arith
one_known (Some g ∷ facts) zero f e = absurd cc
one_known (None ∷ facts) (suc k) f e = let h = one_known facts k f e in omega arith
one_known (Some g ∷ facts) (suc k) f e = one_known facts k f e

pub stays_behind : {X : Type 0} (xs ys : List X) (k : ℕ) (v : X) → slice_get xs k ≡ Some v → slice_get (xs ++ ys) k ≡ Some v
stays_behind [] ys k v e = absurd cc
stays_behind (x ∷ xs) ys zero v e = e
stays_behind (x ∷ xs) ys (suc k) v e = stays_behind xs ys k v e

pub last_there : {X : Type 0} (xs : List X) (v : X) → slice_get (xs ++ v ∷ []) (length xs) ≡ Some v
last_there [] v = refl
last_there (x ∷ xs) v = last_there xs v

abbrev pub nothing : Option Facts
nothing = None

pub none_known : (n place : ℕ) (f : Facts) → slice_get (replicate n nothing) place ≡ Some (Some f) → ⊥
none_known zero place f e = absurd cc
none_known (suc n) zero f e = absurd cc
none_known (suc n) (suc place) f e = none_known n place f e

pub not_past : {X : Type 0} (xs : List X) (k : ℕ) → k < length xs → slice_get xs k ≡ None → ⊥
not_past [] k lt e = absurd (omega arith)
not_past (x ∷ xs) zero lt e = absurd cc
not_past (x ∷ xs) (suc k) lt e = not_past xs k (omega arith) e

pub set_long : {X : Type 0} (xs : List X) (k : ℕ) (v : X) → length (slice_set xs k v) ≡ length xs
set_long [] k v = refl
set_long (x ∷ xs) zero v = refl
set_long (x ∷ xs) (suc k) v = ap suc (set_long xs k v)
