-- Items in groups, one group for each of numbers that follow one another.
use Rattle.std.proofs.Common.{◌≡◌, ap, refl, sym, ◌∙◌, subst, ℕ, zero, suc, ◌+◌, ◌<◌, ◌==◌, Bool, true, false, cond, eqb, List, [], ◌∷◌, ◌++◌, map, Some, arith, ⊎_elim}
use Rattle.std.specs.Prelude.{slice_get, filter}
use Rattle.std.specs.List.{AllByRecursion, flat_map, enumerate_from}
use Rattle.std.proofs.lemmas.List.{append-nil}
use Rattle.std.proofs.lemmas.Bool.{eqb-true, eq-eqb, cases_Bool}

pub filter_both : {X : Type 0} (f : X → Bool) (xs ys : List X) → filter f (xs ++ ys) ≡ filter f xs ++ filter f ys
filter_both f [] ys = refl
filter_both f (x ∷ xs) ys = by_test (f x) (filter_both f xs ys)
  where
    by_test : (b : Bool) → filter f (xs ++ ys) ≡ filter f xs ++ filter f ys
        → cond b (x ∷ filter f (xs ++ ys)) (filter f (xs ++ ys)) ≡ cond b (x ∷ filter f xs) (filter f xs) ++ filter f ys
    by_test true e = ap (λ zs. x ∷ zs) e
    by_test false e = e

-- one after another
abbrev pub joined : {X : Type 0} → List (List X) → List X
joined {X} groups = flat_map (λ (g : List X). g) groups

module _ {X : Type 0} (key : X → ℕ) where
  abbrev pub has_key : ℕ → X → Bool
  has_key v x = key x == v

  -- each item of a group has the group's number
  abbrev pub AreKeyed : ℕ → List (List X) → Type 0
  AreKeyed first [] = Unit {0}
  AreKeyed first (g ∷ gs) = AllByRecursion (λ x. key x ≡ first) g × AreKeyed (first + 1) gs

  pub all_keyed : (v : ℕ) (xs : List X) → AllByRecursion (λ x. key x ≡ v) xs → filter (has_key v) xs ≡ xs
  all_keyed v [] p = refl
  all_keyed v (x ∷ xs) p =
      let pass : eqb (key x) v ≡ true = eq-eqb (key x) v p.0 in
      rw pass (ap (λ (zs : List X). x ∷ zs) (all_keyed v xs p.1))

  differs : (v w : ℕ) (x : X) → key x ≡ w → (w ≡ v → ⊥) → eqb (key x) v ≡ false
  differs v w x e d = ⊎_elim (λ h. absurd (d (sym e ∙ eqb-true (key x) v h))) (λ h. h) (cases_Bool (eqb (key x) v))

  pub none_keyed : (v w : ℕ) (xs : List X) → (w ≡ v → ⊥) → AllByRecursion (λ x. key x ≡ w) xs → filter (has_key v) xs ≡ []
  none_keyed v w [] d p = refl
  none_keyed v w (x ∷ xs) d p =
      let fail : eqb (key x) v ≡ false = differs v w x p.0 d in
      rw fail (none_keyed v w xs d p.1)

  -- no group has a number before the first
  pub no_group : (first v : ℕ) (groups : List (List X)) → v < first → AreKeyed first groups → filter (has_key v) (joined groups) ≡ []
  no_group first v [] low p = refl
  no_group first v (g ∷ gs) low p =
      filter_both (has_key v) g (joined gs)
      ∙ ap (λ (zs : List X). zs ++ filter (has_key v) (joined gs)) (none_keyed v first g (λ e. omega arith) p.0)
      ∙ no_group (first + 1) v gs (omega arith) p.1

  -- the items of a number are those of its group
  pub group_at : (first k : ℕ) (groups : List (List X)) (g : List X) → AreKeyed first groups → slice_get groups k ≡ Some g
      → filter (has_key (first + k)) (joined groups) ≡ g
  group_at first k [] g p at = absurd cc
  group_at first zero (h ∷ gs) g p at =
      let same : h ≡ g = cc in
      let here : first ≡ first + 0 = omega arith in
      filter_both (has_key (first + 0)) h (joined gs)
      ∙ ap (λ (zs : List X). filter (has_key (first + 0)) h ++ zs) (no_group (first + 1) (first + 0) gs (omega arith) p.1)
      ∙ append-nil (filter (has_key (first + 0)) h)
      ∙ all_keyed (first + 0) h (subst (λ v. AllByRecursion (λ x. key x ≡ v) h) here p.0)
      ∙ same
  group_at first (suc k) (h ∷ gs) g p at =
      let there : first + suc k ≡ first + 1 + k = omega arith in
      filter_both (has_key (first + suc k)) h (joined gs)
      ∙ ap (λ (zs : List X). zs ++ filter (has_key (first + suc k)) (joined gs)) (none_keyed (first + suc k) first h (λ e. omega arith) p.0)
      ∙ ap (λ v. filter (has_key v) (joined gs)) there
      ∙ group_at (first + 1) k gs g p.1 at

-- ---- a group for each item of a list

module _ {X Y : Type 0} (make : ℕ × X → List Y) where
  abbrev pub groups_from : ℕ → List X → List (List Y)
  groups_from first xs = map make (enumerate_from first xs)

  pub joined_from : (first : ℕ) (xs : List X) → flat_map make (enumerate_from first xs) ≡ joined (groups_from first xs)
  joined_from first [] = refl
  joined_from first (x ∷ xs) = ap (λ (zs : List Y). make (first, x) ++ zs) (joined_from (first + 1) xs)

  pub group_from : (first k : ℕ) (xs : List X) (x : X) → slice_get xs k ≡ Some x → slice_get (groups_from first xs) k ≡ Some (make (first + k, x))
  group_from first k [] x at = absurd cc
  group_from first zero (z ∷ xs) x at =
      let same : z ≡ x = cc in
      let here : first ≡ first + 0 = omega arith in
      ap (λ (w : X). Some (make (first, w))) same ∙ ap (λ n. Some (make (n, x))) here
  group_from first (suc k) (z ∷ xs) x at =
      let there : first + 1 + k ≡ first + suc k = omega arith in
      group_from (first + 1) k xs x at ∙ ap (λ n. Some (make (n, x))) there

  module _ (key : Y → ℕ) (each : (row : ℕ) (x : X) → AllByRecursion (λ y. key y ≡ row) (make (row, x))) where
    keyed_from : (first : ℕ) (xs : List X) → AreKeyed key first (groups_from first xs)
    keyed_from first [] = tt
    keyed_from first (x ∷ xs) = (each first x, keyed_from (first + 1) xs)

    -- what is made of an item is found by its number
    pub made_at : (first k : ℕ) (xs : List X) (x : X) → slice_get xs k ≡ Some x
        → filter (has_key key (first + k)) (flat_map make (enumerate_from first xs)) ≡ make (first + k, x)
    made_at first k xs x at =
        ap (filter (has_key key (first + k))) (joined_from first xs)
        ∙ group_at key first k (groups_from first xs) (make (first + k, x)) (keyed_from first xs) (group_from first k xs x at)

    -- nothing is made for a number before the first
    pub none_made : (first v : ℕ) (xs : List X) → v < first → filter (has_key key v) (flat_map make (enumerate_from first xs)) ≡ []
    none_made first v xs low =
        ap (filter (has_key key v)) (joined_from first xs) ∙ no_group key first v (groups_from first xs) low (keyed_from first xs)
