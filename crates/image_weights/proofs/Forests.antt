-- Sums over a forest: what each tree weighs, with all that stands under it, by what each node weighs.
use Rattle.std.proofs.Common.{◌≡◌, ◌≢◌, ℕ, zero, suc, ◌+◌, ◌-◌, ◌<◌, ◌≤◌, ◌⊎◌, inl, inr, Bool, cond, nat_eq, List, [], ◌∷◌, filter, refl, sym, ◌∙◌, ap, arith}
use Rattle.std.specs.Prelude.{sum_by}
use Rattle.std.specs.List.{range_with_len}
use Rattle.std.proofs.lemmas.Bool.{cases_eq, eq-eqb, ne_eqb, eqb-true}
use Rattle.std.proofs.lemmas.List.Sums.{sum_by-cons}
use Rattle.row_parts.proofs.OwnedRows.{Among, among_range}
use Rattle.image_weights.proofs.Sums.{sum_both, sum_equal, sum_filter}
use Rattle.image_weights.proofs.Rises.{among_filter}

-- sums of sums in the other order
zeros : (ds : List ℕ) → sum_by (λ (d : ℕ). 0) ds ≡ 0
zeros [] = refl
zeros (d ∷ ds) = let a = sum_by-cons (λ (d : ℕ). 0) d ds in let z = zeros ds in omega (arith, a, z)

swapped : (h : ℕ → ℕ → ℕ) (rs ds : List ℕ) → sum_by (λ r. sum_by (h r) ds) rs ≡ sum_by (λ d. sum_by (λ r. h r d) rs) ds
swapped h [] ds = sym (zeros ds)
swapped h (r ∷ rs) ds =
    sum_by-cons (λ r. sum_by (h r) ds) r rs
    ∙ ap (λ n. sum_by (h r) ds + n) (swapped h rs ds)
    ∙ sym (sum_both (h r) (λ d. sum_by (λ r. h r d) rs) ds)
    ∙ sum_equal (λ d. h r d + sum_by (λ r. h r d) rs) (λ d. sum_by (λ r. h r d) (r ∷ rs)) ds (λ d m. sym (sum_by-cons (λ r. h r d) r rs))

-- of the numbers of a range only one is a given one
none_is : (e v a m : ℕ) → e < a → sum_by (λ r. cond (nat_eq e r) v 0) (range_with_len a m) ≡ 0
none_is e v a zero less = refl
none_is e v a (suc m) less =
    let c = sum_by-cons (λ r. cond (nat_eq e r) v 0) a (range_with_len (a + 1) m) in
    let here : cond (nat_eq e a) v 0 ≡ 0 = ap (λ (b : Bool). cond b v 0) (ne_eqb e a (λ is. omega arith)) in
    let k = none_is e v (a + 1) m (omega arith) in
    c ∙ omega (arith, here, k)

here_or_later : (e v a m : ℕ) → (e ≡ a) ⊎ (e ≡ a → ⊥) → (e ≢ a → sum_by (λ r. cond (nat_eq e r) v 0) (range_with_len (a + 1) m) ≡ v) → sum_by (λ r. cond (nat_eq e r) v 0) (range_with_len a (suc m)) ≡ v
here_or_later e v a m (inl is) later =
    let c = sum_by-cons (λ r. cond (nat_eq e r) v 0) a (range_with_len (a + 1) m) in
    let here : cond (nat_eq e a) v 0 ≡ v = ap (λ (b : Bool). cond b v 0) (eq-eqb e a is) in
    let k = none_is e v (a + 1) m (omega arith) in
    c ∙ omega (arith, here, k)
here_or_later e v a m (inr other) later =
    let c = sum_by-cons (λ r. cond (nat_eq e r) v 0) a (range_with_len (a + 1) m) in
    let here : cond (nat_eq e a) v 0 ≡ 0 = ap (λ (b : Bool). cond b v 0) (ne_eqb e a other) in
    let k = later other in
    c ∙ omega (arith, here, k)

one_is : (e v a m : ℕ) → a ≤ e → e < a + m → sum_by (λ r. cond (nat_eq e r) v 0) (range_with_len a m) ≡ v
one_is e v a zero low high = absurd (omega arith)
one_is e v a (suc m) low high = here_or_later e v a m (cases_eq e a) (λ other. one_is e v (a + 1) m (omega arith) (omega arith))

-- `n` nodes, counted from 1; what is above each node but the first, or 0
module _ (n : ℕ) (above : ℕ → ℕ) (weigh : ℕ → ℕ) where
  abbrev nodes : List ℕ
  nodes = range_with_len 2 (n - 1)

  abbrev pub under : ℕ → List ℕ
  under r = filter (λ c. nat_eq (above c) r) nodes

  -- with all that stands under it, so deep
  abbrev pub tree_weight : ℕ → ℕ → ℕ
  tree_weight zero r = 0
  tree_weight (suc k) r = weigh r + sum_by (tree_weight k) (under r)

  module _ (later : (c : ℕ) → 2 ≤ c → c ≤ n → above c < c) where
    pub in_under : (r c : ℕ) → Among c (under r) → (2 ≤ c) × (c ≤ n) × (above c ≡ r) × (r < c)
    in_under r c m =
        let f = among_filter (λ c. nat_eq (above c) r) c nodes m in
        let i = among_range c 2 (n - 1) f.0 in
        let e = eqb-true (above c) r f.1 in
        let low = i.0 in
        let high : c ≤ n = (let h = i.1 in omega arith) in
        let l = later c low high in
        (low, high, e, omega (arith, l, e))

    stable : (k r : ℕ) → r ≤ n → n < r + k → tree_weight k r ≡ tree_weight (suc k) r
    stable zero r le less = absurd (omega arith)
    stable (suc k) r le less =
        ap (λ s. weigh r + s) (sum_equal (tree_weight k) (tree_weight (suc k)) (under r) (λ c m. let u = in_under r c m in stable k c u.1 (let h = u.3 in omega arith)))

    abbrev whole : ℕ → ℕ
    whole r = tree_weight n r

    whole_is : (r : ℕ) → 1 ≤ r → r ≤ n → whole r ≡ weigh r + sum_by whole (under r)
    whole_is r some le = stable n r le (omega arith)

    -- all trees together
    all_under : sum_by (λ r. sum_by whole (under r)) (range_with_len 0 (n + 1)) ≡ sum_by whole nodes
    all_under =
        sum_equal (λ r. sum_by whole (under r)) (λ r. sum_by (λ c. cond (nat_eq (above c) r) (whole c) 0) nodes) (range_with_len 0 (n + 1)) (λ r m. sum_filter whole (λ c. nat_eq (above c) r) nodes)
        ∙ swapped (λ r c. cond (nat_eq (above c) r) (whole c) 0) (range_with_len 0 (n + 1)) nodes
        ∙ sum_equal (λ c. sum_by (λ r. cond (nat_eq (above c) r) (whole c) 0) (range_with_len 0 (n + 1))) whole nodes
        (λ c m. let i = among_range c 2 (n - 1) m in let l = later c i.0 (let h = i.1 in omega arith) in let h = i.1 in one_is (above c) (whole c) 0 (n + 1) (omega arith) (omega arith))

    empty_under : (r : ℕ) → ((c : ℕ) → 2 ≤ c → c ≤ n → above c ≢ r) → (xs : List ℕ) → ((c : ℕ) → Among c xs → (2 ≤ c) × (c ≤ n)) → filter (λ c. nat_eq (above c) r) xs ≡ []
    empty_under r none [] h = refl
    empty_under r none (x ∷ xs) h =
        let i = h x (inl refl) in
        ap (λ b. cond b (x ∷ filter (λ c. nat_eq (above c) r) xs) (filter (λ c. nat_eq (above c) r) xs)) (ne_eqb (above x) r (none x i.0 i.1))
        ∙ empty_under r none xs (λ c m. h c (inr m))

    -- the trees at the top weigh what all nodes weigh, where none stands under the first
    pub tops_weigh : 1 ≤ n → ((c : ℕ) → 2 ≤ c → c ≤ n → above c ≢ 1) → sum_by whole (under 0) ≡ sum_by weigh nodes
    tops_weigh some none =
        let a : sum_by whole nodes ≡ sum_by weigh nodes + sum_by (λ r. sum_by whole (under r)) nodes
        = sum_equal whole (λ r. weigh r + sum_by whole (under r)) nodes (λ r m. let i = among_range r 2 (n - 1) m in whole_is r (let l = i.0 in omega arith) (let h = i.1 in omega arith))
        ∙ sum_both weigh (λ r. sum_by whole (under r)) nodes in
        let e : range_with_len 0 (n + 1) ≡ 0 ∷ 1 ∷ nodes = (let s : n + 1 ≡ suc (suc (n - 1)) = omega arith in ap (range_with_len 0) s) in
        let b = all_under in
        let c : sum_by (λ r. sum_by whole (under r)) (range_with_len 0 (n + 1)) ≡ sum_by whole (under 0) + (sum_by whole (under 1) + sum_by (λ r. sum_by whole (under r)) nodes)
        = ap (sum_by (λ r. sum_by whole (under r))) e
        ∙ sum_by-cons (λ r. sum_by whole (under r)) 0 (1 ∷ nodes)
        ∙ ap (λ s. sum_by whole (under 0) + s) (sum_by-cons (λ r. sum_by whole (under r)) 1 nodes) in
        let d : sum_by whole (under 1) ≡ 0 = ap (sum_by whole) (empty_under 1 none nodes (λ c m. let i = among_range c 2 (n - 1) m in (i.0, let h = i.1 in omega arith))) in
        omega (arith, a, b, c, d)
