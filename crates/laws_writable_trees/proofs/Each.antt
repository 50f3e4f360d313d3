-- What holds of each item of a list, as lists are joined, mapped, numbered and ordered by row.
use Rattle.std.proofs.Common.{ℕ, zero, suc, ◌+◌, ◌*◌, ◌≤◌, ◌&&◌, Bool, List, [], ◌∷◌, ◌++◌, map, length, arith}
use Rattle.std.specs.Prelude.{IsTrue, sum_by, slice_get}
use Rattle.std.specs.List.{AllByRecursion, list_all, flat_map, enumerate_from, range_with_len}
use Rattle.std.proofs.lemmas.Bool.{and_parts}
use Rattle.std.proofs.lemmas.List.Sums.{sum_by-cons}
use Rattle.metadata_tables.specs.declared.coded.Coded.{Coded}
use Rattle.image_tokens.specs.Indexes.{index_of}
use Rattle.image_members.specs.ByNumber.{or_none, owned_in, owned_at, by_number}

-- ---- conditions that hold together

pub split_three : (a b c : Bool) → IsTrue (a && b && c) → IsTrue a × IsTrue b × IsTrue c
split_three a b c h = let front = and_parts (a && b) c h in let two = and_parts a b front.0 in (two.0, two.1, front.1)

pub split_four : (a b c d : Bool) → IsTrue (a && b && c && d) → IsTrue a × IsTrue b × IsTrue c × IsTrue d
split_four a b c d h = let front = and_parts (a && b && c) d h in let three = split_three a b c front.0 in (three.0, three.1, three.2, front.1)

pub split_five : (a b c d e : Bool) → IsTrue (a && b && c && d && e) → IsTrue a × IsTrue b × IsTrue c × IsTrue d × IsTrue e
split_five a b c d e h = let front = and_parts (a && b && c && d) e h in let four = split_four a b c d front.0 in (four.0, four.1, four.2, four.3, front.1)

pub split_six : (a b c d e f : Bool) → IsTrue (a && b && c && d && e && f) → IsTrue a × IsTrue b × IsTrue c × IsTrue d × IsTrue e × IsTrue f
split_six a b c d e f h = let front = and_parts (a && b && c && d && e) f h in let five = split_five a b c d e front.0 in (five.0, five.1, five.2, five.3, five.4, front.1)

pub split_eight : (a b c d e f g i : Bool) → IsTrue (a && b && c && d && e && f && g && i) → IsTrue a × IsTrue b × IsTrue c × IsTrue d × IsTrue e × IsTrue f × IsTrue g × IsTrue i
split_eight a b c d e f g i h =
    let last = and_parts (a && b && c && d && e && f && g) i h in
    let front = and_parts (a && b && c && d && e && f) g last.0 in
    let six = split_six a b c d e f front.0 in
    (six.0, six.1, six.2, six.3, six.4, six.5, front.1, last.1)

-- ---- each of a list

module _ {X : Type 0} where
  pub each_from : (P Q : X → Type 0) → ((x : X) → P x → Q x) → (xs : List X) → AllByRecursion P xs → AllByRecursion Q xs
  each_from P Q f [] h = tt
  each_from P Q f (x ∷ xs) h = (f x h.0, each_from P Q f xs h.1)

  pub each_both : (P Q : X → Type 0) → (xs : List X) → AllByRecursion P xs → AllByRecursion Q xs → AllByRecursion (λ x. P x × Q x) xs
  each_both P Q [] h k = tt
  each_both P Q (x ∷ xs) h k = ((h.0, k.0), each_both P Q xs h.1 k.1)

  pub each_joined : (P : X → Type 0) (xs ys : List X) → AllByRecursion P xs → AllByRecursion P ys → AllByRecursion P (xs ++ ys)
  each_joined P [] ys h k = k
  each_joined P (x ∷ xs) ys h k = (h.0, each_joined P xs ys h.1 k)

  pub each_apart : (P : X → Type 0) (xs ys : List X) → AllByRecursion P (xs ++ ys) → AllByRecursion P xs × AllByRecursion P ys
  each_apart P [] ys h = (tt, h)
  each_apart P (x ∷ xs) ys h = let more = each_apart P xs ys h.1 in ((h.0, more.0), more.1)

  -- those that a test lets through
  pub each_true : (test : X → Bool) (xs : List X) → IsTrue (list_all test xs) → AllByRecursion (λ x. IsTrue (test x)) xs
  each_true test [] h = tt
  each_true test (x ∷ xs) h = let both = and_parts (test x) (list_all test xs) h in (both.0, each_true test xs both.1)

  -- none weighs more than all of them
  pub each_light : (weigh : X → ℕ) (n : ℕ) (xs : List X) → sum_by weigh xs ≤ n → AllByRecursion (λ x. weigh x ≤ n) xs
  each_light weigh n [] h = tt
  each_light weigh n (x ∷ xs) h =
      let all = sum_by-cons weigh x xs in
      (omega arith, each_light weigh n xs (omega arith))

  -- so many of them weigh so much at least
  pub each_weighs : (weigh : X → ℕ) (least : ℕ) → ((x : X) → least ≤ weigh x) → (xs : List X) → least * length xs ≤ sum_by weigh xs
  each_weighs weigh least f [] = omega arith
  each_weighs weigh least f (x ∷ xs) =
      let one = f x in
      let rest = each_weighs weigh least f xs in
      let all = sum_by-cons weigh x xs in
      omega arith

  pub each_numbered : (P : X → Type 0) (n : ℕ) (xs : List X) → AllByRecursion P xs → AllByRecursion (λ e. P e.1) (enumerate_from n xs)
  each_numbered P n [] h = tt
  each_numbered P n (x ∷ xs) h = (h.0, each_numbered P (n + 1) xs h.1)

module _ {X Y : Type 0} where
  pub each_mapped : (P : Y → Type 0) (f : X → Y) (xs : List X) → AllByRecursion (λ x. P (f x)) xs → AllByRecursion P (map f xs)
  each_mapped P f [] h = tt
  each_mapped P f (x ∷ xs) h = (h.0, each_mapped P f xs h.1)

  pub each_flat : (P : Y → Type 0) (f : X → List Y) (xs : List X) → AllByRecursion (λ x. AllByRecursion P (f x)) xs → AllByRecursion P (flat_map f xs)
  each_flat P f [] h = tt
  each_flat P f (x ∷ xs) h = each_joined P (f x) (flat_map f xs) h.0 (each_flat P f xs h.1)

  pub each_unflat : (P : Y → Type 0) (f : X → List Y) (xs : List X) → AllByRecursion P (flat_map f xs) → AllByRecursion (λ x. AllByRecursion P (f x)) xs
  each_unflat P f [] h = tt
  each_unflat P f (x ∷ xs) h = let parts = each_apart P (f x) (flat_map f xs) h in (parts.0, each_unflat P f xs parts.1)

-- ---- what rows own

module _ {X : Type 0} (P : X → Type 0) (kind : Coded) where
  -- in each list of a table
  abbrev pub InTable : ℕ × List (List X) → Type 0
  InTable t = AllByRecursion (AllByRecursion P) t.1

  listed : (lists : List (List X)) (k : ℕ) → AllByRecursion (AllByRecursion P) lists → AllByRecursion P (or_none (slice_get lists k))
  listed [] k h = tt
  listed (xs ∷ more) zero h = h.0
  listed (xs ∷ more) (suc k) h = listed more k h.1

  owned : (k : ℕ) (t : ℕ × List (List X)) → InTable t → AllByRecursion (λ e. P e.1) (owned_in kind k t)
  owned k (table, lists) h =
      each_mapped (λ e. P e.1) (λ (x : X). (index_of kind table (k + 1), x)) (or_none (slice_get lists k)) (listed lists k h)

  tables_owned : (k : ℕ) (tables : List (ℕ × List (List X))) → AllByRecursion InTable tables → AllByRecursion (λ e. P e.1) (owned_at kind tables k)
  tables_owned k tables h =
      each_flat (λ e. P e.1) (owned_in kind k) tables (each_from InTable (λ t. AllByRecursion (λ e. P e.1) (owned_in kind k t)) (owned k) tables h)

  at_each : (tables : List (ℕ × List (List X))) → AllByRecursion InTable tables → (ks : List ℕ) → AllByRecursion (λ k. AllByRecursion (λ e. P e.1) (owned_at kind tables k)) ks
  at_each tables h [] = tt
  at_each tables h (k ∷ ks) = (tables_owned k tables h, at_each tables h ks)

  -- what is so in each list of each table is so of each item by number
  pub each_by_number : (tables : List (ℕ × List (List X))) (count : ℕ) → AllByRecursion InTable tables → AllByRecursion (λ e. P e.1) (by_number kind tables count)
  each_by_number tables count h =
      each_flat (λ e. P e.1) (owned_at kind tables) (range_with_len 0 count) (at_each tables h (range_with_len 0 count))
