-- Conditions that hold together, and what holds of each item of a list.
use Rattle.std.proofs.Common.{ℕ, zero, suc, ◌+◌, ◌&&◌, Bool, List, [], ◌∷◌, ◌++◌}
use Rattle.std.specs.Prelude.{IsTrue, slice_get}
use Rattle.std.specs.List.{AllByRecursion, list_all, enumerate_from, range_with_len}
use Rattle.std.proofs.lemmas.Bool.{and_parts}
use Rattle.metadata_tables.specs.declared.coded.Coded.{Coded}
use Rattle.laws_image_indexes.proofs.EachLemmas.{each_all, each_flat, each_mapped}
use Rattle.image_tokens.specs.Indexes.{index_of}
use Rattle.image_members.specs.ByNumber.{or_none, owned_in, owned_at, by_number}

-- ---- conditions that hold together

pub split_three : (a b c : Bool) → IsTrue (a && b && c) → IsTrue a × IsTrue b × IsTrue c
split_three a b c h = let front = and_parts (a && b) c h in let two = and_parts a b front.0 in (two.0, two.1, front.1)

pub split_five : (a b c d e : Bool) → IsTrue (a && b && c && d && e) → IsTrue a × IsTrue b × IsTrue c × IsTrue d × IsTrue e
split_five a b c d e h =
    let front = and_parts (a && b && c && d) e h in
    let four = and_parts (a && b && c) d front.0 in
    let three = split_three a b c four.0 in
    (three.0, three.1, three.2, four.1, front.1)

pub split_eight : (a b c d e f g i : Bool) → IsTrue (a && b && c && d && e && f && g && i)
    → IsTrue a × IsTrue b × IsTrue c × IsTrue d × IsTrue e × IsTrue f × IsTrue g × IsTrue i
split_eight a b c d e f g i h =
    let last = and_parts (a && b && c && d && e && f && g) i h in
    let front = and_parts (a && b && c && d && e && f) g last.0 in
    let six = and_parts (a && b && c && d && e) f front.0 in
    let five = split_five a b c d e six.0 in
    (five.0, five.1, five.2, five.3, five.4, six.1, front.1, last.1)

-- ---- each of a list

module _ {X : Type 0} where
  -- those that a test lets through
  pub each_true : (test : X → Bool) (xs : List X) → IsTrue (list_all test xs) → AllByRecursion (λ x. IsTrue (test x)) xs
  each_true test [] h = tt
  each_true test (x ∷ xs) h = let both = and_parts (test x) (list_all test xs) h in (both.0, each_true test xs both.1)

  pub each_apart : (P : X → Type 0) (xs ys : List X) → AllByRecursion P (xs ++ ys) → AllByRecursion P xs × AllByRecursion P ys
  each_apart P [] ys h = (tt, h)
  each_apart P (x ∷ xs) ys h = let more = each_apart P xs ys h.1 in ((h.0, more.0), more.1)

  pub each_counted : (P : X → Type 0) (n : ℕ) (xs : List X) → AllByRecursion P xs → AllByRecursion (λ e. P e.1) (enumerate_from n xs)
  each_counted P n [] h = tt
  each_counted P n (x ∷ xs) h = (h.0, each_counted P (n + 1) xs h.1)

-- ---- what rows own

module _ {X : Type 0} (P : X → Type 0) (kind : Coded) where
  -- in each list of a table
  abbrev pub InTable : ℕ × List (List X) → Type 0
  InTable t = AllByRecursion (AllByRecursion P) t.1

  listed : (lists : List (List X)) (k : ℕ) → AllByRecursion (AllByRecursion P) lists → AllByRecursion P (or_none (slice_get lists k))
  listed [] k h = tt
  listed (xs ∷ more) zero h = h.0
  listed (xs ∷ more) (suc k) h = listed more k h.1

  owned : (k : ℕ) (t : ℕ × List (List X)) → InTable t → AllByRecursion (λ e. P e.1) (owned_in kind k t)
  owned k (table, lists) h = each_mapped (λ e. P e.1) (λ (x : X). (index_of kind table (k + 1), x)) (or_none (slice_get lists k)) (listed lists k h)

  -- what is so in each list of each table is so of each item by number
  pub each_by_number : (tables : List (ℕ × List (List X))) (count : ℕ) → AllByRecursion InTable tables → AllByRecursion (λ e. P e.1) (by_number kind tables count)
  each_by_number tables count h =
      each_flat (λ k. ℕ) (λ (e : ℕ × X). P e.1) (owned_at kind tables) (range_with_len 0 count)
      (λ k any. each_flat InTable (λ (e : ℕ × X). P e.1) (owned_in kind k) tables (λ t it. owned k t it) h)
      (each_all (λ k. ℕ) (range_with_len 0 count) (λ k. k))
