-- What rows own, number by number and then table by table, stands in the order of the coded indexes.
use Rattle.std.proofs.Common.{◌≡◌, sym, subst, ℕ, zero, suc, ◌+◌, ◌*◌, ◌^◌, ◌<◌, ◌≤◌, List, [], ◌∷◌, ◌++◌, append_assoc, map, Some, arith}
use Rattle.std.specs.Prelude.{slice_get}
use Rattle.std.specs.List.{AllByRecursion, range_with_len, flat_map}
use Rattle.metadata_tables.specs.CodedIndex.{tag_bits, tag_of}
use Rattle.metadata_tables.specs.declared.coded.Coded.{Coded}
use Rattle.image_tokens.specs.Indexes.{index_of}
use Rattle.image_members.specs.ByNumber.{or_none, owned_in, owned_at, by_number}
use Rattle.laws_image_parts.proofs.IndexLemmas.{index_is}
use Rattle.laws_image_reading.proofs.order.Rising.{Rise, InGroup, lower, group_rises}

-- items with an index
abbrev pub marked : {X : Type 0} → ℕ → List X → List (ℕ × X)
marked {X} v xs = map (λ (x : X). (v, x)) xs

abbrev pub index_in : {X : Type 0} → ℕ × X → ℕ
index_in item = item.0

marked_same : {X : Type 0} (v w : ℕ) → w ≡ v → (xs : List X) → AllByRecursion (λ (p : ℕ × X). p.0 ≡ v) (marked w xs)
marked_same v w e [] = tt
marked_same v w e (x ∷ xs) = (e, marked_same v w e xs)

module _ {X : Type 0} (kind : Coded) (Q : ℕ × X → ℕ × X → Type 0) where
  -- the tables stand in the order of their tags
  abbrev pub TagsRise : ℕ → List (ℕ × List (List X)) → Type 0
  TagsRise low [] = Unit {0}
  TagsRise low (t ∷ more) = (tag : ℕ) × (tag_of kind t.0 ≡ Some tag) × (low ≤ tag) × (tag < 2 ^ tag_bits kind) × TagsRise (tag + 1) more

  -- what one row owns is ordered
  abbrev pub IsOrderedList : List X → Type 0
  IsOrderedList xs = (v : ℕ) → InGroup (index_in {X = X}) Q (marked v xs)

  abbrev pub AreOrderedLists : List (ℕ × List (List X)) → Type 0
  AreOrderedLists tables = AllByRecursion (λ (t : ℕ × List (List X)). AllByRecursion IsOrderedList t.1) tables

  ordered_at : (lists : List (List X)) (k : ℕ) → AllByRecursion IsOrderedList lists → IsOrderedList (or_none (slice_get lists k))
  ordered_at [] k h = λ v. tt
  ordered_at (xs ∷ lists) zero h = h.0
  ordered_at (xs ∷ lists) (suc k) h = ordered_at lists k h.1

  abbrev size : ℕ
  size = 2 ^ tag_bits kind

  at_rises : (low k : ℕ) (tables : List (ℕ × List (List X))) (ps : List (ℕ × X)) → low ≤ size → TagsRise low tables → AreOrderedLists tables
      → Rise (index_in {X = X}) Q ((k + 1) * size + size) ps → Rise (index_in {X = X}) Q ((k + 1) * size + low) (owned_at kind tables k ++ ps)
  at_rises low k [] ps le tags own r = lower (index_in {X = X}) Q ((k + 1) * size + low) ((k + 1) * size + size) ps (omega arith) r
  at_rises low k (t ∷ more) ps le tags own r =
      let tag = tags.0 in
      let from = tags.2 in
      let fits = tags.3 in
      let rest = at_rises (tag + 1) k more ps (omega arith) tags.4 own.1 r in
      let next : (k + 1) * size + (tag + 1) ≡ (k + 1) * size + tag + 1 = omega arith in
      let index = index_is kind t.0 (k + 1) tag tags.1 in
      subst (Rise (index_in {X = X}) Q ((k + 1) * size + low)) (sym (append_assoc (owned_in kind k t) (owned_at kind more k) ps))
      (group_rises (index_in {X = X}) Q ((k + 1) * size + low) ((k + 1) * size + tag) (owned_in kind k t) (owned_at kind more k ++ ps) (omega arith)
      (marked_same ((k + 1) * size + tag) (index_of kind t.0 (k + 1)) index (or_none (slice_get t.1 k)))
      (ordered_at t.1 k own.0 (index_of kind t.0 (k + 1)))
      (subst (λ n. Rise (index_in {X = X}) Q n (owned_at kind more k ++ ps)) next rest))

  module _ (tables : List (ℕ × List (List X))) (tags : TagsRise 0 tables) (own : AreOrderedLists tables) where
    numbers_rise : (first n : ℕ) → Rise (index_in {X = X}) Q ((first + 1) * size) (flat_map (owned_at kind tables) (range_with_len first n))
    numbers_rise first zero = tt
    numbers_rise first (suc n) =
        let here : (first + 1) * size + 0 ≡ (first + 1) * size = omega arith in
        let next : (first + 1 + 1) * size ≡ (first + 1) * size + size = grind arith in
        let all = flat_map (owned_at kind tables) (range_with_len (first + 1) n) in
        subst (λ m. Rise (index_in {X = X}) Q m (owned_at kind tables first ++ all)) here
        (at_rises 0 first tables all (omega arith) tags own
        (subst (λ m. Rise (index_in {X = X}) Q m all) next (numbers_rise (first + 1) n)))

    pub by_number_rises : (count : ℕ) → Rise (index_in {X = X}) Q 0 (by_number kind tables count)
    by_number_rises count = lower (index_in {X = X}) Q 0 ((0 + 1) * size) (by_number kind tables count) (omega arith) (numbers_rise 0 count)
