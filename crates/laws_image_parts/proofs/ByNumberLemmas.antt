-- What a row owns among what all rows own, number by number.
use Rattle.std.proofs.Common.{◌≡◌, ap, refl, sym, ◌∙◌, subst, ℕ, zero, suc, ◌+◌, ◌<◌, ◌≤◌, ◌==◌, Bool, true, false, cond, not, ◌&&◌, eqb, List, [], ◌∷◌, ◌++◌, map, Some, arith, ⊎_elim}
use Rattle.std.specs.Prelude.{slice_get, filter}
use Rattle.std.specs.List.{range_with_len, flat_map, list_all}
use Rattle.std.proofs.lemmas.List.{append-nil}
use Rattle.std.proofs.lemmas.Bool.{eqb-true, eq-eqb, and_parts, cases_Bool, not-true}
use Rattle.metadata_tables.specs.CodedIndex.{tag_of}
use Rattle.metadata_tables.specs.declared.coded.Coded.{Coded}
use Rattle.image_members.specs.ByNumber.{or_none, owned_in, owned_at, by_number}
use Rattle.image_tokens.specs.Indexes.{index_of}
use Rattle.laws_image_parts.proofs.IndexLemmas.{index_apart}

-- the lists of a table among those of several
abbrev pub lists_of : {X : Type 0} → ℕ → List (ℕ × List (List X)) → List (List X)
lists_of table [] = []
lists_of table (t ∷ more) = cond (eqb t.0 table) t.1 (lists_of table more)

-- each table stands once
abbrev pub stand_once : {X : Type 0} → List (ℕ × List (List X)) → Bool
stand_once [] = true
stand_once (t ∷ more) = list_all (λ u. not (eqb u.0 t.0)) more && stand_once more

-- a kind of coded index has a tag for a table
abbrev pub HasTag : Coded → ℕ → Type 0
HasTag kind table = (tag : ℕ) × (tag_of kind table ≡ Some tag)

-- and for each of several
abbrev pub HaveTags : {X : Type 0} → Coded → List (ℕ × List (List X)) → Type 0
HaveTags kind [] = Unit {0}
HaveTags kind (t ∷ more) = HasTag kind t.0 × HaveTags kind more

filter_both : {X : Type 0} (f : X → Bool) (xs ys : List X) → filter f (xs ++ ys) ≡ filter f xs ++ filter f ys
filter_both f [] ys = refl
filter_both f (x ∷ xs) ys = by_test (f x) (filter_both f xs ys)
  where
    by_test : (b : Bool) → filter f (xs ++ ys) ≡ filter f xs ++ filter f ys
        → cond b (x ∷ filter f (xs ++ ys)) (filter f (xs ++ ys)) ≡ cond b (x ∷ filter f xs) (filter f xs) ++ filter f ys
    by_test true e = ap (λ zs. x ∷ zs) e
    by_test false e = e

abbrev pub owns : {X : Type 0} → ℕ → ℕ × X → Bool
owns v item = item.0 == v

-- items with an index
abbrev pub marked : {X : Type 0} → ℕ → List X → List (ℕ × X)
marked {X} v xs = map (λ (x : X). (v, x)) xs

all_marked : {X : Type 0} (v w : ℕ) → w ≡ v → (xs : List X) → filter (owns v) (marked w xs) ≡ marked w xs
all_marked v w e [] = refl
all_marked {X} v w e (x ∷ xs) =
    let pass : eqb w v ≡ true = eq-eqb w v e in
    rw pass (ap (λ (zs : List (ℕ × X)). (w, x) ∷ zs) (all_marked v w e xs))

none_marked : {X : Type 0} (v w : ℕ) → eqb w v ≡ false → (xs : List X) → filter (owns v) (marked w xs) ≡ []
none_marked v w e [] = refl
none_marked v w e (x ∷ xs) = rw e (none_marked v w e xs)

module _ (kind : Coded) (table k : ℕ) (has : HasTag kind table) where
  abbrev value : ℕ
  value = index_of kind table (k + 1)

  -- rows of another number or of another table have another index
  other_row : (other j : ℕ) → HasTag kind other → ((other ≡ table) → (j ≡ k) → ⊥) → eqb (index_of kind other (j + 1)) value ≡ false
  other_row other j tag differ = ⊎_elim
      (λ h.
      let same : index_of kind other (j + 1) ≡ value = eqb-true _ _ h in
      let both = index_apart kind other (j + 1) tag.0 table (k + 1) has.0 tag.1 has.1 same in
      let number : j ≡ k = (let e = both.1 in omega arith) in
      absurd (differ both.0 number))
      (λ h. h)
      (cases_Bool (eqb (index_of kind other (j + 1)) value))

  other_number : {X : Type 0} (j : ℕ) → ((j ≡ k) → ⊥) → (tables : List (ℕ × List (List X))) → HaveTags kind tables → filter (owns value) (owned_at kind tables j) ≡ []
  other_number j differ [] tags = refl
  other_number {X} j differ (t ∷ more) tags =
      filter_both (owns value) (owned_in kind j t) (owned_at kind more j)
      ∙ ap (λ (zs : List (ℕ × X)). zs ++ filter (owns value) (owned_at kind more j))
      (none_marked value (index_of kind t.0 (j + 1)) (other_row t.0 j tags.0 (λ e f. differ f)) (or_none (slice_get t.1 j)))
      ∙ other_number j differ more tags.1

  no_table : {X : Type 0} (tables : List (ℕ × List (List X))) → HaveTags kind tables → list_all (λ u. not (eqb u.0 table)) tables ≡ true → filter (owns value) (owned_at kind tables k) ≡ []
  no_table [] tags once = refl
  no_table {X} (t ∷ more) tags once =
      let both : (not (eqb t.0 table) ≡ true) × (list_all (λ u. not (eqb u.0 table)) more ≡ true) = and_parts _ _ once in
      let other : eqb t.0 table ≡ false = not-true _ both.0 in
      filter_both (owns value) (owned_in kind k t) (owned_at kind more k)
      ∙ ap (λ (zs : List (ℕ × X)). zs ++ filter (owns value) (owned_at kind more k))
      (none_marked value (index_of kind t.0 (k + 1)) (other_row t.0 k tags.0 (λ e f. let yes = eq-eqb t.0 table e in cc)) (or_none (slice_get t.1 k)))
      ∙ no_table more tags.1 both.1

  own_number : {X : Type 0} (tables : List (ℕ × List (List X))) → HaveTags kind tables → stand_once tables ≡ true
      → filter (owns value) (owned_at kind tables k) ≡ marked value (or_none (slice_get (lists_of table tables) k))
  own_number [] tags once = refl
  own_number {X} (t ∷ more) tags once =
      let both : (list_all (λ u. not (eqb u.0 t.0)) more ≡ true) × (stand_once more ≡ true) = and_parts _ _ once in
      let split = filter_both (owns value) (owned_in kind k t) (owned_at kind more k) in
      ⊎_elim
      (λ h.
      let same : t.0 ≡ table = eqb-true t.0 table h in
      let rest = no_table more tags.1 (subst (λ n. list_all (λ u. not (eqb u.0 n)) more ≡ true) same both.0) in
      let index : index_of kind t.0 (k + 1) ≡ value = ap (λ n. index_of kind n (k + 1)) same in
      let first = all_marked value (index_of kind t.0 (k + 1)) index (or_none (slice_get t.1 k)) in
      let lists : lists_of table (t ∷ more) ≡ t.1 = rw h refl in
      split
      ∙ ap (λ (zs : List (ℕ × X)). filter (owns value) (owned_in kind k t) ++ zs) rest
      ∙ append-nil (filter (owns value) (owned_in kind k t))
      ∙ first
      ∙ ap (λ n. marked n (or_none (slice_get t.1 k))) index
      ∙ ap (λ (ls : List (List X)). marked value (or_none (slice_get ls k))) (sym lists))
      (λ h.
      let first = none_marked value (index_of kind t.0 (k + 1)) (other_row t.0 k tags.0 (λ e f. let yes = eq-eqb t.0 table e in cc)) (or_none (slice_get t.1 k)) in
      let lists : lists_of table (t ∷ more) ≡ lists_of table more = rw h refl in
      split
      ∙ ap (λ (zs : List (ℕ × X)). zs ++ filter (owns value) (owned_at kind more k)) first
      ∙ own_number more tags.1 both.1
      ∙ ap (λ (ls : List (List X)). marked value (or_none (slice_get ls k))) (sym lists))
      (cases_Bool (eqb t.0 table))

  module _ {X : Type 0} (tables : List (ℕ × List (List X))) (tags : HaveTags kind tables) (once : stand_once tables ≡ true) where
    later : (first n : ℕ) → k < first → filter (owns value) (flat_map (owned_at kind tables) (range_with_len first n)) ≡ []
    later first zero past = refl
    later first (suc n) past =
        filter_both (owns value) (owned_at kind tables first) (flat_map (owned_at kind tables) (range_with_len (first + 1) n))
        ∙ ap (λ (zs : List (ℕ × X)). zs ++ filter (owns value) (flat_map (owned_at kind tables) (range_with_len (first + 1) n)))
        (other_number first (λ e. omega arith) tables tags)
        ∙ later (first + 1) n (omega arith)

    within : (first n : ℕ) → first ≤ k → k < first + n
        → filter (owns value) (flat_map (owned_at kind tables) (range_with_len first n)) ≡ marked value (or_none (slice_get (lists_of table tables) k))
    within first zero low high = absurd (omega arith)
    within first (suc n) low high =
        let split = filter_both (owns value) (owned_at kind tables first) (flat_map (owned_at kind tables) (range_with_len (first + 1) n)) in
        ⊎_elim
        (λ h.
        let here : first ≡ k = eqb-true first k h in
        let none = later (first + 1) n (omega arith) in
        split
        ∙ ap (λ (zs : List (ℕ × X)). filter (owns value) (owned_at kind tables first) ++ zs) none
        ∙ append-nil (filter (owns value) (owned_at kind tables first))
        ∙ ap (λ j. filter (owns value) (owned_at kind tables j)) here
        ∙ own_number tables tags once)
        (λ h.
        let other : (first ≡ k) → ⊥ = (λ e. let yes = eq-eqb first k e in cc) in
        split
        ∙ ap (λ (zs : List (ℕ × X)). zs ++ filter (owns value) (flat_map (owned_at kind tables) (range_with_len (first + 1) n)))
        (other_number first other tables tags)
        ∙ within (first + 1) n (omega (arith, other)) (omega arith))
        (cases_Bool (eqb first k))

    -- what the row owns
    pub own_items : (count : ℕ) → k < count → filter (owns value) (by_number kind tables count) ≡ marked value (or_none (slice_get (lists_of table tables) k))
    own_items count low = within 0 count (omega arith) (omega arith)
