-- Sections and the clauses in them, where more bytes follow.
use Rattle.std.proofs.Common.{◌≡◌, ap, refl, sym, ◌∙◌, subst, ℕ, zero, suc, ◌+◌, ◌*◌, ◌/◌, ◌%◌, ◌==◌, ◌<◌, ◌≤◌, max, Bool, true, false, not, cond, ◌&&◌, ◌||◌, List, [], ◌∷◌, ◌++◌, map, length, arith}
use Rattle.std.specs.Prelude.{nat_le}
use Rattle.std.specs.List.{AllByRecursion, fold, flat_map, list_any, range_with_len}
use Rattle.std.proofs.lemmas.Bool.{and_from, and_parts, leb-true, le-leb, not-false}
use Rattle.std.proofs.lemmas.List.{length-append}
use Rattle.body_codec.specs.Header.{HasHeader, code_end, has_sections}
use Rattle.body_codec.specs.Sections.{padded, section_kind, is_fat_section, has_more, said_size, clause_size, clause_count, section_end, can_be_read, sections_from, sections, is_broken, body_end, small_row, fat_row, row_in, rows_in, clause_rows}
use Rattle.laws_image_parts.proofs.in_code.HeaderLemmas.{byte_same, number_same, cond_same, code_end_same, has_sections_same}

-- ---- lists

map_same : {X : Type 0} (f g : ℕ → X) (first n : ℕ) → ((k : ℕ) → k < n → f (first + k) ≡ g (first + k)) → map f (range_with_len first n) ≡ map g (range_with_len first n)
map_same f g first zero h = refl
map_same f g first (suc n) h =
    let here : first ≡ first + 0 = omega arith in
    let head : f first ≡ g first = ap f here ∙ h 0 (omega arith) ∙ sym (ap g here) in
    let rest = map_same f g (first + 1) n (λ k low. let e : first + 1 + k ≡ first + suc k = omega arith in ap f e ∙ h (suc k) (omega arith) ∙ sym (ap g e)) in
    λ i. head i ∷ rest i

flat_same : {X Y : Type 0} (f g : X → List Y) (xs : List X) → AllByRecursion (λ x. f x ≡ g x) xs → flat_map f xs ≡ flat_map g xs
flat_same f g [] h = refl
flat_same f g (x ∷ xs) h = let head = h.0 in let rest = flat_same f g xs h.1 in λ i. head i ++ rest i

fold_same : (f g : ℕ → ℕ) (xs : List ℕ) (n : ℕ) → AllByRecursion (λ x. f x ≡ g x) xs → fold (λ (end at : ℕ). f at) n xs ≡ fold (λ (end at : ℕ). g at) n xs
fold_same f g [] n h = refl
fold_same f g (x ∷ xs) n h = ap (λ m. fold (λ (end at : ℕ). f at) m xs) h.0 ∙ fold_same f g xs (g x) h.1

none_any : (p : ℕ → Bool) (xs : List ℕ) → AllByRecursion (λ x. p x ≡ true) xs → list_any (λ x. not (p x)) xs ≡ false
none_any p [] h = refl
none_any p (x ∷ xs) h = let head = h.0 in let rest = none_any p xs h.1 in λ i. not (head i) || rest i

each_later : (P Q : ℕ → Type 0) (xs : List ℕ) → ((x : ℕ) → P x → Q x) → AllByRecursion P xs → AllByRecursion Q xs
each_later P Q [] f h = tt
each_later P Q (x ∷ xs) f h = (f x h.0, each_later P Q xs f h.1)

pick_same : {X : Type 0} (b c : Bool) (xs ys : List X) → b ≡ true → c ≡ true → ys ≡ xs → cond c ys [] ≡ cond b xs []
pick_same b c xs ys e f same = ap (λ (d : Bool). cond d ys []) f ∙ same ∙ sym (ap (λ (d : Bool). cond d xs []) e)

or_none : (a b : Bool) → (a || b) ≡ false → (a ≡ false) × (b ≡ false)
or_none true b e = absurd cc
or_none false b e = (refl, e)

-- ---- a section

module _ (bytes more : List ℕ) where
  abbrev pub Readable : ℕ → Type 0
  Readable at = can_be_read bytes at ≡ true

  front : (at : ℕ) → Readable at → (nat_le (at + 4) (length bytes) ≡ true) × ((section_kind bytes at == 1) ≡ true)
  unfolding can_be_read
  front at h =
      and_parts (nat_le (at + 4) (length bytes)) (section_kind bytes at == 1)
      (and_parts (nat_le (at + 4) (length bytes) && (section_kind bytes at == 1)) (nat_le (section_end bytes at) (length bytes)) h).0

  room : (at : ℕ) → Readable at → at + 4 ≤ length bytes
  unfolding can_be_read
  room at h = leb-true _ _ (front at h).0

  end_room : (at : ℕ) → Readable at → section_end bytes at ≤ length bytes
  unfolding can_be_read
  end_room at h = leb-true _ _ (and_parts (nat_le (at + 4) (length bytes) && (section_kind bytes at == 1)) (nat_le (section_end bytes at) (length bytes)) h).1

  module _ (at : ℕ) (h : Readable at) where
    fat_same : is_fat_section (bytes ++ more) at ≡ is_fat_section bytes at
    unfolding is_fat_section
    fat_same = ap (λ n. n / 64 % 2 == 1) (byte_same bytes more at (let r = room at h in omega arith))

    pub more_same : has_more (bytes ++ more) at ≡ has_more bytes at
    unfolding has_more
    more_same = ap (λ n. n / 128 % 2 == 1) (byte_same bytes more at (let r = room at h in omega arith))

    kind_same : section_kind (bytes ++ more) at ≡ section_kind bytes at
    unfolding section_kind
    kind_same = ap (λ n. n % 64) (byte_same bytes more at (let r = room at h in omega arith))

    said_same : said_size (bytes ++ more) at ≡ said_size bytes at
    unfolding said_size
    said_same =
        let r = room at h in
        cond_same (is_fat_section bytes at) (is_fat_section (bytes ++ more) at) _ _ _ _ fat_same (λ e. number_same bytes more 3 (at + 1) (omega arith))
        (λ e. number_same bytes more 1 (at + 1) (omega arith))

    size_same : clause_size (bytes ++ more) at ≡ clause_size bytes at
    unfolding clause_size
    size_same = ap (λ (b : Bool). cond b 24 12) fat_same

    count_same : clause_count (bytes ++ more) at ≡ clause_count bytes at
    unfolding clause_count
    count_same = let said = said_same in let size = size_same in λ i. said i / size i

    pub end_same : section_end (bytes ++ more) at ≡ section_end bytes at
    unfolding section_end
    end_same = let said = said_same in let count = count_same in let size = size_same in λ i. at + max (said i) (4 + count i * size i)

    pub still_read : can_be_read (bytes ++ more) at ≡ true
    unfolding can_be_read
    still_read =
        let long = length-append bytes more in
        let r = room at h in
        let e = end_room at h in
        let ends = end_same in
        let kind = kind_same in
        let is_kind = (front at h).1 in
        and_from _ _ (and_from _ _ (le-leb _ _ (omega arith)) (ap (λ n. n == 1) kind ∙ is_kind)) (le-leb _ _ (omega arith))

    -- its clauses lie in the section
    clause_room : (k : ℕ) → k < clause_count bytes at → at + 4 + clause_size bytes at * k + clause_size bytes at ≤ length bytes
    unfolding section_end
    clause_room k low =
        let e = end_room at h in
        let rows : clause_size bytes at * k + clause_size bytes at ≤ clause_count bytes at * clause_size bytes at = times (clause_count bytes at) (clause_size bytes at) k low in
        omega arith
      where
        times : (count size k : ℕ) → k < count → size * k + size ≤ count * size
        times zero size k low = absurd (omega arith)
        times (suc count) size zero low = grind arith
        times (suc count) size (suc k) low = let rest = times count size k (omega arith) in grind arith

    fat_row_same : (place : ℕ) → place + 24 ≤ length bytes → fat_row (bytes ++ more) place ≡ fat_row bytes place
    unfolding fat_row
    fat_row_same place low =
        let a = number_same bytes more 4 place (omega arith) in
        let b = number_same bytes more 4 (place + 4) (omega arith) in
        let c = number_same bytes more 4 (place + 8) (omega arith) in
        let d = number_same bytes more 4 (place + 12) (omega arith) in
        let e = number_same bytes more 4 (place + 16) (omega arith) in
        let f = number_same bytes more 4 (place + 20) (omega arith) in
        λ i. record { kind = a i; try_offset = b i; try_length = c i; handler_offset = d i; handler_length = e i; class_or_filter = f i }

    small_row_same : (place : ℕ) → place + 12 ≤ length bytes → small_row (bytes ++ more) place ≡ small_row bytes place
    unfolding small_row
    small_row_same place low =
        let a = number_same bytes more 2 place (omega arith) in
        let b = number_same bytes more 2 (place + 2) (omega arith) in
        let c = number_same bytes more 1 (place + 4) (omega arith) in
        let d = number_same bytes more 2 (place + 5) (omega arith) in
        let e = number_same bytes more 1 (place + 7) (omega arith) in
        let f = number_same bytes more 4 (place + 8) (omega arith) in
        λ i. record { kind = a i; try_offset = b i; try_length = c i; handler_offset = d i; handler_length = e i; class_or_filter = f i }

    row_same : (k : ℕ) → k < clause_count bytes at → row_in (bytes ++ more) at k ≡ row_in bytes at k
    unfolding clause_size
    row_same k low =
        let inside = clause_room k low in
        cond_same (is_fat_section bytes at) (is_fat_section (bytes ++ more) at) _ _ _ _ fat_same
        (λ e. let size : cond (is_fat_section bytes at) 24 12 ≡ 24 = ap (λ (b : Bool). cond b 24 12) e in fat_row_same (at + 4 + 24 * k) (fat_place (clause_size bytes at) k size inside))
        (λ e. let size : cond (is_fat_section bytes at) 24 12 ≡ 12 = ap (λ (b : Bool). cond b 24 12) e in small_row_same (at + 4 + 12 * k) (fat_place (clause_size bytes at) k size inside))
      where
        fat_place : {n : ℕ} (size k : ℕ) → size ≡ n → at + 4 + size * k + size ≤ length bytes → at + 4 + n * k + n ≤ length bytes
        fat_place size k e le = subst (λ m. at + 4 + m * k + m ≤ length bytes) e le

    pub rows_same : rows_in (bytes ++ more) at ≡ rows_in bytes at
    unfolding rows_in
    rows_same =
        let count = count_same in
        pick_same (can_be_read bytes at) (can_be_read (bytes ++ more) at) _ _ h still_read
        (ap (λ n. map (row_in (bytes ++ more) at) (range_with_len 0 n)) count
        ∙ map_same (row_in (bytes ++ more) at) (row_in bytes at) 0 (clause_count bytes at) (λ k low. let here : 0 + k ≡ k = omega arith in ap (row_in (bytes ++ more) at) here ∙ row_same k low ∙ sym (ap (row_in bytes at) here)))

  -- ---- all sections

  abbrev behind : List ℕ → ℕ → ℕ
  behind bs at = padded (section_end bs at)

  next_same : (at : ℕ) → Readable at → behind (bytes ++ more) at ≡ behind bytes at
  next_same at h = ap padded (end_same at h)

  later : (at : ℕ) → Readable at → at < behind bytes at
  unfolding padded section_end
  later at h = omega arith

  abbrev Broken : ℕ → Bool
  Broken at = not (can_be_read bytes at)

  -- the sections from a place on, of which each can be read
  sections_same : (n m at : ℕ) → length bytes ≤ n + at → length bytes ≤ m + at → list_any Broken (sections_from n bytes at) ≡ false
      → (sections_from m (bytes ++ more) at ≡ sections_from n bytes at) × AllByRecursion Readable (sections_from n bytes at)
  sections_same zero m at fuel also none =
      let h : Readable at = not-false _ (or_none _ _ none).0 in
      absurd (let r = room at h in omega arith)
  sections_same (suc n) zero at fuel also none =
      let h : Readable at = not-false _ (or_none _ _ none).0 in
      absurd (let r = room at h in omega arith)
  sections_same (suc n) (suc m) at fuel also none =
      let parts = or_none _ _ none in
      let h : Readable at = not-false _ parts.0 in
      by_more (λ fuel also none. sections_same n m (behind bytes at) fuel also none) (has_more bytes at) refl h parts.1
    where
      by_more : (length bytes ≤ n + behind bytes at → length bytes ≤ m + behind bytes at → list_any Broken (sections_from n bytes (behind bytes at)) ≡ false
          → (sections_from m (bytes ++ more) (behind bytes at) ≡ sections_from n bytes (behind bytes at)) × AllByRecursion Readable (sections_from n bytes (behind bytes at)))
          → (b : Bool) → has_more bytes at ≡ b → Readable at
          → list_any Broken (cond (can_be_read bytes at && has_more bytes at) (sections_from n bytes (behind bytes at)) []) ≡ false
          → (sections_from (suc m) (bytes ++ more) at ≡ sections_from (suc n) bytes at) × AllByRecursion Readable (sections_from (suc n) bytes at)
      by_more next true e h rest =
          let so : (can_be_read bytes at && has_more bytes at) ≡ true = and_from _ _ h e in
          let also_so : (can_be_read (bytes ++ more) at && has_more (bytes ++ more) at) ≡ true = and_from _ _ (still_read at h) (more_same at h ∙ e) in
          let up = later at h in
          let none_behind : list_any Broken (sections_from n bytes (behind bytes at)) ≡ false = subst (λ (b : Bool). list_any Broken (cond b (sections_from n bytes (behind bytes at)) []) ≡ false) so rest in
          let more_sections = next (omega arith) (omega arith) none_behind in
          let here = sections_from n bytes (behind bytes at) in
          let there = sections_from m (bytes ++ more) (behind (bytes ++ more) at) in
          let tails : there ≡ here = ap (sections_from m (bytes ++ more)) (next_same at h) ∙ more_sections.0 in
          let conds : cond (can_be_read (bytes ++ more) at && has_more (bytes ++ more) at) there [] ≡ cond (can_be_read bytes at && has_more bytes at) here [] =
          ap (λ (b : Bool). cond b there []) also_so ∙ tails ∙ sym (ap (λ (b : Bool). cond b here []) so) in
          (ap (λ (xs : List ℕ). at ∷ xs) conds, (h, subst (λ (b : Bool). AllByRecursion Readable (cond b here [])) (sym so) more_sections.1))
      by_more next false e h rest =
          let here = sections_from n bytes (behind bytes at) in
          let there = sections_from m (bytes ++ more) (behind (bytes ++ more) at) in
          let so : (can_be_read bytes at && has_more bytes at) ≡ false = (λ i. h i && e i) in
          let read = still_read at h in
          let last = more_same at h in
          let also_so : (can_be_read (bytes ++ more) at && has_more (bytes ++ more) at) ≡ false = (λ i. read i && last i) ∙ e in
          let conds : cond (can_be_read (bytes ++ more) at && has_more (bytes ++ more) at) there [] ≡ cond (can_be_read bytes at && has_more bytes at) here [] =
          ap (λ (b : Bool). cond b there []) also_so ∙ sym (ap (λ (b : Bool). cond b here []) so) in
          (ap (λ (xs : List ℕ). at ∷ xs) conds, (h, subst (λ (b : Bool). AllByRecursion Readable (cond b here [])) (sym so) tt))

  module _ (h : HasHeader bytes) (whole : is_broken bytes ≡ false) where
    both : (sections (bytes ++ more) ≡ sections bytes) × AllByRecursion Readable (sections bytes)
    unfolding sections
    both = by_some (has_sections bytes) refl whole
      where
        here : List ℕ
        here = sections_from (length bytes) bytes (padded (code_end bytes))

        there : List ℕ
        there = sections_from (length (bytes ++ more)) (bytes ++ more) (padded (code_end (bytes ++ more)))

        by_some : (b : Bool) → has_sections bytes ≡ b → list_any Broken (cond (has_sections bytes) here []) ≡ false
            → (cond (has_sections (bytes ++ more)) there [] ≡ cond (has_sections bytes) here []) × AllByRecursion Readable (cond (has_sections bytes) here [])
        by_some true e none =
            let long = length-append bytes more in
            let same = sections_same (length bytes) (length (bytes ++ more)) (padded (code_end bytes)) (omega arith) (omega arith)
            (subst (λ (b : Bool). list_any Broken (cond b here []) ≡ false) e none) in
            let place = ap padded (code_end_same bytes more h) in
            let all : there ≡ here = ap (sections_from (length (bytes ++ more)) (bytes ++ more)) place ∙ same.0 in (
              ap (λ (b : Bool). cond b there []) (has_sections_same bytes more h ∙ e) ∙ all ∙ sym (ap (λ (b : Bool). cond b here []) e),
              subst (λ (b : Bool). AllByRecursion Readable (cond b here [])) (sym e) same.1,
            )
        by_some false e none = (
          ap (λ (b : Bool). cond b there []) (has_sections_same bytes more h ∙ e) ∙ sym (ap (λ (b : Bool). cond b here []) e),
          subst (λ (b : Bool). AllByRecursion Readable (cond b here [])) (sym e) tt,
        )

    pub rows_all : clause_rows (bytes ++ more) ≡ clause_rows bytes
    rows_all =
        ap (flat_map (rows_in (bytes ++ more))) both.0
        ∙ flat_same (rows_in (bytes ++ more)) (rows_in bytes) (sections bytes) (each_later Readable _ (sections bytes) (λ at r. rows_same at r) both.1)

    pub none_broken : is_broken (bytes ++ more) ≡ false
    none_broken =
        ap (list_any (λ at. not (can_be_read (bytes ++ more) at))) both.0
        ∙ none_any (can_be_read (bytes ++ more)) (sections bytes) (each_later Readable _ (sections bytes) (λ at r. still_read at r) both.1)

    pub ends_same : body_end (bytes ++ more) ≡ body_end bytes
    ends_same =
        let places = both.0 in
        let start = code_end_same bytes more h in
        (λ i. fold (λ (end at : ℕ). section_end (bytes ++ more) at) (start i) (places i))
        ∙ fold_same (section_end (bytes ++ more)) (section_end bytes) (sections bytes) (code_end bytes) (each_later Readable _ (sections bytes) (λ at r. end_same at r) both.1)
