-- Sections that are written, and what they say.
use Rattle.std.proofs.Common.{◌≡◌, ◌∙◌, ℕ, zero, suc, ◌<◌, ◌≤◌, ◌+◌, ◌*◌, ◌-◌, ◌%◌, ◌^◌, Bool, true, false, if◌then◌else◌, List, [], ◌∷◌, ◌++◌, length, drop, take, replicate, get_or, ap, refl, sym, arith}
use Rattle.std.specs.List.{flat_map, All}
use Rattle.std.proofs.lemmas.List.{length-append, length-take, drop_at, drop-drop, get_or-drop}
use Rattle.std.proofs.lemmas.List.FromFn.{fill_by_all}
use Rattle.std.proofs.lemmas.Bool.{le-leb}
use Rattle.byteorder.specs.Endian.{little_number}
use Rattle.body_codec.specs.declared.decoding.sections.ClauseRow.{ClauseRow}
use Rattle.body_codec.specs.Header.{number_at}
use Rattle.body_codec.specs.Sections.{padded, section_kind, is_fat_section, has_more, said_size, clause_size, clause_count, section_end, can_be_read, sections_from, small_row, fat_row, row_in, rows_in}
use Rattle.body_codec.specs.Written.{number_bytes, small_bytes, fat_bytes, padding}
use Rattle.body_codec.proofs.Numbers.{little_back}
use Rattle.body_codec.proofs.Tails.{one_of, all_of}

-- ---- rows

-- the numbers of a row fit the small form, or the fat one
pub record SmallFits (r : ClauseRow) : Type 0 where
  pub kind : r.kind < 256 ^ 2
  pub try_offset : r.try_offset < 256 ^ 2
  pub try_length : r.try_length < 256 ^ 1
  pub handler_offset : r.handler_offset < 256 ^ 2
  pub handler_length : r.handler_length < 256 ^ 1
  pub class_or_filter : r.class_or_filter < 256 ^ 4

pub record FatFits (r : ClauseRow) : Type 0 where
  pub kind : r.kind < 256 ^ 4
  pub try_offset : r.try_offset < 256 ^ 4
  pub try_length : r.try_length < 256 ^ 4
  pub handler_offset : r.handler_offset < 256 ^ 4
  pub handler_length : r.handler_length < 256 ^ 4
  pub class_or_filter : r.class_or_filter < 256 ^ 4

same_row : (r s : ClauseRow) → r.kind ≡ s.kind → r.try_offset ≡ s.try_offset → r.try_length ≡ s.try_length → r.handler_offset ≡ s.handler_offset
    → r.handler_length ≡ s.handler_length → r.class_or_filter ≡ s.class_or_filter → r ≡ s
same_row r s a b c d e f =
    λ i. record { kind = a i; try_offset = b i; try_length = c i; handler_offset = d i; handler_length = e i; class_or_filter = f i }

-- a number some bytes behind a place
field : (bytes front : List ℕ) (at size j : ℕ) → drop at bytes ≡ front → number_at size (at + j) bytes ≡ little_number size (drop j front)
unfolding number_at
field bytes front at size j e = ap (little_number size) (sym (drop-drop j at bytes) ∙ ap (drop j) e)

at_front : (bytes front : List ℕ) (at size : ℕ) → drop at bytes ≡ front → number_at size at bytes ≡ little_number size front
unfolding number_at
at_front bytes front at size e = ap (little_number size) e

small_width : (r : ClauseRow) → length (small_bytes r) ≡ 12
unfolding small_bytes number_bytes
small_width r = refl

fat_width : (r : ClauseRow) → length (fat_bytes r) ≡ 24
unfolding fat_bytes number_bytes
fat_width r = refl

small_read : (bytes : List ℕ) (at : ℕ) (r : ClauseRow) (rest : List ℕ) → drop at bytes ≡ small_bytes r ++ rest → SmallFits r → small_row bytes at ≡ r
unfolding small_row small_bytes number_bytes
small_read bytes at r rest e f =
    let F : List ℕ = small_bytes r ++ rest in
    same_row (small_row bytes at) r
    (at_front bytes F at 2 e ∙ little_back 2 r.kind (drop 2 F) f.kind)
    (field bytes F at 2 2 e ∙ little_back 2 r.try_offset (drop 4 F) f.try_offset)
    (field bytes F at 1 4 e ∙ little_back 1 r.try_length (drop 5 F) f.try_length)
    (field bytes F at 2 5 e ∙ little_back 2 r.handler_offset (drop 7 F) f.handler_offset)
    (field bytes F at 1 7 e ∙ little_back 1 r.handler_length (drop 8 F) f.handler_length)
    (field bytes F at 4 8 e ∙ little_back 4 r.class_or_filter (drop 12 F) f.class_or_filter)

fat_read : (bytes : List ℕ) (at : ℕ) (r : ClauseRow) (rest : List ℕ) → drop at bytes ≡ fat_bytes r ++ rest → FatFits r → fat_row bytes at ≡ r
unfolding fat_row fat_bytes number_bytes
fat_read bytes at r rest e f =
    let F : List ℕ = fat_bytes r ++ rest in
    same_row (fat_row bytes at) r
    (at_front bytes F at 4 e ∙ little_back 4 r.kind (drop 4 F) f.kind)
    (field bytes F at 4 4 e ∙ little_back 4 r.try_offset (drop 8 F) f.try_offset)
    (field bytes F at 4 8 e ∙ little_back 4 r.try_length (drop 12 F) f.try_length)
    (field bytes F at 4 12 e ∙ little_back 4 r.handler_offset (drop 16 F) f.handler_offset)
    (field bytes F at 4 16 e ∙ little_back 4 r.handler_length (drop 20 F) f.handler_length)
    (field bytes F at 4 20 e ∙ little_back 4 r.class_or_filter (drop 24 F) f.class_or_filter)

-- ---- a section at a place

-- what the section at a place says, where it is the last part of some bytes
pub record Holds (bytes : List ℕ) (p : ℕ) (fat : Bool) (rows : List ClauseRow) : Type 0 where
  pub byte_is : get_or bytes p 0 ≡ (if fat then 0x41 else 1)
  pub kind_is : section_kind bytes p ≡ 1
  pub fat_is : is_fat_section bytes p ≡ fat
  pub more_is : has_more bytes p ≡ false
  pub exact : said_size bytes p + p ≡ length bytes
  pub ends : section_end bytes p ≡ length bytes
  pub read : can_be_read bytes p ≡ true
  pub rows_are : rows_in bytes p ≡ rows
  pub reserved : fat ≡ false → number_at 2 (p + 2) bytes ≡ 0

module _ (front section : List ℕ) (p : ℕ) (len : length front ≡ p) where
  there : (j : ℕ) → drop (p + j) (front ++ section) ≡ drop j section
  there j = sym (drop-drop j p (front ++ section)) ∙ ap (drop j) (drop_at front section p len)

  first : get_or (front ++ section) p 0 ≡ get_or section 0 0
  first =
      let e : p ≡ p + 0 = omega arith in
      ap (λ n. get_or (front ++ section) n 0) e ∙ sym (get_or-drop p (front ++ section) 0 0)
      ∙ ap (λ (s : List ℕ). get_or s 0 0) (drop_at front section p len)

  numbered : (size j : ℕ) → number_at size (p + j) (front ++ section) ≡ little_number size (drop j section)
  unfolding number_at
  numbered size j = ap (little_number size) (there j)

  total : length (front ++ section) ≡ p + length section
  total = length-append front section ∙ ap (λ n. n + length section) len

module _ (front : List ℕ) (p : ℕ) (len : length front ≡ p) (rows : List ClauseRow) (few : length rows ≤ 20) (fits : All SmallFits rows) where
  abbrev small_section : List ℕ
  small_section = (1 ∷ (4 + 12 * length rows) ∷ 0 ∷ 0 ∷ []) ++ flat_map small_bytes rows

  abbrev smalls : List ℕ
  smalls = front ++ small_section

  s_kind : section_kind smalls p ≡ 1
  unfolding section_kind
  s_kind = ap (λ n. n % 64) (first front small_section p len)

  s_fat : is_fat_section smalls p ≡ false
  unfolding is_fat_section
  s_fat = rw (first front small_section p len) refl

  s_more : has_more smalls p ≡ false
  unfolding has_more
  s_more = rw (first front small_section p len) refl

  s_said : said_size smalls p ≡ 4 + 12 * length rows
  unfolding said_size
  s_said = rw s_fat (numbered front small_section p len 1 1 ∙ omega arith)

  s_width : clause_size smalls p ≡ 12
  unfolding clause_size
  s_width = rw s_fat refl

  s_count : clause_count smalls p ≡ length rows
  unfolding clause_count
  s_count = rw (s_said, s_width) (omega arith)

  s_total : length smalls ≡ p + (4 + 12 * length rows)
  s_total =
      total front small_section p len ∙ ap (λ n. p + suc (suc (suc (suc n)))) (all_of small_bytes 12 small_width rows) ∙ omega arith

  s_ends : section_end smalls p ≡ p + (4 + 12 * length rows)
  unfolding section_end
  s_ends = rw (s_said, s_count, s_width) (omega arith)

  s_read : can_be_read smalls p ≡ true
  unfolding can_be_read
  s_read =
      rw (le-leb (p + 4) (length smalls) (omega (arith, s_total)))
      (rw s_kind (le-leb (section_end smalls p) (length smalls) (omega (arith, s_total, s_ends))))

  s_row : (k : ℕ) (d : ClauseRow) → k < length rows → small_row smalls (p + 4 + 12 * k) ≡ get_or rows k d
  s_row k d h =
      let one = one_of small_bytes 12 small_width rows k d h in
      let e : p + 4 + 12 * k ≡ p + (4 + 12 * k) = omega arith in
      small_read smalls (p + 4 + 12 * k) (get_or rows k d) one.0
      (ap (λ n. drop n smalls) e ∙ there front small_section p len (4 + 12 * k) ∙ sym (drop-drop (12 * k) 4 small_section) ∙ one.1)
      (fits k d h)

  s_row_in : (k : ℕ) (d : ClauseRow) → k < length rows → row_in smalls p k ≡ get_or rows k d
  s_row_in k d h = rw s_fat (s_row k d h)

  s_rows : rows_in smalls p ≡ rows
  unfolding rows_in
  s_rows =
      let d : ClauseRow = record { kind = 0; try_offset = 0; try_length = 0; handler_offset = 0; handler_length = 0; class_or_filter = 0 } in
      rw s_read (rw s_count (sym (fill_by_all (row_in smalls p) rows (length rows) d refl (λ k h. sym (s_row_in k d h)))))

  pub small_holds : Holds smalls p false rows
  small_holds = record {
    byte_is = first front small_section p len;
    reserved = λ e. numbered front small_section p len 2 2;
    kind_is = s_kind;
    fat_is = s_fat;
    more_is = s_more;
    exact = omega (arith, s_said, s_total);
    ends = omega (arith, s_ends, s_total);
    read = s_read;
    rows_are = s_rows;
  }

module _ (front : List ℕ) (p : ℕ) (len : length front ≡ p) (rows : List ClauseRow) (few : length rows < 2 ^ 16) (fits : All FatFits rows) where
  abbrev fat_section : List ℕ
  fat_section = (0x41 ∷ []) ++ number_bytes 3 (4 + 24 * length rows) ++ flat_map fat_bytes rows

  abbrev fats : List ℕ
  fats = front ++ fat_section

  f_kind : section_kind fats p ≡ 1
  unfolding section_kind
  f_kind = ap (λ n. n % 64) (first front fat_section p len)

  f_fat : is_fat_section fats p ≡ true
  unfolding is_fat_section
  f_fat = rw (first front fat_section p len) refl

  f_more : has_more fats p ≡ false
  unfolding has_more
  f_more = rw (first front fat_section p len) refl

  f_said : said_size fats p ≡ 4 + 24 * length rows
  unfolding said_size
  f_said = rw f_fat (numbered front fat_section p len 3 1 ∙ little_back 3 (4 + 24 * length rows) (flat_map fat_bytes rows) (omega arith))

  f_width : clause_size fats p ≡ 24
  unfolding clause_size
  f_width = rw f_fat refl

  f_count : clause_count fats p ≡ length rows
  unfolding clause_count
  f_count = rw (f_said, f_width) (omega arith)

  f_total : length fats ≡ p + (4 + 24 * length rows)
  unfolding number_bytes
  f_total =
      total front fat_section p len ∙ ap (λ n. p + suc (suc (suc (suc n)))) (all_of fat_bytes 24 fat_width rows) ∙ omega arith

  f_ends : section_end fats p ≡ p + (4 + 24 * length rows)
  unfolding section_end
  f_ends = rw (f_said, f_count, f_width) (omega arith)

  f_read : can_be_read fats p ≡ true
  unfolding can_be_read
  f_read =
      rw (le-leb (p + 4) (length fats) (omega (arith, f_total)))
      (rw f_kind (le-leb (section_end fats p) (length fats) (omega (arith, f_total, f_ends))))

  f_row : (k : ℕ) (d : ClauseRow) → k < length rows → fat_row fats (p + 4 + 24 * k) ≡ get_or rows k d
  unfolding number_bytes
  f_row k d h =
      let one = one_of fat_bytes 24 fat_width rows k d h in
      let e : p + 4 + 24 * k ≡ p + (4 + 24 * k) = omega arith in
      fat_read fats (p + 4 + 24 * k) (get_or rows k d) one.0
      (ap (λ n. drop n fats) e ∙ there front fat_section p len (4 + 24 * k) ∙ sym (drop-drop (24 * k) 4 fat_section) ∙ one.1)
      (fits k d h)

  f_row_in : (k : ℕ) (d : ClauseRow) → k < length rows → row_in fats p k ≡ get_or rows k d
  f_row_in k d h = rw f_fat (f_row k d h)

  f_rows : rows_in fats p ≡ rows
  unfolding rows_in
  f_rows =
      let d : ClauseRow = record { kind = 0; try_offset = 0; try_length = 0; handler_offset = 0; handler_length = 0; class_or_filter = 0 } in
      rw f_read (rw f_count (sym (fill_by_all (row_in fats p) rows (length rows) d refl (λ k h. sym (f_row_in k d h)))))

  pub fat_holds : Holds fats p true rows
  fat_holds = record {
    byte_is = first front fat_section p len;
    reserved = λ e. cc;
    kind_is = f_kind;
    fat_is = f_fat;
    more_is = f_more;
    exact = omega (arith, f_said, f_total);
    ends = omega (arith, f_ends, f_total);
    read = f_read;
    rows_are = f_rows;
  }

-- ---- padding, and the list of sections

few_zeros : (at : ℕ) → padded at - at ≤ 3
unfolding padded
few_zeros at = omega arith

zeros : (n : ℕ) → n ≤ 3 → let all : List ℕ = 0 ∷ 0 ∷ 0 ∷ [] in take n all ≡ replicate n 0
zeros zero h = refl
zeros (suc zero) h = refl
zeros (suc (suc zero)) h = refl
zeros (suc (suc (suc zero))) h = refl
zeros (suc (suc (suc (suc n)))) h = absurd (omega arith)

-- the padding is zeros
pub padding_is : (at : ℕ) → padding at ≡ replicate (padded at - at) 0
padding_is at = zeros (padded at - at) (few_zeros at)

pub padding_long : (at : ℕ) → length (padding at) ≡ padded at - at
padding_long at = omega (arith, length-take {A = ℕ} (padded at - at) (0 ∷ 0 ∷ 0 ∷ []), few_zeros at)

pub length-padding : (at : ℕ) → at + length (padding at) ≡ padded at
unfolding padded
length-padding at = omega (arith, length-take {A = ℕ} (padded at - at) (0 ∷ 0 ∷ 0 ∷ []))

-- one section is all, where no other follows
pub only_section : (bytes : List ℕ) (p n : ℕ) → can_be_read bytes p ≡ true → has_more bytes p ≡ false → sections_from n bytes p ≡ p ∷ []
only_section bytes p zero r m = refl
only_section bytes p (suc n) r m = rw r (rw m refl)
