-- Where a body ends: what its header and its section of clauses take.
use Rattle.std.proofs.Common.{◌≡◌, ◌⊎◌, ap, refl, sym, ◌∙◌, subst, ℕ, zero, suc, ◌+◌, ◌*◌, ◌/◌, ◌%◌, ◌-◌, ◌<◌, ◌≤◌, ◌==◌, ◌&&◌, ◌||◌, Bool, true, false, cond, not, List, [], ◌∷◌, ◌++◌, take, drop, length, length-drop, inl, inr, true≢false, arith}
use Rattle.std.specs.Prelude.{slice_index, nat_lt, map}
use Rattle.std.specs.List.{flat_map, fold, list_any, range_with_len}
use Rattle.std.proofs.lemmas.Bool.{cases_Bool, eqb-true}
use Rattle.std.proofs.lemmas.List.{append-nil, length-take-le}
use Rattle.std.proofs.lemmas.List.FromFn.{length-map-range_with_len}
use Rattle.assembly_tree.specs.declared.body.Body.{Body}
use Rattle.assembly_tree.specs.declared.body.Clause.{Clause}
use Rattle.body_codec.specs.Bodies.{Spells}
use Rattle.body_codec.specs.Encoding.{offset, fat_flags, IsCompact, IsWritten}
use Rattle.body_codec.specs.Header.{number_at, is_tiny, is_fat, header_size, code_size, has_sections, code_end, code_of}
use Rattle.body_codec.specs.Names.{TokenMap, writing}
use Rattle.body_codec.specs.Sections.{padded, is_fat_section, said_size, clause_size, clause_count, can_be_read, sections_from, sections, section_end, is_broken, body_end, row_in, rows_in, clause_rows}
use Rattle.image_members.specs.CodeBytes.{code_room}
use Rattle.image_members.proofs.BodySizes.{code_long, all_of}

twelve : (b : Bool) → cond b 1 12 ≤ 12
twelve true = omega arith
twelve false = omega arith

header_short : (bytes : List ℕ) → header_size bytes ≤ 12
unfolding header_size
header_short bytes = twelve (is_tiny bytes)

code_there : (bytes : List ℕ) → code_end bytes ≤ length bytes → length (code_of bytes) ≡ code_size bytes
unfolding code_of code_end
code_there bytes h = length-take-le (code_size bytes) (drop (header_size bytes) bytes) (let long = length-drop (header_size bytes) bytes in omega arith)

ends : (bytes : List ℕ) → code_end bytes ≡ header_size bytes + code_size bytes
unfolding code_end
ends bytes = refl

-- ---- no clauses

tiny_without : (bytes : List ℕ) → is_tiny bytes ≡ true → has_sections bytes ≡ false
unfolding has_sections
tiny_without bytes e = ap (λ b. not b && (slice_index bytes 0 / 8 % 2 == 1)) e

upper : (a b : Bool) → (a && b) ≡ true → b ≡ true
upper true b e = e
upper false b e = absurd (true≢false (sym e))

fat_bits : (low high init : ℕ) → low + 256 * high ≡ 0x3003 + init → (init ≡ 0) ⊎ (init ≡ 16) → high / 16 ≡ 3 → low / 8 % 2 ≡ 0
fat_bits low high init e (inl i) h = omega arith
fat_bits low high init e (inr i) h = omega arith

init_bits : (b : Bool) (n : ℕ) → n ≡ cond b 16 0 → (n ≡ 0) ⊎ (n ≡ 16)
init_bits true n e = inr e
init_bits false n e = inl e

never : (t : Bool) → (not t && (0 == 1)) ≡ false
never true = refl
never false = refl

fat_without : (bytes : List ℕ) (b : Body) → is_tiny bytes ≡ false → (is_tiny bytes || is_fat bytes) ≡ true → number_at 2 0 bytes ≡ fat_flags b → length b.clauses ≡ 0 → has_sections bytes ≡ false
unfolding has_sections number_at is_fat
fat_without bytes b e known flags none =
    let fat : is_fat bytes ≡ true = sym (ap (λ t. t || is_fat bytes) e) ∙ known in
    let high : slice_index bytes 1 / 16 ≡ 3 = eqb-true (slice_index bytes 1 / 16) 3 (upper (slice_index bytes 0 % 4 == 3) (slice_index bytes 1 / 16 == 3) fat) in
    let clauses : fat_flags b ≡ 0x3003 + cond b.init 0x10 0 + 0 = ap (λ n. 0x3003 + cond b.init 0x10 0 + cond (nat_lt 0 n) 8 0) none in
    let low : slice_index bytes 0 + 256 * (slice_index bytes 1 + 256 * 0) ≡ 0x3003 + cond b.init 0x10 0 + 0 = flags ∙ clauses in
    let init = init_bits b.init (cond b.init 0x10 0) refl in
    let bit : slice_index bytes 0 / 8 % 2 ≡ 0 = fat_bits (slice_index bytes 0) (slice_index bytes 1) (cond b.init 0x10 0) (omega arith) init high in
    ap (λ n. not (is_tiny bytes) && (n == 1)) bit ∙ never (is_tiny bytes)

without : (bytes : List ℕ) (b : Body) → (is_tiny bytes || is_fat bytes) ≡ true → (is_tiny bytes ≡ false → number_at 2 0 bytes ≡ fat_flags b) → length b.clauses ≡ 0 → has_sections bytes ≡ false
without bytes b known flags none = elim (cases_Bool (is_tiny bytes)) [
  | inl e ↦ tiny_without bytes e
  | inr e ↦ fat_without bytes b e known (flags e) none
]

no_sections : (bytes : List ℕ) → has_sections bytes ≡ false → body_end bytes ≡ code_end bytes
unfolding sections
no_sections bytes e =
    let none : sections bytes ≡ [] = ap (λ b. cond b (sections_from (length bytes) bytes (padded (code_end bytes))) []) e in
    ap (fold (λ end at. section_end bytes at) (code_end bytes)) none

-- ---- clauses

count_bound : (fat : Bool) (said n : ℕ) → said / cond fat 24 12 ≡ n → said ≤ 24 * n + 23
count_bound true said n e = omega arith
count_bound false said n e = omega arith

said_bound : (bytes : List ℕ) (at n : ℕ) → clause_count bytes at ≡ n → said_size bytes at ≤ 24 * n + 23
unfolding clause_count clause_size
said_bound bytes at n e = count_bound (is_fat_section bytes at) (said_size bytes at) n e

readable : (bytes : List ℕ) (at : ℕ) → sections bytes ≡ at ∷ [] → is_broken bytes ≡ false → can_be_read bytes at ≡ true
readable bytes at one e =
    let here : (not (can_be_read bytes at) || false) ≡ false = sym (ap (list_any (λ s. not (can_be_read bytes s))) one) ∙ e in
    elim (cases_Bool (can_be_read bytes at)) [
      | inl can ↦ can
      | inr cannot ↦ let bad : true ≡ false = sym (ap (λ b. not b || false) cannot) ∙ here in absurd (true≢false bad)
    ]

rows_counted : (bytes : List ℕ) (at : ℕ) → can_be_read bytes at ≡ true → length (rows_in bytes at) ≡ clause_count bytes at
unfolding rows_in
rows_counted bytes at e =
    ap (λ b. length (cond b (map (row_in bytes at) (range_with_len 0 (clause_count bytes at))) [])) e ∙ length-map-range_with_len (row_in bytes at) 0 (clause_count bytes at)

clauses_counted : (bytes : List ℕ) (at : ℕ) → sections bytes ≡ at ∷ [] → is_broken bytes ≡ false → length (clause_rows bytes) ≡ clause_count bytes at
clauses_counted bytes at one e =
    ap (λ ss. length (flat_map (rows_in bytes) ss)) one ∙ ap (λ rows. length rows) (append-nil (rows_in bytes at)) ∙ rows_counted bytes at (readable bytes at one e)

padding_few : (n : ℕ) → padded n ≤ n + 3
unfolding padded
padding_few n = omega arith

-- ---- the body

none_or_some : (n : ℕ) → (n ≡ 0) ⊎ (0 < n)
none_or_some zero = inl refl
none_or_some (suc n) = inr (omega arith)

pub body_few : (numbers : TokenMap) (b : Body) (bytes : List ℕ) → IsWritten numbers b bytes → length bytes + 3 ≤ code_room b
unfolding code_room
body_few numbers b bytes h =
    let s : Spells (writing numbers) bytes b (length bytes) = h.spelled in
    let header = header_short bytes in
    let end = ends bytes in
    let code : code_size bytes ≡ offset b.code (length b.code) =
    sym (code_there bytes s.header.room) ∙ code_long (writing numbers) s.pieces b.code (code_of bytes) s.code ∙ sym (all_of b.code) in
    elim (none_or_some (length b.clauses)) [
      | inl none ↦
          let last : length bytes ≡ code_end bytes = s.ends ∙ no_sections bytes (without bytes b s.header.known h.compact.flags none) in
          omega arith
      | inr some ↦
          let section = h.compact.section some in
          let at : ℕ = padded (code_end bytes) in
          let count : clause_count bytes (padded (code_end bytes)) ≡ length b.clauses = sym (clauses_counted bytes (padded (code_end bytes)) section.one s.read) ∙ s.clauses.count in
          let said = said_bound bytes (padded (code_end bytes)) (length b.clauses) count in
          let padding = padding_few (code_end bytes) in
          let size = section.size in
          omega arith
    ]
