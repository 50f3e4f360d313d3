-- What an image that is written holds, by its RVAs.
use Rattle.std.proofs.Common.{◌≡◌, ℕ, ◌+◌, ◌-◌, ◌<◌, ◌≤◌, List, [], ◌∷◌, ◌++◌, length, take, drop, replicate, refl, sym, ◌∙◌, ap, subst, arith, append_assoc, length-append}
use Rattle.std.proofs.lemmas.List.{append-nil, length-replicate, drop_at, take_at, take_all}
use Rattle.pe_layout.specs.declared.layout.Layout.{Layout}
use Rattle.pe_layout.specs.declared.parts.Parts.{Parts}
use Rattle.pe_layout.specs.Fields.{round_up}
use Rattle.pe_layout.specs.FileMap.{sections_of, readable, StandsAt}
use Rattle.pe_layout.specs.Layout.{headers, text_front, text_back, relocations, padded, text, image_by}
use Rattle.pe_layout.proofs.LaidOut.{LaidOut}
use Rattle.pe_layout.proofs.ReadBack.{reads_first, reads_second, stands, drop_past}
use Rattle.pe_layout.proofs.WrittenHeaders.{length-headers, written_map, text_section, reloc_section}
use Rattle.pe_layout.proofs.WrittenText.{length-text_front, length-text_back, length-relocations}

-- the bytes of the file before `.text`, those of `.text`, and those of `.reloc`
abbrev pub before_text : Layout → Parts → List ℕ
before_text l p =
    headers l p.numbers p.kind ++ replicate (p.numbers.file_alignment - 456) 0

abbrev pub raw_text : Layout → Parts → List ℕ
raw_text l p = text l p ++ replicate (l.text_raw - l.text_size) 0

abbrev pub raw_reloc : Layout → List ℕ
raw_reloc l = relocations l ++ replicate (l.reloc_raw - 12) 0

-- the bytes behind the headers
abbrev pub behind : Layout → Parts → List ℕ
behind l p =
    replicate (p.numbers.file_alignment - 456) 0 ++ (raw_text l p ++ raw_reloc l)

pub by_headers : (l : Layout) (p : Parts) → image_by l p ≡ headers l p.numbers p.kind ++ behind l p
unfolding image_by
by_headers l p = simp append_assoc refl

pub by_sections : (l : Layout) (p : Parts) → image_by l p ≡ before_text l p ++ raw_text l p ++ raw_reloc l
unfolding image_by
by_sections l p = simp append_assoc refl

pub by_reloc : (l : Layout) (p : Parts) → image_by l p ≡ (before_text l p ++ raw_text l p) ++ raw_reloc l ++ []
by_reloc l p =
    by_sections l p ∙ sym (append-nil (before_text l p ++ raw_text l p ++ raw_reloc l))

-- the table and the header in front, and all that follows them
abbrev pub front_of : Layout → Parts → List ℕ
front_of l p = text_front l (length p.metadata) p.numbers.cor_flags p.entry

abbrev pub back_of : Layout → Parts → List ℕ
back_of l p =
    text_back l p.numbers p.kind ++ replicate (l.text_raw - l.text_size) 0

abbrev pub after_front : Layout → Parts → List ℕ
after_front l p = padded p.code ++ (padded p.metadata ++ back_of l p)

pub by_front : (l : Layout) (p : Parts) → raw_text l p ≡ front_of l p ++ after_front l p
unfolding text
by_front l p = simp append_assoc refl

abbrev zeros_after : List ℕ → List ℕ
zeros_after bytes = replicate (round_up (length bytes) 4 - length bytes) 0

by_code : (l : Layout) (p : Parts) → raw_text l p ≡ front_of l p ++ (p.code ++ (zeros_after p.code ++ (padded p.metadata ++ back_of l p)))
unfolding text padded
by_code l p = simp append_assoc refl

by_metadata : (l : Layout) (p : Parts) → raw_text l p ≡ (front_of l p ++ padded p.code) ++ (p.metadata ++ (zeros_after p.metadata ++ back_of l p))
unfolding text padded
by_metadata l p = simp append_assoc refl

by_back : (l : Layout) (p : Parts) → raw_text l p ≡ (front_of l p ++ padded p.code ++ padded p.metadata) ++ back_of l p
unfolding text
by_back l p = simp append_assoc refl

length-padded : (bytes : List ℕ) → length bytes ≤ round_up (length bytes) 4 → length (padded bytes) ≡ round_up (length bytes) 4
unfolding padded
length-padded bytes h =
    let zeros = length-replicate {A = ℕ} (round_up (length bytes) 4 - length bytes) 0 in
    omega (arith, length-append bytes (zeros_after bytes), zeros)

-- how far in `.text` the code, the metadata and the imports stand
pub length-to_code : (l : Layout) (p : Parts) → length (front_of l p) ≡ 80
length-to_code l p =
    length-text_front l (length p.metadata) p.numbers.cor_flags p.entry

length-to_metadata : (l : Layout) (p : Parts) → LaidOut l p → 0x2000 + length (front_of l p ++ padded p.code) ≡ l.metadata_rva
length-to_metadata l p h =
    let up = h.code_up in
    let rva = h.metadata_rva in
    omega (arith, length-append (front_of l p) (padded p.code), length-to_code l p, length-padded p.code up)

length-to_back : (l : Layout) (p : Parts) → LaidOut l p → 0x2000 + length (front_of l p ++ padded p.code ++ padded p.metadata) ≡ l.imports_rva
length-to_back l p h =
    let up = h.metadata_up in
    let rva = h.imports_rva in
    omega (arith, length-append (front_of l p ++ padded p.code) (padded p.metadata), length-to_metadata l p h, length-padded p.metadata up)

pub length-before_text : (l : Layout) (p : Parts) → LaidOut l p → length (before_text l p) ≡ p.numbers.file_alignment
length-before_text l p h =
    let low = h.alignment_low in
    let zeros = length-replicate {A = ℕ} (p.numbers.file_alignment - 456) 0 in
    omega (arith, length-append (headers l p.numbers p.kind) (replicate (p.numbers.file_alignment - 456) 0), length-headers l p.numbers p.kind, zeros)

pub length-raw_text : (l : Layout) (p : Parts) → LaidOut l p → length (raw_text l p) ≡ l.text_raw
length-raw_text l p h =
    let front = front_of l p ++ padded p.code ++ padded p.metadata in
    let whole = ap length (by_back l p) in
    let zeros = length-replicate {A = ℕ} (l.text_raw - l.text_size) 0 in
    let size = h.text_size in
    let filled = h.bounded.text_filled in
    omega (arith, whole, length-append front (back_of l p), length-append (text_back l p.numbers p.kind) (replicate (l.text_raw - l.text_size) 0), length-text_back l p.numbers p.kind, length-to_back l p h, zeros)

-- the true length of `.text`
length-text : (l : Layout) (p : Parts) → LaidOut l p → length (text l p) ≡ l.text_size
length-text l p h =
    let whole = length-append (text l p) (replicate (l.text_raw - l.text_size) 0) in
    let zeros = length-replicate {A = ℕ} (l.text_raw - l.text_size) 0 in
    let raw = length-raw_text l p h in
    let filled = h.bounded.text_filled in
    omega (arith, whole, zeros, raw)

pub length-raw_reloc : (l : Layout) (p : Parts) → LaidOut l p → length (raw_reloc l) ≡ l.reloc_raw
length-raw_reloc l p h =
    let zeros = length-replicate {A = ℕ} (l.reloc_raw - 12) 0 in
    let filled = h.bounded.reloc_filled in
    omega (arith, length-append (relocations l) (replicate (l.reloc_raw - 12) 0), length-relocations l, zeros)

pub length-image_by : (l : Layout) (p : Parts) → LaidOut l p → length (image_by l p) ≡ p.numbers.file_alignment + l.text_raw + l.reloc_raw
length-image_by l p h =
    let whole = ap length (by_sections l p) in
    omega (arith, whole, length-append (before_text l p ++ raw_text l p) (raw_reloc l), length-append (before_text l p) (raw_text l p), length-before_text l p h, length-raw_text l p h, length-raw_reloc l p h)

map_of : (l : Layout) (p : Parts) → LaidOut l p → sections_of (image_by l p) ≡ text_section l p.numbers ∷ reloc_section l p.numbers ∷ []
map_of l p h =
    let S : List ℕ → Type 0 = λ image. sections_of image ≡ text_section l p.numbers ∷ reloc_section l p.numbers ∷ [] in
    subst S (sym (by_headers l p)) (written_map l p (behind l p) h)

pub reads_text : (l : Layout) (p : Parts) → LaidOut l p → (k : ℕ) → k < l.text_size → readable (image_by l p) (0x2000 + k) ≡ drop k (raw_text l p)
reads_text l p h k within =
    reads_first (image_by l p) (before_text l p) (raw_text l p) (raw_reloc l) (text_section l p.numbers) (reloc_section l p.numbers) (map_of l p h) (by_sections l p) (length-before_text l p h) (length-raw_text l p h) h.bounded.text_filled k within

pub reads_reloc : (l : Layout) (p : Parts) → LaidOut l p → readable (image_by l p) l.reloc_rva ≡ raw_reloc l
reads_reloc l p h =
    let place : length (before_text l p ++ raw_text l p) ≡ p.numbers.file_alignment + l.text_raw = omega (arith, length-append (before_text l p) (raw_text l p), length-before_text l p h, length-raw_text l p h) in
    let some : 0 < l.text_size = let size = h.text_size in let rva = h.imports_rva in let code = h.metadata_rva in omega arith in
    let here : l.reloc_rva ≡ l.reloc_rva + 0 = omega arith in
    ap (readable (image_by l p)) here ∙ reads_second (image_by l p) (before_text l p ++ raw_text l p) (raw_reloc l) [] (text_section l p.numbers) (reloc_section l p.numbers) (map_of l p h) (by_reloc l p) place (length-raw_reloc l p h) h.bounded.reloc_filled some h.reloc_past 0 (omega arith)

pub reads_front : (l : Layout) (p : Parts) → LaidOut l p → (k : ℕ) → k ≤ 80 → readable (image_by l p) (0x2000 + k) ≡ drop k (front_of l p ++ after_front l p)
reads_front l p h k low =
    let size = h.text_size in
    let rva = h.imports_rva in
    let code = h.metadata_rva in
    reads_text l p h k (omega arith) ∙ ap (drop k) (by_front l p)

pub reads_back : (l : Layout) (p : Parts) → LaidOut l p → (rva j : ℕ) → rva ≡ l.imports_rva + j → j < 80 → readable (image_by l p) rva ≡ drop j (back_of l p)
reads_back l p h rva j e within =
    let before = front_of l p ++ padded p.code ++ padded p.metadata in
    let there = length-to_back l p h in
    let size = h.text_size in
    let k = length before + j in
    let here : rva ≡ 0x2000 + k = omega arith in
    ap (readable (image_by l p)) here ∙ reads_text l p h k (omega arith) ∙ ap (drop k) (by_back l p) ∙ drop_past before (back_of l p) j k refl

pub code_stands : (l : Layout) (p : Parts) → LaidOut l p → StandsAt (image_by l p) 0x2050 p.code
code_stands l p h =
    let after = zeros_after p.code ++ (padded p.metadata ++ back_of l p) in
    let S : ℕ → Type 0 = λ n. StandsAt (image_by l p) (0x2000 + n) p.code in
    let size = h.text_size in
    let rva = h.imports_rva in
    let code = h.metadata_rva in
    let up = h.code_up in
    let n = length-to_code l p in
    subst S n (stands (image_by l p) (front_of l p) p.code after 0x2000 l.text_size (λ k within. reads_text l p h k within ∙ ap (drop k) (by_code l p)) (omega arith))

pub metadata_stands : (l : Layout) (p : Parts) → LaidOut l p → StandsAt (image_by l p) l.metadata_rva p.metadata
metadata_stands l p h =
    let before = front_of l p ++ padded p.code in
    let after = zeros_after p.metadata ++ back_of l p in
    let S : ℕ → Type 0 = λ n. StandsAt (image_by l p) n p.metadata in
    let there = length-to_metadata l p h in
    let size = h.text_size in
    let rva = h.imports_rva in
    let up = h.metadata_up in
    subst S there (stands (image_by l p) before p.metadata after 0x2000 l.text_size (λ k within. reads_text l p h k within ∙ ap (drop k) (by_metadata l p)) (omega arith))

-- the bytes of the file that fill up
pub headers_filled : (l : Layout) (p : Parts) → LaidOut l p → take (p.numbers.file_alignment - 456) (drop 456 (image_by l p)) ≡ replicate (p.numbers.file_alignment - 456) 0
headers_filled l p h =
    let zeros : List ℕ = replicate (p.numbers.file_alignment - 456) 0 in
    ap (λ bytes. take (p.numbers.file_alignment - 456) (drop 456 bytes)) (by_headers l p) ∙ ap (take (p.numbers.file_alignment - 456)) (drop_at (headers l p.numbers p.kind) (behind l p) 456 (length-headers l p.numbers p.kind)) ∙ take_at zeros (raw_text l p ++ raw_reloc l) (p.numbers.file_alignment - 456) (length-replicate {A = ℕ} (p.numbers.file_alignment - 456) 0)

pub text_filled : (l : Layout) (p : Parts) → LaidOut l p → drop l.text_size (take l.text_raw (drop p.numbers.file_alignment (image_by l p))) ≡ replicate (l.text_raw - l.text_size) 0
text_filled l p h =
    let zeros : List ℕ = replicate (l.text_raw - l.text_size) 0 in
    let apart = by_sections l p ∙ append_assoc (before_text l p) (raw_text l p) (raw_reloc l) in
    ap (λ bytes. drop l.text_size (take l.text_raw (drop p.numbers.file_alignment bytes))) apart ∙ ap (λ bytes. drop l.text_size (take l.text_raw bytes)) (drop_at (before_text l p) (raw_text l p ++ raw_reloc l) p.numbers.file_alignment (length-before_text l p h)) ∙ ap (drop l.text_size) (take_at (raw_text l p) (raw_reloc l) l.text_raw (length-raw_text l p h)) ∙ drop_at (text l p) zeros l.text_size (length-text l p h)

pub reloc_filled : (l : Layout) (p : Parts) → LaidOut l p → drop 12 (take l.reloc_raw (drop (p.numbers.file_alignment + l.text_raw) (image_by l p))) ≡ replicate (l.reloc_raw - 12) 0
reloc_filled l p h =
    let zeros : List ℕ = replicate (l.reloc_raw - 12) 0 in
    let before = before_text l p ++ raw_text l p in
    let place : length before ≡ p.numbers.file_alignment + l.text_raw = omega (arith, length-append (before_text l p) (raw_text l p), length-before_text l p h, length-raw_text l p h) in
    ap (λ bytes. drop 12 (take l.reloc_raw (drop (p.numbers.file_alignment + l.text_raw) bytes))) (by_sections l p) ∙ ap (λ bytes. drop 12 (take l.reloc_raw bytes)) (drop_at before (raw_reloc l) (p.numbers.file_alignment + l.text_raw) place) ∙ ap (drop 12) (take_all l.reloc_raw (raw_reloc l) (omega (arith, length-raw_reloc l p h))) ∙ drop_at (relocations l) zeros 12 (length-relocations l)
