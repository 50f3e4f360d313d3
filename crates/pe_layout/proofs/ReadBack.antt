-- What can be read of an image with two sections, of which each stands in memory and in the file.
use Rattle.std.proofs.Common.{◌≡◌, ℕ, ◌+◌, ◌-◌, ◌<◌, ◌≤◌, true, false, List, [], ◌∷◌, ◌++◌, length, drop, refl, sym, ap, ◌∙◌, arith, length-append, length-drop}
use Rattle.std.proofs.lemmas.List.{drop-append-le, drop-drop, drop_at, take_at}
use Rattle.std.proofs.lemmas.Bool.Decides.{nat_tests}
use Rattle.pe_layout.specs.declared.section.Section.{Section}
use Rattle.pe_layout.specs.Headers.{section_count_of, section_table_of, virtual_size_at, virtual_address_at, raw_size_at, raw_place_at}
use Rattle.pe_layout.specs.FileMap.{section_at, sections_of, holds, section_of, at, raw_end, readable, StandsAt}
use Rattle.pe_layout.specs.View.{readable_in}

pub section_is : (image : List ℕ) (place : ℕ) (s : Section) → virtual_size_at image place ≡ s.virtual_size → virtual_address_at image place ≡ s.virtual_address
    → raw_size_at image place ≡ s.raw_size → raw_place_at image place ≡ s.raw_place → section_at image place ≡ s
section_is image place s a b c d = rw (a, b, c, d) refl

pub sections_are : (image : List ℕ) (s t : Section) → section_count_of image ≡ 2 → section_at image (section_table_of image) ≡ s → section_at image (section_table_of image + 40) ≡ t
    → sections_of image ≡ s ∷ t ∷ []
sections_are image s t count first second = rw (count, first, second) refl

holds_within : (rva : ℕ) (s : Section) → 0 < s.virtual_size → s.virtual_address ≤ rva → rva < s.virtual_address + s.virtual_size → holds rva s ≡ true
holds_within rva s some low high = grind (arith, nat_tests)

holds_before : (rva : ℕ) (s : Section) → 0 < s.virtual_size → s.virtual_address + s.virtual_size ≤ rva → holds rva s ≡ false
holds_before rva s some past = grind (arith, nat_tests)

-- behind the items in front stand the others
pub drop_past : {X : Type 0} (xs ys : List X) (k n : ℕ) → n ≡ length xs + k → drop n (xs ++ ys) ≡ drop k ys
drop_past xs ys k n e =
    ap (λ m. drop m (xs ++ ys)) e ∙ sym (drop-drop k (length xs) (xs ++ ys)) ∙ ap (drop k) (drop_at xs ys (length xs) refl)

readable_part : (front body back : List ℕ) (s : Section) (k : ℕ) → length front ≡ s.raw_place → length body ≡ s.raw_size → k ≤ length body
    → readable_in (front ++ body ++ back) (s.virtual_address + k) s ≡ drop k body
readable_part front body back s k place size low =
    let there : s.virtual_address + k - s.virtual_address + s.raw_place ≡ length front + k = omega arith in
    let rest : s.raw_place + s.raw_size - (length front + k) ≡ length (drop k body) = omega (arith, length-drop k body) in
    let cut = drop-append-le (length front + k) (front ++ body) back (omega (arith, length-append front body)) in
    let past = drop_past front body k (length front + k) refl in
    rw (there, rest, cut, past) (take_at (drop k body) back (length (drop k body)) refl)

-- an RVA of the first section
pub reads_first : (image front body back : List ℕ) (s t : Section) → sections_of image ≡ s ∷ t ∷ [] → image ≡ front ++ body ++ back → length front ≡ s.raw_place → length body ≡ s.raw_size
    → s.virtual_size ≤ s.raw_size → (k : ℕ) → k < s.virtual_size → readable image (s.virtual_address + k) ≡ drop k body
unfolding readable at raw_end section_of
reads_first image front body back s t sections whole place size filled k within =
    let held = holds_within (s.virtual_address + k) s (omega arith) (omega arith) (omega arith) in
    rw (sections, held, whole) (readable_part front body back s k place size (omega arith))

-- an RVA of the second section
pub reads_second : (image front body back : List ℕ) (s t : Section) → sections_of image ≡ s ∷ t ∷ [] → image ≡ front ++ body ++ back → length front ≡ t.raw_place → length body ≡ t.raw_size
    → t.virtual_size ≤ t.raw_size → 0 < s.virtual_size → s.virtual_address + s.virtual_size ≤ t.virtual_address → (k : ℕ) → k < t.virtual_size → readable image (t.virtual_address + k) ≡ drop k body
unfolding readable at raw_end section_of
reads_second image front body back s t sections whole place size filled some apart k within =
    let passed = holds_before (t.virtual_address + k) s some (omega arith) in
    let held = holds_within (t.virtual_address + k) t (omega arith) (omega arith) (omega arith) in
    rw (sections, passed, held, whole) (readable_part front body back t k place size (omega arith))

-- bytes that stand in what can be read stand at their RVA
pub stands : (image before bytes after : List ℕ) (rva size : ℕ) → ((k : ℕ) → k < size → readable image (rva + k) ≡ drop k (before ++ (bytes ++ after))) → length before + length bytes < size
    → StandsAt image (rva + length before) bytes
stands image before bytes after rva size reads within =
    record {
      from = λ k low.
          let here : rva + length before + k ≡ rva + (length before + k) = omega arith in
          let there = reads (length before + k) (omega arith) in
          let past = drop_past before (bytes ++ after) k (length before + k) refl in
          let cut = drop-append-le k bytes after low in
          let rest : length bytes - k ≡ length (drop k bytes) = omega (arith, length-drop k bytes) in
          rw (here, there, past, cut, rest) (take_at (drop k bytes) after (length (drop k bytes)) refl);
    }
