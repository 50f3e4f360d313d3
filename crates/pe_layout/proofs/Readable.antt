-- What can be read, by the section that is found.
use Rattle.std.proofs.Common.{◌≡◌, ℕ, List, [], Some, None, refl, sym}
use Rattle.std.specs.List.{find}
use Rattle.pe_layout.specs.declared.section.Section.{Section}
use Rattle.pe_layout.specs.Headers.{section_table_of, section_count_of}
use Rattle.pe_layout.specs.FileMap.{sections_from, holds, section_of, at, raw_end, readable}
use Rattle.pe_layout.specs.View.{readable_in}

pub readable_found : (image : List ℕ) (rva sections count : ℕ) (s : Section) → sections ≡ section_table_of image → count ≡ section_count_of image
    → Some s ≡ find (holds rva) (sections_from image sections count) → readable image rva ≡ readable_in image rva s
unfolding readable at raw_end section_of
readable_found image rva sections count s t n e =
    let by_table = sym (rw (t, n) at e) in
    rw by_table refl

pub readable_none : (image : List ℕ) (rva sections count : ℕ) → sections ≡ section_table_of image → count ≡ section_count_of image
    → None ≡ find (holds rva) (sections_from image sections count) → readable image rva ≡ []
unfolding readable at raw_end section_of
readable_none image rva sections count t n e =
    let by_table = sym (rw (t, n) at e) in
    rw by_table refl
