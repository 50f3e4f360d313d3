-- The manifest as its image gives it, but for attributes.
use Rattle.std.proofs.Common.{◌≡◌, ap, refl, sym, ◌∙◌, subst, ℕ, ◌%◌, ◌==◌, ◌&&◌, Bool, true, false, List, length, arith, inl, inr}
use Rattle.std.specs.Prelude.{slice_index, bit_and, nat_le, ◌||◌}
use Rattle.std.specs.Int.{bit_at}
use Rattle.std.proofs.lemmas.Bool.{and_parts, eqb-true, leb-true}
use Rattle.std.proofs.lemmas.Nat.Bits.{bit_at_and, bit_at-zero, same_from_bits}
use Rattle.assembly_tree.specs.WellFormed.{is_manifest, is_image_base, is_file_alignment, are_cor_flags}
use Rattle.std.specs.List.{list_all}
use Rattle.assembly_tree.specs.WellFormedMembers.{is_attribute}
use Rattle.assembly_tree.specs.WellFormedNames.{is_name, has_no_zero}
use Rattle.assembly_tree.specs.declared.assembly.Assembly.{Assembly}
use Rattle.image_tokens.specs.declared.references.References.{References}
use Rattle.image_layout.specs.LaidOut.{numbers_in}
use Rattle.image_layout.specs.Laws.{ReadsHeaps}
use Rattle.image_model.specs.Columns.{module_name, assembly_major, assembly_minor, assembly_build, assembly_revision, assembly_key, assembly_name, assembly_culture}
use Rattle.image_model.specs.Reading.{without}
use Rattle.image_model.specs.Tidy.{HasKeptNumbers}
use Rattle.pe_layout.specs.CliHeader.{cor_flags_of}
use Rattle.pe_layout.specs.Headers.{image_base_of, file_alignment_of}
use Rattle.pe_layout.specs.Numbers.{numbers_of, IsImageBase, IsFileAlignment}
use Rattle.pe_layout.specs.declared.parts.ManifestNumbers.{ManifestNumbers}
use Rattle.laws_image_parts.specs.ManifestRead.{HasManifestHead}
use Rattle.laws_image_parts.specs.RowsRead.{ReadsManifest}
use Rattle.laws_image_parts.proofs.PartLemmas.{text_is, blob_is, four_cells}

image_base_is : (n : ℕ) → is_image_base n ≡ true → IsImageBase n
image_base_is n h =
    let one = and_parts ((n % 0x10000 == 0) && nat_le 0x10000 n) (nat_le n 0xF0000000) h in
    let two = and_parts (n % 0x10000 == 0) (nat_le 0x10000 n) one.0 in
    record { multiple = eqb-true (n % 0x10000) 0 two.0; least = leb-true 0x10000 n two.1; greatest = leb-true n 0xF0000000 one.1 }

alignment_is : (n : ℕ) → is_file_alignment n ≡ true → IsFileAlignment n
alignment_is n h = by_tests (n == 0x200) (n == 0x400) (n == 0x800) (n == 0x1000) (eqb-true n 0x200) (eqb-true n 0x400) (eqb-true n 0x800) (eqb-true n 0x1000) h
  where
    by_tests : (a b c d : Bool) → (a ≡ true → n ≡ 0x200) → (b ≡ true → n ≡ 0x400) → (c ≡ true → n ≡ 0x800) → (d ≡ true → n ≡ 0x1000)
        → (a || b || c || d) ≡ true → IsFileAlignment n
    by_tests true b c d f g i j e = inl (f refl)
    by_tests false true c d f g i j e = inr (inl (g refl))
    by_tests false false true d f g i j e = inr (inr (inl (i refl)))
    by_tests false false false true f g i j e = inr (inr (inr (j refl)))
    by_tests false false false false f g i j e = absurd cc

-- flags without two bits are without one of them
unset : (f : ℕ) → bit_and f 0x18 ≡ 0 → bit_and f 8 ≡ 0
unset f clear = same_from_bits (bit_and f 8) 0
    (λ i.
    let one = bit_at_and f 8 i in
    let two = bit_at_and 8 0x18 i in
    let three : bit_at (bit_and 8 0x18) i ≡ bit_at 8 i = refl in
    let four = bit_at_and f 0x18 i in
    let five = ap (λ n. bit_at n i) clear in
    let six = bit_at-zero i in
    omega (arith, one, two, three, four, five, six))

no_signature : (f : ℕ) → bit_and f 0x18 ≡ 0 → f ≡ without f 8
no_signature f clear = let none = unset f clear in omega (arith, none)

-- three of the conditions on a manifest
three_of : (a b c d e f g h : Bool) → (a && b && c && d && e && f && g && h) ≡ true → (d ≡ true) × (e ≡ true) × (f ≡ true)
three_of a b c d e f g h all =
    let one = and_parts (a && b && c && d && e && f && g) h all in
    let two = and_parts (a && b && c && d && e && f) g one.0 in
    let three = and_parts (a && b && c && d && e) f two.0 in
    let four = and_parts (a && b && c && d) e three.0 in
    let five = and_parts (a && b && c) d four.0 in
    (five.1, four.1, three.1)

-- the numbers of a well-formed manifest, where the headers have them
pub numbers_kept : (a : Assembly) (image : List ℕ) → numbers_of image ≡ numbers_in a.manifest → is_manifest a a.manifest ≡ true → HasKeptNumbers image
unfolding is_manifest
numbers_kept a image numbers formed =
    let m = a.manifest in
    let three = three_of (is_name m.name) (has_no_zero m.culture) (is_name m.module) (is_image_base m.image_base) (is_file_alignment m.file_alignment) (are_cor_flags m.cor_flags)
    (list_all (is_attribute a) m.attributes) (list_all (is_attribute a) m.module_attributes) formed in
    let base : image_base_of image ≡ m.image_base = ap (λ (n : ManifestNumbers). n.image_base) numbers in
    let alignment : file_alignment_of image ≡ m.file_alignment = ap (λ (n : ManifestNumbers). n.file_alignment) numbers in
    let flags : cor_flags_of image ≡ m.cor_flags = ap (λ (n : ManifestNumbers). n.cor_flags) numbers in
    let clear = and_parts (bit_and m.cor_flags 1 == 1) (bit_and m.cor_flags 0x18 == 0) three.2 in
    record {
      image_base = subst IsImageBase (sym base) (image_base_is m.image_base three.0);
      file_alignment = subst IsFileAlignment (sym alignment) (alignment_is m.file_alignment three.1);
      unsigned = ap (λ n. bit_and n 8) flags ∙ unset m.cor_flags (eqb-true (bit_and m.cor_flags 0x18) 0 clear.1);
    }

pub manifest_is_read : (a : Assembly) (r : References) (image : List ℕ) → ReadsHeaps r image → ReadsManifest a r image → numbers_of image ≡ numbers_in a.manifest
    → is_manifest a a.manifest ≡ true → length a.manifest.version ≡ 4 → HasManifestHead image a.manifest
unfolding is_manifest
manifest_is_read a r image heaps h numbers formed long =
    let m = a.manifest in
    let row = h.assembly_row.each 0 m refl in
    let of = h.module_row.each 0 m refl in
    let three = three_of (is_name m.name) (has_no_zero m.culture) (is_name m.module) (is_image_base m.image_base) (is_file_alignment m.file_alignment) (are_cor_flags m.cor_flags)
    (list_all (is_attribute a) m.attributes) (list_all (is_attribute a) m.module_attributes) formed in
    let base : image_base_of image ≡ m.image_base = ap (λ (n : ManifestNumbers). n.image_base) numbers in
    let alignment : file_alignment_of image ≡ m.file_alignment = ap (λ (n : ManifestNumbers). n.file_alignment) numbers in
    let flags : cor_flags_of image ≡ m.cor_flags = ap (λ (n : ManifestNumbers). n.cor_flags) numbers in
    let clear = and_parts (bit_and m.cor_flags 1 == 1) (bit_and m.cor_flags 0x18 == 0) three.2 in
    record {
      name = text_is r image m.name row.name (assembly_name image 1) heaps row.name_is (ap (λ (cs : List ℕ). slice_index cs 7) row.are);
      version = four_cells m.version (assembly_major image 1) (assembly_minor image 1) (assembly_build image 1) (assembly_revision image 1) long
          (ap (λ (cs : List ℕ). slice_index cs 1) row.are) (ap (λ (cs : List ℕ). slice_index cs 2) row.are)
          (ap (λ (cs : List ℕ). slice_index cs 3) row.are) (ap (λ (cs : List ℕ). slice_index cs 4) row.are);
      flags = sym (ap (λ (cs : List ℕ). slice_index cs 5) row.are);
      key = blob_is r image m.key row.key (assembly_key image 1) heaps row.key_is (ap (λ (cs : List ℕ). slice_index cs 6) row.are);
      culture = text_is r image m.culture row.culture (assembly_culture image 1) heaps row.culture_is (ap (λ (cs : List ℕ). slice_index cs 8) row.are);
      hash = sym (ap (λ (cs : List ℕ). slice_index cs 0) row.are);
      module_name_is = text_is r image m.module of.name (module_name image 1) heaps of.name_is (ap (λ (cs : List ℕ). slice_index cs 1) of.are);
      image_base = inl (subst IsImageBase (sym base) (image_base_is m.image_base three.0), sym base);
      file_alignment = inl (subst IsFileAlignment (sym alignment) (alignment_is m.file_alignment three.1), sym alignment);
      stack_reserve = sym (ap (λ (n : ManifestNumbers). n.stack_reserve) numbers);
      subsystem = sym (ap (λ (n : ManifestNumbers). n.subsystem) numbers);
      cor_flags = no_signature m.cor_flags (eqb-true (bit_and m.cor_flags 0x18) 0 clear.1) ∙ ap (λ n. without n 8) (sym flags);
    }
