-- The numbers of a well-formed manifest are those of a file's headers.
use Rattle.std.proofs.Common.{◌≡◌, ◌⊎◌, ℕ, ◌%◌, ◌==◌, ◌&&◌, ◌||◌, Bool, true, inl, inr}
use Rattle.std.specs.Prelude.{IsTrue, nat_le, ◌↔◌}
use Rattle.std.specs.List.{list_all}
use Rattle.std.proofs.lemmas.Bool.{and_parts, or_cases, eqb-true, leb-true}
use Rattle.assembly_tree.specs.WellFormed.{is_image_base, is_file_alignment, are_cor_flags, is_manifest, is_well_formed}
use Rattle.assembly_tree.specs.WellFormedFacts.{NamesAssemblies}
use Rattle.assembly_tree.specs.WellFormedMembers.{is_attribute}
use Rattle.assembly_tree.specs.WellFormedNames.{is_name, has_no_zero}
use Rattle.assembly_tree.specs.declared.assembly.Assembly.{Assembly}
use Rattle.assembly_tree.specs.declared.assembly.Manifest.{Manifest}
use Rattle.pe_layout.specs.Numbers.{IsImageBase, IsFileAlignment}

base_allowed : (n : ℕ) → IsTrue (is_image_base n) → IsImageBase n
base_allowed n h =
    let all = and_parts ((n % 0x10000 == 0) && nat_le 0x10000 n) (nat_le n 0xF0000000) h in
    let two = and_parts (n % 0x10000 == 0) (nat_le 0x10000 n) all.0 in
    record { multiple = eqb-true (n % 0x10000) 0 two.0; least = leb-true 0x10000 n two.1; greatest = leb-true n 0xF0000000 all.1 }

alignment_allowed : (n : ℕ) → IsTrue (is_file_alignment n) → IsFileAlignment n
alignment_allowed n h = elim (or_cases ((n == 0x200) || (n == 0x400) || (n == 0x800)) (n == 0x1000) h) [
  | inr e ↦ inr (inr (inr (eqb-true n 0x1000 e)))
  | inl h3 ↦ elim (or_cases ((n == 0x200) || (n == 0x400)) (n == 0x800) h3) [
    | inr e ↦ inr (inr (inl (eqb-true n 0x800 e)))
    | inl h2 ↦ elim (or_cases (n == 0x200) (n == 0x400) h2) [
      | inl e ↦ inl (eqb-true n 0x200 e)
      | inr e ↦ inr (inl (eqb-true n 0x400 e))
    ]
  ]
]

numbers_allowed : (a : Assembly) (m : Manifest) → IsTrue (is_manifest a m) → IsImageBase m.image_base × IsFileAlignment m.file_alignment
unfolding is_manifest
numbers_allowed a m h =
    let b1 = is_name m.name in
    let b2 = has_no_zero m.culture in
    let b3 = is_name m.module in
    let b4 = is_image_base m.image_base in
    let b5 = is_file_alignment m.file_alignment in
    let b6 = are_cor_flags m.cor_flags in
    let b7 = list_all (is_attribute a) m.attributes in
    let b8 = list_all (is_attribute a) m.module_attributes in
    let seven = and_parts (b1 && b2 && b3 && b4 && b5 && b6 && b7) b8 h in
    let six = and_parts (b1 && b2 && b3 && b4 && b5 && b6) b7 seven.0 in
    let five = and_parts (b1 && b2 && b3 && b4 && b5) b6 six.0 in
    let four = and_parts (b1 && b2 && b3 && b4) b5 five.0 in
    let three = and_parts (b1 && b2 && b3) b4 four.0 in
    (base_allowed m.image_base three.1, alignment_allowed m.file_alignment four.1)

pub manifest_formed : NamesAssemblies → (a : Assembly) → is_well_formed a ≡ true → is_manifest a a.manifest ≡ true
manifest_formed law a formed = ((law a).0 formed).manifest

pub numbers_formed : NamesAssemblies → (a : Assembly) → is_well_formed a ≡ true → IsImageBase a.manifest.image_base × IsFileAlignment a.manifest.file_alignment
numbers_formed law a formed = numbers_allowed a a.manifest (manifest_formed law a formed)
