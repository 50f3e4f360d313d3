-- The assembly of an image whose rows meet all demands; each image reads as one assembly, or has one first fault.
use Rattle.std.proofs.Common.{◌≡◌, ℕ, ◌%◌, ◌^◌, ◌<◌, ◌≤◌, ◌⊎◌, inl, inr, List, [], ◌∷◌, length, refl, arith}
use Rattle.std.specs.Cmp.{IsTotalOrder}
use Rattle.heaps.specs.Content.{HasText, HasBlob}
use Rattle.metadata_tables.specs.Schema.{schema}
use Rattle.pe_layout.specs.CliHeader.{cor_flags_of}
use Rattle.pe_layout.specs.Headers.{image_base_of, file_alignment_of, stack_reserve_of, subsystem_of}
use Rattle.pe_layout.specs.Numbers.{IsFileAlignment}
use Rattle.type_terms.specs.Order.{owner_order}
use Rattle.assembly_tree.specs.declared.assembly.Assembly.{Assembly}
use Rattle.assembly_tree.specs.declared.assembly.ExternAssembly.{ExternAssembly}
use Rattle.assembly_tree.specs.declared.assembly.Manifest.{Manifest}
use Rattle.body_codec.specs.Names.{NameMap}
use Rattle.image_model.specs.Streams.{strings_of, blobs_of}
use Rattle.image_model.specs.Columns.{assembly_hash, assembly_major, assembly_minor, assembly_build, assembly_revision, assembly_flags, extern_major, extern_minor, extern_build, extern_revision, extern_flags}
use Rattle.image_model.specs.Rows.{HasRow, rows_of, fields_of, methods_of}
use Rattle.image_model.specs.Namings.{AreNamings}
use Rattle.image_model.specs.Faults.{RowRule, entries, manifest, Holds, HasTables}
use Rattle.image_model.specs.Reading.{without, ImageBaseIs, FileAlignmentIs, IsManifest, IsExtern, IsField, IsMethod, IsAssembly}
use Rattle.image_namings.proofs.Among.{from_among}
use Rattle.image_namings.proofs.Decided.{same}
use Rattle.image_namings.proofs.Owners.{ReadsTypes}
use Rattle.formed_references.proofs.Words.{of_rows}
use Rattle.image_assemblies.specs.Laws.{AssemblyExists}
use Rattle.image_assemblies.proofs.Parts.{zipped, stood, attributes_are}
use Rattle.image_assemblies.proofs.Members.{OutlinesAreBodies, OneField, field_is, method_is}
use Rattle.image_assemblies.proofs.Types.{types_are}

-- ---- numbers of the manifest

compared : (m n : ℕ) → (m ≤ n) ⊎ (n < m)
compared m n = grind arith

base_is : (n : ℕ) → (base : ℕ) × ImageBaseIs n base
base_is n = elim (same (n % 0x10000) 0) [
  | inl e ↦ elim (compared 0x10000 n) [
    | inl low ↦ elim (compared n 0xF0000000) [
      | inl high ↦ (n, inl (record { multiple = e; least = low; greatest = high }, refl))
      | inr over ↦ (0x400000, inr ((λ is. let h = is.greatest in omega arith), refl))
    ]
    | inr under ↦ (0x400000, inr ((λ is. let h = is.least in omega arith), refl))
  ]
  | inr other ↦ (0x400000, inr ((λ is. other is.multiple), refl))
]

no_alignment : (n : ℕ) → (n ≡ 0x200 → ⊥) → (n ≡ 0x400 → ⊥) → (n ≡ 0x800 → ⊥) → (n ≡ 0x1000 → ⊥) → IsFileAlignment n → ⊥
no_alignment n a b c d (inl e) = a e
no_alignment n a b c d (inr (inl e)) = b e
no_alignment n a b c d (inr (inr (inl e))) = c e
no_alignment n a b c d (inr (inr (inr e))) = d e

alignment_is : (n : ℕ) → (alignment : ℕ) × FileAlignmentIs n alignment
alignment_is n = elim (same n 0x200) [
  | inl e ↦ (n, inl (inl e, refl))
  | inr a ↦ elim (same n 0x400) [
    | inl e ↦ (n, inl (inr (inl e), refl))
    | inr b ↦ elim (same n 0x800) [
      | inl e ↦ (n, inl (inr (inr (inl e)), refl))
      | inr c ↦ elim (same n 0x1000) [
        | inl e ↦ (n, inl (inr (inr (inr e)), refl))
        | inr d ↦ (0x200, inr (no_alignment n a b c d, refl))
      ]
    ]
  ]
]

-- the laws of the layers below
pub record Given : Type 0 where
  pub text : (heap : List ℕ) (index : ℕ) (text other : List ℕ) → HasText heap index text → HasText heap index other → text ≡ other
  pub blob : (heap : List ℕ) (index : ℕ) (blob other : List ℕ) → HasBlob heap index blob → HasBlob heap index other → blob ≡ other
  pub reads : ReadsTypes
  pub field : OneField
  pub bodies : OutlinesAreBodies
  pub total : IsTotalOrder owner_order

module _ (given : Given) (image : List ℕ) (names : NameMap) (short : length image ≤ 2 ^ 26) (tables : HasTables image) (named : AreNamings image names) (rows : (rule : RowRule) → Holds image names rule) where
  extern_is : (row : ℕ) → HasRow image 0x23 row → (e : ExternAssembly) × IsExtern image row e
  unfolding schema
  extern_is row there =
      let k = (rows entries) 0x23 row there 5 (omega arith) in
      let n = (rows entries) 0x23 row there 6 (omega arith) in
      let c = (rows entries) 0x23 row there 7 (omega arith) in
      let v = (rows entries) 0x23 row there 8 (omega arith) in (
        record { name = n.0; version = extern_major image row ∷ extern_minor image row ∷ extern_build image row ∷ extern_revision image row ∷ []; flags = extern_flags image row; key = k.0; culture = c.0; hash = v.0 },
        record { name = n.1; version = refl; flags = refl; key = k.1; culture = c.1; hash = v.1 },
      )

  assembly_there : HasRow image 0x20 1
  assembly_there = let one = (rows manifest 0x20 0).one_assembly refl refl in (omega arith, omega (arith, one))

  module_there : HasRow image 0x00 1
  module_there = let one = (rows manifest 0x00 0).one_module refl refl in (omega arith, omega (arith, one))

  first_type : HasRow image 0x02 1
  first_type = let some = (rows manifest 0x02 0).some_types refl refl in (omega arith, omega (arith, some))

  manifest_is : (m : Manifest) × IsManifest image names m
  unfolding schema
  manifest_is =
      let k = (rows entries) 0x20 1 assembly_there 6 (omega arith) in
      let n = (rows entries) 0x20 1 assembly_there 7 (omega arith) in
      let c = (rows entries) 0x20 1 assembly_there 8 (omega arith) in
      let w = (rows entries) 0x00 1 module_there 1 (omega arith) in
      let b = base_is (image_base_of image) in
      let f = alignment_is (file_alignment_of image) in
      let x = attributes_are image names short tables named rows 0x20 1 in
      let y = attributes_are image names short tables named rows 0x00 1 in (
        record {
          name = n.0;
          version = assembly_major image 1 ∷ assembly_minor image 1 ∷ assembly_build image 1 ∷ assembly_revision image 1 ∷ [];
          flags = assembly_flags image 1;
          key = k.0;
          culture = c.0;
          hash = assembly_hash image 1;
          «module» = w.0;
          image_base = b.0;
          file_alignment = f.0;
          stack_reserve = stack_reserve_of image;
          subsystem = subsystem_of image;
          cor_flags = without (cor_flags_of image) 8;
          attributes = x.0;
          module_attributes = y.0;
        },
        record {
          name = n.1;
          version = refl;
          flags = refl;
          key = k.1;
          culture = c.1;
          hash = refl;
          module_name_is = w.1;
          image_base = b.1;
          file_alignment = f.1;
          stack_reserve = refl;
          subsystem = refl;
          cor_flags = refl;
          attributes = x.1;
          module_attributes = y.1;
        },
      )

  pub assembly_is : (a : Assembly) × IsAssembly image names a
  assembly_is =
      let s = stood image names short tables named rows in
      let blob = given.blob (blobs_of image) in
      let m = manifest_is in
      let e = zipped (IsExtern image) (rows_of image 0x23) (λ r k. extern_is r (of_rows image 0x23 r k)) in
      let f = zipped (IsField image names) (fields_of image 1) (λ r k. field_is image names short tables named rows blob given.field given.bodies r (s.field_there r 1 first_type (from_among r (fields_of image 1) k))) in
      let d = zipped (IsMethod image names) (methods_of image 1) (λ r k. method_is image names short tables named rows blob given.field given.bodies r (s.method_there r 1 first_type (from_among r (methods_of image 1) k))) in
      let t = types_are image names short tables named rows (given.text (strings_of image)) blob given.reads given.field given.bodies given.total in (
        record { manifest = m.0; externs = e.0; fields = f.0; methods = d.0; types = t.0 },
        record { manifest = m.1; externs = e.1; fields = f.1; methods = d.1; types = t.1 },
      )

pub assembly_exists : Given → AssemblyExists
assembly_exists given image names short tables named rows = assembly_is given image names short tables named rows
