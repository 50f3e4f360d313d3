-- The manifest as its image gives it, but for attributes (ECMA-335 II.22.2, II.22.30, II.25.2.3, II.25.3.3).
use Rattle.std.specs.Prelude.{◌≡◌, ℕ, true, List, [], ◌∷◌, length}
use Rattle.assembly_tree.specs.WellFormed.{is_manifest}
use Rattle.assembly_tree.specs.declared.assembly.Assembly.{Assembly}
use Rattle.assembly_tree.specs.declared.assembly.Manifest.{Manifest}
use Rattle.image_tokens.specs.declared.references.References.{References}
use Rattle.image_layout.specs.LaidOut.{numbers_in}
use Rattle.image_layout.specs.Laws.{ReadsHeaps}
use Rattle.image_model.specs.Columns.{module_name, assembly_hash, assembly_major, assembly_minor, assembly_build, assembly_revision, assembly_flags, assembly_key, assembly_name, assembly_culture}
use Rattle.image_model.specs.Reading.{TextIs, BlobIs, ImageBaseIs, FileAlignmentIs, without}
use Rattle.pe_layout.specs.CliHeader.{cor_flags_of}
use Rattle.pe_layout.specs.Headers.{image_base_of, file_alignment_of, stack_reserve_of, subsystem_of}
use Rattle.pe_layout.specs.Numbers.{numbers_of}
use Rattle.laws_image_parts.specs.RowsRead.{ReadsManifest}

pub record HasManifestHead (image : List ℕ) (m : Manifest) : Type 0 where
  pub name : TextIs image (assembly_name image 1) m.name
  pub version : m.version ≡ assembly_major image 1 ∷ assembly_minor image 1 ∷ assembly_build image 1 ∷ assembly_revision image 1 ∷ []
  pub flags : m.flags ≡ assembly_flags image 1
  pub key : BlobIs image (assembly_key image 1) m.key
  pub culture : TextIs image (assembly_culture image 1) m.culture
  pub hash : m.hash ≡ assembly_hash image 1
  pub module_name_is : TextIs image (module_name image 1) m.module
  pub image_base : ImageBaseIs (image_base_of image) m.image_base
  pub file_alignment : FileAlignmentIs (file_alignment_of image) m.file_alignment
  pub stack_reserve : m.stack_reserve ≡ stack_reserve_of image
  pub subsystem : m.subsystem ≡ subsystem_of image
  pub cor_flags : m.cor_flags ≡ without (cor_flags_of image) 8

-- ---- the law

abbrev pub ManifestIsRead : Type 0
ManifestIsRead =
    (a : Assembly) (r : References) (image : List ℕ) → ReadsHeaps r image → ReadsManifest a r image → numbers_of image ≡ numbers_in a.manifest
    → is_manifest a a.manifest ≡ true → length a.manifest.version ≡ 4 → HasManifestHead image a.manifest
