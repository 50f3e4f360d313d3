use Rattle.std.proofs.Common.{◌≡◌, ℕ, ◌∙◌, List, ap, subst, sym}
use Rattle.std.specs.List.{AllZip}
use Rattle.metadata_tables.specs.Stream.{IsRow, cell}
use Rattle.pe_layout.specs.Numbers.{numbers_of}
use Rattle.pe_layout.specs.declared.parts.ManifestNumbers.{ManifestNumbers}
use Rattle.image_model.specs.Columns.{assembly_name, assembly_key, assembly_culture, module_name, attribute_parent}
use Rattle.image_model.specs.Reading.{TextIs, BlobIs, IsAttribute, ImageBaseIs, FileAlignmentIs, without}
use Rattle.image_model.specs.Rows.{rows_with}
use Rattle.image_source.specs.Names.{names_of}
use Rattle.row_parts.proofs.Indexes.{assembly_attributes, module_attributes}
use Rattle.row_parts.proofs.Zips.{ok_has}
use Rattle.image_trees.proofs.Finding.{assembly_there, module_there}
use Rattle.image_trees.proofs.manifest_row.manifest.Goals as goal

pub returns : goal.returns
returns c =
    let image = c.args.source.now.image.now in
    let names = names_of c.args.source.now.kept.now in
    let it = c.in_ok-read.read in
    let front = rw c.in_ok-read.ensures.0 at c.four.ensures in
    let back = rw c.in_ok-read.ensures.1 at c.pair.ensures in
    let head : c.numbers-numbers.result ≡ numbers_of image = c.numbers-numbers.ensures ∙ ap numbers_of c.pe.ensures in
    record {
      name = ok_has (TextIs image (assembly_name image 1)) c.text_of.result it.0.0 front.0 c.text_of.ensures;
      version = c.version-version.ensures;
      flags = c.cell-flags.ensures ∙ ap (λ stream. cell stream 0x20 1 5) c.tables.ensures.tables;
      key = ok_has (BlobIs image (assembly_key image 1)) c.blob_of.result it.0.1 front.1.0 c.blob_of.ensures;
      culture = ok_has (TextIs image (assembly_culture image 1)) c.text_of-2.result it.0.2 front.1.1.0 c.text_of-2.ensures;
      hash = c.cell-hash.ensures ∙ ap (λ stream. cell stream 0x20 1 0) c.tables-2.ensures.tables;
      module_name_is = ok_has (TextIs image (module_name image 1)) c.text_of-3.result it.0.3 front.1.1.1 c.text_of-3.ensures;
      image_base = subst (λ (n : ℕ). ImageBaseIs n c.image_base.result) (ap (λ (n : ManifestNumbers). n.image_base) head) c.image_base.ensures;
      file_alignment = subst (λ (n : ℕ). FileAlignmentIs n c.file_alignment.result) (ap (λ (n : ManifestNumbers). n.file_alignment) head) c.file_alignment.ensures;
      stack_reserve = ap (λ (n : ManifestNumbers). n.stack_reserve) head;
      subsystem = ap (λ (n : ManifestNumbers). n.subsystem) head;
      cor_flags = c.unsigned.ensures ∙ ap (λ (n : ManifestNumbers). without n.cor_flags 8) head;
      attributes = subst (λ (i : ℕ). AllZip (IsAttribute image names) (rows_with image 0x0C attribute_parent i) it.1.0) (sym (assembly_attributes 1))
          (ok_has (AllZip (IsAttribute image names) (rows_with image 0x0C attribute_parent 46)) c.attributes.result it.1.0 back.0 c.attributes.ensures);
      module_attributes = subst (λ (i : ℕ). AllZip (IsAttribute image names) (rows_with image 0x0C attribute_parent i) it.1.1) (sym (module_attributes 1))
          (ok_has (AllZip (IsAttribute image names) (rows_with image 0x0C attribute_parent 39)) c.attributes-2.result it.1.1 back.1 c.attributes-2.ensures);
    }

pub version-version-requires-clause-there : goal.version-version-requires-clause-there
version-version-requires-clause-there c = assembly_there c.args.source.now.image.now c.requires.structure

pub cell-flags-requires-clause-row : goal.cell-flags-requires-clause-row
cell-flags-requires-clause-row c = subst (λ (stream : List ℕ). IsRow stream 0x20 1) (sym c.tables.ensures.tables) (assembly_there c.args.source.now.image.now c.requires.structure)

pub cell-hash-requires-clause-row : goal.cell-hash-requires-clause-row
cell-hash-requires-clause-row c = subst (λ (stream : List ℕ). IsRow stream 0x20 1) (sym c.tables-2.ensures.tables) (assembly_there c.args.source.now.image.now c.requires.structure)

pub text_of-requires-clause-there : goal.text_of-requires-clause-there
text_of-requires-clause-there c = assembly_there c.args.source.now.image.now c.requires.structure

pub blob_of-requires-clause-there : goal.blob_of-requires-clause-there
blob_of-requires-clause-there c = assembly_there c.args.source.now.image.now c.requires.structure

pub text_of-requires-2-clause-there : goal.text_of-requires-2-clause-there
text_of-requires-2-clause-there c = assembly_there c.args.source.now.image.now c.requires.structure

pub text_of-requires-3-clause-there : goal.text_of-requires-3-clause-there
text_of-requires-3-clause-there c = module_there c.args.source.now.image.now c.requires.structure
