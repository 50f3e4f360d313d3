-- The header of the stream of tables, and the identifier of the module.
use Rattle.std.proofs.Common.{◌≡◌, ap, refl, sym, ◌∙◌, subst, ℕ, ◌<◌, List, [], ◌∷◌, ◌++◌, drop, length, arith}
use Rattle.std.specs.Prelude.{slice_index, slice_index_or}
use Rattle.std.specs.List.{AllZip}
use Rattle.std.proofs.lemmas.List.{take-append-drop}
use Rattle.assembly_tree.specs.declared.assembly.Manifest.{Manifest}
use Rattle.heaps.specs.Content.{HasGuid}
use Rattle.metadata_tables.specs.Encoding.{rows_of}
use Rattle.metadata_tables.specs.Schema.{schema}
use Rattle.pe_layout.specs.Fields.{u32_at}
use Rattle.image_layout.specs.LaidOut.{HoldsTables}
use Rattle.image_layout.specs.Laws.{TablesAreRead, ReadsTables}
use Rattle.image_layout.proofs.ReadLemmas.{filling, stays}
use Rattle.image_model.specs.Columns.{module_identifier}
use Rattle.image_model.specs.Streams.{tables_of, guids_of}
use Rattle.image_model.specs.Tidy.{HasWrittenTables}
use Rattle.image_tokens.specs.declared.references.References.{References}
use Rattle.image_members.specs.ManifestRows.{IsModuleRow}
use Rattle.image_members.specs.Pushing.{Tables}
use Rattle.laws_image_parts.specs.tidiness.Fields.{FieldsAreWritten}
use Rattle.laws_image_parts.proofs.ManifestFacts.{numbers_kept}

front_is : (wide : ℕ) (rest : List ℕ) → HasWrittenTables (0 ∷ 0 ∷ 0 ∷ 0 ∷ 2 ∷ 0 ∷ wide ∷ 1 ∷ rest)
unfolding u32_at
front_is wide rest = record { reserved = refl; major = refl; minor = refl; reserved_one = refl }

tables_written : (wide : ℕ) (tables : Tables) (image : List ℕ) → HoldsTables wide tables image → HasWrittenTables (tables_of image)
tables_written wide tables image h =
    let bytes = h.stream in
    let front : bytes ≡ 0 ∷ 0 ∷ 0 ∷ 0 ∷ 2 ∷ 0 ∷ wide ∷ 1 ∷ drop 8 bytes = sym (take-append-drop 8 bytes) ∙ ap (λ (xs : List ℕ). xs ++ drop 8 bytes) h.holds.front in
    stays HasWrittenTables bytes (tables_of image) h.is
    (subst HasWrittenTables (ap (λ (xs : List ℕ). xs ++ filling bytes) (sym front)) (front_is wide (drop 8 bytes ++ filling bytes)))

-- the one row of Module has the identifier 1
module_row : (r : References) (m : Manifest) (rows : List (List ℕ)) → AllZip (IsModuleRow r) rows (m ∷ []) → (0 < length rows) × (slice_index (slice_index_or rows 0 []) 2 ≡ 1)
module_row r m [] h = absurd h
module_row r m (row ∷ rows) h = (omega arith, ap (λ (cells : List ℕ). slice_index cells 2) h.0.are)

identifier_one : (r : References) (m : Manifest) (tables : Tables) (image : List ℕ) → ReadsTables r tables image → AllZip (IsModuleRow r) (rows_of tables 0x00) (m ∷ [])
    → module_identifier image 1 ≡ 1
unfolding schema
identifier_one r m tables image reads h = let row = module_row r m (rows_of tables 0x00) h in reads.cells 0x00 0 2 row.0 (omega arith) ∙ row.1

pub fields_written : TablesAreRead → FieldsAreWritten
fields_written read a classes r tables code entry id kind image f l formed =
    let one = identifier_one r a.manifest tables image (read r tables id image l.metadata) f.manifest.module_row in
    record {
      frame = l.frame;
      numbers = numbers_kept a image l.numbers formed;
      root = l.metadata.written;
      tables = tables_written _ tables image l.metadata.rows;
      identifier = subst (λ n. HasGuid (guids_of image) n id) (sym one) l.metadata.identifier;
    }
