-- The tokens in the signatures of rows, by the columns that lead to them (II.22, II.23.2).
use Rattle.std.specs.Prelude.{◌≡◌, ℕ, ◌⊎◌, ◌==◌, if◌then◌else◌, List, Option, Some, None}
use Rattle.heaps.specs.Content.{HasBlob}
use Rattle.metadata_tables.specs.Stream.{cell}
use Rattle.image_model.specs.Streams.{tables_of, blobs_of}
use Rattle.image_model.specs.Tokens.{InType, InField, InMethod, InProperty, InLocals, InInstantiation}

-- The column of a table that leads to its signatures: of Field, MethodDef, MemberRef, StandAloneSig, Property, TypeSpec and MethodSpec.
abbrev pub signature_column : ℕ → Option ℕ
signature_column table =
    if table == 0x04 then Some 2 else (if table == 0x06 then Some 4 else (if table == 0x0A then Some 2 else (if table == 0x11 then Some 0 else
    (if table == 0x17 then Some 2 else (if table == 0x1B then Some 0 else (if table == 0x2B then Some 1 else None))))))

-- bytes hold a token, read as the signature of a row of a table
pub data InSignature : (table : ℕ) (bytes : List ℕ) (token : ℕ) → Type 0 where
  in_field : {table token : ℕ} {bytes : List ℕ} → table ≡ 0x04 → InField bytes token → InSignature table bytes token
  in_method : {table token : ℕ} {bytes : List ℕ} → table ≡ 0x06 → InMethod bytes token → InSignature table bytes token
  in_member : {table token : ℕ} {bytes : List ℕ} → table ≡ 0x0A → InMethod bytes token ⊎ InField bytes token → InSignature table bytes token
  in_locals : {table token : ℕ} {bytes : List ℕ} → table ≡ 0x11 → InLocals bytes token → InSignature table bytes token
  in_property : {table token : ℕ} {bytes : List ℕ} → table ≡ 0x17 → InProperty bytes token → InSignature table bytes token
  in_type : {table token : ℕ} {bytes : List ℕ} → table ≡ 0x1B → InType bytes token → InSignature table bytes token
  in_instance : {table token : ℕ} {bytes : List ℕ} → table ≡ 0x2B → InInstantiation bytes token → InSignature table bytes token

-- so does the blob at an index
pub record IndexHolds (image : List ℕ) (table index token : ℕ) : Type 0 where
  pub bytes : List ℕ
  pub blob : HasBlob (blobs_of image) index bytes
  pub has : InSignature table bytes token

-- so does the blob to which the signature column of a row leads
pub record RowHolds (image : List ℕ) (table row token : ℕ) : Type 0 where
  pub column : ℕ
  pub is : signature_column table ≡ Some column
  pub holds : IndexHolds image table (cell (tables_of image) table row column) token
