-- Which signature a table has, and the column that leads to it.
use Rattle.std.proofs.Common.{◌≡◌, ℕ, ◌⊎◌, inl, inr, List, Option, Some, refl, sym, ◌∙◌, ap, subst, arith}
use Rattle.std.specs.Prelude.{◌↔◌}
use Rattle.heaps.specs.Content.{HasBlob}
use Rattle.metadata_tables.specs.Stream.{cell}
use Rattle.image_model.specs.Streams.{tables_of, blobs_of}
use Rattle.image_model.specs.Tokens.{InType, InField, InMethod, InProperty, InLocals, InInstantiation, SignatureNames, of_field, of_method, of_member, of_locals, of_property, of_type, of_instance}
use Rattle.sig_codec.proofs.Numbers.{some_is}
use Rattle.row_signatures.specs.Signed.{signature_column, InSignature, in_field, in_method, in_member, in_locals, in_property, in_type, in_instance, IndexHolds, RowHolds}

pub field_of : {table token : ℕ} {bytes : List ℕ} → table ≡ 0x04 → InSignature table bytes token → InField bytes token
field_of t (in_field e i) = i
field_of t (in_method e i) = absurd (omega arith)
field_of t (in_member e i) = absurd (omega arith)
field_of t (in_locals e i) = absurd (omega arith)
field_of t (in_property e i) = absurd (omega arith)
field_of t (in_type e i) = absurd (omega arith)
field_of t (in_instance e i) = absurd (omega arith)

pub method_of : {table token : ℕ} {bytes : List ℕ} → table ≡ 0x06 → InSignature table bytes token → InMethod bytes token
method_of t (in_field e i) = absurd (omega arith)
method_of t (in_method e i) = i
method_of t (in_member e i) = absurd (omega arith)
method_of t (in_locals e i) = absurd (omega arith)
method_of t (in_property e i) = absurd (omega arith)
method_of t (in_type e i) = absurd (omega arith)
method_of t (in_instance e i) = absurd (omega arith)

pub member_of : {table token : ℕ} {bytes : List ℕ} → table ≡ 0x0A → InSignature table bytes token → InMethod bytes token ⊎ InField bytes token
member_of t (in_field e i) = absurd (omega arith)
member_of t (in_method e i) = absurd (omega arith)
member_of t (in_member e i) = i
member_of t (in_locals e i) = absurd (omega arith)
member_of t (in_property e i) = absurd (omega arith)
member_of t (in_type e i) = absurd (omega arith)
member_of t (in_instance e i) = absurd (omega arith)

pub locals_of : {table token : ℕ} {bytes : List ℕ} → table ≡ 0x11 → InSignature table bytes token → InLocals bytes token
locals_of t (in_field e i) = absurd (omega arith)
locals_of t (in_method e i) = absurd (omega arith)
locals_of t (in_member e i) = absurd (omega arith)
locals_of t (in_locals e i) = i
locals_of t (in_property e i) = absurd (omega arith)
locals_of t (in_type e i) = absurd (omega arith)
locals_of t (in_instance e i) = absurd (omega arith)

pub property_of : {table token : ℕ} {bytes : List ℕ} → table ≡ 0x17 → InSignature table bytes token → InProperty bytes token
property_of t (in_field e i) = absurd (omega arith)
property_of t (in_method e i) = absurd (omega arith)
property_of t (in_member e i) = absurd (omega arith)
property_of t (in_locals e i) = absurd (omega arith)
property_of t (in_property e i) = i
property_of t (in_type e i) = absurd (omega arith)
property_of t (in_instance e i) = absurd (omega arith)

pub type_of : {table token : ℕ} {bytes : List ℕ} → table ≡ 0x1B → InSignature table bytes token → InType bytes token
type_of t (in_field e i) = absurd (omega arith)
type_of t (in_method e i) = absurd (omega arith)
type_of t (in_member e i) = absurd (omega arith)
type_of t (in_locals e i) = absurd (omega arith)
type_of t (in_property e i) = absurd (omega arith)
type_of t (in_type e i) = i
type_of t (in_instance e i) = absurd (omega arith)

pub instance_of : {table token : ℕ} {bytes : List ℕ} → table ≡ 0x2B → InSignature table bytes token → InInstantiation bytes token
instance_of t (in_field e i) = absurd (omega arith)
instance_of t (in_method e i) = absurd (omega arith)
instance_of t (in_member e i) = absurd (omega arith)
instance_of t (in_locals e i) = absurd (omega arith)
instance_of t (in_property e i) = absurd (omega arith)
instance_of t (in_type e i) = absurd (omega arith)
instance_of t (in_instance e i) = i

-- a table without signatures
pub none_of : {table token : ℕ} {bytes : List ℕ} → (table ≡ 0x04 → ⊥) → (table ≡ 0x06 → ⊥) → (table ≡ 0x0A → ⊥) → (table ≡ 0x11 → ⊥) → (table ≡ 0x17 → ⊥) → (table ≡ 0x1B → ⊥) → (table ≡ 0x2B → ⊥) → InSignature table bytes token → ⊥
none_of p q r s u v w (in_field t i) = p t
none_of p q r s u v w (in_method t i) = q t
none_of p q r s u v w (in_member t i) = r t
none_of p q r s u v w (in_locals t i) = s t
none_of p q r s u v w (in_property t i) = u t
none_of p q r s u v w (in_type t i) = v t
none_of p q r s u v w (in_instance t i) = w t

module _ (image : List ℕ) (row token : ℕ) where
  -- the blob in a column of a table, by the table's number
  moved : {table other : ℕ} (column : ℕ) (bytes : List ℕ) → table ≡ other → HasBlob (blobs_of image) (cell (tables_of image) table row column) bytes
      → HasBlob (blobs_of image) (cell (tables_of image) other row column) bytes
  moved column bytes e blob = subst (λ (t : ℕ). HasBlob (blobs_of image) (cell (tables_of image) t row column) bytes) e blob

  pub holds : {table : ℕ} → SignatureNames image table row token → RowHolds image table row token
  holds (of_field {bytes = bytes} t blob i) = record { column = 2; is = ap signature_column t; holds = record { bytes = bytes; blob = moved 2 bytes (sym t) blob; has = in_field t i } }
  holds (of_method {bytes = bytes} t blob i) = record { column = 4; is = ap signature_column t; holds = record { bytes = bytes; blob = moved 4 bytes (sym t) blob; has = in_method t i } }
  holds (of_member {bytes = bytes} t blob i) = record { column = 2; is = ap signature_column t; holds = record { bytes = bytes; blob = moved 2 bytes (sym t) blob; has = in_member t i } }
  holds (of_locals {bytes = bytes} t blob i) = record { column = 0; is = ap signature_column t; holds = record { bytes = bytes; blob = moved 0 bytes (sym t) blob; has = in_locals t i } }
  holds (of_property {bytes = bytes} t blob i) = record { column = 2; is = ap signature_column t; holds = record { bytes = bytes; blob = moved 2 bytes (sym t) blob; has = in_property t i } }
  holds (of_type {bytes = bytes} t blob i) = record { column = 0; is = ap signature_column t; holds = record { bytes = bytes; blob = moved 0 bytes (sym t) blob; has = in_type t i } }
  holds (of_instance {bytes = bytes} t blob i) = record { column = 1; is = ap signature_column t; holds = record { bytes = bytes; blob = moved 1 bytes (sym t) blob; has = in_instance t i } }

  -- the column is that of the table
  column_is : {table : ℕ} (other column known : ℕ) → table ≡ other → signature_column other ≡ Some known → signature_column table ≡ Some column → column ≡ known
  column_is other column known t e f = some_is column known (sym f ∙ (ap signature_column t ∙ e))

  placed : {table : ℕ} (other column known : ℕ) (bytes : List ℕ) → table ≡ other → column ≡ known → HasBlob (blobs_of image) (cell (tables_of image) table row column) bytes
      → HasBlob (blobs_of image) (cell (tables_of image) other row known) bytes
  placed other column known bytes t e blob = subst (λ (k : ℕ). HasBlob (blobs_of image) (cell (tables_of image) other row k) bytes) e (moved column bytes t blob)

  named : {table : ℕ} (column : ℕ) (bytes : List ℕ) → signature_column table ≡ Some column → HasBlob (blobs_of image) (cell (tables_of image) table row column) bytes → InSignature table bytes token
      → SignatureNames image table row token
  named column bytes is blob (in_field t i) = of_field t (placed 0x04 column 2 bytes t (column_is 0x04 column 2 t refl is) blob) i
  named column bytes is blob (in_method t i) = of_method t (placed 0x06 column 4 bytes t (column_is 0x06 column 4 t refl is) blob) i
  named column bytes is blob (in_member t i) = of_member t (placed 0x0A column 2 bytes t (column_is 0x0A column 2 t refl is) blob) i
  named column bytes is blob (in_locals t i) = of_locals t (placed 0x11 column 0 bytes t (column_is 0x11 column 0 t refl is) blob) i
  named column bytes is blob (in_property t i) = of_property t (placed 0x17 column 2 bytes t (column_is 0x17 column 2 t refl is) blob) i
  named column bytes is blob (in_type t i) = of_type t (placed 0x1B column 0 bytes t (column_is 0x1B column 0 t refl is) blob) i
  named column bytes is blob (in_instance t i) = of_instance t (placed 0x2B column 1 bytes t (column_is 0x2B column 1 t refl is) blob) i

  pub are_held : (table : ℕ) → SignatureNames image table row token ↔ RowHolds image table row token
  are_held table = (λ n. holds n, λ h. named h.column h.holds.bytes h.is h.holds.blob h.holds.has)

  -- rows of a table with one signature hold the same
  pub same_held : (table column index : ℕ) → signature_column table ≡ Some column → cell (tables_of image) table row column ≡ index → SignatureNames image table row token → IndexHolds image table index token
  same_held table column index is e n =
      let h = holds n in
      let same : h.column ≡ column = some_is h.column column (sym h.is ∙ is) in
      subst (λ (i : ℕ). IndexHolds image table i token) (ap (λ (k : ℕ). cell (tables_of image) table row k) same ∙ e) h.holds
