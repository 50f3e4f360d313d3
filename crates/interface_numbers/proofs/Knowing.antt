-- Each row of InterfaceImpl names one type, where no demand fails.
use Rattle.std.proofs.Common.{◌≡◌, ℕ, ◌+◌, ◌*◌, ◌^◌, ◌<◌, ◌≤◌, ◌⊎◌, inl, inr, Bool, true, false, List, length, Option, Some, refl, sym, ap, subst, arith}
use Rattle.std.specs.Prelude.{if◌then◌else◌, ◌==◌, nat_lt}
use Rattle.std.specs.Int.{bit_at}
use Rattle.std.specs.List.{list_all}
use Rattle.std.proofs.Math.Nat.{mul-le-mul_left}
use Rattle.heaps.specs.Content.{HasText, HasBlob}
use Rattle.metadata_tables.specs.CodedIndex.{tags}
use Rattle.metadata_tables.specs.Schema.{schema}
use Rattle.metadata_tables.specs.Stream.{row_count, row_size, heap_sizes}
use Rattle.metadata_tables.specs.declared.coded.Coded.TheVariants.{TypeDefOrRef, ResolutionScope}
use Rattle.type_terms.specs.declared.term.Owner.{Owner}
use Rattle.body_codec.specs.Names.{NameMap}
use Rattle.image_model.specs.Cells.{NamesRow}
use Rattle.image_model.specs.Columns.{interface_type}
use Rattle.image_model.specs.Faults.{indexes, HasTables}
use Rattle.image_model.specs.Naming.{RowOwner}
use Rattle.image_model.specs.Namings.{AreNamings}
use Rattle.image_model.specs.Reading.{OwnerIs}
use Rattle.image_model.specs.Rows.{HasRow}
use Rattle.image_model.specs.Streams.{tables_of, strings_of, blobs_of}
use Rattle.image_namings.proofs.Indexes.{named_row, type_tables}
use Rattle.image_namings.proofs.General.{names_one}
use Rattle.image_namings.proofs.Owners.{ReadsTypes, owner_one}
use Rattle.image_namings.proofs.Rows.{tables_in}
use Rattle.image_assemblies.proofs.Parts.{owner_is}
use Rattle.signature_facts.specs.Scanning.{OwnersFacts}
use Rattle.interface_numbers.specs.Known.{CanNumber, AreKnown}
use Rattle.interface_numbers.specs.Rows.{NamesType}

-- ---- rows of TypeDef and TypeRef are few

wide : (b : Bool) → 2 ≤ (if b then 4 else 2)
wide true = omega arith
wide false = omega arith

coded : (b : Bool) → 2 ≤ (if b then 2 else 4)
coded true = omega arith
coded false = omega arith

three : (a b c : Bool) → 6 ≤ 0 + (if a then 2 else 4) + (if b then 4 else 2) + (if c then 4 else 2)
three a b c = let x = coded a in let y = wide b in let z = wide c in omega (arith, x, y, z)

type_size : (stream : List ℕ) → 6 ≤ row_size stream 0x02
unfolding row_size schema
type_size stream = let x = wide (bit_at (heap_sizes stream) 0 == 1) in omega (arith, x)

reference_size : (stream : List ℕ) → 6 ≤ row_size stream 0x01
unfolding row_size schema
reference_size stream = three (list_all (λ (pair : ℕ × ℕ). nat_lt (row_count stream pair.0) (2 ^ 14)) (tags ResolutionScope)) (bit_at (heap_sizes stream) 0 == 1) (bit_at (heap_sizes stream) 0 == 1)

few : (image : List ℕ) (table row : ℕ) → length image ≤ 2 ^ 26 → HasTables image → 6 ≤ row_size (tables_of image) table → HasRow image table row → row < 2 ^ 24
few image table row short tables size there =
    let inside = tables.whole.rows table row there in
    let all = tables_in image in
    let least : row * 6 ≤ row * row_size (tables_of image) table = mul-le-mul_left row size in
    omega (arith, inside, all, least, short)

module _ (image : List ℕ) (facts : OwnersFacts) (canon : ℕ → ℕ → Bool) (can : CanNumber image facts canon) where
  few_names : (table row : ℕ) → (table ≡ 0x02) ⊎ ((table ≡ 0x01) ⊎ (table ≡ 0x1B)) → HasRow image table row → (table ≡ 0x1B → ⊥) → row < 2 ^ 24
  few_names table row (inl e) there other = few image 0x02 row can.short can.tables (type_size (tables_of image)) (subst (λ (t : ℕ). HasRow image t row) e there)
  few_names table row (inr (inl e)) there other = few image 0x01 row can.short can.tables (reference_size (tables_of image)) (subst (λ (t : ℕ). HasRow image t row) e there)
  few_names table row (inr (inr e)) there other = absurd (other e)

  row_named : (row : ℕ) → HasRow image 0x09 row → NamesRow image TypeDefOrRef (interface_type image row)
  unfolding schema
  row_named row there = named_row image TypeDefOrRef (interface_type image row) ((can.rows can.named.0 can.named.1 indexes).0 0x09 row there 1 (omega arith))

  types : (row : ℕ) → HasRow image 0x09 row → (table type : ℕ) × NamesType image row table type
  types row there =
      let n = row_named row there in
      let kinds = type_tables (interface_type image row) n.0 n.1 n.2 in
      (n.0, n.1, record { names = n.2; there = n.3; kind = kinds; few = few_names n.0 n.1 kinds n.3 })

  owners : (names : NameMap) → AreNamings image names → (row : ℕ) → HasRow image 0x09 row → (owner : Owner) × OwnerIs image names (interface_type image row) owner
  unfolding schema
  owners names are row there = owner_is image names can.short can.tables are (can.rows names are) 0x09 row 1 false refl there (omega arith) refl (row_named row there)

  pub known_are : ReadsTypes → ((index : ℕ) (a b : List ℕ) → HasText (strings_of image) index a → HasText (strings_of image) index b → a ≡ b)
      → ((index : ℕ) (a b : List ℕ) → HasBlob (blobs_of image) index a → HasBlob (blobs_of image) index b → a ≡ b) → AreKnown image facts canon
  known_are reads text blob = record {
    named = can.named;
    types = types;
    owners = owners;
    one = λ names are value a b h k.
        let same = names_one TypeDefOrRef value h.0 h.1 k.0 k.1 h.2 k.2 in
        owner_one image reads text blob names.owners h.0 h.1 a b h.3
        (subst (λ (r : ℕ). RowOwner image names.owners h.0 r b) (sym same.1) (subst (λ (t : ℕ). RowOwner image names.owners t k.1 b) (sym same.0) k.3));
    facts_are = can.facts_are;
    canon_is = can.canon_is;
  }
