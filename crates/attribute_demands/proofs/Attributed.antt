-- The demand on attributes, by their parents and their types.
use Rattle.std.proofs.Common.{◌≡◌, ℕ, ◌<◌, ◌≤◌, inl, inr, Bool, true, false, List, Option, Some, None, refl, sym, ap, subst, ◌∙◌, arith}
use Rattle.std.specs.Prelude.{◌↔◌, IsTrue}
use Rattle.body_codec.specs.Names.{NameMap}
use Rattle.heaps.specs.LookUp.{blob_in}
use Rattle.metadata_tables.specs.CodedIndex.{unpacked}
use Rattle.metadata_tables.specs.Schema.{columns_of, schema}
use Rattle.metadata_tables.specs.Stream.{cell, column_of}
use Rattle.metadata_tables.specs.declared.coded.Coded.TheVariants.{CustomAttributeType}
use Rattle.metadata_tables.specs.declared.schema.Column.TheVariants.{Tagged}
use Rattle.image_model.specs.Cells.{IsIndex, NamesRow}
use Rattle.image_model.specs.Columns.{attribute_type, member_signature}
use Rattle.image_model.specs.Members.{IsAttributed, HasConstructor, HasAttribute}
use Rattle.image_model.specs.Namings.{AreNamings}
use Rattle.image_model.specs.Rows.{HasRow, Names, token_of}
use Rattle.image_model.specs.Streams.{tables_of, blobs_of}
use Rattle.image_model.specs.Used.{IsReference, IsUsed}
use Rattle.image_namings.proofs.General.{names_one}
use Rattle.image_namings.proofs.Indexes.{constructor_tables, named_row, row_there, cell_names, no_reference}
use Rattle.row_demands.specs.Structured.{MeetStructure}
use Rattle.sig_codec.specs.Reading.{◌>>=◌}
use Rattle.signature_facts.specs.declared.facts.MethodFacts.{MethodFacts}
use Rattle.signature_facts.specs.Facts.{method_facts}
use Rattle.signature_facts.specs.Scanning.{OwnersFacts, whole_method}
use Rattle.attribute_demands.specs.Judging.{CanJudge, SpellsMethod, HasConstructorByNames, HasAttributeByNames}
use Rattle.attribute_demands.proofs.Named.{method_named, member_named, member_back, scan_found, scan_back}

-- an attribute's type names a row that is there
pub constructor_there : (image : List ℕ) (row : ℕ) → MeetStructure image → HasRow image 0x0C row → NamesRow image CustomAttributeType (attribute_type image row)
unfolding schema
constructor_there image row meets there = named_row image CustomAttributeType (attribute_type image row) (meets.indexes 0x0C row there 1 (omega arith))

used_member : (image : List ℕ) (row member : ℕ) → HasRow image 0x0C row → Names CustomAttributeType (attribute_type image row) 0x0A member → HasRow image 0x0A member → IsUsed image 0x0A member
unfolding schema
used_member image row member there n is =
    IsUsed.by_row (no_reference 0x0C refl) there (cell_names image 0x0C row 1 CustomAttributeType false 0x0A member (omega arith) refl n) (inr (inl refl)) is

module _ (image : List ℕ) (facts : OwnersFacts) (can : CanJudge image facts) (row table constructor : ℕ) (there : HasRow image 0x0C row) (n : Names CustomAttributeType (attribute_type image row) table constructor) where
  target : HasRow image table constructor
  target = row_there image CustomAttributeType (attribute_type image row) table constructor (constructor_there image row can.meets there) n

  pub by_definition : table ≡ 0x06 → HasConstructorByNames image row
  by_definition e names named =
      let t = subst (λ (x : ℕ). HasRow image x constructor) e target in
      let m = method_named image can.small can.tables can.meets can.scopes names named (can.signatures names named) constructor t in
      (0x06, constructor, m.0, subst (λ (x : ℕ). Names CustomAttributeType (attribute_type image row) x constructor) e n, m.1)

  pub is_member : (table ≡ 0x06 → ⊥) → table ≡ 0x0A
  is_member other = elim (constructor_tables (attribute_type image row) table constructor n) [ inl e ↦ absurd (other e) | inr e ↦ e ]

  pub member_there : (table ≡ 0x06 → ⊥) → HasRow image 0x0A constructor
  member_there other = subst (λ (x : ℕ). HasRow image x constructor) (is_member other) target

  member_names : (table ≡ 0x06 → ⊥) → Names CustomAttributeType (attribute_type image row) 0x0A constructor
  member_names other = subst (λ (x : ℕ). Names CustomAttributeType (attribute_type image row) x constructor) (is_member other) n

  pub by_member : (table ≡ 0x06 → ⊥) → SpellsMethod image facts constructor ↔ HasConstructorByNames image row
  by_member other = (
    λ spells names named.
        let f = can.facts_are names named in
        let s = scan_back image names named f.0 facts f.1 (member_signature image constructor) spells.0 spells.1 in
        let t = member_there other in
        let m = member_named image can.small can.tables can.meets can.scopes names named (can.signatures names named) constructor s.sig (used_member image row constructor there (member_names other) t) t (s.bytes, s.blob, s.is) in
        (0x0A, constructor, m.0, member_names other, m.1),
    λ h.
        let k = can.named in
        let f = can.facts_are k.0 k.1 in
        let c = h k.0 k.1 in
        let one = names_one CustomAttributeType (attribute_type image row) c.0 c.1 0x0A constructor c.3 (member_names other) in
        let e = subst (λ (r : ℕ). k.0.methods (token_of 0x0A r) ≡ Some c.2) one.1 (subst (λ (t : ℕ). k.0.methods (token_of t c.1) ≡ Some c.2) one.0 c.4) in
        let s = member_back image can.small can.tables can.meets can.scopes k.0 k.1 (can.signatures k.0 k.1) constructor c.2 (member_there other) e in
        let found = scan_found image k.0 k.1 f.0 facts f.1 (member_signature image constructor) c.2.sig s.0 s.1 s.2 in
        (method_facts f.0 c.2.sig, found),
  )

-- ---- both parts

pub both_parts : (image : List ℕ) (row : ℕ) (r : Bool) → HasRow image 0x0C row → IsAttributed image row → IsTrue r ↔ HasConstructorByNames image row → IsTrue r ↔ HasAttributeByNames image 0x0C row
both_parts image row r there parent h = (
  λ t names named. record { parent = λ e k. parent; constructor = λ e k. h.0 t names named },
  λ a. h.1 (λ names named. (a names named).constructor refl there),
)

pub no_parent : (image : List ℕ) (row : ℕ) → HasRow image 0x0C row → (names : NameMap) × AreNamings image names → (IsAttributed image row → ⊥) → IsTrue false ↔ HasAttributeByNames image 0x0C row
no_parent image row there named none = (λ t. absurd cc, λ a. absurd (none ((a named.0 named.1).parent refl there)))

pub others_are : (image : List ℕ) (table row : ℕ) → (table ≡ 0x0C → ⊥) → HasAttributeByNames image table row
others_are image table row other = λ names named. record { parent = λ e t. absurd (other e); constructor = λ e t. absurd (other e) }

pub none_are : (image : List ℕ) (table row : ℕ) → (HasRow image table row → ⊥) → HasAttributeByNames image table row
none_are image table row none = λ names named. record {
  parent = λ e t. absurd (none (subst (λ (z : ℕ). HasRow image z row) (sym e) t));
  constructor = λ e t. absurd (none (subst (λ (z : ℕ). HasRow image z row) (sym e) t));
}

-- ---- the signature of a MemberRef, as it is looked up

pub spells_told : (image : List ℕ) (facts : OwnersFacts) (row : ℕ) (b : Bool) (blob : List ℕ) (found : Option MethodFacts) → blob_in (blobs_of image) (member_signature image row) ≡ Some blob → found ≡ whole_method facts blob
    → IsTrue b ↔ ((m : MethodFacts) × (found ≡ Some m)) → IsTrue b ↔ SpellsMethod image facts row
spells_told image facts row b blob found e f h =
    let is : blob_in (blobs_of image) (member_signature image row) >>= whole_method facts ≡ found = ap (λ (o : Option (List ℕ)). o >>= whole_method facts) e ∙ sym f in
    (λ t. let m = h.0 t in (m.0, is ∙ m.1), λ s. h.1 (s.0, sym is ∙ s.1))

pub spells_none : (image : List ℕ) (facts : OwnersFacts) (row : ℕ) → blob_in (blobs_of image) (member_signature image row) ≡ None → IsTrue false ↔ SpellsMethod image facts row
spells_none image facts row e =
    let is : blob_in (blobs_of image) (member_signature image row) >>= whole_method facts ≡ None = ap (λ (o : Option (List ℕ)). o >>= whole_method facts) e in
    (λ t. absurd cc, λ s. absurd (let n = sym is ∙ s.1 in cc))
