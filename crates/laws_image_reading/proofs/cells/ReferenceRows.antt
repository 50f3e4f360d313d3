-- The rows of references, and the cells of all tables.
use Rattle.std.proofs.Common.{◌≡◌, ◌⊎◌, inl, inr, refl, sym, ap, subst, ℕ, zero, suc, ◌+◌, ◌<◌, false, List, [], ◌∷◌, length, arith}
use Rattle.std.specs.Prelude.{Contains}
use Rattle.std.specs.List.{AllByRecursion}
use Rattle.std.proofs.lemmas.Bool.{cases_eq}
use Rattle.assembly_tree.specs.declared.assembly.Assembly.{Assembly}
use Rattle.heaps.specs.Content.{HasBlob}
use Rattle.heaps.specs.Heap.{Heap}
use Rattle.metadata_tables.specs.CodedIndex.{tag_of}
use Rattle.metadata_tables.specs.Encoding.{rows_of}
use Rattle.metadata_tables.specs.Schema.{schema, columns_of}
use Rattle.metadata_tables.specs.declared.coded.Coded.TheVariants.{ResolutionScope}
use Rattle.sig_codec.specs.Signature.{SpellsField, SpellsInstantiation, SpellsLocals, SpellsMethod}
use Rattle.sig_codec.specs.Spelling.{SpellsType}
use Rattle.type_terms.specs.declared.name.TypeId.{TypeId}
use Rattle.image_tokens.specs.NameTokens.{in_extern}
use Rattle.image_tokens.specs.References.{IsNameRow, IsSpecRow, IsLocalsRow, IsMemberSignature, IsReferredMember, IsInstanceRow, AreKnown}
use Rattle.image_tokens.specs.Rows.{EachRow}
use Rattle.image_tokens.specs.TypePaths.{LeadsIn, in_reference}
use Rattle.image_tokens.specs.declared.references.References.{References}
use Rattle.image_tokens.specs.declared.row_set.Cells.{Cells}
use Rattle.image_rows.specs.Filled.{IsFilled, written_tables, three_cells, two_cells, first_cell}
use Rattle.image_members.specs.Pushing.{Tables}
use Rattle.image_members.specs.declared.classes.Class.{Class}
use Rattle.laws_image_reading.proofs.cells.CellLemmas.{IsTextCell, Points, AreCells, HasCells, each_cell, rows_from, any_text, signature_cell}
use Rattle.laws_image_reading.proofs.cells.OwnedRows as owned
use Rattle.laws_image_reading.proofs.cells.OwnedRows.{ArePlain}
use Rattle.laws_image_reading.proofs.cells.PlainRows as plain
use Rattle.laws_image_reading.proofs.cells.PlainRows.{AreNamed}
use Rattle.laws_image_reading.proofs.cells.TokenRows.{parent_points, generic_points}

-- where types in one another lead
leads_end : (strings : Heap) (rows : List Cells) (scope inner : ℕ) (ids : List TypeId) → LeadsIn strings rows scope ids inner
    → (inner ≡ scope) ⊎ ((row : ℕ) × (0 < row) × (inner ≡ in_reference row))
leads_end strings rows scope inner [] h = inl h
leads_end strings rows scope inner (id ∷ ids) h = elim (leads_end strings rows (in_reference h.0) inner ids h.2) [
  | inl e ↦ inr (h.0, h.1.at.counted, e)
  | inr x ↦ inr x
]

extern_points : (number cell : ℕ) → cell ≡ in_extern number → Points ResolutionScope cell
unfolding tag_of
extern_points number cell e = record { table = 0x23; row = number + 1; tag = 2; tagged = refl; is = e; some = omega arith }

type_points : (row cell : ℕ) → 0 < row → cell ≡ in_reference row → Points ResolutionScope cell
unfolding tag_of
type_points row cell some e = record { table = 0x01; row = row; tag = 3; tagged = refl; is = e; some = some }

module _ (Wanted : List ℕ → Type 0) (r : References) (tables : Tables) where
  abbrev In : ℕ → List ℕ → Type 0
  In table cells = AreCells Wanted r tables (columns_of table) cells

  abbrev IsNamed : Cells → Type 0
  IsNamed c = IsTextCell Wanted r.heaps.strings.bytes false c.second

  scope_points : (c : Cells) → IsNameRow r c → Points ResolutionScope c.first
  scope_points c n = elim (leads_end r.heaps.strings r.referred.names (in_extern n.lies.number) c.first n.lies.path.before n.lies.path.leads) [
    | inl e ↦ extern_points n.lies.number c.first e
    | inr x ↦ type_points x.0 c.first x.1 x.2
  ]

  name_row : (c : Cells) → IsNameRow r c → IsNamed c → In 0x01 (three_cells c)
  unfolding schema
  name_row c n w = (inr (scope_points c n), (w, (any_text Wanted r tables n.lies.path.id.space c.third n.lies.path.id_is.space_is, tt)))

  member_blob : (blob : ℕ) → IsMemberSignature r blob → (held : List ℕ) × HasBlob r.heaps.blobs.bytes blob held
  member_blob blob (inl s) = signature_cell Wanted r tables SpellsMethod s.0 blob s.1
  member_blob blob (inr s) = signature_cell Wanted r tables SpellsField s.0 blob s.1

  spec_row : (c : Cells) → IsSpecRow r c → c ≡ c → In 0x1B (first_cell c)
  unfolding schema
  spec_row c s any =
      (subst (λ (x : Cells). (held : List ℕ) × HasBlob r.heaps.blobs.bytes x.first held) (sym s.are) (signature_cell Wanted r tables SpellsType s.of s.blob s.signature), tt)

  locals_row : (c : Cells) → IsLocalsRow r c → c ≡ c → In 0x11 (first_cell c)
  unfolding schema
  locals_row c s any =
      (subst (λ (x : Cells). (held : List ℕ) × HasBlob r.heaps.blobs.bytes x.first held) (sym s.are) (signature_cell Wanted r tables SpellsLocals s.locals s.blob s.signature), tt)

  module _ (known : AreKnown r) where
    member_row : (c : Cells) → IsReferredMember r c → IsNamed c → In 0x0A (three_cells c)
    unfolding schema
    member_row c m w = (inr (parent_points r known m.owner m.token c.first m.owner_is m.parent_is), (w, (member_blob c.third m.signature, tt)))

    instance_row : (c : Cells) → IsInstanceRow r c → c ≡ c → In 0x2B (two_cells c)
    unfolding schema
    instance_row c i any =
        (inr (generic_points r known i.method i.generic c.first i.generic_is i.first_is), (signature_cell Wanted r tables SpellsInstantiation i.arguments c.second i.signature, tt))

-- ---- all tables

after : (y t : ℕ) (xs : List ℕ) → (t ≡ y → ⊥) → (Contains xs t → ⊥) → Contains (y ∷ xs) t → ⊥
after y t xs other lacks (zero, less, e) = other (sym e)
after y t xs other lacks (suc k, less, e) = lacks (k, omega arith, e)

listed : (P : ℕ → Type 0) (xs : List ℕ) (t : ℕ) → AllByRecursion P xs → P t ⊎ (Contains xs t → ⊥)
listed P [] t all = inr (λ c. absurd (omega (arith, c.1)))
listed P (x ∷ xs) t all = elim (cases_eq t x) [
  | inl e ↦ inl (subst P (sym e) all.0)
  | inr other ↦ elim (listed P xs t all.1) [ inl p ↦ inl p | inr lacks ↦ inr (after x t xs other lacks) ]
]

module _ (Wanted : List ℕ → Type 0) (a : Assembly) (classes : List Class) (r : References) (tables : Tables) (code : List ℕ) (h : IsFilled a classes r tables code)
    (n : AreNamed Wanted a classes r) (p : ArePlain a classes) where
  abbrev Has : ℕ → Type 0
  Has table = HasCells Wanted r tables table

  abbrev Each : ℕ → List ℕ → Type 0
  Each table cells = AreCells Wanted r tables (columns_of table) cells

  any_row : (rows : List Cells) → EachRow (λ c. c ≡ c) rows
  any_row rows k c at = refl

  names : Has 0x01
  names = each_cell Wanted r tables 0x01
      (rows_from (Each 0x01) (IsNameRow r) (IsNamed Wanted r tables) three_cells r.referred.names (rows_of tables 0x01) h.references.names (name_row Wanted r tables) h.known.rows.names n.names)

  members : Has 0x0A
  members = each_cell Wanted r tables 0x0A
      (rows_from (Each 0x0A) (IsReferredMember r) (IsNamed Wanted r tables) three_cells r.referred.members (rows_of tables 0x0A) h.references.members (member_row Wanted r tables h.known)
      h.known.rows.members n.members)

  locals : Has 0x11
  locals = each_cell Wanted r tables 0x11
      (rows_from (Each 0x11) (IsLocalsRow r) (λ c. c ≡ c) first_cell r.referred.locals (rows_of tables 0x11) h.references.locals (locals_row Wanted r tables) h.known.rows.locals
      (any_row r.referred.locals))

  specs : Has 0x1B
  specs = each_cell Wanted r tables 0x1B
      (rows_from (Each 0x1B) (IsSpecRow r) (λ c. c ≡ c) first_cell r.referred.specs (rows_of tables 0x1B) h.references.specs (spec_row Wanted r tables) h.known.rows.specs (any_row r.referred.specs))

  instances : Has 0x2B
  instances = each_cell Wanted r tables 0x2B
      (rows_from (Each 0x2B) (IsInstanceRow r) (λ c. c ≡ c) two_cells r.referred.instances (rows_of tables 0x2B) h.references.instances (instance_row Wanted r tables h.known)
      h.known.rows.instances (any_row r.referred.instances))

  unlisted : (t : ℕ) → (Contains written_tables t → ⊥) → Has t
  unlisted t lacks row column in_row in_column = let none = ap length (h.others t lacks) in absurd (omega arith)

  -- in the order of their numbers
  last : AllByRecursion Has (0x19 ∷ 0x1B ∷ 0x1D ∷ 0x20 ∷ 0x23 ∷ 0x29 ∷ 0x2A ∷ 0x2B ∷ 0x2C ∷ [])
  last = (
    owned.override_rows Wanted a classes r tables code h n p,
    (
      specs,
      (
        owned.contents Wanted a classes r tables code h n p,
        (
          plain.assemblies Wanted a classes r tables code h n,
          (
            plain.externs Wanted a classes r tables code h n,
            (
              owned.nested Wanted a classes r tables code h n p,
              (owned.generics Wanted a classes r tables code h n p, (instances, (owned.bounds Wanted a classes r tables code h n p, tt))),
            ),
          ),
        ),
      ),
    ),
  )

  late : AllByRecursion Has (0x0F ∷ 0x10 ∷ 0x11 ∷ 0x12 ∷ 0x14 ∷ 0x15 ∷ 0x17 ∷ 0x18 ∷ 0x19 ∷ 0x1B ∷ 0x1D ∷ 0x20 ∷ 0x23 ∷ 0x29 ∷ 0x2A ∷ 0x2B ∷ 0x2C ∷ [])
  late = (
    owned.layouts Wanted a classes r tables code h n p,
    (
      owned.offsets Wanted a classes r tables code h n p,
      (
        locals,
        (
          owned.event_map Wanted a classes r tables code h n p,
          (
            plain.events Wanted a classes r tables code h n,
            (
              owned.property_map Wanted a classes r tables code h n p,
              (plain.properties Wanted a classes r tables code h n, (owned.accessors Wanted a classes r tables code h n p, last)),
            ),
          ),
        ),
      ),
    ),
  )

  each_listed : AllByRecursion Has written_tables
  each_listed = (
    plain.modules Wanted a classes r tables code h n,
    (
      names,
      (
        plain.types Wanted a classes r tables code h n,
        (
          plain.fields Wanted a classes r tables code h n,
          (
            plain.methods Wanted a classes r tables code h n,
            (
              plain.params Wanted a classes r tables code h n,
              (owned.interfaces Wanted a classes r tables code h n p, (members, (owned.constants Wanted a classes r tables code h n p, (owned.attributes Wanted a classes r tables code h n p, late)))),
            ),
          ),
        ),
      ),
    ),
  )

  -- every cell of every row is as asked
  pub all_cells : (table : ℕ) → Has table
  all_cells table = elim (listed Has written_tables table each_listed) [ inl has ↦ has | inr lacks ↦ unlisted table lacks ]
