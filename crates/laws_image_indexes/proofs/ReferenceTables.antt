-- The tables of references, and all tables.
use Rattle.std.proofs.Common.{◌≡◌, ◌⊎◌, inl, inr, refl, sym, ◌∙◌, ap, subst, ℕ, zero, suc, ◌+◌, ◌-◌, ◌^◌, ◌<◌, ◌≤◌, List, [], ◌∷◌, ◌++◌, map, length, Some, arith}
use Rattle.std.specs.Prelude.{Contains, slice_get}
use Rattle.std.specs.List.{AllByRecursion}
use Rattle.std.proofs.lemmas.Bool.{cases_eq}
use Rattle.assembly_tree.specs.declared.assembly.Assembly.{Assembly}
use Rattle.heaps.specs.Heap.{Heap}
use Rattle.metadata_tables.specs.Encoding.{rows_of, rows_in}
use Rattle.metadata_tables.specs.Schema.{schema, columns_of}
use Rattle.metadata_tables.specs.declared.coded.Coded.TheVariants.{MemberRefParent, MethodDefOrRef, ResolutionScope}
use Rattle.sig_codec.specs.Signature.{SpellsField, SpellsInstantiation, SpellsLocals, SpellsMethod}
use Rattle.sig_codec.specs.Spelling.{SpellsType}
use Rattle.type_terms.specs.declared.name.TypeId.{TypeId}
use Rattle.laws_image_indexes.specs.Laws.{LeadsFrom, AccessorsAreMethods}
use Rattle.laws_image_indexes.proofs.EachLemmas.{each_mapped}
use Rattle.laws_image_indexes.proofs.EntryLemmas.{text_in, signature_in}
use Rattle.laws_image_indexes.proofs.OwnedTables.{owned_tables}
use Rattle.laws_image_indexes.proofs.PlainTables.{counted, plain}
use Rattle.laws_image_indexes.proofs.TableLemmas.{zip_long, leads}
use Rattle.laws_image_indexes.proofs.TokenLemmas.{Leads, Counted, row_index, row_within, token_index, owner_there, generic_there}
use Rattle.image_layout.specs.Indexes.{IsHeapIndex, HasIndexesIn, AreIndexesIn}
use Rattle.image_tokens.specs.NameTokens.{IsScopeAmong, in_extern}
use Rattle.image_tokens.specs.References.{IsNameRow, IsSpecRow, IsLocalsRow, IsMemberSignature, IsReferredMember, IsInstanceRow, AreKnown}
use Rattle.image_tokens.specs.Rows.{EachRow}
use Rattle.image_tokens.specs.TypePaths.{LeadsIn, in_reference}
use Rattle.image_tokens.specs.declared.references.References.{References}
use Rattle.image_tokens.specs.declared.row_set.Cells.{Cells}
use Rattle.image_rows.specs.Filled.{IsFilled, written_tables, three_cells, two_cells, first_cell}
use Rattle.image_members.specs.ManifestRows.{IsExternRow}
use Rattle.image_members.specs.Pushing.{Tables}
use Rattle.image_members.specs.declared.classes.Class.{Class}

each_row : (P : Cells → Type 0) (rows : List Cells) → EachRow P rows → AllByRecursion P rows
each_row P [] h = tt
each_row P (x ∷ rows) h = (h 0 x refl, each_row P rows (λ k c at. h (suc k) c at))

-- the rows of a table, each as it was made
rows_from : (Q : List ℕ → Type 0) (P : Cells → Type 0) (cells : Cells → List ℕ) (made : List Cells) (rows : List (List ℕ)) → rows ≡ map cells made
    → ((c : Cells) → P c → Q (cells c)) → EachRow P made → AllByRecursion Q rows
rows_from Q P cells made rows e f h = subst (AllByRecursion Q) (sym e) (each_mapped Q cells made (go made (each_row P made h))) where
  go : (cs : List Cells) → AllByRecursion P cs → AllByRecursion (λ c. Q (cells c)) cs
  go [] all = tt
  go (c ∷ cs) all = (f c all.0, go cs all.1)

-- where types in one another lead
leads_end : (strings : Heap) (rows : List Cells) (scope inner : ℕ) (ids : List TypeId) → LeadsIn strings rows scope ids inner
    → (inner ≡ scope) ⊎ ((row : ℕ) × (row ≤ length rows) × (inner ≡ in_reference row))
leads_end strings rows scope inner [] h = inl h
leads_end strings rows scope inner (id ∷ ids) h = elim (leads_end strings rows (in_reference h.0) inner ids h.2) [
  | inl e ↦ inr (h.0, row_within rows h.1.cells h.0 h.1.at, e)
  | inr x ↦ inr x
]

module _ (r : References) (tables : Tables) where
  abbrev In : ℕ → List ℕ → Type 0
  In table cells = AreIndexesIn r tables (columns_of table) cells

  module _ (externs : r.declared.externs ≡ rows_in tables 0x23) (names : length r.referred.names ≡ rows_in tables 0x01) where
    scope_in : (c : Cells) → IsNameRow r c → Leads ResolutionScope tables c.first
    scope_in c n =
        let there : n.lies.number < r.declared.externs = subst (IsScopeAmong r.declared.externs) n.lies.scope n.can.scope in
        elim (leads_end r.heaps.strings r.referred.names (in_extern n.lies.number) c.first n.lies.path.before n.lies.path.leads) [
          | inl e ↦ subst (Leads ResolutionScope tables) (sym e) (row_index ResolutionScope tables 0x23 (n.lies.number + 1) (omega arith))
          | inr x ↦ let within = x.1 in subst (Leads ResolutionScope tables) (sym x.2) (row_index ResolutionScope tables 0x01 x.0 (omega arith))
        ]

    name_in : (c : Cells) → IsNameRow r c → In 0x01 (three_cells c)
    unfolding schema
    name_in c n = (scope_in c n, (text_in r _ c.second n.lies.path.id_is.name_is, (text_in r _ c.third n.lies.path.id_is.space_is, tt)))

  member_blob : (blob : ℕ) → IsMemberSignature r blob → IsHeapIndex r.heaps.blobs.bytes blob
  member_blob blob (inl s) = signature_in r SpellsMethod s.0 blob s.1
  member_blob blob (inr s) = signature_in r SpellsField s.0 blob s.1

  spec_in : (c : Cells) → IsSpecRow r c → In 0x1B (first_cell c)
  unfolding schema
  spec_in c s = (subst (λ (x : Cells). IsHeapIndex r.heaps.blobs.bytes x.first) (sym s.are) (signature_in r SpellsType s.of s.blob s.signature), tt)

  locals_in : (c : Cells) → IsLocalsRow r c → In 0x11 (first_cell c)
  unfolding schema
  locals_in c s = (subst (λ (x : Cells). IsHeapIndex r.heaps.blobs.bytes x.first) (sym s.are) (signature_in r SpellsLocals s.locals s.blob s.signature), tt)

  module _ (known : AreKnown r) (count : Counted r tables) where
    member_in : (c : Cells) → IsReferredMember r c → In 0x0A (three_cells c)
    unfolding schema
    member_in c m = (
      subst (Leads MemberRefParent tables) (sym m.parent_is) (token_index MemberRefParent tables m.token (owner_there r tables known count m.owner m.token m.owner_is)),
      (text_in r m.name c.second m.name_is, (member_blob c.third m.signature, tt)),
    )

    instance_in : (c : Cells) → IsInstanceRow r c → In 0x2B (two_cells c)
    unfolding schema
    instance_in c i = (
      subst (Leads MethodDefOrRef tables) (sym i.first_is) (token_index MethodDefOrRef tables i.generic (generic_there r tables known count i.method i.generic i.generic_is)),
      (signature_in r SpellsInstantiation i.arguments c.second i.signature, tt),
    )

-- ---- all tables

after : (y t : ℕ) (xs : List ℕ) → (t ≡ y → ⊥) → (Contains xs t → ⊥) → Contains (y ∷ xs) t → ⊥
after y t xs other lacks (zero, less, e) = other (sym e)
after y t xs other lacks (suc k, less, e) = lacks (k, omega arith, e)

listed : (P : ℕ → Type 0) (xs : List ℕ) (t : ℕ) → AllByRecursion P xs → P t ⊎ (Contains xs t → ⊥)
listed P [] t all = inr (λ c. absurd (omega (arith, c.1)))
listed P (x ∷ xs) t all = elim (cases_eq t x) [
  | inl e ↦ inl (subst P (sym e) all.0)
  | inr other ↦ elim (listed P xs t all.1) [ inl p ↦ inl p | inr lacks ↦ inr (after x t xs other lacks) ]
]

module _ (a : Assembly) (classes : List Class) (r : References) (tables : Tables) (code : List ℕ) (accessors : AccessorsAreMethods a classes)
    (externs : r.declared.externs ≡ length a.externs) (h : IsFilled a classes r tables code) where
  count : Counted r tables
  count = counted a classes r tables code h

  externs_are : r.declared.externs ≡ rows_in tables 0x23
  externs_are = externs ∙ sym (zip_long (IsExternRow r) (rows_of tables 0x23) a.externs h.manifest.externs)

  names : LeadsFrom r tables 0x01
  names = leads r tables 0x01 (rows_from (AreIndexesIn r tables (columns_of 0x01)) (IsNameRow r) three_cells r.referred.names (rows_of tables 0x01) h.references.names
      (name_in r tables externs_are count.names) h.known.rows.names)

  members : LeadsFrom r tables 0x0A
  members = leads r tables 0x0A (rows_from (AreIndexesIn r tables (columns_of 0x0A)) (IsReferredMember r) three_cells r.referred.members (rows_of tables 0x0A) h.references.members
      (member_in r tables h.known count) h.known.rows.members)

  locals : LeadsFrom r tables 0x11
  locals = leads r tables 0x11 (rows_from (AreIndexesIn r tables (columns_of 0x11)) (IsLocalsRow r) first_cell r.referred.locals (rows_of tables 0x11) h.references.locals
      (locals_in r tables) h.known.rows.locals)

  specs : LeadsFrom r tables 0x1B
  specs = leads r tables 0x1B (rows_from (AreIndexesIn r tables (columns_of 0x1B)) (IsSpecRow r) first_cell r.referred.specs (rows_of tables 0x1B) h.references.specs
      (spec_in r tables) h.known.rows.specs)

  instances : LeadsFrom r tables 0x2B
  instances = leads r tables 0x2B (rows_from (AreIndexesIn r tables (columns_of 0x2B)) (IsInstanceRow r) two_cells r.referred.instances (rows_of tables 0x2B) h.references.instances
      (instance_in r tables h.known count) h.known.rows.instances)

  unlisted : (t : ℕ) → (Contains written_tables t → ⊥) → LeadsFrom r tables t
  unlisted t lacks row column in_row in_column = let none = ap length (h.others t lacks) in absurd (omega arith)

  each_listed : AllByRecursion (LeadsFrom r tables) written_tables
  each_listed =
      let p = plain a classes r tables code h in
      let o = owned_tables a classes r tables code accessors h in (
        p.module_row,
        (
          names,
          (
            p.types,
            (
              p.fields,
              (
                p.methods,
                (
                  p.params,
                  (
                    o.interfaces,
                    (
                      members,
                      (
                        o.constants,
                        (
                          o.attributes,
                          (
                            o.layouts,
                            (
                              o.offsets,
                              (
                                locals,
                                (
                                  o.event_map,
                                  (p.events, (o.property_map, (p.properties, (o.accessors, (o.overrides, (specs, (o.contents, (p.assembly, (p.externs, (o.nested, (o.generics, (instances, (o.bounds, tt))))))))))))),
                                ),
                              ),
                            ),
                          ),
                        ),
                      ),
                    ),
                  ),
                ),
              ),
            ),
          ),
        ),
      )

  each_table : (t : ℕ) → LeadsFrom r tables t
  each_table t = elim (listed (LeadsFrom r tables) written_tables t each_listed) [ inl p ↦ p | inr lacks ↦ unlisted t lacks ]

  pub all_tables : HasIndexesIn r tables
  all_tables = record { few = h.few; each = λ table row column in_row in_column. each_table table row column in_row in_column }
