-- The signatures of declared members, and those in rows of references, as they read.
use Rattle.std.proofs.Common.{◌≡◌, ap, sym, subst, ℕ, ◌+◌, ◌^◌, ◌≤◌, List, Some, All, length, inl, inr}
use Rattle.std.specs.Prelude.{IsTrue, slice_get, slice_index}
use Rattle.assembly_tree.specs.Weight.{weight_of, field_weight, method_weight, property_weight}
use Rattle.assembly_tree.specs.WellFormed.{is_well_formed}
use Rattle.assembly_tree.specs.WellFormedMembers.{is_field, is_method, is_property}
use Rattle.assembly_tree.specs.declared.assembly.Assembly.{Assembly}
use Rattle.assembly_tree.specs.declared.members.Field.{Field}
use Rattle.assembly_tree.specs.declared.members.Method.{Method}
use Rattle.assembly_tree.specs.declared.members.Property.{Property}
use Rattle.body_codec.specs.Names.{NameMap}
use Rattle.heaps.specs.Content.{HasBlob}
use Rattle.sig_codec.specs.Signature.{SpellsField, SpellsMethod, SpellsProperty, SpellsLocals, SpellsInstantiation}
use Rattle.sig_codec.specs.Spelling.{Notation, SpellsType, reading}
use Rattle.sig_codec.specs.Tokens.{GivesBack}
use Rattle.type_terms.specs.declared.term.SigType.{SigType}
use Rattle.image_tokens.specs.References.{HasSignature, tokens_of}
use Rattle.image_tokens.specs.declared.references.References.{References}
use Rattle.image_tokens.specs.declared.row_set.Cells.{Cells}
use Rattle.image_members.specs.Lists.{properties_in}
use Rattle.image_members.specs.Places.{all_fields, all_methods}
use Rattle.image_members.specs.Pushing.{Tables}
use Rattle.image_members.specs.declared.classes.Class.{Class}
use Rattle.image_model.specs.Columns.{field_signature, method_signature, member_signature, property_signature, locals_signature, type_spec_signature, instance_arguments}
use Rattle.image_model.specs.Streams.{blobs_of}
use Rattle.image_model.specs.Terms.{FieldHas, MethodHas, PropertyHas, InstanceHas, LocalsHave, TypeSpecHas, HasMember, HasRanks, max_count}
use Rattle.laws_image_parts.specs.RowsRead.{ReadsRows}
use Rattle.laws_image_parts.specs.RunsRead.{RunsRead}
use Rattle.laws_image_parts.specs.names.Written.{IsWritten}
use Rattle.laws_image_parts.proofs.names.General.{all_get}
use Rattle.laws_image_parts.proofs.names.SignatureLemmas.{Rereads}
use Rattle.laws_image_parts.specs.namings.Readable.{IsReadable}
use Rattle.laws_writable_trees.proofs.Members.{IsFine}
use Rattle.laws_writable_trees.proofs.Parts.{fine_fields, fine_methods, fine_properties}
use Rattle.laws_image_reading.specs.members.Bounded.{AreBounded, IsBoundedMember, IsBoundedSpec, AreBoundedLocals, IsBoundedInstance}
use Rattle.laws_image_reading.proofs.members.FormedMembers.{field_taken, method_taken, property_taken}

-- what is written reads, whatever its kind
pub record AllReread : Type 0 where
  pub types : Rereads SpellsType
  pub fields : Rereads SpellsField
  pub methods : Rereads SpellsMethod
  pub properties : Rereads SpellsProperty
  pub locals : Rereads SpellsLocals
  pub arguments : Rereads SpellsInstantiation

module _ (read : AllReread) (a : Assembly) (classes : List Class) (r : References) (tables : Tables) (code image : List ℕ) (w : IsWritten a classes r tables code image)
    (rows : ReadsRows a classes r code image) (names : NameMap) (back : GivesBack (tokens_of r) names.owners) where
  -- a signature stands at the index in a cell
  pub read_at : {X : Type 0} (Spells : Notation → X → List ℕ → Type 0) → Rereads Spells → (x : X) (at index : ℕ) → HasSignature Spells r x at → index ≡ at
      → (bytes : List ℕ) × HasBlob (blobs_of image) index bytes × Spells (reading names.owners) x bytes
  read_at Spells rereads x at index h is = (
    h.bytes,
    subst (λ n. HasBlob (blobs_of image) n h.bytes) (sym is) (w.heaps.blobs at h.bytes h.holds.there),
    rereads h.earlier names.owners (λ o token has. back o token (h.within o token has)) x h.bytes h.spells,
  )

  -- ---- those of declared members

  module _ (runs : RunsRead a classes r code image) (formed : IsTrue (is_well_formed a)) (light : weight_of a ≤ 2 ^ 26) where
    pub fine_field : (k : ℕ) (f : Field) → slice_get (all_fields a classes) k ≡ Some f → IsFine (is_field a) field_weight f
    fine_field k f at = all_get (IsFine (is_field a) field_weight) (all_fields a classes) k f (fine_fields a classes w.filled.classes_are formed light) at

    pub fine_method : (k : ℕ) (m : Method) → slice_get (all_methods a classes) k ≡ Some m → IsFine (is_method a) method_weight m
    fine_method k m at = all_get (IsFine (is_method a) method_weight) (all_methods a classes) k m (fine_methods a classes w.filled.classes_are formed light) at

    pub fine_property : (k : ℕ) (p : Property) → slice_get (properties_in classes) k ≡ Some p → IsFine (is_property a) property_weight p
    fine_property k p at = all_get (IsFine (is_property a) property_weight) (properties_in classes) k p (fine_properties a classes w.filled.classes_are formed light) at

    pub field_has : (k : ℕ) (f : Field) → slice_get (all_fields a classes) k ≡ Some f → FieldHas image names (1 + k) f.of
    field_has k f at =
        let own = rows.fields.fields.each k f at in
        let b = read_at SpellsField read.fields f.of own.signature (field_signature image (1 + k)) own.signature_is (ap (λ (cs : List ℕ). slice_index cs 2) own.are) in
        let t = field_taken a f (fine_field k f at) in
        (b.0, b.1, (b.2, t.0, t.1))

    pub method_has : (k : ℕ) (m : Method) → slice_get (all_methods a classes) k ≡ Some m → MethodHas image names (1 + k) m.sig
    method_has k m at =
        let own = (runs.method_rows k m at).2 in
        let b = read_at SpellsMethod read.methods m.sig own.signature (method_signature image (1 + k)) own.signature_is (ap (λ (cs : List ℕ). slice_index cs 4) own.are) in
        let t = method_taken a m (fine_method k m at) in
        (b.0, b.1, (b.2, t.0, t.1))

    pub property_has : (k : ℕ) (p : Property) → slice_get (properties_in classes) k ≡ Some p → PropertyHas image names (1 + k) p.sig
    property_has k p at =
        let own = rows.properties.properties.each k p at in
        let b = read_at SpellsProperty read.properties p.sig own.signature (property_signature image (1 + k)) own.signature_is (ap (λ (cs : List ℕ). slice_index cs 2) own.are) in
        let t = property_taken a p (fine_property k p at) in
        (b.0, b.1, (b.2, t.0, t.1))

  -- ---- those of rows of references

  module _ (readable : IsReadable r) (bounded : AreBounded r) where
    pub member_has : (k : ℕ) (cells : Cells) → slice_get r.referred.members k ≡ Some cells → HasMember image names (1 + k)
    member_has k cells at = by_kind (bounded.members k cells at)
      where
        blob_is : member_signature image (1 + k) ≡ cells.third
        blob_is = ap (λ (cs : List ℕ). slice_index cs 2) (rows.references.members.each k cells at)

        by_kind : IsBoundedMember r cells → HasMember image names (1 + k)
        by_kind (inl h) =
            let b = read_at SpellsMethod read.methods h.0 cells.third (member_signature image (1 + k)) h.1 blob_is in
            let t = readable.members.member_methods k cells h.0 at h.1 in
            inl (h.0, (b.0, b.1, (b.2, t.0, t.1)), h.2)
        by_kind (inr h) =
            let b = read_at SpellsField read.fields h.0 cells.third (member_signature image (1 + k)) h.1 blob_is in
            let t = readable.members.member_fields k cells h.0 at h.1 in
            inr (h.0, (b.0, b.1, (b.2, t.0, t.1)), h.2)

    pub locals_have : (k : ℕ) (cells : Cells) → slice_get r.referred.locals k ≡ Some cells
        → (types : List SigType) × LocalsHave image names (1 + k) types × (length types ≤ max_count) × All HasRanks types
    locals_have k cells at =
        let h : AreBoundedLocals r cells = bounded.locals k cells at in
        let b = read_at SpellsLocals read.locals h.locals cells.first (locals_signature image (1 + k)) h.signature (ap (λ (cs : List ℕ). slice_index cs 0) (rows.references.locals.each k cells at)) in
        let t = readable.locals k cells h.locals at h.signature in
        (h.locals, (b.0, b.1, (b.2, t.0, t.1)), h.few, h.ranks)

    pub spec_has : (k : ℕ) (cells : Cells) → slice_get r.referred.specs k ≡ Some cells → (term : SigType) × TypeSpecHas image names (1 + k) term × HasRanks term
    spec_has k cells at =
        let h : IsBoundedSpec r cells = bounded.specs k cells at in
        let b = read_at SpellsType read.types h.of cells.first (type_spec_signature image (1 + k)) h.signature (ap (λ (cs : List ℕ). slice_index cs 0) (rows.references.specs.each k cells at)) in
        let t = readable.specs k cells h.of at h.signature in
        (h.of, (b.0, b.1, (b.2, t.0, t.1)), h.ranks)

    pub instance_has : (k : ℕ) (cells : Cells) (at : slice_get r.referred.instances k ≡ Some cells) → InstanceHas image names (1 + k) (bounded.instances k cells at).arguments
    instance_has k cells at =
        let h : IsBoundedInstance r cells = bounded.instances k cells at in
        let b = read_at SpellsInstantiation read.arguments h.arguments cells.second (instance_arguments image (1 + k)) h.signature (ap (λ (cs : List ℕ). slice_index cs 1) (rows.references.instances.each k cells at)) in
        let t = readable.members.arguments k cells h.arguments at h.signature in
        (b.0, b.1, (b.2, t.0, t.1))
