-- Signatures as they were written, with each number in its shortest form.
use Rattle.std.proofs.Common.{◌≡◌, ap, sym, ◌∙◌, subst, ℕ, ◌+◌, ◌-◌, List, length, Option, Some, inl, inr, arith}
use Rattle.std.specs.Prelude.{◌⊎◌, slice_get, slice_index}
use Rattle.assembly_tree.specs.declared.assembly.Assembly.{Assembly}
use Rattle.body_codec.specs.Names.{NameMap}
use Rattle.heaps.specs.Content.{HasBlob}
use Rattle.sig_codec.specs.Signature.{SpellsField, SpellsMethod, SpellsProperty, SpellsLocals, SpellsInstantiation}
use Rattle.sig_codec.specs.Spelling.{Notation, SpellsType, shortest, writing}
use Rattle.sig_codec.specs.Tokens.{GivesBack}
use Rattle.type_terms.specs.declared.term.Owner.{Owner}
use Rattle.image_tokens.specs.References.{HasSignature, IsInstanceRow, IsLocalsRow, IsMemberSignature, IsReferredMember, IsSpecRow, tokens_of}
use Rattle.image_tokens.specs.declared.references.References.{References}
use Rattle.image_tokens.specs.declared.row_set.Cells.{Cells}
use Rattle.image_members.specs.Places.{all_fields, all_methods}
use Rattle.image_members.specs.Lists.{properties_in}
use Rattle.image_members.specs.Pushing.{Tables}
use Rattle.image_members.specs.declared.classes.Class.{Class}
use Rattle.image_model.specs.Columns.{field_signature, method_signature, member_signature, property_signature, locals_signature, type_spec_signature, instance_arguments}
use Rattle.image_model.specs.Rows.{HasRow, count_of}
use Rattle.image_model.specs.Streams.{blobs_of}
use Rattle.image_model.specs.Tidy.{HasShortSignatures, ShortAs}
use Rattle.image_model.specs.Used.{IsUsed}
use Rattle.laws_image_parts.specs.RowsRead.{ReadsRows}
use Rattle.laws_image_parts.specs.RunsRead.{RunsRead}
use Rattle.laws_image_parts.specs.names.Written.{IsWritten}
use Rattle.laws_image_parts.proofs.names.General.{get_some}

-- what is written spells the same with numbers in their shortest forms
abbrev pub Shortens : {X : Type 0} → (Notation → X → List ℕ → Type 0) → Type 0
Shortens {X} Spells =
    (tokens : Owner → Option ℕ) (owners : ℕ → Option Owner) → GivesBack tokens owners → (x : X) (bytes : List ℕ) → Spells (writing tokens) x bytes → Spells (shortest owners) x bytes

pub record AllShorten : Type 0 where
  pub types : Shortens SpellsType
  pub fields : Shortens SpellsField
  pub methods : Shortens SpellsMethod
  pub properties : Shortens SpellsProperty
  pub locals : Shortens SpellsLocals
  pub arguments : Shortens SpellsInstantiation

-- a row that is used is there
used_row : {image : List ℕ} {table row : ℕ} → IsUsed image table row → HasRow image table row
used_row (IsUsed.by_row other there names is row) = row
used_row (IsUsed.by_reference used names is row) = row
used_row (IsUsed.by_body there names is kind row) = row

module _ (short : AllShorten) (a : Assembly) (classes : List Class) (r : References) (tables : Tables) (code image : List ℕ) (w : IsWritten a classes r tables code image)
    (rows : ReadsRows a classes r code image) (runs : RunsRead a classes r code image) (methods_are : count_of image 0x06 ≡ length (all_methods a classes))
    (names : NameMap) (back : GivesBack (tokens_of r) names.owners) where
  short_at : {X : Type 0} (Spells : Notation → X → List ℕ → Type 0) → Shortens Spells → (x : X) (at index : ℕ) → HasSignature Spells r x at → index ≡ at
      → ShortAs image (Spells (shortest names.owners)) index
  short_at Spells shortens x at index h is = (
    x,
    h.bytes,
    subst (λ n. HasBlob (blobs_of image) n h.bytes) (sym is) (w.heaps.blobs at h.bytes h.holds.there),
    shortens h.earlier names.owners (λ o token has. back o token (h.within o token has)) x h.bytes h.spells,
  )

  -- an item by its row
  by_row : {X : Type 0} (P : ℕ → Type 0) (table row : ℕ) (xs : List X) → count_of image table ≡ length xs → HasRow image table row
      → ((k : ℕ) (x : X) → slice_get xs k ≡ Some x → P (1 + k)) → P row
  by_row P table row xs count there each =
      let some = there.0 in
      let high = there.1 in
      let found = get_some xs (row - 1) (omega arith) in
      let same : 1 + (row - 1) ≡ row = omega arith in
      subst P same (each (row - 1) found.0 found.1)

  field_short : (row : ℕ) → HasRow image 0x04 row → ShortAs image (SpellsField (shortest names.owners)) (field_signature image row)
  field_short row there =
      by_row (λ n. ShortAs image (SpellsField (shortest names.owners)) (field_signature image n)) 0x04 row (all_fields a classes) rows.fields.fields.count there
      (λ k f at. let own = rows.fields.fields.each k f at in short_at SpellsField short.fields f.of own.signature _ own.signature_is (ap (λ (cs : List ℕ). slice_index cs 2) own.are))

  method_short : (row : ℕ) → HasRow image 0x06 row → ShortAs image (SpellsMethod (shortest names.owners)) (method_signature image row)
  method_short row there =
      by_row (λ n. ShortAs image (SpellsMethod (shortest names.owners)) (method_signature image n)) 0x06 row (all_methods a classes) methods_are there
      (λ k m at. let own = (runs.method_rows k m at).2 in short_at SpellsMethod short.methods m.sig own.signature _ own.signature_is (ap (λ (cs : List ℕ). slice_index cs 4) own.are))

  property_short : (row : ℕ) → HasRow image 0x17 row → ShortAs image (SpellsProperty (shortest names.owners)) (property_signature image row)
  property_short row there =
      by_row (λ n. ShortAs image (SpellsProperty (shortest names.owners)) (property_signature image n)) 0x17 row (properties_in classes) rows.properties.properties.count there
      (λ k p at. let own = rows.properties.properties.each k p at in short_at SpellsProperty short.properties p.sig own.signature _ own.signature_is (ap (λ (cs : List ℕ). slice_index cs 2) own.are))

  abbrev MemberShort : ℕ → Type 0
  MemberShort index = ShortAs image (SpellsMethod (shortest names.owners)) index ⊎ ShortAs image (SpellsField (shortest names.owners)) index

  member_at : (index at : ℕ) → index ≡ at → IsMemberSignature r at → MemberShort index
  member_at index at is (inl h) = inl (short_at SpellsMethod short.methods h.0 at index h.1 is)
  member_at index at is (inr h) = inr (short_at SpellsField short.fields h.0 at index h.1 is)

  member_short : (row : ℕ) → HasRow image 0x0A row → MemberShort (member_signature image row)
  member_short row there =
      by_row (λ n. MemberShort (member_signature image n)) 0x0A row r.referred.members rows.references.members.count there
      (λ k c at. let m : IsReferredMember r c = w.filled.known.rows.members k c at in
      member_at (member_signature image (1 + k)) c.third (ap (λ (cs : List ℕ). slice_index cs 2) (rows.references.members.each k c at)) m.signature)

  locals_short : (row : ℕ) → HasRow image 0x11 row → ShortAs image (SpellsLocals (shortest names.owners)) (locals_signature image row)
  locals_short row there =
      by_row (λ n. ShortAs image (SpellsLocals (shortest names.owners)) (locals_signature image n)) 0x11 row r.referred.locals rows.references.locals.count there
      (λ k c at. let l : IsLocalsRow r c = w.filled.known.rows.locals k c at in
      short_at SpellsLocals short.locals l.locals l.blob _ l.signature (ap (λ (cs : List ℕ). slice_index cs 0) (rows.references.locals.each k c at) ∙ ap (λ (d : Cells). d.first) l.are))

  spec_short : (row : ℕ) → HasRow image 0x1B row → ShortAs image (SpellsType (shortest names.owners)) (type_spec_signature image row)
  spec_short row there =
      by_row (λ n. ShortAs image (SpellsType (shortest names.owners)) (type_spec_signature image n)) 0x1B row r.referred.specs rows.references.specs.count there
      (λ k c at. let t : IsSpecRow r c = w.filled.known.rows.specs k c at in
      short_at SpellsType short.types t.of t.blob _ t.signature (ap (λ (cs : List ℕ). slice_index cs 0) (rows.references.specs.each k c at) ∙ ap (λ (d : Cells). d.first) t.are))

  instance_short : (row : ℕ) → HasRow image 0x2B row → ShortAs image (SpellsInstantiation (shortest names.owners)) (instance_arguments image row)
  instance_short row there =
      by_row (λ n. ShortAs image (SpellsInstantiation (shortest names.owners)) (instance_arguments image n)) 0x2B row r.referred.instances rows.references.instances.count there
      (λ k c at. let i : IsInstanceRow r c = w.filled.known.rows.instances k c at in
      short_at SpellsInstantiation short.arguments i.arguments c.second _ i.signature (ap (λ (cs : List ℕ). slice_index cs 1) (rows.references.instances.each k c at)))

  pub signatures_short : HasShortSignatures image names
  signatures_short = record {
    fields = field_short;
    methods = method_short;
    properties = property_short;
    members = λ row used. member_short row (used_row used);
    locals = λ row used. locals_short row (used_row used);
    types = λ row used. spec_short row (used_row used);
    instances = λ row used. instance_short row (used_row used);
  }
