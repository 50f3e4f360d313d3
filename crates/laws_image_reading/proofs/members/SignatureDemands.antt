-- Fields, methods, properties and used rows of references have signatures, and overrides and instances name methods.
use Rattle.std.proofs.Common.{◌≡◌, ap, refl, sym, ◌∙◌, subst, ℕ, ◌+◌, ◌-◌, ◌<◌, ◌/◌, ◌%◌, ◌^◌, ◌≤◌, List, Some, None, All, length, arith}
use Rattle.std.specs.Prelude.{IsTrue, slice_get, slice_index}
use Rattle.std.specs.List.{AllByRecursion}
use Rattle.metadata_tables.specs.CodedIndex.{tag_of}
use Rattle.metadata_tables.specs.Indexes.{IndexesFit}
use Rattle.metadata_tables.specs.declared.coded.Coded.TheVariants.{MethodDefOrRef}
use Rattle.assembly_tree.specs.Weight.{weight_of}
use Rattle.assembly_tree.specs.WellFormed.{is_well_formed}
use Rattle.assembly_tree.specs.declared.assembly.Assembly.{Assembly}
use Rattle.assembly_tree.specs.declared.members.Method.{Method}
use Rattle.body_codec.specs.Back.{NamesBack}
use Rattle.body_codec.specs.Names.{NameMap}
use Rattle.sig_codec.specs.Signature.{SpellsMethod}
use Rattle.type_terms.specs.declared.reference.MethodRef.{MethodRef}
use Rattle.type_terms.specs.declared.reference.MethodSig.{MethodSig}
use Rattle.type_terms.specs.declared.term.SigType.{SigType}
use Rattle.image_tokens.specs.Indexes.{index_of, index_of_token}
use Rattle.image_tokens.specs.References.{HasGenericToken, HasSignature, of_declared, of_referred}
use Rattle.image_tokens.specs.declared.references.References.{References}
use Rattle.image_tokens.specs.declared.row_set.Cells.{Cells}
use Rattle.image_members.specs.CodeBytes.{all_tokens}
use Rattle.image_members.specs.Lists.{properties_in}
use Rattle.image_rows.specs.OverrideRows.{Override, overrides_from, IsOverrideRow}
use Rattle.image_members.specs.Places.{all_fields, all_methods}
use Rattle.image_members.specs.Pushing.{Tables}
use Rattle.image_members.specs.declared.classes.Class.{Class}
use Rattle.image_model.specs.Columns.{member_signature, instance_method, override_body, override_declaration}
use Rattle.image_model.specs.Faults.{Holds, signatures}
use Rattle.image_model.specs.Naming.{IsToken, NamesMethod}
use Rattle.image_model.specs.Namings.{AreNamings}
use Rattle.image_model.specs.Rows.{HasRow, Names, count_of}
use Rattle.image_model.specs.Terms.{FieldHas, MethodHas, PropertyHas, HasMember, MemberHasMethod, LocalsHave, TypeSpecHas, InstanceHas, NamesSignature, HasBounds, HasRanks, max_count}
use Rattle.laws_image_parts.specs.RowsRead.{ReadsRows}
use Rattle.laws_image_parts.specs.RunsRead.{RunsRead}
use Rattle.laws_image_parts.proofs.IndexLemmas.{index_names}
use Rattle.laws_image_parts.proofs.MethodRuns.{methods_count}
use Rattle.laws_image_parts.specs.names.MemberOwners.{MembersOwned}
use Rattle.laws_image_parts.specs.names.Written.{IsWritten}
use Rattle.laws_image_parts.proofs.names.General.{all_get}
use Rattle.laws_image_parts.specs.namings.Readable.{IsReadable}
use Rattle.laws_image_parts.proofs.namings.DeclaredRows.{methods_declared}
use Rattle.laws_writable_trees.proofs.Each.{each_from}
use Rattle.laws_image_reading.specs.members.Bounded.{AreBounded, IsBoundedInstance}
use Rattle.laws_image_reading.proofs.members.FormedMembers.{field_ranks, method_bounds, method_sentinel, property_bounds}
use Rattle.laws_image_reading.proofs.members.Items.{by_item, used_row}
use Rattle.laws_image_reading.proofs.members.OverrideItems.{IsOverriding, overrides_each, plain_overrides}
use Rattle.laws_image_reading.proofs.members.Signatures.{AllReread, read_at, fine_method, fine_field, fine_property, field_has, method_has, property_has, member_has, locals_have, spec_has, instance_has}

-- the index of a row of MethodDef or MemberRef with a token names the row
pub names_method_row : (token row : ℕ) → IsToken token 0x06 row → Names MethodDefOrRef (index_of_token MethodDefOrRef token) 0x06 row
unfolding tag_of
names_method_row token row i =
    let x = i.is in
    let fits = i.fits in
    let table : 0x06 ≡ token / 2 ^ 24 = omega arith in
    let same : row ≡ token % 2 ^ 24 = omega arith in
    subst (λ t. Names MethodDefOrRef (index_of MethodDefOrRef t (token % 2 ^ 24)) 0x06 row) table
    (subst (λ n. Names MethodDefOrRef (index_of MethodDefOrRef 0x06 n) 0x06 row) same (index_names MethodDefOrRef 0x06 row 0 refl))

pub names_member_row : (token row : ℕ) → IsToken token 0x0A row → Names MethodDefOrRef (index_of_token MethodDefOrRef token) 0x0A row
unfolding tag_of
names_member_row token row i =
    let x = i.is in
    let fits = i.fits in
    let table : 0x0A ≡ token / 2 ^ 24 = omega arith in
    let same : row ≡ token % 2 ^ 24 = omega arith in
    subst (λ t. Names MethodDefOrRef (index_of MethodDefOrRef t (token % 2 ^ 24)) 0x0A row) table
    (subst (λ n. Names MethodDefOrRef (index_of MethodDefOrRef 0x0A n) 0x0A row) same (index_names MethodDefOrRef 0x0A row 1 refl))

-- a row of MethodDef has its own signature
own_signature : (image : List ℕ) (names : NameMap) (value row : ℕ) → Names MethodDefOrRef value 0x06 row → NamesSignature image names value
own_signature image names value row h = (0x06, row, h, λ e. absurd (omega arith))

-- the token of a method without arguments names a signature
plain_signature : (image : List ℕ) (names : NameMap) (token : ℕ) (m : MethodRef) → NamesMethod image names.owners token m → m.args ≡ None
    → NamesSignature image names (index_of_token MethodDefOrRef token)
plain_signature image names token m (NamesMethod.defined {method = method} i there in_it text held h) plain =
    own_signature image names (index_of_token MethodDefOrRef token) method (names_method_row token method i)
plain_signature image names token m (NamesMethod.referred {row = row} {bytes = bytes} {sig = sig} i there in_it text held h) plain =
    (0x0A, row, names_member_row token row i, λ e. (sig, (bytes, held, h)))
plain_signature image names token m (NamesMethod.instantiated i there coded generic held h) plain = absurd cc

module _ (read : AllReread) (law : IndexesFit) (a : Assembly) (classes : List Class) (r : References) (tables : Tables) (code image : List ℕ) (w : IsWritten a classes r tables code image)
    (rows : ReadsRows a classes r code image) (runs : RunsRead a classes r code image) (own : MembersOwned image) (formed : IsTrue (is_well_formed a)) (light : weight_of a ≤ 2 ^ 26)
    (readable : IsReadable r) (bounded : AreBounded r) (names : NameMap) (namings : AreNamings image names) (back : NamesBack (all_tokens r) names) where
  methods_are : count_of image 0x06 ≡ length (all_methods a classes)
  methods_are = methods_count law a classes r code image rows.methods

  -- ---- declared members

  field_meets : (row : ℕ) → HasRow image 0x04 row → (of : SigType) × FieldHas image names row of × HasRanks of
  field_meets row there =
      by_item image (λ n. (of : SigType) × FieldHas image names n of × HasRanks of) 0x04 row (all_fields a classes) rows.fields.fields.count there
      (λ k f at. (
        f.of,
        field_has read a classes r tables code image w rows names back.owners runs formed light k f at,
        field_ranks a f (fine_field read a classes r tables code image w rows names back.owners runs formed light k f at),
      ))

  method_meets : (row : ℕ) → HasRow image 0x06 row → (sig : MethodSig) × MethodHas image names row sig × HasBounds sig × (sig.sentinel ≡ None)
  method_meets row there =
      by_item image (λ n. (sig : MethodSig) × MethodHas image names n sig × HasBounds sig × (sig.sentinel ≡ None)) 0x06 row (all_methods a classes) methods_are there
      (λ k m at. let fine = fine_method read a classes r tables code image w rows names back.owners runs formed light k m at in (
        m.sig,
        method_has read a classes r tables code image w rows names back.owners runs formed light k m at,
        method_bounds a m fine,
        method_sentinel a m fine,
      ))

  property_meets : (row : ℕ) → HasRow image 0x17 row → (sig : MethodSig) × PropertyHas image names row sig × HasBounds sig
  property_meets row there =
      by_item image (λ n. (sig : MethodSig) × PropertyHas image names n sig × HasBounds sig) 0x17 row (properties_in classes) rows.properties.properties.count there
      (λ k p at. (
        p.sig,
        property_has read a classes r tables code image w rows names back.owners runs formed light k p at,
        property_bounds a p (fine_property read a classes r tables code image w rows names back.owners runs formed light k p at),
      ))

  -- ---- rows of references

  member_meets : (row : ℕ) → HasRow image 0x0A row → HasMember image names row
  member_meets row there =
      by_item image (HasMember image names) 0x0A row r.referred.members rows.references.members.count there
      (member_has read a classes r tables code image w rows names back.owners readable bounded)

  locals_meet : (row : ℕ) → HasRow image 0x11 row → (types : List SigType) × LocalsHave image names row types × (length types ≤ max_count) × All HasRanks types
  locals_meet row there =
      by_item image (λ n. (types : List SigType) × LocalsHave image names n types × (length types ≤ max_count) × All HasRanks types) 0x11 row r.referred.locals rows.references.locals.count there
      (locals_have read a classes r tables code image w rows names back.owners readable bounded)

  spec_meets : (row : ℕ) → HasRow image 0x1B row → (term : SigType) × TypeSpecHas image names row term × HasRanks term
  spec_meets row there =
      by_item image (λ n. (term : SigType) × TypeSpecHas image names n term × HasRanks term) 0x1B row r.referred.specs rows.references.specs.count there
      (spec_has read a classes r tables code image w rows names back.owners readable bounded)

  -- a row with a method's token names a signature
  generic_signature : (m : MethodRef) (token : ℕ) → HasGenericToken r m token → NamesSignature image names (index_of_token MethodDefOrRef token)
  generic_signature m token (of_declared {row = row} has high h is) =
      own_signature image names (index_of_token MethodDefOrRef token) row (names_method_row token row (record { is = is.is; fits = is.fits }))
  generic_signature m token (of_referred {row = row} has h is) =
      (0x0A, row, names_member_row token row (record { is = is.is; fits = is.fits }), λ e. (m.sig, member_reads row h.at.counted h.cells h.at.at h.signature))
    where
      member_reads : (row : ℕ) → 0 < row → (cells : Cells) → slice_get r.referred.members (row - 1) ≡ Some cells → HasSignature SpellsMethod r m.sig cells.third → MemberHasMethod image names row m.sig
      member_reads row some cells at signature =
          let same : 1 + (row - 1) ≡ row = omega arith in
          let b = read_at read a classes r tables code image w rows names back.owners SpellsMethod read.methods m.sig cells.third (member_signature image (1 + (row - 1))) signature
          (ap (λ (cs : List ℕ). slice_index cs 2) (rows.references.members.each (row - 1) cells at)) in
          let t = readable.members.member_methods (row - 1) cells m.sig at signature in
          subst (λ n. MemberHasMethod image names n m.sig) same (b.0, b.1, (b.2, t.0, t.1))

  instance_meets : (row : ℕ) → HasRow image 0x2B row → (args : List SigType) × InstanceHas image names row args × All HasRanks args
  instance_meets row there =
      by_item image (λ n. (args : List SigType) × InstanceHas image names n args × All HasRanks args) 0x2B row
      r.referred.instances rows.references.instances.count there
      (λ k cells at.
      let h : IsBoundedInstance r cells = bounded.instances k cells at in
      (h.arguments, instance_has read a classes r tables code image w rows names back.owners readable bounded k cells at, h.ranks))

  instance_names : (row : ℕ) → HasRow image 0x2B row → NamesSignature image names (instance_method image row)
  instance_names row there =
      by_item image (λ n. NamesSignature image names (instance_method image n)) 0x2B row r.referred.instances rows.references.instances.count there
      (λ k cells at.
      let h : IsBoundedInstance r cells = bounded.instances k cells at in
      let coded : instance_method image (1 + k) ≡ index_of_token MethodDefOrRef h.generic = ap (λ (cs : List ℕ). slice_index cs 0) (rows.references.instances.each k cells at) ∙ h.first_is in
      subst (NamesSignature image names) (sym coded) (generic_signature h.method h.generic h.generic_is))

  -- ---- overrides

  overriding : (k : ℕ) (cells : Cells) (m : Method) → slice_get r.declared.methods k ≡ Some cells → slice_get (all_methods a classes) k ≡ Some m
      → AllByRecursion (λ (of : MethodRef). IsOverriding image (record { type = cells.first; body = 1 + k; of = of })) m.overrides
  overriding k cells m at is =
      let d = methods_declared law a classes r code image rows runs w.heaps own w.filled.declared k cells at in
      each_from (λ (of : MethodRef). of.args ≡ None) (λ (of : MethodRef). IsOverriding image (record { type = cells.first; body = 1 + k; of = of }))
      (λ of plain. record { there = d.there; within = d.within; plain = plain }) m.overrides
      (plain_overrides a m (fine_method read a classes r tables code image w rows names back.owners runs formed light k m is))

  pub override_is : (k : ℕ) (o : Override) → slice_get (overrides_from 1 r.declared.methods (all_methods a classes)) k ≡ Some o → IsOverriding image o
  override_is k o at =
      all_get (IsOverriding image) (overrides_from 1 r.declared.methods (all_methods a classes)) k o
      (overrides_each (IsOverriding image) 1 r.declared.methods (all_methods a classes) overriding) at

  override_meets : (row : ℕ) → HasRow image 0x19 row → NamesSignature image names (override_body image row) × NamesSignature image names (override_declaration image row)
  unfolding tag_of
  override_meets row there =
      by_item image (λ n. NamesSignature image names (override_body image n) × NamesSignature image names (override_declaration image n)) 0x19 row
      (overrides_from 1 r.declared.methods (all_methods a classes)) rows.methods.overrides.count there
      (λ k o at.
      let is = override_is k o at in
      let cells : IsOverrideRow r _ o = rows.methods.overrides.each k o at in
      let body : override_body image (1 + k) ≡ index_of MethodDefOrRef 0x06 o.body = ap (λ (cs : List ℕ). slice_index cs 1) cells.are in
      let declaration : override_declaration image (1 + k) ≡ index_of_token MethodDefOrRef cells.token = ap (λ (cs : List ℕ). slice_index cs 2) cells.are in
      let named = (namings.methods cells.token o.of).0 (back.methods o.of cells.token cells.token_is) in (
        subst (NamesSignature image names) (sym body) (own_signature image names (index_of MethodDefOrRef 0x06 o.body) o.body (index_names MethodDefOrRef 0x06 o.body 0 refl)),
        subst (NamesSignature image names) (sym declaration) (plain_signature image names cells.token o.of named is.plain),
      ))

  -- ---- all

  pub signatures_held : Holds image names signatures
  signatures_held table row = record {
    field = λ is there. field_meets row there;
    method = λ is there. method_meets row there;
    property = λ is there. property_meets row there;
    member = λ is used. member_meets row (used_row used);
    locals = λ is used. locals_meet row (used_row used);
    override = λ is there. override_meets row there;
    type = λ is used. spec_meets row (used_row used);
    instance = λ is used. instance_meets row (used_row used);
    instance_of = λ is there. instance_names row there;
  }
