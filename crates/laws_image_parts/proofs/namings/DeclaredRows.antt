-- The rows of members that types declare, as they were declared and as they stand in the image.
use Rattle.std.proofs.Common.{◌≡◌, ap, refl, sym, ◌∙◌, subst, ℕ, ◌+◌, List, [], ◌∷◌, ◌++◌, map, length, Some, Contains, arith}
use Rattle.std.specs.Prelude.{slice_get, slice_index}
use Rattle.std.specs.List.{AllZip}
use Rattle.std.proofs.lemmas.List.{length-append, length-map}
use Rattle.metadata_tables.specs.Indexes.{IndexesFit}
use Rattle.assembly_tree.specs.declared.assembly.Assembly.{Assembly}
use Rattle.assembly_tree.specs.declared.members.Field.{Field}
use Rattle.assembly_tree.specs.declared.members.Method.{Method}
use Rattle.heaps.specs.Content.{HasText}
use Rattle.sig_codec.specs.Signature.{SpellsField, SpellsMethod}
use Rattle.sig_codec.specs.Spelling.{Notation}
use Rattle.image_tokens.specs.References.{HasSignature}
use Rattle.image_tokens.specs.Texts.{HoldsText}
use Rattle.image_tokens.specs.declared.references.References.{References}
use Rattle.image_tokens.specs.declared.row_set.Cells.{Cells}
use Rattle.image_members.specs.DeclaredMembers.{owned, class_fields, class_methods, IsOwnRow}
use Rattle.image_rows.specs.Filled.{HasDeclared}
use Rattle.image_members.specs.Places.{all_fields, all_methods}
use Rattle.image_members.specs.declared.classes.Class.{Class}
use Rattle.image_layout.specs.Laws.{ReadsHeaps}
use Rattle.image_model.specs.Columns.{field_name, field_signature, method_name, method_signature}
use Rattle.image_model.specs.Rows.{HasRow, count_of, run, first_field, first_method, fields_of, methods_of}
use Rattle.image_model.specs.Streams.{strings_of}
use Rattle.laws_image_parts.specs.RowsRead.{ReadsRows}
use Rattle.laws_image_parts.specs.RunsRead.{RunsRead}
use Rattle.laws_image_parts.proofs.CellLemmas.{get_low, zip_long}
use Rattle.laws_image_parts.proofs.GroupLemmas.{joined}
use Rattle.laws_image_parts.proofs.MethodRuns.{methods_count}
use Rattle.laws_image_parts.proofs.RunLemmas.{AreStarts}
use Rattle.laws_image_parts.proofs.TypeRuns.{joined_map, length_map}
use Rattle.laws_image_parts.specs.names.MemberOwners.{HaveOneOwner, MembersOwned}
use Rattle.laws_image_parts.proofs.names.General.{zip_beside}
use Rattle.laws_image_parts.proofs.namings.MemberTokens.{IsDeclared}
use Rattle.laws_image_parts.proofs.namings.OwnRuns.{owned_of, run_holds, run_there, fields_start, methods_start}

owned_long : {X : Type 0} (row : ℕ) (lists : List (List X)) → length (owned row lists) ≡ length (joined lists)
owned_long row [] = refl
owned_long {X} row (xs ∷ more) =
    let own = length-append {A = ℕ × X} (map (λ (x : X). (row, x)) xs) (owned (row + 1) more) in
    let same : length {A = ℕ × X} (map (λ (x : X). (row, x)) xs) ≡ length xs = length-map xs (λ (x : X). (row, x)) in
    let rest = owned_long (row + 1) more in
    let all = length-append xs (joined more) in
    omega arith

-- a row of the image has the name and the signature of a member
pub record RowHas {X Y : Type 0} (Spells : Notation → Y → List ℕ → Type 0) (name : X → List ℕ) (sig : X → Y) (r : References) (name_at sig_at : ℕ → ℕ) (k : ℕ) (x : X) : Type 0 where
  pub index : ℕ
  pub index_is : name_at (1 + k) ≡ index
  pub name_is : HoldsText r.heaps.strings (name x) index
  pub sig_is : HasSignature Spells r (sig x) (sig_at (1 + k))

module _ {X Y : Type 0} (Spells : Notation → Y → List ℕ → Type 0) (name : X → List ℕ) (sig : X → Y) (r : References) (image : List ℕ) (heaps : ReadsHeaps r image)
    (table : ℕ) (start name_at sig_at : ℕ → ℕ) (lists : List (List X)) (starts : AreStarts image 0x02 start table 1 1 lists) (types : count_of image 0x02 ≡ length lists)
    (members : count_of image table ≡ length (owned 1 lists)) (own : HaveOneOwner image table (λ t. run image 0x02 start table t)) (declared : List Cells)
    (zip : AllZip (IsOwnRow Spells name sig r) declared (owned 1 lists))
    (row : (k : ℕ) (x : X) → slice_get (joined lists) k ≡ Some x → RowHas Spells name sig r name_at sig_at k x) where
  pub declared_is : (k : ℕ) (cells : Cells) → slice_get declared k ≡ Some cells → IsDeclared Spells r image table name_at sig_at (λ t. run image 0x02 start table t) k cells
  declared_is k cells at =
      let beside = zip_beside (IsOwnRow Spells name sig r) declared (owned 1 lists) k cells zip at in
      let type = beside.0.0 in
      let x = beside.0.1 in
      let is = beside.2 in
      let holds = run_holds image start table lists starts types members own k type x beside.1 in
      let has = row k x (owned_of 1 lists k beside.0 beside.1) in
      let low = get_low (owned 1 lists) k beside.0 beside.1 in
      record {
        there = (omega arith, omega arith);
        type_there = subst (HasRow image 0x02) (sym is.type_is) holds.0;
        within = subst (λ t. Contains (run image 0x02 start table t) (1 + k)) (sym is.type_is) holds.1;
        name = name x;
        name_declared = is.name_is;
        name_is = subst (λ n. HasText (strings_of image) n (name x)) (sym has.index_is) (heaps.texts has.index (name x) has.name_is.there);
        sig = sig x;
        sig_declared = is.signature;
        sig_written = has.sig_is;
      }

module _ (law : IndexesFit) (a : Assembly) (classes : List Class) (r : References) (code image : List ℕ) (rows : ReadsRows a classes r code image) (runs : RunsRead a classes r code image)
    (heaps : ReadsHeaps r image) (owned_by : MembersOwned image) (d : HasDeclared a classes r) where
  types_are : {X : Type 0} (own : List X) (f : Class → List X) → count_of image 0x02 ≡ length (own ∷ map f classes)
  types_are own f = let long = length_map f classes in let count = rows.types.types.count in omega arith

  methods_are : count_of image 0x06 ≡ length (all_methods a classes)
  methods_are = methods_count law a classes r code image rows.methods

  -- ---- fields

  abbrev field_lists : List (List Field)
  field_lists = a.fields ∷ map class_fields classes

  all_of_fields : joined field_lists ≡ all_fields a classes
  all_of_fields = ap (λ (fs : List Field). a.fields ++ fs) (joined_map class_fields classes)

  fields_long : count_of image 0x04 ≡ length (owned 1 field_lists)
  fields_long = rows.fields.fields.count ∙ sym (owned_long 1 field_lists ∙ ap (length {A = Field}) all_of_fields)

  fields_begin : AreStarts image 0x02 (first_field image) 0x04 1 1 field_lists
  fields_begin = fields_start law a classes r image rows.types.types rows.fields.fields.count methods_are

  field_has : (k : ℕ) (f : Field) → slice_get (joined field_lists) k ≡ Some f
      → RowHas SpellsField (λ (x : Field). x.name) (λ (x : Field). x.of) r (field_name image) (field_signature image) k f
  field_has k f at =
      let row = rows.fields.fields.each k f (ap (λ (fs : List Field). slice_get fs k) (sym all_of_fields) ∙ at) in
      record {
        index = row.name;
        index_is = ap (λ (cs : List ℕ). slice_index cs 1) row.are;
        name_is = row.name_is;
        sig_is = subst (λ n. HasSignature SpellsField r f.of n) (sym (ap (λ (cs : List ℕ). slice_index cs 2) row.are)) row.signature_is;
      }

  pub fields_declared : (k : ℕ) (cells : Cells) → slice_get r.declared.fields k ≡ Some cells
      → IsDeclared SpellsField r image 0x04 (field_name image) (field_signature image) (fields_of image) k cells
  unfolding fields_of
  fields_declared =
      declared_is SpellsField (λ (x : Field). x.name) (λ (x : Field). x.of) r image heaps 0x04 (first_field image) (field_name image) (field_signature image) field_lists fields_begin
      (types_are a.fields class_fields) fields_long owned_by.fields r.declared.fields d.fields field_has

  pub fields_count : count_of image 0x04 ≡ length r.declared.fields
  fields_count = fields_long ∙ sym (zip_long _ r.declared.fields (owned 1 field_lists) d.fields)

  pub field_there : (type row : ℕ) → HasRow image 0x02 type → Contains (fields_of image type) row → HasRow image 0x04 row
  unfolding fields_of
  field_there = run_there image (first_field image) 0x04 field_lists fields_begin (types_are a.fields class_fields) fields_long

  -- ---- methods

  abbrev method_lists : List (List Method)
  method_lists = a.methods ∷ map class_methods classes

  all_of_methods : joined method_lists ≡ all_methods a classes
  all_of_methods = ap (λ (ms : List Method). a.methods ++ ms) (joined_map class_methods classes)

  methods_long : count_of image 0x06 ≡ length (owned 1 method_lists)
  methods_long = methods_are ∙ sym (owned_long 1 method_lists ∙ ap (length {A = Method}) all_of_methods)

  methods_begin : AreStarts image 0x02 (first_method image) 0x06 1 1 method_lists
  methods_begin = methods_start law a classes r image rows.types.types rows.fields.fields.count methods_are

  method_has : (k : ℕ) (m : Method) → slice_get (joined method_lists) k ≡ Some m
      → RowHas SpellsMethod (λ (x : Method). x.name) (λ (x : Method). x.sig) r (method_name image) (method_signature image) k m
  method_has k m at =
      let row = (runs.method_rows k m (ap (λ (ms : List Method). slice_get ms k) (sym all_of_methods) ∙ at)).2 in
      record {
        index = row.name;
        index_is = ap (λ (cs : List ℕ). slice_index cs 3) row.are;
        name_is = row.name_is;
        sig_is = subst (λ n. HasSignature SpellsMethod r m.sig n) (sym (ap (λ (cs : List ℕ). slice_index cs 4) row.are)) row.signature_is;
      }

  pub methods_declared : (k : ℕ) (cells : Cells) → slice_get r.declared.methods k ≡ Some cells
      → IsDeclared SpellsMethod r image 0x06 (method_name image) (method_signature image) (methods_of image) k cells
  unfolding methods_of
  methods_declared =
      declared_is SpellsMethod (λ (x : Method). x.name) (λ (x : Method). x.sig) r image heaps 0x06 (first_method image) (method_name image) (method_signature image) method_lists methods_begin
      (types_are a.methods class_methods) methods_long owned_by.methods r.declared.methods d.methods method_has

  pub declared_count : count_of image 0x06 ≡ length r.declared.methods
  declared_count = methods_long ∙ sym (zip_long _ r.declared.methods (owned 1 method_lists) d.methods)
