-- Fields, methods, properties and events are there, where no demand fails.
use Rattle.std.proofs.Common.{◌≡◌, ◌≢◌, ℕ, ◌-◌, ◌^◌, ◌≤◌, ◌⊎◌, inl, inr, ◌↔◌, true, nat_eq, List, [], Contains, length, take, Option, Some, None, refl, subst, arith}
use Rattle.std.proofs.lemmas.Bool.Decides.{nat_tests}
use Rattle.std.specs.List.{AllZip}
use Rattle.pe_layout.specs.CliHeader.{entry_token_of}
use Rattle.pe_layout.specs.FileMap.{readable}
use Rattle.metadata_tables.specs.Schema.{schema}
use Rattle.metadata_tables.specs.declared.coded.Coded.TheVariants.{TypeDefOrRef}
use Rattle.sig_codec.specs.Signature as signature
use Rattle.type_terms.specs.declared.term.SigType.{SigType}
use Rattle.assembly_tree.specs.declared.body.Body.{Body}
use Rattle.assembly_tree.specs.declared.members.Accessor.{Accessor}
use Rattle.assembly_tree.specs.declared.members.Event.{Event}
use Rattle.assembly_tree.specs.declared.members.Field.{Field}
use Rattle.assembly_tree.specs.declared.members.Method.{Method}
use Rattle.assembly_tree.specs.declared.members.Property.{Property}
use Rattle.body_codec.specs.Bodies.{Spells}
use Rattle.body_codec.specs.Faults.{IsKnown, IsOutline, HaveNames, HaveCatches}
use Rattle.body_codec.specs.Header.{locals_token, SpellsLocals}
use Rattle.body_codec.specs.Instruction.{Piece}
use Rattle.body_codec.specs.Names.{NameMap, reading}
use Rattle.body_codec.specs.Sections.{clause_rows}
use Rattle.image_model.specs.Streams.{blobs_of}
use Rattle.image_model.specs.Columns.{field_flags, offset_of_row, data_rva, method_rva, method_flags, method_impl_flags, override_body, override_declaration, event_flags, event_type, property_flags, semantics_kind, semantics_method}
use Rattle.image_model.specs.Rows.{count_of, HasRow, token_of, first_method, methods_of, params_of, events_of, properties_of}
use Rattle.image_model.specs.Cells.{NamesRow}
use Rattle.image_model.specs.Naming.{NamesLocals}
use Rattle.image_model.specs.Namings.{AreNamings}
use Rattle.image_model.specs.Bodies.{HasBody, HasLocals, BodyNames, body_of}
use Rattle.image_model.specs.Used.{IsUsed}
use Rattle.image_model.specs.Terms.{FieldHas}
use Rattle.image_model.specs.Members.{semantics_of, offsets_of, data_of, HasDataSize, HasData, HasAccessors}
use Rattle.image_model.specs.Faults.{RowRule, indexes, entries, signatures, values, header, clauses, tokens, accessors, Holds, HasTables}
use Rattle.image_model.specs.Reading.{IsGiven, without, MethodIs, IsContent, IsField, IsParam, overrides_of, BodyIs, IsMethod, IsAccessor, IsProperty, IsEvent}
use Rattle.image_namings.proofs.Among.{Among, from_among}
use Rattle.image_namings.proofs.BodyTokens.{tokens_of, locals_among}
use Rattle.image_namings.proofs.Decided.{OneBlob, same}
use Rattle.row_demands.proofs.Tiles.{ends, range_contains}
use Rattle.formed_references.proofs.Words.{all_among, to_among, of_rows_with}
use Rattle.image_assemblies.proofs.Parts.{zipped, given, stood, owner_is, declared_method, attributes_are, generics_are, constant_is, param_is}

-- where all tokens of an outline have names there is a body
abbrev pub OutlinesAreBodies : Type 0
OutlinesAreBodies =
    (names : NameMap) (bytes : List ℕ) (pieces : List Piece) → IsKnown names bytes → IsOutline bytes pieces → HaveNames names pieces (length pieces)
    → HaveCatches names (clause_rows bytes) (length (clause_rows bytes)) → (body : Body) × (size : ℕ) × Spells (reading names) bytes body size

-- bytes spell one field
abbrev pub OneField : Type 0
OneField = (names : NameMap) (bytes : List ℕ) (s t : SigType) → signature.IsField names.owners bytes s → signature.IsField names.owners bytes t → s ≡ t

module _ (image : List ℕ) (names : NameMap) (short : length image ≤ 2 ^ 26) (tables : HasTables image) (named : AreNamings image names) (rows : (rule : RowRule) → Holds image names rule)
    (blob : OneBlob (blobs_of image)) (one_field : OneField) (body_law : OutlinesAreBodies) where
  -- ---- fields

  content_is : (row : ℕ) (of : SigType) → FieldHas image names row of → ((r : ℕ) → Among r (data_of image row) → HasData image names row r) → (o : Option (List ℕ)) × IsGiven (IsContent image of) (data_of image row) o
  content_is row of has stored = given (IsContent image of) (data_of image row) (λ r m.
      let d = stored r m in
      let same_type = one_field names has.0 d.0 of (subst (λ x. signature.IsField names.owners x d.0) (blob _ d.2.0 has.0 d.2.1 has.1) d.2.2) has.2 in
      (take d.1 (readable image (data_rva image r)), record { size = d.1; has_size = subst (λ t. HasDataSize image t d.1) same_type d.3; bytes_are = refl }))

  pub field_is : (row : ℕ) → HasRow image 0x04 row → (f : Field) × IsField image names row f
  unfolding schema
  field_is row there =
      let t = (rows entries) 0x04 row there 1 (omega arith) in
      let s = (rows signatures 0x04 row).field refl there in
      let v = (rows values 0x04 row).field refl there in
      let c = constant_is image names short tables named rows 0x04 row v.constants in
      let o = given (λ k offset. offset ≡ offset_of_row image k) (offsets_of image row) (λ r m. (offset_of_row image r, refl)) in
      let d = content_is row s.0 s.1 (λ r m. all_among (HasData image names row) r (data_of image row) v.data_there m) in
      let x = attributes_are image names short tables named rows 0x04 row in (
        record { name = t.0; flags = without (field_flags image row) 0x8100; of = s.0; constant = c.0; offset = o.0; content = d.0; attributes = x.0 },
        record { name = t.1; flags = refl; of = s.1; constant = c.1; offset = o.1; content = d.1; attributes = x.1 },
      )

  -- ---- bodies

  body_is : (row : ℕ) → HasRow image 0x06 row → HasBody image row → (body : Body) × (size : ℕ) × Spells (reading names) (body_of image row) body size
  body_is row there has =
      let known = (rows header 0x06 row).header refl there has in
      let t = rows tokens 0x06 row refl there has in
      let locals = locals_are known.locals in
      body_law names (body_of image row) t.pieces (record { header = known.header; types = locals.0; locals = locals.1 }) t.outline t.operands t.catches
    where
      locals_are : HasLocals image (body_of image row) → (types : List SigType) × SpellsLocals (reading names) (locals_token (body_of image row)) types
      locals_are (inl e) = ([], inl (e, refl))
      locals_are (inr l) =
          let known = (rows header 0x06 row).header refl there has in
          let o = rows clauses 0x06 row refl there has in
          let some : locals_token (body_of image row) ≢ 0 = λ z. (let i = l.1.is in omega arith) in
          let names_it : BodyNames image row (locals_token (body_of image row)) = record {
            there = has;
            code_type = (rows header 0x06 row).code_type refl there;
            locals = known.locals;
            tokens = tokens_of (body_of image row) o.0;
            named = record { header = known.header; pieces = o.0; outline = o.1; all = refl };
            among = locals_among (body_of image row) o.0 some;
          } in
          let used = IsUsed.by_body there names_it l.1 (inr (inr (inl refl))) l.2 in
          let s = (rows signatures 0x11 l.0).locals refl used in
          (s.0, inr (some, (named.locals (locals_token (body_of image row)) s.0).1 (NamesLocals.signed l.1 l.2 s.1.1 s.1.2)))

  body_given : (row : ℕ) → HasRow image 0x06 row → (o : Option Body) × BodyIs image names (method_rva image row) o
  body_given row there = elim (same (method_rva image row) 0) [
    | inl e ↦ (None, e)
    | inr n ↦ let b = body_is row there n in (Some b.0, (n, (b.1, b.2)))
  ]

  -- ---- methods

  pub method_is : (row : ℕ) → HasRow image 0x06 row → (m : Method) × IsMethod image names row m
  unfolding schema
  method_is row there =
      let t = (rows entries) 0x06 row there 3 (omega arith) in
      let s = (rows signatures 0x06 row).method refl there in
      let g = generics_are image names short tables named rows 0x06 row in
      let p = zipped (IsParam image names) (params_of image row) (λ r m. param_is image names short tables named rows r ((stood image names short tables named rows).param_there r row there (from_among r (params_of image row) m))) in
      let o = zipped (λ k. MethodIs names (override_declaration image k)) (overrides_of image row) (λ r m. declared_method image names short tables named rows r (of_rows_with image 0x19 override_body _ r m).0) in
      let b = body_given row there in
      let x = attributes_are image names short tables named rows 0x06 row in (
        record { name = t.0; flags = method_flags image row; impl_flags = method_impl_flags image row; sig = s.0; generics = g.0; params = p.0; overrides = o.0; entry = nat_eq (entry_token_of image) (token_of 0x06 row); body = b.0; attributes = x.0 },
        record { name = t.1; flags = refl; impl_flags = refl; sig = s.1; generics = g.1; params = p.1; overrides = o.1; entry = is_entry (entry_token_of image) (token_of 0x06 row); body = b.1; attributes = x.1 },
      )
    where
      is_entry : (m n : ℕ) → (nat_eq m n ≡ true) ↔ (m ≡ n)
      is_entry m n = (λ e. grind (arith, nat_tests), λ e. grind (arith, nat_tests))

  -- ---- properties and events

  -- an accessor has a place among the methods of its type
  accessor_is : (type row : ℕ) → Contains (methods_of image type) (semantics_method image row) → (x : Accessor) × IsAccessor image type row x
  unfolding methods_of
  accessor_is type row has =
      let r = range_contains (first_method image type) (ends (first_method image) (count_of image 0x02) (count_of image 0x06) type) (semantics_method image row) has in
      (record { kind = semantics_kind image row; method = semantics_method image row - first_method image type }, record { kind = refl; method = (let low = r.0 in omega arith) })

  accessors_are : (members : ℕ → List ℕ) (table type member : ℕ) → Among member (members type) → ((s t : ℕ) → Among member (members s) → Among member (members t) → s ≡ t) → HasAccessors image members table member
      → (xs : List Accessor) × AllZip (IsAccessor image type) (semantics_of image table member) xs
  accessors_are members table type member among one has = zipped (IsAccessor image type) (semantics_of image table member) (λ r m.
      let t = all_among (λ k. (u : ℕ) × HasRow image 0x02 u × Contains (members u) member × Contains (methods_of image u) (semantics_method image k)) r (semantics_of image table member) has m in
      accessor_is type r (subst (λ (u : ℕ). Contains (methods_of image u) (semantics_method image r)) (one t.0 type (to_among member (members t.0) t.2) among) t.3))

  pub property_is : (type row : ℕ) → Among row (properties_of image type) → (p : Property) × IsProperty image names type row p
  unfolding schema
  property_is type row among =
      let s = stood image names short tables named rows in
      let there = s.property_there row type among in
      let t = (rows entries) 0x17 row there 1 (omega arith) in
      let sig = (rows signatures 0x17 row).property refl there in
      let c = constant_is image names short tables named rows 0x17 row ((rows values 0x17 row).property refl there) in
      let a = accessors_are (properties_of image) 0x17 type row among (λ p q. s.property_one row p q) ((rows accessors 0x17 row).property refl there) in
      let x = attributes_are image names short tables named rows 0x17 row in (
        record { name = t.0; flags = without (property_flags image row) 0x1000; sig = sig.0; constant = c.0; accessors = a.0; attributes = x.0 },
        record { name = t.1; flags = refl; sig = sig.1; constant = c.1; accessors = a.1; attributes = x.1 },
      )

  pub event_is : (type row : ℕ) → Among row (events_of image type) → (e : Event) × IsEvent image names type row e
  unfolding schema
  event_is type row among =
      let s = stood image names short tables named rows in
      let there = s.event_there row type among in
      let t = (rows entries) 0x14 row there 1 (omega arith) in
      let some = (rows values 0x14 row).event_of refl there in
      let o = owner_is image names short tables named rows 0x14 row 2 true refl there (omega arith) refl (not_nil ((rows indexes).0 0x14 row there 2 (omega arith)) some) in
      let a = accessors_are (events_of image) 0x14 type row among (λ p q. s.event_one row p q) ((rows accessors 0x14 row).event refl there) in
      let x = attributes_are image names short tables named rows 0x14 row in (
        record { name = t.0; flags = event_flags image row; of = o.0; accessors = a.0; attributes = x.0 },
        record { name = t.1; flags = refl; of = o.1; accessors = a.1; attributes = x.1 },
      )
    where
      not_nil : ((true ≡ true) × (event_type image row ≡ 0)) ⊎ NamesRow image TypeDefOrRef (event_type image row) → event_type image row ≢ 0 → NamesRow image TypeDefOrRef (event_type image row)
      not_nil (inl z) n = absurd (n z.1)
      not_nil (inr r) n = r
