-- What the demands before that on signatures say of each row: the texts and blobs that its cells name are there, a type has a
-- path, a member one type.
use Rattle.std.proofs.Common.{◌≡◌, ℕ, ◌+◌, ◌<◌, ◌≤◌, nat_eq, List, [], ◌∷◌, Contains, find, Option, Some, None, refl, sym, ◌∙◌, ap, subst, arith}
use Rattle.std.specs.Option.{option_map_or}
use Rattle.std.proofs.lemmas.Bool.Decides.{nat_tests}
use Rattle.heaps.specs.Content.{HasText, HasBlob}
use Rattle.metadata_tables.specs.Schema.{schema}
use Rattle.metadata_tables.specs.declared.coded.Coded.TheVariants.{MemberRefParent, MethodDefOrRef}
use Rattle.type_terms.specs.declared.name.Scope.{Scope}
use Rattle.type_terms.specs.declared.name.TypeId.{TypeId}
use Rattle.body_codec.specs.Names.{NameMap}
use Rattle.image_model.specs.Streams.{strings_of, blobs_of}
use Rattle.image_model.specs.Columns.{event_map_parent, property_map_parent, nested_class, enclosing_class, method_name, method_signature, field_name, field_signature, member_parent, member_name, member_signature, locals_signature, type_spec_signature, instance_method, instance_arguments}
use Rattle.image_model.specs.Rows.{count_of, HasRow, rows_of, enclosing, first_field, first_method, first_param, first_event, first_property, fields_of, methods_of, params_of, events_in, properties_in, events_of, properties_of}
use Rattle.image_model.specs.Cells.{NamesRow}
use Rattle.image_model.specs.Naming.{HasId, HasPath, HasRefPath}
use Rattle.image_model.specs.Faults.{indexes, entries, runs, scopes, signatures, HoldBefore}
use Rattle.image_namings.proofs.Indexes.{named_row}
use Rattle.image_namings.proofs.Among.{Among, among_range, found, from_among}
use Rattle.row_demands.proofs.Tiles.{AllRise}
use Rattle.image_namings.proofs.Runs.{one_run, inside}

-- the row of a map in whose run a member of a type stands (II.22.12, II.22.35)
pub record InMap (image : List ℕ) (maps : ℕ) (parent : List ℕ → ℕ → ℕ) (members : List ℕ → ℕ → List ℕ) (type row : ℕ) : Type 0 where
  pub map : ℕ
  pub there : HasRow image maps map
  pub of : parent image map ≡ type
  pub has : Contains (members image map) row

-- ---- what stands in an image that meets these demands

pub record Stands (image : List ℕ) : Type 0 where
  pub path : (type : ℕ) → HasRow image 0x02 type → (path : List TypeId) × HasPath image type path
  pub reference : (row : ℕ) → HasRow image 0x01 row → (scope : Scope) × (path : List TypeId) × HasRefPath image row scope path
  pub spec : (row : ℕ) → HasRow image 0x1B row → (bytes : List ℕ) × HasBlob (blobs_of image) (type_spec_signature image row) bytes
  pub locals : (row : ℕ) → HasRow image 0x11 row → (bytes : List ℕ) × HasBlob (blobs_of image) (locals_signature image row) bytes
  pub field_is : (row : ℕ) → HasRow image 0x04 row → (text : List ℕ) × HasText (strings_of image) (field_name image row) text
  pub field_sig : (row : ℕ) → HasRow image 0x04 row → (bytes : List ℕ) × HasBlob (blobs_of image) (field_signature image row) bytes
  pub field_in : (row : ℕ) → HasRow image 0x04 row → (type : ℕ) × HasRow image 0x02 type × Contains (fields_of image type) row
  pub field_there : (row type : ℕ) → HasRow image 0x02 type → Contains (fields_of image type) row → HasRow image 0x04 row
  pub field_one : (row a b : ℕ) → HasRow image 0x02 a → HasRow image 0x02 b → Contains (fields_of image a) row → Contains (fields_of image b) row → a ≡ b
  pub method_is : (row : ℕ) → HasRow image 0x06 row → (text : List ℕ) × HasText (strings_of image) (method_name image row) text
  pub method_sig : (row : ℕ) → HasRow image 0x06 row → (bytes : List ℕ) × HasBlob (blobs_of image) (method_signature image row) bytes
  pub method_in : (row : ℕ) → HasRow image 0x06 row → (type : ℕ) × HasRow image 0x02 type × Contains (methods_of image type) row
  pub method_there : (row type : ℕ) → HasRow image 0x02 type → Contains (methods_of image type) row → HasRow image 0x06 row
  pub param_there : (row method : ℕ) → HasRow image 0x06 method → Contains (params_of image method) row → HasRow image 0x08 row
  pub property_in : (row type : ℕ) → Among row (properties_of image type) → InMap image 0x15 property_map_parent properties_in type row
  pub property_there : (row type : ℕ) → Among row (properties_of image type) → HasRow image 0x17 row
  pub property_one : (row a b : ℕ) → Among row (properties_of image a) → Among row (properties_of image b) → a ≡ b
  pub event_in : (row type : ℕ) → Among row (events_of image type) → InMap image 0x12 event_map_parent events_in type row
  pub event_there : (row type : ℕ) → Among row (events_of image type) → HasRow image 0x14 row
  pub event_one : (row a b : ℕ) → Among row (events_of image a) → Among row (events_of image b) → a ≡ b
  pub method_one : (row a b : ℕ) → HasRow image 0x02 a → HasRow image 0x02 b → Contains (methods_of image a) row → Contains (methods_of image b) row → a ≡ b
  pub member_is : (row : ℕ) → HasRow image 0x0A row → (text : List ℕ) × HasText (strings_of image) (member_name image row) text
  pub member_sig : (row : ℕ) → HasRow image 0x0A row → (bytes : List ℕ) × HasBlob (blobs_of image) (member_signature image row) bytes
  pub member_in : (row : ℕ) → HasRow image 0x0A row → NamesRow image MemberRefParent (member_parent image row)
  pub instance : (row : ℕ) → HasRow image 0x2B row → NamesRow image MethodDefOrRef (instance_method image row)
  pub instance_sig : (row : ℕ) → HasRow image 0x2B row → (bytes : List ℕ) × HasBlob (blobs_of image) (instance_arguments image row) bytes

module _ (image : List ℕ) (any : NameMap) (holds : HoldBefore image any signatures) where
  id_at : (type : ℕ) → HasRow image 0x02 type → (id : TypeId) × HasId image type id
  unfolding schema
  id_at type there =
      let n = (holds entries (omega arith)) 0x02 type there 1 (omega arith) in
      let s = (holds entries (omega arith)) 0x02 type there 2 (omega arith) in
      (record { space = s.0; name = n.0 }, record { space = s.1; name = n.1 })

  path_at : (type : ℕ) → HasRow image 0x02 type → (o : Option ℕ) → find (λ row. nat_eq (nested_class image row) type) (rows_of image 0x29) ≡ o
      → enclosing image type ≡ option_map_or (enclosing_class image) o 0 → (path : List TypeId) × HasPath image type path
  unfolding rows_of
  path_at type there None f e = let i = id_at type there in (i.0 ∷ [], HasPath.top e i.1)
  path_at type there (Some r) f e =
      let w = found (λ row. nat_eq (nested_class image row) type) _ r f in
      let at = among_range r 1 (count_of image 0x29) w.0 in
      let nests : HasRow image 0x29 r = (omega (arith, at.0), omega (arith, at.1)) in
      let n = (holds scopes (omega arith) 0x29 r).nesting refl nests in
      let is : nested_class image r ≡ type = grind (arith, nat_tests, w.1) in
      (n.path, subst (λ t. HasPath image t n.path) is n.leads)

  path_there : (type : ℕ) → HasRow image 0x02 type → (path : List TypeId) × HasPath image type path
  unfolding enclosing
  path_there type there = path_at type there _ refl refl

  fields_rise : AllRise (first_field image) (count_of image 0x02)
  fields_rise k some upto late = (holds runs (omega arith) 0x02 k).fields refl (some, upto) late

  methods_rise : AllRise (first_method image) (count_of image 0x02)
  methods_rise k some upto late = (holds runs (omega arith) 0x02 k).methods refl (some, upto) late

  -- a run of fields begins at a field, or behind the last
  begins : (type : ℕ) → 0 < type → type ≤ count_of image 0x02 → (0 < first_field image type) × (first_field image type ≤ count_of image 0x04 + 1)
  unfolding schema
  begins type some upto = (holds indexes (omega arith)).0 0x02 type (some, upto) 4 (omega arith)

  field_there : (row type : ℕ) → HasRow image 0x02 type → Contains (fields_of image type) row → HasRow image 0x04 row
  unfolding fields_of
  field_there row type there has = inside (first_field image) (count_of image 0x02) (count_of image 0x04) row type begins there.0 there.1 has

  field_one : (row a b : ℕ) → HasRow image 0x02 a → HasRow image 0x02 b → Contains (fields_of image a) row → Contains (fields_of image b) row → a ≡ b
  unfolding fields_of
  field_one row a b there and one other =
      one_run (first_field image) (count_of image 0x02) (count_of image 0x04) row a b fields_rise there.0 there.1 and.0 and.1 one other

  method_one : (row a b : ℕ) → HasRow image 0x02 a → HasRow image 0x02 b → Contains (methods_of image a) row → Contains (methods_of image b) row → a ≡ b
  unfolding methods_of
  method_one row a b there and one other =
      one_run (first_method image) (count_of image 0x02) (count_of image 0x06) row a b methods_rise there.0 there.1 and.0 and.1 one other

  method_there : (row type : ℕ) → HasRow image 0x02 type → Contains (methods_of image type) row → HasRow image 0x06 row
  unfolding methods_of schema
  method_there row type there has = inside (first_method image) (count_of image 0x02) (count_of image 0x06) row type (λ j some upto. (holds indexes (omega arith)).0 0x02 j (some, upto) 5 (omega arith)) there.0 there.1 has

  param_there : (row method : ℕ) → HasRow image 0x06 method → Contains (params_of image method) row → HasRow image 0x08 row
  unfolding params_of schema
  param_there row method there has = inside (first_param image) (count_of image 0x06) (count_of image 0x08) row method (λ j some upto. (holds indexes (omega arith)).0 0x06 j (some, upto) 5 (omega arith)) there.0 there.1 has

  property_in_map : (row map : ℕ) → HasRow image 0x15 map → Contains (properties_in image map) row → HasRow image 0x17 row
  unfolding schema
  property_in_map row map there has = inside (first_property image) (count_of image 0x15) (count_of image 0x17) row map (λ j some upto. (holds indexes (omega arith)).0 0x15 j (some, upto) 1 (omega arith)) there.0 there.1 has

  event_in_map : (row map : ℕ) → HasRow image 0x12 map → Contains (events_in image map) row → HasRow image 0x14 row
  unfolding schema
  event_in_map row map there has = inside (first_event image) (count_of image 0x12) (count_of image 0x14) row map (λ j some upto. (holds indexes (omega arith)).0 0x12 j (some, upto) 1 (omega arith)) there.0 there.1 has

  in_map : (maps : ℕ) (parent : List ℕ → ℕ → ℕ) (members : List ℕ → ℕ → List ℕ) (type row : ℕ) (o : Option ℕ) → find (λ map. nat_eq (parent image map) type) (rows_of image maps) ≡ o
      → Among row (option_map_or (members image) o []) → InMap image maps parent members type row
  unfolding rows_of
  in_map maps parent members type row None e m = absurd m
  in_map maps parent members type row (Some map) e m =
      let f = found (λ map. nat_eq (parent image map) type) _ map e in
      let at = among_range map 1 (count_of image maps) f.0 in
      record { map = map; there = (omega (arith, at.0), omega (arith, at.1)); of = grind (arith, nat_tests, f.1); has = from_among row (members image map) m }

  property_in : (row type : ℕ) → Among row (properties_of image type) → InMap image 0x15 property_map_parent properties_in type row
  unfolding properties_of
  property_in row type m = in_map 0x15 property_map_parent properties_in type row _ refl m

  event_in : (row type : ℕ) → Among row (events_of image type) → InMap image 0x12 event_map_parent events_in type row
  unfolding events_of
  event_in row type m = in_map 0x12 event_map_parent events_in type row _ refl m

  properties_rise : AllRise (first_property image) (count_of image 0x15)
  properties_rise k some upto late = (holds runs (omega arith) 0x15 k).properties refl (some, upto) late

  events_rise : AllRise (first_event image) (count_of image 0x12)
  events_rise k some upto late = (holds runs (omega arith) 0x12 k).events refl (some, upto) late

  property_one : (row a b : ℕ) → Among row (properties_of image a) → Among row (properties_of image b) → a ≡ b
  property_one row a b m n =
      let i = property_in row a m in
      let j = property_in row b n in
      let e = one_run (first_property image) (count_of image 0x15) (count_of image 0x17) row i.map j.map properties_rise i.there.0 i.there.1 j.there.0 j.there.1 i.has j.has in
      sym i.of ∙ ap (property_map_parent image) e ∙ j.of

  event_one : (row a b : ℕ) → Among row (events_of image a) → Among row (events_of image b) → a ≡ b
  event_one row a b m n =
      let i = event_in row a m in
      let j = event_in row b n in
      let e = one_run (first_event image) (count_of image 0x12) (count_of image 0x14) row i.map j.map events_rise i.there.0 i.there.1 j.there.0 j.there.1 i.has j.has in
      sym i.of ∙ ap (event_map_parent image) e ∙ j.of

  pub stands : Stands image
  unfolding schema
  stands = record {
    path = path_there;
    reference = λ row there. let s = (holds scopes (omega arith) 0x01 row).reference refl there in (s.scope, s.path, s.leads);
    spec = λ row there. (holds entries (omega arith)) 0x1B row there 0 (omega arith);
    locals = λ row there. (holds entries (omega arith)) 0x11 row there 0 (omega arith);
    field_is = λ row there. let t = (holds entries (omega arith)) 0x04 row there 1 (omega arith) in (t.0, t.1);
    field_sig = λ row there. (holds entries (omega arith)) 0x04 row there 2 (omega arith);
    field_in = λ row there. (holds runs (omega arith) 0x04 row).in_type refl there;
    field_there = field_there;
    field_one = field_one;
    method_is = λ row there. let t = (holds entries (omega arith)) 0x06 row there 3 (omega arith) in (t.0, t.1);
    method_sig = λ row there. (holds entries (omega arith)) 0x06 row there 4 (omega arith);
    method_in = λ row there. (holds runs (omega arith) 0x06 row).method_in_type refl there;
    method_there = method_there;
    param_there = param_there;
    property_in = property_in;
    property_there = λ row type m. let i = property_in row type m in property_in_map row i.map i.there i.has;
    property_one = property_one;
    event_in = event_in;
    event_there = λ row type m. let i = event_in row type m in event_in_map row i.map i.there i.has;
    event_one = event_one;
    method_one = method_one;
    member_is = λ row there. let t = (holds entries (omega arith)) 0x0A row there 1 (omega arith) in (t.0, t.1);
    member_sig = λ row there. (holds entries (omega arith)) 0x0A row there 2 (omega arith);
    member_in = λ row there. named_row image MemberRefParent _ ((holds indexes (omega arith)).0 0x0A row there 0 (omega arith));
    instance = λ row there. named_row image MethodDefOrRef _ ((holds indexes (omega arith)).0 0x2B row there 0 (omega arith));
    instance_sig = λ row there. (holds entries (omega arith)) 0x2B row there 1 (omega arith);
  }
