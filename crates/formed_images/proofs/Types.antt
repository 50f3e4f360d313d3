-- Types are well formed: what each says of itself, its members, and that no two are the same (II.22.37).
use Rattle.std.proofs.Common.{◌≡◌, ◌≢◌, ℕ, suc, ◌-◌, ◌*◌, ◌^◌, ◌<◌, ◌≤◌, ◌==◌, ◌⊎◌, inl, inr, ◌↔◌, Bool, true, false, cond, not, ◌&&◌, ◌||◌, nat_eq, List, [], ◌∷◌, codes, Contains, find, length, bit_and, Option, Some, None, refl, sym, ◌∙◌, ap, subst, arith}
use Rattle.std.proofs.lemmas.Bool.{and_from, and_parts}
use Rattle.std.proofs.lemmas.List.FromFn.{length-range_with_len}
use Rattle.std.proofs.lemmas.Nat.Bits.{and_pow}
use Rattle.std.specs.Int.{bit_at}
use Rattle.std.specs.List.{AllZip, list_all, range_with_len}
use Rattle.std.specs.Option.{option_map_or}
use Rattle.std.specs.Ordering.{is_lt}
use lib.Pointwise.{pointwise, bytes_decides}
use Rattle.heaps.specs.Content.{HasText}
use Rattle.metadata_tables.specs.Schema.{schema}
use Rattle.type_terms.specs.Same.{is_same_type, is_same_signature}
use Rattle.type_terms.proofs.SameLaws.{equal_types, signature_same}
use Rattle.type_terms.specs.declared.name.TypeId.{TypeId}
use Rattle.type_terms.specs.declared.term.Owner.{Owner}
use Rattle.type_terms.specs.declared.term.SigType.{SigType}
use Rattle.assembly_tree.specs.DataSize.{size_in_data}
use Rattle.assembly_tree.specs.WellFormedBodies.{is_body}
use Rattle.assembly_tree.specs.WellFormedNames.{option_all, rises, all_differ, is_module, is_system_object}
use Rattle.assembly_tree.specs.WellFormedTerms.{is_owner}
use Rattle.assembly_tree.specs.WellFormedMembers.{is_field, is_method, is_property, is_event, is_accessor_of, is_same_text, is_same_field, is_same_method, is_same_property, is_same_event}
use Rattle.assembly_tree.specs.WellFormedTypes.{is_pack, is_layout, is_interface, is_base, is_owner_before, is_not_module, is_head, has_accessors_of_property, has_accessors_of_event, is_own}
use Rattle.assembly_tree.specs.declared.assembly.Assembly.{Assembly}
use Rattle.assembly_tree.specs.declared.body.Body.{Body}
use Rattle.assembly_tree.specs.declared.members.Accessor.{Accessor}
use Rattle.assembly_tree.specs.declared.members.Event.{Event}
use Rattle.assembly_tree.specs.declared.members.Field.{Field}
use Rattle.assembly_tree.specs.declared.members.Method.{Method}
use Rattle.assembly_tree.specs.declared.members.Property.{Property}
use Rattle.assembly_tree.specs.declared.typedef.Layout.{Layout}
use Rattle.assembly_tree.specs.declared.typedef.TypeDef.{TypeDef}
use Rattle.assembly_tree.specs.declared.typedef.TypeDef.TheOpen.{TypeDef-F}
use Rattle.assembly_tree.proofs.FormedFacts.{heads_named, types_named}
use Rattle.image_model.specs.Streams.{strings_of}
use Rattle.image_model.specs.Columns.{type_flags, type_extends, method_rva, field_name, method_name, event_name, property_name, interface_class, layout_pack, event_map_parent, property_map_parent, semantics_method}
use Rattle.image_model.specs.Rows.{count_of, HasRow, rows_of, rows_with, enclosing, first_field, first_method, first_event, first_property, fields_of, methods_of, events_in, properties_in, events_of, properties_of}
use Rattle.image_model.specs.Naming.{HasId, HasPath}
use Rattle.image_model.specs.Members.{layouts_of, semantics_of, generics_of, packings, object_id, MayLackBase, HasDataSize, HasAccessors}
use Rattle.image_model.specs.Terms.{FieldHas, MethodHas, PropertyHas}
use Rattle.image_model.specs.Faults.{distinct, values, bases, accessors, Reads}
use Rattle.image_model.specs.Reading.{IsGiven, BodyIs, IsGeneric, IsField, IsMethod, IsAccessor, IsProperty, IsEvent, ExtendsIs, Rising, AreInterfaces, IsLayout, IsTypeButNested}
use Rattle.image_model.specs.ReadLaws.{HoldsTypes}
use Rattle.image_namings.proofs.Among.{Among, from_among}
use Rattle.image_namings.proofs.OnePath.{id_one}
use Rattle.image_namings.proofs.Standing.{Stands, stands}
use Rattle.row_demands.proofs.Tiles.{ends, range_contains, contains_range}
use Rattle.formed_references.specs.Laws.{AreFormed}
use Rattle.formed_references.proofs.Words.{lt_true, le_true, is_eq, all_zipped, all_given, zipped_long, all_among, to_among, of_rows_with}
use Rattle.formed_references.proofs.Paths.{id_formed, module_id, module_path}
use Rattle.formed_references.proofs.References.{Laws}
use Rattle.formed_images.specs.Laws.{AreBytes}
use Rattle.formed_images.proofs.Parts.{owner_is, attributes_formed, generics_formed}
use Rattle.formed_images.proofs.Members.{differ, field_formed, method_formed, property_formed, event_formed}

-- ---- words

pack_test : (k : ℕ) → Among k packings → is_pack k ≡ true
pack_test k (inl e) = subst (λ (x : ℕ). is_pack x ≡ true) e refl
pack_test k (inr (inl e)) = subst (λ (x : ℕ). is_pack x ≡ true) e refl
pack_test k (inr (inr (inl e))) = subst (λ (x : ℕ). is_pack x ≡ true) e refl
pack_test k (inr (inr (inr (inl e)))) = subst (λ (x : ℕ). is_pack x ≡ true) e refl
pack_test k (inr (inr (inr (inr (inl e))))) = subst (λ (x : ℕ). is_pack x ≡ true) e refl
pack_test k (inr (inr (inr (inr (inr (inl e)))))) = subst (λ (x : ℕ). is_pack x ≡ true) e refl
pack_test k (inr (inr (inr (inr (inr (inr (inl e))))))) = subst (λ (x : ℕ). is_pack x ≡ true) e refl
pack_test k (inr (inr (inr (inr (inr (inr (inr (inl e)))))))) = subst (λ (x : ℕ). is_pack x ≡ true) e refl
pack_test k (inr (inr (inr (inr (inr (inr (inr (inr (inl e))))))))) = subst (λ (x : ℕ). is_pack x ≡ true) e refl
pack_test k (inr (inr (inr (inr (inr (inr (inr (inr (inr e))))))))) = absurd e

rises_true : (os : List Owner) → Rising os → rises is_owner_before os ≡ true
rises_true [] r = refl
rises_true (o ∷ []) r = refl
rises_true (o ∷ p ∷ os) r = and_from (is_owner_before o p) (rises is_owner_before (p ∷ os)) (ap is_lt r.0) (rises_true (p ∷ os) r.1)

by_members : {X : Type 0} (test : X → Bool) (xs : List X) → ((x : X) → Contains xs x → test x ≡ true) → list_all test xs ≡ true
by_members test [] f = refl
by_members test (x ∷ xs) f = and_from (test x) (list_all test xs) (f x (0, omega arith, refl)) (by_members test xs (λ y c. f y (suc c.0, omega (arith, c.1), c.2)))

text_same : (x y : List ℕ) → is_same_text x y ≡ true → x ≡ y
text_same x y e = (bytes_decides x y).0 e

module _ (image : List ℕ) (a : Assembly) (h : Reads image a) (bytes : AreBytes image) (short : length image ≤ 2 ^ 26) (laws : Laws image) (holds : HoldsTypes image h.names a) (forms : AreFormed image a h.names)
    (sizes : (t : SigType) (size : ℕ) → HasDataSize image t size ↔ (size_in_data a t ≡ Some size))
    (bodies : (row : ℕ) (body : Option Body) → HasRow image 0x06 row → BodyIs image h.names (method_rva image row) body → option_all (is_body a) body ≡ true) where
  -- ---- where members stand

  stood : Stands image
  stood = stands image h.names (λ earlier low. h.rows earlier)

  -- ---- accessors are methods of the type

  method_count : (type : ℕ) (ms : List Method) → HasRow image 0x02 type → AllZip (IsMethod image h.names) (methods_of image type) ms → (row : ℕ) (x : Accessor) → IsAccessor image type row x
      → Contains (methods_of image type) (semantics_method image row) → is_accessor_of (length ms) x ≡ true
  unfolding methods_of
  method_count type ms there z row x is has =
      let long = zipped_long (IsMethod image h.names) (range_with_len (first_method image type) ((ends (first_method image) (count_of image 0x02) (count_of image 0x06) type) - first_method image type)) ms z in
      let all = length-range_with_len (first_method image type) ((ends (first_method image) (count_of image 0x02) (count_of image 0x06) type) - first_method image type) in
      let r = range_contains (first_method image type) (ends (first_method image) (count_of image 0x02) (count_of image 0x06) type) (semantics_method image row) has in
      lt_true x.method (length ms) (omega (arith, long, all, r.0, r.1, is.method))

  accessors_formed : (members : ℕ → List ℕ) (table type member : ℕ) (ms : List Method) (xs : List Accessor) → HasRow image 0x02 type → Among member (members type) → ((s t : ℕ) → Among member (members s) → Among member (members t) → s ≡ t)
      → HasAccessors image members table member → AllZip (IsMethod image h.names) (methods_of image type) ms → AllZip (IsAccessor image type) (semantics_of image table member) xs → list_all (is_accessor_of (length ms)) xs ≡ true
  accessors_formed members table type member ms xs there among one has z zs =
      all_zipped (IsAccessor image type) (is_accessor_of (length ms)) (semantics_of image table member) xs
      (λ r x m is.
      let t = all_among (λ k. (u : ℕ) × HasRow image 0x02 u × Contains (members u) member × Contains (methods_of image u) (semantics_method image k)) r (semantics_of image table member) has m in
      let same = one t.0 type (to_among member (members t.0) t.2) among in
      method_count type ms there z r x is (subst (λ (u : ℕ). Contains (methods_of image u) (semantics_method image r)) same t.3)) zs

  -- ---- no two members are the same

  fields_distinct : (type r s : ℕ) (f g : Field) → HasRow image 0x02 type → Contains (fields_of image type) r → Contains (fields_of image type) s → r < s → IsField image h.names r f → IsField image h.names s g → is_same_field f g ≡ true → ⊥
  unfolding is_same_field
  fields_distinct type r s f g there one other less is k e =
      let p = and_parts (is_same_text f.name g.name) (is_same_type f.of g.of) e in
      let name = text_same f.name g.name p.0 in
      let of = (equal_types f.of g.of (is_same_type f.of g.of) refl).0 p.1 in
      let first = stood.field_there r type there one in
      let last = stood.field_there s type there other in
      (h.rows distinct 0x04 s).field refl last r first.0 less
      ((type, there, one, other), (g.name, subst (λ (t : List ℕ). HasText (strings_of image) (field_name image r) t) name is.name, k.name), (g.of, subst (FieldHas image h.names r) of is.of, k.of))

  methods_distinct : (type r s : ℕ) (f g : Method) → HasRow image 0x02 type → Contains (methods_of image type) r → Contains (methods_of image type) s → r < s → IsMethod image h.names r f → IsMethod image h.names s g → is_same_method f g ≡ true → ⊥
  unfolding is_same_method
  methods_distinct type r s f g there one other less is k e =
      let p = and_parts (is_same_text f.name g.name) (is_same_signature f.sig g.sig) e in
      let name = text_same f.name g.name p.0 in
      let sig = signature_same f.sig g.sig p.1 in
      let first = stood.method_there r type there one in
      let last = stood.method_there s type there other in
      (h.rows distinct 0x06 s).method refl last r first.0 less
      ((type, there, one, other), (g.name, subst (λ (t : List ℕ). HasText (strings_of image) (method_name image r) t) name is.name, k.name), (g.sig, subst (MethodHas image h.names r) sig is.sig, k.sig))

  pub fields_differ : (type : ℕ) (fs : List Field) → HasRow image 0x02 type → AllZip (IsField image h.names) (fields_of image type) fs → all_differ is_same_field fs ≡ true
  unfolding fields_of
  fields_differ type fs there z =
      differ (IsField image h.names) is_same_field (first_field image type) ((ends (first_field image) (count_of image 0x02) (count_of image 0x04) type) - first_field image type) fs
      (λ r s f g low less high is k e. fields_distinct type r s f g there (contains_range (first_field image type) (ends (first_field image) (count_of image 0x02) (count_of image 0x04) type) r low (omega arith)) (contains_range (first_field image type) (ends (first_field image) (count_of image 0x02) (count_of image 0x04) type) s (omega arith) (omega arith)) less is k e) z

  pub methods_differ : (type : ℕ) (fs : List Method) → HasRow image 0x02 type → AllZip (IsMethod image h.names) (methods_of image type) fs → all_differ is_same_method fs ≡ true
  unfolding methods_of
  methods_differ type fs there z =
      differ (IsMethod image h.names) is_same_method (first_method image type) ((ends (first_method image) (count_of image 0x02) (count_of image 0x06) type) - first_method image type) fs
      (λ r s f g low less high is k e. methods_distinct type r s f g there (contains_range (first_method image type) (ends (first_method image) (count_of image 0x02) (count_of image 0x06) type) r low (omega arith)) (contains_range (first_method image type) (ends (first_method image) (count_of image 0x02) (count_of image 0x06) type) s (omega arith) (omega arith)) less is k e) z

  properties_distinct : (type r s : ℕ) (f g : Property) → HasRow image 0x02 type → Contains (properties_of image type) r → Contains (properties_of image type) s
      → r < s → IsProperty image h.names type r f → IsProperty image h.names type s g → is_same_property f g ≡ true → ⊥
  unfolding is_same_property
  properties_distinct type r s f g there one other less is k e =
      let p = and_parts (is_same_text f.name g.name) (is_same_signature f.sig g.sig) e in
      let name = text_same f.name g.name p.0 in
      let sig = signature_same f.sig g.sig p.1 in
      let first = stood.property_there r type (to_among r (properties_of image type) one) in
      let last = stood.property_there s type (to_among s (properties_of image type) other) in
      (h.rows distinct 0x17 s).property refl last r first.0 less
      ((type, there, one, other), (g.name, subst (λ (t : List ℕ). HasText (strings_of image) (property_name image r) t) name is.name, k.name), (g.sig, subst (PropertyHas image h.names r) sig is.sig, k.sig))

  events_distinct : (type r s : ℕ) (f g : Event) → HasRow image 0x02 type → Contains (events_of image type) r → Contains (events_of image type) s
      → r < s → IsEvent image h.names type r f → IsEvent image h.names type s g → is_same_event f g ≡ true → ⊥
  unfolding is_same_event
  events_distinct type r s f g there one other less is k e =
      let name = text_same f.name g.name e in
      let first = stood.event_there r type (to_among r (events_of image type) one) in
      let last = stood.event_there s type (to_among s (events_of image type) other) in
      (h.rows distinct 0x14 s).event refl last r first.0 less
      ((type, there, one, other), (g.name, subst (λ (t : List ℕ). HasText (strings_of image) (event_name image r) t) name is.name, k.name))

  properties_at : (type : ℕ) (fs : List Property) → HasRow image 0x02 type → (o : Option ℕ) → find (λ map. nat_eq (property_map_parent image map) type) (rows_of image 0x15) ≡ o → properties_of image type ≡ option_map_or (properties_in image) o []
      → AllZip (IsProperty image h.names type) (option_map_or (properties_in image) o []) fs → all_differ is_same_property fs ≡ true
  properties_at type [] there None e of z = refl
  properties_at type (f ∷ fs) there None e of z = absurd z
  properties_at type fs there (Some map) e of z =
      let back = λ (r : ℕ) (c : Contains (properties_in image map) r). subst (λ (l : List ℕ). Contains l r) (sym of) c in
      differ (IsProperty image h.names type) is_same_property (first_property image map) ((ends (first_property image) (count_of image 0x15) (count_of image 0x17) map) - first_property image map) fs
      (λ r s f g low less high is k e.
      let one = contains_range (first_property image map) (ends (first_property image) (count_of image 0x15) (count_of image 0x17) map) r low (omega arith) in
      let other = contains_range (first_property image map) (ends (first_property image) (count_of image 0x15) (count_of image 0x17) map) s (omega arith) (omega arith) in
      properties_distinct type r s f g there (back r one) (back s other) less is k e) z

  pub properties_differ : (type : ℕ) (fs : List Property) → HasRow image 0x02 type → AllZip (IsProperty image h.names type) (properties_of image type) fs → all_differ is_same_property fs ≡ true
  unfolding properties_of
  properties_differ type fs there z = properties_at type fs there _ refl refl z

  events_at : (type : ℕ) (fs : List Event) → HasRow image 0x02 type → (o : Option ℕ) → find (λ map. nat_eq (event_map_parent image map) type) (rows_of image 0x12) ≡ o → events_of image type ≡ option_map_or (events_in image) o []
      → AllZip (IsEvent image h.names type) (option_map_or (events_in image) o []) fs → all_differ is_same_event fs ≡ true
  events_at type [] there None e of z = refl
  events_at type (f ∷ fs) there None e of z = absurd z
  events_at type fs there (Some map) e of z =
      let back = λ (r : ℕ) (c : Contains (events_in image map) r). subst (λ (l : List ℕ). Contains l r) (sym of) c in
      differ (IsEvent image h.names type) is_same_event (first_event image map) ((ends (first_event image) (count_of image 0x12) (count_of image 0x14) map) - first_event image map) fs
      (λ r s f g low less high is k e.
      let one = contains_range (first_event image map) (ends (first_event image) (count_of image 0x12) (count_of image 0x14) map) r low (omega arith) in
      let other = contains_range (first_event image map) (ends (first_event image) (count_of image 0x12) (count_of image 0x14) map) s (omega arith) (omega arith) in
      events_distinct type r s f g there (back r one) (back s other) less is k e) z

  pub events_differ : (type : ℕ) (fs : List Event) → HasRow image 0x02 type → AllZip (IsEvent image h.names type) (events_of image type) fs → all_differ is_same_event fs ≡ true
  unfolding events_of
  events_differ type fs there z = events_at type fs there _ refl refl z

  -- ---- a type without its members

  -- no type but the first row is `<Module>`
  not_module : (row : ℕ) (id : TypeId) → HasRow image 0x02 row → 2 ≤ row → HasId image row id → (top : Bool) → (top ≡ true → enclosing image row ≡ 0) → is_not_module top id ≡ true
  unfolding module_id
  not_module row id there late is false outer = refl
  not_module row id there late is true outer = go (is_module id) refl
    where
      go : (b : Bool) → is_module id ≡ b → not b ≡ true
      go false e = refl
      go true e =
          let p = and_parts (length id.space == 0) (pointwise nat_eq id.name (codes "<Module>")) e in
          let name = (bytes_decides id.name (codes "<Module>")).0 p.1 in
          let space = empty id.space (is_eq (length id.space) 0 p.0) in
          let same : id ≡ module_id image a h laws.text holds = (λ i. record { space = space i; name = name i }) in
          absurd ((h.rows distinct 0x02 row).type refl there 1 (omega arith) (omega arith)
          (module_id image a h laws.text holds ∷ [], module_path image a h laws.text holds, HasPath.top (outer refl) (subst (HasId image row) same is)))
        where
          empty : (t : List ℕ) → length t ≡ 0 → t ≡ []
          empty [] e = refl
          empty (x ∷ t) e = absurd (omega arith)

  has_flag : (f : ℕ) → bit_at f 5 ≡ 1 → is_interface f ≡ true
  has_flag f e = let m : bit_and f 0x20 ≡ 0x20 = and_pow f 5 ∙ ap (λ (n : ℕ). n * 32) e in subst (λ (n : ℕ). not (n == 0) ≡ true) (sym m) refl

  lacks_flag : (f : ℕ) → bit_at f 5 ≡ 0 → is_interface f ≡ false
  lacks_flag f e = let m : bit_and f 0x20 ≡ 0 = and_pow f 5 ∙ ap (λ (n : ℕ). n * 32) e in subst (λ (n : ℕ). not (n == 0) ≡ false) (sym m) refl

  bit_is : (f : ℕ) → (bit_at f 5 ≡ 1) ⊎ (bit_at f 5 ≡ 0)
  bit_is f = grind arith

  is_object : (id : TypeId) → id ≡ object_id → is_system_object id ≡ true
  is_object id e = subst (λ (x : TypeId). is_system_object x ≡ true) (sym e) (and_from (pointwise nat_eq (codes "System") (codes "System")) (pointwise nat_eq (codes "Object") (codes "Object")) ((bytes_decides (codes "System") (codes "System")).1 refl) ((bytes_decides (codes "Object") (codes "Object")).1 refl))

  second : (b c : Bool) → c ≡ true → (b || c) ≡ true
  second true c e = refl
  second false c e = e

  picked : (b c x y : Bool) → b ≡ c → cond c x y ≡ true → cond b x y ≡ true
  picked b c x y e k = subst (λ (d : Bool). cond d x y ≡ true) (sym e) k

  base_formed : (row : ℕ) (id : TypeId) (extends : Option Owner) (top : Bool) → HasRow image 0x02 row → 2 ≤ row → HasId image row id → (enclosing image row ≡ 0 → top ≡ true) → ExtendsIs image h.names (type_extends image row) extends
      → is_base top id (type_flags image row) extends ≡ true
  base_formed row id None top there late is outer x = elim (bit_is (type_flags image row)) [
    | inl e ↦ picked (is_interface (type_flags image row)) true true (false || (top && is_system_object id)) (has_flag (type_flags image row) e) refl
    | inr e ↦ picked (is_interface (type_flags image row)) false true (false || (top && is_system_object id)) (lacks_flag (type_flags image row) e) (rootless ((h.rows bases 0x02 row).other refl there (λ i. absurd (omega arith))))
  ]
    where
      rootless : (type_extends image row ≢ 0) ⊎ MayLackBase image row → (false || (top && is_system_object id)) ≡ true
      rootless (inl n) = absurd (n x)
      rootless (inr (inl e)) = absurd (omega arith)
      rootless (inr (inr m)) = and_from top (is_system_object id) (outer m.0) (is_object id (id_one image laws.text row id object_id is m.1))
  base_formed row id (Some o) top there late is outer x = elim (bit_is (type_flags image row)) [
    | inl e ↦ absurd (x.0 ((h.rows bases 0x02 row).interface refl there e))
    | inr e ↦ picked (is_interface (type_flags image row)) false false (true || (top && is_system_object id)) (lacks_flag (type_flags image row) e) refl
  ]

  layout_formed : (row : ℕ) (l : Option Layout) → HasRow image 0x02 row → IsGiven (IsLayout image) (layouts_of image row) l → is_layout l ≡ true
  layout_formed row l there is =
      let v = (h.rows values 0x02 row).layout refl there in
      all_given (IsLayout image) (λ x. is_pack x.pack) (layouts_of image row) l
      (λ r x m k. subst (λ (p : ℕ). is_pack p ≡ true) (sym k.pack) (pack_test (layout_pack image r) (to_among (layout_pack image r) packings (all_among (λ j. Contains packings (layout_pack image j)) r (layouts_of image row) v.packing m)))) is

  extends_formed : (row : ℕ) (o : Option Owner) → HasRow image 0x02 row → ExtendsIs image h.names (type_extends image row) o → option_all (is_owner a) o ≡ true
  unfolding schema
  extends_formed row None there x = refl
  extends_formed row (Some o) there x = owner_is image a h bytes short laws.text forms 0x02 row 3 true refl there (omega arith) refl o x.1

  implements_formed : (row : ℕ) (os : List Owner) → AreInterfaces image h.names row os → list_all (is_owner a) os ≡ true
  unfolding schema
  implements_formed row os is = by_members (is_owner a) os (λ o c.
      let r = (is.each o).0 c in
      let there = (of_rows_with image 0x09 interface_class row r.0 (to_among r.0 (rows_with image 0x09 interface_class row) r.1)).0 in
      owner_is image a h bytes short laws.text forms 0x09 r.0 1 false refl there (omega arith) refl o r.2)

  head_formed : (row : ℕ) (t : TypeDef-F TypeDef) (top : Bool) → HasRow image 0x02 row → 2 ≤ row → (top ≡ true) ↔ (enclosing image row ≡ 0) → IsTypeButNested image h.names row t → is_head a top t ≡ true
  head_formed row t top there late outer is =
      let v = (h.rows values 0x02 row).type_generics refl there in
      let long = zipped_long (IsGeneric image h.names) (generics_of image 0x02 row) t.generics is.generics in
      (heads_named a top t).1 (record {
        id = id_formed image a h laws.text holds row t.id there is.id;
        not_module = not_module row t.id there late is.id top outer.0;
        layout = layout_formed row t.layout there is.layout;
        base = subst (λ (f : ℕ). is_base top t.id f t.extends ≡ true) (sym is.flags) (base_formed row t.id t.extends top there late is.id outer.1 is.extends);
        count = le_true (length t.generics) 65535 (let few = v.few in omega arith);
        generics = generics_formed image a h bytes short laws.text forms 0x02 row t.generics is.generics;
        extends = extends_formed row t.extends there is.extends;
        rising = rises_true t.implements is.implements.rising;
        implements = implements_formed row t.implements is.implements;
        attributes = attributes_formed image a h bytes short laws.text forms 0x02 row t.attributes is.attributes;
      })

  -- ---- a type with its members

  pub fields_formed : (row : ℕ) (fs : List Field) → HasRow image 0x02 row → AllZip (IsField image h.names) (fields_of image row) fs → list_all (is_field a) fs ≡ true
  fields_formed row fs there z =
      all_zipped (IsField image h.names) (is_field a) (fields_of image row) fs
      (λ r f m is. field_formed image a h bytes short laws forms sizes bodies r f (stood.field_there r row there (from_among r (fields_of image row) m)) is) z

  pub methods_formed : (row : ℕ) (ms : List Method) → HasRow image 0x02 row → AllZip (IsMethod image h.names) (methods_of image row) ms → list_all (is_method a) ms ≡ true
  methods_formed row ms there z =
      all_zipped (IsMethod image h.names) (is_method a) (methods_of image row) ms
      (λ r f m is. method_formed image a h bytes short laws forms sizes bodies r f (stood.method_there r row there (from_among r (methods_of image row) m)) is) z

  pub own_formed : (row : ℕ) (t : TypeDef-F TypeDef) (top : Bool) → HasRow image 0x02 row → 2 ≤ row → (top ≡ true) ↔ (enclosing image row ≡ 0) → IsTypeButNested image h.names row t → is_own a top t ≡ true
  own_formed row t top there late outer is = (types_named a top t).1 (record {
    head = head_formed row t top there late outer is;
    fields = fields_formed row t.fields there is.fields;
    methods = methods_formed row t.methods there is.methods;
    properties = all_zipped (IsProperty image h.names row) (is_property a) (properties_of image row) t.properties (λ r p m k. property_formed image a h bytes short laws forms sizes bodies row r p (stood.property_there r row m) k) is.properties;
    events = all_zipped (IsEvent image h.names row) (is_event a) (events_of image row) t.events (λ r p m k. event_formed image a h bytes short laws forms sizes bodies row r p (stood.event_there r row m) k) is.events;
    property_accessors = all_zipped (IsProperty image h.names row) (has_accessors_of_property (length t.methods)) (properties_of image row) t.properties
        (λ r p m k. accessors_formed (properties_of image) 0x17 row r t.methods p.accessors there m (λ s u. stood.property_one r s u) ((h.rows accessors 0x17 r).property refl (stood.property_there r row m)) is.methods k.accessors) is.properties;
    event_accessors = all_zipped (IsEvent image h.names row) (has_accessors_of_event (length t.methods)) (events_of image row) t.events
        (λ r p m k. accessors_formed (events_of image) 0x14 row r t.methods p.accessors there m (λ s u. stood.event_one r s u) ((h.rows accessors 0x14 r).event refl (stood.event_there r row m)) is.methods k.accessors) is.events;
    fields_differ = fields_differ row t.fields there is.fields;
    methods_differ = methods_differ row t.methods there is.methods;
    properties_differ = properties_differ row t.properties there is.properties;
    events_differ = events_differ row t.events there is.events;
  })
