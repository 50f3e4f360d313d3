-- No field, method, property or event of a type stands twice (ECMA-335 II.22.13, II.22.15, II.22.26, II.22.34).
use Rattle.std.proofs.Common.{◌≡◌, ap, refl, sym, subst, ℕ, ◌+◌, List, [], length, arith}
use Rattle.std.specs.Prelude.{IsTrue, slice_index}
use Rattle.std.specs.Cmp.{IsTotalOrder}
use Rattle.std.specs.List.{AllByRecursion, AllZip}
use Rattle.assembly_tree.specs.WellFormedFacts.{WellFormed}
use Rattle.assembly_tree.specs.WellFormedMembers.{is_same_field, is_same_method, is_same_property, is_same_event}
use Rattle.assembly_tree.specs.WellFormedNames.{all_differ}
use Rattle.assembly_tree.specs.declared.assembly.Assembly.{Assembly}
use Rattle.assembly_tree.specs.declared.members.Event.{Event}
use Rattle.assembly_tree.specs.declared.members.Field.{Field}
use Rattle.assembly_tree.specs.declared.members.Method.{Method}
use Rattle.assembly_tree.specs.declared.members.Property.{Property}
use Rattle.body_codec.specs.Names.{NameMap}
use Rattle.heaps.specs.Content.{HasText}
use Rattle.sig_codec.specs.Signature.{SpellsField, SpellsMethod, SpellsProperty}
use Rattle.sig_codec.specs.Spelling.{Notation}
use Rattle.sig_codec.specs.Tokens.{GivesBack}
use Rattle.type_terms.specs.Order.{term_order}
use Rattle.image_tokens.specs.References.{tokens_of}
use Rattle.image_tokens.specs.declared.references.References.{References}
use Rattle.image_members.specs.DeclaredMembers.{class_fields, class_methods}
use Rattle.image_members.specs.Lists.{properties_in, events_in}
use Rattle.image_members.specs.Places.{all_fields, all_methods, class_events, class_properties}
use Rattle.image_members.specs.declared.classes.Class.{Class}
use Rattle.image_layout.specs.Laws.{ReadsHeaps}
use Rattle.image_model.specs.Columns.{event_name, field_name, field_signature, method_name, method_signature, property_name, property_signature}
use Rattle.image_model.specs.Faults.{Holds, distinct}
use Rattle.image_model.specs.Members.{AreOfOneType, HaveOne, HaveOneName, HaveOnePath, IsNew}
use Rattle.image_model.specs.Rows.{HasRow, count_of, events_of, fields_of, methods_of, properties_of}
use Rattle.image_model.specs.Streams.{strings_of}
use Rattle.image_model.specs.Terms.{FieldHas, MethodHas, PropertyHas}
use Rattle.laws_image_parts.specs.AtRows.{AtEach, IsItem}
use Rattle.laws_image_parts.specs.RowsRead.{ReadsRows}
use Rattle.laws_image_parts.specs.RunsRead.{IsEventAt, IsPropertyAt, RunsRead}
use Rattle.laws_image_parts.proofs.OwnedLemmas.{zip_later}
use Rattle.laws_image_parts.proofs.names.OneToken.{OneBlob, OneText}
use Rattle.laws_image_parts.proofs.names.SignatureLemmas.{Rereads, SpellsOne}
use Rattle.laws_image_reading.proofs.kinds.Alike.{HasContent, content_alike, name_alike, one_member}
use Rattle.laws_image_reading.proofs.kinds.Formed.{IsFormedClass, type_formed}
use Rattle.laws_image_reading.proofs.kinds.General.{all_at}
use Rattle.laws_image_reading.proofs.kinds.Nodes.{SignatureTaken, TypeTaken}
use Rattle.laws_image_reading.proofs.kinds.Same.{same_event, same_field, same_method, same_property}
use Rattle.laws_writable_trees.proofs.Each.{each_from}

-- what the laws of signatures say of one kind
pub record AreTold {Y : Type 0} (Spells : Notation → Y → List ℕ → Type 0) (Taken : Y → Type 0) : Type 0 where
  pub rereads : Rereads Spells
  pub one : SpellsOne Spells Taken

module _ (order : IsTotalOrder term_order) (field_law : AreTold SpellsField TypeTaken) (method_law : AreTold SpellsMethod SignatureTaken) (property_law : AreTold SpellsProperty SignatureTaken)
    (a : Assembly) (classes : List Class) (r : References) (code image : List ℕ) (text : OneText image) (blob : OneBlob) (heaps : ReadsHeaps r image)
    (rows : ReadsRows a classes r code image) (runs : RunsRead a classes r code image) (types : count_of image 0x02 ≡ 1 + length classes)
    (whole : WellFormed a) (formed : AllByRecursion (IsFormedClass a) classes) (names : NameMap) (back : GivesBack (tokens_of r) names.owners) where
  -- ---- fields

  abbrev IsField : ℕ → Field → Type 0
  IsField = IsItem (all_fields a classes)

  field_content : AllByRecursion (λ (f : Field). TypeTaken f.of) (all_fields a classes) → (row : ℕ) (f : Field) → IsField row f
      → HasContent SpellsField TypeTaken r image (field_name image row) (field_signature image row) f.name f.of
  field_content taken row f item =
      let own = rows.fields.fields.each item.0 f item.2 in
      subst (λ n. HasContent SpellsField TypeTaken r image (field_name image n) (field_signature image n) f.name f.of) (sym item.1) (record {
        named = subst (λ n. HasText (strings_of image) n f.name) (sym (ap (λ (cs : List ℕ). slice_index cs 1) own.are)) (heaps.texts own.name f.name own.name_is.there);
        at = own.signature;
        signature = own.signature_is;
        cell = ap (λ (cs : List ℕ). slice_index cs 2) own.are;
        taken = all_at (λ (g : Field). TypeTaken g.of) (all_fields a classes) item.0 f taken item.2;
      })

  pub fields_new : AllByRecursion (λ (f : Field). TypeTaken f.of) (all_fields a classes) → (row : ℕ)
      → IsNew (λ x y. AreOfOneType image (fields_of image) x y × HaveOneName image (field_name image) x y × HaveOne (FieldHas image names) x y) row
  fields_new taken row earlier some lower h =
      let same : earlier ≡ row =
      one_member IsField is_same_field (fields_of image) image classes a.fields class_fields types runs.module_fields runs.fields whole.fields_differ
      (each_from (IsFormedClass a) (λ c. IsTrue (all_differ is_same_field (class_fields c))) (λ c f. (type_formed a c f).fields_differ) classes formed) earlier row h.0
      (λ x y at_x at_y.
      let is =
      content_alike SpellsField TypeTaken field_law.rereads field_law.one r image text blob heaps names.owners back (field_name image) (field_signature image) (FieldHas image names)
      (λ n s has. (has.0, has.1, has.2.0, (has.2.1, has.2.2))) earlier row x.name y.name x.of y.of (field_content taken earlier x at_x) (field_content taken row y at_y) h.1 h.2 in
      (same_field order x y is.0 is.1, same_field order y x (sym is.0) (sym is.1))) in
      omega arith

  -- ---- methods

  abbrev IsMethod : ℕ → Method → Type 0
  IsMethod = IsItem (all_methods a classes)

  method_content : AllByRecursion (λ (m : Method). SignatureTaken m.sig) (all_methods a classes) → (row : ℕ) (m : Method) → IsMethod row m
      → HasContent SpellsMethod SignatureTaken r image (method_name image row) (method_signature image row) m.name m.sig
  method_content taken row m item =
      let own = (runs.method_rows item.0 m item.2).2 in
      subst (λ n. HasContent SpellsMethod SignatureTaken r image (method_name image n) (method_signature image n) m.name m.sig) (sym item.1) (record {
        named = subst (λ n. HasText (strings_of image) n m.name) (sym (ap (λ (cs : List ℕ). slice_index cs 3) own.are)) (heaps.texts own.name m.name own.name_is.there);
        at = own.signature;
        signature = own.signature_is;
        cell = ap (λ (cs : List ℕ). slice_index cs 4) own.are;
        taken = all_at (λ (n : Method). SignatureTaken n.sig) (all_methods a classes) item.0 m taken item.2;
      })

  pub methods_new : AllByRecursion (λ (m : Method). SignatureTaken m.sig) (all_methods a classes) → (row : ℕ)
      → IsNew (λ x y. AreOfOneType image (methods_of image) x y × HaveOneName image (method_name image) x y × HaveOne (MethodHas image names) x y) row
  methods_new taken row earlier some lower h =
      let same : earlier ≡ row =
      one_member IsMethod is_same_method (methods_of image) image classes a.methods class_methods types runs.module_methods runs.methods whole.methods_differ
      (each_from (IsFormedClass a) (λ c. IsTrue (all_differ is_same_method (class_methods c))) (λ c f. (type_formed a c f).methods_differ) classes formed) earlier row h.0
      (λ x y at_x at_y.
      let is =
      content_alike SpellsMethod SignatureTaken method_law.rereads method_law.one r image text blob heaps names.owners back (method_name image) (method_signature image) (MethodHas image names)
      (λ n s has. (has.0, has.1, has.2.0, (has.2.1, has.2.2))) earlier row x.name y.name x.sig y.sig (method_content taken earlier x at_x) (method_content taken row y at_y) h.1 h.2 in
      (same_method order x y is.0 is.1, same_method order y x (sym is.0) (sym is.1))) in
      omega arith

  -- ---- properties

  abbrev IsProperty : ℕ → Property → Type 0
  IsProperty = IsItem (properties_in classes)

  property_content : AllByRecursion (λ (p : Property). SignatureTaken p.sig) (properties_in classes) → (row : ℕ) (p : Property) → IsProperty row p
      → HasContent SpellsProperty SignatureTaken r image (property_name image row) (property_signature image row) p.name p.sig
  property_content taken row p item =
      let own = rows.properties.properties.each item.0 p item.2 in
      subst (λ n. HasContent SpellsProperty SignatureTaken r image (property_name image n) (property_signature image n) p.name p.sig) (sym item.1) (record {
        named = subst (λ n. HasText (strings_of image) n p.name) (sym (ap (λ (cs : List ℕ). slice_index cs 1) own.are)) (heaps.texts own.name p.name own.name_is.there);
        at = own.signature;
        signature = own.signature_is;
        cell = ap (λ (cs : List ℕ). slice_index cs 2) own.are;
        taken = all_at (λ (q : Property). SignatureTaken q.sig) (properties_in classes) item.0 p taken item.2;
      })

  pub properties_new : properties_of image 1 ≡ [] → AllByRecursion (λ (p : Property). SignatureTaken p.sig) (properties_in classes) → (row : ℕ)
      → IsNew (λ x y. AreOfOneType image (properties_of image) x y × HaveOneName image (property_name image) x y × HaveOne (PropertyHas image names) x y) row
  properties_new empty taken row earlier some lower h =
      let in_class : AtEach (λ type c. AllZip IsProperty (properties_of image type) (class_properties c)) 2 classes =
      (λ k c at. zip_later (IsPropertyAt a classes image (2 + k)) IsProperty (properties_of image (2 + k)) (class_properties c) (λ n p both. both.0) (runs.properties k c at)) in
      let same : earlier ≡ row =
      one_member IsProperty is_same_property (properties_of image) image classes [] class_properties types (subst (λ ns. AllZip IsProperty ns []) (sym empty) tt) in_class refl
      (each_from (IsFormedClass a) (λ c. IsTrue (all_differ is_same_property (class_properties c))) (λ c f. (type_formed a c f).properties_differ) classes formed) earlier row h.0
      (λ x y at_x at_y.
      let is =
      content_alike SpellsProperty SignatureTaken property_law.rereads property_law.one r image text blob heaps names.owners back (property_name image) (property_signature image)
      (PropertyHas image names) (λ n s has. (has.0, has.1, has.2.0, (has.2.1, has.2.2))) earlier row x.name y.name x.sig y.sig (property_content taken earlier x at_x)
      (property_content taken row y at_y) h.1 h.2 in
      (same_property order x y is.0 is.1, same_property order y x (sym is.0) (sym is.1))) in
      omega arith

  -- ---- events

  abbrev IsEvent : ℕ → Event → Type 0
  IsEvent = IsItem (events_in classes)

  event_named : (row : ℕ) (e : Event) → IsEvent row e → HasText (strings_of image) (event_name image row) e.name
  event_named row e item =
      let own = rows.properties.events.each item.0 e item.2 in
      subst (λ n. HasText (strings_of image) (event_name image n) e.name) (sym item.1)
      (subst (λ n. HasText (strings_of image) n e.name) (sym (ap (λ (cs : List ℕ). slice_index cs 1) own.are)) (heaps.texts own.name e.name own.name_is.there))

  pub events_new : events_of image 1 ≡ [] → (row : ℕ) → IsNew (λ x y. AreOfOneType image (events_of image) x y × HaveOneName image (event_name image) x y) row
  events_new empty row earlier some lower h =
      let in_class : AtEach (λ type c. AllZip IsEvent (events_of image type) (class_events c)) 2 classes =
      (λ k c at. zip_later (IsEventAt a classes image (2 + k)) IsEvent (events_of image (2 + k)) (class_events c) (λ n e both. both.0) (runs.events k c at)) in
      let same : earlier ≡ row =
      one_member IsEvent is_same_event (events_of image) image classes [] class_events types (subst (λ ns. AllZip IsEvent ns []) (sym empty) tt) in_class refl
      (each_from (IsFormedClass a) (λ c. IsTrue (all_differ is_same_event (class_events c))) (λ c f. (type_formed a c f).events_differ) classes formed) earlier row h.0
      (λ x y at_x at_y.
      let is = name_alike image text (event_name image) earlier row x.name y.name (event_named earlier x at_x) (event_named row y at_y) h.1 in
      (same_event x y is, same_event y x (sym is))) in
      omega arith

  -- ---- all of them

  pub distinct_meet : ((row : ℕ) → HasRow image 0x02 row → IsNew (HaveOnePath image) row) → events_of image 1 ≡ [] → properties_of image 1 ≡ []
      → AllByRecursion (λ (f : Field). TypeTaken f.of) (all_fields a classes) → AllByRecursion (λ (m : Method). SignatureTaken m.sig) (all_methods a classes)
      → AllByRecursion (λ (p : Property). SignatureTaken p.sig) (properties_in classes) → Holds image names distinct
  distinct_meet of_types no_events no_properties fields methods properties = λ table row. record {
    type = λ is there. of_types row there;
    field = λ is there. fields_new fields row;
    method = λ is there. methods_new methods row;
    event = λ is there. events_new no_events row;
    property = λ is there. properties_new no_properties properties row;
  }
