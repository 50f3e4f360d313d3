-- Properties and events are what their rows give, with their accessors.
use Rattle.std.proofs.Common.{ap, ℕ, ◌+◌, ◌^◌, ◌≤◌, List, length, arith}
use Rattle.std.specs.Prelude.{slice_index}
use Rattle.std.specs.List.{AllZip}
use Rattle.assembly_tree.specs.Weight.{property_weight, signature_weight}
use Rattle.assembly_tree.specs.WellFormedMembers.{is_property}
use Rattle.assembly_tree.specs.declared.assembly.Assembly.{Assembly}
use Rattle.assembly_tree.specs.declared.members.Accessor.{Accessor}
use Rattle.assembly_tree.specs.declared.members.Event.{Event}
use Rattle.assembly_tree.specs.declared.members.Property.{Property}
use Rattle.assembly_tree.proofs.FormedFacts.{properties_named}
use Rattle.body_codec.specs.Names.{NameMap}
use Rattle.pe_layout.specs.declared.parts.Kind.{Kind}
use Rattle.image_tokens.specs.declared.references.References.{References}
use Rattle.image_members.specs.ConstantRows.{stated_constant}
use Rattle.image_rows.specs.EventRows.{IsEventRow}
use Rattle.image_members.specs.Lists.{properties_in, events_in, access_of, access_from, event_access, property_access}
use Rattle.image_members.specs.Places.{class_properties, class_events}
use Rattle.image_rows.specs.PropertyRows.{IsPropertyRow}
use Rattle.image_members.specs.Pushing.{Tables}
use Rattle.image_members.specs.declared.classes.Class.{Class}
use Rattle.image_model.specs.Columns.{property_signature, event_type}
use Rattle.image_model.specs.Reading.{AttributesAre, IsAccessor, IsProperty, IsEvent}
use Rattle.image_model.specs.Members.{semantics_of}
use Rattle.image_model.specs.Rows.{first_method, properties_of, events_of}
use Rattle.laws_image_parts.specs.AtRows.{AtEach, IsItem}
use Rattle.laws_image_parts.specs.ConstantsRead.{ConstantsAreRead}
use Rattle.laws_image_parts.specs.OwnedRows.{AccessorsOf, ConstantOf}
use Rattle.laws_image_parts.specs.PartsRead.{PartsAreRead}
use Rattle.laws_image_parts.specs.RowCells.{property_cells, event_cells}
use Rattle.laws_image_parts.specs.RunsRead.{IsPropertyAt, IsEventAt}
use Rattle.laws_image_parts.proofs.OwnedLemmas.{zip_later}
use Rattle.laws_writable_trees.proofs.Members.{IsFine}
use Rattle.laws_writable_trees.proofs.Parts.{fine_properties}
use Rattle.laws_image_reading.specs.parts.Attributes.{AttributesNamed}
use Rattle.laws_image_reading.specs.parts.Held.{IsHeld}
use Rattle.laws_image_reading.specs.parts.Known.{KnowsRows}
use Rattle.laws_image_reading.specs.parts.Ranges.{IsPropertyInRange}
use Rattle.laws_image_reading.proofs.parts.Attributes.{reader}
use Rattle.laws_image_reading.proofs.parts.Constants.{stated_ranged}
use Rattle.laws_image_reading.proofs.parts.Lists.{all_get, at_item}
use Rattle.laws_image_reading.proofs.parts.Signatures.{RereadsMembers, property_has}
use Rattle.laws_image_reading.proofs.parts.Tokens.{IsReader, owner_is}

sig_light : (p : Property) → property_weight p ≤ 2 ^ 26 → signature_weight p.sig ≤ 2 ^ 26
unfolding property_weight
sig_light p h = omega arith

module _ (parts : PartsAreRead) (a : Assembly) (classes : List Class) (r : References) (tables : Tables) (code id : List ℕ) (kind : Kind) (image : List ℕ) (names : NameMap)
    (held : IsHeld a classes r tables code id kind image names) (known : KnowsRows a classes r code image) (attributes : AttributesNamed a classes image names) where
  abbrev s : IsReader r image names
  s = reader a classes r tables code id kind image names held known

  accessors_are : (table type row : ℕ) (access : ℕ → Class → List (List (ℕ × ℕ))) (accessors : List Accessor) → AtEach (AccessorsOf image table) 1 (access_from access (1 + length a.methods) classes)
      → IsItem (access_from access (1 + length a.methods) classes) row (access_of (first_method image type) accessors) → AllZip (IsAccessor image type) (semantics_of image table row) accessors
  accessors_are table type row access accessors each item =
      parts.accessors image table type row accessors (at_item (AccessorsOf image table) (access_from access (1 + length a.methods) classes) row (access_of (first_method image type) accessors) each item)

  -- ---- events

  event_is : (type row : ℕ) (e : Event) → IsEventAt a classes image type row e → IsEvent image names type row e
  event_is type row e h =
      let made = at_item (λ k (x : Event). IsEventRow r (event_cells image k) x) (events_in classes) row e known.rows.properties.events.each h.0 in
      let head = parts.event r image row e known.heaps made in
      record {
        name = head.name;
        flags = head.flags;
        of = owner_is r image names s e.of (event_type image row) made.type made.type_is (ap (λ (cs : List ℕ). slice_index cs 2) made.are);
        accessors = accessors_are 0x14 type row event_access e.accessors known.accessors.events h.1;
        attributes = at_item (λ k (x : Event). AttributesAre image names 0x14 k x.attributes) (events_in classes) row e attributes.events h.0;
      }

  pub events_are : AtEach (λ type c. AllZip (IsEvent image names type) (events_of image type) (class_events c)) 2 classes
  events_are k c at =
      zip_later (IsEventAt a classes image (2 + k)) (IsEvent image names (2 + k)) (events_of image (2 + k)) (class_events c) (event_is (2 + k)) (known.runs.events k c at)

  -- ---- properties

  module _ (constants : ConstantsAreRead) (again : RereadsMembers) where
    property_is : (type row : ℕ) (p : Property) → IsPropertyAt a classes image type row p → IsProperty image names type row p
    property_is type row p h =
        let item = h.0 in
        let fine = all_get (IsFine (is_property a) property_weight) (properties_in classes) item.0 p (fine_properties a classes held.filled.classes_are held.formed held.light) item.2 in
        let formed = (properties_named a p).0 fine.formed in
        let range = all_get IsPropertyInRange (properties_in classes) item.0 p held.ranges.properties item.2 in
        let made = at_item (λ k (x : Property). IsPropertyRow r (property_cells image k) x) (properties_in classes) row p known.rows.properties.properties.each item in
        let head = parts.property r image row p known.heaps made formed.flags in
        record {
          name = head.name_is;
          flags = head.flags_are;
          sig = property_has a again r image names s p.sig made.signature (property_signature image row) made.signature_is (ap (λ (cs : List ℕ). slice_index cs 2) made.are) formed.sig (sig_light p fine.light);
          constant = constants.given r image 0x17 row p.constant known.heaps (stated_ranged p.constant formed.constant range)
              (at_item (λ k (x : Property). ConstantOf r image 0x17 k (stated_constant x.constant)) (properties_in classes) row p known.constants.properties item);
          accessors = accessors_are 0x17 type row property_access p.accessors known.accessors.properties h.1;
          attributes = at_item (λ k (x : Property). AttributesAre image names 0x17 k x.attributes) (properties_in classes) row p attributes.properties item;
        }

    pub properties_are : AtEach (λ type c. AllZip (IsProperty image names type) (properties_of image type) (class_properties c)) 2 classes
    properties_are k c at =
        zip_later (IsPropertyAt a classes image (2 + k)) (IsProperty image names (2 + k)) (properties_of image (2 + k)) (class_properties c) (property_is (2 + k)) (known.runs.properties k c at)
