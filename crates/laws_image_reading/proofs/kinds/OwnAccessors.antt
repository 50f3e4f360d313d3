-- The accessors of events and of properties are methods of their types (ECMA-335 II.22.28).
use Rattle.std.proofs.Common.{ℕ, ◌+◌, List, length}
use Rattle.std.specs.Prelude.{IsTrue}
use Rattle.std.specs.List.{AllByRecursion, list_all}
use Rattle.metadata_tables.specs.Indexes.{IndexesFit}
use Rattle.assembly_tree.specs.WellFormedTypes.{has_accessors_of_event, has_accessors_of_property}
use Rattle.assembly_tree.specs.declared.assembly.Assembly.{Assembly}
use Rattle.assembly_tree.specs.declared.members.Event.{Event}
use Rattle.assembly_tree.specs.declared.members.Property.{Property}
use Rattle.body_codec.specs.Names.{NameMap}
use Rattle.image_tokens.specs.declared.references.References.{References}
use Rattle.image_members.specs.DeclaredMembers.{class_methods}
use Rattle.image_members.specs.Lists.{access_from, access_of, event_access, property_access}
use Rattle.image_members.specs.Places.{all_methods, class_events, class_properties}
use Rattle.image_members.specs.declared.classes.Class.{Class}
use Rattle.image_model.specs.Faults.{Holds, accessors}
use Rattle.image_model.specs.Members.{HasAccessors}
use Rattle.image_model.specs.Rows.{HasRow, events_of, first_method, properties_of}
use Rattle.laws_image_parts.specs.AtRows.{IsItem}
use Rattle.laws_image_parts.specs.OwnedRows.{AccessorsRead}
use Rattle.laws_image_parts.specs.RowsRead.{ReadsRows}
use Rattle.laws_image_parts.specs.RunsRead.{IsEventAt, IsPropertyAt, RunsRead}
use Rattle.laws_image_parts.proofs.OwnedLemmas.{zip_later}
use Rattle.laws_image_reading.proofs.kinds.Accessors.{accessors_own}
use Rattle.laws_image_reading.proofs.kinds.Formed.{IsFormedClass, type_formed}
use Rattle.laws_image_reading.proofs.kinds.MapRuns.{class_events_are, class_properties_are}
use Rattle.laws_writable_trees.proofs.Each.{each_from}

module _ (law : IndexesFit) (a : Assembly) (classes : List Class) (r : References) (code image : List ℕ) (rows : ReadsRows a classes r code image) (runs : RunsRead a classes r code image)
    (found : AccessorsRead a classes image) (formed : AllByRecursion (IsFormedClass a) classes) where
  events_own : (row : ℕ) → HasRow image 0x14 row → HasAccessors image (events_of image) 0x14 row
  events_own =
      let access = access_from event_access (1 + length a.methods) classes in
      accessors_own class_events (λ (e : Event). e.accessors) image 0x14 (events_of image) access classes (all_methods a classes) rows.types.types.count rows.properties.events.count
      (class_events_are law a classes r code image rows)
      (λ k c at. zip_later (IsEventAt a classes image (2 + k)) (λ n (e : Event). IsItem access n (access_of (first_method image (2 + k)) e.accessors)) (events_of image (2 + k)) (class_events c)
      (λ n e both. both.1) (runs.events k c at))
      runs.methods found.events
      (each_from (IsFormedClass a) (λ c. IsTrue (list_all (has_accessors_of_event (length (class_methods c))) (class_events c))) (λ c f. (type_formed a c f).event_accessors) classes formed)

  properties_own : (row : ℕ) → HasRow image 0x17 row → HasAccessors image (properties_of image) 0x17 row
  properties_own =
      let access = access_from property_access (1 + length a.methods) classes in
      accessors_own class_properties (λ (p : Property). p.accessors) image 0x17 (properties_of image) access classes (all_methods a classes) rows.types.types.count
      rows.properties.properties.count (class_properties_are law a classes r code image rows)
      (λ k c at. zip_later (IsPropertyAt a classes image (2 + k)) (λ n (p : Property). IsItem access n (access_of (first_method image (2 + k)) p.accessors)) (properties_of image (2 + k))
      (class_properties c) (λ n p both. both.1) (runs.properties k c at))
      runs.methods found.properties
      (each_from (IsFormedClass a) (λ c. IsTrue (list_all (has_accessors_of_property (length (class_methods c))) (class_properties c))) (λ c f. (type_formed a c f).property_accessors) classes formed)

  pub accessors_meet : (names : NameMap) → Holds image names accessors
  accessors_meet names = λ table row. record { event = λ is there. events_own row there; property = λ is there. properties_own row there }
