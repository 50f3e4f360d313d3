-- The runs of events and of properties: those of a type follow those of the types before it, and `<Module>` has none.
use Rattle.std.proofs.Common.{◌≡◌, refl, ℕ, ◌+◌, List, [], length, Some}
use Rattle.std.specs.Prelude.{slice_get}
use Rattle.std.specs.List.{range_with_len}
use Rattle.metadata_tables.specs.Indexes.{IndexesFit}
use Rattle.assembly_tree.specs.declared.assembly.Assembly.{Assembly}
use Rattle.image_tokens.specs.declared.references.References.{References}
use Rattle.image_members.specs.Places.{class_events, class_properties}
use Rattle.image_members.specs.declared.classes.Class.{Class}
use Rattle.image_model.specs.Columns.{event_map_parent, event_map_events, property_map_parent, property_map_properties}
use Rattle.image_model.specs.Rows.{events_of, first_event, first_property, properties_of, rows_of}
use Rattle.laws_image_parts.specs.RowCells.{event_map_cells, property_map_cells}
use Rattle.laws_image_parts.specs.RowsRead.{ReadsRows}
use Rattle.laws_image_reading.proofs.kinds.General.{before}
use Rattle.laws_image_reading.proofs.kinds.Maps.{class_run, module_run}

module _ (law : IndexesFit) (a : Assembly) (classes : List Class) (r : References) (code image : List ℕ) (h : ReadsRows a classes r code image) where
  pub module_events : events_of image 1 ≡ []
  unfolding events_of rows_of
  module_events =
      module_run class_events law image 0x12 event_map_cells (event_map_parent image) (first_event image) (event_map_events image) 0x14 classes h.types.event_map h.properties.events.count
      (λ j. refl) (λ j. refl) (λ j. refl)

  pub class_events_are : (k : ℕ) (c : Class) → slice_get classes k ≡ Some c → events_of image (2 + k) ≡ range_with_len (1 + before class_events classes k) (length (class_events c))
  unfolding events_of rows_of
  class_events_are k c at =
      class_run class_events law image 0x12 event_map_cells (event_map_parent image) (first_event image) (event_map_events image) 0x14 classes h.types.event_map h.properties.events.count
      (λ j. refl) (λ j. refl) (λ j. refl) k c at

  pub module_properties : properties_of image 1 ≡ []
  unfolding properties_of rows_of
  module_properties =
      module_run class_properties law image 0x15 property_map_cells (property_map_parent image) (first_property image) (property_map_properties image) 0x17 classes h.types.property_map
      h.properties.properties.count (λ j. refl) (λ j. refl) (λ j. refl)

  pub class_properties_are : (k : ℕ) (c : Class) → slice_get classes k ≡ Some c
      → properties_of image (2 + k) ≡ range_with_len (1 + before class_properties classes k) (length (class_properties c))
  unfolding properties_of rows_of
  class_properties_are k c at =
      class_run class_properties law image 0x15 property_map_cells (property_map_parent image) (first_property image) (property_map_properties image) 0x17 classes h.types.property_map
      h.properties.properties.count (λ j. refl) (λ j. refl) (λ j. refl) k c at
