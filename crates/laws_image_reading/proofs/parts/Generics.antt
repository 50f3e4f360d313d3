-- Generic parameters are what their rows give, with their bounds and their attributes.
use Rattle.std.proofs.Common.{ap, ℕ, List}
use Rattle.std.specs.Prelude.{slice_index}
use Rattle.std.specs.List.{AllByRecursion, AllZip}
use Rattle.assembly_tree.specs.Weight.{generic_weight, method_weight}
use Rattle.assembly_tree.specs.WellFormedMembers.{is_generic, is_method}
use Rattle.assembly_tree.specs.declared.assembly.Assembly.{Assembly}
use Rattle.assembly_tree.specs.declared.members.Generic.{Generic}
use Rattle.assembly_tree.specs.declared.members.Method.{Method}
use Rattle.body_codec.specs.Names.{NameMap}
use Rattle.metadata_tables.specs.declared.coded.Coded.TheVariants.{TypeOrMethodDef}
use Rattle.pe_layout.specs.declared.parts.Kind.{Kind}
use Rattle.type_terms.specs.declared.term.Owner.{Owner}
use Rattle.image_tokens.specs.declared.references.References.{References}
use Rattle.image_members.specs.GenericRows.{IsBoundRow, IsGenericRow}
use Rattle.image_members.specs.Lists.{class_generics, generics_in}
use Rattle.image_members.specs.Places.{all_methods}
use Rattle.image_members.specs.Pushing.{Tables}
use Rattle.image_members.specs.declared.classes.Class.{Class}
use Rattle.image_model.specs.Columns.{bound_parameter, bound_type, generic_owner}
use Rattle.image_model.specs.Reading.{OwnerIs, IsGeneric, GenericsAre}
use Rattle.image_model.specs.Rows.{rows_with, index_of}
use Rattle.laws_image_parts.specs.AtRows.{IsItem}
use Rattle.laws_image_parts.specs.ItemRows.{BoundsOf}
use Rattle.laws_image_parts.specs.OwnedRows.{AttributesOf, GenericsOf}
use Rattle.laws_image_parts.specs.PartsRead.{PartsAreRead}
use Rattle.laws_image_parts.specs.RowCells.{generic_cells, bound_cells}
use Rattle.laws_image_parts.proofs.OwnedLemmas.{zip_later}
use Rattle.laws_writable_trees.proofs.Members.{IsFine}
use Rattle.laws_writable_trees.proofs.Parts.{IsFineClass, fine_classes, fine_methods, its_generics, method_generics, generic_attributes}
use Rattle.laws_image_reading.specs.parts.Generics.{GenericsNamed}
use Rattle.laws_image_reading.specs.parts.Held.{IsHeld}
use Rattle.laws_image_reading.specs.parts.Known.{KnowsRows}
use Rattle.laws_image_reading.proofs.parts.Attributes.{attributes_are, reader}
use Rattle.laws_image_reading.proofs.parts.Lists.{at_item, each_with, zip_numbered}
use Rattle.laws_image_reading.proofs.parts.Tokens.{IsReader, owner_is}

module _ (parts : PartsAreRead) (a : Assembly) (classes : List Class) (r : References) (code image : List ℕ) (names : NameMap) (s : IsReader r image names)
    (known : KnowsRows a classes r code image) where
  abbrev Fine : Generic → Type 0
  Fine g = IsFine (is_generic a) generic_weight g

  bounds_are : (row : ℕ) (bounds : List Owner) → BoundsOf r image row bounds → AllZip (λ k. OwnerIs image names (bound_type image k)) (rows_with image 0x2C bound_parameter row) bounds
  bounds_are row bounds h =
      zip_later (λ k o. IsBoundRow r (bound_cells image k) (row, o)) (λ k. OwnerIs image names (bound_type image k)) (rows_with image 0x2C bound_parameter row) bounds
      (λ k o is. owner_is r image names s o (bound_type image k) is.type is.type_is (ap (λ (cs : List ℕ). slice_index cs 1) is.are)) h

  generic_is : (owner row number : ℕ) (g : Generic) → Fine g → IsGenericRow r (generic_cells image row) (owner, (number, g)) → IsItem (generics_in a classes) row g → IsGeneric image names row g
  generic_is owner row number g fine h item =
      let head = parts.generic r image row (owner, (number, g)) s.heaps h in
      record {
        name = head.name;
        flags = head.flags;
        bounds = bounds_are row g.bounds (at_item (λ k (x : Generic). BoundsOf r image k x.bounds) (generics_in a classes) row g known.bounds item);
        attributes = attributes_are a r image names s 0x2A row g.attributes (generic_attributes a g fine)
            (at_item (λ k (x : Generic). AttributesOf r image 0x2A k x.attributes) (generics_in a classes) row g known.attributes.generics item);
      }

  abbrev IsRow : ℕ → ℕ → ℕ × Generic → Type 0
  IsRow owner k x = IsGenericRow r (generic_cells image k) (owner, x) × IsItem (generics_in a classes) k x.1

  generics_are : (table row : ℕ) (gs : List Generic) → AllByRecursion Fine gs → GenericsOf a classes r image table row gs → GenericsAre image names table row gs
  generics_are table row gs all h =
      let owner = index_of TypeOrMethodDef table row in
      zip_numbered (IsRow owner) (IsGeneric image names) Fine (λ k n g fine is. generic_is owner k n g fine is.0 is.1) 0 (rows_with image 0x2A generic_owner owner) gs all h

pub generics_named : PartsAreRead → (a : Assembly) (classes : List Class) (r : References) (tables : Tables) (code id : List ℕ) (kind : Kind) (image : List ℕ) (names : NameMap)
    → IsHeld a classes r tables code id kind image names → KnowsRows a classes r code image → GenericsNamed a classes image names
generics_named parts a classes r tables code id kind image names held known =
    let s = reader a classes r tables code id kind image names held known in
    let are = held.filled.classes_are in
    record {
      types =
          each_with (λ type c. GenericsOf a classes r image 0x02 type (class_generics c)) (λ type c. GenericsAre image names 0x02 type (class_generics c)) (IsFineClass a)
          (λ type c fine h. generics_are parts a classes r code image names s known 0x02 type (class_generics c) (its_generics a c fine) h)
          2 classes (fine_classes a classes are held.formed held.light) known.generics.types;
      methods =
          each_with (λ row (m : Method). GenericsOf a classes r image 0x06 row m.generics) (λ row (m : Method). GenericsAre image names 0x06 row m.generics) (IsFine (is_method a) method_weight)
          (λ row m fine h. generics_are parts a classes r code image names s known 0x06 row m.generics (method_generics a m fine) h)
          1 (all_methods a classes) (fine_methods a classes are held.formed held.light) known.generics.methods;
    }
