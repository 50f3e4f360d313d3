-- What is needed for each part in turn.
use Rattle.std.proofs.Common.{◌≡◌, ℕ, ◌+◌, ◌≤◌, ◌^◌, List, length, map, arith}
use Rattle.std.specs.Prelude.{sum_by}
use Rattle.assembly_tree.specs.declared.assembly.Assembly.{Assembly}
use Rattle.image_tokens.specs.References.{size}
use Rattle.image_tokens.specs.declared.references.References.{References}
use Rattle.image_members.specs.CodeBytes.{body_of, stated_room}
use Rattle.image_members.specs.DataRows.{all_data, data_room}
use Rattle.image_rows.specs.Filled.{HoldsManifest, HoldsTypes, HoldsMethods, HoldsProperties}
use Rattle.image_members.specs.Places.{all_fields, all_methods}
use Rattle.image_members.specs.Pushing.{Tables}
use Rattle.image_members.specs.declared.classes.Class.{Class}
use Rattle.image_tables.specs.FieldPart.{FillsFields}
use Rattle.image_tables.specs.Filling.{method_part, type_part, property_part, filled_bytes, IsReady, Fills, Lengthens}
use Rattle.image_tables.proofs.FillLemmas.{filled_bytes_are, code_bytes_are, ready_less, ready_on, fields_filled_on}
use Rattle.laws_tree_weights.specs.ImageBytes.{manifest_bytes, owned_bytes, code_bytes}

-- how many bytes the parts from one on bring
abbrev from_properties : Assembly → List Class → ℕ
from_properties a classes = property_part classes + owned_bytes a classes

abbrev from_types : Assembly → List Class → ℕ
from_types a classes = type_part classes + from_properties a classes

abbrev from_methods : Assembly → List Class → ℕ
from_methods a classes = method_part a classes + from_types a classes

module _ (a : Assembly) (classes : List Class) (r0 : References) (t0 : Tables) (ready : IsReady 0 (filled_bytes a classes) a classes r0 t0) where
  pub manifest_room : size r0 + manifest_bytes a ≤ 2 ^ 26
  manifest_room = let bytes = filled_bytes_are a classes in let room = ready.room in omega arith

  pub bodies_room : (code : List ℕ) → length code + code_bytes a classes ≤ 2 ^ 26 → length code + sum_by stated_room (map body_of (all_methods a classes)) ≤ 2 ^ 26
  bodies_room code long = let bytes = code_bytes_are a classes in omega arith

  pub data_long : (code0 code1 : List ℕ) → length code0 + code_bytes a classes ≤ 2 ^ 26 → Lengthens (sum_by stated_room (map body_of (all_methods a classes))) code0 code1
      → length code1 + sum_by data_room (all_data 1 (all_fields a classes)) ≤ 2 ^ 26
  data_long code0 code1 long lengthens = let bytes = code_bytes_are a classes in let first = lengthens.long in omega arith

  module _ (r1 : References) (t1 : Tables) (manifest : Fills 0 (manifest_bytes a) (HoldsManifest a) r0 r1 t0 t1) where
    for_methods : IsReady 1 (from_methods a classes) a classes r1 t1
    for_methods = ready_on a classes 0 (manifest_bytes a) (from_methods a classes) (HoldsManifest a) r0 r1 t0 t1
        (ready_less a classes 0 (manifest_bytes a + from_methods a classes) (filled_bytes a classes) r0 t0 (let bytes = filled_bytes_are a classes in omega arith) ready) manifest

    pub methods_ready : IsReady 1 (method_part a classes) a classes r1 t1
    methods_ready = ready_less a classes 1 (method_part a classes) (from_methods a classes) r1 t1 (omega arith) for_methods

    module _ (code : List ℕ) (r2 : References) (t2 : Tables) (methods : Fills 1 (method_part a classes) (λ r t. HoldsMethods a classes r t code) r1 r2 t1 t2) where
      for_types : IsReady 2 (from_types a classes) a classes r2 t2
      for_types = ready_on a classes 1 (method_part a classes) (from_types a classes) (λ r t. HoldsMethods a classes r t code) r1 r2 t1 t2 for_methods methods

      pub types_ready : IsReady 2 (type_part classes) a classes r2 t2
      types_ready = ready_less a classes 2 (type_part classes) (from_types a classes) r2 t2 (omega arith) for_types

      module _ (r3 : References) (t3 : Tables) (types : Fills 2 (type_part classes) (HoldsTypes a classes) r2 r3 t2 t3) where
        pub fields_ready : IsReady 3 (property_part classes + owned_bytes a classes) a classes r3 t3
        fields_ready = ready_on a classes 2 (type_part classes) (property_part classes + owned_bytes a classes) (HoldsTypes a classes) r2 r3 t2 t3 for_types types

        module _ (also : List ℕ) (t4 : Tables) (fields : FillsFields (all_fields a classes) r3 also t3 t4) where
          for_properties : IsReady 4 (property_part classes + owned_bytes a classes) a classes r3 t4
          for_properties = fields_filled_on a classes (property_part classes + owned_bytes a classes) r3 t3 t4 also fields_ready fields

          pub properties_ready : IsReady 4 (property_part classes) a classes r3 t4
          properties_ready = ready_less a classes 4 (property_part classes) (property_part classes + owned_bytes a classes) r3 t4 (omega arith) for_properties

          pub owned_ready : (r4 : References) (t5 : Tables) → Fills 4 (property_part classes) (HoldsProperties a classes) r3 r4 t4 t5 → IsReady 5 (owned_bytes a classes) a classes r4 t5
          owned_ready r4 t5 properties = ready_on a classes 4 (property_part classes) (owned_bytes a classes) (HoldsProperties a classes) r3 r4 t4 t5 for_properties properties
