-- What is asked of the values of each table's rows (I16), apart.
use Rattle.std.proofs.Common.{◌≡◌, ◌≢◌, ℕ, List, refl, arith}
use Rattle.std.specs.Prelude.{◌↔◌}
use Rattle.body_codec.specs.Names.{NameMap}
use Rattle.image_model.specs.Columns.{event_type}
use Rattle.image_model.specs.Members.{HasValues, HasGenerics, HasLayout, HasConstants, HasKinds, event_kinds, property_kinds, OverridesInClass}
use Rattle.image_model.specs.Rows.{HasRow}

pub values_of_types : (image : List ℕ) (names : NameMap) (row : ℕ) → HasRow image 0x02 row → (HasGenerics image 0x02 row × HasLayout image row) ↔ HasValues image names 0x02 row
values_of_types image names row there = (
  λ p. record { type_generics = λ e h. p.0; layout = λ e h. p.1; field = λ e h. absurd (omega arith); method_generics = λ e h. absurd (omega arith); method = λ e h. absurd (omega arith); param = λ e h. absurd (omega arith); event_of = λ e h. absurd (omega arith); event_kinds_are = λ e h. absurd (omega arith); property = λ e h. absurd (omega arith); property_kinds_are = λ e h. absurd (omega arith); override = λ e h. absurd (omega arith); instance = λ e h. absurd (omega arith) },
  λ v. (v.type_generics refl there, v.layout refl there),
)

pub values_of_params : (image : List ℕ) (names : NameMap) (row : ℕ) → HasRow image 0x08 row → HasConstants image 0x08 row ↔ HasValues image names 0x08 row
values_of_params image names row there = (
  λ p. record { type_generics = λ e h. absurd (omega arith); layout = λ e h. absurd (omega arith); field = λ e h. absurd (omega arith); method_generics = λ e h. absurd (omega arith); method = λ e h. absurd (omega arith); param = λ e h. p; event_of = λ e h. absurd (omega arith); event_kinds_are = λ e h. absurd (omega arith); property = λ e h. absurd (omega arith); property_kinds_are = λ e h. absurd (omega arith); override = λ e h. absurd (omega arith); instance = λ e h. absurd (omega arith) },
  λ v. v.param refl there,
)

pub values_of_events : (image : List ℕ) (names : NameMap) (row : ℕ) → HasRow image 0x14 row → ((event_type image row ≢ 0) × HasKinds image event_kinds 0x14 row) ↔ HasValues image names 0x14 row
values_of_events image names row there = (
  λ p. record { type_generics = λ e h. absurd (omega arith); layout = λ e h. absurd (omega arith); field = λ e h. absurd (omega arith); method_generics = λ e h. absurd (omega arith); method = λ e h. absurd (omega arith); param = λ e h. absurd (omega arith); event_of = λ e h. p.0; event_kinds_are = λ e h. p.1; property = λ e h. absurd (omega arith); property_kinds_are = λ e h. absurd (omega arith); override = λ e h. absurd (omega arith); instance = λ e h. absurd (omega arith) },
  λ v. (v.event_of refl there, v.event_kinds_are refl there),
)

pub values_of_properties : (image : List ℕ) (names : NameMap) (row : ℕ) → HasRow image 0x17 row → (HasConstants image 0x17 row × HasKinds image property_kinds 0x17 row) ↔ HasValues image names 0x17 row
values_of_properties image names row there = (
  λ p. record { type_generics = λ e h. absurd (omega arith); layout = λ e h. absurd (omega arith); field = λ e h. absurd (omega arith); method_generics = λ e h. absurd (omega arith); method = λ e h. absurd (omega arith); param = λ e h. absurd (omega arith); event_of = λ e h. absurd (omega arith); event_kinds_are = λ e h. absurd (omega arith); property = λ e h. p.0; property_kinds_are = λ e h. p.1; override = λ e h. absurd (omega arith); instance = λ e h. absurd (omega arith) },
  λ v. (v.property refl there, v.property_kinds_are refl there),
)

pub values_of_overrides : (image : List ℕ) (names : NameMap) (row : ℕ) → HasRow image 0x19 row → OverridesInClass image row ↔ HasValues image names 0x19 row
values_of_overrides image names row there = (
  λ p. record { type_generics = λ e h. absurd (omega arith); layout = λ e h. absurd (omega arith); field = λ e h. absurd (omega arith); method_generics = λ e h. absurd (omega arith); method = λ e h. absurd (omega arith); param = λ e h. absurd (omega arith); event_of = λ e h. absurd (omega arith); event_kinds_are = λ e h. absurd (omega arith); property = λ e h. absurd (omega arith); property_kinds_are = λ e h. absurd (omega arith); override = λ e h. p; instance = λ e h. absurd (omega arith) },
  λ v. v.override refl there,
)
