-- How the members of types are found, as it is kept (II.22.12, II.22.27, II.22.35).
use Rattle.std.specs.Prelude.{ℕ, List}
use Rattle.image_methods.specs.Overriders.{AreOverriders}
use Rattle.image_model.specs.Rows.{count_of}
use Rattle.row_demands.specs.Members.{AreFirsts}

-- for each type its first row of EventMap and of PropertyMap, and for each row of MethodImpl the method that overrides
pub record AreMaps (image events properties bodies : List ℕ) : Type 0 where
  pub events_are : AreFirsts image 0x12 (count_of image 0x02) events
  pub properties_are : AreFirsts image 0x15 (count_of image 0x02) properties
  pub overrides_are : AreOverriders image bodies
