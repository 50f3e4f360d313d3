-- The place of a method among those of its type.
use Rattle.std.proofs.Common.{ℕ, ◌≤◌, List}
use Rattle.std.specs.Prelude.{Contains}
use Rattle.image_model.specs.Rows.{count_of, first_method, methods_of}
use Rattle.row_demands.proofs.Tiles.{ends, range_contains}

pub method_behind : (image : List ℕ) (type method : ℕ) → Contains (methods_of image type) method → first_method image type ≤ method
unfolding methods_of
method_behind image type method has = (range_contains (first_method image type) (ends (first_method image) (count_of image 0x02) (count_of image 0x06) type) method has).0
