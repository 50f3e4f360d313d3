-- The params of a method (II.22.33).
use Rattle.std.proofs.Common.{◌≡◌, ℕ, List, refl}
use Rattle.image_model.specs.Rows.{params_of}
use Rattle.row_demands.specs.Members.{run_of}

pub params_are : (image : List ℕ) (method : ℕ) → params_of image method ≡ run_of image 0x06 5 0x08 method
unfolding params_of
params_are image method = refl
