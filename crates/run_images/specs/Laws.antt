-- The numbers of the demands on an image (ECMA-335 II.22, II.24, II.25).
use Rattle.std.specs.Prelude.{ℕ, ◌≤◌, List}
use Rattle.image_model.specs.Faults.{IsImageFault}
use Rattle.image_model.specs.declared.place.Place.{Place}

abbrev pub FaultsAreNumbered : Type 0
FaultsAreNumbered = (image : List ℕ) (rule : ℕ) (at : Place) → IsImageFault image rule at → (1 ≤ rule) × (rule ≤ 24)
