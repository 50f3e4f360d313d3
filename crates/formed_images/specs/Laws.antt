-- What an image reads as is a well-formed assembly.
use Rattle.std.specs.Prelude.{ℕ, ◌^◌, ◌<◌, ◌≤◌, List, IsTrue, length, slice_index}
use Rattle.assembly_tree.specs.WellFormed.{is_well_formed}
use Rattle.assembly_tree.specs.declared.assembly.Assembly.{Assembly}
use Rattle.image_model.specs.Faults.{Reads}

-- each is below 256
abbrev pub AreBytes : List ℕ → Type 0
AreBytes bytes = (k : ℕ) → slice_index bytes k < 256

-- An image of at most 2^26 bytes that reads as an assembly reads as a well-formed one. The length bounds the rows of methods and
-- of references to them, so that each has a token; and numbers are in the ranges of their widths where the bytes are bytes.
abbrev pub ReadIsFormed : Type 0
ReadIsFormed = (image : List ℕ) (a : Assembly) → AreBytes image → length image ≤ 2 ^ 26 → Reads image a → IsTrue (is_well_formed a)
