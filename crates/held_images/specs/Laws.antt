-- What an image reads as is held in a tree of memory.
use Rattle.std.specs.Prelude.{ℕ, List, IsTrue}
use Rattle.assembly_tree.specs.declared.assembly.Assembly.{Assembly}
use Rattle.formed_images.specs.Laws.{AreBytes}
use Rattle.image_model.specs.Faults.{Reads}
use Rattle.listing_growth.specs.Held.{is_held}

-- The numbers of an assembly that an image reads as fit their fields: they are numbers of two or four bytes of the image, of
-- instructions of a body, or of operands (II.22, II.25.4, III.1.9). Its blobs and data are bytes, its texts UTF-16 units, and
-- each path has a name (II.22.32, II.22.38).
abbrev pub ReadsAreHeld : Type 0
ReadsAreHeld = (image : List ℕ) (a : Assembly) → AreBytes image → Reads image a → IsTrue (is_held a)
