-- What is printed of what is read denotes it.
use Rattle.std.proofs.Common.{ℕ, List, IsTrue, arith}
use Rattle.std.specs.Prelude.{IsUtf8}
use Rattle.assembly_tree.specs.WellFormed.{is_well_formed}
use Rattle.assembly_tree.specs.declared.assembly.Assembly.{Assembly}
use Rattle.formed_images.specs.Laws.{AreBytes}
use Rattle.held_images.specs.Laws.{ReadsAreHeld}
use Rattle.image_model.specs.Faults.{Reads}
use Rattle.listing_denotes.specs.Classes.{ListingsDenote}
use Rattle.listing_model.specs.Canon.{listing}
use Rattle.source_model.specs.Denotes.{Denotes}

pub denoted : ListingsDenote → ReadsAreHeld → (image : List ℕ) (a : Assembly) → AreBytes image → IsTrue (is_well_formed a) → Reads image a → IsUtf8 (listing a)
    → Denotes (listing a) a
denoted law held image a bytes formed reads utf8 =
    let weight = reads.weight in
    law a (record { formed = formed; light = omega (arith, weight); held = held image a bytes reads }) utf8
