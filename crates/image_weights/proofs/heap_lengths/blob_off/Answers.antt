use Rattle.std.proofs.Common.{arith}
use Rattle.image_weights.proofs.TextLengths.{blob_found, blob_missing}
use Rattle.image_weights.proofs.heap_lengths.blob_off.Goals as goal

pub returns-in-Some : goal.returns-in-Some
returns-in-Some c =
    let there = blob_found c.blob_is_computed.ensures c.args.heap.now c.args.at c.in-Some.blob.now c.in-Some.ensures.found in
    let off = c.saturating_sub.ensures in
    omega (arith, there, off)

pub returns-in-None : goal.returns-in-None
returns-in-None c =
    let none = blob_missing c.blob_is_computed.ensures c.args.heap.now c.args.at c.in-None.ensures.none in
    omega (arith, none)
