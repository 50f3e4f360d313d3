use Rattle.formed_images.proofs.ranges.bytes_in_range.Goals as goal

pub returns : goal.returns
returns c = λ k. (c.type_inv._bytes k).fits
