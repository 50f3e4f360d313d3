use Rattle.std.proofs.Common.{◌≡◌, take, fold}
use Rattle.source_nodes.specs.TextHash.{mix_near}
use Rattle.source_nodes.proofs.hashes.mix_text_near.Given as goal

abbrev pub invariant-loop-byte : goal.invariant-loop-byte
invariant-loop-byte l = l.hash ≡ fold mix_near l.fn.hash (take l.byte-index l.text)
