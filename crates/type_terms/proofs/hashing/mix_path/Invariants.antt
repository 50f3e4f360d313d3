use Rattle.std.proofs.Common.{◌≡◌, take, fold}
use Rattle.type_terms.specs.Hashing.{mix_id}
use Rattle.type_terms.proofs.hashing.mix_path.Given as goal

abbrev pub invariant-loop-id : goal.invariant-loop-id
invariant-loop-id l = l.hash ≡ fold mix_id l.fn.hash (take l.id-index l.path)
