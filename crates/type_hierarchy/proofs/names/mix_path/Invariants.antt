use Rattle.std.proofs.Common.{◌≡◌, take, fold}
use Rattle.type_hierarchy.specs.NameHash.{mix_id}
use Rattle.type_hierarchy.proofs.names.mix_path.Given as goal

abbrev pub invariant-loop-id : goal.invariant-loop-id
invariant-loop-id l = l.hash ≡ fold mix_id l.fn.hash (take l.id-index l.path)
