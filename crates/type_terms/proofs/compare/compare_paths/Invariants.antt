use Rattle.std.proofs.Common.{◌≡◌, drop}
use Rattle.std.specs.Cmp.Lexicographic.{slice_cmp}
use Rattle.type_terms.specs.Order.{id_order}
use Rattle.type_terms.proofs.compare.compare_paths.Given as goal

abbrev pub invariant-loop-x : goal.invariant-loop-x
invariant-loop-x l = slice_cmp id_order l.a l.b ≡ slice_cmp id_order (drop l.x-index l.a) l.others
