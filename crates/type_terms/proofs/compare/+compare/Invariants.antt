use Rattle.std.proofs.Common.{◌≡◌, drop}
use Rattle.std.specs.Cmp.Lexicographic.{slice_cmp}
use Rattle.type_terms.specs.Order.{term_order}
use Rattle.type_terms.proofs.compare.+compare.Given as goal

abbrev pub invariant-compare_all-loop-x : goal.invariant-compare_all-loop-x
invariant-compare_all-loop-x l = slice_cmp term_order l.a l.b ≡ slice_cmp term_order (drop l.x-index l.a) l.others
