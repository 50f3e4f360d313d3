use Rattle.std.proofs.Common.{◌≡◌, true, take}
use Rattle.std.specs.List.{list_all}
use Rattle.assembly_tree.specs.WellFormedTerms.{is_made_well}
use Rattle.assembly_tree.proofs.formed.terms.+made_well.Given as goal

abbrev pub invariant-are_made_well-loop-of : goal.invariant-are_made_well-loop-of
invariant-are_made_well-loop-of l = list_all (is_made_well l.a) (take l.of-index l.args) ≡ true
