use Rattle.std.proofs.Common.{◌≡◌, take}
use Rattle.type_terms.proofs.term.+copied.Given as goal

abbrev pub invariant-SigType::copied_all-loop-of : goal.invariant-SigType::copied_all-loop-of
invariant-SigType::copied_all-loop-of l = l.copies ≡ take l.of-index l.types
