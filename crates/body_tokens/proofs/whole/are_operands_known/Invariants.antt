use Rattle.std.proofs.Common.{take}
use Rattle.std.specs.List.{All}
use Rattle.body_tokens.specs.Tokens.{IsUseKnown}
use Rattle.body_tokens.proofs.whole.are_operands_known.Given as goal

abbrev pub invariant-loop-one : goal.invariant-loop-one
invariant-loop-one l = All (IsUseKnown l.image) (take l.one-index l.uses)
