use Rattle.std.proofs.Common.{take}
use Rattle.std.specs.List.{All}
use Rattle.body_tokens.specs.Tokens.{IsTypeToken}
use Rattle.body_tokens.proofs.whole.are_types.Given as goal

abbrev pub invariant-loop-token : goal.invariant-loop-token
invariant-loop-token l = All (IsTypeToken l.image) (take l.token-index l.tokens)
