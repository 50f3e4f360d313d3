use Rattle.std.proofs.Common.{◌≡◌, ◌++◌, take}
use Rattle.std.specs.List.{filter_map}
use Rattle.body_codec.specs.NamedTokens.{token_in}
use Rattle.body_codec.specs.Reading.{pieces_of}
use Rattle.body_codec.proofs.decoding.tokens.push_operands.Given as goal

abbrev pub invariant-loop-mark : goal.invariant-loop-mark
invariant-loop-mark l = l.tokens ≡ l.fn.tokens ++ filter_map token_in (take l.mark-index (pieces_of l.code l.marks))
