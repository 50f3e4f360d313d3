use Rattle.std.proofs.Common.{◌≡◌, take}
use Rattle.image_used.specs.Spreading.{Spreads, TokensName}
use Rattle.image_used.proofs.spread.Spread.mark_tokens.Given as goal

abbrev pub invariant-loop-token : goal.invariant-loop-token
invariant-loop-token l =
    Spreads l.fn.self.marks l.fn.self.todo l.self.marks l.self.todo (TokensName (take l.token-index l.tokens)) × (l.self.seen ≡ l.fn.self.seen)
