use Rattle.std.proofs.Common.{refl}
use Rattle.row_signatures.proofs.Holding.{none_held, some_held}
use Rattle.row_signatures.proofs.signed.tokens_at.Goals as goal

pub returns-in-None : goal.returns-in-None
returns-in-None c = none_held c.args.image.now c.args.table c.args.index c.new-tokens.result c.new-tokens.ensures (rw c.blobs.ensures at c.in-None.ensures.none)

pub returns-in_ok-put_tokens-in-Some : goal.returns-in_ok-put_tokens-in-Some
returns-in_ok-put_tokens-in-Some c =
    some_held c.args.image.now c.args.table c.args.index c.put_tokens.new.into c.in-Some.bytes.now (rw c.blobs.ensures at c.in-Some.ensures.found) c.in_ok-put_tokens-in-Some.ensures
