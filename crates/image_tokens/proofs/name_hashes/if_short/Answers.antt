use Rattle.std.proofs.Common.{arith}
use Rattle.image_tokens.proofs.NameHashLemmas.{short_in_is}
use Rattle.image_tokens.proofs.name_hashes.if_short.Goals as goal

pub returns-then-text-le-MOST-clause-is : goal.returns-then-text-le-MOST-clause-is
returns-then-text-le-MOST-clause-is c = short_in_is c.args.text.now c.if-text-le-MOST.true (λ i. omega (arith, c.type_inv.text i))
