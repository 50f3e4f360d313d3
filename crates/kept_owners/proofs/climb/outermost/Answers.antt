use Rattle.std.proofs.Common.{◌-◌, length, arith}
use Rattle.kept_owners.proofs.Ids.{last_is}
use Rattle.kept_owners.proofs.climb.outermost.Goals as goal

pub returns : goal.returns
returns c = last_is c.args.rows.now (length c.args.rows.now - 1) _ (let some = c.requires in omega arith)
