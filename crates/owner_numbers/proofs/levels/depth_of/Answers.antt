use Rattle.std.proofs.Common.{sym}
use Rattle.image_model.specs.Rows.{token_of}
use Rattle.owner_numbers.proofs.Told.{depth_found, depth_lacks}
use Rattle.owner_numbers.proofs.levels.depth_of.Goals as goal

pub returns-in-Some : goal.returns-in-Some
returns-in-Some g c = depth_found (g.F.Owners.facts c.args.facts.now (token_of 0x1B c.args.row)) c.in-Some.of (sym c.in-Some.ensures)

pub returns-in-None : goal.returns-in-None
returns-in-None g c = depth_lacks (g.F.Owners.facts c.args.facts.now (token_of 0x1B c.args.row)) 0 (sym c.in-None.ensures)
