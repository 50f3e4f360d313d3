use Rattle.std.proofs.Common.{sym}
use Rattle.image_model.specs.Rows.{token_of}
use Rattle.owner_numbers.proofs.Told.{level_found, level_lacks}
use Rattle.owner_numbers.proofs.levels.has_level.Goals as goal

pub returns-in-Some : goal.returns-in-Some
returns-in-Some g c = level_found (g.F.Owners.facts c.args.facts.now (token_of 0x1B c.args.row)) c.in-Some.of c.args.level (sym c.in-Some.ensures)

pub returns-in-None : goal.returns-in-None
returns-in-None g c = level_lacks (g.F.Owners.facts c.args.facts.now (token_of 0x1B c.args.row)) c.args.level (sym c.in-None.ensures)
