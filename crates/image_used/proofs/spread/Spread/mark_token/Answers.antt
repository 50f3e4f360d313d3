use Rattle.std.proofs.Common.{◌/◌, ◌%◌, ◌^◌}
use Rattle.image_model.specs.Naming.{IsToken}
use Rattle.image_used.specs.Spreading.{IsRow}
use Rattle.image_used.proofs.Spreading.{on_ok, spreads_as, token_row, row_token}
use Rattle.image_used.proofs.spread.Spread.mark_token.Goals as goal

pub returns-clause-marked : goal.returns-clause-marked
returns-clause-marked c =
    on_ok c.mark.result c.mark.ensures.marked
    (spreads_as c.args.self.now.marks c.mark.new.self.marks c.args.self.now.todo c.mark.new.self.todo (IsRow (c.args.token / 2 ^ 24) (c.args.token % 2 ^ 24)) (IsToken c.args.token) (token_row c.args.token) (row_token c.args.token))
