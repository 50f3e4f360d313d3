use Rattle.std.proofs.Common.{arith, ◌∙◌, ◌+◌, ap}
use Rattle.code_flow.specs.Leaving.{goes_behind}
use Rattle.code_flow.proofs.ExitLemmas.{behind_near}
use Rattle.code_flow.proofs.leaving.goes_on.Goals as goal

pub returns : goal.returns
returns c =
    c.goes_behind.ensures ∙ ap (goes_behind c.args.place c.args.leave) c.as_slice.ensures ∙ behind_near c.args.place c.args.leave (c.args.place + 1) (omega arith) c.near.ensures.picks
