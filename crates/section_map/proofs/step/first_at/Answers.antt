use Rattle.std.proofs.Common.{◌≡◌, sym, ◌∙◌, ap}
use Rattle.section_map.specs.Steps.{value_of}
use Rattle.section_map.proofs.Reaching.{reached_tells}
use Rattle.section_map.proofs.step.first_at.Goals as goal

pub returns : goal.returns
returns c =
    let same : c.from.result ≡ c.args.address = cc in
    c.first_before.ensures ∙ sym (reached_tells c.args.steps.now c.from.result c.reached.result c.reached.ensures) ∙ ap (value_of c.args.steps.now) same
