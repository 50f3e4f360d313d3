use Rattle.std.proofs.Common.{ap, ◌∙◌}
use Rattle.source_model.specs.Data.{repeated}
use Rattle.lower_members.proofs.RunLemmas.{nothing_many}
use Rattle.lower_members.proofs.runs.Run.is_empty.Goals as goal

pub returns-else-self-eq0 : goal.returns-else-self-eq0
returns-else-self-eq0 c none = ap (repeated c.args.self.now.count) (c.is_empty.ensures.0 none) ∙ nothing_many c.args.self.now.count
