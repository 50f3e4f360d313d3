use Rattle.std.proofs.Common.{sym, ◌∙◌}
use Rattle.source_nodes.proofs.PlainNames.{plain_text}
use Rattle.source_nodes.proofs.values.type_names.plain_name.Goals as goal

pub returns-in-Some : goal.returns-in-Some
returns-in-Some c = λ n. (plain_text c.args.spelling.now c.in-Some.field-0 (sym c.plain_last.ensures ∙ c.in-Some.is) n).whole
