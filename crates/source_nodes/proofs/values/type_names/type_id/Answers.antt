use Rattle.std.proofs.Common.{sym, ◌∙◌}
use Rattle.source_nodes.proofs.PlainNames.{plain_ascii, plain_text}
use Rattle.source_nodes.proofs.values.type_names.type_id.Goals as goal

pub copied_id-requires : goal.copied_id-requires
copied_id-requires c = plain_ascii 0 0 c.args.spelling.now c.in-Some.last (sym c.plain_last.ensures ∙ c.in-Some.is)

pub returns-in-Some : goal.returns-in-Some
returns-in-Some c = λ n u. c.copied_id.ensures (plain_text c.args.spelling.now c.in-Some.last (sym c.plain_last.ensures ∙ c.in-Some.is) n)
