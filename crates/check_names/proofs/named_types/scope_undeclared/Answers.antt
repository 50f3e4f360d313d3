use Rattle.std.proofs.Common.{◌∙◌, ap}
use Rattle.source_nodes.specs.Least.{least}
use Rattle.check_names.proofs.NamedTypeLemmas.{scopes_are}
use Rattle.check_names.proofs.named_types.scope_undeclared.Goals as goal

pub returns : goal.returns
returns c s r e o = c.in_ok-first.ensures s r ∙ ap least (scopes_are s c.args.externs.now.names c.args.own.now.names e.texts o.texts)
