use Rattle.std.proofs.Common.{◌∙◌, ap}
use Rattle.source_nodes.specs.Least.{least}
use Rattle.check_names.proofs.NamedTypeLemmas.{types_are}
use Rattle.check_names.proofs.named_types.type_undeclared.Goals as goal

pub returns : goal.returns
returns c s r e o k =
    c.in_ok-first.ensures s r
    ∙ ap least (types_are s c.args.externs.now.names c.args.own.now.names e.texts o.texts c.args.classes.now.paths k.knows)
