use Rattle.std.proofs.Common.{◌∙◌, ap}
use Rattle.std.specs.Prelude.{map}
use Rattle.ilasm_grammar.specs.declared.productions.TheConstants.{DATA}
use Rattle.source_model.specs.Forest.{each}
use Rattle.source_model.specs.Values.{name_text}
use Rattle.source_nodes.specs.Least.{least}
use Rattle.check_names.proofs.MissingLemmas.{labels_missing}
use Rattle.source_syntax.proofs.NamingLemmas.{labels_are}
use Rattle.check_names.proofs.undeclared.label_undeclared.Goals as goal

pub returns : goal.returns
returns c s r n =
    c.in_ok-first.ensures s r
    ∙ ap least (labels_missing s c.args.labels.now.names (n.texts ∙ ap (map (name_text s)) (labels_are (each DATA s.tree))))
