use Rattle.std.proofs.Common.{map, ap, sym, ◌∙◌}
use Rattle.ilasm_grammar.specs.declared.productions.TheConstants.{DATA}
use Rattle.source_model.specs.Data.{labelled}
use Rattle.source_model.specs.Forest.{each}
use Rattle.source_model.specs.Values.{name_text}
use Rattle.source_syntax.proofs.NamingLemmas.{labels_are}
use Rattle.lower_members.proofs.LabelledLemmas.{bytes_absent, bytes_found}
use Rattle.lower_members.proofs.labelled_data.LabelledData.runs_named.Goals as goal

pub returns-in-Some : goal.returns-in-Some
returns-in-Some c s d =
    let names = d.labels-are.texts ∙ ap (map (name_text s)) (labels_are (each DATA s.tree)) in
    c.runs_numbered.ensures s (labelled s) d.contents-are
    ∙ bytes_found s c.args.label.now c.args.self.now.labels.names names c.in-Some.k (sym c.in-Some.is ∙ c.find.ensures)

pub returns-in-None : goal.returns-in-None
returns-in-None c s d =
    bytes_absent s c.args.label.now c.args.self.now.labels.names (d.labels-are.texts ∙ ap (map (name_text s)) (labels_are (each DATA s.tree)))
    (sym c.in-None.is ∙ c.find.ensures)
