use Rattle.std.proofs.Common.{ap, sym, ◌∙◌}
use Rattle.std.specs.Prelude.{map}
use Rattle.ilasm_grammar.specs.declared.productions.TheConstants.{DATA}
use Rattle.source_model.specs.Forest.{each}
use Rattle.source_model.specs.Values.{name_text}
use Rattle.source_syntax.proofs.NamingLemmas.{labels_are}
use Rattle.check_names.proofs.MappedData.{length_absent, length_found}
use Rattle.check_names.proofs.mapped_data.length_named.Goals as goal

pub returns-in-Some : goal.returns-in-Some
returns-in-Some c s n lengths =
    c.length_at.ensures
    ∙ length_found s c.args.label.now c.args.labels.now.names c.args.lengths.now (n.texts ∙ ap (map (name_text s)) (labels_are (each DATA s.tree))) lengths
    c.in-Some.k (sym c.in-Some.is ∙ c.find.ensures)

pub returns-in-None : goal.returns-in-None
returns-in-None c s n lengths =
    length_absent s c.args.label.now c.args.labels.now.names c.args.lengths.now (n.texts ∙ ap (map (name_text s)) (labels_are (each DATA s.tree))) lengths
    (sym c.in-None.is ∙ c.find.ensures)
