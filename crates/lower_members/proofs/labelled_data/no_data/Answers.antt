use Rattle.std.proofs.Common.{map, ap, sym, ◌∙◌}
use Rattle.std.specs.Prelude.{filter}
use Rattle.std.specs.List.{flat_map}
use Rattle.ilasm_grammar.specs.declared.productions.TheConstants.{DATA_LABEL}
use Rattle.source_model.specs.Data.{data_bytes}
use Rattle.source_model.specs.Forest.{below_each, has}
use Rattle.source_model.specs.Values.{name_text}
use Rattle.source_syntax.specs.Namings.{tokens_named}
use Rattle.source_syntax.specs.declared.name_lists.Naming.TheVariants.{Label}
use Rattle.lower_members.specs.Runs.{bytes_of_each}
use Rattle.lower_members.proofs.labelled_data.no_data.Goals as goal

pub returns : goal.returns
returns c s none =
    let tokens = sym (ap (λ ps. flat_map (tokens_named Label) (below_each ps)) none) in
    record {
      labels-are = record { tokens = c.new-tokens.ensures ∙ tokens; texts = c.new-names.ensures ∙ ap (map (name_text s)) tokens };
      contents-are = ap bytes_of_each c.new-contents.ensures ∙ sym (ap (λ ps. map (data_bytes s) (filter (has DATA_LABEL) (below_each ps))) none);
    }
