use Rattle.std.proofs.Common.{◌∙◌, ap, length}
use Rattle.std.specs.Prelude.{ℕ, pos}
use Rattle.std.specs.List.{flat_map}
use Rattle.std.proofs.lemmas.List.{length-map}
use Rattle.ilasm_grammar.specs.declared.productions.TheConstants.{TYPAR_KEY_BRACKET}
use Rattle.source_model.specs.Forest.{Forest, each, leaf_at}
use Rattle.source_model.specs.Nodes.{typars}
use Rattle.source_model.specs.TypeRules.{is_within, unless}
use Rattle.source_model.specs.Values.{name_text}
use Rattle.source_nodes.specs.Least.{least}
use Rattle.check_names.proofs.param_numbers.typar_number.Goals as goal

pub returns : goal.returns
returns c s owner f r names e =
    c.beyond_in_each.ensures s f r e
    ∙ ap (λ (n : ℕ). least (flat_map (λ (g : Forest). unless (is_within (pos 1) (pos n)) s (leaf_at 1 g)) (each TYPAR_KEY_BRACKET f)))
    (c.len.ensures ∙ ap length names ∙ length-map (typars owner) (λ (g : Forest). name_text s (leaf_at 0 g)))
