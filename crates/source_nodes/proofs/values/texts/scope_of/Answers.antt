use Rattle.std.proofs.Common.{List, ℕ, subst, sym}
use Rattle.il_lexer.specs.Spelled.{IsName}
use Rattle.source_model.specs.Values.{part_texts}
use Rattle.source_nodes.specs.NameTexts.{IsTextOf}
use Rattle.source_nodes.proofs.NameLemmas.{in_brackets}
use Rattle.source_nodes.proofs.values.texts.scope_of.Goals as goal

pub returns : goal.returns
returns c = λ h.
    subst (λ (w : List ℕ). IsTextOf (part_texts w) c.in_ok-name.name.text c.in_ok-name.name.last) c.between_ends.ensures
    (c.in_ok-name.ensures (subst IsName (sym c.between_ends.ensures) (in_brackets c.args.spelling.now h)))
