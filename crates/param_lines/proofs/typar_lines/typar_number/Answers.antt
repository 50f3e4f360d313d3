use Rattle.std.proofs.Common.{ap, sym, subst, ◌∙◌}
use Rattle.il_lexer.specs.declared.types.TokenKind.TheVariants.{Name}
use Rattle.ilasm_grammar.specs.declared.productions.TheConstants.{TYPAR_KEY_NAME}
use Rattle.source_model.specs.Forest.{the}
use Rattle.source_model.specs.Values.{name_text}
use Rattle.source_nodes.specs.Readers.{IsOf}
use Rattle.param_lines.proofs.KeyLemmas.{by_name, key_name}
use Rattle.param_lines.proofs.typar_lines.typar_number.Goals as goal

pub returns : goal.returns
returns c s p r below speaks h few =
    let none = sym (c.has.ensures p.below below) ∙ c.if-has.false in
    let token = c.leaf_at-2.ensures (the TYPAR_KEY_NAME p.below) (sym (c.the-2.ensures p.below below)) in
    let known : IsOf s Name c.leaf_at-2.result = subst (IsOf s Name) (sym token) (key_name s p speaks h none) in
    let text = c.as_bytes.ensures ∙ c.in_ok-name.ensures s r known ∙ ap (name_text s) token in
    by_name s c.args.names.now p.below c.number_of.result c.as_bytes.result.now none few text c.number_of.ensures
