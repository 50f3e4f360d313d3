use Rattle.std.proofs.Common.{◌≡◌, ap, sym, subst, ◌∙◌}
use Rattle.std.specs.Prelude.{Bool, if◌then◌else◌}
use Rattle.il_lexer.specs.declared.types.TokenKind.TheVariants.{Name}
use Rattle.ilasm_grammar.specs.declared.productions.TheConstants.{INDEX_INT, INDEX_NAME}
use Rattle.source_model.specs.Forest.{has, leaf_at, the}
use Rattle.source_model.specs.Shapes.{natural}
use Rattle.source_model.specs.Types.{number_of}
use Rattle.source_model.specs.Values.{int_at, name_text}
use Rattle.source_nodes.specs.Readers.{IsOf}
use Rattle.source_syntax.proofs.VariableLemmas.{written_number, written_name}
use Rattle.source_syntax.proofs.place.Place.variable.Goals as goal

pub returns-then-has : goal.returns-then-has
returns-then-has c s r few f e index =
    let some = sym (c.has.ensures f e) ∙ c.if-has.true in
    let at = c.leaf_at.ensures (the INDEX_INT f) (sym (c.the.ensures f e)) in
    let word = index.numbered some in
    written_number s c.args.names.now f c.leaf_at.result c.natural.result word.0 some at word.1 (λ is. c.natural.ensures s r word.0 is word.2)

pub returns : goal.returns
returns c s r few f e index =
    let none = sym (c.has.ensures f e) ∙ c.if-has.false in
    let at = c.leaf_at-2.ensures (the INDEX_NAME f) (sym (c.the-2.ensures f e)) in
    let named : IsOf s Name c.leaf_at-2.result = subst (IsOf s Name) (sym at) (index.named none) in
    c.number_of.ensures few ∙ ap (number_of c.args.names.now) (c.as_bytes.ensures ∙ c.in_ok-text.ensures s r named) ∙ written_name s c.args.names.now f c.leaf_at-2.result none at
