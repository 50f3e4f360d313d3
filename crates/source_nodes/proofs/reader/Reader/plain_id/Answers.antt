use Rattle.std.proofs.Common.{◌≡◌, subst}
use Rattle.std.specs.Prelude.{IfSome}
use Rattle.il_lexer.specs.declared.types.TokenKind.TheVariants.{Name}
use Rattle.source_model.specs.Nodes.{id_of_texts}
use Rattle.source_model.specs.Values.{part_texts}
use Rattle.source_nodes.specs.NameTexts.{id_with}
use Rattle.source_nodes.proofs.reader.Reader.plain_id.Goals as goal

pub returns : goal.returns
returns c = λ s r is.
    subst (λ w. IfSome c.plain_id.result (λ id. id_with id.space.now id.name.now ≡ id_of_texts (part_texts w))) (c.spelling.ensures.value s r)
    (c.plain_id.ensures (c.spelling.ensures.spelled s r Name is))
