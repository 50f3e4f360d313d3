use Rattle.std.proofs.Common.{◌≡◌, drop, inl, inr, subst}
use Rattle.std.specs.Prelude.{IfOk}
use Rattle.il_lexer.specs.declared.types.TokenKind.TheVariants.{Name}
use Rattle.source_model.specs.Nodes.{id_of_texts}
use Rattle.source_model.specs.Values.{part_texts}
use Rattle.source_nodes.proofs.reader.Reader.type_id.Goals as goal

pub returns : goal.returns
returns c = λ s r is.
    subst (λ w. IfOk c.type_id.result (λ value. value ≡ id_of_texts (part_texts w))) (c.spelling.ensures.value s r)
    (c.type_id.ensures (c.spelling.ensures.spelled s r Name is) (c.spelling.ensures.utf8 s r (inl is)))
