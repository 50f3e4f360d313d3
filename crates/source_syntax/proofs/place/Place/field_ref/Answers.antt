use Rattle.std.proofs.Common.{ap, sym, subst, ◌∙◌}
use Rattle.il_lexer.specs.declared.types.TokenKind.TheVariants as kind
use Rattle.source_model.specs.Values.{name_text}
use Rattle.source_nodes.specs.Readers.{IsOf}
use Rattle.source_syntax.proofs.FieldLemmas.{field_type, last_named, same_field}
use Rattle.source_syntax.proofs.place.Place.field_ref.Goals as goal

pub returns : goal.returns
returns c s a x f e sound each =
    let at = c.last_token.ensures f e in
    same_field _ _ _ _ _ _ (c.in_ok-owner.ensures s a x f e sound each)
    (c.in_ok-name.ensures s x.reads (subst (IsOf s kind.Name) (sym at) (last_named s a f sound each)) ∙ ap (name_text s) at)
    (c.in_ok-of.ensures s a x f e (field_type s a f sound each))
