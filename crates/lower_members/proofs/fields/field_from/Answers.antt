use Rattle.std.proofs.Common.{sym, subst, ◌∙◌, ap}
use Rattle.il_lexer.specs.declared.types.TokenKind.TheVariants.{Name}
use Rattle.ilasm_grammar.specs.declared.productions.TheConstants.{FIELD}
use Rattle.source_model.specs.Values.{name_text}
use Rattle.source_nodes.specs.Readers.{IsOf}
use Rattle.source_syntax.proofs.NameTokens.{name_at}
use Rattle.lower_manifest.proofs.SoundParts.{sound_type}
use Rattle.lower_members.proofs.FieldLemmas.{field_is_name, same_field}
use Rattle.lower_members.proofs.fields.field_from.Goals as goal

pub returns : goal.returns
returns c s a x f ps e own h customs =
    let r = x.at.reads in
    let token = c.leaf_at.ensures f e in
    let known : IsOf s Name c.leaf_at.result = subst (IsOf s Name) (sym token) (name_at s FIELD 1 f field_is_name own.fits) in
    same_field s a f ps _ _ c.in_ok-of.of _ _ _ c.args.customs (c.in_ok-name.ensures s r known ∙ ap (name_text s) token) (c.field_flags.ensures.all s f r e h)
    (c.in_ok-of.ensures s a x.at f e (sound_type s f h)) (c.in_ok-constant.ensures s f r e h) (c.field_offset.ensures s f r e own)
    (c.in_ok-content.ensures s f c.in_ok-of.of r x.labelled-is e h (c.data_size-size.ensures s x.sizes-are)) customs
