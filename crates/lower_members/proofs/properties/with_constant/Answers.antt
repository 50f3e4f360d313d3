use Rattle.std.proofs.Common.{ap, refl, sym, subst, ◌∙◌}
use Rattle.il_lexer.specs.declared.types.TokenKind.TheVariants as kind
use Rattle.ilasm_grammar.specs.declared.productions.TheConstants.{PROPERTY}
use Rattle.source_model.specs.Values.{name_text}
use Rattle.source_nodes.specs.Readers.{IsOf}
use Rattle.source_syntax.proofs.NameTokens.{name_at}
use Rattle.lower_manifest.proofs.SoundParts.{sound_property}
use Rattle.lower_members.proofs.HeldParts.{property_is_named}
use Rattle.lower_members.proofs.PropertyLemmas.{same_property}
use Rattle.lower_members.proofs.properties.with_constant.Goals as goal

pub returns : goal.returns
returns c s a x f ms e own each methods few constant =
    let token = c.leaf_at.ensures f e in
    let known = subst (IsOf s kind.Name) (sym token) (name_at s PROPERTY 1 f property_is_named own.fits) in
    same_property _ _ _ _ _ _ _ _ _ _ _ _ (c.in_ok-name.ensures s x.reads known ∙ ap (name_text s) token)
    (c.property_flags.ensures.all s f x.reads e each) (c.in_ok-sig.ensures s a x f e (sound_property s f each)) constant
    (c.in_ok-accessors.ensures s a x f ms e each methods few) (c.in_ok-attributes.ensures s a x f e each refl)
