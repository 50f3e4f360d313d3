use Rattle.std.proofs.Common.{ap, refl, sym, subst, ◌∙◌}
use Rattle.il_lexer.specs.declared.types.TokenKind.TheVariants as kind
use Rattle.ilasm_grammar.specs.declared.productions.TheConstants.{EVENT}
use Rattle.source_model.specs.Values.{name_text}
use Rattle.source_nodes.specs.Readers.{IsOf}
use Rattle.source_syntax.proofs.NameTokens.{name_at}
use Rattle.source_flags.proofs.Gathered.{readable}
use Rattle.lower_members.proofs.HeldParts.{event_is_named}
use Rattle.lower_members.proofs.PropertyLemmas.{same_event}
use Rattle.lower_members.proofs.events.event.Goals as goal

pub returns : goal.returns
returns c s a x f ms e own each methods few =
    let token = c.leaf_at.ensures f e in
    let known = subst (IsOf s kind.Name) (sym token) (name_at s EVENT 1 f event_is_named own.fits) in
    same_event _ _ _ _ _ _ _ _ _ _ (c.in_ok-name.ensures s x.reads known ∙ ap (name_text s) token)
    (c.event_flags.ensures.all s f x.reads e each) (c.in_ok-of.ensures s a x f e (readable s f each))
    (c.in_ok-accessors.ensures s a x f ms e each methods few) (c.in_ok-attributes.ensures s a x f e each refl)
