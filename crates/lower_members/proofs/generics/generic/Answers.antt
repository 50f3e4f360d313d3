use Rattle.std.proofs.Common.{sym, subst, ◌∙◌, ap}
use Rattle.il_lexer.specs.declared.types.TokenKind.TheVariants.{Name}
use Rattle.ilasm_grammar.specs.declared.productions.TheConstants.{TYPAR_BOUNDS}
use Rattle.source_flags.specs.InRange.{IsInRange}
use Rattle.source_flags.proofs.Gathered.{has_bodies, readable}
use Rattle.source_model.specs.Forest.{the}
use Rattle.source_model.specs.Values.{name_text}
use Rattle.source_nodes.specs.Readers.{IsOf}
use Rattle.source_syntax.proofs.NameTokens.{typar_is_name}
use Rattle.source_syntax.proofs.ReferenceLemmas.{of_the}
use Rattle.lower_members.proofs.GenericLemmas.{same_generic}
use Rattle.lower_members.proofs.generics.generic.Goals as goal

pub returns : goal.returns
returns c s a x f e own h =
    let token = c.leaf_at.ensures f e in
    let known : IsOf s Name c.leaf_at.result = subst (IsOf s Name) (sym token) (typar_is_name s f (own.fits, has_bodies s f h)) in
    let bounds = c.in_ok-bounds.ensures s a x (the TYPAR_BOUNDS f) (sym (c.the.ensures f e)) (readable s (the TYPAR_BOUNDS f) (of_the (IsInRange s) TYPAR_BOUNDS f h)) in
    same_generic s a f c.args.customs c.in_ok-name.name c.typar_flags.result c.in_ok-bounds.bounds (c.in_ok-name.ensures s x.reads known ∙ ap (name_text s) token)
    (c.typar_flags.ensures.all s f x.reads e h) bounds
