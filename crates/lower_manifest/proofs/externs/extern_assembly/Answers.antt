use Rattle.std.proofs.Common.{ap, sym, subst, ◌∙◌}
use Rattle.il_lexer.specs.declared.types.TokenKind.TheVariants as kind
use Rattle.ilasm_grammar.specs.declared.productions.TheConstants.{ASSEMBLY_EXTERN}
use Rattle.source_model.specs.Values.{name_text}
use Rattle.source_nodes.specs.Readers.{IsOf}
use Rattle.source_syntax.proofs.NameTokens.{name_at}
use Rattle.lower_manifest.proofs.ExternLemmas.{extern_is_name, same_extern}
use Rattle.lower_manifest.proofs.externs.extern_assembly.Goals as goal

pub returns : goal.returns
returns c s f r e own each =
    let token = c.leaf_at.ensures f e in
    let known = subst (IsOf s kind.Name) (sym token) (name_at s ASSEMBLY_EXTERN 1 f extern_is_name own.fits) in
    let i = c.in_ok-flags.ensures s f r e each in
    same_extern _ _ _ _ _ _ _ _ _ _ _ _ (c.in_ok-name.ensures s r known ∙ ap (name_text s) token) (c.in_ok-version.ensures s f r e each)
    i.flags-are i.key-is i.culture-is i.hash-is
