use Rattle.std.proofs.Common.{◌≡◌, ap, sym, subst}
use Rattle.std.specs.Prelude.{IfOk}
use Rattle.il_lexer.specs.declared.types.TokenKind.TheVariants as kind
use Rattle.ilasm_grammar.specs.declared.productions.TheConstants.{ASSEMBLY_ASSEMBLY_ATTR_STAR}
use Rattle.source_model.specs.Forest.{the}
use Rattle.source_model.specs.Values.{name_text}
use Rattle.source_nodes.specs.Readers.{IsOf}
use Rattle.source_syntax.proofs.NameTokens.{assembly_is_name, the_body}
use Rattle.lower_manifest.proofs.names.assembly_name.Goals as goal

pub returns : goal.returns
returns c s r some =
    let declaration = the ASSEMBLY_ASSEMBLY_ATTR_STAR s.tree in
    let token = c.leaf_at.ensures declaration (sym (c.the-declaration.ensures s.tree r.nodes)) in
    let bodies = (c.derivations_have_bodies.ensures s r.derived).1 in
    let known = assembly_is_name s declaration (the_body s ASSEMBLY_ASSEMBLY_ATTR_STAR s.tree some bodies) in
    subst (λ v. IfOk c.name_text.result (λ name. name ≡ v)) (ap (name_text s) token) (c.name_text.ensures s r (subst (IsOf s kind.Name) (sym token) known))
