use Rattle.std.proofs.Common.{◌∙◌, ap, map, subst, sym}
use Rattle.std.specs.Prelude.{All}
use Rattle.il_lexer.specs.declared.types.TokenKind.TheVariants as kind
use Rattle.source_model.specs.Values.{name_text}
use Rattle.source_nodes.specs.Readers.{IsOf}
use Rattle.source_syntax.proofs.NamingLemmas.{names_are_names}
use Rattle.check_source.proofs.declared_names.collect_some.Goals as goal

pub returns : goal.returns
returns c s r own most =
    let tokens = c.in_ok-tokens.ensures s.tree r.nodes own most in
    let bodies = (c.derivations_have_bodies.ensures s r.derived).1 in
    let all = c.as_slice.ensures ∙ tokens in
    record {
      tokens = tokens;
      texts = c.in_ok-names.ensures s r (subst (All (IsOf s kind.Name)) (sym all) (names_are_names s c.args.naming s.tree bodies)) ∙ ap (map (name_text s)) all;
    }
