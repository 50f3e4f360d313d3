use Rattle.std.proofs.Common.{◌∙◌, ap, sym, subst}
use Rattle.std.specs.Prelude.{All, map}
use Rattle.il_lexer.specs.declared.types.TokenKind.TheVariants as kind
use Rattle.source_model.specs.Values.{name_text}
use Rattle.source_nodes.specs.Readers.{IsOf}
use Rattle.source_syntax.proofs.NamingLemmas.{names_are_names}
use Rattle.source_syntax.proofs.name_lists.collect.Goals as goal

pub returns : goal.returns
returns c s r =
    let tokens = c.in_ok-tokens.ensures s.tree r.nodes in
    let slice = c.as_slice.ensures ∙ tokens in
    let bodies = (c.derivations_have_bodies.ensures s r.derived).1 in
    record {
      tokens = tokens;
      texts = c.in_ok-names.ensures s r (subst (All (IsOf s kind.Name)) (sym slice) (names_are_names s c.args.naming s.tree bodies)) ∙ ap (map (name_text s)) slice;
    }
