use Rattle.std.proofs.Common.{◌∷◌, [], ap, sym, subst, ◌∙◌, map}
use Rattle.source_model.specs.Forest.{parts}
use Rattle.source_model.specs.Values.{name_text}
use Rattle.source_syntax.specs.Methods.{AreNames}
use Rattle.source_nodes.specs.Pieces.{ArePieces}
use Rattle.check_bodies.proofs.NamedLemmas.{names_below, numbers_below}
use Rattle.check_bodies.proofs.variables.named_parts.Goals as goal

pub returns : goal.returns
returns c s f r names e =
    let ps = parts (c.args.production ∷ []) f in
    let found = c.in_ok-found.ensures f e in
    let once = subst (λ xs. ArePieces c.args.nodes.now xs ps) (sym c.as_slice.ensures) found in
    let again = subst (λ xs. ArePieces c.args.nodes.now xs ps) (sym c.as_slice-3.ensures) found in
    let tokens = c.as_slice-2.ensures ∙ c.in_ok-tokens.ensures ps once ∙ names_below ps in
    record {
      names-are = c.in_ok-names.ensures s r (subst (AreNames s) (sym tokens) names) ∙ ap (map (name_text s)) tokens;
      numbers-are = c.in_ok-numbers.ensures ps again ∙ numbers_below c.args.first 0 ps;
    }
