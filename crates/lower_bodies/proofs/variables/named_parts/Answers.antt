use Rattle.std.proofs.Common.{◌≡◌, [], ap, sym, subst, ◌∙◌, map}
use Rattle.source_model.specs.Forest.{below_each}
use Rattle.source_model.specs.Values.{name_text}
use Rattle.source_syntax.specs.Methods.{AreNames}
use Rattle.lower_bodies.specs.NamedVariables.{names_of, numbers_from}
use Rattle.lower_bodies.proofs.BodyLemmas.{nothing_found}
use Rattle.lower_bodies.proofs.Nameless.{no_pieces}
use Rattle.lower_bodies.proofs.NamedLemmas.{names_below, numbers_below}
use Rattle.lower_bodies.proofs.variables.named_parts.Goals as goal

pub returns-then-is_empty : goal.returns-then-is_empty
returns-then-is_empty c s ps r names are =
    let none : c.args.found.now ≡ [] = no_pieces c.args.found.now (sym c.is_empty.ensures ∙ c.if-is_empty.true) in
    let nothing = nothing_found c.args.nodes.now c.args.found.now ps are none in
    c.no_names.ensures s c.args.first (below_each ps) (ap (λ qs. names_of (below_each qs)) nothing) (ap (λ qs. numbers_from c.args.first 0 (below_each qs)) nothing)

pub returns : goal.returns
returns c s ps r names are =
    let tokens = c.as_slice.ensures ∙ c.in_ok-tokens.ensures ps are ∙ names_below ps in
    record {
      names-are = c.in_ok-names.ensures s r (subst (AreNames s) (sym tokens) names) ∙ ap (map (name_text s)) tokens;
      numbers-are = c.in_ok-numbers.ensures ps are ∙ numbers_below c.args.first 0 ps;
    }
