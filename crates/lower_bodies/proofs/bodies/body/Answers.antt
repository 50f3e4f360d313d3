use Rattle.std.proofs.Common.{◌≡◌, [], sym, subst, ◌∙◌, rules}
use Rattle.source_model.specs.Instructions.{instructions_of}
use Rattle.source_nodes.specs.Pieces.{ArePieces, AreParts}
use Rattle.lower_bodies.proofs.BodyLemmas.{method_in_range, no_body, nothing_found, some_body, something_found}
use Rattle.lower_bodies.proofs.bodies.body.Goals as goal

pub body_with-requires-clause-parts : goal.body_with-requires-clause-parts
body_with-requires-clause-parts c = subst (AreParts c.args.nodes.now) (sym c.as_slice-found.ensures) c.requires.parts

pub returns-then-is_empty : goal.returns-then-is_empty
returns-then-is_empty c s a n x m e each h lines =
    let f = n.below in
    let none : c.args.lines.now.instructions ≡ [] = search rules in
    no_body s a f (nothing_found c.args.nodes.now c.args.lines.now.instructions (instructions_of f) lines.instructions-are none)

pub returns : goal.returns
returns c s a n x m e each h lines =
    let f = n.below in
    let are = lines.instructions-are in
    let some : c.args.lines.now.instructions ≡ [] → ⊥ = λ none. search (rules, none) in
    some_body s a f c.in_ok-one.one (something_found c.args.nodes.now c.args.lines.now.instructions (instructions_of f) are some)
    (c.in_ok-one.ensures s a f x e (method_in_range s n m each h)
    (subst (λ xs. ArePieces c.args.nodes.now xs (instructions_of f)) (sym c.as_slice-found.ensures) are) (c.as_slice.ensures ∙ lines.labels-are) lines.held-is)
