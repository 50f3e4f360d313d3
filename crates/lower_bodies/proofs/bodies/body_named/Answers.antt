use Rattle.std.proofs.Common.{◌≡◌, ◌∷◌, [], sym, subst, ◌∙◌}
use Rattle.std.specs.Prelude.{true, false}
use Rattle.ilasm_grammar.specs.declared.productions.TheConstants.{INSTRUCTION_OP_VAR, LOCAL}
use Rattle.source_model.specs.Forest.{parts}
use Rattle.source_model.specs.Instructions.{instructions_of}
use Rattle.source_nodes.specs.Pieces.{ArePieces, AreParts}
use Rattle.lower_bodies.proofs.InstructionLemmas.{some_take}
use Rattle.lower_bodies.proofs.WholeCode.{whole_code}
use Rattle.lower_bodies.proofs.bodies.body_named.Goals as goal

pub body_with_variables-requires-clause-locals : goal.body_with_variables-requires-clause-locals
body_with_variables-requires-clause-locals c = subst (AreParts c.args.nodes.now) (sym c.as_slice.ensures) c.in_ok-locals.ensures.pieces

pub body_at-requires-clause-locals : goal.body_at-requires-clause-locals
body_at-requires-clause-locals c = subst (AreParts c.args.nodes.now) (sym c.as_slice-2.ensures) c.in_ok-locals.ensures.pieces

pub returns-then-takes_variables : goal.returns-then-takes_variables
returns-then-takes_variables c s a f x e h are names all held =
    let locals = c.in_ok-locals.ensures.locals s f e h.derived.bodies held in
    c.body_with_variables.ensures s a f x (whole_code _ s f c.args.nodes.now x.reads are names all h e c.requires.few) e h are
    (subst (λ xs. ArePieces c.args.nodes.now xs (parts (LOCAL ∷ []) f)) (sym c.as_slice.ensures) locals) held

pub returns : goal.returns
returns c s a f x e h are names all held =
    let locals = c.in_ok-locals.ensures.locals s f e h.derived.bodies held in
    let some = some_take c.args.nodes.now INSTRUCTION_OP_VAR c.args.found.now (instructions_of f) are in
    c.body_at.ensures s a f (record {
      at = x;
      code = whole_code _ s f c.args.nodes.now x.reads are names all h e c.requires.few;
      variables = λ taken. let no : true ≡ false = sym taken ∙ sym some ∙ sym c.takes_variables.ensures ∙ c.if-takes_variables.false in absurd cc;
    }) e h are (subst (λ xs. ArePieces c.args.nodes.now xs (parts (LOCAL ∷ []) f)) (sym c.as_slice-2.ensures) locals) held
