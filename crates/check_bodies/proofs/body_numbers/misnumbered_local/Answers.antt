use Rattle.std.proofs.Common.{◌∷◌, [], sym, subst}
use Rattle.ilasm_grammar.specs.declared.productions.TheConstants.{LOCAL}
use Rattle.source_model.specs.Forest.{parts}
use Rattle.source_nodes.specs.Pieces.{ArePieces}
use Rattle.check_bodies.proofs.body_numbers.misnumbered_local.Goals as goal

pub returns : goal.returns
returns c s f r e =
    let ps = parts (LOCAL ∷ []) f in
    c.misnumbered.ensures s ps r (subst (λ xs. ArePieces c.args.method.now xs ps) (sym c.as_slice.ensures) (c.in_ok-found.ensures f e))
