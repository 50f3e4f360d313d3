use Rattle.std.proofs.Common.{[], ◌∷◌, map, ap, sym, subst, ◌∙◌}
use Rattle.ilasm_grammar.specs.declared.productions.TheConstants.{LOCAL}
use Rattle.source_nodes.specs.Pieces.{ArePieces, piece_of}
use Rattle.source_flags.specs.declared.outside.Shut.TheVariants.{Instructions}
use Rattle.source_flags.proofs.Apart.{same_outside}
use Rattle.lower_bodies.proofs.HeldLemmas.{not_held}
use Rattle.lower_bodies.proofs.PastLemmas.{local_past, locals_unpassed}
use Rattle.lower_bodies.proofs.held_parts.locals_in.Goals as goal

pub returns-in_ok-found-clause-locals : goal.returns-in_ok-found-clause-locals
returns-in_ok-found-clause-locals c s f e h held =
    subst (ArePieces c.args.nodes.now c.in_ok-found.found) (same_outside Instructions (LOCAL ∷ []) local_past s f h) (c.in_ok-found.ensures f e)

pub returns-else-held-clause-locals : goal.returns-else-held-clause-locals
returns-else-held-clause-locals c s f e h held =
    let none = not_held (LOCAL ∷ []) locals_unpassed s f h (sym held.local ∙ c.if-held.false) in
    subst (ArePieces c.args.nodes.now c.new.result) (sym none) (ap (map (piece_of c.args.nodes.now)) c.new.ensures)
