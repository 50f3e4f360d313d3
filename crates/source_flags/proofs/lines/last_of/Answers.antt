use Rattle.std.proofs.Common.{sym, ◌∙◌}
use Rattle.source_flags.proofs.Gathered.{last_found, no_parts}
use Rattle.source_flags.proofs.lines.last_of.Goals as goal

pub returns-in-Some : goal.returns-in-Some
returns-in-Some c ps e =
    let l = last_found c.args.nodes.now c.args.found.now ps c.in-Some.piece e (sym c.last_piece.ensures ∙ c.in-Some.is) in
    (l.0, l.1, record { production = l.2; below = l.3 ∙ sym c.nodes_of.ensures })

pub returns-in-None : goal.returns-in-None
returns-in-None c ps e = no_parts c.args.nodes.now c.args.found.now ps e (sym c.last_piece.ensures ∙ c.in-None.is)
