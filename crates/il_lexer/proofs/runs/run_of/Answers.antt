use Rattle.std.proofs.Common.{sym, ap, subst, ◌∙◌, ◌≤◌, length}
use Rattle.il_lexer.proofs.RunLemmas.{passed-more, passed-all}
use Rattle.il_lexer.proofs.runs.run_of.Goals as goal

pub loop-n-preserved : goal.loop-n-preserved
loop-n-preserved g c =
    passed-more _ _ _ _ _ c.loop-n.invariant
    (ap (g.P.Piece.piece_length c.args.piece.now) (sym c.behind.ensures.value) ∙ sym c.in-Some.ensures.value)
    c.in-Some.ensures.fits.0
    (subst (λ bs. c.in-Some.n ≤ length bs) c.behind.ensures.value c.in-Some.ensures.fits.1)

pub returns-clause-value : goal.returns-clause-value
returns-clause-value g c =
    passed-all _ _ _ _ c.loop-n.invariant
    (ap (g.P.Piece.piece_length c.args.piece.now) (sym c.behind.ensures.value) ∙ sym c.in_default.ensures.value)
