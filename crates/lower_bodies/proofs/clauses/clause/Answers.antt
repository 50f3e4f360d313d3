use Rattle.source_flags.proofs.Gathered.{has_bodies}
use Rattle.lower_bodies.proofs.ClauseLemmas.{same_clause}
use Rattle.lower_bodies.proofs.clauses.clause.Goals as goal

pub returns : goal.returns
returns c s a f t b x et ht eb hb =
    same_clause s a f t b c.args.production c.in_ok-guarded.guarded c.in_ok-handler.handler c.in_ok-kind.kind
    (c.in_ok-guarded.ensures s f t x.code (has_bodies s t ht) et) (c.in_ok-handler.ensures s f b x.code (has_bodies s b hb) eb) (c.in_ok-kind.ensures s a f b x eb hb)
