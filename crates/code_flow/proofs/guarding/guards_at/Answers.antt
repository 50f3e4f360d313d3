use Rattle.code_flow.proofs.Guards.{guards_kept}
use Rattle.code_flow.proofs.guarding.guards_at.Goals as goal

pub returns-then-not-bounds-k : goal.returns-then-not-bounds-k
returns-then-not-bounds-k c =
    let k = c.args.k in
    let bs = c.args.bounds.now in
    guards_kept c.args.clauses.now bs k c.args.before c.requires.bounds c.requires.k c.if-k-gt0.true c.if-not-bounds-k.true c.requires.before
