use Rattle.sig_pool.proofs.KeyLists.{pushed}
use Rattle.sig_pool.proofs.keys.Keys.push.Goals as goal

pub returns-clause-ok : goal.returns-clause-ok
returns-clause-ok c =
    rw (← c.self.view_is, ← c.in_ok-key.ensures.items)
    (pushed (λ v. v.items) c.self.inside.keys.keys c.in_ok-key.key c.insert.new.self.keys c.in_ok-insert.ensures.keys
    (rw (c.self.view_is, c.in_ok-key.ensures.items) c.requires))
