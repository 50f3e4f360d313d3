use Rattle.sig_pool.proofs.KeyLists.{find_found, find_none}
use Rattle.sig_pool.proofs.keys.Keys.find.Goals as goal

pub returns-clause-found : goal.returns-clause-found
returns-clause-found c =
    rw (← c.self.view_is) (find_found (λ v. v.items) c.args.key.now c.self.inside.keys.keys c.get_index_of.result c.get_index_of.ensures.index)

pub returns-clause-none : goal.returns-clause-none
returns-clause-none c =
    rw (← c.self.view_is) (find_none (λ v. v.items) c.args.key.now c.self.inside.keys.keys c.get_index_of.result c.get_index_of.ensures.found)
