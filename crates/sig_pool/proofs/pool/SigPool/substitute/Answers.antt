use Rattle.sig_pool.proofs.Replacing.{grows_map}
use Rattle.sig_pool.proofs.pool.SigPool.substitute.Goals as goal

pub returns-clause-bound : goal.returns-clause-bound
returns-clause-bound c =
    grows_map c.new-done.result c.replace-result.new.done c.new-done.ensures.empty c.args.self.now c.replace-result.new.self c.args.id c.len-2.ensures.unique c.replace-result.ensures.visits
