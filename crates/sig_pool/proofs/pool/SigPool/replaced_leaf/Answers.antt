use Rattle.sig_pool.specs.Replaced.{terms_at}
use Rattle.sig_pool.proofs.Replacing.{leaf_Var, leaf_MVar}
use Rattle.sig_pool.proofs.pool.SigPool.replaced_leaf.Goals as goal

pub returns-in-Var-clause-some : goal.returns-in-Var-clause-some
returns-in-Var-clause-some c =
    leaf_Var c.args.self.now c.args.id c.chosen.result c.node.result.now c.args.classes.now (terms_at c.args.self.now c.args.methods.now) c.in-Var.number
    c.requires.id c.requires.classes c.node.ensures.term c.in-Var.is c.chosen.ensures

pub returns-in-MVar-clause-some : goal.returns-in-MVar-clause-some
returns-in-MVar-clause-some c =
    leaf_MVar c.args.self.now c.args.id c.chosen-in-MVar.result c.node.result.now (terms_at c.args.self.now c.args.classes.now) c.args.methods.now c.in-MVar.number
    c.requires.id c.requires.methods c.node.ensures.term c.in-MVar.is c.chosen-in-MVar.ensures
