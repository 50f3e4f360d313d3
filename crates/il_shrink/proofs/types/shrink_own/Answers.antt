use Rattle.il_shrink.proofs.Pairs.{methods_with}
use Rattle.il_shrink.proofs.Results.{on_ok}
use Rattle.il_shrink.proofs.types.shrink_own.Goals as goal

pub returns : goal.returns
returns c = on_ok c.shrink_methods.result (λ h. methods_with c.args.t.now c.shrink_methods.new.methods h) c.shrink_methods.ensures
