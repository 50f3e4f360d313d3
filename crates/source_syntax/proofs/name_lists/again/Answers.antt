use Rattle.std.proofs.Common.{◌+◌, ◌∙◌, sym, subst, refl}
use Rattle.source_syntax.proofs.NamingLemmas.{Found, found_other, found_repeat}
use Rattle.source_syntax.proofs.name_lists.again.Goals as goal
use Rattle.source_syntax.proofs.name_lists.again.Goals.{then-is_repeat, else-is_repeat}

pub loop-k-preserved : goal.loop-k-preserved
loop-k-preserved c text e = elim c.if-is_repeat.branch [
  | then-is_repeat w ↦
      subst (Found text c.args.tokens.now (c.loop-k.k + 1)) (sym (w.found-is ∙ w.sooner-found.ensures))
      (found_repeat text c.args.tokens.now c.args.names.now c.loop-k.k _ c.loop-k.found c.loop-k-test.true e (sym w.if-is_repeat.ensures) refl (c.loop-k.invariant text e))
  | else-is_repeat w ↦
      subst (Found text c.args.tokens.now (c.loop-k.k + 1)) (sym w.found-is)
      (found_other text c.args.tokens.now c.args.names.now c.loop-k.k c.loop-k.found c.loop-k-test.true e (sym w.if-is_repeat.ensures) (c.loop-k.invariant text e))
]
