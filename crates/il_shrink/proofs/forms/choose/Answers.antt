use Rattle.std.proofs.Common.{◌≡◌, ◌∙◌, true, rules, arith}
use Rattle.branch_forms.specs.declared.form.Form.TheVariants.{Fixed}
use Rattle.il_shrink.proofs.Choosing.{all_done, low_at, next_kept, next_set}
use Rattle.il_shrink.proofs.forms.choose.Goals as goal
use Rattle.il_shrink.proofs.forms.choose.Goals.{then-not-keeps+in_ok-changed, else-not-keeps}

pub at-ins-requires : goal.at-ins-requires
at-ins-requires c = low_at c.args.code.now c.args.forms.now c.loop-k.code c.loop-k.k c.requires c.loop-k.invariant c.loop-k-test.true

pub set-requires : goal.set-requires
set-requires c = low_at c.args.code.now c.args.forms.now c.loop-k.code c.loop-k.k c.requires c.loop-k.invariant c.loop-k-test.true

pub loop-k-preserved : goal.loop-k-preserved
loop-k-preserved c =
    elim c.if-not-keeps.branch [
      | then-not-keeps+in_ok-changed w ↦
          next_set c.args.code.now c.args.forms.now c.loop-k.code c.if-not-keeps.code c.loop-k.k c.at-ins.result.now w.in_ok-changed.changed (Fixed 0) c.loop-k.invariant
          c.loop-k-test.true c.at-ins.ensures w.in_ok-changed.ensures (w.code-is ∙ w.set.ensures)
      | else-not-keeps w ↦
          let same : c.keeps.result ≡ true = search rules in
          next_kept c.args.code.now c.args.forms.now c.loop-k.code c.if-not-keeps.code c.loop-k.k c.at-ins.result.now (Fixed 0) c.loop-k.invariant c.loop-k-test.true
          c.at-ins.ensures (c.keeps.ensures same) w.code-is
    ]

pub returns : goal.returns
returns c = all_done c.args.code.now c.args.forms.now c.loop-k.code c.loop-k.k c.requires c.loop-k.invariant (omega arith)
