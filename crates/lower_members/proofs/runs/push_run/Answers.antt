use Rattle.std.proofs.Common.{◌≡◌, ◌++◌, ◌∙◌, List, ℕ, ap, arith}
use Rattle.source_model.specs.Data.{first_bytes}
use Rattle.lower_members.proofs.RunLemmas.{next_time}
use Rattle.lower_members.proofs.runs.push_run.Goals as goal

pub loop-left-preserved : goal.loop-left-preserved
loop-left-preserved c rest =
    let once = c.args.run.now.once in
    let pushed : (more : List ℕ) → first_bytes c.args.size (c.push_once.new.bytes ++ more) ≡ first_bytes c.args.size (c.loop-left.bytes ++ (once ++ more)) =
    λ more. c.in_ok-push_once.ensures more ∙ ap (λ l. first_bytes c.args.size (c.loop-left.bytes ++ (l ++ more))) c.as_slice.ensures in
    next_time c.args.size c.loop-left.bytes c.push_once.new.bytes once rest _ c.loop-left.left (omega (arith, c.loop-left-test.true)) pushed (c.loop-left.invariant rest)
