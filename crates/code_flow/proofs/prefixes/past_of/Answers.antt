use Rattle.std.proofs.Common.{◌≡◌, true, false, arith}
use Rattle.std.specs.Prelude.{slice_get}
use Rattle.code_flow.specs.Marks.{prefix_at}
use Rattle.code_flow.proofs.Prefixed.{prefixes_more, not_prefix, past_end}
use Rattle.code_flow.proofs.prefixes.past_of.Goals as goal

pub loop-at-preserved : goal.loop-at-preserved
loop-at-preserved c =
    let h : prefix_at (slice_get c.args.code.now c.loop-at.at) ≡ true = cc in
    (omega (arith, c.loop-at.invariant.0), prefixes_more c.args.code.now c.args.k c.loop-at.at h c.loop-at.invariant.1)

pub returns-then-not-has_prefix : goal.returns-then-not-has_prefix
returns-then-not-has_prefix c =
    let h : prefix_at (slice_get c.args.code.now c.loop-at.at) ≡ false = cc in
    record { later = c.loop-at.invariant.0; prefixes = c.loop-at.invariant.1; other = not_prefix c.args.code.now c.loop-at.at h }

pub returns : goal.returns
returns c = record {
  later = omega (arith, c.requires.below);
  prefixes = λ m i a b is. c.loop-at.invariant.1 m i a (omega (arith, b, c.loop-at-test.false)) is;
  other = past_end c.args.code.now;
}
