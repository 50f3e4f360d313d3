use Rattle.std.proofs.Common.{refl, ◌∙◌}
use Rattle.source_model.specs.Forest.{preorder}
use Rattle.check_bodies.specs.AmongNodes.{StandsIn}
use Rattle.check_source.proofs.Sweeps.{passes_are}
use Rattle.check_source.proofs.passes.pass_fault.Goals as goal

pub returns : goal.returns
returns c s r d =
    let bodies = c.derivations_have_bodies.ensures in
    let order = c.tokens_stand_in_order.ensures in
    let stands : StandsIn s s.tree = record {
      bodies = (bodies s r.derived).1;
      first = 0;
      count = _;
      in-order = order.consecutive _ 0 _ _ (preorder s.tree) s.tree r.derived refl;
    } in
    c.sooner.ensures
    ∙ passes_are order bodies c.args.reader.now s c.args.declared.now r d c.in_ok-inner.inner c.in_ok-outer.outer
    (c.in_ok-inner.ensures s r d stands)
    (c.in_ok-outer.ensures s r d.externs d.own d.census (c.signatures_of-rule.ensures s d.externs d.own d.classes))
