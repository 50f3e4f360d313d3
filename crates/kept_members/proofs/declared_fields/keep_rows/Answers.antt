use Rattle.std.proofs.Common.{arith}
use Rattle.kept_members.specs.Maps.{all_of}
use Rattle.kept_members.specs.Members.{IsFieldOf}
use Rattle.kept_members.proofs.Adding.{adds_none, adds_both, within_none, within_more}
use Rattle.kept_members.proofs.declared_fields.keep_rows.Goals as goal

pub loop-k-init : goal.loop-k-init
loop-k-init c = (adds_none (IsFieldOf c.args.image.now c.args.known.now) (all_of c.args.fields.now), within_none 0x04 c.args.rows.first (all_of c.args.fields.now))

pub loop-k-preserved : goal.loop-k-preserved
loop-k-preserved c =
    let Is = IsFieldOf c.args.image.now c.args.known.now in
    let old = all_of c.loop-k.fields in
    let new = all_of c.keep_row.new.fields in (
      adds_both Is (all_of c.args.fields.now) old new c.loop-k.invariant.0 c.in_ok-keep_row.ensures.adds,
      within_more Is 0x04 c.args.rows.first c.loop-k.k old new c.loop-k.invariant.1 c.in_ok-keep_row.ensures.adds c.in_ok-keep_row.ensures.has,
    )

pub returns-clause-has : goal.returns-clause-has
returns-clause-has c = λ k less. c.loop-k.invariant.1 k (let end = c.loop-k-test.false in omega (arith, less, end))
