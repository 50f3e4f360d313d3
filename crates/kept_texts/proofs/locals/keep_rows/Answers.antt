use Rattle.std.proofs.Common.{◌≡◌, arith, rules}
use Rattle.image_model.specs.Rows.{count_of}
use Rattle.kept_members.specs.Maps.{all_of}
use Rattle.kept_members.proofs.Adding.{adds_none, adds_both, upto_none, upto_more}
use Rattle.kept_members.proofs.Naming.{used_there}
use Rattle.kept_texts.specs.Texts.{AreLocalsOf, AreInUse}
use Rattle.kept_texts.proofs.locals.keep_rows.Goals as goal

pub loop-row-init : goal.loop-row-init
loop-row-init c = (adds_none (AreLocalsOf c.args.image.now c.args.known.now) (all_of c.args.locals.now), upto_none (AreInUse c.args.image.now) 0x11 (all_of c.args.locals.now))

pub loop-row-preserved : goal.loop-row-preserved
loop-row-preserved c =
    let Are = AreLocalsOf c.args.image.now c.args.known.now in
    let old = all_of c.loop-row.locals in
    let new = all_of c.keep_used.new.locals in (
      adds_both Are (all_of c.args.locals.now) old new c.loop-row.invariant.0 c.in_ok-keep_used.ensures.adds,
      upto_more Are (AreInUse c.args.image.now) 0x11 c.loop-row.row old new c.loop-row.invariant.1 c.in_ok-keep_used.ensures.adds c.in_ok-keep_used.ensures.has,
    )

pub returns-clause-has : goal.returns-clause-has
returns-clause-has c =
    let all : c.loop-row.row ≡ count_of c.args.image.now 0x11 = search rules in
    λ row h.
    let there = used_there h.0 in
    c.loop-row.invariant.1 row there.0 (let upto = there.1 in omega (arith, all, upto)) h
