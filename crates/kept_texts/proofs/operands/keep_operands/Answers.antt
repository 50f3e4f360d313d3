use Rattle.std.proofs.Common.{arith}
use Rattle.image_model.specs.Naming.{NamesText}
use Rattle.kept_members.specs.Maps.{all_of}
use Rattle.kept_members.proofs.Adding.{adds_none, adds_both}
use Rattle.kept_texts.proofs.Texts.{firsts_none, firsts_more, firsts_all}
use Rattle.kept_texts.proofs.operands.keep_operands.Goals as goal

pub loop-one-init : goal.loop-one-init
loop-one-init c = (adds_none (NamesText c.args.image.now) (all_of c.args.texts.now), firsts_none c.args.image.now c.args.uses.now (all_of c.args.texts.now))

pub loop-one-preserved : goal.loop-one-preserved
loop-one-preserved c =
    let image = c.args.image.now in
    let old = all_of c.loop-one.texts in
    let new = all_of c.keep_token.new.texts in
    let e = c.in_ok-keep_token.ensures in (
      adds_both (NamesText image) (all_of c.args.texts.now) old new c.loop-one.invariant.0 e.adds,
      firsts_more image c.args.uses.now c.loop-one.one-index _ old new c.loop-one.invariant.1 e.adds e.has,
    )

pub returns-clause-has : goal.returns-clause-has
returns-clause-has c = firsts_all c.args.image.now c.args.uses.now c.loop-one.one-index (all_of c.loop-one.texts) (omega arith) c.loop-one.invariant.1
