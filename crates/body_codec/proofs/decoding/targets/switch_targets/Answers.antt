use Rattle.std.proofs.Common.{arith, sym, subst, ◌<◌, ◌∷◌, []}
use Rattle.std.proofs.lemmas.List.{length-append}
use Rattle.opcode_table.specs.declared.kind.OperandKind.TheVariants as kinds
use Rattle.body_codec.specs.Instruction.{displacement, target_count}
use Rattle.body_codec.specs.Spelling.{LeadsTo}
use Rattle.body_codec.specs.Reading.{pieces_of, piece_of}
use Rattle.body_codec.proofs.Targets.{some_from, some_at}
use Rattle.body_codec.proofs.Marks.{each_push}
use Rattle.body_codec.proofs.decoding.targets.switch_targets.Goals as goal

pub unwrap-target-requires : goal.unwrap-target-requires
unwrap-target-requires c =
    let ps = pieces_of c.args.layout.now.code.now c.args.layout.now.marks.now in
    let tail = (piece_of c.args.layout.now.code.now c.args.mark.now).tail in
    let s = c.requires.switch in
    let a = c.requires.aimed in
    let i = c.loop-i.i in
    let within = subst (λ x. i < target_count x tail) (sym s) (omega (arith, c.switch_count-count.ensures)) in
    let t = a.targets i within in
    some_from c.switch_target.result c.switch_target.ensures.none (λ never. never a.k t.0 a.ends (subst (λ x. LeadsTo ps a.k t.0 (displacement x tail i)) s t.1))

pub loop-i-preserved : goal.loop-i-preserved
loop-i-preserved c =
    let ps = pieces_of c.args.layout.now.code.now c.args.layout.now.marks.now in
    let tail = (piece_of c.args.layout.now.code.now c.args.mark.now).tail in
    rw c.in_ok-push.ensures.ok (
      (let l = length-append c.loop-i.targets (c.unwrap-target.result ∷ []) in let n = c.loop-i.invariant.0 in omega arith),
      (λ k e j d h. each_push (λ n x. LeadsTo ps k x (displacement kinds.Switch tail n)) c.loop-i.targets c.unwrap-target.result c.loop-i.i c.loop-i.invariant.0
          (λ n m l. c.loop-i.invariant.1 k e n m l) (some_at c.switch_target.result c.unwrap-target.result _ c.unwrap-target.ensures c.switch_target.ensures.found k e) j d h),
    )

pub returns : goal.returns
returns c = λ k e.
    let n = c.loop-i.invariant.0 in
    let end = c.loop-i.auto.i-end in
    let test = c.loop-i-test.false in
    let count = c.switch_count-count.ensures in
    record {
      count = omega arith;
      each = λ i h. c.loop-i.invariant.1 k e i 0 (omega arith);
    }
