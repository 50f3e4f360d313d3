use Rattle.std.proofs.Common.{arith, rules, ◌<◌, ◌≡◌, sym, subst, inl, inr}
use Rattle.std.proofs.lemmas.Bool.{cases_lt}
use Rattle.opcode_table.specs.declared.kind.OperandKind.TheVariants as kinds
use Rattle.body_codec.specs.Instruction.{displacement, target_count}
use Rattle.body_codec.specs.Spelling.{LeadsTo}
use Rattle.body_codec.specs.Reading.{pieces_of, piece_of}
use Rattle.body_codec.proofs.Targets.{some_of}
use Rattle.body_codec.proofs.decoding.targets.switch_has_targets.Goals as goal

pub loop-i-preserved : goal.loop-i-preserved
loop-i-preserved c = λ k i h e.
    let ps = pieces_of c.args.layout.now.code.now c.args.layout.now.marks.now in
    let tail = (piece_of c.args.layout.now.code.now c.args.mark.now).tail in
    elim (cases_lt i c.loop-i.i) [
      | inl lt ↦ c.loop-i.invariant k i lt e
      | inr ge ↦
          let same : i ≡ c.loop-i.i = omega arith in
          let g = some_of c.switch_target.result _ (search rules) c.switch_target.ensures.found in
          (g.0, subst (λ j. LeadsTo ps k g.0 (displacement kinds.Switch tail j)) (sym same) (g.1 k e))
    ]

pub returns-clause-good : goal.returns-clause-good
returns-clause-good c = λ k e i h.
    let ps = pieces_of c.args.layout.now.code.now c.args.layout.now.marks.now in
    let tail = (piece_of c.args.layout.now.code.now c.args.mark.now).tail in
    let s = c.requires.switch in
    let m = subst (λ x. i < target_count x tail) s h in
    let g = c.loop-i.invariant k i (omega (arith, c.switch_count-i-end.ensures)) e in
    (g.0, subst (λ x. LeadsTo ps k g.0 (displacement x tail i)) (sym s) g.1)
