use Rattle.std.proofs.Common.{◌≡◌, ◌∙◌, sym, ap, ◌<◌, ◌≤◌, ◌+◌, ℕ, List, length, map, take, arith}
use Rattle.std.specs.Prelude.{get_or}
use Rattle.std.proofs.lemmas.List.{take_all}
use Rattle.body_verifier.specs.declared.report.Broken.{Broken}
use Rattle.body_verifier.specs.Reports.{reported}
use Rattle.body_verifier.proofs.Reporting.{rises_at, offset_to, offset_low, part_low, reported_more}
use Rattle.body_verifier.proofs.report.report_of.Goals as goal

pub code_size-requires : goal.code_size-requires
code_size-requires c =
    let low = part_low c.args.code.now c.loop-next.known (get_or c.args.broken.now c.loop-next.next-index (record { at = 0; rule = 0 })).at in
    omega (arith, low, c.requires.few)

pub overflow_add-offset : goal.overflow_add-offset
overflow_add-offset c =
    let r = rises_at c.args.code.now c.loop-next.known c.args.broken.now c.loop-next.next-index (record { at = 0; rule = 0 }) (omega arith) c.loop-next.invariant.rising in
    let p = (get_or c.args.broken.now c.loop-next.next-index (record { at = 0; rule = 0 })).at in
    let to = offset_to c.args.code.now c.loop-next.known p r.0 in
    let low = offset_low c.args.code.now p in
    omega (arith, to, low, c.requires.few, c.loop-next.invariant.offset, c.code_size.ensures)

pub loop-next-preserved : goal.loop-next-preserved
loop-next-preserved c =
    let below : c.loop-next.next-index < length c.args.broken.now = omega arith in
    let r = rises_at c.args.code.now c.loop-next.known c.args.broken.now c.loop-next.next-index (record { at = 0; rule = 0 }) below c.loop-next.invariant.rising in
    let p = (get_or c.args.broken.now c.loop-next.next-index (record { at = 0; rule = 0 })).at in
    let to = offset_to c.args.code.now c.loop-next.known p r.0 in
    let is : c.loop-next.offset + c.code_size.result ≡ Rattle.assembly_tree.specs.WellFormedBodies.offset_of c.args.code.now p = omega (arith, to, c.loop-next.invariant.offset, c.code_size.ensures) in
    record {
      known = omega (arith, r.1);
      offset = is;
      rising = r.2;
      whole = λ b same. reported_more c.args.at.now b c.args.code.now c.args.broken.now c.loop-next.next-index (c.loop-next.offset + c.code_size.result) (record { at = 0; rule = 0 }) c.loop-next.report c.push.new.self
          c.in_ok-failed_at.field-0 below same is c.in_ok-failed_at.ensures c.in_ok-push.ensures.ok (c.loop-next.invariant.whole b same);
    }

pub returns : goal.returns
returns c = λ b same.
    c.loop-next.invariant.whole b same ∙ ap (map (reported c.args.at.now b)) (take_all c.loop-next.next-index c.args.broken.now (omega arith))
