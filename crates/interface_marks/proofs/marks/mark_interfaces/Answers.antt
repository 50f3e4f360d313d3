use Rattle.std.proofs.Common.{◌≡◌, ℕ, ◌+◌, ◌-◌, ◌∙◌, ap, subst, arith, length}
use Rattle.metadata_tables.specs.Stream.{row_count}
use Rattle.image_model.specs.Rows.{count_of}
use Rattle.interface_marks.specs.Marking.{AreMarked, AreLast}
use Rattle.interface_marks.proofs.Marking.{marks_are, none_marked, one_marked, none_last}
use Rattle.interface_marks.proofs.marks.mark_interfaces.Goals as goal

pub loop-row-init : goal.loop-row-init
loop-row-init c =
    let image = c.args.image.now in
    (none_marked image c.args.numbers.now c.in_ok-marks.marks (ap length c.in_ok-marks.ensures), none_last image c.args.numbers.now c.new-last.result c.new-last.ensures)

pub loop-row-preserved : goal.loop-row-preserved
loop-row-preserved c =
    let image = c.args.image.now in (
      one_marked image c.args.numbers.now c.loop-row.row c.loop-row.marks c.push.new.self c.in_ok-fresh.fresh c.in_ok-push.ensures.ok c.loop-row.invariant.0 c.in_ok-fresh.ensures.fresh c.in_ok-fresh.ensures.again,
      c.in_ok-fresh.ensures.last,
    )

pub returns : goal.returns
returns c =
    let image = c.args.image.now in
    let end : c.rows-row-end.result ≡ count_of image 0x09 = c.rows-row-end.ensures.rows ∙ ap (λ stream. row_count stream 0x09) c.tables.ensures.tables in
    let all : c.loop-row.row ≡ count_of image 0x09 = let t = c.loop-row-test.false in let a = c.loop-row.auto.row-end in omega arith in
    marks_are image c.args.numbers.now c.loop-row.marks c.requires.numbers (subst (λ (upto : ℕ). AreMarked image c.args.numbers.now upto c.loop-row.marks) all c.loop-row.invariant.0)

pub is_fresh-requires-clause-last : goal.is_fresh-requires-clause-last
is_fresh-requires-clause-last c =
    let e : c.loop-row.row ≡ c.loop-row.row + 1 - 1 = omega arith in
    subst (λ (upto : ℕ). AreLast c.args.image.now c.args.numbers.now upto c.loop-row.last) e c.loop-row.invariant.1

pub is_fresh-requires-clause-there : goal.is_fresh-requires-clause-there
is_fresh-requires-clause-there c =
    let end : c.rows-row-end.result ≡ count_of c.args.image.now 0x09 = c.rows-row-end.ensures.rows ∙ ap (λ stream. row_count stream 0x09) c.tables.ensures.tables in
    let t = c.loop-row-test.true in
    (omega arith, omega (arith, end, t))
