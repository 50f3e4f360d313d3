use Rattle.std.proofs.Common.{arith, sym, subst, inl, inr, ◌∙◌, ◌≡◌, ◌<◌}
use Rattle.body_codec.specs.Faults.{IsClause}
use Rattle.body_codec.specs.Sections.{clause_count}
use Rattle.body_codec.specs.Reading.{pieces_of}
use Rattle.body_codec.proofs.Sections.{SectionTo, section_wrong, section_more, section_all}
use Rattle.body_codec.proofs.decoding.sections.read_section.Goals as goal

pub returns-then-clause-eq-MAX_CLAUSES-clause-fault : goal.returns-then-clause-eq-MAX_CLAUSES-clause-fault
returns-then-clause-eq-MAX_CLAUSES-clause-fault c =
    let ps = pieces_of c.args.layout.now.code.now c.args.layout.now.marks.now in
    let count = c.requires.section.count in
    let test = c.loop-k-test.true in
    let within : c.loop-k.k < clause_count c.args.bytes.now c.args.section.now.at = omega arith in
    rw c.len-clause.ensures (section_wrong c.args.bytes.now ps c.args.section.now.at c.args.found.now c.loop-k.found c.loop-k.k c.loop-k.invariant c.requires.section.read within
    (inr (sym c.len-clause.ensures ∙ c.if-clause-eq-MAX_CLAUSES.true)))

pub returns-in_default-clause-fault : goal.returns-in_default-clause-fault
returns-in_default-clause-fault c =
    let ps = pieces_of c.args.layout.now.code.now c.args.layout.now.marks.now in
    let count = c.requires.section.count in
    let test = c.loop-k-test.true in
    let within : c.loop-k.k < clause_count c.args.bytes.now c.args.section.now.at = omega arith in
    rw c.len-clause.ensures (section_wrong c.args.bytes.now ps c.args.section.now.at c.args.found.now c.loop-k.found c.loop-k.k c.loop-k.invariant c.requires.section.read within
    (inl (λ h. c.in_default.ensures.none (subst (IsClause ps) (sym c.row_at-row.ensures) h))))

pub loop-k-preserved : goal.loop-k-preserved
loop-k-preserved c =
    let ps = pieces_of c.args.layout.now.code.now c.args.layout.now.marks.now in
    rw c.in_ok-push.ensures.ok (section_more c.args.bytes.now ps c.args.section.now.at c.args.found.now c.loop-k.found c.loop-k.k (record { row = c.row_at-row.result; region = c.in-Some.region })
    c.loop-k.invariant (λ e. c.if-clause-eq-MAX_CLAUSES.false (c.len-clause.ensures ∙ e)) c.row_at-row.ensures c.in-Some.ensures.found)

pub returns-clause-rows : goal.returns-clause-rows
returns-clause-rows c =
    let ps = pieces_of c.args.layout.now.code.now c.args.layout.now.marks.now in
    let count = c.requires.section.count in
    let test = c.loop-k-test.false in
    let end = c.loop-k.auto.k-end in
    let same : c.loop-k.k ≡ clause_count c.args.bytes.now c.args.section.now.at = omega arith in
    section_all c.args.bytes.now ps c.args.section.now.at c.args.found.now c.loop-k.found
    (subst (SectionTo c.args.bytes.now ps c.args.section.now.at c.args.found.now c.loop-k.found) same c.loop-k.invariant) c.requires.section.read
