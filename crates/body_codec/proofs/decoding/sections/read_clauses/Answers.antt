use Rattle.std.proofs.Common.{arith, sym, subst, ap, ◌∙◌, ◌≡◌, ℕ, ◌++◌, false, true}
use Rattle.std.proofs.lemmas.Result.{err_from_is_err_and}
use Rattle.body_codec.specs.Header.{has_sections}
use Rattle.body_codec.specs.Sections.{padded, rows_in, has_more}
use Rattle.body_codec.specs.Reading.{pieces_of}
use Rattle.body_codec.specs.ReadingClauses.{ReadsTo, rows_of, IsSectionFault}
use Rattle.body_codec.proofs.Rows.{readable_header, readable_end, after_header}
use Rattle.body_codec.proofs.Sections.{reads_none, reads_nowhere, reads_more, reads_all, reads_broken, reads_wrong, padded_le}
use Rattle.body_codec.proofs.decoding.sections.read_clauses.Goals as goal

pub returns-then-not-header-clause-found : goal.returns-then-not-header-clause-found
returns-then-not-header-clause-found c =
    let ps = pieces_of c.args.layout.now.code.now c.args.layout.now.marks.now in
    let more = c.requires.header.more in
    let test = c.if-not-header.true in
    let none : has_sections c.args.bytes.now ≡ false = grind arith in
    reads_nowhere c.args.bytes.now ps (record { found = c.new-found.result; end = c.args.header.now.end }) none c.new-found.ensures c.requires.header.end

pub loop-section-init : goal.loop-section-init
loop-section-init c =
    let ps = pieces_of c.args.layout.now.code.now c.args.layout.now.marks.now in
    let more = c.requires.header.more in
    let test = c.if-not-header.false in
    let some : has_sections c.args.bytes.now ≡ true = grind arith in
    let P : ℕ → Type 0 = ReadsTo c.args.bytes.now ps c.new-found.result in
    subst P (sym (c.padded-at.ensures ∙ ap padded c.requires.header.end)) (rw c.new-found.ensures (reads_none c.args.bytes.now ps some))

pub returns-in_err-read_section-clause-fault : goal.returns-in_err-read_section-clause-fault
returns-in_err-read_section-clause-fault c =
    let ps = pieces_of c.args.layout.now.code.now c.args.layout.now.marks.now in
    let p = err_from_is_err_and c.from_residual.result c.from_residual.ensures.1 in
    let f = c.in_err-read_section.field-0.0 in
    let P : ℕ → Type 0 = λ a. IsSectionFault ps (rows_of c.loop-section.found ++ rows_in c.args.bytes.now a) f in
    rw (p.1, p.2) (reads_wrong c.args.bytes.now ps c.loop-section.found c.loop-section.at f c.loop-section.invariant
    (subst P c.in-Some.ensures.found.begins c.in_err-read_section.ensures.fault))

pub returns-then-not-section-clause-found : goal.returns-then-not-section-clause-found
returns-then-not-section-clause-found c =
    let bytes = c.args.bytes.now in
    let ps = pieces_of c.args.layout.now.code.now c.args.layout.now.marks.now in
    let s = c.in-Some.ensures.found in
    let more = s.more in
    let test = c.if-not-section.true in
    let last : has_more bytes c.loop-section.at ≡ false = grind arith in
    reads_all bytes ps c.loop-section.found c.loop-section.at (record { found = c.read_section.new.found; end = c.in-Some.section.end }) c.loop-section.invariant s.read last
    (c.in_ok-read_section.ensures.rows ∙ ap (λ a. rows_of c.loop-section.found ++ rows_in bytes a) s.begins) c.in_ok-read_section.ensures.few c.in_ok-read_section.ensures.found s.ends

pub padded-at-requires-in-Some : goal.padded-at-requires-in-Some
padded-at-requires-in-Some c =
    let s = c.in-Some.ensures.found in
    let e = s.ends in
    let r = readable_end c.args.bytes.now c.loop-section.at s.read in
    omega arith

pub loop-section-smaller : goal.loop-section-smaller
loop-section-smaller c =
    let s = c.in-Some.ensures.found in
    let e = s.ends in
    let h = readable_header c.args.bytes.now c.loop-section.at s.read in
    let a = after_header c.args.bytes.now c.loop-section.at in
    let p = padded_le c.in-Some.section.end in
    let q = c.padded-at-in-Some.ensures in
    omega arith

pub loop-section-preserved : goal.loop-section-preserved
loop-section-preserved c =
    let bytes = c.args.bytes.now in
    let ps = pieces_of c.args.layout.now.code.now c.args.layout.now.marks.now in
    let s = c.in-Some.ensures.found in
    let more = s.more in
    let test = c.if-not-section.false in
    let goes : has_more bytes c.loop-section.at ≡ true = grind arith in
    let P : ℕ → Type 0 = ReadsTo bytes ps c.read_section.new.found in
    subst P (sym (c.padded-at-in-Some.ensures ∙ ap padded s.ends)) (reads_more bytes ps c.loop-section.found c.read_section.new.found c.loop-section.at c.loop-section.invariant s.read goes
    (c.in_ok-read_section.ensures.rows ∙ ap (λ a. rows_of c.loop-section.found ++ rows_in bytes a) s.begins) c.in_ok-read_section.ensures.few c.in_ok-read_section.ensures.found)

pub returns-clause-fault : goal.returns-clause-fault
returns-clause-fault c =
    let ps = pieces_of c.args.layout.now.code.now c.args.layout.now.marks.now in
    rw c.len.ensures (reads_broken c.args.bytes.now ps c.loop-section.found c.loop-section.at c.loop-section.invariant c.in_default.ensures.none)
