use Rattle.std.proofs.Common.{ℕ, ◌+◌, ◌*◌, ◌<◌, ◌≤◌, length, sym, ap, ◌∙◌, arith, inl, inr, ⊎_elim, refl}
use Rattle.std.specs.Int.RustNames.{count_ones}
use Rattle.std.proofs.lemmas.Bool.{cases_lt}
use Rattle.std.proofs.lemmas.List.{get_or_past}
use Rattle.metadata_tables.specs.Stream.{header_size}
use Rattle.metadata_tables.specs.Faults.{IsForeign}
use Rattle.metadata_tables.proofs.Bits.{header_size_is, row_count_none}
use Rattle.metadata_tables.proofs.Profile.{no_foreign, first_foreign}
use Rattle.metadata_tables.proofs.Table.{columns_past}
use Rattle.metadata_tables.proofs.header.read_header.Goals as goal
use Rattle.metadata_tables.proofs.header.read_header.Goals.{After-row_counts}

pub returns-then-stream-lt24-clause-fault : goal.returns-then-stream-lt24-clause-fault
returns-then-stream-lt24-clause-fault c =
    let size = header_size_is c.args.stream.now in
    let e = c.cut_header.ensures in
    inl (record { rule = e.rule; table = e.table; row = e.row; cut = omega (arith, size) })

pub returns-then-stream-start-clause-fault : goal.returns-then-stream-start-clause-fault
returns-then-stream-start-clause-fault c =
    let size = header_size_is c.args.stream.now in
    let e = c.cut_header-then-stream-start.ensures in
    let cut : length c.args.stream.now < header_size c.args.stream.now = rw (size, ← c.present_tables-present.ensures) c.if-stream-start.true in
    inl (record { rule = e.rule; table = e.table; row = e.row; cut = cut })

pub returns-then-foreign-ne0-clause-fault : goal.returns-then-foreign-ne0-clause-fault
returns-then-foreign-ne0-clause-fault c =
    let size = header_size_is c.args.stream.now in
    let first = first_foreign c.args.stream.now c.present_tables-present.result c.present_tables-present.ensures c.present_tables-present.type_inv c.if-foreign-ne0.true in
    let room : header_size c.args.stream.now ≤ length c.args.stream.now = rw (size, ← c.present_tables-present.ensures) c.if-stream-start.false in
    inr (record { rule = refl; row = refl; header = room; foreign = first.0; first = first.1 })

pub row_counts-requires-clause-room : goal.row_counts-requires-clause-room
row_counts-requires-clause-room c =
    rw (header_size_is c.args.stream.now, ← c.present_tables-present.ensures) c.if-stream-start.false

none : (c : After-row_counts) (t : ℕ) → IsForeign c.args.stream.now t → ⊥
none c = no_foreign c.args.stream.now c.present_tables-present.result c.present_tables-present.ensures c.present_tables-present.type_inv c.if-foreign-ne0.false

pub returns-clause-header : goal.returns-clause-header
returns-clause-header c =
    let s = c.args.stream.now in
    record {
      start = ap (λ (m : ℕ). 24 + 4 * count_ones m) c.present_tables-present.ensures ∙ sym (header_size_is s);
      heaps = refl;
      counts = λ t. ⊎_elim
          (c.row_counts.ensures.counts t)
          (λ past. get_or_past c.row_counts.result t 0 (omega (arith, c.row_counts.ensures.there))
          ∙ sym (row_count_none s t (λ bit. none c t (bit, columns_past t past))))
          (cases_lt t 45);
    }

pub returns-clause-known : goal.returns-clause-known
returns-clause-known c = record {
  header = rw (header_size_is c.args.stream.now, ← c.present_tables-present.ensures) c.if-stream-start.false;
  tables = none c;
}
