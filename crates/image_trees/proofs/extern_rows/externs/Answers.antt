use Rattle.std.proofs.Common.{◌≡◌, ℕ, ◌∙◌, ap, subst, IfOk, arith}
use Rattle.std.specs.List.{AllZip, range_with_len}
use Rattle.metadata_tables.specs.Stream.{row_count}
use Rattle.image_model.specs.Reading.{IsExtern}
use Rattle.image_model.specs.Rows.{count_of, rows_of}
use Rattle.image_trees.proofs.extern_rows.externs.Goals as goal

pub read_all-requires-clause-there : goal.read_all-requires-clause-there
read_all-requires-clause-there c = λ k less.
    let all : c.from.result ≡ count_of c.args.image.now 0x23 = c.from.ensures ∙ c.rows.ensures.rows ∙ ap (λ stream. row_count stream 0x23) c.tables.ensures.tables in
    ((omega arith, omega (arith, all, less)), c.requires.bytes, c.requires.meets)

pub returns : goal.returns
unfolding rows_of
returns c =
    let all : c.from.result ≡ count_of c.args.image.now 0x23 = c.from.ensures ∙ c.rows.ensures.rows ∙ ap (λ stream. row_count stream 0x23) c.tables.ensures.tables in
    subst (λ (n : ℕ). IfOk c.read_all.result (AllZip (IsExtern c.args.image.now) (range_with_len 1 n))) all c.read_all.ensures
