use Rattle.std.proofs.Common.{◌≡◌, ℕ, ◌-◌, ◌<◌, ◌≤◌, IsTrue, true, false, nat_lt, refl, arith, subst, sym, ap, ◌∙◌}
use Rattle.std.specs.Prelude.{◌↔◌}
use Rattle.std.proofs.lemmas.Bool.{ltb-true, lt-ltb}
use Rattle.metadata_tables.specs.Stream.{cell}
use Rattle.image_model.specs.Rows.{HasRow}
use Rattle.image_model.specs.Columns.{param_sequence}
use Rattle.row_demands.specs.Members.{run_begin}
use Rattle.row_demands.proofs.RunParts.{first_rises, begun_rises, met_rises}
use Rattle.row_demands.proofs.run_checks.rises_in_method.Goals as goal

pub returns-then-row-le1 : goal.returns-then-row-le1
returns-then-row-le1 c =
    (λ yes. first_rises c.args.image.now c.args.row c.requires.there c.requires.rise c.requires.positive c.if-row-le1.true, λ rises. refl)

pub returns-then-begins-row : goal.returns-then-begins-row
returns-then-begins-row c =
    (λ yes. begun_rises c.args.image.now c.args.row c.requires.there c.requires.rise ((c.requires.begins.each c.args.row c.requires.there.1).0 c.if-begins-row.true), λ rises. refl)

pub returns : goal.returns
returns c =
    let image = c.args.image.now in
    let row = c.args.row in
    let seen = c.tables-tables.ensures.tables in
    let above : c.cell.result ≡ param_sequence image (row - 1) = c.cell.ensures ∙ ap (λ stream. cell stream 0x08 (row - 1) 1) seen in
    let here : c.cell-2.result ≡ param_sequence image row = c.cell-2.ensures ∙ ap (λ stream. cell stream 0x08 row 1) seen in
    let far : 1 < row = let t = c.if-row-le1.false in omega arith in
    let there : HasRow image 0x08 (row - 1) = let h = c.requires.there in (omega arith, omega arith) in
    let lies = (c.requires.before far).in_method refl there in
    let none : ((method : ℕ) × HasRow image 0x06 method × (run_begin image 0x06 5 0x08 method ≡ row)) → ⊥ =
    λ b. let yes = (c.requires.begins.each row c.requires.there.1).1 b in let n = c.if-begins-row.false in cc in (
      λ yes method owner before has. let less = ltb-true c.cell.result c.cell-2.result yes in omega arith,
      λ rises. lt-ltb c.cell.result c.cell-2.result (let less = met_rises image row c.requires.there c.requires.rise none lies rises in omega arith),
    )
