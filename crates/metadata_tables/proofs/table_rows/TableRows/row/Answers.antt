use Rattle.std.proofs.Common.{◌≡◌, ◌<◌, ◌≤◌, ◌+◌, ◌-◌, ◌*◌, ℕ, List, [], length, get_or, sym, ap, ◌∙◌, arith, rules}
use Rattle.metadata_tables.proofs.Pieces.{length-pieces, piece_at, piece_ends}
use Rattle.metadata_tables.proofs.table_rows.TableRows.row.Goals as goal
use Rattle.metadata_tables.proofs.table_rows.TableRows.row.Goals.{After-as_slice-cells}

inside : (c : After-as_slice-cells) → c.args.k < c.self.inside.len
inside c =
    let count = length-pieces c.self.inside.columns c.self.inside.len c.self.inside.cells in
    let there = ap length c.self.view_is in
    omega (arith, count, there, c.requires)

-- the row ends in the list of cells
ends : (c : After-as_slice-cells) → c.self.inside.columns * c.args.k + c.self.inside.columns ≤ length c.as_slice-cells.result.now
ends c =
    let e = piece_ends c.self.inside.columns c.self.inside.len c.args.k (inside c) in
    let all = ap length c.as_slice-cells.ensures in
    omega (arith, e, all, c.self.invariant)

pub overflow_mul-first : goal.overflow_mul-first
overflow_mul-first c =
    let e = ends (goal.at.overflow_mul-first c).After-as_slice-cells in
    omega (arith, e, c.as_slice-cells.type_inv)

pub overflow_add-result : goal.overflow_add-result
overflow_add-result c =
    let e = ends (goal.at.overflow_add-result c).After-as_slice-cells in
    omega (arith, e, c.as_slice-cells.type_inv)

pub offset_bounds-cells-first : goal.offset_bounds-cells-first
offset_bounds-cells-first c =
    let e = ends (goal.at.offset_bounds-cells-first c).After-as_slice-cells in
    omega (arith, e, c.as_slice-cells.type_inv)

pub slice_bounds-result-end : goal.slice_bounds-result-end
slice_bounds-result-end c =
    let e = ends (goal.at.slice_bounds-result-end c).After-as_slice-cells in
    search (rules, e)

pub returns : goal.returns
returns c =
    let size : c.self.inside.columns * c.args.k + c.self.inside.columns - c.self.inside.columns * c.args.k ≡ c.self.inside.columns = omega arith in
    let piece = piece_at c.self.inside.columns c.self.inside.len c.self.inside.cells c.args.k [] (inside (goal.at.returns c).After-as_slice-cells) in
    rw (size, c.as_slice-cells.ensures) (sym piece ∙ ap (λ (rows : List (List ℕ)). get_or rows c.args.k []) c.self.view_is)
