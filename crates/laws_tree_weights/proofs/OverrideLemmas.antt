-- Overrides, whatever rows their methods have.
use Rattle.std.proofs.Common.{ℕ, ◌+◌, ◌≤◌, List, [], ◌∷◌, length, length-append, arith}
use Rattle.std.proofs.lemmas.List.{length-map}
use Rattle.std.specs.Prelude.{sum_by}
use Rattle.std.proofs.lemmas.List.Sums.{sum_by-cons, sum_by-append}
use Rattle.assembly_tree.specs.declared.members.Method.{Method}
use Rattle.type_terms.specs.declared.reference.MethodRef.{MethodRef}
use Rattle.image_tokens.specs.declared.row_set.Cells.{Cells}
use Rattle.image_rows.specs.OverrideRows.{Override, overrides, overrides_from, override_bytes}
use Rattle.laws_tree_weights.specs.ImageBytes.{override_weight, override_count, overrides_weight, overrides_count}
use Rattle.laws_tree_weights.specs.Laws.{OverridesAreCounted}
use Rattle.laws_tree_weights.proofs.Sums.{sum_mapped}

abbrev override : (type body : ℕ) → MethodRef → Override
override type body m = record { type = type; body = body; of = m }

bytes_counted : (row : ℕ) (declared : List Cells) (methods : List Method) → sum_by override_bytes (overrides_from row declared methods) ≤ overrides_weight methods
bytes_counted row declared [] = omega arith
bytes_counted row [] (m ∷ ms) = omega arith
bytes_counted row (cells ∷ declared) (m ∷ ms) =
    let rest = bytes_counted (row + 1) declared ms in
    let left = sum_by-append override_bytes (overrides cells.first row m.overrides) (overrides_from (row + 1) declared ms) in
    let own = sum_mapped override_bytes (override cells.first row) m.overrides in
    let right = sum_by-cons override_weight m ms in
    omega arith

pub rows_counted : (row : ℕ) (declared : List Cells) (methods : List Method) → length (overrides_from row declared methods) ≤ overrides_count methods
rows_counted row declared [] = omega arith
rows_counted row [] (m ∷ ms) = omega arith
rows_counted row (cells ∷ declared) (m ∷ ms) =
    let rest = rows_counted (row + 1) declared ms in
    let left = length-append (overrides cells.first row m.overrides) (overrides_from (row + 1) declared ms) in
    let own = length-map m.overrides (λ (r : MethodRef). override cells.first row r) in
    let right = sum_by-cons override_count m ms in
    omega arith

pub counted : OverridesAreCounted
counted row declared methods = (bytes_counted row declared methods, rows_counted row declared methods)
