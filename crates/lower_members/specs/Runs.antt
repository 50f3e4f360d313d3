-- Bytes that stand many times in a row (ECMA-335 II.16.3).
use Rattle.std.specs.Prelude.{ℕ, List, map}
use Rattle.std.specs.List.{flat_map}
use Rattle.source_model.specs.Data.{repeated}
use Rattle.lower_members.specs.declared.runs.Run.{Run}

-- the bytes of a run
abbrev pub run_bytes : Run → List ℕ
run_bytes r = repeated r.count r.once

-- the bytes of runs, joined
abbrev pub bytes_of_runs : List Run → List ℕ
bytes_of_runs runs = flat_map run_bytes runs

-- the bytes of each of some lists of runs
abbrev pub bytes_of_each : List (List Run) → List (List ℕ)
bytes_of_each contents = map bytes_of_runs contents
