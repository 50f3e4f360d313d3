-- Names that stand in a list twice.
use Rattle.std.specs.Prelude.{ℕ, Bool, List, [], take, slice_index_or, bytes_eq}
use Rattle.std.specs.List.{list_any}

-- name number k is one that stands before it
abbrev pub is_repeat : List (List ℕ) → ℕ → Bool
is_repeat names k = list_any (bytes_eq (slice_index_or names k [])) (take k names)
