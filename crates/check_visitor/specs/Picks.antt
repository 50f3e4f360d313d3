-- Which token stands for a declaration, and those of the declarations after the first.
use Rattle.std.specs.Prelude.{ℕ, List, map, drop}
use Rattle.source_model.specs.Forest.{Forest, each, first_token, leaf_at}
use Rattle.check_visitor.specs.declared.repeats.Pick.{Pick}
use Rattle.check_visitor.specs.declared.repeats.Pick.TheVariants.{First, At}

abbrev pub picked : Pick → Forest → ℕ
picked First f = first_token f
picked (At k) f = leaf_at k f

-- the tokens of all parts of this production but some at the front
abbrev pub picked_past : Pick → ℕ → ℕ → Forest → List ℕ
picked_past pick production skip f = map (picked pick) (drop skip (each production f))
