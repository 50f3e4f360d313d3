-- The lines that give a class its layout (ECMA-335 II.10.7).
use Rattle.std.specs.Prelude.{ℕ, ◌==◌, if◌then◌else◌, List, Option, None, Some, fold}
use Rattle.assembly_tree.specs.declared.typedef.Layout.{Layout}
use Rattle.source_model.specs.Forest.{Part, leaf_at}
use Rattle.source_model.specs.Shapes.{natural}
use Rattle.source_model.specs.Source.{Source}
use Rattle.source_model.specs.Values.{int_at}

-- the number that a member of a production says, else the one before
abbrev pub number_or : Source → ℕ → Option ℕ → Part → Option ℕ
number_or s production before p = if p.production == production then Some (natural (int_at s (leaf_at 1 p.below))) else before

-- the number of the last member of a production
abbrev pub last_member : Source → ℕ → List Part → Option ℕ
last_member s production ps = fold (number_or s production) None ps

abbrev pub or_zero : Option ℕ → ℕ
or_zero None = 0
or_zero (Some n) = n

-- the layout that a packing size and a class size give
abbrev pub layout_of : Option ℕ → Option ℕ → Option Layout
layout_of None None = None
layout_of (Some pack) size = Some (record { pack = pack; size = or_zero size })
layout_of None (Some size) = Some (record { pack = 0; size = size })
