-- The attributes that lines of `.param type` give (ECMA-335 II.10.1.7, II.15.4.1.4).
use Rattle.std.specs.Prelude.{ℕ, ◌-◌, ◌==◌, ◌++◌, nat_lt, if◌then◌else◌, List, [], filter, length, slice_index_or, slice_set}
use Rattle.assembly_tree.specs.declared.members.Attribute.{Attribute}
use Rattle.source_model.specs.Items.{Run}
use Rattle.source_model.specs.Nodes.{Around}
use Rattle.source_model.specs.Parameters as params
use Rattle.source_model.specs.Source.{Source}

-- the attributes that these lines give the generic parameter of a number
abbrev pub given : Source → Around → List (List ℕ) → ℕ → List Run → List Attribute
given s a names k rs = params.attributes_of s a (filter (λ r. params.typar_number s names r.head.below == k) (filter params.speaks_of_typar rs))

-- lists of attributes, from that of the last number to that of the first: more for one of them
abbrev pub appended : List (List Attribute) → ℕ → List Attribute → List (List Attribute)
appended bs k more =
    if nat_lt k (length bs) then slice_set bs (length bs - 1 - k) (slice_index_or bs (length bs - 1 - k) [] ++ more) else bs
