-- Items of methods that are in their ranges.
use Rattle.std.specs.Prelude.{◌≡◌, ◌⊎◌, true}
use Rattle.ilasm_grammar.specs.declared.productions.TheConstants.{BLOCK, ITEM_TRY}
use Rattle.param_lines.specs.Ranged.{IsRanged}
use Rattle.source_model.specs.Forest.{Part, is_among, none, part}
use Rattle.source_model.specs.Items.{plain_items}
use Rattle.source_model.specs.Source.{Source}

-- the begin or the end of a `.try` or of a block of one, as it stands among the items of a method (ECMA-335 II.19)
abbrev pub IsEnd : Part → Type 0
IsEnd p = (p ≡ part ITEM_TRY none) ⊎ (p ≡ part BLOCK none)

-- an item of a method that is in its range, or such a begin or end
abbrev pub IsRangedItem : Source → Part → Type 0
IsRangedItem s p = IsEnd p ⊎ IsRanged s p

-- the same, where it is one of the items of a method's body
abbrev pub IsBodyItem : Source → Part → Type 0
IsBodyItem s p = IsEnd p ⊎ ((is_among plain_items p.production ≡ true) × IsRanged s p)
