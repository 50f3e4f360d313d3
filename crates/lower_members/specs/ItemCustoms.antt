-- The attributes among the items of a property or an event (ECMA-335 II.17, II.18, II.21).
use Rattle.std.specs.Prelude.{ℕ, List, [], ◌∷◌}
use Rattle.ilasm_grammar.specs.declared.productions.TheConstants.{EVENT_ITEM_CUSTOM, PROPERTY_ITEM_CUSTOM}

abbrev pub item_customs : List ℕ
item_customs = PROPERTY_ITEM_CUSTOM ∷ EVENT_ITEM_CUSTOM ∷ []
