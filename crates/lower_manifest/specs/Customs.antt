-- The attributes of declarations (ECMA-335 II.21).
use Rattle.std.specs.Prelude.{◌≡◌, true, if◌then◌else◌, ℕ, List, []}
use Rattle.ilasm_grammar.specs.declared.productions.TheConstants.{EQ_BYTES_OPT_SOME, METHOD_REF}
use Rattle.source_model.specs.Forest.{Forest, Part, has, leaf_at, the}
use Rattle.source_model.specs.Source.{Source}
use Rattle.source_model.specs.Values.{equals_bytes}
use Rattle.source_flags.specs.InRange.{AllInRange}

-- the bytes of an attribute's value; without bytes it is empty
abbrev pub value_in : Source → Forest → List ℕ
value_in s f = if has EQ_BYTES_OPT_SOME f then equals_bytes s (leaf_at 0 (the EQ_BYTES_OPT_SOME f)) else []

-- a declaration that holds a reference to a method, all of whose numbers are in their ranges
abbrev pub HoldsMethod : Source → Forest → Type 0
HoldsMethod s f = (has METHOD_REF f ≡ true) × AllInRange s f

abbrev pub IsCustom : Source → Part → Type 0
IsCustom s p = HoldsMethod s p.below
