-- What the rows of flags of a listing are read as (ECMA-335 II.23.1).
use Rattle.std.specs.Prelude.{ℕ, ◌≡◌, ◌<◌, ◌^◌, List}
use Rattle.ilasm_grammar.specs.declared.nonterminals.TheConstants as n
use Rattle.ilasm_grammar.specs.declared.productions.TheConstants as p
use Rattle.source_model.specs.Flags as read
use Rattle.source_model.specs.Source.{Source}
use Rattle.listing_model.specs.Flags.{FlagWord, flag_items, type_flag_items, field_words, method_words, implementation_words, parameter_words, property_words, typar_words, assembly_words}
use Rattle.listing_model.specs.Shown.{Shown, star_below}
use Rattle.listing_reading.specs.Numbered.{numbered, Agrees}

-- what stands below the first production of a row, in a source that has it, is read as its number
abbrev pub IsReadBack : ℕ → ℕ → List read.FlagWord → (ℕ → Shown) → Type 0
IsReadBack more end words row =
    (s : Source) (at k : ℕ) → k < 2 ^ 128 → Agrees s at (row k) → read.flags_of s words (read.flags_in more end (numbered at (row k))) ≡ k

abbrev pub below : ℕ → ℕ → ℕ → ℕ → List FlagWord → ℕ → Shown
below nonterminal flags more end words k = star_below more end (flag_items nonterminal flags words k)

abbrev pub type_row : ℕ → Shown
type_row k = star_below p.CLASS_ATTR_STAR_MORE p.CLASS_ATTR_STAR_END (type_flag_items k)

-- the rows of each kind
pub record FlagsAreRead : Type 0 where
  pub types : IsReadBack p.CLASS_ATTR_STAR_MORE p.CLASS_ATTR_STAR_END read.type_words type_row
  pub fields : IsReadBack p.FIELD_ATTR_STAR_MORE p.FIELD_ATTR_STAR_END read.field_words
      (below n.FIELD_ATTR p.FIELD_ATTR_FLAGS p.FIELD_ATTR_STAR_MORE p.FIELD_ATTR_STAR_END field_words)
  pub methods : IsReadBack p.METHOD_ATTR_STAR_MORE p.METHOD_ATTR_STAR_END read.method_words
      (below n.METHOD_ATTR p.METHOD_ATTR_FLAGS p.METHOD_ATTR_STAR_MORE p.METHOD_ATTR_STAR_END method_words)
  pub implementations : IsReadBack p.IMPL_ATTR_STAR_MORE p.IMPL_ATTR_STAR_END read.implementation_words
      (below n.IMPL_ATTR p.IMPL_ATTR_FLAGS p.IMPL_ATTR_STAR_MORE p.IMPL_ATTR_STAR_END implementation_words)
  pub parameters : IsReadBack p.PARAM_ATTR_STAR_MORE p.PARAM_ATTR_STAR_END read.parameter_words
      (below n.PARAM_ATTR p.PARAM_ATTR_FLAGS p.PARAM_ATTR_STAR_MORE p.PARAM_ATTR_STAR_END parameter_words)
  pub properties : IsReadBack p.PROPERTY_ATTR_STAR_MORE p.PROPERTY_ATTR_STAR_END read.property_words
      (below n.PROPERTY_ATTR p.PROPERTY_ATTR_FLAGS p.PROPERTY_ATTR_STAR_MORE p.PROPERTY_ATTR_STAR_END property_words)
  pub typars : IsReadBack p.TYPAR_ATTR_STAR_MORE p.TYPAR_ATTR_STAR_END read.typar_words
      (below n.TYPAR_ATTR p.TYPAR_ATTR_FLAGS p.TYPAR_ATTR_STAR_MORE p.TYPAR_ATTR_STAR_END typar_words)
  pub assemblies : IsReadBack p.ASSEMBLY_ATTR_STAR_MORE p.ASSEMBLY_ATTR_STAR_END read.assembly_words
      (below n.ASSEMBLY_ATTR p.ASSEMBLY_ATTR_FLAGS p.ASSEMBLY_ATTR_STAR_MORE p.ASSEMBLY_ATTR_STAR_END assembly_words)
