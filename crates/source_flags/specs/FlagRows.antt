-- The rows of flags in the heads of declarations: their words, and the productions that go on with them and end them.
use Rattle.std.specs.Prelude.{◌≡◌, ℕ, ◌%◌, ◌^◌, ◌==◌, if◌then◌else◌, List, [], ◌∷◌, fold, Option, None, Some}
use Rattle.ilasm_grammar.specs.declared.productions.TheConstants.{
  ASSEMBLY_ATTR_STAR_MORE,
  ASSEMBLY_ATTR_STAR_END,
  CLASS_ATTR_STAR_MORE,
  CLASS_ATTR_STAR_END,
  CLASS_ATTR_NESTED,
  FIELD_ATTR_STAR_MORE,
  FIELD_ATTR_STAR_END,
  METHOD_ATTR_STAR_MORE,
  METHOD_ATTR_STAR_END,
  IMPL_ATTR_STAR_MORE,
  IMPL_ATTR_STAR_END,
  PARAM_ATTR_STAR_MORE,
  PARAM_ATTR_STAR_END,
  PROPERTY_ATTR_STAR_MORE,
  PROPERTY_ATTR_STAR_END,
  TYPAR_ATTR_STAR_MORE,
  TYPAR_ATTR_STAR_END,
}
use Rattle.source_model.specs.Flags.{
  FlagWord,
  assembly_words,
  field_words,
  flag_word,
  flags_in,
  flags_of,
  implementation_words,
  method_words,
  nested_words,
  parameter_words,
  property_words,
  typar_words,
  type_words,
  with_flag,
}
use Rattle.source_model.specs.Forest.{Forest, Part, child}
use Rattle.source_model.specs.Source.{Source}
use Rattle.source_flags.specs.declared.flag_rows.Row.{Row}
use Rattle.source_flags.specs.declared.flag_rows.Row.TheVariants.{Assembly, Class, Field, Method, Implementation, Parameter, Property, Typar}
use Rattle.source_flags.specs.declared.flags.Bits.{Bits}

abbrev pub words_of : Row → List FlagWord
words_of Assembly = assembly_words
words_of Class = type_words
words_of Field = field_words
words_of Method = method_words
words_of Implementation = implementation_words
words_of Parameter = parameter_words
words_of Property = property_words
words_of Typar = typar_words

abbrev pub more_of : Row → ℕ
more_of Assembly = ASSEMBLY_ATTR_STAR_MORE
more_of Class = CLASS_ATTR_STAR_MORE
more_of Field = FIELD_ATTR_STAR_MORE
more_of Method = METHOD_ATTR_STAR_MORE
more_of Implementation = IMPL_ATTR_STAR_MORE
more_of Parameter = PARAM_ATTR_STAR_MORE
more_of Property = PROPERTY_ATTR_STAR_MORE
more_of Typar = TYPAR_ATTR_STAR_MORE

abbrev pub end_of : Row → ℕ
end_of Assembly = ASSEMBLY_ATTR_STAR_END
end_of Class = CLASS_ATTR_STAR_END
end_of Field = FIELD_ATTR_STAR_END
end_of Method = METHOD_ATTR_STAR_END
end_of Implementation = IMPL_ATTR_STAR_END
end_of Parameter = PARAM_ATTR_STAR_END
end_of Property = PROPERTY_ATTR_STAR_END
end_of Typar = TYPAR_ATTR_STAR_END

-- the flags of a row, from what stands below its production
abbrev pub row_parts : Row → Forest → List Part
row_parts row f = flags_in (more_of row) (end_of row) (child (more_of row ∷ []) f)

-- what the row of a declaration gives, from what stands below the declaration's production
abbrev pub row_flags : Source → Row → Forest → ℕ
row_flags s row f = flags_of s (words_of row) (row_parts row f)

-- what a word of a row says, by the production that it stands in
abbrev pub words_at : Row → ℕ → Option ℕ → Option FlagWord
words_at row p k = if p == CLASS_ATTR_NESTED then flag_word nested_words k else flag_word (words_of row) k

-- these bits are those of the word
abbrev pub Replaces : Option FlagWord → Option Bits → Type 0
Replaces w None = w ≡ None
Replaces w (Some b) = (x : FlagWord) × (w ≡ Some x) × (x.group ≡ b.group) × (x.value ≡ b.value)

-- the lowest bits of flags after the rest of a row
abbrev pub flags_after : Source → Row → ℕ → Forest → ℕ
flags_after s row flags f = fold (with_flag s (words_of row)) flags (flags_in (more_of row) (end_of row) f) % 2 ^ 32
