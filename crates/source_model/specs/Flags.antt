-- Flags: the words for them, and what a row of words and `flags(n)` gives (ECMA-335 II.10.1, II.15.4.2, II.16.1, II.23.1).
use Rattle.std.specs.Prelude.{ℕ, ◌-◌, ◌==◌, if◌then◌else◌, List, [], ◌∷◌, ◌++◌, fold, find, bit_and, bit_or, Option, None, Some}
use Rattle.il_lexer.specs.declared.word.TheConstants as word
use Rattle.ilasm_grammar.specs.declared.productions.TheConstants.{
  FLAGS,
  ASSEMBLY_ATTR_STAR_MORE,
  ASSEMBLY_ATTR_STAR_END,
  CLASS_ATTR_STAR_MORE,
  CLASS_ATTR_STAR_END,
  CLASS_ATTR_NESTED,
  FIELD_ATTR_STAR_MORE,
  FIELD_ATTR_STAR_END,
  METHOD_ATTR_STAR_MORE,
  METHOD_ATTR_STAR_END,
  IMPL_ATTR_STAR_MORE,
  IMPL_ATTR_STAR_END,
  PARAM_ATTR_STAR_MORE,
  PARAM_ATTR_STAR_END,
  PROPERTY_ATTR_STAR_MORE,
  PROPERTY_ATTR_STAR_END,
  TYPAR_ATTR_STAR_MORE,
  TYPAR_ATTR_STAR_END,
}
use Rattle.source_model.specs.Forest.{Forest, none, leaf, branch, Part, part, child, has, the, leaf_at, last_token}
use Rattle.source_model.specs.Shapes.{natural}
use Rattle.source_model.specs.Source.{Source, word_at, is_word_numbered}
use Rattle.source_model.specs.Values.{int_at}

-- ---- the words

-- a word, the bits of its group, and the value that it gives them
pub record FlagWord : Type 0 where
  pub word : ℕ
  pub group : ℕ
  pub value : ℕ

abbrev pub grouped : ℕ → ℕ → ℕ → FlagWord
grouped word group value = record { word = word; group = group; value = value }

-- a word with one bit of its own
abbrev pub single : ℕ → ℕ → FlagWord
single word bit = grouped word bit bit

-- who may see a member (ECMA-335 II.8.3, II.23.1.5, II.23.1.10)
abbrev pub member_access : List FlagWord
member_access =
    grouped word.PRIVATESCOPE 7 0 ∷ grouped word.COMPILERCONTROLLED 7 0 ∷ grouped word.PRIVATE 7 1 ∷ grouped word.FAMANDASSEM 7 2
    ∷ grouped word.ASSEMBLY 7 3 ∷ grouped word.FAMILY 7 4 ∷ grouped word.FAMORASSEM 7 5 ∷ grouped word.PUBLIC 7 6 ∷ []

-- types (ECMA-335 II.10.1, II.23.1.15)
abbrev pub type_words : List FlagWord
type_words =
    grouped word.PRIVATE 7 0 ∷ grouped word.PUBLIC 7 1 ∷ grouped word.AUTO 0x18 0 ∷ grouped word.SEQUENTIAL 0x18 8
    ∷ grouped word.EXPLICIT 0x18 0x10 ∷ grouped word.ANSI 0x30000 0 ∷ grouped word.UNICODE 0x30000 0x10000
    ∷ grouped word.AUTOCHAR 0x30000 0x20000 ∷ single word.INTERFACE 0x20 ∷ single word.ABSTRACT 0x80 ∷ single word.SEALED 0x100
    ∷ single word.SPECIALNAME 0x400 ∷ single word.RTSPECIALNAME 0x800 ∷ single word.IMPORT 0x1000
    ∷ single word.SERIALIZABLE 0x2000 ∷ single word.BEFOREFIELDINIT 0x100000 ∷ []

-- the words behind `nested`
abbrev pub nested_words : List FlagWord
nested_words =
    grouped word.PUBLIC 7 2 ∷ grouped word.PRIVATE 7 3 ∷ grouped word.FAMILY 7 4 ∷ grouped word.ASSEMBLY 7 5
    ∷ grouped word.FAMANDASSEM 7 6 ∷ grouped word.FAMORASSEM 7 7 ∷ []

-- fields (ECMA-335 II.16.1, II.23.1.5)
abbrev pub field_words : List FlagWord
field_words =
    member_access
    ++ single word.STATIC 0x10 ∷ single word.INITONLY 0x20 ∷ single word.LITERAL 0x40 ∷ single word.NOTSERIALIZED 0x80
    ∷ single word.SPECIALNAME 0x200 ∷ single word.RTSPECIALNAME 0x400 ∷ []

-- methods (ECMA-335 II.15.4.2, II.23.1.10)
abbrev pub method_words : List FlagWord
method_words =
    member_access
    ++ single word.STATIC 0x10 ∷ single word.FINAL 0x20 ∷ single word.VIRTUAL 0x40 ∷ single word.HIDEBYSIG 0x80
    ∷ single word.NEWSLOT 0x100 ∷ single word.STRICT 0x200 ∷ single word.ABSTRACT 0x400 ∷ single word.SPECIALNAME 0x800
    ∷ single word.RTSPECIALNAME 0x1000 ∷ single word.REQSECOBJ 0x8000 ∷ []

-- implementations of methods (ECMA-335 II.15.4.3, II.23.1.11)
abbrev pub implementation_words : List FlagWord
implementation_words =
    grouped word.CIL 3 0 ∷ grouped word.RUNTIME 3 3 ∷ grouped word.MANAGED 4 0 ∷ single word.NOINLINING 8
    ∷ single word.FORWARDREF 0x10 ∷ single word.SYNCHRONIZED 0x20 ∷ single word.NOOPTIMIZATION 0x40
    ∷ single word.PRESERVESIG 0x80 ∷ single word.AGGRESSIVEINLINING 0x100 ∷ single word.INTERNALCALL 0x1000 ∷ []

-- parameters (ECMA-335 II.15.4, II.23.1.13)
abbrev pub parameter_words : List FlagWord
parameter_words = single word.BRACKET_IN 1 ∷ single word.BRACKET_OUT 2 ∷ single word.BRACKET_OPT 0x10 ∷ []

-- properties and events (ECMA-335 II.17, II.18, II.23.1.4, II.23.1.14)
abbrev pub property_words : List FlagWord
property_words = single word.SPECIALNAME 0x200 ∷ single word.RTSPECIALNAME 0x400 ∷ []

-- generic parameters (ECMA-335 II.10.1.7, II.23.1.7)
abbrev pub typar_words : List FlagWord
typar_words =
    grouped word.PLUS 3 1 ∷ grouped word.MINUS 3 2 ∷ single word.CLASS 4 ∷ single word.VALUETYPE 8 ∷ single word.DOT_CTOR 0x10 ∷ []

-- assemblies (ECMA-335 II.6.2, II.23.1.2)
abbrev pub assembly_words : List FlagWord
assembly_words = single word.RETARGETABLE 0x100 ∷ []

-- ---- what they give

-- the bits but for these
abbrev pub without_bits : ℕ → ℕ → ℕ
without_bits bits flags = flags - bit_and flags bits

-- a word replaces the bits of its group by its value
abbrev pub replaced : Option FlagWord → ℕ → ℕ
replaced None flags = flags
replaced (Some w) flags = bit_or (without_bits w.group flags) w.value

abbrev pub flag_word : List FlagWord → Option ℕ → Option FlagWord
flag_word words k = find (λ w. is_word_numbered w.word k) words

-- the number of `flags(n)`, whose bits are added
abbrev pub flags_token : Forest → ℕ
flags_token f = leaf_at 2 (the FLAGS f)

abbrev pub flags_number : Source → Forest → ℕ
flags_number s f = natural (int_at s (flags_token f))

-- what a flag makes of the bits before it
abbrev pub with_flag : Source → List FlagWord → ℕ → Part → ℕ
with_flag s words flags p =
    if has FLAGS p.below then bit_or flags (flags_number s p.below)
    else if p.production == CLASS_ATTR_NESTED then replaced (flag_word nested_words (word_at s (last_token p.below))) flags
    else replaced (flag_word words (word_at s (last_token p.below))) flags

-- the flags of a row, from what stands below its first production
abbrev pub flags_in : ℕ → ℕ → Forest → List Part
flags_in more end none = []
flags_in more end (leaf token after) = flags_in more end after
flags_in more end (branch p below after) =
    (if p == more then flags_in more end below else if p == end then [] else part p below ∷ []) ++ flags_in more end after

-- the flags that these give, which begin at 0
abbrev pub flags_of : Source → List FlagWord → List Part → ℕ
flags_of s words ps = fold (with_flag s words) 0 ps

-- the rows of flags of each declaration, from what stands below its production
abbrev pub assembly_flags_in : Forest → List Part
assembly_flags_in f = flags_in ASSEMBLY_ATTR_STAR_MORE ASSEMBLY_ATTR_STAR_END (child (ASSEMBLY_ATTR_STAR_MORE ∷ []) f)

abbrev pub type_flags : Source → Forest → ℕ
type_flags s f = flags_of s type_words (flags_in CLASS_ATTR_STAR_MORE CLASS_ATTR_STAR_END (child (CLASS_ATTR_STAR_MORE ∷ []) f))

-- HasDefault and HasFieldRVA aren't in the tree (ECMA-335 II.23.1.5)
abbrev pub field_flags : Source → Forest → ℕ
field_flags s f =
    without_bits 0x8100
    (flags_of s field_words (flags_in FIELD_ATTR_STAR_MORE FIELD_ATTR_STAR_END (child (FIELD_ATTR_STAR_MORE ∷ []) f)))

abbrev pub method_flags : Source → Forest → ℕ
method_flags s f =
    flags_of s method_words (flags_in METHOD_ATTR_STAR_MORE METHOD_ATTR_STAR_END (child (METHOD_ATTR_STAR_MORE ∷ []) f))

abbrev pub implementation_flags : Source → Forest → ℕ
implementation_flags s f =
    flags_of s implementation_words (flags_in IMPL_ATTR_STAR_MORE IMPL_ATTR_STAR_END (child (IMPL_ATTR_STAR_MORE ∷ []) f))

-- the flags of a parameter before those that `.param` adds
abbrev pub parameter_flags_in : Forest → List Part
parameter_flags_in f = flags_in PARAM_ATTR_STAR_MORE PARAM_ATTR_STAR_END (child (PARAM_ATTR_STAR_MORE ∷ []) f)

abbrev pub property_flags_of : Source → Forest → ℕ
property_flags_of s f =
    flags_of s property_words (flags_in PROPERTY_ATTR_STAR_MORE PROPERTY_ATTR_STAR_END (child (PROPERTY_ATTR_STAR_MORE ∷ []) f))

-- a property's HasDefault isn't in the tree (ECMA-335 II.23.1.14)
abbrev pub property_flags : Source → Forest → ℕ
property_flags s f = without_bits 0x1000 (property_flags_of s f)

abbrev pub event_flags : Source → Forest → ℕ
event_flags s f = property_flags_of s f

abbrev pub typar_flags : Source → Forest → ℕ
typar_flags s f = flags_of s typar_words (flags_in TYPAR_ATTR_STAR_MORE TYPAR_ATTR_STAR_END (child (TYPAR_ATTR_STAR_MORE ∷ []) f))
