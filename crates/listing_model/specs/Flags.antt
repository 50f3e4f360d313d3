-- The words of flags in the order of a listing, and what they leave for `flags(..)` (ECMA-335 II.10.1, II.15.4.2, II.16.1, II.23.1).
use Rattle.std.specs.Prelude.{ℕ, ◌+◌, ◌==◌, Bool, List, [], ◌∷◌, ◌++◌, map, fold, filter, bit_and, bit_or, bit_xor, if◌then◌else◌}
use Rattle.il_lexer.specs.declared.types.TokenKind.TheVariants as kind
use Rattle.il_lexer.specs.declared.word.TheConstants as word
use Rattle.ilasm_grammar.specs.Ilasm.{picked}
use Rattle.ilasm_grammar.specs.declared.nonterminals.TheConstants as n
use Rattle.ilasm_grammar.specs.declared.productions.TheConstants as p
use Rattle.ilasm_grammar.specs.declared.terminals.TheConstants.{WORDS}
use Rattle.listing_leaves.specs.Numbers.{hexadecimal}
use Rattle.listing_model.specs.Shown.{Shown, none, branch, Item, item, token, w}

-- a word, the bits of its group, and the value that it stands for
pub record FlagWord : Type 0 where
  pub word : ℕ
  pub group : ℕ
  pub value : ℕ

abbrev pub grouped : ℕ → ℕ → ℕ → FlagWord
grouped word group value = record { word = word; group = group; value = value }

-- a word with one bit of its own
abbrev pub single : ℕ → ℕ → FlagWord
single word bit = grouped word bit bit

-- ---- the words

-- who may see a member (II.23.1.5, II.23.1.10)
abbrev pub member_access : List FlagWord
member_access =
    grouped word.PRIVATESCOPE 7 0 ∷ grouped word.PRIVATE 7 1 ∷ grouped word.FAMANDASSEM 7 2 ∷ grouped word.ASSEMBLY 7 3
    ∷ grouped word.FAMILY 7 4 ∷ grouped word.FAMORASSEM 7 5 ∷ grouped word.PUBLIC 7 6 ∷ []

-- who may see a type that no type nests, and, behind `nested`, one that a type nests (II.23.1.15)
abbrev pub type_access : List FlagWord
type_access = grouped word.PRIVATE 7 0 ∷ grouped word.PUBLIC 7 1 ∷ []

abbrev pub nested_access : List FlagWord
nested_access =
    grouped word.PUBLIC 7 2 ∷ grouped word.PRIVATE 7 3 ∷ grouped word.FAMILY 7 4 ∷ grouped word.ASSEMBLY 7 5
    ∷ grouped word.FAMANDASSEM 7 6 ∷ grouped word.FAMORASSEM 7 7 ∷ []

-- types (II.23.1.15)
abbrev pub type_words : List FlagWord
type_words =
    grouped word.AUTO 0x18 0 ∷ grouped word.SEQUENTIAL 0x18 8 ∷ grouped word.EXPLICIT 0x18 0x10 ∷ grouped word.ANSI 0x30000 0
    ∷ grouped word.UNICODE 0x30000 0x10000 ∷ grouped word.AUTOCHAR 0x30000 0x20000 ∷ single word.INTERFACE 0x20
    ∷ single word.ABSTRACT 0x80 ∷ single word.SEALED 0x100 ∷ single word.SPECIALNAME 0x400 ∷ single word.RTSPECIALNAME 0x800
    ∷ single word.IMPORT 0x1000 ∷ single word.SERIALIZABLE 0x2000 ∷ single word.BEFOREFIELDINIT 0x100000 ∷ []

-- fields (II.23.1.5)
abbrev pub field_words : List FlagWord
field_words =
    member_access
    ++ single word.STATIC 0x10 ∷ single word.INITONLY 0x20 ∷ single word.LITERAL 0x40 ∷ single word.NOTSERIALIZED 0x80
    ∷ single word.SPECIALNAME 0x200 ∷ single word.RTSPECIALNAME 0x400 ∷ []

-- methods (II.23.1.10)
abbrev pub method_words : List FlagWord
method_words =
    member_access
    ++ single word.STATIC 0x10 ∷ single word.FINAL 0x20 ∷ single word.VIRTUAL 0x40 ∷ single word.HIDEBYSIG 0x80
    ∷ single word.NEWSLOT 0x100 ∷ single word.STRICT 0x200 ∷ single word.ABSTRACT 0x400 ∷ single word.SPECIALNAME 0x800
    ∷ single word.RTSPECIALNAME 0x1000 ∷ single word.REQSECOBJ 0x8000 ∷ []

-- implementations of methods (II.23.1.11)
abbrev pub implementation_words : List FlagWord
implementation_words =
    grouped word.CIL 3 0 ∷ grouped word.RUNTIME 3 3 ∷ grouped word.MANAGED 4 0 ∷ single word.NOINLINING 8
    ∷ single word.FORWARDREF 0x10 ∷ single word.SYNCHRONIZED 0x20 ∷ single word.NOOPTIMIZATION 0x40
    ∷ single word.PRESERVESIG 0x80 ∷ single word.AGGRESSIVEINLINING 0x100 ∷ single word.INTERNALCALL 0x1000 ∷ []

-- parameters (II.23.1.13)
abbrev pub parameter_words : List FlagWord
parameter_words = single word.BRACKET_IN 1 ∷ single word.BRACKET_OUT 2 ∷ single word.BRACKET_OPT 0x10 ∷ []

-- properties and events (II.23.1.4, II.23.1.14)
abbrev pub property_words : List FlagWord
property_words = single word.SPECIALNAME 0x200 ∷ single word.RTSPECIALNAME 0x400 ∷ []

-- generic parameters (II.23.1.7)
abbrev pub typar_words : List FlagWord
typar_words =
    grouped word.PLUS 3 1 ∷ grouped word.MINUS 3 2 ∷ single word.CLASS 4 ∷ single word.VALUETYPE 8 ∷ single word.DOT_CTOR 0x10 ∷ []

-- assemblies (II.23.1.2)
abbrev pub assembly_words : List FlagWord
assembly_words = single word.RETARGETABLE 0x100 ∷ []

-- ---- what is said of a number

abbrev pub holds : ℕ → FlagWord → Bool
holds k x = bit_and k x.group == x.value

-- the words that hold, in the order of the table
abbrev pub said : List FlagWord → ℕ → List FlagWord
said words k = filter (holds k) words

-- the number without these bits
abbrev pub without_bits : ℕ → ℕ → ℕ
without_bits bits k = bit_xor k (bit_and k bits)

-- the bits of the groups of which a word holds
abbrev pub said_bits : List FlagWord → ℕ → ℕ
said_bits words k = fold (λ bits x. bit_or bits x.group) 0 (said words k)

-- what no word says
abbrev pub rest_of : List FlagWord → ℕ → ℕ
rest_of words k = without_bits (said_bits words k) k

-- what words give: each replaces the bits of its group by its value
abbrev pub told : List FlagWord → ℕ
told xs = fold (λ flags x. bit_or (without_bits x.group flags) x.value) 0 xs

-- ---- their items

-- the only production of a nonterminal that begins with a word, for a word alone
abbrev pub word_item : ℕ → ℕ → Item
word_item nonterminal k = item (picked nonterminal (WORDS + k)) (w k none)

-- below `flags(0x..)`
abbrev pub flags_below : ℕ → Shown
flags_below k = w word.FLAGS (w word.OPEN_PAREN (token kind.Int (hexadecimal 0 k) (w word.CLOSE_PAREN none)))

-- `flags(..)`, where there is a bit
abbrev pub rest_items : ℕ → ℕ → List Item
rest_items production k = if k == 0 then [] else item production (branch p.FLAGS (flags_below k) none) ∷ []

-- the words of a row of flags, and the rest
abbrev pub flag_items : ℕ → ℕ → List FlagWord → ℕ → List Item
flag_items nonterminal production words k =
    map (λ x. word_item nonterminal x.word) (said words k) ++ rest_items production (rest_of words k)

-- behind `nested`
abbrev pub nested_item : FlagWord → Item
nested_item x =
    item p.CLASS_ATTR_NESTED (w word.NESTED (branch (picked n.NESTED_ACCESS (WORDS + x.word)) (w x.word none) none))

abbrev pub type_flag_items : ℕ → List Item
type_flag_items k =
    map (λ x. word_item n.CLASS_ATTR x.word) (said type_access k) ++ map nested_item (said nested_access k)
    ++ flag_items n.CLASS_ATTR p.CLASS_ATTR_FLAGS type_words (without_bits 7 k)
