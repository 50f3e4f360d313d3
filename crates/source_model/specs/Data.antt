-- Data, and the fields that are mapped to it (ECMA-335 II.16.3).
use Rattle.std.specs.Prelude.{ℕ, zero, suc, ◌+◌, ◌*◌, ◌/◌, ◌%◌, ◌==◌, if◌then◌else◌, ℤ, pos, List, [], ◌∷◌, ◌++◌, length, take, find, filter, bytes_eq, fold, Option, None, Some}
use Rattle.std.specs.List.{flat_map}
use Rattle.type_terms.specs.declared.name.Scope as scope
use Rattle.type_terms.specs.declared.name.TypeId.{TypeId}
use Rattle.type_terms.specs.declared.term.SigType.{SigType, fold-SigType}
use Rattle.type_terms.specs.declared.term.Owner.TheOpen.{SigType-F, Prim, Class, Value, Inst, Var, MVar, SzArray, Array, ByRef, Pointer, Mod, Pinned}
use Rattle.assembly_tree.specs.declared.typedef.Layout.{Layout}
use Rattle.assembly_tree.specs.DataSize.{layout_size, primitive_size, no_size}
use Rattle.ilasm_grammar.specs.declared.productions.TheConstants.{
  MEMBER_PACK,
  MEMBER_SIZE,
  DATA,
  DATA_LABEL,
  DATA_ITEM_BYTES,
  DATA_ITEM_DATA_NUM,
  DATA_NUM_INT_TYPE,
  DATA_NUM_FLOAT32,
  PARENTHESIZED_INT,
  BRACKETED_INT,
  AT_NAME,
}
use Rattle.source_model.specs.Constants.{bits_of, wrapped}
use Rattle.source_model.specs.Forest.{Forest, Part, parts, each, has, the, leaf_at}
use Rattle.source_model.specs.Items.{members}
use Rattle.source_model.specs.Names.{class_at}
use Rattle.source_model.specs.Nodes.{Node}
use Rattle.source_model.specs.Shapes.{natural}
use Rattle.source_model.specs.Source.{Source}
use Rattle.source_model.specs.Types.{int_type}
use Rattle.source_model.specs.Values.{int_at, name_text, array_bytes}

-- ---- layouts (ECMA-335 II.10.7)

-- the last of the lines of this production among the members of a class, by the token of its number
abbrev pub lines_of : ℕ → Forest → List Part
lines_of production class = filter (λ p. p.production == production) (members class)

abbrev pub last_number : Source → List Part → ℕ
last_number s ps = fold (λ n p. natural (int_at s (leaf_at 1 p.below))) 0 ps

-- a packing size or a class size gives the class a layout; the one of the two that is missing is 0
abbrev pub layout_from : Source → List Part → List Part → Option Layout
layout_from s [] [] = None
layout_from s (p ∷ ps) sizes = Some (record { pack = last_number s (p ∷ ps); size = last_number s sizes })
layout_from s [] (p ∷ ps) = Some (record { pack = 0; size = last_number s (p ∷ ps) })

abbrev pub layout : Source → Forest → Option Layout
layout s class = layout_from s (lines_of MEMBER_PACK class) (lines_of MEMBER_SIZE class)

-- ---- the sizes of types in data

abbrev pub class_layout : Source → Option Node → Option Layout
class_layout s None = None
class_layout s (Some n) = layout s n.below

abbrev pub value_layout : Source → scope.Scope → List TypeId → Option Layout
value_layout s scope.TheVariants.Here path = class_layout s (class_at s path)
value_layout s (scope.TheVariants.Extern k) path = None

-- the bytes that the layout of a value type of this source states
abbrev pub value_size : Source → scope.Scope → List TypeId → Option ℕ
value_size s at path = layout_size (value_layout s at path)

-- The bytes of a value of a type, by those of value types of a name: of a primitive type by its width, of a type with a modifier
-- by the type in it; no other type has a stated size.
abbrev pub size_step : (scope.Scope → List TypeId → Option ℕ) → SigType-F (Option ℕ) (Option ℕ) → Option ℕ
size_step value (Prim p) = primitive_size p
size_step value (Value name) = value name.scope name.path
size_step value (Mod required by of) = of
size_step value (Class name) = None
size_step value (Inst v name args) = None
size_step value (Var n) = None
size_step value (MVar n) = None
size_step value (SzArray of) = None
size_step value (Array of rank sizes lower) = None
size_step value (ByRef of) = None
size_step value (Pointer of) = None
size_step value (Pinned of) = None

abbrev pub size_by : (scope.Scope → List TypeId → Option ℕ) → SigType → Option ℕ
size_by value t = fold-SigType (Option ℕ) (Option ℕ) no_size (size_step value) t

-- by the class sizes of their layouts
abbrev pub data_size : Source → SigType → Option ℕ
data_size s t = size_by (value_size s) t

-- ---- data

-- the bytes of a number, lowest first
abbrev pub little_bytes : ℕ → ℕ → List ℕ
little_bytes zero n = []
little_bytes (suc count) n = (n % 256) ∷ little_bytes count (n / 256)

-- the width of the numbers of an item, in bits
abbrev pub item_bits : Forest → ℕ
item_bits f = if has DATA_NUM_INT_TYPE f then bits_of (int_type (the DATA_NUM_INT_TYPE f)) else if has DATA_NUM_FLOAT32 f then 32 else 64

-- the number of an item, or the bits of its real number; without a value it is 0
abbrev pub item_value : Source → Forest → ℤ
item_value s f = if has PARENTHESIZED_INT f then int_at s (leaf_at 1 (the PARENTHESIZED_INT f)) else pos 0

-- how often its bytes stand
abbrev pub item_count : Source → Forest → ℕ
item_count s f = if has BRACKETED_INT f then natural (int_at s (leaf_at 1 (the BRACKETED_INT f))) else 1

abbrev pub repeated : ℕ → List ℕ → List ℕ
repeated zero bytes = []
repeated (suc count) bytes = bytes ++ repeated count bytes

-- the bytes of an item
abbrev pub item_bytes : Source → Part → List ℕ
item_bytes s p =
    if p.production == DATA_ITEM_BYTES then array_bytes s (leaf_at 0 p.below)
    else repeated (item_count s p.below) (little_bytes (item_bits p.below / 8) (wrapped (item_bits p.below) (item_value s p.below)))

-- the number of its bytes
abbrev pub item_length : Source → Part → ℕ
item_length s p =
    if p.production == DATA_ITEM_BYTES then length (array_bytes s (leaf_at 0 p.below))
    else item_count s p.below * (item_bits p.below / 8)

abbrev pub data_items : Forest → List Part
data_items f = parts (DATA_ITEM_BYTES ∷ DATA_ITEM_DATA_NUM ∷ []) f

-- the bytes that a declaration of data gives: those of its items, joined
abbrev pub data_bytes : Source → Forest → List ℕ
data_bytes s f = flat_map (item_bytes s) (data_items f)

abbrev pub data_length : Source → Forest → ℕ
data_length s f = fold (λ n p. n + item_length s p) 0 (data_items f)

-- the declarations of data with a label, whichever class they stand in
abbrev pub labelled : Source → List Forest
labelled s = filter (has DATA_LABEL) (each DATA s.tree)

abbrev pub label_token : Forest → ℕ
label_token f = leaf_at 0 (the DATA_LABEL f)

-- the first data with this label
abbrev pub data_named : Source → List ℕ → Option Forest
data_named s label = find (λ f. bytes_eq (name_text s (label_token f)) label) (labelled s)

-- ---- fields with data

-- the token of the label behind `at`
abbrev pub at_token : Forest → ℕ
at_token f = leaf_at 1 (the AT_NAME f)

abbrev pub first_bytes : Option ℕ → List ℕ → List ℕ
first_bytes None bytes = bytes
first_bytes (Some size) bytes = take size bytes

abbrev pub bytes_at : Source → Option Forest → List ℕ
bytes_at s None = []
bytes_at s (Some f) = data_bytes s f

-- `at L` gives the field the first bytes of the data of that label, as many as a value of its type has
abbrev pub content : Source → SigType → Forest → Option (List ℕ)
content s of f =
    if has AT_NAME f then Some (first_bytes (data_size s of) (bytes_at s (data_named s (name_text s (at_token f))))) else None
