-- Numbers, counts, depths and data out of their bounds, outside of instructions (ECMA-335 II.6.2, II.10.7, II.15.4, II.16.2, II.16.3,
-- II.22, II.23.1, II.25.2.3).
use Rattle.std.specs.Prelude.{ℕ, ◌+◌, ◌-◌, ◌==◌, ◌&&◌, ◌||◌, ◌^◌, nat_lt, nat_le, Bool, true, false, not, if◌then◌else◌, ℤ, pos, negsuc, List, [], ◌∷◌, ◌++◌, length, fold, bit_and, Option, None, Some}
use Rattle.std.specs.List.{flat_map, list_any}
use Rattle.type_terms.specs.declared.name.Scope as scope
use Rattle.type_terms.specs.declared.name.TypeId.{TypeId}
use Rattle.type_terms.specs.declared.term.SigType.{SigType}
use Rattle.assembly_tree.specs.DataSize.{layout_size}
use Rattle.assembly_tree.specs.WellFormed.{is_image_base, is_file_alignment}
use Rattle.assembly_tree.specs.WellFormedTypes.{is_pack}
use Rattle.ilasm_grammar.specs.declared.productions.TheConstants.{TYPE, DECL_IMAGEBASE, DECL_FILE, DECL_STACKRESERVE, DECL_SUBSYSTEM, DECL_CORFLAGS, ASSEMBLY_ITEM_HASH, KEY_VER, ASSEMBLY_ATTR_FLAGS, CLASS_ATTR_FLAGS, FIELD_ATTR_FLAGS, METHOD_ATTR_FLAGS, IMPL_ATTR_FLAGS, TYPAR_ATTR_FLAGS, PROPERTY_ATTR_FLAGS, FLAGS_OPT_SOME, CLASS, FIELD, BRACKETED_INT, BRACKETED_INT_OPT_SOME, AT_NAME, CONST_INT_TYPE, CONST_FLOAT32, CONST_FLOAT64, CONST_CHAR, MEMBER_PACK, MEMBER_SIZE, MEMBER_PARAM, PARAM_OF_BRACKET, PARAM_OF_TYPE, TYPAR_KEY_BRACKET, CUSTOM, METHOD_REF, OVERRIDDEN_METHOD, PROPERTY, PROPERTY_ITEM_GET, PROPERTY_ITEM_SET, PROPERTY_ITEM_OTHER, EVENT_ITEM_ADDON, EVENT_ITEM_REMOVEON, EVENT_ITEM_FIRE, EVENT_ITEM_OTHER, DATA, DATA_ITEM_DATA_NUM, PARENTHESIZED_INT}
use Rattle.source_model.specs.Constants.{bits_of, const_token}
use Rattle.source_model.specs.Data.{lines_of, layout, size_by, data_named, data_length, data_items, item_length, item_bits, at_token}
use Rattle.source_model.specs.Flags.{flags_token}
use Rattle.source_model.specs.Forest.{Forest, Part, is_among, each, has, the, child, leaf_at, first_token}
use Rattle.source_model.specs.Names.{class_at}
use Rattle.source_model.specs.Nodes.{Node, nodes, nodes_of, typars, class_token}
use Rattle.source_model.specs.Parameters.{parameters}
use Rattle.source_model.specs.Signatures.{not_in_property, generic_arguments_token}
use Rattle.source_model.specs.Source.{Source}
use Rattle.source_model.specs.TypeRules.{is_within, unless, number_in_type_out_of_range, typars_out_of_range, path_too_long, type_too_deep}
use Rattle.source_model.specs.Types.{type_of, int_type}
use Rattle.source_model.specs.Values.{int_at, name_text}

-- ---- numbers of the manifest and of flags

abbrev pub is_16_bits : ℤ → Bool
is_16_bits z = is_within (pos 0) (pos 0xFFFF) z

abbrev pub is_32_bits : ℤ → Bool
is_32_bits z = is_within (pos 0) (pos 0xFFFFFFFF) z

-- a number without a sign that passes
abbrev pub is_natural_with : (ℕ → Bool) → ℤ → Bool
is_natural_with test (pos n) = test n
is_natural_with test (negsuc n) = false

-- flags of the CLI header: those of IL alone, without a native entry point (ECMA-335 II.25.3.3.1)
abbrev pub are_cor_flags : ℕ → Bool
are_cor_flags n = nat_le n 0xFFFFFFFF && bit_and n 1 == 1 && bit_and n 0x10 == 0

-- flags of an implementation that leave what the words `cil`, `runtime` and `managed` say
abbrev pub are_implementation_flags : ℕ → Bool
are_implementation_flags n = nat_le n 0xFFFF && bit_and n 7 == 0

abbrev pub manifest_number_out_of_range : Source → Node → List ℕ
manifest_number_out_of_range s n =
    if n.production == KEY_VER then flat_map (λ k. unless is_16_bits s (leaf_at k n.below)) (1 ∷ 3 ∷ 5 ∷ 7 ∷ [])
    else if n.production == DECL_SUBSYSTEM then unless is_16_bits s (leaf_at 1 n.below)
    else if n.production == DECL_STACKRESERVE then unless is_32_bits s (leaf_at 1 n.below)
    else if n.production == ASSEMBLY_ITEM_HASH then unless is_32_bits s (leaf_at 2 n.below)
    else if n.production == DECL_IMAGEBASE then unless (is_natural_with is_image_base) s (leaf_at 1 n.below)
    else if n.production == DECL_FILE then unless (is_natural_with is_file_alignment) s (leaf_at 2 n.below)
    else if n.production == DECL_CORFLAGS then unless (is_natural_with are_cor_flags) s (leaf_at 1 n.below)
    else []

-- flags of types and assemblies have 32 bits, others 16
abbrev pub flags_of_16_bits : List ℕ
flags_of_16_bits = FIELD_ATTR_FLAGS ∷ METHOD_ATTR_FLAGS ∷ TYPAR_ATTR_FLAGS ∷ PROPERTY_ATTR_FLAGS ∷ FLAGS_OPT_SOME ∷ []

abbrev pub flags_out_of_range : Source → Node → List ℕ
flags_out_of_range s n =
    if n.production == ASSEMBLY_ATTR_FLAGS || n.production == CLASS_ATTR_FLAGS then unless is_32_bits s (flags_token n.below)
    else if n.production == IMPL_ATTR_FLAGS then unless (is_natural_with are_implementation_flags) s (flags_token n.below)
    else if is_among flags_of_16_bits n.production then unless is_16_bits s (flags_token n.below)
    else []

-- ---- constants

-- from the least signed to the greatest unsigned number of a width
abbrev pub fits_width : ℕ → ℤ → Bool
fits_width bits z = is_within (negsuc (2 ^ (bits - 1) - 1)) (pos (2 ^ bits - 1)) z

abbrev pub constant_out_of_range : Source → Node → List ℕ
constant_out_of_range s n =
    if n.production == CONST_INT_TYPE then unless (fits_width (bits_of (int_type n.below))) s (const_token n.below)
    else if n.production == CONST_FLOAT32 then unless (fits_width 32) s (const_token n.below)
    else if n.production == CONST_FLOAT64 then unless (fits_width 64) s (const_token n.below)
    else if n.production == CONST_CHAR then unless is_16_bits s (const_token n.below)
    else []

-- ---- layouts and data

-- the place of a field, and the packing size and the class size of a class
abbrev pub layout_number_out_of_range : Source → Node → List ℕ
layout_number_out_of_range s n =
    if n.production == MEMBER_PACK then unless (is_natural_with is_pack) s (leaf_at 1 n.below)
    else if n.production == MEMBER_SIZE then unless is_32_bits s (leaf_at 1 n.below)
    else if n.production == FIELD then
    flat_map (λ f. unless is_32_bits s (leaf_at 1 f)) (each BRACKETED_INT (child (BRACKETED_INT_OPT_SOME ∷ []) n.below))
    else []

-- an item stands at most 67,108,864 times
abbrev pub is_repeat : ℤ → Bool
is_repeat z = is_within (pos 0) (pos 67108864) z

abbrev pub data_number_out_of_range : Source → Node → List ℕ
data_number_out_of_range s n =
    if n.production == DATA_ITEM_DATA_NUM then
    flat_map (λ f. unless (fits_width (item_bits n.below)) s (leaf_at 1 f)) (each PARENTHESIZED_INT n.below)
    ++ flat_map (λ f. unless is_repeat s (leaf_at 1 f)) (each BRACKETED_INT n.below)
    else []

-- an item stands more often than it may
abbrev pub stands_too_often : Source → Forest → Bool
stands_too_often s f = has BRACKETED_INT f && not (is_repeat (int_at s (leaf_at 1 (the BRACKETED_INT f))))

-- the bytes of an item, none where it stands too often
abbrev pub counted_length : Source → Part → ℕ
counted_length s p = if stands_too_often s p.below then 0 else item_length s p

-- the items of one declaration have at most 67,108,864 bytes: the first token of the item that passes that
abbrev pub item_past_length : Source → ℕ → List Part → List ℕ
item_past_length s before [] = []
item_past_length s before (p ∷ ps) =
    if nat_lt 67108864 (before + counted_length s p) then first_token p.below ∷ []
    else item_past_length s (before + counted_length s p) ps

abbrev pub data_too_long : Source → Node → List ℕ
data_too_long s n = if n.production == DATA then item_past_length s 0 (data_items n.below) else []

-- ---- parameters

-- `.param [n]` speaks of the return value or of a parameter, `.param type [n]` of a generic parameter
abbrev pub key_out_of_range : Source → Forest → Forest → List ℕ
key_out_of_range s owner f =
    flat_map (λ g. unless (is_within (pos 1) (pos (length (typars owner)))) s (leaf_at 1 g)) (each TYPAR_KEY_BRACKET f)

abbrev pub param_out_of_range : Source → Node → List ℕ
param_out_of_range s n =
    if n.production == PARAM_OF_BRACKET then
    unless (is_within (pos 0) (pos (length (parameters n.around.method)))) s (leaf_at 1 n.below)
    else if n.production == PARAM_OF_TYPE then key_out_of_range s n.around.method n.below
    else if n.production == MEMBER_PARAM then key_out_of_range s n.around.class n.below
    else []

-- ---- references and properties

-- generic arguments can't stand where a column holds no instantiation
abbrev pub without_arguments : List ℕ
without_arguments =
    CUSTOM ∷ OVERRIDDEN_METHOD ∷ PROPERTY_ITEM_GET ∷ PROPERTY_ITEM_SET ∷ PROPERTY_ITEM_OTHER ∷ EVENT_ITEM_ADDON
    ∷ EVENT_ITEM_REMOVEON ∷ EVENT_ITEM_FIRE ∷ EVENT_ITEM_OTHER ∷ []

abbrev pub barred_arguments : Node → List ℕ
barred_arguments n =
    if is_among without_arguments n.production then generic_arguments_token (the METHOD_REF n.below) else []

abbrev pub barred_in_property : Node → List ℕ
barred_in_property n = if n.production == PROPERTY then not_in_property n.below else []

-- ---- all of these

abbrev pub number_out_of_range_at : Source → Node → List ℕ
number_out_of_range_at s n =
    manifest_number_out_of_range s n ++ flags_out_of_range s n ++ constant_out_of_range s n ++ layout_number_out_of_range s n
    ++ data_number_out_of_range s n ++ data_too_long s n ++ param_out_of_range s n ++ barred_arguments n ++ barred_in_property n
    ++ number_in_type_out_of_range s n ++ typars_out_of_range n

abbrev pub numbers_out_of_range : Source → List ℕ
numbers_out_of_range s = flat_map (number_out_of_range_at s) (nodes s)

-- types deeper than 100
abbrev pub types_too_deep : Source → List ℕ
types_too_deep s = flat_map (type_too_deep s) (nodes s)

-- classes that nest, and paths that lead, deeper than 100: the class's name, and the path's first name
abbrev pub class_too_deep : Node → List ℕ
class_too_deep n = if n.production == CLASS && nat_lt 100 (length n.around.path) then class_token n.below ∷ [] else []

abbrev pub nestings_too_deep : Source → List ℕ
nestings_too_deep s = flat_map class_too_deep (nodes s) ++ flat_map path_too_long (nodes s)

-- ---- fields with data

-- A class size and a repeat that are out of their ranges are named by B1: of them, and of what rests on them, no more is asked.

-- the last `.size` of a class, if it has one, is in its range
abbrev pub is_size_in_range : Source → Forest → Bool
is_size_in_range s class = fold (λ before p. is_32_bits (int_at s (leaf_at 1 p.below))) true (lines_of MEMBER_SIZE class)

-- the bytes that are asked of data for a value of a class: its class size, or none where that is out of its range
abbrev pub asked_class_size : Source → Forest → Option ℕ
asked_class_size s class = if is_size_in_range s class then layout_size (layout s class) else Some 0

abbrev pub asked_size_at : Source → Option Node → Option ℕ
asked_size_at s None = None
asked_size_at s (Some n) = asked_class_size s n.below

abbrev pub asked_value_size : Source → scope.Scope → List TypeId → Option ℕ
asked_value_size s scope.TheVariants.Here path = asked_size_at s (class_at s path)
asked_value_size s (scope.TheVariants.Extern k) path = None

abbrev pub asked_size : Source → SigType → Option ℕ
asked_size s t = size_by (asked_value_size s) t

-- those for the type of a field
abbrev pub field_size : Source → Node → Option ℕ
field_size s n = asked_size s (type_of s n.around (child (TYPE ∷ []) n.below))

-- the bytes of data, where no repeat in it is out of its range
abbrev pub asked_length : Source → Forest → Option ℕ
asked_length s f = if list_any (λ p. stands_too_often s p.below) (data_items f) then None else Some (data_length s f)

abbrev pub data_named_length : Source → Option Forest → Option ℕ
data_named_length s None = None
data_named_length s (Some f) = asked_length s f

-- data with fewer bytes than the field has: the label behind `at`
abbrev pub label_if_short : Option ℕ → Option ℕ → ℕ → List ℕ
label_if_short None length k = []
label_if_short (Some size) None k = []
label_if_short (Some size) (Some length) k = if nat_lt length size then k ∷ [] else []

abbrev pub data_too_short_of : Source → Node → List ℕ
data_too_short_of s n =
    if has AT_NAME n.below then
    label_if_short (field_size s n) (data_named_length s (data_named s (name_text s (at_token n.below)))) (at_token n.below)
    else []

abbrev pub data_too_short : Source → List ℕ
data_too_short s = flat_map (data_too_short_of s) (nodes_of (FIELD ∷ []) (nodes s))

-- a field with data whose type has no stated size: the label behind `at`
abbrev pub label_if_none : Option ℕ → ℕ → List ℕ
label_if_none None k = k ∷ []
label_if_none (Some size) k = []

abbrev pub data_unsized_of : Source → Node → List ℕ
data_unsized_of s n = if has AT_NAME n.below then label_if_none (field_size s n) (at_token n.below) else []

abbrev pub data_unsized : Source → List ℕ
data_unsized s = flat_map (data_unsized_of s) (nodes_of (FIELD ∷ []) (nodes s))
