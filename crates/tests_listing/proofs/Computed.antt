-- The examples, computed.
use Rattle.std.proofs.Common.{◌≡◌, [], ◌∷◌, refl, true, false, Some}
use Rattle.std.specs.Prelude.{codes, pos, negsuc}
use Rattle.std.specs.Fmt.{digits}
use Rattle.il_lexer.specs.WordList.{words}
use Rattle.ilasm_grammar.specs.Ilasm.{picked, picked_by}
use Rattle.ilasm_grammar.specs.declared.nonterminals.TheConstants as n
use Rattle.ilasm_grammar.specs.declared.productions.TheConstants as p
use Rattle.opcode_table.specs.declared.op.Op.TheVariants as op
use Rattle.type_terms.specs.declared.term.Primitive.TheVariants as prim
use Rattle.type_terms.specs.declared.term.Owner.TheOpen.{Name, Spec, Prim, Class, Inst, Var, MVar, SzArray, Array, ByRef, Pointer, Mod, Pinned}
use Rattle.assembly_tree.specs.WellFormedBodies.{size_of, operand_kind}
use Rattle.opcode_table.specs.Sizes.{opcode_size}
use Rattle.assembly_tree.specs.declared.body.ClauseKind.TheVariants as handles
use Rattle.assembly_tree.specs.declared.body.Operand.TheVariants as operand
use Rattle.assembly_tree.specs.declared.members.Constant.TheVariants as constant
use Rattle.listing_leaves.specs.Bytes.{equals_bytes, byte_array}
use Rattle.listing_leaves.specs.Names as names
use Rattle.listing_leaves.specs.Numbers.{hexadecimal, natural, integer, label, data_label}
use Rattle.listing_leaves.specs.Texts.{quoted, quoted_units}
use Rattle.listing_model.specs.Bodies.{body}
use Rattle.listing_model.specs.Classes.{classes_from}
use Rattle.listing_model.specs.Flags.{flag_items, type_flag_items, field_words, implementation_words, typar_words, parameter_words}
use Rattle.listing_model.specs.Manifests.{extern_lines, manifest_lines}
use Rattle.listing_model.specs.Methods.{param_line, typar_item}
use Rattle.listing_model.specs.Shown.{none, put, star}
use Rattle.listing_model.specs.Text.{text, line_text}
use Rattle.listing_model.specs.Types.{type_step, owner_step}
use Rattle.listing_model.specs.Values.{data_line}
use Rattle.tests_listing.specs.Examples.{Examples, nested_name, int32, shown, row, equals, library, mine, empty_class}

word_is : names.name (codes "add") ≡ codes "'add'"
unfolding names.name names.spelled words quoted
word_is = refl

type_with_dot_is : names.type_name (codes "c.d") (codes "a.b") ≡ codes "c.d.'a.b'"
unfolding names.type_name names.spelled words quoted
type_with_dot_is = refl

joined_word_is : names.type_name (codes "ldc") (codes "i4") ≡ codes "ldc.'i4'"
unfolding names.type_name names.spelled words quoted
joined_word_is = refl

word_in_space_is : names.type_name (codes "ldc.i4") (codes "x") ≡ codes "ldc.i4.x"
unfolding names.type_name names.spelled words quoted
word_in_space_is = refl

space_with_empty_piece_is : names.type_name (codes "a..b") (codes "C") ≡ codes "'a..b'.C"
unfolding names.type_name names.spelled words quoted
space_with_empty_piece_is = refl

empty_piece_is : names.name (codes "M..x") ≡ codes "'M..x'"
unfolding names.name names.spelled words quoted
empty_piece_is = refl

bracket_word_is : names.scope (codes "in") ≡ codes "['in']"
unfolding names.scope names.name names.spelled words quoted
bracket_word_is = refl

escapes_is : names.name (39 ∷ 92 ∷ 1 ∷ 127 ∷ 195 ∷ 169 ∷ []) ≡ (39 ∷ 92 ∷ 39 ∷ 92 ∷ 92 ∷ 92 ∷ 48 ∷ 48 ∷ 49 ∷ 92 ∷ 49 ∷ 55 ∷ 55 ∷ 195 ∷ 169 ∷ 39 ∷ [])
unfolding names.name names.spelled words quoted
escapes_is = refl

modified_is : shown (type_step [] (Mod true (owner_step [] (Name nested_name)) (type_step [] (ByRef int32)))) ≡ codes "int32& modreq(ab/n.cd)"
unfolding line_text words names.type_name names.spelled quoted
modified_is = refl

pinned_is : shown (type_step [] (Pinned (type_step [] (Mod false (owner_step [] (Spec (type_step [] (Class nested_name)))) int32)))) ≡ codes "int32 modopt(class ab/n.cd) pinned"
unfolding line_text words names.type_name names.spelled quoted
pinned_is = refl

sized_is : shown (type_step [] (Array int32 4 (4 ∷ 4 ∷ []) (pos 1 ∷ []))) ≡ codes "int32[1...4, 4, , ]"
unfolding line_text words natural integer digits
sized_is = refl

lower_bounds_is : shown (type_step [] (Array int32 2 [] (pos 0 ∷ negsuc 1 ∷ []))) ≡ codes "int32[0..., -2...]"
unfolding line_text words natural integer digits
lower_bounds_is = refl

one_dimension_is : shown (type_step [] (Array int32 1 [] [])) ≡ codes "int32[...]"
unfolding line_text words natural integer digits
one_dimension_is = refl

of_vectors_is : shown (type_step [] (Array (type_step [] (SzArray int32)) 3 [] [])) ≡ codes "int32[][, , ]"
unfolding line_text words natural integer digits
of_vectors_is = refl

no_elements_is : shown (type_step [] (Array int32 1 (0 ∷ []) (pos 2 ∷ []))) ≡ codes "int32[2...1]"
unfolding line_text words natural integer digits
no_elements_is = refl

instance_is : shown (type_step [] (Pointer (type_step [] (Inst true nested_name (type_step [] (Var 0) ∷ type_step [] (MVar 12) ∷ type_step [] (Prim prim.NUint) ∷ [])))))
    ≡ codes "valuetype ab/n.cd<!0, !!12, native uint>*"
unfolding line_text words names.type_name names.spelled quoted natural digits
instance_is = refl

field_flags_is : row (flag_items n.FIELD_ATTR p.FIELD_ATTR_FLAGS field_words 0x7EFF) ≡ codes "static initonly literal notserialized specialname rtspecialname flags(0x780F)"
unfolding line_text words picked picked_by hexadecimal digits
field_flags_is = refl

type_flags_is : row (type_flag_items 0x8200A) ≡ codes "nested public sequential ansi serializable flags(0x80000)"
unfolding line_text words picked picked_by hexadecimal digits
type_flags_is = refl

implementation_flags_is : row (flag_items n.IMPL_ATTR p.IMPL_ATTR_FLAGS implementation_words 0x408) ≡ codes "cil managed noinlining flags(0x400)"
unfolding line_text words picked picked_by hexadecimal digits
implementation_flags_is = refl

typar_flags_is : row (flag_items n.TYPAR_ATTR p.TYPAR_ATTR_FLAGS typar_words 0x16) ≡ codes "- class .ctor"
unfolding line_text words picked picked_by hexadecimal digits
typar_flags_is = refl

parameter_flags_is : row (flag_items n.PARAM_ATTR p.PARAM_ATTR_FLAGS parameter_words 0x2013) ≡ codes "[in] [out] [opt] flags(0x2000)"
unfolding line_text words picked picked_by hexadecimal digits
parameter_flags_is = refl

signed_is : equals (constant.Int prim.I1 (negsuc 0)) ≡ codes "= int8(-1)"
unfolding line_text words integer digits
signed_is = refl

real_is : equals (constant.Real8 1) ≡ codes "= float64(0x0000000000000001)"
unfolding line_text words hexadecimal digits
real_is = refl

quoted_is : equals (constant.Str (113 ∷ 34 ∷ 92 ∷ 9 ∷ 10 ∷ [])) ≡ (61 ∷ 32 ∷ 34 ∷ 113 ∷ 92 ∷ 34 ∷ 92 ∷ 92 ∷ 92 ∷ 116 ∷ 92 ∷ 110 ∷ 34 ∷ [])
unfolding line_text words quoted_units
quoted_is = refl

surrogate_is : equals (constant.Str (0xD800 ∷ [])) ≡ codes "= bytearray (00 D8)"
unfolding line_text words byte_array
surrogate_is = refl

bytes_is : line_text (put (data_line 3 (1 ∷ 255 ∷ [])) none) ≡ codes ".data D_3 = bytearray (01 FF)"
unfolding line_text words byte_array data_label digits
bytes_is = refl

return_value_is : line_text (put (param_line (record { number = 0; flags = 1; name = []; constant = Some constant.Null; attributes = [] })) none) ≡ codes ".param [0] flags(0x1) = nullref"
unfolding line_text words natural hexadecimal digits
return_value_is = refl

generic_parameter_is : line_text (put (typar_item 2) none) ≡ codes ".param type [2]"
unfolding line_text words natural digits
generic_parameter_is = refl

instruction_is : line_text (star 0 0 (body [] (record { bound = 8; init = false; locals = []; code = record { op = op.Nop; operand = operand.Nothing } ∷ []; clauses = [] })) none) ≡ codes ".maxstack 8\nIL_0000: nop"
unfolding line_text body words picked picked_by natural integer hexadecimal label digits size_of operand_kind opcode_size
instruction_is = refl

switch_is : line_text (star 0 0 (body [] (record { bound = 8; init = true; locals = []; code = record { op = op.Switch; operand = operand.Targets (0 ∷ 1 ∷ []) } ∷ record { op = op.BrS; operand = operand.Target 1 } ∷ []; clauses = [] })) none) ≡ codes ".maxstack 8\n.locals init()\nIL_0000: switch(IL_0000, IL_000d)\nIL_000d: br.s IL_000d"
unfolding line_text body words picked picked_by natural integer hexadecimal label digits size_of operand_kind opcode_size
switch_is = refl

numbers_is : line_text (star 0 0 (body [] (record { bound = 8; init = false; locals = []; code = record { op = op.LdcI4S; operand = operand.Int (negsuc 55) } ∷ record { op = op.LdcR4; operand = operand.Real 0x3F800000 } ∷ []; clauses = [] })) none) ≡ codes ".maxstack 8\nIL_0000: ldc.i4.s -56\nIL_0002: ldc.r4 float32(0x3F800000)"
unfolding line_text body words picked picked_by natural integer hexadecimal label digits size_of operand_kind opcode_size
numbers_is = refl

filter_is : line_text (star 0 0 (body [] (record { bound = 8; init = false; locals = []; code = record { op = op.Volatile; operand = operand.Nothing } ∷ record { op = op.LdargS; operand = operand.Var 7 } ∷ []; clauses = record { kind = handles.Filter 1; try_start = 0; try_end = 1; handler_start = 1; handler_end = 2 } ∷ [] })) none) ≡ codes ".maxstack 8\nIL_0000: volatile.\nIL_0002: ldarg.s 7\nIL_0004:\n.try IL_0000 to IL_0002 filter IL_0002 handler IL_0002 to IL_0004"
unfolding line_text body words picked picked_by natural integer hexadecimal label digits size_of operand_kind opcode_size
filter_is = refl

end_is : line_text (star 0 0 (body [] (record { bound = 8; init = false; locals = []; code = record { op = op.Ldstr; operand = operand.Text (72 ∷ 105 ∷ []) } ∷ record { op = op.Starg; operand = operand.Var 65535 } ∷ []; clauses = record { kind = handles.Finally; try_start = 0; try_end = 1; handler_start = 1; handler_end = 2 } ∷ [] })) none) ≡ codes ".maxstack 8\nIL_0000: ldstr \"Hi\"\nIL_0005: starg 65535\nIL_0009:\n.try IL_0000 to IL_0005 finally handler IL_0005 to IL_0009"
unfolding line_text body words picked picked_by natural integer hexadecimal label digits size_of operand_kind opcode_size quoted_units
end_is = refl

externs_is : line_text (star 0 0 (extern_lines (library (codes "L") 1 [] ∷ library (codes "L") 0x100 (1 ∷ []) ∷ []) 0 (library (codes "L") 1 [] ∷ library (codes "L") 0x100 (1 ∷ []) ∷ [])) none)
    ≡ codes ".assembly extern L as '#0'\n{\n  .publickey = ()\n  .culture \"de\"\n  .hash = (FF)\n  .ver 1:0:0:65535\n}\n.assembly extern retargetable L as '#1'\n{\n  .publickeytoken = (01)\n  .culture \"de\"\n  .hash = (FF)\n  .ver 1:0:0:65535\n}"
unfolding line_text words picked picked_by names.name names.spelled quoted natural hexadecimal equals_bytes digits
externs_is = refl

manifest_is : text (star 0 0 (manifest_lines [] mine) none)
    ≡ codes ".assembly flags(0x4000) my.'in'\n{\n  .hash algorithm 0x00008004\n  .publickey = (01)\n  .ver 0:0:0:0\n}\n.module M.dll\n.imagebase 0x00400000\n.file alignment 0x00000200\n.stackreserve 0x00100000\n.subsystem 0x0003\n.corflags 0x00000001\n"
unfolding text words manifest_lines picked picked_by names.name names.spelled quoted natural hexadecimal equals_bytes digits
manifest_is = refl

classes_is : line_text (star 0 0 (classes_from 0 [] 0 (empty_class (codes "C") 0x20 (empty_class (codes "D") 6 [] ∷ []) ∷ [])) none)
    ≡ codes ".class private auto ansi interface C<+ T, U>\n{\n  .pack 1\n  .size 3\n  .class nested famandassem auto ansi D<+ T, U>\n  {\n    .pack 1\n    .size 3\n  }\n}"
unfolding line_text words picked picked_by names.type_name names.name names.spelled quoted natural digits
classes_is = refl

pub examples : Examples
examples = record {
  word = word_is;
  type_with_dot = type_with_dot_is;
  joined_word = joined_word_is;
  word_in_space = word_in_space_is;
  space_with_empty_piece = space_with_empty_piece_is;
  empty_piece = empty_piece_is;
  bracket_word = bracket_word_is;
  escapes = escapes_is;
  modified = modified_is;
  pinned = pinned_is;
  sized = sized_is;
  lower_bounds = lower_bounds_is;
  one_dimension = one_dimension_is;
  of_vectors = of_vectors_is;
  no_elements = no_elements_is;
  instance = instance_is;
  field_flags = field_flags_is;
  type_flags = type_flags_is;
  implementation_flags = implementation_flags_is;
  typar_flags = typar_flags_is;
  parameter_flags = parameter_flags_is;
  signed = signed_is;
  real = real_is;
  quoted = quoted_is;
  surrogate = surrogate_is;
  bytes = bytes_is;
  return_value = return_value_is;
  generic_parameter = generic_parameter_is;
  instruction = instruction_is;
  switch = switch_is;
  numbers = numbers_is;
  filter = filter_is;
  end = end_is;
  externs = externs_is;
  manifest = manifest_is;
  classes = classes_is;
}
