-- Pieces of listings as they stand in one (ECMA-335 II.5), each with its text.
use Rattle.std.specs.Prelude.{ℕ, ◌≡◌, List, [], ◌∷◌, true, false, None, Some}
use Rattle.std.specs.Prelude.{codes, pos, negsuc}
use Rattle.ilasm_grammar.specs.declared.nonterminals.TheConstants as n
use Rattle.ilasm_grammar.specs.declared.productions.TheConstants as p
use Rattle.opcode_table.specs.declared.op.Op.TheVariants as op
use Rattle.type_terms.specs.declared.name.Scope.TheVariants as scope
use Rattle.type_terms.specs.declared.name.TypeName.{TypeName}
use Rattle.type_terms.specs.declared.term.Primitive.TheVariants as prim
use Rattle.type_terms.specs.declared.term.Owner.TheOpen.{Name, Spec, Prim, Class, Inst, Var, MVar, SzArray, Array, ByRef, Pointer, Mod, Pinned}
use Rattle.assembly_tree.specs.declared.assembly.ExternAssembly.{ExternAssembly}
use Rattle.assembly_tree.specs.declared.assembly.Manifest.{Manifest}
use Rattle.assembly_tree.specs.declared.body.ClauseKind.TheVariants as handles
use Rattle.assembly_tree.specs.declared.body.Operand.TheVariants as operand
use Rattle.assembly_tree.specs.declared.members.Constant.TheVariants as constant
use Rattle.listing_leaves.specs.Names as names
use Rattle.listing_model.specs.Bodies.{body}
use Rattle.listing_model.specs.Classes.{ClassShown, class_step, classes_from}
use Rattle.listing_model.specs.Flags.{flag_items, type_flag_items, field_words, implementation_words, typar_words, parameter_words}
use Rattle.listing_model.specs.Manifests.{extern_lines, manifest_lines}
use Rattle.listing_model.specs.Methods.{param_line, typar_item}
use Rattle.listing_model.specs.Shown.{none, Item, put, star}
use Rattle.listing_model.specs.Text.{text, line_text}
use Rattle.listing_model.specs.Types.{type_step, owner_step, type_item, TypeShown}
use Rattle.listing_model.specs.Values.{data_line, constant_opt}

abbrev pub nested_name : TypeName
nested_name = record { scope = scope.Here; path = record { space = []; name = codes "ab" } ∷ record { space = codes "n"; name = codes "cd" } ∷ [] }

abbrev pub int32 : TypeShown
int32 = type_step [] (Prim prim.I4)

abbrev pub shown : TypeShown → List ℕ
shown t = line_text (put (type_item t) none)

abbrev pub row : List Item → List ℕ
row items = line_text (star 0 0 items none)

abbrev pub equals : constant.the_data → List ℕ
equals c = line_text (constant_opt (Some c) none)

abbrev pub library : List ℕ → ℕ → List ℕ → ExternAssembly
library name flags key = record { name = name; version = 1 ∷ 0 ∷ 0 ∷ 65535 ∷ []; flags = flags; key = key; culture = codes "de"; hash = 255 ∷ [] }

abbrev pub mine : Manifest
mine = record {
  name = codes "my.in";
  version = 0 ∷ 0 ∷ 0 ∷ 0 ∷ [];
  flags = 0x4001;
  key = 1 ∷ [];
  culture = [];
  hash = 0x8004;
  «module» = codes "M.dll";
  image_base = 0x400000;
  file_alignment = 512;
  stack_reserve = 0x100000;
  subsystem = 3;
  cor_flags = 1;
  attributes = [];
  module_attributes = [];
}

abbrev pub empty_class : List ℕ → ℕ → List ClassShown → ClassShown
empty_class name flags nested = class_step [] (record {
  id = record { space = []; name = name };
  flags = flags;
  layout = Some (record { pack = 1; size = 3 });
  generics = record { name = codes "T"; flags = 1; bounds = []; attributes = [] } ∷ record { name = codes "U"; flags = 0; bounds = []; attributes = [] } ∷ [];
  extends = None;
  implements = [];
  fields = [];
  methods = [];
  properties = [];
  events = [];
  nested = nested;
  attributes = [];
})

-- what pieces of listings are
pub record Examples : Type 0 where
  pub word : names.name (codes "add") ≡ codes "'add'"
  pub type_with_dot : names.type_name (codes "c.d") (codes "a.b") ≡ codes "c.d.'a.b'"
  pub joined_word : names.type_name (codes "ldc") (codes "i4") ≡ codes "ldc.'i4'"
  pub word_in_space : names.type_name (codes "ldc.i4") (codes "x") ≡ codes "ldc.i4.x"
  pub space_with_empty_piece : names.type_name (codes "a..b") (codes "C") ≡ codes "'a..b'.C"
  pub empty_piece : names.name (codes "M..x") ≡ codes "'M..x'"
  pub bracket_word : names.scope (codes "in") ≡ codes "['in']"
  pub escapes : names.name (39 ∷ 92 ∷ 1 ∷ 127 ∷ 195 ∷ 169 ∷ []) ≡ (39 ∷ 92 ∷ 39 ∷ 92 ∷ 92 ∷ 92 ∷ 48 ∷ 48 ∷ 49 ∷ 92 ∷ 49 ∷ 55 ∷ 55 ∷ 195 ∷ 169 ∷ 39 ∷ [])
  pub modified : shown (type_step [] (Mod true (owner_step [] (Name nested_name)) (type_step [] (ByRef int32)))) ≡ codes "int32& modreq(ab/n.cd)"
  pub pinned : shown (type_step [] (Pinned (type_step [] (Mod false (owner_step [] (Spec (type_step [] (Class nested_name)))) int32)))) ≡ codes "int32 modopt(class ab/n.cd) pinned"
  pub sized : shown (type_step [] (Array int32 4 (4 ∷ 4 ∷ []) (pos 1 ∷ []))) ≡ codes "int32[1...4, 4, , ]"
  pub lower_bounds : shown (type_step [] (Array int32 2 [] (pos 0 ∷ negsuc 1 ∷ []))) ≡ codes "int32[0..., -2...]"
  pub one_dimension : shown (type_step [] (Array int32 1 [] [])) ≡ codes "int32[...]"
  pub of_vectors : shown (type_step [] (Array (type_step [] (SzArray int32)) 3 [] [])) ≡ codes "int32[][, , ]"
  pub no_elements : shown (type_step [] (Array int32 1 (0 ∷ []) (pos 2 ∷ []))) ≡ codes "int32[2...1]"
  pub instance : shown (type_step [] (Pointer (type_step [] (Inst true nested_name (type_step [] (Var 0) ∷ type_step [] (MVar 12) ∷ type_step [] (Prim prim.NUint) ∷ [])))))
      ≡ codes "valuetype ab/n.cd<!0, !!12, native uint>*"
  pub field_flags : row (flag_items n.FIELD_ATTR p.FIELD_ATTR_FLAGS field_words 0x7EFF) ≡ codes "static initonly literal notserialized specialname rtspecialname flags(0x780F)"
  pub type_flags : row (type_flag_items 0x8200A) ≡ codes "nested public sequential ansi serializable flags(0x80000)"
  pub implementation_flags : row (flag_items n.IMPL_ATTR p.IMPL_ATTR_FLAGS implementation_words 0x408) ≡ codes "cil managed noinlining flags(0x400)"
  pub typar_flags : row (flag_items n.TYPAR_ATTR p.TYPAR_ATTR_FLAGS typar_words 0x16) ≡ codes "- class .ctor"
  pub parameter_flags : row (flag_items n.PARAM_ATTR p.PARAM_ATTR_FLAGS parameter_words 0x2013) ≡ codes "[in] [out] [opt] flags(0x2000)"
  pub signed : equals (constant.Int prim.I1 (negsuc 0)) ≡ codes "= int8(-1)"
  pub real : equals (constant.Real8 1) ≡ codes "= float64(0x0000000000000001)"
  pub quoted : equals (constant.Str (113 ∷ 34 ∷ 92 ∷ 9 ∷ 10 ∷ [])) ≡ (61 ∷ 32 ∷ 34 ∷ 113 ∷ 92 ∷ 34 ∷ 92 ∷ 92 ∷ 92 ∷ 116 ∷ 92 ∷ 110 ∷ 34 ∷ [])
  pub surrogate : equals (constant.Str (0xD800 ∷ [])) ≡ codes "= bytearray (00 D8)"
  pub bytes : line_text (put (data_line 3 (1 ∷ 255 ∷ [])) none) ≡ codes ".data D_3 = bytearray (01 FF)"
  pub return_value : line_text (put (param_line (record { number = 0; flags = 1; name = []; constant = Some constant.Null; attributes = [] })) none) ≡ codes ".param [0] flags(0x1) = nullref"
  pub generic_parameter : line_text (put (typar_item 2) none) ≡ codes ".param type [2]"
  pub instruction : line_text (star 0 0 (body [] (record { bound = 8; init = false; locals = []; code = record { op = op.Nop; operand = operand.Nothing } ∷ []; clauses = [] })) none) ≡ codes ".maxstack 8\nIL_0000: nop"
  pub switch : line_text (star 0 0 (body [] (record { bound = 8; init = true; locals = []; code = record { op = op.Switch; operand = operand.Targets (0 ∷ 1 ∷ []) } ∷ record { op = op.BrS; operand = operand.Target 1 } ∷ []; clauses = [] })) none) ≡ codes ".maxstack 8\n.locals init()\nIL_0000: switch(IL_0000, IL_000d)\nIL_000d: br.s IL_000d"
  pub numbers : line_text (star 0 0 (body [] (record { bound = 8; init = false; locals = []; code = record { op = op.LdcI4S; operand = operand.Int (negsuc 55) } ∷ record { op = op.LdcR4; operand = operand.Real 0x3F800000 } ∷ []; clauses = [] })) none) ≡ codes ".maxstack 8\nIL_0000: ldc.i4.s -56\nIL_0002: ldc.r4 float32(0x3F800000)"
  pub filter : line_text (star 0 0 (body [] (record { bound = 8; init = false; locals = []; code = record { op = op.Volatile; operand = operand.Nothing } ∷ record { op = op.LdargS; operand = operand.Var 7 } ∷ []; clauses = record { kind = handles.Filter 1; try_start = 0; try_end = 1; handler_start = 1; handler_end = 2 } ∷ [] })) none) ≡ codes ".maxstack 8\nIL_0000: volatile.\nIL_0002: ldarg.s 7\nIL_0004:\n.try IL_0000 to IL_0002 filter IL_0002 handler IL_0002 to IL_0004"
  pub end : line_text (star 0 0 (body [] (record { bound = 8; init = false; locals = []; code = record { op = op.Ldstr; operand = operand.Text (72 ∷ 105 ∷ []) } ∷ record { op = op.Starg; operand = operand.Var 65535 } ∷ []; clauses = record { kind = handles.Finally; try_start = 0; try_end = 1; handler_start = 1; handler_end = 2 } ∷ [] })) none) ≡ codes ".maxstack 8\nIL_0000: ldstr \"Hi\"\nIL_0005: starg 65535\nIL_0009:\n.try IL_0000 to IL_0005 finally handler IL_0005 to IL_0009"
  pub externs : line_text (star 0 0 (extern_lines (library (codes "L") 1 [] ∷ library (codes "L") 0x100 (1 ∷ []) ∷ []) 0 (library (codes "L") 1 [] ∷ library (codes "L") 0x100 (1 ∷ []) ∷ [])) none)
      ≡ codes ".assembly extern L as '#0'\n{\n  .publickey = ()\n  .culture \"de\"\n  .hash = (FF)\n  .ver 1:0:0:65535\n}\n.assembly extern retargetable L as '#1'\n{\n  .publickeytoken = (01)\n  .culture \"de\"\n  .hash = (FF)\n  .ver 1:0:0:65535\n}"
  pub manifest : text (star 0 0 (manifest_lines [] mine) none)
      ≡ codes ".assembly flags(0x4000) my.'in'\n{\n  .hash algorithm 0x00008004\n  .publickey = (01)\n  .ver 0:0:0:0\n}\n.module M.dll\n.imagebase 0x00400000\n.file alignment 0x00000200\n.stackreserve 0x00100000\n.subsystem 0x0003\n.corflags 0x00000001\n"
  pub classes : line_text (star 0 0 (classes_from 0 [] 0 (empty_class (codes "C") 0x20 (empty_class (codes "D") 6 [] ∷ []) ∷ [])) none)
      ≡ codes ".class private auto ansi interface C<+ T, U>\n{\n  .pack 1\n  .size 3\n  .class nested famandassem auto ansi D<+ T, U>\n  {\n    .pack 1\n    .size 3\n  }\n}"
