-- The room of an assembly: the bytes of a `#US` heap that holds each text of its `ldstr` instructions once
-- (ECMA-335 II.24.2.4, III.4.16).
use Rattle.std.specs.Prelude.{ℕ, ◌+◌, ◌*◌, cond, List, [], ◌∷◌, ◌++◌, length, sum_by, Option, None, Some, nat_lt, nat_eq}
use Rattle.std.specs.List.{flat_map, list_any}
use lib.Pointwise.{pointwise}
use Rattle.assembly_tree.specs.declared.assembly.Assembly.{Assembly}
use Rattle.assembly_tree.specs.declared.body.Body.{Body}
use Rattle.assembly_tree.specs.declared.body.Ins.{Ins}
use Rattle.assembly_tree.specs.declared.body.Operand.{Operand}
use Rattle.assembly_tree.specs.declared.body.Operand.TheVariants as operand
use Rattle.assembly_tree.specs.declared.members.Method.{Method}
use Rattle.assembly_tree.specs.declared.typedef.TypeDef.{TypeDef}
use Rattle.assembly_tree.specs.declared.typedef.TypeDef.TheOpen.{TypeDef-F}
use Rattle.assembly_tree.specs.declared.typedef.TypeDef.TheFolds.{fold-TypeDef}

-- a text as UTF-16 units
abbrev pub Units : Type 0
Units = List ℕ

-- the text of an operand
abbrev pub operand_texts : Operand → List Units
operand_texts (operand.Text units) = units ∷ []
operand_texts operand.Nothing = []
operand_texts (operand.Var n) = []
operand_texts (operand.Int n) = []
operand_texts (operand.Real bits) = []
operand_texts (operand.Target at) = []
operand_texts (operand.Targets at) = []
operand_texts (operand.Method m) = []
operand_texts (operand.Field f) = []
operand_texts (operand.Of o) = []

unfoldable pub instruction_texts : Ins → List Units
instruction_texts i = operand_texts i.operand

unfoldable pub body_texts : Option Body → List Units
body_texts None = []
body_texts (Some b) = flat_map instruction_texts b.code

unfoldable pub method_texts : Method → List Units
method_texts m = body_texts m.body

-- those of a type's methods, then those of the types that it nests
abbrev pub typedef_texts_step : TypeDef-F (List Units) → List Units
typedef_texts_step t = flat_map method_texts t.methods ++ flat_map (λ ts. ts) t.nested

abbrev pub typedef_texts : TypeDef → List Units
typedef_texts t = fold-TypeDef (List Units) typedef_texts_step t

-- the texts that the assembly loads, in order, each as often as it is loaded
unfoldable pub texts : Assembly → List Units
texts a = flat_map method_texts a.methods ++ flat_map typedef_texts a.types

-- each text once
abbrev pub distinct : List Units → List Units
distinct [] = []
distinct (t ∷ ts) = cond (list_any (pointwise nat_eq t) ts) (distinct ts) (t ∷ distinct ts)

-- the bytes of a packed length (ECMA-335 II.23.2)
abbrev pub packed_width : ℕ → ℕ
packed_width n = cond (nat_lt n 0x80) 1 (cond (nat_lt n 0x4000) 2 4)

-- the bytes of the entry of a text: its length, its units, and a last byte (ECMA-335 II.24.2.4)
abbrev pub entry_size : Units → ℕ
entry_size units = packed_width (2 * length units + 1) + (2 * length units + 1)

-- what the entries of the distinct texts want
abbrev pub room_of_texts : List Units → ℕ
room_of_texts ts = 1 + sum_by entry_size (distinct ts)

-- the room of an assembly: the empty entry at index 0, and an entry for each distinct text
unfoldable pub room : Assembly → ℕ
room a = room_of_texts (texts a)
