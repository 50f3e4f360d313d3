-- What a walk along a type's signature finds at its end. These are the contracts of the private steps.
use Rattle.std.specs.Prelude.{ℕ, zero, suc, ◌==◌, if◌then◌else◌, List, Option, Some, None}
use Rattle.assembly_tree.specs.DataSize.{primitive_size}
use Rattle.sig_codec.specs.Reading.{◌>>=◌, Step, byte_at, number_at, element_of}
use Rattle.sig_codec.specs.Signature.{max_depth}
use Rattle.sig_codec.specs.Tokens.{token_of_coded}
use Rattle.sig_codec.specs.declared.element.Element.{Element}
use Rattle.sig_codec.specs.declared.element.Element.TheVariants as element
use Rattle.field_data.specs.declared.kinds.DataKind.{DataKind}
use Rattle.field_data.specs.declared.kinds.DataKind.TheVariants as kind

abbrev pub sized : Option ℕ → DataKind
sized None = kind.Sizeless
sized (Some size) = kind.Bytes size

-- a coded token
unfoldable pub token_at : List ℕ → Step ℕ
token_at bytes = do
  n ← number_at bytes
  token ← token_of_coded n.0
  Some (token, n.1)

abbrev pub KindStep : Type 0
KindStep = List ℕ → Option DataKind

abbrev pub value_at : KindStep
value_at bytes = do
  t ← token_at bytes
  Some (kind.Value t.0)

abbrev pub behind_token : KindStep → KindStep
behind_token sub bytes = do
  t ← token_at bytes
  sub t.1

-- what stands behind an element
abbrev pub parts_at : KindStep → Element → List ℕ → Option DataKind
parts_at sub (element.Prim p) bytes = Some (sized (primitive_size p))
parts_at sub element.Pointer bytes = Some kind.Sizeless
parts_at sub element.ByRef bytes = Some kind.Sizeless
parts_at sub element.Value bytes = value_at bytes
parts_at sub element.Class bytes = Some kind.Sizeless
parts_at sub element.Var bytes = Some kind.Sizeless
parts_at sub element.Array bytes = Some kind.Sizeless
parts_at sub element.Inst bytes = Some kind.Sizeless
parts_at sub element.SzArray bytes = Some kind.Sizeless
parts_at sub element.MVar bytes = Some kind.Sizeless
parts_at sub element.Required bytes = behind_token sub bytes
parts_at sub element.Optional bytes = behind_token sub bytes
parts_at sub element.Pinned bytes = Some kind.Sizeless

-- a type of at most this depth
unfoldable pub kind_at : ℕ → List ℕ → Option DataKind
kind_at zero bytes = None
kind_at (suc depth) bytes = do
  b ← byte_at bytes
  e ← element_of b.0
  parts_at (kind_at depth) e b.1

unfoldable pub field_kind : List ℕ → Option DataKind
field_kind bytes = do
  b ← byte_at bytes
  if b.0 == 0x06 then kind_at max_depth b.1 else None
