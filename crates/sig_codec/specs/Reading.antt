-- What the steps of a decoder read from the front of some bytes: a value and the bytes behind it, or None. These are the
-- contracts of the private steps; the public calls are stated by `Spelling` and `Signature`.
use Rattle.std.specs.Prelude.{◌≡◌, ℕ, zero, suc, ◌+◌, ◌-◌, ◌*◌, ◌/◌, ◌%◌, ◌^◌, ◌==◌, ◌&&◌, ℤ, pos, negsuc, Bool, true, false, nat_lt, nat_le, if◌then◌else◌, List, [], ◌∷◌, ◌++◌, length, map, Option, Some, None, Result, Ok, Err}
use Rattle.il_base.specs.Numbers.{packed_bits}
use Rattle.type_terms.specs.declared.name.TypeName.{TypeName}
use Rattle.type_terms.specs.declared.term.Primitive.TheVariants as kinds
use Rattle.type_terms.specs.declared.reference.MethodSig.{MethodSig}
use Rattle.type_terms.specs.declared.term.Owner.{Owner}
use Rattle.type_terms.specs.declared.term.Owner.TheVariants as owner
use Rattle.type_terms.specs.declared.term.SigType.{SigType}
use Rattle.type_terms.specs.declared.term.SigType.TheVariants as type
use Rattle.sig_codec.specs.declared.stop.Stop.{Stop}
use Rattle.sig_codec.specs.declared.stop.Stop.TheVariants.{Memory, Unspelled}
use Rattle.sig_codec.specs.declared.element.Element.{Element}
use Rattle.sig_codec.specs.declared.element.Element.TheVariants as element
use Rattle.type_terms.specs.Depth.{depth, owner_depth, largest}
use Rattle.type_terms.specs.Nodes.{nodes, owner_nodes, total}
use Rattle.sig_codec.specs.Signature.{max_depth, max_nodes}
use Rattle.sig_codec.specs.Tokens.{token_of_coded}

infixl 10 ◌>>=◌
abbrev pub ◌>>=◌ : {A B : Type 0} → Option A → (A → Option B) → Option B
(Some x) >>= f = f x
None >>= f = None

-- What a step returned, seen by view, is what reading gives, unless memory ran out.
abbrev pub Fails : {Y : Type 0} → Stop → Option Y → Type 0
Fails Memory read = Unit {0}
Fails Unspelled read = read ≡ None

abbrev pub Gives : {X Y : Type 0} → (X → Y) → Result X Stop → Option Y → Type 0
Gives view (Ok x) read = read ≡ Some (view x)
Gives view (Err e) read = Fails e read

-- a value and the bytes behind it
abbrev pub Step : Type 0 → Type 0
Step A = Option (A × List ℕ)

-- a value, the bytes behind it, and how many more nodes there may be
abbrev pub Read : Type 0 → Type 0
Read A = Option (A × List ℕ × ℕ)

-- ---- numbers

abbrev pub byte_at : List ℕ → Step ℕ
byte_at [] = None
byte_at (b ∷ rest) = Some (b, rest)

abbrev pub two_at : ℕ → List ℕ → Step ℕ
two_at a (b ∷ rest) = if nat_lt b 256 then Some ((a - 128) * 256 + b, rest) else None
two_at a [] = None

abbrev pub four_at : ℕ → List ℕ → Step ℕ
four_at a (b ∷ c ∷ d ∷ rest) = if nat_lt b 256 && nat_lt c 256 && nat_lt d 256 then Some ((a - 192) * 2 ^ 24 + b * 2 ^ 16 + c * 2 ^ 8 + d, rest) else None
four_at a rest = None

unfoldable pub number_at : List ℕ → Step ℕ
number_at [] = None
number_at (a ∷ rest) = if nat_lt a 128 then Some (a, rest) else if nat_lt a 192 then two_at a rest else if nat_lt a 224 then four_at a rest else None

-- a number of so many bits whose lowest bit is its sign
abbrev pub turned_right : ℕ → ℕ → ℤ
turned_right bits n = if n % 2 == 0 then pos (n / 2) else negsuc (2 ^ (bits - 1) - 1 - n / 2)

unfoldable pub signed_at : List ℕ → Step ℤ
signed_at bytes = do
  n ← number_at bytes
  Some (turned_right (packed_bits (length bytes - length n.1)) n.0, n.1)

-- so many, one after the other
abbrev pub each_at : {X : Type 0} → (List ℕ → Step X) → ℕ → List ℕ → Step (List X)
each_at step zero bytes = Some ([], bytes)
each_at step (suc count) bytes = do
  x ← step bytes
  xs ← each_at step count x.1
  Some (x.0 ∷ xs.0, xs.1)

-- how many, no more than limit, and then each
unfoldable pub counted_at : {X : Type 0} → (List ℕ → Step X) → ℕ → List ℕ → Step (List X)
counted_at step limit bytes = do
  count ← number_at bytes
  if nat_lt limit count.0 then None else each_at step count.0 count.1

-- ---- tokens

-- the coded token at the front, with the owner that it names
unfoldable pub owner_at : (ℕ → Option Owner) → List ℕ → Option (ℕ × Owner × List ℕ)
owner_at owners bytes = do
  number ← number_at bytes
  token ← token_of_coded number.0
  owner ← owners token
  Some (token, owner, number.1)

abbrev pub name_of : Owner → Option TypeName
name_of (owner.Name name) = Some name
name_of (owner.Spec t) = None

abbrev pub is_declared : ℕ → Bool
is_declared token = nat_lt token (3 * 2 ^ 24)

-- ---- elements

abbrev pub lookup : {X : Type 0} → List (ℕ × X) → ℕ → Option X
lookup [] byte = None
lookup (e ∷ es) byte = if byte == e.0 then Some e.1 else lookup es byte

abbrev pub elements : List (ℕ × Element)
elements =
    (0x01, element.Prim kinds.Void) ∷ (0x02, element.Prim kinds.Bool) ∷ (0x03, element.Prim kinds.Char) ∷ (0x04, element.Prim kinds.I1)
    ∷ (0x05, element.Prim kinds.U1) ∷ (0x06, element.Prim kinds.I2) ∷ (0x07, element.Prim kinds.U2) ∷ (0x08, element.Prim kinds.I4)
    ∷ (0x09, element.Prim kinds.U4) ∷ (0x0A, element.Prim kinds.I8) ∷ (0x0B, element.Prim kinds.U8) ∷ (0x0C, element.Prim kinds.R4)
    ∷ (0x0D, element.Prim kinds.R8) ∷ (0x0E, element.Prim kinds.Str) ∷ (0x0F, element.Pointer) ∷ (0x10, element.ByRef)
    ∷ (0x11, element.Value) ∷ (0x12, element.Class) ∷ (0x13, element.Var) ∷ (0x14, element.Array) ∷ (0x15, element.Inst)
    ∷ (0x16, element.Prim kinds.TypedRef) ∷ (0x18, element.Prim kinds.NInt) ∷ (0x19, element.Prim kinds.NUint)
    ∷ (0x1C, element.Prim kinds.Object) ∷ (0x1D, element.SzArray) ∷ (0x1E, element.MVar) ∷ (0x1F, element.Required)
    ∷ (0x20, element.Optional) ∷ (0x45, element.Pinned) ∷ []

unfoldable pub element_of : ℕ → Option Element
element_of = lookup elements

-- ---- types

-- A type by a step that reads the types in it.
abbrev pub TypeStep : Type 0
TypeStep = List ℕ → ℕ → Read SigType

-- whether the byte that parts the fixed parameters from the others stands at the front
abbrev pub is_at_sentinel : List ℕ → Bool
is_at_sentinel [] = false
is_at_sentinel (b ∷ rest) = b == 0x41

-- up to so many types, and no more once a sentinel stands at the front
abbrev pub types_at : TypeStep → ℕ → List ℕ → ℕ → Read (List SigType)
types_at sub zero bytes nodes = Some ([], bytes, nodes)
types_at sub (suc count) bytes nodes = if is_at_sentinel bytes then Some ([], bytes, nodes) else do
  t ← sub bytes nodes
  ts ← types_at sub count t.1 t.2
  Some (t.0 ∷ ts.0, ts.1, ts.2)

-- so many types
unfoldable pub all_types_at : TypeStep → ℕ → List ℕ → ℕ → Read (List SigType)
all_types_at sub count bytes nodes = do
  ts ← types_at sub count bytes nodes
  if nat_lt (length ts.0) count then None else Some ts

-- a type made of one other
abbrev pub boxed_at : TypeStep → (SigType → SigType) → List ℕ → ℕ → Read SigType
boxed_at sub make bytes nodes = do
  t ← sub bytes nodes
  Some (make t.0, t.1, t.2)

-- the name of a class or of a value type
unfoldable pub declared_at : (ℕ → Option Owner) → List ℕ → Step TypeName
declared_at owners bytes = do
  o ← owner_at owners bytes
  name ← name_of o.1
  if is_declared o.0 then Some (name, o.2) else None

abbrev pub named_at : (ℕ → Option Owner) → (TypeName → SigType) → List ℕ → ℕ → Read SigType
named_at owners make bytes nodes = do
  name ← declared_at owners bytes
  Some (make name.0, name.1, nodes)

-- the number of a generic parameter
unfoldable pub variable_at : List ℕ → Step ℕ
variable_at bytes = do
  n ← number_at bytes
  if nat_lt n.0 (2 ^ 16) then Some (n.0, n.1) else None

abbrev pub numbered_at : (ℕ → SigType) → List ℕ → ℕ → Read SigType
numbered_at make bytes nodes = do
  n ← variable_at bytes
  Some (make n.0, n.1, nodes)

-- rank, sizes and lower bounds
unfoldable pub shape_at : List ℕ → Option (ℕ × List ℕ × List ℤ × List ℕ)
shape_at bytes = do
  rank ← number_at bytes
  if rank.0 == 0 then None else do
    sizes ← counted_at number_at rank.0 rank.1
    lower ← counted_at signed_at rank.0 sizes.1
    Some (rank.0, sizes.0, lower.0, lower.1)

unfoldable pub array_at : TypeStep → List ℕ → ℕ → Read SigType
array_at sub bytes nodes = do
  t ← sub bytes nodes
  shape ← shape_at t.1
  Some (type.Array t.0 shape.0 shape.1 shape.2, shape.3, t.2)

-- whether a generic type is a value type
abbrev pub kind_at : List ℕ → Step Bool
kind_at bytes = do
  b ← byte_at bytes
  if b.0 == 0x11 then Some (true, b.1) else if b.0 == 0x12 then Some (false, b.1) else None

unfoldable pub generic_at : (ℕ → Option Owner) → List ℕ → Option (Bool × TypeName × ℕ × List ℕ)
generic_at owners bytes = do
  kind ← kind_at bytes
  o ← owner_at owners kind.1
  count ← number_at o.2
  name ← name_of o.1
  if count.0 == 0 then None else Some (kind.0, name, count.0, count.1)

unfoldable pub inst_at : (ℕ → Option Owner) → TypeStep → List ℕ → ℕ → Read SigType
inst_at owners sub bytes nodes = do
  head ← generic_at owners bytes
  args ← all_types_at sub head.2 head.3 nodes
  Some (type.Inst head.0 head.1 args.0, args.1, args.2)

-- how many nodes are left of `nodes` after so many, where a depth is within `limit`
abbrev pub after : ℕ → ℕ → ℕ → ℕ → Option ℕ
after deep many limit nodes = if nat_le deep limit && nat_le many nodes then Some (nodes - many) else None

-- the same after an owner, a type, and types
abbrev pub after_owner : Owner → ℕ → ℕ → Option ℕ
after_owner o = after (owner_depth o) (owner_nodes o)

abbrev pub after_type : SigType → ℕ → ℕ → Option ℕ
after_type t = after (depth t) (nodes t)

abbrev pub after_types : List SigType → ℕ → ℕ → Option ℕ
after_types ts = after (largest (map depth ts)) (total (map nodes ts))

unfoldable pub modified_at : (ℕ → Option Owner) → TypeStep → ℕ → Bool → List ℕ → ℕ → Read SigType
modified_at owners sub limit required bytes many = do
  o ← owner_at owners bytes
  left ← after_owner o.1 limit many
  t ← sub o.2 left
  Some (type.Mod required o.1 t.0, t.1, t.2)

-- what stands behind an element
abbrev pub parts_at : (ℕ → Option Owner) → TypeStep → ℕ → Element → List ℕ → ℕ → Read SigType
parts_at owners sub depth (element.Prim p) bytes nodes = Some (type.Prim p, bytes, nodes)
parts_at owners sub depth element.Pointer bytes nodes = boxed_at sub type.Pointer bytes nodes
parts_at owners sub depth element.ByRef bytes nodes = boxed_at sub type.ByRef bytes nodes
parts_at owners sub depth element.Value bytes nodes = named_at owners type.Value bytes nodes
parts_at owners sub depth element.Class bytes nodes = named_at owners type.Class bytes nodes
parts_at owners sub depth element.Var bytes nodes = numbered_at type.Var bytes nodes
parts_at owners sub depth element.Array bytes nodes = array_at sub bytes nodes
parts_at owners sub depth element.Inst bytes nodes = inst_at owners sub bytes nodes
parts_at owners sub depth element.SzArray bytes nodes = boxed_at sub type.SzArray bytes nodes
parts_at owners sub depth element.MVar bytes nodes = numbered_at type.MVar bytes nodes
parts_at owners sub depth element.Required bytes nodes = modified_at owners sub depth true bytes nodes
parts_at owners sub depth element.Optional bytes nodes = modified_at owners sub depth false bytes nodes
parts_at owners sub depth element.Pinned bytes nodes = boxed_at sub type.Pinned bytes nodes

-- a type, where it has no more than this depth and these nodes
unfoldable pub type_at : (ℕ → Option Owner) → ℕ → List ℕ → ℕ → Read SigType
type_at owners zero bytes nodes = None
type_at owners (suc depth) bytes zero = None
type_at owners (suc depth) bytes (suc nodes) = do
  b ← byte_at bytes
  e ← element_of b.0
  parts_at owners (type_at owners depth) depth e b.1 nodes

-- ---- signatures

-- what was read, where nothing follows
abbrev pub ended : {A : Type 0} → A × List ℕ × ℕ → Option A
ended read = if length read.1 == 0 then Some read.0 else None

unfoldable pub whole_type : (ℕ → Option Owner) → List ℕ → Option SigType
whole_type owners bytes = do
  t ← type_at owners max_depth bytes max_nodes
  ended t

unfoldable pub whole_field : (ℕ → Option Owner) → List ℕ → Option SigType
whole_field owners bytes = do
  b ← byte_at bytes
  if b.0 == 0x06 then whole_type owners b.1 else None

-- a count, and so many types to the end
unfoldable pub whole_types : (ℕ → Option Owner) → List ℕ → Option (List SigType)
whole_types owners bytes = do
  count ← number_at bytes
  ts ← all_types_at (type_at owners max_depth) count.0 count.1 max_nodes
  ended ts

unfoldable pub whole_locals : (ℕ → Option Owner) → List ℕ → Option (List SigType)
whole_locals owners bytes = do
  b ← byte_at bytes
  if b.0 == 0x07 then whole_types owners b.1 else None

-- at least one
abbrev pub some_types : List SigType → Option (List SigType)
some_types ts = if length ts == 0 then None else Some ts

unfoldable pub whole_instantiation : (ℕ → Option Owner) → List ℕ → Option (List SigType)
whole_instantiation owners bytes = do
  b ← byte_at bytes
  if b.0 == 0x0A then whole_types owners b.1 >>= some_types else None

-- how a method is called: vararg, with a this, with an explicit one; and whether it is generic
abbrev pub kinds_of_call : List (ℕ × Bool)
kinds_of_call = (0x0, false) ∷ (0x5, true) ∷ []

abbrev pub flags_of_call : List (ℕ × (Bool × Bool × Bool))
flags_of_call = (0x0, (false, false, false)) ∷ (0x1, (false, false, true)) ∷ (0x2, (true, false, false)) ∷ (0x3, (true, false, true)) ∷ (0x6, (true, true, false)) ∷ (0x7, (true, true, true)) ∷ []

unfoldable pub convention_of : ℕ → Option (Bool × Bool × Bool × Bool)
convention_of byte = do
  vararg ← lookup kinds_of_call (byte % 16)
  flags ← lookup flags_of_call (byte / 16)
  Some (vararg, flags.0, flags.1, flags.2)

-- the number of generic parameters, where a method is generic
unfoldable pub generics_at : Bool → List ℕ → Step ℕ
generics_at false bytes = Some (0, bytes)
generics_at true bytes = do
  n ← number_at bytes
  if n.0 == 0 then None else Some (n.0, n.1)

-- the parameters behind a sentinel
abbrev pub others_at : TypeStep → ℕ → List SigType × List ℕ × ℕ → Option (List SigType × Option ℕ × List ℕ × ℕ)
others_at sub count fixed = do
  mark ← byte_at fixed.1
  others ← all_types_at sub (count - length fixed.0) mark.1 fixed.2
  Some (fixed.0 ++ others.0, Some (length fixed.0), others.1, others.2)

-- so many parameters, with a sentinel between them or none
unfoldable pub params_at : TypeStep → ℕ → List ℕ → ℕ → Option (List SigType × Option ℕ × List ℕ × ℕ)
params_at sub count bytes many = do
  fixed ← types_at sub count bytes many
  if nat_lt (length fixed.0) count then others_at sub count fixed else Some (fixed.0, None, fixed.1, fixed.2)

unfoldable pub whole_method : (ℕ → Option Owner) → List ℕ → Option MethodSig
whole_method owners bytes = do
  b ← byte_at bytes
  call ← convention_of b.0
  generic ← generics_at call.3 b.1
  count ← number_at generic.1
  ret ← type_at owners max_depth count.1 max_nodes
  params ← params_at (type_at owners max_depth) count.0 ret.1 ret.2
  if length params.2 == 0 then Some (record { has_this = call.1; explicit_this = call.2; vararg = call.0; generic = generic.0; ret = ret.0; params = params.0; sentinel = params.1 }) else None

abbrev pub property_has_this : ℕ → Option Bool
property_has_this = lookup ((0x08, false) ∷ (0x28, true) ∷ [])

unfoldable pub whole_property : (ℕ → Option Owner) → List ℕ → Option MethodSig
whole_property owners bytes = do
  b ← byte_at bytes
  has_this ← property_has_this b.0
  count ← number_at b.1
  ret ← type_at owners max_depth count.1 max_nodes
  params ← all_types_at (type_at owners max_depth) count.0 ret.1 ret.2
  ended (record { has_this = has_this; explicit_this = false; vararg = false; generic = 0; ret = ret.0; params = params.0; sentinel = None }, params.1, params.2)
