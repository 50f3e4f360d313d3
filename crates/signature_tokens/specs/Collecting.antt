-- What the steps of a walk along a signature collect: the tokens so far and those that it met, and the bytes behind. These are the
-- contracts of the private steps; the public calls are stated by the terms themselves.
use Rattle.std.specs.Prelude.{◌≡◌, ℕ, zero, suc, Bool, true, false, IfOk, if◌then◌else◌, List, [], ◌∷◌, ◌++◌, Option, Some, None, Result, Ok, Err}
use Rattle.sig_codec.specs.Signature.{max_depth}
use Rattle.sig_codec.specs.Reading.{◌>>=◌, Step, byte_at, number_at, variable_at, element_of, is_at_sentinel}
use Rattle.sig_codec.specs.Tokens.{token_of_coded}
use Rattle.sig_codec.specs.declared.element.Element.{Element}
use Rattle.sig_codec.specs.declared.element.Element.TheVariants as element
use Rattle.signature_facts.specs.Scanning.{shape_at, counts_at, property_count_at}
use Rattle.std.specs.Borrow.{Bor}
use Rattle.signature_tokens.specs.declared.stop.Stop.{Stop}
use Rattle.signature_tokens.specs.declared.stop.Stop.TheVariants.{Memory, Unspelled}

-- What a step returned, seen by view, is what collecting gives, unless memory ran out.
abbrev pub Fails : {Y : Type 0} → Stop → Option Y → Type 0
Fails Memory read = Unit {0}
Fails Unspelled read = read ≡ None

abbrev pub Gives : {X Y : Type 0} → (X → Y) → Result X Stop → Option Y → Type 0
Gives view (Ok x) read = read ≡ Some (view x)
Gives view (Err e) read = Fails e read

-- what is answered for a walk: whether it came to its end
abbrev pub EndsAs : {E : Type 0} → Result (Bor (List ℕ)) Stop → Result Bool E → Type 0
EndsAs (Ok rest) result = result ≡ Ok true
EndsAs (Err Unspelled) result = result ≡ Ok false
EndsAs (Err Memory) result = IfOk result (λ spelled. ⊥)

-- a walk with the tokens so far
abbrev pub Walk : Type 0
Walk = List ℕ → List ℕ → Step (List ℕ)

-- a coded token
unfoldable pub token_at : Walk
token_at front bytes = do
  n ← number_at bytes
  token ← token_of_coded n.0
  Some (front ++ token ∷ [], n.1)

-- the bytes behind a sentinel, where one stands at the front
abbrev pub behind_sentinel : List ℕ → List ℕ
behind_sentinel [] = []
behind_sentinel (b ∷ rest) = if is_at_sentinel (b ∷ rest) then rest else b ∷ rest

-- so many types, with a sentinel between them or none
abbrev pub types_at : Walk → ℕ → Walk
types_at sub zero front bytes = Some (front, bytes)
types_at sub (suc count) front bytes = do
  t ← sub front (behind_sentinel bytes)
  types_at sub count t.0 t.1

-- how many types, and then each
unfoldable pub list_at : Walk → Walk
list_at sub front bytes = do
  count ← number_at bytes
  types_at sub count.0 front count.1

unfoldable pub array_at : Walk → Walk
array_at sub front bytes = do
  t ← sub front bytes
  shape ← shape_at t.1
  Some (t.0, shape.1)

unfoldable pub inst_at : Walk → Walk
inst_at sub front bytes = do
  kind ← byte_at bytes
  name ← token_at front kind.1
  list_at sub name.0 name.1

unfoldable pub modified_at : Walk → Walk
modified_at sub front bytes = do
  o ← token_at front bytes
  sub o.0 o.1

unfoldable pub numbered_at : Walk
numbered_at front bytes = do
  n ← variable_at bytes
  Some (front, n.1)

-- what stands behind an element
abbrev pub parts_at : Walk → Element → Walk
parts_at sub (element.Prim p) front bytes = Some (front, bytes)
parts_at sub element.Pointer front bytes = sub front bytes
parts_at sub element.ByRef front bytes = sub front bytes
parts_at sub element.Value front bytes = token_at front bytes
parts_at sub element.Class front bytes = token_at front bytes
parts_at sub element.Var front bytes = numbered_at front bytes
parts_at sub element.Array front bytes = array_at sub front bytes
parts_at sub element.Inst front bytes = inst_at sub front bytes
parts_at sub element.SzArray front bytes = sub front bytes
parts_at sub element.MVar front bytes = numbered_at front bytes
parts_at sub element.Required front bytes = modified_at sub front bytes
parts_at sub element.Optional front bytes = modified_at sub front bytes
parts_at sub element.Pinned front bytes = sub front bytes

-- a type of at most this depth
unfoldable pub type_at : ℕ → Walk
type_at zero front bytes = None
type_at (suc depth) front bytes = do
  b ← byte_at bytes
  e ← element_of b.0
  parts_at (type_at depth) e front b.1

-- ---- signatures

-- a first byte, and a type
unfoldable pub field_at : Walk
field_at front bytes = do
  b ← byte_at bytes
  type_at max_depth front b.1

-- a first byte, and a list of types
unfoldable pub locals_at : Walk
locals_at front bytes = do
  b ← byte_at bytes
  list_at (type_at max_depth) front b.1

-- a result, and so many parameters
unfoldable pub returned_at : ℕ → Walk
returned_at count front bytes = do
  t ← type_at max_depth front bytes
  types_at (type_at max_depth) count t.0 t.1

unfoldable pub method_at : Walk
method_at front bytes = do
  counts ← counts_at bytes
  returned_at counts.1 front counts.2

unfoldable pub property_at : Walk
property_at front bytes = do
  count ← property_count_at bytes
  returned_at count.0 front count.1
