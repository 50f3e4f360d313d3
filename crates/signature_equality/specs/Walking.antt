-- What the steps of a walk along two signatures give: the bytes behind what both begin with, where it is the same, or None. These
-- are the contracts of the private steps; the public calls are stated by the terms themselves.
use Rattle.std.specs.Prelude.{ℕ, zero, suc, ◌==◌, ◌&&◌, ℤ, Bool, true, false, if◌then◌else◌, List, [], ◌∷◌, Option, Some, None}
use Rattle.std.specs.Ordering.{int_eq}
use Rattle.sig_codec.specs.Signature.{max_depth}
use Rattle.sig_codec.specs.Reading.{◌>>=◌, Step, byte_at, number_at, signed_at, element_of, is_at_sentinel}
use Rattle.sig_codec.specs.Tokens.{token_of_coded}
use Rattle.sig_codec.specs.declared.element.Element.{Element}
use Rattle.sig_codec.specs.declared.element.Element.TheVariants as element
use Rattle.signature_facts.specs.Scanning.{counts_at, property_count_at}

-- the bytes of both that are still to be looked at
abbrev pub Both : Type 0
Both = List ℕ × List ℕ

abbrev pub both : List ℕ → List ℕ → Option Both
both a b = Some (a, b)

-- a test that tells tokens that name the same
abbrev pub Canon : Type 0
Canon = ℕ → ℕ → Bool

-- a walk along what both begin with
abbrev pub Walk : Type 0
Walk = Both → Option Both

unfoldable pub same_byte : Walk
same_byte at = do
  x ← byte_at at.0
  y ← byte_at at.1
  if x.0 == y.0 then both x.1 y.1 else None

unfoldable pub same_number : Walk
same_number at = do
  x ← number_at at.0
  y ← number_at at.1
  if x.0 == y.0 then both x.1 y.1 else None

unfoldable pub same_signed : Walk
same_signed at = do
  x ← signed_at at.0
  y ← signed_at at.1
  if int_eq x.0 y.0 then both x.1 y.1 else None

-- a coded token
unfoldable pub token_at : List ℕ → Step ℕ
token_at bytes = do
  n ← number_at bytes
  token ← token_of_coded n.0
  Some (token, n.1)

unfoldable pub same_owner : Canon → Walk
same_owner canon at = do
  x ← token_at at.0
  y ← token_at at.1
  if canon x.0 y.0 then both x.1 y.1 else None

-- so many, one after the other
abbrev pub same_each : Walk → ℕ → Walk
same_each walk zero at = Some at
same_each walk (suc count) at = do
  b ← walk at
  same_each walk count b

-- how many, and then each
unfoldable pub same_counted : Walk → Walk
same_counted walk at = do
  x ← number_at at.0
  y ← number_at at.1
  if x.0 == y.0 then same_each walk x.0 (x.1, y.1) else None

-- up to so many types, and no more once a sentinel stands at the front of both; with how many more there might have been
abbrev pub same_types : Walk → ℕ → Both → Option (ℕ × List ℕ × List ℕ)
same_types walk zero at = Some (0, at.0, at.1)
same_types walk (suc count) at =
    if is_at_sentinel at.0 then (if is_at_sentinel at.1 then Some (suc count, at.0, at.1) else None)
    else if is_at_sentinel at.1 then None
    else do
      b ← walk at
      same_types walk count b

unfoldable pub same_all : Walk → ℕ → Walk
same_all walk count at = do
  x ← same_types walk count at
  if x.0 == 0 then both x.1 x.2 else None

-- how many types, and then each
unfoldable pub same_list : Walk → Walk
same_list walk at = do
  x ← number_at at.0
  y ← number_at at.1
  if x.0 == y.0 then same_all walk x.0 (x.1, y.1) else None

-- a type and its shape
unfoldable pub same_array : Walk → Walk
same_array walk at = do
  a ← walk at
  b ← same_number a
  c ← same_counted same_number b
  same_counted same_signed c

unfoldable pub same_inst : Canon → Walk → Walk
same_inst canon walk at = do
  a ← same_byte at
  b ← same_owner canon a
  same_list walk b

unfoldable pub same_mod : Canon → Walk → Walk
same_mod canon walk at = do
  a ← same_owner canon at
  walk a

-- what stands behind an element
abbrev pub same_parts : Canon → Walk → Element → Walk
same_parts canon walk (element.Prim p) at = Some at
same_parts canon walk element.Pointer at = walk at
same_parts canon walk element.ByRef at = walk at
same_parts canon walk element.Value at = same_owner canon at
same_parts canon walk element.Class at = same_owner canon at
same_parts canon walk element.Var at = same_number at
same_parts canon walk element.Array at = same_array walk at
same_parts canon walk element.Inst at = same_inst canon walk at
same_parts canon walk element.SzArray at = walk at
same_parts canon walk element.MVar at = same_number at
same_parts canon walk element.Required at = same_mod canon walk at
same_parts canon walk element.Optional at = same_mod canon walk at
same_parts canon walk element.Pinned at = walk at

-- a type of at most this depth
unfoldable pub same_type : Canon → ℕ → Walk
same_type canon zero at = None
same_type canon (suc depth) at = do
  x ← byte_at at.0
  y ← byte_at at.1
  if x.0 == y.0 then (do
    e ← element_of x.0
    same_parts canon (same_type canon depth) e (x.1, y.1)) else None

-- ---- signatures

-- so many parameters, with a sentinel before the same one of both or none
unfoldable pub same_params : Walk → ℕ → Walk
same_params walk count at = do
  x ← same_types walk count at
  if x.0 == 0 then both x.1 x.2 else do
    a ← byte_at x.1
    b ← byte_at x.2
    same_all walk x.0 (a.1, b.1)

-- a first byte, then a type
unfoldable pub same_field : Canon → Walk
same_field canon at = do
  a ← same_byte at
  same_type canon max_depth a

-- a first byte, then a list of types
unfoldable pub same_locals : Canon → Walk
same_locals canon at = do
  a ← same_byte at
  same_list (same_type canon max_depth) a

-- the first byte of a method, the number of its generic parameters and that of its parameters; then this one
unfoldable pub same_head : Both → Option (ℕ × List ℕ × List ℕ)
same_head at = do
  a ← byte_at at.0
  b ← byte_at at.1
  x ← counts_at at.0
  y ← counts_at at.1
  if a.0 == b.0 && (x.0 == y.0 && x.1 == y.1) then Some (x.1, x.2, y.2) else None

unfoldable pub same_method : Canon → Walk
same_method canon at = do
  x ← same_head at
  a ← same_type canon max_depth (x.1, x.2)
  same_params (same_type canon max_depth) x.0 a

-- the first byte of a property, and the number of its parameters; then this one
unfoldable pub same_property_head : Both → Option (ℕ × List ℕ × List ℕ)
same_property_head at = do
  a ← byte_at at.0
  b ← byte_at at.1
  x ← property_count_at at.0
  y ← property_count_at at.1
  if a.0 == b.0 && x.0 == y.0 then Some (x.0, x.1, y.1) else None

unfoldable pub same_property : Canon → Walk
same_property canon at = do
  x ← same_property_head at
  a ← same_type canon max_depth (x.1, x.2)
  same_all (same_type canon max_depth) x.0 a
