-- What the steps of the scanner read from the front of some bytes: the facts of a value and the bytes behind it, or None. These
-- are the contracts of the private steps, one for each step of `sig_codec`'s decoder; the public calls are stated by the terms
-- themselves.
use Rattle.std.specs.Prelude.{ℕ, zero, suc, ◌+◌, ◌==◌, ◌&&◌, ℤ, Bool, true, false, nat_lt, if◌then◌else◌, List, [], ◌∷◌, length, Option, Some, None}
use Rattle.type_terms.specs.Hashing.{mix, mix_bound}
use Rattle.type_terms.specs.Order.{prim_place}
use Rattle.sig_codec.specs.Signature.{max_depth, max_nodes}
use Rattle.sig_codec.specs.Reading.{◌>>=◌, Step, Read, byte_at, number_at, signed_at, variable_at, kind_at, element_of, is_declared, is_at_sentinel, after, convention_of, generics_at, property_has_this}
use Rattle.sig_codec.specs.Tokens.{token_of_coded}
use Rattle.sig_codec.specs.declared.element.Element.{Element}
use Rattle.sig_codec.specs.declared.element.Element.TheVariants as element
use Rattle.signature_facts.specs.declared.facts.Facts.{Facts}
use Rattle.signature_facts.specs.declared.facts.OwnerFacts.{OwnerFacts}
use Rattle.signature_facts.specs.declared.facts.MethodFacts.{MethodFacts}
use Rattle.signature_facts.specs.declared.facts.ListFacts.{ListFacts}
use Rattle.signature_facts.specs.Facts.{leaf, joined, node, ranked, listed, inst_tag, mod_tag}

-- the facts of what tokens name
abbrev pub OwnersFacts : Type 0
OwnersFacts = ℕ → Option OwnerFacts

-- ---- numbers

-- so many, one after the other, mixed into a hash
abbrev pub mixed_at : {X : Type 0} → (List ℕ → Step X) → (ℕ → X → ℕ) → ℕ → ℕ → List ℕ → Step ℕ
mixed_at step into hash zero bytes = Some (hash, bytes)
mixed_at step into hash (suc count) bytes = do
  x ← step bytes
  mixed_at step into (into hash x.0) count x.1

-- how many, no more than limit, and then each
unfoldable pub counted_at : {X : Type 0} → (List ℕ → Step X) → (ℕ → X → ℕ) → ℕ → List ℕ → Step Facts
counted_at step into limit bytes = do
  count ← number_at bytes
  if nat_lt limit count.0 then None else do
    hash ← mixed_at step into 0 count.0 count.1
    Some (listed count.0 hash.0, hash.1)

-- ---- owners

unfoldable pub owner_at : OwnersFacts → List ℕ → Option (ℕ × OwnerFacts × List ℕ)
owner_at owners bytes = do
  number ← number_at bytes
  token ← token_of_coded number.0
  owner ← owners token
  Some (token, owner, number.1)

unfoldable pub declared_at : OwnersFacts → List ℕ → Step Facts
declared_at owners bytes = do
  o ← owner_at owners bytes
  if o.1.is_name && is_declared o.0 then Some (o.1.facts, o.2) else None

-- a generic type up to its arguments
unfoldable pub generic_at : OwnersFacts → List ℕ → Option (Facts × ℕ × List ℕ)
generic_at owners bytes = do
  kind ← kind_at bytes
  o ← owner_at owners kind.1
  count ← number_at o.2
  if o.1.is_name then (if count.0 == 0 then None else Some (joined (leaf (inst_tag kind.0)) o.1.facts, count.0, count.1)) else None

-- ---- types

abbrev pub FactsStep : Type 0
FactsStep = List ℕ → ℕ → Read Facts

-- Up to so many types, joined to what stands before them, and no more once a sentinel stands at the front; with how many more
-- there might have been.
abbrev pub types_at : FactsStep → Facts → ℕ → List ℕ → ℕ → Option (Facts × ℕ × List ℕ × ℕ)
types_at sub front zero bytes nodes = Some (front, 0, bytes, nodes)
types_at sub front (suc count) bytes nodes = if is_at_sentinel bytes then Some (front, suc count, bytes, nodes) else do
  t ← sub bytes nodes
  types_at sub (joined front t.0) count t.1 t.2

-- so many types
unfoldable pub all_types_at : FactsStep → Facts → ℕ → List ℕ → ℕ → Read Facts
all_types_at sub front count bytes nodes = do
  ts ← types_at sub front count bytes nodes
  if ts.1 == 0 then Some (ts.0, ts.2, ts.3) else None

-- a type made of one other
unfoldable pub boxed_at : FactsStep → ℕ → List ℕ → ℕ → Read Facts
boxed_at sub tag bytes nodes = do
  t ← sub bytes nodes
  Some (node (joined (leaf tag) t.0), t.1, t.2)

unfoldable pub named_at : OwnersFacts → ℕ → List ℕ → ℕ → Read Facts
named_at owners tag bytes nodes = do
  name ← declared_at owners bytes
  Some (node (joined (leaf tag) name.0), name.1, nodes)

unfoldable pub numbered_at : ℕ → List ℕ → ℕ → Read Facts
numbered_at tag bytes nodes = do
  n ← variable_at bytes
  Some (node (joined (leaf tag) (leaf n.0)), n.1, nodes)

-- rank, sizes and lower bounds
unfoldable pub shape_at : List ℕ → Step Facts
shape_at bytes = do
  rank ← number_at bytes
  if rank.0 == 0 then None else do
    sizes ← counted_at number_at mix rank.0 rank.1
    lower ← counted_at signed_at mix_bound rank.0 sizes.1
    Some (ranked rank.0 (joined sizes.0 lower.0), lower.1)

unfoldable pub array_at : FactsStep → List ℕ → ℕ → Read Facts
array_at sub bytes nodes = do
  t ← sub bytes nodes
  shape ← shape_at t.1
  Some (node (joined (joined (leaf 0x14) t.0) shape.0), shape.1, t.2)

unfoldable pub inst_at : OwnersFacts → FactsStep → List ℕ → ℕ → Read Facts
inst_at owners sub bytes nodes = do
  head ← generic_at owners bytes
  args ← all_types_at sub head.0 head.1 head.2 nodes
  Some (node args.0, args.1, args.2)

abbrev pub after_facts : Facts → ℕ → ℕ → Option ℕ
after_facts f = after f.depth f.nodes

unfoldable pub modified_at : OwnersFacts → FactsStep → ℕ → Bool → List ℕ → ℕ → Read Facts
modified_at owners sub limit required bytes many = do
  o ← owner_at owners bytes
  left ← after_facts o.1.facts limit many
  t ← sub o.2 left
  Some (node (joined (joined (leaf (mod_tag required)) o.1.facts) t.0), t.1, t.2)

-- what stands behind an element
abbrev pub parts_at : OwnersFacts → FactsStep → ℕ → Element → List ℕ → ℕ → Read Facts
parts_at owners sub depth (element.Prim p) bytes nodes = Some (node (leaf (prim_place p)), bytes, nodes)
parts_at owners sub depth element.Pointer bytes nodes = boxed_at sub 0x0F bytes nodes
parts_at owners sub depth element.ByRef bytes nodes = boxed_at sub 0x10 bytes nodes
parts_at owners sub depth element.Value bytes nodes = named_at owners 0x11 bytes nodes
parts_at owners sub depth element.Class bytes nodes = named_at owners 0x12 bytes nodes
parts_at owners sub depth element.Var bytes nodes = numbered_at 0x13 bytes nodes
parts_at owners sub depth element.Array bytes nodes = array_at sub bytes nodes
parts_at owners sub depth element.Inst bytes nodes = inst_at owners sub bytes nodes
parts_at owners sub depth element.SzArray bytes nodes = boxed_at sub 0x1D bytes nodes
parts_at owners sub depth element.MVar bytes nodes = numbered_at 0x1E bytes nodes
parts_at owners sub depth element.Required bytes nodes = modified_at owners sub depth true bytes nodes
parts_at owners sub depth element.Optional bytes nodes = modified_at owners sub depth false bytes nodes
parts_at owners sub depth element.Pinned bytes nodes = boxed_at sub 0x45 bytes nodes

-- a type, where it has no more than this depth and these nodes
unfoldable pub type_at : OwnersFacts → ℕ → List ℕ → ℕ → Read Facts
type_at owners zero bytes nodes = None
type_at owners (suc depth) bytes zero = None
type_at owners (suc depth) bytes (suc nodes) = do
  b ← byte_at bytes
  e ← element_of b.0
  parts_at owners (type_at owners depth) depth e b.1 nodes

-- ---- signatures

-- a type by all of the bytes
unfoldable pub whole_type : OwnersFacts → List ℕ → Option Facts
whole_type owners bytes = do
  t ← type_at owners max_depth bytes max_nodes
  if length t.1 == 0 then Some t.0 else None

unfoldable pub whole_field : OwnersFacts → List ℕ → Option Facts
whole_field owners bytes = do
  b ← byte_at bytes
  if b.0 == 0x06 then whole_type owners b.1 else None

-- a count, and so many types to the end
unfoldable pub whole_types : OwnersFacts → List ℕ → Option ListFacts
whole_types owners bytes = do
  count ← number_at bytes
  ts ← all_types_at (type_at owners max_depth) (leaf 0) count.0 count.1 max_nodes
  if length ts.1 == 0 then Some (record { count = count.0; facts = ts.0 }) else None

unfoldable pub whole_locals : OwnersFacts → List ℕ → Option ListFacts
whole_locals owners bytes = do
  b ← byte_at bytes
  if b.0 == 0x07 then whole_types owners b.1 else None

unfoldable pub whole_instantiation : OwnersFacts → List ℕ → Option ListFacts
whole_instantiation owners bytes = do
  b ← byte_at bytes
  if b.0 == 0x0A then (do
    ts ← whole_types owners b.1
    if ts.count == 0 then None else Some ts) else None

-- whether a method that begins with this byte is generic; None where no method begins so
unfoldable pub is_generic : ℕ → Option Bool
is_generic byte = do
  call ← convention_of byte
  Some call.3

-- so many parameters, with a sentinel between them or none: all of them joined to what stands before them
unfoldable pub params_at : FactsStep → Facts → ℕ → List ℕ → ℕ → Option (Facts × Bool × List ℕ × ℕ)
params_at sub front count bytes many = do
  fixed ← types_at sub front count bytes many
  if fixed.1 == 0 then Some (fixed.0, false, fixed.2, fixed.3) else do
    mark ← byte_at fixed.2
    others ← all_types_at sub fixed.0 fixed.1 mark.1 fixed.3
    Some (others.0, true, others.1, others.2)

-- the number of generic parameters, the number of parameters, and the bytes behind
unfoldable pub counts_at : List ℕ → Option (ℕ × ℕ × List ℕ)
counts_at bytes = do
  b ← byte_at bytes
  some ← is_generic b.0
  generic ← generics_at some b.1
  count ← number_at generic.1
  Some (generic.0, count.0, count.1)

unfoldable pub whole_method : OwnersFacts → List ℕ → Option MethodFacts
whole_method owners bytes = do
  counts ← counts_at bytes
  ret ← type_at owners max_depth counts.2 max_nodes
  params ← params_at (type_at owners max_depth) (joined (leaf counts.0) ret.0) counts.1 ret.1 ret.2
  if length params.2 == 0 then Some (record { generic = counts.0; params = counts.1; has_sentinel = params.1; facts = params.0 }) else None

-- the number of parameters of a property, and the bytes behind
unfoldable pub property_count_at : List ℕ → Step ℕ
property_count_at bytes = do
  b ← byte_at bytes
  has_this ← property_has_this b.0
  number_at b.1

unfoldable pub whole_property : OwnersFacts → List ℕ → Option MethodFacts
whole_property owners bytes = do
  count ← property_count_at bytes
  ret ← type_at owners max_depth count.1 max_nodes
  params ← all_types_at (type_at owners max_depth) (joined (leaf 0) ret.0) count.0 ret.1 ret.2
  if length params.1 == 0 then Some (record { generic = 0; params = count.0; has_sentinel = false; facts = params.0 }) else None
