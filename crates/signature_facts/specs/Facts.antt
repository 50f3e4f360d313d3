-- What is told of a term without the term: a fold over the type that a signature spells (ECMA-335 II.23.2). Sums that pass the
-- last number of 32 bits stay there. Equal terms have equal facts; unequal terms may have them too.
use Rattle.std.specs.Prelude.{ℕ, ◌+◌, ◌*◌, ◌-◌, ◌^◌, min, max, Bool, true, false, if◌then◌else◌, ℤ, List, [], ◌∷◌, length, map, Option, Some, None}
use Rattle.type_terms.specs.Hashing.{mix, mix_bound}
use Rattle.type_terms.specs.Order.{prim_place}
use Rattle.type_terms.specs.declared.name.TypeName.{TypeName}
use Rattle.type_terms.specs.declared.reference.MethodSig.{MethodSig}
use Rattle.type_terms.specs.declared.term.Owner.{Owner, fold-Owner}
use Rattle.type_terms.specs.declared.term.SigType.{SigType, fold-SigType}
use Rattle.type_terms.specs.declared.term.Owner.TheOpen.{Owner-F, SigType-F, Name, Spec, Prim, Class, Value, Inst, Var, MVar, SzArray, Array, ByRef, Pointer, Mod, Pinned}
use Rattle.signature_facts.specs.declared.facts.Facts.{Facts}
use Rattle.signature_facts.specs.declared.facts.OwnerFacts.{OwnerFacts}
use Rattle.signature_facts.specs.declared.facts.MethodFacts.{MethodFacts}
use Rattle.signature_facts.specs.declared.facts.ListFacts.{ListFacts}

-- the number, or the last one of 32 bits
abbrev pub capped : ℕ → ℕ
capped n = min n (2 ^ 32 - 1)

-- ---- how facts are put together

-- nothing, with this hash
unfoldable pub leaf : ℕ → Facts
leaf hash = record { depth = 0; nodes = 0; rank = 0; weight = 0; hash = hash }

-- those of two things side by side
unfoldable pub joined : Facts → Facts → Facts
joined a b = record {
  depth = max a.depth b.depth;
  nodes = capped (a.nodes + b.nodes);
  rank = max a.rank b.rank;
  weight = capped (a.weight + b.weight);
  hash = mix a.hash b.hash;
}

-- a node more around them
unfoldable pub node : Facts → Facts
node of = record {
  depth = capped (of.depth + 1);
  nodes = capped (of.nodes + 1);
  rank = of.rank;
  weight = capped (of.weight + 32);
  hash = of.hash;
}

-- with a rank
unfoldable pub ranked : ℕ → Facts → Facts
ranked rank of = record { depth = of.depth; nodes = of.nodes; rank = max of.rank rank; weight = of.weight; hash = mix of.hash rank }

-- so many numbers with this hash, 8 for each
unfoldable pub listed : ℕ → ℕ → Facts
listed count hash = record { depth = 0; nodes = 0; rank = 0; weight = capped (8 * count); hash = hash }

-- those of several, one after the other
abbrev pub all_joined : Facts → List Facts → Facts
all_joined front [] = front
all_joined front (f ∷ fs) = all_joined (joined front f) fs

-- items mixed into a hash, one after the other
abbrev pub all_mixed : {X : Type 0} → (ℕ → X → ℕ) → ℕ → List X → ℕ
all_mixed into hash [] = hash
all_mixed into hash (x ∷ xs) = all_mixed into (into hash x) xs

-- the sizes of an array, and its lower bounds
abbrev pub list_facts : {X : Type 0} → (ℕ → X → ℕ) → List X → Facts
list_facts into xs = listed (length xs) (all_mixed into 0 xs)

-- rank, sizes and lower bounds of an array (II.23.2.13)
abbrev pub shape_facts : ℕ → List ℕ → List ℤ → Facts
shape_facts rank sizes lower = ranked rank (joined (list_facts mix sizes) (list_facts mix_bound lower))

-- ---- terms

-- What a plain name weighs, and its hash: those of whoever keeps the names.
pub record Naming : Type 0 where
  pub weight : TypeName → ℕ
  pub hash : TypeName → ℕ

-- a plain name has no depth and no node
abbrev pub name_facts : Naming → TypeName → Facts
name_facts naming name = record { depth = 0; nodes = 0; rank = 0; weight = capped (naming.weight name); hash = naming.hash name }

-- the first bytes of a generic type and of a modifier, by which they are told from others
abbrev pub inst_tag : Bool → ℕ
inst_tag value = if value then 0x16 else 0x15

abbrev pub mod_tag : Bool → ℕ
mod_tag required = if required then 0x1F else 0x20

abbrev pub owner_step : Naming → Owner-F OwnerFacts Facts → OwnerFacts
owner_step naming (Name name) = record { is_name = true; facts = name_facts naming name }
owner_step naming (Spec of) = record { is_name = false; facts = of }

abbrev pub type_step : Naming → SigType-F OwnerFacts Facts → Facts
type_step naming (Prim p) = node (leaf (prim_place p))
type_step naming (Class name) = node (joined (leaf 0x12) (name_facts naming name))
type_step naming (Value name) = node (joined (leaf 0x11) (name_facts naming name))
type_step naming (Inst value name args) = node (all_joined (joined (leaf (inst_tag value)) (name_facts naming name)) args)
type_step naming (Var n) = node (joined (leaf 0x13) (leaf n))
type_step naming (MVar n) = node (joined (leaf 0x1E) (leaf n))
type_step naming (SzArray of) = node (joined (leaf 0x1D) of)
type_step naming (Array of rank sizes lower) = node (joined (joined (leaf 0x14) of) (shape_facts rank sizes lower))
type_step naming (ByRef of) = node (joined (leaf 0x10) of)
type_step naming (Pointer of) = node (joined (leaf 0x0F) of)
type_step naming (Mod required by of) = node (joined (joined (leaf (mod_tag required)) by.facts) of)
type_step naming (Pinned of) = node (joined (leaf 0x45) of)

abbrev pub type_facts : Naming → SigType → Facts
type_facts naming t = fold-SigType OwnerFacts Facts (owner_step naming) (type_step naming) t

abbrev pub owner_facts : Naming → Owner → OwnerFacts
owner_facts naming o = fold-Owner OwnerFacts Facts (owner_step naming) (type_step naming) o

-- ---- signatures

abbrev pub is_there : Option ℕ → Bool
is_there None = false
is_there (Some n) = true

-- a method or a property (II.23.2.1, II.23.2.5)
unfoldable pub method_facts : Naming → MethodSig → MethodFacts
method_facts naming s = record {
  generic = s.generic;
  params = length s.params;
  has_sentinel = is_there s.sentinel;
  facts = all_joined (joined (leaf s.generic) (type_facts naming s.ret)) (map (type_facts naming) s.params);
}

-- locals, or the arguments of a generic method (II.23.2.6, II.23.2.15)
unfoldable pub types_facts : Naming → List SigType → ListFacts
types_facts naming ts = record { count = length ts; facts = all_joined (leaf 0) (map (type_facts naming) ts) }
