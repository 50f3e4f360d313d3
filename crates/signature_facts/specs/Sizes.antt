-- The sizes that facts tell: the largest rank of an array, and the weight where names weigh what a map says (II.23.2.12,
-- II.23.2.13). Depth and nodes are those of `type_terms`.
use Rattle.std.specs.Prelude.{◌≡◌, ℕ, ◌+◌, ◌*◌, max, List, length, map, sum}
use Rattle.type_terms.specs.Depth.{largest}
use Rattle.type_terms.specs.declared.name.TypeName.{TypeName}
use Rattle.type_terms.specs.declared.reference.MethodSig.{MethodSig}
use Rattle.type_terms.specs.declared.term.Owner.{Owner, fold-Owner}
use Rattle.type_terms.specs.declared.term.SigType.{SigType, fold-SigType}
use Rattle.type_terms.specs.declared.term.Owner.TheOpen.{Owner-F, SigType-F, Name, Spec, Prim, Class, Value, Inst, Var, MVar, SzArray, Array, ByRef, Pointer, Mod, Pinned}
use Rattle.signature_facts.specs.declared.facts.Facts.{Facts}
use Rattle.signature_facts.specs.Facts.{capped}

-- the largest rank of an array in a type
abbrev pub owner_rank_step : Owner-F ℕ ℕ → ℕ
owner_rank_step (Name name) = 0
owner_rank_step (Spec rank) = rank

abbrev pub rank_step : SigType-F ℕ ℕ → ℕ
rank_step (Inst value name args) = largest args
rank_step (SzArray of) = of
rank_step (Array of rank sizes lower) = max rank of
rank_step (ByRef of) = of
rank_step (Pointer of) = of
rank_step (Mod required by of) = max by of
rank_step (Pinned of) = of
rank_step (Prim p) = 0
rank_step (Class name) = 0
rank_step (Value name) = 0
rank_step (Var n) = 0
rank_step (MVar n) = 0

abbrev pub type_rank : SigType → ℕ
type_rank t = fold-SigType ℕ ℕ owner_rank_step rank_step t

abbrev pub owner_rank : Owner → ℕ
owner_rank o = fold-Owner ℕ ℕ owner_rank_step rank_step o

-- 32 for a node, 8 for each number of an array's shape, and what names weigh
abbrev pub owner_weight_step : (TypeName → ℕ) → Owner-F ℕ ℕ → ℕ
owner_weight_step weigh (Name name) = weigh name
owner_weight_step weigh (Spec of) = of

abbrev pub weight_step : (TypeName → ℕ) → SigType-F ℕ ℕ → ℕ
weight_step weigh (Prim p) = 32
weight_step weigh (Class name) = 32 + weigh name
weight_step weigh (Value name) = 32 + weigh name
weight_step weigh (Inst value name args) = 32 + weigh name + sum args
weight_step weigh (Var n) = 32
weight_step weigh (MVar n) = 32
weight_step weigh (SzArray of) = 32 + of
weight_step weigh (Array of rank sizes lower) = 32 + 8 * length sizes + 8 * length lower + of
weight_step weigh (ByRef of) = 32 + of
weight_step weigh (Pointer of) = 32 + of
weight_step weigh (Mod required by of) = 32 + by + of
weight_step weigh (Pinned of) = 32 + of

abbrev pub weight_by : (TypeName → ℕ) → SigType → ℕ
weight_by weigh t = fold-SigType ℕ ℕ (owner_weight_step weigh) (weight_step weigh) t

abbrev pub owner_weight_by : (TypeName → ℕ) → Owner → ℕ
owner_weight_by weigh o = fold-Owner ℕ ℕ (owner_weight_step weigh) (weight_step weigh) o

-- ---- of several types

abbrev pub types_rank : List SigType → ℕ
types_rank ts = largest (map type_rank ts)

abbrev pub types_weight_by : (TypeName → ℕ) → List SigType → ℕ
types_weight_by weigh ts = sum (map (weight_by weigh) ts)

abbrev pub sig_rank : MethodSig → ℕ
sig_rank s = max (type_rank s.ret) (types_rank s.params)

abbrev pub sig_weight_by : (TypeName → ℕ) → MethodSig → ℕ
sig_weight_by weigh s = weight_by weigh s.ret + types_weight_by weigh s.params

-- facts tell these sizes
pub record Sized (f : Facts) (deep many rank weight : ℕ) : Type 0 where
  pub depth : f.depth ≡ capped deep
  pub nodes : f.nodes ≡ capped many
  pub rank_is : f.rank ≡ rank
  pub weighs : f.weight ≡ capped weight
