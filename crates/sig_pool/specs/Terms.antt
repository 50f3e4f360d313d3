-- The types that the nodes of a pool stand for. Each node is a type whose children are those of nodes before it.
use Rattle.std.specs.Prelude.{ℕ, ◌<◌, List, [], ◌∷◌, ◌++◌, map, get_or}
use Rattle.std.specs.List.{All}
use Rattle.type_terms.specs.declared.term.Primitive.TheVariants.{Void}
use Rattle.type_terms.specs.declared.term.Owner.{Owner}
use Rattle.type_terms.specs.declared.term.Owner.TheVariants as owner
use Rattle.type_terms.specs.declared.term.Owner.TheOpen as layer
use Rattle.type_terms.specs.declared.term.SigType.{SigType, roll-SigType}
use Rattle.type_terms.specs.declared.term.SigType.TheVariants as type
use Rattle.sig_pool.specs.declared.node.Node.{Node}
use Rattle.sig_pool.specs.declared.node.Node.TheVariants.{Prim, Class, Value, Inst, Var, MVar, SzArray, Array, ByRef, Pointer, Mod, Pinned}
use Rattle.sig_pool.specs.declared.node.NodeOwner.{NodeOwner}
use Rattle.sig_pool.specs.declared.node.NodeOwner.TheVariants.{Name, Spec}

abbrev pub owner_children : NodeOwner → List ℕ
owner_children (Name n) = []
owner_children (Spec k) = k ∷ []

-- the ids in a node
abbrev pub children : Node → List ℕ
children (Prim p) = []
children (Class n) = []
children (Value n) = []
children (Inst v n args) = args
children (Var n) = []
children (MVar n) = []
children (SzArray k) = k ∷ []
children (Array k r s l) = k ∷ []
children (ByRef k) = k ∷ []
children (Pointer k) = k ∷ []
children (Mod r o k) = k ∷ owner_children o
children (Pinned k) = k ∷ []

abbrev pub AllBelow : ℕ → List ℕ → Type 0
AllBelow n ks = All (λ k. k < n) ks

-- the type at place k
abbrev pub at : List SigType → ℕ → SigType
at ts k = get_or ts k (type.Prim Void)

abbrev pub owner_of : List SigType → NodeOwner → Owner
owner_of ts (Name n) = owner.Name n
owner_of ts (Spec k) = owner.Spec (at ts k)

-- the layer of a type that a node is, where the types of the ids are `ts`
abbrev pub layer_of : List SigType → Node → layer.SigType-F Owner SigType
layer_of ts (Prim p) = layer.Prim p
layer_of ts (Class n) = layer.Class n
layer_of ts (Value n) = layer.Value n
layer_of ts (Inst v n args) = layer.Inst v n (map (at ts) args)
layer_of ts (Var n) = layer.Var n
layer_of ts (MVar n) = layer.MVar n
layer_of ts (SzArray k) = layer.SzArray (at ts k)
layer_of ts (Array k r s l) = layer.Array (at ts k) r s l
layer_of ts (ByRef k) = layer.ByRef (at ts k)
layer_of ts (Pointer k) = layer.Pointer (at ts k)
layer_of ts (Mod r o k) = layer.Mod r (owner_of ts o) (at ts k)
layer_of ts (Pinned k) = layer.Pinned (at ts k)

-- the type that a node is
unfoldable pub built : List SigType → Node → SigType
built ts n = roll-SigType (layer_of ts n)

abbrev pub grown : List SigType → List Node → List SigType
grown ts [] = ts
grown ts (n ∷ ns) = grown (ts ++ built ts n ∷ []) ns

-- the types of the nodes, each made from those before it
unfoldable pub terms : List Node → List SigType
terms ns = grown [] ns

-- the type of the node at place k
unfoldable pub term_of : List Node → ℕ → SigType
term_of ns k = at (terms ns) k
