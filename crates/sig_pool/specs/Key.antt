-- A node written as numbers, so that different nodes are written differently: the place of its variant, and then its
-- fields, each list after its length.
use Rattle.std.specs.Prelude.{ℕ, Bool, true, false, List, [], ◌∷◌, ◌++◌, length, ℤ, pos, int_lt, unsigned_abs}
use Rattle.type_terms.specs.declared.name.Scope.{Scope}
use Rattle.type_terms.specs.declared.name.Scope.TheVariants.{Here, Extern}
use Rattle.type_terms.specs.declared.name.TypeId.{TypeId}
use Rattle.type_terms.specs.declared.name.TypeName.{TypeName}
use Rattle.type_terms.specs.Order.{prim_place}
use Rattle.sig_pool.specs.declared.node.Node.{Node}
use Rattle.sig_pool.specs.declared.node.Node.TheVariants.{Prim, Class, Value, Inst, Var, MVar, SzArray, Array, ByRef, Pointer, Mod, Pinned}
use Rattle.sig_pool.specs.declared.node.NodeOwner.{NodeOwner}
use Rattle.sig_pool.specs.declared.node.NodeOwner.TheVariants.{Name, Spec}

abbrev pub flag : Bool → ℕ
flag false = 0
flag true = 1

abbrev pub list_key : List ℕ → List ℕ
list_key xs = length xs ∷ xs

abbrev pub id_key : TypeId → List ℕ
id_key a = list_key a.space ++ list_key a.name

abbrev pub path_key : List TypeId → List ℕ
path_key [] = []
path_key (a ∷ path) = id_key a ++ path_key path

abbrev pub scope_key : Scope → List ℕ
scope_key Here = 0 ∷ []
scope_key (Extern n) = 1 ∷ n ∷ []

abbrev pub name_key : TypeName → List ℕ
name_key a = scope_key a.scope ++ (length a.path ∷ path_key a.path)

-- a signed number as its sign and its magnitude
abbrev pub signed_key : ℤ → List ℕ
signed_key z = flag (int_lt z (pos 0)) ∷ unsigned_abs z ∷ []

abbrev pub all_signed_key : List ℤ → List ℕ
all_signed_key [] = []
all_signed_key (z ∷ zs) = signed_key z ++ all_signed_key zs

abbrev pub owner_key : NodeOwner → List ℕ
owner_key (Name n) = 0 ∷ name_key n
owner_key (Spec k) = 1 ∷ k ∷ []

abbrev pub node_key : Node → List ℕ
node_key (Prim p) = 0 ∷ prim_place p ∷ []
node_key (Class n) = 1 ∷ name_key n
node_key (Value n) = 2 ∷ name_key n
node_key (Inst v n args) = 3 ∷ flag v ∷ (name_key n ++ args)
node_key (Var n) = 4 ∷ n ∷ []
node_key (MVar n) = 5 ∷ n ∷ []
node_key (SzArray k) = 6 ∷ k ∷ []
node_key (Array k r s l) = 7 ∷ k ∷ r ∷ (list_key s ++ all_signed_key l)
node_key (ByRef k) = 8 ∷ k ∷ []
node_key (Pointer k) = 9 ∷ k ∷ []
node_key (Mod r o k) = 10 ∷ flag r ∷ k ∷ owner_key o
node_key (Pinned k) = 11 ∷ k ∷ []
