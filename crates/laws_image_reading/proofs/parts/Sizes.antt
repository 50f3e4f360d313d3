-- Types and signatures of a well-formed tree are ones that a reader takes: each node weighs 32.
use Rattle.std.proofs.Common.{ℕ, ◌*◌, ◌^◌, ◌≤◌, nat_le, List, [], ◌∷◌, map, arith}
use Rattle.std.specs.Prelude.{IsTrue, sum_by}
use Rattle.std.specs.List.{list_all}
use Rattle.std.proofs.lemmas.Bool.{and_parts, leb-true}
use Rattle.std.proofs.lemmas.List.Sums.{sum-map, sum_by-cons}
use Rattle.assembly_tree.specs.Weight as weight
use Rattle.assembly_tree.specs.Weight.{type_weight, owner_weight, signature_weight}
use Rattle.assembly_tree.specs.WellFormedTerms.{is_made_well, is_type, is_signature}
use Rattle.assembly_tree.specs.declared.assembly.Assembly.{Assembly}
use Rattle.assembly_tree.proofs.FormedFacts.{signatures_named}
use Rattle.sig_codec.specs.Signature.{max_depth, max_nodes}
use Rattle.sig_codec.specs.Spelling.{Layer}
use Rattle.type_terms.specs.Depth.{depth, largest, sig_depth}
use Rattle.type_terms.specs.Nodes.{nodes, owner_nodes, list_nodes, sig_nodes, total, nodes_step, owner_nodes_step}
use Rattle.type_terms.specs.declared.reference.MethodSig.{MethodSig}
use Rattle.type_terms.specs.declared.term.Owner.{Owner, fold-roll-Owner, map-Owner, roll-Owner}
use Rattle.type_terms.specs.declared.term.Owner.TheOpen as layer
use Rattle.type_terms.specs.declared.term.SigType.{SigType, fold-roll-SigType, map-SigType, roll-SigType}
use Rattle.type_terms.proofs.Layers.{OwnerWith, TypeWith, owner_values, type_values, by_layers}

-- ---- nodes

abbrev Light : SigType → Type 0
Light t = 32 * nodes t ≤ type_weight t

abbrev OwnerLight : Owner → Type 0
OwnerLight o = 32 * owner_nodes o ≤ owner_weight o

abbrev type_layer : layer.SigType-F (OwnerWith OwnerLight Light) (TypeWith OwnerLight Light) → Layer
type_layer l = type_values OwnerLight Light l

abbrev owner_layer : layer.Owner-F (OwnerWith OwnerLight Light) (TypeWith OwnerLight Light) → layer.Owner-F Owner SigType
owner_layer l = owner_values OwnerLight Light l

abbrev layer_nodes : Layer → ℕ
layer_nodes l = nodes_step (map-SigType Owner SigType ℕ ℕ owner_nodes nodes l)

abbrev layer_weight : Layer → ℕ
layer_weight l = weight.type_step (map-SigType Owner SigType ℕ ℕ owner_weight type_weight l)

abbrev arguments : List (TypeWith OwnerLight Light) → List SigType
arguments args = map (λ (x : TypeWith OwnerLight Light). x.0) args

args_light : (args : List (TypeWith OwnerLight Light)) → 32 * total (map nodes (arguments args)) ≤ sum_by type_weight (arguments args)
args_light [] = omega arith
args_light (x ∷ args) =
    let all = sum_by-cons type_weight x.0 (arguments args) in
    let first = x.1 in
    let rest = args_light args in
    omega arith

layer_light : (l : layer.SigType-F (OwnerWith OwnerLight Light) (TypeWith OwnerLight Light)) → 32 * layer_nodes (type_layer l) ≤ layer_weight (type_layer l)
layer_light (layer.Prim p) = omega arith
layer_light (layer.Class name) = omega arith
layer_light (layer.Value name) = omega arith
layer_light (layer.Inst v name args) =
    let all = sum-map type_weight (arguments args) in
    let each = args_light args in
    omega arith
layer_light (layer.Var n) = omega arith
layer_light (layer.MVar n) = omega arith
layer_light (layer.SzArray t) = let h = t.1 in omega arith
layer_light (layer.Array t rank sizes lower) = let h = t.1 in omega arith
layer_light (layer.ByRef t) = let h = t.1 in omega arith
layer_light (layer.Pointer t) = let h = t.1 in omega arith
layer_light (layer.Mod q o t) = let g = o.1 in let h = t.1 in omega arith
layer_light (layer.Pinned t) = let h = t.1 in omega arith

type_made : (l : layer.SigType-F (OwnerWith OwnerLight Light) (TypeWith OwnerLight Light)) → Light (roll-SigType (type_layer l))
type_made l =
    let n = fold-roll-SigType ℕ ℕ owner_nodes_step nodes_step (type_layer l) in
    let w = fold-roll-SigType ℕ ℕ weight.owner_step weight.type_step (type_layer l) in
    let h = layer_light l in
    omega arith

owner_layer_light : (l : layer.Owner-F (OwnerWith OwnerLight Light) (TypeWith OwnerLight Light))
    → 32 * owner_nodes_step (map-Owner Owner SigType ℕ ℕ owner_nodes nodes (owner_layer l)) ≤ weight.owner_step (map-Owner Owner SigType ℕ ℕ owner_weight type_weight (owner_layer l))
owner_layer_light (layer.Name name) = omega arith
owner_layer_light (layer.Spec t) = t.1

owner_made : (l : layer.Owner-F (OwnerWith OwnerLight Light) (TypeWith OwnerLight Light)) → OwnerLight (roll-Owner (owner_layer l))
owner_made l =
    let n = fold-roll-Owner ℕ ℕ owner_nodes_step nodes_step (owner_layer l) in
    let w = fold-roll-Owner ℕ ℕ weight.owner_step weight.type_step (owner_layer l) in
    let h = owner_layer_light l in
    omega arith

nodes_light : (t : SigType) → 32 * nodes t ≤ type_weight t
nodes_light = by_layers OwnerLight Light owner_made type_made

list_light : (ts : List SigType) → 32 * list_nodes ts ≤ sum_by type_weight ts
list_light [] = omega arith
list_light (t ∷ ts) =
    let all = sum_by-cons type_weight t ts in
    let first = nodes_light t in
    let rest = list_light ts in
    omega arith

-- ---- depth

type_deep : (a : Assembly) (t : SigType) → IsTrue (is_type a t) → depth t ≤ 100
unfolding is_type
type_deep a t h = leb-true (depth t) 100 (and_parts (nat_le (depth t) 100) (is_made_well a t) h).0

list_deep : (a : Assembly) (ts : List SigType) → IsTrue (list_all (is_type a) ts) → largest (map depth ts) ≤ 100
list_deep a [] h = omega arith
list_deep a (t ∷ ts) h =
    let both = and_parts (is_type a t) (list_all (is_type a) ts) h in
    let first = type_deep a t both.0 in
    let rest = list_deep a ts both.1 in
    omega arith

-- ---- what a reader takes

pub type_taken : (a : Assembly) (t : SigType) → IsTrue (is_type a t) → type_weight t ≤ 2 ^ 26 → (depth t ≤ max_depth) × (nodes t ≤ max_nodes)
type_taken a t h light = (type_deep a t h, (let few = nodes_light t in omega arith))

pub sig_taken : (a : Assembly) (s : MethodSig) → IsTrue (is_signature a s) → signature_weight s ≤ 2 ^ 26 → (sig_depth s ≤ max_depth) × (sig_nodes s ≤ max_nodes)
unfolding signature_weight
sig_taken a s h light =
    let f = (signatures_named a s).0 h in
    let ret = type_deep a s.ret f.ret in
    let params = list_deep a s.params f.params in
    let few = nodes_light s.ret in
    let rest = list_light s.params in
    (omega arith, omega arith)
