-- Types and signatures of a well-formed assembly are no deeper and have no more nodes than a reader takes.
use Rattle.std.proofs.Common.{ℕ, ◌*◌, ◌^◌, ◌≤◌, nat_le, List, [], ◌∷◌, map, arith}
use Rattle.std.specs.Prelude.{IsTrue, sum_by}
use Rattle.std.specs.List.{list_all}
use Rattle.std.proofs.lemmas.Bool.{and_parts, leb-true}
use Rattle.std.proofs.lemmas.List.Sums.{sum-map, sum_by-cons}
use Rattle.assembly_tree.specs.Weight as weight
use Rattle.assembly_tree.specs.Weight.{type_weight, owner_weight, signature_weight}
use Rattle.assembly_tree.specs.WellFormedTerms.{is_made_well, is_signature, is_type}
use Rattle.assembly_tree.specs.declared.assembly.Assembly.{Assembly}
use Rattle.assembly_tree.proofs.FormedFacts.{signatures_named}
use Rattle.sig_codec.specs.Signature.{max_depth, max_nodes}
use Rattle.type_terms.specs.Depth.{depth, largest, sig_depth}
use Rattle.type_terms.specs.Nodes.{total, owner_nodes_step, nodes_step, nodes, owner_nodes, list_nodes, sig_nodes}
use Rattle.type_terms.specs.declared.reference.MethodSig.{MethodSig}
use Rattle.type_terms.specs.declared.term.Owner.{Owner, fold-roll-Owner, map-Owner, roll-Owner}
use Rattle.type_terms.specs.declared.term.Owner.TheOpen as layer
use Rattle.type_terms.specs.declared.term.SigType.{SigType, fold-roll-SigType, map-SigType, roll-SigType}
use Rattle.type_terms.proofs.Layers.{OwnerWith, TypeWith, owner_values, type_values, by_layers}

-- ---- nodes and weight

abbrev pub OwnerLight : Owner → Type 0
OwnerLight o = 32 * owner_nodes o ≤ owner_weight o

abbrev pub TypeLight : SigType → Type 0
TypeLight t = 32 * nodes t ≤ type_weight t

abbrev Own : Type 0
Own = OwnerWith OwnerLight TypeLight

abbrev Its : Type 0
Its = TypeWith OwnerLight TypeLight

abbrev owner_layer : layer.Owner-F Own Its → layer.Owner-F Owner SigType
owner_layer = owner_values OwnerLight TypeLight

abbrev type_layer : layer.SigType-F Own Its → layer.SigType-F Owner SigType
type_layer = type_values OwnerLight TypeLight

abbrev arguments : List Its → List SigType
arguments args = map (λ (x : Its). x.0) args

args_light : (args : List Its) → 32 * total (map nodes (arguments args)) ≤ sum_by type_weight (arguments args)
args_light [] = omega arith
args_light (x ∷ args) =
    let own = x.1 in
    let rest = args_light args in
    let all = sum_by-cons type_weight x.0 (arguments args) in
    omega arith

layer_light : (l : layer.SigType-F Own Its)
    → 32 * nodes_step (map-SigType Owner SigType ℕ ℕ owner_nodes nodes (type_layer l)) ≤ weight.type_step (map-SigType Owner SigType ℕ ℕ owner_weight type_weight (type_layer l))
layer_light (layer.Prim p) = omega arith
layer_light (layer.Class n) = omega arith
layer_light (layer.Value n) = omega arith
layer_light (layer.Inst v n args) = let all = args_light args in let same = sum-map type_weight (arguments args) in omega arith
layer_light (layer.Var n) = omega arith
layer_light (layer.MVar n) = omega arith
layer_light (layer.SzArray t) = let own = t.1 in omega arith
layer_light (layer.Array t k s b) = let own = t.1 in omega arith
layer_light (layer.ByRef t) = let own = t.1 in omega arith
layer_light (layer.Pointer t) = let own = t.1 in omega arith
layer_light (layer.Mod q o t) = let one = o.1 in let own = t.1 in omega arith
layer_light (layer.Pinned t) = let own = t.1 in omega arith

type_made : (l : layer.SigType-F Own Its) → TypeLight (roll-SigType (type_layer l))
type_made l =
    let count = fold-roll-SigType ℕ ℕ owner_nodes_step nodes_step (type_layer l) in
    let heavy = fold-roll-SigType ℕ ℕ weight.owner_step weight.type_step (type_layer l) in
    let light = layer_light l in
    omega arith

owner_light : (l : layer.Owner-F Own Its)
    → 32 * owner_nodes_step (map-Owner Owner SigType ℕ ℕ owner_nodes nodes (owner_layer l)) ≤ weight.owner_step (map-Owner Owner SigType ℕ ℕ owner_weight type_weight (owner_layer l))
owner_light (layer.Name n) = omega arith
owner_light (layer.Spec t) = t.1

owner_made : (l : layer.Owner-F Own Its) → OwnerLight (roll-Owner (owner_layer l))
owner_made l =
    let count = fold-roll-Owner ℕ ℕ owner_nodes_step nodes_step (owner_layer l) in
    let heavy = fold-roll-Owner ℕ ℕ weight.owner_step weight.type_step (owner_layer l) in
    let light = owner_light l in
    omega arith

pub type_light : (t : SigType) → TypeLight t
type_light = by_layers OwnerLight TypeLight owner_made type_made

types_light : (ts : List SigType) → 32 * list_nodes ts ≤ sum_by type_weight ts
types_light [] = omega arith
types_light (t ∷ ts) =
    let own = type_light t in
    let rest = types_light ts in
    let all = sum_by-cons type_weight t ts in
    omega arith

-- ---- what a reader takes

abbrev pub TypeTaken : SigType → Type 0
TypeTaken t = (depth t ≤ max_depth) × (nodes t ≤ max_nodes)

abbrev pub SignatureTaken : MethodSig → Type 0
SignatureTaken s = (sig_depth s ≤ max_depth) × (sig_nodes s ≤ max_nodes)

module _ (a : Assembly) where
  type_low : (t : SigType) → IsTrue (is_type a t) → depth t ≤ max_depth
  unfolding is_type
  type_low t h = leb-true (depth t) 100 (and_parts (nat_le (depth t) 100) (is_made_well a t) h).0

  types_low : (ts : List SigType) → IsTrue (list_all (is_type a) ts) → largest (map depth ts) ≤ max_depth
  types_low [] h = omega arith
  types_low (t ∷ ts) h =
      let both = and_parts (is_type a t) (list_all (is_type a) ts) h in
      let own = type_low t both.0 in
      let rest = types_low ts both.1 in
      omega arith

  pub type_taken : (t : SigType) → IsTrue (is_type a t) → type_weight t ≤ 2 ^ 26 → TypeTaken t
  type_taken t h k = let light = type_light t in (type_low t h, omega arith)

  pub signature_taken : (s : MethodSig) → IsTrue (is_signature a s) → signature_weight s ≤ 2 ^ 26 → SignatureTaken s
  unfolding signature_weight
  signature_taken s h k =
      let f = (signatures_named a s).0 h in
      let ret = type_low s.ret f.ret in
      let params = types_low s.params f.params in
      let one = type_light s.ret in
      let others = types_light s.params in
      (omega arith, omega arith)
