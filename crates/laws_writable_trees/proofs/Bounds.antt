-- The types of a well-formed assembly are in bounds, where they are light: a node weighs 32.
use Rattle.std.proofs.Common.{sym, ◌∙◌, subst, ℕ, ◌*◌, ◌^◌, ◌≤◌, ◌==◌, Bool, nat_lt, nat_le, List, [], ◌∷◌, map, length, Option, Some, None, arith}
use Rattle.std.specs.Prelude.{IsTrue, sum_by}
use Rattle.std.specs.List.{AllByRecursion, list_all}
use Rattle.std.proofs.lemmas.Bool.{and_parts, leb-true, eqb-true}
use Rattle.std.proofs.lemmas.List.Elements.{All-from_recursion}
use Rattle.std.proofs.lemmas.List.Sums.{sum-map, sum_by-cons}
use Rattle.assembly_tree.specs.Weight as weight
use Rattle.assembly_tree.specs.Weight.{optional, type_weight, owner_weight, signature_weight}
use Rattle.assembly_tree.specs.WellFormedNames.{option_all, is_type_name}
use Rattle.assembly_tree.specs.WellFormedTerms as formed
use Rattle.assembly_tree.specs.WellFormedTerms.{is_shape, is_size, is_lower_bound, is_made_well, is_owner_made_well, is_type, is_signature, are_arguments}
use Rattle.assembly_tree.specs.declared.assembly.Assembly.{Assembly}
use Rattle.assembly_tree.proofs.FormedFacts.{signatures_named}
use Rattle.image_model.specs.Terms.{HasRanks, owner_rank, type_rank}
use Rattle.type_terms.specs.Depth.{depth, largest}
use Rattle.type_terms.specs.Nodes.{nodes, owner_nodes, owner_nodes_step, nodes_step, list_nodes, total}
use Rattle.type_terms.specs.declared.reference.MethodSig.{MethodSig}
use Rattle.type_terms.specs.declared.term.Owner.{Owner, fold-Owner, fold-roll-Owner, map-Owner, roll-Owner}
use Rattle.type_terms.specs.declared.term.Owner.TheOpen as layer
use Rattle.type_terms.specs.declared.term.SigType.{SigType, fold-SigType, fold-roll-SigType, map-SigType, roll-SigType}
use Rattle.type_terms.proofs.Layers.{OwnerWith, TypeWith, owner_values, type_values, by_layers}
use Rattle.image_tokens.specs.Bounds.{IsTypeInBounds, AreTypesInBounds, IsMethodInBounds, AreArgumentsInBounds}
use Rattle.laws_writable_trees.proofs.Each.{split_three, split_six, each_from, each_true}

-- ---- nodes

abbrev TypeHeavy : SigType → Type 0
TypeHeavy t = 32 * nodes t ≤ type_weight t

abbrev OwnerHeavy : Owner → Type 0
OwnerHeavy o = 32 * owner_nodes o ≤ owner_weight o

abbrev heavy_types : List (TypeWith OwnerHeavy TypeHeavy) → List SigType
heavy_types args = map (λ (x : TypeWith OwnerHeavy TypeHeavy). x.0) args

args_heavy : (args : List (TypeWith OwnerHeavy TypeHeavy)) → 32 * total (map nodes (heavy_types args)) ≤ sum_by type_weight (heavy_types args)
args_heavy [] = omega arith
args_heavy (x ∷ args) =
    let one = x.1 in
    let rest = args_heavy args in
    let all = sum_by-cons type_weight x.0 (heavy_types args) in
    omega arith

layer_heavy : (l : layer.SigType-F (OwnerWith OwnerHeavy TypeHeavy) (TypeWith OwnerHeavy TypeHeavy))
    → 32 * nodes_step (map-SigType Owner SigType ℕ ℕ owner_nodes nodes (type_values OwnerHeavy TypeHeavy l)) ≤ weight.type_step (map-SigType Owner SigType ℕ ℕ owner_weight type_weight (type_values OwnerHeavy TypeHeavy l))
layer_heavy (layer.Prim p) = omega arith
layer_heavy (layer.Class n) = omega arith
layer_heavy (layer.Value n) = omega arith
layer_heavy (layer.Inst v n args) = let all = args_heavy args in let same = sum-map type_weight (heavy_types args) in omega arith
layer_heavy (layer.Var n) = omega arith
layer_heavy (layer.MVar n) = omega arith
layer_heavy (layer.SzArray t) = let one = t.1 in omega arith
layer_heavy (layer.Array t k s b) = let one = t.1 in omega arith
layer_heavy (layer.ByRef t) = let one = t.1 in omega arith
layer_heavy (layer.Pointer t) = let one = t.1 in omega arith
layer_heavy (layer.Mod q o t) = let by = o.1 in let one = t.1 in omega arith
layer_heavy (layer.Pinned t) = let one = t.1 in omega arith

type_is_heavy : (l : layer.SigType-F (OwnerWith OwnerHeavy TypeHeavy) (TypeWith OwnerHeavy TypeHeavy)) → TypeHeavy (roll-SigType (type_values OwnerHeavy TypeHeavy l))
type_is_heavy l =
    let many = fold-roll-SigType ℕ ℕ owner_nodes_step nodes_step (type_values OwnerHeavy TypeHeavy l) in
    let weighs = fold-roll-SigType ℕ ℕ weight.owner_step weight.type_step (type_values OwnerHeavy TypeHeavy l) in
    let all = layer_heavy l in
    omega arith

owner_layer_heavy : (l : layer.Owner-F (OwnerWith OwnerHeavy TypeHeavy) (TypeWith OwnerHeavy TypeHeavy))
    → 32 * owner_nodes_step (map-Owner Owner SigType ℕ ℕ owner_nodes nodes (owner_values OwnerHeavy TypeHeavy l)) ≤ weight.owner_step (map-Owner Owner SigType ℕ ℕ owner_weight type_weight (owner_values OwnerHeavy TypeHeavy l))
owner_layer_heavy (layer.Name n) = omega arith
owner_layer_heavy (layer.Spec t) = t.1

owner_is_heavy : (l : layer.Owner-F (OwnerWith OwnerHeavy TypeHeavy) (TypeWith OwnerHeavy TypeHeavy)) → OwnerHeavy (roll-Owner (owner_values OwnerHeavy TypeHeavy l))
owner_is_heavy l =
    let many = fold-roll-Owner ℕ ℕ owner_nodes_step nodes_step (owner_values OwnerHeavy TypeHeavy l) in
    let weighs = fold-roll-Owner ℕ ℕ weight.owner_step weight.type_step (owner_values OwnerHeavy TypeHeavy l) in
    let all = owner_layer_heavy l in
    omega arith

type_heavy : (t : SigType) → TypeHeavy t
type_heavy t = by_layers OwnerHeavy TypeHeavy owner_is_heavy type_is_heavy t

-- ---- ranks

module _ (a : Assembly) where
  abbrev rank : SigType → ℕ
  rank t = fold-SigType ℕ ℕ owner_rank type_rank t

  abbrev rank_of_owner : Owner → ℕ
  rank_of_owner o = fold-Owner ℕ ℕ owner_rank type_rank o

  abbrev TypeRanked : SigType → Type 0
  TypeRanked t = IsTrue (is_made_well a t) → rank t ≤ 32

  abbrev OwnerRanked : Owner → Type 0
  OwnerRanked o = IsTrue (is_owner_made_well a o) → rank_of_owner o ≤ 32

  abbrev ranked_types : List (TypeWith OwnerRanked TypeRanked) → List SigType
  ranked_types args = map (λ (x : TypeWith OwnerRanked TypeRanked). x.0) args

  args_ranked : (args : List (TypeWith OwnerRanked TypeRanked)) → IsTrue (list_all (λ ok. ok) (map (is_made_well a) (ranked_types args))) → largest (map rank (ranked_types args)) ≤ 32
  args_ranked [] h = omega arith
  args_ranked (x ∷ args) h =
      let both = and_parts (is_made_well a x.0) (list_all (λ ok. ok) (map (is_made_well a) (ranked_types args))) h in
      let one = x.1 both.0 in
      let rest = args_ranked args both.1 in
      omega arith

  layer_ranked : (l : layer.SigType-F (OwnerWith OwnerRanked TypeRanked) (TypeWith OwnerRanked TypeRanked))
      → IsTrue (formed.type_step a (map-SigType Owner SigType Bool Bool (is_owner_made_well a) (is_made_well a) (type_values OwnerRanked TypeRanked l)))
      → type_rank (map-SigType Owner SigType ℕ ℕ rank_of_owner rank (type_values OwnerRanked TypeRanked l)) ≤ 32
  layer_ranked (layer.Prim p) h = omega arith
  layer_ranked (layer.Class n) h = omega arith
  layer_ranked (layer.Value n) h = omega arith
  layer_ranked (layer.Inst v n args) h =
      args_ranked args (split_three (is_type_name a n) (nat_lt 0 (length (map (is_made_well a) (ranked_types args)))) (list_all (λ ok. ok) (map (is_made_well a) (ranked_types args))) h).2
  layer_ranked (layer.Var n) h = omega arith
  layer_ranked (layer.MVar n) h = omega arith
  layer_ranked (layer.SzArray t) h = t.1 h
  layer_ranked (layer.Array t k s b) h =
      let both = and_parts (is_shape k s b) (is_made_well a t.0) h in
      let parts = split_six (nat_le 1 k) (nat_le k 32) (nat_le (length s) k) (nat_le (length b) k) (list_all is_size s) (list_all is_lower_bound b) both.0 in
      let most = leb-true k 32 parts.1 in
      let one = t.1 both.1 in
      omega arith
  layer_ranked (layer.ByRef t) h = t.1 h
  layer_ranked (layer.Pointer t) h = t.1 h
  layer_ranked (layer.Mod q o t) h =
      let both = and_parts (is_owner_made_well a o.0) (is_made_well a t.0) h in
      let by = o.1 both.0 in
      let one = t.1 both.1 in
      omega arith
  layer_ranked (layer.Pinned t) h = t.1 h

  type_is_ranked : (l : layer.SigType-F (OwnerWith OwnerRanked TypeRanked) (TypeWith OwnerRanked TypeRanked)) → TypeRanked (roll-SigType (type_values OwnerRanked TypeRanked l))
  type_is_ranked l h =
      let fine = sym (fold-roll-SigType Bool Bool (formed.owner_step a) (formed.type_step a) (type_values OwnerRanked TypeRanked l)) ∙ h in
      subst (λ (n : ℕ). n ≤ 32) (sym (fold-roll-SigType ℕ ℕ owner_rank type_rank (type_values OwnerRanked TypeRanked l))) (layer_ranked l fine)

  owner_layer_ranked : (l : layer.Owner-F (OwnerWith OwnerRanked TypeRanked) (TypeWith OwnerRanked TypeRanked))
      → IsTrue (formed.owner_step a (map-Owner Owner SigType Bool Bool (is_owner_made_well a) (is_made_well a) (owner_values OwnerRanked TypeRanked l)))
      → owner_rank (map-Owner Owner SigType ℕ ℕ rank_of_owner rank (owner_values OwnerRanked TypeRanked l)) ≤ 32
  owner_layer_ranked (layer.Name n) h = omega arith
  owner_layer_ranked (layer.Spec t) h = t.1 h

  owner_is_ranked : (l : layer.Owner-F (OwnerWith OwnerRanked TypeRanked) (TypeWith OwnerRanked TypeRanked)) → OwnerRanked (roll-Owner (owner_values OwnerRanked TypeRanked l))
  owner_is_ranked l h =
      let fine = sym (fold-roll-Owner Bool Bool (formed.owner_step a) (formed.type_step a) (owner_values OwnerRanked TypeRanked l)) ∙ h in
      subst (λ (n : ℕ). n ≤ 32) (sym (fold-roll-Owner ℕ ℕ owner_rank type_rank (owner_values OwnerRanked TypeRanked l))) (owner_layer_ranked l fine)

  type_ranked : (t : SigType) → IsTrue (is_made_well a t) → HasRanks t
  type_ranked t h = by_layers OwnerRanked TypeRanked owner_is_ranked type_is_ranked t h

  -- ---- types

  pub in_bounds : (t : SigType) → IsTrue (is_made_well a t) → type_weight t ≤ 2 ^ 26 → depth t ≤ 100 → IsTypeInBounds t
  in_bounds t h k d = record { low = d; small = (let heavy = type_heavy t in omega arith); ranks = type_ranked t h }

  pub type_bounds : (t : SigType) → IsTrue (is_type a t) → type_weight t ≤ 2 ^ 26 → IsTypeInBounds t
  unfolding is_type
  type_bounds t h k =
      let both = and_parts (nat_le (depth t) 100) (is_made_well a t) h in
      in_bounds t both.1 k (leb-true (depth t) 100 both.0)

  each_low : (ts : List SigType) → IsTrue (list_all (is_type a) ts) → largest (map depth ts) ≤ 100
  unfolding is_type
  each_low [] h = omega arith
  each_low (t ∷ ts) h =
      let both = and_parts (is_type a t) (list_all (is_type a) ts) h in
      let own = and_parts (nat_le (depth t) 100) (is_made_well a t) both.0 in
      let one = leb-true (depth t) 100 own.0 in
      let rest = each_low ts both.1 in
      omega arith

  each_heavy : (ts : List SigType) → 32 * list_nodes ts ≤ sum_by type_weight ts
  each_heavy [] = omega arith
  each_heavy (t ∷ ts) =
      let one = type_heavy t in
      let rest = each_heavy ts in
      let all = sum_by-cons type_weight t ts in
      omega arith

  each_ranked : (ts : List SigType) → IsTrue (list_all (is_type a) ts) → AllByRecursion HasRanks ts
  unfolding is_type
  each_ranked ts h =
      each_from (λ t. IsTrue (is_type a t)) HasRanks (λ t k. type_ranked t (and_parts (nat_le (depth t) 100) (is_made_well a t) k).1) ts (each_true (is_type a) ts h)

  pub types_bounds : (ts : List SigType) → IsTrue (list_all (is_type a) ts) → sum_by type_weight ts ≤ 2 ^ 26 → length ts ≤ 65535 → AreTypesInBounds ts
  types_bounds ts h k few = record {
    low = each_low ts h;
    small = (let heavy = each_heavy ts in omega arith);
    ranks = All-from_recursion HasRanks ts (each_ranked ts h);
    few = few;
  }

  -- ---- signatures

  pub signature_bounds : (s : MethodSig) → IsTrue (is_signature a s) → signature_weight s ≤ 2 ^ 26 → IsMethodInBounds s
  unfolding signature_weight
  signature_bounds s h k =
      let f = (signatures_named a s).0 h in
      let ret = type_bounds s.ret f.ret (omega arith) in
      let low = ret.low in
      let params = each_low s.params f.params in
      let one = type_heavy s.ret in
      let each = each_heavy s.params in
      record {
        low = omega arith;
        small = omega arith;
        bounds = record {
          generic = leb-true s.generic 65535 f.generic;
          params = leb-true (length s.params) 65535 f.count;
          ret = ret.ranks;
          ranks = All-from_recursion HasRanks s.params (each_ranked s.params f.params);
        };
      }

  pub arguments_bounds : (generic : ℕ) (args : Option (List SigType)) → generic ≤ 65535 → IsTrue (are_arguments generic args) → IsTrue (option_all (list_all (is_type a)) args)
      → optional (λ ts. sum_by type_weight ts) args ≤ 2 ^ 26 → AreArgumentsInBounds generic args
  arguments_bounds generic None few h each k = tt
  arguments_bounds generic (Some ts) few h each k =
      let both = and_parts (nat_lt 0 (length ts)) (length ts == generic) h in
      let same = eqb-true (length ts) generic both.1 in
      (types_bounds ts each k (omega arith), same)
