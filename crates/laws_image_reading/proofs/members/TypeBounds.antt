-- Types that meet their conditions are in a reader's bounds: their depth and their arrays by these, their nodes by the weight.
use Rattle.std.proofs.Common.{◌≡◌, sym, ◌∙◌, subst, ℕ, ◌*◌, ◌≤◌, ◌&&◌, Bool, nat_le, nat_lt, List, [], ◌∷◌, map, length, refl, arith}
use Rattle.std.specs.Prelude.{IsTrue, sum_by}
use Rattle.std.specs.List.{list_all}
use Rattle.std.proofs.lemmas.Bool.{and_parts, leb-true}
use Rattle.std.proofs.lemmas.List.Sums.{sum-map, sum_by-cons}
use Rattle.assembly_tree.specs.Weight as weight
use Rattle.assembly_tree.specs.Weight.{type_weight, owner_weight, signature_weight}
use Rattle.assembly_tree.specs.WellFormedNames.{is_type_name}
use Rattle.assembly_tree.specs.WellFormedTerms as formed
use Rattle.assembly_tree.specs.WellFormedTerms.{is_shape, is_size, is_lower_bound, is_made_well, is_owner_made_well, is_type, is_signature}
use Rattle.assembly_tree.specs.declared.assembly.Assembly.{Assembly}
use Rattle.type_terms.specs.Depth.{depth, largest}
use Rattle.type_terms.specs.Nodes.{nodes, owner_nodes, list_nodes, total, nodes_step, owner_nodes_step}
use Rattle.type_terms.specs.declared.term.Owner.{Owner, fold-Owner, fold-roll-Owner, map-Owner, roll-Owner}
use Rattle.type_terms.specs.declared.term.Owner.TheOpen as layer
use Rattle.type_terms.specs.declared.term.SigType.{SigType, fold-SigType, fold-roll-SigType, map-SigType, roll-SigType}
use Rattle.type_terms.proofs.Layers.{OwnerWith, TypeWith, owner_values, type_values, by_layers}
use Rattle.sig_codec.specs.Spelling.{Layer}
use Rattle.image_model.specs.Terms.{HasRanks, owner_rank, type_rank}

-- ---- the ranks of arrays

abbrev rank_of : SigType → ℕ
rank_of t = fold-SigType ℕ ℕ owner_rank type_rank t

abbrev rank_of_owner : Owner → ℕ
rank_of_owner o = fold-Owner ℕ ℕ owner_rank type_rank o

module _ (a : Assembly) where
  abbrev TypeRanks : SigType → Type 0
  TypeRanks t = IsTrue (is_made_well a t) → rank_of t ≤ 32

  abbrev OwnerRanks : Owner → Type 0
  OwnerRanks o = IsTrue (is_owner_made_well a o) → rank_of_owner o ≤ 32

  abbrev TypeIn : Type 0
  TypeIn = TypeWith OwnerRanks TypeRanks

  abbrev OwnerIn : Type 0
  OwnerIn = OwnerWith OwnerRanks TypeRanks

  abbrev ranked : layer.SigType-F OwnerIn TypeIn → Layer
  ranked l = type_values OwnerRanks TypeRanks l

  abbrev ranked_owner : layer.Owner-F OwnerIn TypeIn → layer.Owner-F Owner SigType
  ranked_owner l = owner_values OwnerRanks TypeRanks l

  abbrev layer_formed : Layer → Bool
  layer_formed l = formed.type_step a (map-SigType Owner SigType Bool Bool (is_owner_made_well a) (is_made_well a) l)

  abbrev layer_rank : Layer → ℕ
  layer_rank l = type_rank (map-SigType Owner SigType ℕ ℕ rank_of_owner rank_of l)

  abbrev types : List TypeIn → List SigType
  types args = map (λ (x : TypeIn). x.0) args

  args_ranked : (args : List TypeIn) → IsTrue (list_all (λ ok. ok) (map (is_made_well a) (types args))) → largest (map rank_of (types args)) ≤ 32
  args_ranked [] h = omega arith
  args_ranked (x ∷ args) h =
      let both = and_parts (is_made_well a x.0) (list_all (λ ok. ok) (map (is_made_well a) (types args))) h in
      let own = x.1 both.0 in
      let rest = args_ranked args both.1 in
      omega arith

  -- the rank in the shape of an array
  shape_rank : (rank : ℕ) (one most few below sized bounded : Bool) → IsTrue (one && most && few && below && sized && bounded) → most ≡ nat_le rank 32 → rank ≤ 32
  shape_rank rank one most few below sized bounded h e =
      let five = and_parts (one && most && few && below && sized) bounded h in
      let four = and_parts (one && most && few && below) sized five.0 in
      let three = and_parts (one && most && few) below four.0 in
      let two = and_parts (one && most) few three.0 in
      leb-true rank 32 (sym e ∙ (and_parts one most two.0).1)

  layer_ranked : (l : layer.SigType-F OwnerIn TypeIn) → IsTrue (layer_formed (ranked l)) → layer_rank (ranked l) ≤ 32
  layer_ranked (layer.Prim p) h = omega arith
  layer_ranked (layer.Class name) h = omega arith
  layer_ranked (layer.Value name) h = omega arith
  layer_ranked (layer.Inst v name args) h =
      args_ranked args (and_parts (is_type_name a name && nat_lt 0 (length (map (is_made_well a) (types args)))) (list_all (λ ok. ok) (map (is_made_well a) (types args))) h).1
  layer_ranked (layer.Var n) h = omega arith
  layer_ranked (layer.MVar n) h = omega arith
  layer_ranked (layer.SzArray t) h = t.1 h
  layer_ranked (layer.Array t rank sizes lower) h =
      let both = and_parts (is_shape rank sizes lower) (is_made_well a t.0) h in
      let own = t.1 both.1 in
      let few = shape_rank rank (nat_le 1 rank) (nat_le rank 32) (nat_le (length sizes) rank) (nat_le (length lower) rank) (list_all is_size sizes) (list_all is_lower_bound lower) both.0 refl in
      omega arith
  layer_ranked (layer.ByRef t) h = t.1 h
  layer_ranked (layer.Pointer t) h = t.1 h
  layer_ranked (layer.Mod q o t) h =
      let both = and_parts (is_owner_made_well a o.0) (is_made_well a t.0) h in
      let by = o.1 both.0 in
      let of = t.1 both.1 in
      omega arith
  layer_ranked (layer.Pinned t) h = t.1 h

  type_ranked : (l : layer.SigType-F OwnerIn TypeIn) → TypeRanks (roll-SigType (ranked l))
  type_ranked l h =
      subst (λ (n : ℕ). n ≤ 32) (sym (fold-roll-SigType ℕ ℕ owner_rank type_rank (ranked l)))
      (layer_ranked l (sym (fold-roll-SigType Bool Bool (formed.owner_step a) (formed.type_step a) (ranked l)) ∙ h))

  owner_layer_ranked : (l : layer.Owner-F OwnerIn TypeIn) → IsTrue (formed.owner_step a (map-Owner Owner SigType Bool Bool (is_owner_made_well a) (is_made_well a) (ranked_owner l)))
      → owner_rank (map-Owner Owner SigType ℕ ℕ rank_of_owner rank_of (ranked_owner l)) ≤ 32
  owner_layer_ranked (layer.Name n) h = omega arith
  owner_layer_ranked (layer.Spec t) h = t.1 h

  owner_ranked : (l : layer.Owner-F OwnerIn TypeIn) → OwnerRanks (roll-Owner (ranked_owner l))
  owner_ranked l h =
      subst (λ (n : ℕ). n ≤ 32) (sym (fold-roll-Owner ℕ ℕ owner_rank type_rank (ranked_owner l)))
      (owner_layer_ranked l (sym (fold-roll-Owner Bool Bool (formed.owner_step a) (formed.type_step a) (ranked_owner l)) ∙ h))

  pub formed_ranks : (t : SigType) → IsTrue (is_type a t) → HasRanks t
  unfolding is_type
  formed_ranks t h = by_layers OwnerRanks TypeRanks owner_ranked type_ranked t (and_parts (nat_le (depth t) 100) (is_made_well a t) h).1

  pub formed_depth : (t : SigType) → IsTrue (is_type a t) → depth t ≤ 100
  unfolding is_type
  formed_depth t h = leb-true (depth t) 100 (and_parts (nat_le (depth t) 100) (is_made_well a t) h).0

  pub formed_depths : (ts : List SigType) → IsTrue (list_all (is_type a) ts) → largest (map depth ts) ≤ 100
  formed_depths [] h = omega arith
  formed_depths (t ∷ ts) h =
      let both = and_parts (is_type a t) (list_all (is_type a) ts) h in
      let own = formed_depth t both.0 in
      let rest = formed_depths ts both.1 in
      omega arith

-- ---- nodes, of which each weighs 32

abbrev LightType : SigType → Type 0
LightType t = 32 * nodes t ≤ type_weight t

abbrev LightOwner : Owner → Type 0
LightOwner o = 32 * owner_nodes o ≤ owner_weight o

abbrev LightTypeIn : Type 0
LightTypeIn = TypeWith LightOwner LightType

abbrev LightOwnerIn : Type 0
LightOwnerIn = OwnerWith LightOwner LightType

abbrev light : layer.SigType-F LightOwnerIn LightTypeIn → Layer
light l = type_values LightOwner LightType l

abbrev light_owner : layer.Owner-F LightOwnerIn LightTypeIn → layer.Owner-F Owner SigType
light_owner l = owner_values LightOwner LightType l

abbrev light_types : List LightTypeIn → List SigType
light_types args = map (λ (x : LightTypeIn). x.0) args

args_light : (args : List LightTypeIn) → 32 * total (map nodes (light_types args)) ≤ sum_by type_weight (light_types args)
args_light [] = omega arith
args_light (x ∷ args) =
    let own = x.1 in
    let rest = args_light args in
    let all = sum_by-cons type_weight x.0 (light_types args) in
    omega arith

layer_light : (l : layer.SigType-F LightOwnerIn LightTypeIn)
    → 32 * nodes_step (map-SigType Owner SigType ℕ ℕ owner_nodes nodes (light l)) ≤ weight.type_step (map-SigType Owner SigType ℕ ℕ owner_weight type_weight (light l))
layer_light (layer.Prim p) = omega arith
layer_light (layer.Class name) = omega arith
layer_light (layer.Value name) = omega arith
layer_light (layer.Inst v name args) =
    let all = args_light args in
    let same = sum-map type_weight (light_types args) in
    omega arith
layer_light (layer.Var n) = omega arith
layer_light (layer.MVar n) = omega arith
layer_light (layer.SzArray t) = let own = t.1 in omega arith
layer_light (layer.Array t rank sizes lower) = let own = t.1 in omega arith
layer_light (layer.ByRef t) = let own = t.1 in omega arith
layer_light (layer.Pointer t) = let own = t.1 in omega arith
layer_light (layer.Mod q o t) = let by = o.1 in let own = t.1 in omega arith
layer_light (layer.Pinned t) = let own = t.1 in omega arith

owner_layer_light : (l : layer.Owner-F LightOwnerIn LightTypeIn)
    → 32 * owner_nodes_step (map-Owner Owner SigType ℕ ℕ owner_nodes nodes (light_owner l)) ≤ weight.owner_step (map-Owner Owner SigType ℕ ℕ owner_weight type_weight (light_owner l))
owner_layer_light (layer.Name n) = omega arith
owner_layer_light (layer.Spec t) = t.1

type_is_light : (l : layer.SigType-F LightOwnerIn LightTypeIn) → LightType (roll-SigType (light l))
type_is_light l =
    let few = fold-roll-SigType ℕ ℕ owner_nodes_step nodes_step (light l) in
    let much = fold-roll-SigType ℕ ℕ weight.owner_step weight.type_step (light l) in
    let own = layer_light l in
    omega arith

owner_is_light : (l : layer.Owner-F LightOwnerIn LightTypeIn) → LightOwner (roll-Owner (light_owner l))
owner_is_light l =
    let few = fold-roll-Owner ℕ ℕ owner_nodes_step nodes_step (light_owner l) in
    let much = fold-roll-Owner ℕ ℕ weight.owner_step weight.type_step (light_owner l) in
    let own = owner_layer_light l in
    omega arith

pub nodes_weigh : (t : SigType) → 32 * nodes t ≤ type_weight t
nodes_weigh t = by_layers LightOwner LightType owner_is_light type_is_light t

pub list_weighs : (ts : List SigType) → 32 * list_nodes ts ≤ sum_by type_weight ts
list_weighs [] = omega arith
list_weighs (t ∷ ts) =
    let own = nodes_weigh t in
    let rest = list_weighs ts in
    let all = sum_by-cons type_weight t ts in
    omega arith
