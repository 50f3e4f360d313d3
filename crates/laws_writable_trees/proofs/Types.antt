-- The types of a well-formed assembly can be written, where its names can.
use Rattle.std.proofs.Common.{sym, ◌∙◌, subst, ℕ, ℤ, ◌^◌, ◌≤◌, Bool, T, nat_lt, nat_le, List, [], ◌∷◌, map, length, arith}
use Rattle.std.specs.Prelude.{IsTrue, sum_by, int_le, pos, negsuc}
use Rattle.std.specs.List.{AllByRecursion, list_all}
use Rattle.std.proofs.lemmas.Bool.{and_parts, ltb-true, leb-true}
use Rattle.std.proofs.lemmas.List.{length-map}
use Rattle.std.proofs.lemmas.List.Sums.{sum-map, sum_by-cons}
use Rattle.assembly_tree.specs.Weight as weight
use Rattle.assembly_tree.specs.Weight.{type_weight, owner_weight, name_weight}
use Rattle.assembly_tree.specs.WellFormedNames.{is_type_name}
use Rattle.assembly_tree.specs.WellFormedTerms as formed
use Rattle.assembly_tree.specs.WellFormedTerms.{is_size, is_lower_bound, is_shape, is_variable, is_made_well, is_owner_made_well, is_type, is_owner}
use Rattle.assembly_tree.specs.declared.assembly.Assembly.{Assembly}
use Rattle.sig_codec.specs.Spellable.{CanBePacked, CanBePackedSigned, IsShape}
use Rattle.sig_codec.specs.Spelling.{Layer}
use Rattle.type_terms.specs.Depth.{depth, owner_depth, depth_step, owner_depth_step, largest}
use Rattle.type_terms.specs.declared.name.TypeName.{TypeName}
use Rattle.type_terms.specs.declared.term.Owner.{Owner, fold-roll-Owner, map-Owner, roll-Owner, out-roll-Owner}
use Rattle.type_terms.specs.declared.term.Owner.TheOpen as layer
use Rattle.type_terms.specs.declared.term.SigType.{SigType, fold_out-SigType, fold-roll-SigType, map-SigType, out-SigType, roll-SigType, out-roll-SigType}
use Rattle.type_terms.proofs.Layers.{OwnerWith, TypeWith, owner_values, type_values, by_layers, owner_by_layers}
use Rattle.image_tokens.specs.Writable.{CanBeNamed, IsWritable, IsLayerWritable, IsOwnerWritable, IsOwnerLayerWritable, AreWritable}
use Rattle.image_tokens.specs.Writable as w
use Rattle.image_tokens.specs.declared.references.References.{References}
use Rattle.laws_writable_trees.proofs.Bounds.{in_bounds}
use Rattle.laws_writable_trees.proofs.Each.{split_three, split_six, each_from, each_true, each_weighs}

-- ---- shapes

sizes_packed : (sizes : List ℕ) → IsTrue (list_all is_size sizes) → AllByRecursion CanBePacked sizes
sizes_packed sizes h = each_from (λ n. IsTrue (is_size n)) CanBePacked (λ n t. let lt = ltb-true n 0x20000000 t in omega arith) sizes (each_true is_size sizes h)

bound_packed : (n : ℤ) → IsTrue (is_lower_bound n) → CanBePackedSigned n
bound_packed n h = let both = and_parts (int_le (negsuc 0xFFFFFFF) n) (int_le n (pos 0xFFFFFFF)) h in (record { le = subst T (sym both.0) tt }, record { le = subst T (sym both.1) tt })

bounds_packed : (lower : List ℤ) → IsTrue (list_all is_lower_bound lower) → AllByRecursion CanBePackedSigned lower
bounds_packed lower h = each_from (λ n. IsTrue (is_lower_bound n)) CanBePackedSigned bound_packed lower (each_true is_lower_bound lower h)

shape_is : (rank : ℕ) (sizes : List ℕ) (lower : List ℤ) → IsTrue (is_shape rank sizes lower) → IsShape rank sizes lower
shape_is rank sizes lower h =
    let parts = split_six (nat_le 1 rank) (nat_le rank 32) (nat_le (length sizes) rank) (nat_le (length lower) rank) (list_all is_size sizes) (list_all is_lower_bound lower) h in
    let some = leb-true 1 rank parts.0 in
    let most = leb-true rank 32 parts.1 in
    record {
      some = omega arith;
      few = omega arith;
      few_sizes = leb-true (length sizes) rank parts.2;
      each_size = sizes_packed sizes parts.4;
      few_bounds = leb-true (length lower) rank parts.3;
      each_bound = bounds_packed lower parts.5;
    }

-- ---- types

module _ (a : Assembly) (r : References) (names : (name : TypeName) → IsTrue (is_type_name a name) → CanBeNamed r name) where
  abbrev TypeCan : SigType → Type 0
  TypeCan t = IsTrue (is_made_well a t) → type_weight t ≤ 2 ^ 26 → depth t ≤ 100 → IsWritable r t

  abbrev OwnerCan : Owner → Type 0
  OwnerCan o = IsTrue (is_owner_made_well a o) → owner_weight o ≤ 2 ^ 26 → owner_depth o ≤ 100 → IsOwnerWritable r o

  abbrev type_layer : layer.SigType-F (OwnerWith OwnerCan TypeCan) (TypeWith OwnerCan TypeCan) → Layer
  type_layer l = type_values OwnerCan TypeCan l

  abbrev owner_layer : layer.Owner-F (OwnerWith OwnerCan TypeCan) (TypeWith OwnerCan TypeCan) → layer.Owner-F Owner SigType
  owner_layer l = owner_values OwnerCan TypeCan l

  -- the conditions of a layer, its weight and its depth
  abbrev layer_formed : Layer → Bool
  layer_formed l = formed.type_step a (map-SigType Owner SigType Bool Bool (is_owner_made_well a) (is_made_well a) l)

  abbrev layer_weight : Layer → ℕ
  layer_weight l = weight.type_step (map-SigType Owner SigType ℕ ℕ owner_weight type_weight l)

  abbrev layer_depth : Layer → ℕ
  layer_depth l = depth_step (map-SigType Owner SigType ℕ ℕ owner_depth depth l)

  abbrev arguments : List (TypeWith OwnerCan TypeCan) → List SigType
  arguments args = map (λ (x : TypeWith OwnerCan TypeCan). x.0) args

  -- arguments that can be written, with what they weigh
  args_can : (args : List (TypeWith OwnerCan TypeCan)) → IsTrue (list_all (λ ok. ok) (map (is_made_well a) (arguments args))) → sum_by type_weight (arguments args) ≤ 2 ^ 26
      → largest (map depth (arguments args)) ≤ 100 → AreWritable r (arguments args)
  args_can [] h k d = w.none
  args_can (x ∷ args) h k d =
      let both = and_parts (is_made_well a x.0) (list_all (λ ok. ok) (map (is_made_well a) (arguments args))) h in
      let all = sum_by-cons type_weight x.0 (arguments args) in
      w.more (x.1 both.0 (omega arith) (omega arith)) (args_can args both.1 (omega arith) (omega arith))

  layer_heavy : (l : Layer) → 1 ≤ layer_weight l
  layer_heavy (layer.Prim p) = omega arith
  layer_heavy (layer.Class n) = omega arith
  layer_heavy (layer.Value n) = omega arith
  layer_heavy (layer.Inst v n args) = omega arith
  layer_heavy (layer.Var n) = omega arith
  layer_heavy (layer.MVar n) = omega arith
  layer_heavy (layer.SzArray t) = omega arith
  layer_heavy (layer.Array t k s b) = omega arith
  layer_heavy (layer.ByRef t) = omega arith
  layer_heavy (layer.Pointer t) = omega arith
  layer_heavy (layer.Mod q o t) = omega arith
  layer_heavy (layer.Pinned t) = omega arith

  type_heavy : (t : SigType) → 1 ≤ type_weight t
  type_heavy t = let e = fold_out-SigType ℕ ℕ weight.owner_step weight.type_step t in let h = layer_heavy (out-SigType t) in omega arith

  layer_can : (l : layer.SigType-F (OwnerWith OwnerCan TypeCan) (TypeWith OwnerCan TypeCan)) → IsTrue (layer_formed (type_layer l)) → layer_weight (type_layer l) ≤ 2 ^ 26
      → layer_depth (type_layer l) ≤ 100 → IsLayerWritable r (type_layer l)
  layer_can (layer.Prim p) h k d = w.prim
  layer_can (layer.Class name) h k d = w.class (names name h)
  layer_can (layer.Value name) h k d = w.value (names name h)
  layer_can (layer.Inst v name args) h k d =
      let parts = split_three (is_type_name a name) (nat_lt 0 (length (map (is_made_well a) (arguments args)))) (list_all (λ ok. ok) (map (is_made_well a) (arguments args))) h in
      let long = length-map (arguments args) (is_made_well a) in
      let some = ltb-true 0 (length (map (is_made_well a) (arguments args))) parts.1 in
      let few = each_weighs type_weight 1 type_heavy (arguments args) in
      let sum_is = sum-map type_weight (arguments args) in
      w.inst (names name parts.0) (omega arith) (omega arith) (args_can args parts.2 (omega arith) (omega arith))
  layer_can (layer.Var n) h k d = w.var (let lt = ltb-true n 65536 h in omega arith)
  layer_can (layer.MVar n) h k d = w.mvar (let lt = ltb-true n 65536 h in omega arith)
  layer_can (layer.SzArray t) h k d = w.sz_array (t.1 h (omega arith) (omega arith))
  layer_can (layer.Array t rank sizes lower) h k d =
      let both = and_parts (is_shape rank sizes lower) (is_made_well a t.0) h in
      w.array (t.1 both.1 (omega arith) (omega arith)) (shape_is rank sizes lower both.0)
  layer_can (layer.ByRef t) h k d = w.by_ref (t.1 h (omega arith) (omega arith))
  layer_can (layer.Pointer t) h k d = w.pointer (t.1 h (omega arith) (omega arith))
  layer_can (layer.Mod q o t) h k d =
      let both = and_parts (is_owner_made_well a o.0) (is_made_well a t.0) h in
      w.modified (o.1 both.0 (omega arith) (omega arith)) (t.1 both.1 (omega arith) (omega arith))
  layer_can (layer.Pinned t) h k d = w.pinned (t.1 h (omega arith) (omega arith))

  type_made : (l : layer.SigType-F (OwnerWith OwnerCan TypeCan) (TypeWith OwnerCan TypeCan)) → TypeCan (roll-SigType (type_layer l))
  type_made l h k d =
      let fine = sym (fold-roll-SigType Bool Bool (formed.owner_step a) (formed.type_step a) (type_layer l)) ∙ h in
      let light = subst (λ (n : ℕ). n ≤ 2 ^ 26) (fold-roll-SigType ℕ ℕ weight.owner_step weight.type_step (type_layer l)) k in
      let low = subst (λ (n : ℕ). n ≤ 100) (fold-roll-SigType ℕ ℕ owner_depth_step depth_step (type_layer l)) d in
      w.made (subst (IsLayerWritable r) (sym (out-roll-SigType (type_layer l))) (layer_can l fine light low))

  owner_layer_can : (l : layer.Owner-F (OwnerWith OwnerCan TypeCan) (TypeWith OwnerCan TypeCan)) → IsTrue (formed.owner_step a (map-Owner Owner SigType Bool Bool (is_owner_made_well a) (is_made_well a) (owner_layer l)))
      → weight.owner_step (map-Owner Owner SigType ℕ ℕ owner_weight type_weight (owner_layer l)) ≤ 2 ^ 26
      → owner_depth_step (map-Owner Owner SigType ℕ ℕ owner_depth depth (owner_layer l)) ≤ 100 → IsOwnerLayerWritable r (owner_layer l)
  owner_layer_can (layer.Name n) h k d = w.name (names n h)
  owner_layer_can (layer.Spec t) h k d = w.spec (t.1 h k d) (in_bounds a t.0 h k d)

  owner_made : (l : layer.Owner-F (OwnerWith OwnerCan TypeCan) (TypeWith OwnerCan TypeCan)) → OwnerCan (roll-Owner (owner_layer l))
  owner_made l h k d =
      let fine = sym (fold-roll-Owner Bool Bool (formed.owner_step a) (formed.type_step a) (owner_layer l)) ∙ h in
      let light = subst (λ (n : ℕ). n ≤ 2 ^ 26) (fold-roll-Owner ℕ ℕ weight.owner_step weight.type_step (owner_layer l)) k in
      let low = subst (λ (n : ℕ). n ≤ 100) (fold-roll-Owner ℕ ℕ owner_depth_step depth_step (owner_layer l)) d in
      w.made_owner (subst (IsOwnerLayerWritable r) (sym (out-roll-Owner (owner_layer l))) (owner_layer_can l fine light low))

  pub type_can : (t : SigType) → IsTrue (is_type a t) → type_weight t ≤ 2 ^ 26 → IsWritable r t
  unfolding is_type
  type_can t h k =
      let both = and_parts (nat_le (depth t) 100) (is_made_well a t) h in
      by_layers OwnerCan TypeCan owner_made type_made t both.1 k (leb-true (depth t) 100 both.0)

  pub owner_can : (o : Owner) → IsTrue (is_owner a o) → owner_weight o ≤ 2 ^ 26 → IsOwnerWritable r o
  unfolding is_owner
  owner_can o h k =
      let both = and_parts (nat_le (owner_depth o) 100) (is_owner_made_well a o) h in
      owner_by_layers OwnerCan TypeCan owner_made type_made o both.1 k (leb-true (owner_depth o) 100 both.0)

  pub types_can : (ts : List SigType) → IsTrue (list_all (is_type a) ts) → sum_by type_weight ts ≤ 2 ^ 26 → AreWritable r ts
  types_can [] h k = w.none
  types_can (t ∷ ts) h k =
      let both = and_parts (is_type a t) (list_all (is_type a) ts) h in
      let all = sum_by-cons type_weight t ts in
      w.more (type_can t both.0 (omega arith)) (types_can ts both.1 (omega arith))

  pub owners_can : (os : List Owner) → IsTrue (list_all (is_owner a) os) → sum_by owner_weight os ≤ 2 ^ 26 → AllByRecursion (IsOwnerWritable r) os
  owners_can [] h k = tt
  owners_can (o ∷ os) h k =
      let both = and_parts (is_owner a o) (list_all (is_owner a) os) h in
      let all = sum_by-cons owner_weight o os in
      (owner_can o both.0 (omega arith), owners_can os both.1 (omega arith))
