-- The depth, the nodes, the rank and the weight among the facts are those of the term.
use Rattle.std.proofs.Common.{◌≡◌, ℕ, ◌+◌, ◌*◌, ◌-◌, ◌^◌, min, max, Bool, ℤ, List, [], ◌∷◌, length, map, refl, sym, ap, ◌∙◌, arith}
use Rattle.std.proofs.lemmas.List.Sums.{sum_by-cons}
use Rattle.std.specs.Prelude.{sum}
use Rattle.type_terms.specs.Hashing.{mix, mix_bound}
use Rattle.type_terms.specs.Order.{prim_place}
use Rattle.type_terms.specs.Depth.{depth, owner_depth, sig_depth, depth_step, owner_depth_step, largest}
use Rattle.type_terms.specs.Nodes.{nodes, owner_nodes, list_nodes, sig_nodes, nodes_step, owner_nodes_step, total}
use Rattle.type_terms.specs.declared.name.TypeName.{TypeName}
use Rattle.type_terms.specs.declared.reference.MethodSig.{MethodSig}
use Rattle.type_terms.specs.declared.term.Owner.{Owner, fold-Owner, fold-roll-Owner, map-Owner, roll-Owner}
use Rattle.type_terms.specs.declared.term.SigType.{SigType, fold-SigType, fold-roll-SigType, map-SigType, roll-SigType}
use Rattle.type_terms.specs.declared.term.Owner.TheOpen as layer
use Rattle.assembly_tree.specs.Weight.{name_weight, type_weight}
use Rattle.type_terms.proofs.Layers.{OwnerWith, TypeWith, owner_values, type_values, by_layers, owner_by_layers}
use Rattle.signature_facts.specs.declared.facts.Facts.{Facts}
use Rattle.signature_facts.specs.declared.facts.OwnerFacts.{OwnerFacts}
use Rattle.signature_facts.specs.Facts.{Naming, capped, leaf, joined, node, ranked, listed, all_joined, all_mixed, list_facts, shape_facts, name_facts, inst_tag, mod_tag, owner_step, type_step, type_facts, owner_facts, method_facts, types_facts}
use Rattle.signature_facts.specs.Sizes.{Sized, types_rank, types_weight_by, sig_rank, sig_weight_by, owner_rank_step, rank_step, type_rank, owner_rank, owner_weight_step, weight_step, weight_by, owner_weight_by}

resized : (f g : Facts) (d n r w e m s v : ℕ) → g ≡ f → e ≡ d → m ≡ n → s ≡ r → v ≡ w → Sized f d n r w → Sized g e m s v
resized f g d n r w e m s v p a b c x h = rw (p, a, b, c, x) h

leaf_sized : (hash : ℕ) → Sized (leaf hash) 0 0 0 0
unfolding leaf
leaf_sized hash = record { depth = refl; nodes = refl; rank_is = refl; weighs = refl }

joined_sized : (f g : Facts) (d n r w e m s v : ℕ) → Sized f d n r w → Sized g e m s v → Sized (joined f g) (max d e) (n + m) (max r s) (w + v)
unfolding joined
joined_sized f g d n r w e m s v h k = record {
  depth = (let a = h.depth in let b = k.depth in omega arith);
  nodes = (let a = h.nodes in let b = k.nodes in omega arith);
  rank_is = (let a = h.rank_is in let b = k.rank_is in omega arith);
  weighs = (let a = h.weighs in let b = k.weighs in omega arith);
}

node_sized : (f : Facts) (d n r w : ℕ) → Sized f d n r w → Sized (node f) (d + 1) (n + 1) r (w + 32)
unfolding node
node_sized f d n r w h = record {
  depth = (let a = h.depth in omega arith);
  nodes = (let a = h.nodes in omega arith);
  rank_is = h.rank_is;
  weighs = (let a = h.weighs in omega arith);
}

ranked_sized : (rank : ℕ) (f : Facts) (d n r w : ℕ) → Sized f d n r w → Sized (ranked rank f) d n (max r rank) w
unfolding ranked
ranked_sized rank f d n r w h = record { depth = h.depth; nodes = h.nodes; rank_is = (let a = h.rank_is in omega arith); weighs = h.weighs }

listed_sized : (count hash : ℕ) → Sized (listed count hash) 0 0 0 (8 * count)
unfolding listed
listed_sized count hash = record { depth = refl; nodes = refl; rank_is = refl; weighs = refl }

shape_sized : (rank : ℕ) (sizes : List ℕ) (lower : List ℤ) → Sized (shape_facts rank sizes lower) 0 0 rank (8 * length sizes + 8 * length lower)
shape_sized rank sizes lower =
    let a = listed_sized (length sizes) (all_mixed mix 0 sizes) in
    let b = listed_sized (length lower) (all_mixed mix_bound 0 lower) in
    let both = joined_sized (list_facts mix sizes) (list_facts mix_bound lower) 0 0 0 (8 * length sizes) 0 0 0 (8 * length lower) a b in
    let c = ranked_sized rank (joined (list_facts mix sizes) (list_facts mix_bound lower)) 0 0 0 (8 * length sizes + 8 * length lower) both in
    resized (shape_facts rank sizes lower) (shape_facts rank sizes lower) 0 0 (max 0 rank) (8 * length sizes + 8 * length lower) 0 0 rank (8 * length sizes + 8 * length lower)
    refl refl refl (omega arith) refl c

module _ (naming : Naming) where
  name_sized : (name : TypeName) → Sized (name_facts naming name) 0 0 0 (naming.weight name)
  name_sized name = record { depth = refl; nodes = refl; rank_is = refl; weighs = refl }

  -- a type and an owner have their sizes
  abbrev pub TypeSized : SigType → Type 0
  TypeSized t = Sized (type_facts naming t) (depth t) (nodes t) (type_rank t) (weight_by naming.weight t)

  abbrev pub OwnerSized : Owner → Type 0
  OwnerSized o = Sized (owner_facts naming o).facts (owner_depth o) (owner_nodes o) (owner_rank o) (owner_weight_by naming.weight o)

  abbrev Types : Type 0
  Types = List (TypeWith OwnerSized TypeSized)

  abbrev values : Types → List SigType
  values = map (λ x. x.0)

  all_sized : (front : Facts) (d n r w : ℕ) → Sized front d n r w → (args : Types)
      → Sized (all_joined front (map (type_facts naming) (values args))) (max d (largest (map depth (values args)))) (n + total (map nodes (values args)))
      (max r (largest (map type_rank (values args)))) (w + sum (map (weight_by naming.weight) (values args)))
  all_sized front d n r w h [] = resized front front d n r w (max d 0) (n + 0) (max r 0) (w + 0) refl (omega arith) (omega arith) (omega arith) (omega arith) h
  all_sized front d n r w h (a ∷ others) =
      let t = a.0 in
      let ds = map depth (values others) in
      let ns = map nodes (values others) in
      let rs = map type_rank (values others) in
      let ws = map (weight_by naming.weight) (values others) in
      let one = joined_sized front (type_facts naming t) d n r w (depth t) (nodes t) (type_rank t) (weight_by naming.weight t) h a.1 in
      let more = all_sized (joined front (type_facts naming t)) (max d (depth t)) (n + nodes t) (max r (type_rank t)) (w + weight_by naming.weight t) one others in
      let f = all_joined front (map (type_facts naming) (values (a ∷ others))) in
      resized f f (max (max d (depth t)) (largest ds)) ((n + nodes t) + total ns) (max (max r (type_rank t)) (largest rs)) ((w + weight_by naming.weight t) + sum ws)
      (max d (max (depth t) (largest ds))) (n + (nodes t + total ns)) (max r (max (type_rank t) (largest rs))) (w + sum (weight_by naming.weight t ∷ ws))
      refl (omega arith) (omega arith) (omega arith) (omega (arith, sum_by-cons (λ x. x) (weight_by naming.weight t) ws)) more

  -- ---- layers

  abbrev Layer : Type 0
  Layer = layer.SigType-F Owner SigType

  abbrev facts_at : Layer → Facts
  facts_at l = type_step naming (map-SigType Owner SigType OwnerFacts Facts (owner_facts naming) (type_facts naming) l)

  abbrev depth_at : Layer → ℕ
  depth_at l = depth_step (map-SigType Owner SigType ℕ ℕ owner_depth depth l)

  abbrev nodes_at : Layer → ℕ
  nodes_at l = nodes_step (map-SigType Owner SigType ℕ ℕ owner_nodes nodes l)

  abbrev rank_at : Layer → ℕ
  rank_at l = rank_step (map-SigType Owner SigType ℕ ℕ owner_rank type_rank l)

  abbrev weight_at : Layer → ℕ
  weight_at l = weight_step naming.weight (map-SigType Owner SigType ℕ ℕ (owner_weight_by naming.weight) (weight_by naming.weight) l)

  abbrev LayerSized : layer.SigType-F (OwnerWith OwnerSized TypeSized) (TypeWith OwnerSized TypeSized) → Type 0
  LayerSized l = let v = type_values OwnerSized TypeSized l in Sized (facts_at v) (depth_at v) (nodes_at v) (rank_at v) (weight_at v)

  around : (f : Facts) (d n r w e m s v : ℕ) → Sized f d n r w → e ≡ d + 1 → m ≡ n + 1 → s ≡ r → v ≡ w + 32 → Sized (node f) e m s v
  around f d n r w e m s v h a b c x = resized (node f) (node f) (d + 1) (n + 1) r (w + 32) e m s v refl a b c x (node_sized f d n r w h)

  alone_sized : (hash : ℕ) → Sized (node (leaf hash)) 1 1 0 32
  alone_sized hash = node_sized (leaf hash) 0 0 0 0 (leaf_sized hash)

  numbered_sized : (tag n : ℕ) → Sized (node (joined (leaf tag) (leaf n))) 1 1 0 32
  numbered_sized tag n =
      node_sized (joined (leaf tag) (leaf n)) 0 0 0 0 (joined_sized (leaf tag) (leaf n) 0 0 0 0 0 0 0 0 (leaf_sized tag) (leaf_sized n))

  named_sized : (tag : ℕ) (name : TypeName) → Sized (joined (leaf tag) (name_facts naming name)) 0 0 0 (0 + naming.weight name)
  named_sized tag name = joined_sized (leaf tag) (name_facts naming name) 0 0 0 0 0 0 0 (naming.weight name) (leaf_sized tag) (name_sized name)

  class_sized : (tag : ℕ) (name : TypeName) → Sized (node (joined (leaf tag) (name_facts naming name))) 1 1 0 (32 + naming.weight name)
  class_sized tag name =
      around (joined (leaf tag) (name_facts naming name)) 0 0 0 (0 + naming.weight name) 1 1 0 (32 + naming.weight name) (named_sized tag name) refl refl refl (omega arith)

  -- the parts of a node that has one child beside it
  front_sized : (tag : ℕ) (of : TypeWith OwnerSized TypeSized)
      → Sized (joined (leaf tag) (type_facts naming of.0)) (max 0 (depth of.0)) (0 + nodes of.0) (max 0 (type_rank of.0)) (0 + weight_by naming.weight of.0)
  front_sized tag of =
      joined_sized (leaf tag) (type_facts naming of.0) 0 0 0 0 (depth of.0) (nodes of.0) (type_rank of.0) (weight_by naming.weight of.0) (leaf_sized tag) of.1

  boxed_sized : (tag : ℕ) (of : TypeWith OwnerSized TypeSized)
      → Sized (node (joined (leaf tag) (type_facts naming of.0))) (depth of.0 + 1) (nodes of.0 + 1) (type_rank of.0) (32 + weight_by naming.weight of.0)
  boxed_sized tag of =
      around (joined (leaf tag) (type_facts naming of.0)) (max 0 (depth of.0)) (0 + nodes of.0) (max 0 (type_rank of.0)) (0 + weight_by naming.weight of.0)
      (depth of.0 + 1) (nodes of.0 + 1) (type_rank of.0) (32 + weight_by naming.weight of.0) (front_sized tag of) (omega arith) (omega arith) (omega arith) (omega arith)

  layer_sized : (l : layer.SigType-F (OwnerWith OwnerSized TypeSized) (TypeWith OwnerSized TypeSized)) → LayerSized l
  layer_sized (layer.Prim p) = alone_sized (prim_place p)
  layer_sized (layer.Class name) = class_sized 0x12 name
  layer_sized (layer.Value name) = class_sized 0x11 name
  layer_sized (layer.Inst value name args) =
      let ts = values args in
      let front = joined (leaf (inst_tag value)) (name_facts naming name) in
      let w = weight_by naming.weight in
      let each = all_sized front 0 0 0 (0 + naming.weight name) (named_sized (inst_tag value) name) args in
      around (all_joined front (map (type_facts naming) ts)) (max 0 (largest (map depth ts))) (0 + total (map nodes ts)) (max 0 (largest (map type_rank ts))) ((0 + naming.weight name) + sum (map w ts))
      (largest (map depth ts) + 1) (total (map nodes ts) + 1) (largest (map type_rank ts)) ((32 + naming.weight name) + sum (map w ts))
      each (omega arith) (omega arith) (omega arith) (omega arith)
  layer_sized (layer.Var n) = numbered_sized 0x13 n
  layer_sized (layer.MVar n) = numbered_sized 0x1E n
  layer_sized (layer.SzArray of) = boxed_sized 0x1D of
  layer_sized (layer.Array of rank sizes lower) =
      let t = of.0 in
      let numbers = 8 * length sizes + 8 * length lower in
      let front = joined (leaf 0x14) (type_facts naming t) in
      let both = joined_sized front (shape_facts rank sizes lower) (max 0 (depth t)) (0 + nodes t) (max 0 (type_rank t)) (0 + weight_by naming.weight t) 0 0 rank numbers (front_sized 0x14 of) (shape_sized rank sizes lower) in
      around (joined front (shape_facts rank sizes lower)) (max (max 0 (depth t)) 0) ((0 + nodes t) + 0) (max (max 0 (type_rank t)) rank) ((0 + weight_by naming.weight t) + numbers)
      (depth t + 1) (nodes t + 1) (max rank (type_rank t)) (((32 + 8 * length sizes) + 8 * length lower) + weight_by naming.weight t)
      both (omega arith) (omega arith) (omega arith) (omega arith)
  layer_sized (layer.ByRef of) = boxed_sized 0x10 of
  layer_sized (layer.Pointer of) = boxed_sized 0x0F of
  layer_sized (layer.Mod required by of) =
      let t = of.0 in
      let o = by.0 in
      let tag = mod_tag required in
      let ow = owner_weight_by naming.weight o in
      let tw = weight_by naming.weight t in
      let front = joined (leaf tag) (owner_facts naming o).facts in
      let first = joined_sized (leaf tag) (owner_facts naming o).facts 0 0 0 0 (owner_depth o) (owner_nodes o) (owner_rank o) ow (leaf_sized tag) by.1 in
      let both = joined_sized front (type_facts naming t) (max 0 (owner_depth o)) (0 + owner_nodes o) (max 0 (owner_rank o)) (0 + ow) (depth t) (nodes t) (type_rank t) tw first of.1 in
      around (joined front (type_facts naming t)) (max (max 0 (owner_depth o)) (depth t)) ((0 + owner_nodes o) + nodes t) (max (max 0 (owner_rank o)) (type_rank t)) ((0 + ow) + tw)
      (max (owner_depth o) (depth t) + 1) ((owner_nodes o + nodes t) + 1) (max (owner_rank o) (type_rank t)) ((32 + ow) + tw)
      both (omega arith) (omega arith) (omega arith) (omega arith)
  layer_sized (layer.Pinned of) = boxed_sized 0x45 of

  -- ---- terms

  type_rolled : (l : layer.SigType-F (OwnerWith OwnerSized TypeSized) (TypeWith OwnerSized TypeSized)) → TypeSized (roll-SigType (type_values OwnerSized TypeSized l))
  type_rolled l =
      let v = type_values OwnerSized TypeSized l in
      let t = roll-SigType v in
      resized (facts_at v) (type_facts naming t) (depth_at v) (nodes_at v) (rank_at v) (weight_at v) (depth t) (nodes t) (type_rank t) (weight_by naming.weight t)
      (fold-roll-SigType OwnerFacts Facts (owner_step naming) (type_step naming) v)
      (fold-roll-SigType ℕ ℕ owner_depth_step depth_step v)
      (fold-roll-SigType ℕ ℕ owner_nodes_step nodes_step v)
      (fold-roll-SigType ℕ ℕ owner_rank_step rank_step v)
      (fold-roll-SigType ℕ ℕ (owner_weight_step naming.weight) (weight_step naming.weight) v)
      (layer_sized l)

  owner_layer : (l : layer.Owner-F (OwnerWith OwnerSized TypeSized) (TypeWith OwnerSized TypeSized))
      → let v = owner_values OwnerSized TypeSized l in
      Sized (owner_step naming (map-Owner Owner SigType OwnerFacts Facts (owner_facts naming) (type_facts naming) v)).facts
      (owner_depth_step (map-Owner Owner SigType ℕ ℕ owner_depth depth v)) (owner_nodes_step (map-Owner Owner SigType ℕ ℕ owner_nodes nodes v))
      (owner_rank_step (map-Owner Owner SigType ℕ ℕ owner_rank type_rank v))
      (owner_weight_step naming.weight (map-Owner Owner SigType ℕ ℕ (owner_weight_by naming.weight) (weight_by naming.weight) v))
  owner_layer (layer.Name name) = name_sized name
  owner_layer (layer.Spec of) = of.1

  owner_rolled : (l : layer.Owner-F (OwnerWith OwnerSized TypeSized) (TypeWith OwnerSized TypeSized)) → OwnerSized (roll-Owner (owner_values OwnerSized TypeSized l))
  owner_rolled l =
      let v = owner_values OwnerSized TypeSized l in
      let o = roll-Owner v in
      resized (owner_step naming (map-Owner Owner SigType OwnerFacts Facts (owner_facts naming) (type_facts naming) v)).facts (owner_facts naming o).facts
      (owner_depth_step (map-Owner Owner SigType ℕ ℕ owner_depth depth v)) (owner_nodes_step (map-Owner Owner SigType ℕ ℕ owner_nodes nodes v))
      (owner_rank_step (map-Owner Owner SigType ℕ ℕ owner_rank type_rank v))
      (owner_weight_step naming.weight (map-Owner Owner SigType ℕ ℕ (owner_weight_by naming.weight) (weight_by naming.weight) v))
      (owner_depth o) (owner_nodes o) (owner_rank o) (owner_weight_by naming.weight o)
      (ap (λ (f : OwnerFacts). f.facts) (fold-roll-Owner OwnerFacts Facts (owner_step naming) (type_step naming) v))
      (fold-roll-Owner ℕ ℕ owner_depth_step depth_step v)
      (fold-roll-Owner ℕ ℕ owner_nodes_step nodes_step v)
      (fold-roll-Owner ℕ ℕ owner_rank_step rank_step v)
      (fold-roll-Owner ℕ ℕ (owner_weight_step naming.weight) (weight_step naming.weight) v)
      (owner_layer l)

  pub type_sizes : (t : SigType) → TypeSized t
  type_sizes = by_layers OwnerSized TypeSized owner_rolled type_rolled

  pub owner_sizes : (o : Owner) → OwnerSized o
  owner_sizes = owner_by_layers OwnerSized TypeSized owner_rolled type_rolled

  -- ---- of several types

  list_sized : (front : Facts) (d n r w : ℕ) → Sized front d n r w → (ts : List SigType)
      → Sized (all_joined front (map (type_facts naming) ts)) (max d (largest (map depth ts))) (n + list_nodes ts) (max r (types_rank ts)) (w + types_weight_by naming.weight ts)
  list_sized front d n r w h [] = resized front front d n r w (max d 0) (n + 0) (max r 0) (w + 0) refl (omega arith) (omega arith) (omega arith) (omega arith) h
  list_sized front d n r w h (t ∷ ts) =
      let ds = map depth ts in
      let rs = map type_rank ts in
      let ws = map (weight_by naming.weight) ts in
      let one = joined_sized front (type_facts naming t) d n r w (depth t) (nodes t) (type_rank t) (weight_by naming.weight t) h (type_sizes t) in
      let more = list_sized (joined front (type_facts naming t)) (max d (depth t)) (n + nodes t) (max r (type_rank t)) (w + weight_by naming.weight t) one ts in
      let f = all_joined front (map (type_facts naming) (t ∷ ts)) in
      resized f f (max (max d (depth t)) (largest ds)) ((n + nodes t) + list_nodes ts) (max (max r (type_rank t)) (largest rs)) ((w + weight_by naming.weight t) + sum ws)
      (max d (max (depth t) (largest ds))) (n + (nodes t + list_nodes ts)) (max r (max (type_rank t) (largest rs))) (w + sum (weight_by naming.weight t ∷ ws))
      refl (omega arith) (omega arith) (omega arith) (omega (arith, sum_by-cons (λ x. x) (weight_by naming.weight t) ws)) more

  pub types_sizes : (ts : List SigType) → Sized (types_facts naming ts).facts (largest (map depth ts)) (list_nodes ts) (types_rank ts) (types_weight_by naming.weight ts)
  unfolding types_facts
  types_sizes ts =
      let f = all_joined (leaf 0) (map (type_facts naming) ts) in
      resized f f (max 0 (largest (map depth ts))) (0 + list_nodes ts) (max 0 (types_rank ts)) (0 + types_weight_by naming.weight ts)
      (largest (map depth ts)) (list_nodes ts) (types_rank ts) (types_weight_by naming.weight ts)
      refl (omega arith) (omega arith) (omega arith) (omega arith) (list_sized (leaf 0) 0 0 0 0 (leaf_sized 0) ts)

  pub method_sizes : (s : MethodSig) → Sized (method_facts naming s).facts (sig_depth s) (sig_nodes s) (sig_rank s) (sig_weight_by naming.weight s)
  unfolding method_facts
  method_sizes s =
      let t = s.ret in
      let ts = s.params in
      let front = joined (leaf s.generic) (type_facts naming t) in
      let one = joined_sized (leaf s.generic) (type_facts naming t) 0 0 0 0 (depth t) (nodes t) (type_rank t) (weight_by naming.weight t) (leaf_sized s.generic) (type_sizes t) in
      let f = all_joined front (map (type_facts naming) ts) in
      resized f f (max (max 0 (depth t)) (largest (map depth ts))) ((0 + nodes t) + list_nodes ts) (max (max 0 (type_rank t)) (types_rank ts)) ((0 + weight_by naming.weight t) + types_weight_by naming.weight ts)
      (sig_depth s) (sig_nodes s) (sig_rank s) (sig_weight_by naming.weight s)
      refl (omega arith) (omega arith) (omega arith) (omega arith)
      (list_sized front (max 0 (depth t)) (0 + nodes t) (max 0 (type_rank t)) (0 + weight_by naming.weight t) one ts)

-- what names weigh in an assembly
pub weighs_so : (weigh : TypeName → ℕ) → ((n : TypeName) → weigh n ≡ name_weight n) → (t : SigType) → weight_by weigh t ≡ type_weight t
weighs_so weigh is t = ap (λ (w : TypeName → ℕ). weight_by w t) (λ i n. is n i)
