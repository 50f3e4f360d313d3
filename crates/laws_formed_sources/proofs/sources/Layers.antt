-- The conditions on types and their depths, by their layers.
use Rattle.std.proofs.Common.{◌≡◌, ℕ, ℤ, ◌+◌, max, ◌∙◌, ap, ◌&&◌, Bool, true, List, map}
use Rattle.type_terms.specs.Depth.{depth, depth_step, largest, owner_depth, owner_depth_step}
use Rattle.type_terms.specs.declared.name.TypeName.{TypeName}
use Rattle.type_terms.specs.declared.term.Owner.{Owner, fold_out-Owner, map-Owner}
use Rattle.type_terms.specs.declared.term.Owner.TheOpen as layer
use Rattle.type_terms.specs.declared.term.Owner.TheVariants as o
use Rattle.type_terms.specs.declared.term.Primitive.{Primitive}
use Rattle.type_terms.specs.declared.term.SigType.{SigType, fold_out-SigType, map-SigType}
use Rattle.type_terms.specs.declared.term.SigType.TheVariants as t
use Rattle.assembly_tree.specs.declared.assembly.Assembly.{Assembly}
use Rattle.assembly_tree.specs.WellFormedNames.{is_type_name}
use Rattle.assembly_tree.specs.WellFormedTerms.{is_made_well, is_owner_made_well, is_shape, is_variable, owner_step, type_step}

-- ---- depths

abbrev layer_depth : layer.SigType-F Owner SigType → ℕ
layer_depth l = depth_step (map-SigType Owner SigType ℕ ℕ owner_depth depth l)

abbrev owner_layer_depth : layer.Owner-F Owner SigType → ℕ
owner_layer_depth l = owner_depth_step (map-Owner Owner SigType ℕ ℕ owner_depth depth l)

pub depth-Prim : (p : Primitive) → depth (t.Prim p) ≡ 1
depth-Prim p = fold_out-SigType ℕ ℕ owner_depth_step depth_step (t.Prim p) ∙ ap layer_depth (t.outs-Prim p)

pub depth-Class : (n : TypeName) → depth (t.Class n) ≡ 1
depth-Class n = fold_out-SigType ℕ ℕ owner_depth_step depth_step (t.Class n) ∙ ap layer_depth (t.outs-Class n)

pub depth-Value : (n : TypeName) → depth (t.Value n) ≡ 1
depth-Value n = fold_out-SigType ℕ ℕ owner_depth_step depth_step (t.Value n) ∙ ap layer_depth (t.outs-Value n)

pub depth-Var : (n : ℕ) → depth (t.Var n) ≡ 1
depth-Var n = fold_out-SigType ℕ ℕ owner_depth_step depth_step (t.Var n) ∙ ap layer_depth (t.outs-Var n)

pub depth-MVar : (n : ℕ) → depth (t.MVar n) ≡ 1
depth-MVar n = fold_out-SigType ℕ ℕ owner_depth_step depth_step (t.MVar n) ∙ ap layer_depth (t.outs-MVar n)

pub depth-Inst : (v : Bool) (n : TypeName) (args : List SigType) → depth (t.Inst v n args) ≡ largest (map depth args) + 1
depth-Inst v n args = fold_out-SigType ℕ ℕ owner_depth_step depth_step (t.Inst v n args) ∙ ap layer_depth (t.outs-Inst v n args)

pub depth-SzArray : (of : SigType) → depth (t.SzArray of) ≡ depth of + 1
depth-SzArray of = fold_out-SigType ℕ ℕ owner_depth_step depth_step (t.SzArray of) ∙ ap layer_depth (t.outs-SzArray of)

pub depth-Array : (of : SigType) (r : ℕ) (sizes : List ℕ) (lower : List ℤ) → depth (t.Array of r sizes lower) ≡ depth of + 1
depth-Array of r sizes lower = fold_out-SigType ℕ ℕ owner_depth_step depth_step (t.Array of r sizes lower) ∙ ap layer_depth (t.outs-Array of r sizes lower)

pub depth-ByRef : (of : SigType) → depth (t.ByRef of) ≡ depth of + 1
depth-ByRef of = fold_out-SigType ℕ ℕ owner_depth_step depth_step (t.ByRef of) ∙ ap layer_depth (t.outs-ByRef of)

pub depth-Pointer : (of : SigType) → depth (t.Pointer of) ≡ depth of + 1
depth-Pointer of = fold_out-SigType ℕ ℕ owner_depth_step depth_step (t.Pointer of) ∙ ap layer_depth (t.outs-Pointer of)

pub depth-Pinned : (of : SigType) → depth (t.Pinned of) ≡ depth of + 1
depth-Pinned of = fold_out-SigType ℕ ℕ owner_depth_step depth_step (t.Pinned of) ∙ ap layer_depth (t.outs-Pinned of)

pub depth-Mod : (r : Bool) (by : Owner) (of : SigType) → depth (t.Mod r by of) ≡ max (owner_depth by) (depth of) + 1
depth-Mod r by of = fold_out-SigType ℕ ℕ owner_depth_step depth_step (t.Mod r by of) ∙ ap layer_depth (t.outs-Mod r by of)

pub depth-Name : (n : TypeName) → owner_depth (o.Name n) ≡ 0
depth-Name n = fold_out-Owner ℕ ℕ owner_depth_step depth_step (o.Name n) ∙ ap owner_layer_depth (o.outs-Name n)

pub depth-Spec : (of : SigType) → owner_depth (o.Spec of) ≡ depth of
depth-Spec of = fold_out-Owner ℕ ℕ owner_depth_step depth_step (o.Spec of) ∙ ap owner_layer_depth (o.outs-Spec of)

-- ---- conditions

module _ (a : Assembly) where
  abbrev layer_made : layer.SigType-F Owner SigType → Bool
  layer_made l = type_step a (map-SigType Owner SigType Bool Bool (is_owner_made_well a) (is_made_well a) l)

  abbrev owner_layer_made : layer.Owner-F Owner SigType → Bool
  owner_layer_made l = owner_step a (map-Owner Owner SigType Bool Bool (is_owner_made_well a) (is_made_well a) l)

  pub made-Prim : (p : Primitive) → is_made_well a (t.Prim p) ≡ true
  made-Prim p = fold_out-SigType Bool Bool (owner_step a) (type_step a) (t.Prim p) ∙ ap layer_made (t.outs-Prim p)

  pub made-Class : (n : TypeName) → is_made_well a (t.Class n) ≡ is_type_name a n
  made-Class n = fold_out-SigType Bool Bool (owner_step a) (type_step a) (t.Class n) ∙ ap layer_made (t.outs-Class n)

  pub made-Value : (n : TypeName) → is_made_well a (t.Value n) ≡ is_type_name a n
  made-Value n = fold_out-SigType Bool Bool (owner_step a) (type_step a) (t.Value n) ∙ ap layer_made (t.outs-Value n)

  pub made-Var : (n : ℕ) → is_made_well a (t.Var n) ≡ is_variable n
  made-Var n = fold_out-SigType Bool Bool (owner_step a) (type_step a) (t.Var n) ∙ ap layer_made (t.outs-Var n)

  pub made-MVar : (n : ℕ) → is_made_well a (t.MVar n) ≡ is_variable n
  made-MVar n = fold_out-SigType Bool Bool (owner_step a) (type_step a) (t.MVar n) ∙ ap layer_made (t.outs-MVar n)

  pub made-SzArray : (of : SigType) → is_made_well a (t.SzArray of) ≡ is_made_well a of
  made-SzArray of = fold_out-SigType Bool Bool (owner_step a) (type_step a) (t.SzArray of) ∙ ap layer_made (t.outs-SzArray of)

  pub made-Array : (of : SigType) (r : ℕ) (sizes : List ℕ) (lower : List ℤ) → is_made_well a (t.Array of r sizes lower) ≡ (is_shape r sizes lower && is_made_well a of)
  made-Array of r sizes lower =
      fold_out-SigType Bool Bool (owner_step a) (type_step a) (t.Array of r sizes lower) ∙ ap layer_made (t.outs-Array of r sizes lower)

  pub made-ByRef : (of : SigType) → is_made_well a (t.ByRef of) ≡ is_made_well a of
  made-ByRef of = fold_out-SigType Bool Bool (owner_step a) (type_step a) (t.ByRef of) ∙ ap layer_made (t.outs-ByRef of)

  pub made-Pointer : (of : SigType) → is_made_well a (t.Pointer of) ≡ is_made_well a of
  made-Pointer of = fold_out-SigType Bool Bool (owner_step a) (type_step a) (t.Pointer of) ∙ ap layer_made (t.outs-Pointer of)

  pub made-Pinned : (of : SigType) → is_made_well a (t.Pinned of) ≡ is_made_well a of
  made-Pinned of = fold_out-SigType Bool Bool (owner_step a) (type_step a) (t.Pinned of) ∙ ap layer_made (t.outs-Pinned of)

  pub made-Mod : (r : Bool) (by : Owner) (of : SigType) → is_made_well a (t.Mod r by of) ≡ (is_owner_made_well a by && is_made_well a of)
  made-Mod r by of = fold_out-SigType Bool Bool (owner_step a) (type_step a) (t.Mod r by of) ∙ ap layer_made (t.outs-Mod r by of)

  pub made-Name : (n : TypeName) → is_owner_made_well a (o.Name n) ≡ is_type_name a n
  made-Name n = fold_out-Owner Bool Bool (owner_step a) (type_step a) (o.Name n) ∙ ap owner_layer_made (o.outs-Name n)

  pub made-Spec : (of : SigType) → is_owner_made_well a (o.Spec of) ≡ is_made_well a of
  made-Spec of = fold_out-Owner Bool Bool (owner_step a) (type_step a) (o.Spec of) ∙ ap owner_layer_made (o.outs-Spec of)
