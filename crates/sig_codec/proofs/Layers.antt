-- Depth and nodes by the layer of a type.
use Rattle.std.proofs.Common.{◌≡◌, ℕ, ℤ, ◌+◌, max, Bool, ◌⊎◌, inl, inr, List, map, ◌∙◌, ap}
use Rattle.type_terms.specs.declared.name.TypeName.{TypeName}
use Rattle.type_terms.specs.declared.term.Owner.{Owner}
use Rattle.type_terms.specs.declared.term.SigType.{SigType, fold_out-SigType, fold-roll-SigType, map-SigType, out-SigType, roll-SigType}
use Rattle.type_terms.specs.declared.term.SigType.TheVariants as type
use Rattle.type_terms.specs.Depth.{depth, owner_depth, depth_step, owner_depth_step, largest}
use Rattle.type_terms.specs.Nodes.{nodes, owner_nodes, nodes_step, owner_nodes_step, total}
use Rattle.sig_codec.specs.Spelling.{Layer}

-- the depth and the nodes of a type, from its layer
abbrev pub layer_depth : Layer → ℕ
layer_depth l = depth_step (map-SigType Owner SigType ℕ ℕ owner_depth depth l)

abbrev pub layer_nodes : Layer → ℕ
layer_nodes l = nodes_step (map-SigType Owner SigType ℕ ℕ owner_nodes nodes l)

pub depth-out : (t : SigType) → depth t ≡ layer_depth (out-SigType t)
depth-out t = fold_out-SigType ℕ ℕ owner_depth_step depth_step t

pub nodes-out : (t : SigType) → nodes t ≡ layer_nodes (out-SigType t)
nodes-out t = fold_out-SigType ℕ ℕ owner_nodes_step nodes_step t

pub depth-roll : (l : Layer) → depth (roll-SigType l) ≡ layer_depth l
depth-roll l = fold-roll-SigType ℕ ℕ owner_depth_step depth_step l

pub nodes-roll : (l : Layer) → nodes (roll-SigType l) ≡ layer_nodes l
nodes-roll l = fold-roll-SigType ℕ ℕ owner_nodes_step nodes_step l

pub depth-Inst : (v : Bool) (n : TypeName) (args : List SigType) → depth (type.Inst v n args) ≡ largest (map depth args) + 1
depth-Inst v n args = depth-out (type.Inst v n args) ∙ ap layer_depth (type.outs-Inst v n args)

pub nodes-Inst : (v : Bool) (n : TypeName) (args : List SigType) → nodes (type.Inst v n args) ≡ total (map nodes args) + 1
nodes-Inst v n args = nodes-out (type.Inst v n args) ∙ ap layer_nodes (type.outs-Inst v n args)

pub depth-SzArray : (of : SigType) → depth (type.SzArray of) ≡ depth of + 1
depth-SzArray of = depth-out (type.SzArray of) ∙ ap layer_depth (type.outs-SzArray of)

pub nodes-SzArray : (of : SigType) → nodes (type.SzArray of) ≡ nodes of + 1
nodes-SzArray of = nodes-out (type.SzArray of) ∙ ap layer_nodes (type.outs-SzArray of)

pub depth-Mod : (r : Bool) (by : Owner) (of : SigType) → depth (type.Mod r by of) ≡ max (owner_depth by) (depth of) + 1
depth-Mod r by of = depth-out (type.Mod r by of) ∙ ap layer_depth (type.outs-Mod r by of)

pub nodes-Mod : (r : Bool) (by : Owner) (of : SigType) → nodes (type.Mod r by of) ≡ owner_nodes by + nodes of + 1
nodes-Mod r by of = nodes-out (type.Mod r by of) ∙ ap layer_nodes (type.outs-Mod r by of)

-- a type with one child, and no other part that counts
pub record IsRound (t of : SigType) : Type 0 where
  pub depth_is : depth t ≡ depth of + 1
  pub nodes_are : nodes t ≡ nodes of + 1

pub IsRound-from : (t of : SigType)
    → (t ≡ type.SzArray of) ⊎ ((t ≡ type.ByRef of) ⊎ ((t ≡ type.Pointer of) ⊎ ((t ≡ type.Pinned of) ⊎ ((r : ℕ) × (s : List ℕ) × (l : List ℤ) × (t ≡ type.Array of r s l)))))
    → IsRound t of
IsRound-from t of (inl e) = record { depth_is = rw e (depth-SzArray of); nodes_are = rw e (nodes-SzArray of) }
IsRound-from t of (inr (inl e)) = record { depth_is = rw e (depth-out (type.ByRef of) ∙ ap layer_depth (type.outs-ByRef of)); nodes_are = rw e (nodes-out (type.ByRef of) ∙ ap layer_nodes (type.outs-ByRef of)) }
IsRound-from t of (inr (inr (inl e))) = record { depth_is = rw e (depth-out (type.Pointer of) ∙ ap layer_depth (type.outs-Pointer of)); nodes_are = rw e (nodes-out (type.Pointer of) ∙ ap layer_nodes (type.outs-Pointer of)) }
IsRound-from t of (inr (inr (inr (inl e)))) = record { depth_is = rw e (depth-out (type.Pinned of) ∙ ap layer_depth (type.outs-Pinned of)); nodes_are = rw e (nodes-out (type.Pinned of) ∙ ap layer_nodes (type.outs-Pinned of)) }
IsRound-from t of (inr (inr (inr (inr e)))) = record { depth_is = rw e.3 (depth-out (type.Array of e.0 e.1 e.2) ∙ ap layer_depth (type.outs-Array of e.0 e.1 e.2)); nodes_are = rw e.3 (nodes-out (type.Array of e.0 e.1 e.2) ∙ ap layer_nodes (type.outs-Array of e.0 e.1 e.2)) }
