-- A called type has the form of the type.
use Rattle.std.proofs.Common.{◌≡◌, ◌∙◌, ap, refl, ℕ}
use Rattle.type_terms.specs.Depth.{depth, depth_step, owner_depth, owner_depth_step}
use Rattle.type_terms.specs.Nodes.{nodes, nodes_step, owner_nodes, owner_nodes_step}
use Rattle.type_terms.specs.declared.term.Owner.{Owner, fold-Owner}
use Rattle.type_terms.specs.declared.term.SigType.{SigType, fold-SigType}
use Rattle.type_terms.specs.declared.term.Owner.TheOpen.{Owner-F, SigType-F, Name, Spec, Prim, Class, Value, Inst, Var, MVar, SzArray, Array, ByRef, Pointer, Mod, Pinned}
use Rattle.tree_names.specs.Called.{Call, called_owner, called_type}
use Rattle.tree_names.specs.Laws.{TypesKeepForm, OwnersKeepForm}
use Rattle.tree_names.proofs.Fusion.{renamed_owner, renamed_type, fold_called, fold_called_owner}

-- steps that don't look at names

depth_owner : (f : Call) (l : Owner-F ℕ ℕ) → owner_depth_step (renamed_owner f l) ≡ owner_depth_step l
depth_owner f (Name n) = refl
depth_owner f (Spec of) = refl

depth_type : (f : Call) (l : SigType-F ℕ ℕ) → depth_step (renamed_type f l) ≡ depth_step l
depth_type f (Class n) = refl
depth_type f l = refl

nodes_owner : (f : Call) (l : Owner-F ℕ ℕ) → owner_nodes_step (renamed_owner f l) ≡ owner_nodes_step l
nodes_owner f (Name n) = refl
nodes_owner f (Spec of) = refl

nodes_type : (f : Call) (l : SigType-F ℕ ℕ) → nodes_step (renamed_type f l) ≡ nodes_step l
nodes_type f (Class n) = refl
nodes_type f l = refl

pub depth_called : (f : Call) (t : SigType) → depth (called_type f t) ≡ depth t
depth_called f t =
    fold_called ℕ ℕ owner_depth_step depth_step f t ∙ (λ i. fold-SigType ℕ ℕ (λ l. depth_owner f l i) (λ l. depth_type f l i) t)

pub owner_depth_called : (f : Call) (o : Owner) → owner_depth (called_owner f o) ≡ owner_depth o
owner_depth_called f o =
    fold_called_owner ℕ ℕ owner_depth_step depth_step f o ∙ (λ i. fold-Owner ℕ ℕ (λ l. depth_owner f l i) (λ l. depth_type f l i) o)

nodes_called : (f : Call) (t : SigType) → nodes (called_type f t) ≡ nodes t
nodes_called f t =
    fold_called ℕ ℕ owner_nodes_step nodes_step f t ∙ (λ i. fold-SigType ℕ ℕ (λ l. nodes_owner f l i) (λ l. nodes_type f l i) t)

owner_nodes_called : (f : Call) (o : Owner) → owner_nodes (called_owner f o) ≡ owner_nodes o
owner_nodes_called f o =
    fold_called_owner ℕ ℕ owner_nodes_step nodes_step f o ∙ (λ i. fold-Owner ℕ ℕ (λ l. nodes_owner f l i) (λ l. nodes_type f l i) o)

pub types_keep_form : TypesKeepForm
types_keep_form f t = (depth_called f t, nodes_called f t)

pub owners_keep_form : OwnersKeepForm
owners_keep_form f o = (owner_depth_called f o, owner_nodes_called f o)
