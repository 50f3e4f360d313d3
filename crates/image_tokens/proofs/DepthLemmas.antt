-- Depth by the variant of a type.
use Rattle.std.proofs.Common.{◌≡◌, ap, ◌∙◌, ℕ, zero, suc, ◌≤◌, List, [], ◌∷◌, map, drop, arith}
use Rattle.type_terms.specs.declared.term.Owner.{Owner, fold_out-Owner, map-Owner}
use Rattle.type_terms.specs.declared.term.Owner.TheVariants as owners
use Rattle.type_terms.specs.declared.term.SigType.{SigType, fold_out-SigType, map-SigType, out-SigType}
use Rattle.type_terms.specs.Depth.{depth, owner_depth, depth_step, owner_depth_step, largest}
use Rattle.sig_codec.specs.Spelling.{Layer}

abbrev pub layer_depth : Layer → ℕ
layer_depth l = depth_step (map-SigType Owner SigType ℕ ℕ owner_depth depth l)

pub depth_at : (t u : SigType) (l : Layer) → t ≡ u → out-SigType u ≡ l → depth t ≡ layer_depth l
depth_at t u l e f = ap depth e ∙ fold_out-SigType ℕ ℕ owner_depth_step depth_step u ∙ ap layer_depth f

pub owner_depth_spec : (o : Owner) (t : SigType) → o ≡ owners.Spec t → owner_depth o ≡ depth t
owner_depth_spec o t e = ap owner_depth e ∙ fold_out-Owner ℕ ℕ owner_depth_step depth_step (owners.Spec t)
    ∙ ap (λ l. owner_depth_step (map-Owner Owner SigType ℕ ℕ owner_depth depth l)) (owners.outs-Spec t)

-- no type of a list is deeper than the deepest
pub item_depth : (ts : List SigType) (i : ℕ) (t : SigType) (later : List SigType) → drop i ts ≡ t ∷ later → depth t ≤ largest (map depth ts)
item_depth [] zero t later e = absurd cc
item_depth [] (suc i) t later e = absurd cc
item_depth (x ∷ ts) zero t later e = (let is : x ≡ t = cc in omega (arith, ap depth is))
item_depth (x ∷ ts) (suc i) t later e = omega (arith, item_depth ts i t later e)
