-- The hash of an instantiation by its name and its arguments.
use Rattle.std.proofs.Common.{◌≡◌, ◌∙◌, ap, refl, ℕ, Bool, List, [], ◌∷◌, map, fold}
use Rattle.type_terms.specs.declared.name.TypeName.{TypeName}
use Rattle.type_terms.specs.declared.term.Owner.{Owner}
use Rattle.type_terms.specs.declared.term.Owner.TheOpen as layer
use Rattle.type_terms.specs.declared.term.SigType.{SigType, fold_out-SigType, map-SigType}
use Rattle.type_terms.specs.declared.term.SigType.TheVariants as t
use Rattle.type_terms.specs.Hashing.{mix, mix_name, flag_number, Mixes, mix_each, owner_step, type_step, mix_type, mix_owner, mix_types}

-- the parts of a list of types, mixed in one after another
each_mixed : (hash : ℕ) (ts : List SigType) → mix_each hash (map (λ t h. mix_type h t) ts) ≡ fold mix_type hash ts
each_mixed hash [] = refl
each_mixed hash (t ∷ ts) = each_mixed (mix_type hash t) ts

abbrev step_at : ℕ → layer.SigType-F Owner SigType → ℕ
step_at hash l = type_step (map-SigType Owner SigType Mixes Mixes (λ o h. mix_owner h o) (λ t h. mix_type h t) l) hash

pub mix_type-Inst : (hash : ℕ) (v : Bool) (n : TypeName) (args : List SigType)
    → mix_type hash (t.Inst v n args) ≡ mix_types (mix_name (mix (mix hash 0x203) (flag_number v)) n) args
unfolding mix_types
mix_type-Inst hash v n args =
    ap (λ (f : Mixes). f hash) (fold_out-SigType Mixes Mixes owner_step type_step (t.Inst v n args))
    ∙ ap (step_at hash) (t.outs-Inst v n args) ∙ each_mixed (mix_name (mix (mix hash 0x203) (flag_number v)) n) args
