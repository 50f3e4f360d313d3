-- The conditions on an instantiation by its layer.
use Rattle.std.proofs.Common.{◌≡◌, ◌∙◌, ap, ◌&&◌, Bool, List, map, nat_lt, length}
use Rattle.std.specs.List.{list_all}
use Rattle.std.proofs.lemmas.List.{length-map}
use Rattle.std.proofs.lemmas.List.Folds.{list_all-map}
use Rattle.type_terms.specs.declared.name.TypeName.{TypeName}
use Rattle.type_terms.specs.declared.term.Owner.{Owner}
use Rattle.type_terms.specs.declared.term.Owner.TheOpen as layer
use Rattle.type_terms.specs.declared.term.SigType.{SigType, fold_out-SigType, map-SigType}
use Rattle.type_terms.specs.declared.term.SigType.TheVariants as t
use Rattle.assembly_tree.specs.declared.assembly.Assembly.{Assembly}
use Rattle.assembly_tree.specs.WellFormedNames.{is_type_name}
use Rattle.assembly_tree.specs.WellFormedTerms.{owner_step, type_step, is_made_well, is_owner_made_well}

abbrev step_at : Assembly → layer.SigType-F Owner SigType → Bool
step_at a l = type_step a (map-SigType Owner SigType Bool Bool (is_owner_made_well a) (is_made_well a) l)

-- the name, and at least one argument, meet their conditions
pub made_well-Inst : (a : Assembly) (v : Bool) (n : TypeName) (args : List SigType) →
    is_made_well a (t.Inst v n args) ≡ (is_type_name a n && nat_lt 0 (length args) && list_all (is_made_well a) args)
made_well-Inst a v n args =
    fold_out-SigType Bool Bool (owner_step a) (type_step a) (t.Inst v n args) ∙ ap (step_at a) (t.outs-Inst v n args)
    ∙ ap (λ k. is_type_name a n && nat_lt 0 k && list_all (λ ok. ok) (map (is_made_well a) args)) (length-map args (is_made_well a))
    ∙ ap (λ b. is_type_name a n && nat_lt 0 (length args) && b) (list_all-map (λ ok. ok) (is_made_well a) args)
