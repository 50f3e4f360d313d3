use Rattle.std.proofs.Common.{◌≡◌, ◌∙◌, ◌∷◌, [], ap, sym, subst, true}
use Rattle.std.specs.Prelude.{Bool, IfOk, if◌then◌else◌, ◌==◌}
use Rattle.std.proofs.lemmas.Bool.Decides.{Decides-eqb}
use Rattle.ilasm_grammar.specs.declared.productions.TheConstants.{CLASS}
use Rattle.source_model.specs.Nodes.{class_token}
use Rattle.source_nodes.specs.Least.{least}
use Rattle.check_names.specs.Roots.{is_rootless}
use Rattle.check_names.proofs.roots.RootlessRule.first.Goals as goal

pub returns-in-158 : goal.returns-in-158
returns-in-158 c s n r node derived =
    let is : n.production ≡ CLASS = node.production-is ∙ c.in-158.is in
    let own : (n.production == CLASS) ≡ true = (Decides-eqb n.production CLASS).1 is in
    subst (λ ks. IfOk c.unless_based.result (λ k. k ≡ least ks))
    (sym (ap (λ (b : Bool). if b then (if is_rootless s n then class_token n.below ∷ [] else []) else []) own))
    (c.unless_based.ensures s n r (record { production-is = is; below-is = node.below-is; place = node.place }) derived)
