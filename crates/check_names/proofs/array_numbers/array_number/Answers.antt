use Rattle.std.proofs.Common.{◌≡◌, [], ◌∙◌, ap, sym, subst}
use Rattle.std.specs.Prelude.{Bool, true, ◌==◌, IfOk, if◌then◌else◌}
use Rattle.std.proofs.lemmas.Bool.Decides.{Decides-eqb}
use Rattle.ilasm_grammar.specs.declared.productions.TheConstants.{TYPE_SUFFIX_BRACKET}
use Rattle.source_nodes.specs.Least.{least}
use Rattle.check_names.specs.ArrayNumbers.{shape_number}
use Rattle.check_names.proofs.array_numbers.array_number.Goals as goal

pub returns-in-100 : goal.returns-in-100
returns-in-100 c s n r p below =
    let own : (n.production == TYPE_SUFFIX_BRACKET) ≡ true = (Decides-eqb n.production TYPE_SUFFIX_BRACKET).1 (p ∙ c.in-100.is) in
    subst (λ ks. IfOk c.shape_number.result (λ k. k ≡ least ks)) (sym (ap (λ (b : Bool). if b then shape_number s n.below else []) own))
    (c.shape_number.ensures s n.below r below)
