use Rattle.std.proofs.Common.{◌≡◌, ap, sym, ◌∙◌}
use Rattle.std.specs.Prelude.{Bool, true, ◌==◌, if◌then◌else◌, None, Some}
use Rattle.std.proofs.lemmas.Bool.Decides.{Decides-eqb}
use Rattle.ilasm_grammar.specs.declared.productions.TheConstants.{CLAUSE_FILTER}
use Rattle.source_model.specs.Clauses.{filter_start}
use Rattle.check_bodies.proofs.clause_rules.filter_of.Goals as goal

pub returns-in_ok-start-in-591 : goal.returns-in_ok-start-in-591
returns-in_ok-start-in-591 c s f x r places h e =
    let own : (c.args.production == CLAUSE_FILTER) ≡ true = (Decides-eqb c.args.production CLAUSE_FILTER).1 c.in-591.is in
    ap Some (c.in_ok-start-in-591.ensures s f x r places h e)
    ∙ sym (ap (λ (b : Bool). if b then Some (filter_start s f x) else None) own)
