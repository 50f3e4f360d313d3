use Rattle.std.proofs.Common.{ℕ, List, sym, subst}
use Rattle.image_model.specs.Naming.{TellsOwners}
use Rattle.image_demands.proofs.Whole.{are_told}
use Rattle.image_demands.proofs.chain.unmet_by_names.Goals as goal

pub unmet_by_facts-requires-clause-told : goal.unmet_by_facts-requires-clause-told
unmet_by_facts-requires-clause-told c =
    are_told c.args.image.now _ c.a_naming_exists.ensures c.requires.small c.tables-tables.ensures.meets c.requires.meets c.requires.scopes c.requires.signed
    (λ owners tells.
    let here = subst (λ (i : List ℕ). TellsOwners i owners) (sym c.new-names.ensures.image) tells in
    let n = c.tell_facts.ensures owners here in
    (n.0, c.in_ok-specs.ensures n.0 owners tells n.1))
