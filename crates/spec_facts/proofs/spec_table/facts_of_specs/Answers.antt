use Rattle.std.proofs.Common.{◌≡◌, List, Option, length, false, ap, sym, subst, ◌∙◌, rules}
use Rattle.std.proofs.lemmas.List.{with_items_is}
use Rattle.std.specs.Vec.{with_items}
use Rattle.signature_facts.specs.declared.facts.Facts.{Facts}
use Rattle.spec_facts.specs.Rounds.{IsSound}
use Rattle.spec_facts.proofs.Final.{final}
use Rattle.spec_facts.proofs.spec_table.facts_of_specs.Goals as goal

pub returns : goal.returns
returns g c = λ naming owners tells so.
    let image = c.args.image.now in
    let heads = c.in_ok-distinct.distinct.heads in
    let old = c.as_mut_slice.result.now in
    let seen : old ≡ c.rounds.facts.items = c.as_mut_slice.ensures.value in
    let none : c.round.result ≡ false = search rules in
    let fixed = c.round.ensures.fixed none in
    let refilled = with_items_is c.rounds.facts c.round.new.facts (ap length fixed.0 ∙ c.as_mut_slice.ensures.len) in
    final image (g.N.Owners.facts c.args.names.now) c.in_ok-distinct.distinct.places heads old (with_items c.rounds.facts c.round.new.facts).items c.in_ok-distinct.ensures (refilled ∙ fixed.0) (ap length seen ∙ c.rounds.invariant.0)
    (λ whole told. subst (λ (x : List (Option Facts)). IsSound image whole heads x) (sym seen) (c.rounds.invariant.1 whole told)) fixed.1 naming owners tells so
