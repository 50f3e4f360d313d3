use Rattle.std.proofs.Common.{◌≡◌, ℕ, List, Option, sym, ◌∙◌, ap}
use Rattle.sig_codec.specs.Reading.{◌>>=◌}
use Rattle.signature_facts.specs.Scanning.{whole_instantiation}
use Rattle.value_demands.specs.Valued.{count_of_list}
use Rattle.value_demands.proofs.counts.arguments_at.Goals as goal

pub returns-in-Some : goal.returns-in-Some
returns-in-Some g c =
    c.count_of_list.ensures ∙ ap count_of_list c.scan_instantiation.ensures.steps ∙ ap (λ (o : Option (List ℕ)). count_of_list (o >>= whole_instantiation (g.O.Owners.facts c.args.facts.now))) c.in-Some.ensures

pub returns-in-None : goal.returns-in-None
returns-in-None g c =
    c.count_of_list-in-None.ensures ∙ ap (λ (o : Option (List ℕ)). count_of_list (o >>= whole_instantiation (g.O.Owners.facts c.args.facts.now))) c.in-None.ensures
