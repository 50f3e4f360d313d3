use Rattle.std.proofs.Common.{◌≡◌, ℕ, List, Option, sym, ◌∙◌, ap}
use Rattle.sig_codec.specs.Reading.{◌>>=◌}
use Rattle.signature_facts.specs.Scanning.{whole_method}
use Rattle.value_demands.specs.Valued.{counts_of}
use Rattle.value_demands.proofs.counts.counts_at.Goals as goal

pub returns-in-Some : goal.returns-in-Some
returns-in-Some g c =
    c.counts_of.ensures ∙ ap counts_of c.scan_method.ensures.steps ∙ ap (λ (o : Option (List ℕ)). counts_of (o >>= whole_method (g.O.Owners.facts c.args.facts.now))) c.in-Some.ensures

pub returns-in-None : goal.returns-in-None
returns-in-None g c =
    c.counts_of-in-None.ensures ∙ ap (λ (o : Option (List ℕ)). counts_of (o >>= whole_method (g.O.Owners.facts c.args.facts.now))) c.in-None.ensures
