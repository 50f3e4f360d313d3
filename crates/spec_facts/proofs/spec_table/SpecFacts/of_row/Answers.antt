use Rattle.std.proofs.Common.{◌≡◌, List, Option, ap, ◌∙◌, rules}
use Rattle.signature_facts.specs.declared.facts.Facts.{Facts}
use Rattle.spec_facts.specs.Rounds.{found}
use Rattle.spec_facts.specs.SpecMap.{row_told}
use Rattle.spec_facts.proofs.Final.{found_is_told}
use Rattle.spec_facts.proofs.spec_table.SpecFacts.of_row.Goals as goal

pub returns : goal.returns
returns c =
    let told : c.found.result ≡ found c.self.inside.places c.self.inside.facts.items c.args.row = search rules in
    told ∙ found_is_told c.self.inside.places c.self.inside.facts.items c.args.row ∙ ap (λ (rows : List (Option Facts)). row_told rows c.args.row) c.self.view_is
