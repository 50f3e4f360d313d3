use Rattle.std.proofs.Common.{ℕ}
use Rattle.demand_search.specs.Search.{IsFirstBad, AllMeet}
use Rattle.image_model.specs.Terms.{HasSignatures}
use Rattle.signature_demands.proofs.Finding.{first_bad, at_some, at_none}
use Rattle.signature_demands.proofs.first.first_unmet_signature.Goals as goal

abbrev pair : ℕ → ℕ → ℕ × ℕ
pair a b = (a, b)

pub returns-in-Some : goal.returns-in-Some
returns-in-Some c =
    let image = c.args.image.now in
    first_bad image c.requires.meets c.requires.scopes c.a_naming_exists.ensures c.requires.small c.tables-tables.ensures.meets c.in-Some.table c.in-Some.row
    (λ names are. at_some (AllMeet (HasSignatures image names)) (λ (a : ℕ × ℕ). IsFirstBad (HasSignatures image names) a.0 a.1) c.in_ok-found.found (pair c.in-Some.table c.in-Some.row) c.in-Some.is (c.in_ok-found.ensures names are))

pub returns-in-None : goal.returns-in-None
returns-in-None c =
    let image = c.args.image.now in
    λ names are. at_none (AllMeet (HasSignatures image names)) (λ (a : ℕ × ℕ). IsFirstBad (HasSignatures image names) a.0 a.1) c.in_ok-found.found c.in-None.is (c.in_ok-found.ensures names are)
