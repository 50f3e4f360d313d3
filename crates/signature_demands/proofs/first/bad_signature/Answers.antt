use Rattle.std.proofs.Common.{ℕ, ◌≡◌}
use Rattle.image_model.specs.Namings.{AreNamings}
use Rattle.image_model.specs.Terms.{HasSignatures}
use Rattle.signature_bounds.specs.Bounded.{HasBounded}
use Rattle.spec_facts.specs.SpecMap.{merged, row_told}
use Rattle.signature_demands.specs.Named.{nameless, names_told}
use Rattle.signature_demands.proofs.Rows.{members_there}
use Rattle.signature_demands.proofs.Finding.{all_as, told_names, bounds_mean}
use Rattle.signature_demands.proofs.first.bad_signature.Goals as goal

pub bad_by-requires-clause-members : goal.bad_by-requires-clause-members
bad_by-requires-clause-members c = members_there c.args.image.now (names_told c.args.image.now) c.requires.meets.indexes

pub returns : goal.returns
returns c =
    let image = c.args.image.now in
    let facts = merged (names_told image) (row_told c.in_ok-specs.specs) in
    all_as (HasBounded image facts) (λ names. HasSignatures image names) (AreNamings image)
    (bounds_mean image c.requires.meets c.requires.scopes facts (λ names are. c.in_ok-specs.ensures nameless names.owners are.owners (told_names image c.requires.meets c.requires.scopes names are)))
    c.bad_by.result c.bad_by.ensures
