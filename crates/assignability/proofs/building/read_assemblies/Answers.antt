use Rattle.std.proofs.Common.{◌∙◌}
use Rattle.type_hierarchy.specs.Scopes.{sources}
use Rattle.type_tables.specs.Places.{row}
use Rattle.type_tables.proofs.FillLemmas.{places_within}
use Rattle.type_tables.proofs.KnownTypes.{knows_all}
use Rattle.assignability.proofs.WorldLemmas.{few_externs, formed_of, read_all}
use Rattle.assignability.proofs.building.read_assemblies.Goals as goal

pub read_scopes-requires-clause-externs : goal.read_scopes-requires-clause-externs
read_scopes-requires-clause-externs c = few_externs (sources c.args.a.now c.args.references.now) c.requires.image c.requires.references

pub read_places-requires-clause-formed : goal.read_places-requires-clause-formed
read_places-requires-clause-formed c = formed_of (sources c.args.a.now c.args.references.now) c.requires.image c.requires.references

pub value_types-requires-clause-within : goal.value_types-requires-clause-within
value_types-requires-clause-within c =
    places_within (sources c.args.a.now c.args.references.now) c.in_ok-scopes.scopes (row c.in_ok-places.places) c.in_ok-scopes.ensures c.in_ok-places.ensures.places

pub fill-requires-clause-within : goal.fill-requires-clause-within
fill-requires-clause-within c =
    places_within (sources c.args.a.now c.args.references.now) c.in_ok-scopes.scopes (row c.in_ok-places.places) c.in_ok-scopes.ensures c.in_ok-places.ensures.places

pub returns : goal.returns
returns c =
    let s = sources c.args.a.now c.args.references.now in
    read_all s c.in_ok-scopes.scopes (row c.in_ok-places.places) _ c.in_ok-scopes.ensures c.in_ok-places.ensures.places
    (c.in_ok-tables.ensures.tables s c.in_ok-scopes.ensures c.in_ok-places.ensures.places c.in_ok-values.ensures)
    (knows_all s c.in_ok-places.places c.in_ok-tables.tables (formed_of s c.requires.image c.requires.references 0) c.in_ok-places.ensures.places c.in_ok-places.ensures.indexes
    c.in_ok-tables.ensures.names c.in_ok-tables.ensures.indexes)
    (c.in_ok-members.ensures ∙ c.as_slice.ensures) c.into_numbers-numbers.ensures
