-- The least tokens at which the rules of each class are broken.
use Rattle.std.specs.Prelude.{◌≡◌, ◌++◌}
use Rattle.source_model.specs.BodyFaults.{labels_twice, labels_undeclared, variables_undeclared, branches_too_far, clauses_backwards, branches_to_the_end, body_numbers_out_of_range}
use Rattle.source_model.specs.DeclaredTwice.{types_twice, members_twice, externs_twice, entries_twice, manifests_twice, data_twice}
use Rattle.source_model.specs.OutOfRange.{numbers_out_of_range, types_too_deep, nestings_too_deep, data_too_short, data_unsized}
use Rattle.source_model.specs.Source.{Source}
use Rattle.source_model.specs.Undeclared.{types_undeclared, scopes_undeclared, objects_undeclared, typars_undeclared, accessors_undeclared, assembly_undeclared, data_undeclared}
use Rattle.source_nodes.specs.Least.{least}
use Rattle.check_names.specs.declared.firsts.Twice.{Twice}
use Rattle.check_names.specs.declared.firsts.Undeclared.{Undeclared}
use Rattle.check_names.specs.declared.firsts.Unbounded.{Unbounded}

-- what is declared twice
pub record AreTwice (s : Source) (t : Twice) : Type 0 where
  pub types : t.types ≡ least (types_twice s)
  pub members : t.members ≡ least (members_twice s)
  pub externs : t.externs ≡ least (externs_twice s)
  pub labels : t.labels ≡ least (labels_twice s)
  pub entries : t.entries ≡ least (entries_twice s)
  pub manifests : t.manifests ≡ least (manifests_twice s)
  pub data-labels : t.data_labels ≡ least (data_twice s)

-- what isn't declared
pub record AreUndeclared (s : Source) (u : Undeclared) : Type 0 where
  pub types : u.types ≡ least (types_undeclared s)
  pub externs : u.externs ≡ least (scopes_undeclared s ++ objects_undeclared s)
  pub labels : u.labels ≡ least (labels_undeclared s)
  pub variables : u.variables ≡ least (variables_undeclared s)
  pub typars : u.typars ≡ least (typars_undeclared s)
  pub accessors : u.accessors ≡ least (accessors_undeclared s)
  pub assembly : u.assembly ≡ least (assembly_undeclared s)
  pub data-labels : u.data_labels ≡ least (data_undeclared s)

-- what is out of its bounds
pub record AreUnbounded (s : Source) (b : Unbounded) : Type 0 where
  pub numbers : b.numbers ≡ least (numbers_out_of_range s ++ body_numbers_out_of_range s)
  pub branches : b.branches ≡ least (branches_too_far s)
  pub clauses : b.clauses ≡ least (clauses_backwards s)
  pub types : b.types ≡ least (types_too_deep s)
  pub ends : b.ends ≡ least (branches_to_the_end s)
  pub nestings : b.nestings ≡ least (nestings_too_deep s)
  pub short : b.short ≡ least (data_too_short s)
  pub without-size : b.without_size ≡ least (data_unsized s)
