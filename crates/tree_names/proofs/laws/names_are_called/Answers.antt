use Rattle.tree_names.proofs.CalledNames.{names_of_fields, names_of_manifests, names_of_methods, names_of_owners, names_of_types}
use Rattle.tree_names.proofs.CalledTypeNames.{names_of_typedefs}
use Rattle.tree_names.proofs.laws.names_are_called.Goals as goal

pub returns-clause-types : goal.returns-clause-types
returns-clause-types c = names_of_types

pub returns-clause-owners : goal.returns-clause-owners
returns-clause-owners c = names_of_owners

pub returns-clause-fields : goal.returns-clause-fields
returns-clause-fields c = names_of_fields

pub returns-clause-methods : goal.returns-clause-methods
returns-clause-methods c = names_of_methods

pub returns-clause-manifests : goal.returns-clause-manifests
returns-clause-manifests c = names_of_manifests

pub returns-clause-typedefs : goal.returns-clause-typedefs
returns-clause-typedefs c = names_of_typedefs
