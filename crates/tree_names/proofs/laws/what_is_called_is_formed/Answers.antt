use Rattle.tree_names.proofs.FormedNested.{formed_nested}
use Rattle.tree_names.proofs.FormedParts.{formed_fields, formed_manifests, formed_methods}
use Rattle.tree_names.proofs.FormedTerms.{formed_owners, formed_types}
use Rattle.tree_names.proofs.FormedTypes.{formed_own}
use Rattle.tree_names.proofs.laws.what_is_called_is_formed.Goals as goal

pub returns-clause-types : goal.returns-clause-types
returns-clause-types c = formed_types

pub returns-clause-owners : goal.returns-clause-owners
returns-clause-owners c = formed_owners

pub returns-clause-fields : goal.returns-clause-fields
returns-clause-fields c = formed_fields

pub returns-clause-methods : goal.returns-clause-methods
returns-clause-methods c = formed_methods

pub returns-clause-manifests : goal.returns-clause-manifests
returns-clause-manifests c = formed_manifests

pub returns-clause-own : goal.returns-clause-own
returns-clause-own c = formed_own

pub returns-clause-nested : goal.returns-clause-nested
returns-clause-nested c = formed_nested
