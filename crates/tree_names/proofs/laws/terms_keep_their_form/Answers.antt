use Rattle.tree_names.proofs.CalledTerms.{owners_keep_form, types_keep_form}
use Rattle.tree_names.proofs.laws.terms_keep_their_form.Goals as goal

pub returns-clause-types : goal.returns-clause-types
returns-clause-types c = types_keep_form

pub returns-clause-owners : goal.returns-clause-owners
returns-clause-owners c = owners_keep_form
