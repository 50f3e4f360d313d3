use Rattle.std.proofs.Common.{◌∙◌, sym, rules, tests}
use Rattle.std.proofs.lemmas.Iterator.{YieldsList-from_slice}
use Rattle.std.proofs.lemmas.Iterator.Search.{any_from_yields_List}
use Rattle.metadata_tables.specs.declared.coded.Coded.TheVariants.{TypeOrMethodDef}
use Rattle.image_members.specs.Emptiness.{any_has_item}
use Rattle.image_members.specs.GenericRows.{counted}
use Rattle.image_members.specs.Places.{lent}
use Rattle.image_members.proofs.EmptinessLemmas.{empty_counted, none_at, none_tested}
use Rattle.image_members.proofs.generic_rows.have_generics.Goals as goal

pub returns-clause-any : goal.returns-clause-any
returns-clause-any c = any_from_yields_List (λ table. any_has_item table.of) _ _ _ c.any.ensures.ran (YieldsList-from_slice c.args.tables.now cc) (λ x b q k. search (rules, tests))

pub returns-clause-none : goal.returns-clause-none
returns-clause-none c none k =
    none_at TypeOrMethodDef counted (λ table. any_has_item table.of) (λ table e. empty_counted (lent table.of) (none_tested table.of e)) k c.args.tables.now (sym (returns-clause-any c) ∙ none)
