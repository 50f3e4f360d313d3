use Rattle.std.proofs.Common.{◌∙◌, sym, rules, tests, length}
use Rattle.std.specs.Prelude.{nat_lt}
use Rattle.std.proofs.lemmas.Iterator.Search.{any_from_yields_List}
use Rattle.std.proofs.lemmas.Iterator.{YieldsList-from_slice}
use Rattle.image_members.proofs.EmptinessLemmas.{lent_tested, none_tested}
use Rattle.image_members.proofs.emptiness.have_items.Goals as goal

pub returns-clause-any : goal.returns-clause-any
returns-clause-any g c =
    any_from_yields_List (λ list. nat_lt 0 (length list.now)) _ _ _ c.any.ensures.ran (YieldsList-from_slice c.args.lists.now cc) (λ x b q k. search (rules, tests))
    ∙ lent_tested c.args.lists.now

pub returns-clause-none : goal.returns-clause-none
returns-clause-none g c none = none_tested c.args.lists.now (sym (returns-clause-any g c) ∙ none)
