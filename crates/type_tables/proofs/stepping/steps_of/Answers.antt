use Rattle.std.proofs.Common.{ℕ, List, [], subst}
use Rattle.type_terms.specs.declared.term.SigType.{SigType}
use Rattle.type_tables.specs.Landings.{AddsPlaces}
use Rattle.type_hierarchy.specs.Reading.{as_list}
use Rattle.type_hierarchy.specs.Tables.{hierarchy_in}
use Rattle.type_tables.proofs.StepLists.{places_both}
use Rattle.type_tables.proofs.stepping.steps_of.Goals as goal

pub returns : goal.returns
returns c =
    let w = hierarchy_in c.args.tables.now in
    let d = c.args.declared.now in
    places_both w c.args.tables.now.names (as_list d.base) d.interfaces [] c.add_base.new.nexts c.add_steps.new.nexts
    (subst (λ (l : List ℕ). AddsPlaces w c.args.tables.now.names (as_list d.base) l c.add_base.new.nexts) c.new-nexts.ensures c.in_ok-add_base.ensures)
    (subst (λ (ts : List SigType). AddsPlaces w c.args.tables.now.names ts c.add_base.new.nexts c.add_steps.new.nexts) c.as_slice.ensures c.in_ok-add_steps.ensures)
