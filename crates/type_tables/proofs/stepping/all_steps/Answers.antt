use Rattle.std.proofs.Common.{◌≡◌, ◌<◌, ◌≤◌, List, subst, length, get_or, rules}
use Rattle.std.proofs.lemmas.List.{take_all}
use Rattle.type_tables.specs.Landings.{HaveSteps}
use Rattle.type_hierarchy.specs.Tables.{hierarchy_in}
use Rattle.type_hierarchy.specs.declared.tables.Declared.{Declared}
use Rattle.type_tables.proofs.StepLists.{have_next, tables_listed, tables_steps}
use Rattle.type_tables.proofs.stepping.all_steps.Goals as goal

pub read_tops-requires : goal.read_tops-requires
read_tops-requires c = tables_listed c.args.tables.now c.requires c.len-count.ensures.once

pub steps_of-requires-clause-listed : goal.steps_of-requires-clause-listed
steps_of-requires-clause-listed c = tables_listed c.args.tables.now c.requires c.len-count.ensures.once

pub loop-declared-preserved : goal.loop-declared-preserved
loop-declared-preserved c =
    let t = c.args.tables.now in
    let i = c.loop-declared.declared-index in
    let d = c.declared-item.result in
    let low : i < length t.entries = search rules in
    let is : d ≡ get_or t.entries i d = search rules in
    have_next (hierarchy_in t) t.names t.entries i d c.loop-declared.all c.push.new.self c.in_ok-nexts.nexts c.loop-declared.invariant low is c.in_ok-nexts.ensures c.in_ok-push.ensures.ok

pub returns : goal.returns
returns c =
    let t = c.args.tables.now in
    let past : length t.entries ≤ c.loop-declared.declared-index = search rules in
    tables_steps t c.loop-declared.all c.requires c.len-count.ensures.once
    (subst (λ (es : List Declared). HaveSteps (hierarchy_in t) t.names es c.loop-declared.all) (take_all c.loop-declared.declared-index t.entries past) c.loop-declared.invariant)
