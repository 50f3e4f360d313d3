use Rattle.type_hierarchy.specs.Tables.{hierarchy_in}
use Rattle.type_order.proofs.FitLemmas.{reduced_refers, up_refers, up_kept, as_elements, no_elements}
use Rattle.type_order.proofs.FoundLemmas.{knows_more}
use Rattle.type_order.proofs.WalkLemmas.{true_when, false_when, false_apart}
use Rattle.type_order.proofs.fits.compare_arrays.Goals as goal

pub returns-in_err-reduced-clause-known : goal.returns-in_err-reduced-clause-known
returns-in_err-reduced-clause-known c = knows_more (hierarchy_in c.args.tables.now) c.args.pool.now c.is_reduced_alike.new.pool c.args.found.now c.is_reduced_alike.ensures.extends c.requires.known

pub returns-then-reduced-clause-known : goal.returns-then-reduced-clause-known
returns-then-reduced-clause-known c = knows_more (hierarchy_in c.args.tables.now) c.args.pool.now c.is_reduced_alike.new.pool c.args.found.now c.is_reduced_alike.ensures.extends c.requires.known

pub is_object_or_above-requires-clause-known : goal.is_object_or_above-requires-clause-known
is_object_or_above-requires-clause-known c = knows_more (hierarchy_in c.args.tables.now) c.args.pool.now c.is_reduced_alike.new.pool c.args.found.now c.is_reduced_alike.ensures.extends c.requires.known

pub returns-then-reduced-clause-ok : goal.returns-then-reduced-clause-ok
returns-then-reduced-clause-ok c =
    true_when (reduced_refers (hierarchy_in c.args.tables.now) c.args.pool.now c.args.a c.args.b c.args.pair c.requires.pair (c.in_ok-reduced.ensures.ok.0 c.if-reduced.true))

pub returns-then-above-clause-ok : goal.returns-then-above-clause-ok
returns-then-above-clause-ok c =
    let w = hierarchy_in c.args.tables.now in
    let x = c.is_reduced_alike.ensures.extends in
    true_when (up_refers w ((up_kept w c.args.pool.now c.is_reduced_alike.new.pool c.args.a c.args.b x c.requires.a c.requires.b).0 (c.in_ok-above.ensures.ok.0 c.if-above.true)))

pub returns-then-references-clause-ok : goal.returns-then-references-clause-ok
returns-then-references-clause-ok c =
    let w = hierarchy_in c.args.tables.now in
    let x = c.is_reduced_alike.ensures.extends in
    as_elements w c.args.pool.now c.args.a c.args.b c.args.pair c.requires.pair (false_apart c.in_ok-reduced.ensures.ok c.if-reduced.false)
    (λ u. false_apart c.in_ok-above.ensures.ok c.if-above.false ((up_kept w c.args.pool.now c.is_reduced_alike.new.pool c.args.a c.args.b x c.requires.a c.requires.b).1 u)) c.if-references.true

pub returns-else-references-clause-ok : goal.returns-else-references-clause-ok
returns-else-references-clause-ok c =
    let w = hierarchy_in c.args.tables.now in
    let x = c.is_reduced_alike.ensures.extends in
    false_when (no_elements w c.args.pool.now c.args.a c.args.b c.args.pair c.requires.pair (false_apart c.in_ok-reduced.ensures.ok c.if-reduced.false)
    (λ u. false_apart c.in_ok-above.ensures.ok c.if-above.false ((up_kept w c.args.pool.now c.is_reduced_alike.new.pool c.args.a c.args.b x c.requires.a c.requires.b).1 u)) c.if-references.false)
