use Rattle.std.proofs.Common.{◌≡◌, ℕ, IsTrue, true, false, refl, List, subst, Option, Some, None}
use Rattle.std.specs.Prelude.{IfSome, IfNone}
use Rattle.image_model.specs.declared.place.Place.TheVariants.{Row, Whole}
use Rattle.image_model.specs.Cells.{HasEntry}
use Rattle.image_model.specs.Faults.{IsImageFault, in_entry}
use Rattle.row_demands.proofs.Faulted.{fault_in_indexes, fault_in_entries, fault_in_manifest, fault_in_runs, fault_in_order, told, of_some, of_none}
use Rattle.row_demands.proofs.first.first_unmet.Goals as goal

pub returns-in-Some : goal.returns-in-Some
returns-in-Some c =
    let at = c.in-Some.at in
    told c.args.image.now 8 (Row at.0 at.1) c.at_row.result.at c.at_row.result.rule c.at_row.ensures.rule c.at_row.ensures.at
    (fault_in_indexes c.args.image.now c.tables-tables.ensures.meets at.0 at.1 c.in-Some.ensures.bad)

pub returns-then-not-has_entry : goal.returns-then-not-has_entry
returns-then-not-has_entry c =
    in_entry c.tables-tables.ensures.meets c.in_default.ensures.none (λ entry. let yes = c.has_entry.ensures.1 entry in let n = c.if-not-has_entry.true in cc)

pub returns-in-Some-2 : goal.returns-in-Some-2
returns-in-Some-2 c =
    let at = c.in-Some-2.at in
    told c.args.image.now 9 (Row at.0 at.1) c.at_row-in-Some-2.result.at c.at_row-in-Some-2.result.rule c.at_row-in-Some-2.ensures.rule c.at_row-in-Some-2.ensures.at
    (fault_in_entries c.args.image.now c.tables-tables.ensures.meets c.in_default.ensures.none (c.has_entry.ensures.0 c.if-not-has_entry.false) at.0 at.1
    (of_some _ _ at c.in-Some-2.is c.in_ok-at.ensures.bad))

pub returns-in-Some-bad_manifest : goal.returns-in-Some-bad_manifest
returns-in-Some-bad_manifest c =
    let at = c.in-Some-bad_manifest.at in
    let r = c.at_row-in-Some-bad_manifest in
    told c.args.image.now 10 (Row at.0 at.1) r.result.at r.result.rule r.ensures.rule r.ensures.at
    (fault_in_manifest c.args.image.now c.tables-tables.ensures.meets c.in_default.ensures.none (c.has_entry.ensures.0 c.if-not-has_entry.false)
    (of_none _ _ c.in_default-2.is c.in_ok-at.ensures.none) at.0 at.1 c.in-Some-bad_manifest.ensures.bad)

pub returns-in-Some-3 : goal.returns-in-Some-3
returns-in-Some-3 c =
    let at = c.in-Some-3.at in
    let r = c.at_row-in-Some-3 in
    told c.args.image.now 11 (Row at.0 at.1) r.result.at r.result.rule r.ensures.rule r.ensures.at
    (fault_in_runs c.args.image.now c.tables-tables.ensures.meets c.in_default.ensures.none (c.has_entry.ensures.0 c.if-not-has_entry.false)
    (of_none _ _ c.in_default-2.is c.in_ok-at.ensures.none) c.in_default-bad_manifest.ensures.none at.0 at.1 (of_some _ _ at c.in-Some-3.is c.in_ok-at-2.ensures.bad))

pub returns-in-Some-bad_order : goal.returns-in-Some-bad_order
returns-in-Some-bad_order c =
    let at = c.in-Some-bad_order.at in
    let r = c.at_row-in-Some-bad_order in
    told c.args.image.now 12 (Row at.0 at.1) r.result.at r.result.rule r.ensures.rule r.ensures.at
    (fault_in_order c.args.image.now c.tables-tables.ensures.meets c.in_default.ensures.none (c.has_entry.ensures.0 c.if-not-has_entry.false)
    (of_none _ _ c.in_default-2.is c.in_ok-at.ensures.none) c.in_default-bad_manifest.ensures.none (of_none _ _ c.in_default-3.is c.in_ok-at-2.ensures.none)
    at.0 at.1 c.in-Some-bad_order.ensures.bad)
