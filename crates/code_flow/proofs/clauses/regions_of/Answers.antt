use Rattle.std.proofs.Common.{arith, ◌≡◌, ◌∙◌, ◌<◌, ◌≤◌, ap, sym, subst, ℕ, ◌++◌, ◌∷◌, [], List, length, take}
use Rattle.std.proofs.lemmas.List.{take_more, length-take-le, take_all}
use Rattle.std.proofs.lemmas.Option.{get_or_from_slice_get}
use Rattle.code_flow.specs.declared.blocks.Spans.{Spans}
use Rattle.code_flow.specs.Regions.{AddsClause, HaveRegions}
use Rattle.code_flow.proofs.RegionLemmas.{no_clauses, regions_more}
use Rattle.code_flow.proofs.clauses.regions_of.Goals as goal

pub loop-place-init : goal.loop-place-init
loop-place-init c = no_clauses c.new-regions.result.items c.new-regions.ensures.items

pub loop-place-preserved : goal.loop-place-preserved
loop-place-preserved c =
    let clauses = c.args.clauses.now in
    let i = c.loop-place.place in
    let s = c.at-clause.result.now in
    let old = c.loop-place.regions.items in
    let new = c.add_clause.new.regions.items in
    let count = c.len-count.ensures in
    let less = c.loop-place-test.true in
    let h : i < length clauses = omega (arith, count, less) in
    let le : i ≤ length clauses = omega (arith, h) in
    let p : length (take i clauses) ≡ i = length-take-le i clauses le in
    let adds = subst (λ (n : ℕ). AddsClause n s old new) (sym p) c.in_ok-add_clause.ensures in
    subst (λ (l : List Spans). HaveRegions l new) (ap (λ x. take i clauses ++ x ∷ []) (sym (get_or_from_slice_get clauses i s s c.at-clause.ensures)) ∙ sym (take_more clauses i s h))
    (regions_more (take i clauses) s old new c.loop-place.invariant adds)

pub returns : goal.returns
returns c =
    let e = c.len-count.ensures in
    subst (λ (l : List Spans). HaveRegions l c.loop-place.regions.items) (take_all c.loop-place.place c.args.clauses.now (omega (arith, c.loop-place-test.false))) c.loop-place.invariant
