use Rattle.std.proofs.Common.{◌≡◌, ◌∙◌, sym, ap, Some, slice_get, drop}
use Rattle.code_flow.proofs.RegionLemmas.{nests_all_behind}
use Rattle.code_flow.proofs.clauses.Clauses.nests_behind.Goals as goal

pub returns-then-end-low : goal.returns-then-end-low
returns-then-end-low c =
    let e : slice_get c.self.inside.lowest.items c.args.k ≡ Some c.in-Some.low = ap (λ l. slice_get l c.args.k) (sym c.as_slice.ensures.value) ∙ sym c.lowest_at.ensures ∙ c.in-Some.is in
    let behind : c.args.behind.now ≡ drop c.args.k c.self.inside.all = rw c.self.view_is c.requires in
    sym (nests_all_behind c.self.inside.all c.args.behind.now c.self.inside.lowest.items c.args.k c.end.result c.in-Some.low c.args.clause.now c.self.invariant.2 e c.end.ensures c.if-end-low.true behind)
