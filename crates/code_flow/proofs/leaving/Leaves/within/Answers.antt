use Rattle.std.proofs.Common.{◌≡◌, ◌∙◌, ap, sym, ◌-◌, Some, slice_get, take, drop}
use Rattle.std.specs.List.{flat_map}
use Rattle.code_flow.proofs.ExitLemmas.{split_range}
use Rattle.code_flow.proofs.leaving.Leaves.within.Goals as goal

pub returns-then-end-all : goal.returns-then-end-all
returns-then-end-all c = λ f away.
    let all = c.self.inside.all in
    let starts = c.self.inside.starts.items in
    let first = c.in-Some.first in
    let end = c.in-Some-count_at.end in
    let a : slice_get starts c.args.span.start ≡ Some first = ap (λ l. slice_get l c.args.span.start) (sym c.as_slice-starts.ensures.value) ∙ sym c.count_at.ensures ∙ c.in-Some.is in
    let b : slice_get starts c.args.span.end ≡ Some end = ap (λ l. slice_get l c.args.span.end) (sym c.as_slice-starts.ensures.value) ∙ sym c.count_at-2.ensures ∙ c.in-Some-count_at.is in
    ap (λ l. flat_map f (take (end - first) (drop first l))) c.as_slice-all.ensures
    ∙ split_range all c.args.span first end (c.self.invariant c.args.span.start first a) (c.self.invariant c.args.span.end end b) c.if-first-end.true f away ∙ ap (flat_map f) c.self.view_is
