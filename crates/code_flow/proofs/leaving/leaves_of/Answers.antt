use Rattle.std.proofs.Common.{◌≡◌, ◌∙◌, ap, sym, refl, ◌+◌, ◌++◌, ◌∷◌, [], drop}
use Rattle.std.proofs.lemmas.List.{append_assoc, append-nil, drop_more}
use Rattle.code_flow.specs.GoingTests.{leaves_at, leaves_from}
use Rattle.code_flow.proofs.ExitLemmas.{leaves_here, low_leaves, low_none, starts_more}
use Rattle.code_flow.proofs.Members.{none}
use Rattle.code_flow.proofs.leaving.leaves_of.Goals as goal

pub loop-ins-init : goal.loop-ins-init
loop-ins-init c = (ap (λ l. l ++ leaves_from 0 c.args.code.now) c.new-all.ensures, refl, low_none c.new-all.result c.in_ok-starts.starts.items c.new-all.ensures c.in_ok-starts.ensures.items)

pub loop-ins-preserved : goal.loop-ins-preserved
loop-ins-preserved c =
    let code = c.args.code.now in
    let k = c.loop-ins.ins-index in
    let at = c.loop-ins.at in
    let i = c.ins-item.result in
    let old = c.loop-ins.all in
    let rest = leaves_from (at + 1) (drop (k + 1) code) in
    let split : drop k code ≡ i ∷ drop (k + 1) code = drop_more code k i c.loop-ins-test.true ∙ ap (λ x. x ∷ drop (k + 1) code) (sym c.ins-item.is) in (
      ap (λ l. l ++ rest) c.in_ok-add_leaves_at.ensures ∙ append_assoc old (leaves_at at i) rest ∙ ap (λ l. old ++ leaves_from at l) (sym split) ∙ c.loop-ins.invariant.0,
      ap (λ n. n + 1) c.loop-ins.invariant.1,
      low_leaves old (leaves_at at i) c.add_leaves_at.new.leaves c.loop-ins.starts.items c.push.new.self.items at c.loop-ins.invariant.2 (leaves_here at i) c.in_ok-add_leaves_at.ensures
          (c.in_ok-push.ensures.items ∙ ap (λ n. c.loop-ins.starts.items ++ n ∷ []) c.len.ensures),
    )

pub invariant_of-result : goal.invariant_of-result
invariant_of-result c =
    starts_more c.loop-ins.all [] c.loop-ins.all c.loop-ins.starts.items c.push-2.new.self.items c.loop-ins.at c.loop-ins.invariant.2 (λ x d. absurd (none x d)) (sym (append-nil c.loop-ins.all))
    (c.in_ok-push-2.ensures.items ∙ ap (λ n. c.loop-ins.starts.items ++ n ∷ []) c.len-2.ensures)
