use Rattle.std.proofs.Common.{◌≡◌, ℕ, ◌<◌, inl, inr, not, nat_eq, get_or, List, sym, ◌∙◌, ap, arith}
use Rattle.std.proofs.lemmas.Bool.{cases_Bool, eqb-true, eqb-false}
use Rattle.std.proofs.lemmas.List.{get_or_default}
use Rattle.stack_states.specs.Waiting.{Waiting, has}
use Rattle.stack_states.specs.Links.{numbers_in, IsLinked}
use Rattle.stack_states.proofs.LinkLemmas.{held, not_held}
use Rattle.stack_states.proofs.worklist.Worklist.holds.Goals as goal

tells : (before after ks : List ℕ) (count k d : ℕ) → IsLinked before after count ks → k < count → d ≡ get_or after k d → not (nat_eq d k) ≡ has ks k
tells before after ks count k d h below is =
    let e : d ≡ get_or after k 0 = is ∙ get_or_default after k d 0 (omega (arith, h.afters)) in
    elim (cases_Bool (nat_eq d k)) [
      | inl same ↦ ap not same ∙ sym (not_held before after ks count k h (sym e ∙ eqb-true d k same))
      | inr moves ↦ ap not moves ∙ sym (held before after ks count k h below (λ f. eqb-false d k moves (e ∙ f)))
    ]

pub returns : goal.returns
returns c =
    let i = c.self.inside in
    let below : c.args.k < i.count = omega (arith, ap (λ (w : Waiting). w.count) c.self.view_is, c.requires) in
    tells i.before.items i.after.items (numbers_in i.after.items i.count) i.count c.args.k c.index.result.now c.self.invariant below c.index.ensures
    ∙ ap (λ (w : Waiting). has w.numbers c.args.k) c.self.view_is
