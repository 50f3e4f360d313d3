use Rattle.std.proofs.Common.{◌≡◌, sym, ap, ◌∙◌, subst, None, Option, get_or}
use Rattle.std.specs.Prelude.{unwrap_or}
use Rattle.std.proofs.lemmas.Option.{unwrap_or-slice_get}
use Rattle.code_flow.specs.declared.goings.Carried.{Carried}
use Rattle.stack_states.specs.declared.state.State.{State}
use Rattle.body_verifier.specs.Ways.{brought}
use Rattle.body_verifier.proofs.stated.Stated.along.Goals as goal

pub returns-in-None : goal.returns-in-None
returns-in-None c =
    let s = c.args.self.now in
    let P : Carried → Type 0 = λ (x : Carried). s.nothing ≡ brought s x c.args.after.now in
    let none = c.in-None.ensures in
    subst P (sym c.in-Caught.is) (ap (λ (o : Option State). unwrap_or o s.nothing) none ∙ unwrap_or-slice_get s.caught c.in-Caught.clause s.nothing)
