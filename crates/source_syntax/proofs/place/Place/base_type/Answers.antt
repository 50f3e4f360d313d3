use Rattle.std.proofs.Common.{◌≡◌, sym, subst}
use Rattle.std.specs.Prelude.{IfOk}
use Rattle.source_syntax.proofs.place.Place.base_type.Goals as goal

pub returns-in-Some : goal.returns-in-Some
returns-in-Some c s a x f e head sound each = sym (c.in-Some.ensures s a f c.args.args)

pub returns : goal.returns
returns c s a x f e head sound each =
    let w = c.in_default.ensures s a f c.args.args in
    subst (λ t. IfOk c.made_type.result (λ of. of ≡ t)) (sym w.0) (c.made_type.ensures s a x f e head w.1 sound each)
