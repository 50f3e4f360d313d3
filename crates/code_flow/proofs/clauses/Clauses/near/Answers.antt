use Rattle.std.proofs.Common.{◌≡◌, ◌∙◌, sym, ap, ◌/◌, None, Some, slice_get}
use Rattle.std.specs.Option.{option_copied}
use Rattle.code_flow.proofs.RegionLemmas.{near_some, near_none}
use Rattle.code_flow.proofs.clauses.Clauses.near.Goals as goal

pub returns-in-Some : goal.returns-in-Some
returns-in-Some c =
    let e : slice_get c.self.inside.regions.items (c.args.k / 16) ≡ Some c.in-Some.region.now =
    ap (λ l. slice_get l (c.args.k / 16)) (sym c.as_slice.ensures.value) ∙ sym c.region_at.ensures ∙ ap option_copied c.in-Some.is in
    rw (← c.self.view_is) (near_some c.args.k c.self.inside.all c.self.inside.regions.items c.in-Some.region.now c.self.invariant.0 e)

pub returns-in-None : goal.returns-in-None
returns-in-None c =
    let e : slice_get c.self.inside.regions.items (c.args.k / 16) ≡ None =
    ap (λ l. slice_get l (c.args.k / 16)) (sym c.as_slice.ensures.value) ∙ sym c.region_at.ensures ∙ ap option_copied c.in-None.is in
    rw (← c.self.view_is) (near_none c.args.k c.self.inside.all c.self.inside.regions.items c.self.inside.none c.self.invariant.0 c.self.invariant.1 e)
