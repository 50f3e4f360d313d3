use Rattle.std.proofs.Common.{◌∙◌, ap, refl, sym, subst}
use Rattle.std.specs.Prelude.{is_some, not}
use Rattle.source_model.specs.Forest.{the}
use Rattle.source_nodes.specs.Derived.{FitsBody}
use Rattle.source_syntax.proofs.ReferenceLemmas.{sound_part}
use Rattle.check_visitor.specs.Surroundings.{HasParameters, IsSurrounding}
use Rattle.check_members.proofs.AccessorLemmas.{no_part_found, part_found, turned_back}
use Rattle.check_visitor.proofs.AskingLemmas.{node_of, same_around}
use Rattle.check_members.proofs.reference_reading.keeps_part.Goals as goal

pub returns-then-not-has : goal.returns-then-not-has
returns-then-not-has g c s a f r p h e bodies plain nothing =
    no_part_found (g.R.Rule.broken c.args.rule.now) s a c.args.production f (sym (c.has.ensures f e) ∙ c.if-not-has.true) nothing

pub returns : goal.returns
returns g c s a f r p h e bodies plain nothing =
    let broken = g.R.Rule.broken c.args.rule.now in
    let q = c.args.production in
    let x = the q f in
    let below = sym (c.the-below.ensures f e) in
    let part = sound_part (FitsBody s) q f bodies (sym (c.has.ensures f e) ∙ c.if-not-has.false) in
    let same = sym (same_around broken s a q x plain) in
    turned_back c.is_none.result (is_some c.sooner.result) (sym c.is_none.ensures) ∙ ap (λ x. not (is_some x)) c.sooner.ensures
    ∙ part_found broken s a q f c.in_ok-own.own c.in_ok-within.within plain
    (c.in_ok-own.ensures s (node_of broken s a q x) r (record { production-is = refl; below-is = below; place = subst (IsSurrounding c.args.place.now) same p })
    (record { fits = part.0; bodies = part.1; parameters = subst (HasParameters s c.args.place.now) same h }))
    (c.in_ok-within.ensures s a x r p below part.1 h)
