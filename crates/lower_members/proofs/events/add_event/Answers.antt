use Rattle.std.proofs.Common.{◌≡◌, ◌++◌, [], ◌∷◌, length, map, ap, sym, subst, ◌∙◌, arith}
use Rattle.std.specs.Prelude.{◌==◌}
use Rattle.std.proofs.lemmas.Bool.Decides.{Decides-eqb}
use Rattle.ilasm_grammar.specs.declared.productions.TheConstants.{EVENT, MEMBER_EVENT}
use Rattle.source_model.specs.Forest.{preorder, the}
use Rattle.source_model.specs.Members.{event, events_in}
use Rattle.source_nodes.specs.Derived.{FitsBody}
use Rattle.source_syntax.proofs.ReferenceLemmas.{sound_part}
use Rattle.source_syntax.proofs.SizeLemmas.{the_smaller}
use Rattle.source_flags.specs.InRange.{IsInRange}
use Rattle.lower_members.proofs.HeldParts.{event_in}
use Rattle.lower_members.proofs.PropertyLemmas.{picked_one, went_well}
use Rattle.lower_members.proofs.events.add_event.Goals as goal

pub event-requires-clause-few : goal.event-requires-clause-few
event-requires-clause-few c =
    let f = c.requires.forest in
    let below : length c.the.result.now ≡ length (preorder (the EVENT f.0)) = ap length (c.the.ensures f.0 f.1) in
    omega (arith, below, the_smaller EVENT f.0, ap length f.1, c.requires.few)

pub returns-in_ok-one : goal.returns-in_ok-one
returns-in_ok-one c s a x p ms e below own methods few =
    let is : p.production ≡ MEMBER_EVENT = sym e ∙ c.if-production-eq-MEMBER_EVENT.true in
    let part = sound_part (IsInRange s) EVENT p.below own.1 (event_in s p.below (subst (λ q. FitsBody s q p.below) is own.0.fits)) in
    let one = c.in_ok-one.ensures s a x (the EVENT p.below) ms (sym (c.the.ensures p.below below)) part.0 part.1 methods few in
    let picked = picked_one (λ q. q.production == MEMBER_EVENT) (λ q. the EVENT q.below) (event s a ms) p ((Decides-eqb p.production MEMBER_EVENT).1 is) in
    went_well c.push.result (c.push.new.self ≡ c.args.all.now ++ c.in_ok-one.one ∷ []) (c.push.new.self ≡ c.args.all.now ++ map (event s a ms) (events_in (p ∷ [])))
    (λ pushed. pushed ∙ ap (λ o. c.args.all.now ++ o ∷ []) one ∙ ap (λ os. c.args.all.now ++ os) (sym picked)) c.push.ensures.ok
