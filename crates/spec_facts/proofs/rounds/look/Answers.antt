use Rattle.std.proofs.Common.{rules, sym, Some}
use Rattle.std.specs.Prelude.{slice_set}
use Rattle.spec_facts.proofs.Going.{going_found}
use Rattle.spec_facts.proofs.Lists.{set_long, one_known}
use Rattle.spec_facts.proofs.Sound.{sound_more}
use Rattle.spec_facts.proofs.rounds.look.Goals as goal

pub returns-in-Some-clause-step : goal.returns-in-Some-clause-step
returns-in-Some-clause-step g c = λ old so.
    let image = c.args.image.now in
    let names = g.N.Owners.facts c.args.names.now in
    let places = c.args.distinct.now.places in
    let heads = c.args.distinct.now.heads in
    let facts = c.args.facts.now in
    going_found image names places heads old facts (slice_set facts c.args.place (Some c.in-Some.found)) c.args.before c.args.place so (set_long facts c.args.place (Some c.in-Some.found))
    (λ whole tells sound.
    sound_more image names whole tells places heads c.requires.placed facts sound c.requires.each c.args.place c.at-index.result.now c.in-Some.found c.requires.within c.at-index.ensures (sym (search rules)))
    (one_known facts c.args.place c.in-Some.found (c.is_unknown.ensures.0 (search rules)))
