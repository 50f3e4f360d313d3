use Rattle.std.proofs.Common.{sym, subst, ℕ, ◌<◌, ◌^◌}
use Rattle.image_tokens.specs.Loaded.{AreUnits}
use Rattle.image_tokens.specs.Members.{HasLoaded}
use Rattle.image_tokens.proofs.GivenLemmas.{loaded_given, room_for_units}
use Rattle.image_tokens.proofs.LeavesLemmas.{leaves_there}
use Rattle.image_tokens.proofs.user_texts.refer_loaded.Goals as goal

pub returns-in-Some : goal.returns-in-Some
returns-in-Some c = leaves_there (HasLoaded c.args.units.now) c.args.refs.now 0 c.in-Some.token c.requires.known (sym c.in-Some.ensures)

pub add_units-requires : goal.add_units-requires
add_units-requires c = room_for_units c.args.refs.now c.args.units.now c.requires.loadable c.requires.room

pub token_of-requires : goal.token_of-requires
token_of-requires c =
    let at = c.requires.loadable in
    subst (λ (k : ℕ). k < 2 ^ 24) (sym (c.in_ok-index.ensures.known at.0 at.1)) at.2

pub returns : goal.returns
returns c =
    let at = c.requires.loadable in
    let less = subst (λ (k : ℕ). k < 2 ^ 24) (sym (c.in_ok-index.ensures.known at.0 at.1)) at.2 in
    loaded_given c.args.refs.now c.add_units.new.user c.give.new.self c.args.units.now c.in_ok-index.index c.token_of.result c.give.result c.requires.known
    (subst AreUnits c.as_slice.ensures c.units_fit.ensures) (c.add_units.ensures.same at.0 at.1) c.add_units.ensures.keeps c.in_ok-index.ensures.holds (record { is = c.token_of.ensures; fits = less }) c.give.ensures.found c.give.ensures.kept
