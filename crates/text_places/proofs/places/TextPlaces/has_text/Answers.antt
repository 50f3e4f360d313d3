use Rattle.std.proofs.Common.{◌≡◌, ℕ, ◌<◌, ◌≤◌, IsTrue, true, false, refl, arith, length, sym, ap, ◌∙◌, subst}
use Rattle.std.proofs.lemmas.Bool.{ltb-false}
use Rattle.text_places.proofs.Fronts.{text_within}
use Rattle.text_places.proofs.places.TextPlaces.has_text.Goals as goal

pub returns-in-None : goal.returns-in-None
returns-in-None c = (
  λ never. cc,
  λ h.
      let inside : c.args.at < length c.args.self.now = text_within c.args.self.now c.args.at c.if-at-eq0.false h.0 h.1 in
      let past = ltb-false c.args.at (length c.deref.result.now) (sym c.in-None.ensures.lookup.0) in
      let same = ap length c.deref.ensures.value in
      let long = c.self.invariant.long in
      let seen = ap length c.self.view_is in
      absurd (omega arith),
)
