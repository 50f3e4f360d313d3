use Rattle.std.proofs.Common.{◌≡◌, ℕ, ◌≤◌, List, Some, map, sym, ◌∙◌, ap}
use Rattle.std.specs.Prelude.{slice_get}
use Rattle.std.proofs.lemmas.Option.{slice_get-map, same_Some}
use Rattle.std.proofs.lemmas.Bool.{false≢true}
use Rattle.std.specs.Option.{option_map}
use Rattle.heaps.specs.Hash.{hash_of}
use Rattle.heaps.specs.Finds.{content_of}
use Rattle.heaps.specs.declared.chains.Place.{Place}
use Rattle.heaps.proofs.ChainLemmas.{ahead_of-smaller, smaller_next, hashed_next, ahead_next}
use Rattle.heaps.proofs.chains.Chains.find.Goals as goal

-- the content of the entry at m, and its link
content_here : (bytes : List ℕ) (places : List Place) (m : ℕ) (place : Place) → slice_get places m ≡ Some place
    → slice_get (map (content_of bytes) places) m ≡ Some (content_of bytes place)
content_here bytes places m place at = slice_get-map (content_of bytes) places m ∙ ap (option_map (content_of bytes)) at

link_here : (places : List Place) (m : ℕ) (place : Place) → slice_get places m ≡ Some place
    → slice_get (map (λ p. p.next) places) m ≡ Some place.next
link_here places m place at = slice_get-map (λ p. p.next) places m ∙ ap (option_map (λ (p : Place). p.next)) at

pub loop-at-smaller : goal.loop-at-smaller
loop-at-smaller c =
    let m = c.in-Some.number in
    let place = c.at-place.result.now in
    let here = content_here c.args.bytes.now c.args.self.now.places m place c.at-place.ensures in
    let link = link_here c.args.self.now.places m place c.at-place.ensures in
    ahead_of-smaller place.next c.loop-at.at m c.in-Some.is
    (λ j is. smaller_next hash_of _ _ _ c.requires.chained c.args.content.now m j (content_of c.args.bytes.now place) here (link ∙ ap Some is))

pub loop-at-preserved : goal.loop-at-preserved
loop-at-preserved c =
    let m = c.in-Some.number in
    let place = c.at-place.result.now in
    let content = content_of c.args.bytes.now place in
    let here = content_here c.args.bytes.now c.args.self.now.places m place c.at-place.ensures in
    let link = link_here c.args.self.now.places m place c.at-place.ensures in
    let was = c.loop-at.invariant.hashed m c.in-Some.is in
    let same : hash_of content ≡ hash_of c.args.content.now
    = ap hash_of (same_Some content was.0 (sym here ∙ was.1)) ∙ was.2 in
    let other : content ≡ c.args.content.now → ⊥
    = λ e. false≢true (sym c.if-are_equal.false ∙ c.are_equal.ensures.1 (c.content_at.ensures ∙ e)) in
    record {
      hashed = λ j is. hashed_next hash_of _ _ _ c.requires.chained c.args.content.now m j content here (link ∙ ap Some is) same;
      ahead = λ k at. let a = c.loop-at.invariant.ahead k at in
          let e = same_Some a.0 m (sym a.1 ∙ c.in-Some.is) in
          let below : k ≤ m = rw e at a.2 in
          ahead_next hash_of _ _ _ c.requires.chained c.args.content.now m k content place.next here link same other at below;
    }
