use Rattle.std.proofs.Common.{◌≡◌, ℕ, ◌≤◌, Some, sym, ◌∙◌, ap, arith}
use Rattle.std.specs.Prelude.{slice_get, position, bytes_eq}
use Rattle.std.proofs.lemmas.Option.{same_Some}
use Rattle.std.proofs.lemmas.Slice.Eq.{bytes_eq-Decides}
use Rattle.hash_places.specs.Slots.{place_of}
use Rattle.source_nodes.specs.ChainedTexts.{text_in, texts_in}
use Rattle.source_nodes.specs.TextHash.{text_hash}
use Rattle.source_nodes.proofs.ChainLemmas.{ahead_next, ahead_of-smaller, hashed_next, smaller_next}
use Rattle.source_nodes.proofs.FirstLemmas.{newest_is_first, absent_is_nowhere}
use Rattle.source_nodes.proofs.TextLemmas.{next_is, text_is, texts_long}
use Rattle.source_nodes.proofs.chained_names.ChainedNames.find.Goals as goal

pub returns-then-are_equal : goal.returns-then-are_equal
returns-then-are_equal c =
    let texts = c.self.inside.texts in
    let names = c.self.inside.names in
    let is : text_in texts c.at-name.result.now ≡ c.args.text.now =
    ap (λ ts. text_in ts c.at-name.result.now) (sym c.as_slice.ensures) ∙ sym c.text_in.ensures
    ∙ (bytes_eq-Decides c.text_in.result.now c.args.text.now).0 (sym c.are_equal.ensures ∙ c.if-are_equal.true) in
    let at : slice_get (texts_in texts names) c.in-Some.place ≡ Some c.args.text.now = text_is texts names c.in-Some.place c.at-name.result.now c.at-name.ensures ∙ ap Some is in
    let last : (k : ℕ) → slice_get (texts_in texts names) k ≡ Some c.args.text.now → k ≤ c.in-Some.place = λ k here.
    let a = c.loop-at.invariant.ahead k here in
    let same = same_Some a.0 c.in-Some.place (sym a.1 ∙ c.in-Some.is) in
    omega (arith, a.2, same) in
    sym (newest_is_first (texts_in texts names) c.in-Some.place c.len.result c.args.text.now at last (c.len.ensures ∙ sym (texts_long texts names)))
    ∙ ap (position (bytes_eq c.args.text.now)) c.self.view_is

pub loop-at-smaller : goal.loop-at-smaller
loop-at-smaller c =
    let texts = c.self.inside.texts in
    let names = c.self.inside.names in
    ahead_of-smaller c.at-name.result.now.next c.loop-at.at c.in-Some.place c.in-Some.is
    (λ j is. smaller_next text_hash (place_of c.self.inside.newest) (texts_in texts names) _ c.self.invariant.chained c.args.text.now c.in-Some.place j _
    (text_is texts names c.in-Some.place c.at-name.result.now c.at-name.ensures) (next_is names c.in-Some.place c.at-name.result.now c.at-name.ensures ∙ ap Some is))

pub loop-at-preserved : goal.loop-at-preserved
loop-at-preserved c =
    let texts = c.self.inside.texts in
    let names = c.self.inside.names in
    let found = c.self.invariant.chained in
    let h = c.loop-at.invariant.hashed c.in-Some.place c.in-Some.is in
    let at = text_is texts names c.in-Some.place c.at-name.result.now c.at-name.ensures in
    let next = next_is names c.in-Some.place c.at-name.result.now c.at-name.ensures in
    let same : h.0 ≡ text_in texts c.at-name.result.now = same_Some h.0 (text_in texts c.at-name.result.now) (sym h.1 ∙ at) in
    let text : c.text_in.result.now ≡ text_in texts c.at-name.result.now = c.text_in.ensures ∙ ap (λ ts. text_in ts c.at-name.result.now) c.as_slice.ensures in
    let apart : h.0 ≡ c.args.text.now → ⊥ = λ e.
    let yes = (bytes_eq-Decides c.text_in.result.now c.args.text.now).1 (text ∙ sym same ∙ e) in
    let no = sym c.are_equal.ensures ∙ c.if-are_equal.false in
    absurd cc in
    record {
      hashed = λ m is. hashed_next text_hash _ (texts_in texts names) _ found c.args.text.now c.in-Some.place m h.0 h.1 (next ∙ ap Some is) h.2;
      ahead = λ k here.
          let a = c.loop-at.invariant.ahead k here in
          let last = same_Some a.0 c.in-Some.place (sym a.1 ∙ c.in-Some.is) in
          ahead_next text_hash _ (texts_in texts names) _ found c.args.text.now c.in-Some.place k h.0 c.at-name.result.now.next h.1 next h.2 apart here (omega (arith, a.2, last));
    }

pub returns : goal.returns
returns c =
    sym (absent_is_nowhere (texts_in c.self.inside.texts c.self.inside.names) c.args.text.now
    (λ k here. let a = c.loop-at.invariant.ahead k here in let no = sym a.1 ∙ c.in_default.is in absurd cc))
    ∙ ap (position (bytes_eq c.args.text.now)) c.self.view_is
