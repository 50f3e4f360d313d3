use Rattle.std.proofs.Common.{◌≡◌, ◌∙◌, ap, sym, map, Some, true≢false, arith}
use Rattle.std.proofs.lemmas.Option.{same_Some}
use Rattle.hash_places.specs.Slots.{place_of}
use Rattle.image_tokens.specs.declared.found.Entry.{Entry}
use Rattle.image_tokens.proofs.ChainLemmas.{ahead_of-smaller, smaller_next, hashed_next, ahead_next}
use Rattle.image_tokens.proofs.FoundLemmas.{at_map, found_in, missing_in}
use Rattle.image_tokens.proofs.found.Found.find_hashed.Goals as goal

pub is_same-requires-clause-this : goal.is_same-requires-clause-this
is_same-requires-clause-this g c =
    let at = at_map (λ (x : Entry g.row.T.Denot). x.term.now) c.self.inside.entries c.in-Some.place c.at-entry.result.now c.at-entry.ensures in
    let h = c.loop-at.invariant.hashed c.in-Some.place c.in-Some.is in
    c.requires ∙ sym (ap g.T.Term.hash (same_Some c.at-entry.result.now.term.now h.0 (sym at ∙ h.1)) ∙ h.2)

pub returns-then-is_same : goal.returns-then-is_same
returns-then-is_same g c =
    rw (← c.self.view_is) (sym (found_in (λ (e : Entry g.row.T.Denot). e.term.now) (λ e. e.token) g.T.Term.stored
    c.self.inside.entries c.in-Some.place c.at-entry.result.now c.args.term.now c.self.invariant.distinct c.at-entry.ensures (c.is_same.ensures.0 c.if-is_same.true)))

pub returns : goal.returns
returns g c =
    rw (← c.self.view_is) (sym (missing_in (λ (e : Entry g.row.T.Denot). e.term.now) (λ e. e.token) g.T.Term.stored
    c.self.inside.entries c.args.term.now (λ k h. let a = c.loop-at.invariant.ahead k h in let none = c.in_default.is in cc)))

pub loop-at-smaller : goal.loop-at-smaller
loop-at-smaller g c =
    let es = c.self.inside.entries in
    let e = c.at-entry.result.now in
    let term : Entry g.row.T.Denot → g.row.T.Denot = λ x. x.term.now in
    ahead_of-smaller e.next c.loop-at.at c.in-Some.place c.in-Some.is (λ j next.
    smaller_next g.T.Term.hash (place_of c.self.inside.newest) (map (λ (x : Entry g.row.T.Denot). x.term.now) es) (map (λ (x : Entry g.row.T.Denot). x.next) es) c.self.invariant c.args.term.now
    c.in-Some.place j e.term.now (at_map (λ (x : Entry g.row.T.Denot). x.term.now) es c.in-Some.place e c.at-entry.ensures)
    (at_map (λ (x : Entry g.row.T.Denot). x.next) es c.in-Some.place e c.at-entry.ensures ∙ ap Some next))

pub loop-at-preserved : goal.loop-at-preserved
loop-at-preserved g c =
    let es = c.self.inside.entries in
    let e = c.at-entry.result.now in
    let m = c.in-Some.place in
    let at = at_map (λ (x : Entry g.row.T.Denot). x.term.now) es m e c.at-entry.ensures in
    let link = at_map (λ (x : Entry g.row.T.Denot). x.next) es m e c.at-entry.ensures in
    let h = c.loop-at.invariant.hashed m c.in-Some.is in
    let alike : g.T.Term.hash e.term.now ≡ g.T.Term.hash c.args.term.now = ap g.T.Term.hash (same_Some e.term.now h.0 (sym at ∙ h.1)) ∙ h.2 in
    record {
      hashed = λ j next. hashed_next g.T.Term.hash (place_of c.self.inside.newest) (map (λ (x : Entry g.row.T.Denot). x.term.now) es) (map (λ (x : Entry g.row.T.Denot). x.next) es) c.self.invariant c.args.term.now
          m j e.term.now at (link ∙ ap Some next) alike;
      ahead = λ k here.
          let a = c.loop-at.invariant.ahead k here in
          let place : a.0 ≡ m = same_Some a.0 m (sym a.1 ∙ c.in-Some.is) in
          ahead_next g.T.Term.hash (place_of c.self.inside.newest) (map (λ (x : Entry g.row.T.Denot). x.term.now) es) (map (λ (x : Entry g.row.T.Denot). x.next) es) c.self.invariant c.args.term.now
          m k e.term.now e.next at link alike
          (λ same. true≢false (sym (c.is_same.ensures.1 same) ∙ c.if-is_same.false))
          here (omega (arith, a.2));
    }
