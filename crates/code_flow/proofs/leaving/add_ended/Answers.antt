use Rattle.std.proofs.Common.{arith, refl, ◌≡◌, ◌∙◌, ap, sym, subst, List, length, take, ◌<◌, ◌+◌, ◌++◌, ◌∷◌, []}
use Rattle.std.proofs.lemmas.List.{take_more, append-nil, take_all}
use Rattle.std.proofs.lemmas.Grind.{flat_map-append}
use Rattle.std.proofs.lemmas.Option.{get_or_from_slice_get}
use Rattle.code_flow.specs.declared.goings.Going.{Going}
use Rattle.code_flow.specs.GoingTests.{AddsSame}
use Rattle.code_flow.specs.Leaving.{ended_by}
use Rattle.code_flow.proofs.ExitLemmas.{adds_more, adds_none, ends_near, picks_at, ends_among}
use Rattle.code_flow.proofs.leaving.add_ended.Goals as goal

pub loop-j-init : goal.loop-j-init
loop-j-init c = λ leaves have. adds_none c.args.goings.now

pub loop-j-preserved : goal.loop-j-preserved
loop-j-preserved c = λ leaves have.
    let all = c.args.clauses.now in
    let k = c.args.k in
    let near = c.near.result.now.placed in
    let j = c.loop-j.j in
    let p = c.at-clause.result.now in
    let f = ended_by all leaves k in
    let n = c.len-j-end.ensures in
    let test = c.loop-j-test.true in
    let less : j < length near = omega (arith, n, test) in
    let at = picks_at all refl c.near.ensures.picks j p c.at-clause.ensures in
    let more : take (j + 1) near ≡ take j near ++ p ∷ [] = take_more near j p less ∙ ap (λ x. take j near ++ x ∷ []) (get_or_from_slice_get near j p p c.at-clause.ensures) in
    let is = ap (ends_among all leaves k) more ∙ flat_map-append f (take j near) (p ∷ []) ∙ ap (λ l. ends_among all leaves k (take j near) ++ l) (append-nil (f p)) in
    subst (λ (l : List Going). AddsSame c.args.goings.now c.add_ended_of.new.goings l) (sym is)
    (adds_more c.args.goings.now c.loop-j.goings c.add_ended_of.new.goings (ends_among all leaves k (take j near)) (f p) (c.loop-j.invariant leaves have) (c.in_ok-add_ended_of.ensures leaves have at))

pub returns : goal.returns
returns c = λ leaves have.
    let all = c.args.clauses.now in
    let k = c.args.k in
    let near = c.near.result.now in
    let n = c.len-j-end.ensures in
    let whole = ap (ends_among all leaves k) (take_all c.loop-j.j near.placed (omega (arith, c.loop-j-test.false))) ∙ ends_near all leaves k near c.near.ensures refl c.near.ensures.picks in
    subst (λ (l : List Going). AddsSame c.args.goings.now c.loop-j.goings l) whole (c.loop-j.invariant leaves have)
