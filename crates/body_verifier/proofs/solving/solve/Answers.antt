use Rattle.std.proofs.Common.{◌≡◌, ◌∙◌, ◌∷◌, [], ◌<◌, ◌≤◌, ◌+◌, ◌*◌, sym, ap, subst, ℕ, arith, length, List, refl}
use Rattle.type_hierarchy.specs.World.{hierarchy}
use Rattle.body_verifier.specs.Potential.{potential, potential_at, total}
use Rattle.code_flow.specs.Typings as typings
use Rattle.stack_states.specs.StateMeanings.{typing_of}
use Rattle.code_flow.specs.declared.goings.Going.{Going}
use Rattle.stack_states.specs.Waiting.{Waiting}
use Rattle.body_verifier.specs.Ways.{IsUnderWay, AreWays, charge, depth_charges, step_budget}
use Rattle.body_verifier.proofs.EdgeStart.{setup_kept, stated_kept, stays_itself}
use Rattle.body_verifier.proofs.SolveLemmas.{cost_of, set_out, set_out_budget, set_out_less, taken_less, goings_at, row_ready, ways_ready, charge_is, first_pushed, taken_budget}
use Rattle.body_verifier.proofs.solving.solve.Goals as goal

pub loop-k-init : goal.loop-k-init
loop-k-init g c =
    let n = c.len.result in
    let long : n ≡ length g.at.frame.code = c.len.ensures ∙ c.requires.1.0.long in
    let some : 0 < n = omega (arith, c.requires.0.some) in
    let first = first_pushed c.in_ok-list.list c.push.new.self _ c.in_ok-list.ensures c.push.ensures in
    let waits : c.push.new.self.numbers ≡ 0 ∷ [] = first.0 in
    let P : List ℕ → Type 0 = λ (xs : List ℕ). IsUnderWay g.at c.args.w.now.nodes c.in_ok-states.states xs in
    let Q : List ℕ → Type 0 = λ (xs : List ℕ).
    potential g.at.height g.at.top (cost_of (length g.at.frame.code) c.args.goings.now) (typing_of c.args.w.now.nodes c.in_ok-states.states) xs (length g.at.frame.code) ≤ step_budget g.at c.args.goings.now in
    let low = subst Q (sym waits) (set_out_budget g.at c.args.w.now c.in_ok-states.states n c.args.goings.now long some c.requires.1.1.0.long c.in_ok-states.ensures) in (
      stays_itself c.args.w.now,
      subst P (sym waits) (set_out g.at c.args.w.now c.in_ok-states.states n long some c.in_ok-states.ensures),
      first.1 ∙ c.len-2.ensures ∙ c.requires.1.0.long,
      omega (arith, low),
      λ d cost deep enough.
          let R : List ℕ → Type 0 = λ (xs : List ℕ).
          potential_at g.at.height g.at.top d cost (typing_of c.args.w.now.nodes c.in_ok-states.states) xs (length g.at.frame.code) ≤ (2 + d * g.at.top) * total cost (length g.at.frame.code) in
          let least = subst R (sym waits) (set_out_less g.at c.args.w.now c.in_ok-states.states n d cost long some c.in_ok-states.ensures) in
          omega (arith, least),
    )

pub follow-requires : goal.follow-requires
follow-requires g c =
    let i = c.loop-k.invariant in
    let keeps = c.keys_keep_their_types.ensures.keys c.args.w.now c.loop-k.w i.0 in
    let numbers : c.loop-k.list.numbers ≡ c.in-Some.k ∷ c.pop.new.self.numbers = ap (λ (w : Waiting). w.numbers) c.in-Some.ensures.taken in
    let count : c.loop-k.list.count ≡ c.pop.new.self.count = ap (λ (w : Waiting). w.count) c.in-Some.ensures.taken in
    let below : c.in-Some.k < length g.at.frame.code = omega (arith, c.in-Some.ensures.below, count, i.2) in
    let P : List ℕ → Type 0 = λ (xs : List ℕ). IsUnderWay g.at c.loop-k.w.nodes c.loop-k.states xs in
    let row = row_ready c.args.w.now c.loop-k.w c.args.rows.now g.at.frame c.in-Some.k c.at-row.result.now c.requires.1.0 i.0 c.at-row.ensures in
    let ways = ways_ready c.args.w.now c.loop-k.w c.args.stated.now g.at.frame c.in-Some.k c.args.goings.now c.at.result.now c.requires.1.1.0 c.requires.1.1.1.0 keeps below c.at.ensures in
    let n = length g.at.frame.code in
    let cost = cost_of n c.args.goings.now in
    let W : List Going → Type 0 = λ (x : List Going). AreWays c.loop-k.w.nodes c.args.stated.now g.at.frame c.in-Some.k x in
    let taken = taken_budget g.at cost (typing_of c.loop-k.w.nodes c.loop-k.states) n c.in-Some.k c.loop-k.list.numbers c.pop.new.self.numbers numbers in
    let charged : cost c.in-Some.k ≡ charge n c.as_slice-from.result.now = charge_is n c.args.goings.now c.in-Some.k c.at.result.now c.at.ensures ∙ ap (charge n) (sym c.as_slice-from.ensures) in
    let room : charge n c.as_slice-from.result.now ≤ potential g.at.height g.at.top cost (typing_of c.loop-k.w.nodes c.loop-k.states) c.loop-k.list.numbers n = omega (arith, taken, charged) in
    (setup_kept c.args.w.now c.loop-k.w g.at i.0 c.requires.0, (subst P numbers i.1, (below, (sym count ∙ i.2, (row.0, (row.1, (stated_kept c.args.w.now c.loop-k.w c.args.stated.now keeps c.requires.1.1.1.0, (subst W (sym c.as_slice-from.ensures) ways, omega (arith, room, i.3, c.requires.1.1.1.1.1)))))))))

pub loop-k-preserved : goal.loop-k-preserved
loop-k-preserved g c =
    let i = c.loop-k.invariant in
    let n = length g.at.frame.code in
    let cost = cost_of n c.args.goings.now in
    let numbers : c.loop-k.list.numbers ≡ c.in-Some.k ∷ c.pop.new.self.numbers = ap (λ (w : Waiting). w.numbers) c.in-Some.ensures.taken in
    let count : c.loop-k.list.count ≡ c.pop.new.self.count = ap (λ (w : Waiting). w.count) c.in-Some.ensures.taken in
    let taken = taken_budget g.at cost (typing_of c.loop-k.w.nodes c.loop-k.states) n c.in-Some.k c.loop-k.list.numbers c.pop.new.self.numbers numbers in
    let charged : cost c.in-Some.k ≡ charge n c.as_slice-from.result.now = charge_is n c.args.goings.now c.in-Some.k c.at.result.now c.at.ensures ∙ ap (charge n) (sym c.as_slice-from.ensures) in
    let less = c.in_ok-follow.ensures.no_more cost in (
      c.keys_keep_their_types.ensures.onward c.args.w.now c.loop-k.w c.follow.new.w i.0 c.in_ok-follow.ensures.stays,
      c.in_ok-follow.ensures.ok,
      c.in_ok-follow.ensures.count ∙ sym count ∙ i.2,
      omega (arith, taken, charged, less, i.3, c.in_ok-follow.ensures.steps),
      λ d m deep enough.
          let typing = typing_of c.loop-k.w.nodes c.loop-k.states in
          let below : c.in-Some.k < length g.at.frame.code = omega (arith, c.in-Some.ensures.below, count, i.2) in
          let one = taken_less g.at d m typing n c.in-Some.k c.loop-k.list.numbers c.pop.new.self.numbers numbers in
          let C : List Going → Type 0 = λ (x : List Going). depth_charges d x ≤ m c.in-Some.k in
          let cheap : (typing c.in-Some.k ≡ typings.unreached → ⊥) → depth_charges d c.as_slice-from.result.now ≤ m c.in-Some.k = λ reached.
          subst C (goings_at c.args.goings.now c.in-Some.k c.at.result.now c.at.ensures ∙ sym c.as_slice-from.ensures) (enough c.in-Some.k typing below i.1.way.below reached) in
          let spent = c.in_ok-follow.ensures.few d (m c.in-Some.k) deep cheap in
          let fell = c.in_ok-follow.ensures.less d deep m in
          omega (arith, one, spent, fell, i.4 d m deep enough),
    )

pub returns-in_err-follow-clause-steps : goal.returns-in_err-follow-clause-steps
returns-in_err-follow-clause-steps g c =
    let i = c.loop-k.invariant in
    let n = length g.at.frame.code in
    let cost = cost_of n c.args.goings.now in
    let numbers : c.loop-k.list.numbers ≡ c.in-Some.k ∷ c.pop.new.self.numbers = ap (λ (w : Waiting). w.numbers) c.in-Some.ensures.taken in
    let taken = taken_budget g.at cost (typing_of c.loop-k.w.nodes c.loop-k.states) n c.in-Some.k c.loop-k.list.numbers c.pop.new.self.numbers numbers in
    let charged : cost c.in-Some.k ≡ charge n c.as_slice-from.result.now = charge_is n c.args.goings.now c.in-Some.k c.at.result.now c.at.ensures ∙ ap (charge n) (sym c.as_slice-from.ensures) in
    omega (arith, taken, charged, i.3, c.in_err-follow.ensures.steps)
