use Rattle.std.proofs.Common.{◌≡◌, ℕ, subst, arith}
use Rattle.twin_numbers.specs.Numbered.{AreNumbered}
use Rattle.twin_numbers.proofs.Numbering.{none_first, none_numbered, one_numbered, all_numbered}
use Rattle.twin_numbers.proofs.numbers.number_twins.Goals as goal

pub loop-k-init : goal.loop-k-init
loop-k-init g c =
    let rows = c.args.rows.now in (
      none_first (g.L.Likeness.rows rows) (g.L.Likeness.alike rows) (g.L.Likeness.hashed rows) c.new-firsts.result c.new-firsts.ensures.linked c.new-firsts.ensures.empty,
      none_numbered (g.L.Likeness.rows rows) (g.L.Likeness.alike rows) (g.L.Likeness.hashed rows) c.new-firsts.result c.in_ok-numbers.numbers c.in_ok-numbers.ensures,
    )

pub number_of-requires-clause-within : goal.number_of-requires-clause-within
number_of-requires-clause-within g c = (omega arith, omega (arith, c.count-k-end.ensures))

pub loop-k-preserved : goal.loop-k-preserved
loop-k-preserved g c =
    let rows = c.args.rows.now in (
      c.in_ok-number.ensures.firsts,
      one_numbered (g.L.Likeness.rows rows) (g.L.Likeness.alike rows) (g.L.Likeness.hashed rows) c.loop-k.firsts c.number_of.new.firsts c.loop-k.k c.in_ok-number.number c.loop-k.numbers c.push.new.self c.in_ok-push.ensures.ok
          c.loop-k.invariant.1 c.in_ok-number.ensures.stay c.in_ok-number.ensures.number,
    )

pub returns : goal.returns
returns g c =
    let rows = c.args.rows.now in
    let all : c.loop-k.k ≡ g.L.Likeness.rows rows = let t = c.loop-k-test.false in let a = c.loop-k.auto.k-end in let e = c.count-k-end.ensures in omega arith in
    all_numbered (g.L.Likeness.rows rows) (g.L.Likeness.alike rows) (g.L.Likeness.hashed rows) c.requires.same c.loop-k.firsts c.loop-k.numbers c.loop-k.invariant.0
    (subst (λ (upto : ℕ). AreNumbered (g.L.Likeness.rows rows) (g.L.Likeness.alike rows) c.loop-k.firsts upto c.loop-k.numbers) all c.loop-k.invariant.1)
