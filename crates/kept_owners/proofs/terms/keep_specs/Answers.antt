use Rattle.std.proofs.Common.{arith, rules, length, ◌≡◌}
use Rattle.kept_owners.proofs.Keeping.{goes_same, goes_on}
use Rattle.kept_owners.proofs.Rounding.{all_left, left_after, is_done}
use Rattle.kept_owners.proofs.terms.keep_specs.Goals as goal

pub rounds-init : goal.rounds-init
rounds-init c = (all_left c.args.image.now c.args.kept.now c.in_ok-left.left c.in_ok-left.ensures.wanted, goes_same c.args.image.now c.args.kept.now)

pub round-requires-clause-there : goal.round-requires-clause-there
round-requires-clause-there c = rw c.as_slice.ensures (λ row has. (c.rounds.invariant.0.wanted row has).0)

pub rounds-preserved : goal.rounds-preserved
rounds-preserved c =
    let so = rw c.as_slice.ensures at c.in_ok-now.ensures in (
      left_after c.args.image.now c.rounds.kept c.round.new.kept c.rounds.left c.in_ok-now.now c.rounds.invariant.0 so,
      goes_on c.args.image.now c.args.kept.now c.rounds.kept c.round.new.kept c.rounds.invariant.1 so.goes,
    )

pub rounds-smaller : goal.rounds-smaller
rounds-smaller c =
    let so = rw c.as_slice.ensures at c.in_ok-now.ensures in
    let few = so.few in
    omega (arith, few)

pub returns-clause-goes : goal.returns-clause-goes
returns-clause-goes c =
    let so = rw c.as_slice.ensures at c.in_ok-now.ensures in
    goes_on c.args.image.now c.args.kept.now c.rounds.kept c.round.new.kept c.rounds.invariant.1 so.goes

pub returns-clause-done : goal.returns-clause-done
returns-clause-done c =
    let so = rw c.as_slice.ensures at c.in_ok-now.ensures in
    let same : length c.in_ok-now.now ≡ length c.rounds.left = search rules in
    is_done c.args.image.now c.rounds.kept c.round.new.kept c.rounds.left c.in_ok-now.now c.rounds.invariant.0 so same
