use Rattle.std.proofs.Common.{◌≡◌, ℕ, length, subst, rules}
use Rattle.std.proofs.lemmas.List.Elements.{Contains-get_or}
use Rattle.kept_owners.specs.Kept.{RoundSo}
use Rattle.kept_owners.proofs.Rounding.{round_starts, round_more}
use Rattle.kept_owners.proofs.rounds.round.Goals as goal

pub loop-k-init : goal.loop-k-init
loop-k-init c = rw c.new-left.ensures (round_starts c.args.image.now c.args.kept.now c.args.rows.now)

pub look-requires-clause-there : goal.look-requires-clause-there
look-requires-clause-there c = c.requires.there _ (Contains-get_or c.args.rows.now c.loop-k.k 0 c.loop-k-test.true)

pub loop-k-preserved : goal.loop-k-preserved
loop-k-preserved c =
    round_more c.args.image.now c.args.kept.now c.loop-k.kept c.args.rows.now c.loop-k.left c.loop-k.k c.loop-k.invariant c.loop-k-test.true c.look.new.kept c.in_ok-found.found c.note.new.rows
    c.in_ok-found.ensures c.in_ok-note.ensures

pub returns : goal.returns
returns c =
    let all : c.loop-k.k ≡ length c.args.rows.now = search rules in
    subst (λ (n : ℕ). RoundSo c.args.image.now c.args.kept.now c.loop-k.kept c.args.rows.now c.loop-k.left n) all c.loop-k.invariant
