use Rattle.row_groups.proofs.Owning.{last_has, only_owner}
use Rattle.row_groups.proofs.owners.owner_of.Goals as goal

pub returns-clause-owns : goal.returns-clause-owns
returns-clause-owns c =
    let i = c.loop-last.invariant in
    (last_has c.args.image.now c.args.owners.table c.args.owners.column c.args.owners.members c.requires.rise c.args.member c.loop-last.last c.loop-last.end
    i.some i.order c.loop-last-test.false i.within i.begins i.next c.requires.there.1).1

pub returns-clause-only : goal.returns-clause-only
returns-clause-only c other there has =
    let i = c.loop-last.invariant in
    let l = last_has c.args.image.now c.args.owners.table c.args.owners.column c.args.owners.members c.requires.rise c.args.member c.loop-last.last c.loop-last.end
    i.some i.order c.loop-last-test.false i.within i.begins i.next c.requires.there.1 in
    only_owner c.args.image.now c.args.owners.table c.args.owners.column c.args.owners.members c.requires.rise c.args.member other c.loop-last.last there l.0 has l.1
