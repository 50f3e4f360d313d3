use Rattle.std.proofs.Common.{◌∙◌}
use Rattle.heaps.proofs.FindsLemmas.{Finds-grow, Finds-undo, Lacks-grow}
use Rattle.heaps.proofs.entries.Entries.add_counted.Goals as goal

pub add-requires-clause-finds : goal.add-requires-clause-finds
add-requires-clause-finds c =
    rw c.in_ok-push_packed.ensures.ok (Finds-grow c.args.self.now.chains c.args.self.now.bytes _ c.requires.finds)

pub add-requires-clause-lacks : goal.add-requires-clause-lacks
add-requires-clause-lacks c =
    rw c.in_ok-push_packed.ensures.ok (Lacks-grow c.args.self.now.chains c.args.self.now.bytes _ c.args.content.now c.requires.finds c.requires.lacks)

pub returns-in-Err-clause-finds : goal.returns-in-Err-clause-finds
returns-in-Err-clause-finds c =
    rw c.truncate.ensures
    (Finds-undo c.args.self.now.chains c.add.new.self.chains c.args.self.now.bytes _ c.add.new.self.bytes c.len-len.result
    c.requires.finds c.in-Err.ensures.err.1 (c.in-Err.ensures.err.0 ∙ c.in_ok-push_packed.ensures.ok) c.len-len.ensures c.in-Err.ensures.finds)
