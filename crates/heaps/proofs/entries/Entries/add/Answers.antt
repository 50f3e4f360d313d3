use Rattle.std.proofs.Common.{◌≡◌, ◌++◌, ◌∙◌}
use Rattle.heaps.proofs.FindsLemmas.{Finds-grow, Finds-undo, Lacks-grow, middle}
use Rattle.heaps.proofs.entries.Entries.add.Goals as goal
use Rattle.heaps.proofs.entries.Entries.add.Goals.{After-as_slice}

-- the bytes with the new entry
grown : (c : After-as_slice) → c.as_slice.result.now ≡ c.args.self.now.bytes ++ (c.args.lead.now ++ (c.args.content.now ++ c.args.tail.now))
grown c = c.as_slice.ensures ∙ c.in_ok-append.ensures.ok

pub note-requires-clause-finds : goal.note-requires-clause-finds
note-requires-clause-finds c =
    rw (grown c) (Finds-grow c.args.self.now.chains c.args.self.now.bytes _ c.requires.finds)

pub note-requires-clause-lacks : goal.note-requires-clause-lacks
note-requires-clause-lacks c =
    rw (grown c) (Lacks-grow c.args.self.now.chains c.args.self.now.bytes _ c.args.content.now c.requires.finds c.requires.lacks)

pub note-requires-clause-here : goal.note-requires-clause-here
note-requires-clause-here c =
    rw (grown c) (middle c.args.self.now.bytes c.args.lead.now c.args.content.now c.args.tail.now c.len-len.result c.len-len.ensures)

pub returns-in-Err-clause-finds : goal.returns-in-Err-clause-finds
returns-in-Err-clause-finds c =
    rw c.truncate.ensures
    (Finds-undo c.args.self.now.chains c.note.new.self c.args.self.now.bytes _ c.append.new.bytes c.len-len.result
    c.requires.finds c.in-Err.ensures.err c.in_ok-append.ensures.ok c.len-len.ensures (rw c.as_slice.ensures at c.in-Err.ensures.finds))
