use Rattle.class_notes.proofs.climbing.note_top.Goals as goal

pub returns-then-is_noted-clause-there : goal.returns-then-is_noted-clause-there
returns-then-is_noted-clause-there c = c.requires.noted c.if-is_noted.true

pub make_note-requires-clause-parent : goal.make_note-requires-clause-parent
make_note-requires-clause-parent c = c.requires.last c.if-is_noted.false
