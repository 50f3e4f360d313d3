use Rattle.il_base.proofs.Stores.{others-same, keeps_room-same}
use Rattle.il_base.proofs.mem_shelf.MemShelfShelf.start.Goals as goal

pub returns-in-Err-clause-others : goal.returns-in-Err-clause-others
returns-in-Err-clause-others c = others-same _ _ _ c.in-Err.ensures.err

pub returns-in-Err-clause-room : goal.returns-in-Err-clause-room
returns-in-Err-clause-room c = keeps_room-same _ _ c.in-Err.ensures.err
