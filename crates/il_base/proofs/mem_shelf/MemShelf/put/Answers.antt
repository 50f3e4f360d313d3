use Rattle.std.proofs.Common.{ap, refl, arith}
use Rattle.std.proofs.lemmas.Result.{on_err_weaker}
use Rattle.il_base.proofs.Stores.{on_either, bytes_of-same, others-put, others-same, keeps_room-same, keeps_room-put}
use Rattle.il_base.proofs.mem_shelf.MemShelf.put.Goals as goal

pub returns-clause-err : goal.returns-clause-err
returns-clause-err c = on_err_weaker _ (bytes_of-same _ _) c.put.ensures.err

pub returns-clause-others : goal.returns-clause-others
returns-clause-others c = on_either _ c.put.ensures.ok c.put.ensures.err (others-put _ _ _ _) (others-same _ _ _)

pub returns-clause-stays : goal.returns-clause-stays
returns-clause-stays c =
    let room = ap (λ held. held.room) c.in_ok-stored.ensures in
    record {
      same_calls = refl;
      same_reads = refl;
      same_writes = refl;
      room_stays = on_either _ c.put.ensures.ok c.put.ensures.err
          (λ to. keeps_room-put _ _ c.args.name.now c.in_ok-stored.stored to (λ count has. let enough = c.room_of-room.ensures count has in grind arith)) (keeps_room-same _ _);
    }
