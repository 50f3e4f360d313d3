use Rattle.std.proofs.Common.{◌≡◌, IsTrue, sym, ap, ◌∙◌, arith}
use Rattle.std.proofs.lemmas.List.{length-append, length-drop, length-take}
use Rattle.std.proofs.lemmas.Option.{same_Some}
use Rattle.run_endings.proofs.FrontLemmas.{read_grows}
use Rattle.run_endings.proofs.reading.read_file.Goals as goal

pub loop-count-preserved : goal.loop-count-preserved
loop-count-preserved g c =
    let was = c.loop-count.invariant in
    let call = c.in-Ok.ensures in
    record {
      within = omega arith;
      piece = rw (length-append, length-drop) (omega (arith, was.piece, c.min-room.ensures, length-take c.min-room.result c.loop-count.piece));
      told = λ tells file is.
          let now : IsTrue (g.S.Shelf.tells c.loop-count.shelf) = rw was.same_tells tells in
          let read = call.told now in
          let same : read.0 ≡ file = same_Some read.0 file (sym read.1 ∙ ap (λ files. files c.args.name.now) (was.same_files tells) ∙ is) in
          let so_far = was.told tells file is in
          read_grows c.loop-count.file c.read.new.into _ file c.len-in-loop-count.result c.in-Ok.count so_far.0 so_far.1
          c.len-in-loop-count.ensures (rw same at read.2) call.within c.extend.new.self c.in_ok-extend.ensures.ok;
      same_files = λ tells. let now : IsTrue (g.S.Shelf.tells c.loop-count.shelf) = rw was.same_tells tells in
          call.same_files now ∙ was.same_files tells;
      same_tells = call.same_tells ∙ was.same_tells;
      reads_stay = omega (arith, call.reads_stay, was.reads_stay);
      same_writes = call.same_writes ∙ was.same_writes;
    }
