use Rattle.std.proofs.Common.{◌≡◌, false, Result, Ok, Err, OnOk, ap, sym, subst, ◌∙◌, arith, IsTrue, take, ◌+◌}
use Rattle.std.specs.Result.{is_err}
use Rattle.run_endings.specs.Reads.{AreRead}
use Rattle.run_endings.proofs.ReadLemmas.{stops_here, reads_here, read_since, unread_since, longer_since}
use Rattle.run_endings.proofs.reading.read_inputs.Goals as goal

at_ok : {T E P : Type 0} (r : Result T E) → is_err r ≡ false → OnOk r P → P
at_ok (Ok x) fine p = p
at_ok (Err e) fine p = absurd cc

pub returns-in-Err-Unread-clause-stop : goal.returns-in-Err-Unread-clause-stop
returns-in-Err-Unread-clause-stop g c =
    let was = c.loop-input.invariant in (
      stops_here _ _ _ _ c.input-item.result _ c.loop-input-test.true c.input-item.is was.read,
      unread_since _ _ _ _ c.input-item.result _ was.same_tells was.same_files c.as_str.ensures _ _ _ was.reads_stay
          (c.in-Err-Unread.ensures.unread (ap Err c.in-Err-Unread.field-0-is)),
    )

pub returns-in-Err-TooLong-clause-stop : goal.returns-in-Err-TooLong-clause-stop
returns-in-Err-TooLong-clause-stop g c =
    let was = c.loop-input.invariant in (
      stops_here _ _ _ _ c.input-item.result _ c.loop-input-test.true c.input-item.is was.read,
      longer_since _ _ _ _ c.input-item.result _ was.same_tells was.same_files c.as_str.ensures
          (λ t. c.in-Err-TooLong.ensures.too_long t (ap Err c.in-Err-TooLong.field-0-is)),
    )

pub loop-input-preserved : goal.loop-input-preserved
loop-input-preserved g c =
    let was = c.loop-input.invariant in
    let call = c.in-Ok.ensures in
    record {
      read = subst (AreRead (g.S.Shelf.tells c.args.shelf.now) (g.S.Shelf.files c.args.shelf.now) (take (c.loop-input.input-index + 1) c.args.inputs.now))
          (sym (at_ok c.push.result (sym c.is_err.ensures.value ∙ c.if-is_err.false) c.push.ensures.ok))
          (reads_here _ _ _ _ c.input-item.result _ c.loop-input-test.true c.input-item.is was.read c.in-Ok.bytes
          (read_since _ _ _ _ c.input-item.result _ was.same_tells was.same_files c.as_str.ensures c.in-Ok.bytes call.within call.told));
      same_files = λ tells. let now : IsTrue (g.S.Shelf.tells c.loop-input.shelf) = rw was.same_tells tells in
          call.same_files now ∙ was.same_files tells;
      same_tells = call.same_tells ∙ was.same_tells;
      reads_stay = omega (arith, call.reads_stay, was.reads_stay);
      same_writes = call.same_writes ∙ was.same_writes;
    }
