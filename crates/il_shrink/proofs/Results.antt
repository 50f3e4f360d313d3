-- What holds where a call has an answer.
use Rattle.std.proofs.Common.{Result, Ok, Err, OnOk}

pub on_ok : {X E : Type 0} {P Q : Type 0} (r : Result X E) → (P → Q) → OnOk r P → OnOk r Q
on_ok (Ok x) f h = f h
on_ok (Err e) f h = h
