use Rattle.std.proofs.Common.{Result, Ok, Err, inl, inr, subst}
use Rattle.std.proofs.lemmas.Result.{err_from_is_err_and}
use Rattle.body_codec.specs.declared.fault.BodyFault.{BodyFault}
use Rattle.body_codec.proofs.Far.{only_far}
use Rattle.body_codec.proofs.encoding.encode.Goals as goal

pub returns-in_err-write-clause-only : goal.returns-in_err-write-clause-only
returns-in_err-write-clause-only g c =
    let p = err_from_is_err_and c.from_residual.result c.from_residual.ensures.1 in
    λ at f. rw (p.1, p.2) (only_far c.args.body.now.code at f c.in_err-write.field-0.0 c.in_err-write.ensures.fault)

pub returns-clause-only : goal.returns-clause-only
returns-clause-only g c = λ at f.
    let IsOk : Result (Unit {0}) BodyFault → Type 0 = λ r. elim r [ Ok x ↦ Unit {0} | Err e ↦ ⊥ ] in
    elim (c.in_ok-write.ensures.only at f) [ inl e ↦ absurd (subst IsOk e tt) | inr e ↦ absurd (subst IsOk e tt) ]
