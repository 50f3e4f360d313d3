use Rattle.heaps.proofs.ContentLemmas.{BeginsText-here, BeginsText-ends, BeginsText-ended}
use Rattle.heaps.proofs.look_ups.text_of.Goals as goal

pub returns-in_err-end-clause-none : goal.returns-in_err-end-clause-none
returns-in_err-end-clause-none c = rw c.from_residual.ensures (λ text begins. BeginsText-ended c.args.bytes.now text c.in_err-end.ensures.none begins)

pub returns-in-Ok-clause-found : goal.returns-in-Ok-clause-found
returns-in-Ok-clause-found c =
    let found = c.in_ok-end.ensures.found in
    let cases = c.in-Ok.ensures.cases in
    rw cases.0 (BeginsText-here c.args.bytes.now c.in_ok-end.end found.0 found.1 c.in_ok-end.ensures.before cases.1)

pub returns-in-Err-clause-none : goal.returns-in-Err-clause-none
returns-in-Err-clause-none c text begins =
    let found = c.in_ok-end.ensures.found in
    let same = BeginsText-ends c.args.bytes.now c.in_ok-end.end found.0 found.1 c.in_ok-end.ensures.before text begins in
    c.in-Err.ensures.cases.0 (rw same at begins.3)
