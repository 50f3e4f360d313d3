use Rattle.std.proofs.Common.{ap, arith}
use Rattle.std.specs.Prelude.{sum_by}
use Rattle.std.proofs.lemmas.Result.{on_ok_weaker}
use Rattle.image_tokens.specs.NamesWeight.{instruction_names, clause_names}
use Rattle.image_tokens.proofs.BodyLemmas.{body_weighs, body_noted, code_can, clauses_can}
use Rattle.image_tokens.proofs.GrowthLemmas.{grows_trans}
use Rattle.image_tokens.proofs.body_tokens.note_body.Goals as goal

pub note_locals-requires-clause-writable : goal.note_locals-requires-clause-writable
note_locals-requires-clause-writable c = c.requires.writable.locals

pub note_locals-requires-clause-count : goal.note_locals-requires-clause-count
note_locals-requires-clause-count c = c.requires.writable.count

pub note_locals-requires-clause-in_bounds : goal.note_locals-requires-clause-in_bounds
note_locals-requires-clause-in_bounds c = c.requires.writable.in_bounds

pub note_locals-requires-clause-room : goal.note_locals-requires-clause-room
note_locals-requires-clause-room c = let weighs = body_weighs c.args.body.now in let room = c.requires.room in omega arith

pub note_code-requires-clause-known : goal.note_code-requires-clause-known
note_code-requires-clause-known c = c.in_ok-note_locals.ensures.known

pub note_code-requires-clause-writable : goal.note_code-requires-clause-writable
note_code-requires-clause-writable c =
    code_can c.args.refs.now c.note_locals.new.refs c.args.body.now.code c.as_slice.result.now c.in_ok-note_locals.ensures.grows c.as_slice.ensures c.requires.writable.code

pub note_code-requires-clause-room : goal.note_code-requires-clause-room
note_code-requires-clause-room c =
    let weighs = body_weighs c.args.body.now in
    let room = c.requires.room in
    let first = c.in_ok-note_locals.ensures.room in
    let p = ap (sum_by instruction_names) c.as_slice.ensures in
    omega arith

pub note_clauses-requires-clause-known : goal.note_clauses-requires-clause-known
note_clauses-requires-clause-known c = c.in_ok-note_code.ensures.known

pub note_clauses-requires-clause-writable : goal.note_clauses-requires-clause-writable
note_clauses-requires-clause-writable c =
    clauses_can c.args.refs.now c.note_code.new.refs c.args.body.now.clauses c.as_slice-2.result.now
    (grows_trans c.args.refs.now c.note_locals.new.refs c.note_code.new.refs c.in_ok-note_locals.ensures.grows c.in_ok-note_code.ensures.grows) c.as_slice-2.ensures c.requires.writable.clauses

pub note_clauses-requires-clause-room : goal.note_clauses-requires-clause-room
note_clauses-requires-clause-room c =
    let weighs = body_weighs c.args.body.now in
    let room = c.requires.room in
    let first = c.in_ok-note_locals.ensures.room in
    let then = c.in_ok-note_code.ensures.room in
    let p = ap (sum_by instruction_names) c.as_slice.ensures in
    let q = ap (sum_by clause_names) c.as_slice-2.ensures in
    omega arith

pub returns : goal.returns
returns c =
    on_ok_weaker c.note_clauses.result (λ h. body_noted c.args.refs.now c.note_locals.new.refs c.note_code.new.refs c.note_clauses.new.refs c.args.body.now c.as_slice.result.now c.as_slice-2.result.now
    c.as_slice.ensures c.as_slice-2.ensures c.in_ok-note_locals.ensures c.in_ok-note_code.ensures h) c.note_clauses.ensures
