use Rattle.std.proofs.lemmas.Result.{err_from_is_err_and}
use Rattle.body_codec.specs.Names.{name_map}
use Rattle.body_codec.proofs.Operands.{any_ins}
use Rattle.body_codec.proofs.Outlines.{known_of, locals_fault, outline_fault, layout_by, targets_by, name_by, catch_by, body_by}
use Rattle.body_codec.proofs.decoding.top.read_body.Goals as goal

pub returns-in_err-locals-clause-fault : goal.returns-in_err-locals-clause-fault
returns-in_err-locals-clause-fault g c =
    let n = g.N.Namer in
    let names = name_map (n.owners c.args.map.now) (n.methods c.args.map.now) (n.fields c.args.map.now) (n.locals c.args.map.now) (n.texts c.args.map.now) in
    let p = err_from_is_err_and c.from_residual.result c.from_residual.ensures.1 in
    rw (p.1, p.2) (locals_fault names c.args.bytes.now c.in-Some.header c.in_err-locals.field-0.0 c.in-Some.ensures.found c.in_err-locals.ensures.fault)

pub returns-in_err-outline-clause-fault : goal.returns-in_err-outline-clause-fault
returns-in_err-outline-clause-fault g c =
    let n = g.N.Namer in
    let names = name_map (n.owners c.args.map.now) (n.methods c.args.map.now) (n.fields c.args.map.now) (n.locals c.args.map.now) (n.texts c.args.map.now) in
    let known = known_of names c.args.bytes.now c.in-Some.header c.in_ok-locals.locals c.in-Some.ensures.found c.in_ok-locals.ensures.spelled in
    let p = err_from_is_err_and c.from_residual-in_err-outline.result c.from_residual-in_err-outline.ensures.1 in
    rw (p.1, p.2) (outline_fault names c.args.bytes.now c.in_err-outline.field-0.0 known c.in_err-outline.ensures.fault)

pub read_code-requires-clause-layout : goal.read_code-requires-clause-layout
read_code-requires-clause-layout g c =
    layout_by c.args.bytes.now c.code_in-code.result.now c.in_ok-outline.outline c.as_slice-marks.result.now c.as_slice-starts.result.now
    c.code_in-code.ensures c.as_slice-marks.ensures c.as_slice-starts.ensures c.in_ok-outline.ensures.found

pub read_code-requires-clause-targets : goal.read_code-requires-clause-targets
read_code-requires-clause-targets g c =
    targets_by c.args.bytes.now c.code_in-code.result.now c.in_ok-outline.outline c.as_slice-marks.result.now c.code_in-code.ensures c.as_slice-marks.ensures c.in_ok-outline.ensures.found

pub returns-in_err-instructions-clause-fault : goal.returns-in_err-instructions-clause-fault
returns-in_err-instructions-clause-fault g c =
    let n = g.N.Namer in
    let names = name_map (n.owners c.args.map.now) (n.methods c.args.map.now) (n.fields c.args.map.now) (n.locals c.args.map.now) (n.texts c.args.map.now) in
    let known = known_of names c.args.bytes.now c.in-Some.header c.in_ok-locals.locals c.in-Some.ensures.found c.in_ok-locals.ensures.spelled in
    let p = err_from_is_err_and c.from_residual-in_err-instructions.result c.from_residual-in_err-instructions.ensures.1 in
    rw (p.1, p.2) (name_by names c.args.bytes.now c.code_in-code.result.now c.in_ok-outline.outline c.as_slice-marks.result.now c.in_err-instructions.field-0.0 known
    c.in_ok-outline.ensures.found c.code_in-code.ensures c.as_slice-marks.ensures c.in_err-instructions.ensures.fault)

pub returns-in_err-clauses-clause-fault : goal.returns-in_err-clauses-clause-fault
returns-in_err-clauses-clause-fault g c =
    let n = g.N.Namer in
    let names = name_map (n.owners c.args.map.now) (n.methods c.args.map.now) (n.fields c.args.map.now) (n.locals c.args.map.now) (n.texts c.args.map.now) in
    let known = known_of names c.args.bytes.now c.in-Some.header c.in_ok-locals.locals c.in-Some.ensures.found c.in_ok-locals.ensures.spelled in
    let p = err_from_is_err_and c.from_residual-in_err-clauses.result c.from_residual-in_err-clauses.ensures.1 in
    rw (p.1, p.2) (catch_by names c.args.bytes.now c.code_in-code.result.now c.in_ok-outline.outline c.as_slice-marks.result.now c.in_ok-instructions.instructions c.as_slice-found.result.now
    any_ins c.in_err-clauses.field-0.0 known c.in_ok-outline.ensures.found c.code_in-code.ensures c.as_slice-marks.ensures c.as_slice-found.ensures
    c.in_ok-instructions.ensures.spelled c.in_err-clauses.ensures.fault)

pub returns-clause-body : goal.returns-clause-body
returns-clause-body g c =
    let n = g.N.Namer in
    let names = name_map (n.owners c.args.map.now) (n.methods c.args.map.now) (n.fields c.args.map.now) (n.locals c.args.map.now) (n.texts c.args.map.now) in
    body_by names c.args.bytes.now c.code_in-code.result.now c.in-Some.header c.in_ok-outline.outline c.as_slice-marks.result.now c.as_slice-found.result.now c.in_ok-locals.locals
    c.in_ok-instructions.instructions c.in_ok-clauses.clauses c.in-Some.ensures.found c.in_ok-outline.ensures.found c.code_in-code.ensures c.as_slice-marks.ensures
    c.as_slice-found.ensures c.in_ok-locals.ensures.spelled c.in_ok-instructions.ensures.spelled c.in_ok-clauses.ensures.spelled
