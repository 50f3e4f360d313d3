use Rattle.std.proofs.Common.{◌≡◌, ℕ, refl, sym, ap, ◌∙◌, subst, true, false, List}
use Rattle.metadata_tables.specs.Faults.{IsFault}
use Rattle.image_model.specs.Faults.{IsImageFault, in_cli_header, in_root, in_tables}
use Rattle.image_model.specs.Streams.{HasCliHeader, HasRoot, tables_of}
use Rattle.image_streams.proofs.Roots.{in_headers_at}
use Rattle.image_streams.proofs.opened.open.Goals as goal

pub returns-in-Err-clause-fault : goal.returns-in-Err-clause-fault
returns-in-Err-clause-fault c =
    let u = c.unmet_headers.ensures in
    in_headers_at c.args.file.now c.in-Err.fault c.unmet_headers.result.rule c.unmet_headers.result.at c.in-Err.ensures u.rule u.byte u.whole

pub returns-then-not-has_cli_header-clause-fault : goal.returns-then-not-has_cli_header-clause-fault
returns-then-not-has_cli_header-clause-fault c =
    in_cli_header c.in-Ok.ensures.1 (λ has. let yes = c.has_cli_header.ensures.1 (subst HasCliHeader (sym c.in-Ok.ensures.0) has) in let n = c.if-not-has_cli_header.true in cc)

pub returns-in_default-clause-fault : goal.returns-in_default-clause-fault
returns-in_default-clause-fault c =
    in_root c.in-Ok.ensures.1 (subst HasCliHeader c.in-Ok.ensures.0 (c.has_cli_header.ensures.0 c.if-not-has_cli_header.false))
    (λ root. c.in_default.ensures.none (subst HasRoot (sym c.in-Ok.ensures.0) root))

pub returns-in-Err-open-clause-fault : goal.returns-in-Err-open-clause-fault
returns-in-Err-open-clause-fault c =
    let same = c.in-Ok.ensures.0 in
    in_tables c.in-Ok.ensures.1 (subst HasCliHeader same (c.has_cli_header.ensures.0 c.if-not-has_cli_header.false)) (subst HasRoot same c.in-Some.ensures.root)
    (subst (λ stream. IsFault stream c.in-Err-open.fault) (c.in-Some.ensures.streams.tables_are ∙ ap tables_of same) c.in-Err-open.ensures.fault)
