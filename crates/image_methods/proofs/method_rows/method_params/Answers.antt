use Rattle.std.proofs.Common.{List, ℕ, ◌∙◌, sym, subst, ◌+◌, IfOk}
use Rattle.std.specs.List.{AllZip}
use Rattle.std.specs.Prelude.{Contains}
use Rattle.image_model.specs.Reading.{IsParam}
use Rattle.image_source.specs.Names.{names_of}
use Rattle.row_parts.proofs.OwnedRows.{range_contains}
use Rattle.image_methods.proofs.ParamRuns.{params_are}
use Rattle.image_methods.proofs.method_rows.method_params.Goals as goal

pub params-requires-clause-there : goal.params-requires-clause-there
params-requires-clause-there c = λ k less.
    let image = c.args.source.now.image.now in
    let rows = c.run_rows-rows.result in
    c.requires.ready.owned.params c.args.row (rows.first + k) c.requires.there
    (subst (λ (all : List ℕ). Contains all (rows.first + k)) (sym (params_are image c.args.row ∙ c.run_rows-rows.ensures.rows)) (range_contains rows.first rows.count k less))

pub returns : goal.returns
returns c =
    let image = c.args.source.now.image.now in
    subst (λ (all : List ℕ). IfOk c.params.result (AllZip (IsParam image (names_of c.args.source.now.kept.now)) all)) (sym (params_are image c.args.row ∙ c.run_rows-rows.ensures.rows)) c.params.ensures
