use Rattle.std.proofs.Common.{ℕ, ◌+◌, List, sym, ◌∙◌, subst, IfOk}
use Rattle.std.specs.List.{AllZip}
use Rattle.std.specs.Prelude.{Contains}
use Rattle.image_model.specs.Reading.{IsMethod}
use Rattle.image_source.specs.Names.{names_of}
use Rattle.row_parts.proofs.OwnedRows.{range_contains}
use Rattle.image_types.proofs.MemberRuns.{methods_are}
use Rattle.image_types.proofs.members.type_methods.Goals as goal

pub methods-requires-clause-there : goal.methods-requires-clause-there
methods-requires-clause-there c = λ k less.
    let image = c.args.source.now.image.now in
    let rows = c.run_rows-rows.result in
    c.requires.ready.owned.methods c.args.row (rows.first + k) c.requires.there
    (subst (λ (all : List ℕ). Contains all (rows.first + k)) (sym (methods_are image c.args.row ∙ c.run_rows-rows.ensures.rows)) (range_contains rows.first rows.count k less))

pub returns : goal.returns
returns c =
    let image = c.args.source.now.image.now in
    subst (λ (all : List ℕ). IfOk c.methods.result (AllZip (IsMethod image (names_of c.args.source.now.kept.now)) all)) (sym (methods_are image c.args.row ∙ c.run_rows-rows.ensures.rows)) c.methods.ensures
