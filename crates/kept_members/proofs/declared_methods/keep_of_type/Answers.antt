use Rattle.std.proofs.Common.{List, ℕ, ◌+◌, ◌∙◌, sym, subst}
use Rattle.std.specs.Prelude.{Contains}
use Rattle.image_model.specs.Naming.{here}
use Rattle.image_model.specs.Rows.{token_of}
use Rattle.row_parts.proofs.OwnedRows.{range_contains}
use Rattle.kept_members.specs.Maps.{all_of, Has}
use Rattle.kept_members.proofs.Adding.{on_ok, some_same}
use Rattle.kept_members.proofs.Naming.{methods_are, owns_method, of_run}
use Rattle.kept_members.proofs.declared_methods.keep_of_type.Goals as goal

pub kept_owner-owner-requires : goal.kept_owner-owner-requires
kept_owner-owner-requires c = let t = c.requires.can.types c.args.of c.requires.there in (here t.0, t.2)

pub keep_rows-requires-clause-owns : goal.keep_rows-requires-clause-owns
keep_rows-requires-clause-owns c = λ k less.
    let image = c.args.image.now in
    let rows = c.run_rows-rows.result in
    let t = c.requires.can.types c.args.of c.requires.there in
    let has = subst (λ (all : List ℕ). Contains all (rows.first + k)) (sym (methods_are image c.args.of ∙ c.run_rows-rows.ensures.rows)) (range_contains rows.first rows.count k less) in
    let is = some_same (here t.0) c.kept_owner-owner.result.now (sym t.2 ∙ c.kept_owner-owner.ensures) in
    (c.requires.can.method_there c.args.of (rows.first + k) c.requires.there has, owns_method image c.kept_owner-owner.result.now (rows.first + k) c.args.of t.0 c.requires.there has t.1 is)

pub returns-clause-has : goal.returns-clause-has
returns-clause-has c =
    let rows = c.run_rows-rows.result in
    on_ok c.keep_rows.result c.keep_rows.ensures.has
    (λ within row has. of_run rows.first rows.count row (λ r. Has (all_of c.keep_rows.new.methods) (token_of 0x06 r)) within
    (subst (λ (all : List ℕ). Contains all row) (methods_are c.args.image.now c.args.of ∙ c.run_rows-rows.ensures.rows) has))
