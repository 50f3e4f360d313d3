use Rattle.std.proofs.Common.{◌≡◌, ◌∙◌, sym, subst, ℕ, length}
use Rattle.std.proofs.lemmas.Bool.{eqb-true}
use Rattle.std.proofs.lemmas.Result.{IfOk-weaker}
use Rattle.image_tokens.specs.TypePaths.{Follows, AddsPath, in_reference}
use Rattle.image_tokens.proofs.EachRowLemmas.{path_first, path_both}
use Rattle.image_tokens.proofs.PathLemmas.{follows_last, follows_on, type_row_kept, nil_by_length}
use Rattle.image_tokens.proofs.type_paths.+referred_row.Goals as goal

pub returns-then-is_empty-clause-follows : goal.returns-then-is_empty-clause-follows
returns-then-is_empty-clause-follows t c =
    let none : length c.in-Some.rest.now ≡ 0 = eqb-true (length c.in-Some.rest.now) 0 (sym c.is_empty.ensures ∙ c.if-is_empty.true) in
    follows_last c.referred_in.new.strings c.referred_in.new.rows in_reference c.args.scope c.in_ok-row-in-Some.row c.in-Some.id.now c.args.path.now c.in-Some.rest.now
    c.in-Some.ensures.cases.0 (nil_by_length c.in-Some.rest.now none) c.in_ok-row-in-Some.ensures.row

pub returns-else-is_empty-clause-follows : goal.returns-else-is_empty-clause-follows
returns-else-is_empty-clause-follows t c =
    let strings = c.referred_row.new.strings in
    let rows = c.referred_row.new.rows in
    let row = c.in_ok-row-in-Some.row in
    let kept = type_row_kept c.referred_in.new.strings strings c.referred_in.new.rows rows c.args.scope row c.in-Some.id.now c.referred_row.ensures.keeps c.referred_row.ensures.goes_on c.in_ok-row-in-Some.ensures.row in
    IfOk-weaker c.referred_row.result _ _ (λ end f. follows_on strings rows in_reference c.args.scope row end c.in-Some.id.now c.args.path.now c.in-Some.rest.now c.in-Some.ensures.cases.0 kept
    (subst (λ (x : ℕ). Follows strings rows in_reference x c.in-Some.rest.now end) c.index_of-inner.ensures f)) c.referred_row.ensures.follows

pub returns-then-is_empty-clause-adds : goal.returns-then-is_empty-clause-adds
returns-then-is_empty-clause-adds t c =
    path_first c.referred_in.new.strings c.args.scope c.in-Some.id.now c.args.path.now c.in-Some.rest.now c.args.rows.now c.referred_in.new.rows c.in-Some.ensures.cases.0 c.referred_in.ensures.adds

pub returns-else-is_empty-clause-adds : goal.returns-else-is_empty-clause-adds
returns-else-is_empty-clause-adds t c =
    let inner = subst (λ (x : ℕ). AddsPath c.referred_row.new.strings x c.in-Some.rest.now c.referred_in.new.rows c.referred_row.new.rows) c.index_of-inner.ensures c.referred_row.ensures.adds in
    path_both c.referred_in.new.strings c.referred_row.new.strings c.args.scope c.in_ok-row-in-Some.row c.in-Some.id.now c.args.path.now c.in-Some.rest.now
    c.args.rows.now c.referred_in.new.rows c.referred_row.new.rows c.in-Some.ensures.cases.0 c.referred_row.ensures.keeps c.referred_row.ensures.goes_on c.in_ok-row-in-Some.ensures.row
    c.referred_in.ensures.adds inner

pub returns-in_err-row-in-Some-clause-adds : goal.returns-in_err-row-in-Some-clause-adds
returns-in_err-row-in-Some-clause-adds t c =
    path_first c.referred_in.new.strings c.args.scope c.in-Some.id.now c.args.path.now c.in-Some.rest.now c.args.rows.now c.referred_in.new.rows c.in-Some.ensures.cases.0 c.referred_in.ensures.adds
