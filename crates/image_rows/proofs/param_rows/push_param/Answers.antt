use Rattle.std.proofs.Common.{rules, ◌≡◌, subst, ℕ, [], ◌∷◌, ◌+◌, ◌≤◌, arith}
use Rattle.metadata_tables.specs.Encoding.{AddsRow}
use Rattle.image_rows.specs.ParamRows.{param_flags}
use Rattle.image_rows.proofs.ParamLemmas.{param_cells, param_bytes_are, param_pushed}
use Rattle.image_rows.proofs.param_rows.push_param.Goals as goal

pub refer_text-requires-clause-room : goal.refer_text-requires-clause-room
refer_text-requires-clause-room c = let bytes = param_bytes_are c.args.param.now in let room = c.requires.room in omega arith

pub push-requires-clause-cells : goal.push-requires-clause-cells
push-requires-clause-cells c = param_cells c.row_of_columns.ensures c.from.result c.from-2.result c.in_ok-name.name (search rules) (search rules)

pub returns : goal.returns
returns c =
    let p = c.args.param.now in
    let flags : c.from.result ≡ param_flags p = search rules in
    let number : c.from-2.result ≡ p.number = search rules in
    param_pushed c.args.refs.now c.refer_text.new.refs c.args.rows.now c.push.new.self p c.in_ok-name.name c.in_ok-name.ensures
    (subst (λ (n : ℕ). AddsRow c.args.rows.now c.push.new.self 0x08 (param_flags p ∷ n ∷ c.in_ok-name.name ∷ [])) number
    (subst (λ (n : ℕ). AddsRow c.args.rows.now c.push.new.self 0x08 (n ∷ c.from-2.result ∷ c.in_ok-name.name ∷ [])) flags c.in_ok-push.ensures.added))
