use Rattle.std.proofs.Common.{◌≡◌, ◌+◌, ◌*◌, length, sym, ◌∙◌, ap}
use Rattle.std.specs.List.{range_with_len}
use Rattle.std.proofs.lemmas.List.FromFn.{length-range_with_len}
use Rattle.image_model.specs.Columns.{generic_owner}
use Rattle.image_model.specs.Members.{generics_of}
use Rattle.image_model.specs.Rows.{rows_with}
use Rattle.member_demands.proofs.Ordered.{generics_ascend}
use Rattle.member_demands.proofs.Valued.{method_index}
use Rattle.value_demands.proofs.methods.generics.Goals as goal

pub owned_rows-requires-clause-order : goal.owned_rows-requires-clause-order
owned_rows-requires-clause-order c = generics_ascend c.args.image.now c.requires.meets

pub returns : goal.returns
returns c =
    let rows = c.owned_rows.result in
    let are : generics_of c.args.image.now 0x06 c.args.row ≡ range_with_len rows.first rows.count
    = ap (rows_with c.args.image.now 0x2A generic_owner) (method_index c.args.row ∙ ap (λ r. r * 2 + 1) (sym c.from.ensures)) ∙ c.owned_rows.ensures.rows in
    sym (ap length are ∙ length-range_with_len rows.first rows.count)
