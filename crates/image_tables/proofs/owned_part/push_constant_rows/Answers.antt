use Rattle.std.proofs.Common.{◌≡◌, ap, sym, ◌∙◌, subst, ℕ, ◌<◌, ◌^◌, List, map, arith}
use Rattle.metadata_tables.specs.declared.coded.Coded.TheVariants.{HasConstant}
use Rattle.image_members.specs.ByNumber.{by_number}
use Rattle.image_members.specs.ConstantRows.{with_constants, constant_bytes, IsConstantRow, CanPushConstant}
use Rattle.image_members.specs.Pushing.{Pushes, CanPush}
use Rattle.image_tables.proofs.owned_part.push_constant_rows.Goals as goal

pub longest_valued-count-requires : goal.longest_valued-count-requires
longest_valued-count-requires c = let few = c.requires.owners in omega arith

pub push_all_constants-requires-clause-count : goal.push_all_constants-requires-clause-count
push_all_constants-requires-clause-count c = let few = c.requires.owners in let count = c.longest_valued-count.ensures in omega arith

pub push_all_constants-requires-clause-can : goal.push_all_constants-requires-clause-can
push_all_constants-requires-clause-can c =
    subst (λ (n : ℕ). CanPush 0x0B CanPushConstant constant_bytes (by_number HasConstant (map with_constants c.args.tables.now) n) c.args.refs.now c.args.rows.now) (sym c.longest_valued-count.ensures)
    c.requires.can

pub returns : goal.returns
returns c =
    subst (λ (n : ℕ). Pushes 0x0B IsConstantRow constant_bytes (by_number HasConstant (map with_constants c.args.tables.now) n) c.args.refs.now c.push_all_constants.new.refs c.args.rows.now c.push_all_constants.new.rows)
    c.longest_valued-count.ensures c.in_ok-push_all_constants.ensures
