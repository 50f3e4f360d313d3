use Rattle.std.proofs.Common.{◌≡◌, ap, sym, ◌∙◌, subst, ℕ, ◌<◌, ◌^◌, List, arith}
use Rattle.metadata_tables.specs.declared.coded.Coded.TheVariants.{HasCustomAttribute}
use Rattle.image_members.specs.ByNumber.{by_number}
use Rattle.image_rows.specs.AttributeRows.{tables_of, attribute_bytes, IsAttributeRow, CanPushAttribute}
use Rattle.image_members.specs.Pushing.{Pushes, CanPush}
use Rattle.image_tables.proofs.owned_part.push_attribute_rows.Goals as goal

pub longest_attributed-count-requires : goal.longest_attributed-count-requires
longest_attributed-count-requires c = let few = c.requires.owners in omega arith

pub push_all_attributes-requires-clause-count : goal.push_all_attributes-requires-clause-count
push_all_attributes-requires-clause-count c = let few = c.requires.owners in let count = c.longest_attributed-count.ensures in omega arith

pub push_all_attributes-requires-clause-can : goal.push_all_attributes-requires-clause-can
push_all_attributes-requires-clause-can c =
    subst (λ (n : ℕ). CanPush 0x0C CanPushAttribute attribute_bytes (by_number HasCustomAttribute (tables_of c.args.tables.now) n) c.args.refs.now c.args.rows.now) (sym c.longest_attributed-count.ensures)
    c.requires.can

pub returns : goal.returns
returns c =
    subst (λ (n : ℕ). Pushes 0x0C IsAttributeRow attribute_bytes (by_number HasCustomAttribute (tables_of c.args.tables.now) n) c.args.refs.now c.push_all_attributes.new.refs c.args.rows.now c.push_all_attributes.new.rows)
    c.longest_attributed-count.ensures c.in_ok-push_all_attributes.ensures
