use Rattle.std.proofs.Common.{◌≡◌, ◌∙◌, ap, sym, subst, ℕ, ◌+◌, List, [], ◌∷◌, Option, Some, None}
use Rattle.std.specs.Option.{option_copied}
use Rattle.std.proofs.lemmas.Result.{on_ok_weaker}
use Rattle.metadata_tables.specs.declared.coded.Coded.TheVariants.{HasCustomAttribute}
use Rattle.image_rows.specs.AttributeRows.{attributes_with, attribute_bytes, IsAttributeRow, CanPushAttribute}
use Rattle.image_members.specs.Pushing.{Pushes, CanPush}
use Rattle.image_rows.proofs.AttributeLemmas.{attribute_kind}
use Rattle.image_members.proofs.ByNumberLemmas.{none_owned, some_owned}
use Rattle.image_members.proofs.KindLemmas.{none_pushed}
use Rattle.image_rows.proofs.attribute_rows.push_attributes_in.Goals as goal

pub returns-in-None : goal.returns-in-None
returns-in-None c =
    let e = sym (ap option_copied c.in-None.is) ∙ c.get.ensures in
    subst (λ xs. Pushes 0x0C IsAttributeRow attribute_bytes xs c.args.refs.now c.args.refs.now c.args.rows.now c.args.rows.now) (sym (none_owned HasCustomAttribute c.args.table.now.table c.args.place c.args.table.now.of e)) (none_pushed attribute_kind c.args.refs.now c.args.rows.now c.requires.can.known)

pub push_attributes-requires : goal.push_attributes-requires
push_attributes-requires c =
    let e = sym (ap option_copied c.in-Some.is) ∙ c.get.ensures in
    let whole = some_owned HasCustomAttribute c.args.table.now.table c.args.place c.args.table.now.of c.in-Some.attributes.now e ∙ ap (λ p. attributes_with p c.in-Some.attributes.now.now) (sym c.index_of-parent.ensures) ∙ ap (attributes_with c.index_of-parent.result) (sym c.as_slice.ensures) in
    subst (λ xs. CanPush 0x0C CanPushAttribute attribute_bytes xs c.args.refs.now c.args.rows.now) whole c.requires.can

pub returns-in-Some : goal.returns-in-Some
returns-in-Some c =
    let e = sym (ap option_copied c.in-Some.is) ∙ c.get.ensures in
    let whole = some_owned HasCustomAttribute c.args.table.now.table c.args.place c.args.table.now.of c.in-Some.attributes.now e ∙ ap (λ p. attributes_with p c.in-Some.attributes.now.now) (sym c.index_of-parent.ensures) ∙ ap (attributes_with c.index_of-parent.result) (sym c.as_slice.ensures) in
    on_ok_weaker c.push_attributes.result (λ h. subst (λ xs. Pushes 0x0C IsAttributeRow attribute_bytes xs c.args.refs.now c.push_attributes.new.refs c.args.rows.now c.push_attributes.new.rows) (sym whole) h) c.push_attributes.ensures
