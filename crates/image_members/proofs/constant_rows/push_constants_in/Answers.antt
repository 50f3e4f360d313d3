use Rattle.std.proofs.Common.{◌≡◌, ◌∙◌, ap, sym, subst, ℕ, ◌+◌, List, [], ◌∷◌, Option, Some, None}
use Rattle.std.specs.Option.{option_copied}
use Rattle.std.proofs.lemmas.Result.{on_ok_weaker}
use Rattle.image_members.specs.ConstantRows.{constant_with, constant_bytes, IsConstantRow, CanPushConstant}
use Rattle.image_members.specs.Pushing.{Pushes, CanPush}
use Rattle.image_members.proofs.ConstantLemmas.{constant_kind, none_constant, some_constant}
use Rattle.image_members.proofs.KindLemmas.{none_pushed}
use Rattle.image_members.proofs.constant_rows.push_constants_in.Goals as goal

pub returns-in-None : goal.returns-in-None
returns-in-None c =
    let e = sym (ap option_copied c.in-None.is) ∙ c.get.ensures in
    subst (λ xs. Pushes 0x0B IsConstantRow constant_bytes xs c.args.refs.now c.args.refs.now c.args.rows.now c.args.rows.now) (sym (none_constant c.args.place c.args.table.now e))
    (none_pushed constant_kind c.args.refs.now c.args.rows.now c.requires.can.known)

pub push_stated-requires : goal.push_stated-requires
push_stated-requires c =
    let e = sym (ap option_copied c.in-Some.is) ∙ c.get.ensures in
    let whole = some_constant c.args.place c.args.table.now c.in-Some.constant.now e ∙ ap (λ p. constant_with p c.in-Some.constant.now.now) (sym c.index_of-parent.ensures) in
    subst (λ xs. CanPush 0x0B CanPushConstant constant_bytes xs c.args.refs.now c.args.rows.now) whole c.requires.can

pub returns-in-Some : goal.returns-in-Some
returns-in-Some c =
    let e = sym (ap option_copied c.in-Some.is) ∙ c.get.ensures in
    let whole = some_constant c.args.place c.args.table.now c.in-Some.constant.now e ∙ ap (λ p. constant_with p c.in-Some.constant.now.now) (sym c.index_of-parent.ensures) in
    on_ok_weaker c.push_stated.result (λ h. subst (λ xs. Pushes 0x0B IsConstantRow constant_bytes xs c.args.refs.now c.push_stated.new.refs c.args.rows.now c.push_stated.new.rows) (sym whole) h) c.push_stated.ensures
