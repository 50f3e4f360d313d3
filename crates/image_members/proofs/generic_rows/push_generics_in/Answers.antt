use Rattle.std.proofs.Common.{◌≡◌, ◌∙◌, ap, sym, subst, ℕ, ◌+◌, List, [], ◌∷◌, Option, Some, None}
use Rattle.std.specs.Option.{option_copied}
use Rattle.std.proofs.lemmas.Result.{on_ok_weaker}
use Rattle.image_members.specs.GenericRows.{generics_with, generic_bytes, IsGenericRow, CanPushGeneric}
use Rattle.image_members.specs.Pushing.{Pushes, CanPush}
use Rattle.image_members.proofs.GenericLemmas.{generic_kind, no_generics, some_generics}
use Rattle.image_members.proofs.KindLemmas.{none_pushed}
use Rattle.image_members.proofs.generic_rows.push_generics_in.Goals as goal

pub returns-in-None : goal.returns-in-None
returns-in-None c =
    let e = sym (ap option_copied c.in-None.is) ∙ c.get.ensures in
    subst (λ xs. Pushes 0x2A IsGenericRow generic_bytes xs c.args.refs.now c.args.refs.now c.args.rows.now c.args.rows.now) (sym (no_generics c.args.place c.args.table.now e)) (none_pushed generic_kind c.args.refs.now c.args.rows.now c.requires.can.known)

pub push_generics-requires : goal.push_generics-requires
push_generics-requires c =
    let e = sym (ap option_copied c.in-Some.is) ∙ c.get.ensures in
    let whole = some_generics c.args.place c.args.table.now c.in-Some.generics.now e ∙ ap (λ p. generics_with p 0 c.in-Some.generics.now.now) (sym c.index_of-owner.ensures) ∙ ap (generics_with c.index_of-owner.result 0) (sym c.as_slice.ensures) in
    subst (λ xs. CanPush 0x2A CanPushGeneric generic_bytes xs c.args.refs.now c.args.rows.now) whole c.requires.can

pub returns-in-Some : goal.returns-in-Some
returns-in-Some c =
    let e = sym (ap option_copied c.in-Some.is) ∙ c.get.ensures in
    let whole = some_generics c.args.place c.args.table.now c.in-Some.generics.now e ∙ ap (λ p. generics_with p 0 c.in-Some.generics.now.now) (sym c.index_of-owner.ensures) ∙ ap (generics_with c.index_of-owner.result 0) (sym c.as_slice.ensures) in
    on_ok_weaker c.push_generics.result (λ h. subst (λ xs. Pushes 0x2A IsGenericRow generic_bytes xs c.args.refs.now c.push_generics.new.refs c.args.rows.now c.push_generics.new.rows) (sym whole) h) c.push_generics.ensures
