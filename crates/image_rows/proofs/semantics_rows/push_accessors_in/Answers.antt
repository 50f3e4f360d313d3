use Rattle.std.proofs.Common.{◌≡◌, ◌∙◌, ap, sym, subst, ℕ, ◌+◌, List, [], ◌∷◌, map, Option, Some, None}
use Rattle.std.specs.Option.{option_copied}
use Rattle.std.proofs.lemmas.Result.{on_ok_weaker}
use Rattle.image_members.specs.Pushing.{AddsRows}
use Rattle.image_rows.specs.SemanticsRows.{accessors_with, semantics_row, CanAddAccessors}
use Rattle.image_rows.proofs.AccessorLemmas.{no_access, an_access}
use Rattle.image_members.proofs.PushLemmas.{rows_none}
use Rattle.image_rows.proofs.semantics_rows.push_accessors_in.Goals as goal

pub returns-in-None : goal.returns-in-None
returns-in-None c =
    let e = sym (ap option_copied c.in-None.is) ∙ c.get.ensures in
    subst (λ xs. AddsRows 0x18 (map semantics_row xs) c.args.rows.now c.args.rows.now) (sym (no_access c.args.place c.args.table.now e)) (rows_none 0x18 c.args.rows.now)

pub push_accessors-requires : goal.push_accessors-requires
push_accessors-requires c =
    let e = sym (ap option_copied c.in-Some.is) ∙ c.get.ensures in
    let a = c.in-Some.access.now in
    let whole = an_access c.args.place c.args.table.now a e ∙ ap (λ p. accessors_with p a.first a.of.now) (sym c.index_of-association.ensures) ∙ ap (accessors_with c.index_of-association.result a.first) (sym c.as_slice.ensures) in
    subst (λ xs. CanAddAccessors xs c.args.rows.now) whole c.requires.can

pub returns-in-Some : goal.returns-in-Some
returns-in-Some c =
    let e = sym (ap option_copied c.in-Some.is) ∙ c.get.ensures in
    let a = c.in-Some.access.now in
    let whole = an_access c.args.place c.args.table.now a e ∙ ap (λ p. accessors_with p a.first a.of.now) (sym c.index_of-association.ensures) ∙ ap (accessors_with c.index_of-association.result a.first) (sym c.as_slice.ensures) in
    on_ok_weaker c.push_accessors.result (λ h. subst (λ xs. AddsRows 0x18 (map semantics_row xs) c.args.rows.now c.push_accessors.new.rows) (sym whole) h) c.push_accessors.ensures
