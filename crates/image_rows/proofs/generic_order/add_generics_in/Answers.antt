use Rattle.std.proofs.Common.{◌≡◌, ◌∙◌, ap, sym, ℕ, ◌+◌, List, [], ◌∷◌, ◌++◌, map, Option, Some, None}
use Rattle.std.specs.Option.{option_copied}
use Rattle.std.proofs.lemmas.List.{append-nil}
use Rattle.std.proofs.lemmas.Result.{on_ok_weaker}
use Rattle.metadata_tables.specs.declared.coded.Coded.TheVariants.{TypeOrMethodDef}
use Rattle.image_members.specs.GenericRows.{generic_of}
use Rattle.image_tokens.specs.Indexes.{index_of}
use Rattle.image_members.specs.Places.{lent}
use Rattle.image_members.proofs.GenericLemmas.{no_generics, some_generics, same_generics}
use Rattle.image_rows.proofs.generic_order.add_generics_in.Goals as goal

pub returns-in-None : goal.returns-in-None
returns-in-None c =
    let e = sym (ap option_copied c.in-None.is) ∙ c.get.ensures in
    let all = lent c.args.all.now in
    sym (append-nil all) ∙ ap (λ xs. all ++ map generic_of xs) (sym (no_generics c.args.place c.args.table.now e))

pub returns-in-Some : goal.returns-in-Some
returns-in-Some c =
    let e = sym (ap option_copied c.in-Some.is) ∙ c.get.ensures in
    let all = lent c.args.all.now in
    let k = c.args.place in
    let t = c.args.table.now in
    let gs = c.in-Some.generics.now in
    let whole = ap (map generic_of) (some_generics k t gs e) ∙ same_generics (index_of TypeOrMethodDef t.table (k + 1)) 0 gs.now ∙ sym c.as_slice.ensures in
    on_ok_weaker c.add_all.result (λ h. h ∙ ap (λ xs. all ++ xs) (sym whole)) c.add_all.ensures
