use Rattle.std.proofs.Common.{◌≡◌, ◌∙◌, ap, sym, refl, ℕ, ◌+◌, List, [], ◌∷◌, ◌++◌, Some, rules}
use Rattle.type_tables.proofs.EntryLemmas.{entry_known, entry_new}
use Rattle.type_tables.proofs.entries.Entries.push.Goals as goal

pub returns-in-Some-find : goal.returns-in-Some-find
returns-in-Some-find c = λ all ok.
    let more : c.in-Some.count ≡ c.args.self.now.count + 1 = search rules in
    entry_known c.args.self.now _ all c.args.name.now c.in-Some-find.field-0 ok (c.in-Some-find.ensures.found ∙ ap Some c.as_bytes.ensures) refl refl more

pub returns-in_ok-push-in-None-2 : goal.returns-in_ok-push-in-None-2
returns-in_ok-push-in-None-2 c = λ all ok.
    let more : c.in-Some.count ≡ c.args.self.now.count + 1 = search rules in
    entry_new c.args.self.now _ all c.args.name.now ok
    (λ j h. c.in-None.ensures.none j (h ∙ ap Some (sym c.as_bytes.ensures)))
    (c.in_ok-push-in-None.ensures.ok ∙ ap (λ (t : List ℕ). c.args.self.now.texts ++ t ∷ []) c.in_ok-text-in-None.ensures) c.in_ok-push-in-None-2.ensures.ok more
