use Rattle.std.proofs.Common.{◌≡◌, ◌∙◌, ap, sym, subst, Some, rules}
use Rattle.type_tables.specs.Entries.{IsEntries}
use Rattle.type_tables.proofs.EntryLemmas.{is_image, is_known, is_new}
use Rattle.type_tables.proofs.entries.Entries.push_new.Goals as goal

pub returns-then-eq : goal.returns-then-eq
returns-then-eq c = λ all ok.
    let e : c.args.name.now ≡ c.args.image.now = search rules in
    subst (IsEntries c.args.self.now) (sym (is_image c.args.image.now c.args.name.now all e)) ok

pub returns-in-Some : goal.returns-in-Some
returns-in-Some c = λ all ok.
    subst (IsEntries c.args.self.now) (sym (is_known c.args.self.now c.args.image.now c.args.name.now all c.in-Some.field-0 ok (c.in-Some.ensures.found ∙ ap Some c.as_bytes-3.ensures))) ok

pub returns-in_ok-push-in-None : goal.returns-in_ok-push-in-None
returns-in_ok-push-in-None c = λ all ok.
    let other : c.args.name.now ≡ c.args.image.now → ⊥ = search rules in
    subst (IsEntries c.push.new.self) (sym (is_new c.args.self.now c.args.image.now c.args.name.now all ok other (λ j h. c.in-None.ensures.none j (h ∙ ap Some (sym c.as_bytes-3.ensures)))))
    (c.in_ok-push-in-None.ensures all ok)
