use Rattle.std.proofs.Common.{◌≡◌, ◌∙◌, ap, subst}
use Rattle.std.specs.Prelude.{IfOk}
use Rattle.lower_bodies.specs.CodePlaces.{HaveNames}
use Rattle.lower_bodies.specs.LabelSlots.{first_named, numbered}
use Rattle.lower_bodies.proofs.code_places.Code.label_with.Goals as goal

pub returns-in-Each : goal.returns-in-Each
returns-in-Each c s f x =
    subst (λ ls. IfOk c.first_named.result (λ l. l ≡ first_named s c.args.name.now ls)) x.labels-are (c.first_named.ensures s x.reads x.labelled)

pub returns-in-Slots : goal.returns-in-Slots
returns-in-Slots c s f x =
    let ls = c.args.self.now.labels.now in
    let name = c.args.name.now in
    let slotted = subst (λ names. HaveNames names s ls) c.in-Slots.is x.names-are in
    subst (λ o. IfOk c.numbered.result (λ l. l ≡ o)) (ap (numbered s name ls) c.number_in-number.ensures ∙ slotted name ∙ ap (first_named s name) x.labels-are)
    (c.numbered.ensures s x.reads x.labelled)

pub returns-in-All : goal.returns-in-All
returns-in-All c s f x =
    let ls = c.args.self.now.labels.now in
    let all = subst (λ names. HaveNames names s ls) c.in-All.is x.names-are in
    c.token_in.ensures s all ∙ ap (first_named s c.args.name.now) x.labels-are
