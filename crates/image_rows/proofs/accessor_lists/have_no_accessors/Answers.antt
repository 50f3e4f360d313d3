use Rattle.std.proofs.Common.{◌∙◌, ap, sym}
use Rattle.std.proofs.lemmas.Bool.{false≢true}
use Rattle.image_members.specs.Places.{lent}
use Rattle.image_members.proofs.EmptinessLemmas.{lent_none}
use Rattle.image_rows.proofs.accessor_lists.have_no_accessors.Goals as goal

pub returns-then-is_empty : goal.returns-then-is_empty
returns-then-is_empty c =
    let events = ap lent (c.is_empty.ensures.0 c.if-is_empty.true) in
    let properties = c.is_empty-then-is_empty.ensures in
    (λ empty. (events, ap lent (properties.0 empty)), λ none. properties.1 (lent_none c.args.ordered.now.properties none.1))

pub returns-else-is_empty : goal.returns-else-is_empty
returns-else-is_empty c =
    (λ empty. absurd (false≢true (sym c.if-is_empty.false ∙ empty)), λ none. c.is_empty.ensures.1 (lent_none c.args.ordered.now.events none.0))
