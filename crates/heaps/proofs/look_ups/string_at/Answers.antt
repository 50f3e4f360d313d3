use Rattle.heaps.proofs.ContentLemmas.{IfNone-map, BeginsText-has}
use Rattle.heaps.proofs.look_ups.string_at.Goals as goal

pub returns-clause-none : goal.returns-clause-none
returns-clause-none c =
    IfNone-map c.text_of.result _ _
    (λ none text has. none text (rw c.split_at.ensures.back (BeginsText-has c.args.heap.now text c.args.at c.if-at-eq0.false has))) c.text_of.ensures.none
