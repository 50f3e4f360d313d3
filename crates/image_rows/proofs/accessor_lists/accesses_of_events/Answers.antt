use Rattle.std.proofs.Common.{◌≡◌, ◌∙◌, ap, sym, subst, ℕ, ◌+◌, List, ◌∷◌, ◌++◌, drop, drop_of_length-le, map, arith}
use Rattle.std.proofs.lemmas.List.{drop_more}
use Rattle.assembly_tree.specs.declared.members.Event.{Event}
use Rattle.image_members.specs.Lists.{access_of, access_from, event_access}
use Rattle.image_rows.specs.SemanticsRows.{methods_of}
use Rattle.image_members.specs.declared.classes.Class.{Class}
use Rattle.image_rows.proofs.AccessLemmas.{AccessesTo, accesses_begin, accesses_on, accesses_end, row_within}
use Rattle.image_rows.proofs.accessor_lists.accesses_of_events.Goals as goal

pub loop-class-init : goal.loop-class-init
loop-class-init c = accesses_begin event_access c.args.first (map methods_of c.new-all.result) c.args.classes.now

pub overflow_add-row : goal.overflow_add-row
overflow_add-row c =
    let xs = c.args.classes.now in
    let i = c.loop-class.class-index in
    let x = c.class-item.result in
    let here : drop i xs ≡ x ∷ drop (i + 1) xs = drop_more xs i x (omega arith) ∙ ap (λ (y : Class). y ∷ drop (i + 1) xs) (sym c.class-item.is) in
    let within = row_within event_access c.args.first (map methods_of c.new-all.result) xs c.loop-class.row (map methods_of c.loop-class.all) (drop i xs) x (drop (i + 1) xs) here c.loop-class.invariant in
    omega arith

pub loop-class-preserved : goal.loop-class-preserved
loop-class-preserved c =
    let xs = c.args.classes.now in
    let i = c.loop-class.class-index in
    let x = c.class-item.result in
    let here : drop i xs ≡ x ∷ drop (i + 1) xs = drop_more xs i x (omega arith) ∙ ap (λ (y : Class). y ∷ drop (i + 1) xs) (sym c.class-item.is) in
    let row = c.loop-class.row in
    let old = map methods_of c.loop-class.all in
    let new = map methods_of c.add_accesses.new.all in
    let start = map methods_of c.new-all.result in
    let one : new ≡ old ++ event_access row x = c.in_ok-add_accesses.ensures ∙ ap (λ (es : List Event). old ++ map (λ (e : Event). access_of row e.accessors) es) c.as_slice.ensures in
    subst (λ (n : ℕ). AccessesTo event_access c.args.first (row + n) start new xs (drop (i + 1) xs)) (sym c.len-methods.ensures)
    (accesses_on event_access c.args.first start xs row old (drop i xs) x (drop (i + 1) xs) here c.loop-class.invariant new one)

pub returns : goal.returns
returns c =
    let xs = c.args.classes.now in
    let i = c.loop-class.class-index in
    let start = map methods_of c.new-all.result in
    accesses_end event_access c.args.first start xs c.loop-class.row (map methods_of c.loop-class.all) (drop i xs) (drop_of_length-le xs {i = i} (omega arith)) c.loop-class.invariant
    ∙ ap (λ all. map methods_of all ++ access_from event_access c.args.first xs) c.new-all.ensures
