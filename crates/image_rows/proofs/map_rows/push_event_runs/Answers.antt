use Rattle.std.proofs.Common.{rules, ◌≡◌, ◌∙◌, ap, sym, subst, ℕ, List, [], length}
use Rattle.std.specs.List.{flat_map}
use Rattle.std.proofs.lemmas.List.{nil_from_length}
use Rattle.assembly_tree.specs.declared.members.Event.{Event}
use Rattle.image_members.specs.Places.{lent, class_events}
use Rattle.image_members.specs.Pushing.{AddsRows}
use Rattle.image_rows.proofs.MapRowLemmas.{no_runs}
use Rattle.image_members.proofs.PushLemmas.{rows_none}
use Rattle.image_rows.proofs.map_rows.push_event_runs.Goals as goal

pub returns-then-is_empty : goal.returns-then-is_empty
returns-then-is_empty c =
    let long : length c.args.events.now ≡ 0 = search rules in
    let none : c.args.events.now ≡ [] = nil_from_length c.args.events.now long in
    let nothing : flat_map class_events c.args.classes.now ≡ [] = sym c.requires.all ∙ ap (lent {X = Event}) none in
    subst (λ (rows : List (List ℕ)). AddsRows 0x12 rows c.args.rows.now c.args.rows.now) (sym (no_runs class_events (length c.args.events.now) 2 1 c.args.classes.now nothing))
    (rows_none 0x12 c.args.rows.now)
