use Rattle.std.proofs.Common.{rules, ◌≡◌, ◌∙◌, ap, sym, subst, ℕ, List, [], length}
use Rattle.std.specs.List.{flat_map}
use Rattle.std.proofs.lemmas.List.{nil_from_length}
use Rattle.assembly_tree.specs.declared.members.Property.{Property}
use Rattle.image_members.specs.Places.{lent, class_properties}
use Rattle.image_members.specs.Pushing.{AddsRows}
use Rattle.image_rows.proofs.MapRowLemmas.{no_runs}
use Rattle.image_members.proofs.PushLemmas.{rows_none}
use Rattle.image_rows.proofs.map_rows.push_property_runs.Goals as goal

pub returns-then-is_empty : goal.returns-then-is_empty
returns-then-is_empty c =
    let long : length c.args.properties.now ≡ 0 = search rules in
    let none : c.args.properties.now ≡ [] = nil_from_length c.args.properties.now long in
    let nothing : flat_map class_properties c.args.classes.now ≡ [] = sym c.requires.all ∙ ap (lent {X = Property}) none in
    subst (λ (rows : List (List ℕ)). AddsRows 0x15 rows c.args.rows.now c.args.rows.now) (sym (no_runs class_properties (length c.args.properties.now) 2 1 c.args.classes.now nothing))
    (rows_none 0x15 c.args.rows.now)
