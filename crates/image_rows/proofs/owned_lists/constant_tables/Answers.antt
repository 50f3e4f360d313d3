use Rattle.std.proofs.Common.{◌∙◌, ap, List, map}
use Rattle.std.specs.Borrow.{Bor}
use Rattle.assembly_tree.specs.declared.members.Field.{Field}
use Rattle.assembly_tree.specs.declared.members.Param.{Param}
use Rattle.assembly_tree.specs.declared.members.Property.{Property}
use Rattle.image_members.specs.Places.{lent}
use Rattle.image_rows.proofs.OwnedLemmas.{next, constants_listed}
use Rattle.image_rows.proofs.owned_lists.constant_tables.Goals as goal

pub returns : goal.returns
returns c a classes h =
    constants_listed a classes c.args.ordered.now h c.push-3.new.self c.in_ok-fields.fields c.in_ok-params.params c.in_ok-properties.properties
    (next _ (next _ (next _ c.new-tables.ensures c.in_ok-push.ensures.ok) c.in_ok-push-2.ensures.ok) c.in_ok-push-3.ensures.ok)
    (c.in_ok-fields.ensures ∙ ap (λ (fs : List (Bor Field)). map (λ (f : Field). f.constant) (lent fs)) c.as_slice.ensures)
    (c.in_ok-params.ensures ∙ ap (λ (ps : List (Bor Param)). map (λ (p : Param). p.constant) (lent ps)) c.as_slice-2.ensures)
    (c.in_ok-properties.ensures ∙ ap (λ (ps : List (Bor Property)). map (λ (p : Property). p.constant) (lent ps)) c.as_slice-3.ensures)
