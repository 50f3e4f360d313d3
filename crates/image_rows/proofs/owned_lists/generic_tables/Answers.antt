use Rattle.std.proofs.Common.{◌∙◌, ap, List, ◌∷◌, map}
use Rattle.std.specs.Borrow.{Bor}
use Rattle.assembly_tree.specs.declared.members.Generic.{Generic}
use Rattle.assembly_tree.specs.declared.members.Method.{Method}
use Rattle.assembly_tree.specs.declared.typedef.TypeDef.{TypeDef}
use Rattle.image_members.specs.Lists.{type_generics}
use Rattle.image_members.specs.Places.{lent}
use Rattle.image_rows.proofs.OwnedLemmas.{next, generics_listed}
use Rattle.image_rows.proofs.owned_lists.generic_tables.Goals as goal

pub returns : goal.returns
returns c a classes h =
    let o = c.args.ordered.now in
    generics_listed a classes o h c.push-2.new.self c.in_ok-types.types c.in_ok-methods.methods
    (next _ (next _ c.new-tables.ensures c.in_ok-push.ensures.ok) c.in_ok-push-2.ensures.ok)
    (c.in_ok-types.ensures ∙ ap (λ (ts : List (Bor TypeDef)). c.args.none.now ∷ map type_generics (lent ts)) c.as_slice.ensures
    ∙ ap (λ (none : List Generic). none ∷ map type_generics (lent o.types)) c.requires)
    (c.in_ok-methods.ensures ∙ ap (λ (ms : List (Bor Method)). map (λ (m : Method). m.generics) (lent ms)) c.as_slice-2.ensures)
