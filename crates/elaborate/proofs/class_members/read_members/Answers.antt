use Rattle.std.proofs.Common.{◌∙◌}
use Rattle.source_model.specs.Items.{members}
use Rattle.elaborate.proofs.ClassLemmas.{all_ranged, members_ranged, members_whole}
use Rattle.elaborate.proofs.class_members.read_members.Goals as goal

pub returns : goal.returns
returns g c s a knows x e found whole =
    let f = a.class in
    let each = all_ranged s f whole in
    let ps = members f in
    let ranged = members_ranged s f each in
    let wholes = members_whole s f whole in
    let methods = c.in_ok-methods.ensures s a knows x ps found wholes in
    record {
      generics-are = c.in_ok-generics.ensures s a knows x ps e each found ranged;
      fields-are = c.in_ok-fields.ensures s a knows x ps found ranged;
      methods-are = methods;
      accessed-are = c.in_ok-accessed.ensures s a x f e each found (c.as_slice.ensures ∙ methods);
      attributes-are = c.in_ok-attributes.ensures s a x f each found;
    }
