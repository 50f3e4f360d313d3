use Rattle.std.proofs.Common.{◌∙◌, ap, ◌++◌}
use Rattle.std.specs.List.{flat_map}
use Rattle.image_members.specs.Places.{lent, params_of}
use Rattle.image_members.proofs.PlaceLemmas.{lent_one}
use Rattle.image_members.proofs.order.add_members.Goals as goal

pub returns : goal.returns
returns c =
    let old = c.args.ordered.now in
    record {
      types = lent_one old.types c.push.new.self _ c.in_ok-push.ensures.ok;
      fields = c.in_ok-add_all.ensures ∙ ap (λ xs. lent old.fields ++ xs) c.as_slice.ensures;
      methods = c.in_ok-add_methods.ensures.methods ∙ ap (λ xs. lent old.methods ++ xs) c.as_slice-2.ensures;
      params = c.in_ok-add_methods.ensures.params ∙ ap (λ xs. lent old.params ++ flat_map params_of xs) c.as_slice-2.ensures;
      properties = c.in_ok-add_all-2.ensures ∙ ap (λ xs. lent old.properties ++ xs) c.as_slice-3.ensures;
      events = c.in_ok-add_all-3.ensures ∙ ap (λ xs. lent old.events ++ xs) c.as_slice-4.ensures;
    }
