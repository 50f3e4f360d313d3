use Rattle.std.proofs.Common.{◌∙◌, ap, sym, ◌++◌}
use Rattle.std.specs.List.{flat_map}
use Rattle.std.proofs.lemmas.List.{append-nil}
use Rattle.assembly_tree.specs.declared.members.Event.{Event}
use Rattle.assembly_tree.specs.declared.members.Property.{Property}
use Rattle.assembly_tree.specs.declared.typedef.TypeDef.{TypeDef}
use Rattle.image_members.specs.Places.{lent, params_of}
use Rattle.image_members.proofs.order.members_of_module.Goals as goal

pub returns : goal.returns
returns c =
    let a = c.args.a.now in
    record {
      types = ap (lent {X = TypeDef}) c.in_ok-types.ensures;
      fields = c.in_ok-add_all.ensures ∙ ap (λ xs. lent xs ++ c.as_slice.result.now) c.new-fields.ensures ∙ c.as_slice.ensures ∙ sym (append-nil a.fields);
      methods = c.in_ok-add_methods.ensures.methods ∙ ap (λ xs. lent xs ++ c.as_slice-2.result.now) c.in_ok-methods.ensures ∙ c.as_slice-2.ensures ∙ sym (append-nil a.methods);
      params = c.in_ok-add_methods.ensures.params ∙ ap (λ xs. lent xs ++ flat_map params_of c.as_slice-2.result.now) c.new-params.ensures
          ∙ ap (λ xs. flat_map params_of xs) (c.as_slice-2.ensures ∙ sym (append-nil a.methods));
      properties = ap (lent {X = Property}) c.new.ensures;
      events = ap (lent {X = Event}) c.new-2.ensures;
    }
