use Rattle.std.proofs.Common.{◌∙◌, ap, sym, List, Some}
use Rattle.type_terms.specs.declared.name.TypeId.{TypeId}
use Rattle.type_hierarchy.specs.Names.{full_name, is_among}
use Rattle.type_hierarchy.proofs.Among.{not_among}
use Rattle.type_tables.proofs.filling.add_copy.Goals as goal

pub push-requires : goal.push-requires
push-requires c = λ k h.
    let into = c.args.into.now in
    let name = c.args.name.now in
    not_among into name
    (ap (λ (p : List TypeId). is_among into (full_name name.scope p)) (sym c.as_slice.ensures.ids) ∙ sym c.has.ensures ∙ c.if-has.false) k
    (h ∙ ap Some c.in_ok-name.ensures)
