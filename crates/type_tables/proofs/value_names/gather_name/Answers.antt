use Rattle.std.proofs.Common.{◌∙◌, ap, sym, Some}
use Rattle.type_hierarchy.specs.Names.{full_name}
use Rattle.type_hierarchy.proofs.Among.{not_among}
use Rattle.type_tables.proofs.value_names.gather_name.Goals as goal

pub push-requires : goal.push-requires
push-requires c = λ k h.
    not_among c.args.into.now (full_name c.of-scope.result c.as_slice.result.now) (sym c.has.ensures ∙ c.if-has.false) k
    (h ∙ ap (λ p. Some (full_name c.of-scope.result p)) (c.in_ok-path.ensures ∙ sym c.as_slice.ensures.ids))
