use Rattle.std.proofs.Common.{◌∙◌, ap, take, ◌++◌}
use Rattle.std.specs.List.{filter_map}
use Rattle.type_terms.specs.declared.term.SigType.{SigType, out-SigType}
use Rattle.type_hierarchy.specs.Declarations.{interface_in, interface_layer}
use Rattle.type_hierarchy.specs.Reading.{as_list, reading_by}
use Rattle.type_hierarchy.proofs.Steps.{filter_map_step}
use Rattle.type_tables.proofs.declaring.interfaces.Goals as goal

pub loop-owner-preserved : goal.loop-owner-preserved
loop-owner-preserved c =
    let h = interface_in (reading_by c.args.values.now c.args.means.now) in
    let t = c.in_ok-t.t in
    let before = filter_map h (take c.loop-owner.owner-index c.args.implements.now) in
    c.in_ok-push_interface.ensures
    ∙ ap (λ ts. ts ++ as_list (interface_layer t (out-SigType t))) c.loop-owner.invariant
    ∙ ap (λ (u : SigType). before ++ as_list (interface_layer u (out-SigType u))) c.in_ok-t.ensures
    ∙ filter_map_step h c.args.implements.now c.loop-owner.owner-index c.owner-item.result c.loop-owner-test.true c.owner-item.is
