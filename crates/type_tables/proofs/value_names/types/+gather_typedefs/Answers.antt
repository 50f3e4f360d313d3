use Rattle.std.proofs.Common.{◌≡◌, ◌∙◌, ap, sym}
use Rattle.std.specs.List.{flat_map}
use Rattle.assembly_tree.specs.declared.typedef.TypeDef.TheViews.{out-TypeDef}
use Rattle.type_hierarchy.specs.Gathered.{gathered}
use Rattle.type_hierarchy.specs.ValueNames.{in_typedef}
use Rattle.type_tables.proofs.Gathering.{none_in, typedef_in, step_in}
use Rattle.type_tables.proofs.value_names.types.+gather_typedefs.Goals as goal

pub loop-of-init : goal.loop-of-init
loop-of-init t c = sym (none_in c.args.means.now c.args.into.now)

pub loop-of-preserved : goal.loop-of-preserved
loop-of-preserved t c =
    let of = c.of-item.result in
    let m = c.args.means.now in
    let mid = c.gather_own.new.into in
    let next = c.gather_typedefs.new.into in
    let inner : next ≡ gathered m mid (flat_map in_typedef (out-TypeDef of).nested) =
    c.in_ok-gather_typedefs.ensures ∙ ap (λ ts. gathered m mid (flat_map in_typedef ts)) c.as_slice.ensures in
    step_in in_typedef m c.args.into.now c.loop-of.into next c.args.types.now c.loop-of.of-index of
    c.loop-of.invariant (typedef_in m c.loop-of.into mid next of c.in_ok-gather_own.ensures inner) c.loop-of-test.true c.of-item.is
