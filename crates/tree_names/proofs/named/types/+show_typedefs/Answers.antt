use Rattle.std.proofs.Common.{◌≡◌, ◌∙◌, ap, sym}
use Rattle.std.specs.List.{flat_map}
use Rattle.assembly_tree.specs.declared.typedef.TypeDef.TheViews.{out-TypeDef}
use Rattle.tree_names.specs.Looking.{seen_all}
use Rattle.tree_names.specs.Named.{names_in_typedef}
use Rattle.tree_names.proofs.Seeing.{none_seen, step_seen, typedef_seen}
use Rattle.tree_names.proofs.named.types.+show_typedefs.Goals as goal

pub loop-of-init : goal.loop-of-init
loop-of-init g t c = sym (none_seen g.L.Looks.seen c.args.to.now)

pub loop-of-preserved : goal.loop-of-preserved
loop-of-preserved g t c =
    let s = g.L.Looks.seen in
    let of = c.of-item.result in
    let mid = c.show_own.new.to in
    let next = c.show_typedefs.new.to in
    let inner : next ≡ seen_all s mid (flat_map names_in_typedef (out-TypeDef of).nested) =
    c.in_ok-show_typedefs.ensures ∙ ap (λ ts. seen_all s mid (flat_map names_in_typedef ts)) c.as_slice.ensures in
    step_seen s names_in_typedef c.args.to.now c.loop-of.to next c.args.types.now c.loop-of.of-index of
    c.loop-of.invariant (typedef_seen s c.loop-of.to mid next of c.in_ok-show_own.ensures inner) c.loop-of-test.true c.of-item.is
