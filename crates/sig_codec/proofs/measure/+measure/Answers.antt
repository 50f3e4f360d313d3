use Rattle.std.proofs.Common.{◌≡◌, ◌+◌, ◌-◌, ◌∙◌, map, max}
use Rattle.type_terms.specs.Depth.{depth, owner_depth, largest}
use Rattle.type_terms.specs.Nodes.{nodes, owner_nodes, total}
use Rattle.sig_codec.proofs.Budget.{after_more, after_both}
use Rattle.sig_codec.proofs.Layers.{depth-Inst, nodes-Inst, depth-Mod, nodes-Mod, IsRound-from}
use Rattle.sig_codec.proofs.measure.+measure.Goals as goal

pub after_type-returns-in-Inst : goal.after_type-returns-in-Inst
after_type-returns-in-Inst t c =
    let args = c.in-Inst.args in
    let e : c.as_slice.result.now ≡ args = c.as_slice.ensures ∙ c.get.ensures in
    rw (c.after_types.ensures, e, c.in-Inst.is, depth-Inst c.in-Inst.value c.in-Inst.name args, nodes-Inst c.in-Inst.value c.in-Inst.name args)
    (after_more (largest (map depth args)) (total (map nodes args)) c.args.limit c.args.nodes c.if-limit-eq0.false c.if-nodes-eq0.false)

pub after_type-returns-in_ok-left-in-Mod : goal.after_type-returns-in_ok-left-in-Mod
after_type-returns-in_ok-left-in-Mod t c =
    let by = c.in-Mod.by in
    let of = c.in-Mod.of in
    let left = c.in_ok-left-in-Mod.left in
    let both = after_both (owner_depth by) (owner_nodes by) (depth of) (nodes of) (c.args.limit - 1) (c.args.nodes - 1) left (rw c.get-in-Mod.ensures at c.in_ok-left-in-Mod.ensures) in
    rw (c.after_type.ensures, c.get-in-Mod-2.ensures, c.in-Mod.is, depth-Mod c.in-Mod.required by of, nodes-Mod c.in-Mod.required by of)
    (both ∙ after_more (max (owner_depth by) (depth of)) (owner_nodes by + nodes of) c.args.limit c.args.nodes c.if-limit-eq0.false c.if-nodes-eq0.false)

pub after_type-returns-in-SzArray : goal.after_type-returns-in-SzArray
after_type-returns-in-SzArray t c =
    let of = c.in-SzArray.of in
    let round = IsRound-from c.args.t.now of c.in-SzArray.is in
    rw (c.after_type-in-SzArray.ensures, c.get-in-SzArray.ensures, round.depth_is, round.nodes_are)
    (after_more (depth of) (nodes of) c.args.limit c.args.nodes c.if-limit-eq0.false c.if-nodes-eq0.false)
