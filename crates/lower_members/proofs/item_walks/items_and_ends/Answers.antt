use Rattle.std.proofs.Common.{◌≡◌, ◌+◌, [], ◌∷◌, ◌++◌, Some, ap, sym, subst, ◌∙◌, arith}
use Rattle.lower_members.specs.ItemSteps.{step_of}
use Rattle.lower_members.specs.declared.item_walks.Step.TheVariants.{Close}
use Rattle.lower_members.proofs.ItemWalks.{Walked, begin, grows, next_block, next_close, next_item, next_pass, walk_end}
use Rattle.lower_members.proofs.item_walks.items_and_ends.Goals as goal

pub loop-step-init : goal.loop-step-init
loop-step-init c =
    subst (λ found. Walked c.args.nodes.now 0 found c.new-blocks.result) (sym c.new-found.ensures)
    (subst (Walked c.args.nodes.now 0 []) (sym c.new-blocks.ensures)
    (begin c.derivations_are_forests.ensures c.forests_open.ensures c.forests_join.ensures c.args.nodes.now c.requires))

pub loop-step-preserved-in-Close : goal.loop-step-preserved-in-Close
loop-step-preserved-in-Close c =
    let w = c.loop-step.invariant in
    let is : step_of c.args.nodes.now w.stack c.loop-step.at ≡ Some (Close c.in-Close.production) =
    sym (c.next_step.ensures w.stack (c.as_slice.ensures ∙ w.opens-are)) ∙ c.in-Some.is ∙ ap Some c.in-Close.is in
    subst (λ found. Walked c.args.nodes.now c.loop-step.at found c.close_last.new.blocks) (sym c.in_ok-push-in-Close.ensures.ok)
    (next_close c.derivations_are_forests.ensures c.forests_open.ensures c.forests_join.ensures c.args.nodes.now c.loop-step.at c.loop-step.found c.loop-step.blocks w
    c.in-Close.production c.close_last.new.blocks is c.close_last.ensures)

pub loop-step-preserved-in-Pass : goal.loop-step-preserved-in-Pass
loop-step-preserved-in-Pass c =
    let w = c.loop-step.invariant in
    next_pass c.derivations_are_forests.ensures c.forests_open.ensures c.forests_join.ensures c.args.nodes.now c.loop-step.at c.loop-step.found c.loop-step.blocks w
    (sym (c.next_step.ensures w.stack (c.as_slice.ensures ∙ w.opens-are)) ∙ c.in-Some.is ∙ ap Some c.in-Pass.is)

pub loop-step-smaller-in-Pass : goal.loop-step-smaller-in-Pass
loop-step-smaller-in-Pass c =
    let w = c.loop-step.invariant in
    let further = next_pass c.derivations_are_forests.ensures c.forests_open.ensures c.forests_join.ensures c.args.nodes.now c.loop-step.at c.loop-step.found c.loop-step.blocks w
    (sym (c.next_step.ensures w.stack (c.as_slice.ensures ∙ w.opens-are)) ∙ c.in-Some.is ∙ ap Some c.in-Pass.is) in
    let within = further.within in
    omega (arith, within)

pub loop-step-preserved-in-Item : goal.loop-step-preserved-in-Item
loop-step-preserved-in-Item c =
    let w = c.loop-step.invariant in
    subst (λ found. Walked c.args.nodes.now (c.loop-step.at + 1 + c.in-Item.count) found c.loop-step.blocks) (sym c.in_ok-push-in-Item.ensures.ok)
    (next_item c.derivations_are_forests.ensures c.forests_open.ensures c.forests_join.ensures c.args.nodes.now c.loop-step.at c.loop-step.found c.loop-step.blocks w
    c.in-Item.production c.in-Item.count (sym (c.next_step.ensures w.stack (c.as_slice.ensures ∙ w.opens-are)) ∙ c.in-Some.is ∙ ap Some c.in-Item.is))

pub loop-step-smaller-in-Item : goal.loop-step-smaller-in-Item
loop-step-smaller-in-Item c =
    let w = c.loop-step.invariant in
    let further = next_item c.derivations_are_forests.ensures c.forests_open.ensures c.forests_join.ensures c.args.nodes.now c.loop-step.at c.loop-step.found c.loop-step.blocks w
    c.in-Item.production c.in-Item.count (sym (c.next_step.ensures w.stack (c.as_slice.ensures ∙ w.opens-are)) ∙ c.in-Some.is ∙ ap Some c.in-Item.is) in
    let within = further.within in
    omega (arith, within)

pub loop-step-preserved : goal.loop-step-preserved
loop-step-preserved c =
    let w = c.loop-step.invariant in
    subst (λ found. Walked c.args.nodes.now (c.loop-step.at + 1) found c.push-in-Block-2.new.self) (sym c.in_ok-push-in-Block.ensures.ok)
    (subst (λ blocks. Walked c.args.nodes.now (c.loop-step.at + 1) (c.loop-step.found ++ record { production = c.in-Block.production; start = c.loop-step.at; count = 0 } ∷ []) blocks)
    (sym c.in_ok-push-in-Block-2.ensures.ok)
    (next_block c.derivations_are_forests.ensures c.forests_open.ensures c.forests_join.ensures c.args.nodes.now c.loop-step.at c.loop-step.found c.loop-step.blocks w
    c.in-Block.production c.in-Block.count (sym (c.next_step.ensures w.stack (c.as_slice.ensures ∙ w.opens-are)) ∙ c.in-Some.is ∙ ap Some c.in-Block.is)))

pub loop-step-smaller : goal.loop-step-smaller
loop-step-smaller c =
    let w = c.loop-step.invariant in
    let further = next_block c.derivations_are_forests.ensures c.forests_open.ensures c.forests_join.ensures c.args.nodes.now c.loop-step.at c.loop-step.found c.loop-step.blocks w
    c.in-Block.production c.in-Block.count (sym (c.next_step.ensures w.stack (c.as_slice.ensures ∙ w.opens-are)) ∙ c.in-Some.is ∙ ap Some c.in-Block.is) in
    let within = further.within in
    let longer = grows c.loop-step.blocks c.push-in-Block-2.new.self _ c.in_ok-push-in-Block-2.ensures.ok in
    omega (arith, within, longer)

pub returns : goal.returns
returns c f whole =
    let w = c.loop-step.invariant in
    walk_end c.derivations_are_forests.ensures c.forests_open.ensures c.forests_join.ensures c.args.nodes.now c.loop-step.at c.loop-step.found c.loop-step.blocks w
    (sym (c.next_step.ensures w.stack (c.as_slice.ensures ∙ w.opens-are)) ∙ c.in_default.is) f whole
