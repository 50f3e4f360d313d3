use Rattle.std.proofs.Common.{◌-◌, ◌∷◌, ap, sym, ◌∙◌}
use Rattle.std.specs.Prelude.{Some}
use Rattle.check_names.proofs.ArrayLemmas.{at_leaf, past_rank, rank_first, rank_into, rank_none, rank_other, rank_own}
use Rattle.source_syntax.proofs.Stepping.{first_step, step_at_end, step_into_branch, step_past_leaf}
use Rattle.check_names.proofs.array_numbers.comma_past_rank.Goals as goal

pub loop-node-init : goal.loop-node-init
loop-node-init c =
    let whole = past_rank 31 c.args.reader.now in
    first_step c.forests_open.ensures whole whole whole c.args.shape.now c.derivations_are_forests.ensures c.requires

pub loop-node-preserved-in-Branch : goal.loop-node-preserved-in-Branch
loop-node-preserved-in-Branch c =
    let now = past_rank c.loop-node.more c.args.reader.now in
    step_into_branch c.forests_open.ensures now now (past_rank 31 c.args.reader.now) c.args.shape.now c.forests_join.ensures
    c.in-Branch.production c.in-Branch.nodes c.loop-node.left.now c.in-Some.rest.now
    (λ i b a e. rank_into i.0 c.forests_join.ensures c.loop-node.more c.in-Branch.production b a)
    (c.in-Some.ensures ∙ ap (λ n. n ∷ c.in-Some.rest.now) c.in-Branch.is) c.loop-node.invariant

pub returns-then-more-eq0 : goal.returns-then-more-eq0
returns-then-more-eq0 c s f r e =
    let now = past_rank c.loop-node.more c.args.reader.now in
    at_leaf c.forests_open.ensures now (past_rank 31 c.args.reader.now) c.args.shape.now (Some c.in-Leaf.token) c.in-Leaf.token c.loop-node.left.now c.in-Some.rest.now
    (λ i a. rank_first i.0 c.loop-node.more c.in-Leaf.token a (sym (c.is_word.ensures i.0 i.1) ∙ c.if-is_word.true) c.if-more-eq0.true)
    (c.in-Some.ensures ∙ ap (λ n. n ∷ c.in-Some.rest.now) c.in-Leaf.is) c.loop-node.invariant (s, r) f e

pub loop-node-preserved-then-is_word : goal.loop-node-preserved-then-is_word
loop-node-preserved-then-is_word c =
    let now = past_rank c.loop-node.more c.args.reader.now in
    let next = past_rank (c.loop-node.more - 1) c.args.reader.now in
    step_past_leaf c.forests_open.ensures now next (past_rank 31 c.args.reader.now) c.args.shape.now c.in-Leaf.token c.loop-node.left.now c.in-Some.rest.now
    (λ i a. rank_own i.0 c.loop-node.more c.in-Leaf.token a (sym (c.is_word.ensures i.0 i.1) ∙ c.if-is_word.true) c.if-more-eq0.false)
    (c.in-Some.ensures ∙ ap (λ n. n ∷ c.in-Some.rest.now) c.in-Leaf.is) c.loop-node.invariant

pub loop-node-preserved : goal.loop-node-preserved
loop-node-preserved c =
    let now = past_rank c.loop-node.more c.args.reader.now in
    step_past_leaf c.forests_open.ensures now now (past_rank 31 c.args.reader.now) c.args.shape.now c.in-Leaf.token c.loop-node.left.now c.in-Some.rest.now
    (λ i a. rank_other i.0 c.loop-node.more c.in-Leaf.token a (sym (c.is_word.ensures i.0 i.1) ∙ c.if-is_word.false))
    (c.in-Some.ensures ∙ ap (λ n. n ∷ c.in-Some.rest.now) c.in-Leaf.is) c.loop-node.invariant

pub returns : goal.returns
returns c s f r e =
    let now = past_rank c.loop-node.more c.args.reader.now in
    rank_none c.loop-node.more
    ∙ step_at_end c.forests_open.ensures now now (past_rank 31 c.args.reader.now) c.args.shape.now
    c.loop-node.left.now c.in_default.ensures c.loop-node.invariant (s, r) f e
