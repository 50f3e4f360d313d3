use Rattle.std.proofs.Common.{◌∷◌, ap, ◌∙◌, refl}
use Rattle.source_model.specs.Forest.{last_of, last_token, tokens_of}
use Rattle.source_nodes.proofs.Walks.{asks_all, asks_into_branch, asks_past_leaf, asked_at_end}
use Rattle.source_nodes.proofs.walk.last_token.Goals as goal

pub loop-node-init : goal.loop-node-init
loop-node-init c =
    asks_all c.derivations_are_forests.ensures c.forests_open.ensures last_token last_token c.args.nodes.now c.requires

pub loop-node-preserved-in-Branch : goal.loop-node-preserved-in-Branch
loop-node-preserved-in-Branch c =
    asks_into_branch c.derivations_are_forests.ensures c.forests_open.ensures (λ f. last_of c.loop-node.last (tokens_of f)) last_token c.args.nodes.now
    c.forests_join.ensures _ _ c.loop-node.left.now c.in-Some.rest.now (λ b a. ap (last_of c.loop-node.last) (c.forests_join.ensures.tokens b a))
    (c.in-Some.ensures ∙ ap (λ n. n ∷ c.in-Some.rest.now) c.in-Branch.is) c.loop-node.invariant

pub loop-node-preserved : goal.loop-node-preserved
loop-node-preserved c =
    asks_past_leaf c.derivations_are_forests.ensures c.forests_open.ensures (λ f. last_of c.loop-node.last (tokens_of f)) last_token c.args.nodes.now
    (λ f. last_of c.in-Leaf.token (tokens_of f)) c.in-Leaf.token c.loop-node.left.now c.in-Some.rest.now (λ a. refl)
    (c.in-Some.ensures ∙ ap (λ n. n ∷ c.in-Some.rest.now) c.in-Leaf.is) c.loop-node.invariant

pub returns : goal.returns
returns c f whole =
    asked_at_end c.derivations_are_forests.ensures c.forests_open.ensures (λ g. last_of c.loop-node.last (tokens_of g)) last_token c.args.nodes.now
    c.loop-node.left.now c.in_default.ensures c.loop-node.invariant f whole
