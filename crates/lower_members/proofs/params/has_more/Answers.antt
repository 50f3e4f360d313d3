use Rattle.std.proofs.Common.{◌∷◌, ap, ◌∙◌, arith}
use Rattle.std.specs.Prelude.{Bool, ◌||◌}
use Rattle.ilasm_grammar.specs.declared.productions.TheConstants.{NAME_OPT_SOME, PARAM_ATTR_STAR_MORE}
use Rattle.source_model.specs.Forest.{has, is_any_part}
use Rattle.source_nodes.proofs.Walks.{all_left, left_of_branch, left_of_leaf, none_found, there_is}
use Rattle.lower_members.proofs.BareParams.{second_is}
use Rattle.lower_members.proofs.params.has_more.Goals as goal

pub loop-node-init : goal.loop-node-init
loop-node-init c = record {
  named = all_left c.derivations_are_forests.ensures c.forests_open.ensures c.forests_join.ensures c.args.nodes.now NAME_OPT_SOME c.requires;
  flagged = all_left c.derivations_are_forests.ensures c.forests_open.ensures c.forests_join.ensures c.args.nodes.now PARAM_ATTR_STAR_MORE c.requires;
}

pub returns-then-production-eq-NAME_OPT_SOME : goal.returns-then-production-eq-NAME_OPT_SOME
returns-then-production-eq-NAME_OPT_SOME c f whole =
    ap (λ (b : Bool). b || has PARAM_ATTR_STAR_MORE f)
    (there_is c.derivations_are_forests.ensures c.forests_open.ensures c.forests_join.ensures c.args.nodes.now NAME_OPT_SOME c.in-Branch.production
    c.in-Branch.nodes c.loop-node.left.now c.in-Some.rest.now (c.in-Some.ensures ∙ ap (λ n. n ∷ c.in-Some.rest.now) c.in-Branch.is) (grind arith) c.loop-node.invariant.named f whole)

pub returns-then-production-eq-PARAM_ATTR_STAR_MORE : goal.returns-then-production-eq-PARAM_ATTR_STAR_MORE
returns-then-production-eq-PARAM_ATTR_STAR_MORE c f whole =
    second_is (has NAME_OPT_SOME f)
    ∙ ap (λ (b : Bool). has NAME_OPT_SOME f || b)
    (there_is c.derivations_are_forests.ensures c.forests_open.ensures c.forests_join.ensures c.args.nodes.now PARAM_ATTR_STAR_MORE c.in-Branch.production
    c.in-Branch.nodes c.loop-node.left.now c.in-Some.rest.now (c.in-Some.ensures ∙ ap (λ n. n ∷ c.in-Some.rest.now) c.in-Branch.is) (grind arith) c.loop-node.invariant.flagged f whole)

pub loop-node-preserved-in-Branch : goal.loop-node-preserved-in-Branch
loop-node-preserved-in-Branch c = record {
  named = left_of_branch c.derivations_are_forests.ensures c.forests_open.ensures c.forests_join.ensures c.args.nodes.now NAME_OPT_SOME c.in-Branch.production
      c.in-Branch.nodes c.loop-node.left.now c.in-Some.rest.now (c.in-Some.ensures ∙ ap (λ n. n ∷ c.in-Some.rest.now) c.in-Branch.is) (grind arith) c.loop-node.invariant.named;
  flagged = left_of_branch c.derivations_are_forests.ensures c.forests_open.ensures c.forests_join.ensures c.args.nodes.now PARAM_ATTR_STAR_MORE c.in-Branch.production
      c.in-Branch.nodes c.loop-node.left.now c.in-Some.rest.now (c.in-Some.ensures ∙ ap (λ n. n ∷ c.in-Some.rest.now) c.in-Branch.is) (grind arith) c.loop-node.invariant.flagged;
}

pub loop-node-preserved : goal.loop-node-preserved
loop-node-preserved c = record {
  named = left_of_leaf c.derivations_are_forests.ensures c.forests_open.ensures c.forests_join.ensures c.args.nodes.now NAME_OPT_SOME c.in-Leaf.token
      c.loop-node.left.now c.in-Some.rest.now (c.in-Some.ensures ∙ ap (λ n. n ∷ c.in-Some.rest.now) c.in-Leaf.is) c.loop-node.invariant.named;
  flagged = left_of_leaf c.derivations_are_forests.ensures c.forests_open.ensures c.forests_join.ensures c.args.nodes.now PARAM_ATTR_STAR_MORE c.in-Leaf.token
      c.loop-node.left.now c.in-Some.rest.now (c.in-Some.ensures ∙ ap (λ n. n ∷ c.in-Some.rest.now) c.in-Leaf.is) c.loop-node.invariant.flagged;
}

pub returns : goal.returns
returns c f whole =
    ap is_any_part (none_found c.derivations_are_forests.ensures c.forests_open.ensures c.forests_join.ensures c.args.nodes.now PARAM_ATTR_STAR_MORE c.loop-node.left.now c.in_default.ensures c.loop-node.invariant.flagged f whole)
    ∙ ap (λ (b : Bool). b || has PARAM_ATTR_STAR_MORE f)
    (ap is_any_part (none_found c.derivations_are_forests.ensures c.forests_open.ensures c.forests_join.ensures c.args.nodes.now NAME_OPT_SOME c.loop-node.left.now c.in_default.ensures c.loop-node.invariant.named f whole))
