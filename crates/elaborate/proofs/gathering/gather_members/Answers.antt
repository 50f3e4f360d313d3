use Rattle.std.proofs.Common.{◌≡◌, ◌+◌, List, [], ◌∷◌, take, slice_get, ap, sym, ◌∙◌, subst, length, refl}
use Rattle.std.specs.Prelude.{Some}
use Rattle.std.proofs.lemmas.Option.{slice_get_read}
use Rattle.source_flags.specs.Lines.{productions_of}
use Rattle.source_flags.specs.declared.gathering.Kind.TheVariants.{Members}
use Rattle.source_flags.proofs.PastShut.{Gathered, begin, past_leaf, into_branch, past_branch, past_shut}
use Rattle.source_nodes.specs.declared.pieces.Piece.{Piece}
use Rattle.elaborate.specs.HeadForms.{head_forms}
use Rattle.elaborate.proofs.gathering.gather_members.Goals as goal
use Rattle.elaborate.proofs.gathering.gather_members.Goals.{In-Some}

take_none : (xs : List Piece) → take 0 xs ≡ []
take_none [] = refl
take_none (x ∷ xs) = refl

node_is : (c : In-Some) → slice_get c.args.nodes.now c.loop-node.at ≡ Some c.in-Some.node.now
node_is c =
    let h = c.in-Some.ensures.lookup in
    slice_get_read c.args.nodes.now (length c.args.nodes.now) c.loop-node.at c.in-Some.node.now refl h.3.0 h.1

pub loop-node-init : goal.loop-node-init
loop-node-init c =
    subst (λ found. Gathered c.args.nodes.now head_forms (productions_of Members) 0 found) (sym (c.truncate.ensures ∙ take_none c.args.found.now))
    (begin c.derivations_are_forests.ensures c.forests_open.ensures c.forests_join.ensures c.args.nodes.now head_forms (productions_of Members) c.requires)

pub loop-node-preserved-then-is_of_kind : goal.loop-node-preserved-then-is_of_kind
loop-node-preserved-then-is_of_kind c =
    subst (λ found. Gathered c.args.nodes.now head_forms (productions_of Members) (c.loop-node.at + 1 + c.in-Branch.count) found) (sym c.in_ok-push-in-Branch.ensures.ok)
    (past_branch c.derivations_are_forests.ensures c.forests_open.ensures c.forests_join.ensures c.args.nodes.now head_forms (productions_of Members) c.loop-node.at
    c.in-Branch.production c.in-Branch.count c.loop-node.found (node_is ((goal.at.loop-node-preserved-then-is_of_kind c).In-Some) ∙ ap Some c.in-Branch.is)
    (sym c.is_of_kind.ensures ∙ c.if-is_of_kind.true) c.loop-node.invariant)

pub loop-node-preserved-then-is_of_head : goal.loop-node-preserved-then-is_of_head
loop-node-preserved-then-is_of_head c =
    past_shut c.derivations_are_forests.ensures c.forests_open.ensures c.forests_join.ensures c.args.nodes.now head_forms (productions_of Members) c.loop-node.at
    c.in-Branch.production c.in-Branch.count c.loop-node.found (node_is ((goal.at.loop-node-preserved-then-is_of_head c).In-Some) ∙ ap Some c.in-Branch.is)
    (sym c.is_of_kind.ensures ∙ c.if-is_of_kind.false) (sym c.is_of_head.ensures ∙ c.if-is_of_head.true) c.loop-node.invariant

pub loop-node-preserved-else-is_of_head : goal.loop-node-preserved-else-is_of_head
loop-node-preserved-else-is_of_head c =
    into_branch c.derivations_are_forests.ensures c.forests_open.ensures c.forests_join.ensures c.args.nodes.now head_forms (productions_of Members) c.loop-node.at
    c.in-Branch.production c.in-Branch.count c.loop-node.found (node_is ((goal.at.loop-node-preserved-else-is_of_head c).In-Some) ∙ ap Some c.in-Branch.is)
    (sym c.is_of_kind.ensures ∙ c.if-is_of_kind.false) (sym c.is_of_head.ensures ∙ c.if-is_of_head.false) c.loop-node.invariant

pub loop-node-preserved : goal.loop-node-preserved
loop-node-preserved c =
    past_leaf c.derivations_are_forests.ensures c.forests_open.ensures c.forests_join.ensures c.args.nodes.now head_forms (productions_of Members) c.loop-node.at
    c.in-Leaf.token c.loop-node.found (node_is ((goal.at.loop-node-preserved c).In-Some) ∙ ap Some c.in-Leaf.is) c.loop-node.invariant
