use Rattle.std.proofs.Common.{◌≡◌, ◌+◌, ◌≤◌, ◌∷◌, [], slice_get, ap, sym, ◌∙◌, subst, length, refl, arith}
use Rattle.std.specs.Prelude.{Some, false, ◌==◌}
use Rattle.std.proofs.lemmas.Bool.{ne_eqb}
use Rattle.std.proofs.lemmas.Option.{slice_get_read}
use Rattle.ilasm_grammar.specs.declared.productions.TheConstants.{ITEM_NAME}
use Rattle.source_model.specs.Forest.{leaf_at, parts, parts_outside}
use Rattle.source_model.specs.Instructions.{instruction_forms}
use Rattle.source_nodes.specs.Pieces.{ArePieces}
use Rattle.source_nodes.proofs.PieceLemmas.{mapped_below}
use Rattle.source_flags.proofs.PastShut as pieces
use Rattle.lower_bodies.specs.HeldItems.{passed_forms}
use Rattle.lower_bodies.proofs.HeldLemmas as held
use Rattle.lower_bodies.proofs.LineWalks as named
use Rattle.lower_bodies.proofs.LineWalks.{forms_apart, name_among, no_name_among}
use Rattle.lower_bodies.proofs.PastLemmas.{
  going_no_instruction,
  going_unnamed,
  going_unpassed,
  going_untold,
  head_passed,
  head_untold,
  instruction_passed,
  instruction_untold,
  instructions_unpassed,
  labels_unpassed,
  name_passed,
  name_untold,
  not_passed,
  same_past,
}
use Rattle.lower_bodies.proofs.body_lines.lines_in.Goals as goal
use Rattle.lower_bodies.proofs.body_lines.lines_in.Goals.{In-Some}

node_is : (c : In-Some) → slice_get c.args.nodes.now c.loop-node.at ≡ Some c.in-Some.node.now
node_is c =
    let h = c.in-Some.ensures.lookup in
    slice_get_read c.args.nodes.now (length c.args.nodes.now) c.loop-node.at c.in-Some.node.now refl h.3.0 h.1

pub loop-node-init : goal.loop-node-init
loop-node-init c = record {
  pieces = subst (λ found. pieces.Gathered c.args.nodes.now passed_forms instruction_forms 0 found) (sym c.in_ok-instructions.ensures)
      (pieces.begin c.derivations_are_forests.ensures c.forests_open.ensures c.forests_join.ensures c.args.nodes.now passed_forms instruction_forms c.requires);
  named = subst (λ found. named.Named c.args.nodes.now passed_forms (ITEM_NAME ∷ []) 0 found) (sym c.new-labels.ensures)
      (named.begin c.derivations_are_forests.ensures c.forests_open.ensures c.forests_join.ensures c.args.nodes.now passed_forms (ITEM_NAME ∷ []) c.requires);
  held = subst (held.Walked c.args.nodes.now 0) (sym c.nothing-held.ensures)
      (held.begins c.derivations_are_forests.ensures c.forests_open.ensures c.forests_join.ensures c.args.nodes.now c.requires);
}

pub loop-node-preserved-then-goes_on : goal.loop-node-preserved-then-goes_on
loop-node-preserved-then-goes_on c =
    let one = c.derivations_are_forests.ensures in
    let opens = c.forests_open.ensures in
    let joins = c.forests_join.ensures in
    let nodes = c.args.nodes.now in
    let at = c.loop-node.at in
    let q = c.in-Branch.production in
    let n = c.in-Branch.count in
    let h = c.loop-node.invariant in
    let is = node_is ((goal.at.loop-node-preserved-then-goes_on c).In-Some) ∙ ap Some c.in-Branch.is in
    let among = sym c.goes_on.ensures ∙ c.if-goes_on.true in
    let outside = going_unpassed q among in
    record {
      pieces = pieces.into_branch one opens joins nodes passed_forms instruction_forms at q n c.loop-node.instructions is (going_no_instruction q among) outside h.pieces;
      named = named.into_branch one opens joins nodes passed_forms (ITEM_NAME ∷ []) at q n c.loop-node.labels is (going_unnamed q among) outside h.named;
      held = held.into_branch one opens joins nodes at q n c.loop-node.held c.loop-node.held is outside (held.untold c.loop-node.held q (going_untold q among)) h.held;
    }

pub loop-node-preserved-then-is_instruction : goal.loop-node-preserved-then-is_instruction
loop-node-preserved-then-is_instruction c =
    let one = c.derivations_are_forests.ensures in
    let opens = c.forests_open.ensures in
    let joins = c.forests_join.ensures in
    let nodes = c.args.nodes.now in
    let at = c.loop-node.at in
    let q = c.in-Branch.production in
    let n = c.in-Branch.count in
    let h = c.loop-node.invariant in
    let is = node_is ((goal.at.loop-node-preserved-then-is_instruction c).In-Some) ∙ ap Some c.in-Branch.is in
    let among = sym c.is_instruction.ensures ∙ c.if-is_instruction.true in
    let passed = instruction_passed q among in
    record {
      pieces = subst (λ found. pieces.Gathered nodes passed_forms instruction_forms (at + 1 + n) found) (sym c.in_ok-push-in-Branch.ensures.ok)
          (pieces.past_branch one opens joins nodes passed_forms instruction_forms at q n c.loop-node.instructions is among h.pieces);
      named = named.past_shut one opens joins nodes passed_forms (ITEM_NAME ∷ []) at q n c.loop-node.labels is (forms_apart q among) passed h.named;
      held = held.past_shut one opens joins nodes at q n c.loop-node.held is passed (instruction_untold q among) h.held;
    }

pub leaf_at-requires : goal.leaf_at-requires
leaf_at-requires c =
    let l = c.loop-node.invariant.named in
    let is = node_is ((goal.at.leaf_at-requires c).In-Some) ∙ ap Some c.in-Branch.is in
    let b = named.below_node c.derivations_are_forests.ensures c.forests_open.ensures c.forests_join.ensures c.args.nodes.now passed_forms (ITEM_NAME ∷ []) c.loop-node.at
    c.in-Branch.production c.in-Branch.count c.loop-node.labels is l in
    (b.0, b.1 ∙ sym c.nodes_of.ensures)

pub loop-node-preserved-then-production-eq-ITEM_NAME : goal.loop-node-preserved-then-production-eq-ITEM_NAME
loop-node-preserved-then-production-eq-ITEM_NAME c =
    let one = c.derivations_are_forests.ensures in
    let opens = c.forests_open.ensures in
    let joins = c.forests_join.ensures in
    let nodes = c.args.nodes.now in
    let at = c.loop-node.at in
    let q = c.in-Branch.production in
    let n = c.in-Branch.count in
    let h = c.loop-node.invariant in
    let is = node_is ((goal.at.loop-node-preserved-then-production-eq-ITEM_NAME c).In-Some) ∙ ap Some c.in-Branch.is in
    let other = sym c.is_instruction.ensures ∙ c.if-is_instruction.false in
    let same : q ≡ ITEM_NAME = grind arith in
    let among = name_among q same in
    let passed = name_passed q among in
    record {
      pieces = pieces.past_shut one opens joins nodes passed_forms instruction_forms at q n c.loop-node.instructions is other passed h.pieces;
      named = subst (λ found. named.Named nodes passed_forms (ITEM_NAME ∷ []) (at + 1 + n) found) (sym c.in_ok-push-in-Branch-2.ensures)
          (named.past_branch one opens joins nodes passed_forms (ITEM_NAME ∷ []) at q n c.leaf_at.result c.loop-node.labels is among
          (λ g e. c.leaf_at.ensures g (e ∙ sym c.nodes_of.ensures)) h.named);
      held = held.past_shut one opens joins nodes at q n c.loop-node.held is passed (name_untold q among) h.held;
    }

pub loop-node-preserved-then-is_of_head : goal.loop-node-preserved-then-is_of_head
loop-node-preserved-then-is_of_head c =
    let one = c.derivations_are_forests.ensures in
    let opens = c.forests_open.ensures in
    let joins = c.forests_join.ensures in
    let nodes = c.args.nodes.now in
    let at = c.loop-node.at in
    let q = c.in-Branch.production in
    let n = c.in-Branch.count in
    let h = c.loop-node.invariant in
    let is = node_is ((goal.at.loop-node-preserved-then-is_of_head c).In-Some) ∙ ap Some c.in-Branch.is in
    let other = sym c.is_instruction.ensures ∙ c.if-is_instruction.false in
    let apart : (q == ITEM_NAME) ≡ false = ne_eqb q ITEM_NAME c.if-production-eq-ITEM_NAME.false in
    let unnamed = no_name_among q apart in
    let among = sym c.is_of_head.ensures ∙ c.if-is_of_head.true in
    let passed = head_passed q among in
    record {
      pieces = pieces.past_shut one opens joins nodes passed_forms instruction_forms at q n c.loop-node.instructions is other passed h.pieces;
      named = named.past_shut one opens joins nodes passed_forms (ITEM_NAME ∷ []) at q n c.loop-node.labels is unnamed passed h.named;
      held = held.past_shut one opens joins nodes at q n c.loop-node.held is passed (head_untold q among) h.held;
    }

pub loop-node-preserved-then-is_told : goal.loop-node-preserved-then-is_told
loop-node-preserved-then-is_told c =
    let one = c.derivations_are_forests.ensures in
    let opens = c.forests_open.ensures in
    let joins = c.forests_join.ensures in
    let nodes = c.args.nodes.now in
    let at = c.loop-node.at in
    let q = c.in-Branch.production in
    let n = c.in-Branch.count in
    let h = c.loop-node.invariant in
    let is = node_is ((goal.at.loop-node-preserved-then-is_told c).In-Some) ∙ ap Some c.in-Branch.is in
    let other = sym c.is_instruction.ensures ∙ c.if-is_instruction.false in
    let apart : (q == ITEM_NAME) ≡ false = ne_eqb q ITEM_NAME c.if-production-eq-ITEM_NAME.false in
    let unnamed = no_name_among q apart in
    let outside = not_passed q (sym c.is_of_head.ensures ∙ c.if-is_of_head.false) unnamed other in
    record {
      pieces = pieces.into_branch one opens joins nodes passed_forms instruction_forms at q n c.loop-node.instructions is other outside h.pieces;
      named = named.into_branch one opens joins nodes passed_forms (ITEM_NAME ∷ []) at q n c.loop-node.labels is unnamed outside h.named;
      held = held.into_branch one opens joins nodes at q n c.loop-node.held c.with-held.result is outside c.with-held.ensures h.held;
    }

pub loop-node-preserved-else-is_told : goal.loop-node-preserved-else-is_told
loop-node-preserved-else-is_told c =
    let one = c.derivations_are_forests.ensures in
    let opens = c.forests_open.ensures in
    let joins = c.forests_join.ensures in
    let nodes = c.args.nodes.now in
    let at = c.loop-node.at in
    let q = c.in-Branch.production in
    let n = c.in-Branch.count in
    let h = c.loop-node.invariant in
    let is = node_is ((goal.at.loop-node-preserved-else-is_told c).In-Some) ∙ ap Some c.in-Branch.is in
    let other = sym c.is_instruction.ensures ∙ c.if-is_instruction.false in
    let apart : (q == ITEM_NAME) ≡ false = ne_eqb q ITEM_NAME c.if-production-eq-ITEM_NAME.false in
    let unnamed = no_name_among q apart in
    let outside = not_passed q (sym c.is_of_head.ensures ∙ c.if-is_of_head.false) unnamed other in
    record {
      pieces = pieces.into_branch one opens joins nodes passed_forms instruction_forms at q n c.loop-node.instructions is other outside h.pieces;
      named = named.into_branch one opens joins nodes passed_forms (ITEM_NAME ∷ []) at q n c.loop-node.labels is unnamed outside h.named;
      held = held.into_branch one opens joins nodes at q n c.loop-node.held c.loop-node.held is outside (held.untold c.loop-node.held q (sym c.is_told.ensures ∙ c.if-is_told.false)) h.held;
    }

pub loop-node-preserved : goal.loop-node-preserved
loop-node-preserved c =
    let one = c.derivations_are_forests.ensures in
    let opens = c.forests_open.ensures in
    let joins = c.forests_join.ensures in
    let nodes = c.args.nodes.now in
    let at = c.loop-node.at in
    let h = c.loop-node.invariant in
    let is = node_is ((goal.at.loop-node-preserved c).In-Some) ∙ ap Some c.in-Leaf.is in
    record {
      pieces = pieces.past_leaf one opens joins nodes passed_forms instruction_forms at c.in-Leaf.token c.loop-node.instructions is h.pieces;
      named = named.past_leaf one opens joins nodes passed_forms (ITEM_NAME ∷ []) at c.in-Leaf.token c.loop-node.labels is h.named;
      held = held.past_leaf one opens joins nodes at c.in-Leaf.token c.loop-node.held is h.held;
    }

pub returns-clause-parts : goal.returns-clause-parts
returns-clause-parts c =
    let f = c.requires in (
      parts_outside passed_forms instruction_forms f.0,
      pieces.gathered c.derivations_are_forests.ensures c.forests_open.ensures c.forests_join.ensures c.args.nodes.now passed_forms instruction_forms
          c.loop-node.at c.loop-node.instructions (omega (arith, c.in_default.ensures)) c.loop-node.invariant.pieces f.0 f.1,
    )

pub returns-clause-lines : goal.returns-clause-lines
returns-clause-lines c s f e bodies =
    let one = c.derivations_are_forests.ensures in
    let opens = c.forests_open.ensures in
    let joins = c.forests_join.ensures in
    let nodes = c.args.nodes.now in
    let over : length nodes ≤ c.loop-node.at = omega (arith, c.in_default.ensures) in
    let ps = parts (ITEM_NAME ∷ []) f in
    record {
      instructions-are = subst (ArePieces nodes c.loop-node.instructions) (same_past instruction_forms instructions_unpassed s f bodies)
          (pieces.gathered one opens joins nodes passed_forms instruction_forms c.loop-node.at c.loop-node.instructions over c.loop-node.invariant.pieces f e);
      labels-are = named.all_named one opens joins nodes passed_forms (ITEM_NAME ∷ []) c.loop-node.at c.loop-node.labels over c.loop-node.invariant.named f e
          ∙ ap named.tokens_at (same_past (ITEM_NAME ∷ []) labels_unpassed s f bodies) ∙ mapped_below (leaf_at 0) ps;
      held-is = held.ends one opens joins nodes c.loop-node.at c.loop-node.held over c.loop-node.invariant.held f e;
    }
