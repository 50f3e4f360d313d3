use Rattle.std.proofs.Common.{◌≡◌, ◌+◌, ◌≤◌, ◌∷◌, [], slice_get, ap, sym, ◌∙◌, subst, length, refl, arith}
use Rattle.std.specs.Prelude.{Some}
use Rattle.std.proofs.lemmas.Bool.{false≢true}
use Rattle.std.proofs.lemmas.Option.{slice_get_read}
use Rattle.ilasm_grammar.specs.declared.productions.TheConstants.{ITEM_NAME}
use Rattle.source_model.specs.Forest.{leaf_at, parts, parts_outside}
use Rattle.source_model.specs.Instructions.{instruction_forms}
use Rattle.source_nodes.specs.Pieces.{ArePieces}
use Rattle.source_nodes.proofs.PieceLemmas.{mapped_below}
use Rattle.source_flags.proofs.PastShut as pieces
use Rattle.check_bodies.specs.CodeLines.{others}
use Rattle.check_bodies.proofs.CodeLineLemmas.{plain_lines}
use Rattle.check_bodies.proofs.LabelWalks as named
use Rattle.check_bodies.proofs.LineTable.{head_kind, instruction_kind, name_kind, none_of_them, other_kind}
use Rattle.check_bodies.proofs.PastLemmas.{
  form_no_name,
  form_no_other,
  form_passed,
  head_passed,
  instructions_past,
  labels_past,
  name_no_other,
  name_passed,
  not_passed,
  passed_forms,
}
use Rattle.check_bodies.proofs.code_lines.lines_in.Goals as goal
use Rattle.check_bodies.proofs.code_lines.lines_in.Goals.{In-Some}

node_is : (c : In-Some) → slice_get c.args.nodes.now c.loop-node.at ≡ Some c.in-Some.node.now
node_is c =
    let h = c.in-Some.ensures.lookup in
    slice_get_read c.args.nodes.now (length c.args.nodes.now) c.loop-node.at c.in-Some.node.now refl h.3.0 h.1

pub loop-node-init : goal.loop-node-init
loop-node-init c =
    let one = c.derivations_are_forests.ensures in
    let opens = c.forests_open.ensures in
    let joins = c.forests_join.ensures in
    let nodes = c.args.nodes.now in
    record {
      pieces = subst (λ found. pieces.Gathered nodes passed_forms instruction_forms 0 found) (sym c.in_ok-instructions.ensures)
          (pieces.begin one opens joins nodes passed_forms instruction_forms c.requires);
      named = subst (λ found. named.Named nodes passed_forms (ITEM_NAME ∷ []) 0 found) (sym c.new-labels.ensures)
          (named.begin one opens joins nodes passed_forms (ITEM_NAME ∷ []) c.requires);
      plain-is = λ _. pieces.begin one opens joins nodes passed_forms others c.requires;
    }

pub loop-node-preserved-then-kind-eq-GOES_ON : goal.loop-node-preserved-then-kind-eq-GOES_ON
loop-node-preserved-then-kind-eq-GOES_ON c =
    let one = c.derivations_are_forests.ensures in
    let opens = c.forests_open.ensures in
    let joins = c.forests_join.ensures in
    let nodes = c.args.nodes.now in
    let at = c.loop-node.at in
    let q = c.in-Branch.production in
    let n = c.in-Branch.count in
    let h = c.loop-node.invariant in
    let is = node_is ((goal.at.loop-node-preserved-then-kind-eq-GOES_ON c).In-Some) ∙ ap Some c.in-Branch.is in
    let none = none_of_them q (sym c.kind_of-kind.ensures ∙ c.if-kind-eq-GOES_ON.true) in
    let outside = not_passed q none.head none.name none.form in
    record {
      pieces = pieces.into_branch one opens joins nodes passed_forms instruction_forms at q n c.loop-node.instructions is none.form outside h.pieces;
      named = named.into_branch one opens joins nodes passed_forms (ITEM_NAME ∷ []) at q n c.loop-node.labels is none.name outside h.named;
      plain-is = λ e. pieces.into_branch one opens joins nodes passed_forms others at q n [] is none.other outside (h.plain-is e);
    }

pub loop-node-preserved-then-kind-eq-HEAD : goal.loop-node-preserved-then-kind-eq-HEAD
loop-node-preserved-then-kind-eq-HEAD c =
    let one = c.derivations_are_forests.ensures in
    let opens = c.forests_open.ensures in
    let joins = c.forests_join.ensures in
    let nodes = c.args.nodes.now in
    let at = c.loop-node.at in
    let q = c.in-Branch.production in
    let n = c.in-Branch.count in
    let h = c.loop-node.invariant in
    let is = node_is ((goal.at.loop-node-preserved-then-kind-eq-HEAD c).In-Some) ∙ ap Some c.in-Branch.is in
    let head = head_kind q (sym c.kind_of-kind.ensures ∙ c.if-kind-eq-HEAD.true) in
    let passed = head_passed q head.head in
    record {
      pieces = pieces.past_shut one opens joins nodes passed_forms instruction_forms at q n c.loop-node.instructions is head.form passed h.pieces;
      named = named.past_shut one opens joins nodes passed_forms (ITEM_NAME ∷ []) at q n c.loop-node.labels is head.name passed h.named;
      plain-is = λ e. pieces.past_shut one opens joins nodes passed_forms others at q n [] is head.other passed (h.plain-is e);
    }

pub leaf_at-requires : goal.leaf_at-requires
leaf_at-requires c =
    let l = c.loop-node.invariant.named in
    let is = node_is ((goal.at.leaf_at-requires c).In-Some) ∙ ap Some c.in-Branch.is in
    let b = named.below_node c.derivations_are_forests.ensures c.forests_open.ensures c.forests_join.ensures c.args.nodes.now passed_forms (ITEM_NAME ∷ []) c.loop-node.at
    c.in-Branch.production c.in-Branch.count c.loop-node.labels is l in
    (b.0, b.1 ∙ sym c.nodes_of.ensures)

pub loop-node-preserved-then-kind-eq-LABEL : goal.loop-node-preserved-then-kind-eq-LABEL
loop-node-preserved-then-kind-eq-LABEL c =
    let one = c.derivations_are_forests.ensures in
    let opens = c.forests_open.ensures in
    let joins = c.forests_join.ensures in
    let nodes = c.args.nodes.now in
    let at = c.loop-node.at in
    let q = c.in-Branch.production in
    let n = c.in-Branch.count in
    let h = c.loop-node.invariant in
    let is = node_is ((goal.at.loop-node-preserved-then-kind-eq-LABEL c).In-Some) ∙ ap Some c.in-Branch.is in
    let own = name_kind q (sym c.kind_of-kind.ensures ∙ c.if-kind-eq-LABEL.true) in
    let passed = name_passed q own.name in
    record {
      pieces = pieces.past_shut one opens joins nodes passed_forms instruction_forms at q n c.loop-node.instructions is own.form passed h.pieces;
      named = subst (λ found. named.Named nodes passed_forms (ITEM_NAME ∷ []) (at + 1 + n) found) (sym c.in_ok-push_label-in-Branch.ensures)
          (named.past_branch one opens joins nodes passed_forms (ITEM_NAME ∷ []) at q n c.leaf_at.result c.loop-node.labels is own.name
          (λ g e. c.leaf_at.ensures g (e ∙ sym c.nodes_of.ensures)) h.named);
      plain-is = λ e. pieces.past_shut one opens joins nodes passed_forms others at q n [] is (name_no_other q own.name) passed (h.plain-is e);
    }

pub loop-node-preserved-then-kind-eq-INSTRUCTION : goal.loop-node-preserved-then-kind-eq-INSTRUCTION
loop-node-preserved-then-kind-eq-INSTRUCTION c =
    let one = c.derivations_are_forests.ensures in
    let opens = c.forests_open.ensures in
    let joins = c.forests_join.ensures in
    let nodes = c.args.nodes.now in
    let at = c.loop-node.at in
    let q = c.in-Branch.production in
    let n = c.in-Branch.count in
    let h = c.loop-node.invariant in
    let is = node_is ((goal.at.loop-node-preserved-then-kind-eq-INSTRUCTION c).In-Some) ∙ ap Some c.in-Branch.is in
    let among = instruction_kind q (sym c.kind_of-kind.ensures ∙ c.if-kind-eq-INSTRUCTION.true) in
    let passed = form_passed q among in
    record {
      pieces = subst (λ found. pieces.Gathered nodes passed_forms instruction_forms (at + 1 + n) found) (sym c.in_ok-push-in-Branch.ensures.ok)
          (pieces.past_branch one opens joins nodes passed_forms instruction_forms at q n c.loop-node.instructions is among h.pieces);
      named = named.past_shut one opens joins nodes passed_forms (ITEM_NAME ∷ []) at q n c.loop-node.labels is (form_no_name q among) passed h.named;
      plain-is = λ e. pieces.past_shut one opens joins nodes passed_forms others at q n [] is (form_no_other q among) passed (h.plain-is e);
    }

pub loop-node-preserved-else-kind-eq-LABEL : goal.loop-node-preserved-else-kind-eq-LABEL
loop-node-preserved-else-kind-eq-LABEL c =
    let one = c.derivations_are_forests.ensures in
    let opens = c.forests_open.ensures in
    let joins = c.forests_join.ensures in
    let nodes = c.args.nodes.now in
    let at = c.loop-node.at in
    let q = c.in-Branch.production in
    let n = c.in-Branch.count in
    let h = c.loop-node.invariant in
    let is = node_is ((goal.at.loop-node-preserved-else-kind-eq-LABEL c).In-Some) ∙ ap Some c.in-Branch.is in
    let other = other_kind q (λ e. c.if-kind-eq-GOES_ON.false (c.kind_of-kind.ensures ∙ e)) (λ e. c.if-kind-eq-INSTRUCTION.false (c.kind_of-kind.ensures ∙ e))
    (λ e. c.if-kind-eq-LABEL.false (c.kind_of-kind.ensures ∙ e)) (λ e. c.if-kind-eq-HEAD.false (c.kind_of-kind.ensures ∙ e)) in
    let outside = not_passed q other.head other.name other.form in
    record {
      pieces = pieces.into_branch one opens joins nodes passed_forms instruction_forms at q n c.loop-node.instructions is other.form outside h.pieces;
      named = named.into_branch one opens joins nodes passed_forms (ITEM_NAME ∷ []) at q n c.loop-node.labels is other.name outside h.named;
      plain-is = λ e. absurd (false≢true e);
    }

pub loop-node-preserved : goal.loop-node-preserved
loop-node-preserved c =
    let one = c.derivations_are_forests.ensures in
    let opens = c.forests_open.ensures in
    let joins = c.forests_join.ensures in
    let nodes = c.args.nodes.now in
    let at = c.loop-node.at in
    let h = c.loop-node.invariant in
    let is = node_is ((goal.at.loop-node-preserved c).In-Some) ∙ ap Some c.in-Leaf.is in
    record {
      pieces = pieces.past_leaf one opens joins nodes passed_forms instruction_forms at c.in-Leaf.token c.loop-node.instructions is h.pieces;
      named = named.past_leaf one opens joins nodes passed_forms (ITEM_NAME ∷ []) at c.in-Leaf.token c.loop-node.labels is h.named;
      plain-is = λ e. pieces.past_leaf one opens joins nodes passed_forms others at c.in-Leaf.token [] is (h.plain-is e);
    }

pub returns-clause-parts : goal.returns-clause-parts
returns-clause-parts c =
    let f = c.requires in (
      parts_outside passed_forms instruction_forms f.0,
      pieces.gathered c.derivations_are_forests.ensures c.forests_open.ensures c.forests_join.ensures c.args.nodes.now passed_forms instruction_forms
          c.loop-node.at c.loop-node.instructions (omega (arith, c.in_default.ensures)) c.loop-node.invariant.pieces f.0 f.1,
    )

pub returns-clause-lines : goal.returns-clause-lines
returns-clause-lines c s f e bodies =
    let one = c.derivations_are_forests.ensures in
    let opens = c.forests_open.ensures in
    let joins = c.forests_join.ensures in
    let nodes = c.args.nodes.now in
    let at = c.loop-node.at in
    let h = c.loop-node.invariant in
    let over : length nodes ≤ at = omega (arith, c.in_default.ensures) in
    let ps = parts (ITEM_NAME ∷ []) f in
    record {
      instructions-are = subst (ArePieces nodes c.loop-node.instructions) (instructions_past s f bodies)
          (pieces.gathered one opens joins nodes passed_forms instruction_forms at c.loop-node.instructions over h.pieces f e);
      labels-are = named.all_named one opens joins nodes passed_forms (ITEM_NAME ∷ []) at c.loop-node.labels over h.named f e
          ∙ ap named.tokens_at (labels_past s f bodies) ∙ mapped_below (leaf_at 0) ps;
      plain-is = λ plain.
          plain_lines s nodes f e bodies (pieces.gathered one opens joins nodes passed_forms others at [] over (h.plain-is plain) f e);
    }
