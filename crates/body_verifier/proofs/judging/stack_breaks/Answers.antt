use Rattle.std.proofs.Common.{◌≡◌, ◌↔◌, ◌∙◌, ◌-◌, ap, subst, List, IsTrue, length, drop}
use Rattle.type_hierarchy.specs.Hierarchy.{Hierarchy}
use Rattle.type_hierarchy.specs.Stack.{Stack}
use Rattle.type_hierarchy.specs.Tables.{hierarchy_in}
use Rattle.type_hierarchy.specs.World.{hierarchy}
use Rattle.stack_states.specs.Asking.{FailsToFit}
use Rattle.code_flow.specs.Rows.{Row}
use Rattle.stack_rows.specs.RowMeanings.{row_meant, stack_meant, IsStackWithin}
use Rattle.stack_rows.proofs.Growing.{row_same, stack_same, stack_within}
use Rattle.stack_states.proofs.Topmost.{top_taken, top_within, wrong_same, fit_same, mismatch_same}
use Rattle.body_verifier.proofs.judging.stack_breaks.Goals as goal

pub has_wrong_operand-requires-clause-stack : goal.has_wrong_operand-requires-clause-stack
has_wrong_operand-requires-clause-stack c =
    top_within _ _ c.args.stack.now c.as_slice-operands.result.now (c.as_slice-operands.ensures ∙ c.in_ok-operands.ensures) c.requires.stack

pub fails_to_fit-requires-clause-stack : goal.fails_to_fit-requires-clause-stack
fails_to_fit-requires-clause-stack c =
    let top = c.as_slice-operands.result.now in
    stack_within c.args.w.now.nodes c.has_wrong_operand.new.w.nodes top c.in_ok-wrong.ensures.stays.nodes
    (top_within _ _ c.args.stack.now top (c.as_slice-operands.ensures ∙ c.in_ok-operands.ensures) c.requires.stack)

pub returns-clause-ok : goal.returns-clause-ok
returns-clause-ok c =
    let w = c.args.w.now in
    let later = c.has_wrong_operand.new.w in
    let stays = c.in_ok-wrong.ensures.stays in
    let r = c.args.row.now in
    let s = c.args.stack.now in
    let top = c.as_slice-operands.result.now in
    let is : top ≡ drop (length s - length r.operands) s =
    c.as_slice-operands.ensures ∙ c.in_ok-operands.ensures ∙ ap (λ n. drop (length s - n) s) c.len.ensures in
    let in_top : IsStackWithin (length w.nodes) top = top_within _ _ s top is c.requires.stack in
    let same = top_taken w.nodes r s top is in
    let row : Row = row_meant w.nodes r in
    let values : List Stack = stack_meant w.nodes s in
    let operands : List Stack = stack_meant w.nodes top in
    let P : Row → Type 0 = λ (x : Row). IsTrue c.in_ok-unfit.unfit ↔ FailsToFit (hierarchy later) x (stack_meant later.nodes top) in
    let Q : List Stack → Type 0 = λ (x : List Stack). IsTrue c.in_ok-unfit.unfit ↔ FailsToFit (hierarchy later) row x in
    let R : Hierarchy → Type 0 = λ (x : Hierarchy). IsTrue c.in_ok-unfit.unfit ↔ FailsToFit x row operands in
    record {
      few = c.has_too_few-too_few.ensures w.nodes;
      deep = c.is_too_deep-too_deep.ensures w.nodes;
      kinds = wrong_same (hierarchy w) row operands values c.in_ok-wrong.wrong same c.in_ok-wrong.ensures.ok;
      fits = fit_same (hierarchy w) row operands values c.in_ok-unfit.unfit same
          (subst R (ap hierarchy_in stays.tables)
          (subst Q (stack_same w.nodes later.nodes top stays.nodes in_top)
          (subst P (row_same w.nodes later.nodes r stays.nodes c.requires.row) c.in_ok-unfit.ensures.ok)));
      pairs = mismatch_same (hierarchy w) row operands values c.is_mismatched-mismatched.result same (c.is_mismatched-mismatched.ensures (hierarchy w) w.nodes);
      above = c.has_more-more.ensures w.nodes;
      filled = c.is_full-full.ensures w.nodes;
    }
