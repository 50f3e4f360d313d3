use Rattle.std.proofs.Common.{◌≡◌, ℕ, List, ap, sym, subst, ◌∙◌}
use Rattle.std.specs.Prelude.{Bool, bit_or, if◌then◌else◌, true}
use Rattle.ilasm_grammar.specs.declared.productions.TheConstants.{FLAGS}
use Rattle.ilasm_grammar.specs.declared.tree.TreeNode.{TreeNode}
use Rattle.source_model.specs.Flags.{flags_number}
use Rattle.source_model.specs.Forest.{preorder, the}
use Rattle.source_model.specs.OutOfRange.{is_16_bits}
use Rattle.source_model.specs.Shapes.{natural}
use Rattle.source_model.specs.Values.{int_at}
use Rattle.lower_members.proofs.ParamFlags.{line_flags_fit}
use Rattle.lower_members.proofs.params.with_line_flags.Goals as goal

pub returns-then-has : goal.returns-then-has
returns-then-has c s r reads run =
    let below : preorder r.head.below ≡ c.nodes_of-below.result.now = ap (λ (w : ℕ × List TreeNode). w.1) (sym run.head) ∙ sym c.nodes_of-below.ensures in
    let some = sym (c.has.ensures r.head.below below) ∙ c.if-has.true in
    let token = c.leaf_at.ensures (the FLAGS r.head.below) (sym (c.the.ensures r.head.below below)) in
    let fits = subst (λ k. is_16_bits (int_at s k) ≡ true) (sym token) (line_flags_fit s r.head run.own run.speaks some) in
    let number = c.natural_16.ensures s reads fits ∙ ap (λ k. natural (int_at s k)) token in
    ap (bit_or c.args.flags) number ∙ ap (λ (b : Bool). if b then bit_or c.args.flags (flags_number s r.head.below) else c.args.flags) (sym some)

pub returns-else-has : goal.returns-else-has
returns-else-has c s r reads run =
    let below : preorder r.head.below ≡ c.nodes_of-below.result.now = ap (λ (w : ℕ × List TreeNode). w.1) (sym run.head) ∙ sym c.nodes_of-below.ensures in
    let empty = sym (c.has.ensures r.head.below below) ∙ c.if-has.false in
    sym (ap (λ (b : Bool). if b then bit_or c.args.flags (flags_number s r.head.below) else c.args.flags) empty)
