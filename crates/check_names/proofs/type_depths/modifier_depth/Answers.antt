use Rattle.std.proofs.Common.{◌≡◌, ◌∙◌, sym}
use Rattle.std.specs.Prelude.{true}
use Rattle.check_names.specs.TypeDepths.{is_modifier}
use Rattle.check_names.proofs.DepthRules.{empty_nodes, some_nodes}
use Rattle.check_names.proofs.SuffixDepths.{named_modifier, typed_modifier}
use Rattle.check_names.proofs.type_depths.modifier_depth.Goals as goal

pub returns-then-is_empty : goal.returns-then-is_empty
returns-then-is_empty c s a f p count is e fits each inner =
    let known : is_modifier p ≡ true = sym (c.is_modifier.ensures p count is) ∙ c.if-not-is_modifier.false in
    named_modifier s a p f (sym (c.child.ensures f e) ∙ empty_nodes c.child.result.now (sym c.is_empty.ensures ∙ c.if-is_empty.true)) known fits each

pub returns : goal.returns
returns c s a f p count is e fits each inner =
    let known : is_modifier p ≡ true = sym (c.is_modifier.ensures p count is) ∙ c.if-not-is_modifier.false in
    typed_modifier s a p f c.args.deepest
    (λ none. some_nodes c.child.result.now (sym c.is_empty.ensures ∙ c.if-is_empty.false) (c.child.ensures f e ∙ none)) known fits each inner
