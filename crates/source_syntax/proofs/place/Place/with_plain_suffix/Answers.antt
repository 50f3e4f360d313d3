use Rattle.std.proofs.Common.{◌≡◌, ap, sym, subst, ◌∙◌}
use Rattle.std.specs.Prelude.{IfOk}
use Rattle.type_terms.specs.declared.term.SigType.{ByRef, Pointer, Pinned}
use Rattle.source_model.specs.Types.{array}
use Rattle.source_syntax.specs.Suffixes.{IsSoundAt, suffix_at}
use Rattle.source_syntax.proofs.SuffixLemmas.{reference_is, pointer_is, pinned_is, array_node}
use Rattle.source_syntax.proofs.place.Place.with_plain_suffix.Goals as goal

pub returns-then-is_of : goal.returns-then-is_of
returns-then-is_of c s a x f e known m o sound each =
    subst (λ t. ByRef c.in_ok-of.of ≡ suffix_at s a c.args.node f t) c.in_ok-of.ensures (reference_is s a c.args.node f c.in_ok-of.of (sym c.is_of.ensures ∙ c.if-is_of.true))

pub returns-then-is_of-2 : goal.returns-then-is_of-2
returns-then-is_of-2 c s a x f e known m o sound each =
    subst (λ t. Pointer c.in_ok-of.of ≡ suffix_at s a c.args.node f t) c.in_ok-of.ensures (pointer_is s a c.args.node f c.in_ok-of.of (sym c.is_of-2.ensures ∙ c.if-is_of-2.true))

pub returns-then-is_of-3 : goal.returns-then-is_of-3
returns-then-is_of-3 c s a x f e known m o sound each =
    subst (λ t. Pinned c.in_ok-of.of ≡ suffix_at s a c.args.node f t) c.in_ok-of.ensures (pinned_is s a c.args.node f c.in_ok-of.of (sym c.is_of-3.ensures ∙ c.if-is_of-3.true))

pub returns : goal.returns
returns c s a x f e known m o sound each =
    let b = array_node c.args.node known (sym c.is_of.ensures ∙ c.if-is_of.false) (sym c.is_of-2.ensures ∙ c.if-is_of-2.false)
    (sym c.is_of-3.ensures ∙ c.if-is_of-3.false) m o in
    subst (λ w. IfOk c.array.result (λ with. with ≡ w))
    (ap (array s f) c.in_ok-of.ensures ∙ ap (λ n. suffix_at s a n f c.args.of) (sym b.1))
    (c.array.ensures s a x f e (subst (λ n. IsSoundAt s n f) b.1 sound))
