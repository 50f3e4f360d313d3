use Rattle.std.proofs.Common.{◌∙◌, ap, sym}
use Rattle.type_terms.specs.declared.term.SigType.{Value}
use Rattle.source_model.specs.OutOfRange.{asked_size}
use Rattle.source_model.specs.Nodes.{nothing_around}
use Rattle.check_data.proofs.TypeSizeLemmas.{instance_size, plain_value}
use Rattle.check_data.proofs.type_sizes.Measure.value_size.Goals as goal

pub returns-then-has : goal.returns-then-has
returns-then-has c s a f m e h = instance_size s a f (sym (c.has.ensures f e) ∙ c.if-has.true)

pub returns : goal.returns
returns c s a f m e h =
    c.named_size.ensures s m
    ∙ ap (λ n. asked_size s (Value n)) (c.in_ok-name.ensures s nothing_around m.place f e h)
    ∙ ap (asked_size s) (sym (plain_value s a f (sym (c.has.ensures f e) ∙ c.if-has.false)))
