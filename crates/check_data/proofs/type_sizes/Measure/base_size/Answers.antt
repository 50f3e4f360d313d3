use Rattle.std.proofs.Common.{◌≡◌, arith, sym, subst, ◌∙◌}
use Rattle.std.specs.Prelude.{IfOk, ◌==◌, false}
use Rattle.ilasm_grammar.specs.declared.productions.TheConstants.{TYPE_BASE_VALUETYPE}
use Rattle.source_model.specs.OutOfRange.{asked_size, asked_value_size}
use Rattle.source_model.specs.Types.{base_type, types_in}
use Rattle.check_data.proofs.type_sizes.Measure.base_size.Goals as goal

pub returns-then-production-eq-TYPE_BASE_VALUETYPE : goal.returns-then-production-eq-TYPE_BASE_VALUETYPE
returns-then-production-eq-TYPE_BASE_VALUETYPE c s a f m e h =
    subst (λ p. IfOk c.value_size.result (λ n. n ≡ asked_size s (base_type s a p f (types_in s a f)))) (sym c.if-production-eq-TYPE_BASE_VALUETYPE.true)
    (c.value_size.ensures s a f m e h)

pub returns-else-production-eq-TYPE_BASE_VALUETYPE : goal.returns-else-production-eq-TYPE_BASE_VALUETYPE
returns-else-production-eq-TYPE_BASE_VALUETYPE c s a f m e h =
    let other : (c.args.production == TYPE_BASE_VALUETYPE) ≡ false = grind arith in
    c.widened.ensures ∙ sym (c.primitive_size.ensures s a f (types_in s a f) (asked_value_size s) e other)
