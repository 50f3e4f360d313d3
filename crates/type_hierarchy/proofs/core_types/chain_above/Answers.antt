use Rattle.std.proofs.Common.{refl, sym, ◌∙◌}
use Rattle.type_hierarchy.proofs.core_types.chain_above.Goals as goal

pub returns-then-is_system-2 : goal.returns-then-is_system-2
returns-then-is_system-2 c = rw (sym c.is_system.ensures ∙ c.if-is_system.false, sym c.is_system-else-is_system.ensures ∙ c.if-is_system-2.true) refl

pub returns-then-is_system-3 : goal.returns-then-is_system-3
returns-then-is_system-3 c = rw (sym c.is_system.ensures ∙ c.if-is_system.false, sym c.is_system-else-is_system.ensures ∙ c.if-is_system-2.false, sym c.is_system-else-is_system-2.ensures ∙ c.if-is_system-3.true) refl

pub returns-then-is_system-7 : goal.returns-then-is_system-7
returns-then-is_system-7 c = rw (sym c.is_system.ensures ∙ c.if-is_system.false, sym c.is_system-else-is_system.ensures ∙ c.if-is_system-2.false, sym c.is_system-else-is_system-2.ensures ∙ c.if-is_system-3.false, sym c.is_system-else-is_system-3.ensures ∙ c.if-is_system-4.false, sym c.is_system-else-is_system-4.ensures ∙ c.if-is_system-5.false, sym c.is_system-else-is_system-5.ensures ∙ c.if-is_system-6.false, sym c.is_system-else-is_system-6.ensures ∙ c.if-is_system-7.true) refl

pub returns-else-is_system-7 : goal.returns-else-is_system-7
returns-else-is_system-7 c = rw (sym c.is_system.ensures ∙ c.if-is_system.false, sym c.is_system-else-is_system.ensures ∙ c.if-is_system-2.false, sym c.is_system-else-is_system-2.ensures ∙ c.if-is_system-3.false, sym c.is_system-else-is_system-3.ensures ∙ c.if-is_system-4.false, sym c.is_system-else-is_system-4.ensures ∙ c.if-is_system-5.false, sym c.is_system-else-is_system-5.ensures ∙ c.if-is_system-6.false, sym c.is_system-else-is_system-6.ensures ∙ c.if-is_system-7.false) refl
