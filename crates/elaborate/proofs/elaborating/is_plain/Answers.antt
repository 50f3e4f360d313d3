use Rattle.std.proofs.Common.{refl, sym, ◌∙◌}
use Rattle.std.proofs.lemmas.Bool.Decides.{Decides-eqb}
use Rattle.ilasm_grammar.specs.declared.productions.TheConstants.{DATA, MEMBER_SIZE}
use Rattle.elaborate.proofs.elaborating.is_plain.Goals as goal

pub returns-then-count-eq0 : goal.returns-then-count-eq0
returns-then-count-eq0 c nodes counted is = record {
  no-first = sym (counted DATA refl) ∙ sym c.count.ensures ∙ c.if-count-eq0.true;
  no-second = sym (counted MEMBER_SIZE refl) ∙ sym c.count-then-count-eq0.ensures ∙ (Decides-eqb c.count-then-count-eq0.result 0).0 is;
}

pub returns-else-count-eq0 : goal.returns-else-count-eq0
returns-else-count-eq0 c nodes counted is = absurd (c.if-count-eq0.false ((Decides-eqb c.count.result 0).0 is))
