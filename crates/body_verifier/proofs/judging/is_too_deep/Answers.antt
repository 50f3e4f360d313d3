use Rattle.std.proofs.Common.{inl, inr, arith}
use Rattle.std.proofs.lemmas.List.{length-map}
use Rattle.type_hierarchy.specs.Meaning.{meant}
use Rattle.body_verifier.proofs.judging.is_too_deep.Goals as goal

pub returns-else-bound-len : goal.returns-else-bound-len
returns-else-bound-len c = λ ns. (
  λ e. inr ((c.gets_too_deep.ensures ns).0 e),
  λ h. elim h [
    | inl deep ↦ absurd (omega (arith, c.if-bound-len.false, c.len.ensures, length-map c.args.stack.now (meant ns)))
    | inr deep ↦ (c.gets_too_deep.ensures ns).1 deep
  ],
)
