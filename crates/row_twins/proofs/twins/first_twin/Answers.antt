use Rattle.std.proofs.Common.{◌+◌, inl, inr, sym, subst, ◌∙◌, arith}
use Rattle.std.proofs.lemmas.Bool.{cases_eq, false≢true}
use Rattle.row_twins.specs.Twins.{HasTwin}
use Rattle.row_twins.proofs.Seeing.{seen_more}
use Rattle.row_twins.proofs.twins.first_twin.Goals as goal

pub returns-then-has_twin : goal.returns-then-has_twin
returns-then-has_twin g c =
    ((omega arith, omega (arith, c.count-k-end.ensures)), c.has_twin.ensures.0 c.if-has_twin.true, λ row some less. c.loop-k.invariant.1 row some (omega arith))

pub loop-k-preserved : goal.loop-k-preserved
loop-k-preserved g c =
    let rows = c.args.rows.now in (
      seen_more (g.L.Likeness.rows rows) (g.L.Likeness.hashed rows) c.loop-k.seen c.add.new.self (c.loop-k.k + 1) c.hash_of-hash.result c.loop-k.invariant.0 c.in_ok-add.ensures.linked c.in_ok-add.ensures.added
          (omega arith, omega (arith, c.count-k-end.ensures)) c.hash_of-hash.ensures,
      λ row some within twin. elim (cases_eq row (c.loop-k.k + 1)) [
        | inl e ↦ absurd (false≢true (sym c.if-has_twin.false ∙ c.has_twin.ensures.1 (subst (HasTwin (g.L.Likeness.alike rows)) e twin)))
        | inr n ↦ c.loop-k.invariant.1 row some (omega arith) twin
      ],
    )

pub returns : goal.returns
returns g c = λ row within twin. c.loop-k.invariant.1 row within.0 (let k = c.loop-k-test.false in let w = within.1 in omega (arith, c.count-k-end.ensures)) twin
