use Rattle.std.proofs.Common.{inl, inr, length, refl, subst, arith}
use Rattle.std.proofs.lemmas.Bool.{both_ways, cases_lt, false≢true}
use Rattle.std.proofs.lemmas.Option.{slice_get_read, slice_get_within}
use Rattle.assembly_tree.specs.declared.members.Field.{Field}
use Rattle.body_verifier.specs.MemberTests.{IsOther}
use Rattle.code_flow.proofs.Members.{contains_at, place_of}
use Rattle.code_flow.proofs.PairLemmas.{one_item}
use Rattle.body_verifier.proofs.naming_rules.misfits_field.Goals as goal

pub returns-then-is_other : goal.returns-then-is_other
returns-then-is_other c =
    let fields = c.args.fields.now in
    let at = slice_get_read fields (length fields) c.loop-field.field-index c.field-item.result refl c.loop-field-test.true c.field-item.is in (
      λ e. record { field = c.field-item.result; is = contains_at fields c.loop-field.field-index c.field-item.result at; other = c.is_other.ensures.0 c.if-is_other.true },
      λ h. refl,
    )

pub loop-field-preserved : goal.loop-field-preserved
loop-field-preserved c = λ j x less is other.
    let fields = c.args.fields.now in
    elim (cases_lt j c.loop-field.field-index) [
      | inl e ↦ c.loop-field.invariant j x e is other
      | inr e ↦
          let at = slice_get_read fields (length fields) c.loop-field.field-index c.field-item.result refl c.loop-field-test.true c.field-item.is in
          let same = one_item fields j c.loop-field.field-index x c.field-item.result (omega (arith, less, e)) is at in
          both_ways c.is_other.result c.if-is_other.false (c.is_other.ensures.1 (subst (λ (z : Field). IsOther c.args.r.now c.args.wanted z) same other))
    ]

pub returns : goal.returns
returns c =
    let fields = c.args.fields.now in (
      λ e. absurd (false≢true e),
      λ h.
          let p = place_of fields h.field h.is in
          let low = slice_get_within fields p.0 h.field p.1 in
          absurd (c.loop-field.invariant p.0 h.field (omega (arith, low, c.loop-field-test.false)) p.1 h.other),
    )
