-- The tests of variables' numbers tell whether there are such variables.
use Rattle.std.proofs.Common.{◌≡◌, inl, inr, ℕ, ◌≤◌, List, length, refl, ◌∙◌, ap, None, Some, arith}
use Rattle.std.specs.Prelude.{◌↔◌, IsTrue, nat_le, slice_get}
use Rattle.std.proofs.lemmas.Bool.{and_parts, and_from, cases_lt, leb-true, le-leb}
use Rattle.std.proofs.lemmas.Option.{slice_get_past}
use Rattle.assembly_tree.specs.declared.body.Ins.{Ins}
use Rattle.code_flow.specs.Operations.{operation}
use Rattle.code_flow.specs.Frames.{Frame}
use Rattle.code_flow.specs.Rows.{variable}
use Rattle.code_flow.specs.Rules.{loads_local, loads_argument}
use Rattle.code_flow.specs.CodeRules.{LacksLocal, LacksArgument}
use Rattle.code_flow.specs.CodeTests.{lacks_by}
use Rattle.code_flow.proofs.PairLemmas.{item_at, one_item}

none_past : {X : Type 0} (xs : List X) (n : ℕ) → slice_get xs n ≡ None → length xs ≤ n
none_past xs n e = elim (cases_lt n (length xs)) [
  | inl less ↦ absurd (let x = item_at xs n less in let is = x.1 in let z : ⊥ = cc in z)
  | inr more ↦ more
]

pub local_exact : (f : Frame) (k : ℕ) (i : Ins) (count number : ℕ) → slice_get f.code k ≡ Some i → number ≡ variable i → length f.locals ≡ count
    → IsTrue (lacks_by count number (loads_local (operation i.op))) ↔ LacksLocal f k
local_exact f k i count number is at len = (
  λ h.
      let p = and_parts (loads_local (operation i.op)) (nat_le count number) h in
      let low = leb-true count number p.1 in
      record {
        ins = i;
        operation = operation i.op;
        does = record { is = is; does = refl };
        loads = p.0;
        none = slice_get_past f.locals (variable i) (omega (arith, low, at, len));
      },
  λ r.
      let same = one_item f.code k k i r.ins refl is r.does.is in
      let low = none_past f.locals (variable r.ins) r.none in
      let number_is = at ∙ ap variable same in
      and_from (loads_local (operation i.op)) (nat_le count number)
      (ap (λ (z : Ins). loads_local (operation z.op)) same ∙ ap loads_local r.does.does ∙ r.loads)
      (le-leb count number (omega (arith, low, number_is, len))),
)

pub argument_exact : (f : Frame) (k : ℕ) (i : Ins) (count number : ℕ) → slice_get f.code k ≡ Some i → number ≡ variable i → length f.arguments ≡ count
    → IsTrue (lacks_by count number (loads_argument (operation i.op))) ↔ LacksArgument f k
argument_exact f k i count number is at len = (
  λ h.
      let p = and_parts (loads_argument (operation i.op)) (nat_le count number) h in
      let low = leb-true count number p.1 in
      record {
        ins = i;
        operation = operation i.op;
        does = record { is = is; does = refl };
        loads = p.0;
        none = slice_get_past f.arguments (variable i) (omega (arith, low, at, len));
      },
  λ r.
      let same = one_item f.code k k i r.ins refl is r.does.is in
      let low = none_past f.arguments (variable r.ins) r.none in
      let number_is = at ∙ ap variable same in
      and_from (loads_argument (operation i.op)) (nat_le count number)
      (ap (λ (z : Ins). loads_argument (operation z.op)) same ∙ ap loads_argument r.does.does ∙ r.loads)
      (le-leb count number (omega (arith, low, number_is, len))),
)
