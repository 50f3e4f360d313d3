-- The steps of sections.
use Rattle.std.proofs.Common.{◌≡◌, ℕ, zero, suc, ◌+◌, ◌-◌, ◌*◌, ◌<◌, ◌≤◌, ◌^◌, inl, inr, min, nat_le, nat_lt, cond, ◌&&◌, List, [], ◌∷◌, refl, sym, ◌∙◌, ap, arith}
use Rattle.std.specs.Prelude.{Result, Ok, Err, IfOk}
use Rattle.std.proofs.lemmas.Bool.{cases_lt, le-leb, lt-leb, lt-ltb, le-ltb}
use Rattle.pe_layout.specs.FileMap.{section_at, extent_of}
use Rattle.pe_layout.specs.Headers.{virtual_address_at}
use Rattle.section_map.specs.declared.step.Step.{Step}
use Rattle.section_map.specs.Firsts.{first_holding, first_from, holds_at}
use Rattle.section_map.specs.Steps.{value_of, AreRising, Tell}
use Rattle.section_map.proofs.Firsts.{first_split}

-- no sections have no steps
pub none_told : (image : List ℕ) (table from count : ℕ) → count ≡ 0 → Tell [] (first_holding image table from count)
none_told image table from count none = record { rising = λ j k le lt. absurd (omega (arith, lt)); values = λ address. ap (first_from (holds_at image table address) from) (sym none) }

-- ---- one section

in_range : (address low size first : ℕ) → cond (nat_le (low + size) address) 65536 (cond (nat_le low address) first 65536)
    ≡ cond (nat_le low address && nat_lt address (low + size)) first 65536
in_range address low size first =
    elim (cases_lt address low) [
      | inl before ↦ let a = lt-leb low address before in let b = lt-leb (low + size) address (omega (arith, before)) in rw (a, b) refl
      | inr from ↦ let a = le-leb low address from in
          elim (cases_lt address (low + size)) [
            | inl before ↦ let b = lt-leb (low + size) address before in let c = lt-ltb address (low + size) before in rw (a, b, c) refl
            | inr behind ↦ let b = le-leb (low + size) address behind in let c = le-ltb address (low + size) behind in rw (a, b, c) refl
          ]
    ]

two_rise : (one other : Step) → one.from ≤ other.from → AreRising (one ∷ other ∷ [])
two_rise one other h zero zero le lt = omega arith
two_rise one other h zero (suc zero) le lt = h
two_rise one other h (suc zero) (suc zero) le lt = omega arith
two_rise one other h (suc j) zero le lt = absurd (omega (arith, le))
two_rise one other h (suc (suc j)) (suc zero) le lt = absurd (omega (arith, le))
two_rise one other h j (suc (suc k)) le lt = absurd (omega (arith, lt))

pub one_told : (image : List ℕ) (table section from end : ℕ) → from ≡ virtual_address_at image (table + 40 * section)
    → end ≡ from + extent_of (section_at image (table + 40 * section))
    → Tell (record { from = from; first = section } ∷ record { from = end; first = 65536 } ∷ []) (first_holding image table section 1)
one_told image table section from end e f =
    record {
      rising = two_rise record { from = from; first = section } record { from = end; first = 65536 } (omega (arith, f));
      values = λ address. rw (f, e) (in_range address (virtual_address_at image (table + 40 * section)) (extent_of (section_at image (table + 40 * section))) section);
    }

-- ---- two halves

pub joined : (image : List ℕ) (table from half count : ℕ) (left right steps : List Step) → half ≤ count → from + count < 2 ^ 16
    → Tell left (first_holding image table from half) → Tell right (first_holding image table (from + half) (count - half))
    → Tell steps (λ address. min (value_of left address) (value_of right address)) → Tell steps (first_holding image table from count)
joined image table from half count left right steps part few l r t = record {
  rising = t.rising;
  values = λ address.
      t.values address ∙ ap (λ v. min v (value_of right address)) (l.values address) ∙ ap (λ v. min (first_holding image table from half address) v) (r.values address)
      ∙ sym (first_split (holds_at image table address) from half (count - half) count (from + half) (omega (arith, part)) refl (omega (arith, few)));
}

-- the same of what comes of merging, where there was memory
pub all_joined : {E : Type 0} (image : List ℕ) (table from half count : ℕ) (left right : List Step) → half ≤ count → from + count < 2 ^ 16
    → Tell left (first_holding image table from half) → Tell right (first_holding image table (from + half) (count - half))
    → (result : Result (List Step) E) → IfOk result (λ steps. Tell steps (λ address. min (value_of left address) (value_of right address)))
    → IfOk result (λ steps. Tell steps (first_holding image table from count))
all_joined image table from half count left right part few l r (Ok steps) t = joined image table from half count left right steps part few l r t
all_joined image table from half count left right part few l r (Err e) t = tt
