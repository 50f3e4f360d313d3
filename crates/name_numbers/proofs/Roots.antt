-- Which nodes are roots, and the two sorts of the others.
use Rattle.std.proofs.Common.{◌≡◌, ℕ, ◌<◌, ◌≤◌, ◌⊎◌, inl, inr, Bool, true, false, refl, subst, sym, arith, List}
use Rattle.std.specs.Prelude.{◌==◌, ◌||◌, nat_le}
use Rattle.std.proofs.lemmas.Bool.{cases_eq, cases_lt, or_from, or_left, ne_eqb, le-leb, lt-leb}
use Rattle.name_numbers.specs.Names.{is_root, parent_at, AreNodes}
use Rattle.name_numbers.specs.Numbering.{IsSort}
use Rattle.name_numbers.specs.declared.numbering.Node.{Node}

or_right : (x y : Bool) → y ≡ true → (x || y) ≡ true
or_right true y e = refl
or_right false y e = e

pub root_first : (last : ℕ) → is_root last 0 ≡ true
root_first last = or_left (0 == 0) (nat_le last 0) refl

pub root_behind : (last k : ℕ) → last ≤ k → is_root last k ≡ true
root_behind last k past = or_right (k == 0) (nat_le last k) (le-leb last k past)

pub no_root : (last k : ℕ) → 0 < k → k < last → is_root last k ≡ false
no_root last k some less = or_from (k == 0) (nat_le last k) (ne_eqb k 0 (λ e. absurd (omega arith))) (lt-leb last k less)

pub root_cases : (last k : ℕ) → (is_root last k ≡ true) ⊎ ((0 < k) × (k < last))
root_cases last k = elim (cases_eq k 0) [
  | inl z ↦ inl (subst (λ j. is_root last j ≡ true) (sym z) (root_first last))
  | inr n ↦ elim (cases_lt k last) [
    | inl less ↦ inr (omega arith, less)
    | inr past ↦ inl (root_behind last k past)
  ]
]

module _ (nodes : List Node) (middle last : ℕ) (ok : AreNodes nodes middle last) where
  pub first_sort : IsSort nodes last 1 middle
  first_sort = record {
    order = let s = ok.some in omega arith;
    within = let o = ok.order in let w = ok.within in omega arith;
    there = ok.there;
    no_root = λ k from less. no_root last k from (let o = ok.order in omega arith);
    inside = λ k from less. elim (root_cases last (parent_at nodes k)) [
      | inl root ↦ inl root
      | inr in_range ↦ inr (in_range.0, ok.first k less)
    ];
  }

  pub second_sort : IsSort nodes last middle last
  second_sort = record {
    order = ok.order;
    within = ok.within;
    there = ok.there;
    no_root = λ k from less. no_root last k (let s = ok.some in omega arith) less;
    inside = λ k from less. elim (root_cases last (parent_at nodes k)) [
      | inl root ↦ inl root
      | inr in_range ↦ elim (ok.second k from less) [
        | inl root ↦ inl root
        | inr behind ↦ inr (behind, in_range.1)
      ]
    ];
  }
