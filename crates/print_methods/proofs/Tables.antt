-- How the rows of parameters come into a table by their numbers.
use Rattle.std.proofs.Common.{◌≡◌, ℕ, zero, suc, ◌+◌, ◌-◌, ◌<◌, ◌≤◌, Bool, true, false, cond, nat_eq, List, [], ◌∷◌, ◌++◌, length, drop, get_or, Option, None, Some, inl, inr, refl, ap, sym, subst, ◌∙◌, arith}
use Rattle.std.proofs.lemmas.Bool.{cases_eq, eq-eqb}
use Rattle.std.proofs.lemmas.List.{length-append}
use Rattle.std.specs.Prelude.{slice_get, slice_set}
use borrow.Author.Tests.{ne_eqb}
use Rattle.assembly_tree.specs.declared.members.Param.{Param}
use Rattle.listing_model.specs.Methods.{row_of}
use Rattle.print_members.proofs.Steps.{drop_at}
use Rattle.print_methods.specs.Tables.{AreEmpty, IsTable, row_of_place}

pub set_past : {X : Type 0} (xs : List X) (k : ℕ) (x : X) → length xs ≤ k → xs ≡ slice_set xs k x
set_past [] k x h = refl
set_past (y ∷ ys) zero x h = absurd (omega arith)
set_past (y ∷ ys) (suc k) x h = ap (λ zs. y ∷ zs) (set_past ys k x (omega arith))

pub set_count : {X : Type 0} (xs : List X) (k : ℕ) (x : X) → length (slice_set xs k x) ≡ length xs
set_count [] k x = refl
set_count (y ∷ ys) zero x = refl
set_count (y ∷ ys) (suc k) x = ap suc (set_count ys k x)

get_set_other : {X : Type 0} (xs : List X) (j k : ℕ) (x : X) → (k ≡ j → ⊥) → slice_get (slice_set xs j x) k ≡ slice_get xs k
get_set_other [] j k x n = refl
get_set_other (y ∷ ys) zero zero x n = absurd (n refl)
get_set_other (y ∷ ys) zero (suc k) x n = refl
get_set_other (y ∷ ys) (suc j) zero x n = refl
get_set_other (y ∷ ys) (suc j) (suc k) x n = get_set_other ys j k x (λ e. n (ap suc e))

get_set_same : {X : Type 0} (xs : List X) (j : ℕ) (x y : X) → slice_get (slice_set xs j x) j ≡ Some y → y ≡ x
get_set_same [] j x y e = absurd cc
get_set_same (z ∷ zs) zero x y e = cc
get_set_same (z ∷ zs) (suc j) x y e = get_set_same zs j x y e

get_is : {X : Type 0} (xs : List X) (k : ℕ) (x : X) → k < length xs → x ≡ get_or xs k x → slice_get xs k ≡ Some x
get_is [] k x h e = absurd (omega arith)
get_is (y ∷ ys) zero x h e = ap Some (sym e)
get_is (y ∷ ys) (suc k) x h e = get_is ys k x (omega arith) e

-- ---- without rows

pub none_first : AreEmpty []
none_first = record { empty = λ k x at. absurd cc }

none_more : (xs : List (Option ℕ)) → ((k : ℕ) (x : Option ℕ) → slice_get xs k ≡ Some x → x ≡ None) → (k : ℕ) (x : Option ℕ) →
    slice_get (xs ++ None ∷ []) k ≡ Some x → x ≡ None
none_more [] h zero x e = cc
none_more [] h (suc k) x e = absurd cc
none_more (y ∷ ys) h zero x e = h zero x e
none_more (y ∷ ys) h (suc k) x e = none_more ys (λ j z at. h (suc j) z at) k x e

pub none_pushed : (xs ys : List (Option ℕ)) → ys ≡ xs ++ None ∷ [] → AreEmpty xs → AreEmpty ys
none_pushed xs ys e h = record { empty = λ k x at. none_more xs h.empty k x (ap (λ zs. slice_get zs k) (sym e) ∙ at) }

-- ---- with the rows from a place on

-- each number leads to the first row with it among these last ones
pub record LeadsFrom (rows : List Param) (from : ℕ) (places : List (Option ℕ)) : Type 0 where
  pub leads : (k : ℕ) (x : Option ℕ) → slice_get places k ≡ Some x → row_of_place rows x ≡ row_of (drop from rows) k

none_behind : {X : Type 0} (xs : List X) → drop (length xs) xs ≡ []
none_behind [] = refl
none_behind (x ∷ xs) = none_behind xs

pub begins : (rows : List Param) (places : List (Option ℕ)) (from : ℕ) → from ≡ length rows → AreEmpty places → LeadsFrom rows from places
begins rows places from e h = record {
  leads = λ k x at.
      ap (row_of_place rows) (h.empty k x at)
      ∙ ap (λ rs. row_of rs k) (sym (ap (λ n. drop n rows) e ∙ none_behind rows));
}

at_number : (r : Param) (rest : List Param) (k : ℕ) → k ≡ r.number → row_of (r ∷ rest) k ≡ Some r
at_number r rest k e = ap (λ t. cond t (Some r) (row_of rest k)) (eq-eqb r.number k (sym e))

at_other : (r : Param) (rest : List Param) (k : ℕ) → (k ≡ r.number → ⊥) → row_of (r ∷ rest) k ≡ row_of rest k
at_other r rest k n = ap (λ t. cond t (Some r) (row_of rest k)) (ne_eqb r.number k (λ e. n (sym e)))

pub one_row : (rows : List Param) (places places' : List (Option ℕ)) (from place to m : ℕ) (r : Param) → m ≡ r.number → from ≡ place + 1 → to ≡ place → place < length rows →
    r ≡ get_or rows place r → places' ≡ slice_set places m (Some place) → LeadsFrom rows from places → LeadsFrom rows to places'
one_row rows places places' from place to m r em ef et h er ep so =
    let list : drop to rows ≡ r ∷ drop from rows =
    ap (λ n. drop n rows) et ∙ (drop_at rows place r h er ∙ ap (λ n. r ∷ drop n rows) (sym ef)) in
    record {
      leads = λ k x at.
          let here : slice_get (slice_set places r.number (Some place)) k ≡ Some x = ap (λ xs. slice_get xs k) (sym (ep ∙ ap (λ j. slice_set places j (Some place)) em)) ∙ at in
          let found : row_of_place rows x ≡ row_of (r ∷ drop from rows) k =
          elim (cases_eq k r.number) [
            | inl e ↦
                let is : x ≡ Some place =
                get_set_same places r.number (Some place) x (ap (λ j. slice_get (slice_set places r.number (Some place)) j) (sym e) ∙ here) in
                ap (row_of_place rows) is ∙ (get_is rows place r h er ∙ sym (at_number r (drop from rows) k e))
            | inr n ↦
                so.leads k x (sym (get_set_other places r.number k (Some place) n) ∙ here) ∙ sym (at_other r (drop from rows) k n)
          ] in
          found ∙ ap (λ rs. row_of rs k) (sym list);
    }

pub ends : (rows : List Param) (places : List (Option ℕ)) (from : ℕ) → from ≡ 0 → LeadsFrom rows from places → IsTable rows places
ends rows places from e h = record { leads = λ k x at. h.leads k x at ∙ ap (λ n. row_of (drop n rows) k) e }

pub pushed_count : (xs ys : List (Option ℕ)) (n : ℕ) → ys ≡ xs ++ None ∷ [] → length xs ≡ n → length ys ≡ n + 1
pushed_count xs ys n e h = ap length e ∙ (length-append xs (None ∷ []) ∙ ap (λ k. k + 1) h)

pub row_found : (rows : List Param) (places : List (Option ℕ)) (k place : ℕ) (x : Option ℕ) (got : Option Param) → IsTable rows places →
    slice_get places k ≡ Some x → x ≡ Some place → got ≡ slice_get rows place → got ≡ row_of rows k
row_found rows places k place x got t at e hg = hg ∙ (sym (ap (row_of_place rows) e) ∙ t.leads k x at)

pub row_none : (rows : List Param) (places : List (Option ℕ)) (k : ℕ) (x : Option ℕ) → IsTable rows places → slice_get places k ≡ Some x → x ≡ None →
    None ≡ row_of rows k
row_none rows places k x t at e = sym (ap (row_of_place rows) e) ∙ t.leads k x at
