-- The token of the entry point is that of the method's row.
use Rattle.std.proofs.Common.{◌≡◌, ap, refl, sym, ◌∙◌, ℕ, zero, suc, ◌+◌, ◌<◌, true, false, cond, List, [], ◌∷◌, Some, arith, ⊎_elim}
use Rattle.std.specs.Prelude.{◌↔◌, slice_get}
use Rattle.std.proofs.lemmas.Bool.{cases_Bool}
use Rattle.assembly_tree.specs.declared.members.Method.{Method}
use Rattle.image_rows.specs.Filled.{entry_from}
use Rattle.image_model.specs.Rows.{token_of}
use Rattle.laws_image_parts.specs.AtRows.{AtEach}
use Rattle.laws_image_parts.specs.EntryRead.{HaveOneEntry}

-- the methods behind the first
one_behind : (m : Method) (ms : List Method) → HaveOneEntry (m ∷ ms) → HaveOneEntry ms
one_behind m ms one j k x y at_j at_k e f = let same = one (suc j) (suc k) x y at_j at_k e f in omega arith

is_entry : (row : ℕ) (m : Method) (ms : List Method) → m.entry ≡ true → entry_from row (m ∷ ms) ≡ 0x06000000 + row
is_entry row m ms e = ap (λ b. cond b (0x06000000 + row) (entry_from (row + 1) ms)) e

not_entry : (row : ℕ) (m : Method) (ms : List Method) → m.entry ≡ false → entry_from row (m ∷ ms) ≡ entry_from (row + 1) ms
not_entry row m ms e = ap (λ b. cond b (0x06000000 + row) (entry_from (row + 1) ms)) e

entry_there : (row k : ℕ) (ms : List Method) (m : Method) → HaveOneEntry ms → slice_get ms k ≡ Some m → m.entry ≡ true → entry_from row ms ≡ 0x06000000 + (row + k)
entry_there row k [] m one at e = absurd cc
entry_there row zero (n ∷ ms) m one at e =
    let same : n ≡ m = cc in
    let here : row ≡ row + 0 = omega arith in
    is_entry row n ms (ap (λ (x : Method). x.entry) same ∙ e) ∙ ap (λ r. 0x06000000 + r) here
entry_there row (suc k) (n ∷ ms) m one at e =
    let there : row + 1 + k ≡ row + suc k = omega arith in
    ⊎_elim
    (λ h. let same = one 0 (suc k) n m refl at h e in absurd (omega arith))
    (λ h. not_entry row n ms h ∙ entry_there (row + 1) k ms m (one_behind n ms one) at e ∙ ap (λ r. 0x06000000 + r) there)
    (cases_Bool n.entry)

entry_back : (row k : ℕ) (ms : List Method) (m : Method) → slice_get ms k ≡ Some m → entry_from row ms ≡ 0x06000000 + (row + k) → m.entry ≡ true
entry_back row k [] m at e = absurd cc
entry_back row zero (n ∷ ms) m at e =
    let same : n ≡ m = cc in
    ⊎_elim
    (λ h. sym (ap (λ (x : Method). x.entry) same) ∙ h)
    (λ h. let later = not_before (row + 1) ms row (omega arith) (sym (not_entry row n ms h) ∙ e ∙ omega arith) in absurd later)
    (cases_Bool n.entry)
  where
    -- no later method has the token of an earlier row
    not_before : (first : ℕ) (xs : List Method) (r : ℕ) → r < first → entry_from first xs ≡ 0x06000000 + r → ⊥
    not_before first [] r low f = omega arith
    not_before first (x ∷ xs) r low f =
        ⊎_elim
        (λ h. let is = is_entry first x xs h in omega arith)
        (λ h. not_before (first + 1) xs r (omega arith) (sym (not_entry first x xs h) ∙ f))
        (cases_Bool x.entry)
entry_back row (suc k) (n ∷ ms) m at e =
    let there : row + suc k ≡ row + 1 + k = omega arith in
    ⊎_elim
    (λ h. let is = is_entry row n ms h in absurd (omega arith))
    (λ h. entry_back (row + 1) k ms m at (sym (not_entry row n ms h) ∙ e ∙ ap (λ r. 0x06000000 + r) there))
    (cases_Bool n.entry)

pub entry_is_read : (methods : List Method) → HaveOneEntry methods → AtEach (λ row (m : Method). (m.entry ≡ true) ↔ (entry_from 1 methods ≡ token_of 0x06 row)) 1 methods
entry_is_read ms one k m at = (entry_there 1 k ms m one at, entry_back 1 k ms m at)
