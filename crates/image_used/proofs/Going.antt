-- What was marked so far is used, and what it names is marked or waits.
use Rattle.std.proofs.Common.{◌≡◌, ◌∙◌, sym, ap, subst, refl, ℕ, ◌+◌, ◌<◌, ◌≤◌, ◌⊎◌, inl, inr, List, [], ◌∷◌, ◌++◌, length, arith, length-append}
use Rattle.std.specs.Prelude.{◌↔◌, Contains}
use Rattle.std.proofs.lemmas.Bool.{cases_eq}
use Rattle.std.proofs.lemmas.List.Elements.{Contains-append_left, Contains-push, Contains-push_cases}
use Rattle.hash_places.specs.declared.slots.Slot.{Slot}
use Rattle.image_model.specs.Rows.{count_of, HasRow}
use Rattle.image_model.specs.Used.{IsReference, RowNames, IsUsed, by_row, by_reference, by_body}
use Rattle.method_states.specs.Marks.{marks_in, IsKept, IsMarked, HasPlace, HaveRoom, left_in}
use Rattle.method_states.specs.States.{AreNamedByBodies}
use Rattle.method_states.specs.declared.row_marks.RowMarks.{RowMarks}
use Rattle.method_states.proofs.Marking.{there_placed}
use Rattle.image_used.specs.Spreading.{Waits, Spreads, IsReady}
use Rattle.image_used.specs.Going.{IsDone, IsGoing, Keeps, Passed, NoRows, RowsTo, RowsOf, OthersOf, OthersBelow}
use Rattle.image_used.specs.declared.spread.RowAt.{RowAt}
use Rattle.image_used.proofs.Spreading.{placed}

pub used_there : {image : List ℕ} {table row : ℕ} → IsUsed image table row → HasRow image table row
used_there (by_row a b c d e) = e
used_there (by_reference a b c d) = d
used_there (by_body a b c d e) = e

pub kept_reference : (t : ℕ) → IsKept t → IsReference t
kept_reference t k = inr k

-- ---- marks that are kept

pub keeps_all : (m : RowMarks) → Keeps m m
keeps_all m = record { room = λ t. refl; kept = λ t r h. h }

pub keeps_then : (a b c : RowMarks) → Keeps a b → Keeps b c → Keeps a c
keeps_then a b c h k = record { room = λ t. k.room t ∙ h.room t; kept = λ t r x. k.kept t r (h.kept t r x) }

pub keeps_spread : (m n : RowMarks) (p q : List RowAt) (Named : ℕ → ℕ → Type 0) → Spreads m p n q Named → Keeps m n
keeps_spread m n p q Named s = record { room = s.room; kept = λ t r h. (s.marked t r).1 (inl h) }

pub done_kept : (image : List ℕ) (m n : RowMarks) (table row : ℕ) → Keeps m n → IsDone image m table row → IsDone image n table row
done_kept image m n table row k d t r names here = k.kept t r (d t r names (placed m n t r (k.room t) here))

pub done_now : (image : List ℕ) (m n : RowMarks) (p q : List RowAt) (table row : ℕ) → Spreads m p n q (RowNames image table row) → IsDone image n table row
done_now image m n p q table row s t r names here = (s.marked t r).1 (inr (names, placed m n t r (s.room t) here))

-- ---- what is used

pub used_other : (image : List ℕ) (m : RowMarks) (table row : ℕ) → HaveRoom image m → (IsReference table → ⊥) → HasRow image table row → (t r : ℕ) → RowNames image table row t r → HasPlace m t r → IsUsed image t r
used_other image m table row room other there t r names here =
    let k = there_placed image m t r room here in
    by_row other there names (kept_reference t k.0) k.1

pub used_on : (image : List ℕ) (m : RowMarks) (table row : ℕ) → HaveRoom image m → IsUsed image table row → (t r : ℕ) → RowNames image table row t r → HasPlace m t r → IsUsed image t r
used_on image m table row room used t r names here =
    let k = there_placed image m t r room here in
    by_reference used names (kept_reference t k.0) k.1

pub used_by_body : (image : List ℕ) (named : RowMarks) → AreNamedByBodies image named → (t r : ℕ) → IsMarked named t r → IsUsed image t r
used_by_body image named are t r h =
    let k = (are.each t r).0 h in
    let n = k.2 in
    by_body (n.some, n.upto) n.names n.is (kept_reference t k.0) k.1

-- ---- steps

pub going_on : (image : List ℕ) (m n : RowMarks) (p q : List RowAt) (seen new : List Slot) (Named : ℕ → ℕ → Type 0) → IsGoing image m p seen → Spreads m p n q Named → IsReady image n new
    → ((t r : ℕ) → Named t r → HasPlace m t r → IsUsed image t r) → IsGoing image n q new
going_on image m n p q seen new Named g s ready uses = record {
  ready = ready;
  used = λ t r x. elim ((s.marked t r).0 x) [ inl o ↦ g.used t r o | inr y ↦ uses t r y.0 y.1 ];
  waits = λ t r w. elim (s.only t r w) [ inl o ↦ (s.marked t r).1 (inl (g.waits t r o)) | inr x ↦ x ];
  done = λ t r x. elim (s.fresh t r x) [
    | inl o ↦ elim (g.done t r o) [ inl w ↦ inl (s.waits t r w) | inr d ↦ inr (done_kept image m n t r (keeps_spread m n p q Named s) d) ]
    | inr w ↦ inl w
  ];
}

-- one row that waited was taken
pub going_taken : (image : List ℕ) (m n : RowMarks) (before p q : List RowAt) (seen new : List Slot) (at : RowAt) → IsGoing image m before seen → before ≡ p ++ at ∷ [] → Spreads m p n q (RowNames image at.table at.row) → IsReady image n new
    → IsGoing image n q new
going_taken image m n before p q seen new at g e s ready =
    let kept = keeps_spread m n p q (RowNames image at.table at.row) s in
    let was : Waits before at.table at.row = subst (λ (z : List RowAt). Waits z at.table at.row) (sym e) (Contains-push p at) in
    record {
      ready = ready;
      used = λ t r x. elim ((s.marked t r).0 x) [ inl o ↦ g.used t r o | inr y ↦ used_on image m at.table at.row g.ready.room (g.used at.table at.row (g.waits at.table at.row was)) t r y.0 y.1 ];
      waits = λ t r w. elim (s.only t r w) [
        | inl o ↦ (s.marked t r).1 (inl (g.waits t r (subst (λ (z : List RowAt). Waits z t r) (sym e) (Contains-append_left p (at ∷ []) (record { table = t; row = r }) o))))
        | inr x ↦ x
      ];
      done = λ t r x. elim (s.fresh t r x) [
        | inl o ↦ elim (g.done t r o) [
          | inl w ↦ elim (Contains-push_cases p at (record { table = t; row = r }) (subst (λ (z : List RowAt). Waits z t r) e w)) [
            | inl left ↦ inl (s.waits t r left)
            | inr same ↦ inr (subst (λ (a : RowAt). IsDone image n a.table a.row) same (done_now image m n p q at.table at.row s))
          ]
          | inr d ↦ inr (done_kept image m n t r kept d)
        ]
        | inr w ↦ inl w
      ];
    }

pub last_there : (image : List ℕ) (m : RowMarks) (before p : List RowAt) (seen : List Slot) (at : RowAt) → IsGoing image m before seen → before ≡ p ++ at ∷ [] → HasRow image at.table at.row
last_there image m before p seen at g e =
    used_there (g.used at.table at.row (g.waits at.table at.row (subst (λ (z : List RowAt). Waits z at.table at.row) (sym e) (Contains-push p at))))

pub fewer_left : (m n : RowMarks) (before p q : List RowAt) (at : RowAt) (Named : ℕ → ℕ → Type 0) → before ≡ p ++ at ∷ [] → Spreads m p n q Named → left_in n + length q < left_in m + length before
fewer_left m n before p q at Named e s =
    let l = s.left in
    let k : length before ≡ length p + 1 = ap (λ (z : List RowAt). length z) e ∙ length-append p (at ∷ []) in
    omega arith

-- ---- passes

pub passed_none : (image : List ℕ) (m : RowMarks) (q : List RowAt) (seen : List Slot) (Rows : ℕ → ℕ → Type 0) → IsGoing image m q seen → ((t r : ℕ) → Rows t r → ⊥) → Passed image m m q seen Rows
passed_none image m q seen Rows g none = record { going = g; keeps = keeps_all m; done = λ t r x. absurd (none t r x) }

pub passed_as : (image : List ℕ) (m n : RowMarks) (q : List RowAt) (seen : List Slot) (A B : ℕ → ℕ → Type 0) → ((t r : ℕ) → B t r → A t r) → Passed image m n q seen A → Passed image m n q seen B
passed_as image m n q seen A B to h = record { going = h.going; keeps = h.keeps; done = λ t r x. h.done t r (to t r x) }

-- one more row
pub passed_row : (image : List ℕ) (a m n : RowMarks) (p q : List RowAt) (seen new : List Slot) (table k row : ℕ) → row ≡ k + 1 → (IsReference table → ⊥) → HasRow image table row → Passed image a m p seen (RowsTo table k)
    → Spreads m p n q (RowNames image table row) → IsReady image n new → Passed image a n q new (RowsTo table (k + 1))
passed_row image a m n p q seen new table k row is other there h s ready =
    let kept = keeps_spread m n p q (RowNames image table row) s in
    record {
      going = going_on image m n p q seen new (RowNames image table row) h.going s ready (used_other image m table row h.going.ready.room other there);
      keeps = keeps_then a m n h.keeps kept;
      done = λ t r x. elim (cases_eq r row) [
        | inl e ↦ subst (λ (y : ℕ). IsDone image n t y) (sym e) (subst (λ (z : ℕ). IsDone image n z row) (sym x.0) (done_now image m n p q table row s))
        | inr ne ↦ done_kept image m n t r kept (h.done t r (x.0, x.1, let l = x.2 in omega arith))
      ];
    }

-- one more table
pub passed_table : (image : List ℕ) (a m n : RowMarks) (p q : List RowAt) (seen new : List Slot) (k : ℕ) → Passed image a m p seen (OthersBelow image k) → Passed image m n q new (OthersOf image k) → Passed image a n q new (OthersBelow image (k + 1))
passed_table image a m n p q seen new k h g = record {
  going = g.going;
  keeps = keeps_then a m n h.keeps g.keeps;
  done = λ t r x. elim (cases_eq t k) [
    | inl e ↦ g.done t r (e, x.1, x.2)
    | inr ne ↦ done_kept image m n t r g.keeps (h.done t r (let l = x.0 in omega arith, x.1, x.2))
  ];
}

pub rows_to : (image : List ℕ) (table count : ℕ) → count_of image table ≤ count → (t r : ℕ) → RowsOf image table t r → RowsTo table count t r
rows_to image table count all t r h = (h.0, h.1.0, let l = subst (λ (x : ℕ). r ≤ count_of image x) h.0 h.1.1 in omega arith)
