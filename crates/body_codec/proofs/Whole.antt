-- What is written is the body's most compact form.
use Rattle.std.proofs.Common.{◌≡◌, ◌∙◌, inl, inr, ℕ, suc, ◌<◌, ◌≤◌, ◌-◌, ◌^◌, Bool, true, false, not, nat_eq, nat_le, List, [], ◌∷◌, ◌++◌, length, take, replicate, get_or, ap, refl, sym, subst, arith}
use Rattle.std.specs.List.{All, list_all, fold, flat_map, slice_range}
use Rattle.std.proofs.lemmas.List.{length-append, append_assoc, append-nil, drop_at, take_at}
use Rattle.std.proofs.lemmas.List.Folds.{list_all_at}
use Rattle.std.proofs.lemmas.Bool.{and_parts, cases_Bool, leb-true, ltb-true, both_ways, ne_eqb}
use Rattle.body_codec.specs.declared.decoding.sections.ClauseRow.{ClauseRow}
use Rattle.body_codec.specs.Header.{code_end, has_sections}
use Rattle.body_codec.specs.Sections.{padded, sections, sections_from, is_broken, body_end, clause_rows, section_end, rows_in}
use Rattle.body_codec.specs.Written.{all_small, padding, section_bytes, serves_small, tail_bytes}
use Rattle.body_codec.proofs.SectionRows.{FatFits, Holds, SmallFits, fat_holds, length-padding, only_section, padding_is, padding_long, small_holds}

-- ---- behind the code

-- the numbers of a row fit
pub record RowFits (r : ClauseRow) : Type 0 where
  pub kind : r.kind ≤ 4
  pub try_offset : r.try_offset < 2 ^ 32
  pub try_length : r.try_length < 2 ^ 32
  pub handler_offset : r.handler_offset < 2 ^ 32
  pub handler_length : r.handler_length < 2 ^ 32
  pub class_or_filter : r.class_or_filter < 2 ^ 32

fat_fits : (r : ClauseRow) → RowFits r → FatFits r
fat_fits r f = record {
  kind = omega (arith, f.kind);
  try_offset = f.try_offset;
  try_length = f.try_length;
  handler_offset = f.handler_offset;
  handler_length = f.handler_length;
  class_or_filter = f.class_or_filter;
}

small_fits : (r : ClauseRow) → RowFits r → serves_small r ≡ true → SmallFits r
small_fits r f s =
    let a = and_parts _ _ s in
    let b = and_parts _ _ a.0 in
    let c = and_parts _ _ b.0 in
    record {
      kind = omega (arith, f.kind);
      try_offset = ltb-true _ _ c.0;
      try_length = ltb-true _ _ c.1;
      handler_offset = ltb-true _ _ b.1;
      handler_length = ltb-true _ _ a.1;
      class_or_filter = f.class_or_filter;
    }

each_small : (rows : List ClauseRow) → list_all serves_small rows ≡ true → (k : ℕ) (d : ClauseRow) → k < length rows → serves_small (get_or rows k d) ≡ true
each_small rows e k d h =
    elim (cases_Bool (serves_small (get_or rows k d))) [ inl y ↦ y | inr n ↦ absurd (both_ways _ (list_all_at serves_small rows k d h n) e) ]

-- what the bytes behind the code say
pub record Parts (bytes : List ℕ) (at : ℕ) (rows : List ClauseRow) : Type 0 where
  pub whole : is_broken bytes ≡ false
  pub rows_are : clause_rows bytes ≡ rows
  pub ends : body_end bytes ≡ length bytes
  pub one : 0 < length rows → sections bytes ≡ padded at ∷ []
  pub filled : 0 < length rows → slice_range bytes at (padded at) ≡ replicate (padded at - at) 0
  pub holds : 0 < length rows → Holds bytes (padded at) (not (all_small rows)) rows

section_holds : (front : List ℕ) (p : ℕ) → length front ≡ p → (rows : List ClauseRow) → All RowFits rows → length rows < 2 ^ 16
    → Holds (front ++ section_bytes (all_small rows) rows) p (not (all_small rows)) rows
section_holds front p len rows fits few =
    let P : Bool → Type 0 = λ b. Holds (front ++ section_bytes b rows) p (not b) rows in
    elim (cases_Bool (all_small rows)) [
      | inl y ↦
          let parts = and_parts (nat_le (length rows) 20) (list_all serves_small rows) y in
          subst P (sym y) (small_holds front p len rows (leb-true _ _ parts.0) (λ k d h. small_fits (get_or rows k d) (fits k d h) (each_small rows parts.1 k d h)))
      | inr n ↦ subst P (sym n) (fat_holds front p len rows few (λ k d h. fat_fits (get_or rows k d) (fits k d h)))
    ]

some_parts : (bytes : List ℕ) (at : ℕ) (rows : List ClauseRow) → code_end bytes ≡ at → has_sections bytes ≡ true
    → slice_range bytes at (padded at) ≡ replicate (padded at - at) 0 → Holds bytes (padded at) (not (all_small rows)) rows → Parts bytes at rows
unfolding sections
some_parts bytes at rows e more zs h =
    let list : sections bytes ≡ padded at ∷ [] =
    rw more (ap (λ n. sections_from (length bytes) bytes (padded n)) e ∙ only_section bytes (padded at) (length bytes) h.read h.more_is) in
    record {
      whole = rw list (rw h.read refl);
      rows_are = ap (λ ps. flat_map (rows_in bytes) ps) list ∙ append-nil (rows_in bytes (padded at)) ∙ h.rows_are;
      ends = ap (λ ps. fold (λ end p. section_end bytes p) (code_end bytes) ps) list ∙ h.ends;
      one = λ l. list;
      filled = λ l. zs;
      holds = λ l. h;
    }

pub parts_of : (front : List ℕ) (rows : List ClauseRow) → All RowFits rows → length rows < 2 ^ 16
    → code_end (front ++ tail_bytes (length front) rows) ≡ length front → has_sections (front ++ tail_bytes (length front) rows) ≡ not (nat_eq (length rows) 0)
    → Parts (front ++ tail_bytes (length front) rows) (length front) rows
unfolding sections
parts_of front [] fits few e more = record {
  whole = rw more refl;
  rows_are = rw more refl;
  ends = rw more (e ∙ sym (ap length (append-nil front)));
  one = λ l. absurd (omega arith);
  filled = λ l. absurd (omega arith);
  holds = λ l. absurd (omega arith);
}
parts_of front (r ∷ rs) fits few e more =
    let rows : List ClauseRow = r ∷ rs in
    let at : ℕ = length front in
    let P : List ℕ → Type 0 = λ bs. Holds bs (padded at) (not (all_small rows)) rows in
    let len : length (front ++ padding at) ≡ padded at = length-append front (padding at) ∙ length-padding at in
    let section : List ℕ = section_bytes (all_small rows) rows in
    let behind : slice_range (front ++ tail_bytes at rows) at (padded at) ≡ replicate (padded at - at) 0 =
    ap (λ (bs : List ℕ). take (padded at - at) bs) (drop_at front (tail_bytes at rows) at refl)
    ∙ take_at (padding at) section (padded at - at) (padding_long at) ∙ padding_is at in
    some_parts (front ++ tail_bytes at rows) at rows e (more ∙ ap not (ne_eqb (suc (length rs)) 0 (λ q. omega arith))) behind
    (subst P (append_assoc front (padding at) (section_bytes (all_small rows) rows)) (section_holds (front ++ padding at) (padded at) len rows fits few))
