-- One row more was looked at.
use Rattle.std.proofs.Common.{◌≡◌, ℕ, ◌+◌, ◌<◌, ◌≤◌, ◌⊎◌, inl, inr, Bool, true, false, not, cond, List, [], ◌∷◌, ◌++◌, length, take, get_or, Contains, refl, sym, subst, arith}
use Rattle.std.proofs.lemmas.Bool.{false≢true}
use Rattle.std.proofs.lemmas.List.{length-append}
use Rattle.std.specs.Prelude.{IsTrue, ◌↔◌}
use Rattle.std.proofs.lemmas.List.Elements.{Contains-append_left, Contains-append_right, Contains-append_cases, Contains-get_or}
use Rattle.image_model.specs.Rows.{count_of}
use Rattle.image_model.specs.Used.{IsUsed}
use Rattle.method_states.specs.Marks.{IsKept}
use Rattle.kept_names.specs.declared.names.KeptNames.{KeptNames}
use Rattle.kept_owners.specs.Kept.{IsThere, IsWanted, AreWanted, Goes, SpellsNone, AreLeft, IsDone, LookSo, RoundSo}
use Rattle.kept_owners.proofs.Keeping.{goes_same, goes_on}
use Rattle.kept_owners.proofs.Members.{in_none, in_one, one_in, front_cases, in_all}

-- ---- a round

pub round_starts : (image : List ℕ) (kept : KeptNames) (rows : List ℕ) → RoundSo image kept kept rows [] 0
round_starts image kept rows = record {
  goes = goes_same image kept;
  among = λ row c. absurd (in_none row c);
  looked = λ row c. absurd (in_none row c);
  few = omega arith;
  fixed = λ e. (refl, λ row c. absurd (in_none row c));
}

module _ (image : List ℕ) (old now : KeptNames) (rows left : List ℕ) (k : ℕ) (so : RoundSo image old now rows left k) (lt : k < length rows) where
  abbrev row : ℕ
  row = get_or rows k 0

  pub round_found : (new : KeptNames) → Goes image now new → IsThere new 0x1B row → RoundSo image old new rows left (k + 1)
  round_found new goes there =
      let few = so.few in
      record {
        goes = goes_on image old now new so.goes goes;
        among = so.among;
        looked = λ r c. elim (front_cases rows k r lt c) [
          | inl h ↦ elim (so.looked r h) [ inl w ↦ inl w | inr t ↦ inr (goes.stays 0x1B r t) ]
          | inr e ↦ inr (subst (λ (q : ℕ). IsThere new 0x1B q) e there)
        ];
        few = omega arith;
        fixed = λ e. absurd (omega arith);
      }

  fixed_more : SpellsNone image now row → length left ≡ k → (now ≡ old) × ((r : ℕ) → Contains (take (k + 1) rows) r → SpellsNone image old r)
  fixed_more none e =
      let f = so.fixed e in (
        f.0,
        λ r c. elim (front_cases rows k r lt c) [
          | inl h ↦ f.1 r h
          | inr is ↦ subst (λ (q : ℕ). SpellsNone image old q) is (subst (λ (x : KeptNames). SpellsNone image x row) f.0 none)
        ],
      )

  waits_at : (new : KeptNames) → new ≡ now → SpellsNone image now row → RoundSo image old now rows (left ++ row ∷ []) (k + 1)
  waits_at new same none =
      let few = so.few in
      let long = length-append left (row ∷ []) in
      record {
        goes = so.goes;
        among = λ r c. elim (Contains-append_cases left (row ∷ []) r c) [
          | inl h ↦ so.among r h
          | inr h ↦ subst (λ (q : ℕ). Contains rows q) (in_one row r h) (Contains-get_or rows k 0 lt)
        ];
        looked = λ r c. elim (front_cases rows k r lt c) [
          | inl h ↦ elim (so.looked r h) [ inl w ↦ inl (Contains-append_left left (row ∷ []) r w) | inr t ↦ inr t ]
          | inr e ↦ inl (Contains-append_right left (row ∷ []) r (subst (λ (q : ℕ). Contains (row ∷ []) q) e (one_in row)))
        ];
        few = omega (arith, long);
        fixed = λ e. fixed_more none (omega (arith, long));
      }

  pub round_waits : (new : KeptNames) → new ≡ now → SpellsNone image now row → RoundSo image old new rows (left ++ row ∷ []) (k + 1)
  round_waits new same none = subst (λ (x : KeptNames). RoundSo image old x rows (left ++ row ∷ []) (k + 1)) (sym same) (waits_at new same none)

  pub round_more : (new : KeptNames) (found : Bool) (others : List ℕ) → LookSo image now new row found → others ≡ cond (not found) (left ++ row ∷ []) left → RoundSo image old new rows others (k + 1)
  round_more new true others look e = subst (λ (l : List ℕ). RoundSo image old new rows l (k + 1)) (sym e) (round_found new look.0 look.1)
  round_more new false others look e = subst (λ (l : List ℕ). RoundSo image old new rows l (k + 1)) (sym e) (round_waits new look.0 look.1)

-- ---- from round to round

pub left_after : (image : List ℕ) (old new : KeptNames) (rows left : List ℕ) → AreLeft image old rows → RoundSo image old new rows left (length rows) → AreLeft image new left
left_after image old new rows left are so = record {
  wanted = λ row c. are.wanted row (so.among row c);
  waits = λ row w. elim (are.waits row w) [
    | inl c ↦ so.looked row (in_all rows row c)
    | inr t ↦ inr (so.goes.stays 0x1B row t)
  ];
}

pub is_done : (image : List ℕ) (old new : KeptNames) (rows left : List ℕ) → AreLeft image old rows → RoundSo image old new rows left (length rows) → length left ≡ length rows → IsDone image new
is_done image old new rows left are so e =
    let f = so.fixed e in
    subst (λ (x : KeptNames). IsDone image x) (sym f.0) (rows, are, λ row c. f.1 row (in_all rows row c))

pub all_left : (image : List ℕ) (kept : KeptNames) (rows : List ℕ) → AreWanted image rows → AreLeft image kept rows
all_left image kept rows are = record { wanted = λ row c. (are row).0 c; waits = λ row w. inl ((are row).1 w) }

-- ---- the rows in use

-- so many rows were asked
abbrev pub AreWantedTo : List ℕ → List ℕ → ℕ → Type 0
AreWantedTo image rows count = ((row : ℕ) → Contains rows row → IsWanted image row) × ((row : ℕ) → IsWanted image row → row ≤ count → Contains rows row)

pub none_wanted : (image : List ℕ) → AreWantedTo image [] 0
none_wanted image = (λ row c. absurd (in_none row c), λ row w low. let some = w.0.0 in absurd (omega arith))

last_or : (row count : ℕ) → row ≤ count + 1 → (row ≡ count + 1) ⊎ (row ≤ count)
last_or row count low = grind arith

pub one_wanted : (image : List ℕ) (rows : List ℕ) (count : ℕ) → AreWantedTo image rows count → IsWanted image (count + 1) → AreWantedTo image (rows ++ (count + 1) ∷ []) (count + 1)
one_wanted image rows count are want = (
  λ row c. elim (Contains-append_cases rows ((count + 1) ∷ []) row c) [
    | inl h ↦ are.0 row h
    | inr h ↦ subst (λ (q : ℕ). IsWanted image q) (in_one (count + 1) row h) want
  ],
  λ row w low. elim (last_or row count low) [
    | inl e ↦ Contains-append_right rows ((count + 1) ∷ []) row (subst (λ (q : ℕ). Contains ((count + 1) ∷ []) q) (sym e) (one_in (count + 1)))
    | inr h ↦ Contains-append_left rows ((count + 1) ∷ []) row (are.1 row w h)
  ],
)

pub not_wanted : (image : List ℕ) (rows : List ℕ) (count : ℕ) → AreWantedTo image rows count → (IsUsed image 0x1B (count + 1) → ⊥) → AreWantedTo image rows (count + 1)
not_wanted image rows count are none = (
  are.0,
  λ row w low. elim (last_or row count low) [
    | inl e ↦ absurd (none (subst (λ (q : ℕ). IsUsed image 0x1B q) e w.1))
    | inr h ↦ are.1 row w h
  ],
)

pub all_wanted : (image : List ℕ) (rows : List ℕ) (count : ℕ) → AreWantedTo image rows count → count_of image 0x1B ≤ count → AreWanted image rows
all_wanted image rows count are last = λ row. (λ c. are.0 row c, λ w. let upto = w.0.1 in are.1 row w (omega arith))

pub wanted_more : (image : List ℕ) (rows others : List ℕ) (count : ℕ) (is_used : Bool) → AreWantedTo image rows count → (IsTrue is_used ↔ (IsKept 0x1B × IsUsed image 0x1B (count + 1))) → count < count_of image 0x1B
    → others ≡ cond is_used (rows ++ (count + 1) ∷ []) rows → AreWantedTo image others (count + 1)
wanted_more image rows others count true are is lt e =
    subst (λ (l : List ℕ). AreWantedTo image l (count + 1)) (sym e) (one_wanted image rows count are ((omega arith, omega arith), (is.0 refl).1))
wanted_more image rows others count false are is lt e =
    subst (λ (l : List ℕ). AreWantedTo image l (count + 1)) (sym e) (not_wanted image rows count are (λ u. false≢true (is.1 (inr (inr (inl refl)), u))))
