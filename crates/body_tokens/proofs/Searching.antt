-- The first method with a token that doesn't name what is wanted.
use Rattle.std.proofs.Common.{◌≡◌, ◌≢◌, ◌∙◌, sym, ap, subst, refl, ℕ, ◌+◌, ◌-◌, ◌<◌, ◌≤◌, ◌^◌, ◌⊎◌, inl, inr, Bool, true, false, List, length, slice_index_or, Result, Ok, Err, IfOk, arith}
use Rattle.body_codec.specs.Faults.{Answers}
use Rattle.body_codec.specs.declared.fault.BodyFault.{BodyFault}
use Rattle.body_codec.specs.declared.fault.BodyFault.TheVariants as faults
use Rattle.body_outlines.proofs.Answered.{only_outline}
use Rattle.std.specs.Prelude.{◌↔◌, IsTrue}
use Rattle.std.proofs.lemmas.Bool.{cases_lt, false≢true}
use Rattle.body_codec.specs.Names.{NameMap}
use Rattle.body_outlines.specs.Outlines.{Outlines}
use Rattle.body_outlines.specs.declared.outlined.BodyOutline.{BodyOutline}
use Rattle.metadata_tables.specs.Faults.{IsEarlier}
use Rattle.image_model.specs.Bodies.{body_of, HasBody, HasKnownTokens, HasTokens}
use Rattle.image_model.specs.Faults.{HasTables, AllMeet, HoldBefore, IsFirstBad, header, instructions, clauses, tokens}
use Rattle.image_model.specs.Namings.{AreNamings}
use Rattle.image_model.specs.Rows.{count_of, HasRow}
use Rattle.method_states.specs.States.{AreStates, HasGoodBody, HasState}
use Rattle.method_states.specs.declared.state.BodyState.{BodyState}
use Rattle.method_states.specs.declared.state.BodyState.TheVariants as states
use Rattle.method_states.proofs.Sharing.{same_body}
use Rattle.body_tokens.specs.Tokens.{AreKnown, KnownTo, AreAllKnown, IsFirstUnknown}
use Rattle.body_tokens.proofs.Uses.{known_tokens, tokens_known}

pub known_none : (image : List ℕ) → KnownTo image 0
known_none image names tell before row l = λ e there body. absurd (let h = there.0 in omega arith)

pub known_more : (image : List ℕ) (count : ℕ) → KnownTo image count
    → ((names : NameMap) → AreNamings image names → HoldBefore image names tokens → HasTokens image names 0x06 (count + 1)) → KnownTo image (count + 1)
known_more image count h last names tell before row l =
    elim (cases_lt row (count + 1)) [
      | inl below ↦ h names tell before row (omega arith)
      | inr at ↦ let same : count + 1 ≡ row = omega arith in subst (HasTokens image names 0x06) same (last names tell before)
    ]

-- a method whose body isn't looked at for the first time
by_state : (image : List ℕ) (count : ℕ) (s : BodyState) → HasState image (count + 1) s → (s ≡ states.Good → ⊥) → KnownTo image count → HasRow image 0x06 (count + 1)
    → (names : NameMap) → AreNamings image names → HoldBefore image names tokens → HasTokens image names 0x06 (count + 1)
by_state image count states.Good h never known there names tell before = absurd (never refl)
by_state image count states.Nothing h never known there names tell before = λ e t body. absurd (h.1 body)
by_state image count states.Again h never known there names tell before = λ e t body.
    let a = h.above in
    subst (HasKnownTokens names) (same_body image h.first (count + 1) h.same) (known names tell before h.first (omega arith) refl h.row h.first_good.there)
by_state image count states.Header h never known there names tell before = absurd (h.fails (before header (omega arith) 0x06 (count + 1)))
by_state image count states.Instructions h never known there names tell before = absurd (h.fails (before instructions (omega arith) 0x06 (count + 1)))
by_state image count states.Clauses h never known there names tell before = absurd (h.fails (before clauses (omega arith) 0x06 (count + 1)))

pub known_other : (image : List ℕ) (count : ℕ) (s : BodyState) → HasState image (count + 1) s → (s ≡ states.Good → ⊥) → KnownTo image count → HasRow image 0x06 (count + 1) → KnownTo image (count + 1)
known_other image count s h never known there = known_more image count known (by_state image count s h never known there)

pub known_good : (image : List ℕ) (count : ℕ) (b : Bool) → length image ≤ 2 ^ 26 → HasTables image → HasRow image 0x06 (count + 1) → HasGoodBody image (count + 1)
    → ((o : BodyOutline) → Outlines (body_of image (count + 1)) o → IsTrue b ↔ AreKnown image o) → b ≡ true → KnownTo image count → KnownTo image (count + 1)
known_good image count b small has there good says e known =
    known_more image count known (λ names tell before. λ x t body.
    let o = good.outline in
    known_tokens image names small has tell before (count + 1) there good o.0 o.1 ((says o.0 o.1).0 e))

pub all_known : (image : List ℕ) (count : ℕ) → count ≡ count_of image 0x06 → KnownTo image count → (names : NameMap) → AreNamings image names → HoldBefore image names tokens → AllMeet image names tokens
all_known image count e known names tell before table row = λ x there body. known names tell before row (let h = there.1 in omega arith) refl there body

pub first_bad : (image : List ℕ) (count : ℕ) (b : Bool) → length image ≤ 2 ^ 26 → HasTables image → HasRow image 0x06 (count + 1) → HasGoodBody image (count + 1)
    → ((o : BodyOutline) → Outlines (body_of image (count + 1)) o → IsTrue b ↔ AreKnown image o) → b ≡ false → KnownTo image count
    → (names : NameMap) → AreNamings image names → HoldBefore image names tokens → IsFirstBad image names tokens 0x06 (count + 1)
first_bad image count b small has there good says e known names tell before = record {
  bad = λ meets.
      let o = good.outline in
      false≢true (sym e ∙ (says o.0 o.1).1 (tokens_known image names small has tell before (count + 1) there good o.0 o.1 (meets refl there good.there)));
  first = λ t r earlier. elim earlier [
    | inl low ↦ λ x at body. absurd (omega arith)
    | inr same ↦ λ x at body. known names tell before r (let l = same.1 in omega arith) refl at body
  ];
}

-- ---- by a method's number

less_one : (method : ℕ) → 0 < method → method - 1 + 1 ≡ method
less_one method h = omega arith

pub met_other : (image : List ℕ) (method : ℕ) (s : BodyState) → HasRow image 0x06 method → HasState image method s → (s ≡ states.Good → ⊥) → KnownTo image (method - 1) → KnownTo image method
met_other image method s there h never known =
    let e = less_one method there.0 in
    subst (KnownTo image) e
    (known_other image (method - 1) s (subst (λ (m : ℕ). HasState image m s) (sym e) h) never known (subst (HasRow image 0x06) (sym e) there))

pub met_good : (image : List ℕ) (method : ℕ) (s : BodyState) (b : Bool) → length image ≤ 2 ^ 26 → HasTables image → HasRow image 0x06 method → HasState image method s → s ≡ states.Good
    → ((o : BodyOutline) → Outlines (body_of image method) o → IsTrue b ↔ AreKnown image o) → b ≡ true → KnownTo image (method - 1) → KnownTo image method
met_good image method s b small has there h good says e known =
    let f = less_one method there.0 in
    let g = subst (HasState image method) good h in
    subst (KnownTo image) f
    (known_good image (method - 1) b small has (subst (HasRow image 0x06) (sym f) there) (subst (HasGoodBody image) (sym f) g)
    (subst (λ (m : ℕ). (o : BodyOutline) → Outlines (body_of image m) o → IsTrue b ↔ AreKnown image o) (sym f) says) e known)

pub unmet_good : (image : List ℕ) (method : ℕ) (s : BodyState) (b : Bool) → length image ≤ 2 ^ 26 → HasTables image → HasRow image 0x06 method → HasState image method s → s ≡ states.Good
    → ((o : BodyOutline) → Outlines (body_of image method) o → IsTrue b ↔ AreKnown image o) → b ≡ false → KnownTo image (method - 1) → IsFirstUnknown image method
unmet_good image method s b small has there h good says e known =
    let f = less_one method there.0 in
    let g = subst (HasState image method) good h in
    subst (IsFirstUnknown image) f
    (first_bad image (method - 1) b small has (subst (HasRow image 0x06) (sym f) there) (subst (HasGoodBody image) (sym f) g)
    (subst (λ (m : ℕ). (o : BodyOutline) → Outlines (body_of image m) o → IsTrue b ↔ AreKnown image o) (sym f) says) e known)

-- ---- by an outline

told_same : (bytes : List ℕ) (told o : BodyOutline) → Outlines bytes told → Outlines bytes o → told ≡ o
told_same bytes told o h k = elim (only_outline bytes (Ok told) h tt o k) [ inl e ↦ cc | inr e ↦ cc ]

pub known_told : (image bytes body : List ℕ) (told : BodyOutline) (b : Bool) → bytes ≡ body → Outlines bytes told → IsTrue b ↔ AreKnown image told
    → (o : BodyOutline) → Outlines body o → IsTrue b ↔ AreKnown image o
known_told image bytes body told b e h says o k =
    subst (λ (x : BodyOutline). IsTrue b ↔ AreKnown image x) (told_same bytes told o h (subst (λ xs. Outlines xs o) (sym e) k)) says

pub no_memory : (bytes body : List ℕ) (fault : BodyFault) (P : Bool → Type 0) {E : Type 0} (r : Result Bool E) → bytes ≡ body → ((o : BodyOutline) × Outlines body o)
    → ((o : BodyOutline) → Outlines bytes o → Answers {X = BodyOutline} (Err fault) (Ok o)) → IfOk r (λ x. fault ≢ faults.NoMemory) → IfOk r P
no_memory bytes body fault P (Err x) e o only h = tt
no_memory bytes body fault P (Ok b) e o only h =
    absurd (h (elim (only o.0 (subst (λ xs. Outlines xs o.0) (sym e) o.1)) [ inl f ↦ cc | inr f ↦ cc ]))

-- ---- what is said of one more method

pub state_at : (image : List ℕ) (all : List BodyState) (row : ℕ) (d : BodyState) → AreStates image all → row < count_of image 0x06 → HasState image (row + 1) (slice_index_or all row d)
state_at image all row d h l =
    let e : row + 1 - 1 ≡ row = omega arith in
    subst (λ (k : ℕ). HasState image (row + 1) (slice_index_or all k d)) e (h.each (row + 1) d (omega arith) (omega arith))
