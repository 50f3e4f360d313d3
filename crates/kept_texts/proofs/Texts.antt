-- User strings that are kept, method by method and token by token.
use Rattle.std.proofs.Common.{◌≡◌, ℕ, zero, suc, ◌+◌, ◌-◌, ◌<◌, ◌≤◌, ◌^◌, ◌/◌, ◌%◌, inl, inr, List, [], ◌∷◌, map, length, Option, Some, Result, Ok, Err, refl, sym, ◌∙◌, ap, subst, arith}
use Rattle.std.specs.Prelude.{slice_index_or}
use Rattle.std.proofs.lemmas.Bool.{cases_lt}
use Rattle.body_codec.specs.Faults.{Answers}
use Rattle.body_codec.specs.declared.fault.BodyFault.{BodyFault}
use Rattle.body_codec.specs.declared.fault.BodyFault.TheVariants as faults
use Rattle.body_outlines.specs.Outlines.{Outlines}
use Rattle.body_outlines.proofs.Answered.{only_outline}
use Rattle.body_outlines.specs.declared.outlined.BodyOutline.{BodyOutline}
use Rattle.body_outlines.specs.declared.outlined.TokenUse.{TokenUse}
use Rattle.heaps.specs.Content.{HasUnits}
use Rattle.image_model.specs.Bodies.{body_of}
use Rattle.image_model.specs.Naming.{NamesText}
use Rattle.image_model.specs.Rows.{HasRow, count_of}
use Rattle.image_model.specs.Streams.{user_of}
use Rattle.image_model.specs.Units.{units_of}
use Rattle.method_states.specs.States.{AreStates, HasState}
use Rattle.method_states.specs.declared.state.BodyState.{BodyState}
use Rattle.method_states.specs.declared.state.BodyState.TheVariants as states
use Rattle.method_states.proofs.Sharing.{same_body, header_met}
use Rattle.kept_members.specs.Maps.{Has, Adds}
use Rattle.kept_texts.specs.Texts.{HasTextsAt, HasTextsOf, HasTextsTo, operands_of}

-- ---- methods

pub texts_stay : (image : List ℕ) (old new : ℕ → Option (List ℕ)) (count : ℕ) → Adds (NamesText image) old new → HasTextsTo image old count → HasTextsTo image new count
texts_stay image old new count adds h method there upto good o is token units among named = adds.stays token (h method there upto good o is token units among named)

pub texts_none : (image : List ℕ) (texts : ℕ → Option (List ℕ)) → HasTextsTo image texts 0
texts_none image texts method there upto = absurd (let some = there.0 in omega (arith, some, upto))

pub texts_more : (image : List ℕ) (texts : ℕ → Option (List ℕ)) (count : ℕ) → HasTextsTo image texts count → HasTextsOf image texts (count + 1) → HasTextsTo image texts (count + 1)
texts_more image texts count h last method there upto = elim (cases_lt method (count + 1)) [
  | inl less ↦ h method there (omega (arith, less))
  | inr at ↦ let same : count + 1 ≡ method = omega (arith, at, upto) in subst (HasTextsOf image texts) same last
]

-- a method whose body isn't looked at: it has none in order, or one above has it too
pub not_good : (image : List ℕ) (texts : ℕ → Option (List ℕ)) (method : ℕ) (s : BodyState) → HasRow image 0x06 method → HasState image method s → (s ≡ states.Good → ⊥) → HasTextsTo image texts (method - 1) → HasTextsOf image texts method
not_good image texts method states.Good there h other above good = absurd (other refl)
not_good image texts method states.Nothing there h other above good = absurd (h.1 good.there)
not_good image texts method states.Again there h other above good = λ o is.
    let less = h.above in
    above h.first h.row (omega (arith, less)) h.first_good o (subst (λ (bytes : List ℕ). Outlines bytes o) (sym (same_body image h.first method h.same)) is)
not_good image texts method states.Header there h other above good = absurd (h.fails (header_met image method good.code_type good.known))
not_good image texts method states.Instructions there h other above good = absurd (h.fails (λ e t body. (good.outline.1.pieces, good.outline.1.outline.code)))
not_good image texts method states.Clauses there h other above good = absurd (h.fails (λ e t body. (good.outline.1.pieces, good.outline.1.outline)))

-- ---- outlines

abbrev err_or : BodyFault → Result BodyOutline BodyFault → BodyFault
err_or d (Ok x) = d
err_or d (Err e) = e

-- a body that has an outline is outlined, unless there is no memory
pub no_fault : (fault : BodyFault) (o : BodyOutline) → (fault ≡ faults.NoMemory → ⊥) → Answers {X = BodyOutline} (Err fault) (Ok o) → ⊥
no_fault fault o other (inl e) = absurd cc
no_fault fault o other (inr e) = other (ap (err_or fault) e)

told_same : (bytes : List ℕ) (told o : BodyOutline) → Outlines bytes told → Outlines bytes o → told ≡ o
told_same bytes told o h k = elim (only_outline bytes (Ok told) h tt o k) [ inl e ↦ cc | inr e ↦ cc ]

pub told_of : (image : List ℕ) (texts : ℕ → Option (List ℕ)) (method : ℕ) (told : BodyOutline) → Outlines (body_of image method) told → HasTextsAt image (operands_of told) texts → HasTextsOf image texts method
told_of image texts method told h has good o is = subst (λ (x : BodyOutline). HasTextsAt image (operands_of x) texts) (told_same (body_of image method) told o h is) has

-- ---- tokens

pub at_none : (image : List ℕ) (texts : ℕ → Option (List ℕ)) → HasTextsAt image [] texts
at_none image texts token units has named = absurd (let less = has.1 in omega (arith, less))

pub at_stays : (image : List ℕ) (tokens : List ℕ) (old new : ℕ → Option (List ℕ)) → Adds (NamesText image) old new → HasTextsAt image tokens old → HasTextsAt image tokens new
at_stays image tokens old new adds h token units has named = adds.stays token (h token units has named)

-- ---- what a token names

pub named_by : (image : List ℕ) (token : ℕ) (bytes units : List ℕ) → token / 2 ^ 24 ≡ 0x70 → HasUnits (user_of image) (token % 2 ^ 24) bytes → units_of bytes ≡ Some units → NamesText image token units
named_by image token bytes units table has is = NamesText.entry bytes (record { is = omega (arith, table); fits = omega arith }) has is

-- a token that names a user string is one of the heap
pub text_table : {image : List ℕ} {token : ℕ} {units : List ℕ} → NamesText image token units → token / 2 ^ 24 ≡ 0x70
text_table (NamesText.entry bytes t has is) = let e = t.is in let f = t.fits in omega (arith, e, f)

pub text_bytes : {image : List ℕ} {token : ℕ} {units : List ℕ} → NamesText image token units → (bytes : List ℕ) × HasUnits (user_of image) (token % 2 ^ 24) bytes × (units_of bytes ≡ Some units)
text_bytes {image = image} {token = token} (NamesText.entry bytes {index = index} t has is) =
    let e = t.is in
    let f = t.fits in
    let at : index ≡ token % 2 ^ 24 = omega (arith, e, f) in
    (bytes, subst (λ (i : ℕ). HasUnits (user_of image) i bytes) at has, is)

-- ---- states

pub state_at : (image : List ℕ) (all : List BodyState) (row : ℕ) (d : BodyState) → AreStates image all → row < count_of image 0x06 → HasState image (row + 1) (slice_index_or all row d)
state_at image all row d h less =
    let e : row + 1 - 1 ≡ row = omega arith in
    subst (λ (k : ℕ). HasState image (row + 1) (slice_index_or all k d)) e (h.each (row + 1) d (omega arith) (omega (arith, less)))

-- ---- the first so many operands

abbrev token_in : TokenUse → ℕ
token_in u = u.token

abbrev pub Firsts : List ℕ → List TokenUse → ℕ → (ℕ → Option (List ℕ)) → Type 0
Firsts image uses count texts = (k : ℕ) (d : TokenUse) (units : List ℕ) → k < length uses → k < count → NamesText image (slice_index_or uses k d).token units → Has texts (slice_index_or uses k d).token

pub firsts_none : (image : List ℕ) (uses : List TokenUse) (texts : ℕ → Option (List ℕ)) → Firsts image uses 0 texts
firsts_none image uses texts k d units inside less named = absurd (omega (arith, less))

one_at : {X : Type 0} (xs : List X) (k : ℕ) (d e : X) → k < length xs → slice_index_or xs k d ≡ slice_index_or xs k e
one_at [] k d e less = absurd (omega (arith, less))
one_at (x ∷ xs) zero d e less = refl
one_at (x ∷ xs) (suc k) d e less = one_at xs k d e (omega (arith, less))

pub firsts_more : (image : List ℕ) (uses : List TokenUse) (count : ℕ) (e : TokenUse) (old new : ℕ → Option (List ℕ)) → Firsts image uses count old → Adds (NamesText image) old new
    → ((units : List ℕ) → NamesText image (slice_index_or uses count e).token units → Has new (slice_index_or uses count e).token) → Firsts image uses (count + 1) new
firsts_more image uses count e old new h adds last k d units inside less named = elim (cases_lt k count) [
  | inl before ↦ adds.stays (slice_index_or uses k d).token (h k d units inside before named)
  | inr late ↦
      let same : count ≡ k = omega (arith, late, less) in
      let at : slice_index_or uses count e ≡ slice_index_or uses k d = ap (λ (j : ℕ). slice_index_or uses j e) same ∙ one_at uses k e d inside in
      subst (λ (u : TokenUse). Has new u.token) at (last units (subst (λ (u : TokenUse). NamesText image u.token units) (sym at) named))
]

-- a member of the tokens is that of a use
mapped : (uses : List TokenUse) (token k : ℕ) (d : TokenUse) → k < length (map token_in uses) → slice_index_or (map token_in uses) k token ≡ token → (k < length uses) × ((slice_index_or uses k d).token ≡ token)
mapped [] token k d less e = absurd (omega (arith, less))
mapped (u ∷ us) token zero d less e = (omega arith, e)
mapped (u ∷ us) token (suc k) d less e = let m = mapped us token k d (omega (arith, less)) e in (let l = m.0 in omega (arith, l), m.1)

pub firsts_all : (image : List ℕ) (uses : List TokenUse) (count : ℕ) (texts : ℕ → Option (List ℕ)) → length uses ≤ count → Firsts image uses count texts → HasTextsAt image (map token_in uses) texts
firsts_all image [] count texts all h token units has named = absurd (let less = has.1 in omega (arith, less))
firsts_all image (u ∷ us) count texts all h token units has named =
    let m = mapped (u ∷ us) token has.0 u has.1 has.2 in
    let less = m.0 in
    subst (Has texts) m.1 (h has.0 u units less (omega (arith, less, all)) (subst (λ (t : ℕ). NamesText image t units) (sym m.1) named))
