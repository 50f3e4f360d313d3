-- What a list of tokens holds once those of a signature were put behind it.
use Rattle.std.proofs.Common.{◌≡◌, ℕ, ◌⊎◌, inl, inr, Bool, List, [], ◌++◌, Option, Some, None, refl, sym, ◌∙◌, subst, arith}
use Rattle.std.specs.Option.{option_map}
use Rattle.std.specs.Prelude.{◌↔◌, Contains, IfOk, Result, Ok, Err}
use Rattle.std.proofs.lemmas.List.Elements.{Contains-append_left, Contains-append_right, Contains-append_cases}
use Rattle.heaps.specs.Content.{HasBlob}
use Rattle.heaps.proofs.Computed.{blob_is_computed}
use Rattle.image_model.specs.Streams.{blobs_of}
use Rattle.sig_codec.proofs.Numbers.{some_is}
use Rattle.row_signatures.specs.Signed.{InSignature, IndexHolds}
use Rattle.signature_tokens.specs.Tells.{Tells}

pub lacks : (xs : List ℕ) (token : ℕ) → xs ≡ [] → Contains xs token → ⊥
lacks xs token none has =
    let c = subst (λ (ys : List ℕ). Contains ys token) none has in
    let l = c.1 in
    omega arith

module _ {V : Type 0} (names : V → List ℕ) (read : List ℕ → Option V) (Is : List ℕ → V → Type 0) (is : (b : List ℕ) (v : V) → read b ≡ Some v → Is b v) (again : (b : List ℕ) (v : V) → Is b v → read b ≡ Some v) where
  abbrev pub In : List ℕ → ℕ → Type 0
  In bytes token = (v : V) × Is bytes v × Contains (names v) token

  told : (bytes old now : List ℕ) (spelled : Bool) (r : Option V) → read bytes ≡ r → Tells old now spelled (option_map names r) → (token : ℕ)
      → Contains now token ↔ (Contains old token ⊎ In bytes token)
  told bytes old now spelled None e t token = (
    λ c. inl (subst (λ (xs : List ℕ). Contains xs token) t.1 c),
    λ h. elim h [
      | inl c ↦ subst (λ (xs : List ℕ). Contains xs token) (sym t.1) c
      | inr i ↦ absurd (let f = sym e ∙ again bytes i.0 i.1 in cc)
    ],
  )
  told bytes old now spelled (Some v) e t token = (
    λ c. elim (Contains-append_cases old (names v) token (subst (λ (xs : List ℕ). Contains xs token) t.1 c)) [ inl o ↦ inl o | inr i ↦ inr (v, is bytes v e, i) ],
    λ h. subst (λ (xs : List ℕ). Contains xs token) (sym t.1) (elim h [
      | inl o ↦ Contains-append_left old (names v) token o
      | inr i ↦
          Contains-append_right old (names v) token
          (subst (λ (w : V). Contains (names w) token) (some_is i.0 v (sym (again bytes i.0 i.1) ∙ e)) i.2)
    ]),
  )

  pub behind : (bytes old now : List ℕ) (spelled : Bool) → Tells old now spelled (option_map names (read bytes)) → (token : ℕ)
      → Contains now token ↔ (Contains old token ⊎ In bytes token)
  behind bytes old now spelled t = told bytes old now spelled (read bytes) refl t

  -- of an empty list, where what is held means something else
  pub alone : {E : Type 0} (r : Result Bool E) (bytes old now : List ℕ) → old ≡ [] → IfOk r (λ spelled. Tells old now spelled (option_map names (read bytes)))
      → (P : ℕ → Type 0) → ((token : ℕ) → In bytes token → P token) → ((token : ℕ) → P token → In bytes token) → IfOk r (λ _. (token : ℕ) → Contains now token ↔ P token)
  alone (Ok spelled) bytes old now none t P to back = λ token.
      let h = behind bytes old now spelled t token in
      (λ c. elim (h.0 c) [ inl o ↦ absurd (lacks old token none o) | inr i ↦ to token i ], λ p. h.1 (inr (back token p)))
  alone (Err e) bytes old now none t P to back = tt

-- those of a method, and then those of a field
pub one_of : {E : Type 0} (r : Result Bool E) (old middle now : List ℕ) (P Q : ℕ → Type 0) → old ≡ [] → ((token : ℕ) → Contains middle token ↔ (Contains old token ⊎ P token))
    → IfOk r (λ _. (token : ℕ) → Contains now token ↔ (Contains middle token ⊎ Q token)) → IfOk r (λ _. (token : ℕ) → Contains now token ↔ (P token ⊎ Q token))
one_of (Ok spelled) old middle now P Q none first second = λ token. (
  λ c. elim ((second token).0 c) [ inl m ↦ elim ((first token).0 m) [ inl o ↦ absurd (lacks old token none o) | inr p ↦ inl p ] | inr q ↦ inr q ],
  λ h. (second token).1 (elim h [ inl p ↦ inl ((first token).1 (inr p)) | inr q ↦ inr q ]),
)
one_of (Err e) old middle now P Q none first second = tt

-- ---- the blob at an index

module _ (image : List ℕ) (table index : ℕ) (xs : List ℕ) where
  pub none_held : xs ≡ [] → ((b : List ℕ) → HasBlob (blobs_of image) index b → ⊥) → (token : ℕ) → Contains xs token ↔ IndexHolds image table index token
  none_held none never token = (λ c. absurd (lacks xs token none c), λ h. absurd (never h.bytes h.blob))

  pub some_held : (b : List ℕ) → HasBlob (blobs_of image) index b → ((token : ℕ) → Contains xs token ↔ InSignature table b token) → (token : ℕ) → Contains xs token ↔ IndexHolds image table index token
  some_held b blob has token = (
    λ c. record { bytes = b; blob = blob; has = (has token).0 c },
    λ h.
        let same : h.bytes ≡ b = some_is h.bytes b (sym ((blob_is_computed (blobs_of image) index h.bytes).0 h.blob) ∙ (blob_is_computed (blobs_of image) index b).0 blob) in
        (has token).1 (subst (λ (y : List ℕ). InSignature table y token) same h.has),
  )

-- what is held means something else
pub held_as : {E : Type 0} (r : Result Bool E) (now : List ℕ) (P Q : ℕ → Type 0) → IfOk r (λ _. (token : ℕ) → Contains now token ↔ P token) → ((token : ℕ) → P token → Q token) → ((token : ℕ) → Q token → P token)
    → IfOk r (λ _. (token : ℕ) → Contains now token ↔ Q token)
held_as (Ok spelled) now P Q h to back = λ token. (λ c. to token ((h token).0 c), λ q. (h token).1 (back token q))
held_as (Err e) now P Q h to back = tt

-- of what a list holds more than another
pub more_as : {V E : Type 0} (names : V → List ℕ) (read : List ℕ → Option V) (Is : List ℕ → V → Type 0) (is : (b : List ℕ) (v : V) → read b ≡ Some v → Is b v) (again : (b : List ℕ) (v : V) → Is b v → read b ≡ Some v)
    → (r : Result Bool E) (bytes old now : List ℕ) → IfOk r (λ spelled. Tells old now spelled (option_map names (read bytes)))
    → IfOk r (λ _. (token : ℕ) → Contains now token ↔ (Contains old token ⊎ ((v : V) × Is bytes v × Contains (names v) token)))
more_as names read Is is again (Ok spelled) bytes old now t = λ token. behind names read Is is again bytes old now spelled t token
more_as names read Is is again (Err e) bytes old now t = tt
