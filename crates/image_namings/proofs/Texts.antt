-- The user strings that tokens name.
use Rattle.std.proofs.Common.{◌≡◌, ℕ, ◌+◌, ◌*◌, ◌/◌, ◌%◌, ◌^◌, inl, inr, List, [], ◌∷◌, ◌++◌, length, take, Option, Some, None, option_map, refl, sym, ◌∙◌, ap, subst, arith}
use Rattle.std.proofs.lemmas.List.{length-append}
use Rattle.std.proofs.Math.Seq.{take-append_seam}
use Rattle.heaps.specs.Content.{HasUnits}
use Rattle.heaps.specs.LookUp.{blob_in, BlobIsComputed}
use Rattle.image_model.specs.Streams.{user_of}
use Rattle.image_model.specs.Units.{units_of}
use Rattle.image_model.specs.Naming.{NamesText}
use Rattle.image_namings.proofs.Decided.{Decided, decided_as, same, some_is, none_is_not}
use Rattle.image_namings.proofs.Owners.{table_is, row_is, as_token}

-- ---- lists

split_last : (x : ℕ) (xs : List ℕ) → (front : List ℕ) × (last : ℕ) × (x ∷ xs ≡ front ++ last ∷ [])
split_last x [] = ([], x, refl)
split_last x (y ∷ ys) = let s = split_last y ys in (x ∷ s.0, s.1, ap (λ (l : List ℕ). x ∷ l) s.2)

some_bytes : (front : List ℕ) (last : ℕ) → [] ≡ front ++ last ∷ [] → ⊥
some_bytes [] last e = let l = ap length e in omega (arith, l)
some_bytes (x ∷ xs) last e = let l = ap length e in omega (arith, l)

same_front : (a b : List ℕ) (l m : ℕ) → a ++ l ∷ [] ≡ b ++ m ∷ [] → a ≡ b
same_front a b l m e =
    let n = length-append a (l ∷ []) in
    let k = length-append b (m ∷ []) in
    let long = ap length e in
    let d : length a ≡ length b = omega (arith, n, k, long) in
    sym (take-append_seam a (l ∷ [])) ∙ ap (λ (x : List ℕ). take (length a) x) e ∙ ap (λ (i : ℕ). take i (b ++ m ∷ [])) d ∙ take-append_seam b (m ∷ [])

-- ---- whole units are two bytes each

some_units : (low high : ℕ) (o : Option (List ℕ)) (units : List ℕ) → option_map (λ (us : List ℕ). (low + 256 * high) ∷ us) o ≡ Some units → (us : List ℕ) × (o ≡ Some us)
some_units low high None units e = absurd (none_is_not e)
some_units low high (Some us) units e = (us, refl)

even : (bytes units : List ℕ) → units_of bytes ≡ Some units → length bytes % 2 ≡ 0
even [] units e = omega arith
even (low ∷ []) units e = absurd (none_is_not e)
even (low ∷ high ∷ more) units e =
    let s = some_units low high (units_of more) units e in
    let h = even more s.0 s.1 in
    omega (arith, h)

-- ---- the entry at an index

module _ (image : List ℕ) (computed : BlobIsComputed) (one_units : (index : ℕ) (a b : List ℕ) → HasUnits (user_of image) index a → HasUnits (user_of image) index b → a ≡ b) where
  abbrev TextAt : ℕ → List ℕ → Type 0
  TextAt index units = (bytes : List ℕ) × HasUnits (user_of image) index bytes × (units_of bytes ≡ Some units)

  -- an entry of units has a last byte behind them
  has_last : (index : ℕ) (blob bytes : List ℕ) → blob_in (user_of image) index ≡ Some blob → HasUnits (user_of image) index bytes → (last : ℕ) × (blob ≡ bytes ++ last ∷ [])
  has_last index blob bytes e h = (h.0, some_is blob (bytes ++ h.0 ∷ []) (sym e ∙ (computed (user_of image) index (bytes ++ h.0 ∷ [])).0 h.1))

  units_at : (index : ℕ) (blob front : List ℕ) (last : ℕ) → blob_in (user_of image) index ≡ Some blob → blob ≡ front ++ last ∷ [] → (o : Option (List ℕ)) → units_of front ≡ o → Decided (TextAt index)
  units_at index blob front last e f (Some units) g =
      let has = (computed (user_of image) index (front ++ last ∷ [])).1 (e ∙ ap Some f) in
      inl (units, (front, (last, has, even front units g), g))
  units_at index blob front last e f None g = inr (λ units h.
      let l = has_last index blob h.0 e h.1 in
      let d = same_front h.0 front l.0 last (sym l.1 ∙ f) in
      none_is_not (sym g ∙ ap units_of (sym d) ∙ h.2))

  blob_at : (index : ℕ) (blob : List ℕ) → blob_in (user_of image) index ≡ Some blob → Decided (TextAt index)
  blob_at index [] e = inr (λ units h. let l = has_last index [] h.0 e h.1 in some_bytes h.0 l.0 l.1)
  blob_at index (x ∷ xs) e = let s = split_last x xs in units_at index (x ∷ xs) s.0 s.1 e s.2 (units_of s.0) refl

  text_at : (index : ℕ) (o : Option (List ℕ)) → blob_in (user_of image) index ≡ o → Decided (TextAt index)
  text_at index None e = inr (λ units h. none_is_not (sym e ∙ (computed (user_of image) index (h.0 ++ h.1.0 ∷ [])).0 h.1.1))
  text_at index (Some blob) e = blob_at index blob e

  text_at_one : (index : ℕ) (a b : List ℕ) → TextAt index a → TextAt index b → a ≡ b
  text_at_one index a b h k = some_is a b (sym h.2 ∙ ap units_of (one_units index h.0 k.0 h.1 k.1) ∙ k.2)

  text_parts : {token : ℕ} {units : List ℕ} → NamesText image token units → (token / 2 ^ 24 ≡ 0x70) × TextAt (token % 2 ^ 24) units
  text_parts {token = token} {units = units} (NamesText.entry bytes {index = index} t has is) =
      (table_is token 0x70 index t, subst (λ (i : ℕ). TextAt i units) (sym (row_is token 0x70 index t)) (bytes, has, is))

  from_text : (token : ℕ) (units : List ℕ) → token / 2 ^ 24 ≡ 0x70 → TextAt (token % 2 ^ 24) units → NamesText image token units
  from_text token units e h = NamesText.entry h.0 (as_token token 0x70 e) h.1 h.2

  pub text_one : (token : ℕ) (a b : List ℕ) → NamesText image token a → NamesText image token b → a ≡ b
  text_one token a b h k = text_at_one (token % 2 ^ 24) a b (text_parts h).1 (text_parts k).1

  pub text_named : (token : ℕ) → Decided (NamesText image token)
  text_named token = elim (same (token / 2 ^ 24) 0x70) [
    | inl e ↦ decided_as (TextAt (token % 2 ^ 24)) (NamesText image token) (λ units h. from_text token units e h) (λ units h. (text_parts h).1) (text_at (token % 2 ^ 24) (blob_in (user_of image) (token % 2 ^ 24)) refl)
    | inr n ↦ inr (λ units h. n (text_parts h).0)
  ]
