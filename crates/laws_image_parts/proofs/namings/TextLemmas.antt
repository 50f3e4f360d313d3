-- What the tokens of user strings name.
use Rattle.std.proofs.Common.{◌≡◌, ap, refl, ◌∙◌, subst, ℕ, ◌+◌, ◌*◌, ◌/◌, ◌%◌, ◌^◌, ◌<◌, List, [], ◌∷◌, Option, None, Some, inl, inr, arith}
use Rattle.std.specs.Int.{byte_at}
use Rattle.std.specs.Option.{option_map}
use Rattle.std.proofs.lemmas.Bool.{cases_eq}
use Rattle.heaps.specs.Content.{HasUnits}
use Rattle.image_tokens.specs.Found.{token_in}
use Rattle.image_tokens.specs.KnownTokens.{texts_apart}
use Rattle.image_tokens.specs.Loaded.{AreUnits}
use Rattle.image_tokens.specs.References.{AreKnown, IsTextToken}
use Rattle.image_tokens.specs.Units.{bytes_of_units}
use Rattle.image_tokens.specs.declared.references.References.{References}
use Rattle.image_tokens.proofs.NameLemmas.{holds_of_found}
use Rattle.image_layout.specs.Laws.{ReadsHeaps}
use Rattle.image_model.specs.Naming.{IsToken, NamesText}
use Rattle.image_model.specs.Streams.{user_of}
use Rattle.image_model.specs.Units.{units_of}
use Rattle.laws_image_parts.proofs.names.OneToken.{OneBlob}
use Rattle.laws_image_parts.specs.namings.Readable.{TextsAreUnits}
use Rattle.laws_image_parts.specs.namings.Texts.{TextsRead}
use Rattle.laws_image_parts.proofs.namings.DecidedMaps.{map_of, map_tells}
use Rattle.laws_image_parts.proofs.namings.HeapUnits.{Decided, units_decided}

-- units are read from their bytes
unit_back : (u : ℕ) → u < 2 ^ 16 → byte_at 0 u + 256 * byte_at 1 u ≡ u
unit_back u low = omega arith

units_back : (units : List ℕ) → AreUnits units → units_of (bytes_of_units units) ≡ Some units
units_back [] h = refl
units_back (u ∷ units) h =
    ap (option_map (λ (us : List ℕ). (byte_at 0 u + 256 * byte_at 1 u) ∷ us)) (units_back units h.1) ∙ ap (λ n. Some (n ∷ units)) (unit_back u h.0)

abbrev pub OneUnits : Type 0
OneUnits = (heap : List ℕ) (index : ℕ) (a b : List ℕ) → HasUnits heap index a → HasUnits heap index b → a ≡ b

module _ (image : List ℕ) (blob : OneBlob) (one : OneUnits) where
  -- a user string, by the parts of its token
  record IsText (token : ℕ) (units : List ℕ) : Type 0 where
    index : ℕ
    is : IsToken token 0x70 index
    bytes : List ℕ
    held : HasUnits (user_of image) index bytes
    are : units_of bytes ≡ Some units

  is_text : {token : ℕ} {units : List ℕ} → NamesText image token units → IsText token units
  is_text (NamesText.entry bytes {index = index} is held are) = record { index = index; is = is; bytes = bytes; held = held; are = are }

  text_one : (token : ℕ) (a b : List ℕ) → NamesText image token a → NamesText image token b → a ≡ b
  text_one token a b h k =
      let x = is_text h in
      let y = is_text k in
      let indexes : y.index ≡ x.index = (let i = x.is.is in let j = y.is.is in omega arith) in
      let bytes : y.bytes ≡ x.bytes = one (user_of image) x.index y.bytes x.bytes (subst (λ n. HasUnits (user_of image) n y.bytes) indexes y.held) x.held in
      let known : units_of x.bytes ≡ Some b = subst (λ bs. units_of bs ≡ Some b) bytes y.are in
      let first = x.are in
      let same : ◌≡◌ {A = Option (List ℕ)} (Some a) (Some b) = cc in
      cc

  text_decided : (token : ℕ) → Decided (NamesText image token)
  text_decided token = elim (cases_eq (token / 2 ^ 24) 0x70) [
    | inl top ↦ elim (units_decided (user_of image) (token % 2 ^ 24) (blob (user_of image) (token % 2 ^ 24))) [
      | inl found ↦ by_units found.0 found.1 top (units_of found.0) refl
      | inr none ↦ inr (λ units h.
          let x = is_text h in
          let index : x.index ≡ token % 2 ^ 24 = (let i = x.is.is in let fits = x.is.fits in omega arith) in
          none x.bytes (subst (λ n. HasUnits (user_of image) n x.bytes) index x.held))
    ]
    | inr other ↦ inr (λ units h.
        let x = is_text h in
        other (let i = x.is.is in let fits = x.is.fits in omega arith))
  ]
    where
      by_units : (bytes : List ℕ) → HasUnits (user_of image) (token % 2 ^ 24) bytes → token / 2 ^ 24 ≡ 0x70 → (o : Option (List ℕ)) → units_of bytes ≡ o → Decided (NamesText image token)
      by_units bytes held top (Some units) e = inl (units, NamesText.entry bytes {index = token % 2 ^ 24} (record { is = omega arith; fits = omega arith }) held e)
      by_units bytes held top None e = inr (λ units h.
          let x = is_text h in
          let index : x.index ≡ token % 2 ^ 24 = (let i = x.is.is in let fits = x.is.fits in omega arith) in
          let same : x.bytes ≡ bytes = one (user_of image) (token % 2 ^ 24) x.bytes bytes (subst (λ n. HasUnits (user_of image) n x.bytes) index x.held) held in
          let known : units_of bytes ≡ Some units = subst (λ bs. units_of bs ≡ Some units) same x.are in
          let both : ◌≡◌ {A = Option (List ℕ)} None (Some units) = cc in
          cc)

  module _ (r : References) (heaps : ReadsHeaps r image) (known : AreKnown r) (units : TextsAreUnits r) where
    given : (text : List ℕ) (token : ℕ) → token_in texts_apart r.known.texts text ≡ Some token → NamesText image token text
    given text token at =
        let h : IsTextToken r text token = holds_of_found texts_apart (λ e. IsTextToken r e.0 e.1) r.known.texts text token known.texts at in
        let are : AreUnits text = holds_of_found texts_apart (λ e. AreUnits e.0) r.known.texts text token units at in
        NamesText.entry (bytes_of_units text) {index = h.index} (record { is = h.is.is; fits = h.is.fits }) (heaps.units h.index (bytes_of_units text) h.holds.there) (units_back text are)

    pub texts_read : TextsRead r image
    texts_read = record {
      texts = map_of (NamesText image) text_decided text_one;
      tells = map_tells (NamesText image) text_decided text_one;
      back = λ text token at. (map_tells (NamesText image) text_decided text_one token text).1 (given text token at);
    }
