-- The types that tokens name. A TypeSpec stands in another's term only under a modifier, so that one is deeper, and no term is
-- more than 100 deep: reading the TypeSpecs 101 times, each time by the map of the time before, names all that are named.
use Rattle.std.proofs.Common.{◌≡◌, ℕ, zero, suc, ◌/◌, ◌%◌, ◌^◌, ◌<◌, ◌≤◌, inl, inr, ◌↔◌, List, Option, Some, None, refl, sym, subst, arith}
use Rattle.heaps.specs.Content.{HasText}
use Rattle.sig_codec.specs.Reading.{whole_type}
use Rattle.sig_codec.specs.Signature.{IsType}
use Rattle.type_terms.specs.Depth.{owner_depth}
use Rattle.type_terms.specs.declared.term.Owner.{Owner}
use Rattle.type_terms.specs.declared.term.Owner.TheVariants.{Name, Spec}
use Rattle.type_terms.specs.declared.term.SigType.{SigType}
use Rattle.image_model.specs.Streams.{strings_of, blobs_of}
use Rattle.image_model.specs.Columns.{type_spec_signature}
use Rattle.image_model.specs.Rows.{count_of, HasRow}
use Rattle.image_model.specs.Naming.{here, RowOwner, IsToken, NamesOwner, TellsOwners}
use Rattle.image_namings.proofs.General.{InBlob}
use Rattle.image_namings.proofs.OnePath.{row_owner_one}
use Rattle.image_namings.proofs.Transfer.{depth-Name, depth-Spec, type_moves}
use Rattle.image_namings.proofs.Decided.{Decided, value_of, told, read, read_one, in_blob, OneBlob, same, within, none_is_not}
use Rattle.image_namings.proofs.Standing.{Stands}

-- ---- tokens

pub table_is : (token table row : ℕ) → IsToken token table row → token / 2 ^ 24 ≡ table
table_is token table row t = let e = t.is in let f = t.fits in omega arith

pub row_is : (token table row : ℕ) → IsToken token table row → token % 2 ^ 24 ≡ row
row_is token table row t = let e = t.is in let f = t.fits in omega arith

pub as_token : (token table : ℕ) → token / 2 ^ 24 ≡ table → IsToken token table (token % 2 ^ 24)
as_token token table e = record { is = omega arith; fits = omega arith }

pub one_token : (token table row other : ℕ) → IsToken token table row → IsToken token table other → row ≡ other
one_token token table row other t u = let e = row_is token table row t in let f = row_is token table other u in omega arith

-- bytes spell one type, and whether they spell one is decided
abbrev pub ReadsTypes : Type 0
ReadsTypes = (owners : ℕ → Option Owner) (bytes : List ℕ) (t : SigType) → (whole_type owners bytes ≡ Some t) ↔ IsType owners bytes t

abbrev pub OneText : List ℕ → Type 0
OneText heap = (index : ℕ) (a b : List ℕ) → HasText heap index a → HasText heap index b → a ≡ b

module _ (image : List ℕ) (reads : ReadsTypes) (text : OneText (strings_of image)) (blob : OneBlob (blobs_of image)) where
  one_type : (owners : ℕ → Option Owner) (bytes : List ℕ) (s t : SigType) → IsType owners bytes s → IsType owners bytes t → s ≡ t
  one_type owners bytes s t h k = read_one (whole_type owners bytes) (IsType owners bytes) (reads owners bytes) s t h k

  pub owner_one : (owners : ℕ → Option Owner) (table row : ℕ) (a b : Owner) → RowOwner image owners table row a → RowOwner image owners table row b → a ≡ b
  owner_one owners table row a b h k = row_owner_one image text owners blob (one_type owners) h k

  -- ---- the type that a row is, where it is one

  module _ (stands : Stands image) (owners : ℕ → Option Owner) where
    no_type : {table row : ℕ} {o : Owner} → table ≡ 0x02 → (HasRow image 0x02 row → ⊥) → RowOwner image owners table row o → ⊥
    no_type e none (RowOwner.defined f there path) = none there
    no_type e none (RowOwner.referred f there path) = omega arith
    no_type e none (RowOwner.specified f there b h) = omega arith

    no_reference : {table row : ℕ} {o : Owner} → table ≡ 0x01 → (HasRow image 0x01 row → ⊥) → RowOwner image owners table row o → ⊥
    no_reference e none (RowOwner.defined f there path) = omega arith
    no_reference e none (RowOwner.referred f there path) = none there
    no_reference e none (RowOwner.specified f there b h) = omega arith

    no_spec : {table row : ℕ} {o : Owner} → table ≡ 0x1B → (HasRow image 0x1B row → ⊥) → RowOwner image owners table row o → ⊥
    no_spec e none (RowOwner.defined f there path) = omega arith
    no_spec e none (RowOwner.referred f there path) = omega arith
    no_spec e none (RowOwner.specified f there b h) = none there

    no_term : {table row : ℕ} {o : Owner} → table ≡ 0x1B → ((t : SigType) → InBlob (blobs_of image) (IsType owners) (type_spec_signature image row) t → ⊥) → RowOwner image owners table row o → ⊥
    no_term e none (RowOwner.defined f there path) = omega arith
    no_term e none (RowOwner.referred f there path) = omega arith
    no_term e none (RowOwner.specified {bytes = bytes} {term = t} f there b h) = none t (bytes, b, h)

    no_owner : {table row : ℕ} {o : Owner} → (table ≡ 0x02 → ⊥) → (table ≡ 0x01 → ⊥) → (table ≡ 0x1B → ⊥) → RowOwner image owners table row o → ⊥
    no_owner n1 n2 n3 (RowOwner.defined f there path) = n1 f
    no_owner n1 n2 n3 (RowOwner.referred f there path) = n2 f
    no_owner n1 n2 n3 (RowOwner.specified f there b h) = n3 f

    type_decided : (table row : ℕ) → table ≡ 0x02 → Decided (RowOwner image owners table row)
    type_decided table row e = elim (within row (count_of image 0x02)) [
      | inl there ↦ let p = stands.path row there in inl (here p.0, RowOwner.defined e there p.1)
      | inr none ↦ inr (λ o h. no_type e none h)
    ]

    reference_decided : (table row : ℕ) → table ≡ 0x01 → Decided (RowOwner image owners table row)
    reference_decided table row e = elim (within row (count_of image 0x01)) [
      | inl there ↦ let p = stands.reference row there in inl (Name (record { scope = p.0; path = p.1 }), RowOwner.referred e there p.2)
      | inr none ↦ inr (λ o h. no_reference e none h)
    ]

    term_decided : (table row : ℕ) → table ≡ 0x1B → HasRow image 0x1B row → Decided (InBlob (blobs_of image) (IsType owners) (type_spec_signature image row)) → Decided (RowOwner image owners table row)
    term_decided table row e there (inl h) = inl (Spec h.0, RowOwner.specified e there h.1.1 h.1.2)
    term_decided table row e there (inr none) = inr (λ o h. no_term e none h)

    spec_decided : (table row : ℕ) → table ≡ 0x1B → Decided (RowOwner image owners table row)
    spec_decided table row e = elim (within row (count_of image 0x1B)) [
      | inl there ↦ term_decided table row e there (in_blob (blobs_of image) (IsType owners) (type_spec_signature image row) blob (λ bytes. read (whole_type owners bytes) (IsType owners bytes) (reads owners bytes)) (stands.spec row there))
      | inr none ↦ inr (λ o h. no_spec e none h)
    ]

    pub owner_decided : (table row : ℕ) → Decided (RowOwner image owners table row)
    owner_decided table row = elim (same table 0x02) [
      | inl e ↦ type_decided table row e
      | inr n1 ↦ elim (same table 0x01) [
        | inl e ↦ reference_decided table row e
        | inr n2 ↦ elim (same table 0x1B) [
          | inl e ↦ spec_decided table row e
          | inr n3 ↦ inr (λ o h. no_owner n1 n2 n3 h)
        ]
      ]
    ]

  -- ---- a name is found again where the maps agree on what is less deep

  row_moves : (a b : ℕ → Option Owner) (n : ℕ) → ((token : ℕ) (o : Owner) → owner_depth o < n → a token ≡ Some o → b token ≡ Some o)
      → {table row : ℕ} {o : Owner} → RowOwner image a table row o → owner_depth o < suc n → RowOwner image b table row o
  row_moves a b n agree (RowOwner.defined e there path) low = RowOwner.defined e there path
  row_moves a b n agree (RowOwner.referred e there path) low = RowOwner.referred e there path
  row_moves a b n agree (RowOwner.specified {term = t} e there blob h) low =
      RowOwner.specified e there blob (type_moves a b n agree h.0 (omega (arith, depth-Spec t)), h.1, h.2)

  row_is_low : {owners : ℕ → Option Owner} {table row : ℕ} {o : Owner} → RowOwner image owners table row o → owner_depth o ≤ 100
  row_is_low (RowOwner.defined {path = path} e there p) = rw (depth-Name _) (omega arith)
  row_is_low (RowOwner.referred e there p) = rw (depth-Name _) (omega arith)
  row_is_low (RowOwner.specified {term = t} e there b h) = rw (depth-Spec t) h.1

  -- ---- the maps

  module _ (stands : Stands image) where
    owners_at : ℕ → ℕ → Option Owner
    owners_at zero token = None
    owners_at (suc k) token = value_of (RowOwner image (owners_at k) (token / 2 ^ 24) (token % 2 ^ 24)) (owner_decided stands (owners_at k) (token / 2 ^ 24) (token % 2 ^ 24))

    by_token : (owners : ℕ → Option Owner) (token : ℕ) (o : Owner) → NamesOwner image owners token o → RowOwner image owners (token / 2 ^ 24) (token % 2 ^ 24) o
    by_token owners token o (NamesOwner.by_row {table = table} {row = row} t h) =
        subst (λ (r : ℕ). RowOwner image owners (token / 2 ^ 24) r o) (sym (row_is token table row t)) (subst (λ (u : ℕ). RowOwner image owners u row o) (sym (table_is token table row t)) h)

    none_at_first : (token : ℕ) (o : Owner) → owners_at zero token ≡ Some o → ⊥
    unfolding owners_at
    none_at_first token o e = none_is_not e

    step : (k token : ℕ) (o : Owner) → (owners_at (suc k) token ≡ Some o) ↔ NamesOwner image (owners_at k) token o
    unfolding owners_at
    step k token o =
        let t = told (RowOwner image (owners_at k) (token / 2 ^ 24) (token % 2 ^ 24)) (owner_one (owners_at k) (token / 2 ^ 24) (token % 2 ^ 24)) (owner_decided stands (owners_at k) (token / 2 ^ 24) (token % 2 ^ 24)) o in
        (λ e. NamesOwner.by_row (as_token token (token / 2 ^ 24) refl) (t.0 e), λ h. t.1 (by_token (owners_at k) token o h))

    is_low : (owners : ℕ → Option Owner) (token : ℕ) (o : Owner) → NamesOwner image owners token o → owner_depth o ≤ 100
    is_low owners token o (NamesOwner.by_row t h) = row_is_low h

    token_moves : (a b : ℕ → Option Owner) (n : ℕ) → ((token : ℕ) (o : Owner) → owner_depth o < n → a token ≡ Some o → b token ≡ Some o)
        → (token : ℕ) (o : Owner) → NamesOwner image a token o → owner_depth o < suc n → NamesOwner image b token o
    token_moves a b n agree token o (NamesOwner.by_row t h) low = NamesOwner.by_row t (row_moves a b n agree h low)

    -- what any of them names is named after as many readings as it is deep
    settled : (n m token : ℕ) (o : Owner) → owner_depth o < n → owners_at m token ≡ Some o → owners_at n token ≡ Some o
    settled zero m token o low e = absurd (omega arith)
    settled (suc n) zero token o low e = absurd (none_at_first token o e)
    settled (suc n) (suc m) token o low e =
        (step n token o).1 (token_moves (owners_at m) (owners_at n) n (λ t p lt f. settled n m t p lt f) token o ((step m token o).0 e) low)

    low_at : (n token : ℕ) (o : Owner) → owners_at n token ≡ Some o → owner_depth o ≤ 100
    low_at zero token o e = absurd (none_at_first token o e)
    low_at (suc n) token o e = is_low (owners_at n) token o ((step n token o).0 e)

    tells : (n : ℕ) → 100 < n → TellsOwners image (owners_at n)
    tells n deep token o = (
      λ e. let l = low_at n token o e in (step n token o).0 (settled (suc n) n token o (omega arith) e),
      λ h. let l = is_low (owners_at n) token o h in settled n (suc n) token o (omega arith) ((step n token o).1 h),
    )

    pub all_owners : (owners : ℕ → Option Owner) × TellsOwners image owners
    all_owners = (owners_at 101, tells 101 (omega arith))
