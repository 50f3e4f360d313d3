-- What is answered of a token is what it names.
use Rattle.std.proofs.Common.{◌≡◌, ◌∙◌, sym, ap, subst, refl, ℕ, zero, suc, ◌+◌, ◌*◌, ◌/◌, ◌%◌, ◌^◌, ◌<◌, ◌≤◌, ◌⊎◌, inl, inr, Bool, true, false, not, nat_eq, get_or, List, [], ◌∷◌, length, take, Option, Some, None, option_map, arith}
use Rattle.std.specs.Prelude.{◌↔◌, IsTrue}
use Rattle.std.specs.List.{All}
use Rattle.std.proofs.lemmas.List.{take_all}
use Rattle.std.proofs.lemmas.Bool.{false≢true, eqb-true, eq-eqb}
use Rattle.heaps.specs.Content.{HasBlob, HasUnits}
use Rattle.heaps.proofs.BlobLemmas.{HasBlob-unique}
use Rattle.metadata_tables.specs.Schema.{schema, columns_of}
use Rattle.image_model.specs.Columns.{member_signature}
use Rattle.image_model.specs.Naming.{IsToken, NamesText}
use Rattle.image_model.specs.Rows.{HasRow}
use Rattle.image_model.specs.Streams.{blobs_of, user_of}
use Rattle.image_model.specs.Units.{units_of}
use Rattle.method_states.proofs.Marking.{token_is, token_parts}
use Rattle.body_tokens.specs.Tokens.{NamesRow, IsFieldMember, IsMemberOf, IsTextToken}

pub columns_of_members : length (columns_of 0x0A) ≡ 3
unfolding schema
columns_of_members = refl

-- ---- rows

pub names_there : (image : List ℕ) (token table : ℕ) (b : Bool) → token / 2 ^ 24 ≡ table → IsTrue b ↔ HasRow image table (token % 2 ^ 24) → IsTrue b ↔ NamesRow image token table
names_there image token table b e h = (
  λ t. record { row = token % 2 ^ 24; is = token_is token table (token % 2 ^ 24) (sym e) refl; there = h.0 t },
  λ n. h.1 (subst (HasRow image table) (token_parts token table n.row n.is).1 n.there),
)

pub names_other : (image : List ℕ) (token table : ℕ) → (token / 2 ^ 24 ≡ table → ⊥) → NamesRow image token table → ⊥
names_other image token table other n = other (sym (token_parts token table n.row n.is).0)

-- ---- members

pub row_named : (image : List ℕ) (token : ℕ) → NamesRow image token 0x0A → HasRow image 0x0A (token % 2 ^ 24)
row_named image token n = subst (HasRow image 0x0A) (token_parts token 0x0A n.row n.is).1 n.there

pub member_said : (image : List ℕ) (token : ℕ) (Said : ℕ → Type 0) (b : Bool) → NamesRow image token 0x0A → IsTrue b ↔ Said (token % 2 ^ 24) → IsTrue b ↔ IsMemberOf image token Said
member_said image token Said b n h =
    let same = (token_parts token 0x0A n.row n.is).1 in (
      λ t. record { row = n.row; is = n.is; there = n.there; said = subst Said (sym same) (h.0 t) },
      λ m. h.1 (subst Said (token_parts token 0x0A m.row m.is).1 m.said),
    )

pub no_member : (image : List ℕ) (token : ℕ) (Said : ℕ → Type 0) → (NamesRow image token 0x0A → ⊥) → IsMemberOf image token Said → ⊥
no_member image token Said none m = none (record { row = m.row; is = m.is; there = m.there })

pub not_said : (P : Type 0) (b r : Bool) → IsTrue b ↔ P → r ≡ not b → IsTrue r ↔ (P → ⊥)
not_said P true r h e = (λ t. absurd (false≢true (sym e ∙ t)), λ never. absurd (never (h.0 refl)))
not_said P false r h e = (λ t p. false≢true (h.1 p), λ never. e)

-- the blob of a row begins as a field's, or there is none
pub field_begins : (image : List ℕ) (row index : ℕ) (bytes : List ℕ) (b : Bool) → index ≡ member_signature image row → HasBlob (blobs_of image) index bytes
    → IsTrue b ↔ ((rest : List ℕ) × (bytes ≡ 0x06 ∷ rest)) → IsTrue b ↔ IsFieldMember image row
field_begins image row index bytes b e blob h =
    let at : HasBlob (blobs_of image) (member_signature image row) bytes = subst (λ (i : ℕ). HasBlob (blobs_of image) i bytes) e blob in (
      λ t. let r = h.0 t in record { bytes = bytes; blob = at; rest = r.0; begins = r.1 },
      λ f. h.1 (f.rest, HasBlob-unique (blobs_of image) (member_signature image row) bytes f.bytes at f.blob ∙ f.begins),
    )

pub no_field : (image : List ℕ) (row index : ℕ) → index ≡ member_signature image row → ((bytes : List ℕ) → HasBlob (blobs_of image) index bytes → ⊥) → IsFieldMember image row → ⊥
no_field image row index e none f = none f.bytes (subst (λ (i : ℕ). HasBlob (blobs_of image) i f.bytes) (sym e) f.blob)

-- ---- texts

-- an even number of bytes are whole units
whole_units : (bytes : List ℕ) (half : ℕ) → length bytes ≡ 2 * half → (units : List ℕ) × (units_of bytes ≡ Some units)
whole_units [] half e = ([], refl)
whole_units (low ∷ []) half e = absurd (omega arith)
whole_units (low ∷ (high ∷ more)) zero e = absurd (omega arith)
whole_units (low ∷ (high ∷ more)) (suc half) e =
    let rest = whole_units more half (omega arith) in
    ((low + 256 * high) ∷ rest.0, ap (option_map (λ (units : List ℕ). (low + 256 * high) ∷ units)) rest.1)

pub text_there : (image : List ℕ) (token : ℕ) (bytes : List ℕ) → token / 2 ^ 24 ≡ 0x70 → HasUnits (user_of image) (token % 2 ^ 24) bytes → IsTextToken image token
text_there image token bytes e h =
    let even = h.2 in
    let u = whole_units bytes (length bytes / 2) (omega arith) in
    (u.0, NamesText.entry bytes (token_is token 0x70 (token % 2 ^ 24) (sym e) refl) h u.1)

entry_units : (image : List ℕ) (token : ℕ) (units : List ℕ) → NamesText image token units → (bytes : List ℕ) × HasUnits (user_of image) (token % 2 ^ 24) bytes × (token / 2 ^ 24 ≡ 0x70)
entry_units image token units (NamesText.entry bytes {index = index} is h e) =
    let parts = token_parts token 0x70 index is in
    (bytes, subst (λ (i : ℕ). HasUnits (user_of image) i bytes) parts.1 h, sym parts.0)

pub no_text : (image : List ℕ) (token : ℕ) → ((bytes : List ℕ) → HasUnits (user_of image) (token % 2 ^ 24) bytes → ⊥) → IsTextToken image token → ⊥
no_text image token none t = let u = entry_units image token t.0 t.1 in none u.0 u.1

pub other_text : (image : List ℕ) (token : ℕ) → (token / 2 ^ 24 ≡ 0x70 → ⊥) → IsTextToken image token → ⊥
other_text image token other t = let u = entry_units image token t.0 t.1 in other u.2

-- ---- bytes

pub begins : (bytes : List ℕ) → 1 ≤ length bytes → IsTrue (nat_eq (get_or bytes 0 0) 0x06) ↔ ((rest : List ℕ) × (bytes ≡ 0x06 ∷ rest))
begins [] some = absurd (omega arith)
begins (b ∷ rest) some = (
  λ t. (rest, ap (λ (x : ℕ). x ∷ rest) (eqb-true b 0x06 t)),
  λ r. eq-eqb b 0x06 (ap (λ (xs : List ℕ). get_or xs 0 0) r.1),
)

pub begins_none : (bytes rest : List ℕ) → length bytes ≡ 0 → bytes ≡ 0x06 ∷ rest → ⊥
begins_none bytes rest none e = let l = ap (λ (xs : List ℕ). length xs) e in omega arith

-- ---- lists

pub all_told : {X : Type 0} (P : X → Type 0) (xs : List X) (n : ℕ) → length xs ≤ n → All P (take n xs) → IsTrue true ↔ All P xs
all_told P xs n l h = (λ t. subst (All P) (take_all n xs l) h, λ a. refl)
