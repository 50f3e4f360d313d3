-- A type that is kept of a row besides, and what then is true of what is kept.
use Rattle.std.proofs.Common.{◌≡◌, ℕ, ◌+◌, ◌/◌, ◌%◌, ◌^◌, ◌<◌, ◌⊎◌, inl, inr, Bool, true, false, cond, nat_eq, List, Option, Some, None, Result, Ok, Err, OnOk, IfOk, refl, sym, ◌∙◌, ap, subst, arith}
use Rattle.std.proofs.lemmas.Bool.{eqb-true, eq-eqb}
use Rattle.std.specs.Prelude.{IfSome, IfNone, MatchOption}
use Rattle.type_terms.specs.declared.term.Owner.{Owner}
use Rattle.type_terms.specs.declared.term.Owner.TheVariants.{Spec}
use Rattle.type_terms.specs.declared.term.SigType.{SigType}
use Rattle.heaps.specs.Content.{HasBlob}
use Rattle.sig_codec.specs.Signature.{IsType}
use Rattle.image_model.specs.Columns.{type_spec_signature}
use Rattle.image_model.specs.Naming.{RowOwner, NamesOwner, TellsOwners}
use Rattle.image_model.specs.Rows.{HasRow}
use Rattle.image_model.specs.Streams.{blobs_of}
use Rattle.image_namings.proofs.Decided.{OneBlob, some_is}
use Rattle.image_namings.proofs.Owners.{as_token}
use Rattle.image_namings.proofs.Transfer.{type_moves}
use Rattle.image_source.specs.Names.{names_of, owner_of_row}
use Rattle.kept_names.specs.Keys.{row_key}
use Rattle.kept_names.specs.declared.names.KeptNames.{KeptNames}
use Rattle.kept_owners.specs.Kept.{Adds, IsThere, AreThere, IsSound, Goes, Spells, SpellsNone}

-- a number of a row has one table and one row
pub one_key : (table row t r : ℕ) → row < 2 ^ 32 → r < 2 ^ 32 → row_key table row ≡ row_key t r → (table ≡ t) × (row ≡ r)
one_key table row t r small fits e = (omega arith, omega arith)

module _ (old new : KeptNames) (table row : ℕ) (owner : Owner) (adds : Adds old new table row owner) where
  -- what is kept of a row is the new type, or what was kept before
  told : (t r : ℕ) (b : Bool) → nat_eq (row_key table row) (row_key t r) ≡ b → owner_of_row new t r ≡ cond b (Some owner) (owner_of_row old t r)
  told t r b e = adds.owners (row_key t r) ∙ ap (λ (c : Bool). cond c (Some owner) (owner_of_row old t r)) e

  stays_at : (t r : ℕ) (b : Bool) → nat_eq (row_key table row) (row_key t r) ≡ b → IsThere old t r → IsThere new t r
  stays_at t r true e k = (owner, told t r true e)
  stays_at t r false e k = (k.0, told t r false e ∙ k.1)

  stays : (t r : ℕ) → IsThere old t r → IsThere new t r
  stays t r k = stays_at t r (nat_eq (row_key table row) (row_key t r)) refl k

  pub is_there : IsThere new table row
  is_there = (owner, told table row true (eq-eqb (row_key table row) (row_key table row) refl))

  module _ (image : List ℕ) (small : row < 2 ^ 32) where
    sound_at : (owners : ℕ → Option Owner) → RowOwner image owners table row owner → ((t r : ℕ) (o : Owner) → r < 2 ^ 32 → owner_of_row old t r ≡ Some o → RowOwner image owners t r o)
        → (t r : ℕ) (o : Owner) → r < 2 ^ 32 → owner_of_row new t r ≡ Some o → (b : Bool) → nat_eq (row_key table row) (row_key t r) ≡ b → RowOwner image owners t r o
    sound_at owners is before t r o fits e true same =
        let key = one_key table row t r small fits (eqb-true (row_key table row) (row_key t r) same) in
        let it : owner ≡ o = some_is owner o (sym (told t r true same) ∙ e) in
        subst (λ (x : Owner). RowOwner image owners t r x) it (subst (λ (x : ℕ). RowOwner image owners t x owner) key.1 (subst (λ (x : ℕ). RowOwner image owners x row owner) key.0 is))
    sound_at owners is before t r o fits e false other = before t r o fits (sym (told t r false other) ∙ e)

    pub put_goes : (IsSound image old → (owners : ℕ → Option Owner) → TellsOwners image owners → RowOwner image owners table row owner) → Goes image old new
    put_goes is = record {
      sound = λ before owners tells t r o fits e. sound_at owners (is before owners tells) (before owners tells) t r o fits e (nat_eq (row_key table row) (row_key t r)) refl;
      stays = stays;
      methods = adds.methods;
      fields = adds.fields;
      locals = adds.locals;
      texts = adds.texts;
    }

-- ---- from one time to the next

pub on_ok : {X E A B : Type 0} (r : Result X E) → (A → B) → OnOk r A → OnOk r B
on_ok (Ok x) f a = f a
on_ok (Err e) f a = tt

pub on_both : {X E A B C : Type 0} (r : Result X E) → (A → B → C) → OnOk r A → OnOk r B → OnOk r C
on_both (Ok x) f a b = f a b
on_both (Err e) f a b = tt

pub goes_same : (image : List ℕ) (kept : KeptNames) → Goes image kept kept
goes_same image kept = record { sound = λ s. s; stays = λ t r k. k; methods = refl; fields = refl; locals = refl; texts = refl }

pub goes_on : (image : List ℕ) (a b c : KeptNames) → Goes image a b → Goes image b c → Goes image a c
goes_on image a b c g h = record {
  sound = λ s. h.sound (g.sound s);
  stays = λ t r k. h.stays t r (g.stays t r k);
  methods = h.methods ∙ g.methods;
  fields = h.fields ∙ g.fields;
  locals = h.locals ∙ g.locals;
  texts = h.texts ∙ g.texts;
}

pub stay_there : (image : List ℕ) (a b : KeptNames) (table count : ℕ) → Goes image a b → AreThere a table count → AreThere b table count
stay_there image a b table count g all = λ row some upto. g.stays table row (all row some upto)

-- one row more
pub there_more : (image : List ℕ) (a b : KeptNames) (table count : ℕ) → Goes image a b → AreThere a table count → IsThere b table (count + 1) → AreThere b table (count + 1)
there_more image a b table count g all one = λ row some upto. elim (last_or row) [
  | inl e ↦ subst (λ (k : ℕ). IsThere b table k) (sym e) one
  | inr less ↦ g.stays table row (all row some (omega arith))
]
  where
    last_or : (row : ℕ) → (row ≡ count + 1) ⊎ (row < count + 1) ⊎ (count + 1 < row)
    last_or row = grind arith

-- ---- what a signature spells by what is kept is so

pub spelled_so : (image : List ℕ) (kept : KeptNames) (row : ℕ) (term : SigType) → HasRow image 0x1B row → Spells image kept row term → IsSound image kept → (owners : ℕ → Option Owner)
    → TellsOwners image owners → RowOwner image owners 0x1B row (Spec term)
spelled_so image kept row term there s sound owners tells =
    let low = s.2.1 in
    RowOwner.specified refl there s.1 (type_moves (names_of kept).owners owners 101 (λ token o lower e. (tells token o).1 (NamesOwner.by_row (as_token token (token / 2 ^ 24) refl) (sound owners tells (token / 2 ^ 24) (token % 2 ^ 24) o (omega arith) e))) s.2.0 (omega arith), s.2.1, s.2.2)

-- what follows of a value, where what was done to it says so
pub ok_value : {X D E : Type 0} (Q : X → Type 0) (r : Result X E) (x : X) (done : Result D E) (P : Type 0) → (P → Q x) → OnOk done P → IfOk r (λ v. (v ≡ x) × ((d : D) × (done ≡ Ok d))) → IfOk r Q
ok_value {D = D} {E = E} Q (Ok v) x done P f p h = subst Q (sym h.0) (f (subst (λ (k : Result D E). OnOk k P) h.1.1 p))
ok_value Q (Err e) x done P f p h = tt

-- ---- what was read of a signature

pub read_so : {E : Type 0} (image : List ℕ) (kept : KeptNames) (row : ℕ) → OneBlob (blobs_of image) → (bytes : List ℕ) → HasBlob (blobs_of image) (type_spec_signature image row) bytes → (r : Result (Option SigType) E)
    → IfOk r (λ found. IfSome found (λ t. IsType (names_of kept).owners bytes t)) → IfOk r (λ found. IfNone found ((t : SigType) → IsType (names_of kept).owners bytes t → ⊥))
    → IfOk r (λ found. MatchOption found (SpellsNone image kept row) (Spells image kept row))
read_so image kept row one bytes blob (Ok (Some term)) is none = (bytes, blob, is)
read_so image kept row one bytes blob (Ok None) is none = λ term s. none term (subst (λ (b : List ℕ). IsType (names_of kept).owners b term) (one (type_spec_signature image row) s.0 bytes s.1 blob) s.2)
read_so image kept row one bytes blob (Err e) is none = tt
