-- At the end every type that a row names is kept: a row that is left would spell a type by what is kept, since what it names is less deep.
use Rattle.std.proofs.Common.{◌≡◌, ℕ, zero, suc, ◌/◌, ◌%◌, ◌^◌, ◌<◌, ◌⊎◌, inl, inr, List, Contains, Option, Some, None, refl, sym, ◌∙◌, ap, subst, arith}
use Rattle.heaps.specs.Content.{HasBlob}
use Rattle.sig_codec.specs.Signature.{IsType}
use Rattle.type_terms.specs.Depth.{depth, owner_depth}
use Rattle.type_terms.specs.declared.term.Owner.{Owner}
use Rattle.type_terms.specs.declared.term.Owner.TheVariants.{Name, Spec}
use Rattle.type_terms.specs.declared.term.SigType.{SigType}
use Rattle.image_model.specs.Columns.{type_spec_signature}
use Rattle.image_model.specs.Naming.{RowOwner, NamesOwner, TellsOwners, here}
use Rattle.image_model.specs.Rows.{count_of, HasRow}
use Rattle.image_model.specs.Streams.{strings_of, blobs_of}
use Rattle.image_model.specs.Tokens.{SignatureNames, InType}
use Rattle.image_model.specs.Used.{IsReference, IsUsed, RowNames}
use Rattle.image_namings.specs.Laws.{HangOnTokens}
use Rattle.image_namings.proofs.Decided.{OneBlob, none_is_not, same}
use Rattle.image_namings.proofs.Owners.{ReadsTypes, OneText, table_is, row_is, as_token, owner_one}
use Rattle.image_namings.proofs.Transfer.{depth-Spec, type_moves}
use Rattle.image_source.specs.Names.{names_of, owner_of_row}
use Rattle.kept_names.specs.Keeping.{kept_at}
use Rattle.kept_names.specs.Keys.{row_key}
use Rattle.kept_names.specs.declared.names.KeptNames.{KeptNames}
use Rattle.kept_owners.specs.Kept.{IsThere, AreThere, IsSound, IsWanted, HasFew, SpellsNone, AreLeft, KeptAll}
use Rattle.kept_owners.specs.Owners.{KeepsOwners, KeepsNoMembers}
use Rattle.kept_owners.proofs.Members.{contains_or}

-- ---- what is decided

some_or : {X : Type 0} (o : Option X) → ((x : X) × (o ≡ Some x)) ⊎ ((x : X) × (o ≡ Some x) → ⊥)
some_or None = inr (λ h. none_is_not h.1)
some_or (Some x) = inl (x, refl)

-- ---- a map of which some tokens are left out

abbrev picked : {K : Type 0} → Option Owner → K ⊎ (K → ⊥) → Option Owner
picked o (inl k) = o
picked o (inr n) = None

picked_some : {K : Type 0} (o : Option Owner) (d : K ⊎ (K → ⊥)) (x : Owner) → picked o d ≡ Some x → K × (o ≡ Some x)
picked_some o (inl k) x e = (k, e)
picked_some o (inr n) x e = absurd (none_is_not e)

picked_same : {K : Type 0} (o : Option Owner) (d : K ⊎ (K → ⊥)) → ((x : Owner) → o ≡ Some x → K) → o ≡ picked o d
picked_same o (inl k) f = refl
picked_same None (inr n) f = refl
picked_same (Some x) (inr n) f = absurd (n (f x refl))

-- ---- rows

spec_there : {image : List ℕ} {owners : ℕ → Option Owner} {table row : ℕ} {o : Owner} → table ≡ 0x1B → RowOwner image owners table row o → HasRow image 0x1B row
spec_there e (RowOwner.defined f there p) = absurd (omega arith)
spec_there e (RowOwner.referred f there p) = absurd (omega arith)
spec_there e (RowOwner.specified f there b h) = there

by_token : {image : List ℕ} {owners : ℕ → Option Owner} {token : ℕ} {o : Owner} → NamesOwner image owners token o → RowOwner image owners (token / 2 ^ 24) (token % 2 ^ 24) o
by_token {image = image} {owners = owners} {token = token} {o = o} (NamesOwner.by_row {table = table} {row = row} t h) =
    subst (λ (r : ℕ). RowOwner image owners (token / 2 ^ 24) r o) (sym (row_is token table row t)) (subst (λ (u : ℕ). RowOwner image owners u row o) (sym (table_is token table row t)) h)

-- a TypeSpec is one of the tables of references
is_reference : IsReference 0x1B
is_reference = inr (inr (inr (inl refl)))

-- ---- what holds at the end

-- the laws of the layers below
pub record Laws (image : List ℕ) : Type 0 where
  pub text : OneText (strings_of image)
  pub blob : OneBlob (blobs_of image)
  pub reads : ReadsTypes
  pub hang : HangOnTokens

pub record Ended (image : List ℕ) (kept : KeptNames) (left : List ℕ) : Type 0 where
  pub sound : IsSound image kept
  pub few_types : HasFew image 0x02
  pub few_references : HasFew image 0x01
  pub few_specs : HasFew image 0x1B
  pub types : AreThere kept 0x02 (count_of image 0x02)
  pub references : AreThere kept 0x01 (count_of image 0x01)
  pub are_left : AreLeft image kept left
  pub none : (row : ℕ) → Contains left row → SpellsNone image kept row

module _ (image : List ℕ) (laws : Laws image) (kept : KeptNames) (left : List ℕ) (ended : Ended image kept left) (owners : ℕ → Option Owner) (tells : TellsOwners image owners) where
  -- a type that a row names is the one that is kept, where one is
  is_kept : (table row : ℕ) (o : Owner) → row < 2 ^ 32 → RowOwner image owners table row o → IsThere kept table row
      → owner_of_row kept table row ≡ Some o
  is_kept table row o small h k = k.1 ∙ ap Some (owner_one image laws.reads laws.text laws.blob owners table row k.0 o (ended.sound owners tells table row k.0 small k.1) h)

  type_kept : (table row : ℕ) (o : Owner) → table ≡ 0x02 → HasRow image 0x02 row → RowOwner image owners table row o → owner_of_row kept table row ≡ Some o
  type_kept table row o e there h =
      let few = ended.few_types in
      let upto = there.1 in
      is_kept table row o (omega arith) h (subst (λ (t : ℕ). IsThere kept t row) (sym e) (ended.types row there.0 there.1))

  reference_kept : (table row : ℕ) (o : Owner) → table ≡ 0x01 → HasRow image 0x01 row → RowOwner image owners table row o → owner_of_row kept table row ≡ Some o
  reference_kept table row o e there h =
      let few = ended.few_references in
      let upto = there.1 in
      is_kept table row o (omega arith) h (subst (λ (t : ℕ). IsThere kept t row) (sym e) (ended.references row there.0 there.1))

  spec_kept : (table row : ℕ) (o : Owner) → table ≡ 0x1B → HasRow image 0x1B row → RowOwner image owners table row o → IsThere kept 0x1B row → owner_of_row kept table row ≡ Some o
  spec_kept table row o e there h k =
      let few = ended.few_specs in
      let upto = there.1 in
      is_kept table row o (omega arith) h (subst (λ (t : ℕ). IsThere kept t row) (sym e) k)

  -- ---- the tokens of which something is known

  abbrev Known : ℕ → Type 0
  Known row = Contains left row ⊎ IsThere kept 0x1B row

  abbrev IsKnown : ℕ → Type 0
  IsKnown token = token / 2 ^ 24 ≡ 0x1B → Known (token % 2 ^ 24)

  row_known_or : (row : ℕ) → Known row ⊎ (Known row → ⊥)
  row_known_or row = elim (contains_or left row) [
    | inl c ↦ inl (inl c)
    | inr n ↦ elim (some_or (owner_of_row kept 0x1B row)) [
      | inl k ↦ inl (inr k)
      | inr none ↦ inr (λ h. elim h [ inl c ↦ n c | inr k ↦ none k ])
    ]
  ]

  known_or : (token : ℕ) → IsKnown token ⊎ (IsKnown token → ⊥)
  known_or token = elim (same (token / 2 ^ 24) 0x1B) [
    | inl e ↦ elim (row_known_or (token % 2 ^ 24)) [
      | inl k ↦ inl (λ f. k)
      | inr n ↦ inr (λ f. n (f e))
    ]
    | inr n ↦ inl (λ e. absurd (n e))
  ]

  abbrev known : ℕ → Option Owner
  known token = picked (owners token) (known_or token)

  -- what a row in use names is in use, and so known
  named_known : (row : ℕ) (bytes : List ℕ) → IsWanted image row → HasBlob (blobs_of image) (type_spec_signature image row) bytes → (token : ℕ) → InType bytes token → (o : Owner) → owners token ≡ Some o
      → IsKnown token
  named_known row bytes want blob token has o is = λ e.
      let it = by_token ((tells token o).0 is) in
      let there = spec_there e it in
      let row_names : RowNames image 0x1B row 0x1B (token % 2 ^ 24) = RowNames.by_signature (SignatureNames.of_type refl blob has) (as_token token 0x1B e) in
      ended.are_left.waits (token % 2 ^ 24) (there, IsUsed.by_reference want.1 row_names is_reference there)

  -- ---- no row is left that spells a type by what tokens name

  abbrev NoneLeft : ℕ → Type 0
  NoneLeft n = (row : ℕ) → Contains left row → (term : SigType) → depth term < n → (bytes : List ℕ) → HasBlob (blobs_of image) (type_spec_signature image row) bytes → IsType owners bytes term → ⊥

  -- what is less deep is kept
  told_at : (n token : ℕ) (o : Owner) → NoneLeft n → owner_depth o < n → IsKnown token → (table row : ℕ) → table ≡ token / 2 ^ 24 → row ≡ token % 2 ^ 24 → RowOwner image owners table row o
      → owner_of_row kept table row ≡ Some o
  told_at n token o none low is table row t r (RowOwner.defined {path = path} e there p) = type_kept table row (here path) e there (RowOwner.defined e there p)
  told_at n token o none low is table row t r (RowOwner.referred {scope = scope} {path = path} e there p) =
      reference_kept table row (Name (record { scope = scope; path = path })) e there (RowOwner.referred e there p)
  told_at n token o none low is table row t r (RowOwner.specified {bytes = bytes} {term = term} e there blob h) =
      let k : Known row = subst Known (sym r) (is (sym t ∙ e)) in
      elim k [
        | inl c ↦ absurd (none row c term (omega (arith, depth-Spec term)) bytes blob h)
        | inr k ↦ spec_kept table row (Spec term) e there (RowOwner.specified e there blob h) k
      ]

  none_left : (n : ℕ) → NoneLeft n
  none_left zero row c term low bytes blob h = omega arith
  none_left (suc n) row c term low bytes blob h =
      let want = ended.are_left.wanted row c in
      let by_known : IsType known bytes term = laws.hang.type_of owners known bytes term (λ token has. picked_same (owners token) (known_or token) (λ o is. named_known row bytes want blob token has o is)) h in
      let agree = λ (token : ℕ) (o : Owner) (lower : owner_depth o < n) (is : known token ≡ Some o).
      let p = picked_some (owners token) (known_or token) o is in
      told_at n token o (none_left n) lower p.0 (token / 2 ^ 24) (token % 2 ^ 24) refl refl (by_token ((tells token o).0 p.1)) in
      let by_kept : IsType (names_of kept).owners bytes term = (type_moves known (names_of kept).owners n agree by_known.0 (omega arith), by_known.1, by_known.2) in
      ended.none row c term (bytes, blob, by_kept)

  all_kept : (table row : ℕ) (o : Owner) → RowOwner image owners table row o → (table ≡ 0x1B → IsUsed image 0x1B row) → owner_of_row kept table row ≡ Some o
  all_kept table row o (RowOwner.defined {path = path} e there p) used = type_kept table row (here path) e there (RowOwner.defined e there p)
  all_kept table row o (RowOwner.referred {scope = scope} {path = path} e there p) used =
      reference_kept table row (Name (record { scope = scope; path = path })) e there (RowOwner.referred e there p)
  all_kept table row o (RowOwner.specified {bytes = bytes} {term = term} e there blob h) used =
      elim (ended.are_left.waits row (there, used e)) [
        | inl c ↦ absurd (none_left (suc (depth term)) row c term (omega arith) bytes blob h)
        | inr k ↦ spec_kept table row (Spec term) e there (RowOwner.specified e there blob h) k
      ]

  pub keeps : KeepsOwners image owners kept
  keeps = record { owners = all_kept; true_owners = ended.sound owners tells }

-- at the end of all
pub kept_at_end : (image : List ℕ) → Laws image → (old kept : KeptNames) → IsSound image old → KeptAll image old kept → (owners : ℕ → Option Owner) → TellsOwners image owners → KeepsOwners image owners kept
kept_at_end image laws old kept sound all owners tells = keeps image laws kept all.specs.0 (record {
  sound = all.goes.sound sound;
  few_types = all.few_types;
  few_references = all.few_references;
  few_specs = all.few_specs;
  types = all.types;
  references = all.references;
  are_left = all.specs.1;
  none = all.specs.2;
}) owners tells

pub sound_at_first : (image : List ℕ) (kept : KeptNames) → ((key : ℕ) → kept_at kept.owners.places kept.owners.items key ≡ None) → IsSound image kept
sound_at_first image kept none = λ owners tells table row o small e. absurd (none_is_not (sym (none (row_key table row)) ∙ e))

pub no_members : (image : List ℕ) (old kept : KeptNames) → KeptAll image old kept → KeepsNoMembers old → KeepsNoMembers kept
no_members image old kept all none = record {
  methods = λ token. ap (λ m. kept_at m.places m.items token) all.goes.methods ∙ none.methods token;
  fields = λ token. ap (λ m. kept_at m.places m.items token) all.goes.fields ∙ none.fields token;
  locals = λ token. ap (λ m. kept_at m.places m.items token) all.goes.locals ∙ none.locals token;
  texts = λ token. ap (λ m. kept_at m.places m.items token) all.goes.texts ∙ none.texts token;
}
