-- Which rows tokens name, and the map of owners that tells it.
use Rattle.std.proofs.Common.{◌≡◌, ap, refl, sym, ◌∙◌, subst, ℕ, ◌+◌, ◌-◌, ◌/◌, ◌%◌, ◌^◌, ◌<◌, ◌≤◌, ◌&&◌, Bool, true, eqb, ltb, List, [], ◌++◌, length, Option, Some, None, inl, inr, arith}
use Rattle.std.specs.Prelude.{slice_get, slice_index, ◌⊎◌}
use Rattle.std.specs.Cmp.{first_so, second_so}
use Rattle.std.proofs.lemmas.Bool.{cases_Bool, eqb-true, eq-eqb, ltb-true}
use Rattle.heaps.specs.Content.{HasBlob}
use Rattle.sig_codec.specs.Spelling.{reading, SpellsType}
use Rattle.sig_codec.specs.Tokens.{GivesBack}
use Rattle.type_terms.specs.Depth.{depth}
use Rattle.type_terms.specs.declared.name.Scope.{Scope}
use Rattle.type_terms.specs.declared.name.Scope.TheVariants.{Extern}
use Rattle.type_terms.specs.declared.name.TypeId.{TypeId}
use Rattle.type_terms.specs.declared.name.TypeName.{TypeName}
use Rattle.type_terms.specs.declared.term.Owner.{Owner}
use Rattle.type_terms.specs.declared.term.Owner.TheVariants.{Name, Spec}
use Rattle.type_terms.specs.declared.term.SigType.{SigType}
use Rattle.image_tokens.specs.NameTokens.{HasNameToken, of_declared, of_referred}
use Rattle.image_tokens.specs.References.{AreKnown, HasSignature, IsSpecRow, tokens_of}
use Rattle.image_tokens.specs.declared.references.References.{References}
use Rattle.image_tokens.specs.declared.row_set.Cells.{Cells}
use Rattle.image_rows.specs.Filled.{first_cell}
use Rattle.image_layout.specs.Laws.{ReadsHeaps}
use Rattle.image_model.specs.Columns.{type_spec_signature}
use Rattle.image_model.specs.Naming.{HasPath, HasRefPath, IsToken, RowOwner, NamesOwner, here}
use Rattle.image_model.specs.Rows.{HasRow, count_of, token_of}
use Rattle.image_model.specs.Streams.{blobs_of}
use Rattle.laws_image_parts.specs.AtRows.{Reads}
use Rattle.laws_image_parts.specs.RowCells.{type_spec_cells}
use Rattle.laws_image_parts.specs.RowsRead.{IsMade}
use Rattle.laws_image_parts.proofs.CellLemmas.{get_low}
use Rattle.laws_image_parts.specs.names.Owners.{SpecsAreReadable, OwnersRead}
use Rattle.laws_image_parts.proofs.names.EntryLemmas.{IsOwnerToken, of_name, of_spec, known_token}
use Rattle.laws_image_parts.proofs.names.General.{get_some}
use Rattle.laws_image_parts.proofs.names.OnePath.{one_value, path_one, ref_path_one}
use Rattle.laws_image_parts.proofs.names.OneToken.{OneText, OneBlob, OneType, NamesLead, one_term}
use Rattle.laws_image_parts.proofs.names.Respelled.{type_again}

-- ---- whether a token is that of a row

abbrev pub IsRowToken : (table count token : ℕ) → Type 0
IsRowToken table count token = (row : ℕ) × IsToken token table row × (0 < row) × (row ≤ count)

abbrev test_row : (table count token : ℕ) → Bool
test_row table count token = eqb (token / 2 ^ 24) table && (ltb 0 (token % 2 ^ 24) && ltb (token % 2 ^ 24) (count + 1))

pub row_decided : (table count token : ℕ) → IsRowToken table count token ⊎ (IsRowToken table count token → ⊥)
row_decided table count token = elim (cases_Bool (test_row table count token)) [
  | inl passes ↦
      let first : token / 2 ^ 24 ≡ table = eqb-true _ _ (first_so (eqb (token / 2 ^ 24) table) (ltb 0 (token % 2 ^ 24) && ltb (token % 2 ^ 24) (count + 1)) passes) in
      let rest = second_so (eqb (token / 2 ^ 24) table) (ltb 0 (token % 2 ^ 24) && ltb (token % 2 ^ 24) (count + 1)) passes in
      let some : 0 < token % 2 ^ 24 = ltb-true _ _ (first_so (ltb 0 (token % 2 ^ 24)) (ltb (token % 2 ^ 24) (count + 1)) rest) in
      let high : token % 2 ^ 24 < count + 1 = ltb-true _ _ (second_so (ltb 0 (token % 2 ^ 24)) (ltb (token % 2 ^ 24) (count + 1)) rest) in
      inl (token % 2 ^ 24, record { is = omega arith; fits = omega arith }, some, omega arith)
  | inr fails ↦ inr (λ h. absurd (let passes = tested h in cc))
]
  where
    tested : IsRowToken table count token → test_row table count token ≡ true
    tested h =
        let is = h.1.is in
        let fits = h.1.fits in
        let some = h.2 in
        let high = h.3 in
        let at : token / 2 ^ 24 ≡ table = omega arith in
        let row : token % 2 ^ 24 ≡ h.0 = omega arith in
        let a : eqb (token / 2 ^ 24) table ≡ true = eq-eqb _ _ at in
        let b : ltb 0 (token % 2 ^ 24) ≡ true = grind (arith, row, some) in
        let c : ltb (token % 2 ^ 24) (count + 1) ≡ true = grind (arith, row, high) in
        (λ i. a i && (b i && c i))

module _ (r : References) (image : List ℕ) (text : OneText image) (blob : OneBlob) (one_type : OneType) (lead : NamesLead r image) (known : AreKnown r)
    (paths_types : (row : ℕ) → HasRow image 0x02 row → (path : List TypeId) × HasPath image row path)
    (paths_references : (row : ℕ) → HasRow image 0x01 row → (number : ℕ) × (path : List TypeId) × HasRefPath image row (Extern number) path)
    (there : (row : ℕ) (name : TypeName) (token : ℕ) → HasNameToken r.heaps.strings r.declared.types r.referred.names name token
    → (token ≡ token_of 0x02 row → HasRow image 0x02 row) × (token ≡ token_of 0x01 row → row < 2 ^ 24 → HasRow image 0x01 row))
    (reads : Reads 0x1B type_spec_cells (IsMade first_cell) r.referred.specs image) (heaps : ReadsHeaps r image) (readable : SpecsAreReadable r) where
  -- what a token names, by the rows that were made
  data IsAt (token : ℕ) (o : Owner) : Type 0 where
    defined : {row : ℕ} {path : List TypeId} → IsToken token 0x02 row → HasRow image 0x02 row → HasPath image row path → o ≡ here path → IsAt token o
    referred : {row : ℕ} {scope : Scope} {path : List TypeId} → IsToken token 0x01 row → HasRow image 0x01 row → HasRefPath image row scope path
        → o ≡ Name (record { scope = scope; path = path }) → IsAt token o
    specified : {row : ℕ} {cells : Cells} {t : SigType} → IsToken token 0x1B row → 0 < row → slice_get r.referred.specs (row - 1) ≡ Some cells
        → HasSignature SpellsType r t cells.first → o ≡ Spec t → IsAt token o

  -- one type at most
  at_one : (token : ℕ) (o p : Owner) → IsAt token o → IsAt token p → o ≡ p
  at_one token o p (defined {row = a} i there h e) (defined {row = b} {path = q} j those k f) =
      let same : b ≡ a = (let x = i.is in let y = j.is in omega arith) in
      e ∙ ap here (path_one image text h (subst (λ z. HasPath image z q) same k)) ∙ sym f
  at_one token o p (defined i there h e) (referred j those k f) = absurd (let x = i.is in let y = j.is in let u = i.fits in let v = j.fits in omega arith)
  at_one token o p (defined i there h e) (specified j some at k f) = absurd (let x = i.is in let y = j.is in let u = i.fits in let v = j.fits in omega arith)
  at_one token o p (referred i there h e) (defined j those k f) = absurd (let x = i.is in let y = j.is in let u = i.fits in let v = j.fits in omega arith)
  at_one token o p (referred {row = a} i there h e) (referred {row = b} {scope = s} {path = q} j those k f) =
      let same : b ≡ a = (let x = i.is in let y = j.is in omega arith) in
      let both = ref_path_one image text h (subst (λ z. HasRefPath image z s q) same k) in
      let scopes = both.0 in
      let paths = both.1 in
      e ∙ (λ i. Name (record { scope = scopes i; path = paths i })) ∙ sym f
  at_one token o p (referred i there h e) (specified j some at k f) = absurd (let x = i.is in let y = j.is in let u = i.fits in let v = j.fits in omega arith)
  at_one token o p (specified i some at h e) (defined j those k f) = absurd (let x = i.is in let y = j.is in let u = i.fits in let v = j.fits in omega arith)
  at_one token o p (specified i some at h e) (referred j those k f) = absurd (let x = i.is in let y = j.is in let u = i.fits in let v = j.fits in omega arith)
  at_one token o p (specified {row = a} {cells = c} {t = t} i some at h e) (specified {row = b} {cells = d} {t = u} j any so k f) =
      let same : b ≡ a = (let x = i.is in let y = j.is in omega arith) in
      let cells : d ≡ c = one_value _ d c (subst (λ z. slice_get r.referred.specs (z - 1) ≡ Some d) same so) at in
      e ∙ ap Spec (one_term r image text blob one_type lead known t u c.first h (subst (λ (z : Cells). HasSignature SpellsType r u z.first) cells k)) ∙ sym f

  -- ---- the map

  spec_row : (row : ℕ) → 0 < row → row ≤ length r.referred.specs → (cells : Cells) × (slice_get r.referred.specs (row - 1) ≡ Some cells) × ((t : SigType) × HasSignature SpellsType r t cells.first)
  spec_row row some high =
      let found = get_some r.referred.specs (row - 1) (omega arith) in
      let is : IsSpecRow r found.0 = known.rows.specs (row - 1) found.0 found.1 in
      (found.0, found.1, (is.of, subst (λ (c : Cells). HasSignature SpellsType r is.of c.first) (sym is.are) is.signature))

  abbrev None-at : ℕ → Type 0
  None-at token = (o : Owner) → IsAt token o → ⊥

  no_row : (token : ℕ) → (IsRowToken 0x02 (count_of image 0x02) token → ⊥) → (IsRowToken 0x01 (count_of image 0x01) token → ⊥)
      → (IsRowToken 0x1B (length r.referred.specs) token → ⊥) → None-at token
  no_row token f g k o (defined {row = row} i there h e) = f (row, i, there.0, there.1)
  no_row token f g k o (referred {row = row} i there h e) = g (row, i, there.0, there.1)
  no_row token f g k o (specified {row = row} {cells = c} i some at h e) = k (row, i, some, (let low = get_low r.referred.specs (row - 1) c at in omega arith))

  at_decided : (token : ℕ) → ((o : Owner) × IsAt token o) ⊎ None-at token
  at_decided token = elim (row_decided 0x02 (count_of image 0x02) token) [
    | inl h ↦ (let path = paths_types h.0 (h.2, h.3) in inl (here path.0, defined h.1 (h.2, h.3) path.1 refl))
    | inr f ↦ elim (row_decided 0x01 (count_of image 0x01) token) [
      | inl h ↦ (let path = paths_references h.0 (h.2, h.3) in inl (Name (record { scope = Extern path.0; path = path.1 }), referred h.1 (h.2, h.3) path.2 refl))
      | inr g ↦ elim (row_decided 0x1B (length r.referred.specs) token) [
        | inl h ↦ (let row = spec_row h.0 h.2 h.3 in inl (Spec row.2.0, specified h.1 h.2 row.1 row.2.1 refl))
        | inr k ↦ inr (no_row token f g k)
      ]
    ]
  ]

  abbrev chosen : {A B : Type 0} {P : A → Type 0} → ((o : A) × P o) ⊎ B → Option A
  chosen (inl h) = Some h.0
  chosen (inr n) = None

  unfoldable owners : ℕ → Option Owner
  owners token = chosen (at_decided token)

  told : (token : ℕ) (o : Owner) → owners token ≡ Some o → IsAt token o
  unfolding owners
  told token o e = by_choice (at_decided token) e
    where
      by_choice : (d : ((p : Owner) × IsAt token p) ⊎ None-at token) → chosen d ≡ Some o → IsAt token o
      by_choice (inl h) f = (let same : h.0 ≡ o = cc in subst (IsAt token) same h.1)
      by_choice (inr n) f = absurd cc

  tells_at : (token : ℕ) (o : Owner) → IsAt token o → owners token ≡ Some o
  unfolding owners
  tells_at token o h = by_choice (at_decided token)
    where
      by_choice : (d : ((p : Owner) × IsAt token p) ⊎ None-at token) → chosen d ≡ Some o
      by_choice (inl k) = ap Some (at_one token k.0 o k.1 h)
      by_choice (inr n) = absurd (n o h)

  -- ---- what was given a token

  name_at : (name : TypeName) (token : ℕ) → HasNameToken r.heaps.strings r.declared.types r.referred.names name token → IsAt token (Name name)
  name_at name token h = by_token h
    where
      by_token : HasNameToken r.heaps.strings r.declared.types r.referred.names name token → IsAt token (Name name)
      by_token (of_declared {row = row} at f is) =
          let p = lead.defined row name token h is.is in
          let scope = p.0 in
          defined (record { is = is.is; fits = is.fits }) ((there row name token h).0 is.is) p.1 (λ i. Name (record { scope = scope i; path = name.path }))
      by_token (of_referred {row = row} at f is) =
          referred (record { is = is.is; fits = is.fits }) ((there row name token h).1 is.is is.fits) (lead.referred row name token h is.is is.fits) refl

  given_at : (o : Owner) (token : ℕ) → IsOwnerToken r o token → IsAt token o
  given_at o token (of_name {name = name} e h) = subst (IsAt token) (sym e) (name_at name token h)
  given_at o token (of_spec {t = t} e h) =
      specified (record { is = h.is.is; fits = h.is.fits }) h.at.counted h.at.at h.signature e

  gives_back : GivesBack (tokens_of r) owners
  gives_back o token at = tells_at token o (given_at o token (known_token r known o token at))

  -- ---- what the image names

  -- a signature that was written reads as its type
  reads_type : (t : SigType) (at : ℕ) (h : HasSignature SpellsType r t at) → SpellsType (reading owners) t h.bytes
  reads_type t at h = type_again h.earlier owners (depth t) (λ o token low is. gives_back o token (h.within o token is)) h.spells (omega arith)

  -- the column of a row
  spec_cell : (row : ℕ) (cells : Cells) → 0 < row → slice_get r.referred.specs (row - 1) ≡ Some cells → type_spec_signature image row ≡ cells.first
  spec_cell row cells some at =
      let same : 1 + (row - 1) ≡ row = omega arith in
      let is : type_spec_cells image row ≡ first_cell cells = subst (λ m. type_spec_cells image m ≡ first_cell cells) same (reads.each (row - 1) cells at) in
      ap (λ (cs : List ℕ). slice_index cs 0) is

  names_it : (token : ℕ) (o : Owner) → IsAt token o → NamesOwner image owners token o
  names_it token o (defined i there h e) = subst (NamesOwner image owners token) (sym e) (NamesOwner.by_row i (RowOwner.defined refl there h))
  names_it token o (referred i there h e) = subst (NamesOwner image owners token) (sym e) (NamesOwner.by_row i (RowOwner.referred refl there h))
  names_it token o (specified {row = row} {cells = c} {t = t} i some at h e) =
      let low = get_low r.referred.specs (row - 1) c at in
      let limits = readable (row - 1) c t at h in
      let column = spec_cell row c some at in
      let held : HasBlob (blobs_of image) (type_spec_signature image row) h.bytes = subst (λ n. HasBlob (blobs_of image) n h.bytes) (sym column) (heaps.blobs c.first h.bytes h.holds.there) in
      subst (NamesOwner image owners token) (sym e)
      (NamesOwner.by_row i (RowOwner.specified refl (some, omega (arith, reads.count)) held (reads_type t c.first h, limits.0, limits.1)))

  is_at_row : (token table row : ℕ) (o : Owner) → IsToken token table row → RowOwner image owners table row o → IsAt token o
  is_at_row token table row o i (RowOwner.defined e there h) = defined (subst (λ z. IsToken token z row) e i) there h refl
  is_at_row token table row o i (RowOwner.referred e there h) = referred (subst (λ z. IsToken token z row) e i) there h refl
  is_at_row token table row o i (RowOwner.specified {bytes = bytes} {term = term} e there held h) =
      let made = spec_row row there.0 (let high = there.1 in omega (arith, reads.count)) in
      let t = made.2.0 in
      let s = made.2.1 in
      let column = spec_cell row made.0 there.0 made.1 in
      let mine : HasBlob (blobs_of image) (type_spec_signature image row) s.bytes = subst (λ n. HasBlob (blobs_of image) n s.bytes) (sym column) (heaps.blobs made.0.first s.bytes s.holds.there) in
      let same : s.bytes ≡ bytes = blob (blobs_of image) (type_spec_signature image row) s.bytes bytes mine held in
      let one : t ≡ term = (one_type owners t term s.bytes bytes [] [] (reads_type t made.0.first s) h.0 (ap (λ bs. bs ++ []) same)).1 in
      specified (subst (λ z. IsToken token z row) e i) there.0 made.1 s (ap Spec (sym one))

  is_at : (token : ℕ) (o : Owner) → NamesOwner image owners token o → IsAt token o
  is_at token o (NamesOwner.by_row {table = table} {row = row} i h) = is_at_row token table row o i h

  pub owners_read : OwnersRead r image
  owners_read = record {
    owners = owners;
    tells = λ token o. (λ e. names_it token o (told token o e), λ h. tells_at token o (is_at token o h));
    back = gives_back;
  }
