-- No two types have one token.
use Rattle.std.proofs.Common.{◌≡◌, ap, sym, ◌∙◌, subst, ℕ, zero, suc, ◌+◌, ◌-◌, ◌^◌, ◌<◌, ◌≤◌, List, [], ◌++◌, Option, Some, arith}
use Rattle.std.specs.Prelude.{slice_get}
use Rattle.heaps.specs.Content.{HasText, HasBlob}
use Rattle.sig_codec.specs.Spelling.{reading, SpellsType}
use Rattle.type_terms.specs.Depth.{depth, owner_depth}
use Rattle.type_terms.specs.declared.name.Scope.TheVariants.{Here}
use Rattle.type_terms.specs.declared.name.TypeName.{TypeName}
use Rattle.type_terms.specs.declared.term.Owner.{Owner}
use Rattle.type_terms.specs.declared.term.Owner.TheVariants as owner
use Rattle.type_terms.specs.declared.term.SigType.{SigType}
use Rattle.image_tokens.specs.Indexes.{token_of}
use Rattle.image_tokens.specs.NameTokens.{HasNameToken, of_declared, of_referred}
use Rattle.image_tokens.specs.References.{AreKnown, HasSignature, IsSpecToken, one_cell}
use Rattle.image_tokens.specs.declared.references.References.{References}
use Rattle.image_tokens.specs.declared.row_set.Cells.{Cells}
use Rattle.image_model.specs.Naming.{HasPath, HasRefPath}
use Rattle.image_model.specs.Streams.{strings_of}
use Rattle.laws_image_parts.proofs.names.EntryLemmas.{IsOwnerToken, of_name, of_spec, entries, entries_known, has_entry, known_token, found, found_is}
use Rattle.laws_image_parts.proofs.names.OnePath.{one_value, path_one, ref_path_one}
use Rattle.laws_image_parts.proofs.names.Respelled.{depth-Spec, type_again}

-- what the laws of lower crates say
abbrev pub OneText : List ℕ → Type 0
OneText image = (index : ℕ) (a b : List ℕ) → HasText (strings_of image) index a → HasText (strings_of image) index b → a ≡ b

abbrev pub OneBlob : Type 0
OneBlob = (heap : List ℕ) (index : ℕ) (a b : List ℕ) → HasBlob heap index a → HasBlob heap index b → a ≡ b

abbrev pub OneType : Type 0
OneType =
    (owners : ℕ → Option Owner) (s t : SigType) (front other after beyond : List ℕ) → SpellsType (reading owners) s front → SpellsType (reading owners) t other
    → front ++ after ≡ other ++ beyond → (front ≡ other) × (s ≡ t) × (after ≡ beyond)

-- the tokens of names lead to rows with their paths
pub record NamesLead (r : References) (image : List ℕ) : Type 0 where
  pub defined : (row : ℕ) (name : TypeName) (token : ℕ) → HasNameToken r.heaps.strings r.declared.types r.referred.names name token → token ≡ token_of 0x02 row
      → (name.scope ≡ Here) × HasPath image row name.path
  pub referred : (row : ℕ) (name : TypeName) (token : ℕ) → HasNameToken r.heaps.strings r.declared.types r.referred.names name token → token ≡ token_of 0x01 row
      → row < 2 ^ 24 → HasRefPath image row name.scope name.path

-- the row of a name's token is one of TypeDef or of TypeRef
pub data NameRow (token : ℕ) : Type 0 where
  in_defined : {row : ℕ} → token ≡ token_of 0x02 row → row < 2 ^ 24 → NameRow token
  in_referred : {row : ℕ} → token ≡ token_of 0x01 row → row < 2 ^ 24 → NameRow token

name_row : (r : References) (name : TypeName) (token : ℕ) → HasNameToken r.heaps.strings r.declared.types r.referred.names name token → NameRow token
name_row r name token (of_declared here f is) = in_defined is.is is.fits
name_row r name token (of_referred there f is) = in_referred is.is is.fits

module _ (r : References) (image : List ℕ) (text : OneText image) (blob : OneBlob) (one_type : OneType) (lead : NamesLead r image) (known : AreKnown r) where
  same_name : (name other : TypeName) → name.scope ≡ other.scope → name.path ≡ other.path → name ≡ other
  same_name name other scope path = λ i. record { scope = scope i; path = path i }

  names_same : (name other : TypeName) (token : ℕ) → HasNameToken r.heaps.strings r.declared.types r.referred.names name token
      → HasNameToken r.heaps.strings r.declared.types r.referred.names other token → name ≡ other
  names_same name other token h k = by_row (name_row r name token h)
    where
      by_row : NameRow token → name ≡ other
      by_row (in_defined {row = row} is fits) =
          let p = lead.defined row name token h is in
          let q = lead.defined row other token k is in
          same_name name other (p.0 ∙ sym q.0) (path_one image text p.1 q.1)
      by_row (in_referred {row = row} is fits) =
          let both = ref_path_one image text (lead.referred row name token h is fits) (lead.referred row other token k is fits) in
          same_name name other both.0 both.1

  -- types with one token have one signature
  one_bytes : (t u : SigType) (token : ℕ) (h : IsSpecToken r t token) (k : IsSpecToken r u token) → h.signature.bytes ≡ k.signature.bytes
  one_bytes t u token h k =
      let rows : h.row ≡ k.row = (let a = h.is.is in let b = k.is.is in omega arith) in
      let at : slice_get r.referred.specs (h.row - 1) ≡ Some (one_cell k.blob) = subst (λ row. slice_get r.referred.specs (row - 1) ≡ Some (one_cell k.blob)) (sym rows) k.at.at in
      let cells : one_cell h.blob ≡ one_cell k.blob = one_value _ (one_cell h.blob) (one_cell k.blob) h.at.at at in
      let same : h.blob ≡ k.blob = ap (λ (c : Cells). c.first) cells in
      blob r.heaps.blobs.bytes k.blob h.signature.bytes k.signature.bytes (subst (λ b. HasBlob r.heaps.blobs.bytes b h.signature.bytes) same h.signature.holds.there) k.signature.holds.there

  -- where no two types below a depth have one token, a signature no deeper than that spells one type
  abbrev OneBelow : ℕ → Type 0
  OneBelow n = (o p : Owner) (token : ℕ) → owner_depth o < n → owner_depth p < n → IsOwnerToken r o token → IsOwnerToken r p token → o ≡ p

  reads_as : (n : ℕ) → OneBelow n → (t : SigType) (at : ℕ) (h : HasSignature SpellsType r t at) → depth t ≤ n → SpellsType (reading (found n (entries r))) t h.bytes
  reads_as n one t at h low =
      type_again h.earlier (found n (entries r)) n
      (λ o token below is.
      let given = h.within o token is in
      found_is r n (entries r) o token (entries_known r known) (has_entry r o token given) below (λ p under its. one p o token under below its (known_token r known o token given)))
      h.spells low

  same_signature : (n : ℕ) → OneBelow n → (t u : SigType) (at other : ℕ) (h : HasSignature SpellsType r t at) (k : HasSignature SpellsType r u other) → depth t ≤ n → depth u ≤ n
      → h.bytes ≡ k.bytes → t ≡ u
  same_signature n one t u at other h k low deep same =
      (one_type (found n (entries r)) t u h.bytes k.bytes [] [] (reads_as n one t at h low) (reads_as n one u other k deep) (ap (λ bs. bs ++ []) same)).1

  one_below : (n : ℕ) → OneBelow n
  one_below zero o p token low deep h k = absurd (omega arith)
  one_below (suc n) o p token low deep (of_name {name = x} e h) (of_name {name = y} f k) = e ∙ ap owner.Name (names_same x y token h k) ∙ sym f
  one_below (suc n) o p token low deep (of_name {name = x} e h) (of_spec f k) = absurd (apart (name_row r x token h) k.row k.is.is)
    where
      apart : {t : ℕ} → NameRow t → (row : ℕ) → t ≡ token_of 0x1B row → ⊥
      apart (in_defined is fits) row e = omega arith
      apart (in_referred is fits) row e = omega arith
  one_below (suc n) o p token low deep (of_spec e h) (of_name {name = y} f k) = absurd (apart (name_row r y token k) h.row h.is.is)
    where
      apart : {t : ℕ} → NameRow t → (row : ℕ) → t ≡ token_of 0x1B row → ⊥
      apart (in_defined is fits) row e = omega arith
      apart (in_referred is fits) row e = omega arith
  one_below (suc n) o p token low deep (of_spec {t = t} e h) (of_spec {t = u} f k) =
      let first : depth t ≤ n = omega (arith, depth-Spec t, ap owner_depth e) in
      let second : depth u ≤ n = omega (arith, depth-Spec u, ap owner_depth f) in
      e ∙ ap owner.Spec (same_signature n (one_below n) t u h.blob k.blob h.signature k.signature first second (one_bytes t u token h k)) ∙ sym f

  pub one_owner : (o p : Owner) (token : ℕ) → IsOwnerToken r o token → IsOwnerToken r p token → o ≡ p
  one_owner o p token h k = one_below (owner_depth o + owner_depth p + 1) o p token (omega arith) (omega arith) h k

  -- so a signature spells one type
  pub one_term : (t u : SigType) (at : ℕ) → HasSignature SpellsType r t at → HasSignature SpellsType r u at → t ≡ u
  one_term t u at h k =
      let n = depth t + depth u in
      same_signature n (one_below n) t u at at h k (omega arith) (omega arith) (blob r.heaps.blobs.bytes at h.bytes k.bytes h.holds.there k.holds.there)
