-- Signatures that were written, as they read.
use Rattle.std.proofs.Common.{◌≡◌, sym, subst, ℕ, List, Option}
use Rattle.heaps.specs.Content.{HasBlob}
use Rattle.sig_codec.specs.Spelling.{Notation, reading, writing}
use Rattle.sig_codec.specs.Tokens.{GivesBack}
use Rattle.type_terms.specs.declared.term.Owner.{Owner}
use Rattle.image_tokens.specs.References.{HasSignature, tokens_of}
use Rattle.image_tokens.specs.declared.references.References.{References}
use Rattle.image_layout.specs.Laws.{ReadsHeaps}
use Rattle.image_model.specs.Streams.{blobs_of}
use Rattle.laws_image_parts.proofs.names.OneToken.{OneBlob}

-- what is spelled with tokens reads with the owners that these give back
abbrev pub Rereads : {X : Type 0} → (Notation → X → List ℕ → Type 0) → Type 0
Rereads {X} Spells =
    (tokens : Owner → Option ℕ) (owners : ℕ → Option Owner) → GivesBack tokens owners → (x : X) (bytes : List ℕ) → Spells (writing tokens) x bytes → Spells (reading owners) x bytes

-- bytes spell one signature of those that a reader takes
abbrev pub SpellsOne : {X : Type 0} → (Notation → X → List ℕ → Type 0) → (X → Type 0) → Type 0
SpellsOne {X} Spells Taken =
    (owners : ℕ → Option Owner) (bytes : List ℕ) (x y : X) → Spells (reading owners) x bytes → Taken x → Spells (reading owners) y bytes → Taken y → x ≡ y

module _ {X : Type 0} (Spells : Notation → X → List ℕ → Type 0) (Taken : X → Type 0) (rereads : Rereads Spells) (one : SpellsOne Spells Taken)
    (r : References) (image : List ℕ) (blob : OneBlob) (heaps : ReadsHeaps r image) (owners : ℕ → Option Owner) (back : GivesBack (tokens_of r) owners) where
  pub reads_back : (x : X) (at : ℕ) (h : HasSignature Spells r x at) → Spells (reading owners) x h.bytes
  reads_back x at h = rereads h.earlier owners (λ o token is. back o token (h.within o token is)) x h.bytes h.spells

  pub one_signature : (x y : X) (at : ℕ) → HasSignature Spells r x at → HasSignature Spells r y at → Taken x → Taken y → x ≡ y
  one_signature x y at h k fits other =
      let same : h.bytes ≡ k.bytes = blob r.heaps.blobs.bytes at h.bytes k.bytes h.holds.there k.holds.there in
      one owners k.bytes x y (subst (Spells (reading owners) x) same (reads_back x at h)) fits (reads_back y at k) other

  -- at an index that a column of the image holds
  pub in_image : (x : X) (at cell : ℕ) (h : HasSignature Spells r x at) → cell ≡ at → HasBlob (blobs_of image) cell h.bytes
  in_image x at cell h is = subst (λ n. HasBlob (blobs_of image) n h.bytes) (sym is) (heaps.blobs at h.bytes h.holds.there)

  pub is_signature : (x y : X) (at cell : ℕ) (bytes : List ℕ) → HasSignature Spells r x at → cell ≡ at → Taken x → HasBlob (blobs_of image) cell bytes
      → Spells (reading owners) y bytes → Taken y → x ≡ y
  is_signature x y at cell bytes h is fits held spells other =
      let same : h.bytes ≡ bytes = blob (blobs_of image) cell h.bytes bytes (in_image x at cell h is) held in
      one owners bytes x y (subst (Spells (reading owners) x) same (reads_back x at h)) fits spells other
