-- What tokens name by the rows of an image, told as facts, is what the scans of its blobs find.
use Rattle.std.proofs.Common.{◌≡◌, ℕ, ◌+◌, ◌*◌, ◌/◌, ◌%◌, ◌^◌, ◌≤◌, ◌<◌, List, Option, Some, None, refl, sym, ap, subst, ◌∙◌, arith}
use Rattle.std.proofs.lemmas.Grind.{common_steps}
use Rattle.std.specs.Option.{option_map}
use Rattle.heaps.specs.Content.{HasBlob}
use Rattle.heaps.specs.LookUp.{blob_in}
use Rattle.heaps.proofs.Computed.{blob_is_computed}
use Rattle.type_terms.specs.Depth.{depth, owner_depth, depth_step, owner_depth_step}
use Rattle.type_terms.specs.Nodes.{nodes, owner_nodes, nodes_step, owner_nodes_step}
use Rattle.type_terms.specs.declared.name.Scope.TheVariants.{Here}
use Rattle.type_terms.specs.declared.name.TypeName.{TypeName}
use Rattle.type_terms.specs.declared.term.Owner.{Owner, Name, Spec}
use Rattle.type_terms.specs.declared.term.SigType.{SigType}
use Rattle.type_terms.proofs.Layers.{fold-Name, fold-Spec}
use Rattle.image_model.specs.Columns.{type_spec_signature}
use Rattle.image_model.specs.Naming.{RowOwner, defined, referred, specified, IsToken, NamesOwner, by_row, TellsOwners}
use Rattle.image_model.specs.Rows.{HasRow, token_of}
use Rattle.image_model.specs.Streams.{blobs_of}
use Rattle.sig_codec.specs.Signature.{IsType, max_depth, max_nodes}
use Rattle.sig_codec.specs.Reading as whole
use Rattle.sig_codec.specs.Reading.{◌>>=◌}
use Rattle.sig_codec.proofs.Numbers.{some_is}
use Rattle.sig_codec.proofs.Whole.{type_whole, whole_type_again}
use Rattle.signature_facts.specs.declared.facts.Facts.{Facts}
use Rattle.signature_facts.specs.declared.facts.OwnerFacts.{OwnerFacts}
use Rattle.signature_facts.specs.Facts.{Naming, owner_step, type_step, owner_facts, type_facts}
use Rattle.signature_facts.specs.Owners.{AreFacts, AreBounded}
use Rattle.signature_facts.specs.Scanning.{OwnersFacts, whole_type}
use Rattle.signature_facts.proofs.Sizes.{owner_sizes}
use Rattle.signature_facts.proofs.Told.{owned}
use Rattle.signature_facts.proofs.WholeTold as told
use Rattle.spec_facts.specs.Rounds.{scanned_at, TellsSpecs}
use Rattle.spec_facts.specs.SpecMap.{spec_of, AreNameFacts}

module _ (image : List ℕ) (naming : Naming) (owners : ℕ → Option Owner) (tells : TellsOwners image owners) where
  name_bounded : (n : TypeName) → (owner_depth (Name n) ≤ max_depth) × (owner_nodes (Name n) ≤ max_nodes)
  name_bounded n = (omega (arith, fold-Name ℕ ℕ owner_depth_step depth_step n), omega (arith, fold-Name ℕ ℕ owner_nodes_step nodes_step n))

  row_bounded : {table row : ℕ} {o : Owner} → RowOwner image owners table row o → (owner_depth o ≤ max_depth) × (owner_nodes o ≤ max_nodes)
  row_bounded (defined {path = path} t h p) = name_bounded (record { scope = Here; path = path })
  row_bounded (referred {scope = scope} {path = path} t h p) = name_bounded (record { scope = scope; path = path })
  row_bounded (specified {term = term} t h b is) =
      let deep = is.1 in
      let many = is.2 in
      (omega (arith, fold-Spec ℕ ℕ owner_depth_step depth_step term), omega (arith, fold-Spec ℕ ℕ owner_nodes_step nodes_step term))

  named_bounded : {token : ℕ} {o : Owner} → NamesOwner image owners token o → (owner_depth o ≤ max_depth) × (owner_nodes o ≤ max_nodes)
  named_bounded (by_row is h) = row_bounded h

  pub bounded : AreBounded owners
  bounded token o e = named_bounded ((tells token o).0 e)

  abbrev pub true_map : OwnersFacts
  true_map = owned naming owners

  -- a token of a TypeSpec names what its row's blob spells
  record IsSpecified (token : ℕ) (o : Owner) : Type 0 where
    term : SigType
    bytes : List ℕ
    there : HasRow image 0x1B (token % 2 ^ 24)
    blob : HasBlob (blobs_of image) (type_spec_signature image (token % 2 ^ 24)) bytes
    spelled : IsType owners bytes term
    is : Spec term ≡ o

  row_specified : {table row : ℕ} {o : Owner} → (token : ℕ) → token / 2 ^ 24 ≡ 0x1B → token ≡ table * 2 ^ 24 + row → row < 2 ^ 24 → RowOwner image owners table row o → IsSpecified token o
  row_specified token t is fits (defined e h p) = absurd (omega arith)
  row_specified token t is fits (referred e h p) = absurd (omega arith)
  row_specified {row = row} token t is fits (specified {bytes = bytes} {term = term} e h b s) =
      let same : row ≡ token % 2 ^ 24 = omega arith in
      record {
        term = term;
        bytes = bytes;
        there = subst (HasRow image 0x1B) same h;
        blob = subst (λ (r : ℕ). HasBlob (blobs_of image) (type_spec_signature image r) bytes) same b;
        spelled = s;
        is = refl;
      }

  named_specified : {token : ℕ} {o : Owner} → token / 2 ^ 24 ≡ 0x1B → NamesOwner image owners token o → IsSpecified token o
  named_specified {token = token} t (by_row is h) = row_specified token t is.is is.fits h

  spec_scanned : (token : ℕ) → token / 2 ^ 24 ≡ 0x1B → HasRow image 0x1B (token % 2 ^ 24) → (r : Option Owner) → owners token ≡ r
      → option_map (owner_facts naming) r ≡ option_map spec_of (scanned_at image true_map (type_spec_signature image (token % 2 ^ 24)))
  unfolding scanned_at
  spec_scanned token t there (Some o) e =
      let s = named_specified t ((tells token o).0 e) in
      let blob : blob_in (blobs_of image) (type_spec_signature image (token % 2 ^ 24)) ≡ Some s.bytes = (blob_is_computed (blobs_of image) (type_spec_signature image (token % 2 ^ 24)) s.bytes).0 s.blob in
      let read = whole_type_again owners s.bytes s.term s.spelled in
      let found : whole_type true_map s.bytes ≡ Some (type_facts naming s.term) = told.type_whole naming owners bounded s.bytes ∙ ap (option_map (type_facts naming)) read in
      let spec : owner_facts naming (Spec s.term) ≡ spec_of (type_facts naming s.term) = fold-Spec OwnerFacts Facts (owner_step naming) (type_step naming) s.term in
      rw (blob, found) (ap (λ (o : Owner). Some (owner_facts naming o)) (sym s.is) ∙ ap (λ (f : OwnerFacts). Some f) spec)
  spec_scanned token t there None e = none (blob_in (blobs_of image) (type_spec_signature image (token % 2 ^ 24))) refl
    where
      unspelled : (bytes : List ℕ) → HasBlob (blobs_of image) (type_spec_signature image (token % 2 ^ 24)) bytes → (r : Option SigType) → whole.whole_type owners bytes ≡ r
          → whole_type true_map bytes ≡ None
      unspelled bytes b None h = told.type_whole naming owners bounded bytes ∙ ap (option_map (type_facts naming)) h
      unspelled bytes b (Some term) h =
          let is : IsToken token 0x1B (token % 2 ^ 24) = record { is = omega arith; fits = omega arith } in
          let names : NamesOwner image owners token (Spec term) = by_row is (specified refl there b (type_whole owners bytes term h)) in
          absurd (let f = (tells token (Spec term)).1 names in cc)

      none : (r : Option (List ℕ)) → blob_in (blobs_of image) (type_spec_signature image (token % 2 ^ 24)) ≡ r
          → None ≡ option_map spec_of (r >>= λ b. whole_type true_map b)
      none None h = refl
      none (Some bytes) h =
          let b = (blob_is_computed (blobs_of image) (type_spec_signature image (token % 2 ^ 24)) bytes).1 h in
          sym (ap (option_map spec_of) (unspelled bytes b (whole.whole_type owners bytes) refl))

  not_there : (token : ℕ) → token / 2 ^ 24 ≡ 0x1B → (HasRow image 0x1B (token % 2 ^ 24) → ⊥) → (r : Option Owner) → owners token ≡ r → option_map (owner_facts naming) r ≡ None
  not_there token t lacks None e = refl
  not_there token t lacks (Some o) e = absurd (lacks (named_specified t ((tells token o).0 e)).there)

  so_deep : (token : ℕ) (o : OwnerFacts) (r : Option Owner) → owners token ≡ r → option_map (owner_facts naming) r ≡ Some o → o.facts.depth ≤ 100
  so_deep token o None e h = absurd cc
  so_deep token o (Some p) e h =
      let b = bounded token p e in
      let deep = b.0 in
      let sized = owner_sizes naming p in
      let d = sized.depth in
      let same : (owner_facts naming p).facts.depth ≡ o.facts.depth = ap (λ (o : OwnerFacts). o.facts.depth) (some_is (owner_facts naming p) o h) in
      omega arith

  pub tells_specs : (names : OwnersFacts) → AreNameFacts naming owners names → TellsSpecs image names true_map
  tells_specs names are = record {
    named = λ token other. sym (are token other);
    there = λ token t h. spec_scanned token t h (owners token) refl;
    absent = λ token t lacks. not_there token t lacks (owners token) refl;
    deep = λ token o e. so_deep token o (owners token) refl e;
  }
