-- When rows of InterfaceImpl name one type, and that such rows have one hash.
use Rattle.std.proofs.Common.{◌≡◌, ℕ, ◌+◌, ◌*◌, ◌^◌, ◌<◌, ◌≤◌, ◌⊎◌, inl, inr, Bool, true, false, List, length, get_or, Option, Some, None, option_map, refl, sym, ◌∙◌, ap, subst, arith}
use Rattle.std.specs.Prelude.{if◌then◌else◌, ◌==◌, ◌↔◌, IsTrue}
use Rattle.std.proofs.lemmas.Bool.{false≢true, eqb-true, eq-eqb, ne_eqb}
use Rattle.std.proofs.lemmas.Option.{same_Some, none-some}
use Rattle.heaps.specs.Content.{HasBlob}
use Rattle.heaps.specs.LookUp.{blob_in, BlobIsComputed}
use Rattle.type_terms.proofs.Layers.{fold-Spec}
use Rattle.type_terms.specs.declared.term.Owner.{Owner, Name, Spec}
use Rattle.type_terms.specs.declared.term.SigType.{SigType}
use Rattle.sig_codec.specs.Reading as whole
use Rattle.sig_codec.specs.Reading.{◌>>=◌}
use Rattle.sig_codec.proofs.Whole.{whole_type_again}
use Rattle.body_codec.specs.Names.{NameMap}
use Rattle.metadata_tables.specs.declared.coded.Coded.TheVariants.{TypeDefOrRef}
use Rattle.image_model.specs.Columns.{interface_type, type_spec_signature}
use Rattle.image_model.specs.Naming.{IsToken, RowOwner, NamesOwner, TellsOwners}
use Rattle.image_model.specs.Namings.{AreNamings}
use Rattle.image_model.specs.Reading.{OwnerIs}
use Rattle.image_model.specs.Rows.{HasRow, token_of}
use Rattle.image_model.specs.Streams.{blobs_of}
use Rattle.image_namings.proofs.General.{names_one}
use Rattle.row_twins.specs.Twins.{IsWithin}
use Rattle.signature_equality.specs.Numbering.{IsCanon}
use Rattle.signature_facts.specs.declared.facts.Facts.{Facts}
use Rattle.signature_facts.specs.declared.facts.OwnerFacts.{OwnerFacts}
use Rattle.signature_facts.specs.Facts.{Naming, owner_facts, type_facts, owner_step, type_step}
use Rattle.signature_facts.specs.Owners.{AreFacts, AreBounded}
use Rattle.signature_facts.specs.Scanning as scan
use Rattle.signature_facts.specs.Scanning.{OwnersFacts}
use Rattle.signature_facts.proofs.WholeTold as told
use Rattle.spec_facts.proofs.Owned.{bounded}
use Rattle.spec_facts.specs.SpecMap.{spec_of}
use Rattle.told_weights.specs.Fresh.{NameOneType}
use Rattle.twin_numbers.specs.Numbered.{IsEquivalence}
use Rattle.interface_numbers.specs.Hashes.{type_hash, owner_hash, spec_hash, name_hash, hash_by, HasHash}
use Rattle.interface_numbers.specs.Known.{AreKnown, SameType, HaveOneTerm}
use Rattle.interface_numbers.specs.Places.{AreHeads, HaveOneKey}
use Rattle.interface_numbers.specs.Rows.{NamesType}

-- a type's hash, by what is told of it
hash_for : Naming → Owner → ℕ
hash_for naming o = owner_hash (Some (owner_facts naming o))

module _ (image : List ℕ) (facts : OwnersFacts) (canon : ℕ → ℕ → Bool) (known : AreKnown image facts canon) (computed : BlobIsComputed) where
  module _ (names : NameMap) (tell : AreNamings image names) where
    -- the type of the row that a row names
    row_owner : (row table type : ℕ) (o : Owner) → NamesType image row table type → OwnerIs image names (interface_type image row) o → RowOwner image names.owners table type o
    row_owner row table type o t h =
        let same = names_one TypeDefOrRef (interface_type image row) h.0 h.1 table type h.2 t.names in
        subst (λ (r : ℕ). RowOwner image names.owners table r o) same.1 (subst (λ (z : ℕ). RowOwner image names.owners z h.1 o) same.0 h.3)

    -- the term of a row of TypeSpec
    spec_term : {table type : ℕ} {o : Owner} → table ≡ 0x1B → RowOwner image names.owners table type o
        → (t : SigType) × (o ≡ Spec t) × ((blob_in (blobs_of image) (type_spec_signature image type) >>= whole.whole_type names.owners) ≡ Some t)
    spec_term e (RowOwner.defined f there h) = absurd (omega (arith, e, f))
    spec_term e (RowOwner.referred f there h) = absurd (omega (arith, e, f))
    spec_term e (RowOwner.specified {row = r} {bytes = b} {term = t} f there blob is) =
        (t, refl, ap (λ (x : Option (List ℕ)). x >>= whole.whole_type names.owners) ((computed (blobs_of image) (type_spec_signature image r) b).0 blob) ∙ whole_type_again names.owners b t is)

    not_spec : {table type : ℕ} {o : Owner} → (table ≡ 0x1B → ⊥) → RowOwner image names.owners table type o → (t : SigType) → o ≡ Spec t → ⊥
    not_spec n (RowOwner.defined f there h) t e = cc
    not_spec n (RowOwner.referred f there h) t e = cc
    not_spec n (RowOwner.specified f there blob is) t e = n f

    -- the token of a row of TypeDef or TypeRef
    token_owner : (table type : ℕ) (o : Owner) → type < 2 ^ 24 → RowOwner image names.owners table type o → names.owners (token_of table type) ≡ Some o
    token_owner table type o fits h = (tell.owners (token_of table type) o).1 (NamesOwner.by_row (record { is = refl; fits = fits }) h)

    -- ---- hashes

    module _ (naming : Naming) (are : AreFacts naming names.owners facts) where
      bounds : AreBounded names.owners
      bounds = bounded image naming names.owners tell.owners

      spec_hashed : {table type : ℕ} {o : Owner} → table ≡ 0x1B → RowOwner image names.owners table type o → spec_hash image facts (type_spec_signature image type) ≡ hash_for naming o
      unfolding spec_hash hash_for
      spec_hashed e (RowOwner.defined f there h) = absurd (omega (arith, e, f))
      spec_hashed e (RowOwner.referred f there h) = absurd (omega (arith, e, f))
      spec_hashed e (RowOwner.specified {row = r} {bytes = b} {term = t} f there blob is) =
          let found = (computed (blobs_of image) (type_spec_signature image r) b).0 blob in
          let scanned : scan.whole_type facts b ≡ Some (type_facts naming t) =
          told.moved facts naming names.owners are (λ (f : OwnersFacts). scan.whole_type f b) ∙ told.type_whole naming names.owners bounds b
          ∙ ap (option_map (type_facts naming)) (whole_type_again names.owners b t is) in
          let spec : owner_facts naming (Spec t) ≡ spec_of (type_facts naming t) = fold-Spec OwnerFacts Facts (owner_step naming) (type_step naming) t in
          ap (λ (x : Option (List ℕ)). type_hash (x >>= scan.whole_type facts)) found ∙ ap type_hash scanned ∙ sym (ap (λ (x : OwnerFacts). owner_hash (Some x)) spec)

      hashed : (row hash : ℕ) (o : Owner) → OwnerIs image names (interface_type image row) o → HasHash image facts row hash → hash ≡ hash_for naming o
      unfolding hash_for
      hashed row hash o h k = go (k.0 == 0x1B) refl
        where
          at : RowOwner image names.owners k.0 k.1 o
          at = row_owner row k.0 k.1 o k.2 h

          go : (b : Bool) → (k.0 == 0x1B) ≡ b → hash ≡ hash_for naming o
          go true e =
              k.3 ∙ ap (λ (c : Bool). if c then spec_hash image facts (type_spec_signature image k.1) else name_hash facts (token_of k.0 k.1)) e ∙ spec_hashed (eqb-true k.0 0x1B e) at
          go false e =
              let never : k.0 ≡ 0x1B → ⊥ = λ is. false≢true (sym e ∙ eq-eqb k.0 0x1B is) in
              let owner = token_owner k.0 k.1 o (k.2.few never) at in
              k.3 ∙ ap (λ (c : Bool). if c then spec_hash image facts (type_spec_signature image k.1) else name_hash facts (token_of k.0 k.1)) e
              ∙ ap owner_hash (are (token_of k.0 k.1) ∙ ap (option_map (owner_facts naming)) owner)

    -- ---- whether rows are alike

    same_owner : (one other : ℕ) (a b : Owner) → OwnerIs image names (interface_type image one) a → OwnerIs image names (interface_type image other) b → NameOneType image names one other → a ≡ b
    same_owner one other a b h k s =
        known.one names tell (interface_type image one) a s.0 h s.1 ∙ known.one names tell (interface_type image other) s.0 b s.2 k

  pub hashed_alike : (one other g h : ℕ) → SameType image one other → HasHash image facts one g → HasHash image facts other h → g ≡ h
  hashed_alike one other g h same a b =
      let n = known.named in
      let f = known.facts_are n.0 n.1 in
      let s = same n.0 n.1 in
      hashed n.0 n.1 f.0 f.1 one g s.0 s.1 a ∙ sym (hashed n.0 n.1 f.0 f.1 other h s.0 s.2 b)

  module _ (one other : ℕ) (one_there : HasRow image 0x09 one) (other_there : HasRow image 0x09 other) (t r u s : ℕ) (a : NamesType image one t r) (b : NamesType image other u s) where
    owner_of : (names : NameMap) → AreNamings image names → (o : Owner) × OwnerIs image names (interface_type image one) o × RowOwner image names.owners t r o
    owner_of names tell = let o = known.owners names tell one one_there in (o.0, o.1, row_owner names tell one t r o.0 a o.1)

    other_of : (names : NameMap) → AreNamings image names → (o : Owner) × OwnerIs image names (interface_type image other) o × RowOwner image names.owners u s o
    other_of names tell = let o = known.owners names tell other other_there in (o.0, o.1, row_owner names tell other u s o.0 b o.1)

    -- where a test tells whether the types are one
    by_types : (told : Bool) → ((names : NameMap) (tell : AreNamings image names) → IsTrue told ↔ ((owner_of names tell).0 ≡ (other_of names tell).0)) → IsTrue told ↔ SameType image one other
    by_types told h = (
      λ yes names tell.
          let o = owner_of names tell in
          let p = other_of names tell in
          (o.0, o.1, subst (λ (x : Owner). OwnerIs image names (interface_type image other) x) (sym ((h names tell).0 yes)) p.1),
      λ same.
          let n = known.named in
          let o = owner_of n.0 n.1 in
          let p = other_of n.0 n.1 in
          (h n.0 n.1).1 (same_owner n.0 n.1 one other o.0 p.0 o.1 p.1 (same n.0 n.1)),
    )

    pub specs_alike : (told : Bool) → t ≡ 0x1B → u ≡ 0x1B → HaveOneTerm image canon r s told → IsTrue told ↔ SameType image one other
    specs_alike told e f test = by_types told (λ names tell.
        let o = owner_of names tell in
        let p = other_of names tell in
        let x = spec_term names tell e o.2 in
        let y = spec_term names tell f p.2 in
        let k = test names.owners x.0 y.0 (known.canon_is names tell) x.2 y.2 in (
          λ yes. x.1 ∙ ap Spec (k.0 yes) ∙ sym y.1,
          λ same. k.1 (let z = sym x.1 ∙ same ∙ y.1 in cc),
        ))

    pub one_alone : t ≡ 0x1B → (u ≡ 0x1B → ⊥) → SameType image one other → ⊥
    one_alone e n same =
        let m = known.named in
        let o = owner_of m.0 m.1 in
        let p = other_of m.0 m.1 in
        let x = spec_term m.0 m.1 e o.2 in
        not_spec m.0 m.1 n p.2 x.0 (sym (same_owner m.0 m.1 one other o.0 p.0 o.1 p.1 (same m.0 m.1)) ∙ x.1)

    pub other_alone : (t ≡ 0x1B → ⊥) → u ≡ 0x1B → SameType image one other → ⊥
    other_alone n e same =
        let m = known.named in
        let o = owner_of m.0 m.1 in
        let p = other_of m.0 m.1 in
        let y = spec_term m.0 m.1 e p.2 in
        not_spec m.0 m.1 n o.2 y.0 (same_owner m.0 m.1 one other o.0 p.0 o.1 p.1 (same m.0 m.1) ∙ y.1)

    pub names_alike : (told : Bool) (x y : ℕ) → (t ≡ 0x1B → ⊥) → (u ≡ 0x1B → ⊥) → x ≡ token_of t r → y ≡ token_of u s → told ≡ canon x y → IsTrue told ↔ SameType image one other
    names_alike told x y n m e f is = by_types told (λ names tell.
        let o = owner_of names tell in
        let p = other_of names tell in
        let a_is = ap names.owners e ∙ token_owner names tell t r o.0 (a.few n) o.2 in
        let b_is = ap names.owners f ∙ token_owner names tell u s p.0 (b.few m) p.2 in
        let k = known.canon_is names tell x y o.0 p.0 a_is b_is in (
          λ yes. k.0 (sym is ∙ yes),
          λ same. is ∙ k.1 same,
        ))

  pub equivalence : (count : ℕ) (heads : List ℕ) → AreHeads image count heads → IsEquivalence count (λ one other. SameType image (get_or heads one 0) (get_or heads other 0))
  equivalence count heads are = record {
    itself = λ row within names tell. let o = known.owners names tell (get_or heads row 0) (are.rows row within.0 within.1) in (o.0, o.1, o.1);
    back = λ one other a b same names tell. let s = same names tell in (s.0, s.2, s.1);
    on = λ one other third a b c same more names tell.
        let s = same names tell in
        let m = more names tell in
        (s.0, s.1, subst (λ (o : Owner). OwnerIs image names (interface_type image (get_or heads third 0)) o) (sym (known.one names tell (interface_type image (get_or heads other 0)) s.0 m.0 s.2 m.1)) m.2);
  }

-- ---- keys

odd : (a b : ℕ) → a * 2 + 1 ≡ b * 2 → ⊥
odd a b e = omega (arith, e)

module _ (image : List ℕ) (facts : OwnersFacts) (canon : ℕ → ℕ → Bool) (known : AreKnown image facts canon) (computed : BlobIsComputed) (one other : ℕ) (one_there : HasRow image 0x09 one) (other_there : HasRow image 0x09 other) where
  pub one_key : HaveOneKey image one other → SameType image one other
  one_key (key, (t, r, n, e), (u, s, m, f)) names tell = go (t == 0x1B) refl (u == 0x1B) refl
    where
      o : (o : Owner) × OwnerIs image names (interface_type image one) o × RowOwner image names.owners t r o
      o = owner_of image facts canon known computed one other one_there other_there t r u s n m names tell

      p : (o : Owner) × OwnerIs image names (interface_type image other) o × RowOwner image names.owners u s o
      p = other_of image facts canon known computed one other one_there other_there t r u s n m names tell

      as_one : (b : Bool) → (t == 0x1B) ≡ b → key ≡ (if b then type_spec_signature image r * 2 + 1 else interface_type image one * 2)
      as_one b is = e ∙ ap (λ (c : Bool). if c then type_spec_signature image r * 2 + 1 else interface_type image one * 2) is

      as_other : (b : Bool) → (u == 0x1B) ≡ b → key ≡ (if b then type_spec_signature image s * 2 + 1 else interface_type image other * 2)
      as_other b is = f ∙ ap (λ (c : Bool). if c then type_spec_signature image s * 2 + 1 else interface_type image other * 2) is

      go : (b : Bool) → (t == 0x1B) ≡ b → (c : Bool) → (u == 0x1B) ≡ c → NameOneType image names one other
      go true x true y =
          let i = as_one true x in
          let j = as_other true y in
          let index : type_spec_signature image r ≡ type_spec_signature image s = omega (arith, i, j) in
          let a = spec_term image facts canon known computed names tell (eqb-true t 0x1B x) o.2 in
          let b = spec_term image facts canon known computed names tell (eqb-true u 0x1B y) p.2 in
          let same : a.0 ≡ b.0 = same_Some a.0 b.0 (sym a.2 ∙ ap (λ (i : ℕ). blob_in (blobs_of image) i >>= whole.whole_type names.owners) index ∙ b.2) in
          (o.0, o.1, subst (λ (x : Owner). OwnerIs image names (interface_type image other) x) (b.1 ∙ ap Spec (sym same) ∙ sym a.1) p.1)
      go true x false y = absurd (odd (type_spec_signature image r) (interface_type image other) (sym (as_one true x) ∙ as_other false y))
      go false x true y = absurd (odd (type_spec_signature image s) (interface_type image one) (sym (as_other true y) ∙ as_one false x))
      go false x false y =
          let i = as_one false x in
          let j = as_other false y in
          let cell : interface_type image one ≡ interface_type image other = omega (arith, i, j) in
          (o.0, o.1, subst (λ (v : ℕ). OwnerIs image names v o.0) cell o.1)

-- ---- what code answers

pub spec_hashed_is : (image : List ℕ) (facts : OwnersFacts) (row table type index hash : ℕ) → NamesType image row table type → table ≡ 0x1B → index ≡ type_spec_signature image type → hash ≡ spec_hash image facts index → HasHash image facts row hash
spec_hashed_is image facts row table type index hash n e i k = (
  table,
  type,
  n,
  k ∙ ap (spec_hash image facts) i ∙ sym (ap (λ (c : Bool). if c then spec_hash image facts (type_spec_signature image type) else name_hash facts (token_of table type)) (eq-eqb table 0x1B e)),
)

pub name_hashed_is : (image : List ℕ) (facts : OwnersFacts) (row table type token hash : ℕ) → NamesType image row table type → (table ≡ 0x1B → ⊥) → token ≡ token_of table type → hash ≡ name_hash facts token → HasHash image facts row hash
name_hashed_is image facts row table type token hash n e i k = (
  table,
  type,
  n,
  k ∙ ap (name_hash facts) i ∙ sym (ap (λ (c : Bool). if c then spec_hash image facts (type_spec_signature image type) else name_hash facts (token_of table type)) (ne_eqb table 0x1B e)),
)

pub small_table : (image : List ℕ) (row table type : ℕ) → NamesType image row table type → (table ≡ 0x1B → ⊥) → table < 16
small_table image row table type n other = elim n.kind [
  | inl e ↦ omega (arith, e)
  | inr more ↦ elim more [ inl e ↦ omega (arith, e) | inr e ↦ absurd (other e) ]
]

-- bytes that stand at an index
at_index : {Y : Type 0} (b : Option (List ℕ)) (f : List ℕ → Option Y) (y : Y) → (b >>= f) ≡ Some y → (bytes : List ℕ) × (b ≡ Some bytes) × (f bytes ≡ Some y)
at_index None f y e = absurd (none-some y e)
at_index (Some b) f y e = (b, refl, e)

pub one_term : (image : List ℕ) (canon : ℕ → ℕ → Bool) (one other : ℕ) (a b : List ℕ) (told : Bool)
    → ((bytes : List ℕ) → blob_in (blobs_of image) (type_spec_signature image one) ≡ Some bytes → a ≡ bytes)
    → ((bytes : List ℕ) → blob_in (blobs_of image) (type_spec_signature image other) ≡ Some bytes → b ≡ bytes)
    → ((owners : ℕ → Option Owner) (s t : SigType) → IsCanon owners canon → whole.whole_type owners a ≡ Some s → whole.whole_type owners b ≡ Some t → IsTrue told ↔ (s ≡ t)) → HaveOneTerm image canon one other told
one_term image canon one other a b told f g test owners s t is h k =
    let x = at_index (blob_in (blobs_of image) (type_spec_signature image one)) (whole.whole_type owners) s h in
    let y = at_index (blob_in (blobs_of image) (type_spec_signature image other)) (whole.whole_type owners) t k in
    test owners s t is (ap (whole.whole_type owners) (f x.0 x.1) ∙ x.2) (ap (whole.whole_type owners) (g y.0 y.1) ∙ y.2)

pub none_in : (heap : List ℕ) (index : ℕ) → BlobIsComputed → ((b : List ℕ) → HasBlob heap index b → ⊥) → (r : Option (List ℕ)) → blob_in heap index ≡ r → None ≡ r
none_in heap index computed lacks None e = refl
none_in heap index computed lacks (Some b) e = absurd (lacks b ((computed heap index b).1 e))
