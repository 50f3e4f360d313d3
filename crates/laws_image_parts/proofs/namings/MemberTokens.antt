-- What the tokens of members name: rows that types declare, and rows of MemberRef.
use Rattle.std.proofs.Common.{◌≡◌, ap, refl, sym, subst, ℕ, ◌+◌, ◌-◌, ◌/◌, ◌%◌, ◌^◌, List, length, Option, Some, Contains, inl, inr, arith}
use Rattle.std.specs.Prelude.{◌⊎◌, slice_get, slice_index}
use Rattle.heaps.specs.Content.{HasText, HasBlob}
use Rattle.metadata_tables.specs.declared.coded.Coded.TheVariants.{MemberRefParent}
use Rattle.sig_codec.specs.Spelling.{Notation, reading}
use Rattle.type_terms.specs.declared.name.TypeId.{TypeId}
use Rattle.type_terms.specs.declared.term.Owner.{Owner}
use Rattle.image_tokens.specs.Indexes.{index_of_token}
use Rattle.image_tokens.specs.References.{HasSignature, HasMemberToken, of_declared, of_referred, IsMemberRow, IsReferredMember, tokens_of}
use Rattle.image_tokens.specs.Texts.{HoldsText}
use Rattle.image_tokens.specs.declared.references.References.{References}
use Rattle.image_tokens.specs.declared.row_set.Cells.{Cells}
use Rattle.image_model.specs.Columns.{member_signature}
use Rattle.image_model.specs.Naming.{HasPath, IsToken, NamesOwner, RowOwner, here}
use Rattle.image_model.specs.Rows.{HasRow, count_of}
use Rattle.image_model.specs.Streams.{strings_of, blobs_of}
use Rattle.laws_image_parts.specs.names.MemberOwners.{HaveOneOwner}
use Rattle.laws_image_parts.proofs.names.General.{get_some}
use Rattle.laws_image_parts.proofs.names.OwnerLemmas.{IsRowToken, row_decided}
use Rattle.laws_image_parts.specs.namings.Readable.{AreReadableIn}
use Rattle.laws_image_parts.proofs.namings.HeapUnits.{Decided}
use Rattle.laws_image_parts.proofs.namings.MemberRows.{Setting, IsCodec, ReadsAs, Member, Refers, refers_one, refers_made, Defines, defines_one, at_written, written_one, text_one}

-- A row that a type declares: its type, name and signature as they were declared, and as they stand in the image
pub record IsDeclared {Y : Type 0} (Spells : Notation → Y → List ℕ → Type 0) (r : References) (image : List ℕ) (table : ℕ) (name_at sig_at : ℕ → ℕ) (members_of : ℕ → List ℕ)
    (k : ℕ) (cells : Cells) : Type 0 where
  pub there : HasRow image table (1 + k)
  pub type_there : HasRow image 0x02 cells.first
  pub within : Contains (members_of cells.first) (1 + k)
  pub name : List ℕ
  pub name_declared : HoldsText r.heaps.strings name cells.second
  pub name_is : HasText (strings_of image) (name_at (1 + k)) name
  pub sig : Y
  pub sig_declared : HasSignature Spells r sig cells.third
  pub sig_written : HasSignature Spells r sig (sig_at (1 + k))

-- a signature of the kind stands in a row of MemberRef, or none does
abbrev pub IsOfKind : {Y : Type 0} → (Notation → Y → List ℕ → Type 0) → References → (ℕ → Option Owner) → Cells → Type 0
IsOfKind {Y} Spells r owners cells =
    ((y : Y) × HasSignature Spells r y cells.third)
    ⊎ ((bytes : List ℕ) × HasBlob r.heaps.blobs.bytes cells.third bytes × ((y : Y) → Spells (reading owners) y bytes → ⊥))

-- a table of members: how its rows were declared, and what is known of the rows of MemberRef beside them
pub record Declares {Y : Type 0} (Spells : Notation → Y → List ℕ → Type 0) (Taken : Y → Type 0) (r : References) (image : List ℕ) (owners : ℕ → Option Owner) (table : ℕ)
    (name_at sig_at : ℕ → ℕ) (members_of : ℕ → List ℕ) (declared : List Cells) : Type 0 where
  pub codec : IsCodec Spells Taken
  pub own : HaveOneOwner image table members_of
  pub other : table ≡ 0x0A → ⊥
  pub count : count_of image table ≡ length declared
  pub made : (k : ℕ) (cells : Cells) → slice_get declared k ≡ Some cells → IsDeclared Spells r image table name_at sig_at members_of k cells
  pub kinds : (k : ℕ) (cells : Cells) → slice_get r.referred.members k ≡ Some cells → IsOfKind Spells r owners cells
  pub readable : AreReadableIn Spells Taken r declared (λ c. c.third)
  pub readable_members : AreReadableIn Spells Taken r r.referred.members (λ c. c.third)

module _ {Y : Type 0} (Spells : Notation → Y → List ℕ → Type 0) (Taken : Y → Type 0) (r : References) (image : List ℕ) (owners : ℕ → Option Owner) (s : Setting r image owners)
    (table : ℕ) (name_at sig_at : ℕ → ℕ) (members_of : ℕ → List ℕ) (declared : List Cells)
    (facts : Declares Spells Taken r image owners table name_at sig_at members_of declared) where
  abbrev Defined : ℕ → Member Y → Type 0
  Defined = Defines Spells Taken facts.codec r image owners s table name_at sig_at members_of facts.own

  abbrev Referred : ℕ → Member Y → Type 0
  Referred = Refers Spells Taken facts.codec r image owners s

  -- a token names a member
  pub data IsMember (token : ℕ) (m : Member Y) : Type 0 where
    defined : {row : ℕ} → IsToken token table row → Defined row m → IsMember token m
    referred : {row : ℕ} → IsToken token 0x0A row → Referred row m → IsMember token m

  pub member_one : (token : ℕ) (m n : Member Y) → IsMember token m → IsMember token n → m ≡ n
  member_one token m n (defined {row = a} i h) (defined {row = b} j k) =
      let same : b ≡ a = (let x = i.is in let y = j.is in omega arith) in
      defines_one Spells Taken facts.codec r image owners s table name_at sig_at members_of facts.own a m n h (subst (λ row. Defined row n) same k)
  member_one token m n (defined {row = a} i h) (referred {row = b} j k) =
      absurd (let x = i.is in let y = j.is in let u = i.fits in let v = j.fits in facts.other (omega arith))
  member_one token m n (referred {row = a} i h) (defined {row = b} j k) =
      absurd (let x = i.is in let y = j.is in let u = i.fits in let v = j.fits in facts.other (omega arith))
  member_one token m n (referred {row = a} i h) (referred {row = b} j k) =
      let same : b ≡ a = (let x = i.is in let y = j.is in omega arith) in
      refers_one Spells Taken facts.codec r image owners s a m n h (subst (λ row. Referred row n) same k)

  -- ---- each row that is there

  has_path : (type : ℕ) → HasRow image 0x02 type → (path : List TypeId) × HasPath image type path
  has_path type there = s.paths type there

  define : (k : ℕ) (cells : Cells) (at : slice_get declared k ≡ Some cells) → (m : Member Y) × Defined (1 + k) m
  define k cells at =
      let d = facts.made k cells at in
      let path = has_path cells.first d.type_there in (
        record { owner = here path.0; name = d.name; sig = d.sig },
        record {
          there = d.there;
          type = cells.first;
          type_there = d.type_there;
          within = d.within;
          path = path.0;
          leads = path.1;
          owner_is = refl;
          name_is = d.name_is;
          sig_is = at_written Spells Taken facts.codec r image owners s d.sig (sig_at (1 + k)) (sig_at (1 + k)) d.sig_written refl (facts.readable k cells d.sig at d.sig_declared);
        },
      )

  pub defines_row : (row : ℕ) → HasRow image table row → (m : Member Y) × Defined row m
  defines_row row there =
      let some = there.0 in
      let high = there.1 in
      let all = facts.count in
      let found = get_some declared (row - 1) (omega arith) in
      let same : 1 + (row - 1) ≡ row = omega arith in
      let is = define (row - 1) found.0 found.1 in
      (is.0, subst (λ n. Defined n is.0) same is.1)

  refer : (k : ℕ) (cells : Cells) → slice_get r.referred.members k ≡ Some cells → Decided (Referred (1 + k))
  refer k cells at =
      let m : IsReferredMember r cells = s.known.rows.members k cells at in
      elim (facts.kinds k cells at) [
        | inl h ↦ inl (
          record { owner = m.owner; name = m.name; sig = h.0 },
          refers_made Spells Taken facts.codec r image owners s k cells (record { owner = m.owner; name = m.name; sig = h.0 }) m.token at m.owner_is m.parent_is m.name_is h.1
              (facts.readable_members k cells h.0 at h.1),
        )
        | inr n ↦ inr (λ x h. absurd (no_other k cells at n.0 n.1 n.2 x h))
      ]
    where
      no_other : (k : ℕ) (cells : Cells) → slice_get r.referred.members k ≡ Some cells → (bytes : List ℕ) → HasBlob r.heaps.blobs.bytes cells.third bytes
          → ((y : Y) → Spells (reading owners) y bytes → ⊥) → (x : Member Y) → Referred (1 + k) x → ⊥
      no_other k cells at bytes held none x h =
          let blob : member_signature image (1 + k) ≡ cells.third = ap (λ (cs : List ℕ). slice_index cs 2) (s.reads.each k cells at) in
          let there : HasBlob (blobs_of image) (member_signature image (1 + k)) bytes = subst (λ n. HasBlob (blobs_of image) n bytes) (sym blob) (s.heaps.blobs cells.third bytes held) in
          let same : h.sig_is.bytes ≡ bytes = s.blob (blobs_of image) (member_signature image (1 + k)) h.sig_is.bytes bytes h.sig_is.held there in
          none x.sig (subst (Spells (reading owners) x.sig) same h.sig_is.spelled)

  refers_row : (row : ℕ) → HasRow image 0x0A row → Decided (Referred row)
  refers_row row there =
      let some = there.0 in
      let high = there.1 in
      let all = s.reads.count in
      let found = get_some r.referred.members (row - 1) (omega arith) in
      let same : 1 + (row - 1) ≡ row = omega arith in
      subst (λ n. Decided (Referred n)) same (refer (row - 1) found.0 found.1)

  -- whether a token names a member

  none_there : (row token : ℕ) → IsToken token 0x0A row → (IsRowToken table (count_of image table) token → ⊥) → ((m : Member Y) → Referred row m → ⊥) → (m : Member Y) → IsMember token m → ⊥
  none_there row token i f none m (defined {row = a} j h) = f (a, j, h.there.0, h.there.1)
  none_there row token i f none m (referred {row = b} j h) =
      let same : b ≡ row = (let x = i.is in let y = j.is in omega arith) in
      none m (subst (λ n. Referred n m) same h)

  no_row : (token : ℕ) → (IsRowToken table (count_of image table) token → ⊥) → (IsRowToken 0x0A (count_of image 0x0A) token → ⊥) → (m : Member Y) → IsMember token m → ⊥
  no_row token f g m (defined {row = a} j h) = f (a, j, h.there.0, h.there.1)
  no_row token f g m (referred {row = b} j h) = g (b, j, h.there.0, h.there.1)

  by_row : (row token : ℕ) → IsToken token 0x0A row → (IsRowToken table (count_of image table) token → ⊥) → Decided (Referred row) → Decided (IsMember token)
  by_row row token i f (inl is) = inl (is.0, referred i is.1)
  by_row row token i f (inr none) = inr (none_there row token i f none)

  pub member_decided : (token : ℕ) → Decided (IsMember token)
  member_decided token = elim (row_decided table (count_of image table) token) [
    | inl h ↦ (let is = defines_row h.0 (h.2, h.3) in inl (is.0, defined h.1 is.1))
    | inr f ↦ elim (row_decided 0x0A (count_of image 0x0A) token) [
      | inl h ↦ by_row h.0 token h.1 f (refers_row h.0 (h.2, h.3))
      | inr g ↦ inr (no_row token f g)
    ]
  ]

  -- ---- what was given a token

  owner_path : (owner : Owner) (type : ℕ) → NamesOwner image owners type owner → type / 2 ^ 24 ≡ 0x02 → (path : List TypeId) × (owner ≡ here path) × HasPath image (type % 2 ^ 24) path
  owner_path owner type (NamesOwner.by_row i (RowOwner.defined {type = row} {path = path} e there h)) high =
      let same : row ≡ type % 2 ^ 24 = (let x = i.is in let fits = i.fits in omega arith) in
      (path, refl, subst (λ n. HasPath image n path) same h)
  owner_path owner type (NamesOwner.by_row i (RowOwner.referred e there h)) high = absurd (let x = i.is in let fits = i.fits in omega arith)
  owner_path owner type (NamesOwner.by_row i (RowOwner.specified e there b h)) high = absurd (let x = i.is in let fits = i.fits in omega arith)

  given_defined : (owner : Owner) (name : List ℕ) (y : Y) (type row : ℕ) → tokens_of r owner ≡ Some type → type / 2 ^ 24 ≡ 0x02
      → IsMemberRow Spells r declared (type % 2 ^ 24) name y row → Defined row (record { owner = owner; name = name; sig = y })
  given_defined owner name y type row has high h =
      let k = row - 1 in
      let counted = h.at.counted in
      let same : 1 + k ≡ row = omega arith in
      let d = facts.made k h.cells h.at.at in
      let path = owner_path owner type ((s.tells type owner).0 (s.back owner type has)) high in
      let text : d.name ≡ name = text_one Spells Taken facts.codec r image owners s h.cells.second d.name name d.name_declared h.name_is in
      let sig : d.sig ≡ y =
      written_one Spells Taken facts.codec r image owners s d.sig y h.cells.third d.sig_declared h.signature (facts.readable k h.cells d.sig h.at.at d.sig_declared) (facts.readable k h.cells y h.at.at h.signature) in
      subst (λ n. Defined n (record { owner = owner; name = name; sig = y })) same (record {
        there = d.there;
        type = h.cells.first;
        type_there = d.type_there;
        within = d.within;
        path = path.0;
        leads = subst (λ t. HasPath image t path.0) (sym h.parent_is) path.2;
        owner_is = path.1;
        name_is = subst (HasText (strings_of image) (name_at (1 + k))) text d.name_is;
        sig_is = subst (ReadsAs Spells Taken image owners (sig_at (1 + k))) sig
            (at_written Spells Taken facts.codec r image owners s d.sig (sig_at (1 + k)) (sig_at (1 + k)) d.sig_written refl (facts.readable k h.cells d.sig h.at.at d.sig_declared));
      })

  given_referred : (owner : Owner) (name : List ℕ) (y : Y) (type row : ℕ) → tokens_of r owner ≡ Some type
      → IsMemberRow Spells r r.referred.members (index_of_token MemberRefParent type) name y row → Referred row (record { owner = owner; name = name; sig = y })
  given_referred owner name y type row has h =
      let counted = h.at.counted in
      let same : 1 + (row - 1) ≡ row = omega arith in
      subst (λ n. Referred n (record { owner = owner; name = name; sig = y })) same
      (refers_made Spells Taken facts.codec r image owners s (row - 1) h.cells (record { owner = owner; name = name; sig = y }) type h.at.at has h.parent_is h.name_is h.signature
      (facts.readable_members (row - 1) h.cells y h.at.at h.signature))

  pub member_given : (owner : Owner) (name : List ℕ) (y : Y) (token : ℕ) → HasMemberToken Spells r table declared owner name y token
      → IsMember token (record { owner = owner; name = name; sig = y })
  member_given owner name y token (of_declared {type = type} {row = row} has high h is) =
      defined (record { is = is.is; fits = is.fits }) (given_defined owner name y type row has high h)
  member_given owner name y token (of_referred {type = type} {row = row} has h is) =
      referred (record { is = is.is; fits = is.fits }) (given_referred owner name y type row has h)
