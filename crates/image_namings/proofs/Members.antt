-- The methods, fields and locals that tokens name.
use Rattle.std.proofs.Common.{◌≡◌, ℕ, ◌/◌, ◌%◌, ◌^◌, ◌<◌, ◌⊎◌, inl, inr, ◌↔◌, List, Contains, Option, Some, None, refl, sym, ◌∙◌, ap, subst, arith}
use Rattle.heaps.specs.Content.{HasText}
use Rattle.metadata_tables.specs.declared.coded.Coded.TheVariants.{MemberRefParent, MethodDefOrRef}
use Rattle.sig_codec.specs.Reading.{whole_method, whole_field, whole_locals, whole_instantiation}
use Rattle.sig_codec.specs.Signature.{IsMethod, IsField, AreLocals, IsInstantiation}
use Rattle.type_terms.specs.declared.name.TypeId.{TypeId}
use Rattle.type_terms.specs.declared.reference.FieldRef.{FieldRef}
use Rattle.type_terms.specs.declared.reference.MethodRef.{MethodRef}
use Rattle.type_terms.specs.declared.reference.MethodSig.{MethodSig}
use Rattle.type_terms.specs.declared.term.Owner.{Owner}
use Rattle.type_terms.specs.declared.term.SigType.{SigType}
use Rattle.image_model.specs.Streams.{strings_of, blobs_of}
use Rattle.image_model.specs.Columns.{method_name, method_signature, field_name, field_signature, member_parent, member_name, member_signature, locals_signature, instance_method, instance_arguments}
use Rattle.image_model.specs.Rows.{count_of, HasRow, Names, token_of, fields_of}
use Rattle.image_model.specs.Naming.{here, HasPath, RowOwner, IsToken, OwnsMethod, OwnsMember, NamesMethod, NamesField, NamesLocals}
use Rattle.image_namings.proofs.General.{InBlob, names_one}
use Rattle.image_namings.proofs.OnePath.{path_one}
use Rattle.image_namings.proofs.Decided.{Decided, read, read_one, decided_as, in_blob, OneBlob, same, within}
use Rattle.image_namings.proofs.Standing.{Stands}
use Rattle.image_namings.proofs.Indexes.{method_tables}
use Rattle.image_namings.proofs.Owners.{table_is, row_is, as_token, ReadsTypes, OneText, owner_one, owner_decided}

-- what the steps of a decoder read is what bytes spell
pub record Reads : Type 0 where
  pub type : ReadsTypes
  pub method : (owners : ℕ → Option Owner) (bytes : List ℕ) (s : MethodSig) → (whole_method owners bytes ≡ Some s) ↔ IsMethod owners bytes s
  pub field : (owners : ℕ → Option Owner) (bytes : List ℕ) (t : SigType) → (whole_field owners bytes ≡ Some t) ↔ IsField owners bytes t
  pub locals : (owners : ℕ → Option Owner) (bytes : List ℕ) (ts : List SigType) → (whole_locals owners bytes ≡ Some ts) ↔ AreLocals owners bytes ts
  pub instantiation : (owners : ℕ → Option Owner) (bytes : List ℕ) (ts : List SigType) → (whole_instantiation owners bytes ≡ Some ts) ↔ IsInstantiation owners bytes ts

spelled_one : {X : Type 0} (heap : List ℕ) (Spells : List ℕ → X → Type 0) (index : ℕ) → OneBlob heap → ((bytes : List ℕ) (x y : X) → Spells bytes x → Spells bytes y → x ≡ y) → (x y : X)
    → InBlob heap Spells index x → InBlob heap Spells index y → x ≡ y
spelled_one heap Spells index blob one x y h k = one k.0 x y (subst (λ b. Spells b x) (blob index h.0 k.0 h.1 k.1) h.2) k.2

module _ (image : List ℕ) (reads : Reads) (text : OneText (strings_of image)) (blob : OneBlob (blobs_of image)) (stands : Stands image) (owners : ℕ → Option Owner) where
  -- ---- signatures

  method_read : (bytes : List ℕ) → Decided (IsMethod owners bytes)
  method_read bytes = read (whole_method owners bytes) (IsMethod owners bytes) (reads.method owners bytes)

  method_is_one : (bytes : List ℕ) (s t : MethodSig) → IsMethod owners bytes s → IsMethod owners bytes t → s ≡ t
  method_is_one bytes s t h k = read_one (whole_method owners bytes) (IsMethod owners bytes) (reads.method owners bytes) s t h k

  field_read : (bytes : List ℕ) → Decided (IsField owners bytes)
  field_read bytes = read (whole_field owners bytes) (IsField owners bytes) (reads.field owners bytes)

  field_is_one : (bytes : List ℕ) (s t : SigType) → IsField owners bytes s → IsField owners bytes t → s ≡ t
  field_is_one bytes s t h k = read_one (whole_field owners bytes) (IsField owners bytes) (reads.field owners bytes) s t h k

  locals_read : (bytes : List ℕ) → Decided (AreLocals owners bytes)
  locals_read bytes = read (whole_locals owners bytes) (AreLocals owners bytes) (reads.locals owners bytes)

  locals_is_one : (bytes : List ℕ) (s t : List SigType) → AreLocals owners bytes s → AreLocals owners bytes t → s ≡ t
  locals_is_one bytes s t h k = read_one (whole_locals owners bytes) (AreLocals owners bytes) (reads.locals owners bytes) s t h k

  arguments_read : (bytes : List ℕ) → Decided (IsInstantiation owners bytes)
  arguments_read bytes = read (whole_instantiation owners bytes) (IsInstantiation owners bytes) (reads.instantiation owners bytes)

  arguments_is_one : (bytes : List ℕ) (s t : List SigType) → IsInstantiation owners bytes s → IsInstantiation owners bytes t → s ≡ t
  arguments_is_one bytes s t h k = read_one (whole_instantiation owners bytes) (IsInstantiation owners bytes) (reads.instantiation owners bytes) s t h k

  -- ---- whose a method and a member are

  method_owned : (row : ℕ) → HasRow image 0x06 row → (o : Owner) × OwnsMethod image row o
  method_owned row there =
      let t = stands.method_in row there in
      let p = stands.path t.0 t.1 in
      (here p.0, OwnsMethod.owns t.1 t.2 p.1)

  method_owner_one : (row : ℕ) (a b : Owner) → OwnsMethod image row a → OwnsMethod image row b → a ≡ b
  method_owner_one row a b (OwnsMethod.owns {type = t} there has path) (OwnsMethod.owns {type = u} {path = other} and holds leads) =
      let e = stands.method_one row u t and there holds has in
      ap here (path_one image text path (subst (λ x. HasPath image x other) e leads))

  owner_of_method : {table row : ℕ} {o : Owner} → table ≡ 0x06 → RowOwner image owners table row o → ⊥
  owner_of_method e (RowOwner.defined f there path) = omega arith
  owner_of_method e (RowOwner.referred f there path) = omega arith
  owner_of_method e (RowOwner.specified f there b h) = omega arith

  no_member_type : {row table parent : ℕ} {o : Owner} → Names MemberRefParent (member_parent image row) table parent → (table ≡ 0x06 → ⊥) → ((p : Owner) → RowOwner image owners table parent p → ⊥)
      → OwnsMember image owners row o → ⊥
  no_member_type {row = row} {table = t} {parent = p} {o = o} n other none (OwnsMember.by_type {table = u} {parent = q} m h) =
      let e = names_one MemberRefParent (member_parent image row) u q t p m n in
      none o (subst (λ (x : ℕ). RowOwner image owners t x o) e.1 (subst (λ (x : ℕ). RowOwner image owners x q o) e.0 h))
  no_member_type {row = row} {table = t} {parent = p} n other none (OwnsMember.by_method {method = q} m h) =
      other (sym (names_one MemberRefParent (member_parent image row) 0x06 q t p m n).0)

  member_by_type : (row table parent : ℕ) → Names MemberRefParent (member_parent image row) table parent → (table ≡ 0x06 → ⊥) → Decided (RowOwner image owners table parent) → Decided (OwnsMember image owners row)
  member_by_type row table parent n other (inl h) = inl (h.0, OwnsMember.by_type n h.1)
  member_by_type row table parent n other (inr none) = inr (λ o h. no_member_type n other none h)

  member_by_method : (row table parent : ℕ) → Names MemberRefParent (member_parent image row) table parent → HasRow image table parent → table ≡ 0x06 → Decided (OwnsMember image owners row)
  member_by_method row table parent n there e =
      let m = method_owned parent (subst (λ (x : ℕ). HasRow image x parent) e there) in
      inl (m.0, OwnsMember.by_method (subst (λ (x : ℕ). Names MemberRefParent (member_parent image row) x parent) e n) m.1)

  member_owned : (row : ℕ) → HasRow image 0x0A row → Decided (OwnsMember image owners row)
  member_owned row there =
      let p = stands.member_in row there in
      elim (same p.0 0x06) [
        | inl e ↦ member_by_method row p.0 p.1 p.2 p.3 e
        | inr other ↦ member_by_type row p.0 p.1 p.2 other (owner_decided image reads.type text blob stands owners p.0 p.1)
      ]

  member_owner_one : (row : ℕ) (a b : Owner) → OwnsMember image owners row a → OwnsMember image owners row b → a ≡ b
  member_owner_one row a b (OwnsMember.by_type {table = t} {parent = p} n h) (OwnsMember.by_type {table = u} {parent = q} m k) =
      let e = names_one MemberRefParent (member_parent image row) u q t p m n in
      owner_one image reads.type text blob owners t p a b h (subst (λ (x : ℕ). RowOwner image owners t x b) e.1 (subst (λ (x : ℕ). RowOwner image owners x q b) e.0 k))
  member_owner_one row a b (OwnsMember.by_type {table = t} {parent = p} n h) (OwnsMember.by_method {method = q} m k) =
      absurd (owner_of_method (names_one MemberRefParent (member_parent image row) t p 0x06 q n m).0 h)
  member_owner_one row a b (OwnsMember.by_method {method = q} m k) (OwnsMember.by_type {table = t} {parent = p} n h) =
      absurd (owner_of_method (names_one MemberRefParent (member_parent image row) t p 0x06 q n m).0 h)
  member_owner_one row a b (OwnsMember.by_method {method = p} n h) (OwnsMember.by_method {method = q} m k) =
      let e = (names_one MemberRefParent (member_parent image row) 0x06 q 0x06 p m n).1 in
      method_owner_one p a b h (subst (λ x. OwnsMethod image x b) e k)

  -- ---- the method that a row of MethodDef, of MemberRef and of MethodSpec is

  record MethodAt (row : ℕ) (m : MethodRef) : Type 0 where
    pub there : HasRow image 0x06 row
    pub owner : OwnsMethod image row m.owner
    pub name : HasText (strings_of image) (method_name image row) m.name
    pub sig : InBlob (blobs_of image) (IsMethod owners) (method_signature image row) m.sig
    pub args : m.args ≡ None

  record MemberAt (row : ℕ) (m : MethodRef) : Type 0 where
    pub there : HasRow image 0x0A row
    pub owner : OwnsMember image owners row m.owner
    pub name : HasText (strings_of image) (member_name image row) m.name
    pub sig : InBlob (blobs_of image) (IsMethod owners) (member_signature image row) m.sig
    pub args : m.args ≡ None

  -- the same method, with these arguments
  abbrev with_args : MethodRef → Option (List SigType) → MethodRef
  with_args m args = record { owner = m.owner; name = m.name; sig = m.sig; args = args }

  record InstanceAt (row : ℕ) (m : MethodRef) : Type 0 where
    pub there : HasRow image 0x2B row
    pub table : ℕ
    pub method : ℕ
    pub coded : Names MethodDefOrRef (instance_method image row) table method
    pub first : Option (List SigType)
    pub of : NamesMethod image owners (token_of table method) (with_args m first)
    pub args : List SigType
    pub args_are : m.args ≡ Some args
    pub spelled : InBlob (blobs_of image) (IsInstantiation owners) (instance_arguments image row) args

  abbrev PartsAt : ℕ → ℕ → MethodRef → Type 0
  PartsAt table row m = ((table ≡ 0x06) × MethodAt row m) ⊎ (((table ≡ 0x0A) × MemberAt row m) ⊎ ((table ≡ 0x2B) × InstanceAt row m))

  at_token : (token table row : ℕ) (m : MethodRef) → IsToken token table row → PartsAt table row m → PartsAt (token / 2 ^ 24) (token % 2 ^ 24) m
  at_token token table row m t h =
      subst (λ (r : ℕ). PartsAt (token / 2 ^ 24) r m) (sym (row_is token table row t)) (subst (λ (u : ℕ). PartsAt u row m) (sym (table_is token table row t)) h)

  parts : {token : ℕ} {m : MethodRef} → NamesMethod image owners token m → PartsAt (token / 2 ^ 24) (token % 2 ^ 24) m
  parts {token = token} (NamesMethod.defined {method = row} {owner = o} {name = n} {bytes = b} {sig = s} t there owner name blob is) =
      at_token token 0x06 row (record { owner = o; name = n; sig = s; args = None }) t (inl (refl, record { there = there; owner = owner; name = name; sig = (b, blob, is); args = refl }))
  parts {token = token} (NamesMethod.referred {row = row} {owner = o} {name = n} {bytes = b} {sig = s} t there owner name blob is) =
      at_token token 0x0A row (record { owner = o; name = n; sig = s; args = None }) t (inr (inl (refl, record { there = there; owner = owner; name = name; sig = (b, blob, is); args = refl })))
  parts {token = token} (NamesMethod.instantiated {row = row} {table = u} {method = k} {generic = g} {bytes = b} {args = a} t there coded of blob is) =
      at_token token 0x2B row (record { owner = g.owner; name = g.name; sig = g.sig; args = Some a }) t (inr (inr (refl, record { there = there; table = u; method = k; coded = coded; first = g.args; of = of; args = a; args_are = refl; spelled = (b, blob, is) })))

  made : (token : ℕ) (m : MethodRef) (args : Option (List SigType)) → m.args ≡ args → NamesMethod image owners token (with_args m args) → NamesMethod image owners token m
  made token m args e h = subst (λ a. NamesMethod image owners token (with_args m a)) (sym e) h

  from_parts : (token : ℕ) (m : MethodRef) → PartsAt (token / 2 ^ 24) (token % 2 ^ 24) m → NamesMethod image owners token m
  from_parts token m (inl (e, h)) = made token m None h.args (NamesMethod.defined (as_token token 0x06 e) h.there h.owner h.name h.sig.1 h.sig.2)
  from_parts token m (inr (inl (e, h))) = made token m None h.args (NamesMethod.referred (as_token token 0x0A e) h.there h.owner h.name h.sig.1 h.sig.2)
  from_parts token m (inr (inr (e, h))) = made token m (Some h.args) h.args_are (NamesMethod.instantiated (as_token token 0x2B e) h.there h.coded h.of h.spelled.1 h.spelled.2)

  -- ---- whether it is one

  method_at : (row : ℕ) → HasRow image 0x06 row → Decided (InBlob (blobs_of image) (IsMethod owners) (method_signature image row)) → Decided (MethodAt row)
  method_at row there (inl s) =
      let o = method_owned row there in
      let n = stands.method_is row there in
      inl (record { owner = o.0; name = n.0; sig = s.0; args = None }, record { there = there; owner = o.1; name = n.1; sig = s.1; args = refl })
  method_at row there (inr none) = inr (λ m h. none m.sig h.sig)

  method_decided : (row : ℕ) → Decided (MethodAt row)
  method_decided row = elim (within row (count_of image 0x06)) [
    | inl there ↦ method_at row there (in_blob (blobs_of image) (IsMethod owners) (method_signature image row) blob method_read (stands.method_sig row there))
    | inr none ↦ inr (λ m h. none h.there)
  ]

  member_at : (row : ℕ) → HasRow image 0x0A row → Decided (OwnsMember image owners row) → Decided (InBlob (blobs_of image) (IsMethod owners) (member_signature image row)) → Decided (MemberAt row)
  member_at row there (inl o) (inl s) =
      let n = stands.member_is row there in
      inl (record { owner = o.0; name = n.0; sig = s.0; args = None }, record { there = there; owner = o.1; name = n.1; sig = s.1; args = refl })
  member_at row there (inl o) (inr none) = inr (λ m h. none m.sig h.sig)
  member_at row there (inr none) s = inr (λ m h. none m.owner h.owner)

  member_decided : (row : ℕ) → Decided (MemberAt row)
  member_decided row = elim (within row (count_of image 0x0A)) [
    | inl there ↦ member_at row there (member_owned row there) (in_blob (blobs_of image) (IsMethod owners) (member_signature image row) blob method_read (stands.member_sig row there))
    | inr none ↦ inr (λ m h. none h.there)
  ]

  method_at_one : (row : ℕ) (m n : MethodRef) → MethodAt row m → MethodAt row n → m ≡ n
  method_at_one row m n h k =
      let o = method_owner_one row m.owner n.owner h.owner k.owner in
      let t = text (method_name image row) m.name n.name h.name k.name in
      let s = spelled_one (blobs_of image) (IsMethod owners) (method_signature image row) blob method_is_one m.sig n.sig h.sig k.sig in
      let a = h.args ∙ sym k.args in
      λ i. record { owner = o i; name = t i; sig = s i; args = a i }

  member_at_one : (row : ℕ) (m n : MethodRef) → MemberAt row m → MemberAt row n → m ≡ n
  member_at_one row m n h k =
      let o = member_owner_one row m.owner n.owner h.owner k.owner in
      let t = text (member_name image row) m.name n.name h.name k.name in
      let s = spelled_one (blobs_of image) (IsMethod owners) (member_signature image row) blob method_is_one m.sig n.sig h.sig k.sig in
      let a = h.args ∙ sym k.args in
      λ i. record { owner = o i; name = t i; sig = s i; args = a i }

  -- ---- arguments: they are given to a row of MethodDef or MemberRef

  is_defined : {table row : ℕ} {m : MethodRef} → table ≡ 0x06 → PartsAt table row m → MethodAt row m
  is_defined e (inl (f, h)) = h
  is_defined e (inr (inl (f, h))) = absurd (omega arith)
  is_defined e (inr (inr (f, h))) = absurd (omega arith)

  is_referred : {table row : ℕ} {m : MethodRef} → table ≡ 0x0A → PartsAt table row m → MemberAt row m
  is_referred e (inl (f, h)) = absurd (omega arith)
  is_referred e (inr (inl (f, h))) = h
  is_referred e (inr (inr (f, h))) = absurd (omega arith)

  is_instance : {table row : ℕ} {m : MethodRef} → table ≡ 0x2B → PartsAt table row m → InstanceAt row m
  is_instance e (inl (f, h)) = absurd (omega arith)
  is_instance e (inr (inl (f, h))) = absurd (omega arith)
  is_instance e (inr (inr (f, h))) = h

  -- a token of MethodDef or MemberRef names at most one method, and whether it names one is decided
  plain_one : (token : ℕ) → (token / 2 ^ 24 ≡ 0x06) ⊎ (token / 2 ^ 24 ≡ 0x0A) → (m n : MethodRef) → NamesMethod image owners token m → NamesMethod image owners token n → m ≡ n
  plain_one token (inl e) m n h k = method_at_one (token % 2 ^ 24) m n (is_defined e (parts h)) (is_defined e (parts k))
  plain_one token (inr e) m n h k = member_at_one (token % 2 ^ 24) m n (is_referred e (parts h)) (is_referred e (parts k))

  plain_decided : (token : ℕ) → (token / 2 ^ 24 ≡ 0x06) ⊎ (token / 2 ^ 24 ≡ 0x0A) → Decided (NamesMethod image owners token)
  plain_decided token (inl e) =
      decided_as (MethodAt (token % 2 ^ 24)) (NamesMethod image owners token) (λ m h. from_parts token m (inl (e, h))) (λ m h. is_defined e (parts h)) (method_decided (token % 2 ^ 24))
  plain_decided token (inr e) =
      decided_as (MemberAt (token % 2 ^ 24)) (NamesMethod image owners token) (λ m h. from_parts token m (inr (inl (e, h)))) (λ m h. is_referred e (parts h)) (member_decided (token % 2 ^ 24))

  -- each row that arguments are given to has a token
  module _ (few : (row : ℕ) → HasRow image 0x06 row → row < 2 ^ 24) (few_members : (row : ℕ) → HasRow image 0x0A row → row < 2 ^ 24) where
    plain_at : (table method : ℕ) → HasRow image table method → (table ≡ 0x06) ⊎ (table ≡ 0x0A) → (token_of table method / 2 ^ 24 ≡ 0x06) ⊎ (token_of table method / 2 ^ 24 ≡ 0x0A)
    plain_at table method there (inl e) = let f = few method (subst (λ (t : ℕ). HasRow image t method) e there) in inl (omega (arith, e, f))
    plain_at table method there (inr e) = let f = few_members method (subst (λ (t : ℕ). HasRow image t method) e there) in inr (omega (arith, e, f))

    plain : (row table method : ℕ) → HasRow image 0x2B row → Names MethodDefOrRef (instance_method image row) table method → (token_of table method / 2 ^ 24 ≡ 0x06) ⊎ (token_of table method / 2 ^ 24 ≡ 0x0A)
    plain row table method there coded =
        let p = stands.instance row there in
        let e = names_one MethodDefOrRef (instance_method image row) p.0 p.1 table method p.2 coded in
        plain_at table method (subst (λ (r : ℕ). HasRow image table r) e.1 (subst (λ (t : ℕ). HasRow image t p.1) e.0 p.3)) (method_tables (instance_method image row) table method coded)

    of_same : (row table method other last : ℕ) (m : MethodRef) → Names MethodDefOrRef (instance_method image row) table method → Names MethodDefOrRef (instance_method image row) other last
        → NamesMethod image owners (token_of other last) m → NamesMethod image owners (token_of table method) m
    of_same row table method other last m n k h =
        let e = names_one MethodDefOrRef (instance_method image row) other last table method k n in
        subst (λ (t : ℕ). NamesMethod image owners t m) (ap (λ (t : ℕ). token_of t last) e.0 ∙ ap (λ (r : ℕ). token_of table r) e.1) h

    instance_at : (row table method : ℕ) → HasRow image 0x2B row → Names MethodDefOrRef (instance_method image row) table method → Decided (NamesMethod image owners (token_of table method))
        → Decided (InBlob (blobs_of image) (IsInstantiation owners) (instance_arguments image row)) → Decided (InstanceAt row)
    instance_at row table method there coded (inl g) (inl a) =
        inl (record { owner = g.0.owner; name = g.0.name; sig = g.0.sig; args = Some a.0 }, record { there = there; table = table; method = method; coded = coded; first = g.0.args; of = g.1; args = a.0; args_are = refl; spelled = a.1 })
    instance_at row table method there coded (inl g) (inr none) = inr (λ m h. none h.args h.spelled)
    instance_at row table method there coded (inr none) a = inr (λ m h. none (with_args m h.first) (of_same row table method h.table h.method (with_args m h.first) coded h.coded h.of))

    instance_there : (row : ℕ) → HasRow image 0x2B row → Decided (InstanceAt row)
    instance_there row there =
        let p = stands.instance row there in
        instance_at row p.0 p.1 there p.2 (plain_decided (token_of p.0 p.1) (plain row p.0 p.1 there p.2))
        (in_blob (blobs_of image) (IsInstantiation owners) (instance_arguments image row) blob arguments_read (stands.instance_sig row there))

    instance_decided : (row : ℕ) → Decided (InstanceAt row)
    instance_decided row = elim (within row (count_of image 0x2B)) [
      | inl there ↦ instance_there row there
      | inr none ↦ inr (λ m h. none h.there)
    ]

    instance_at_one : (row : ℕ) (m n : MethodRef) → InstanceAt row m → InstanceAt row n → m ≡ n
    instance_at_one row m n h k =
        let of = of_same row h.table h.method k.table k.method (with_args n k.first) h.coded k.coded k.of in
        let g = plain_one (token_of h.table h.method) (plain row h.table h.method h.there h.coded) (with_args m h.first) (with_args n k.first) h.of of in
        let o : m.owner ≡ n.owner = ap (λ r. r.owner) g in
        let t : m.name ≡ n.name = ap (λ r. r.name) g in
        let s : m.sig ≡ n.sig = ap (λ r. r.sig) g in
        let a = h.args_are ∙ ap Some (spelled_one (blobs_of image) (IsInstantiation owners) (instance_arguments image row) blob arguments_is_one h.args k.args h.spelled k.spelled) ∙ sym k.args_are in
        λ i. record { owner = o i; name = t i; sig = s i; args = a i }

    -- ---- the method that a token names

    parts_one : (table row : ℕ) (m n : MethodRef) → PartsAt table row m → PartsAt table row n → m ≡ n
    parts_one table row m n (inl (e, h)) k = method_at_one row m n h (is_defined e k)
    parts_one table row m n (inr (inl (e, h))) k = member_at_one row m n h (is_referred e k)
    parts_one table row m n (inr (inr (e, h))) k = instance_at_one row m n h (is_instance e k)

    pub method_one : (token : ℕ) (m n : MethodRef) → NamesMethod image owners token m → NamesMethod image owners token n → m ≡ n
    method_one token m n h k = parts_one (token / 2 ^ 24) (token % 2 ^ 24) m n (parts h) (parts k)

    no_table : {table row : ℕ} {m : MethodRef} → (table ≡ 0x06 → ⊥) → (table ≡ 0x0A → ⊥) → (table ≡ 0x2B → ⊥) → PartsAt table row m → ⊥
    no_table n1 n2 n3 (inl (e, h)) = n1 e
    no_table n1 n2 n3 (inr (inl (e, h))) = n2 e
    no_table n1 n2 n3 (inr (inr (e, h))) = n3 e

    pub method_named : (token : ℕ) → Decided (NamesMethod image owners token)
    method_named token = elim (same (token / 2 ^ 24) 0x06) [
      | inl e ↦ plain_decided token (inl e)
      | inr n1 ↦ elim (same (token / 2 ^ 24) 0x0A) [
        | inl e ↦ plain_decided token (inr e)
        | inr n2 ↦ elim (same (token / 2 ^ 24) 0x2B) [
          | inl e ↦ decided_as (InstanceAt (token % 2 ^ 24)) (NamesMethod image owners token) (λ m h. from_parts token m (inr (inr (e, h)))) (λ m h. is_instance e (parts h)) (instance_decided (token % 2 ^ 24))
          | inr n3 ↦ inr (λ m h. no_table n1 n2 n3 (parts h))
        ]
      ]
    ]

  -- ---- the field that a row of Field and of MemberRef is

  record FieldAt (row : ℕ) (f : FieldRef) : Type 0 where
    pub type : ℕ
    pub typed : HasRow image 0x02 type
    pub among : Contains (fields_of image type) row
    pub path : List TypeId
    pub leads : HasPath image type path
    pub owner : f.owner ≡ here path
    pub name : HasText (strings_of image) (field_name image row) f.name
    pub of : InBlob (blobs_of image) (IsField owners) (field_signature image row) f.of

  record FieldMemberAt (row : ℕ) (f : FieldRef) : Type 0 where
    pub there : HasRow image 0x0A row
    pub owner : OwnsMember image owners row f.owner
    pub name : HasText (strings_of image) (member_name image row) f.name
    pub of : InBlob (blobs_of image) (IsField owners) (member_signature image row) f.of

  abbrev FieldPartsAt : ℕ → ℕ → FieldRef → Type 0
  FieldPartsAt table row f = ((table ≡ 0x04) × FieldAt row f) ⊎ ((table ≡ 0x0A) × FieldMemberAt row f)

  field_at_token : (token table row : ℕ) (f : FieldRef) → IsToken token table row → FieldPartsAt table row f → FieldPartsAt (token / 2 ^ 24) (token % 2 ^ 24) f
  field_at_token token table row f t h =
      subst (λ (r : ℕ). FieldPartsAt (token / 2 ^ 24) r f) (sym (row_is token table row t)) (subst (λ (u : ℕ). FieldPartsAt u row f) (sym (table_is token table row t)) h)

  field_parts : {token : ℕ} {f : FieldRef} → NamesField image owners token f → FieldPartsAt (token / 2 ^ 24) (token % 2 ^ 24) f
  field_parts {token = token} (NamesField.defined {field = row} {type = type} {path = p} {name = n} {bytes = b} {of = s} t typed among leads name blob is) =
      field_at_token token 0x04 row (record { owner = here p; name = n; of = s }) t (inl (refl, record { type = type; typed = typed; among = among; path = p; leads = leads; owner = refl; name = name; of = (b, blob, is) }))
  field_parts {token = token} (NamesField.referred {row = row} {owner = o} {name = n} {bytes = b} {of = s} t there owner name blob is) =
      field_at_token token 0x0A row (record { owner = o; name = n; of = s }) t (inr (refl, record { there = there; owner = owner; name = name; of = (b, blob, is) }))

  from_field_parts : (token : ℕ) (f : FieldRef) → FieldPartsAt (token / 2 ^ 24) (token % 2 ^ 24) f → NamesField image owners token f
  from_field_parts token f (inl (e, h)) =
      subst (λ (o : Owner). NamesField image owners token (record { owner = o; name = f.name; of = f.of })) (sym h.owner) (NamesField.defined (as_token token 0x04 e) h.typed h.among h.leads h.name h.of.1 h.of.2)
  from_field_parts token f (inr (e, h)) = NamesField.referred (as_token token 0x0A e) h.there h.owner h.name h.of.1 h.of.2

  field_at : (row : ℕ) → HasRow image 0x04 row → Decided (InBlob (blobs_of image) (IsField owners) (field_signature image row)) → Decided (FieldAt row)
  field_at row there (inl s) =
      let t = stands.field_in row there in
      let p = stands.path t.0 t.1 in
      let n = stands.field_is row there in
      inl (record { owner = here p.0; name = n.0; of = s.0 }, record { type = t.0; typed = t.1; among = t.2; path = p.0; leads = p.1; owner = refl; name = n.1; of = s.1 })
  field_at row there (inr none) = inr (λ f h. none f.of h.of)

  field_decided : (row : ℕ) → Decided (FieldAt row)
  field_decided row = elim (within row (count_of image 0x04)) [
    | inl there ↦ field_at row there (in_blob (blobs_of image) (IsField owners) (field_signature image row) blob field_read (stands.field_sig row there))
    | inr none ↦ inr (λ f h. none (stands.field_there row h.type h.typed h.among))
  ]

  field_member_at : (row : ℕ) → HasRow image 0x0A row → Decided (OwnsMember image owners row) → Decided (InBlob (blobs_of image) (IsField owners) (member_signature image row)) → Decided (FieldMemberAt row)
  field_member_at row there (inl o) (inl s) =
      let n = stands.member_is row there in
      inl (record { owner = o.0; name = n.0; of = s.0 }, record { there = there; owner = o.1; name = n.1; of = s.1 })
  field_member_at row there (inl o) (inr none) = inr (λ f h. none f.of h.of)
  field_member_at row there (inr none) s = inr (λ f h. none f.owner h.owner)

  field_member_decided : (row : ℕ) → Decided (FieldMemberAt row)
  field_member_decided row = elim (within row (count_of image 0x0A)) [
    | inl there ↦ field_member_at row there (member_owned row there) (in_blob (blobs_of image) (IsField owners) (member_signature image row) blob field_read (stands.member_sig row there))
    | inr none ↦ inr (λ f h. none h.there)
  ]

  field_at_one : (row : ℕ) (f g : FieldRef) → FieldAt row f → FieldAt row g → f ≡ g
  field_at_one row f g h k =
      let e = stands.field_one row k.type h.type k.typed h.typed k.among h.among in
      let p = path_one image text h.leads (subst (λ x. HasPath image x k.path) e k.leads) in
      let o = h.owner ∙ ap here p ∙ sym k.owner in
      let t = text (field_name image row) f.name g.name h.name k.name in
      let s = spelled_one (blobs_of image) (IsField owners) (field_signature image row) blob field_is_one f.of g.of h.of k.of in
      λ i. record { owner = o i; name = t i; of = s i }

  field_member_at_one : (row : ℕ) (f g : FieldRef) → FieldMemberAt row f → FieldMemberAt row g → f ≡ g
  field_member_at_one row f g h k =
      let o = member_owner_one row f.owner g.owner h.owner k.owner in
      let t = text (member_name image row) f.name g.name h.name k.name in
      let s = spelled_one (blobs_of image) (IsField owners) (member_signature image row) blob field_is_one f.of g.of h.of k.of in
      λ i. record { owner = o i; name = t i; of = s i }

  field_parts_one : (table row : ℕ) (f g : FieldRef) → FieldPartsAt table row f → FieldPartsAt table row g → f ≡ g
  field_parts_one table row f g (inl (e, h)) (inl (d, k)) = field_at_one row f g h k
  field_parts_one table row f g (inl (e, h)) (inr (d, k)) = absurd (omega arith)
  field_parts_one table row f g (inr (e, h)) (inl (d, k)) = absurd (omega arith)
  field_parts_one table row f g (inr (e, h)) (inr (d, k)) = field_member_at_one row f g h k

  pub field_one : (token : ℕ) (f g : FieldRef) → NamesField image owners token f → NamesField image owners token g → f ≡ g
  field_one token f g h k = field_parts_one (token / 2 ^ 24) (token % 2 ^ 24) f g (field_parts h) (field_parts k)

  is_field : {table row : ℕ} {f : FieldRef} → table ≡ 0x04 → FieldPartsAt table row f → FieldAt row f
  is_field e (inl (d, h)) = h
  is_field e (inr (d, h)) = absurd (omega arith)

  is_field_member : {table row : ℕ} {f : FieldRef} → table ≡ 0x0A → FieldPartsAt table row f → FieldMemberAt row f
  is_field_member e (inl (d, h)) = absurd (omega arith)
  is_field_member e (inr (d, h)) = h

  no_field_table : {table row : ℕ} {f : FieldRef} → (table ≡ 0x04 → ⊥) → (table ≡ 0x0A → ⊥) → FieldPartsAt table row f → ⊥
  no_field_table n1 n2 (inl (e, h)) = n1 e
  no_field_table n1 n2 (inr (e, h)) = n2 e

  pub field_named : (token : ℕ) → Decided (NamesField image owners token)
  field_named token = elim (same (token / 2 ^ 24) 0x04) [
    | inl e ↦ decided_as (FieldAt (token % 2 ^ 24)) (NamesField image owners token) (λ f h. from_field_parts token f (inl (e, h))) (λ f h. is_field e (field_parts h)) (field_decided (token % 2 ^ 24))
    | inr n1 ↦ elim (same (token / 2 ^ 24) 0x0A) [
      | inl e ↦ decided_as (FieldMemberAt (token % 2 ^ 24)) (NamesField image owners token) (λ f h. from_field_parts token f (inr (e, h))) (λ f h. is_field_member e (field_parts h)) (field_member_decided (token % 2 ^ 24))
      | inr n2 ↦ inr (λ f h. no_field_table n1 n2 (field_parts h))
    ]
  ]

  -- ---- the locals that a row of StandAloneSig is

  abbrev LocalsAt : ℕ → List SigType → Type 0
  LocalsAt row types = HasRow image 0x11 row × InBlob (blobs_of image) (AreLocals owners) (locals_signature image row) types

  locals_parts : {token : ℕ} {types : List SigType} → NamesLocals image owners token types → (token / 2 ^ 24 ≡ 0x11) × LocalsAt (token % 2 ^ 24) types
  locals_parts {token = token} {types = types} (NamesLocals.signed {row = row} {bytes = b} t there blob is) =
      (table_is token 0x11 row t, subst (λ (r : ℕ). LocalsAt r types) (sym (row_is token 0x11 row t)) (there, (b, blob, is)))

  from_locals : (token : ℕ) (types : List SigType) → token / 2 ^ 24 ≡ 0x11 → LocalsAt (token % 2 ^ 24) types → NamesLocals image owners token types
  from_locals token types e h = NamesLocals.signed (as_token token 0x11 e) h.0 h.1.1 h.1.2

  locals_at : (row : ℕ) → HasRow image 0x11 row → Decided (InBlob (blobs_of image) (AreLocals owners) (locals_signature image row)) → Decided (LocalsAt row)
  locals_at row there (inl s) = inl (s.0, (there, s.1))
  locals_at row there (inr none) = inr (λ types h. none types h.1)

  locals_decided : (row : ℕ) → Decided (LocalsAt row)
  locals_decided row = elim (within row (count_of image 0x11)) [
    | inl there ↦ locals_at row there (in_blob (blobs_of image) (AreLocals owners) (locals_signature image row) blob locals_read (stands.locals row there))
    | inr none ↦ inr (λ types h. none h.0)
  ]

  pub locals_one : (token : ℕ) (a b : List SigType) → NamesLocals image owners token a → NamesLocals image owners token b → a ≡ b
  locals_one token a b h k =
      spelled_one (blobs_of image) (AreLocals owners) (locals_signature image (token % 2 ^ 24)) blob locals_is_one a b (locals_parts h).1.1 (locals_parts k).1.1

  pub locals_named : (token : ℕ) → Decided (NamesLocals image owners token)
  locals_named token = elim (same (token / 2 ^ 24) 0x11) [
    | inl e ↦ decided_as (LocalsAt (token % 2 ^ 24)) (NamesLocals image owners token) (λ types h. from_locals token types e h) (λ types h. (locals_parts h).1) (locals_decided (token % 2 ^ 24))
    | inr n ↦ inr (λ types h. n (locals_parts h).0)
  ]
