-- What the tokens in use name is well formed: methods, fields, types, locals (II.22.25, II.22.29, II.22.36, II.22.39).
use Rattle.std.proofs.Common.{◌≡◌, ℕ, ◌/◌, ◌^◌, ◌<◌, ◌≤◌, ◌⊎◌, inl, inr, Bool, true, false, nat_lt, ◌==◌, List, length, All, Contains, Option, Some, None, is_none, refl, sym, ◌∙◌, ap, subst, arith}
use Rattle.std.proofs.lemmas.Bool.{and_from}
use Rattle.std.specs.List.{list_all}
use Rattle.heaps.specs.Content.{HasText, HasBlob}
use Rattle.metadata_tables.specs.Schema.{schema, columns_of}
use Rattle.metadata_tables.specs.Stream.{cell, column_of}
use Rattle.metadata_tables.specs.declared.coded.Coded.TheVariants.{TypeDefOrRef, MemberRefParent, MethodDefOrRef}
use Rattle.metadata_tables.specs.declared.schema.Column.TheVariants.{Tagged}
use Rattle.sig_codec.specs.Signature.{IsType, IsMethod, IsField, IsProperty, AreLocals, IsInstantiation}
use Rattle.type_terms.specs.declared.reference.FieldRef.{FieldRef}
use Rattle.type_terms.specs.declared.reference.MethodRef.{MethodRef}
use Rattle.type_terms.specs.declared.reference.MethodSig.{MethodSig}
use Rattle.type_terms.specs.declared.term.Owner.{Owner}
use Rattle.type_terms.specs.declared.term.SigType.{SigType}
use Rattle.type_terms.proofs.Layers.{fold-Name}
use Rattle.assembly_tree.specs.WellFormedFacts.{FormedMethodRef, FormedFieldRef}
use Rattle.assembly_tree.specs.WellFormedNames.{is_name}
use Rattle.assembly_tree.specs.WellFormedTerms.{is_type, is_owner, are_arguments, is_method_ref, is_plain_ref}
use Rattle.assembly_tree.specs.declared.assembly.Assembly.{Assembly}
use Rattle.assembly_tree.proofs.FormedFacts.{method_refs_named, field_refs_named}
use Rattle.image_model.specs.Streams.{tables_of, strings_of, blobs_of}
use Rattle.image_model.specs.Columns.{method_name, method_signature, field_name, field_signature, property_signature, member_parent, member_name, member_signature, instance_method, instance_arguments}
use Rattle.image_model.specs.Rows.{HasRow, Names, token_of, fields_of}
use Rattle.image_model.specs.Naming.{here, RowOwner, OwnsMethod, OwnsMember, NamesMethod, NamesField, NamesLocals}
use Rattle.image_model.specs.Terms.{owner_rank, type_rank, HasRanks, HasBounds, HasMember, max_count}
use Rattle.image_model.specs.Used.{IsReference, IsUsed}
use Rattle.image_model.specs.Faults.{indexes, entries, signatures, values, Reads}
use Rattle.image_model.specs.Reading.{OwnerIs}
use Rattle.image_model.specs.ReadLaws.{HoldsTypes}
use Rattle.image_namings.proofs.General.{names_one, some_one}
use Rattle.image_namings.proofs.Decided.{OneBlob}
use Rattle.image_namings.proofs.Owners.{OneText}
use Rattle.image_namings.proofs.Rows.{few_methods, few_members}
use Rattle.formed_references.proofs.Words.{lt_true, eq_true, text_is_name}
use Rattle.formed_references.proofs.Terms.{rank_of, rank-Spec, owner_formed}
use Rattle.formed_references.specs.Laws.{AreUsed, AreFormed}
use Rattle.formed_references.proofs.Signatures.{no_field, field_formed, method_formed, is_property, property_formed, locals_formed, arguments_formed}
use Rattle.image_namings.proofs.Indexes.{named_row, row_there}
use Rattle.image_namings.proofs.Indexes.{method_tables}
use Rattle.image_namings.proofs.Indexes.{cell_names}
use Rattle.formed_references.proofs.Words.{is_filled, none_there}

-- the laws of the layers below
pub record Laws (image : List ℕ) : Type 0 where
  pub text : OneText (strings_of image)
  pub blob : OneBlob (blobs_of image)
  pub type : (owners : ℕ → Option Owner) (bytes : List ℕ) (s t : SigType) → IsType owners bytes s → IsType owners bytes t → s ≡ t
  pub method : (owners : ℕ → Option Owner) (bytes : List ℕ) (s t : MethodSig) → IsMethod owners bytes s → IsMethod owners bytes t → s ≡ t
  pub field : (owners : ℕ → Option Owner) (bytes : List ℕ) (s t : SigType) → IsField owners bytes s → IsField owners bytes t → s ≡ t
  pub property : (owners : ℕ → Option Owner) (bytes : List ℕ) (s t : MethodSig) → IsProperty owners bytes s → IsProperty owners bytes t → s ≡ t
  pub locals : (owners : ℕ → Option Owner) (bytes : List ℕ) (s t : List SigType) → AreLocals owners bytes s → AreLocals owners bytes t → s ≡ t
  pub instantiation : (owners : ℕ → Option Owner) (bytes : List ℕ) (s t : List SigType) → IsInstantiation owners bytes s → IsInstantiation owners bytes t → s ≡ t

module _ (image : List ℕ) (a : Assembly) (h : Reads image a) (laws : Laws image) (short : length image ≤ 2 ^ 26) (holds : HoldsTypes image h.names a) where
  -- ---- owners

  -- a row of TypeSpec that is in use has a rank in bounds
  row_rank : {table row : ℕ} {o : Owner} → RowOwner image h.names.owners table row o → (table ≡ 0x1B → HasRow image 0x1B row → IsUsed image 0x1B row) → rank_of o ≤ 32
  row_rank (RowOwner.defined {path = p} e there path) used = rw (fold-Name ℕ ℕ owner_rank type_rank _) (omega arith)
  row_rank (RowOwner.referred e there path) used = rw (fold-Name ℕ ℕ owner_rank type_rank _) (omega arith)
  row_rank (RowOwner.specified {row = row} {bytes = bytes} {term = t} e there b is) used =
      let s = (h.rows signatures 0x1B row).type refl (used e there) in
      let same = laws.type h.names.owners bytes s.0 t (subst (λ x. IsType h.names.owners x s.0) (laws.blob _ s.1.0 bytes s.1.1 b) s.1.2) is in
      rw (rank-Spec t) (subst HasRanks same s.2)

  pub row_formed : (table row : ℕ) (o : Owner) → RowOwner image h.names.owners table row o → (table ≡ 0x1B → HasRow image 0x1B row → IsUsed image 0x1B row) → is_owner a o ≡ true
  row_formed table row o r used = owner_formed image a h laws.text holds table row o r (row_rank r used)

  -- an owner that a coded index of a row names
  pub owner_is : (from_table from column : ℕ) (nil : Bool) → (IsReference from_table → ⊥) → HasRow image from_table from → column < length (columns_of from_table) → column_of from_table column ≡ Tagged TypeDefOrRef nil
      → (o : Owner) → OwnerIs image h.names (cell (tables_of image) from_table from column) o → is_owner a o ≡ true
  owner_is from_table from column nil plain there inside coded o is =
      row_formed is.0 is.1 o is.3 (λ e spec. IsUsed.by_row plain there (cell_names image from_table from column TypeDefOrRef nil 0x1B is.1 inside coded
      (subst (λ (t : ℕ). Names TypeDefOrRef (cell (tables_of image) from_table from column) t is.1) e is.2)) (inr (inr (inr (inl refl)))) spec)

  method_owner : {row : ℕ} {o : Owner} → OwnsMethod image row o → is_owner a o ≡ true
  method_owner (OwnsMethod.owns {type = type} {path = p} there has path) =
      row_formed 0x02 type (here p) (RowOwner.defined refl there path) (λ e. absurd (omega arith))

  member_owner : {row : ℕ} {o : Owner} → OwnsMember image h.names.owners row o → IsUsed image 0x0A row → is_owner a o ≡ true
  unfolding schema
  member_owner (OwnsMember.by_type {row = row} {table = t} {parent = p} {owner = o} n is) used =
      row_formed t p o is (λ e spec. IsUsed.by_reference used (cell_names image 0x0A row 0 MemberRefParent false 0x1B p (omega arith) refl
      (subst (λ (x : ℕ). Names MemberRefParent (member_parent image row) x p) e n)) (inr (inr (inr (inl refl)))) spec)
  member_owner (OwnsMember.by_method n is) used = method_owner is

  -- ---- names

  member_named : (row : ℕ) (name : List ℕ) → HasRow image 0x0A row → HasText (strings_of image) (member_name image row) name → is_name name ≡ true
  unfolding schema
  member_named row name there is =
      let t = (h.rows entries) 0x0A row there 1 (omega arith) in
      let same = laws.text (member_name image row) t.0 name t.1 is in
      text_is_name (strings_of image) (member_name image row) name is (λ e. is_filled t.2 (same ∙ e))

  method_has_name : (row : ℕ) (name : List ℕ) → HasRow image 0x06 row → HasText (strings_of image) (method_name image row) name → is_name name ≡ true
  unfolding schema
  method_has_name row name there is =
      let t = (h.rows entries) 0x06 row there 3 (omega arith) in
      let same = laws.text (method_name image row) t.0 name t.1 is in
      text_is_name (strings_of image) (method_name image row) name is (λ e. is_filled t.2 (same ∙ e))

  field_has_name : (row : ℕ) (name : List ℕ) → HasRow image 0x04 row → HasText (strings_of image) (field_name image row) name → is_name name ≡ true
  unfolding schema
  field_has_name row name there is =
      let t = (h.rows entries) 0x04 row there 1 (omega arith) in
      let same = laws.text (field_name image row) t.0 name t.1 is in
      text_is_name (strings_of image) (field_name image row) name is (λ e. is_filled t.2 (same ∙ e))

  -- ---- signatures of members

  pub method_bounds : (row : ℕ) (bytes : List ℕ) (sig : MethodSig) → HasRow image 0x06 row → HasBlob (blobs_of image) (method_signature image row) bytes → IsMethod h.names.owners bytes sig
      → HasBounds sig × (sig.sentinel ≡ None)
  method_bounds row bytes sig there b is =
      let s = (h.rows signatures 0x06 row).method refl there in
      let same = laws.method h.names.owners bytes s.0 sig (subst (λ x. IsMethod h.names.owners x s.0) (laws.blob _ s.1.0 bytes s.1.1 b) s.1.2) is in
      (subst HasBounds same s.2, subst (λ x. x.sentinel ≡ None) same s.3)

  pub field_ranks : (row : ℕ) (bytes : List ℕ) (of : SigType) → HasRow image 0x04 row → HasBlob (blobs_of image) (field_signature image row) bytes → IsField h.names.owners bytes of → HasRanks of
  field_ranks row bytes of there b is =
      let s = (h.rows signatures 0x04 row).field refl there in
      subst HasRanks (laws.field h.names.owners bytes s.0 of (subst (λ x. IsField h.names.owners x s.0) (laws.blob _ s.1.0 bytes s.1.1 b) s.1.2) is) s.2

  member_bounds : (row : ℕ) (bytes : List ℕ) (sig : MethodSig) → HasMember image h.names row → HasBlob (blobs_of image) (member_signature image row) bytes → IsMethod h.names.owners bytes sig → HasBounds sig
  member_bounds row bytes sig (inl s) b is =
      subst HasBounds (laws.method h.names.owners bytes s.0 sig (subst (λ x. IsMethod h.names.owners x s.0) (laws.blob _ s.1.0 bytes s.1.1 b) s.1.2) is) s.2
  member_bounds row bytes sig (inr s) b is =
      absurd (no_field h.names.owners bytes sig s.0 is (subst (λ x. IsField h.names.owners x s.0) (laws.blob _ s.1.0 bytes s.1.1 b) s.1.2))

  member_ranks : (row : ℕ) (bytes : List ℕ) (of : SigType) → HasMember image h.names row → HasBlob (blobs_of image) (member_signature image row) bytes → IsField h.names.owners bytes of → HasRanks of
  member_ranks row bytes of (inl s) b is =
      absurd (no_field h.names.owners bytes s.0 of (subst (λ x. IsMethod h.names.owners x s.0) (laws.blob _ s.1.0 bytes s.1.1 b) s.1.2) is)
  member_ranks row bytes of (inr s) b is =
      subst HasRanks (laws.field h.names.owners bytes s.0 of (subst (λ x. IsField h.names.owners x s.0) (laws.blob _ s.1.0 bytes s.1.1 b) s.1.2) is) s.2

  -- ---- references

  arguments_fit : (row table method : ℕ) (generic : MethodRef) (args : List SigType) (bytes : List ℕ) → IsUsed image 0x2B row → Names MethodDefOrRef (instance_method image row) table method
      → NamesMethod image h.names.owners (token_of table method) generic → HasBlob (blobs_of image) (instance_arguments image row) bytes → IsInstantiation h.names.owners bytes args
      → (are_arguments generic.sig.generic (Some args) ≡ true) × (list_all (is_type a) args ≡ true)
  arguments_fit row table method generic args bytes used coded of b is =
      let v = (h.rows values 0x2B row).instance refl used in
      let s = (h.rows signatures 0x2B row).instance refl used in
      let e = names_one MethodDefOrRef (instance_method image row) v.0 v.1 table method v.4 coded in
      let token = ap (λ (t : ℕ). token_of t v.1) e.0 ∙ ap (λ (r : ℕ). token_of table r) e.1 in
      let there : h.names.methods (token_of table method) ≡ Some v.2 = ap h.names.methods (sym token) ∙ v.5 in
      let named = some_one (h.names.methods (token_of table method)) v.2 generic there ((h.named.methods (token_of table method) generic).1 of) in
      let args_are = laws.instantiation h.names.owners bytes v.3 args (subst (λ x. IsInstantiation h.names.owners x v.3) (laws.blob _ v.6.0 bytes v.6.1 b) v.6.2) is in
      let bounded = laws.instantiation h.names.owners bytes s.0 args (subst (λ x. IsInstantiation h.names.owners x s.0) (laws.blob _ s.1.0 bytes s.1.1 b) s.1.2) is in
      let long : length args ≡ generic.sig.generic = ap length (sym args_are) ∙ v.7 ∙ ap (λ m. m.sig.generic) named in (
        and_from (nat_lt 0 (length args)) (length args == generic.sig.generic) (lt_true 0 (length args) is.0.some) (eq_true (length args) generic.sig.generic long),
        arguments_formed image a h laws.text holds args bytes is (subst (All HasRanks) bounded s.2),
      )

  -- the rows that arguments in use are given to are in use
  given_used : (row table method : ℕ) → HasRow image 0x2B row → IsUsed image 0x2B row → Names MethodDefOrRef (instance_method image row) table method → AreUsed image (token_of table method)
  unfolding schema
  given_used row table method there used coded named other token reference is =
      let n = named_row image MethodDefOrRef (instance_method image row) ((h.rows indexes).0 0x2B row there 0 (omega arith)) in
      let given = row_there image MethodDefOrRef (instance_method image row) table method n coded in
      let fits = small table method (method_tables (instance_method image row) table method coded) given in
      let t : named ≡ table = (let i = token.is in let f = token.fits in omega arith) in
      let r : other ≡ method = (let i = token.is in let f = token.fits in omega arith) in
      IsUsed.by_reference used (cell_names image 0x2B row 0 MethodDefOrRef false named other (omega arith) refl
      (subst (λ (x : ℕ). Names MethodDefOrRef (instance_method image row) named x) (sym r) (subst (λ (x : ℕ). Names MethodDefOrRef (instance_method image row) x method) (sym t) coded))) reference is
    where
      small : (table method : ℕ) → (table ≡ 0x06) ⊎ (table ≡ 0x0A) → HasRow image table method → (method < 2 ^ 24)
      small table method (inl e) there = few_methods image method short h.tables (subst (λ (t : ℕ). HasRow image t method) e there)
      small table method (inr e) there = few_members image method short h.tables (subst (λ (t : ℕ). HasRow image t method) e there)

  formed_method : {token : ℕ} {m : MethodRef} → NamesMethod image h.names.owners token m → AreUsed image token → FormedMethodRef a m
  formed_method (NamesMethod.defined {method = row} {name = n} {bytes = b} {sig = s} t there mine name blob is) used =
      let bounds = method_bounds row b s there blob is in
      record { name = method_has_name row n there name; arguments = refl; owner = method_owner mine; sig = method_formed image a h laws.text holds s b is bounds.0; args = refl }
  formed_method (NamesMethod.referred {row = row} {name = n} {bytes = b} {sig = s} t there mine name blob is) used =
      let u = used 0x0A row t (inr (inl refl)) there in
      let bounds = member_bounds row b s ((h.rows signatures 0x0A row).member refl u) blob is in
      record { name = member_named row n there name; arguments = refl; owner = member_owner mine u; sig = method_formed image a h laws.text holds s b is bounds; args = refl }
  formed_method (NamesMethod.instantiated {row = row} {table = table} {method = method} {generic = g} {bytes = b} {args = args} t there coded of blob is) used =
      let u = used 0x2B row t (inr (inr (inr (inr refl)))) there in
      let f = formed_method of (given_used row table method there u coded) in
      let fit = arguments_fit row table method g args b u coded of blob is in
      record { name = f.name; arguments = fit.0; owner = f.owner; sig = f.sig; args = fit.1 }

  pub method_ref_formed : (token : ℕ) (m : MethodRef) → NamesMethod image h.names.owners token m → AreUsed image token → is_method_ref a m ≡ true
  method_ref_formed token m n used = (method_refs_named a m).1 (formed_method n used)

  -- a token of MethodDef or MemberRef names a method without arguments
  no_arguments : {token : ℕ} {m : MethodRef} → NamesMethod image h.names.owners token m → (token / 2 ^ 24 ≡ 0x2B → ⊥) → m.args ≡ None
  no_arguments (NamesMethod.defined t there mine name blob is) other = refl
  no_arguments (NamesMethod.referred t there mine name blob is) other = refl
  no_arguments (NamesMethod.instantiated t there coded of blob is) other = absurd (other (let i = t.is in let f = t.fits in omega arith))

  pub plain_ref_formed : (token : ℕ) (m : MethodRef) → h.names.methods token ≡ Some m → (token / 2 ^ 24 ≡ 0x2B → ⊥) → AreUsed image token → is_plain_ref a m ≡ true
  unfolding is_plain_ref
  plain_ref_formed token m e other used =
      let n = (h.named.methods token m).0 e in
      and_from (is_none m.args) (is_method_ref a m) (none_there m.args (no_arguments n other)) (method_ref_formed token m n used)

  formed_field : {token : ℕ} {f : FieldRef} → NamesField image h.names.owners token f → ((row type : ℕ) → HasRow image 0x02 type → Contains (fields_of image type) row → HasRow image 0x04 row) → AreUsed image token → FormedFieldRef a f
  formed_field (NamesField.defined {field = row} {type = type} {path = p} {name = n} {bytes = b} {of = s} t typed among path name blob is) stands used =
      let there = stands row type typed among in
      record { name = field_has_name row n there name; owner = row_formed 0x02 type (here p) (RowOwner.defined refl typed path) (λ e. absurd (omega arith)); of = field_formed image a h laws.text holds s b is (field_ranks row b s there blob is) }
  formed_field (NamesField.referred {row = row} {name = n} {bytes = b} {of = s} t there mine name blob is) stands used =
      let u = used 0x0A row t (inr (inl refl)) there in
      record { name = member_named row n there name; owner = member_owner mine u; of = field_formed image a h laws.text holds s b is (member_ranks row b s ((h.rows signatures 0x0A row).member refl u) blob is) }

  -- ---- locals, and the signatures of rows

  locals_are : {token : ℕ} {types : List SigType} → NamesLocals image h.names.owners token types → AreUsed image token → (length types ≤ max_count) × (list_all (is_type a) types ≡ true)
  locals_are {types = types} (NamesLocals.signed {row = row} {bytes = bytes} t there b is) used =
      let s = (h.rows signatures 0x11 row).locals refl (used 0x11 row t (inr (inr (inl refl))) there) in
      let same = laws.locals h.names.owners bytes s.0 types (subst (λ x. AreLocals h.names.owners x s.0) (laws.blob _ s.1.0 bytes s.1.1 b) s.1.2) is in
      (subst (λ ts. length ts ≤ max_count) same s.2, locals_formed image a h laws.text holds types bytes is (subst (All HasRanks) same s.3))

  property_bounds : (row : ℕ) (bytes : List ℕ) (sig : MethodSig) → HasRow image 0x17 row → HasBlob (blobs_of image) (property_signature image row) bytes → IsProperty h.names.owners bytes sig → HasBounds sig
  property_bounds row bytes sig there b is =
      let s = (h.rows signatures 0x17 row).property refl there in
      subst HasBounds (laws.property h.names.owners bytes s.0 sig (subst (λ x. IsProperty h.names.owners x s.0) (laws.blob _ s.1.0 bytes s.1.1 b) s.1.2) is) s.2

  module _ (stands : (row type : ℕ) → HasRow image 0x02 type → Contains (fields_of image type) row → HasRow image 0x04 row) where
    pub are_formed : AreFormed image a h.names
    are_formed = record {
      owner = row_formed;
      method = method_ref_formed;
      plain = plain_ref_formed;
      field = λ token f n used. (field_refs_named a f).1 (formed_field n stands used);
      local_count = λ token types n used. (locals_are n used).0;
      locals = λ token types n used. (locals_are n used).1;
      field_type = λ row of there has. field_formed image a h laws.text holds of has.0 has.2 (field_ranks row has.0 of there has.1 has.2);
      method_sig = λ row sig there has. method_formed image a h laws.text holds sig has.0 has.2 (method_bounds row has.0 sig there has.1 has.2).0;
      no_sentinel = λ row sig there has. (method_bounds row has.0 sig there has.1 has.2).1;
      property_sig = λ row sig there has. property_formed image a h laws.text holds sig has.0 has.2 (property_bounds row has.0 sig there has.1 has.2);
      property_plain = λ row sig there has. is_property image a h laws.text holds sig has.0 has.2;
    }
