-- What the tokens of methods name.
use Rattle.std.proofs.Common.{◌≡◌, ap, refl, sym, ◌∙◌, subst, ℕ, ◌+◌, ◌-◌, ◌/◌, ◌%◌, ◌^◌, List, Option, None, Some, inl, inr, arith}
use Rattle.std.specs.Prelude.{◌⊎◌, slice_get, slice_index}
use Rattle.metadata_tables.specs.CodedIndex.{tag_of}
use Rattle.metadata_tables.specs.declared.coded.Coded.TheVariants.{MethodDefOrRef}
use Rattle.sig_codec.specs.Signature.{SpellsMethod, SpellsInstantiation}
use Rattle.type_terms.specs.declared.reference.FieldRef.{FieldRef}
use Rattle.type_terms.specs.declared.reference.MethodRef.{MethodRef}
use Rattle.type_terms.specs.declared.reference.MethodSig.{MethodSig}
use Rattle.type_terms.specs.declared.term.Owner.{Owner}
use Rattle.type_terms.specs.declared.term.SigType.{SigType}
use Rattle.image_tokens.specs.Found.{token_in}
use Rattle.image_tokens.specs.Indexes.{index_of_token}
use Rattle.image_tokens.specs.KnownTokens.{fields_apart, methods_apart}
use Rattle.image_tokens.specs.References.{HasGenericToken, HasSignature, IsInstanceRow, IsMethodToken, plain, instance, tokens_of}
use Rattle.image_tokens.specs.declared.references.References.{References}
use Rattle.image_tokens.specs.declared.row_set.Cells.{Cells}
use Rattle.image_tokens.proofs.NameLemmas.{holds_of_found}
use Rattle.image_rows.specs.Filled.{two_cells}
use Rattle.image_model.specs.Columns.{instance_arguments, instance_method, method_name, method_signature}
use Rattle.image_model.specs.Naming.{IsToken, NamesMethod, NamesOwner, OwnsMethod, here}
use Rattle.image_model.specs.Rows.{HasRow, Names, count_of, methods_of, token_of}
use Rattle.laws_image_parts.specs.AtRows.{Reads}
use Rattle.laws_image_parts.specs.RowCells.{instance_cells}
use Rattle.laws_image_parts.specs.RowsRead.{IsMade}
use Rattle.laws_image_parts.proofs.CellLemmas.{get_low}
use Rattle.laws_image_parts.proofs.IndexLemmas.{index_names}
use Rattle.laws_image_parts.specs.names.Locals.{AreTaken}
use Rattle.laws_image_parts.proofs.names.General.{get_some}
use Rattle.laws_image_parts.proofs.names.OnePath.{one_value}
use Rattle.laws_image_parts.proofs.names.OwnerLemmas.{IsRowToken, row_decided}
use Rattle.laws_image_parts.specs.namings.Members.{MethodsRead}
use Rattle.laws_image_parts.specs.namings.Readable.{AreReadableIn, IsMethodTaken}
use Rattle.laws_image_parts.proofs.namings.DecidedMaps.{map_of, map_tells, map_none}
use Rattle.laws_image_parts.proofs.namings.HeapUnits.{Decided}
use Rattle.laws_image_parts.proofs.namings.MemberKinds.{no_type}
use Rattle.laws_image_parts.proofs.namings.MemberRows.{Setting, IsCodec, ReadsAs, Member, at_one, at_written}
use Rattle.laws_image_parts.proofs.namings.MemberTokens.{Declares, IsMember, defined, referred, member_one, member_decided, member_given}

-- a method by its parts, and by those of a generic one with its arguments
pub method_of : Member MethodSig → MethodRef
method_of m = record { owner = m.owner; name = m.name; sig = m.sig; args = None }

pub instance_of : Member MethodSig → List SigType → MethodRef
instance_of m args = record { owner = m.owner; name = m.name; sig = m.sig; args = Some args }

module _ (r : References) (image : List ℕ) (owners : ℕ → Option Owner) (s : Setting r image owners)
    (facts : Declares SpellsMethod IsMethodTaken r image owners 0x06 (method_name image) (method_signature image) (methods_of image) r.declared.methods)
    (codec : IsCodec SpellsInstantiation AreTaken) (reads : Reads 0x2B instance_cells (IsMade two_cells) r.referred.instances image)
    (readable : AreReadableIn SpellsInstantiation AreTaken r r.referred.instances (λ c. c.second)) where
  abbrev pub IsPlain : ℕ → Member MethodSig → Type 0
  IsPlain = IsMember SpellsMethod IsMethodTaken r image owners s 0x06 (method_name image) (method_signature image) (methods_of image) r.declared.methods facts

  abbrev AreArguments : ℕ → List SigType → Type 0
  AreArguments = ReadsAs SpellsInstantiation AreTaken image owners

  -- a generic method with its arguments
  pub record IsInstance (token : ℕ) (m : MethodRef) : Type 0 where
    pub row : ℕ
    pub is : IsToken token 0x2B row
    pub row_there : HasRow image 0x2B row
    pub table : ℕ
    pub method : ℕ
    pub coded : Names MethodDefOrRef (instance_method image row) table method
    pub generic : Member MethodSig
    pub generic_is : IsPlain (token_of table method) generic
    pub args : List SigType
    pub args_are : AreArguments (instance_arguments image row) args
    pub are : m ≡ instance_of generic args

  -- ---- the rows of MethodSpec

  -- the table of a method's token can be coded
  plain_tag : (token : ℕ) (m : Member MethodSig) → IsPlain token m → (tag : ℕ) × (tag_of MethodDefOrRef (token / 2 ^ 24) ≡ Some tag)
  unfolding tag_of
  plain_tag token m (defined i h) = (let x = i.is in let fits = i.fits in let table : token / 2 ^ 24 ≡ 0x06 = omega arith in (0, ap (tag_of MethodDefOrRef) table))
  plain_tag token m (referred i h) = (let x = i.is in let fits = i.fits in let table : token / 2 ^ 24 ≡ 0x0A = omega arith in (1, ap (tag_of MethodDefOrRef) table))

  make_instance : (k token : ℕ) (cells : Cells) (generic : ℕ) (m : Member MethodSig) (args : List SigType) → slice_get r.referred.instances k ≡ Some cells → IsToken token 0x2B (1 + k)
      → cells.first ≡ index_of_token MethodDefOrRef generic → IsPlain generic m → HasSignature SpellsInstantiation r args cells.second → IsInstance token (instance_of m args)
  make_instance k token cells generic m args at is first plain_is signature =
      let row = reads.each k cells at in
      let count = reads.count in
      let low = get_low r.referred.instances k cells at in
      let coded : instance_method image (1 + k) ≡ index_of_token MethodDefOrRef generic = ap (λ (cs : List ℕ). slice_index cs 0) row ∙ first in
      let blob : instance_arguments image (1 + k) ≡ cells.second = ap (λ (cs : List ℕ). slice_index cs 1) row in
      let tag = plain_tag generic m plain_is in
      let token_is : generic ≡ token_of (generic / 2 ^ 24) (generic % 2 ^ 24) = omega arith in
      record {
        row = 1 + k;
        is = is;
        row_there = (omega arith, omega arith);
        table = generic / 2 ^ 24;
        method = generic % 2 ^ 24;
        coded = subst (λ v. Names MethodDefOrRef v (generic / 2 ^ 24) (generic % 2 ^ 24)) (sym coded) (index_names MethodDefOrRef (generic / 2 ^ 24) (generic % 2 ^ 24) tag.0 tag.1);
        generic = m;
        generic_is = subst (λ t. IsPlain t m) token_is plain_is;
        args = args;
        args_are = at_written SpellsInstantiation AreTaken codec r image owners s args cells.second (instance_arguments image (1 + k)) signature blob (readable k cells args at signature);
        are = refl;
      }

  plain_given : (m : MethodRef) (token : ℕ) → HasGenericToken r m token → IsPlain token (record { owner = m.owner; name = m.name; sig = m.sig })
  plain_given m token h =
      member_given SpellsMethod IsMethodTaken r image owners s 0x06 (method_name image) (method_signature image) (methods_of image) r.declared.methods facts m.owner m.name m.sig token h

  instance_row : (token row : ℕ) → IsToken token 0x2B row → HasRow image 0x2B row → (m : MethodRef) × IsInstance token m
  instance_row token row is row_there =
      let some = row_there.0 in
      let high = row_there.1 in
      let count = reads.count in
      let found = get_some r.referred.instances (row - 1) (omega arith) in
      let h : IsInstanceRow r found.0 = s.known.rows.instances (row - 1) found.0 found.1 in
      let same : row ≡ 1 + (row - 1) = omega arith in
      let m : Member MethodSig = record { owner = h.method.owner; name = h.method.name; sig = h.method.sig } in
      (instance_of m h.arguments, make_instance (row - 1) token found.0 h.generic m h.arguments found.1 (subst (IsToken token 0x2B) same is) h.first_is (plain_given h.method h.generic h.generic_is) h.signature)

  -- ---- what tokens name

  -- a method without arguments, or one with them
  abbrev IsMethod : ℕ → MethodRef → Type 0
  IsMethod token m = ((x : Member MethodSig) × (m ≡ method_of x) × IsPlain token x) ⊎ IsInstance token m

  plain_names : (token : ℕ) (m : Member MethodSig) → IsPlain token m → NamesMethod image owners token (method_of m)
  unfolding method_of
  plain_names token m (defined i h) =
      subst (λ o. NamesMethod image owners token (record { owner = o; name = m.name; sig = m.sig; args = None })) (sym h.owner_is)
      (NamesMethod.defined i h.there (OwnsMethod.owns h.type_there h.within h.leads) h.name_is h.sig_is.held (h.sig_is.spelled, h.sig_is.taken.0, h.sig_is.taken.1))
  plain_names token m (referred i h) = NamesMethod.referred i h.there h.owns h.name_is h.sig_is.held (h.sig_is.spelled, h.sig_is.taken.0, h.sig_is.taken.1)

  names : (token : ℕ) (m : MethodRef) → IsMethod token m → NamesMethod image owners token m
  unfolding method_of instance_of
  names token m (inl h) = subst (NamesMethod image owners token) (sym h.1) (plain_names token h.0 h.2)
  names token m (inr h) =
      subst (NamesMethod image owners token) (sym h.are)
      (NamesMethod.instantiated h.is h.row_there h.coded (plain_names (token_of h.table h.method) h.generic h.generic_is) h.args_are.held
      (h.args_are.spelled, h.args_are.taken.0, h.args_are.taken.1))

  -- a coded index names the token of a method that has no arguments
  plain_alone : (token : ℕ) (m : MethodRef) (x : Member MethodSig) → IsPlain token x → IsMethod token m → (y : Member MethodSig) × (m ≡ method_of y) × IsPlain token y
  plain_alone token m x h (inl k) = k
  plain_alone token m x (defined i h) (inr k) = absurd (let u = i.is in let v = k.is.is in let a = i.fits in let b = k.is.fits in omega arith)
  plain_alone token m x (referred i h) (inr k) = absurd (let u = i.is in let v = k.is.is in let a = i.fits in let b = k.is.fits in omega arith)

  same_names : (value table row other at : ℕ) → Names MethodDefOrRef value table row → Names MethodDefOrRef value other at → token_of table row ≡ token_of other at
  same_names value table row other at h k =
      let e = one_value _ (table, row) (other, at) h k in
      ap (λ (p : ℕ × ℕ). token_of p.0 p.1) e

  pub named : {token : ℕ} {m : MethodRef} → NamesMethod image owners token m → IsMethod token m
  unfolding method_of instance_of
  named (NamesMethod.defined {method = method} {owner = owner} {name = name} {bytes = bytes} {sig = sig} i row_there (OwnsMethod.owns {type = type} {path = path} type_there within leads) text held h) =
      inl (
        record { owner = here path; name = name; sig = sig },
        refl,
        defined i (record {
          there = row_there;
          type = type;
          type_there = type_there;
          within = within;
          path = path;
          leads = leads;
          owner_is = refl;
          name_is = text;
          sig_is = record { bytes = bytes; held = held; spelled = h.0; taken = (h.1, h.2) };
        }),
      )
  named (NamesMethod.referred {owner = owner} {name = name} {bytes = bytes} {sig = sig} i row_there owns text held h) =
      inl (
        record { owner = owner; name = name; sig = sig },
        refl,
        referred i (record {
          there = row_there;
          owns = owns;
          name_is = text;
          sig_is = record { bytes = bytes; held = held; spelled = h.0; taken = (h.1, h.2) };
        }),
      )
  named {token = token} (NamesMethod.instantiated {row = row} {table = table} {method = method} {generic = generic} {bytes = bytes} {args = args} i row_there coded k held h) =
      let made = (instance_row token row i row_there).1 in
      let rows : made.row ≡ row = (let u = i.is in let v = made.is.is in omega arith) in
      let also : Names MethodDefOrRef (instance_method image row) made.table made.method =
      subst (λ n. Names MethodDefOrRef (instance_method image n) made.table made.method) rows made.coded in
      let token_is : token_of made.table made.method ≡ token_of table method = same_names (instance_method image row) made.table made.method table method also coded in
      let x = plain_alone (token_of table method) generic made.generic (subst (λ t. IsPlain t made.generic) token_is made.generic_is) (named k) in
      inr (record {
        row = row;
        is = i;
        row_there = row_there;
        table = table;
        method = method;
        coded = coded;
        generic = x.0;
        generic_is = x.2;
        args = args;
        args_are = record { bytes = bytes; held = held; spelled = h.0; taken = (h.1, h.2) };
        are = ap (λ (g : MethodRef). record { owner = g.owner; name = g.name; sig = g.sig; args = Some args }) x.1;
      })

  -- ---- one method, and whether there is one

  plain_one : (token : ℕ) (x y : Member MethodSig) → IsPlain token x → IsPlain token y → x ≡ y
  plain_one = member_one SpellsMethod IsMethodTaken r image owners s 0x06 (method_name image) (method_signature image) (methods_of image) r.declared.methods facts

  is_one : (token : ℕ) (m n : MethodRef) → IsMethod token m → IsMethod token n → m ≡ n
  is_one token m n (inl h) (inl k) = h.1 ∙ ap method_of (plain_one token h.0 k.0 h.2 k.2) ∙ sym k.1
  is_one token m n (inl h) (inr k) = (let x = plain_alone token n h.0 h.2 (inr k) in h.1 ∙ ap method_of (plain_one token h.0 x.0 h.2 x.2) ∙ sym x.1)
  is_one token m n (inr h) (inl k) = (let x = plain_alone token m k.0 k.2 (inr h) in x.1 ∙ ap method_of (plain_one token x.0 k.0 x.2 k.2) ∙ sym k.1)
  is_one token m n (inr h) (inr k) =
      let rows : k.row ≡ h.row = (let u = h.is.is in let v = k.is.is in omega arith) in
      let coded : Names MethodDefOrRef (instance_method image h.row) k.table k.method = subst (λ n. Names MethodDefOrRef (instance_method image n) k.table k.method) rows k.coded in
      let token_is : token_of k.table k.method ≡ token_of h.table h.method = same_names (instance_method image h.row) k.table k.method h.table h.method coded h.coded in
      let generics : h.generic ≡ k.generic = plain_one (token_of h.table h.method) h.generic k.generic h.generic_is (subst (λ t. IsPlain t k.generic) token_is k.generic_is) in
      let arguments : h.args ≡ k.args =
      at_one SpellsInstantiation AreTaken codec r image owners s (instance_arguments image h.row) h.args k.args h.args_are
      (subst (λ n. AreArguments (instance_arguments image n) k.args) rows k.args_are) in
      h.are ∙ (λ i. instance_of (generics i) (arguments i)) ∙ sym k.are

  method_one : (token : ℕ) (m n : MethodRef) → NamesMethod image owners token m → NamesMethod image owners token n → m ≡ n
  method_one token m n h k = is_one token m n (named h) (named k)

  none_at : (token : ℕ) → ((x : Member MethodSig) → IsPlain token x → ⊥) → (IsRowToken 0x2B (count_of image 0x2B) token → ⊥) → (m : MethodRef) → IsMethod token m → ⊥
  none_at token f g m (inl h) = f h.0 h.2
  none_at token f g m (inr h) = g (h.row, h.is, h.row_there.0, h.row_there.1)

  method_decided : (token : ℕ) → Decided (NamesMethod image owners token)
  method_decided token =
      elim (member_decided SpellsMethod IsMethodTaken r image owners s 0x06 (method_name image) (method_signature image) (methods_of image) r.declared.methods facts token) [
        | inl h ↦ inl (method_of h.0, plain_names token h.0 h.1)
        | inr f ↦ elim (row_decided 0x2B (count_of image 0x2B) token) [
          | inl h ↦ (let m = instance_row token h.0 h.1 (h.2, h.3) in inl (m.0, names token m.0 (inr m.1)))
          | inr g ↦ inr (λ m h. none_at token f g m (named h))
        ]
      ]

  -- ---- what was given a token

  given : (m : MethodRef) (token : ℕ) → IsMethodToken r m token → IsMethod token m
  unfolding method_of instance_of
  given m token (plain none h) =
      inl (record { owner = m.owner; name = m.name; sig = m.sig }, (λ i. record { owner = m.owner; name = m.name; sig = m.sig; args = none i }), plain_given m token h)
  given m token (instance {args = args} {generic = generic} {row = row} some h at signature is) =
      let counted = at.counted in
      let same : row ≡ 1 + (row - 1) = omega arith in
      let own : IsToken token 0x2B (1 + (row - 1)) = subst (IsToken token 0x2B) same (record { is = is.is; fits = is.fits }) in
      let so : m ≡ instance_of (record { owner = m.owner; name = m.name; sig = m.sig }) args = (λ i. record { owner = m.owner; name = m.name; sig = m.sig; args = some i }) in
      inr (subst (IsInstance token) (sym so)
      (make_instance (row - 1) token _ generic (record { owner = m.owner; name = m.name; sig = m.sig }) args at.at own refl (plain_given m generic h) signature))

  pub method_given : (m : MethodRef) (token : ℕ) → token_in methods_apart r.known.methods m ≡ Some token → NamesMethod image owners token m
  method_given m token at =
      let h : IsMethodToken r m token = holds_of_found methods_apart (λ e. IsMethodToken r e.0 e.1) r.known.methods m token s.known.methods at in
      names token m (given m token h)

  -- a token names no method where it is that of another table than those of methods, or that of a row of MemberRef with another signature
  pub no_method : (token : ℕ) → ((m : Member MethodSig) → IsPlain token m → ⊥) → ((row : ℕ) → IsToken token 0x2B row → ⊥) → (m : MethodRef) → NamesMethod image owners token m → ⊥
  no_method token f g m h = by_method (named h)
    where
      by_method : IsMethod token m → ⊥
      by_method (inl x) = f x.0 x.2
      by_method (inr k) = g k.row k.is

  -- the token of a type names no method

  plain_apart : (token : ℕ) (o : Owner) (m : Member MethodSig) → NamesOwner image owners token o → IsPlain token m → ⊥
  plain_apart token o m h (defined {row = row} i k) = no_type image owners token o h 0x06 row i (omega arith) (λ e. omega arith)
  plain_apart token o m h (referred {row = row} i k) = no_type image owners token o h 0x0A row i (omega arith) (λ e. omega arith)

  instance_apart : (token : ℕ) (o : Owner) (row : ℕ) → NamesOwner image owners token o → IsToken token 0x2B row → ⊥
  instance_apart token o row h i = no_type image owners token o h 0x2B row i (omega arith) (λ e. omega arith)

  no_typed : (o : Owner) (token : ℕ) → tokens_of r o ≡ Some token → (m : MethodRef) → NamesMethod image owners token m → ⊥
  no_typed o token at =
      let names_type = (s.tells token o).0 (s.back o token at) in
      no_method token (λ m h. plain_apart token o m names_type h) (λ row i. instance_apart token o row names_type i)

  pub methods_read : ((f : FieldRef) (token : ℕ) → token_in fields_apart r.known.fields f ≡ Some token → (m : MethodRef) → NamesMethod image owners token m → ⊥) → MethodsRead r image owners
  methods_read no_field = record {
    methods = map_of (NamesMethod image owners) method_decided method_one;
    tells = map_tells (NamesMethod image owners) method_decided method_one;
    back = λ m token at. (map_tells (NamesMethod image owners) method_decided method_one token m).1 (method_given m token at);
    no_field = λ f token at. map_none (NamesMethod image owners) method_decided method_one token (no_field f token at);
    no_type = λ o token at. map_none (NamesMethod image owners) method_decided method_one token (no_typed o token at);
  }
