-- What is told of a token is what that weighs which it names.
use Rattle.std.proofs.Common.{◌≡◌, ℕ, ◌+◌, ◌*◌, ◌-◌, ◌/◌, ◌%◌, ◌^◌, ◌<◌, ◌⊎◌, inl, inr, suc, Bool, min, List, [], ◌∷◌, ◌++◌, length, get_or, Option, None, Some, option_map, refl, sym, ◌∙◌, ap, subst, arith}
use Rattle.std.specs.Prelude.{sum_by, if◌then◌else◌, ◌==◌}
use Rattle.std.specs.Option.{option_or, option_map_or}
use Rattle.std.proofs.lemmas.Bool.{ne_eqb}
use Rattle.std.proofs.lemmas.Option.{none-some, same_Some}
use Rattle.std.proofs.lemmas.List.{length-append}
use Rattle.heaps.specs.Content.{HasBlob}
use Rattle.heaps.specs.LookUp.{blob_in, BlobIsComputed}
use Rattle.type_terms.specs.declared.reference.FieldRef.{FieldRef}
use Rattle.type_terms.specs.declared.reference.MethodRef.{MethodRef}
use Rattle.type_terms.specs.declared.term.Owner.{Owner}
use Rattle.type_terms.specs.declared.term.SigType.{SigType}
use Rattle.assembly_tree.specs.Weight.{owner_weight, type_weight, method_ref_weight, field_ref_weight, operand_weight}
use Rattle.assembly_tree.specs.declared.body.Operand as operand
use Rattle.opcode_table.specs.declared.kind.OperandKind.{OperandKind}
use Rattle.opcode_table.specs.declared.kind.OperandKind.TheVariants as kinds
use Rattle.body_codec.specs.Header.{SpellsLocals}
use Rattle.body_codec.specs.Names.{NameMap, reading, named}
use Rattle.image_model.specs.Columns.{locals_signature}
use Rattle.image_model.specs.Faults.{RowRule, indexes, entries, manifest, runs, order, scopes, signatures, HoldBefore}
use Rattle.image_model.specs.Naming.{IsToken, RowOwner, NamesOwner, NamesMethod, NamesField, NamesLocals, NamesText}
use Rattle.image_model.specs.Namings.{AreNamings}
use Rattle.image_model.specs.Rows.{HasRow}
use Rattle.image_model.specs.Streams.{user_of, blobs_of}
use Rattle.image_model.specs.Structure.{HasScopes}
use Rattle.image_model.specs.Units.{units_of}
use Rattle.image_namings.proofs.Standing.{Stands, stands}
use Rattle.metadata_tables.specs.Schema.{schema}
use Rattle.row_demands.specs.Structured.{MeetStructure}
use Rattle.row_weights.specs.declared.kind.Kind.TheVariants as kind
use Rattle.row_weights.specs.declared.methods.MethodWeights.{MethodWeights}
use Rattle.row_weights.specs.Rows.{owner_weighed, cell_weighed, method_told}
use Rattle.row_weights.proofs.Telling.{cell_is, owner_told}
use Rattle.row_weights.proofs.Weighing.{locals_weigh}
use Rattle.name_weights.specs.Weights.{weighing}
use Rattle.signature_facts.specs.Facts.{capped}
use Rattle.signature_facts.specs.Owners.{AreFacts, AreBounded}
use Rattle.spec_facts.proofs.Owned.{bounded}
use Rattle.told_weights.specs.Told.{Tells}
use Rattle.body_weights.specs.Tokens.{Tokens, AreTokens, is_type, told_by, row_told, text_told, told_as, locals_told}

-- what is capped at the last number of 32 bits tells the weight
pub capped_tells : (told weight : ℕ) → told ≡ capped weight → Tells told weight
capped_tells told weight e = omega (arith, e)

-- ---- the row of a token

token_parts : (token table row : ℕ) → IsToken token table row → (token / 2 ^ 24 ≡ table) × (token % 2 ^ 24 ≡ row)
token_parts token table row is =
    let e = is.is in
    let f = is.fits in
    (omega (arith, e, f), omega (arith, e, f))

told_at : (it : Tokens) (token table row : ℕ) → IsToken token table row → row_told it token ≡ told_by it table row (method_told it.methods token)
unfolding row_told
told_at it token table row is =
    let p = token_parts token table row is in
    ap (λ (t : ℕ). told_by it t (token % 2 ^ 24) (method_told it.methods token)) p.0 ∙ ap (λ (r : ℕ). told_by it table r (method_told it.methods token)) p.1

-- the weight of a method by table and row
abbrev method_by : MethodWeights → (table row : ℕ) → ℕ
method_by it table row =
    if table == 0x06 then get_or it.methods.items row 0
    else if table == 0x0A then get_or it.members.items row 0
    else if table == 0x2B then get_or it.instances.items row 0
    else 0

method_at : (it : MethodWeights) (token table row : ℕ) → IsToken token table row → method_told it token ≡ method_by it table row
unfolding method_told
method_at it token table row is =
    let p = token_parts token table row is in
    ap (λ (t : ℕ). method_by it t (token % 2 ^ 24)) p.0 ∙ ap (λ (r : ℕ). method_by it table r) p.1

-- ---- I8 to I13 hold

before : (image : List ℕ) (any : NameMap) → MeetStructure image → ((table row : ℕ) → HasScopes image table row) → HoldBefore image any signatures
before image any m s indexes low = (m.indexes, m.entry)
before image any m s entries low = m.entries
before image any m s manifest low = m.manifest
before image any m s runs low = m.runs
before image any m s order low = m.order
before image any m s scopes low = s
before image any m s _ low = absurd (omega (arith, low))

-- ---- texts

text_step : (r : Option (List ℕ)) (n unit : ℕ) (units : List ℕ) → ((us : List ℕ) → r ≡ Some us → n ≡ 2 * length us) → option_map (λ (us : List ℕ). unit ∷ us) r ≡ Some units → suc (suc n) ≡ 2 * length units
text_step None n unit units h e = absurd (none-some units e)
text_step (Some us) n unit units h e =
    let l = ap (λ (xs : List ℕ). length xs) (same_Some (unit ∷ us) units e) in
    let k = h us refl in
    omega (arith, l, k)

text_length : (bytes units : List ℕ) → units_of bytes ≡ Some units → length bytes ≡ 2 * length units
text_length [] units e = let l = ap (λ (us : List ℕ). length us) (same_Some [] units e) in omega (arith, l)
text_length (low ∷ []) units e = absurd (none-some units e)
text_length (low ∷ (high ∷ more)) units e = text_step (units_of more) (length more) (low + 256 * high) units (λ us f. text_length more us f) e

module _ (it : Tokens) (are : AreTokens it) (names : NameMap) (tell : AreNamings it.known.image names) where
  -- ---- types

  by_type : {table row : ℕ} {o : Owner} (m : ℕ) → RowOwner it.known.image names.owners table row o → told_by it table row m ≡ owner_weighed it.known table row
  by_type m (RowOwner.defined {type = t} e there h) = subst (λ (z : ℕ). told_by it z t m ≡ owner_weighed it.known z t) (sym e) refl
  by_type m (RowOwner.referred {row = r} e there h) = subst (λ (z : ℕ). told_by it z r m ≡ owner_weighed it.known z r) (sym e) refl
  by_type m (RowOwner.specified {row = r} e there b h) = subst (λ (z : ℕ). told_by it z r m ≡ owner_weighed it.known z r) (sym e) refl

  row_tells : {table row : ℕ} {o : Owner} → RowOwner it.known.image names.owners table row o → Tells (owner_weighed it.known table row) (owner_weight o)
  row_tells {table = t} {row = r} {o = o} h = capped_tells (owner_weighed it.known t r) (owner_weight o) (owner_told it.known are.known_are names tell h)

  pub type_tells : (table row : ℕ) (o : Owner) → RowOwner it.known.image names.owners table row o → Tells (owner_weighed it.known table row) (owner_weight o)
  type_tells table row o h = row_tells h

  pub owner_tells : (token : ℕ) (o : Owner) → names.owners token ≡ Some o → Tells (row_told it token) (owner_weight o)
  owner_tells token o e = go ((tell.owners token o).0 e)
    where
      go : {t : ℕ} {o : Owner} → NamesOwner it.known.image names.owners t o → Tells (row_told it t) (owner_weight o)
      go (NamesOwner.by_row {token = t} {table = u} {row = r} {owner = o} is h) =
          subst (λ (z : ℕ). Tells z (owner_weight o)) (sym (told_at it t u r is ∙ by_type (method_told it.methods t) h)) (row_tells h)

  -- ---- methods

  abbrev IsRow : (token table : ℕ) → Type 0
  IsRow token table = (row : ℕ) × IsToken token table row × HasRow it.known.image table row

  method_row : {t : ℕ} {m : MethodRef} → NamesMethod it.known.image names.owners t m → IsRow t 0x06 ⊎ IsRow t 0x0A ⊎ IsRow t 0x2B
  method_row (NamesMethod.defined {method = q} is there a b c d) = inl (q, is, there)
  method_row (NamesMethod.referred {row = q} is there a b c d) = inr (inl (q, is, there))
  method_row (NamesMethod.instantiated {row = q} is there a b c d) = inr (inr (q, is, there))

  by_method : (token : ℕ) (m : MethodRef) → names.methods token ≡ Some m → Tells (method_told it.methods token) (method_ref_weight m) × (row_told it token ≡ method_told it.methods token)
  by_method token m e = go (method_row ((tell.methods token m).0 e))
    where
      go : IsRow token 0x06 ⊎ IsRow token 0x0A ⊎ IsRow token 0x2B → Tells (method_told it.methods token) (method_ref_weight m) × (row_told it token ≡ method_told it.methods token)
      go (inl (q, is, there)) = (
        subst (λ (z : ℕ). Tells z (method_ref_weight m)) (sym (method_at it.methods token 0x06 q is)) (are.methods_are.methods_are q there names token m tell is e),
        told_at it token 0x06 q is,
      )
      go (inr (inl (q, is, there))) = (
        subst (λ (z : ℕ). Tells z (method_ref_weight m)) (sym (method_at it.methods token 0x0A q is)) (are.methods_are.members_are q there names token m tell is e),
        told_at it token 0x0A q is,
      )
      go (inr (inr (q, is, there))) = (
        subst (λ (z : ℕ). Tells z (method_ref_weight m)) (sym (method_at it.methods token 0x2B q is)) (are.methods_are.instances_are q there names token m tell is e),
        told_at it token 0x2B q is,
      )

  pub method_tells : (token : ℕ) (m : MethodRef) → names.methods token ≡ Some m → Tells (method_told it.methods token) (method_ref_weight m)
  method_tells token m e = (by_method token m e).0

  token_method : (token : ℕ) (m : MethodRef) → names.methods token ≡ Some m → Tells (row_told it token) (method_ref_weight m)
  token_method token m e = let h = by_method token m e in subst (λ (z : ℕ). Tells z (method_ref_weight m)) (sym h.1) h.0

  -- ---- fields

  stand : Stands it.known.image
  stand = stands it.known.image names (before it.known.image names are.known_are.meets are.known_are.scopes)

  field_row : {t : ℕ} {f : FieldRef} → NamesField it.known.image names.owners t f → IsRow t 0x04 ⊎ IsRow t 0x0A
  field_row (NamesField.defined {field = q} {type = t} is there has a b c d) = inl (q, is, stand.field_there q t there has)
  field_row (NamesField.referred {row = q} is there a b c d) = inr (q, is, there)

  token_field : (token : ℕ) (f : FieldRef) → names.fields token ≡ Some f → Tells (row_told it token) (field_ref_weight f)
  token_field token f e = go (field_row ((tell.fields token f).0 e))
    where
      go : IsRow token 0x04 ⊎ IsRow token 0x0A → Tells (row_told it token) (field_ref_weight f)
      go (inl (q, is, there)) =
          subst (λ (z : ℕ). Tells z (field_ref_weight f)) (sym (told_at it token 0x04 q is)) (are.fields_are q there names token f tell is e)
      go (inr (q, is, there)) =
          subst (λ (z : ℕ). Tells z (field_ref_weight f)) (sym (told_at it token 0x0A q is ∙ method_at it.methods token 0x0A q is)) (are.methods_are.fields_are q there names token f tell is e)

  -- ---- locals

  facts : AreFacts weighing names.owners it.known.facts
  facts = are.known_are.facts_are names tell

  bounds : AreBounded names.owners
  bounds = bounded it.known.image weighing names.owners tell.owners

  pub locals_tell : (token : ℕ) (types : List SigType) → SpellsLocals (reading names) token types → Tells (locals_told it token) (64 * length types + sum_by type_weight types)
  unfolding schema
  locals_tell token types (inl (nil, none)) =
      subst (λ (z : ℕ). Tells (locals_told it z) (64 * length types + sum_by type_weight types)) (sym nil) (subst (λ (ts : List SigType). Tells 0 (64 * length ts + sum_by type_weight ts)) (sym none) refl)
  locals_tell token types (inr (some, is)) = go ((tell.locals token types).0 is) some
    where
      go : {t : ℕ} {ts : List SigType} → NamesLocals it.known.image names.owners t ts → (t ≡ 0 → ⊥) → Tells (locals_told it t) (64 * length ts + sum_by type_weight ts)
      go (NamesLocals.signed {row = r} {token = t} {bytes = b} {types = ts} is there blob spelled) n =
          let p = token_parts t 0x11 r is in
          let e = is.is in
          let here : locals_told it t ≡ cell_weighed it.known kind.Locals 0x11 r 0 = other_token t r n p.1 in
          let w = here ∙ cell_is it.known are.known_are kind.Locals 0x11 r 0 there
          ∙ locals_weigh it.known.image names.owners it.known.facts facts bounds (locals_signature it.known.image r) b ts blob spelled in
          capped_tells (locals_told it t) (64 * length ts + sum_by type_weight ts) w
        where
          other_token : (t r : ℕ) → (t ≡ 0 → ⊥) → t % 2 ^ 24 ≡ r → locals_told it t ≡ cell_weighed it.known kind.Locals 0x11 r 0
          other_token t r n e =
              ap (λ (b : Bool). if b then 0 else cell_weighed it.known kind.Locals 0x11 (t % 2 ^ 24) 0) (ne_eqb t 0 n) ∙ ap (λ (z : ℕ). cell_weighed it.known kind.Locals 0x11 z 0) e

  -- ---- operands

  module _ (computed : BlobIsComputed) where
    token_text : (token : ℕ) (units : List ℕ) → names.texts token ≡ Some units → text_told it.known.image token ≡ 2 * length units
    unfolding text_told
    token_text token units e = go ((tell.texts token units).0 e)
      where
        go : {t : ℕ} {us : List ℕ} → NamesText it.known.image t us → text_told it.known.image t ≡ 2 * length us
        go (NamesText.entry bytes {index = i} {token = t} {units = us} is h e) =
            let p = token_parts t 0x70 i is in
            let last = h.0 in
            let found : blob_in (user_of it.known.image) (t % 2 ^ 24) ≡ Some (bytes ++ last ∷ []) = ap (blob_in (user_of it.known.image)) p.1 ∙ (computed (user_of it.known.image) i (bytes ++ last ∷ [])).0 h.1 in
            let l = length-append bytes (last ∷ []) in
            let k = text_length bytes us e in
            let whole = ap (λ (r : Option (List ℕ)). option_map_or length r 0 - 1) found in
            whole ∙ omega (arith, l, k)

    -- what an operand is that a token names
    abbrev Is : {V : Type 0} → (V → operand.Operand) → Option V → ℕ → Type 0
    Is {V = V} make found told = (v : V) → found ≡ Some v → Tells told (operand_weight (make v))

    found_tells : {V : Type 0} (make : V → operand.Operand) (found : Option V) (told : ℕ) (o : operand.Operand) → Is make found told → option_map make found ≡ Some o → Tells told (operand_weight o)
    found_tells make None told o h e = absurd (none-some o e)
    found_tells make (Some v) told o h e = subst (λ (x : operand.Operand). Tells told (operand_weight x)) (same_Some (make v) o e) (h v refl)

    or_tells : (a b : Option operand.Operand) (told : ℕ) (o : operand.Operand) → (a ≡ Some o → Tells told (operand_weight o)) → (b ≡ Some o → Tells told (operand_weight o)) → option_or a b ≡ Some o → Tells told (operand_weight o)
    or_tells None b told o f g e = g e
    or_tells (Some x) b told o f g e = f e

    is_method : (token : ℕ) → Is operand.TheVariants.Method (names.methods token) (row_told it token)
    unfolding operand_weight
    is_method token m e = token_method token m e

    is_field : (token : ℕ) → Is operand.TheVariants.Field (names.fields token) (row_told it token)
    unfolding operand_weight
    is_field token f e = token_field token f e

    is_owner : (token : ℕ) → Is operand.TheVariants.Of (names.owners token) (row_told it token)
    unfolding operand_weight
    is_owner token o e = owner_tells token o e

    is_text : (token : ℕ) → Is operand.TheVariants.Text (names.texts token) (text_told it.known.image token)
    unfolding operand_weight
    is_text token units e = ap (λ (n : ℕ). min n (2 ^ 27)) (token_text token units e)

    pub named_tells : (kd : OperandKind) (token : ℕ) (o : operand.Operand) → named names kd token ≡ Some o → Tells (told_as it kd token) (operand_weight o)
    named_tells kinds.Method token o e = found_tells operand.TheVariants.Method (names.methods token) (row_told it token) o (is_method token) e
    named_tells kinds.Field token o e = found_tells operand.TheVariants.Field (names.fields token) (row_told it token) o (is_field token) e
    named_tells kinds.Of token o e = found_tells operand.TheVariants.Of (names.owners token) (row_told it token) o (is_owner token) e
    named_tells kinds.Text token o e = found_tells operand.TheVariants.Text (names.texts token) (text_told it.known.image token) o (is_text token) e
    named_tells kinds.Token token o e =
        or_tells (option_map operand.TheVariants.Method (names.methods token)) (option_or (option_map operand.TheVariants.Field (names.fields token)) (option_map operand.TheVariants.Of (names.owners token))) (row_told it token) o
        (found_tells operand.TheVariants.Method (names.methods token) (row_told it token) o (is_method token))
        (or_tells (option_map operand.TheVariants.Field (names.fields token)) (option_map operand.TheVariants.Of (names.owners token)) (row_told it token) o
        (found_tells operand.TheVariants.Field (names.fields token) (row_told it token) o (is_field token)) (found_tells operand.TheVariants.Of (names.owners token) (row_told it token) o (is_owner token))) e
    named_tells _ token o e = absurd (none-some o e)

-- the entry of a user string that isn't there
pub text_lacks : (image : List ℕ) (token : ℕ) → BlobIsComputed → ((b : List ℕ) → HasBlob (user_of image) (token % 2 ^ 24) b → ⊥) → text_told image token ≡ 0
unfolding text_told
text_lacks image token computed lacks = go (blob_in (user_of image) (token % 2 ^ 24)) refl
  where
    go : (r : Option (List ℕ)) → blob_in (user_of image) (token % 2 ^ 24) ≡ r → option_map_or length r 0 - 1 ≡ 0
    go None e = refl
    go (Some b) e = absurd (lacks b ((computed (user_of image) (token % 2 ^ 24) b).1 e))
