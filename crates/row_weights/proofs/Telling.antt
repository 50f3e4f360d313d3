-- What is told of rows is what they weigh.
use Rattle.std.proofs.Common.{◌≡◌, ℕ, ◌+◌, ◌^◌, ◌<◌, ◌⊎◌, inl, inr, true, List, Contains, length, get_or, Option, Some, None, refl, sym, ap, subst, ◌∙◌, arith}
use Rattle.std.proofs.lemmas.Bool.{cond-true}
use Rattle.std.proofs.lemmas.Grind.{common_steps}
use Rattle.std.specs.Prelude.{if◌then◌else◌, sum_by}
use Rattle.assembly_tree.specs.Weight.{id_weight, name_weight, type_weight, owner_weight, owner_step, type_step, signature_weight, method_ref_weight, field_ref_weight}
use Rattle.body_codec.specs.Names.{NameMap}
use Rattle.heaps.specs.Content.{HasText, HasBlob}
use Rattle.image_model.specs.Cells.{NamesRow}
use Rattle.image_model.specs.Columns.{field_name, field_signature, method_name, method_signature, member_parent, member_name, member_signature, type_spec_signature, instance_method, instance_arguments}
use Rattle.image_model.specs.Naming.{HasPath, RowOwner, OwnsMethod, OwnsMember, IsToken, NamesMethod, NamesField, here}
use Rattle.image_model.specs.Namings.{AreNamings}
use Rattle.image_model.specs.Rows.{HasRow, Names, token_of, fields_of, methods_of}
use Rattle.image_model.specs.Streams.{strings_of, blobs_of, tables_of}
use Rattle.image_namings.proofs.General.{names_one}
use Rattle.image_namings.proofs.Indexes.{method_tables, named_row}
use Rattle.image_namings.proofs.Rows.{few_methods, few_members}
use Rattle.metadata_tables.specs.Schema.{schema}
use Rattle.metadata_tables.specs.Stream.{cell}
use Rattle.metadata_tables.specs.declared.coded.Coded.TheVariants.{MemberRefParent, MethodDefOrRef}
use Rattle.name_weights.specs.Weights.{is_row, weighing}
use Rattle.signature_facts.specs.Facts.{capped}
use Rattle.signature_facts.specs.Owners.{AreFacts, AreBounded}
use Rattle.spec_facts.proofs.Owned.{bounded}
use Rattle.told_weights.specs.Told.{Tells}
use Rattle.type_names.specs.Forest.{ref_node}
use Rattle.type_names.specs.Numbers.{NodeNames, IsNode}
use Rattle.type_terms.proofs.Layers.{fold-Name, fold-Spec}
use Rattle.type_terms.specs.declared.name.Scope.{Scope}
use Rattle.type_terms.specs.declared.name.Scope.TheVariants.{Here}
use Rattle.type_terms.specs.declared.name.TypeId.{TypeId}
use Rattle.type_terms.specs.declared.reference.FieldRef.{FieldRef}
use Rattle.type_terms.specs.declared.reference.MethodRef.{MethodRef}
use Rattle.type_terms.specs.declared.term.Owner.{Owner, Name, Spec}
use Rattle.type_terms.specs.declared.term.SigType.{SigType}
use Rattle.row_weights.specs.declared.kind.Kind.{Kind}
use Rattle.row_weights.specs.declared.kind.Kind.TheVariants as kind
use Rattle.row_weights.specs.Signatures.{weighed}
use Rattle.row_weights.specs.Rows.{Known, AreKnown, cell_weighed, owner_weighed, IsOwner, IsTextAt, MemberOwnerTold, ParentTold, MethodTold, FieldTold, GenericTold, generic_in, TellRows}
use Rattle.row_weights.proofs.Weighing.{type_weighs, field_weighs, method_weighs, arguments_weigh, method_alone, field_alone}

-- ---- owners

pub name_owner : (scope : Scope) (path : List TypeId) → owner_weight (Name (record { scope = scope; path = path })) ≡ sum_by id_weight path
unfolding name_weight
name_owner scope path = fold-Name ℕ ℕ owner_step type_step (record { scope = scope; path = path })

spec_owner : (term : SigType) → owner_weight (Spec term) ≡ type_weight term
spec_owner term = fold-Spec ℕ ℕ owner_step type_step term

pub row_is : (image : List ℕ) (table row : ℕ) → HasRow image table row → is_row image table row ≡ true
row_is image table row h = grind (arith, common_steps)

token_row : (token t r u s : ℕ) → IsToken token t r → IsToken token u s → (t ≡ u) × (r ≡ s)
token_row token t r u s a b =
    let e = a.is in
    let f = a.fits in
    let g = b.is in
    let h = b.fits in
    (omega (arith, e, f, g, h), omega (arith, e, f, g, h))

module _ (it : Known) (known : AreKnown it) where
  pub cell_is : (kind : Kind) (table row column : ℕ) → HasRow it.image table row → cell_weighed it kind table row column ≡ weighed it.image it.facts kind (cell (tables_of it.image) table row column)
  cell_is kind table row column there = ap (λ b. if b then weighed it.image it.facts kind (cell (tables_of it.image) table row column) else 0) (row_is it.image table row there)

  type_weight_is : (row : ℕ) (path : List TypeId) → HasRow it.image 0x02 row → HasPath it.image row path → get_or it.weights row 0 ≡ capped (owner_weight (here path))
  type_weight_is row path there h =
      let b = there.1 in
      let node : IsNode it.image row = (there.0, omega (arith, b)) in
      known.weights_are.each row Here path node (NodeNames.type there h) ∙ ap capped (sym (name_owner Here path))

  -- what the type weighs that has a member
  pub owner_has : (row type : ℕ) (o : Owner) → IsOwner it.image (methods_of it.image) row type → OwnsMethod it.image row o → get_or it.weights type 0 ≡ capped (owner_weight o)
  owner_has row type o own (OwnsMethod.owns {type = t} {path = p} there has h) =
      ap (λ (z : ℕ). get_or it.weights z 0) (sym (own.only t there has)) ∙ type_weight_is t p there h

  module _ (names : NameMap) (are : AreNamings it.image names) where
    facts_are : AreFacts weighing names.owners it.facts
    facts_are = known.facts_are names are

    bounds : AreBounded names.owners
    bounds = bounded it.image weighing names.owners are.owners

    pub owner_told : {table row : ℕ} {o : Owner} → RowOwner it.image names.owners table row o → owner_weighed it table row ≡ capped (owner_weight o)
    unfolding owner_weighed
    owner_told (RowOwner.defined {type = t} {path = p} e there h) =
        ap (λ (z : ℕ). owner_weighed it z t) e ∙ cond-true (is_row it.image 0x02 t) _ _ (row_is it.image 0x02 t there) ∙ type_weight_is t p there h
    owner_told (RowOwner.referred {row = r} {scope = s} {path = p} e there h) =
        let a = there.0 in
        let b = there.1 in
        let node : IsNode it.image (ref_node it.image r) = (omega (arith, a), omega (arith, b)) in
        ap (λ (z : ℕ). owner_weighed it z r) e ∙ cond-true (is_row it.image 0x01 r) _ _ (row_is it.image 0x01 r there)
        ∙ known.weights_are.each (ref_node it.image r) s p node (NodeNames.reference there refl h) ∙ ap capped (sym (name_owner s p))
    owner_told (RowOwner.specified {row = r} {bytes = b} {term = t} e there blob is) =
        ap (λ (z : ℕ). owner_weighed it z r) e ∙ cell_is kind.Type 0x1B r 0 there
        ∙ type_weighs it.image names.owners it.facts facts_are bounds (type_spec_signature it.image r) b t blob is ∙ ap capped (sym (spec_owner t))

  -- ---- the owner of a MemberRef

  pub parent_owner : (table row told : ℕ) → (table ≡ 0x06 → ⊥) → told ≡ owner_weighed it table row → ParentTold it.image table row told
  parent_owner table row told n e = record {
    by_type = λ names o are h. e ∙ owner_told names are h;
    by_method = λ o t there h. absurd (n t);
  }

  no_method_owner : {table row : ℕ} {o : Owner} (owners : ℕ → Option Owner) → table ≡ 0x06 → RowOwner it.image owners table row o → ⊥
  no_method_owner owners e (RowOwner.defined f there h) = absurd (omega (arith, e, f))
  no_method_owner owners e (RowOwner.referred f there h) = absurd (omega (arith, e, f))
  no_method_owner owners e (RowOwner.specified f there b h) = absurd (omega (arith, e, f))

  pub parent_method : (table row type told : ℕ) → table ≡ 0x06 → IsOwner it.image (methods_of it.image) row type → told ≡ get_or it.weights type 0 → ParentTold it.image table row told
  parent_method table row type told t own e = record {
    by_type = λ names o are h. absurd (no_method_owner names.owners t h);
    by_method = λ o f there h. e ∙ owner_has row type o own h;
  }

  pub parent_none : (table row told : ℕ) → table ≡ 0x06 → (HasRow it.image 0x06 row → ⊥) → ParentTold it.image table row told
  parent_none table row told t n = record {
    by_type = λ names o are h. absurd (no_method_owner names.owners t h);
    by_method = λ o f there h. absurd (n there);
  }

  parent_there : (row : ℕ) → HasRow it.image 0x0A row → NamesRow it.image MemberRefParent (member_parent it.image row)
  unfolding schema
  parent_there row there = named_row it.image MemberRefParent (member_parent it.image row) (known.meets.indexes 0x0A row there 0 (omega arith))

  pub member_owner : (row table parent told : ℕ) → HasRow it.image 0x0A row → Names MemberRefParent (member_parent it.image row) table parent → ParentTold it.image table parent told → MemberOwnerTold it.image row told
  member_owner row table parent told there n p names o are own = go own refl
    where
      go : {r : ℕ} {o : Owner} → OwnsMember it.image names.owners r o → r ≡ row → told ≡ capped (owner_weight o)
      go {o = o} (OwnsMember.by_type {row = r} {table = t} {parent = q} m h) e =
          let same = names_one MemberRefParent (member_parent it.image row) t q table parent (subst (λ (z : ℕ). Names MemberRefParent (member_parent it.image z) t q) e m) n in
          p.by_type names o are (subst (λ (z : ℕ). RowOwner it.image names.owners z parent o) same.0 (subst (λ (z : ℕ). RowOwner it.image names.owners t z o) same.1 h))
      go {o = o} (OwnsMember.by_method {row = r} {method = q} m h) e =
          let same = names_one MemberRefParent (member_parent it.image row) 0x06 q table parent (subst (λ (z : ℕ). Names MemberRefParent (member_parent it.image z) 0x06 q) e m) n in
          let row_there = parent_there row there in
          let one = names_one MemberRefParent (member_parent it.image row) row_there.0 row_there.1 table parent row_there.2 n in
          let at : HasRow it.image 0x06 parent = subst (λ (z : ℕ). HasRow it.image z parent) (sym same.0) (subst (λ (z : ℕ). HasRow it.image table z) one.1 (subst (λ (z : ℕ). HasRow it.image z row_there.1) one.0 row_there.3)) in
          p.by_method o (sym same.0) at (subst (λ (z : ℕ). OwnsMethod it.image z o) same.1 h)

  pub member_ownerless : (row told : ℕ) → HasRow it.image 0x0A row → ((table parent : ℕ) → Names MemberRefParent (member_parent it.image row) table parent → ⊥) → MemberOwnerTold it.image row told
  member_ownerless row told there n = let h = parent_there row there in absurd (n h.0 h.1 h.2)

  -- ---- references

  -- the sum of what the parts weigh
  sum_tells : (told o n s ow nw sw : ℕ) → told ≡ 64 + o + n + s → o ≡ capped ow → n ≡ capped nw → s ≡ capped sw → Tells told (64 + ow + nw + sw)
  sum_tells told o n s ow nw sw e a b c = omega (arith, e, a, b, c)

  method_parts : (r : MethodRef) → r.args ≡ None → method_ref_weight r ≡ 64 + owner_weight r.owner + length r.name + signature_weight r.sig
  unfolding method_ref_weight
  method_parts r e = rw e (omega arith)

  field_parts : (r : FieldRef) → field_ref_weight r ≡ 64 + owner_weight r.owner + length r.name + type_weight r.of
  unfolding field_ref_weight
  field_parts r = refl

  pub method_def : (row type told n s : ℕ) → HasRow it.image 0x06 row → IsOwner it.image (methods_of it.image) row type → IsTextAt it.image 0x06 row 3 n → s ≡ cell_weighed it kind.Method 0x06 row 4
      → told ≡ 64 + get_or it.weights type 0 + n + s → MethodTold it.image 0x06 row told
  method_def row type told n s there own text sig e names token m are tok h = go ((are.methods token m).0 h) tok
    where
      go : {t : ℕ} {m : MethodRef} → NamesMethod it.image names.owners t m → IsToken t 0x06 row → Tells told (method_ref_weight m)
      go (NamesMethod.defined {method = q} {token = t} {owner = o} {name = nm} {bytes = b} {sig = sg} is q_there ow_is nm_is blob spelled) k =
          let same : q ≡ row = (token_row t 0x06 q 0x06 row is k).1 in
          let ow = owner_has row type o own (subst (λ (z : ℕ). OwnsMethod it.image z o) same ow_is) in
          let nw = text nm (subst (λ (z : ℕ). HasText (strings_of it.image) (method_name it.image z) nm) same nm_is) in
          let sw = sig ∙ cell_is kind.Method 0x06 row 4 there
          ∙ method_weighs it.image names.owners it.facts (facts_are names are) (bounds names are) (method_signature it.image row) b sg (subst (λ (z : ℕ). HasBlob (blobs_of it.image) (method_signature it.image z) b) same blob) spelled in
          subst (Tells told) (sym (method_parts (record { owner = o; name = nm; sig = sg; args = None }) refl)) (sum_tells told (get_or it.weights type 0) n s (owner_weight o) (length nm) (signature_weight sg) e ow nw sw)
      go (NamesMethod.referred {row = q} {token = t} is q_there ow_is nm_is blob spelled) k = absurd (omega (arith, (token_row t 0x0A q 0x06 row is k).0))
      go (NamesMethod.instantiated {row = q} {token = t} is q_there coded g blob spelled) k = absurd (omega (arith, (token_row t 0x2B q 0x06 row is k).0))

  pub field_def : (row type told n s : ℕ) → HasRow it.image 0x04 row → IsOwner it.image (fields_of it.image) row type → IsTextAt it.image 0x04 row 1 n → s ≡ cell_weighed it kind.Field 0x04 row 2
      → told ≡ 64 + get_or it.weights type 0 + n + s → FieldTold it.image 0x04 row told
  field_def row type told n s there own text sig e names token f are tok h = go ((are.fields token f).0 h) tok
    where
      go : {t : ℕ} {f : FieldRef} → NamesField it.image names.owners t f → IsToken t 0x04 row → Tells told (field_ref_weight f)
      go (NamesField.defined {field = q} {token = t} {type = ty} {path = p} {name = nm} {bytes = b} {of = of} is ty_there has path nm_is blob spelled) k =
          let same : q ≡ row = (token_row t 0x04 q 0x04 row is k).1 in
          let at : ty ≡ type = own.only ty ty_there (subst (λ (z : ℕ). Contains (fields_of it.image ty) z) same has) in
          let ow : get_or it.weights type 0 ≡ capped (owner_weight (here p)) = ap (λ (z : ℕ). get_or it.weights z 0) (sym at) ∙ type_weight_is ty p ty_there path in
          let nw = text nm (subst (λ (z : ℕ). HasText (strings_of it.image) (field_name it.image z) nm) same nm_is) in
          let sw = sig ∙ cell_is kind.Field 0x04 row 2 there
          ∙ field_weighs it.image names.owners it.facts (facts_are names are) (bounds names are) (field_signature it.image row) b of (subst (λ (z : ℕ). HasBlob (blobs_of it.image) (field_signature it.image z) b) same blob) spelled in
          subst (Tells told) (sym (field_parts (record { owner = here p; name = nm; of = of }))) (sum_tells told (get_or it.weights type 0) n s (owner_weight (here p)) (length nm) (type_weight of) e ow nw sw)
      go (NamesField.referred {row = q} {token = t} is q_there ow_is nm_is blob spelled) k = absurd (omega (arith, (token_row t 0x0A q 0x04 row is k).0))

  module _ (row told o n s f : ℕ) (there : HasRow it.image 0x0A row) (own : MemberOwnerTold it.image row o) (text : IsTextAt it.image 0x0A row 1 n) (sig : s ≡ cell_weighed it kind.Method 0x0A row 2)
      (of_is : f ≡ cell_weighed it kind.Field 0x0A row 2) (e : told ≡ 64 + o + n + s + f) where
    pub member_method : MethodTold it.image 0x0A row told
    member_method names token m are tok h = go ((are.methods token m).0 h) tok
      where
        go : {t : ℕ} {m : MethodRef} → NamesMethod it.image names.owners t m → IsToken t 0x0A row → Tells told (method_ref_weight m)
        go (NamesMethod.defined {method = q} {token = t} is q_there ow_is nm_is blob spelled) k = absurd (omega (arith, (token_row t 0x06 q 0x0A row is k).0))
        go (NamesMethod.referred {row = q} {token = t} {owner = ow} {name = nm} {bytes = b} {sig = sg} is q_there ow_is nm_is blob spelled) k =
            let same : q ≡ row = (token_row t 0x0A q 0x0A row is k).1 in
            let b_is : HasBlob (blobs_of it.image) (member_signature it.image row) b = subst (λ (z : ℕ). HasBlob (blobs_of it.image) (member_signature it.image z) b) same blob in
            let a = own names ow are (subst (λ (z : ℕ). OwnsMember it.image names.owners z ow) same ow_is) in
            let c = text nm (subst (λ (z : ℕ). HasText (strings_of it.image) (member_name it.image z) nm) same nm_is) in
            let d = sig ∙ cell_is kind.Method 0x0A row 2 there ∙ method_weighs it.image names.owners it.facts (facts_are names are) (bounds names are) (member_signature it.image row) b sg b_is spelled in
            let z = of_is ∙ cell_is kind.Field 0x0A row 2 there ∙ method_alone it.image names.owners it.facts (facts_are names are) (bounds names are) (member_signature it.image row) b sg b_is spelled in
            subst (Tells told) (sym (method_parts (record { owner = ow; name = nm; sig = sg; args = None }) refl)) (sum_tells told o n s (owner_weight ow) (length nm) (signature_weight sg) (omega (arith, e, z)) a c d)
        go (NamesMethod.instantiated {row = q} {token = t} is q_there coded g blob spelled) k = absurd (omega (arith, (token_row t 0x2B q 0x0A row is k).0))

    pub member_field : FieldTold it.image 0x0A row told
    member_field names token r are tok h = go ((are.fields token r).0 h) tok
      where
        go : {t : ℕ} {r : FieldRef} → NamesField it.image names.owners t r → IsToken t 0x0A row → Tells told (field_ref_weight r)
        go (NamesField.defined {field = q} {token = t} is ty_there has path nm_is blob spelled) k = absurd (omega (arith, (token_row t 0x04 q 0x0A row is k).0))
        go (NamesField.referred {row = q} {token = t} {owner = ow} {name = nm} {bytes = b} {of = of} is q_there ow_is nm_is blob spelled) k =
            let same : q ≡ row = (token_row t 0x0A q 0x0A row is k).1 in
            let b_is : HasBlob (blobs_of it.image) (member_signature it.image row) b = subst (λ (z : ℕ). HasBlob (blobs_of it.image) (member_signature it.image z) b) same blob in
            let a = own names ow are (subst (λ (z : ℕ). OwnsMember it.image names.owners z ow) same ow_is) in
            let c = text nm (subst (λ (z : ℕ). HasText (strings_of it.image) (member_name it.image z) nm) same nm_is) in
            let d = of_is ∙ cell_is kind.Field 0x0A row 2 there ∙ field_weighs it.image names.owners it.facts (facts_are names are) (bounds names are) (member_signature it.image row) b of b_is spelled in
            let z = sig ∙ cell_is kind.Method 0x0A row 2 there ∙ field_alone it.image names.owners it.facts (facts_are names are) (bounds names are) (member_signature it.image row) b of b_is spelled in
            subst (Tells told) (sym (field_parts (record { owner = ow; name = nm; of = of }))) (sum_tells told o n f (owner_weight ow) (length nm) (type_weight of) (omega (arith, e, z)) a c d)

  -- ---- MethodSpec

  method_there : (row table method : ℕ) → HasRow it.image 0x2B row → Names MethodDefOrRef (instance_method it.image row) table method → HasRow it.image table method
  unfolding schema
  method_there row table method there n =
      let h = named_row it.image MethodDefOrRef (instance_method it.image row) (known.meets.indexes 0x2B row there 0 (omega arith)) in
      let one = names_one MethodDefOrRef (instance_method it.image row) h.0 h.1 table method h.2 n in
      subst (λ (z : ℕ). HasRow it.image table z) one.1 (subst (λ (z : ℕ). HasRow it.image z h.1) one.0 h.3)

  method_few : (table method : ℕ) → (table ≡ 0x06) ⊎ (table ≡ 0x0A) → HasRow it.image table method → method < 2 ^ 24
  method_few table method (inl e) there = few_methods it.image method known.short known.tables (subst (λ (z : ℕ). HasRow it.image z method) e there)
  method_few table method (inr e) there = few_members it.image method known.short known.tables (subst (λ (z : ℕ). HasRow it.image z method) e there)

  -- the method of a MethodSpec, by its index
  pub generic_found : (methods members : List ℕ) → TellRows it.image 0x06 (MethodTold it.image 0x06) methods → TellRows it.image 0x0A (MethodTold it.image 0x0A) members → (row table method told : ℕ) → HasRow it.image 0x2B row
      → Names MethodDefOrRef (instance_method it.image row) table method → told ≡ generic_in methods members table method → GenericTold it.image row told
  generic_found methods members defs refs row table method told there n e names t q g are m h =
      let one = names_one MethodDefOrRef (instance_method it.image row) t q table method m n in
      let at : HasRow it.image t q = method_there row t q there m in
      let kinds = method_tables (instance_method it.image row) t q m in
      let few = method_few t q kinds at in
      let told_is : told ≡ generic_in methods members t q = e ∙ ap (λ (z : ℕ). generic_in methods members z method) (sym one.0) ∙ ap (λ (z : ℕ). generic_in methods members t z) (sym one.1) in
      let named : names.methods (token_of t q) ≡ Some g = (are.methods (token_of t q) g).1 h in
      elim kinds [
        | inl k ↦
            let here_told : told ≡ get_or methods q 0 = told_is ∙ ap (λ (z : ℕ). generic_in methods members z q) k in
            let q_there : HasRow it.image 0x06 q = subst (λ (z : ℕ). HasRow it.image z q) k at in
            subst (λ (z : ℕ). Tells z (method_ref_weight g)) (sym here_told) (defs q q_there names (token_of t q) g are (record { is = ap (λ (z : ℕ). token_of z q) k; fits = few }) named)
        | inr k ↦
            let here_told : told ≡ get_or members q 0 = told_is ∙ ap (λ (z : ℕ). generic_in methods members z q) k in
            let q_there : HasRow it.image 0x0A q = subst (λ (z : ℕ). HasRow it.image z q) k at in
            subst (λ (z : ℕ). Tells z (method_ref_weight g)) (sym here_told) (refs q q_there names (token_of t q) g are (record { is = ap (λ (z : ℕ). token_of z q) k; fits = few }) named)
      ]

  pub generic_lacks : (row told : ℕ) → HasRow it.image 0x2B row → ((table method : ℕ) → Names MethodDefOrRef (instance_method it.image row) table method → ⊥) → GenericTold it.image row told
  generic_lacks row told there lacks names t q g are m h = absurd (lacks t q m)

  -- a method that isn't a MethodSpec has no arguments
  plain : (table method : ℕ) → (table ≡ 0x06) ⊎ (table ≡ 0x0A) → method < 2 ^ 24 → {t : ℕ} {m : MethodRef} (names : NameMap) → NamesMethod it.image names.owners t m → t ≡ token_of table method → m.args ≡ None
  plain table method kinds few names (NamesMethod.defined is there ow_is nm blob spelled) e = refl
  plain table method kinds few names (NamesMethod.referred is there ow_is nm blob spelled) e = refl
  plain table method (inl k) few names (NamesMethod.instantiated {row = q} {token = t} is there coded g blob spelled) e =
      let a = is.is in
      let b = is.fits in
      absurd (omega (arith, a, b, e, few, k))
  plain table method (inr k) few names (NamesMethod.instantiated {row = q} {token = t} is there coded g blob spelled) e =
      let a = is.is in
      let b = is.fits in
      absurd (omega (arith, a, b, e, few, k))

  argued : (r : MethodRef) (args : List SigType)
      → method_ref_weight (record { owner = r.owner; name = r.name; sig = r.sig; args = Some args }) ≡ 64 + owner_weight r.owner + length r.name + signature_weight r.sig + sum_by type_weight args
  unfolding method_ref_weight
  argued r args = refl

  with_arguments : (r : MethodRef) (args : List SigType) (told g a : ℕ) → r.args ≡ None → told ≡ g + a → Tells g (method_ref_weight r) → a ≡ capped (sum_by type_weight args)
      → Tells told (method_ref_weight (record { owner = r.owner; name = r.name; sig = r.sig; args = Some args }))
  with_arguments r args told g a none e h k = omega (arith, e, h, k, method_parts r none, argued r args)

  pub instance_told : (row told g a : ℕ) → HasRow it.image 0x2B row → GenericTold it.image row g → a ≡ cell_weighed it kind.Instantiation 0x2B row 1 → told ≡ g + a → MethodTold it.image 0x2B row told
  instance_told row told g a there generic args e names token m are tok h = go ((are.methods token m).0 h) tok
    where
      go : {t : ℕ} {m : MethodRef} → NamesMethod it.image names.owners t m → IsToken t 0x2B row → Tells told (method_ref_weight m)
      go (NamesMethod.defined {method = q} {token = t} is q_there ow_is nm_is blob spelled) k = absurd (omega (arith, (token_row t 0x06 q 0x2B row is k).0))
      go (NamesMethod.referred {row = q} {token = t} is q_there ow_is nm_is blob spelled) k = absurd (omega (arith, (token_row t 0x0A q 0x2B row is k).0))
      go (NamesMethod.instantiated {row = q} {token = t} {table = table} {method = method} {generic = gm} {bytes = b} {args = ts} is q_there coded named blob spelled) k =
          let same : q ≡ row = (token_row t 0x2B q 0x2B row is k).1 in
          let c : Names MethodDefOrRef (instance_method it.image row) table method = subst (λ (z : ℕ). Names MethodDefOrRef (instance_method it.image z) table method) same coded in
          let kinds = method_tables (instance_method it.image row) table method c in
          let few = method_few table method kinds (method_there row table method there c) in
          let none = plain table method kinds few names named refl in
          let a_is = args ∙ cell_is kind.Instantiation 0x2B row 1 there
          ∙ arguments_weigh it.image names.owners it.facts (facts_are names are) (bounds names are) (instance_arguments it.image row) b ts (subst (λ (z : ℕ). HasBlob (blobs_of it.image) (instance_arguments it.image z) b) same blob) spelled in
          with_arguments gm ts told g a none e (generic names table method gm are c named) a_is
