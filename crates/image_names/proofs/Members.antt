-- What is kept of methods, fields and locals is what their tokens name, and of all that is named.
use Rattle.std.proofs.Common.{◌≡◌, ℕ, inl, inr, List, Option, Some, refl, sym, ◌∙◌, ap, subst}
use Rattle.metadata_tables.specs.declared.coded.Coded.TheVariants.{MethodDefOrRef}
use Rattle.type_terms.specs.declared.reference.FieldRef.{FieldRef}
use Rattle.type_terms.specs.declared.reference.MethodRef.{MethodRef}
use Rattle.type_terms.specs.declared.term.SigType.{SigType}
use Rattle.body_codec.specs.Names.{NameMap}
use Rattle.image_model.specs.Columns.{instance_method}
use Rattle.image_model.specs.Naming.{IsToken, NamesMethod, NamesField, NamesLocals}
use Rattle.image_model.specs.Rows.{HasRow, Names, token_of}
use Rattle.image_model.specs.Used.{IsReference, IsUsed}
use Rattle.image_namings.specs.Laws.{HangOnTokens}
use Rattle.image_namings.proofs.General.{names_one}
use Rattle.image_namings.proofs.Indexes.{no_reference}
use Rattle.image_ready.specs.Keeping.{IsNamed}
use Rattle.kept_names.specs.declared.names.KeptNames.{KeptNames}
use Rattle.kept_members.specs.Maps.{Has}
use Rattle.kept_members.specs.Members.{owners_of, CanKeep, IsInUse, IsMethodRow, AreMembers}
use Rattle.kept_members.proofs.Adding.{some_same}
use Rattle.kept_members.proofs.Naming.{table_is, row_is, used_there, declared, in_use as kept_in_use}
use Rattle.kept_texts.specs.Texts.{AreLocalsKept}
use Rattle.image_names.specs.Named.{CanName}
use Rattle.image_names.proofs.Agreeing.{named_used, method_told, field_told, member_method_told, member_field_told, locals_told, instance_told, member_method_kept, member_field_kept, owner_told}
use Rattle.image_names.proofs.Ready.{can_keep}

-- the row of a reference that a token names is in use
in_use : (image : List ℕ) (k table row : ℕ) → IsReference table → IsToken k table row → IsInUse image k → IsUsed image table row
in_use image k table row r t u =
    let same = table_is k u.table u.row u.is table row t in
    let at = row_is k u.table u.row u.is table row t in
    subst (λ (x : ℕ). IsUsed image table x) at (subst (λ (x : ℕ). IsUsed image x u.row) same (u.used (subst IsReference (sym same) r)))

-- so is that of one that is named
named_in_use : (image : List ℕ) (k table row t r : ℕ) → IsReference table → IsToken k table row → HasRow image table row → IsNamed image t r → IsToken k t r → IsUsed image table row
named_in_use image k table row t r ref is there n u =
    let same = table_is k t r u table row is in
    let at = row_is k t r u table row is in
    named_used ref there (subst (λ (x : ℕ). IsNamed image table x) at (subst (λ (x : ℕ). IsNamed image x r) same n))

-- what is kept of a key is what a map tells of it, where something is kept, and what is kept is so
pub found : {X : Type 0} (all told : ℕ → Option X) (key : ℕ) (x : X) → ((x : X) → all key ≡ Some x → told key ≡ Some x) → Has all key → told key ≡ Some x → all key ≡ Some x
found all told key x so has e = has.1 ∙ ap Some (some_same has.0 x (sym (so has.0 has.1) ∙ e))

module _ (image : List ℕ) (names : NameMap) (known : KeptNames) (can : CanName image names known) (hang : HangOnTokens) where
  can_members : CanKeep image known
  can_members = can_keep image names known can hang

  -- ---- methods

  -- the method that an instance is made of
  method_used : (table method : ℕ) → IsMethodRow image known table method → IsInUse image (token_of table method)
  method_used table method (inl d) = subst (λ (t : ℕ). IsInUse image (token_of t method)) (sym d.0) (declared image 0x06 method (can_members.few_methods method d.1) (no_reference 0x06 refl))
  method_used table method (inr r) = subst (λ (t : ℕ). IsInUse image (token_of t method)) (sym r.0) (kept_in_use image 0x0A method (can_members.few_members method (used_there r.1.0)) r.1.0)

  generic_used : (row table method : ℕ) → IsUsed image 0x2B row → Names MethodDefOrRef (instance_method image row) table method → IsInUse image (token_of table method)
  generic_used row table method used n =
      let o = can_members.instance_of row used in
      let e = names_one MethodDefOrRef (instance_method image row) o.0 o.1 table method o.2 n in
      method_used table method (subst (λ (r : ℕ). IsMethodRow image known table r) e.1 (subst (λ (t : ℕ). IsMethodRow image known t o.1) e.0 o.3))

  method_told_of : (k : ℕ) {m : MethodRef} → NamesMethod image (owners_of known) k m → IsInUse image k → NamesMethod image names.owners k m
  method_told_of k (NamesMethod.defined {method = method} {bytes = bytes} {sig = sig} t there belongs text blob is) u =
      let h = method_told image names known can.named can.owners hang method sig there (bytes, blob, is) in
      NamesMethod.defined t there belongs text h.1 h.2
  method_told_of k (NamesMethod.referred {row = row} {owner = owner} {bytes = bytes} {sig = sig} t there owns text blob is) u =
      let used = in_use image k 0x0A row (inr (inl refl)) t u in
      let h = member_method_told image names known can.named can.owners hang row sig used (bytes, blob, is) in
      NamesMethod.referred t there (owner_told image names known can.named can.owners hang row owner used owns) text h.1 h.2
  method_told_of k (NamesMethod.instantiated {row = row} {table = table} {method = method} {bytes = bytes} {args = args} t there n of blob is) u =
      let used = in_use image k 0x2B row (inr (inr (inr (inr refl)))) t u in
      let h = instance_told image names known can.named can.owners hang row args used (bytes, blob, is) in
      NamesMethod.instantiated t there n (method_told_of (token_of table method) of (generic_used row table method used n)) h.1 h.2

  module _ (methods : ℕ → Option MethodRef) (fields : ℕ → Option FieldRef) (are : AreMembers image known methods fields) where
    pub methods_so : (k : ℕ) (m : MethodRef) → methods k ≡ Some m → names.methods k ≡ Some m
    methods_so k m e = let t = are.true_methods k m e in (can.named.methods k m).1 (method_told_of k t.0 t.1)

    has_method : (k t r : ℕ) {m : MethodRef} → NamesMethod image names.owners k m → IsNamed image t r → IsToken k t r → Has methods k
    has_method k t r (NamesMethod.defined {method = method} is there belongs text blob sig) n u = subst (Has methods) (sym is.is) (are.methods method there)
    has_method k t r (NamesMethod.referred {row = row} {bytes = bytes} {sig = sig} is there owns text blob spelled) n u =
        let used = named_in_use image k 0x0A row t r (inr (inl refl)) is there n u in
        subst (Has methods) (sym is.is) (are.member_methods row (used, sig, member_method_kept image names known can.named can.owners hang row sig used (bytes, blob, spelled)))
    has_method k t r (NamesMethod.instantiated {row = row} is there of generic blob args) n u =
        let used = named_in_use image k 0x2B row t r (inr (inr (inr (inr refl)))) is there n u in
        subst (Has methods) (sym is.is) (are.instances row (used, is.fits))

    pub methods_kept : (k t r : ℕ) (m : MethodRef) → IsNamed image t r → IsToken k t r → names.methods k ≡ Some m → methods k ≡ Some m
    methods_kept k t r m n u e = found methods names.methods k m (λ x h. methods_so k x h) (has_method k t r ((can.named.methods k m).0 e) n u) e

    -- ---- fields

    field_told_of : (k : ℕ) {f : FieldRef} → NamesField image (owners_of known) k f → IsInUse image k → NamesField image names.owners k f
    field_told_of k (NamesField.defined {field = field} {type = type} {bytes = bytes} {of = of} t there has path text blob is) u =
        let h = field_told image names known can.named can.owners hang field of (can_members.field_there type field there has) (bytes, blob, is) in
        NamesField.defined t there has path text h.1 h.2
    field_told_of k (NamesField.referred {row = row} {owner = owner} {bytes = bytes} {of = of} t there owns text blob is) u =
        let used = in_use image k 0x0A row (inr (inl refl)) t u in
        let h = member_field_told image names known can.named can.owners hang row of used (bytes, blob, is) in
        NamesField.referred t there (owner_told image names known can.named can.owners hang row owner used owns) text h.1 h.2

    pub fields_so : (k : ℕ) (f : FieldRef) → fields k ≡ Some f → names.fields k ≡ Some f
    fields_so k f e = let t = are.true_fields k f e in (can.named.fields k f).1 (field_told_of k t.0 t.1)

    has_field : (k t r : ℕ) {f : FieldRef} → NamesField image names.owners k f → IsNamed image t r → IsToken k t r → Has fields k
    has_field k t r (NamesField.defined {field = field} {type = type} is there has path text blob sig) n u = subst (Has fields) (sym is.is) (are.fields field (can_members.field_there type field there has))
    has_field k t r (NamesField.referred {row = row} {bytes = bytes} {of = of} is there owns text blob spelled) n u =
        let used = named_in_use image k 0x0A row t r (inr (inl refl)) is there n u in
        subst (Has fields) (sym is.is) (are.member_fields row (used, of, member_field_kept image names known can.named can.owners hang row of used (bytes, blob, spelled)))

    pub fields_kept : (k t r : ℕ) (f : FieldRef) → IsNamed image t r → IsToken k t r → names.fields k ≡ Some f → fields k ≡ Some f
    fields_kept k t r f n u e = found fields names.fields k f (λ x h. fields_so k x h) (has_field k t r ((can.named.fields k f).0 e) n u) e

  -- ---- locals

  module _ (locals : ℕ → Option (List SigType)) (are : AreLocalsKept image known locals) where
    local_told_of : (k : ℕ) {ts : List SigType} → NamesLocals image (owners_of known) k ts → IsInUse image k → NamesLocals image names.owners k ts
    local_told_of k (NamesLocals.signed {row = row} {bytes = bytes} {types = types} t there blob is) u =
        let used = in_use image k 0x11 row (inr (inr (inl refl))) t u in
        let h = locals_told image names known can.named can.owners hang row types used (bytes, blob, is) in
        NamesLocals.signed t there h.1 h.2

    pub locals_so : (k : ℕ) (ts : List SigType) → locals k ≡ Some ts → names.locals k ≡ Some ts
    locals_so k ts e = let t = are.so k ts e in (can.named.locals k ts).1 (local_told_of k t.0 t.1)

    has_locals : (k t r : ℕ) {ts : List SigType} → NamesLocals image names.owners k ts → IsNamed image t r → IsToken k t r → Has locals k
    has_locals k t r (NamesLocals.signed {row = row} is there blob spelled) n u =
        let used = named_in_use image k 0x11 row t r (inr (inr (inl refl))) is there n u in
        subst (Has locals) (sym is.is) (are.has row (used, is.fits))

    pub locals_kept : (k t r : ℕ) (ts : List SigType) → IsNamed image t r → IsToken k t r → names.locals k ≡ Some ts → locals k ≡ Some ts
    locals_kept k t r ts n u e = found locals names.locals k ts (λ x h. locals_so k x h) (has_locals k t r ((can.named.locals k ts).0 e) n u) e
