-- What is asked of a row of one table, and of no other.
use Rattle.std.proofs.Common.{◌≡◌, ◌↔◌, ℕ, ◌≤◌, ◌⊎◌, inl, inr, Bool, true, false, List, Option, Some, None, refl, sym, ap, subst, ◌∙◌, arith}
use Rattle.std.specs.Prelude.{IsTrue}
use Rattle.metadata_tables.specs.declared.coded.Coded.TheVariants.{MethodDefOrRef}
use Rattle.metadata_tables.specs.declared.schema.Column.TheVariants.{Tagged}
use Rattle.sig_codec.proofs.Numbers.{some_is}
use Rattle.image_model.specs.Cells.{IsIndex, HasIndexes}
use Rattle.image_model.specs.Columns.{field_signature, method_signature, member_signature, property_signature, locals_signature, type_spec_signature, instance_method, instance_arguments, override_body, override_declaration}
use Rattle.image_model.specs.Rows.{HasRow, Names}
use Rattle.image_model.specs.Terms.{max_count}
use Rattle.image_model.specs.Used.{IsUsed, by_row, by_reference, by_body}
use Rattle.metadata_tables.specs.CodedIndex.{unpacked}
use Rattle.metadata_tables.specs.Schema.{schema}
use Rattle.signature_facts.specs.Scanning.{OwnersFacts, whole_type, whole_locals, whole_instantiation, whole_property}
use Rattle.signature_demands.specs.Named.{MembersAreThere}
use Rattle.signature_bounds.specs.Bounded.{scanned_at, IsKept, HasRank, IsBounded, FieldIs, MethodIs, NamesMethod, HasBounded}

used_there : {image : List ℕ} {table row : ℕ} → IsUsed image table row → HasRow image table row
used_there (by_row a b c d e) = e
used_there (by_reference a b c d) = d
used_there (by_body a b c d e) = e

-- an answer that means one thing means another that is the same
pub means : (A B : Type 0) (b : Bool) → (A → B) → (B → A) → IsTrue b ↔ A → IsTrue b ↔ B
means A B b to back h = ((λ t. to (h.0 t)), (λ x. h.1 (back x)))

pub yes : (A : Type 0) → A → IsTrue true ↔ A
yes A a = ((λ t. a), (λ x. refl))

pub no : (A : Type 0) → (A → ⊥) → IsTrue false ↔ A
no A a = ((λ t. absurd cc), (λ x. absurd (a x)))

pub no_by : (A : Type 0) (b : Bool) → IsTrue b ↔ A → b ≡ false → A → ⊥
no_by A b h e a = (let t = h.1 a in absurd cc)

pub used_by : (A B : Type 0) (b : Bool) → IsTrue b ↔ (A × B) → b ≡ true → B
used_by A B b h e = (h.0 e).1

pub unused_by : (A B : Type 0) (b : Bool) → IsTrue b ↔ (A × B) → b ≡ false → A → B → ⊥
unused_by A B b h e a x = (let t = h.1 (a, x) in absurd cc)

pub or_left : (A B : Type 0) → A → IsTrue true ↔ (A ⊎ B)
or_left A B a = ((λ t. inl a), (λ x. refl))

pub or_right : (A B : Type 0) (b : Bool) → (A → ⊥) → IsTrue b ↔ B → IsTrue b ↔ (A ⊎ B)
or_right A B b lacks h = ((λ t. inr (h.0 t)), (λ x. elim x [ inl a ↦ absurd (lacks a) | inr y ↦ h.1 y ]))

pub and_right : (A B : Type 0) (b : Bool) → A → IsTrue b ↔ B → IsTrue b ↔ (A × B)
and_right A B b a h = ((λ t. (a, h.0 t)), (λ x. h.1 x.1))

module _ (image : List ℕ) (facts : OwnersFacts) (row : ℕ) where
  abbrev Bounded : ℕ → Type 0
  Bounded table = HasBounded image facts table row

  pub vacuous : (table : ℕ) → (HasRow image table row → ⊥) → Bounded table
  vacuous table lacks = record {
    field = λ t h. absurd (lacks (subst (λ (n : ℕ). HasRow image n row) (sym t) h));
    method = λ t h. absurd (lacks (subst (λ (n : ℕ). HasRow image n row) (sym t) h));
    property = λ t h. absurd (lacks (subst (λ (n : ℕ). HasRow image n row) (sym t) h));
    member = λ t h. absurd (lacks (subst (λ (n : ℕ). HasRow image n row) (sym t) (used_there h)));
    locals = λ t h. absurd (lacks (subst (λ (n : ℕ). HasRow image n row) (sym t) (used_there h)));
    override = λ t h. absurd (lacks (subst (λ (n : ℕ). HasRow image n row) (sym t) h));
    type = λ t h. absurd (lacks (subst (λ (n : ℕ). HasRow image n row) (sym t) (used_there h)));
    instance = λ t h. absurd (lacks (subst (λ (n : ℕ). HasRow image n row) (sym t) (used_there h)));
    instance_of = λ t h. absurd (lacks (subst (λ (n : ℕ). HasRow image n row) (sym t) h));
  }

  -- a table of whose rows nothing is asked
  pub record IsOther (table : ℕ) : Type 0 where
    pub fields : table ≡ 0x04 → ⊥
    pub methods : table ≡ 0x06 → ⊥
    pub members : table ≡ 0x0A → ⊥
    pub locals : table ≡ 0x11 → ⊥
    pub properties : table ≡ 0x17 → ⊥
    pub overrides : table ≡ 0x19 → ⊥
    pub types : table ≡ 0x1B → ⊥
    pub instances : table ≡ 0x2B → ⊥

  pub other_bounded : (table : ℕ) → IsOther table → Bounded table
  other_bounded table o = record {
    field = λ t h. absurd (o.fields t);
    method = λ t h. absurd (o.methods t);
    property = λ t h. absurd (o.properties t);
    member = λ t h. absurd (o.members t);
    locals = λ t h. absurd (o.locals t);
    override = λ t h. absurd (o.overrides t);
    type = λ t h. absurd (o.types t);
    instance = λ t h. absurd (o.instances t);
    instance_of = λ t h. absurd (o.instances t);
  }

  pub field_row : (b : Bool) (index : ℕ) → HasRow image 0x04 row → index ≡ field_signature image row → IsTrue b ↔ FieldIs image facts index → IsTrue b ↔ Bounded 0x04
  field_row b index there e h =
      means (FieldIs image facts index) (Bounded 0x04) b
      (λ k. record {
        field = λ t r. subst (FieldIs image facts) e k;
        method = λ t r. absurd (omega arith);
        property = λ t r. absurd (omega arith);
        member = λ t r. absurd (omega arith);
        locals = λ t r. absurd (omega arith);
        override = λ t r. absurd (omega arith);
        type = λ t r. absurd (omega arith);
        instance = λ t r. absurd (omega arith);
        instance_of = λ t r. absurd (omega arith);
      })
      (λ x. subst (FieldIs image facts) (sym e) (x.field refl there)) h

  pub method_row : (b : Bool) (index : ℕ) → HasRow image 0x06 row → index ≡ method_signature image row → IsTrue b ↔ MethodIs image facts index (λ m. IsBounded m × (m.has_sentinel ≡ false))
      → IsTrue b ↔ Bounded 0x06
  method_row b index there e h =
      means (MethodIs image facts index (λ m. IsBounded m × (m.has_sentinel ≡ false))) (Bounded 0x06) b
      (λ k. record {
        field = λ t r. absurd (omega arith);
        method = λ t r. subst (λ (i : ℕ). MethodIs image facts i (λ m. IsBounded m × (m.has_sentinel ≡ false))) e k;
        property = λ t r. absurd (omega arith);
        member = λ t r. absurd (omega arith);
        locals = λ t r. absurd (omega arith);
        override = λ t r. absurd (omega arith);
        type = λ t r. absurd (omega arith);
        instance = λ t r. absurd (omega arith);
        instance_of = λ t r. absurd (omega arith);
      })
      (λ x. subst (λ (i : ℕ). MethodIs image facts i (λ m. IsBounded m × (m.has_sentinel ≡ false))) (sym e) (x.method refl there)) h

  pub property_row : (b : Bool) (index : ℕ) → HasRow image 0x17 row → index ≡ property_signature image row → IsTrue b ↔ IsKept (scanned_at image (whole_property facts) index) IsBounded → IsTrue b ↔ Bounded 0x17
  property_row b index there e h =
      means (IsKept (scanned_at image (whole_property facts) index) IsBounded) (Bounded 0x17) b
      (λ k. record {
        field = λ t r. absurd (omega arith);
        method = λ t r. absurd (omega arith);
        property = λ t r. subst (λ (i : ℕ). IsKept (scanned_at image (whole_property facts) i) IsBounded) e k;
        member = λ t r. absurd (omega arith);
        locals = λ t r. absurd (omega arith);
        override = λ t r. absurd (omega arith);
        type = λ t r. absurd (omega arith);
        instance = λ t r. absurd (omega arith);
        instance_of = λ t r. absurd (omega arith);
      })
      (λ x. subst (λ (i : ℕ). IsKept (scanned_at image (whole_property facts) i) IsBounded) (sym e) (x.property refl there)) h

  -- ---- rows of references: what is asked of a used one

  abbrev Member : Type 0
  Member = MethodIs image facts (member_signature image row) IsBounded ⊎ FieldIs image facts (member_signature image row)

  member_from : (IsUsed image 0x0A row → Member) → Bounded 0x0A
  member_from k = record {
    field = λ t r. absurd (omega arith);
    method = λ t r. absurd (omega arith);
    property = λ t r. absurd (omega arith);
    member = λ t r. k r;
    locals = λ t r. absurd (omega arith);
    override = λ t r. absurd (omega arith);
    type = λ t r. absurd (omega arith);
    instance = λ t r. absurd (omega arith);
    instance_of = λ t r. absurd (omega arith);
  }

  pub member_used : (b : Bool) → IsUsed image 0x0A row → IsTrue b ↔ Member → IsTrue b ↔ Bounded 0x0A
  member_used b used h = means Member (Bounded 0x0A) b (λ k. member_from (λ u. k)) (λ x. x.member refl used) h

  pub member_unused : (IsUsed image 0x0A row → ⊥) → IsTrue true ↔ Bounded 0x0A
  member_unused lacks = yes (Bounded 0x0A) (member_from (λ u. absurd (lacks u)))

  abbrev Locals : Type 0
  Locals = IsKept (scanned_at image (whole_locals facts) (locals_signature image row)) (λ l. (l.count ≤ max_count) × HasRank l.facts)

  locals_from : (IsUsed image 0x11 row → Locals) → Bounded 0x11
  locals_from k = record {
    field = λ t r. absurd (omega arith);
    method = λ t r. absurd (omega arith);
    property = λ t r. absurd (omega arith);
    member = λ t r. absurd (omega arith);
    locals = λ t r. k r;
    override = λ t r. absurd (omega arith);
    type = λ t r. absurd (omega arith);
    instance = λ t r. absurd (omega arith);
    instance_of = λ t r. absurd (omega arith);
  }

  pub locals_used : (b : Bool) → IsUsed image 0x11 row → IsTrue b ↔ Locals → IsTrue b ↔ Bounded 0x11
  locals_used b used h = means Locals (Bounded 0x11) b (λ k. locals_from (λ u. k)) (λ x. x.locals refl used) h

  pub locals_unused : (IsUsed image 0x11 row → ⊥) → IsTrue true ↔ Bounded 0x11
  locals_unused lacks = yes (Bounded 0x11) (locals_from (λ u. absurd (lacks u)))

  abbrev Type_ : Type 0
  Type_ = IsKept (scanned_at image (whole_type facts) (type_spec_signature image row)) HasRank

  type_from : (IsUsed image 0x1B row → Type_) → Bounded 0x1B
  type_from k = record {
    field = λ t r. absurd (omega arith);
    method = λ t r. absurd (omega arith);
    property = λ t r. absurd (omega arith);
    member = λ t r. absurd (omega arith);
    locals = λ t r. absurd (omega arith);
    override = λ t r. absurd (omega arith);
    type = λ t r. k r;
    instance = λ t r. absurd (omega arith);
    instance_of = λ t r. absurd (omega arith);
  }

  pub type_used : (b : Bool) → IsUsed image 0x1B row → IsTrue b ↔ Type_ → IsTrue b ↔ Bounded 0x1B
  type_used b used h = means Type_ (Bounded 0x1B) b (λ k. type_from (λ u. k)) (λ x. x.type refl used) h

  pub type_unused : (IsUsed image 0x1B row → ⊥) → IsTrue true ↔ Bounded 0x1B
  type_unused lacks = yes (Bounded 0x1B) (type_from (λ u. absurd (lacks u)))

  -- ---- rows that name methods

  pub member_there : (value member : ℕ) → IsIndex image (Tagged MethodDefOrRef false) value → unpacked MethodDefOrRef value ≡ Some (0x0A, member) → HasRow image 0x0A member
  member_there value member (inl h) e = absurd (let f = h.0 in cc)
  member_there value member (inr h) e =
      let z : ℕ × ℕ = (h.0, h.1) in
      let w : ℕ × ℕ = (0x0A, member) in
      let is = some_is z w (sym h.2 ∙ e) in
      subst (λ (x : ℕ × ℕ). HasRow image x.0 x.1) is h.3

  pub names_member : (b : Bool) (value table member : ℕ) → unpacked MethodDefOrRef value ≡ Some (table, member) → table ≡ 0x0A → IsTrue b ↔ MethodIs image facts (member_signature image member) (λ m. Unit {0})
      → IsTrue b ↔ NamesMethod image facts value
  names_member b value table member e t h =
      means (MethodIs image facts (member_signature image member) (λ m. Unit {0})) (NamesMethod image facts value) b (λ k. (table, member, e, λ _. k))
      (λ n.
      let z : ℕ × ℕ = (n.0, n.1) in
      let w : ℕ × ℕ = (table, member) in
      let is = some_is z w (sym n.2 ∙ e) in
      let first : n.0 ≡ table = ap (λ (x : ℕ × ℕ). x.0) is in
      let second : n.1 ≡ member = ap (λ (x : ℕ × ℕ). x.1) is in
      subst (λ (m : ℕ). MethodIs image facts (member_signature image m) (λ m. Unit {0})) second (n.3 (first ∙ t))) h

  pub names_defined : (value table member : ℕ) → unpacked MethodDefOrRef value ≡ Some (table, member) → (table ≡ 0x0A → ⊥) → IsTrue true ↔ NamesMethod image facts value
  names_defined value table member e other = yes (NamesMethod image facts value) (table, member, e, λ t. absurd (other t))

  pub names_none : (value : ℕ) → unpacked MethodDefOrRef value ≡ None → IsTrue false ↔ NamesMethod image facts value
  names_none value e = no (NamesMethod image facts value) (λ n. absurd (let f = sym n.2 ∙ e in cc))

  override_from : NamesMethod image facts (override_body image row) × NamesMethod image facts (override_declaration image row) → Bounded 0x19
  override_from k = record {
    field = λ t r. absurd (omega arith);
    method = λ t r. absurd (omega arith);
    property = λ t r. absurd (omega arith);
    member = λ t r. absurd (omega arith);
    locals = λ t r. absurd (omega arith);
    override = λ t r. k;
    type = λ t r. absurd (omega arith);
    instance = λ t r. absurd (omega arith);
    instance_of = λ t r. absurd (omega arith);
  }

  pub override_no : (b : Bool) (index : ℕ) → HasRow image 0x19 row → index ≡ override_body image row → IsTrue b ↔ NamesMethod image facts index → b ≡ false → IsTrue false ↔ Bounded 0x19
  override_no b index there e h f = no (Bounded 0x19) (λ x. no_by (NamesMethod image facts index) b h f (subst (NamesMethod image facts) (sym e) (x.override refl there).0))

  pub override_row : (b d : Bool) (index other : ℕ) → HasRow image 0x19 row → index ≡ override_body image row → other ≡ override_declaration image row → IsTrue b ↔ NamesMethod image facts index → b ≡ true
      → IsTrue d ↔ NamesMethod image facts other → IsTrue d ↔ Bounded 0x19
  override_row b d index other there e f h t i =
      means (NamesMethod image facts other) (Bounded 0x19) d
      (λ k. override_from (subst (NamesMethod image facts) e (h.0 t), subst (NamesMethod image facts) f k)) (λ x. subst (NamesMethod image facts) (sym f) (x.override refl there).1) i

  -- the columns of a MethodImpl and of a MethodSpec name rows that are there
  pub body_index : HasIndexes image 0x19 row → IsIndex image (Tagged MethodDefOrRef false) (override_body image row)
  unfolding schema
  body_index h = h 1 (omega arith)

  pub declaration_index : HasIndexes image 0x19 row → IsIndex image (Tagged MethodDefOrRef false) (override_declaration image row)
  unfolding schema
  declaration_index h = h 2 (omega arith)

  pub method_index : HasIndexes image 0x2B row → IsIndex image (Tagged MethodDefOrRef false) (instance_method image row)
  unfolding schema
  method_index h = h 0 (omega arith)

  abbrev Arguments : Type 0
  Arguments = IsKept (scanned_at image (whole_instantiation facts) (instance_arguments image row)) (λ l. HasRank l.facts)

  instance_from : NamesMethod image facts (instance_method image row) → (IsUsed image 0x2B row → Arguments) → Bounded 0x2B
  instance_from m k = record {
    field = λ t r. absurd (omega arith);
    method = λ t r. absurd (omega arith);
    property = λ t r. absurd (omega arith);
    member = λ t r. absurd (omega arith);
    locals = λ t r. absurd (omega arith);
    override = λ t r. absurd (omega arith);
    type = λ t r. absurd (omega arith);
    instance = λ t r. k r;
    instance_of = λ t r. m;
  }

  pub instance_used : (b : Bool) → HasRow image 0x2B row → IsUsed image 0x2B row → IsTrue b ↔ (NamesMethod image facts (instance_method image row) × Arguments) → IsTrue b ↔ Bounded 0x2B
  instance_used b there used i =
      means (NamesMethod image facts (instance_method image row) × Arguments) (Bounded 0x2B) b (λ k. instance_from k.0 (λ u. k.1)) (λ x. (x.instance_of refl there, x.instance refl used)) i

  pub instance_unused : (b : Bool) → HasRow image 0x2B row → (IsUsed image 0x2B row → ⊥) → IsTrue b ↔ NamesMethod image facts (instance_method image row) → IsTrue b ↔ Bounded 0x2B
  instance_unused b there lacks i =
      means (NamesMethod image facts (instance_method image row)) (Bounded 0x2B) b (λ k. instance_from k (λ u. absurd (lacks u))) (λ x. x.instance_of refl there) i

-- each MemberRef that a row names is there, where indexes lie in their range
pub members_there : (image : List ℕ) (facts : OwnersFacts) → ((table row : ℕ) → HasRow image table row → HasIndexes image table row) → MembersAreThere image
members_there image facts indexes row member (inl n) = member_there image facts row (override_body image row) member (body_index image facts row (indexes 0x19 row n.0)) n.1
members_there image facts indexes row member (inr (inl n)) = member_there image facts row (override_declaration image row) member (declaration_index image facts row (indexes 0x19 row n.0)) n.1
members_there image facts indexes row member (inr (inr n)) = member_there image facts row (instance_method image row) member (method_index image facts row (indexes 0x2B row n.0)) n.1
