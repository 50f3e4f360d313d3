-- Where the demands before that on attributes hold, all that is asked before members and locals are kept is there.
use Rattle.std.proofs.Common.{◌≡◌, ℕ, ◌+◌, ◌*◌, ◌^◌, ◌<◌, ◌≤◌, ◌⊎◌, inl, inr, Bool, true, false, List, length, refl, subst, arith}
use Rattle.std.specs.Prelude.{◌==◌, if◌then◌else◌}
use Rattle.std.specs.Int.{bit_at}
use Rattle.std.proofs.Math.Nat.{mul-le-mul_left}
use Rattle.std.proofs.lemmas.Bool.{ne_eqb}
use Rattle.metadata_tables.specs.Schema.{schema}
use Rattle.metadata_tables.specs.Stream.{row_size, row_count, present, heap_sizes}
use Rattle.metadata_tables.specs.declared.coded.Coded.TheVariants.{MemberRefParent, MethodDefOrRef}
use Rattle.type_terms.specs.declared.reference.MethodSig.{MethodSig}
use Rattle.type_terms.specs.declared.term.Owner.{Owner}
use Rattle.type_terms.specs.declared.term.Owner.TheVariants.{Name, Spec}
use Rattle.type_terms.specs.declared.term.SigType.{SigType}
use Rattle.body_codec.specs.Names.{NameMap}
use Rattle.image_model.specs.Columns.{member_parent, instance_method}
use Rattle.image_model.specs.Faults.{HasTables, indexes, entries, manifest, runs, order, signatures}
use Rattle.image_model.specs.Naming.{here, RowOwner}
use Rattle.image_model.specs.Rows.{HasRow, Names}
use Rattle.image_model.specs.Streams.{tables_of}
use Rattle.image_model.specs.Terms.{HasMember, MemberHasMethod, MemberHasField}
use Rattle.image_model.specs.Used.{IsUsed}
use Rattle.image_namings.specs.Laws.{HangOnTokens}
use Rattle.image_namings.proofs.Indexes.{cell_names, parent_tables, method_tables, row_there, IsParent, IsTypeTable, IsMethodTable}
use Rattle.image_namings.proofs.Rows.{few_methods, few_members, tables_in}
use Rattle.image_namings.proofs.Standing.{Stands, stands}
use Rattle.image_source.specs.Names.{names_of}
use Rattle.kept_names.specs.declared.names.KeptNames.{KeptNames}
use Rattle.row_demands.specs.Structured.{MeetStructure}
use Rattle.kept_members.specs.Members.{CanKeep, IsKnownParent, IsMethodRow}
use Rattle.kept_members.proofs.Naming.{used_there}
use Rattle.kept_texts.specs.Texts.{CanKeepLocals}
use Rattle.image_names.specs.Named.{CanName}
use Rattle.image_names.proofs.Agreeing.{method_kept, field_kept, member_method_kept, member_field_kept, locals_kept, instance_kept, type_kept, owner_kept, parent_named}

-- no row stands in a table that isn't in the profile
absent : (stream : List ℕ) (table : ℕ) → (bit_at (present stream) table ≡ 1 → ⊥) → row_count stream table ≡ 0
unfolding row_count
absent stream table h = rw (ne_eqb (bit_at (present stream) table) 1 h) refl

no_module_ref : (image : List ℕ) (row : ℕ) → HasTables image → HasRow image 0x1A row → ⊥
unfolding schema
no_module_ref image row tables there =
    let none = absent (tables_of image) 0x1A (λ bit. tables.whole.tables 0x1A (bit, refl)) in
    omega (arith, none, there.0, there.1)

-- an image of at most 2^26 bytes has fewer than 2^24 fields
wide : (b : Bool) → 2 ≤ (if b then 4 else 2)
wide true = omega arith
wide false = omega arith

three : (a b : Bool) → 6 ≤ 0 + 2 + (if a then 4 else 2) + (if b then 4 else 2)
three a b = let x = wide a in let y = wide b in omega (arith, x, y)

field_size : (stream : List ℕ) → 6 ≤ row_size stream 0x04
unfolding row_size schema
field_size stream = three (bit_at (heap_sizes stream) 0 == 1) (bit_at (heap_sizes stream) 2 == 1)

few_fields : (image : List ℕ) (row : ℕ) → length image ≤ 2 ^ 26 → HasTables image → HasRow image 0x04 row → row < 2 ^ 24
few_fields image row short tables there =
    let inside = tables.whole.rows 0x04 row there in
    let all = tables_in image in
    let least : row * 6 ≤ row * row_size (tables_of image) 0x04 = mul-le-mul_left row (field_size (tables_of image)) in
    omega (arith, inside, all, least, short)

module _ (image : List ℕ) (names : NameMap) (known : KeptNames) (can : CanName image names known) (hang : HangOnTokens) where
  stood : Stands image
  stood = stands image names (λ earlier low. can.before earlier (omega (arith, low)))

  structure : MeetStructure image
  structure = record {
    indexes = (can.before indexes (omega arith)).0;
    entry = (can.before indexes (omega arith)).1;
    entries = can.before entries (omega arith);
    manifest = can.before manifest (omega arith);
    runs = can.before runs (omega arith);
    order = can.before order (omega arith);
  }

  -- ---- parents of references

  -- a row of one of the three tables is a type, where a TypeSpec is in use
  row_owner : (table row : ℕ) → IsTypeTable table → HasRow image table row → (table ≡ 0x1B → HasRow image 0x1B row → IsUsed image 0x1B row) → (o : Owner) × RowOwner image names.owners table row o
  row_owner table row (inl e) there used =
      let here_is = subst (λ (t : ℕ). HasRow image t row) e there in
      let p = stood.path row here_is in
      (here p.0, RowOwner.defined e here_is p.1)
  row_owner table row (inr (inl e)) there used =
      let here_is = subst (λ (t : ℕ). HasRow image t row) e there in
      let p = stood.reference row here_is in
      (Name (record { scope = p.0; path = p.1 }), RowOwner.referred e here_is p.2)
  row_owner table row (inr (inr e)) there used =
      let here_is = subst (λ (t : ℕ). HasRow image t row) e there in
      let s = (can.before signatures (omega arith) 0x1B row).type refl (used e here_is) in
      (Spec s.0, RowOwner.specified e here_is s.1.1 s.1.2)

  type_parent : (row table parent : ℕ) → IsUsed image 0x0A row → Names MemberRefParent (member_parent image row) table parent → IsTypeTable table → HasRow image table parent → IsKnownParent image known table parent
  unfolding schema
  type_parent row table parent used n kind there =
      let o = row_owner table parent kind there (λ e spec. IsUsed.by_reference used (cell_names image 0x0A row 0 MemberRefParent false 0x1B parent (omega arith) refl
      (subst (λ (x : ℕ). Names MemberRefParent (member_parent image row) x parent) e n)) (inr (inr (inr (inl refl)))) spec) in
      let is_named = parent_named image names known can.named can.owners hang row table parent used n in
      inr (o.0, (owner_kept image names known can.named can.owners hang table parent o.0 is_named o.1, type_kept image names known can.named can.owners hang table parent o.0 is_named o.1))

  known_parent : (row table parent : ℕ) → IsUsed image 0x0A row → Names MemberRefParent (member_parent image row) table parent → IsParent table → HasRow image table parent → IsKnownParent image known table parent
  known_parent row table parent used n (inl e) there = type_parent row table parent used n (inl e) there
  known_parent row table parent used n (inr (inl e)) there = type_parent row table parent used n (inr (inl e)) there
  known_parent row table parent used n (inr (inr (inl e))) there = absurd (no_module_ref image parent can.tables (subst (λ (t : ℕ). HasRow image t parent) e there))
  known_parent row table parent used n (inr (inr (inr (inl e)))) there = inl (e, subst (λ (t : ℕ). HasRow image t parent) e there)
  known_parent row table parent used n (inr (inr (inr (inr e)))) there = type_parent row table parent used n (inr (inr e)) there

  parent_at : (row : ℕ) → IsUsed image 0x0A row → (table parent : ℕ) × Names MemberRefParent (member_parent image row) table parent × IsKnownParent image known table parent
  parent_at row used =
      let n = stood.member_in row (used_there used) in
      (n.0, n.1, n.2, known_parent row n.0 n.1 used n.2 (parent_tables (member_parent image row) n.0 n.1 n.2) n.3)

  -- ---- references and instances

  member_at : (row : ℕ) → IsUsed image 0x0A row → HasMember image names row → ((sig : MethodSig) × MemberHasMethod image (names_of known) row sig) ⊎ ((of : SigType) × MemberHasField image (names_of known) row of)
  member_at row used (inl m) = inl (m.0, member_method_kept image names known can.named can.owners hang row m.0 used m.1)
  member_at row used (inr f) = inr (f.0, member_field_kept image names known can.named can.owners hang row f.0 used f.1)

  method_row : (row table method : ℕ) → IsUsed image 0x2B row → Names MethodDefOrRef (instance_method image row) table method → (table ≡ 0x0A → (sig : MethodSig) × MemberHasMethod image names method sig) → HasRow image table method → IsMethodTable table
      → IsMethodRow image known table method
  unfolding schema
  method_row row table method used n sig there (inl e) = inl (e, subst (λ (t : ℕ). HasRow image t method) e there)
  method_row row table method used n sig there (inr e) =
      let of = IsUsed.by_reference used (cell_names image 0x2B row 0 MethodDefOrRef false 0x0A method (omega arith) refl (subst (λ (x : ℕ). Names MethodDefOrRef (instance_method image row) x method) e n)) (inr (inl refl)) (subst (λ (t : ℕ). HasRow image t method) e there) in
      let s = sig e in
      inr (e, (of, s.0, member_method_kept image names known can.named can.owners hang method s.0 of s.1))

  instance_at : (row : ℕ) → IsUsed image 0x2B row → (table method : ℕ) × Names MethodDefOrRef (instance_method image row) table method × IsMethodRow image known table method
  instance_at row used =
      let s = (can.before signatures (omega arith) 0x2B row).instance_of refl (used_there used) in
      let n = stood.instance row (used_there used) in
      (s.0, s.1, s.2, method_row row s.0 s.1 used s.2 s.3 (row_there image MethodDefOrRef (instance_method image row) s.0 s.1 n s.2) (method_tables (instance_method image row) s.0 s.1 s.2))

  pub can_keep : CanKeep image known
  can_keep = record {
    structure = structure;
    types = λ type there. let p = stood.path type there in (p.0, p.1, can.owners.owners 0x02 type (here p.0) (RowOwner.defined refl there p.1) (λ e. absurd (omega (arith, e))));
    method_in = stood.method_in;
    method_there = λ type row there has. stood.method_there row type there has;
    field_in = stood.field_in;
    field_there = λ type row there has. stood.field_there row type there has;
    few_methods = λ row there. few_methods image row can.short can.tables there;
    few_fields = λ row there. few_fields image row can.short can.tables there;
    few_members = λ row there. few_members image row can.short can.tables there;
    methods = λ row there. let h = (can.before signatures (omega arith) 0x06 row).method refl there in (h.0, method_kept image names known can.named can.owners hang row h.0 there h.1);
    fields = λ row there. let h = (can.before signatures (omega arith) 0x04 row).field refl there in (h.0, field_kept image names known can.named can.owners hang row h.0 there h.1);
    members = λ row used. member_at row used ((can.before signatures (omega arith) 0x0A row).member refl used);
    parents = parent_at;
    instances = λ row used. let h = (can.before signatures (omega arith) 0x2B row).instance refl used in (h.0, instance_kept image names known can.named can.owners hang row h.0 used h.1);
    instance_of = instance_at;
  }

  pub can_keep_locals : CanKeepLocals image known
  can_keep_locals = record {
    structure = structure;
    locals = λ row used. let h = (can.before signatures (omega arith) 0x11 row).locals refl used in (h.0, locals_kept image names known can.named can.owners hang row h.0 used h.1);
  }
