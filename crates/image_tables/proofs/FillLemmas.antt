-- One part of the tables after another.
use Rattle.std.proofs.Common.{◌≡◌, ap, refl, sym, ◌∙◌, subst, ℕ, suc, ◌+◌, ◌-◌, ◌<◌, ◌≤◌, ◌^◌, List, [], ◌∷◌, ◌++◌, length, map, arith}
use Rattle.std.specs.Prelude.{◌≢◌, sum_by}
use Rattle.std.specs.List.{AllZip, flat_map, enumerate_from}
use Rattle.std.proofs.lemmas.List.{append-nil, append_assoc}
use Rattle.assembly_tree.specs.declared.assembly.Assembly.{Assembly}
use Rattle.assembly_tree.specs.declared.members.Field.{Field}
use Rattle.metadata_tables.specs.Encoding.{rows_of}
use Rattle.image_tokens.specs.References.{size, Grows, AreKnown}
use Rattle.image_tokens.specs.declared.references.References.{References}
use Rattle.image_tokens.proofs.GrowthLemmas.{grows_refl, grows_trans}
use Rattle.image_rows.specs.CanFill.{CanFill}
use Rattle.image_members.specs.CodeBytes.{body_of, stated_room}
use Rattle.image_members.specs.DataRows.{all_data, data_room}
use Rattle.image_rows.specs.Filled.{HasDeclared, HoldsManifest, HoldsTypes, HoldsFields, HoldsMethods, HoldsProperties, HoldsOwned}
use Rattle.image_members.specs.Places.{all_fields, all_methods}
use Rattle.image_members.specs.Pushing.{Tables}
use Rattle.image_members.specs.declared.classes.Class.{Class}
use Rattle.image_tables.specs.FieldPart.{CanFillFields, FillsFields}
use Rattle.image_tables.specs.Filling.{method_part, type_part, property_part, filled_bytes, CanStillFill, IsReady, Fills, IsFull, Lengthens}
use Rattle.image_tables.specs.Parts.{part_of, KeepsPart, KeepsOtherParts, LacksFrom}
use Rattle.image_tables.proofs.HoldsLemmas.{declared_later, manifest_later, types_later, fields_later, methods_later, properties_later}
use Rattle.image_tables.proofs.OrderLemmas.{fields_declared}
use Rattle.laws_tree_weights.specs.ImageBytes.{manifest_bytes, owned_bytes, code_bytes}
use Rattle.laws_tree_weights.specs.Laws.{HasFewRows}

pub filled_bytes_are : (a : Assembly) (classes : List Class) → filled_bytes a classes ≡ manifest_bytes a + method_part a classes + type_part classes + property_part classes + owned_bytes a classes
unfolding filled_bytes
filled_bytes_are a classes = refl

pub code_bytes_are : (a : Assembly) (classes : List Class) → code_bytes a classes ≡ sum_by stated_room (map body_of (all_methods a classes)) + sum_by data_room (all_data 1 (all_fields a classes))
unfolding code_bytes
code_bytes_are a classes = refl

-- later parts have no rows, still
pub lacks_on : (part : ℕ) (t u : Tables) → KeepsOtherParts part t u → LacksFrom part t → LacksFrom (suc part) u
lacks_on part t u keeps lacks table le = keeps table (λ e. absurd (omega arith)) ∙ lacks table (omega arith)

-- another part is kept
pub keeps_other : (part other : ℕ) (t u : Tables) → other ≢ part → KeepsOtherParts part t u → KeepsPart other t u
keeps_other part other t u differs keeps table here = keeps table (λ e. differs (sym here ∙ e))

pub part_trans : (part : ℕ) (t u v : Tables) → KeepsPart part t u → KeepsPart part u v → KeepsPart part t v
part_trans part t u v p q table here = q table here ∙ p table here

-- ---- what is needed for the next part

module _ (a : Assembly) (classes : List Class) where
  -- there may be more room than is needed
  pub ready_less : (part less bytes : ℕ) (r : References) (t : Tables) → less ≤ bytes → IsReady part bytes a classes r t → IsReady part less a classes r t
  ready_less part less bytes r t le ready = record {
    known = ready.known;
    declared = ready.declared;
    can = ready.can;
    few = ready.few;
    lacks = ready.lacks;
    room = (let room = ready.room in omega arith);
  }

  pub ready_on : (part bytes rest : ℕ) (Holds : References → Tables → Type 0) (r s : References) (t u : Tables) → IsReady part (bytes + rest) a classes r t → Fills part bytes Holds r s t u
      → IsReady (suc part) rest a classes s u
  ready_on part bytes rest Holds r s t u ready step = record {
    known = step.known;
    declared = declared_later a classes r s step.grows ready.declared;
    can = λ later g. ready.can later (grows_trans r s later step.grows g);
    few = ready.few;
    lacks = lacks_on part t u step.others ready.lacks;
    room = (let room = ready.room in let come = step.room in omega arith);
  }

  -- the same for fields, which bring nothing into heaps
  pub fields_can : (bytes : ℕ) (r : References) (t : Tables) (fs : List Field) → fs ≡ all_fields a classes → IsReady 3 bytes a classes r t → CanFillFields fs r t
  fields_can bytes r t fs same ready = subst (λ (xs : List Field). CanFillFields xs r t) (sym same) (record {
    declared = fields_declared a classes r ready.declared;
    few = ready.few.fields;
    lacks = ready.lacks;
  })

  pub fields_filled_on : (bytes : ℕ) (r : References) (t u : Tables) (code : List ℕ) → IsReady 3 bytes a classes r t → FillsFields (all_fields a classes) r code t u → IsReady 4 bytes a classes r u
  fields_filled_on bytes r t u code ready step = record {
    known = ready.known;
    declared = ready.declared;
    can = ready.can;
    few = ready.few;
    lacks = lacks_on 3 t u step.others ready.lacks;
    room = ready.room;
  }

  -- ---- all parts

  module _ (r0 r1 r2 r3 r4 r5 : References) (t0 t1 t2 t3 t4 t5 t6 : Tables) (code0 code1 code2 : List ℕ) (ready : IsReady 0 (filled_bytes a classes) a classes r0 t0)
      (manifest : Fills 0 (manifest_bytes a) (HoldsManifest a) r0 r1 t0 t1)
      (methods : Fills 1 (method_part a classes) (λ r t. HoldsMethods a classes r t code1) r1 r2 t1 t2)
      (types : Fills 2 (type_part classes) (HoldsTypes a classes) r2 r3 t2 t3)
      (fields : FillsFields (all_fields a classes) r3 code2 t3 t4)
      (properties : Fills 4 (property_part classes) (HoldsProperties a classes) r3 r4 t4 t5)
      (owned : Fills 5 (owned_bytes a classes) (HoldsOwned a classes) r4 r5 t5 t6)
      (longer : Lengthens (sum_by data_room (all_data 1 (all_fields a classes))) code1 code2) where
    from_types : Grows r3 r5
    from_types = grows_trans r3 r4 r5 properties.grows owned.grows

    from_methods : Grows r2 r5
    from_methods = grows_trans r2 r3 r5 types.grows from_types

    from_manifest : Grows r1 r5
    from_manifest = grows_trans r1 r2 r5 methods.grows from_methods

    pub all_grown : Grows r0 r5
    all_grown = grows_trans r0 r1 r5 manifest.grows from_manifest

    -- the tables of a part that isn't one of the last
    since_fields : (part : ℕ) → part ≢ 4 → part ≢ 5 → KeepsPart part t4 t6
    since_fields part n4 n5 = part_trans part t4 t5 t6 (keeps_other 4 part t4 t5 n4 properties.others) (keeps_other 5 part t5 t6 n5 owned.others)

    since_types : (part : ℕ) → part ≢ 3 → part ≢ 4 → part ≢ 5 → KeepsPart part t3 t6
    since_types part n3 n4 n5 = part_trans part t3 t4 t6 (keeps_other 3 part t3 t4 n3 fields.others) (since_fields part n4 n5)

    since_methods : (part : ℕ) → part ≢ 2 → part ≢ 3 → part ≢ 4 → part ≢ 5 → KeepsPart part t2 t6
    since_methods part n2 n3 n4 n5 = part_trans part t2 t3 t6 (keeps_other 2 part t2 t3 n2 types.others) (since_types part n3 n4 n5)

    since_manifest : (part : ℕ) → part ≢ 1 → part ≢ 2 → part ≢ 3 → part ≢ 4 → part ≢ 5 → KeepsPart part t1 t6
    since_manifest part n1 n2 n3 n4 n5 = part_trans part t1 t2 t6 (keeps_other 1 part t1 t2 n1 methods.others) (since_methods part n2 n3 n4 n5)

    pub all_full : IsFull a classes r5 t6 code2
    all_full = record {
      known = owned.known;
      declared = declared_later a classes r0 r5 all_grown ready.declared;
      few = ready.few;
      manifest = manifest_later a r1 r5 t1 t6 from_manifest
          (since_manifest 0 (λ e. absurd (omega arith)) (λ e. absurd (omega arith)) (λ e. absurd (omega arith)) (λ e. absurd (omega arith)) (λ e. absurd (omega arith))) manifest.holds;
      types = types_later a r3 r5 t3 t6 from_types classes (since_types 2 (λ e. absurd (omega arith)) (λ e. absurd (omega arith)) (λ e. absurd (omega arith))) types.holds;
      fields = fields_later a r3 r5 t4 t6 from_types classes code2 (since_fields 3 (λ e. absurd (omega arith)) (λ e. absurd (omega arith)))
          (record { fields = fields.rows; offsets = fields.offsets; contents = fields.contents });
      methods = subst (λ (code : List ℕ). HoldsMethods a classes r5 t6 code) (sym longer.is)
          (methods_later a r2 r5 t2 t6 from_methods classes code1 longer.more
          (since_methods 1 (λ e. absurd (omega arith)) (λ e. absurd (omega arith)) (λ e. absurd (omega arith)) (λ e. absurd (omega arith))) methods.holds);
      properties = properties_later a r4 r5 t5 t6 owned.grows classes (keeps_other 5 4 t5 t6 (λ e. absurd (omega arith)) owned.others) properties.holds;
      owned = owned.holds;
      lacks = lacks_on 5 t5 t6 owned.others (lacks_on 4 t4 t5 properties.others (lacks_on 3 t3 t4 fields.others (lacks_on 2 t2 t3 types.others
          (lacks_on 1 t1 t2 methods.others (lacks_on 0 t0 t1 manifest.others ready.lacks)))));
    }

    pub all_room : size r5 ≤ size r0 + filled_bytes a classes
    all_room =
        let bytes = filled_bytes_are a classes in
        let one = manifest.room in
        let two = methods.room in
        let three = types.room in
        let four = properties.room in
        let five = owned.room in
        omega arith

    pub all_code : Lengthens (sum_by stated_room (map body_of (all_methods a classes))) code0 code1 → Lengthens (code_bytes a classes) code0 code2
    all_code first = record {
      more = first.more ++ longer.more;
      is = longer.is ∙ ap (λ (xs : List ℕ). xs ++ longer.more) first.is ∙ append_assoc code0 first.more longer.more;
      long = (let bytes = code_bytes_are a classes in let one = first.long in let two = longer.long in omega arith);
    }
