-- Fields are what their rows give.
use Rattle.std.proofs.Common.{ap, subst, ℕ, ◌+◌, ◌^◌, ◌≤◌, List, arith}
use Rattle.std.specs.Prelude.{slice_index}
use Rattle.assembly_tree.specs.Weight.{field_weight, type_weight}
use Rattle.assembly_tree.specs.WellFormedMembers.{is_field}
use Rattle.assembly_tree.specs.declared.assembly.Assembly.{Assembly}
use Rattle.assembly_tree.specs.declared.members.Field.{Field}
use Rattle.assembly_tree.specs.declared.typedef.TypeDef.{TypeDef}
use Rattle.assembly_tree.specs.declared.typedef.TypeDef.TheViews.{out-TypeDef}
use Rattle.assembly_tree.proofs.FormedFacts.{fields_named}
use Rattle.body_codec.specs.Names.{NameMap}
use Rattle.pe_layout.specs.declared.parts.Kind.{Kind}
use Rattle.image_tokens.specs.declared.references.References.{References}
use Rattle.image_members.specs.Places.{all_fields}
use Rattle.image_members.specs.Pushing.{Tables}
use Rattle.image_members.specs.declared.classes.Class.{Class}
use Rattle.image_model.specs.Columns.{field_signature}
use Rattle.image_model.specs.Members.{layouts_of}
use Rattle.image_model.specs.Reading.{IsField, IsGiven, IsLayout}
use Rattle.image_model.specs.Rows.{HasRow}
use Rattle.laws_image_parts.specs.AtRows.{AtEach}
use Rattle.laws_image_parts.specs.CodeRead.{CodeIsRead}
use Rattle.laws_image_parts.specs.ConstantsRead.{ConstantsAreRead}
use Rattle.laws_image_parts.specs.PartsRead.{PartsAreRead}
use Rattle.laws_image_parts.proofs.CellLemmas.{get_low}
use Rattle.laws_writable_trees.proofs.Members.{IsFine}
use Rattle.laws_writable_trees.proofs.Parts.{fine_fields}
use Rattle.laws_image_reading.specs.parts.Attributes.{AttributesNamed}
use Rattle.laws_image_reading.specs.parts.Held.{IsHeld}
use Rattle.laws_image_reading.specs.parts.Known.{KnowsRows}
use Rattle.laws_image_reading.specs.parts.Ranges.{IsFieldInRange}
use Rattle.laws_image_reading.proofs.parts.Attributes.{reader}
use Rattle.laws_image_reading.proofs.parts.Constants.{stated_ranged}
use Rattle.laws_image_reading.proofs.parts.Contents.{contents_are}
use Rattle.laws_image_reading.proofs.parts.DataSizes.{HaveTypeRows}
use Rattle.laws_image_reading.proofs.parts.Lists.{all_get}
use Rattle.laws_image_reading.proofs.parts.Signatures.{RereadsMembers, field_has}
use Rattle.laws_image_reading.proofs.parts.TypePaths.{IsPlaced, path_to}

of_light : (f : Field) → field_weight f ≤ 2 ^ 26 → type_weight f.of ≤ 2 ^ 26
unfolding field_weight
of_light f h = omega arith

module _ (parts : PartsAreRead) (a : Assembly) (classes : List Class) (r : References) (tables : Tables) (code id : List ℕ) (kind : Kind) (image : List ℕ) (names : NameMap)
    (held : IsHeld a classes r tables code id kind image names) (known : KnowsRows a classes r code image) where
  -- ---- the rows of types

  pub record IsTypeRow (row : ℕ) (c : Class) : Type 0 where
    pub there : HasRow image 0x02 row
    pub placed : IsPlaced image row c
    pub layout : IsGiven (IsLayout image) (layouts_of image row) (out-TypeDef c.of.now).layout

  type_rows : AtEach IsTypeRow 2 classes
  type_rows k c at =
      let low = get_low classes k c at in
      let count = known.rows.types.types.count in
      let head = parts.class a classes r image (2 + k) c known.heaps (known.runs.type_rows k c at) in
      record {
        there = (omega arith, omega arith);
        placed = record { id = head.id; encloser = known.enclosed.each k c at };
        layout = parts.layout image (2 + k) c (known.types.layouts k c at);
      }

  have_rows : HaveTypeRows a image
  have_rows path t is =
      let w = path_to image IsTypeRow (λ row c h. h.placed) a.types classes held.filled.classes_are type_rows path t is in
      record {
        row = w.row;
        there = w.known.there;
        leads = w.leads;
        layout = subst (λ (u : TypeDef). IsGiven (IsLayout image) (layouts_of image w.row) (out-TypeDef u).layout) w.is w.known.layout;
      }

  -- ---- fields

  module _ (read : CodeIsRead) (constants : ConstantsAreRead) (again : RereadsMembers) (attributes : AttributesNamed a classes image names) where
    pub fields_are : AtEach (IsField image names) 1 (all_fields a classes)
    fields_are k f at =
        let fine = all_get (IsFine (is_field a) field_weight) (all_fields a classes) k f (fine_fields a classes held.filled.classes_are held.formed held.light) at in
        let formed = (fields_named a f).0 fine.formed in
        let row = known.rows.fields.fields.each k f at in
        let head = parts.field r image (1 + k) f known.heaps row formed.flags in
        let range = all_get IsFieldInRange (all_fields a classes) k f held.ranges.fields at in
        let s = reader a classes r tables code id kind image names held known in
        record {
          name = head.name_is;
          flags = head.flags_are;
          of = field_has a again r image names s f.of row.signature (field_signature image (1 + k)) row.signature_is (ap (λ (cs : List ℕ). slice_index cs 2) row.are) formed.of (of_light f fine.light);
          constant = constants.given r image 0x04 (1 + k) f.constant known.heaps (stated_ranged f.constant formed.constant range) (known.constants.fields k f at);
          offset = parts.offset image (1 + k) f (known.fields.offsets k f at);
          content = contents_are read a code image held.laid_out.code_is have_rows f.of (1 + k) f.content formed.content (known.fields.contents k f at);
          attributes = attributes.fields k f at;
        }
