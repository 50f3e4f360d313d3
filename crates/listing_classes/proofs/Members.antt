-- What is read from the members of a type is what it has.
use Rattle.std.proofs.Common.{◌≡◌, ℕ, ◌+◌, Bool, false, List, [], ◌∷◌, ◌++◌, map, filter, length, refl, ap, ◌∙◌, append-nil}
use Rattle.ilasm_grammar.specs.declared.nonterminals.TheConstants as n
use Rattle.ilasm_grammar.specs.declared.productions.TheConstants as p
use Rattle.type_terms.specs.declared.name.TypeId.{TypeId}
use Rattle.assembly_tree.specs.declared.assembly.Assembly.{Assembly}
use Rattle.assembly_tree.specs.declared.assembly.ExternAssembly.{ExternAssembly}
use Rattle.assembly_tree.specs.declared.typedef.TypeDef.TheOpen.{TypeDef-F}
use Rattle.source_model.specs.Forest as f
use Rattle.source_model.specs.Items.{is_custom, runs, own_customs}
use Rattle.source_model.specs.Manifests.{attributes}
use Rattle.source_model.specs.Members as read
use Rattle.source_model.specs.Nodes.{Around}
use Rattle.source_model.specs.Parameters.{is_typar_line, generics as read_generics}
use Rattle.source_model.specs.Source.{Source}
use Rattle.listing_constants.specs.Laws.{AttributesAreRead}
use Rattle.listing_formed.specs.Laws.{Knows}
use Rattle.listing_groups.specs.Laws.{field_runs, HaveContents, FieldRowsAreRead, method_items, forests_at, MethodRowsAreRead, property_items, event_items, PropertyRowsAreRead}
use Rattle.listing_members.specs.Laws.{typar_runs, TyparLinesAreRead, GenericsAreRead, HasMethods}
use Rattle.listing_model.specs.Classes.{ClassShown, layout_lines, typar_member, classes_from, class_members}
use Rattle.listing_model.specs.Members as written
use Rattle.listing_model.specs.Shown.{Item, opt_below}
use Rattle.listing_model.specs.Values.{customs}
use Rattle.listing_reading.specs.Laws.{RunsAreRead}
use Rattle.listing_reading.specs.Numbered.{numbered, Agrees}
use Rattle.listing_reading.specs.Rows.{parts_at, IsEndOfRun}
use Rattle.listing_rows.specs.Laws.{SegmentsAreRead, PiecesAreRead, RunsAreFiltered, runs_of, NonePass, AllOwned}
use Rattle.listing_rows.specs.Segments.{end_of, ItemsAgree, EachGrown}
use Rattle.listing_values.specs.Laws.{NumbersAreRead}
use Rattle.listing_classes.specs.Laws.{is_line, layout_in, LayoutsAreRead, AreFormed, ClassMembersAreRead}
use Rattle.listing_classes.proofs.Layouts.{filter_past, filter_front}
use Rattle.listing_classes.proofs.Apart.{Fails, none_both, none_end, none_owned, field_head, typar_head, method_body, none_lines, none_customs, none_methods, none_properties, none_events, none_classes, customs_all, lines_pass}

-- ---- the segments

pub record MemberLaws : Type 0 where
  pub numbers : NumbersAreRead
  pub layouts : LayoutsAreRead
  pub segments : SegmentsAreRead
  pub pieces : PiecesAreRead
  pub outside : RunsAreRead
  pub filtered : RunsAreFiltered
  pub attributes : AttributesAreRead
  pub lines : TyparLinesAreRead
  pub generics : GenericsAreRead
  pub fields : FieldRowsAreRead
  pub methods : MethodRowsAreRead
  pub properties : PropertyRowsAreRead

module _ (laws : MemberLaws) (externs : List ExternAssembly) (path : List TypeId) (t : TypeDef-F ClassShown) (k at : ℕ) where
  -- each segment, and those from it on
  abbrev is1 : List Item
  is1 = layout_lines t.layout

  abbrev is2 : List Item
  is2 = customs externs p.MEMBER_CUSTOM t.attributes

  abbrev is3 : List Item
  is3 = written.typar_lines externs typar_member p.MEMBER_CUSTOM 1 t.generics

  abbrev is4 : List Item
  is4 = written.fields externs p.MEMBER_FIELD p.MEMBER_CUSTOM k t.fields

  abbrev is5 : List Item
  is5 = method_items externs p.MEMBER_METHOD t.methods

  abbrev is6 : List Item
  is6 = property_items externs path t.methods t.properties

  abbrev is7 : List Item
  is7 = event_items externs path t.methods t.events

  abbrev is8 : List Item
  is8 = classes_from p.MEMBER_CLASS path (k + length (written.field_contents t.fields)) t.nested

  abbrev on7 : List Item
  on7 = is7 ++ is8

  abbrev on6 : List Item
  on6 = is6 ++ on7

  abbrev on5 : List Item
  on5 = is5 ++ on6

  abbrev on4 : List Item
  on4 = is4 ++ on5

  abbrev on3 : List Item
  on3 = is3 ++ on4

  abbrev on2 : List Item
  on2 = is2 ++ on3

  -- where each begins
  abbrev at2 : ℕ
  at2 = end_of at is1

  abbrev at3 : ℕ
  at3 = end_of at2 is2

  abbrev at4 : ℕ
  at4 = end_of at3 is3

  abbrev at5 : ℕ
  at5 = end_of at4 is4

  abbrev at6 : ℕ
  at6 = end_of at5 is5

  abbrev at7 : ℕ
  at7 = end_of at6 is6

  abbrev at8 : ℕ
  at8 = end_of at7 is7

  -- and its parts
  abbrev ps1 : List f.Part
  ps1 = parts_at at is1

  abbrev ps2 : List f.Part
  ps2 = parts_at at2 is2

  abbrev ps3 : List f.Part
  ps3 = parts_at at3 is3

  abbrev ps4 : List f.Part
  ps4 = parts_at at4 is4

  abbrev ps5 : List f.Part
  ps5 = parts_at at5 is5

  abbrev ps6 : List f.Part
  ps6 = parts_at at6 is6

  abbrev ps7 : List f.Part
  ps7 = parts_at at7 is7

  abbrev ps8 : List f.Part
  ps8 = parts_at at8 is8

  abbrev all : List f.Part
  all = parts_at at (class_members externs t path k)

  parts_are : all ≡ ps1 ++ (ps2 ++ (ps3 ++ (ps4 ++ (ps5 ++ (ps6 ++ (ps7 ++ ps8))))))
  parts_are =
      laws.segments.parts at is1 on2
      ∙ ap (λ ps. ps1 ++ ps) (laws.segments.parts at2 is2 on3
      ∙ ap (λ ps. ps2 ++ ps) (laws.segments.parts at3 is3 on4
      ∙ ap (λ ps. ps3 ++ ps) (laws.segments.parts at4 is4 on5
      ∙ ap (λ ps. ps4 ++ ps) (laws.segments.parts at5 is5 on6
      ∙ ap (λ ps. ps5 ++ ps) (laws.segments.parts at6 is6 on7
      ∙ ap (λ ps. ps6 ++ ps) (laws.segments.parts at7 is7 is8))))))

  -- ---- tests of each

  module _ (test : f.Part → Bool) where
    none3 : Fails test p.MEMBER_PARAM → Fails test p.MEMBER_CUSTOM → NonePass test ps3
    none3 h c =
        laws.lines.others externs typar_member p.MEMBER_CUSTOM (typar_head laws.numbers) test (λ j start. h (numbered start (typar_member j).below)) c t.generics 1 at3

    none4 : Fails test p.MEMBER_FIELD → Fails test p.MEMBER_CUSTOM → NonePass test ps4
    none4 h c = laws.fields.others externs p.MEMBER_FIELD p.MEMBER_CUSTOM test h c t.fields at4 k

    from7 : Fails test p.MEMBER_EVENT → Fails test p.MEMBER_CLASS → NonePass test (ps7 ++ ps8)
    from7 e c =
        none_both test ps7 ps8 (none_events test e externs path t.methods t.events at7)
        (none_classes test c path t.nested (k + length (written.field_contents t.fields)) at8)

    from6 : Fails test p.MEMBER_PROPERTY → Fails test p.MEMBER_EVENT → Fails test p.MEMBER_CLASS → NonePass test (ps6 ++ (ps7 ++ ps8))
    from6 x e c = none_both test ps6 (ps7 ++ ps8) (none_properties test x externs path t.methods t.properties at6) (from7 e c)

    from5 : Fails test p.MEMBER_METHOD → Fails test p.MEMBER_PROPERTY → Fails test p.MEMBER_EVENT → Fails test p.MEMBER_CLASS → NonePass test (ps5 ++ (ps6 ++ (ps7 ++ ps8)))
    from5 m x e c = none_both test ps5 (ps6 ++ (ps7 ++ ps8)) (none_methods test m externs t.methods at5) (from6 x e c)

  -- ---- what each reading finds

  abbrev tail5 : List f.Part
  tail5 = ps5 ++ (ps6 ++ (ps7 ++ ps8))

  tail_plain : NonePass is_custom tail5
  tail_plain = from5 is_custom (λ g. refl) (λ g. refl) (λ g. refl) (λ g. refl)

  tail_ends : IsEndOfRun (ps4 ++ tail5)
  tail_ends = laws.fields.ends externs p.MEMBER_FIELD p.MEMBER_CUSTOM field_head t.fields at4 k tail5 (none_end tail5 tail_plain)

  tail_owned : AllOwned (ps3 ++ (ps4 ++ tail5))
  tail_owned =
      laws.lines.owned externs typar_member p.MEMBER_CUSTOM (typar_head laws.numbers) t.generics 1 at3 (ps4 ++ tail5)
      (laws.fields.owned externs p.MEMBER_FIELD p.MEMBER_CUSTOM field_head t.fields at4 k tail5 (none_owned laws.filtered tail5 tail_plain))

  own_are : own_customs all ≡ ps2
  own_are =
      ap own_customs parts_are
      ∙ (lines_pass t.layout at (ps2 ++ (ps3 ++ (ps4 ++ tail5)))
      ∙ (laws.outside.outside ps2 (ps3 ++ (ps4 ++ tail5)) (customs_all externs t.attributes at2)
      ∙ (ap (λ ps. ps2 ++ ps) (tail_owned false) ∙ append-nil ps2)))

  typars_are : runs_of is_typar_line all ≡ typar_runs externs typar_member p.MEMBER_CUSTOM at3 1 t.generics
  typars_are =
      let own = typar_runs externs typar_member p.MEMBER_CUSTOM at3 1 t.generics in
      ap (runs_of is_typar_line) parts_are
      ∙ (laws.filtered.past is_typar_line ps1 (ps2 ++ (ps3 ++ (ps4 ++ tail5))) (none_lines is_typar_line (λ g. refl) (λ g. refl) t.layout at)
      ∙ (laws.filtered.past is_typar_line ps2 (ps3 ++ (ps4 ++ tail5)) (none_customs is_typar_line (λ g. refl) externs t.attributes at2)
      ∙ (laws.lines.runs externs typar_member p.MEMBER_CUSTOM (typar_head laws.numbers) t.generics 1 at3 (ps4 ++ tail5) tail_ends
      ∙ (ap (λ rs. own ++ rs) (laws.filtered.none is_typar_line (ps4 ++ tail5)
      (none_both is_typar_line ps4 tail5 (none4 is_typar_line (λ g. refl) (λ g. refl)) (from5 is_typar_line (λ g. refl) (λ g. refl) (λ g. refl) (λ g. refl))))
      ∙ append-nil own))))

  fields_are : runs_of read.is_field_part all ≡ field_runs externs p.MEMBER_FIELD p.MEMBER_CUSTOM at4 k t.fields
  fields_are =
      let own = field_runs externs p.MEMBER_FIELD p.MEMBER_CUSTOM at4 k t.fields in
      ap (runs_of read.is_field_part) parts_are
      ∙ (laws.filtered.past read.is_field_part ps1 (ps2 ++ (ps3 ++ (ps4 ++ tail5))) (none_lines read.is_field_part (λ g. refl) (λ g. refl) t.layout at)
      ∙ (laws.filtered.past read.is_field_part ps2 (ps3 ++ (ps4 ++ tail5)) (none_customs read.is_field_part (λ g. refl) externs t.attributes at2)
      ∙ (laws.filtered.past read.is_field_part ps3 (ps4 ++ tail5) (none3 read.is_field_part (λ g. refl) (λ g. refl))
      ∙ (laws.fields.runs externs p.MEMBER_FIELD p.MEMBER_CUSTOM field_head t.fields at4 k tail5 (none_end tail5 tail_plain)
      ∙ (ap (λ rs. own ++ rs) (laws.filtered.none read.is_field_part tail5 (from5 read.is_field_part (λ g. refl) (λ g. refl) (λ g. refl) (λ g. refl)))
      ∙ append-nil own)))))

  -- past the layout, the attributes, the generic parameters and the fields
  behind_fields : (test : f.Part → Bool) → Fails test p.MEMBER_PACK → Fails test p.MEMBER_SIZE → Fails test p.MEMBER_CUSTOM → Fails test p.MEMBER_PARAM → Fails test p.MEMBER_FIELD →
      filter test all ≡ filter test tail5
  behind_fields test l z c r x =
      ap (filter test) parts_are
      ∙ (filter_past test ps1 (ps2 ++ (ps3 ++ (ps4 ++ tail5))) (none_lines test l z t.layout at)
      ∙ (filter_past test ps2 (ps3 ++ (ps4 ++ tail5)) (none_customs test c externs t.attributes at2)
      ∙ (filter_past test ps3 (ps4 ++ tail5) (none3 test r c) ∙ filter_past test ps4 tail5 (none4 test x c))))

  methods_are : filter read.is_method_part all ≡ filter read.is_method_part ps5
  methods_are =
      behind_fields read.is_method_part (λ g. refl) (λ g. refl) (λ g. refl) (λ g. refl) (λ g. refl)
      ∙ filter_front read.is_method_part ps5 (ps6 ++ (ps7 ++ ps8)) (from6 read.is_method_part (λ g. refl) (λ g. refl) (λ g. refl))

  forests_are : read.method_forests all ≡ forests_at externs at5 t.methods
  forests_are = ap (λ ps. map (λ (q : f.Part). f.the p.METHOD q.below) ps) methods_are ∙ laws.methods.forests externs p.MEMBER_METHOD (λ g. refl) t.methods at5

  properties_are : filter (is_line p.MEMBER_PROPERTY) all ≡ filter (is_line p.MEMBER_PROPERTY) ps6
  properties_are =
      behind_fields (is_line p.MEMBER_PROPERTY) (λ g. refl) (λ g. refl) (λ g. refl) (λ g. refl) (λ g. refl)
      ∙ (filter_past (is_line p.MEMBER_PROPERTY) ps5 (ps6 ++ (ps7 ++ ps8)) (none_methods (is_line p.MEMBER_PROPERTY) (λ g. refl) externs t.methods at5)
      ∙ filter_front (is_line p.MEMBER_PROPERTY) ps6 (ps7 ++ ps8) (from7 (is_line p.MEMBER_PROPERTY) (λ g. refl) (λ g. refl)))

  events_are : filter (is_line p.MEMBER_EVENT) all ≡ filter (is_line p.MEMBER_EVENT) ps7
  events_are =
      behind_fields (is_line p.MEMBER_EVENT) (λ g. refl) (λ g. refl) (λ g. refl) (λ g. refl) (λ g. refl)
      ∙ (filter_past (is_line p.MEMBER_EVENT) ps5 (ps6 ++ (ps7 ++ ps8)) (none_methods (is_line p.MEMBER_EVENT) (λ g. refl) externs t.methods at5)
      ∙ (filter_past (is_line p.MEMBER_EVENT) ps6 (ps7 ++ ps8) (none_properties (is_line p.MEMBER_EVENT) (λ g. refl) externs path t.methods t.properties at6)
      ∙ filter_front (is_line p.MEMBER_EVENT) ps7 ps8 (none_classes (is_line p.MEMBER_EVENT) (λ g. refl) path t.nested (k + length (written.field_contents t.fields)) at8)))

  -- ---- agreement of each

  pub record EachAgrees (s : Source) : Type 0 where
    pub first : ItemsAgree s at is1
    pub second : ItemsAgree s at2 is2
    pub third : ItemsAgree s at3 is3
    pub fourth : ItemsAgree s at4 is4
    pub fifth : ItemsAgree s at5 is5
    pub sixth : ItemsAgree s at6 is6
    pub seventh : ItemsAgree s at7 is7

  each_agrees : (s : Source) → ItemsAgree s at (class_members externs t path k) → EachAgrees s
  each_agrees s ag =
      let one = laws.segments.agree s at is1 on2 ag in
      let two = laws.segments.agree s at2 is2 on3 one.1 in
      let three = laws.segments.agree s at3 is3 on4 two.1 in
      let four = laws.segments.agree s at4 is4 on5 three.1 in
      let five = laws.segments.agree s at5 is5 on6 four.1 in
      let six = laws.segments.agree s at6 is6 on7 five.1 in
      let seven = laws.segments.agree s at7 is7 is8 six.1 in
      record { first = one.0; second = two.0; third = three.0; fourth = four.0; fifth = five.0; sixth = six.0; seventh = seven.0 }

  pub record EachGrew : Type 0 where
    pub fifth : EachGrown n.MEMBER is5
    pub sixth : EachGrown n.MEMBER is6
    pub seventh : EachGrown n.MEMBER is7

  each_grew : EachGrown n.MEMBER (class_members externs t path k) → EachGrew
  each_grew g =
      let one = laws.pieces.each n.MEMBER is1 on2 g in
      let two = laws.pieces.each n.MEMBER is2 on3 one.1 in
      let three = laws.pieces.each n.MEMBER is3 on4 two.1 in
      let four = laws.pieces.each n.MEMBER is4 on5 three.1 in
      let five = laws.pieces.each n.MEMBER is5 on6 four.1 in
      let six = laws.pieces.each n.MEMBER is6 on7 five.1 in
      let seven = laws.pieces.each n.MEMBER is7 is8 six.1 in
      record { fifth = five.0; sixth = six.0; seventh = seven.0 }

  layout_is : (s : Source) → ItemsAgree s at is1 → (held : (after : List f.Part) → NonePass (is_line p.MEMBER_PACK) after → NonePass (is_line p.MEMBER_SIZE) after →
      layout_in s (ps1 ++ after) ≡ t.layout) → layout_in s all ≡ t.layout
  layout_is s ag held = ap (layout_in s) parts_are ∙ held (ps2 ++ (ps3 ++ (ps4 ++ tail5))) (behind (is_line p.MEMBER_PACK) (λ g. refl) (λ g. refl) (λ g. refl) (λ g. refl) (λ g. refl) (λ g. refl) (λ g. refl))
      (behind (is_line p.MEMBER_SIZE) (λ g. refl) (λ g. refl) (λ g. refl) (λ g. refl) (λ g. refl) (λ g. refl) (λ g. refl))
    where
      behind : (test : f.Part → Bool) → Fails test p.MEMBER_CUSTOM → Fails test p.MEMBER_PARAM → Fails test p.MEMBER_FIELD → Fails test p.MEMBER_METHOD →
          Fails test p.MEMBER_PROPERTY → Fails test p.MEMBER_EVENT → Fails test p.MEMBER_CLASS → NonePass test (ps2 ++ (ps3 ++ (ps4 ++ tail5)))
      behind test c r x m y e z =
          none_both test ps2 (ps3 ++ (ps4 ++ tail5)) (none_customs test c externs t.attributes at2)
          (none_both test ps3 (ps4 ++ tail5) (none3 test r c) (none_both test ps4 tail5 (none4 test x c) (from5 test m y e z)))

-- ---- read

module _ (laws : MemberLaws) (s : Source) (a : Assembly) (path : List TypeId) (t : TypeDef-F ClassShown) (formed : AreFormed a path t) (k at : ℕ) (ag : ItemsAgree s at (class_members a.externs t path k)) where
  abbrev parts : List f.Part
  parts = parts_at at (class_members a.externs t path k)

  abbrev agrees : EachAgrees laws a.externs path t k at s
  agrees = each_agrees laws a.externs path t k at s ag

  layout_read : layout_in s parts ≡ t.layout
  layout_read = layout_is laws a.externs path t k at s agrees.first (λ after no_pack no_size. laws.layouts s t.layout formed.layout at agrees.first after no_pack no_size)

  module _ (around : Around) (knows : Knows s a) where
    attributes_read : attributes s around (own_customs parts) ≡ t.attributes
    attributes_read =
        ap (attributes s around) (own_are laws a.externs path t k at)
        ∙ laws.attributes s around a knows t.attributes formed.attributes formed.attributes_held p.MEMBER_CUSTOM (at2 laws a.externs path t k at) agrees.second

    generics_read : (j : ℕ) → Agrees s j (opt_below (written.typars a.externs t.generics)) → (g : f.Forest) →
        f.child (p.TYPARS_OPT_SOME ∷ []) g ≡ numbered j (opt_below (written.typars a.externs t.generics)) → read_generics s around g (runs parts) ≡ t.generics
    generics_read j there g e =
        laws.generics.read s around a knows typar_member p.MEMBER_CUSTOM (typar_head laws.numbers) t.generics formed.generics formed.generics_held formed.few
        (at3 laws a.externs path t k at) agrees.third j there g e (runs parts) (typars_are laws a.externs path t k at)

    fields_read : HaveContents s k t.fields → read.fields s around parts ≡ t.fields
    fields_read has =
        ap (λ rs. map (read.field s around) rs) (fields_are laws a.externs path t k at)
        ∙ laws.fields.all s around a knows p.MEMBER_FIELD p.MEMBER_CUSTOM t.fields formed.fields formed.fields_held (at4 laws a.externs path t k at) k has agrees.fourth

    module _ (grown : EachGrown n.MEMBER (class_members a.externs t path k)) where
      abbrev grew : EachGrew laws a.externs path t k at
      grew = each_grew laws a.externs path t k at grown

      abbrev forests : List f.Forest
      forests = forests_at a.externs (at5 laws a.externs path t k at) t.methods

      methods_read : read.methods s around parts ≡ t.methods
      methods_read =
          ap (λ gs. map (read.method s around) gs) (forests_are laws a.externs path t k at)
          ∙ laws.methods.all s around a knows p.MEMBER_METHOD n.MEMBER method_body t.methods formed.methods formed.methods_held formed.short
          (at5 laws a.externs path t k at) grew.fifth agrees.fifth

      has_methods : HasMethods s around a path forests t.methods
      has_methods = record {
        named = formed.named;
        inside = formed.inside;
        heads = formed.heads;
        differ = formed.differ;
        read = laws.methods.heads s around a knows p.MEMBER_METHOD n.MEMBER method_body t.methods formed.methods formed.methods_held (at5 laws a.externs path t k at) grew.fifth agrees.fifth;
      }

      properties_read : read.properties s around parts ≡ t.properties
      properties_read =
          ap (λ gs. map (read.property s around gs) (read.properties_in parts)) (forests_are laws a.externs path t k at)
          ∙ (ap (λ ps. map (read.property s around forests) (map (λ (q : f.Part). f.the p.PROPERTY q.below) ps)) (properties_are laws a.externs path t k at)
          ∙ laws.properties.properties s around a knows path forests t.methods has_methods t.properties formed.properties formed.properties_held formed.property_accessors
          (at6 laws a.externs path t k at) grew.sixth agrees.sixth)

      events_read : read.events s around parts ≡ t.events
      events_read =
          ap (λ gs. map (read.event s around gs) (read.events_in parts)) (forests_are laws a.externs path t k at)
          ∙ (ap (λ ps. map (read.event s around forests) (map (λ (q : f.Part). f.the p.EVENT q.below) ps)) (events_are laws a.externs path t k at)
          ∙ laws.properties.events s around a knows path forests t.methods has_methods t.events formed.events formed.events_held formed.event_accessors
          (at7 laws a.externs path t k at) grew.seventh agrees.seventh)

pub class_members_are_read : NumbersAreRead → LayoutsAreRead → SegmentsAreRead → PiecesAreRead → RunsAreRead → RunsAreFiltered → AttributesAreRead → TyparLinesAreRead →
    GenericsAreRead → FieldRowsAreRead → MethodRowsAreRead → PropertyRowsAreRead → ClassMembersAreRead
class_members_are_read numbers layouts segments pieces outside filtered attribute_laws lines generic_laws fields methods properties =
    let laws : MemberLaws = record {
      numbers = numbers;
      layouts = layouts;
      segments = segments;
      pieces = pieces;
      outside = outside;
      filtered = filtered;
      attributes = attribute_laws;
      lines = lines;
      generics = generic_laws;
      fields = fields;
      methods = methods;
      properties = properties;
    } in
    record {
      layout = λ s a path t formed k at ag. layout_read laws s a path t formed k at ag;
      attributes = λ s around a knows path t formed k at ag. attributes_read laws s a path t formed k at ag around knows;
      generics = λ s around a knows path t formed k at ag j there g e. generics_read laws s a path t formed k at ag around knows j there g e;
      fields = λ s around a knows path t formed k at ag has. fields_read laws s a path t formed k at ag around knows has;
      methods = λ s around a knows path t formed k at ag grown. methods_read laws s a path t formed k at ag around knows grown;
      properties = λ s around a knows path t formed k at ag grown. properties_read laws s a path t formed k at ag around knows grown;
      events = λ s around a knows path t formed k at ag grown. events_read laws s a path t formed k at ag around knows grown;
    }
