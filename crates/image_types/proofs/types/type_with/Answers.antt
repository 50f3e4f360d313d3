use Rattle.std.proofs.Common.{ℕ, ◌*◌, ◌+◌, Result, Ok, Err, sym, ◌∙◌, ap, subst}
use Rattle.std.specs.List.{AllZip}
use Rattle.metadata_tables.specs.Stream.{cell}
use Rattle.assembly_tree.specs.declared.typedef.TypeDef.{TypeDef}
use Rattle.assembly_tree.specs.declared.typedef.TypeDef.TheOpen.{TypeDef-F}
use Rattle.assembly_tree.specs.declared.typedef.TypeDef.TheViews.{out-roll-TypeDef}
use Rattle.image_model.specs.Columns.{attribute_parent, generic_owner, type_extends}
use Rattle.image_model.specs.Naming.{HasId}
use Rattle.image_model.specs.Reading.{IsGeneric, IsAttribute, IsField, IsMethod, IsProperty, IsEvent, ExtendsIs, AreInterfaces, IsTypeButNested}
use Rattle.image_model.specs.Rows.{rows_with, fields_of, methods_of, properties_of, events_of}
use Rattle.image_source.specs.Names.{names_of}
use Rattle.row_parts.proofs.Indexes.{type_attributes, type_generics}
use Rattle.row_parts.proofs.Zips.{ok_has}
use Rattle.image_types.proofs.types.type_with.Goals as goal

ok_or : {X E : Type 0} → X → Result X E → X
ok_or d (Ok x) = x
ok_or d (Err e) = d

pub returns : goal.returns
unfolding ok_or
returns c =
    let image = c.args.source.now.image.now in
    let names = names_of c.args.source.now.kept.now in
    let row = c.args.row in
    let it = c.in_ok-read.read in
    let front = rw c.in_ok-read.ensures.0 at c.four.ensures in
    let back = rw c.in_ok-read.ensures.1 at c.pair-2.ensures in
    let bases = rw back.0 at c.pair.ensures in
    let members = rw back.1 at c.four-2.ensures in
    let generics = ap (λ (r : ℕ). r * 2) c.from.ensures ∙ sym (type_generics row) in
    let attributes = ap (λ (r : ℕ). r * 32 + 3) c.from-2.ensures ∙ sym (type_attributes row) in
    let made : TypeDef-F TypeDef = record {
      id = it.0.1;
      flags = c.cell-flags.result;
      layout = c.layout-layout.result;
      generics = it.0.2;
      extends = it.1.0.0;
      implements = it.1.0.1;
      fields = it.1.1.0;
      methods = it.1.1.1;
      properties = it.1.1.2;
      events = it.1.1.3;
      nested = it.0.0;
      attributes = it.0.3;
    } in
    let is : IsTypeButNested image names row made = record {
      id = ok_has (HasId image row) c.id.result it.0.1 front.1.0 c.id.ensures;
      flags = c.cell-flags.ensures ∙ ap (λ stream. cell stream 0x02 row 0) c.tables.ensures.tables;
      layout = c.layout-layout.ensures;
      generics = subst (λ (i : ℕ). AllZip (IsGeneric image names) (rows_with image 0x2A generic_owner i) it.0.2) generics
          (ok_has (AllZip (IsGeneric image names) (rows_with image 0x2A generic_owner (c.from.result * 2))) c.generics.result it.0.2 front.1.1.0 c.generics.ensures);
      extends = ok_has (ExtendsIs image names (type_extends image row)) c.extends.result it.1.0.0 bases.0 c.extends.ensures;
      implements = ok_has (AreInterfaces image names row) c.interfaces.result it.1.0.1 bases.1 c.interfaces.ensures;
      fields = ok_has (AllZip (IsField image names) (fields_of image row)) c.type_fields.result it.1.1.0 members.0 c.type_fields.ensures;
      methods = ok_has (AllZip (IsMethod image names) (methods_of image row)) c.type_methods.result it.1.1.1 members.1.0 c.type_methods.ensures;
      properties = ok_has (AllZip (IsProperty image names row) (properties_of image row)) c.type_properties.result it.1.1.2 members.1.1.0 c.type_properties.ensures;
      events = ok_has (AllZip (IsEvent image names row) (events_of image row)) c.type_events.result it.1.1.3 members.1.1.1 c.type_events.ensures;
      attributes = subst (λ (i : ℕ). AllZip (IsAttribute image names) (rows_with image 0x0C attribute_parent i) it.0.3) attributes
          (ok_has (AllZip (IsAttribute image names) (rows_with image 0x0C attribute_parent (c.from-2.result * 32 + 3))) c.attributes.result it.0.3 front.1.1.1 c.attributes.ensures);
    } in (
      subst (λ (l : TypeDef-F TypeDef). IsTypeButNested image names row l) (sym (out-roll-TypeDef made)) is,
      ap (λ (l : TypeDef-F TypeDef). l.nested) (out-roll-TypeDef made) ∙ ap (ok_or it.0.0) (sym front.0),
    )

pub type_methods-requires-clause-overrides : goal.type_methods-requires-clause-overrides
type_methods-requires-clause-overrides c = c.requires.maps.overrides_are

pub type_properties-requires-clause-maps : goal.type_properties-requires-clause-maps
type_properties-requires-clause-maps c = c.requires.maps.properties_are

pub type_events-requires-clause-maps : goal.type_events-requires-clause-maps
type_events-requires-clause-maps c = c.requires.maps.events_are
