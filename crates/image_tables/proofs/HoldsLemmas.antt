-- What parts of the tables hold stays while others are added.
use Rattle.std.proofs.Common.{◌≡◌, ap, refl, sym, ◌∙◌, subst, ℕ, ◌+◌, List, [], ◌∷◌, ◌++◌, length, map}
use Rattle.std.specs.List.{AllZip, enumerate_from, flat_map}
use Rattle.assembly_tree.specs.declared.assembly.Assembly.{Assembly}
use Rattle.assembly_tree.specs.declared.members.Field.{Field}
use Rattle.metadata_tables.specs.Encoding.{rows_of}
use Rattle.sig_codec.specs.Signature.{SpellsMethod, SpellsField}
use Rattle.image_tokens.specs.References.{Grows}
use Rattle.image_tokens.specs.declared.references.References.{References}
use Rattle.image_tokens.specs.declared.references.Declared.{Declared}
use Rattle.image_tokens.specs.declared.row_set.Cells.{Cells}
use Rattle.image_tokens.proofs.GrowthLemmas.{signature_kept}
use Rattle.image_tokens.proofs.PathLemmas.{text_kept}
use Rattle.image_rows.specs.AttributeRows.{IsAttributeRow}
use Rattle.image_members.specs.CodeBytes.{body_of, HasBody}
use Rattle.image_members.specs.ConstantRows.{IsConstantRow}
use Rattle.image_members.specs.DataRows.{all_data, IsDataRow}
use Rattle.image_members.specs.DeclaredMembers.{owned, class_fields, class_methods, IsFieldOf, IsMethodOf}
use Rattle.image_members.specs.Declaring.{places, AreDeclared, HoldsPlace}
use Rattle.image_rows.specs.EventRows.{IsEventRow}
use Rattle.image_rows.specs.FieldRows.{IsFieldRow, offset_rows}
use Rattle.image_rows.specs.Filled.{HasDeclared, HoldsItems, HoldsManifest, HoldsTypeRows, HoldsInterfaces, HoldsTypes, HoldsFields, HoldsMethods, HoldsProperties, HoldsOwned}
use Rattle.image_members.specs.GenericRows.{bounds_from, IsBoundRow, IsGenericRow}
use Rattle.image_rows.specs.InterfaceRows.{interfaces_from, AreInterfaceRows}
use Rattle.image_members.specs.Lists.{attribute_items, constant_items, generic_items, generics_in, params_in, properties_in, events_in}
use Rattle.image_members.specs.ManifestRows.{IsModuleRow, IsAssemblyRow, IsExternRow}
use Rattle.image_rows.specs.MethodRows.{PlacedMethod, placed_methods, IsMethodRow}
use Rattle.image_rows.specs.OverrideRows.{overrides_from, IsOverrideRow}
use Rattle.image_rows.specs.ParamRows.{IsParamRow}
use Rattle.image_members.specs.Places.{all_fields, all_methods}
use Rattle.image_rows.specs.PropertyRows.{IsPropertyRow}
use Rattle.image_members.specs.Pushing.{Tables}
use Rattle.image_rows.specs.TypeRows.{numbered, IsModuleType, IsTypeDefRow}
use Rattle.image_members.specs.declared.classes.Class.{Class}
use Rattle.image_rows.proofs.AttributeLemmas.{attribute_kept}
use Rattle.image_rows.proofs.BoundLemmas.{bound_kept}
use Rattle.image_members.proofs.CodeLemmas.{body_later}
use Rattle.image_members.proofs.ConstantLemmas.{constant_kept}
use Rattle.image_members.proofs.DeclaredLemmas.{field_kept, method_kept}
use Rattle.image_members.proofs.DeclaringLemmas.{place_kept}
use Rattle.image_rows.proofs.EventLemmas.{event_kept}
use Rattle.image_members.proofs.GenericLemmas.{generic_kept}
use Rattle.image_rows.proofs.InterfaceLemmas.{rows_kept}
use Rattle.image_members.proofs.ManifestLemmas.{module_kept, assembly_kept, extern_kept}
use Rattle.image_rows.proofs.OverrideLemmas.{override_kept}
use Rattle.image_rows.proofs.ParamLemmas.{param_kept}
use Rattle.image_rows.proofs.PropertyLemmas.{property_kept}
use Rattle.image_rows.proofs.TypeRowLemmas.{row_kept}
use Rattle.image_members.proofs.ZipLemmas.{zip_later}
use Rattle.image_tables.specs.Parts.{KeepsPart}
use Rattle.image_tables.proofs.PartLemmas.{held_later}

-- ---- declarations

pub types_declared_later : (classes : List Class) (r s : References) → Grows r s → AreDeclared r.heaps.strings r.declared.types (places classes)
    → AreDeclared s.heaps.strings s.declared.types (places classes)
types_declared_later classes r s g h =
    subst (λ (rows : List Cells). AreDeclared s.heaps.strings rows (places classes)) (sym (ap (λ (d : Declared). d.types) g.declared))
    (zip_later (HoldsPlace r.heaps.strings) (HoldsPlace s.heaps.strings) r.declared.types (places classes)
    (λ cells p k. place_kept r.heaps.strings s.heaps.strings g.strings cells p k) h)

pub declared_later : (a : Assembly) (classes : List Class) (r s : References) → Grows r s → HasDeclared a classes r → HasDeclared a classes s
declared_later a classes r s g h = record {
  types = types_declared_later classes r s g h.types;
  fields = subst (λ (rows : List Cells). AllZip (IsFieldOf s) rows (owned 1 (a.fields ∷ map class_fields classes))) (sym (ap (λ (d : Declared). d.fields) g.declared))
      (zip_later (IsFieldOf r) (IsFieldOf s) r.declared.fields (owned 1 (a.fields ∷ map class_fields classes)) (λ cells m k. field_kept r s g cells m k) h.fields);
  methods = subst (λ (rows : List Cells). AllZip (IsMethodOf s) rows (owned 1 (a.methods ∷ map class_methods classes))) (sym (ap (λ (d : Declared). d.methods) g.declared))
      (zip_later (IsMethodOf r) (IsMethodOf s) r.declared.methods (owned 1 (a.methods ∷ map class_methods classes)) (λ cells m k. method_kept r s g cells m k) h.methods);
}

-- ---- rows

pub field_row_kept : (r s : References) → Grows r s → (cells : List ℕ) (f : Field) → IsFieldRow r cells f → IsFieldRow s cells f
field_row_kept r s g cells f h = record {
  name = h.name;
  signature = h.signature;
  are = h.are;
  name_is = text_kept r.heaps.strings s.heaps.strings f.name h.name g.strings h.name_is;
  signature_is = signature_kept SpellsField r s f.of h.signature g h.signature_is;
}

pub method_row_kept : (params : ℕ) (r s : References) → Grows r s → (cells : List ℕ) (p : PlacedMethod) → IsMethodRow params r cells p → IsMethodRow params s cells p
method_row_kept params r s g cells p h = record {
  name = h.name;
  signature = h.signature;
  are = h.are;
  name_is = text_kept r.heaps.strings s.heaps.strings p.method.name h.name g.strings h.name_is;
  signature_is = signature_kept SpellsMethod r s p.method.sig h.signature g h.signature_is;
}

pub module_type_kept : (fields methods : ℕ) (r s : References) → Grows r s → (cells : List ℕ) → IsModuleType fields methods r cells → IsModuleType fields methods s cells
module_type_kept fields methods r s g cells h = record {
  name = h.name;
  space = h.space;
  are = h.are;
  id_is = record {
    name_is = text_kept r.heaps.strings s.heaps.strings _ h.name g.strings h.id_is.name_is;
    space_is = text_kept r.heaps.strings s.heaps.strings _ h.space g.strings h.id_is.space_is;
  };
}

-- ---- parts

module _ (a : Assembly) (r s : References) (t u : Tables) (g : Grows r s) where
  pub manifest_later : KeepsPart 0 t u → HoldsManifest a r t → HoldsManifest a s u
  manifest_later keeps h = record {
    module_row = held_later 0x00 IsModuleRow module_kept (a.manifest ∷ []) r s t u g (keeps 0x00 refl) h.module_row;
    assembly_row = held_later 0x20 IsAssemblyRow assembly_kept (a.manifest ∷ []) r s t u g (keeps 0x20 refl) h.assembly_row;
    externs = held_later 0x23 IsExternRow extern_kept a.externs r s t u g (keeps 0x23 refl) h.externs;
  }

  module _ (classes : List Class) where
    pub type_rows_later : rows_of u 0x02 ≡ rows_of t 0x02 → HoldsTypeRows a classes r t → HoldsTypeRows a classes s u
    type_rows_later same h = record {
      module_cells = h.module_cells;
      rows = h.rows;
      are = same ∙ h.are;
      module_is = module_type_kept (length (all_fields a classes)) (length (all_methods a classes)) r s g h.module_cells h.module_is;
      each = zip_later (IsTypeDefRow (length (all_fields a classes)) (length (all_methods a classes)) r)
          (IsTypeDefRow (length (all_fields a classes)) (length (all_methods a classes)) s) h.rows
          (numbered (1 + length a.fields) (1 + length a.methods) classes)
          (λ cells n k. row_kept (length (all_fields a classes)) (length (all_methods a classes)) r s g cells n k) h.each;
    }

    pub interfaces_later : rows_of u 0x09 ≡ rows_of t 0x09 → HoldsInterfaces classes r t → HoldsInterfaces classes s u
    interfaces_later same h = record {
      groups = h.groups;
      are = same ∙ h.are;
      each = zip_later (AreInterfaceRows r) (AreInterfaceRows s) h.groups (interfaces_from 2 classes) (λ rows x k. rows_kept r s g rows x k) h.each;
    }

    pub types_later : KeepsPart 2 t u → HoldsTypes a classes r t → HoldsTypes a classes s u
    types_later keeps h = record {
      types = type_rows_later (keeps 0x02 refl) h.types;
      interfaces = interfaces_later (keeps 0x09 refl) h.interfaces;
      layouts = keeps 0x0F refl ∙ h.layouts;
      nested = keeps 0x29 refl ∙ h.nested;
      event_map = keeps 0x12 refl ∙ h.event_map;
      property_map = keeps 0x15 refl ∙ h.property_map;
    }

    pub fields_later : (code : List ℕ) → KeepsPart 3 t u → HoldsFields a classes r t code → HoldsFields a classes s u code
    fields_later code keeps h = record {
      fields = held_later 0x04 IsFieldRow field_row_kept (all_fields a classes) r s t u g (keeps 0x04 refl) h.fields;
      offsets = keeps 0x10 refl ∙ h.offsets;
      contents = subst (λ (rows : List (List ℕ)). AllZip (IsDataRow code) rows (all_data 1 (all_fields a classes))) (sym (keeps 0x1D refl)) h.contents;
    }

    pub methods_later : (code more : List ℕ) → KeepsPart 1 t u → HoldsMethods a classes r t code → HoldsMethods a classes s u (code ++ more)
    methods_later code more keeps h = record {
      rvas = h.rvas;
      bodies = zip_later (HasBody r code) (HasBody s (code ++ more)) h.rvas (map body_of (all_methods a classes)) (λ rva x k. body_later r s code more g rva x k) h.bodies;
      methods = subst (λ (rows : List (List ℕ)). AllZip (IsMethodRow (length (params_in a classes)) s) rows (placed_methods 1 h.rvas (all_methods a classes))) (sym (keeps 0x06 refl))
          (zip_later (IsMethodRow (length (params_in a classes)) r) (IsMethodRow (length (params_in a classes)) s) (rows_of t 0x06) (placed_methods 1 h.rvas (all_methods a classes))
          (λ cells p k. method_row_kept (length (params_in a classes)) r s g cells p k) h.methods);
      params = held_later 0x08 IsParamRow param_kept (params_in a classes) r s t u g (keeps 0x08 refl) h.params;
      overrides = subst (λ (ds : Declared). HoldsItems 0x19 IsOverrideRow (overrides_from 1 ds.methods (all_methods a classes)) s u) (sym g.declared)
          (held_later 0x19 IsOverrideRow override_kept (overrides_from 1 r.declared.methods (all_methods a classes)) r s t u g (keeps 0x19 refl) h.overrides);
    }

    pub properties_later : KeepsPart 4 t u → HoldsProperties a classes r t → HoldsProperties a classes s u
    properties_later keeps h = record {
      properties = held_later 0x17 IsPropertyRow property_kept (properties_in classes) r s t u g (keeps 0x17 refl) h.properties;
      events = held_later 0x14 IsEventRow event_kept (events_in classes) r s t u g (keeps 0x14 refl) h.events;
      accessors = keeps 0x18 refl ∙ h.accessors;
    }

    pub owned_later : KeepsPart 5 t u → HoldsOwned a classes r t → HoldsOwned a classes s u
    owned_later keeps h = record {
      generics = held_later 0x2A IsGenericRow generic_kept (generic_items a classes) r s t u g (keeps 0x2A refl) h.generics;
      bounds = held_later 0x2C IsBoundRow bound_kept (bounds_from 1 (generics_in a classes)) r s t u g (keeps 0x2C refl) h.bounds;
      constants = held_later 0x0B IsConstantRow constant_kept (constant_items a classes) r s t u g (keeps 0x0B refl) h.constants;
      attributes = held_later 0x0C IsAttributeRow attribute_kept (attribute_items a classes) r s t u g (keeps 0x0C refl) h.attributes;
    }
