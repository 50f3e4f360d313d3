-- The manifest, and the whole of an assembly.
use Rattle.std.proofs.Common.{ℕ, List}
use Rattle.assembly_tree.specs.declared.assembly.Assembly.{Assembly}
use Rattle.assembly_tree.specs.declared.typedef.TypeDef.TheViews.{out-TypeDef}
use Rattle.body_codec.specs.Names.{NameMap}
use Rattle.pe_layout.specs.declared.parts.Kind.{Kind}
use Rattle.image_tokens.specs.declared.references.References.{References}
use Rattle.image_members.specs.Places.{all_fields, all_methods}
use Rattle.image_members.specs.Pushing.{Tables}
use Rattle.image_members.specs.declared.classes.Class.{Class}
use Rattle.image_model.specs.Reading.{IsField, IsMethod, IsManifest, IsTypeButNested, IsAssembly}
use Rattle.image_model.specs.Rows.{fields_of, methods_of}
use Rattle.laws_image_parts.specs.AtRows.{AtEach}
use Rattle.laws_image_parts.specs.ManifestRead.{ManifestIsRead}
use Rattle.laws_image_parts.specs.NestingRead.{TypesAreNested}
use Rattle.laws_image_parts.specs.PartsRead.{PartsAreRead}
use Rattle.laws_writable_trees.proofs.Parts.{whole}
use Rattle.laws_image_reading.specs.parts.Attributes.{AttributesNamed}
use Rattle.laws_image_reading.specs.parts.Held.{IsHeld}
use Rattle.laws_image_reading.specs.parts.Known.{KnowsRows}
use Rattle.laws_image_reading.proofs.parts.Lists.{zip_items}

module _ (a : Assembly) (classes : List Class) (r : References) (tables : Tables) (code id : List ℕ) (kind : Kind) (image : List ℕ) (names : NameMap)
    (held : IsHeld a classes r tables code id kind image names) (known : KnowsRows a classes r code image) where
  pub manifest_named : ManifestIsRead → AttributesNamed a classes image names → IsManifest image names a.manifest
  manifest_named read attributes =
      let w = whole a classes held.filled.classes_are held.formed held.light in
      let head = read a r image known.heaps known.rows.manifest held.laid_out.numbers w.manifest held.ranges.version in
      record {
        name = head.name;
        version = head.version;
        flags = head.flags;
        key = head.key;
        culture = head.culture;
        hash = head.hash;
        module_name_is = head.module_name_is;
        image_base = head.image_base;
        file_alignment = head.file_alignment;
        stack_reserve = head.stack_reserve;
        subsystem = head.subsystem;
        cor_flags = head.cor_flags;
        attributes = attributes.assembly_row;
        module_attributes = attributes.module_row;
      }

  pub assembly_read : PartsAreRead → TypesAreNested → IsManifest image names a.manifest → AtEach (IsField image names) 1 (all_fields a classes) → AtEach (IsMethod image names) 1 (all_methods a classes)
      → AtEach (λ type c. IsTypeButNested image names type (out-TypeDef c.of.now)) 2 classes → IsAssembly image names a
  assembly_read parts nested manifest fields methods types = record {
    manifest = manifest;
    externs = parts.externs a r image known.heaps known.rows.manifest held.ranges.externs;
    fields = zip_items (IsField image names) (all_fields a classes) fields (fields_of image 1) a.fields known.runs.module_fields;
    methods = zip_items (IsMethod image names) (all_methods a classes) methods (methods_of image 1) a.methods known.runs.module_methods;
    types = nested a classes names image held.filled.classes_are known.enclosed types;
  }
