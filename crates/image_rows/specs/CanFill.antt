-- What can be written of an assembly: every text, type, reference, constant and body in it (ECMA-335 II.22, II.23.2).
use Rattle.std.specs.Prelude.{◌^◌, ◌<◌, List, map}
use Rattle.std.specs.List.{AllByRecursion}
use Rattle.assembly_tree.specs.declared.assembly.Assembly.{Assembly}
use Rattle.image_tokens.specs.Writable.{IsOwnerWritable, IsMethodRefWritable}
use Rattle.image_tokens.specs.declared.references.References.{References}
use Rattle.image_rows.specs.AttributeRows.{CanPushAttribute}
use Rattle.image_members.specs.CodeBytes.{body_of, CanPushStated}
use Rattle.image_members.specs.ConstantRows.{CanPushConstant}
use Rattle.image_members.specs.DeclaredMembers.{IsFieldDeclarable, IsMethodDeclarable}
use Rattle.image_members.specs.Declaring.{places, class_id, AreApart}
use Rattle.image_rows.specs.EventRows.{CanPushEvent}
use Rattle.image_members.specs.GenericRows.{bounds_from, CanPushBound, CanPushGeneric}
use Rattle.image_rows.specs.InterfaceRows.{interfaces_from}
use Rattle.image_members.specs.Lists.{attribute_items, accessor_items, constant_items, generic_items, generics_in, params_in, properties_in, events_in}
use Rattle.image_members.specs.ManifestRows.{IsPlainManifest, IsPlainExtern}
use Rattle.image_rows.specs.ParamRows.{IsPlainParam}
use Rattle.image_members.specs.Places.{all_fields, all_methods}
use Rattle.image_rows.specs.PropertyRows.{CanPushProperty}
use Rattle.image_rows.specs.TypeRows.{base_of, CanBeBase}
use Rattle.image_members.specs.declared.classes.Class.{Class}
use Rattle.image_tokens.specs.Texts.{IsPlainId}

-- the types of an assembly can be declared
pub record AreDeclarableTypes (classes : List Class) : Type 0 where
  pub plain : AllByRecursion (λ c. IsPlainId (class_id c)) classes
  pub apart : AreApart (places classes)

-- all else in it can be written, once its types are declared and its texts loaded
pub record CanFill (a : Assembly) (classes : List Class) (r : References) : Type 0 where
  pub manifest : IsPlainManifest a.manifest
  pub externs : AllByRecursion IsPlainExtern a.externs
  pub bases : AllByRecursion (λ c. CanBeBase r (base_of c)) classes
  pub interfaces : AllByRecursion (λ t. AllByRecursion (IsOwnerWritable r) t.1) (interfaces_from 2 classes)
  pub fields : AllByRecursion (IsFieldDeclarable r) (all_fields a classes)
  pub methods : AllByRecursion (IsMethodDeclarable r) (all_methods a classes)
  pub params : AllByRecursion IsPlainParam (params_in a classes)
  pub properties : AllByRecursion (CanPushProperty r) (properties_in classes)
  pub events : AllByRecursion (CanPushEvent r) (events_in classes)
  pub accessors : AllByRecursion (λ x. x.1.1 < 2 ^ 24) (accessor_items a classes)
  pub generics : AllByRecursion (CanPushGeneric r) (generic_items a classes)
  pub bounds : AllByRecursion (CanPushBound r) (bounds_from 1 (generics_in a classes))
  pub constants : AllByRecursion (CanPushConstant r) (constant_items a classes)
  pub attributes : AllByRecursion (CanPushAttribute r) (attribute_items a classes)
  pub overrides : AllByRecursion (λ m. AllByRecursion (IsMethodRefWritable r) m.overrides) (all_methods a classes)
  pub bodies : AllByRecursion (CanPushStated r) (map body_of (all_methods a classes))
