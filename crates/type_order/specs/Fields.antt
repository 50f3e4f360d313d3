-- The fields that the image of a world declares, by what their owners mean (ECMA-335 II.10, II.10.8, II.16).
use Rattle.std.specs.Prelude.{List, [], ◌∷◌, codes, if◌then◌else◌, Option, None, Some}
use Rattle.type_terms.specs.declared.name.Scope.{Scope}
use Rattle.type_terms.specs.declared.name.Scope.TheVariants.{Here, Extern}
use Rattle.type_terms.specs.declared.name.TypeId.{TypeId}
use Rattle.type_terms.specs.declared.name.TypeName.{TypeName}
use Rattle.type_terms.specs.declared.term.Owner.{Owner}
use Rattle.assembly_tree.specs.declared.assembly.Assembly.{Assembly}
use Rattle.assembly_tree.specs.declared.members.Field.{Field}
use Rattle.assembly_tree.specs.declared.typedef.TypeDef.{TypeDef}
use Rattle.assembly_tree.specs.declared.typedef.TypeDef.TheViews.{out-TypeDef}
use Rattle.assembly_tree.specs.DataSize.{type_at}
use Rattle.type_hierarchy.specs.Ancestors.{name_in}
use Rattle.type_hierarchy.specs.Hierarchy.{Hierarchy}
use Rattle.type_hierarchy.specs.Names.{same_path}
use Rattle.type_hierarchy.specs.Normal.{normal_owner}
use Rattle.type_order.specs.Keys.{reading_of}

-- the type `<Module>`, which holds the members that stand outside types
abbrev pub the_module : List TypeId
the_module = record { space = []; name = codes "<Module>" } ∷ []

abbrev pub fields_in : Option TypeDef → List Field
fields_in None = []
fields_in (Some t) = (out-TypeDef t).fields

abbrev pub fields_by_scope : Assembly → Scope → List TypeId → List Field
fields_by_scope a Here path = if same_path path the_module then a.fields else fields_in (type_at a.types path)
fields_by_scope a (Extern k) path = []

-- the fields of the type that has that name in the world, which has the image's own types in the scope of the image itself
abbrev pub fields_of : Assembly → Option TypeName → List Field
fields_of a None = []
fields_of a (Some name) = fields_by_scope a name.scope name.path

-- The fields of the type that an owner means: modifiers fall away, a scope is what it means, so that the image's own name in
-- brackets is the image, an instantiation is the type of its name, and a primitive type that of its name in the core.
abbrev pub fields_meant : Assembly → Hierarchy → Owner → List Field
fields_meant a w owner = fields_of a (name_in w (normal_owner (reading_of w) owner))
