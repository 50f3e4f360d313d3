-- The classes of a source, each with those that it nests, and the assembly as a whole (ECMA-335 II.10).
use Rattle.std.specs.Prelude.{ℕ, ◌==◌, ◌&&◌, ◌||◌, Bool, false, not, if◌then◌else◌, List, [], ◌∷◌, ◌++◌, codes, bytes_eq, bit_and, position, Option, None, Some}
use Rattle.std.specs.List.{list_any}
pub use Rattle.sorted_owners.specs.Rising.{put, put_before, rising}
use Rattle.type_terms.specs.declared.name.Scope.{Scope}
use Rattle.type_terms.specs.declared.name.Scope.TheVariants.{Here, Extern}
use Rattle.type_terms.specs.declared.name.TypeId.{TypeId}
use Rattle.type_terms.specs.declared.term.Owner.{Owner, Name}
use Rattle.assembly_tree.specs.declared.assembly.Assembly.{Assembly}
use Rattle.assembly_tree.specs.declared.typedef.TypeDef.{TypeDef}
use Rattle.assembly_tree.specs.declared.typedef.TypeDef.TheViews.{roll-TypeDef}
use Rattle.ilasm_grammar.specs.declared.productions.TheConstants.{CLASS, EXTENDS, EXTENDS_OPT_SOME, IMPLEMENTS_OPT_SOME}
use Rattle.source_model.specs.Data.{layout}
use Rattle.source_model.specs.Flags.{type_flags}
use Rattle.source_model.specs.Forest.{Forest, none, leaf, branch, has, child}
use Rattle.source_model.specs.Items.{declarations, members, runs, own_customs}
use Rattle.source_model.specs.Manifests.{manifest, extern_assemblies, attributes}
use Rattle.source_model.specs.Members.{fields, methods, properties, events}
use Rattle.source_model.specs.Names.{externs, extern_name, is_declared_path}
use Rattle.source_model.specs.Nodes.{Around, nothing_around, entered, type_id, class_token}
use Rattle.source_model.specs.Parameters.{generics}
use Rattle.source_model.specs.Source.{Source}
use Rattle.source_model.specs.Types.{the_owner, owners_in}

-- ---- the base

-- the names of the assemblies that hold the core of the class library (ECMA-335 IV.5)
abbrev pub core_names : List (List ℕ)
core_names = codes "mscorlib" ∷ codes "System.Runtime" ∷ codes "System.Private.CoreLib" ∷ codes "netstandard" ∷ []

abbrev pub is_core : Source → Forest → Bool
is_core s f = list_any (bytes_eq (extern_name s f)) core_names

-- the root of all classes (ECMA-335 II.10.1.2)
abbrev pub system_object : List TypeId
system_object = record { space = codes "System"; name = codes "Object" } ∷ []

-- where it stands: in the first assembly with a core name, or else in this source, if it is there
abbrev pub object_scope : Source → Option ℕ → Option Scope
object_scope s (Some k) = Some (Extern k)
object_scope s None = if is_declared_path s system_object then Some Here else None

abbrev pub core_scope : Source → Option Scope
core_scope s = object_scope s (position (is_core s) (externs s))

abbrev pub named_object : Option Scope → Option Owner
named_object None = None
named_object (Some scope) = Some (Name (record { scope = scope; path = system_object }))

-- a class with this path is the top-level `System.Object` of this source
abbrev pub is_root : List TypeId → Bool
is_root [] = false
is_root (id ∷ []) = bytes_eq id.space (codes "System") && bytes_eq id.name (codes "Object")
is_root (id ∷ next ∷ more) = false

abbrev pub is_interface : Source → Forest → Bool
is_interface s f = not (bit_and (type_flags s f) 0x20 == 0)

-- a class without a base of its own gets `System.Object`
abbrev pub wants_object : Source → Around → Forest → Bool
wants_object s a f = not (is_interface s f || has EXTENDS (child (EXTENDS_OPT_SOME ∷ []) f) || is_root a.path)

-- the base of a class. An interface has none, whatever it names, and the root has none where it names none.
abbrev pub base : Source → Around → Forest → Option Owner
base s a f =
    if is_interface s f then None
    else if has EXTENDS (child (EXTENDS_OPT_SOME ∷ []) f) then Some (the_owner s a (child (EXTENDS_OPT_SOME ∷ []) f))
    else if is_root a.path then None
    else named_object (core_scope s)

-- ---- classes

-- a class, from what stands around its parts and below its production, and the classes that it nests
abbrev pub class_from : Source → Around → Forest → List TypeDef → TypeDef
class_from s a f nested = roll-TypeDef (record {
  id = type_id s (class_token f);
  flags = type_flags s f;
  layout = layout s f;
  generics = generics s a f (runs (members f));
  extends = base s a f;
  implements = rising (owners_in s a (child (IMPLEMENTS_OPT_SOME ∷ []) f));
  fields = fields s a (members f);
  methods = methods s a (members f);
  properties = properties s a (members f);
  events = events s a (members f);
  nested = nested;
  attributes = attributes s a (own_customs (members f));
})

-- the classes of a forest in order, each with those that it nests
unfoldable pub classes_in : Source → Around → Forest → List TypeDef
classes_in s a none = []
classes_in s a (leaf token after) = classes_in s a after
classes_in s a (branch p below after) =
    (if p == CLASS then class_from s (entered s a p below) below (classes_in s (entered s a p below) below) ∷ []
    else classes_in s a below)
    ++ classes_in s a after

-- ---- the whole

-- the assembly that a source denotes, where it has no fault
unfoldable pub assembly : Source → Assembly
assembly s = record {
  manifest = manifest s;
  externs = extern_assemblies s;
  fields = fields s nothing_around (declarations s.tree);
  methods = methods s nothing_around (declarations s.tree);
  types = classes_in s nothing_around s.tree;
}
