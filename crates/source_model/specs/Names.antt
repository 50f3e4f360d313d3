-- Assemblies and types by their names (ECMA-335 II.6.2, II.6.3, II.7.3, II.8.5.2).
use Rattle.std.specs.Prelude.{ℕ, ◌==◌, ◌||◌, Bool, false, if◌then◌else◌, List, [], ◌∷◌, map, position, find, codes, bytes_eq, Option, None, Some, is_some}
use lib.Pointwise.{pointwise}
use Rattle.type_terms.specs.declared.name.Scope.{Scope}
use Rattle.type_terms.specs.declared.name.Scope.TheVariants.{Here, Extern}
use Rattle.type_terms.specs.declared.name.TypeId.{TypeId}
use Rattle.type_terms.specs.declared.name.TypeName.{TypeName}
use Rattle.assembly_tree.specs.DataSize.{is_id}
use Rattle.ilasm_grammar.specs.declared.productions.TheConstants.{ASSEMBLY_EXTERN, ASSEMBLY_ASSEMBLY_ATTR_STAR, ALIAS, CLASS, PATH, SLASH_NAME, TYPE_NAME_SCOPE, TYPE_NAME_PATH, TARGET_SCOPE, TARGET_NAME, NAME_TAIL_SLASH, NAME_TAIL_DOUBLE_COLON, FIELD_TARGET_SCOPE, FIELD_TARGET_NAME, FIELD_TAIL_SLASH, FIELD_TAIL_DOUBLE_COLON}
use Rattle.source_model.specs.Forest.{Forest, Part, parts, each, has, child, leaf_at, the}
use Rattle.source_model.specs.Nodes.{Node, nodes, nodes_of, type_id}
use Rattle.source_model.specs.Source.{Source}
use Rattle.source_model.specs.Values.{name_text, scope_text}

-- ---- assemblies

-- the declarations of other assemblies, in order, each by what stands below its production
abbrev pub externs : Source → List Forest
externs s = each ASSEMBLY_EXTERN s.tree

-- the token of the key by which an assembly is named: its alias, or else its name
abbrev pub key_token : Forest → ℕ
key_token f = if has ALIAS f then leaf_at 1 (the ALIAS f) else leaf_at 1 f

abbrev pub extern_key : Source → Forest → List ℕ
extern_key s f = name_text s (key_token f)

abbrev pub extern_name : Source → Forest → List ℕ
extern_name s f = name_text s (leaf_at 1 f)

-- the declarations of this assembly, of which there should be one
abbrev pub assemblies : Source → List Forest
assemblies s = each ASSEMBLY_ASSEMBLY_ATTR_STAR s.tree

abbrev pub assembly_token : Forest → ℕ
assembly_token f = leaf_at 0 f

-- the assembly's own name is this text
abbrev pub is_own_name_of : Source → List Forest → List ℕ → Bool
is_own_name_of s [] text = false
is_own_name_of s (f ∷ more) text = bytes_eq (name_text s (assembly_token f)) text

-- the first assembly with this key; where there is none and the text is the assembly's own name, this assembly
abbrev pub or_here : Bool → Option ℕ → Option Scope
or_here own (Some k) = Some (Extern k)
or_here own None = if own then Some Here else None

abbrev pub scope_named : Source → List ℕ → Option Scope
scope_named s key =
    or_here (is_own_name_of s (assemblies s) key) (position (λ f. bytes_eq (extern_key s f) key) (externs s))

-- ---- the classes of the source

-- the declarations of classes, in order; the path of each is that around its parts
abbrev pub classes : Source → List Node
classes s = nodes_of (CLASS ∷ []) (nodes s)

abbrev pub is_path : List TypeId → List TypeId → Bool
is_path p q = pointwise is_id p q

-- the first class with this path
abbrev pub class_at : Source → List TypeId → Option Node
class_at s path = find (λ n. is_path n.around.path path) (classes s)

-- the class that holds what is declared outside of any class; it needs no declaration (ECMA-335 II.10.8)
abbrev pub module_id : TypeId
module_id = record { space = []; name = codes "<Module>" }

abbrev pub module_path : List TypeId
module_path = module_id ∷ []

-- the source declares a type of this path
abbrev pub is_declared_path : Source → List TypeId → Bool
is_declared_path s path = is_path path module_path || is_some (class_at s path)

-- ---- types' names as they are written

-- the token of the assembly's name in brackets, where there is one, and those of the names of the path
pub record Written : Type 0 where
  pub scope : Option ℕ
  pub path : List ℕ

-- the tokens of the names of a path
abbrev pub path_tokens : Forest → List ℕ
path_tokens f = leaf_at 0 f ∷ map (λ g. leaf_at 1 g) (each SLASH_NAME f)

abbrev pub with_scope : Forest → Written
with_scope f = record { scope = Some (leaf_at 0 f); path = path_tokens (child (PATH ∷ []) f) }

abbrev pub without_scope : Forest → Written
without_scope f = record { scope = None; path = path_tokens (child (PATH ∷ []) f) }

-- a name and what may follow it in a reference: more names, or `::`; else it is no type's name
abbrev pub name_and_tail : ℕ → ℕ → Forest → Option Written
name_and_tail slash double_colon f =
    if has slash f then Some (record { scope = None; path = leaf_at 0 f ∷ path_tokens (child (PATH ∷ []) (child (slash ∷ []) f)) })
    else if has double_colon f then Some (record { scope = None; path = leaf_at 0 f ∷ [] })
    else None

-- the type's name that a production begins with, where it has one of its own
abbrev pub written_name : ℕ → Forest → Option Written
written_name p below =
    if p == TYPE_NAME_SCOPE || p == TARGET_SCOPE || p == FIELD_TARGET_SCOPE then Some (with_scope below)
    else if p == TYPE_NAME_PATH then Some (without_scope below)
    else if p == TARGET_NAME then name_and_tail NAME_TAIL_SLASH NAME_TAIL_DOUBLE_COLON below
    else if p == FIELD_TARGET_NAME then name_and_tail FIELD_TAIL_SLASH FIELD_TAIL_DOUBLE_COLON below
    else None

abbrev pub or_scope : Option Scope → Scope
or_scope None = Here
or_scope (Some scope) = scope

-- what a name in brackets stands for; without one it is this assembly
abbrev pub written_scope : Source → Option ℕ → Option Scope
written_scope s None = Some Here
written_scope s (Some k) = scope_named s (scope_text s k)

-- the type that a written name stands for
abbrev pub type_named : Source → Written → TypeName
type_named s w = record { scope = or_scope (written_scope s w.scope); path = map (type_id s) w.path }

abbrev pub module_name : TypeName
module_name = record { scope = Here; path = module_path }

abbrev pub or_module : Source → Option Written → TypeName
or_module s None = module_name
or_module s (Some w) = type_named s w

abbrev pub name_of_parts : Source → List Part → TypeName
name_of_parts s [] = module_name
name_of_parts s (p ∷ ps) = or_module s (written_name p.production p.below)

-- the first type's name in a forest
abbrev pub type_name : Source → Forest → TypeName
type_name s f = name_of_parts s (parts (TYPE_NAME_SCOPE ∷ TYPE_NAME_PATH ∷ []) f)
