-- What is named and not declared (ECMA-335 II.6.2, II.7.3, II.10.1.7, II.16.3, II.17, II.18).
use Rattle.std.specs.Prelude.{ℕ, ◌==◌, ◌&&◌, Bool, true, false, not, if◌then◌else◌, List, [], ◌∷◌, ◌++◌, length, filter, is_some}
use Rattle.std.specs.List.{flat_map, list_any}
use Rattle.type_terms.specs.declared.name.Scope.{Scope}
use Rattle.type_terms.specs.declared.name.Scope.TheVariants.{Here, Extern}
use Rattle.type_terms.specs.declared.name.TypeId.{TypeId}
use Rattle.type_terms.specs.declared.term.Owner.{Owner, out-Owner}
use Rattle.type_terms.specs.declared.term.SigType.{SigType}
use Rattle.type_terms.specs.declared.term.Owner.TheOpen.{Owner-F, Name, Spec}
use Rattle.ilasm_grammar.specs.declared.productions.TheConstants.{
  METHOD_REF,
  MEMBER_PARAM,
  PARAM_OF_TYPE,
  TYPAR_KEY_NAME,
  PROPERTY,
  EVENT,
  AT_NAME,
  TARGET_SCOPE,
  TARGET_TYPE,
  TARGET_NAME,
}
use Rattle.source_model.specs.Classes.{wants_object, core_scope}
use Rattle.source_model.specs.Data.{data_named}
use Rattle.source_model.specs.Forest.{Forest, Part, has, the, child, leaf_at}
use Rattle.source_model.specs.Items.{members}
use Rattle.source_model.specs.Members.{method_forests, accessors_in, is_meant}
use Rattle.source_model.specs.Names.{assemblies, classes, is_path, scope_named}
use Rattle.source_model.specs.Nodes.{Around, Node, nodes, nodes_of, typar_names, class_token}
use Rattle.source_model.specs.References.{owner_of}
use Rattle.source_model.specs.Signatures.{is_method_unbroken, is_reference_unbroken}
use Rattle.source_model.specs.Source.{Source}
use Rattle.source_model.specs.TypeRules.{type_undeclared, scope_undeclared, typar_undeclared, name_unless_among}
use Rattle.source_model.specs.Values.{name_text, scope_text}

-- ---- types and assemblies

-- the first name of each path that no class of this source has
abbrev pub types_undeclared : Source → List ℕ
types_undeclared s = flat_map (type_undeclared s) (nodes s)

-- each `[k]` that names no assembly
abbrev pub scopes_undeclared : Source → List ℕ
scopes_undeclared s = flat_map (scope_undeclared s) (nodes s)

-- the name of each class that would have `System.Object` as its base, where that stands nowhere
abbrev pub object_undeclared_of : Source → Node → List ℕ
object_undeclared_of s n =
    if wants_object s n.around n.below && not (is_some (core_scope s)) then class_token n.below ∷ [] else []

abbrev pub objects_undeclared : Source → List ℕ
objects_undeclared s = flat_map (object_undeclared_of s) (classes s)

-- ---- generic parameters

-- the name behind `.param type`
abbrev pub key_undeclared : Source → List (List ℕ) → Forest → List ℕ
key_undeclared s names f = if has TYPAR_KEY_NAME f then name_unless_among s names (leaf_at 0 (the TYPAR_KEY_NAME f)) else []

abbrev pub param_type_undeclared : Source → Node → List ℕ
param_type_undeclared s n =
    if n.production == MEMBER_PARAM then key_undeclared s (typar_names s n.around.class) n.below
    else if n.production == PARAM_OF_TYPE then key_undeclared s (typar_names s n.around.method) n.below
    else []

abbrev pub typars_undeclared : Source → List ℕ
typars_undeclared s = flat_map (typar_undeclared s) (nodes s) ++ flat_map (param_type_undeclared s) (nodes s)

-- ---- accessors

-- an owner that is the class with this path, by its name
abbrev pub is_here : Scope → Bool
is_here Here = true
is_here (Extern k) = false

abbrev pub is_class_named : List TypeId → Owner-F Owner SigType → Bool
is_class_named path (Name name) = is_here name.scope && is_path name.path path
is_class_named path (Spec t) = false

-- the name in brackets before a reference's owner, where there is one, stands for an assembly
abbrev pub has_known_scope : Source → Forest → Bool
has_known_scope s reference =
    if has TARGET_SCOPE reference
    then is_some (scope_named s (scope_text s (leaf_at 0 (child (TARGET_SCOPE ∷ []) reference))))
    else true

abbrev pub names_this_class : Source → Around → Forest → Bool
names_this_class s a reference = is_class_named a.path (out-Owner (owner_of s a TARGET_SCOPE TARGET_TYPE TARGET_NAME reference))

-- the owner of a reference is the class around it
abbrev pub is_this_class : Source → Around → Forest → Bool
is_this_class s a reference = has_known_scope s reference && names_this_class s a reference

-- one of these methods, whose own signatures break no rule, is the one that a reference means
abbrev pub is_one_of : Source → Around → List Forest → Forest → Bool
is_one_of s a ms reference = list_any (is_meant s a reference) (filter (is_method_unbroken s a) ms)

-- an accessor that isn't a method of its class: its directive. It isn't asked of a signature that breaks another rule.
abbrev pub accessor_undeclared_of : Source → Around → List Forest → Part → List ℕ
accessor_undeclared_of s a ms p =
    if is_reference_unbroken s a (the METHOD_REF p.below)
    && not (is_this_class s a (the METHOD_REF p.below) && is_one_of s a ms (the METHOD_REF p.below))
    then leaf_at 0 p.below ∷ []
    else []

abbrev pub accessors_undeclared_of : Source → Node → List ℕ
accessors_undeclared_of s n =
    flat_map (accessor_undeclared_of s n.around (method_forests (members n.around.class))) (accessors_in n.below)

abbrev pub accessors_undeclared : Source → List ℕ
accessors_undeclared s = flat_map (accessors_undeclared_of s) (nodes_of (PROPERTY ∷ EVENT ∷ []) (nodes s))

-- ---- the rest

-- a source without an assembly: its end
abbrev pub end_unless_some : List Forest → ℕ → List ℕ
end_unless_some [] end = end ∷ []
end_unless_some (f ∷ fs) end = []

abbrev pub assembly_undeclared : Source → List ℕ
assembly_undeclared s = end_unless_some (assemblies s) (length s.tokens)

-- the label behind `at`
abbrev pub label_undeclared_of : Source → Node → List ℕ
label_undeclared_of s n = if is_some (data_named s (name_text s (leaf_at 1 n.below))) then [] else leaf_at 1 n.below ∷ []

abbrev pub data_undeclared : Source → List ℕ
data_undeclared s = flat_map (label_undeclared_of s) (nodes_of (AT_NAME ∷ []) (nodes s))
