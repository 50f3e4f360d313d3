-- What is declared twice (ECMA-335 II.5.4, II.6.2, II.6.3, II.10, II.15.4.1.2, II.16.3, II.22).
use Rattle.std.specs.Prelude.{ℕ, ◌&&◌, Bool, if◌then◌else◌, List, [], ◌∷◌, ◌++◌, map, filter, drop, bytes_eq}
use Rattle.std.specs.List.{flat_map, list_any}
use Rattle.type_terms.specs.declared.reference.MethodSig.{MethodSig}
use Rattle.assembly_tree.specs.WellFormedMembers.{is_same_type, is_same_signature}
use Rattle.ilasm_grammar.specs.declared.productions.TheConstants.{TYPE, FIELD, DECL_MODULE, ITEM_ENTRYPOINT}
use Rattle.source_model.specs.Data.{labelled, label_token}
use Rattle.source_model.specs.Forest.{Forest, Part, each, the, child, leaf_at, first_token}
use Rattle.source_model.specs.Items.{declarations, members}
use Rattle.source_model.specs.Members.{in_method, field_token, property_token, method_forests, is_field_part, properties_in, events_in}
use Rattle.source_model.specs.Names.{assemblies, assembly_token, classes, externs, extern_key, key_token, is_path, module_path}
use Rattle.source_model.specs.Nodes.{Around, Node, nothing_around, class_token}
use Rattle.source_model.specs.References.{method_name, method_name_parts, method_signature, property_signature}
use Rattle.source_model.specs.Signatures.{is_field_unbroken, is_method_unbroken, is_property_unbroken}
use Rattle.source_model.specs.Source.{Source}
use Rattle.source_model.specs.Types.{type_of}
use Rattle.source_model.specs.Values.{name_text}

-- those of a list that are the same as one before them
abbrev pub repeats_after : {X : Type 0} → (X → X → Bool) → List X → List X → List X
repeats_after same before [] = []
repeats_after same before (x ∷ xs) = (if list_any (same x) before then x ∷ [] else []) ++ repeats_after same (before ++ x ∷ []) xs

abbrev pub repeats : {X : Type 0} → (X → X → Bool) → List X → List X
repeats same xs = repeats_after same [] xs

-- ---- types

-- a class with the path of an earlier one, or with that of the class which needs no declaration: its name
abbrev pub is_same_class : Node → Node → Bool
is_same_class m n = is_path m.around.path n.around.path

abbrev pub is_module_class : Node → Bool
is_module_class n = is_path n.around.path module_path

abbrev pub types_twice : Source → List ℕ
types_twice s =
    map (λ n. class_token n.below) (filter is_module_class (classes s))
    ++ map (λ n. class_token n.below) (repeats is_same_class (classes s))

-- ---- members

-- a field with the name and the type of an earlier one of its class: its name
abbrev pub is_same_field : Source → Around → Forest → Forest → Bool
is_same_field s a f g =
    bytes_eq (name_text s (field_token f)) (name_text s (field_token g))
    && is_same_type (type_of s a (child (TYPE ∷ []) f)) (type_of s a (child (TYPE ∷ []) g))

abbrev pub field_forests : List Part → List Forest
field_forests ps = map (λ p. the FIELD p.below) (filter is_field_part ps)

abbrev pub fields_twice : Source → Around → List Part → List ℕ
fields_twice s a ps = map field_token (repeats (is_same_field s a) (filter (is_field_unbroken s a) (field_forests ps)))

-- a method with the name and the signature of an earlier one
abbrev pub name_token_of : List Part → ℕ
name_token_of [] = 0
name_token_of (p ∷ ps) = leaf_at 0 p.below

abbrev pub method_token : Forest → ℕ
method_token f = name_token_of (method_name_parts f)

abbrev pub signature_of : Source → Around → Forest → MethodSig
signature_of s a f = method_signature s (in_method a f) f

abbrev pub is_same_method : Source → Around → Forest → Forest → Bool
is_same_method s a f g =
    bytes_eq (method_name s f) (method_name s g) && is_same_signature (signature_of s a f) (signature_of s a g)

abbrev pub methods_twice : Source → Around → List Part → List ℕ
methods_twice s a ps = map method_token (repeats (is_same_method s a) (filter (is_method_unbroken s a) (method_forests ps)))

-- a property with the name and the signature of an earlier one
abbrev pub is_same_property : Source → Around → Forest → Forest → Bool
is_same_property s a f g =
    bytes_eq (name_text s (property_token f)) (name_text s (property_token g))
    && is_same_signature (property_signature s a f) (property_signature s a g)

abbrev pub properties_twice : Source → Around → List Part → List ℕ
properties_twice s a ps =
    map property_token (repeats (is_same_property s a) (filter (is_property_unbroken s a) (properties_in ps)))

-- an event with the name of an earlier one
abbrev pub is_same_event : Source → Forest → Forest → Bool
is_same_event s f g = bytes_eq (name_text s (property_token f)) (name_text s (property_token g))

abbrev pub events_twice : Source → List Part → List ℕ
events_twice s ps = map property_token (repeats (is_same_event s) (events_in ps))

-- the members of one class, or what is declared outside of any. A member whose signature breaks another rule is the same as
-- none.
abbrev pub members_twice_in : Source → Around → List Part → List ℕ
members_twice_in s a ps = fields_twice s a ps ++ methods_twice s a ps ++ properties_twice s a ps ++ events_twice s ps

abbrev pub members_twice : Source → List ℕ
members_twice s =
    members_twice_in s nothing_around (declarations s.tree)
    ++ flat_map (λ n. members_twice_in s n.around (members n.below)) (classes s)

-- ---- the rest

-- an assembly with the key of an earlier one: its alias or name
abbrev pub is_same_extern : Source → Forest → Forest → Bool
is_same_extern s f g = bytes_eq (extern_key s f) (extern_key s g)

abbrev pub externs_twice : Source → List ℕ
externs_twice s = map key_token (repeats (is_same_extern s) (externs s))

-- each `.entrypoint` after the first
abbrev pub entries_twice : Source → List ℕ
entries_twice s = map first_token (drop 1 (each ITEM_ENTRYPOINT s.tree))

-- the name of each `.assembly`, and of each `.module`, after the first
abbrev pub manifests_twice : Source → List ℕ
manifests_twice s = map assembly_token (drop 1 (assemblies s)) ++ map (leaf_at 1) (drop 1 (each DECL_MODULE s.tree))

-- data with the label of earlier data
abbrev pub is_same_label : Source → Forest → Forest → Bool
is_same_label s f g = bytes_eq (name_text s (label_token f)) (name_text s (label_token g))

abbrev pub data_twice : Source → List ℕ
data_twice s = map label_token (repeats (is_same_label s) (labelled s))
