-- What follows of a source that breaks no rule.
use Rattle.std.specs.Prelude.{◌≡◌, List, [], ◌∷◌, IsTrue, true}
use Rattle.std.specs.List.{AllByRecursion, list_all}
use Rattle.type_terms.specs.declared.name.TypeId.{TypeId}
use Rattle.assembly_tree.specs.DataSize.{size_in_data}
use Rattle.assembly_tree.specs.WellFormedBodies.{is_body}
use Rattle.assembly_tree.specs.WellFormedMembers.{is_content, is_event, is_field, is_method, is_property}
use Rattle.assembly_tree.specs.WellFormedNames.{is_declared, option_all}
use Rattle.assembly_tree.specs.WellFormedTerms.{is_field_ref, is_method_ref, is_owner, is_plain_ref, is_signature, is_type}
use Rattle.ilasm_grammar.specs.declared.productions.TheConstants.{EVENT, FIELD, FIELD_REF, METHOD, METHOD_REF, PROPERTY, TYPE}
use Rattle.source_model.specs.Bodies.{body}
use Rattle.source_model.specs.Classes.{assembly}
use Rattle.source_model.specs.Data.{content}
use Rattle.source_model.specs.Denotes.{IsRead, broken}
use Rattle.source_model.specs.Faults.{IsFaultless}
use Rattle.source_model.specs.Forest.{Forest, Part, child}
use Rattle.source_model.specs.Members.{event, field_from, method_from, property}
use Rattle.source_model.specs.Names.{is_declared_path}
use Rattle.source_model.specs.Nodes.{Around}
use Rattle.source_model.specs.References.{field_ref, method_ref, method_signature, property_signature}
use Rattle.source_model.specs.Signatures.{generic_arguments_token}
use Rattle.source_model.specs.Source.{Source}
use Rattle.source_model.specs.Types.{type_of, owners_in}
use Rattle.laws_formed_sources.specs.sources.Productions.{AllFaultless, HasFewTypars, IsFaultlessAt, IsFaultlessCustom}

-- a source that is read and breaks no rule
pub record IsRight (s : Source) : Type 0 where
  pub read : IsRead s.bytes s
  pub faultless : IsFaultless (broken s)

-- each of its productions is faultless
abbrev pub AllAreFaultless : Type 0
AllAreFaultless = (s : Source) → IsRight s → AllFaultless s s.tree

-- the path of each class that the source declares leads to a type of the assembly
abbrev pub ClassesAreDeclared : Type 0
ClassesAreDeclared = (s : Source) → IsRight s → (path : List TypeId) → is_declared_path s path ≡ true → IsTrue (is_declared (assembly s) path)

-- a type that it writes is well formed, wherever it stands
abbrev pub TypesAreFormed : Type 0
TypesAreFormed =
    (s : Source) → IsRight s → (a : Around) → HasFewTypars a → (f : Forest) → IsFaultlessAt s TYPE f → AllFaultless s f
    → IsTrue (is_type (assembly s) (type_of s a f))

-- and so are the owners in a forest
abbrev pub OwnersAreFormed : Type 0
OwnersAreFormed =
    (s : Source) → IsRight s → (a : Around) → HasFewTypars a → (f : Forest) → AllFaultless s f
    → IsTrue (list_all (is_owner (assembly s)) (owners_in s a f))

-- the signatures of declared methods and properties
abbrev pub SignaturesAreFormed : Type 0
SignaturesAreFormed =
    (s : Source) → IsRight s → (a : Around) → HasFewTypars a → (f : Forest) → AllFaultless s f
    → IsTrue (is_signature (assembly s) (method_signature s a f)) × IsTrue (is_signature (assembly s) (property_signature s a f))

-- references to methods, and those without arguments where arguments are barred
abbrev pub MethodRefsAreFormed : Type 0
MethodRefsAreFormed =
    (s : Source) → IsRight s → (a : Around) → HasFewTypars a → (f : Forest) → IsFaultlessAt s METHOD_REF f → AllFaultless s f
    → IsTrue (is_method_ref (assembly s) (method_ref s a f))

abbrev pub PlainRefsAreFormed : Type 0
PlainRefsAreFormed =
    (s : Source) → IsRight s → (a : Around) → HasFewTypars a → (f : Forest) → IsFaultlessAt s METHOD_REF f → AllFaultless s f
    → generic_arguments_token f ≡ [] → IsTrue (is_plain_ref (assembly s) (method_ref s a f))

-- references to fields
abbrev pub FieldRefsAreFormed : Type 0
FieldRefsAreFormed =
    (s : Source) → IsRight s → (a : Around) → HasFewTypars a → (f : Forest) → IsFaultlessAt s FIELD_REF f → AllFaultless s f
    → IsTrue (is_field_ref (assembly s) (field_ref s a f))

-- fields, whose data has the size of their type
abbrev pub FieldsAreFormed : Type 0
FieldsAreFormed =
    (s : Source) → IsRight s → (a : Around) → HasFewTypars a → (f : Forest) → IsFaultlessAt s FIELD f → AllFaultless s f
    → (customs : List Part) → AllByRecursion (IsFaultlessCustom s) customs
    → IsTrue (is_content (size_in_data (assembly s) (type_of s a (child (TYPE ∷ []) f))) (content s (type_of s a (child (TYPE ∷ []) f)) f))
    → IsTrue (is_field (assembly s) (field_from s a f customs))

-- methods, whose body is well formed
abbrev pub MethodsAreFormed : Type 0
MethodsAreFormed =
    (s : Source) → IsRight s → (a : Around) → HasFewTypars a → (f : Forest) → IsFaultlessAt s METHOD f → AllFaultless s f
    → IsTrue (option_all (is_body (assembly s)) (body s a f)) → IsTrue (is_method (assembly s) (method_from s a f))

-- properties and events, whichever the methods are that their accessors are among
abbrev pub PropertiesAreFormed : Type 0
PropertiesAreFormed =
    (s : Source) → IsRight s → (a : Around) → HasFewTypars a → (methods : List Forest) (f : Forest) → IsFaultlessAt s PROPERTY f → AllFaultless s f
    → IsTrue (is_property (assembly s) (property s a methods f))

abbrev pub EventsAreFormed : Type 0
EventsAreFormed =
    (s : Source) → IsRight s → (a : Around) → HasFewTypars a → (methods : List Forest) (f : Forest) → IsFaultlessAt s EVENT f → AllFaultless s f
    → IsTrue (is_event (assembly s) (event s a methods f))
