-- What a source that breaks no rule says of its names, types and owners.
use Rattle.std.proofs.Common.{◌≡◌, ℕ, List, [], ◌∷◌, Some}
use Rattle.std.specs.Prelude.{true}
use Rattle.std.specs.List.{list_all}
use Rattle.il_lexer.specs.Longest.{LongestSpelling}
use Rattle.il_lexer.specs.Unplaced.{ReadsAsItLexes}
use Rattle.il_lexer.specs.declared.types.TokenKind.TheVariants as kind
use Rattle.type_terms.specs.declared.name.TypeId.{TypeId}
use Rattle.type_terms.specs.declared.term.Owner.{Owner, Name, Spec}
use Rattle.type_terms.specs.declared.term.SigType.{SigType}
use Rattle.type_terms.specs.declared.name.TypeName.{TypeName}
use Rattle.assembly_tree.specs.WellFormedNames.{has_no_zero, is_declared, is_name, is_type_id, is_type_name}
use Rattle.assembly_tree.specs.WellFormedTerms.{is_field_ref, is_method_ref, is_owner, is_plain_ref, is_signature, is_type}
use Rattle.ilasm_grammar.specs.declared.productions.TheConstants.{FIELD_REF, METHOD_REF, TYPE}
use Rattle.source_model.specs.Classes.{assembly}
use Rattle.source_model.specs.Forest.{Forest, child}
use Rattle.source_model.specs.Names.{Written, is_declared_path, module_name, or_module, type_name, written_name}
use Rattle.source_model.specs.Nodes.{Around, type_id}
use Rattle.source_model.specs.References.{field_ref, method_ref, method_signature, property_signature}
use Rattle.source_model.specs.Signatures.{generic_arguments_token}
use Rattle.source_model.specs.Source.{Source, spelling}
use Rattle.source_model.specs.Types.{first_owner, owners_in, the_type, type_of, types_in}
use Rattle.source_model.specs.Values.{between_quotes, name_text, unescaped}
use Rattle.source_nodes.specs.Readers.{IsOf}
use Rattle.laws_formed_sources.specs.sources.Laws.{IsRight}
use Rattle.laws_formed_sources.specs.sources.Productions.{AllFaultless, HasFewTypars, IsFaultlessAt}
use Rattle.laws_formed_sources.proofs.sources.Declared.{declared_path}
use Rattle.laws_formed_sources.proofs.sources.References as ref
use Rattle.laws_formed_sources.proofs.sources.Signatures as sig
use Rattle.laws_formed_sources.proofs.sources.TextFacts as text
use Rattle.laws_formed_sources.proofs.sources.Types as of
use Rattle.laws_formed_sources.proofs.sources.Unbroken.{nothing_twice}
use Rattle.laws_formed_sources.proofs.sources.WrittenTypes as name
use Rattle.laws_formed_sources.proofs.sources.WrittenTypes.{AreNames}

module _ (longest : LongestSpelling) (reads : ReadsAsItLexes) (s : Source) (r : IsRight s) where
  pub named : (k : ℕ) → IsOf s kind.Name k → is_name (name_text s k) ≡ true
  named k h = text.name_token longest reads s r.read.lexes k h

  pub string : (k : ℕ) → IsOf s kind.QString k → has_no_zero (unescaped (between_quotes (spelling s k))) ≡ true
  string k h = text.string_token longest reads s r.read.lexes k h

  pub id : (k : ℕ) → IsOf s kind.Name k → is_type_id (type_id s k) ≡ true
  id k h = text.id_token longest reads s r.read.lexes k h

  pub declared : (path : List TypeId) → is_declared_path s path ≡ true → is_declared (assembly s) path ≡ true
  declared path h = declared_path s (nothing_twice s r.faultless) path h

  pub name_known : (f : Forest) → AllFaultless s f → is_type_name (assembly s) (type_name s f) ≡ true
  name_known f h = name.name_known s declared id f h

  pub production_known : (p : ℕ) (f : Forest) → IsFaultlessAt s p f → ((w : Written) → written_name p f ≡ Some w → AreNames s w.path)
      → is_type_name (assembly s) (or_module s (written_name p f)) ≡ true
  production_known p f h names = name.production_known s declared id p f h names

  module_known : is_type_name (assembly s) module_name ≡ true
  module_known = name.module_known s declared id

  module _ (a : Around) (few : HasFewTypars a) where
    pub type_formed : (f : Forest) → IsFaultlessAt s TYPE f → AllFaultless s f → is_type (assembly s) (type_of s a f) ≡ true
    type_formed f own each = of.type_formed s a few (assembly s) name_known module_known f own each

    pub types_formed : (f : Forest) → AllFaultless s f → list_all (is_type (assembly s)) (types_in s a f) ≡ true
    types_formed f each = of.types_formed s a few (assembly s) name_known module_known f each

    pub owners_formed : (f : Forest) → AllFaultless s f → list_all (is_owner (assembly s)) (owners_in s a f) ≡ true
    owners_formed f each = of.owners_formed s a few (assembly s) name_known module_known f each

    pub first_formed : (os : List Owner) → list_all (is_owner (assembly s)) os ≡ true → is_owner (assembly s) (first_owner os) ≡ true
    first_formed os h = of.first_formed s a few (assembly s) name_known module_known os h

    pub name_owner : (name : TypeName) → is_type_name (assembly s) name ≡ true → is_owner (assembly s) (Name name) ≡ true
    name_owner name h = of.name_owner s a few (assembly s) name_known module_known name h

    type_owner : (t : SigType) → is_type (assembly s) t ≡ true → is_owner (assembly s) (Spec t) ≡ true
    type_owner t h = of.type_owner s a few (assembly s) name_known module_known t h

    pub the_type_formed : (f : Forest) → AllFaultless s f → is_type (assembly s) (the_type s a f) ≡ true
    the_type_formed f all = sig.the_type_formed s a (assembly s) type_formed types_formed f all

    pub child_type_formed : (f : Forest) → AllFaultless s f → is_type (assembly s) (type_of s a (child (TYPE ∷ []) f)) ≡ true
    child_type_formed f all = sig.child_type_formed s a (assembly s) type_formed types_formed f all

    pub method_signature_formed : (f : Forest) → AllFaultless s f → is_signature (assembly s) (method_signature s a f) ≡ true
    method_signature_formed f all = sig.method_signature_formed s a (assembly s) type_formed types_formed f all

    pub property_signature_formed : (f : Forest) → AllFaultless s f → is_signature (assembly s) (property_signature s a f) ≡ true
    property_signature_formed f all = sig.property_signature_formed s a (assembly s) type_formed types_formed f all

    pub method_ref_formed : (f : Forest) → IsFaultlessAt s METHOD_REF f → AllFaultless s f → is_method_ref (assembly s) (method_ref s a f) ≡ true
    method_ref_formed f own all =
        ref.method_ref_formed s a (assembly s) production_known name_owner type_owner type_formed types_formed f all own
        (ref.reference_named longest reads s r.read.lexes named a f all own)

    pub plain_ref_formed : (f : Forest) → IsFaultlessAt s METHOD_REF f → AllFaultless s f → generic_arguments_token f ≡ []
        → is_plain_ref (assembly s) (method_ref s a f) ≡ true
    plain_ref_formed f own all barred =
        ref.plain_ref_formed s a (assembly s) production_known name_owner type_owner type_formed types_formed f all own
        (ref.reference_named longest reads s r.read.lexes named a f all own) barred

    pub field_ref_formed : (f : Forest) → IsFaultlessAt s FIELD_REF f → AllFaultless s f → is_field_ref (assembly s) (field_ref s a f) ≡ true
    field_ref_formed f own all =
        ref.field_ref_formed s a (assembly s) production_known name_owner type_owner type_formed types_formed f all own
        (ref.field_named longest reads s r.read.lexes named a f all own)
