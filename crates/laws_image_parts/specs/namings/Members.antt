-- The tokens of fields and methods name what they were given to (ECMA-335 II.22.15, II.22.25, II.22.26, II.22.29, III.1.9).
use Rattle.std.specs.Prelude.{◌≡◌, ℕ, ◌↔◌, List, Option, None, Some}
use Rattle.assembly_tree.specs.declared.assembly.Assembly.{Assembly}
use Rattle.sig_codec.specs.Tokens.{GivesBack}
use Rattle.type_terms.specs.declared.reference.FieldRef.{FieldRef}
use Rattle.type_terms.specs.declared.reference.MethodRef.{MethodRef}
use Rattle.type_terms.specs.declared.term.Owner.{Owner}
use Rattle.image_tokens.specs.Found.{token_in}
use Rattle.image_tokens.specs.KnownTokens.{fields_apart, methods_apart}
use Rattle.image_tokens.specs.References.{tokens_of}
use Rattle.image_tokens.specs.declared.references.References.{References}
use Rattle.image_members.specs.Pushing.{Tables}
use Rattle.image_members.specs.declared.classes.Class.{Class}
use Rattle.image_model.specs.Naming.{NamesField, NamesMethod}
use Rattle.laws_image_parts.specs.names.Owners.{OwnersRead}
use Rattle.laws_image_parts.specs.names.Written.{IsWritten}
use Rattle.laws_image_parts.specs.namings.Readable.{MembersAreReadable}

-- A map tells what the tokens name, and gives back each field that was given a token. A type's token names no field.
pub record FieldsRead (r : References) (image : List ℕ) (owners : ℕ → Option Owner) : Type 0 where
  pub fields : ℕ → Option FieldRef
  pub tells : (token : ℕ) (f : FieldRef) → (fields token ≡ Some f) ↔ NamesField image owners token f
  pub back : GivesBack (token_in fields_apart r.known.fields) fields
  pub no_type : (o : Owner) (token : ℕ) → tokens_of r o ≡ Some token → fields token ≡ None

-- The same of methods. A field's token names no method, nor does a type's.
pub record MethodsRead (r : References) (image : List ℕ) (owners : ℕ → Option Owner) : Type 0 where
  pub methods : ℕ → Option MethodRef
  pub tells : (token : ℕ) (m : MethodRef) → (methods token ≡ Some m) ↔ NamesMethod image owners token m
  pub back : GivesBack (token_in methods_apart r.known.methods) methods
  pub no_field : (f : FieldRef) (token : ℕ) → token_in fields_apart r.known.fields f ≡ Some token → methods token ≡ None
  pub no_type : (o : Owner) (token : ℕ) → tokens_of r o ≡ Some token → methods token ≡ None

-- ---- laws

abbrev pub FieldsAreRead : Type 0
FieldsAreRead =
    (a : Assembly) (classes : List Class) (r : References) (tables : Tables) (code image : List ℕ) → IsWritten a classes r tables code image
    → MembersAreReadable r → (o : OwnersRead r image) → FieldsRead r image o.owners

abbrev pub MethodsAreRead : Type 0
MethodsAreRead =
    (a : Assembly) (classes : List Class) (r : References) (tables : Tables) (code image : List ℕ) → IsWritten a classes r tables code image
    → MembersAreReadable r → (o : OwnersRead r image) → MethodsRead r image o.owners
