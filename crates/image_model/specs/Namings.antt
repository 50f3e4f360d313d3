-- What the tokens of an image name (II.22, III.1.9): the five maps of a namer.
use Rattle.std.specs.Prelude.{◌≡◌, ℕ, ◌↔◌, List, Some}
use Rattle.type_terms.specs.declared.reference.FieldRef.{FieldRef}
use Rattle.type_terms.specs.declared.reference.MethodRef.{MethodRef}
use Rattle.type_terms.specs.declared.term.SigType.{SigType}
use Rattle.body_codec.specs.Names.{NameMap}
use Rattle.image_model.specs.Naming.{TellsOwners, NamesMethod, NamesField, NamesLocals, NamesText}

-- each map tells exactly what the tokens name
pub record AreNamings (image : List ℕ) (names : NameMap) : Type 0 where
  pub owners : TellsOwners image names.owners
  pub methods : (token : ℕ) (method : MethodRef) → (names.methods token ≡ Some method) ↔ NamesMethod image names.owners token method
  pub fields : (token : ℕ) (field : FieldRef) → (names.fields token ≡ Some field) ↔ NamesField image names.owners token field
  pub locals : (token : ℕ) (types : List SigType) → (names.locals token ≡ Some types) ↔ NamesLocals image names.owners token types
  pub texts : (token : ℕ) (units : List ℕ) → (names.texts token ≡ Some units) ↔ NamesText image token units
