-- The tokens that have been given to types, members, lists of locals and texts.
use Rattle.std.specs.Prelude.{ℕ, List, Option}
use denote.Enum.Declared as enum
use denote.Struct.Declared as struct
use Rattle.std.specs.Coded.{Coded, coded_list, coded_ℕ}
use Rattle.type_terms.specs.contracts.name.TypeName.{the_type as name_type}
use Rattle.type_terms.specs.contracts.reference.FieldRef.{the_type as field_type}
use Rattle.type_terms.specs.contracts.reference.MethodRef.{the_type as method_type}
use Rattle.type_terms.specs.contracts.term.SigType.{the_type as sig_type}
use Rattle.type_terms.specs.declared.name.TypeName.{TypeName}
use Rattle.type_terms.specs.declared.reference.FieldRef.{FieldRef}
use Rattle.type_terms.specs.declared.reference.MethodRef.{MethodRef}
use Rattle.type_terms.specs.declared.term.Owner.{Owner, out-Owner}
use Rattle.type_terms.specs.declared.term.Owner.TheOpen.{Owner-F, Name, Spec}
use Rattle.type_terms.specs.declared.term.SigType.{SigType}
use Rattle.image_tokens.specs.Found.{token_in}

-- what tells names, types, members, lists of types and texts apart

abbrev pub names_apart : Coded TypeName
names_apart = (struct.row name_type).coded

abbrev pub types_apart : Coded SigType
types_apart = (enum.row sig_type).coded

abbrev pub methods_apart : Coded MethodRef
methods_apart = (struct.row method_type).coded

abbrev pub fields_apart : Coded FieldRef
fields_apart = (struct.row field_type).coded

abbrev pub locals_apart : Coded (List SigType)
locals_apart = coded_list types_apart

abbrev pub texts_apart : Coded (List ℕ)
texts_apart = coded_list coded_ℕ

-- that of a name is among the names, that of a type among the types
abbrev pub layer_token : List (TypeName × ℕ) → List (SigType × ℕ) → Owner-F Owner SigType → Option ℕ
layer_token names specs (Name name) = token_in names_apart names name
layer_token names specs (Spec of) = token_in types_apart specs of

abbrev pub owner_token : List (TypeName × ℕ) → List (SigType × ℕ) → Owner → Option ℕ
owner_token names specs owner = layer_token names specs (out-Owner owner)
