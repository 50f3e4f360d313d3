-- What the references of a listing are read as (ECMA-335 II.15.4, II.23.2.1).
use Rattle.std.specs.Prelude.{ℕ, ◌≡◌, ◌&&◌, Bool, true, List, [], ◌∷◌, Option, None, Some}
use Rattle.std.specs.List.{list_all}
use Rattle.ilasm_grammar.specs.declared.productions.TheConstants as p
use Rattle.type_terms.specs.declared.reference.FieldRef.{FieldRef}
use Rattle.type_terms.specs.declared.reference.MethodRef.{MethodRef}
use Rattle.type_terms.specs.declared.reference.MethodSig.{MethodSig}
use Rattle.type_terms.specs.declared.term.SigType.{SigType}
use Rattle.assembly_tree.specs.WellFormedTerms.{is_explicit_with_this, is_sentinel_inside, is_count, are_arguments}
use Rattle.assembly_tree.specs.declared.assembly.ExternAssembly.{ExternAssembly}
use Rattle.source_model.specs.Forest as f
use Rattle.source_model.specs.Nodes.{Around}
use Rattle.source_model.specs.References as read
use Rattle.source_model.specs.Source.{Source}
use Rattle.listing_growth.specs.Standing.{field_stands, method_stands, args_stand}
use Rattle.listing_leaves.specs.Laws.{is_name}
use Rattle.listing_model.specs.References as written
use Rattle.listing_model.specs.Shown.{Shown, none, optional}
use Rattle.listing_reading.specs.Numbered.{numbered, Agrees}
use Rattle.listing_terms.specs.Readable.{KnowsAssemblies, is_type_readable, is_owner_readable}

-- The types of the arguments of a signature, in any source that has them and knows the assemblies; and the place of the `...`.
abbrev pub are_types_readable : List ExternAssembly → List SigType → Bool
are_types_readable externs ts = list_all (is_type_readable externs) ts

pub record ArgumentsAreRead : Type 0 where
  pub types : (s : Source) (around : Around) (externs : List ExternAssembly) → KnowsAssemblies s externs → (m : MethodSig) →
      are_types_readable externs m.params ≡ true → (at : ℕ) → Agrees s at (written.arguments externs m none) →
      read.argument_types s around (f.the p.SIGNATURE (numbered at (written.arguments externs m none))) ≡ m.params
  pub sentinel : (externs : List ExternAssembly) (m : MethodSig) → is_sentinel_inside m ≡ true → (at : ℕ) →
      read.sentinel (f.the p.SIGNATURE (numbered at (written.arguments externs m none))) ≡ m.sentinel

-- a calling convention, in which `explicit` stands only with `instance`
pub record ConventionsAreRead : Type 0 where
  pub this : (m : MethodSig) (after : Shown) (at : ℕ) → f.has p.INSTANCE (f.child (p.CALL_CONV ∷ []) (numbered at (written.convention m after))) ≡ m.has_this
  pub explicit : (m : MethodSig) (after : Shown) (at : ℕ) → is_explicit_with_this m ≡ true →
      f.has p.EXPLICIT_OPT_SOME (f.child (p.CALL_CONV ∷ []) (numbered at (written.convention m after))) ≡ m.explicit_this
  pub vararg : (m : MethodSig) (after : Shown) (at : ℕ) → f.has p.CALL_KIND_VARARG (f.child (p.CALL_CONV ∷ []) (numbered at (written.convention m after))) ≡ m.vararg

-- the name of a method, with anything behind it
abbrev pub MethodNamesAreRead : Type 0
MethodNamesAreRead =
    (s : Source) (text : List ℕ) → is_name text ≡ true → (at : ℕ) → Agrees s at (written.method_name text).below → (after : f.Forest) →
    read.method_name s (f.branch (written.method_name text).production (numbered at (written.method_name text).below) after) ≡ text

-- The arguments of a generic method, and the number of its generic parameters, where as many are given as it has.
abbrev pub option_all_readable : List ExternAssembly → Option (List SigType) → Bool
option_all_readable externs None = true
option_all_readable externs (Some ts) = are_types_readable externs ts

abbrev pub shown_generics : List ExternAssembly → ℕ → Option (List SigType) → Shown
shown_generics externs n args = optional p.METHOD_GENERICS_OPT_SOME p.METHOD_GENERICS_OPT_NONE (written.method_generics externs n args) none

pub record GenericsAreRead : Type 0 where
  pub arguments : (s : Source) (around : Around) (externs : List ExternAssembly) → KnowsAssemblies s externs → (n : ℕ) (args : Option (List SigType)) →
      option_all_readable externs args ≡ true → args_stand args ≡ true → (at : ℕ) → Agrees s at (shown_generics externs n args) →
      read.generic_arguments s around (numbered at (shown_generics externs n args)) ≡ args
  pub number : (s : Source) (around : Around) (externs : List ExternAssembly) → KnowsAssemblies s externs → (n : ℕ) (args : Option (List SigType)) →
      is_count n ≡ true → are_arguments n args ≡ true → option_all_readable externs args ≡ true → args_stand args ≡ true → (at : ℕ) →
      Agrees s at (shown_generics externs n args) → read.generic_number s around (numbered at (shown_generics externs n args)) ≡ n

-- a reference to a field that a listing can hold, as it is read back
abbrev pub is_field_readable : List ExternAssembly → FieldRef → Bool
is_field_readable externs r = is_name r.name && is_owner_readable externs r.owner && is_type_readable externs r.of

-- a reference to a field, in any source that has it and knows the assemblies
abbrev pub FieldsAreRead : Type 0
FieldsAreRead =
    (s : Source) (around : Around) (externs : List ExternAssembly) → KnowsAssemblies s externs → (r : FieldRef) →
    is_field_readable externs r ≡ true → field_stands r ≡ true → (at : ℕ) → Agrees s at (written.field_ref externs r).below →
    read.field_ref s around (numbered at (written.field_ref externs r).below) ≡ r

-- a reference to a method that a listing can hold, as it is read back
pub record IsMethodReadable (externs : List ExternAssembly) (r : MethodRef) : Type 0 where
  pub called : is_name r.name ≡ true
  pub owned : is_owner_readable externs r.owner ≡ true
  pub returned : is_type_readable externs r.sig.ret ≡ true
  pub parameters : are_types_readable externs r.sig.params ≡ true
  pub explicit : is_explicit_with_this r.sig ≡ true
  pub inside : is_sentinel_inside r.sig ≡ true
  pub counted : is_count r.sig.generic ≡ true
  pub many : are_arguments r.sig.generic r.args ≡ true
  pub arguments : option_all_readable externs r.args ≡ true

-- a reference to a method, in any source that has it and knows the assemblies
abbrev pub MethodsAreRead : Type 0
MethodsAreRead =
    (s : Source) (around : Around) (externs : List ExternAssembly) → KnowsAssemblies s externs → (r : MethodRef) →
    IsMethodReadable externs r → method_stands r ≡ true → (at : ℕ) → Agrees s at (written.method_ref externs r).below →
    read.method_ref s around (numbered at (written.method_ref externs r).below) ≡ r
