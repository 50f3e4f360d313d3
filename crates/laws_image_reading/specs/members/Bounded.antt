-- Signatures in the rows of references that are in bounds (ECMA-335 II.22.25, II.22.29, II.22.36, II.22.39): ranks of arrays, numbers
-- of parameters and locals, and as many arguments of a method as it has generic parameters.
use Rattle.std.specs.Prelude.{◌≡◌, ℕ, ◌≤◌, ◌⊎◌, List, All, length}
use Rattle.metadata_tables.specs.declared.coded.Coded.TheVariants.{MethodDefOrRef}
use Rattle.sig_codec.specs.Signature.{SpellsField, SpellsMethod, SpellsLocals, SpellsInstantiation}
use Rattle.sig_codec.specs.Spelling.{SpellsType}
use Rattle.type_terms.specs.declared.reference.MethodRef.{MethodRef}
use Rattle.type_terms.specs.declared.reference.MethodSig.{MethodSig}
use Rattle.type_terms.specs.declared.term.SigType.{SigType}
use Rattle.image_tokens.specs.Indexes.{index_of_token}
use Rattle.image_tokens.specs.References.{HasGenericToken, HasSignature}
use Rattle.image_tokens.specs.Rows.{EachRow}
use Rattle.image_tokens.specs.declared.references.References.{References}
use Rattle.image_tokens.specs.declared.row_set.Cells.{Cells}
use Rattle.image_model.specs.Terms.{HasBounds, HasRanks, max_count}

-- the signature of a member: that of a method, or that of a field
abbrev pub IsBoundedMember : References → Cells → Type 0
IsBoundedMember r cells =
    ((s : MethodSig) × HasSignature SpellsMethod r s cells.third × HasBounds s) ⊎ ((t : SigType) × HasSignature SpellsField r t cells.third × HasRanks t)

-- the type of a TypeSpec
pub record IsBoundedSpec (r : References) (cells : Cells) : Type 0 where
  pub of : SigType
  pub signature : HasSignature SpellsType r of cells.first
  pub ranks : HasRanks of

-- the locals of a StandAloneSig
pub record AreBoundedLocals (r : References) (cells : Cells) : Type 0 where
  pub locals : List SigType
  pub signature : HasSignature SpellsLocals r locals cells.first
  pub few : length locals ≤ max_count
  pub ranks : All HasRanks locals

-- the method of a MethodSpec, and its arguments
pub record IsBoundedInstance (r : References) (cells : Cells) : Type 0 where
  pub method : MethodRef
  pub generic : ℕ
  pub arguments : List SigType
  pub generic_is : HasGenericToken r method generic
  pub first_is : cells.first ≡ index_of_token MethodDefOrRef generic
  pub signature : HasSignature SpellsInstantiation r arguments cells.second
  pub count : length arguments ≡ method.sig.generic
  pub ranks : All HasRanks arguments

-- those of all rows
pub record AreBounded (r : References) : Type 0 where
  pub members : EachRow (IsBoundedMember r) r.referred.members
  pub specs : EachRow (IsBoundedSpec r) r.referred.specs
  pub locals : EachRow (AreBoundedLocals r) r.referred.locals
  pub instances : EachRow (IsBoundedInstance r) r.referred.instances
