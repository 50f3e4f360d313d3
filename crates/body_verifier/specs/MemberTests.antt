-- What tells whether a member doesn't fit the instruction that names it, and whether a pointer leads to a pointer.
use Rattle.std.specs.Prelude.{◌≡◌, ℕ, Bool, false, not, List, slice_get, Option, None, Some}
use Rattle.std.specs.List.{Contains}
use Rattle.type_terms.specs.declared.reference.FieldRef.{FieldRef}
use Rattle.type_terms.specs.declared.term.SigType.{SigType}
use Rattle.assembly_tree.specs.declared.members.Field.{Field}
use Rattle.sig_pool.specs.declared.node.Node.{Node}
use Rattle.stack_rows.specs.declared.frame.CodeFrame.{CodeFrame}
use Rattle.code_flow.specs.declared.operation.Operation.{Operation}
use Rattle.code_flow.specs.declared.operation.Operation.TheVariants as does
use Rattle.code_flow.specs.Methods.{is_static}
use Rattle.stack_rows.specs.RowMeanings.{type_option}
use Rattle.code_flow.specs.Rules.{is_by_reference}

-- a field with the name and the type of a reference that is static where one of an instance is wanted, or the other way round
pub record IsOther (r : FieldRef) (wanted : Bool) (field : Field) : Type 0 where
  pub name : field.name ≡ r.name
  pub type : field.of ≡ r.of
  pub differs : wanted ≡ not (is_static field)

-- one of some fields is such a field
pub record HasOther (fields : List Field) (r : FieldRef) (wanted : Bool) : Type 0 where
  pub field : Field
  pub is : Contains fields field
  pub other : IsOther r wanted field

-- ---- pointers to variables

abbrev pub is_reference_there : Option SigType → Bool
is_reference_there None = false
is_reference_there (Some t) = is_by_reference t

-- whether the variable of that number, whose address the instruction takes, is a pointer
abbrev pub addresses_reference : List Node → CodeFrame → ℕ → Operation → Bool
addresses_reference ns v n does.ArgumentAddress = is_reference_there (type_option ns (slice_get v.arguments n))
addresses_reference ns v n does.LocalAddress = is_reference_there (type_option ns (slice_get v.locals n))
addresses_reference ns v n o = false
