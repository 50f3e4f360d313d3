-- The rows of MethodImpl: for each method in turn, the methods that it is given as the body of (ECMA-335 II.10.3.2, II.22.27).
use Rattle.std.specs.Prelude.{◌≡◌, ℕ, ◌+◌, List, [], ◌∷◌, ◌++◌, map}
use Rattle.assembly_tree.specs.Weight.{method_ref_weight}
use Rattle.assembly_tree.specs.declared.members.Method.{Method}
use Rattle.metadata_tables.specs.declared.coded.Coded.TheVariants.{MethodDefOrRef}
use Rattle.type_terms.specs.declared.reference.MethodRef.{MethodRef}
use Rattle.image_tokens.specs.Indexes.{index_of, index_of_token}
use Rattle.image_tokens.specs.Members.{HasMethod}
use Rattle.image_tokens.specs.Writable.{IsMethodRefWritable}
use Rattle.image_tokens.specs.declared.references.References.{References}
use Rattle.image_tokens.specs.declared.row_set.Cells.{Cells}

-- a method that another one of this type is the body of: the rows of the type and of the body, and the method
pub record Override : Type 0 where
  pub type : ℕ
  pub body : ℕ
  pub of : MethodRef

abbrev pub overrides : (type body : ℕ) → List MethodRef → List Override
overrides type body ms = map (λ (m : MethodRef). record { type = type; body = body; of = m }) ms

-- methods with the declared rows in their places, from this row of MethodDef on; a declared row begins with the row of its type
abbrev pub overrides_from : ℕ → List Cells → List Method → List Override
overrides_from row declared [] = []
overrides_from row [] (m ∷ ms) = []
overrides_from row (cells ∷ declared) (m ∷ ms) = overrides cells.first row m.overrides ++ overrides_from (row + 1) declared ms

-- class, body and declaration
pub record IsOverrideRow (r : References) (cells : List ℕ) (o : Override) : Type 0 where
  pub token : ℕ
  pub are : cells ≡ o.type ∷ index_of MethodDefOrRef 0x06 o.body ∷ index_of_token MethodDefOrRef token ∷ []
  pub token_is : HasMethod o.of r token

abbrev pub override_bytes : Override → ℕ
override_bytes o = method_ref_weight o.of

abbrev pub CanPushOverride : References → Override → Type 0
CanPushOverride r o = IsMethodRefWritable r o.of
