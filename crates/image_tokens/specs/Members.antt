-- Rows of fields and methods while an image is being made (ECMA-335 II.22.25, II.22.29), and what a step leaves that gives a
-- number to something.
use Rattle.std.specs.Prelude.{◌≡◌, ℕ, ◌+◌, sum_by, ◌/◌, ◌%◌, ◌^◌, ◌≤◌, List, Option, Some, None, length}
use Rattle.assembly_tree.specs.Weight.{type_weight}
use Rattle.metadata_tables.specs.declared.coded.Coded.TheVariants.{MemberRefParent, MethodDefOrRef}
use Rattle.sig_codec.specs.Signature.{SpellsInstantiation}
use Rattle.type_terms.specs.declared.reference.FieldRef.{FieldRef}
use Rattle.type_terms.specs.declared.reference.MethodRef.{MethodRef}
use Rattle.type_terms.specs.declared.term.Owner.{Owner}
use Rattle.type_terms.specs.declared.term.SigType.{SigType}
use Rattle.image_tokens.specs.Bounds.{AreTypesInBounds}
use Rattle.image_tokens.specs.Found.{token_in}
use Rattle.image_tokens.specs.Indexes.{IsToken, index_of_token}
use Rattle.image_tokens.specs.KnownTokens.{methods_apart, fields_apart, locals_apart, texts_apart}
use Rattle.image_tokens.specs.References.{tokens_of, size, HasSignature, Grows, AreKnown}
use Rattle.image_tokens.specs.Rows.{IsRowAt}
use Rattle.image_tokens.specs.Texts.{HoldsText}
use Rattle.image_tokens.specs.declared.references.References.{References}
use Rattle.image_tokens.specs.declared.row_set.Cells.{Cells}

-- ---- rows

-- the row that a declared type has for a member: its cells are the type's row, the name and the signature
abbrev pub IsDeclaredRow : List Cells → (owner name signature row : ℕ) → Type 0
IsDeclaredRow declared owner name signature row =
    (owner / 2 ^ 24 ≡ 0x02) × IsRowAt declared (record { first = owner % 2 ^ 24; second = name; third = signature }) row

-- the cells of a row of MemberRef: the parent, the name and the signature
abbrev pub member_cells : (owner name signature : ℕ) → Cells
member_cells owner name signature = record { first = index_of_token MemberRefParent owner; second = name; third = signature }

-- the row of MemberRef of a member
abbrev pub IsReferredRow : List Cells → (owner name signature row : ℕ) → Type 0
IsReferredRow members owner name signature row =
    IsRowAt members (member_cells owner name signature) row

-- the token of one of the two
pub data IsRowToken (table : ℕ) (declared members : List Cells) (owner name signature : ℕ) : ℕ → Type 0 where
  of_declared : {row token : ℕ} → IsDeclaredRow declared owner name signature row → IsToken token table row
      → IsRowToken table declared members owner name signature token
  of_referred : {row token : ℕ} → IsReferredRow members owner name signature row → IsToken token 0x0A row
      → IsRowToken table declared members owner name signature token

-- ---- steps

-- a number is what `Is` says of it, and so many bytes more came at most
pub record Leaves (Is : References → ℕ → Type 0) (old new : References) (weight number : ℕ) : Type 0 where
  pub grows : Grows old new
  pub known : AreKnown new
  pub room : size new ≤ size old + weight
  pub is : Is new number

-- the index of a text
abbrev pub IsTextAt : List ℕ → References → ℕ → Type 0
IsTextAt text r index = HoldsText r.heaps.strings text index

-- the token that has been given to a field, a method, locals and a text that is loaded

abbrev pub HasField : FieldRef → References → ℕ → Type 0
HasField f r token = token_in fields_apart r.known.fields f ≡ Some token

abbrev pub HasMethod : MethodRef → References → ℕ → Type 0
HasMethod m r token = token_in methods_apart r.known.methods m ≡ Some token

abbrev pub HasLocals : List SigType → References → ℕ → Type 0
HasLocals ts r token = token_in locals_apart r.known.locals ts ≡ Some token

abbrev pub HasLoaded : List ℕ → References → ℕ → Type 0
HasLoaded units r token = token_in texts_apart r.known.texts units ≡ Some token

-- an owner has a token, and a name an index
pub record IsPlaced (old new : References) (o : Owner) (name : List ℕ) (weight token index : ℕ) : Type 0 where
  pub grows : Grows old new
  pub known : AreKnown new
  pub room : size new ≤ size old + weight
  pub owner : tokens_of new o ≡ Some token
  pub name_is : HoldsText new.heaps.strings name index

-- the bytes that the arguments of a method take: their signature with its length, and a row of MethodSpec
abbrev pub instance_weight : Option (List SigType) → ℕ
instance_weight None = 0
instance_weight (Some args) = sum_by type_weight args + 17

-- a blob spells so many arguments of a method
abbrev pub HasArguments : ℕ → References → ℕ → Type 0
HasArguments generic r blob = (args : List SigType) × HasSignature SpellsInstantiation r args blob × AreTypesInBounds args × (length args ≡ generic)

-- a row of MethodSpec with a method and the signature of its arguments
pub record IsInstanceOf (generic signature : ℕ) (r : References) (token : ℕ) : Type 0 where
  pub row : ℕ
  pub at : IsRowAt r.referred.instances (record { first = index_of_token MethodDefOrRef generic; second = signature; third = 0 }) row
  pub is : IsToken token 0x2B row
