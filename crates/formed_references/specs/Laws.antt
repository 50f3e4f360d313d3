-- In an image that reads as an assembly, what names and signs its rows is well formed in that assembly (ECMA-335 II.22, II.23.2).
use Rattle.std.specs.Prelude.{◌≡◌, ℕ, ◌/◌, ◌^◌, ◌≤◌, List, Some, None, IsTrue, length}
use Rattle.std.specs.List.{list_all}
use Rattle.type_terms.specs.declared.reference.FieldRef.{FieldRef}
use Rattle.type_terms.specs.declared.reference.MethodRef.{MethodRef}
use Rattle.type_terms.specs.declared.reference.MethodSig.{MethodSig}
use Rattle.type_terms.specs.declared.term.Owner.{Owner}
use Rattle.type_terms.specs.declared.term.SigType.{SigType}
use Rattle.assembly_tree.specs.WellFormedTerms.{is_type, is_owner, is_signature, is_property_signature, is_method_ref, is_plain_ref, is_field_ref}
use Rattle.assembly_tree.specs.declared.assembly.Assembly.{Assembly}
use Rattle.body_codec.specs.Names.{NameMap}
use Rattle.image_model.specs.Rows.{HasRow}
use Rattle.image_model.specs.Naming.{RowOwner, IsToken, NamesMethod, NamesField, NamesLocals}
use Rattle.image_model.specs.Terms.{FieldHas, MethodHas, PropertyHas, max_count}
use Rattle.image_model.specs.Used.{IsReference, IsUsed}
use Rattle.image_model.specs.Faults.{Reads}

-- the reference row that a token names is in use
abbrev pub AreUsed : List ℕ → ℕ → Type 0
AreUsed image token = (table row : ℕ) → IsToken token table row → IsReference table → HasRow image table row → IsUsed image table row

-- What rows and tokens in use name, and the signatures of fields, methods and properties. A TypeSpec alone of the rows that
-- name a type must be in use.
pub record AreFormed (image : List ℕ) (a : Assembly) (names : NameMap) : Type 0 where
  pub owner : (table row : ℕ) (o : Owner) → RowOwner image names.owners table row o → (table ≡ 0x1B → HasRow image 0x1B row → IsUsed image 0x1B row) → IsTrue (is_owner a o)
  pub method : (token : ℕ) (m : MethodRef) → NamesMethod image names.owners token m → AreUsed image token → IsTrue (is_method_ref a m)
  -- a method without arguments, unless the token is one of MethodSpec
  pub plain : (token : ℕ) (m : MethodRef) → names.methods token ≡ Some m → (token / 2 ^ 24 ≡ 0x2B → ⊥) → AreUsed image token → IsTrue (is_plain_ref a m)
  pub field : (token : ℕ) (f : FieldRef) → NamesField image names.owners token f → AreUsed image token → IsTrue (is_field_ref a f)
  pub local_count : (token : ℕ) (types : List SigType) → NamesLocals image names.owners token types → AreUsed image token → length types ≤ max_count
  pub locals : (token : ℕ) (types : List SigType) → NamesLocals image names.owners token types → AreUsed image token → IsTrue (list_all (is_type a) types)
  pub field_type : (row : ℕ) (of : SigType) → HasRow image 0x04 row → FieldHas image names row of → IsTrue (is_type a of)
  pub method_sig : (row : ℕ) (sig : MethodSig) → HasRow image 0x06 row → MethodHas image names row sig → IsTrue (is_signature a sig)
  pub no_sentinel : (row : ℕ) (sig : MethodSig) → HasRow image 0x06 row → MethodHas image names row sig → sig.sentinel ≡ None
  pub property_sig : (row : ℕ) (sig : MethodSig) → HasRow image 0x17 row → PropertyHas image names row sig → IsTrue (is_signature a sig)
  pub property_plain : (row : ℕ) (sig : MethodSig) → HasRow image 0x17 row → PropertyHas image names row sig → IsTrue (is_property_signature sig)

-- The length bounds the rows of methods and of references to them, so that each has a token.
abbrev pub ReferencesAreFormed : Type 0
ReferencesAreFormed = (image : List ℕ) (a : Assembly) → length image ≤ 2 ^ 26 → (h : Reads image a) → AreFormed image a h.names
