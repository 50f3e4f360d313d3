-- Each token that a written body names was given to something (ECMA-335 II.25.4.3, II.25.4.6, III.1.9).
use Rattle.std.specs.Prelude.{◌≡◌, ℕ, List, ◌++◌, Some, Contains}
use Rattle.assembly_tree.specs.declared.body.Body.{Body}
use Rattle.body_codec.specs.Bodies.{Spells}
use Rattle.body_codec.specs.NamedTokens.{AreNamed}
use Rattle.body_codec.specs.Names.{TokenMap, writing}
use Rattle.type_terms.specs.declared.reference.FieldRef.{FieldRef}
use Rattle.type_terms.specs.declared.reference.MethodRef.{MethodRef}
use Rattle.type_terms.specs.declared.term.Owner.{Owner}
use Rattle.type_terms.specs.declared.term.SigType.{SigType}

-- a token is that of a type, a method, a field, locals or a text
pub data IsGiven (numbers : TokenMap) : ℕ → Type 0 where
  of_type : {token : ℕ} {owner : Owner} → numbers.owners owner ≡ Some token → IsGiven numbers token
  of_method : {token : ℕ} {method : MethodRef} → numbers.methods method ≡ Some token → IsGiven numbers token
  of_field : {token : ℕ} {field : FieldRef} → numbers.fields field ≡ Some token → IsGiven numbers token
  of_locals : {token : ℕ} {types : List SigType} → numbers.locals types ≡ Some token → IsGiven numbers token
  of_text : {token : ℕ} {units : List ℕ} → numbers.texts units ≡ Some token → IsGiven numbers token

-- ---- the law

abbrev pub NamedIsGiven : Type 0
NamedIsGiven =
    (numbers : TokenMap) (bytes more tokens : List ℕ) (body : Body) (size token : ℕ) → Spells (writing numbers) bytes body size → AreNamed (bytes ++ more) tokens
    → Contains tokens token → IsGiven numbers token
