-- What tokens stand for (III.1.9, II.22), as a body is read and as it is written.
use Rattle.std.specs.Prelude.{◌≡◌, ◌≢◌, ℕ, Bool, true, false, List, [], Option, None, Some, ◌⊎◌}
use Rattle.std.specs.Option.{option_map, option_or}
use Rattle.type_terms.specs.declared.term.Owner.{Owner}
use Rattle.type_terms.specs.declared.term.SigType.{SigType}
use Rattle.type_terms.specs.declared.reference.MethodRef.{MethodRef}
use Rattle.type_terms.specs.declared.reference.FieldRef.{FieldRef}
use Rattle.opcode_table.specs.declared.kind.OperandKind.{OperandKind}
use Rattle.opcode_table.specs.declared.kind.OperandKind.TheVariants as kinds
use Rattle.assembly_tree.specs.declared.body.Operand as operand

-- the maps of a namer
pub record NameMap : Type 0 where
  pub owners : ℕ → Option Owner
  pub methods : ℕ → Option MethodRef
  pub fields : ℕ → Option FieldRef
  pub locals : ℕ → Option (List SigType)
  pub texts : ℕ → Option (List ℕ)

abbrev pub name_map : (ℕ → Option Owner) → (ℕ → Option MethodRef) → (ℕ → Option FieldRef) → (ℕ → Option (List SigType)) → (ℕ → Option (List ℕ)) → NameMap
name_map owners methods fields locals texts = record { owners = owners; methods = methods; fields = fields; locals = locals; texts = texts }

-- the maps of a numberer
pub record TokenMap : Type 0 where
  pub owners : Owner → Option ℕ
  pub methods : MethodRef → Option ℕ
  pub fields : FieldRef → Option ℕ
  pub locals : List SigType → Option ℕ
  pub texts : List ℕ → Option ℕ

-- whether an operand is a token
abbrev pub takes_token : OperandKind → Bool
takes_token kinds.Method = true
takes_token kinds.Field = true
takes_token kinds.Of = true
takes_token kinds.Text = true
takes_token kinds.Token = true
takes_token _ = false

-- What a token names as an operand of a kind. That of ldtoken names a method, a field or a type: what the namer knows it as,
-- in this order.
abbrev pub named : NameMap → OperandKind → ℕ → Option operand.Operand
named names kinds.Method token = option_map operand.TheVariants.Method (names.methods token)
named names kinds.Field token = option_map operand.TheVariants.Field (names.fields token)
named names kinds.Of token = option_map operand.TheVariants.Of (names.owners token)
named names kinds.Text token = option_map operand.TheVariants.Text (names.texts token)
named names kinds.Token token =
    option_or (option_map operand.TheVariants.Method (names.methods token))
    (option_or (option_map operand.TheVariants.Field (names.fields token)) (option_map operand.TheVariants.Of (names.owners token)))
named names _ token = None

-- the token of an operand of a kind
abbrev pub token_of : TokenMap → operand.Operand → Option ℕ
token_of numbers (operand.TheVariants.Method m) = numbers.methods m
token_of numbers (operand.TheVariants.Field f) = numbers.fields f
token_of numbers (operand.TheVariants.Of o) = numbers.owners o
token_of numbers (operand.TheVariants.Text units) = numbers.texts units
token_of numbers _ = None

-- which names an operand of a kind may have
abbrev pub Suits : OperandKind → operand.Operand → Type 0
Suits kind (operand.TheVariants.Method m) = (kind ≡ kinds.Method) ⊎ (kind ≡ kinds.Token)
Suits kind (operand.TheVariants.Field f) = (kind ≡ kinds.Field) ⊎ (kind ≡ kinds.Token)
Suits kind (operand.TheVariants.Of o) = (kind ≡ kinds.Of) ⊎ (kind ≡ kinds.Token)
Suits kind (operand.TheVariants.Text units) = kind ≡ kinds.Text
Suits kind _ = ⊥

-- Which token stands for which name: for an operand of a kind, for the type that a clause catches, and for locals.
pub record Notation : Type 1 where
  pub operand : OperandKind → ℕ → operand.Operand → Type 0
  pub caught : ℕ → Owner → Type 0
  pub locals : ℕ → List SigType → Type 0

-- as a body is read
abbrev pub reading : NameMap → Notation
reading names = record {
  operand = λ kind token value. named names kind token ≡ Some value;
  caught = λ token owner. names.owners token ≡ Some owner;
  locals = λ token types. names.locals token ≡ Some types;
}

-- as it is written
abbrev pub writing : TokenMap → Notation
writing numbers = record {
  operand = λ kind token value. Suits kind value × (token_of numbers value ≡ Some token);
  caught = λ token owner. numbers.owners owner ≡ Some token;
  locals = λ token types. (types ≢ []) × (numbers.locals types ≡ Some token);
}
