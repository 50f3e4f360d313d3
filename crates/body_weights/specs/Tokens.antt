-- What is told of the weights of what the tokens of bodies name (III.1.9, II.25.4.6).
use Rattle.std.specs.Prelude.{ℕ, ◌+◌, ◌-◌, ◌*◌, ◌/◌, ◌%◌, ◌^◌, ◌==◌, ◌||◌, if◌then◌else◌, Bool, List, length, slice_index, sum_by}
use Rattle.std.specs.Option.{option_map_or}
use Rattle.body_outlines.specs.declared.outlined.BodyOutline.{BodyOutline}
use Rattle.body_outlines.specs.declared.outlined.TokenUse.{TokenUse}
use Rattle.heaps.specs.LookUp.{blob_in}
use Rattle.image_model.specs.Streams.{user_of}
use Rattle.opcode_table.specs.declared.kind.OperandKind.{OperandKind}
use Rattle.opcode_table.specs.declared.kind.OperandKind.TheVariants as kinds
use Rattle.row_weights.specs.Rows.{Known, AreKnown, FieldTold, TellRows, TellMethods, cell_weighed, owner_weighed, method_told}
use Rattle.row_weights.specs.declared.kind.Kind.TheVariants as kind
use Rattle.row_weights.specs.declared.methods.MethodWeights.{MethodWeights}

-- what is known of an image, the weights of its methods as references, and those of its fields by rows
pub record Tokens : Type 0 where
  pub known : Known
  pub methods : MethodWeights
  pub fields : List ℕ

abbrev pub tokens : Known → MethodWeights → List ℕ → Tokens
tokens known methods fields = record { known = known; methods = methods; fields = fields }

-- they are so
pub record AreTokens (it : Tokens) : Type 0 where
  pub known_are : AreKnown it.known
  pub methods_are : TellMethods it.known.image it.methods
  pub fields_are : TellRows it.known.image 0x04 (FieldTold it.known.image 0x04) it.fields

-- ---- tokens

-- the rows of a table are types
abbrev pub is_type : ℕ → Bool
is_type table = table == 0x02 || table == 0x01 || table == 0x1B

-- a field, a type, or else a method
abbrev pub told_by : Tokens → (table row method : ℕ) → ℕ
told_by it table row method =
    if table == 0x04 then slice_index it.fields row else if is_type table then owner_weighed it.known table row else method

-- what a token names as one of them
unfoldable pub row_told : Tokens → ℕ → ℕ
row_told it token = told_by it (token / 2 ^ 24) (token % 2 ^ 24) (method_told it.methods token)

-- a user string: the entry has two bytes for each unit, and one more (II.24.2.4)
unfoldable pub text_told : List ℕ → ℕ → ℕ
text_told image token = option_map_or length (blob_in (user_of image) (token % 2 ^ 24)) 0 - 1

-- what an operand names
abbrev pub told_as : Tokens → OperandKind → ℕ → ℕ
told_as it kinds.Text token = text_told it.known.image token
told_as it _ token = row_told it token

abbrev pub use_told : Tokens → TokenUse → ℕ
use_told it u = told_as it u.kind u.token

-- locals, each with 64 besides
abbrev pub locals_told : Tokens → ℕ → ℕ
locals_told it token = if token == 0 then 0 else cell_weighed it.known kind.Locals 0x11 (token % 2 ^ 24) 0

-- ---- a body, by what its bytes say

unfoldable pub outline_told : Tokens → BodyOutline → ℕ
outline_told it o =
    locals_told it o.locals + 16 * o.instructions + 4 * o.targets + 64 * o.clauses + sum_by (use_told it) o.operands
    + sum_by (row_told it) o.catches
