-- The words of primitive types and of modifiers.
use Rattle.std.specs.Prelude.{ℕ, Bool, true, false}
use Rattle.il_lexer.specs.declared.word.TheConstants as word
use Rattle.type_terms.specs.declared.term.Primitive as prim

-- the last word: those of the size of an address have `native` before it
abbrev pub last_word : prim.Primitive → ℕ
last_word prim.TheVariants.Void = word.VOID
last_word prim.TheVariants.Bool = word.BOOL
last_word prim.TheVariants.Char = word.CHAR
last_word prim.TheVariants.I1 = word.INT8
last_word prim.TheVariants.U1 = word.UINT8
last_word prim.TheVariants.I2 = word.INT16
last_word prim.TheVariants.U2 = word.UINT16
last_word prim.TheVariants.I4 = word.INT32
last_word prim.TheVariants.U4 = word.UINT32
last_word prim.TheVariants.I8 = word.INT64
last_word prim.TheVariants.U8 = word.UINT64
last_word prim.TheVariants.R4 = word.FLOAT32
last_word prim.TheVariants.R8 = word.FLOAT64
last_word prim.TheVariants.Str = word.STRING
last_word prim.TheVariants.Object = word.OBJECT
last_word prim.TheVariants.TypedRef = word.TYPEDREF
last_word prim.TheVariants.NInt = word.INT
last_word prim.TheVariants.NUint = word.UINT

abbrev pub mod_word : Bool → ℕ
mod_word true = word.MODREQ
mod_word false = word.MODOPT
