-- The sizes in data that types state by themselves (ECMA-335 II.16.3, II.23.1.16).
use Rattle.std.specs.Prelude.{ℕ, ◌/◌, ◌==◌, if◌then◌else◌, Option, None, Some}
use Rattle.ilasm_grammar.specs.declared.productions.TheConstants.{TYPE_BASE_BOOL, TYPE_BASE_CHAR, TYPE_BASE_FLOAT32, TYPE_BASE_FLOAT64, TYPE_BASE_INT_TYPE, TYPE_BASE_OBJECT, TYPE_BASE_STRING, TYPE_BASE_TYPEDREF, TYPE_BASE_VOID}
use Rattle.source_model.specs.Constants.{bits_of}
use Rattle.source_model.specs.Forest.{Forest}
use Rattle.source_model.specs.Types.{int_type}

-- the bytes of a base of a width, from its production and what stands below that
abbrev pub base_width : ℕ → Forest → Option ℕ
base_width p f =
    if p == TYPE_BASE_VOID then None else if p == TYPE_BASE_BOOL then Some 1 else if p == TYPE_BASE_CHAR then Some 2
    else if p == TYPE_BASE_STRING then None else if p == TYPE_BASE_OBJECT then None else if p == TYPE_BASE_TYPEDREF then None
    else if p == TYPE_BASE_FLOAT32 then Some 4 else if p == TYPE_BASE_FLOAT64 then Some 8
    else if p == TYPE_BASE_INT_TYPE then Some (bits_of (int_type f) / 8)
    else None
