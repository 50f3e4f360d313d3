-- The bases of types that aren't one word alone (ECMA-335 II.7.1).
use Rattle.std.specs.Prelude.{ℕ, ◌==◌, true, false, if◌then◌else◌, List}
use Rattle.type_terms.specs.declared.term.Primitive.TheVariants as prim
use Rattle.type_terms.specs.declared.term.SigType.{SigType, Prim, Var, MVar}
use Rattle.ilasm_grammar.specs.declared.productions.TheConstants.{TYPE_BASE_INT_TYPE, TYPE_BASE_NATIVE, TYPE_BASE_CLASS, TYPE_BASE_VALUETYPE, TYPE_BASE_BANG, NATIVE_INT_INT}
use Rattle.source_model.specs.Forest.{Forest, has}
use Rattle.source_model.specs.Names.{type_name}
use Rattle.source_model.specs.Nodes.{Around, typar_names}
use Rattle.source_model.specs.Source.{Source}
use Rattle.source_model.specs.Types.{int_type, named_type, variable_number}

-- the type of such a base: an integer type, a class or a value type, or a generic parameter
abbrev pub made_type : Source → Around → ℕ → Forest → List SigType → SigType
made_type s a p f args =
    if p == TYPE_BASE_INT_TYPE then Prim (int_type f)
    else if p == TYPE_BASE_NATIVE then (if has NATIVE_INT_INT f then Prim prim.NInt else Prim prim.NUint)
    else if p == TYPE_BASE_CLASS then named_type false (type_name s f) args
    else if p == TYPE_BASE_VALUETYPE then named_type true (type_name s f) args
    else if p == TYPE_BASE_BANG then Var (variable_number s (typar_names s a.class) f)
    else MVar (variable_number s (typar_names s a.method) f)
