-- A type with its variables replaced (ECMA-335 II.9.2).
use Rattle.std.specs.Prelude.{ℕ, List, map, get_or}
use Rattle.type_terms.specs.declared.term.Owner.{Owner, roll-Owner, fold-Owner}
use Rattle.type_terms.specs.declared.term.Owner.TheOpen.{SigType-F, Var, MVar}
use Rattle.type_terms.specs.declared.term.SigType.{SigType, roll-SigType, fold-SigType}
use Rattle.sig_pool.specs.declared.node.Node.{Node}
use Rattle.sig_pool.specs.Terms.{term_of}

-- one layer, whose children are replaced: a variable within its list gives way to the type there
abbrev pub replace_step : List SigType → List SigType → SigType-F Owner SigType → SigType
replace_step classes methods (Var n) = get_or classes n (roll-SigType (Var n))
replace_step classes methods (MVar n) = get_or methods n (roll-SigType (MVar n))
replace_step classes methods x = roll-SigType x

-- each `!n` and `!!n` within the lists is replaced, and any other stays
unfoldable pub replaced : List SigType → List SigType → SigType → SigType
replaced classes methods t = fold-SigType Owner SigType roll-Owner (replace_step classes methods) t

unfoldable pub owner_replaced : List SigType → List SigType → Owner → Owner
owner_replaced classes methods o = fold-Owner Owner SigType roll-Owner (replace_step classes methods) o

-- the types of the ids
abbrev pub terms_at : List Node → List ℕ → List SigType
terms_at ns ks = map (term_of ns) ks
