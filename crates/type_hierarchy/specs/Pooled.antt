-- Ids that stand for types in a pool.
use Rattle.std.specs.Prelude.{◌≡◌, ℕ, List, [], Option, None, Some}
use Rattle.type_terms.specs.declared.term.SigType.{SigType}
use Rattle.sig_pool.specs.declared.node.Node.{Node}
use Rattle.sig_pool.specs.Pool.{Has}
use Rattle.sig_pool.specs.Replaced.{replaced}

-- an id of the type, or none where there is none
abbrev pub HasOption : List Node → Option ℕ → Option SigType → Type 0
HasOption ns None t = t ≡ None
HasOption ns (Some id) t = (s : SigType) × (t ≡ Some s) × Has ns id s

-- a type with the arguments put in, where there are any
abbrev pub put_in : Option (List SigType) → SigType → SigType
put_in None t = t
put_in (Some args) t = replaced args [] t
