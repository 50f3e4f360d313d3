-- A declared type as its own body names it: an instantiation by its own generic parameters, if it has some (ECMA-335 II.9.2,
-- II.15.4.1.3).
use Rattle.std.specs.Prelude.{ℕ, zero, suc, ◌+◌, false, List, [], ◌∷◌}
use Rattle.type_terms.specs.declared.name.Scope.TheVariants.{Here}
use Rattle.type_terms.specs.declared.name.TypeId.{TypeId}
use Rattle.type_terms.specs.declared.term.SigType.{SigType}
use Rattle.type_terms.specs.declared.term.SigType.TheVariants as type

-- `!k` and those after it, `n` in all
abbrev pub variables : ℕ → ℕ → List SigType
variables k zero = []
variables k (suc n) = type.Var k ∷ variables (k + 1) n

-- a class with its own parameters as arguments, before it is normalised
abbrev pub own_class : List TypeId → ℕ → SigType
own_class path zero = type.Class (record { scope = Here; path = path })
own_class path (suc n) = type.Inst false (record { scope = Here; path = path }) (variables 0 (suc n))
