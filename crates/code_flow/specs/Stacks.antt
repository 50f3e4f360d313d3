-- Two stacks value by value. What was pushed first stands first.
use Rattle.std.specs.Prelude.{List, [], ◌∷◌}
use Rattle.type_hierarchy.specs.Stack.{Stack}

-- they have one depth, and the relation holds of each two values at one place
abbrev pub Each : (Stack → Stack → Type 0) → List Stack → List Stack → Type 0
Each R [] [] = Unit {0}
Each R [] (t ∷ ts) = ⊥
Each R (s ∷ ss) [] = ⊥
Each R (s ∷ ss) (t ∷ ts) = R s t × Each R ss ts
