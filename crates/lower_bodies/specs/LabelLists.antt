-- Labels of a method (ECMA-335 II.5.4).
use Rattle.std.specs.Prelude.{ℕ, List, [], ◌∷◌, take}

-- the first few of these, or many where there are some
abbrev pub listed : ℕ → List ℕ → List ℕ → List ℕ
listed count few [] = take count few
listed count few (x ∷ xs) = x ∷ xs
