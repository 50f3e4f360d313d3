-- The sizes of classes in data, where they are known (ECMA-335 II.10.7, II.22.8).
use Rattle.std.specs.Prelude.{ℕ, Option, None, Some}

abbrev pub known_size : Option (Option ℕ) → Option ℕ
known_size None = None
known_size (Some size) = size
