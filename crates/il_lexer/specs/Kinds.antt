-- Kinds of bytes.
use Rattle.std.specs.Prelude.{ℕ, Bool, ◌||◌}

-- one of these bytes is of the kind
abbrev pub is_among : (ℕ → Bool) → ℕ → ℕ → ℕ → ℕ → ℕ → ℕ → ℕ → ℕ → Bool
is_among kind a b c d e f g h = kind a || (kind b || (kind c || (kind d || (kind e || (kind f || (kind g || kind h))))))
