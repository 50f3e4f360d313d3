-- Kinds of bytes (II.5.2).
use Rattle.std.specs.Prelude.{ℕ, Bool, false, ◌==◌, ◌&&◌, ◌||◌, nat_le, List, [], ◌∷◌}

-- a tab, a line feed, a carriage return or a blank
abbrev pub is_blank : ℕ → Bool
is_blank b = b == 9 || b == 10 || b == 13 || b == 32

abbrev pub is_digit : ℕ → Bool
is_digit b = nat_le 48 b && nat_le b 57

abbrev pub is_octal : ℕ → Bool
is_octal b = nat_le 48 b && nat_le b 55

abbrev pub is_hex : ℕ → Bool
is_hex b = is_digit b || (nat_le 65 b && nat_le b 70) || (nat_le 97 b && nat_le b 102)

-- a letter or one of `_`, `$`, `@`, `?` and the grave accent
abbrev pub is_id_start : ℕ → Bool
is_id_start b =
    (nat_le 97 b && nat_le b 122) || (nat_le 65 b && nat_le b 90) || b == 95 || b == 36 || b == 64 || b == 63 || b == 96

abbrev pub is_id_part : ℕ → Bool
is_id_part b = is_id_start b || is_digit b

-- a blank, or the `/` of a comment
abbrev pub is_gap_start : ℕ → Bool
is_gap_start b = is_blank b || b == 47

-- the first of the bytes is there and passes
abbrev pub first_passes : (ℕ → Bool) → List ℕ → Bool
first_passes p [] = false
first_passes p (b ∷ bs) = p b

abbrev pub first_is : ℕ → List ℕ → Bool
first_is x bs = first_passes (λ b. b == x) bs
