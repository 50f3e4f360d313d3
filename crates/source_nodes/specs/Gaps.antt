-- What a gap may begin with (ECMA-335 II.5.2).
use Rattle.std.specs.Prelude.{ℕ, Bool, ◌==◌, ◌||◌}
use Rattle.il_lexer.specs.Classes.{is_blank}

-- a blank, or what a comment begins with
abbrev pub may_begin_gap : ℕ → Bool
may_begin_gap b = is_blank b || b == 47
