-- The members of classes by their productions, and the last of their sizes (ECMA-335 II.10.2, II.10.7).
use Rattle.std.specs.Prelude.{ℕ, ◌==◌, Bool, if◌then◌else◌, ℤ, List, [], ◌∷◌, fold, Option, None, Some}
use Rattle.ilasm_grammar.specs.declared.productions.TheConstants.{MEMBER_CLASS, MEMBER_CUSTOM, MEMBER_DATA, MEMBER_EVENT, MEMBER_FIELD, MEMBER_METHOD, MEMBER_PACK, MEMBER_PARAM, MEMBER_PROPERTY, MEMBER_SIZE}
use Rattle.source_model.specs.Data.{lines_of}
use Rattle.source_model.specs.Forest.{Forest, is_among, leaf_at}
use Rattle.source_model.specs.OutOfRange.{is_32_bits}
use Rattle.source_model.specs.Shapes.{natural}
use Rattle.source_model.specs.Source.{Source}
use Rattle.source_model.specs.Values.{int_at}

abbrev pub member_productions : List ℕ
member_productions =
    MEMBER_CLASS ∷ MEMBER_FIELD ∷ MEMBER_METHOD ∷ MEMBER_PROPERTY ∷ MEMBER_EVENT ∷ MEMBER_CUSTOM ∷ MEMBER_DATA ∷ MEMBER_PARAM
    ∷ MEMBER_PACK ∷ MEMBER_SIZE ∷ []

-- a production is a member of a class
abbrev pub is_member : ℕ → Bool
is_member p = is_among member_productions p

-- a class size, where it is in its range
abbrev pub ranged_size : ℤ → Option ℕ
ranged_size z = if is_32_bits z then Some (natural z) else None

-- the number of a member that is a `.size`, else the one before
abbrev pub size_or : Source → ℕ → Forest → Option ℕ → Option ℕ
size_or s p f before = if p == MEMBER_SIZE then ranged_size (int_at s (leaf_at 1 f)) else before

-- the number of the last `.size` of a class, 0 where there is none; nothing where it is out of its range
abbrev pub last_size : Source → Forest → Option ℕ
last_size s f = fold (λ before p. ranged_size (int_at s (leaf_at 1 p.below))) (Some 0) (lines_of MEMBER_SIZE f)
