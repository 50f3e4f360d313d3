-- The shapes of arrays (ECMA-335 II.14.2, II.23.2.13).
use Rattle.std.specs.Prelude.{ℕ, ◌==◌, Bool, if◌then◌else◌, ℤ, pos, negsuc, ◌+ℤ◌, ◌-ℤ◌, List, [], ◌∷◌, map, Option, None, Some}
use Rattle.ilasm_grammar.specs.declared.productions.TheConstants.{SHAPE_CLOSE, SHAPE_COMMA, BOUND_OPT_NONE, BOUND_ELLIPSIS, BOUND_INT, BOUND_END, INT_OPT_SOME}
use Rattle.il_lexer.specs.declared.word.TheConstants.{COMMA}
use Rattle.std.specs.List.{filter}
use Rattle.source_model.specs.Forest.{Forest, Part, parts, has, leaf_at, the, tokens_of}
use Rattle.source_model.specs.Source.{Source, is_word}
use Rattle.source_model.specs.Values.{int_at}

-- a number as one without a sign; a negative one has none
abbrev pub natural : ℤ → ℕ
natural (pos n) = n
natural (negsuc n) = 0

-- the tokens of a dimension: that of its lower bound and that of its size, or of its upper bound where it has both
pub record Bound : Type 0 where
  pub lower : Option ℕ
  pub size : Option ℕ

-- `n` is a size, `l...` a lower bound, `l...u` a lower bound and an upper one; `...` and nothing give none
abbrev pub bound : Part → Bound
bound p =
    if p.production == BOUND_INT then
    if has BOUND_END p.below then
    if has INT_OPT_SOME p.below then record { lower = Some (leaf_at 0 p.below); size = Some (leaf_at 0 (the INT_OPT_SOME p.below)) }
    else record { lower = Some (leaf_at 0 p.below); size = None }
    else record { lower = None; size = Some (leaf_at 0 p.below) }
    else record { lower = None; size = None }

abbrev pub no_bound : Bound
no_bound = record { lower = None; size = None }

-- the dimensions of a shape, from what stands below `[` Shape. A comma at the front has a dimension without a bound before it.
abbrev pub bounds_in : Forest → List Bound
bounds_in f = map bound (parts (BOUND_OPT_NONE ∷ BOUND_ELLIPSIS ∷ BOUND_INT ∷ []) f)

abbrev pub dimensions : Forest → List Bound
dimensions f = if has SHAPE_COMMA f then no_bound ∷ bounds_in f else bounds_in f

-- the commas of a shape: each begins a dimension after the first
abbrev pub commas : Source → Forest → List ℕ
commas s f = filter (is_word s COMMA) (tokens_of f)

abbrev pub lower_value : Source → Option ℕ → ℤ
lower_value s None = pos 0
lower_value s (Some k) = int_at s k

-- the size of a dimension: as it is written, or from the lower up to the upper bound
abbrev pub size_value : Source → Option ℕ → ℕ → ℤ
size_value s None k = int_at s k
size_value s (Some l) k = (int_at s k -ℤ int_at s l) +ℤ pos 1

-- the sizes of the dimensions at the front that have one
abbrev pub size_then : Source → Option ℕ → Option ℕ → List ℕ → List ℕ
size_then s lower None more = []
size_then s lower (Some k) more = natural (size_value s lower k) ∷ more

abbrev pub sizes : Source → List Bound → List ℕ
sizes s [] = []
sizes s (b ∷ bs) = size_then s b.lower b.size (sizes s bs)

-- the lower bounds up to the last that is given, 0 for one that isn't
abbrev pub lower_then : Source → Option ℕ → List ℤ → List ℤ
lower_then s None [] = []
lower_then s None (l ∷ ls) = pos 0 ∷ l ∷ ls
lower_then s (Some k) more = int_at s k ∷ more

abbrev pub lower_bounds : Source → List Bound → List ℤ
lower_bounds s [] = []
lower_bounds s (b ∷ bs) = lower_then s b.lower (lower_bounds s bs)

-- `[ ]` alone, which makes a vector
abbrev pub is_vector : Forest → Bool
is_vector f = has SHAPE_CLOSE f
