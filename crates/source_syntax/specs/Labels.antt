-- The names of labels, and the numbers that they stand for (ECMA-335 II.5.4, III.3.66).
use Rattle.std.specs.Prelude.{◌≡◌, ℕ, ◌==◌, Bool, false, nat_lt, List, length, map, filter, position, bytes_eq, Option, None, Some, option_map}
use Rattle.std.specs.List.{flat_map, slice_get}
use Rattle.ilasm_grammar.specs.declared.productions.TheConstants.{NAMES}
use Rattle.source_model.specs.Forest.{Forest, each}
use Rattle.source_model.specs.Instructions.{label_named, labels, names_in, number_at}
use Rattle.source_model.specs.Source.{Source}
use Rattle.source_model.specs.Values.{name_text}
use Rattle.source_syntax.specs.declared.label_numbers.Labels.{Labels}

-- the names in the parentheses of `switch`, from what stands below its production
abbrev pub switch_names : Forest → List ℕ
switch_names f = flat_map names_in (each NAMES f)

-- a number that was found is less than another
abbrev pub is_below : Option ℕ → ℕ → Bool
is_below None most = false
is_below (Some n) most = nat_lt n most

-- how many of these numbers are less than one
abbrev pub count_below : ℕ → List ℕ → ℕ
count_below k xs = length (filter (λ x. nat_lt x k) xs)

-- the number that a name stands for in a method that has a label with it
abbrev pub number_declared : Source → Forest → ℕ → Option ℕ
number_declared s f k = option_map (number_at f) (label_named s f k)

-- among names, each with its number, that of the first that is this text
abbrev pub number_among : List ℕ → Option ℕ → Option ℕ
number_among numbers None = None
number_among numbers (Some i) = slice_get numbers i

abbrev pub number_found : List (List ℕ) → List ℕ → List ℕ → Option ℕ
number_found names numbers text = number_among numbers (position (bytes_eq text) names)

-- these are the labels of a method, which is given by what stands below its production
pub record AreLabels (x : Labels) (s : Source) (f : Forest) : Type 0 where
  pub names-are : x.names ≡ map (name_text s) (labels f)
  pub numbers-are : x.numbers ≡ map (number_at f) (labels f)

-- a number was found, and it is this one
abbrev pub ends_at : ℕ → Option ℕ → Bool
ends_at number None = false
ends_at number (Some n) = n == number
