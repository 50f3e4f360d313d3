-- The grammar of assembler sources (II.5), read off the production table, and the choices of its parser.
use Rattle.std.specs.Prelude.{◌≡◌, ℕ, ◌+◌, ◌==◌, ◌&&◌, nat_le, List, [], ◌∷◌, Option, Some, None, true, Bool, option_map, slice_get, slice_index, slice_range, if◌then◌else◌}
use Rattle.std.specs.Int.{bit_at}
use Rattle.ilasm_grammar.specs.declared.rules.TheConstants.{HEADS, STARTS, BODIES}
use Rattle.ilasm_grammar.specs.declared.choices.TheConstants.{ROWS, FALLBACKS, OWNERS, PICKS}
use Rattle.ilasm_grammar.specs.Certificate.{first_masks, follow_masks, nullable_mask, weights}
use Rattle.ilasm_grammar.specs.declared.symbol.Symbol.{Symbol}
use Rattle.ilasm_grammar.specs.Grammar.{rule_of, Grammar}
use Rattle.ilasm_grammar.specs.Choice.{Sets}

-- the body of the production with this number, by such tables
abbrev pub body_by : List ℕ → List Symbol → ℕ → List Symbol
body_by starts bodies p = slice_range bodies (slice_index starts p) (slice_index starts (p + 1))

unfoldable pub body_at : ℕ → List Symbol
body_at = body_by STARTS BODIES

-- the productions by such tables, each by its place
unfoldable pub rule_by : List ℕ → List ℕ → List Symbol → Grammar
rule_by heads starts bodies p = option_map (λ (head : ℕ). rule_of head (body_by starts bodies p)) (slice_get heads p)

-- the productions of assembler sources
unfoldable pub ilasm : Grammar
ilasm = rule_by HEADS STARTS BODIES

-- each number is at most n
abbrev pub are_at_most : ℕ → List ℕ → Bool
are_at_most n [] = true
are_at_most n (x ∷ xs) = nat_le x n && are_at_most n xs

-- the production that a nonterminal goes on with before a terminal, or before the end, by such tables
unfoldable pub picked_by : List ℕ → List ℕ → List ℕ → List ℕ → ℕ → ℕ → ℕ
picked_by rows owners picks fallbacks n terminal =
    let cell = slice_index rows n + terminal in
    if slice_index owners cell == n then slice_index picks cell else slice_index fallbacks n

unfoldable pub picked : ℕ → ℕ → ℕ
picked = picked_by ROWS OWNERS PICKS FALLBACKS

-- whether a set has this number
unfoldable pub has_bit : ℕ → ℕ → Bool
has_bit mask k = bit_at mask k == 1

-- the sets by which the table is checked
unfoldable pub ilasm_sets : Sets
ilasm_sets = record {
  first = λ n. has_bit (slice_index first_masks n);
  follow = λ n. has_bit (slice_index follow_masks n);
  nullable = has_bit nullable_mask;
  weight = slice_index weights;
}

-- the production with this number, if there is one, isn't one of the nonterminal
abbrev pub IsNoRule : Grammar → ℕ → ℕ → Type 0
IsNoRule g n p = (body : List Symbol) → g p ≡ Some (rule_of n body) → ⊥

-- the body of the production with this number, if there is one
abbrev pub HasBody : ℕ → Option (List Symbol) → Type 0
HasBody p None = ilasm p ≡ None
HasBody p (Some body) = ilasm p ≡ Some (rule_of (slice_index HEADS p) body)
