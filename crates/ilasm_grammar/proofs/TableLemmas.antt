-- Look-ups in tables.
use Rattle.std.proofs.Common.{◌≡◌, ℕ, ◌+◌, ◌<◌, ◌≤◌, List, length, get_or, take, drop, true, false, eqb, Option, Some, None, ap, ◌∙◌, sym, refl}
use Rattle.std.specs.Prelude.{option_map, slice_get, slice_index}
use Rattle.std.proofs.lemmas.Bool.{eq-eqb, ne_eqb}
use Rattle.std.proofs.lemmas.Option.{slice_get_within, slice_get-get_or, slice_get_past}
use Rattle.std.proofs.lemmas.List.{get_or-take, get_or-drop}
use Rattle.ilasm_grammar.specs.declared.symbol.Symbol.{Symbol}
use Rattle.ilasm_grammar.specs.Grammar.{Rule, rule_of}
use Rattle.ilasm_grammar.specs.Ilasm.{body_by, rule_by, picked_by}

-- the production at a place
pub rule_by-at : (heads starts : List ℕ) (bodies : List Symbol) (p : ℕ) → p < length heads →
    rule_by heads starts bodies p ≡ Some (rule_of (slice_index heads p) (body_by starts bodies p))
unfolding rule_by
rule_by-at heads starts bodies p lt = ap (option_map (λ (head : ℕ). rule_of head (body_by starts bodies p))) (slice_get-get_or heads p 0 lt)

-- there is no production past the last place
pub rule_by-past : (heads starts : List ℕ) (bodies : List Symbol) (p : ℕ) → length heads ≤ p → rule_by heads starts bodies p ≡ None
unfolding rule_by
rule_by-past heads starts bodies p le = ap (option_map (λ (head : ℕ). rule_of head (body_by starts bodies p))) (slice_get_past heads p le)

-- a production stands at a place
pub rule_by-is : (heads starts : List ℕ) (bodies : List Symbol) (p : ℕ) (r : Rule) → rule_by heads starts bodies p ≡ Some r →
    (p < length heads) × (rule_of (slice_index heads p) (body_by starts bodies p) ≡ r)
unfolding rule_by
rule_by-is heads starts bodies p r e =
    let lt = some_at (slice_get heads p) e in
    let le = slice_get_within heads p lt.0 lt.1 in
    (le, same (sym (rule_by-at heads starts bodies p le) ∙ e))
  where
    f : ℕ → Rule
    f head = rule_of head (body_by starts bodies p)

    some_at : (o : Option ℕ) → option_map (λ (head : ℕ). rule_of head (body_by starts bodies p)) o ≡ Some r → (x : ℕ) × (o ≡ Some x)
    some_at (Some x) h = (x, refl)
    some_at _ h = cc

    same : {a b : Rule} → Some a ≡ Some b → a ≡ b
    same h = cc

-- a cell of a row that begins at `row`
cell-at : (cells : List ℕ) (row w k : ℕ) → k < w → get_or (take w (drop row cells)) k 0 ≡ get_or cells (row + k) 0
cell-at cells row w k lt = rw (get_or-take, get_or-drop)

module _ (rows owners picks fallbacks : List ℕ) (n k w : ℕ) (lt : k < w) where
  pub picked_by-own : get_or (take w (drop (slice_index rows n) owners)) k 0 ≡ n →
      picked_by rows owners picks fallbacks n k ≡ get_or (take w (drop (slice_index rows n) picks)) k 0
  unfolding picked_by
  picked_by-own same =
      let row = slice_index rows n in
      let e : eqb (get_or owners (row + k) 0) n ≡ true = eq-eqb _ _ (sym (cell-at owners row w k lt) ∙ same) in
      rw e (sym (cell-at picks row w k lt))

  pub picked_by-other : (get_or (take w (drop (slice_index rows n) owners)) k 0 ≡ n → ⊥) →
      picked_by rows owners picks fallbacks n k ≡ slice_index fallbacks n
  unfolding picked_by
  picked_by-other apart =
      let row = slice_index rows n in
      let e : eqb (get_or owners (row + k) 0) n ≡ false = ne_eqb _ _ (λ h. apart (cell-at owners row w k lt ∙ h)) in
      rw e refl
