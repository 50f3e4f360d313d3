-- A production table with its certificate, and the tests that it passes. `TableFacts` has what follows from them.
use Rattle.std.proofs.Common.{ℕ, zero, suc, ◌+◌, ◌*◌, ◌^◌, List, [], ◌∷◌, Bool, true, false, ◌&&◌, length}
use Rattle.std.specs.Prelude.{◌≡◌, ◌==◌, nat_lt, bit_and, bit_or}
use Rattle.ilasm_grammar.specs.declared.symbol.Symbol.{Symbol}
use Rattle.ilasm_grammar.specs.declared.symbol.Symbol.TheVariants.{Terminal, Nonterminal}
use Rattle.ilasm_grammar.specs.Choice.{Sets, load_of}
use Rattle.ilasm_grammar.specs.Ilasm.{has_bit}

pub record Tables : Type 0 where
  -- how many productions and nonterminals there are, and the number past the last terminal
  pub productions : ℕ
  pub nonterminals : ℕ
  pub end : ℕ
  -- of each production
  pub head : ℕ → ℕ
  pub body : ℕ → List Symbol
  -- of each nonterminal
  pub owners : ℕ → List ℕ
  pub picks : ℕ → List ℕ
  pub fallback : ℕ → ℕ
  pub first : ℕ → ℕ
  pub follow : ℕ → ℕ
  pub nullable : ℕ → Bool
  pub weight : ℕ → ℕ
  pub witness : ℕ → ℕ
  pub rank : ℕ → ℕ
  pub parent : ℕ → ℕ
  pub surplus : ℕ → ℕ
  pub shortfall : ℕ → ℕ

abbrev pub sets_of : Tables → Sets
sets_of t = record { first = λ n. has_bit (t.first n); follow = λ n. has_bit (t.follow n); nullable = t.nullable; weight = t.weight }

-- a test of each number below n
abbrev pub all_below : (ℕ → Bool) → ℕ → Bool
all_below test zero = true
all_below test (suc n) = elim (test n) [ true ↦ all_below test n | false ↦ false ]

abbrev pub implies : Bool → Bool → Bool
implies true b = b
implies false b = true

abbrev pub bit_of : Bool → ℕ
bit_of true = 1
bit_of false = 0

abbrev pub is_subset : ℕ → ℕ → Bool
is_subset a b = bit_and a b == a

module _ (t : Tables) where
  -- the terminals that the symbols may begin with
  abbrev pub starts_mask : List Symbol → ℕ
  starts_mask [] = 0
  starts_mask (Terminal k ∷ symbols) = 2 ^ k
  starts_mask (Nonterminal n ∷ symbols) = bit_or (t.first n) (elim (t.nullable n) [ true ↦ starts_mask symbols | false ↦ 0 ])

  -- whether the symbols may vanish
  abbrev pub vanish : List Symbol → Bool
  vanish [] = true
  vanish (Terminal k ∷ symbols) = false
  vanish (Nonterminal n ∷ symbols) = t.nullable n && vanish symbols

  abbrev pub follow_ok : ℕ → List Symbol → Bool
  follow_ok head [] = true
  follow_ok head (Terminal k ∷ symbols) = follow_ok head symbols
  follow_ok head (Nonterminal n ∷ symbols) =
      is_subset (starts_mask symbols) (t.follow n) && (implies (vanish symbols) (is_subset (t.follow head) (t.follow n)) && follow_ok head symbols)

  -- each nonterminal is one of the table, and its rank is below r
  abbrev pub ranks_below : ℕ → List Symbol → Bool
  ranks_below r [] = true
  ranks_below r (Terminal k ∷ symbols) = ranks_below r symbols
  ranks_below r (Nonterminal n ∷ symbols) = nat_lt n t.nonterminals && (nat_lt (t.rank n) r && ranks_below r symbols)

  abbrev pub has_nonterminal : ℕ → List Symbol → Bool
  has_nonterminal n [] = false
  has_nonterminal n (Terminal k ∷ symbols) = has_nonterminal n symbols
  has_nonterminal n (Nonterminal m ∷ symbols) = elim (m == n) [ true ↦ true | false ↦ has_nonterminal n symbols ]

  -- how many nodes the symbols may take past 7 for each token, and how many fewer
  abbrev pub surplus_of : List Symbol → ℕ
  surplus_of [] = 0
  surplus_of (Terminal k ∷ symbols) = surplus_of symbols
  surplus_of (Nonterminal n ∷ symbols) = t.surplus n + surplus_of symbols

  abbrev pub shortfall_of : List Symbol → ℕ
  shortfall_of [] = 0
  shortfall_of (Terminal k ∷ symbols) = 6 + shortfall_of symbols
  shortfall_of (Nonterminal n ∷ symbols) = t.shortfall n + shortfall_of symbols

  -- the cells of a row that are nonterminal n's and pick p
  abbrev pub pick_mask : ℕ → ℕ → List ℕ → List ℕ → ℕ
  pick_mask n p [] picks = 0
  pick_mask n p (o ∷ owners) [] = 0
  pick_mask n p (o ∷ owners) (q ∷ picks) = bit_of (o == n && q == p) + 2 * pick_mask n p owners picks

  -- the cells of a row that are nonterminal n's
  abbrev pub owner_mask : ℕ → List ℕ → ℕ
  owner_mask n [] = 0
  owner_mask n (o ∷ owners) = bit_of (o == n) + 2 * owner_mask n owners

  -- ---- the tests of a production

  abbrev pub first_ok : ℕ → Bool
  first_ok p =
      let n = t.head p in let starts = starts_mask (t.body p) in
      is_subset starts (t.first n) && is_subset starts (pick_mask n p (t.owners n) (t.picks n))

  abbrev pub vanish_ok : ℕ → Bool
  vanish_ok p = implies (vanish (t.body p)) (t.nullable (t.head p) && t.fallback (t.head p) == p)

  abbrev pub followed_ok : ℕ → Bool
  followed_ok p = follow_ok (t.head p) (t.body p)

  abbrev pub symbols_ok : ℕ → Bool
  symbols_ok p = nat_lt (t.head p) t.nonterminals && ranks_below 64 (t.body p)

  abbrev pub load_ok : ℕ → Bool
  load_ok p = nat_lt (load_of (sets_of t) (t.body p)) (t.weight (t.head p))

  abbrev pub nodes_ok : ℕ → Bool
  nodes_ok p = nat_lt (surplus_of (t.body p) + t.shortfall (t.head p)) (t.surplus (t.head p) + shortfall_of (t.body p))

  -- ---- the tests of a nonterminal

  abbrev pub row_ok : ℕ → Bool
  row_ok n =
      length (t.owners n) == suc t.end &&
      implies (t.nullable n) (bit_and (owner_mask n (t.owners n)) (bit_or (t.follow n) (2 ^ t.end)) == 0)

  abbrev pub follow_in_range : ℕ → Bool
  follow_in_range n = nat_lt (t.follow n) (2 ^ t.end)

  abbrev pub witness_ok : ℕ → Bool
  witness_ok n = nat_lt (t.witness n) t.productions && (t.head (t.witness n) == n && ranks_below (t.rank n) (t.body (t.witness n)))

  abbrev pub parent_ok : ℕ → Bool
  parent_ok n =
      elim (n == 0) [ true ↦ true | false ↦ nat_lt (t.parent n) t.productions && (nat_lt (t.head (t.parent n)) n && has_nonterminal n (t.body (t.parent n))) ]

-- what the tests of a table say
pub record IsChecked (t : Tables) : Type 0 where
  pub first : all_below (first_ok t) t.productions ≡ true
  pub vanish : all_below (vanish_ok t) t.productions ≡ true
  pub followed : all_below (followed_ok t) t.productions ≡ true
  pub symbols : all_below (symbols_ok t) t.productions ≡ true
  pub load : all_below (load_ok t) t.productions ≡ true
  pub nodes : all_below (nodes_ok t) t.productions ≡ true
  pub row : all_below (row_ok t) t.nonterminals ≡ true
  pub follow_in_range : all_below (follow_in_range t) t.nonterminals ≡ true
  pub witness : all_below (witness_ok t) t.nonterminals ≡ true
  pub parent : all_below (parent_ok t) t.nonterminals ≡ true
