-- What the sets tell of derivations, and that each derivation applies the production that is picked.
use Rattle.std.proofs.Common.{◌≡◌, ℕ, ◌+◌, ◌<◌, ◌≤◌, List, [], ◌∷◌, ◌++◌, Bool, true, false, Some, ◌⊎◌, inl, inr, refl, ap, subst, cond, arith}
use Rattle.std.proofs.lemmas.Bool.{cases_Bool}
use Rattle.ilasm_grammar.specs.declared.symbol.Symbol.{Symbol}
use Rattle.ilasm_grammar.specs.declared.symbol.Symbol.TheVariants.{Terminal, Nonterminal}
use Rattle.ilasm_grammar.specs.declared.tree.TreeNode.{TreeNode}
use Rattle.ilasm_grammar.specs.Grammar.{Grammar}
use Rattle.ilasm_grammar.specs.Leftmost.{Leftmost, Leftmost.done, Leftmost.shift, Leftmost.apply}
use Rattle.ilasm_grammar.specs.Choice.{next_of, Sets, Vanishes, Vanishes.none as nothing, Vanishes.past, Starts, Starts.here, Starts.inside, Starts.behind, AreFollowed, AreFollowed.terminal, AreFollowed.nonterminal, AreFollowedIn, AreFollowedIn.terminal as terminal_in, AreFollowedIn.nonterminal as nonterminal_in, load_of, IsDecided}

pub starts-++ : {sets : Sets} {kind : ℕ} (symbols more : List Symbol) → Starts sets (symbols ++ more) kind →
    Starts sets symbols kind ⊎ (Vanishes sets symbols × Starts sets more kind)
starts-++ [] more s = inr (nothing, s)
starts-++ (Terminal k ∷ symbols) more here = inl here
starts-++ (Nonterminal n ∷ symbols) more (inside f) = inl (inside f)
starts-++ (Nonterminal n ∷ symbols) more (behind v s) =
    elim (starts-++ symbols more s) [ inl t ↦ inl (behind v t) | inr t ↦ inr (past v t.0, t.1) ]

pub vanishes-++ : {sets : Sets} (symbols more : List Symbol) → Vanishes sets (symbols ++ more) → Vanishes sets symbols × Vanishes sets more
vanishes-++ [] more v = (nothing, v)
vanishes-++ (Terminal k ∷ symbols) more v = elim v [ ]
vanishes-++ (Nonterminal n ∷ symbols) more (past e v) = let t = vanishes-++ symbols more v in (past e t.0, t.1)

pub followed-++ : {sets : Sets} {head : ℕ} (body symbols : List Symbol) → AreFollowedIn sets head body →
    ((kind : ℕ) → Starts sets symbols kind → sets.follow head kind ≡ true) → AreFollowed sets symbols → AreFollowed sets (body ++ symbols)
followed-++ [] symbols f h rest = rest
followed-++ (Terminal k ∷ body) symbols (terminal_in f) h rest = terminal (followed-++ body symbols f h rest)
followed-++ {sets = sets} {head = head} (Nonterminal n ∷ body) symbols (nonterminal_in i a f) h rest =
    nonterminal (λ kind s. elim (starts-++ body symbols s) [ inl t ↦ i kind t | inr t ↦ a t.0 kind (h kind t.1) ])
    (followed-++ body symbols f h rest)

-- what is put in front adds its load, or hides what stands behind it
load_of-++ : (sets : Sets) (symbols more : List Symbol) → load_of sets (symbols ++ more) ≤ load_of sets symbols + load_of sets more
unfolding load_of
load_of-++ sets [] more = omega arith
load_of-++ sets (Terminal k ∷ symbols) more = omega arith
load_of-++ sets (Nonterminal n ∷ symbols) more =
    let h = load_of-++ sets symbols more in go (sets.nullable n) h
  where
    go : (b : Bool) → load_of sets (symbols ++ more) ≤ load_of sets symbols + load_of sets more →
        sets.weight n + cond b (load_of sets (symbols ++ more)) 0 ≤ sets.weight n + cond b (load_of sets symbols) 0 + load_of sets more
    go true h = omega arith
    go false h = omega arith

module _ (g : Grammar) (sets : Sets) (picked : ℕ → ℕ → ℕ) (end : ℕ) (d : IsDecided g sets picked end) where
  -- what derives nothing may vanish
  pub vanishing : {at : ℕ} {symbols : List Symbol} {kinds : List ℕ} {nodes : List TreeNode} →
      Leftmost g at symbols kinds nodes → kinds ≡ [] → Vanishes sets symbols
  vanishing done z = nothing
  vanishing (shift r) z = cc
  vanishing (apply {body = body} {symbols = symbols} e r c) z =
      let t = vanishes-++ body symbols (vanishing r z) in past (d.vanishes e t.0) t.1

  -- what is derived begins as the sets say
  pub starting : {at : ℕ} {symbols : List Symbol} {kinds : List ℕ} {nodes : List TreeNode} →
      Leftmost g at symbols kinds nodes → (kind : ℕ) (more : List ℕ) → kinds ≡ kind ∷ more → Starts sets symbols kind
  starting done kind more z = cc
  starting (shift {kind = k} {symbols = symbols} r) kind more z =
      let e : k ≡ kind = cc in subst (λ (x : ℕ). Starts sets (Terminal k ∷ symbols) x) e here
  starting (apply {head = head} {body = body} {symbols = symbols} e r c) kind more z =
      elim (starts-++ body symbols (starting r kind more z)) [ inl t ↦ inside (d.starts e t) | inr t ↦ behind (d.vanishes e t.0) t.1 ]

  -- each derivation applies the production that is picked
  pub picks : {at p n : ℕ} {body symbols : List Symbol} {nodes : List TreeNode} (kinds : List ℕ) →
      AreFollowed sets (Nonterminal n ∷ symbols) → g p ≡ Some (record { head = n; body = body }) → Leftmost g at (body ++ symbols) kinds nodes →
      picked n (next_of end kinds) ≡ p
  picks {body = body} {symbols = symbols} [] (nonterminal f rest) e r =
      d.by_end e (vanishes-++ body symbols (vanishing r refl)).0
  picks {body = body} {symbols = symbols} (kind ∷ kinds) (nonterminal f rest) e r =
      elim (starts-++ body symbols (starting r kind kinds refl)) [ inl t ↦ d.by_first e t | inr t ↦ d.by_follow e t.0 (f kind t.1) ]

  -- what stands behind the nonterminals when a production is applied
  pub followed_body : {p n : ℕ} {body symbols : List Symbol} → g p ≡ Some (record { head = n; body = body }) →
      AreFollowed sets (Nonterminal n ∷ symbols) → AreFollowed sets (body ++ symbols)
  followed_body {body = body} {symbols = symbols} e (nonterminal f rest) = followed-++ body symbols (d.followed e) f rest

  -- what may vanish, or hides what stands behind it
  load-split : (symbols more : List Symbol) →
      Vanishes sets symbols ⊎ (load_of sets (symbols ++ more) ≡ load_of sets symbols)
  unfolding load_of
  load-split [] more = inl nothing
  load-split (Terminal k ∷ symbols) more = inr refl
  load-split (Nonterminal n ∷ symbols) more =
      elim (cases_Bool (sets.nullable n)) [
        | inl e ↦ elim (load-split symbols more) [ inl v ↦ inl (past e v) | inr h ↦ inr (rw e (ap (λ x. sets.weight n + x) h)) ]
        | inr e ↦ inr (rw e refl)
      ]

  -- a body is lighter than the nonterminal that it stands for
  pub lighter : {p n : ℕ} {body : List Symbol} (symbols : List Symbol) → g p ≡ Some (record { head = n; body = body }) →
      load_of sets (body ++ symbols) < load_of sets (Nonterminal n ∷ symbols)
  unfolding load_of
  lighter {n = n} {body = body} symbols e =
      let w = d.lighter e in
      elim (load-split body symbols) [
        | inl v ↦ let z = d.vanishes e v in rw z (less (load_of sets symbols) w (load_of-++ sets body symbols))
        | inr h ↦ below (sets.nullable n) w h
      ]
    where
      less : {a b x : ℕ} (c : ℕ) → a < b → x ≤ a + c → x < b + c
      less c h k = omega arith

      below : (b : Bool) → load_of sets body < sets.weight n → load_of sets (body ++ symbols) ≡ load_of sets body →
          load_of sets (body ++ symbols) < sets.weight n + cond b (load_of sets symbols) 0
      below true w h = omega arith
      below false w h = omega arith
