-- What the tests of a table say of its grammar.
use Rattle.std.proofs.Common.{◌≡◌, ℕ, zero, suc, ◌+◌, ◌*◌, ◌/◌, ◌^◌, ◌<◌, ◌≤◌, List, [], ◌∷◌, length, get_or, Bool, true, false, ◌&&◌, Some, refl, sym, ap, ◌∙◌, subst, ◌⊎◌, ⊎_elim, eqb, arith, append-nil}
use Rattle.std.specs.Prelude.{bit_and, bit_or}
use Rattle.std.specs.Int.{bit_at}
use Rattle.std.proofs.lemmas.Bool.{and_parts, eqb-true, eq-eqb, ltb-true, false≢true, cases_eq, cases_lt}
use Rattle.std.proofs.lemmas.Nat.Bits.{bit_at_and, bit_at_or, bit_at-lt, bit_at-pow_same, bit_at_lowest, bit_at-suc, bit_at-zero, bit_at_above}
use Rattle.ilasm_grammar.specs.declared.symbol.Symbol.{Symbol}
use Rattle.ilasm_grammar.specs.declared.symbol.Symbol.TheVariants.{Terminal, Nonterminal}
use Rattle.ilasm_grammar.specs.declared.tree.TreeNode.TheVariants.{Branch}
use Rattle.ilasm_grammar.specs.Grammar.{Rule, rule_of, Grammar}
use Rattle.ilasm_grammar.specs.Leftmost.{Leftmost, Leftmost.apply}
use Rattle.ilasm_grammar.specs.Choice.{Vanishes, Vanishes.past, Starts, Starts.here, Starts.inside, Starts.behind, AreFollowedIn, AreFollowedIn.none as no_more_in, AreFollowedIn.terminal as terminal_in, AreFollowedIn.nonterminal as nonterminal_in, IsProductive, AreProductive, AreProductive.none as no_symbols, AreProductive.terminal as terminal_made, AreProductive.nonterminal as nonterminal_made, load_of, IsDecided}
use Rattle.ilasm_grammar.specs.Ilasm.{has_bit}
use Rattle.ilasm_grammar.proofs.CourseLemmas.{productive}
use Rattle.ilasm_grammar.proofs.Tables.{Tables, sets_of, IsChecked, all_below, implies, bit_of, is_subset, starts_mask, vanish, follow_ok, ranks_below, pick_mask, owner_mask, first_ok, vanish_ok, followed_ok, symbols_ok, load_ok, row_ok, follow_in_range, witness_ok}

elim_true : (b c : Bool) → elim b [ true ↦ c | false ↦ false ] ≡ true → (b ≡ true) × (c ≡ true)
elim_true true c e = (refl, e)
elim_true false c e = absurd (false≢true e)

pub all_below-at : (test : ℕ → Bool) (n : ℕ) → all_below test n ≡ true → (k : ℕ) → k < n → test k ≡ true
all_below-at test zero e k lt = absurd (omega arith)
all_below-at test (suc n) e k lt =
    let parts = elim_true (test n) (all_below test n) e in
    ⊎_elim (λ same. ap test same ∙ parts.0) (λ other. all_below-at test n parts.1 k (le_of k n lt other)) (cases_eq k n)
  where
    le_of : (k n : ℕ) → k < suc n → (k ≡ n → ⊥) → k < n
    le_of k n lt other = omega arith

implied : (a b : Bool) → implies a b ≡ true → a ≡ true → b ≡ true
implied true b e h = e
implied false b e h = absurd (false≢true h)

-- ---- sets as numbers

one_bit : (n i : ℕ) → (bit_at n i ≡ 1) ⊎ (bit_at n i ≡ 0)
one_bit n i = let h = bit_at-lt n i in grind arith

pub bit_from : (mask k : ℕ) → has_bit mask k ≡ true → bit_at mask k ≡ 1
unfolding has_bit
bit_from mask k e = eqb-true _ _ e

pub bit_to : (mask k : ℕ) → bit_at mask k ≡ 1 → has_bit mask k ≡ true
unfolding has_bit
bit_to mask k e = eq-eqb _ _ e

pub subset-bit : (a b : ℕ) → is_subset a b ≡ true → (k : ℕ) → bit_at a k ≡ 1 → bit_at b k ≡ 1
subset-bit a b e k h =
    let same : bit_and a b ≡ a = eqb-true _ _ e in
    let m : bit_at (bit_and a b) k ≡ 1 = ap (λ x. bit_at x k) same ∙ h in
    omega (arith, bit_at_and a b k, bit_at-lt b k)

disjoint-bit : (a b : ℕ) → bit_and a b ≡ 0 → (k : ℕ) → bit_at b k ≡ 1 → bit_at a k ≡ 0
disjoint-bit a b e k h =
    let z : bit_at (bit_and a b) k ≡ 0 = ap (λ x. bit_at x k) e ∙ bit_at-zero k in
    omega (arith, bit_at_and a b k, bit_at-lt a k)

or-left : (a b k : ℕ) → bit_at a k ≡ 1 → bit_at (bit_or a b) k ≡ 1
or-left a b k h = omega (arith, bit_at_or a b k, bit_at-lt b k)

or-right : (a b k : ℕ) → bit_at b k ≡ 1 → bit_at (bit_or a b) k ≡ 1
or-right a b k h = omega (arith, bit_at_or a b k, bit_at-lt a k)

bit_of_sum : (b : Bool) (m : ℕ) → bit_at (bit_of b + 2 * m) 0 ≡ bit_of b
bit_of_sum true m = bit_at_lowest (1 + 2 * m) ∙ omega arith
bit_of_sum false m = bit_at_lowest (0 + 2 * m) ∙ omega arith

bit_of_rest : (b : Bool) (m k : ℕ) → bit_at (bit_of b + 2 * m) (suc k) ≡ bit_at m k
bit_of_rest true m k = let h : (1 + 2 * m) / 2 ≡ m = omega arith in bit_at-suc (1 + 2 * m) k ∙ ap (λ x. bit_at x k) h
bit_of_rest false m k = let h : (0 + 2 * m) / 2 ≡ m = omega arith in bit_at-suc (0 + 2 * m) k ∙ ap (λ x. bit_at x k) h

test_of : (b : Bool) → bit_of b ≡ 1 → b ≡ true
test_of true e = refl
test_of false e = absurd (omega arith)

no_test : (b : Bool) → bit_of b ≡ 0 → b ≡ false
no_test true e = absurd (omega arith)
no_test false e = refl

module _ (t : Tables) where
  -- ---- the certificate's sets are large enough

  pub starts-mask : (symbols : List Symbol) (k : ℕ) → Starts (sets_of t) symbols k → bit_at (starts_mask t symbols) k ≡ 1
  starts-mask [] kind s = elim s [ ]
  starts-mask (Terminal k ∷ symbols) kind here = bit_at-pow_same k
  starts-mask (Nonterminal n ∷ symbols) kind (inside e) = or-left _ _ kind (bit_from _ kind e)
  starts-mask (Nonterminal n ∷ symbols) kind (behind v s) =
      let h = starts-mask symbols kind s in
      or-right (t.first n) _ kind (rw v h)

  pub vanish-true : (symbols : List Symbol) → Vanishes (sets_of t) symbols → vanish t symbols ≡ true
  vanish-true [] v = refl
  vanish-true (Terminal k ∷ symbols) v = elim v [ ]
  vanish-true (Nonterminal n ∷ symbols) (past e v) = rw e (vanish-true symbols v)

  followed-in : (head : ℕ) (symbols : List Symbol) → follow_ok t head symbols ≡ true → AreFollowedIn (sets_of t) head symbols
  followed-in head [] e = no_more_in
  followed-in head (Terminal k ∷ symbols) e = terminal_in (followed-in head symbols e)
  followed-in head (Nonterminal n ∷ symbols) e =
      let a = and_parts (is_subset (starts_mask t symbols) (t.follow n)) (implies (vanish t symbols) (is_subset (t.follow head) (t.follow n)) && follow_ok t head symbols) e in
      let b = and_parts (implies (vanish t symbols) (is_subset (t.follow head) (t.follow n))) (follow_ok t head symbols) a.1 in
      nonterminal_in (λ kind s. bit_to _ kind (subset-bit _ _ a.0 kind (starts-mask symbols kind s)))
      (λ v kind f. bit_to _ kind (subset-bit _ _ (implied _ _ b.0 (vanish-true symbols v)) kind (bit_from _ kind f)))
      (followed-in head symbols b.1)

  -- ---- a row's cells

  pub pick-bit : (n p : ℕ) (owners picks : List ℕ) (k : ℕ) → bit_at (pick_mask t n p owners picks) k ≡ 1 → (k < length owners) × (get_or owners k 0 ≡ n) × (get_or picks k 0 ≡ p)
  pick-bit n p [] picks k e = absurd (omega (arith, bit_at-zero k))
  pick-bit n p (o ∷ owners) [] k e = absurd (omega (arith, bit_at-zero k))
  pick-bit n p (o ∷ owners) (q ∷ picks) zero e =
      let h = and_parts (eqb o n) (eqb q p) (test_of (eqb o n && eqb q p) (sym (bit_of_sum (eqb o n && eqb q p) (pick_mask t n p owners picks)) ∙ e)) in
      (omega arith, eqb-true o n h.0, eqb-true q p h.1)
  pick-bit n p (o ∷ owners) (q ∷ picks) (suc k) e =
      let r = pick-bit n p owners picks k (sym (bit_of_rest (eqb o n && eqb q p) (pick_mask t n p owners picks) k) ∙ e) in (omega (arith, r.0), r.1, r.2)

  pub owner-bit : (n : ℕ) (owners : List ℕ) (k : ℕ) → k < length owners → bit_at (owner_mask t n owners) k ≡ 0 → get_or owners k 0 ≡ n → ⊥
  owner-bit n [] k lt e same = omega arith
  owner-bit n (o ∷ owners) zero lt e same =
      let h = no_test (eqb o n) (sym (bit_of_sum (eqb o n) (owner_mask t n owners)) ∙ e) in
      false≢true (sym h ∙ eq-eqb o n same)
  owner-bit n (o ∷ owners) (suc k) lt e same =
      owner-bit n owners k (omega arith) (sym (bit_of_rest (eqb o n) (owner_mask t n owners) k) ∙ e) same

-- ---- the facts

-- the grammar and the choices are those of the table
pub record IsTableOf (t : Tables) (g : Grammar) (picked : ℕ → ℕ → ℕ) : Type 0 where
  pub rules : {p : ℕ} {r : Rule} → g p ≡ Some r → (p < t.productions) × (rule_of (t.head p) (t.body p) ≡ r)
  pub is_rule : (p : ℕ) → p < t.productions → g p ≡ Some (rule_of (t.head p) (t.body p))
  pub own : (n k : ℕ) → k ≤ t.end → get_or (t.owners n) k 0 ≡ n → picked n k ≡ get_or (t.picks n) k 0
  pub other : (n k : ℕ) → k ≤ t.end → (get_or (t.owners n) k 0 ≡ n → ⊥) → picked n k ≡ t.fallback n

module _ (t : Tables) (checked : IsChecked t) (g : Grammar) (picked : ℕ → ℕ → ℕ) (of : IsTableOf t g picked) where
  -- a production passes its tests
  pub at_rule : (test : ℕ → Bool) → all_below test t.productions ≡ true → {p : ℕ} {r : Rule} → g p ≡ Some r → test p ≡ true
  at_rule test all {p = p} e = all_below-at test t.productions all p (of.rules e).0

  pub head-is : {p n : ℕ} {body : List Symbol} → g p ≡ Some (rule_of n body) → t.head p ≡ n
  head-is e = ap (λ (r : Rule). r.head) (of.rules e).1

  pub body-is : {p n : ℕ} {body : List Symbol} → g p ≡ Some (rule_of n body) → t.body p ≡ body
  body-is e = ap (λ (r : Rule). r.body) (of.rules e).1

  -- the head of a production is a nonterminal of the table
  pub head-lt : {p n : ℕ} {body : List Symbol} → g p ≡ Some (rule_of n body) → n < t.nonterminals
  head-lt {p = p} e =
      let a = and_parts _ _ (at_rule (symbols_ok t) checked.symbols e) in
      subst (λ (x : ℕ). x < t.nonterminals) (head-is e) (ltb-true _ _ a.0)

  at_head : (test : ℕ → Bool) → all_below test t.nonterminals ≡ true → {p n : ℕ} {body : List Symbol} → g p ≡ Some (rule_of n body) → test n ≡ true
  at_head test all {n = n} e = all_below-at test t.nonterminals all n (head-lt e)

  starting_mask : {p n kind : ℕ} {body : List Symbol} → g p ≡ Some (rule_of n body) → Starts (sets_of t) body kind → bit_at (starts_mask t (t.body p)) kind ≡ 1
  starting_mask {p = p} {kind = kind} e s = subst (λ (b : List Symbol). bit_at (starts_mask t b) kind ≡ 1) (sym (body-is e)) (starts-mask t _ kind s)

  vanishing_body : {p n : ℕ} {body : List Symbol} → g p ≡ Some (rule_of n body) → Vanishes (sets_of t) body → (t.nullable n ≡ true) × (t.fallback n ≡ p)
  vanishing_body {p = p} {n = n} e v =
      let w : vanish t (t.body p) ≡ true = subst (λ (b : List Symbol). vanish t b ≡ true) (sym (body-is e)) (vanish-true t _ v) in
      let a = and_parts _ _ (implied _ _ (at_rule (vanish_ok t) checked.vanish e) w) in
      (subst (λ (x : ℕ). t.nullable x ≡ true) (head-is e) a.0, subst (λ (x : ℕ). t.fallback x ≡ p) (head-is e) (eqb-true _ _ a.1))

  -- what follows a nonterminal that may vanish is in no cell of its own
  free : {p n : ℕ} {body : List Symbol} → g p ≡ Some (rule_of n body) → Vanishes (sets_of t) body → (kind : ℕ) → kind ≤ t.end →
      bit_at (bit_or (t.follow n) (2 ^ t.end)) kind ≡ 1 → picked n kind ≡ p
  free {n = n} e v kind le b =
      let w = vanishing_body e v in
      let r = and_parts _ _ (at_head (row_ok t) checked.row e) in
      let long : length (t.owners n) ≡ suc t.end = eqb-true _ _ r.0 in
      let none : bit_and (owner_mask t n (t.owners n)) (bit_or (t.follow n) (2 ^ t.end)) ≡ 0 = eqb-true _ _ (implied _ _ r.1 w.0) in
      of.other n kind le (owner-bit t n (t.owners n) kind (omega arith) (disjoint-bit _ _ none kind b)) ∙ w.1

  by_first : {p n kind : ℕ} {body : List Symbol} → g p ≡ Some (rule_of n body) → Starts (sets_of t) body kind → picked n kind ≡ p
  by_first {p = p} {n = n} {kind = kind} e s =
      let a = and_parts _ _ (at_rule (first_ok t) checked.first e) in
      let b = subset-bit _ _ a.1 kind (starting_mask e s) in
      let c = pick-bit t n p (t.owners n) (t.picks n) kind (subst (λ (x : ℕ). bit_at (pick_mask t x p (t.owners x) (t.picks x)) kind ≡ 1) (head-is e) b) in
      of.own n kind (up_to (eqb-true _ _ (and_parts _ _ (at_head (row_ok t) checked.row e)).0) c.0) c.1 ∙ c.2
    where
      up_to : {k w m : ℕ} → w ≡ suc m → k < w → k ≤ m
      up_to h lt = omega arith

  by_follow : {p n kind : ℕ} {body : List Symbol} → g p ≡ Some (rule_of n body) → Vanishes (sets_of t) body → has_bit (t.follow n) kind ≡ true → picked n kind ≡ p
  by_follow {n = n} {kind = kind} e v f =
      let b = bit_from _ kind f in
      let small : t.follow n < 2 ^ t.end = ltb-true _ _ (at_head (follow_in_range t) checked.follow_in_range e) in
      let le : kind ≤ t.end = ⊎_elim (λ lt. lt_le lt) (λ le. absurd (not_bit (bit_at_above (t.follow n) t.end kind small le) b)) (cases_lt kind t.end) in
      free e v kind le (or-left _ _ kind b)
    where
      lt_le : {a b : ℕ} → a < b → a ≤ b
      lt_le h = omega arith

      not_bit : {a : ℕ} → a ≡ 0 → a ≡ 1 → ⊥
      not_bit x y = omega arith

  by_end : {p n : ℕ} {body : List Symbol} → g p ≡ Some (rule_of n body) → Vanishes (sets_of t) body → picked n t.end ≡ p
  by_end e v = free e v t.end (omega arith) (or-right _ _ t.end (bit_at-pow_same t.end))

  lighter : {p n : ℕ} {body : List Symbol} → g p ≡ Some (rule_of n body) → load_of (sets_of t) body < t.weight n
  lighter {p = p} {n = n} {body = body} e =
      let h : load_of (sets_of t) (t.body p) < t.weight (t.head p) = ltb-true _ _ (at_rule (load_ok t) checked.load e) in
      subst (λ (b : List Symbol). load_of (sets_of t) b < t.weight n) (body-is e)
      (subst (λ (x : ℕ). load_of (sets_of t) (t.body p) < t.weight x) (head-is e) h)

  -- ---- each nonterminal derives something

  productive_body : (r : ℕ) → ((n : ℕ) → n < t.nonterminals → t.rank n < r → (at : ℕ) → IsProductive g (Nonterminal n ∷ []) at) →
      (symbols : List Symbol) → ranks_below t r symbols ≡ true → AreProductive g symbols
  productive_body r h [] e = no_symbols
  productive_body r h (Terminal k ∷ symbols) e = terminal_made (productive_body r h symbols e)
  productive_body r h (Nonterminal n ∷ symbols) e =
      let a = and_parts _ _ e in let b = and_parts _ _ a.1 in
      nonterminal_made (h n (ltb-true _ _ a.0) (ltb-true _ _ b.0)) (productive_body r h symbols b.1)

  productive_at : (r n : ℕ) → n < t.nonterminals → t.rank n < r → (at : ℕ) → IsProductive g (Nonterminal n ∷ []) at
  productive_at zero n lt low at = absurd (omega arith)
  productive_at (suc r) n lt low at =
      let a = and_parts _ _ (all_below-at (witness_ok t) t.nonterminals checked.witness n lt) in let b = and_parts _ _ a.1 in
      let p = t.witness n in
      let e : g p ≡ Some (rule_of n (t.body p)) = of.is_rule p (ltb-true _ _ a.0) ∙ ap (λ (x : ℕ). Some (rule_of x (t.body p))) (eqb-true _ _ b.0) in
      let s = productive_body (t.rank n) (λ m mlt mlow. productive_at r m mlt (omega arith)) (t.body p) b.1 in
      let d = productive g (t.body p) s at in
      record {
        kinds = d.kinds;
        nodes = Branch p 0 ∷ d.nodes;
        derives = apply e (subst (λ (x : List Symbol). Leftmost g at x d.kinds d.nodes) (sym (append-nil (t.body p))) d.derives) refl;
      }

  pub productive_nonterminal : (n : ℕ) → n < t.nonterminals → (at : ℕ) → IsProductive g (Nonterminal n ∷ []) at
  productive_nonterminal n lt at = productive_at (suc (t.rank n)) n lt (omega arith) at

  productive_rule : {p n : ℕ} {body : List Symbol} → g p ≡ Some (rule_of n body) → AreProductive g body
  productive_rule {p = p} {body = body} e =
      let a = and_parts _ _ (at_rule (symbols_ok t) checked.symbols e) in
      subst (λ (b : List Symbol). AreProductive g b) (body-is e) (productive_body 64 (λ m mlt mlow. productive_nonterminal m mlt) (t.body p) a.1)

  pub decided : IsDecided g (sets_of t) picked t.end
  decided = record {
    vanishes = λ e v. (vanishing_body e v).0;
    starts = λ {p} {n} {kind} e s.
        let a = and_parts _ _ (at_rule (first_ok t) checked.first e) in
        bit_to _ kind (subst (λ (x : ℕ). bit_at (t.first x) kind ≡ 1) (head-is e) (subset-bit _ _ a.0 kind (starting_mask e s)));
    followed = λ {p} {n} {body} e.
        let h = followed-in t (t.head p) (t.body p) (at_rule (followed_ok t) checked.followed e) in
        subst (λ (b : List Symbol). AreFollowedIn (sets_of t) n b) (body-is e)
        (subst (λ (x : ℕ). AreFollowedIn (sets_of t) x (t.body p)) (head-is e) h);
    by_first = by_first;
    by_follow = by_follow;
    by_end = by_end;
    lighter = lighter;
    productive = productive_rule;
  }
