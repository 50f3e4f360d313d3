-- The grammar's facts in the terms of derivations.
use Rattle.std.proofs.Common.{◌≡◌, ℕ, zero, suc, ◌+◌, ◌<◌, List, [], ◌∷◌, ◌++◌, length, take, drop, Bool, true, false, ◌&&◌, Some, eqb, refl, sym, ap, ◌∙◌, subst, arith, length-append}
use Rattle.std.specs.Prelude.{nat_lt}
use Rattle.std.proofs.Math.Seq.{take-append_seam, drop-append_seam}
use Rattle.std.proofs.lemmas.Bool.{and_parts, eqb-true, ltb-true, false≢true}
use Rattle.ilasm_grammar.specs.declared.symbol.Symbol.{Symbol}
use Rattle.ilasm_grammar.specs.declared.symbol.Symbol.TheVariants.{Terminal, Nonterminal}
use Rattle.ilasm_grammar.specs.declared.tree.TreeNode.{TreeNode}
use Rattle.ilasm_grammar.specs.declared.tree.TreeNode.TheVariants.{Branch}
use Rattle.ilasm_grammar.specs.Grammar.{rule_of, Grammar, Derives, Derives.branch}
use Rattle.ilasm_grammar.specs.Choice.{Sets, Vanishes, Starts, AreFollowedIn, AreFollowedIn.terminal as terminal_in, AreFollowedIn.nonterminal as nonterminal_in, IsDecided}
use Rattle.ilasm_grammar.specs.Laws.{Spells, Begins, StandsIn, MayFollow, MayFollow.beside, MayFollow.above, IsDecidedByOne, IsReached, IsReached.here, IsReached.through, IsOpened}
use Rattle.ilasm_grammar.proofs.ChoiceLemmas.{starting, vanishing}
use Rattle.ilasm_grammar.proofs.LeftmostLemmas.{to_leftmost}
use Rattle.ilasm_grammar.proofs.Tables.{Tables, IsChecked, has_nonterminal, parent_ok}
use Rattle.ilasm_grammar.proofs.TableFacts.{IsTableOf, all_below-at}

-- a branch's nodes
pub opened : (g : Grammar) {at n p count : ℕ} {symbols : List Symbol} {kinds : List ℕ} {nodes : List TreeNode} →
    Derives g at (Nonterminal n ∷ symbols) kinds (Branch p count ∷ nodes) → IsOpened g at n p count symbols kinds nodes
opened g (branch {at = at} {count = count} {body = body} {symbols = symbols} {front = front} {back = back} {below = below} {after = after} {nodes = nodes} e d s c k m) =
    let t : take count nodes ≡ below = ap (λ (x : ℕ). take x nodes) c ∙ ap (λ (x : List TreeNode). take (length below) x) m ∙ take-append_seam below after in
    let r : drop count nodes ≡ after = ap (λ (x : ℕ). drop x nodes) c ∙ ap (λ (x : List TreeNode). drop (length below) x) m ∙ drop-append_seam below after in
    record {
      body = body;
      front = front;
      back = back;
      rule = e;
      kinds-is = k;
      within = omega (arith, ap length m, length-append below after);
      below = subst (λ (x : List TreeNode). Derives g at body front x) (sym t) d;
      after = subst (λ (x : List TreeNode). Derives g (at + length front) symbols back x) (sym r) s;
    }

-- what a body says of a nonterminal in it
pub record FollowsIn (sets : Sets) (head n : ℕ) (behind : List Symbol) : Type 0 where
  pub inner : (kind : ℕ) → Starts sets behind kind → sets.follow n kind ≡ true
  pub above : Vanishes sets behind → (kind : ℕ) → sets.follow head kind ≡ true → sets.follow n kind ≡ true

in_body : {sets : Sets} {head n : ℕ} (front behind : List Symbol) → AreFollowedIn sets head (front ++ (Nonterminal n ∷ behind)) → FollowsIn sets head n behind
in_body [] behind (nonterminal_in i a f) = record { inner = i; above = a }
in_body (Terminal k ∷ front) behind (terminal_in f) = in_body front behind f
in_body (Nonterminal m ∷ front) behind (nonterminal_in i a f) = in_body front behind f

module _ (g : Grammar) (sets : Sets) (picked : ℕ → ℕ → ℕ) (end : ℕ) (d : IsDecided g sets picked end) where
  starts_of : (symbols : List Symbol) (kind : ℕ) → Begins g symbols kind → Starts sets symbols kind
  starts_of symbols kind b = starting g sets picked end d (to_leftmost g b.1.1) kind b.0 refl

  vanishes_of : (symbols : List Symbol) → Spells g symbols [] → Vanishes sets symbols
  vanishes_of symbols s = vanishing g sets picked end d (to_leftmost g s.1) refl

  stands : {p n head : ℕ} {body behind : List Symbol} → g p ≡ Some (rule_of head body) → StandsIn body n behind → FollowsIn sets head n behind
  stands {n = n} {head = head} {behind = behind} e s =
      in_body s.front behind (subst (λ (x : List Symbol). AreFollowedIn sets head x) s.is (d.followed e))

  follow_of : {n kind : ℕ} → MayFollow g n kind → sets.follow n kind ≡ true
  follow_of (beside {kind = kind} {behind = behind} e s b) = (stands e s).inner kind (starts_of behind kind b)
  follow_of (above {kind = kind} {behind = behind} e s v m) = (stands e s).above (vanishes_of behind v) kind (follow_of m)

  pub decided_by_one : IsDecidedByOne g
  decided_by_one = record {
    begins = λ {p} {q} {n} {kind} {body} {other} e f b c. sym (d.by_first e (starts_of body kind b)) ∙ d.by_first f (starts_of other kind c);
    vanishes = λ {p} {q} {n} {body} {other} e f b c. sym (d.by_end e (vanishes_of body b)) ∙ d.by_end f (vanishes_of other c);
    follows = λ {p} {q} {n} {kind} {body} {other} e f b c m.
        sym (d.by_follow e (vanishes_of body b) (follow_of m)) ∙ d.by_first f (starts_of other kind c);
  }

-- ---- each nonterminal is reached

pub record Stands (body : List Symbol) (n : ℕ) : Type 0 where
  pub behind : List Symbol
  pub in_it : StandsIn body n behind

module _ (t : Tables) where
  stands_in : (n : ℕ) (body : List Symbol) → has_nonterminal t n body ≡ true → Stands body n
  stands_in n [] e = absurd (false≢true e)
  stands_in n (Terminal k ∷ body) e =
      let r = stands_in n body e in
      record { behind = r.behind; in_it = record { front = Terminal k ∷ r.in_it.front; is = ap (λ x. Terminal k ∷ x) r.in_it.is } }
  stands_in n (Nonterminal m ∷ body) e = go (eqb m n) refl (λ h. stands_in n body h) e
    where
      later : Stands body n → Stands (Nonterminal m ∷ body) n
      later r = record { behind = r.behind; in_it = record { front = Nonterminal m ∷ r.in_it.front; is = ap (λ x. Nonterminal m ∷ x) r.in_it.is } }

      go : (b : Bool) → eqb m n ≡ b → (has_nonterminal t n body ≡ true → Stands body n) → elim b [ true ↦ true | false ↦ has_nonterminal t n body ] ≡ true → Stands (Nonterminal m ∷ body) n
      go true h rest e = record { behind = body; in_it = record { front = []; is = ap (λ (x : ℕ). Nonterminal x ∷ body) (eqb-true m n h) } }
      go false h rest e = later (rest e)

  module _ (checked : IsChecked t) (g : Grammar) (picked : ℕ → ℕ → ℕ) (of : IsTableOf t g picked) where
    parent_of : (n : ℕ) → (n ≡ 0 → ⊥) → n < t.nonterminals → (t.parent n < t.productions) × (t.head (t.parent n) < n) × (has_nonterminal t n (t.body (t.parent n)) ≡ true)
    parent_of n pos lt = go (eqb n 0) refl (all_below-at (parent_ok t) t.nonterminals checked.parent n lt)
      where
        go : (b : Bool) → eqb n 0 ≡ b →
            elim b [ true ↦ true | false ↦ nat_lt (t.parent n) t.productions && (nat_lt (t.head (t.parent n)) n && has_nonterminal t n (t.body (t.parent n))) ] ≡ true →
            (t.parent n < t.productions) × (t.head (t.parent n) < n) × (has_nonterminal t n (t.body (t.parent n)) ≡ true)
        go true h e = absurd (pos (eqb-true n 0 h))
        go false h e =
            let a = and_parts _ _ e in let b = and_parts _ _ a.1 in (ltb-true _ _ a.0, ltb-true _ _ b.0, b.1)

    reached_below : (m n : ℕ) → n < m → n < t.nonterminals → IsReached g 0 n
    reached_below zero n low lt = absurd (omega arith)
    reached_below (suc m) zero low lt = here
    reached_below (suc m) (suc n) low lt =
        let a = parent_of (suc n) (λ e. omega arith) lt in
        let s = stands_in (suc n) (t.body (t.parent (suc n))) a.2 in
        through (reached_below m (t.head (t.parent (suc n))) (omega (arith, a.1)) (omega (arith, a.1))) (of.is_rule (t.parent (suc n)) a.0) s.in_it

    pub reached : (n : ℕ) → n < t.nonterminals → IsReached g 0 n
    reached n lt = reached_below (suc n) n (omega arith) lt
