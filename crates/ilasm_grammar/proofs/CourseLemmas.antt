-- The steps of a predictive parser keep its course, and its ends tell what the kinds are.
use Rattle.std.proofs.Common.{◌≡◌, ℕ, zero, suc, ◌+◌, ◌<◌, ◌≤◌, List, [], ◌∷◌, ◌++◌, length, take, drop, map, get_or, Some, inl, inr, refl, sym, ap, ◌∙◌, subst, append_assoc, append-nil, arith}
use Rattle.std.proofs.Math.Seq.{take-length}
use Rattle.std.proofs.lemmas.Bool.{cases_order}
use Rattle.std.proofs.lemmas.List.{take-append-drop}
use Rattle.ilasm_grammar.specs.declared.symbol.Symbol.{Symbol}
use Rattle.ilasm_grammar.specs.declared.symbol.Symbol.TheVariants.{Terminal, Nonterminal}
use Rattle.ilasm_grammar.specs.declared.tree.TreeNode.{TreeNode}
use Rattle.ilasm_grammar.specs.declared.tree.TreeNode.TheVariants.{Branch, Leaf}
use Rattle.ilasm_grammar.specs.Grammar.{Rule, Grammar, Derives, IsSentence, IsViable, IsFaultAt, IsFaultAt.token, IsFaultAt.end as at_end}
use Rattle.ilasm_grammar.specs.Leftmost.{Leftmost, Leftmost.done, Leftmost.shift, Leftmost.apply, erased}
use Rattle.ilasm_grammar.specs.Choice.{next_of, Sets, AreFollowed, AreFollowed.none as no_more, AreFollowed.terminal, AreFollowed.nonterminal, IsProductive, AreProductive, AreProductive.none as no_symbols, AreProductive.terminal as terminal_made, AreProductive.nonterminal as nonterminal_made, IsDecided}
use Rattle.ilasm_grammar.specs.Course.{IsCourse}
use Rattle.ilasm_grammar.specs.Counts.{counted}
use Rattle.ilasm_grammar.proofs.ChoiceLemmas.{picks, followed_body}
use Rattle.ilasm_grammar.proofs.CountsLemmas.{counted-erased}
use Rattle.ilasm_grammar.proofs.LeftmostLemmas.{joined, to_leftmost, grown}

-- the first of the rest of a list
pub next-drop : (end : ℕ) (kinds : List ℕ) (at : ℕ) → at < length kinds → (kind : ℕ) → next_of end (drop at kinds) ≡ kind → drop at kinds ≡ kind ∷ drop (suc at) kinds
next-drop end [] at lt kind e = absurd (omega arith)
next-drop end (k ∷ kinds) zero lt kind e = ap (λ x. x ∷ kinds) e
next-drop end (k ∷ kinds) (suc at) lt kind e = next-drop end kinds at (omega arith) kind e

pub next-drop_past : (end : ℕ) (kinds : List ℕ) → next_of end (drop (length kinds) kinds) ≡ end
next-drop_past end [] = refl
next-drop_past end (k ∷ kinds) = next-drop_past end kinds

-- the kind of the item at a place
pub next-map : {A : Type 0} (end : ℕ) (f : A → ℕ) (xs : List A) (at : ℕ) (d : A) → at < length xs → next_of end (drop at (map f xs)) ≡ f (get_or xs at d)
next-map end f [] at d lt = absurd (omega arith)
next-map end f (y ∷ xs) zero d lt = refl
next-map end f (y ∷ xs) (suc at) d lt = next-map end f xs at d (omega arith)

-- one kind more
pub take-next : (kinds : List ℕ) (at kind : ℕ) (tail rest : List ℕ) → drop at kinds ≡ kind ∷ tail → take (suc at) kinds ++ rest ≡ take at kinds ++ (kind ∷ rest)
take-next [] zero kind tail rest e = cc
take-next [] (suc at) kind tail rest e = cc
take-next (k ∷ kinds) zero kind tail rest e = let h : k ≡ kind = cc in ap (λ x. x ∷ rest) h
take-next (k ∷ kinds) (suc at) kind tail rest e = ap (λ x. k ∷ x) (take-next kinds at kind tail rest e)

-- a leftmost derivation from a nonterminal, by its first step
pub record Applied (g : Grammar) (at n : ℕ) (symbols : List Symbol) (kinds : List ℕ) (nodes : List TreeNode) : Type 0 where
  pub p : ℕ
  pub body : List Symbol
  pub more : List TreeNode
  pub is : g p ≡ Some (record { head = n; body = body })
  pub derives : Leftmost g at (body ++ symbols) kinds more
  pub nodes-is : nodes ≡ Branch p 0 ∷ more

pub applied : (g : Grammar) {at n : ℕ} {symbols : List Symbol} {kinds : List ℕ} {nodes : List TreeNode} →
    Leftmost g at (Nonterminal n ∷ symbols) kinds nodes → Applied g at n symbols kinds nodes
applied g (apply {production = p} {count = c} {body = body} {nodes = more} e r z) =
    record { p = p; body = body; more = more; is = e; derives = r; nodes-is = ap (λ x. Branch p x ∷ more) z }

-- a leftmost derivation from a terminal
pub record Shifted (g : Grammar) (at k : ℕ) (symbols : List Symbol) (kinds : List ℕ) (nodes : List TreeNode) : Type 0 where
  pub rest : List ℕ
  pub more : List TreeNode
  pub derives : Leftmost g (suc at) symbols rest more
  pub kinds-is : kinds ≡ k ∷ rest
  pub nodes-is : nodes ≡ Leaf at ∷ more

pub shifted : (g : Grammar) {at k : ℕ} {symbols : List Symbol} {kinds : List ℕ} {nodes : List TreeNode} →
    Leftmost g at (Terminal k ∷ symbols) kinds nodes → Shifted g at k symbols kinds nodes
shifted g (shift {kinds = rest} {nodes = more} r) = record { rest = rest; more = more; derives = r; kinds-is = refl; nodes-is = refl }

-- a derivation from no symbols
pub emptied : (g : Grammar) {at : ℕ} {kinds : List ℕ} {nodes : List TreeNode} → Leftmost g at [] kinds nodes → (kinds ≡ []) × (nodes ≡ [])
emptied g done = (refl, refl)

same_rule : (g : Grammar) {p q : ℕ} {r s : Rule} → g p ≡ Some r → g q ≡ Some s → p ≡ q → r ≡ s
same_rule g e f h = cc

-- symbols that each derive something derive something together
pub productive : (g : Grammar) (symbols : List Symbol) → AreProductive g symbols → (at : ℕ) → IsProductive g symbols at
productive g [] no_symbols at = record { kinds = []; nodes = []; derives = done }
productive g (Terminal k ∷ symbols) (terminal_made t) at =
    let r = productive g symbols t (suc at) in record { kinds = k ∷ r.kinds; nodes = Leaf at ∷ r.nodes; derives = shift r.derives }
productive g (Nonterminal n ∷ symbols) (nonterminal_made h t) at =
    let a = h at in let r = productive g symbols t (at + length a.kinds) in
    record { kinds = a.kinds ++ r.kinds; nodes = a.nodes ++ r.nodes; derives = joined g a.derives r.derives }

productive-++ : (g : Grammar) (symbols more : List Symbol) → AreProductive g symbols → AreProductive g more → AreProductive g (symbols ++ more)
productive-++ g [] more no_symbols b = b
productive-++ g (Terminal k ∷ symbols) more (terminal_made t) b = terminal_made (productive-++ g symbols more t b)
productive-++ g (Nonterminal n ∷ symbols) more (nonterminal_made h t) b = nonterminal_made h (productive-++ g symbols more t b)

productive_rest : {g : Grammar} {x : Symbol} {symbols : List Symbol} → AreProductive g (x ∷ symbols) → AreProductive g symbols
productive_rest (terminal_made t) = t
productive_rest (nonterminal_made h t) = t

kinds_rest : {k : ℕ} {xs ys : List ℕ} → k ∷ xs ≡ k ∷ ys → xs ≡ ys
kinds_rest e = cc

followed_rest : {sets : Sets} {x : Symbol} {symbols : List Symbol} → AreFollowed sets (x ∷ symbols) → AreFollowed sets symbols
followed_rest (terminal f) = f
followed_rest (nonterminal f r) = r

module _ (g : Grammar) (sets : Sets) (picked : ℕ → ℕ → ℕ) (end start : ℕ) (d : IsDecided g sets picked end) (kinds : List ℕ) where
  -- at the start
  pub begins : AreProductive g (Nonterminal start ∷ []) → IsCourse g sets end start kinds 0 (Nonterminal start ∷ []) []
  begins h = record {
    completes = λ rest more r. r;
    only = λ rest all e r. record { more = all; all-is = refl; derives = r };
    followed = nonterminal (λ kind s. elim s [ ]) no_more;
    productive = h;
  }

  -- the production that is picked is applied
  pub applies : (at n p : ℕ) (body symbols : List Symbol) (nodes : List TreeNode) → g p ≡ Some (record { head = n; body = body }) →
      picked n (next_of end (drop at kinds)) ≡ p → IsCourse g sets end start kinds at (Nonterminal n ∷ symbols) nodes →
      IsCourse g sets end start kinds at (body ++ symbols) (nodes ++ Branch p 0 ∷ [])
  applies at n p body symbols nodes e is c = record {
    completes = λ rest more r. subst (λ (x : List TreeNode). Leftmost g 0 (Nonterminal start ∷ []) (take at kinds ++ rest) x)
        (sym (append_assoc nodes (Branch p 0 ∷ []) more)) (c.completes rest (Branch p 0 ∷ more) (apply e r refl));
    only = λ rest all same r.
        let t = c.only rest all same r in
        let a = applied g t.derives in
        let q = picks g sets picked end d rest c.followed a.is a.derives in
        let pq : p ≡ a.p = sym is ∙ ap (λ x. picked n x) (sym same) ∙ q in
        let b : a.body ≡ body = ap (λ (x : Rule). x.body) (same_rule g a.is e (sym pq)) in
        record {
          more = a.more;
          all-is = t.all-is ∙ ap (λ x. nodes ++ x) (a.nodes-is ∙ ap (λ x. Branch x 0 ∷ a.more) (sym pq)) ∙ sym (append_assoc nodes (Branch p 0 ∷ []) a.more);
          derives = subst (λ (x : List Symbol). Leftmost g at (x ++ symbols) rest a.more) b a.derives;
        };
    followed = followed_body g sets picked end d e c.followed;
    productive = productive-++ g body symbols (d.productive e) (productive_rest c.productive);
  }

  -- the kind is taken
  pub shifts : (at kind : ℕ) (symbols : List Symbol) (nodes : List TreeNode) → drop at kinds ≡ kind ∷ drop (suc at) kinds →
      IsCourse g sets end start kinds at (Terminal kind ∷ symbols) nodes → IsCourse g sets end start kinds (suc at) symbols (nodes ++ Leaf at ∷ [])
  shifts at kind symbols nodes next c = record {
    completes = λ rest more r.
        let t = c.completes (kind ∷ rest) (Leaf at ∷ more) (shift r) in
        let t1 = subst (λ (x : List ℕ). Leftmost g 0 (Nonterminal start ∷ []) x (nodes ++ (Leaf at ∷ more))) (sym (take-next kinds at kind _ rest next)) t in
        subst (λ (x : List TreeNode). Leftmost g 0 (Nonterminal start ∷ []) (take (suc at) kinds ++ rest) x) (sym (append_assoc nodes (Leaf at ∷ []) more)) t1;
    only = λ rest all same r.
        let r1 = subst (λ (x : List ℕ). Leftmost g 0 (Nonterminal start ∷ []) x all) (take-next kinds at kind _ rest next) r in
        let t = c.only (kind ∷ rest) all (sym (ap (next_of end) next)) r1 in
        let s = shifted g t.derives in
        record {
          more = s.more;
          all-is = t.all-is ∙ ap (λ x. nodes ++ x) s.nodes-is ∙ sym (append_assoc nodes (Leaf at ∷ []) s.more);
          derives = subst (λ (x : List ℕ). Leftmost g (suc at) symbols x s.more) (sym (kinds_rest s.kinds-is)) s.derives;
        };
    followed = followed_rest c.followed;
    productive = productive_rest c.productive;
  }

  -- what was taken is a prefix of a sentence
  pub viable : (at : ℕ) (symbols : List Symbol) (nodes : List TreeNode) → IsCourse g sets end start kinds at symbols nodes → IsViable g start (take at kinds)
  viable at symbols nodes c =
      let p = productive g symbols c.productive at in
      let t = grown g (c.completes p.kinds p.nodes p.derives) in (p.kinds, (t.nodes, t.derives))

  -- where nothing that goes on as here is derived from the symbols, the fault is here
  pub faults : (at : ℕ) (symbols : List Symbol) (nodes : List TreeNode) → at < length kinds → IsCourse g sets end start kinds at symbols nodes →
      ((rest : List ℕ) (more : List TreeNode) → next_of end rest ≡ next_of end (drop at kinds) → Leftmost g at symbols rest more → ⊥) →
      IsFaultAt g start kinds at
  faults at symbols nodes lt c stuck = token lt (viable at symbols nodes c) (λ v.
      let next = next-drop end kinds at lt (next_of end (drop at kinds)) refl in
      let r = to_leftmost g v.1.1 in
      let r1 = subst (λ (x : List ℕ). Leftmost g 0 (Nonterminal start ∷ []) x (erased v.1.0)) (take-next kinds at _ _ v.0 next) r in
      let t = c.only (_ ∷ v.0) (erased v.1.0) refl r1 in
      stuck (_ ∷ v.0) t.more refl t.derives)

  pub faults_at_end : (symbols : List Symbol) (nodes : List TreeNode) → IsCourse g sets end start kinds (length kinds) symbols nodes →
      ((more : List TreeNode) → Leftmost g (length kinds) symbols [] more → ⊥) → IsFaultAt g start kinds (length kinds)
  faults_at_end symbols nodes c stuck = at_end refl
      (subst (λ (x : List ℕ). IsViable g start x) (take-length kinds) (viable (length kinds) symbols nodes c)) (λ v.
      let r = to_leftmost g v.1 in
      let r1 = subst (λ (x : List ℕ). Leftmost g 0 (Nonterminal start ∷ []) x (erased v.0)) (sym (append-nil _ ∙ take-length kinds)) r in
      let t = c.only [] (erased v.0) (sym (next-drop_past end kinds)) r1 in
      stuck t.more t.derives)

  -- where nothing is left to derive, the kinds are a sentence
  pub ends : (nodes : List TreeNode) → IsCourse g sets end start kinds (length kinds) [] nodes → Leftmost g 0 (Nonterminal start ∷ []) kinds nodes
  ends nodes c =
      let r = c.completes [] [] done in
      subst (λ (x : List TreeNode). Leftmost g 0 (Nonterminal start ∷ []) kinds x) (append-nil nodes)
      (subst (λ (x : List ℕ). Leftmost g 0 (Nonterminal start ∷ []) x (nodes ++ [])) (append-nil _ ∙ take-length kinds) r)

  -- nothing that goes on with this kind is derived from symbols that it doesn't fit
  pub stuck : (at look : ℕ) (symbols : List Symbol) → AreFollowed sets symbols → (symbols ≡ [] → look ≡ end → ⊥) →
      ((rest : List Symbol) → symbols ≡ Terminal look ∷ rest → ⊥) →
      ((n : ℕ) (rest : List Symbol) → symbols ≡ Nonterminal n ∷ rest → (body : List Symbol) → g (picked n look) ≡ Some (record { head = n; body = body }) → ⊥) →
      (rest : List ℕ) (more : List TreeNode) → next_of end rest ≡ look → Leftmost g at symbols rest more → ⊥
  stuck at look [] f none t n rest more next r = none refl (sym next ∙ ap (next_of end) (emptied g r).0)
  stuck at look (Terminal k ∷ symbols) f none t n rest more next r =
      let s = shifted g r in let h : k ≡ look = sym (ap (next_of end) s.kinds-is) ∙ next in
      t symbols (ap (λ x. Terminal x ∷ symbols) h)
  stuck at look (Nonterminal m ∷ symbols) f none t n rest more next r =
      let a = applied g r in
      let q = picks g sets picked end d rest f a.is a.derives in
      let p : picked m look ≡ a.p = ap (picked m) (sym next) ∙ q in
      n m symbols refl a.body (ap g p ∙ a.is)

  -- at the end nothing is derived from symbols of which the first doesn't vanish
  pub stuck_at_end : (at : ℕ) (symbols : List Symbol) → AreFollowed sets symbols → (symbols ≡ [] → ⊥) →
      ((n : ℕ) (rest : List Symbol) → symbols ≡ Nonterminal n ∷ rest → (body : List Symbol) → g (picked n end) ≡ Some (record { head = n; body = body }) → ⊥) →
      (more : List TreeNode) → Leftmost g at symbols [] more → ⊥
  stuck_at_end at [] f none n more r = none refl
  stuck_at_end at (Terminal k ∷ symbols) f none n more r = let s = shifted g r in let h = s.kinds-is in cc
  stuck_at_end at (Nonterminal m ∷ symbols) f none n more r =
      let a = applied g r in
      let q = picks g sets picked end d [] f a.is a.derives in
      n m symbols refl a.body (ap g q ∙ a.is)

-- ---- one derivation

module _ (g : Grammar) (sets : Sets) (picked : ℕ → ℕ → ℕ) (end : ℕ) (d : IsDecided g sets picked end) where
  -- symbols derive kinds in one way at most
  pub unique : {at : ℕ} {symbols : List Symbol} {kinds : List ℕ} {nodes other : List TreeNode} → Leftmost g at symbols kinds nodes →
      AreFollowed sets symbols → Leftmost g at symbols kinds other → nodes ≡ other
  unique done f s = sym (emptied g s).1
  unique (shift {at = at} {symbols = symbols} {kinds = kinds} {nodes = nodes} r) f s =
      let t = shifted g s in
      let u = subst (λ (x : List ℕ). Leftmost g (suc at) symbols x t.more) (sym (kinds_rest t.kinds-is)) t.derives in
      ap (λ x. Leaf at ∷ x) (unique r (followed_rest f) u) ∙ sym t.nodes-is
  unique (apply {at = at} {head = n} {production = p} {count = c} {body = body} {symbols = symbols} {kinds = kinds} {nodes = nodes} e r z) f s =
      let a = applied g s in
      let pq : p ≡ a.p = sym (picks g sets picked end d kinds f e r) ∙ picks g sets picked end d kinds f a.is a.derives in
      let b : a.body ≡ body = ap (λ (x : Rule). x.body) (same_rule g a.is e (sym pq)) in
      let u = subst (λ (x : List Symbol). Leftmost g at (x ++ symbols) kinds a.more) b a.derives in
      let h = unique r (followed_body g sets picked end d e f) u in
      ap (λ x. Branch p x ∷ nodes) z ∙ ap (λ x. Branch p 0 ∷ x) h ∙ ap (λ x. Branch x 0 ∷ a.more) pq ∙ sym a.nodes-is

  pub one_tree : {at : ℕ} {symbols : List Symbol} {kinds : List ℕ} {a b : List TreeNode} → AreFollowed sets symbols →
      Derives g at symbols kinds a → Derives g at symbols kinds b → a ≡ b
  one_tree f da db =
      sym (counted-erased g da) ∙ ap (counted g) (unique (to_leftmost g da) f (to_leftmost g db)) ∙ counted-erased g db

-- ---- one fault

take_take : (n m : ℕ) (xs : List ℕ) → n ≤ m → take n (take m xs) ≡ take n xs
take_take zero m xs le = refl
take_take (suc n) zero xs le = absurd (omega arith)
take_take (suc n) (suc m) [] le = refl
take_take (suc n) (suc m) (x ∷ xs) le = ap (λ y. x ∷ y) (take_take n m xs (omega arith))

module _ (g : Grammar) (start : ℕ) (kinds : List ℕ) where
  viable_front : (n m : ℕ) → n ≤ m → IsViable g start (take m kinds) → IsViable g start (take n kinds)
  viable_front n m le v =
      let whole : take n kinds ++ drop n (take m kinds) ≡ take m kinds =
      ap (λ x. x ++ drop n (take m kinds)) (sym (take_take n m kinds le)) ∙ take-append-drop n (take m kinds) in
      let e : take n kinds ++ (drop n (take m kinds) ++ v.0) ≡ take m kinds ++ v.0 =
      sym (append_assoc (take n kinds) (drop n (take m kinds)) v.0) ∙ ap (λ x. x ++ v.0) whole in
      (drop n (take m kinds) ++ v.0, subst (λ (x : List ℕ). IsSentence g start x) (sym e) v.1)

  pub no_sentence : (k : ℕ) → IsFaultAt g start kinds k → IsSentence g start kinds → ⊥
  no_sentence k (token lt v none) s =
      none (drop (suc k) kinds, subst (λ (x : List ℕ). IsSentence g start x) (sym (take-append-drop (suc k) kinds)) s)
  no_sentence k (at_end e v none) s = none s

  not_before : (j k : ℕ) → (IsViable g start (take (suc j) kinds) → ⊥) → IsViable g start (take k kinds) → j < k → ⊥
  not_before j k none v lt = none (viable_front (suc j) k lt v)

  not_at_end : (j : ℕ) → j < length kinds → (IsViable g start (take (suc j) kinds) → ⊥) → IsViable g start kinds → ⊥
  not_at_end j lt none v =
      not_before j (length kinds) none (subst (λ (x : List ℕ). IsViable g start x) (sym (take-length kinds)) v) lt

  pub one_fault : (j k : ℕ) → IsFaultAt g start kinds j → IsFaultAt g start kinds k → j ≡ k
  one_fault j k (token lt v none) (token lt' v' none') =
      same (not_before j k none v') (not_before k j none' v)
    where
      same : (j < k → ⊥) → (k < j → ⊥) → j ≡ k
      same a b = elim (cases_order j k) [ inl e ↦ e | inr o ↦ elim o [ inl lt ↦ absurd (a lt) | inr lt ↦ absurd (b lt) ] ]
  one_fault j k (token lt v none) (at_end e v' none') = absurd (not_at_end j lt none v')
  one_fault j k (at_end e v none) (token lt' v' none') = absurd (not_at_end k lt' none' v)
  one_fault j k (at_end e v none) (at_end e' v' none') = e ∙ sym e'
