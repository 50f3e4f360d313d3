-- Chains without items, with one more, and a step of a search.
use Rattle.std.proofs.Common.{◌≡◌, ℕ, suc, zero, ◌+◌, ◌<◌, ◌≤◌, ◌⊎◌, inl, inr, List, [], ◌∷◌, ◌++◌, Option, Some, None, length, cond, take, sym, ◌∙◌, ap, refl, arith}
use Rattle.std.specs.Prelude.{slice_get, slice_set, nat_eq}
use Rattle.std.proofs.lemmas.Option.{slice_get_within, same_Some}
use Rattle.std.proofs.lemmas.List.{length-append, take_at}
use Rattle.std.proofs.lemmas.Bool.{cases_eq, eq-eqb, eqb-true, cases_Bool}
use Rattle.source_nodes.specs.Chains.{IsChained, HasHash}

pub snoc_cases : {X : Type 0} (xs : List X) (x y : X) (k : ℕ) → slice_get (xs ++ x ∷ []) k ≡ Some y
    → (slice_get xs k ≡ Some y) ⊎ ((k ≡ length xs) × (y ≡ x))
snoc_cases [] x y zero h = inr (refl, cc)
snoc_cases [] x y (suc k) h = absurd cc
snoc_cases (z ∷ xs) x y zero h = inl h
snoc_cases (z ∷ xs) x y (suc k) h = elim (snoc_cases xs x y k h) [ inl e ↦ inl e | inr e ↦ inr (ap suc e.0, e.1) ]

pub snoc_old : {X : Type 0} (xs : List X) (x y : X) (k : ℕ) → slice_get xs k ≡ Some y → slice_get (xs ++ x ∷ []) k ≡ Some y
snoc_old [] x y k h = absurd cc
snoc_old (z ∷ xs) x y zero h = h
snoc_old (z ∷ xs) x y (suc k) h = snoc_old xs x y k h

pub snoc_new : {X : Type 0} (xs : List X) (x : X) (n : ℕ) → n ≡ length xs → slice_get (xs ++ x ∷ []) n ≡ Some x
snoc_new [] x zero e = refl
snoc_new [] x (suc n) e = absurd (omega arith)
snoc_new (z ∷ xs) x zero e = absurd (omega arith)
snoc_new (z ∷ xs) x (suc n) e = snoc_new xs x n (omega arith)

-- the last item is replaced
pub set_last : {X : Type 0} (xs : List X) (x y : X) (n : ℕ) → n ≡ length xs → slice_set (xs ++ x ∷ []) n y ≡ xs ++ y ∷ []
set_last [] x y zero e = refl
set_last [] x y (suc n) e = absurd (omega arith)
set_last (z ∷ xs) x y zero e = absurd (omega arith)
set_last (z ∷ xs) x y (suc n) e = ap (λ l. z ∷ l) (set_last xs x y n (omega arith))

module _ {X : Type 0} (hash : X → ℕ) where
  pub IsChained-none : (newest : ℕ → Option ℕ) → ((h : ℕ) → newest h ≡ None) → IsChained hash newest [] []
  IsChained-none newest none = record {
    paired = refl;
    reached = λ k c at. absurd cc;
    begun = λ h m at. absurd (cc (none h));
    linked = λ m j c at next. absurd cc;
    complete = λ m k c d next at. absurd cc;
  }

  -- the newest item with the hash of an item
  hash_old : (cs : List X) (c : X) (m h : ℕ) → HasHash hash cs m h → HasHash hash (cs ++ c ∷ []) m h
  hash_old cs c m h (d, at, e) = (d, snoc_old cs c d m at, e)

  module _ (newest later : ℕ → Option ℕ) (cs : List X) (ns : List (Option ℕ)) (c : X) (ok : IsChained hash newest cs ns)
      (here : later (hash c) ≡ Some (length cs))
      (others : (q : ℕ) → (q ≡ hash c → ⊥) → later q ≡ newest q) where
    pushed_reached : (k : ℕ) (d : X) → slice_get (cs ++ c ∷ []) k ≡ Some d → (m : ℕ) × (later (hash d) ≡ Some m) × (k ≤ m)
    pushed_reached k d at = elim (snoc_cases cs c d k at) [
      | inl old ↦ let below = slice_get_within cs k d old in elim (cases_eq (hash d) (hash c)) [
        | inl e ↦ (length cs, cc, omega arith)
        | inr n ↦ let r = ok.reached k d old in (r.0, others (hash d) n ∙ r.1, r.2)
      ]
      | inr e ↦ (length cs, ap (λ x. later (hash x)) e.1 ∙ here, omega arith)
    ]

    pushed_begun : (h m : ℕ) → later h ≡ Some m → HasHash hash (cs ++ c ∷ []) m h
    pushed_begun h m at = elim (cases_eq h (hash c)) [
      | inl e ↦ let is : m ≡ length cs = cc in (c, snoc_new cs c m is, sym e)
      | inr n ↦ hash_old cs c m h (ok.begun h m (sym (others h n) ∙ at))
    ]

    pushed_linked : (m j : ℕ) (d : X) → slice_get (cs ++ c ∷ []) m ≡ Some d → slice_get (ns ++ newest (hash c) ∷ []) m ≡ Some (Some j)
        → (j < m) × HasHash hash (cs ++ c ∷ []) j (hash d)
    pushed_linked m j d at next = elim (snoc_cases cs c d m at) [
      | inl old ↦ let below = slice_get_within cs m d old in elim (snoc_cases ns (newest (hash c)) (Some j) m next) [
        | inl was ↦ let l = ok.linked m j d old was in (l.0, hash_old cs c j (hash d) l.1)
        | inr e ↦ absurd (omega (arith, ok.paired))
      ]
      | inr new ↦ elim (snoc_cases ns (newest (hash c)) (Some j) m next) [
        | inl was ↦ let below = slice_get_within ns m (Some j) was in absurd (omega (arith, ok.paired, new.0))
        | inr e ↦ let b = ok.begun (hash c) j (sym e.1) in
            let below = slice_get_within cs j b.0 b.1 in
            (omega (arith, new.0), hash_old cs c j (hash d) (b.0, b.1, b.2 ∙ ap hash (sym new.1)))
      ]
    ]

    pushed_complete : (m k : ℕ) (d e : X) (next : Option ℕ) → slice_get (cs ++ c ∷ []) m ≡ Some d → slice_get (ns ++ newest (hash c) ∷ []) m ≡ Some next
        → slice_get (cs ++ c ∷ []) k ≡ Some e → k < m → hash e ≡ hash d → (j : ℕ) × (next ≡ Some j) × (k ≤ j)
    pushed_complete m k d e next at link older less same = elim (snoc_cases cs c e k older) [
      | inr new ↦ elim (snoc_cases cs c d m at) [
        | inl old ↦ let below = slice_get_within cs m d old in absurd (omega (arith, new.0))
        | inr also ↦ absurd (omega (arith, new.0, also.0))
      ]
      | inl was ↦ elim (snoc_cases cs c d m at) [
        | inl old ↦ let below = slice_get_within cs m d old in elim (snoc_cases ns (newest (hash c)) next m link) [
          | inl linked ↦ ok.complete m k d e next old linked was less same
          | inr n ↦ absurd (omega (arith, ok.paired, n.0))
        ]
        | inr new ↦ elim (snoc_cases ns (newest (hash c)) next m link) [
          | inl linked ↦ let below = slice_get_within ns m next linked in absurd (omega (arith, ok.paired, new.0))
          | inr n ↦ let r = ok.reached k e was in
              (r.0, n.1 ∙ ap newest (sym (same ∙ ap hash new.1)) ∙ r.1, r.2)
        ]
      ]
    ]

    pub IsChained-push : IsChained hash later (cs ++ c ∷ []) (ns ++ newest (hash c) ∷ [])
    IsChained-push = record {
      paired = length-append ns (newest (hash c) ∷ []) ∙ ap (λ n. n + 1) ok.paired ∙ sym (length-append cs (c ∷ []));
      reached = pushed_reached;
      begun = pushed_begun;
      linked = pushed_linked;
      complete = pushed_complete;
    }

  module _ (newest : ℕ → Option ℕ) (cs : List X) (ns : List (Option ℕ)) (ok : IsChained hash newest cs ns) (d : X) where
    -- the search begins at the newest item with the hash of d
    pub hashed_first : (m : ℕ) → newest (hash d) ≡ Some m → HasHash hash cs m (hash d)
    hashed_first m at = ok.begun (hash d) m at

    pub ahead_first : (k : ℕ) → slice_get cs k ≡ Some d → (m : ℕ) × (newest (hash d) ≡ Some m) × (k ≤ m)
    ahead_first k at = ok.reached k d at

    -- and goes on from an item m that isn't d
    pub smaller_next : (m j : ℕ) (c : X) → slice_get cs m ≡ Some c → slice_get ns m ≡ Some (Some j) → j < m
    smaller_next m j c at next = (ok.linked m j c at next).0

    pub hashed_next : (m j : ℕ) (c : X) → slice_get cs m ≡ Some c → slice_get ns m ≡ Some (Some j) → hash c ≡ hash d → HasHash hash cs j (hash d)
    hashed_next m j c at next same = rw same at (ok.linked m j c at next).1

    pub ahead_next : (m k : ℕ) (c : X) (next : Option ℕ) → slice_get cs m ≡ Some c → slice_get ns m ≡ Some next → hash c ≡ hash d
        → (c ≡ d → ⊥) → slice_get cs k ≡ Some d → k ≤ m → (j : ℕ) × (next ≡ Some j) × (k ≤ j)
    ahead_next m k c next at link same other here below = elim (cases_eq k m) [
      | inl e ↦ absurd (other (same_Some c d (sym at ∙ ap (slice_get cs) (sym e) ∙ here)))
      | inr n ↦ ok.complete m k c d next at link here (omega arith) (sym same)
    ]

-- ---- as the code does it

cond_other : (h q : ℕ) (x y : Option ℕ) → (q ≡ h → ⊥) → cond (nat_eq h q) x y ≡ y
cond_other h q x y n = elim (cases_Bool (nat_eq h q)) [
  | inl e ↦ absurd (n (sym (eqb-true h q e)))
  | inr e ↦ ap (λ b. cond b x y) e
]

module _ {X : Type 0} (hash : X → ℕ) where
  -- one more item
  pub chain_push : (newest later : ℕ → Option ℕ) (names : List X) (nexts : List (Option ℕ)) (name : X) (place : ℕ) (next : Option ℕ)
      → IsChained hash newest names nexts
      → place ≡ length names → next ≡ newest (hash name)
      → ((q : ℕ) → later q ≡ cond (nat_eq (hash name) q) (Some place) (newest q))
      → IsChained hash later (names ++ name ∷ []) (nexts ++ next ∷ [])
  chain_push newest later names nexts name place next ok at is more =
      let h : ℕ = hash name in
      rw is (IsChained-push hash newest later names nexts name ok
      (more h ∙ ap (λ b. cond b (Some place) (newest h)) (eq-eqb h h refl) ∙ ap Some at)
      (λ q n. more q ∙ cond_other h q _ _ n))

  -- an item that wasn't kept
  pub chain_undo : (newest later : ℕ → Option ℕ) (names all : List X) (nexts links : List (Option ℕ)) (name : X) (next : Option ℕ) (place : ℕ)
      → IsChained hash newest names nexts → ((q : ℕ) → later q ≡ newest q) → place ≡ length names
      → all ≡ names ++ name ∷ [] → links ≡ nexts ++ next ∷ []
      → IsChained hash later (take place all) (take place links)
  chain_undo newest later names all nexts links name next place ok same at e f =
      let keeps : later ≡ newest = λ i q. same q i in
      let names_are : take place all ≡ names = rw e (take_at names (name ∷ []) place (sym at)) in
      let nexts_are : take place links ≡ nexts = rw f (take_at nexts (next ∷ []) place (ok.paired ∙ sym at)) in
      rw (keeps, names_are, nexts_are) ok

-- how many items are still ahead on a chain, at most
abbrev pub ahead_of : Option ℕ → ℕ
ahead_of None = 0
ahead_of (Some m) = suc m

pub ahead_of-smaller : (next at : Option ℕ) (m : ℕ) → at ≡ Some m → ((j : ℕ) → next ≡ Some j → j < m) → ahead_of next < ahead_of at
ahead_of-smaller None None m is less = absurd cc
ahead_of-smaller None (Some n) m is less = omega arith
ahead_of-smaller (Some j) None m is less = absurd cc
ahead_of-smaller (Some j) (Some n) m is less = let l = less j refl in let e = same_Some n m is in omega arith
