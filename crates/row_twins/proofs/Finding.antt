-- The links with one row more, and a step along them.
use Rattle.std.proofs.Common.{◌≡◌, ℕ, zero, suc, ◌+◌, ◌<◌, ◌≤◌, ◌⊎◌, inl, inr, cond, Bool, false, List, [], ◌∷◌, ◌++◌, Option, Some, None, length, refl, sym, ap, subst, ◌∙◌, arith}
use Rattle.std.specs.Prelude.{slice_get, nat_eq}
use Rattle.std.proofs.lemmas.Option.{slice_get_within, same_Some}
use Rattle.std.proofs.lemmas.List.{length-append}
use Rattle.std.proofs.lemmas.Bool.{cases_eq, cases_order, cases_Bool, eq-eqb, eqb-true}
use Rattle.hash_places.specs.Slots.{place_of}
use Rattle.row_twins.specs.Linked.{LacksHash, HasHash, IsLast, AreLinked, HasRow}
use Rattle.row_twins.specs.declared.hashed.Hashed.{Hashed}
use Rattle.row_twins.specs.declared.hashed.HashedRows.{HashedRows}

pub snoc_cases : {X : Type 0} (xs : List X) (x y : X) (k : ℕ) → slice_get (xs ++ x ∷ []) k ≡ Some y
    → (slice_get xs k ≡ Some y) ⊎ ((k ≡ length xs) × (y ≡ x))
snoc_cases [] x y zero h = inr (refl, cc)
snoc_cases [] x y (suc k) h = absurd cc
snoc_cases (z ∷ xs) x y zero h = inl h
snoc_cases (z ∷ xs) x y (suc k) h = elim (snoc_cases xs x y k h) [ inl e ↦ inl e | inr e ↦ inr (ap suc e.0, e.1) ]

pub snoc_old : {X : Type 0} (xs : List X) (x y : X) (k : ℕ) → slice_get xs k ≡ Some y → slice_get (xs ++ x ∷ []) k ≡ Some y
snoc_old [] x y k h = absurd cc
snoc_old (z ∷ xs) x y zero h = h
snoc_old (z ∷ xs) x y (suc k) h = snoc_old xs x y k h

pub snoc_new : {X : Type 0} (xs : List X) (x : X) (n : ℕ) → n ≡ length xs → slice_get (xs ++ x ∷ []) n ≡ Some x
snoc_new [] x zero e = refl
snoc_new [] x (suc n) e = absurd (omega arith)
snoc_new (z ∷ xs) x zero e = absurd (omega arith)
snoc_new (z ∷ xs) x (suc n) e = snoc_new xs x n (omega arith)

-- ---- what a link says

pub last_hashed : (rows : List Hashed) (hash before : ℕ) (o : Option ℕ) → IsLast rows hash before o → (m : ℕ) → o ≡ Some m → HasHash rows hash m × (m < before)
last_hashed rows hash before None last m e = absurd cc
last_hashed rows hash before (Some p) last m e =
    let same : p ≡ m = same_Some p m e in
    (subst (HasHash rows hash) same last.1, subst (λ (n : ℕ). n < before) same last.0)

pub last_ahead : (rows : List Hashed) (hash before : ℕ) (o : Option ℕ) → IsLast rows hash before o → (k : ℕ) (r : Hashed) → k < before → slice_get rows k ≡ Some r → r.hash ≡ hash → (m : ℕ) × (o ≡ Some m) × (k ≤ m)
last_ahead rows hash before None last k r less at e = absurd (last k r (omega arith) less at e)
last_ahead rows hash before (Some p) last k r less at e = (
  p,
  refl,
  elim (cases_order k p) [
    | inl same ↦ omega arith
    | inr apart ↦ elim apart [ inl below ↦ omega arith | inr above ↦ absurd (last.2 k r (omega arith) less at e) ]
  ],
)

-- ---- one row more

lacks_grown : (rows : List Hashed) (r : Hashed) (hash from before : ℕ) → before ≤ length rows → LacksHash rows hash from before → LacksHash (rows ++ r ∷ []) hash from before
lacks_grown rows r hash from before within lacks =
    λ k q lo hi at e. elim (snoc_cases rows r q k at) [ inl old ↦ lacks k q lo hi old e | inr new ↦ absurd (omega (arith, new.0)) ]

last_grown : (rows : List Hashed) (r : Hashed) (hash before : ℕ) (o : Option ℕ) → before ≤ length rows → IsLast rows hash before o → IsLast (rows ++ r ∷ []) hash before o
last_grown rows r hash before None within last = lacks_grown rows r hash 0 before within last
last_grown rows r hash before (Some p) within last =
    (last.0, (last.1.0, snoc_old rows r last.1.0 p last.1.1, last.1.2), lacks_grown rows r hash (p + 1) before within last.2)

lacks_more : (rows : List Hashed) (r : Hashed) (hash from : ℕ) → (r.hash ≡ hash → ⊥) → LacksHash rows hash from (length rows) → LacksHash (rows ++ r ∷ []) hash from (length (rows ++ r ∷ []))
lacks_more rows r hash from other lacks =
    λ k q lo hi at e. elim (snoc_cases rows r q k at) [
      | inl old ↦ lacks k q lo (slice_get_within rows k q old) old e
      | inr new ↦ absurd (other (ap (λ (x : Hashed). x.hash) (sym new.1) ∙ e))
    ]

newest_grown : (rows : List Hashed) (r : Hashed) (hash : ℕ) (o : Option ℕ) → (r.hash ≡ hash → ⊥) → IsLast rows hash (length rows) o → IsLast (rows ++ r ∷ []) hash (length (rows ++ r ∷ [])) o
newest_grown rows r hash None other last = lacks_more rows r hash 0 other last
newest_grown rows r hash (Some p) other last =
    let long = length-append rows (r ∷ []) in
    let less = last.0 in
    (omega arith, (last.1.0, snoc_old rows r last.1.0 p last.1.1, last.1.2), lacks_more rows r hash (p + 1) other last.2)

newest_new : (rows : List Hashed) (r : Hashed) (hash : ℕ) → r.hash ≡ hash → IsLast (rows ++ r ∷ []) hash (length (rows ++ r ∷ [])) (Some (length rows))
newest_new rows r hash e =
    let long = length-append rows (r ∷ []) in
    (omega arith, (r, snoc_new rows r (length rows) refl, e), λ k q lo hi at _. absurd (omega arith))

newest_either : (rows : List Hashed) (r : Hashed) (hash : ℕ) (o p : Option ℕ) → IsLast rows hash (length rows) o → p ≡ cond (nat_eq r.hash hash) (Some (length rows)) o
    → IsLast (rows ++ r ∷ []) hash (length (rows ++ r ∷ [])) p
newest_either rows r hash o p last e = elim (cases_Bool (nat_eq r.hash hash)) [
  | inl same ↦
      let is : p ≡ Some (length rows) = e ∙ ap (λ (b : Bool). cond b (Some (length rows)) o) same in
      subst (IsLast (rows ++ r ∷ []) hash (length (rows ++ r ∷ []))) (sym is) (newest_new rows r hash (eqb-true r.hash hash same))
  | inr other ↦
      let is : p ≡ o = e ∙ ap (λ (b : Bool). cond b (Some (length rows)) o) other in
      subst (IsLast (rows ++ r ∷ []) hash (length (rows ++ r ∷ []))) (sym is) (newest_grown rows r hash o (λ h. apart r.hash hash h other) last)
]
  where
    apart : (a b : ℕ) → a ≡ b → nat_eq a b ≡ false → ⊥
    apart a b h f = absurd (let t = eq-eqb a b h in cc)

module _ (old new : HashedRows) (r : Hashed) (ok : AreLinked old) (rows : new.rows ≡ old.rows ++ r ∷ [])
    (nexts : new.nexts ≡ old.nexts ++ place_of old.newest r.hash ∷ [])
    (newest : (q : ℕ) → place_of new.newest q ≡ cond (nat_eq r.hash q) (Some (length old.rows)) (place_of old.newest q)) where
  linked_at : (place : ℕ) (q : Hashed) (next : Option ℕ) → slice_get (old.rows ++ r ∷ []) place ≡ Some q → slice_get (old.nexts ++ place_of old.newest r.hash ∷ []) place ≡ Some next
      → IsLast (old.rows ++ r ∷ []) q.hash place next
  linked_at place q next at link =
      let p = ok.paired in
      elim (snoc_cases old.rows r q place at) [
        | inl was ↦ elim (snoc_cases old.nexts (place_of old.newest r.hash) next place link) [
          | inl linked ↦ let within = slice_get_within old.rows place q was in last_grown old.rows r q.hash place next (omega arith) (ok.linked place q next was linked)
          | inr n ↦ let within = slice_get_within old.rows place q was in absurd (omega (arith, n.0))
        ]
        | inr is ↦ elim (snoc_cases old.nexts (place_of old.newest r.hash) next place link) [
          | inl linked ↦ let within = slice_get_within old.nexts place next linked in absurd (omega (arith, is.0))
          | inr n ↦
              let last = last_grown old.rows r r.hash (length old.rows) (place_of old.newest r.hash) (omega arith) (ok.newest r.hash) in
              let hashed : r.hash ≡ q.hash = ap (λ (x : Hashed). x.hash) (sym is.1) in
              let a = subst (λ (h : ℕ). IsLast (old.rows ++ r ∷ []) h (length old.rows) (place_of old.newest r.hash)) hashed last in
              let b = subst (λ (m : ℕ). IsLast (old.rows ++ r ∷ []) q.hash m (place_of old.newest r.hash)) (sym is.0) a in
              subst (IsLast (old.rows ++ r ∷ []) q.hash place) (sym n.1) b
        ]
      ]

  pub linked_more : AreLinked new
  linked_more = record {
    paired = rw (rows, nexts) (length-append old.nexts (place_of old.newest r.hash ∷ []) ∙ ap (λ (n : ℕ). n + 1) ok.paired ∙ sym (length-append old.rows (r ∷ [])));
    newest = λ hash. rw rows (newest_either old.rows r hash (place_of old.newest hash) (place_of new.newest hash) (ok.newest hash) (newest hash));
    linked = λ place q next at link. rw rows (linked_at place q next (subst (λ (xs : List Hashed). slice_get xs place ≡ Some q) rows at) (subst (λ (xs : List (Option ℕ)). slice_get xs place ≡ Some next) nexts link));
  }

-- ---- how many places are still ahead, at most

abbrev pub ahead_of : Option ℕ → ℕ
ahead_of None = 0
ahead_of (Some m) = suc m

pub smaller_ahead : (next at : Option ℕ) (m : ℕ) → at ≡ Some m → ((j : ℕ) → next ≡ Some j → j < m) → ahead_of next < ahead_of at
smaller_ahead None None m is less = absurd cc
smaller_ahead None (Some n) m is less = omega arith
smaller_ahead (Some j) None m is less = absurd cc
smaller_ahead (Some j) (Some n) m is less = let l = less j refl in let e = same_Some n m is in omega arith

-- ---- a search

-- the rows of which the test holds are still ahead
pub record IsSearch (rows : List Hashed) (hash : ℕ) (holds : ℕ → Type 0) (at : Option ℕ) : Type 0 where
  pub hashed : (m : ℕ) → at ≡ Some m → HasHash rows hash m
  pub ahead : (k : ℕ) (r : Hashed) → slice_get rows k ≡ Some r → r.hash ≡ hash → holds r.row → (m : ℕ) × (at ≡ Some m) × (k ≤ m)

pub begun : (it : HashedRows) (hash : ℕ) (holds : ℕ → Type 0) (at : Option ℕ) → AreLinked it → at ≡ place_of it.newest hash → IsSearch it.rows hash holds at
begun it hash holds at ok e = record {
  hashed = λ m is. (last_hashed it.rows hash (length it.rows) (place_of it.newest hash) (ok.newest hash) m (sym e ∙ is)).0;
  ahead = λ k r there h _.
      let a = last_ahead it.rows hash (length it.rows) (place_of it.newest hash) (ok.newest hash) k r (slice_get_within it.rows k r there) there h in
      (a.0, e ∙ a.1, a.2);
}

pub here : (rows : List Hashed) (hash : ℕ) (m : ℕ) (r : Hashed) → HasHash rows hash m → slice_get rows m ≡ Some r → HasRow rows hash r.row
here rows hash m r has at =
    let same : has.0 ≡ r = same_Some has.0 r (sym has.1 ∙ at) in
    let h : r.hash ≡ hash = ap (λ (x : Hashed). x.hash) (sym same) ∙ has.2 in
    (m, subst (λ (n : ℕ). slice_get rows m ≡ Some (record { hash = n; row = r.row })) h at)

module _ (it : HashedRows) (hash : ℕ) (holds : ℕ → Type 0) (ok : AreLinked it) (at : Option ℕ) (so : IsSearch it.rows hash holds at) (m : ℕ) (is : at ≡ Some m)
    (r : Hashed) (there : slice_get it.rows m ≡ Some r) (next : Option ℕ) (link : slice_get it.nexts m ≡ Some next) where
  last : IsLast it.rows r.hash m next
  last = ok.linked m r next there link

  hash_here : r.hash ≡ hash
  hash_here =
      let has = so.hashed m is in
      ap (λ (x : Hashed). x.hash) (same_Some r has.0 (sym there ∙ has.1)) ∙ has.2

  pub goes_down : ahead_of next < ahead_of at
  goes_down = smaller_ahead next at m is (λ j e. (last_hashed it.rows r.hash m next last j e).1)

  pub goes_on : (holds r.row → ⊥) → IsSearch it.rows hash holds next
  goes_on not = record {
    hashed = λ j e. subst (λ (h : ℕ). HasHash it.rows h j) hash_here (last_hashed it.rows r.hash m next last j e).0;
    ahead = λ k q found h it_is.
        let a = so.ahead k q found h it_is in
        let below : k ≤ m = subst (λ (n : ℕ). k ≤ n) (same_Some a.0 m (sym a.1 ∙ is)) a.2 in
        elim (cases_eq k m) [
          | inl e ↦
              let same : q ≡ r = same_Some q r (sym found ∙ ap (slice_get it.rows) e ∙ there) in
              absurd (not (subst (λ (x : Hashed). holds x.row) same it_is))
          | inr n ↦ last_ahead it.rows r.hash m next last k q (omega arith) found (h ∙ sym hash_here)
        ];
  }

pub searched : (rows : List Hashed) (hash : ℕ) (holds : ℕ → Type 0) (at : Option ℕ) → IsSearch rows hash holds at → at ≡ None → (row : ℕ) → HasRow rows hash row → holds row → ⊥
searched rows hash holds at so none row has it_is =
    let a = so.ahead has.0 (record { hash = hash; row = row }) has.1 refl it_is in
    absurd (let e = a.1 in cc)

pub linked_none : (it : HashedRows) → it.rows ≡ [] → it.nexts ≡ [] → ((hash : ℕ) → place_of it.newest hash ≡ None) → AreLinked it
linked_none it rows nexts newest = record {
  paired = ap length nexts ∙ sym (ap length rows);
  newest = λ hash. subst (IsLast it.rows hash (length it.rows)) (sym (newest hash)) (λ k r lo hi at e. absurd (omega (arith, ap length rows)));
  linked = λ place r next at link. absurd (nothing place r (subst (λ (xs : List Hashed). slice_get xs place ≡ Some r) rows at));
}
  where
    nothing : (place : ℕ) (r : Hashed) → slice_get [] place ≡ Some r → ⊥
    nothing place r at = absurd cc
