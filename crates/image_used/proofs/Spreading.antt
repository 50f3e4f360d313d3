-- Marks that are set one after the other, and the rows that wait then.
use Rattle.std.proofs.Common.{◌≡◌, ◌∙◌, sym, ap, subst, refl, ℕ, ◌+◌, ◌/◌, ◌%◌, ◌^◌, ◌<◌, ◌≤◌, ◌⊎◌, inl, inr, Bool, true, false, List, [], ◌∷◌, ◌++◌, length, take, get_or, arith, length-append}
use Rattle.std.specs.Prelude.{◌↔◌, IsTrue, if◌then◌else◌, Contains, slice_index_or, OnOk, Result, Ok, Err}
use Rattle.std.proofs.lemmas.Bool.{false≢true}
use Rattle.std.proofs.lemmas.List.{take_more, take_all}
use Rattle.std.proofs.lemmas.List.Elements.{Contains-append_left, Contains-push, Contains-push_cases}
use Rattle.image_model.specs.Naming.{IsToken}
use Rattle.method_states.specs.Marks.{marks_in, IsMarked, HasPlace, left_in}
use Rattle.method_states.specs.declared.row_marks.RowMarks.{RowMarks}
use Rattle.method_states.proofs.Marking.{token_parts, token_is}
use Rattle.image_used.specs.Spreading.{IsRow, TokensName, Waits, Spreads}
use Rattle.image_used.specs.declared.spread.RowAt.{RowAt}

-- what holds where memory was there means something else
pub on_ok : {X E P Q : Type 0} (r : Result X E) → OnOk r P → (P → Q) → OnOk r Q
on_ok (Ok x) h f = f h
on_ok (Err e) h f = tt

pub on_both : {X E P Q R : Type 0} (r : Result X E) → OnOk r P → OnOk r Q → (P → Q → R) → OnOk r R
on_both (Ok x) h k f = f h k
on_both (Err e) h k f = tt

pub placed : (a b : RowMarks) (t r : ℕ) → length (marks_in b t) ≡ length (marks_in a t) → HasPlace b t r → HasPlace a t r
placed a b t r same p = (p.0, let l = p.1 in omega arith)

pub spreads_none : (m : RowMarks) (q : List RowAt) (Named : ℕ → ℕ → Type 0) → ((t r : ℕ) → Named t r → HasPlace m t r → IsMarked m t r) → Spreads m q m q Named
spreads_none m q Named h = record {
  room = λ t. refl;
  marked = λ t r. (λ k. inl k, λ k. elim k [ inl o ↦ o | inr p ↦ h t r p.0 p.1 ]);
  waits = λ t r w. w;
  fresh = λ t r k. inl k;
  only = λ t r w. inl w;
  left = refl;
}

pub spreads_then : (a b c : RowMarks) (p q s : List RowAt) (M N : ℕ → ℕ → Type 0) → Spreads a p b q M → Spreads b q c s N → Spreads a p c s (λ t r. M t r ⊎ N t r)
spreads_then a b c p q s M N h k = record {
  room = λ t. k.room t ∙ h.room t;
  marked = λ t r. (
    λ x. elim ((k.marked t r).0 x) [
      | inl o ↦ elim ((h.marked t r).0 o) [ inl y ↦ inl y | inr y ↦ inr (inl y.0, y.1) ]
      | inr y ↦ inr (inr y.0, placed a b t r (h.room t) y.1)
    ],
    λ x. (k.marked t r).1 (elim x [
      | inl y ↦ inl ((h.marked t r).1 (inl y))
      | inr y ↦ elim y.0 [
        | inl m ↦ inl ((h.marked t r).1 (inr (m, y.1)))
        | inr n ↦ inr (n, placed b a t r (sym (h.room t)) y.1)
      ]
    ]),
  );
  waits = λ t r w. k.waits t r (h.waits t r w);
  fresh = λ t r x. elim (k.fresh t r x) [
    | inl o ↦ elim (h.fresh t r o) [ inl y ↦ inl y | inr w ↦ inr (k.waits t r w) ]
    | inr w ↦ inr w
  ];
  only = λ t r w. elim (k.only t r w) [
    | inl o ↦ elim (h.only t r o) [ inl y ↦ inl y | inr x ↦ inr ((k.marked t r).1 (inl x)) ]
    | inr x ↦ inr x
  ];
  left = k.left ∙ h.left;
}

pub spreads_as : (a b : RowMarks) (p q : List RowAt) (M N : ℕ → ℕ → Type 0) → ((t r : ℕ) → M t r → N t r) → ((t r : ℕ) → N t r → M t r) → Spreads a p b q M → Spreads a p b q N
spreads_as a b p q M N to back h = record {
  room = h.room;
  marked = λ t r. (
    λ x. elim ((h.marked t r).0 x) [ inl o ↦ inl o | inr y ↦ inr (to t r y.0, y.1) ],
    λ x. (h.marked t r).1 (elim x [ inl o ↦ inl o | inr y ↦ inr (back t r y.0, y.1) ]),
  );
  waits = h.waits;
  fresh = h.fresh;
  only = h.only;
  left = h.left;
}

-- two, one after the other, which name what is named together
pub spreads_both : (a b c : RowMarks) (p q s : List RowAt) (M N O : ℕ → ℕ → Type 0) → ((t r : ℕ) → M t r ⊎ N t r → O t r) → ((t r : ℕ) → O t r → M t r ⊎ N t r)
    → Spreads a p b q M → Spreads b q c s N → Spreads a p c s O
spreads_both a b c p q s M N O to back h k = spreads_as a c p s (λ t r. M t r ⊎ N t r) O to back (spreads_then a b c p q s M N h k)

-- ---- one row

decided : (b : Bool) → IsTrue b ⊎ (IsTrue b → ⊥)
decided true = inl refl
decided false = inr (λ e. false≢true e)

module _ (m n : RowMarks) (q : List RowAt) (table row : ℕ) (result : Bool) (room : (t : ℕ) → length (marks_in n t) ≡ length (marks_in m t))
    (marked : (t r : ℕ) → IsMarked n t r ↔ (IsMarked m t r ⊎ ((t ≡ table) × (r ≡ row) × HasPlace m table row)))
    (fresh : IsTrue result ↔ (HasPlace m table row × (IsMarked m table row → ⊥))) (left : left_in n + (if result then 1 else 0) ≡ left_in m) where
  there : (t r : ℕ) → t ≡ table → r ≡ row → HasPlace m table row → HasPlace m t r
  there t r e f p = subst (λ (x : ℕ). HasPlace m x r) (sym e) (subst (λ (y : ℕ). HasPlace m table y) (sym f) p)

  back : (t r : ℕ) → t ≡ table → r ≡ row → HasPlace m t r → HasPlace m table row
  back t r e f p = subst (λ (x : ℕ). HasPlace m x row) e (subst (λ (y : ℕ). HasPlace m t y) f p)

  each : (t r : ℕ) → IsMarked n t r ↔ (IsMarked m t r ⊎ (IsRow table row t r × HasPlace m t r))
  each t r = (
    λ k. elim ((marked t r).0 k) [ inl o ↦ inl o | inr p ↦ inr ((p.0, p.1), there t r p.0 p.1 p.2) ],
    λ k. (marked t r).1 (elim k [ inl o ↦ inl o | inr x ↦ inr (x.0.0, x.0.1, back t r x.0.0 x.0.1 x.1) ]),
  )

  -- one that was marked before, or has no place
  pub stale : result ≡ false → Spreads m q n q (IsRow table row)
  stale e = record {
    room = room;
    marked = each;
    waits = λ t r w. w;
    fresh = λ t r k. elim ((marked t r).0 k) [
      | inl o ↦ inl o
      | inr p ↦ elim (decided (slice_index_or (marks_in m table) row false)) [
        | inl y ↦ inl (subst (λ (x : ℕ). IsMarked m x r) (sym p.0) (subst (λ (z : ℕ). IsMarked m table z) (sym p.1) y))
        | inr never ↦ absurd (false≢true (sym e ∙ fresh.1 (p.2, never)))
      ]
    ];
    only = λ t r w. inl w;
    left = let l : left_in n + 0 ≡ left_in m = subst (λ (b : Bool). left_in n + (if b then 1 else 0) ≡ left_in m) e left in omega arith;
  }

  abbrev one : RowAt
  one = record { table = table; row = row }

  -- a new one
  pub found : result ≡ true → Spreads m q n (q ++ one ∷ []) (IsRow table row)
  found e = record {
    room = room;
    marked = each;
    waits = λ t r w. Contains-append_left q (one ∷ []) (record { table = t; row = r }) w;
    fresh = λ t r k. elim ((marked t r).0 k) [
      | inl o ↦ inl o
      | inr p ↦ inr (subst (λ (x : ℕ). Waits (q ++ one ∷ []) x r) (sym p.0) (subst (λ (z : ℕ). Waits (q ++ one ∷ []) table z) (sym p.1) (Contains-push q one)))
    ];
    only = λ t r w. elim (Contains-push_cases q one (record { table = t; row = r }) w) [
      | inl o ↦ inl o
      | inr same ↦
          inr ((marked t r).1 (inr (ap (λ (a : RowAt). a.table) (sym same), ap (λ (a : RowAt). a.row) (sym same), (fresh.0 e).0)))
    ];
    left =
        let l : left_in n + 1 ≡ left_in m = subst (λ (b : Bool). left_in n + (if b then 1 else 0) ≡ left_in m) e left in
        let k : length (q ++ one ∷ []) ≡ length q + 1 = length-append q (one ∷ []) in
        omega arith;
  }

-- ---- tokens

pub token_row : (token t r : ℕ) → IsRow (token / 2 ^ 24) (token % 2 ^ 24) t r → IsToken token t r
token_row token t r h = token_is token t r h.0 h.1

pub row_token : (token t r : ℕ) → IsToken token t r → IsRow (token / 2 ^ 24) (token % 2 ^ 24) t r
row_token token t r h = token_parts token t r h

pub no_tokens : (m : RowMarks) (q : List RowAt) → Spreads m q m q (TokensName [])
no_tokens m q = spreads_none m q (TokensName []) (λ t r n p. absurd (let c = n.1 in let l = c.1 in omega arith))

-- one token more
pub one_more : (a b c : RowMarks) (p q s : List RowAt) (xs : List ℕ) (k x d : ℕ) → k < length xs → get_or xs k d ≡ x → Spreads a p b q (TokensName (take k xs)) → Spreads b q c s (IsToken x)
    → Spreads a p c s (TokensName (take (k + 1) xs))
one_more a b c p q s xs k x d l e h g =
    let longer : take k xs ++ x ∷ [] ≡ take (k + 1) xs = ap (λ (y : ℕ). take k xs ++ y ∷ []) (sym e) ∙ sym (take_more xs k d l) in
    subst (λ (ts : List ℕ). Spreads a p c s (TokensName ts)) longer
    (spreads_both a b c p q s (TokensName (take k xs)) (IsToken x) (TokensName (take k xs ++ x ∷ []))
    (λ t r n. elim n [ inl o ↦ (o.0, Contains-append_left (take k xs) (x ∷ []) o.0 o.1, o.2) | inr i ↦ (x, Contains-push (take k xs) x, i) ])
    (λ t r n. elim (Contains-push_cases (take k xs) x n.0 n.1) [ inl o ↦ inl (n.0, o, n.2) | inr same ↦ inr (subst (λ (y : ℕ). IsToken y t r) (sym same) n.2) ]) h g)

pub all_of : (a b : RowMarks) (p q : List RowAt) (xs : List ℕ) (n : ℕ) → length xs ≤ n → Spreads a p b q (TokensName (take n xs)) → Spreads a p b q (TokensName xs)
all_of a b p q xs n l h = subst (λ (ts : List ℕ). Spreads a p b q (TokensName ts)) (take_all n xs l) h
