-- Names that stand in one another, with one more.
use Rattle.std.proofs.Common.{◌≡◌, ℕ, zero, suc, ◌+◌, ◌<◌, ◌≤◌, ◌⊎◌, inl, inr, List, [], ◌∷◌, ◌++◌, Option, Some, None, length, cond, sym, ◌∙◌, ap, refl, subst, arith, append_assoc, append-nil, length-append}
use Rattle.std.specs.Prelude.{Bool, true, false, not, ◌&&◌, ◌||◌, ◌==◌, slice_get, nat_lt, position, option_map, is_some}
use Rattle.std.specs.List.{list_any, position_or_len}
use Rattle.std.proofs.lemmas.Bool.{cases_Bool, lt-ltb, ltb-true}
use Rattle.std.proofs.lemmas.Bool.Decides.{Decides-eqb}
use Rattle.std.proofs.lemmas.Option.{slice_get_within, same_Some}
use Rattle.std.proofs.lemmas.List.Folds.{list_any-append}
use Rattle.source_syntax.specs.Nested.{IsNested, onward, is_child, child, reached}

-- ---- the first place in a list with one more

module _ {X : Type 0} (p : X → Bool) where
  place_within : (xs : List X) (k : ℕ) → position p xs ≡ Some k → (k < length xs) × (position_or_len p xs ≡ k)
  place_within xs k e = elim (cases_Bool (nat_lt (position_or_len p xs) (length xs))) [
    | inl y ↦
        let same = same_Some (position_or_len p xs) k (sym (ap (λ b. cond b (Some (position_or_len p xs)) None) y) ∙ e) in
        let less = ltb-true (position_or_len p xs) (length xs) y in
        (omega (arith, less, same), same)
    | inr n ↦ let none : None ≡ Some k = sym (ap (λ b. cond b (Some (position_or_len p xs)) None) n) ∙ e in absurd cc
  ]

  place_none : (xs : List X) → position p xs ≡ None → length xs ≤ position_or_len p xs
  place_none xs e = elim (cases_Bool (nat_lt (position_or_len p xs) (length xs))) [
    | inl y ↦ let some : Some (position_or_len p xs) ≡ None = sym (ap (λ b. cond b (Some (position_or_len p xs)) None) y) ∙ e in absurd cc
    | inr n ↦ over (position_or_len p xs) (length xs) n
  ]
    where
      over : (m n : ℕ) → nat_lt m n ≡ false → n ≤ m
      over m n e = grind arith

  to_place : (xs : List X) (k : ℕ) → position_or_len p xs ≡ k → k < length xs → position p xs ≡ Some k
  to_place xs k e less = ap (λ m. cond (nat_lt m (length xs)) (Some m) None) e ∙ ap (λ b. cond b (Some k) None) (lt-ltb k (length xs) less)

  len_snoc : (xs : List X) (x : X) → position_or_len p xs < length xs → position_or_len p (xs ++ x ∷ []) ≡ position_or_len p xs
  len_snoc [] x less = absurd (omega (arith, less))
  len_snoc (y ∷ ys) x less = go (λ rest. len_snoc ys x rest) (p y) refl
    where
      go : (position_or_len p ys < length ys → position_or_len p (ys ++ x ∷ []) ≡ position_or_len p ys) → (b : Bool) → p y ≡ b → cond (not b) (1 + position_or_len p (ys ++ x ∷ [])) 0 ≡ cond (not b) (1 + position_or_len p ys) 0
      go more true e = refl
      go more false e =
          let rest : 1 + position_or_len p ys < suc (length ys) = subst (λ b. cond (not b) (1 + position_or_len p ys) 0 < suc (length ys)) e less in
          ap (λ m. 1 + m) (more (omega (arith, rest)))

  len_new : (xs : List X) (x : X) → length xs ≤ position_or_len p xs → position_or_len p (xs ++ x ∷ []) ≡ length xs + cond (not (p x)) 1 0
  len_new [] x over = go (p x)
    where
      go : (b : Bool) → cond (not b) 1 0 ≡ 0 + cond (not b) 1 0
      go true = refl
      go false = refl
  len_new (y ∷ ys) x over = go (λ rest. len_new ys x rest) (p y) refl
    where
      go : (length ys ≤ position_or_len p ys → position_or_len p (ys ++ x ∷ []) ≡ length ys + cond (not (p x)) 1 0) → (b : Bool) → p y ≡ b → cond (not b) (1 + position_or_len p (ys ++ x ∷ [])) 0 ≡ suc (length ys) + cond (not (p x)) 1 0
      go more true e =
          let none : suc (length ys) ≤ 0 = subst (λ b. suc (length ys) ≤ cond (not b) (1 + position_or_len p ys) 0) e over in
          absurd (omega (arith, none))
      go more false e =
          let rest : suc (length ys) ≤ 1 + position_or_len p ys = subst (λ b. suc (length ys) ≤ cond (not b) (1 + position_or_len p ys) 0) e over in
          let is = more (omega (arith, rest)) in
          omega (arith, is)

  -- what is there stays the first
  pub position_kept : (xs : List X) (x : X) (k : ℕ) → position p xs ≡ Some k → position p (xs ++ x ∷ []) ≡ Some k
  position_kept xs x k e =
      let w = place_within xs k e in
      let long = length-append xs (x ∷ []) in
      to_place (xs ++ x ∷ []) k (len_snoc xs x (omega (arith, w.0, w.1)) ∙ w.1) (omega (arith, w.0, long))

  pub position_new : (xs : List X) (x : X) → position p xs ≡ None → p x ≡ true → position p (xs ++ x ∷ []) ≡ Some (length xs)
  position_new xs x e own =
      let long = length-append xs (x ∷ []) in
      let at : position_or_len p (xs ++ x ∷ []) ≡ length xs + cond (not (p x)) 1 0 = len_new xs x (place_none xs e) in
      let none : length xs + cond (not (p x)) 1 0 ≡ length xs = ap (λ b. length xs + cond (not b) 1 0) own ∙ plus_none (length xs) in
      to_place (xs ++ x ∷ []) (length xs) (at ∙ none) (omega (arith, long))
    where
      plus_none : (n : ℕ) → n + 0 ≡ n
      plus_none n = omega arith

  pub position_absent : (xs : List X) (x : X) → position p xs ≡ None → p x ≡ false → position p (xs ++ x ∷ []) ≡ None
  position_absent xs x e other =
      let long = length-append xs (x ∷ []) in
      let at : position_or_len p (xs ++ x ∷ []) ≡ length xs + cond (not (p x)) 1 0 = len_new xs x (place_none xs e) in
      let one : length xs + cond (not (p x)) 1 0 ≡ length xs + 1 = ap (λ b. length xs + cond (not b) 1 0) other in
      let over : nat_lt (position_or_len p (xs ++ x ∷ [])) (length (xs ++ x ∷ [])) ≡ false =
      ap (λ m. nat_lt m (length (xs ++ x ∷ []))) (at ∙ one) ∙ ap (nat_lt (length xs + 1)) long ∙ never (length xs + 1) in
      ap (λ b. cond b (Some (position_or_len p (xs ++ x ∷ []))) None) over
    where
      never : (n : ℕ) → nat_lt n n ≡ false
      never n = grind arith

-- what a test of a list with one more finds
pub position_cases : {X : Type 0} (p : X → Bool) (xs : List X) (x : X) (k : ℕ) → position p (xs ++ x ∷ []) ≡ Some k
    → (position p xs ≡ Some k) ⊎ ((position p xs ≡ None) × (p x ≡ true) × (k ≡ length xs))
position_cases p xs x k e = go (position p xs) refl
  where
    go : (o : Option ℕ) → position p xs ≡ o → (position p xs ≡ Some k) ⊎ ((position p xs ≡ None) × (p x ≡ true) × (k ≡ length xs))
    go (Some m) is = inl (is ∙ sym (position_kept p xs x m is) ∙ e)
    go None is = elim (cases_Bool (p x)) [
      | inl own ↦ inr (is, own, same_Some k (length xs) (sym e ∙ position_new p xs x is own))
      | inr other ↦ let none : None ≡ Some k = sym (position_absent p xs x is other) ∙ e in absurd cc
    ]

-- ---- where ids lead

module _ {E I : Type 0} (outer : E → ℕ) (id : E → I) (same : I → I → Bool)
    (decides : (i j : I) → same i j ≡ true → i ≡ j) (reflects : (i : I) → same i i ≡ true) where
  abbrev Child : List E → I → ℕ → Option ℕ
  Child es i n = child outer id same es i n

  abbrev To : List E → List I → ℕ → Option ℕ
  To es is n = reached outer id same es is n

  onward_some : (f : ℕ → Option ℕ) (o : Option ℕ) (m : ℕ) → onward f o ≡ Some m → (k : ℕ) × (o ≡ Some k) × (f k ≡ Some m)
  onward_some f None m e = absurd cc
  onward_some f (Some k) m e = (k, refl, e)

  pub to_append : (es : List E) (is js : List I) (n : ℕ) → To es (is ++ js) n ≡ onward (To es js) (To es is n)
  to_append es [] js n = refl
  to_append es (i ∷ is) js n = go (To es (is ++ js)) (To es is) (λ k. to_append es is js k) (Child es i n)
    where
      go : (f g : ℕ → Option ℕ) → ((k : ℕ) → f k ≡ onward (To es js) (g k)) → (o : Option ℕ) → onward f o ≡ onward (To es js) (onward g o)
      go f g all None = refl
      go f g all (Some k) = all k

  -- a child has a number above 0, which is at most that of the last
  child_position : (es : List E) (i : I) (n m : ℕ) → Child es i n ≡ Some m → (k : ℕ) × (position (is_child outer id same n i) es ≡ Some k) × (m ≡ suc k)
  child_position es i n m e = go (position (is_child outer id same n i) es) refl e
    where
      go : (o : Option ℕ) → position (is_child outer id same n i) es ≡ o → option_map suc o ≡ Some m
          → (k : ℕ) × (position (is_child outer id same n i) es ≡ Some k) × (m ≡ suc k)
      go None is e = absurd cc
      go (Some k) is e = (k, is, sym (same_Some (suc k) m e))

  child_none : (es : List E) (i : I) (n : ℕ) → Child es i n ≡ None → position (is_child outer id same n i) es ≡ None
  child_none es i n e = go (position (is_child outer id same n i) es) e
    where
      go : (o : Option ℕ) → option_map suc o ≡ None → o ≡ None
      go None e = refl
      go (Some k) e = absurd cc

  child_within : (es : List E) (i : I) (n m : ℕ) → Child es i n ≡ Some m → m ≤ length es
  child_within es i n m e =
      let c = child_position es i n m e in
      let w = place_within (is_child outer id same n i) es c.0 c.1 in
      omega (arith, w.0, c.2)

  pub to_within : (es : List E) (is : List I) (n m : ℕ) → n ≤ length es → To es is n ≡ Some m → m ≤ length es
  to_within es [] n m low e = let s = same_Some n m e in omega (arith, s, low)
  to_within es (i ∷ is) n m low e =
      let o = onward_some (To es is) (Child es i n) m e in
      to_within es is o.0 m (child_within es i n o.0 o.1) o.2

  module _ (es : List E) (e : E) where
    child_kept : (i : I) (n m : ℕ) → Child es i n ≡ Some m → Child (es ++ e ∷ []) i n ≡ Some m
    child_kept i n m is =
        let c = child_position es i n m is in
        ap (option_map suc) (position_kept (is_child outer id same n i) es e c.0 c.1) ∙ ap Some (sym c.2)

    -- where ids led, they lead
    pub to_kept : (is : List I) (n m : ℕ) → To es is n ≡ Some m → To (es ++ e ∷ []) is n ≡ Some m
    to_kept [] n m h = h
    to_kept (i ∷ is) n m h =
        let o = onward_some (To es is) (Child es i n) m h in
        ap (onward (To (es ++ e ∷ []) is)) (child_kept i n o.0 o.1) ∙ to_kept is o.0 m o.2

    own : is_child outer id same (outer e) (id e) e ≡ true
    own = both (outer e == outer e) (same (id e) (id e)) ((Decides-eqb (outer e) (outer e)).1 refl) (reflects (id e))
      where
        both : (a b : Bool) → a ≡ true → b ≡ true → (a && b) ≡ true
        both true b h k = k
        both false b h k = absurd cc

    pub child_new : Child es (id e) (outer e) ≡ None → Child (es ++ e ∷ []) (id e) (outer e) ≡ Some (suc (length es))
    child_new h = ap (option_map suc) (position_new (is_child outer id same (outer e) (id e)) es e (child_none es (id e) (outer e) h) own)

    child_cases : (i : I) (n m : ℕ) → Child (es ++ e ∷ []) i n ≡ Some m → (Child es i n ≡ Some m) ⊎ ((outer e ≡ n) × (id e ≡ i) × (m ≡ suc (length es)))
    child_cases i n m h =
        let c = child_position (es ++ e ∷ []) i n m h in
        elim (position_cases (is_child outer id same n i) es e c.0 c.1) [
          | inl is ↦ inl (ap (option_map suc) is ∙ ap Some (sym c.2))
          | inr new ↦ let b = both (outer e == n) (same (id e) i) new.1 in
              inr ((Decides-eqb (outer e) n).0 b.0, decides (id e) i b.1, c.2 ∙ ap suc new.2)
        ]
      where
        both : (a b : Bool) → (a && b) ≡ true → (a ≡ true) × (b ≡ true)
        both true b h = (refl, h)
        both false b h = absurd cc

  abbrev Nested : List E → Type 0
  Nested es = IsNested outer id same es

  pub none_nested : Nested []
  none_nested = record {
    within = λ k e at. absurd cc;
    one = λ p q k a b. alone p k a ∙ sym (alone q k b);
  }
    where
      alone : (p : List I) (k : ℕ) → To [] p 0 ≡ Some k → p ≡ []
      alone [] k e = refl
      alone (i ∷ is) k e = absurd cc

  -- none stands in one that isn't there
  none_beyond : (es : List E) (i : I) (n : ℕ) → ((k : ℕ) (e : E) → slice_get es k ≡ Some e → outer e < n) → Child es i n ≡ None
  none_beyond es i n low = ap (option_map suc) (nowhere es low)
    where
      other : (e : E) → outer e < n → is_child outer id same n i e ≡ false
      other e less = elim (cases_Bool (outer e == n)) [
        | inl y ↦ let is = (Decides-eqb (outer e) n).0 y in absurd (omega (arith, is, less))
        | inr apart ↦ ap (λ b. b && same (id e) i) apart
      ]

      missing : (xs : List E) → ((k : ℕ) (e : E) → slice_get xs k ≡ Some e → outer e < n) → position_or_len (is_child outer id same n i) xs ≡ length xs
      missing [] h = refl
      missing (x ∷ xs) h =
          ap (λ b. cond (not b) (1 + position_or_len (is_child outer id same n i) xs) 0) (other x (h 0 x refl))
          ∙ ap (λ m. 1 + m) (missing xs (λ k e at. h (suc k) e at)) ∙ one_more (length xs)
        where
          one_more : (m : ℕ) → 1 + m ≡ suc m
          one_more m = omega arith

      nowhere : (xs : List E) → ((k : ℕ) (e : E) → slice_get xs k ≡ Some e → outer e < n) → position (is_child outer id same n i) xs ≡ None
      nowhere xs h = ap (λ k. cond (nat_lt k (length xs)) (Some k) None) (missing xs h) ∙ never (length xs)
        where
          never : (m : ℕ) → cond (nat_lt m m) (Some m) None ≡ None
          never m = grind arith

  -- ---- one more

  snoc_cases : (xs : List E) (x y : E) (k : ℕ) → slice_get (xs ++ x ∷ []) k ≡ Some y → (slice_get xs k ≡ Some y) ⊎ ((k ≡ length xs) × (y ≡ x))
  snoc_cases [] x y zero h = inr (refl, cc)
  snoc_cases [] x y (suc k) h = absurd cc
  snoc_cases (z ∷ xs) x y zero h = inl h
  snoc_cases (z ∷ xs) x y (suc k) h = elim (snoc_cases xs x y k h) [ inl e ↦ inl e | inr e ↦ inr (ap suc e.0, e.1) ]

  module _ (es : List E) (e : E) (path : List I) (ok : Nested es) (at : To es path 0 ≡ Some (outer e)) where
    outer_within : outer e ≤ length es
    outer_within = to_within es path 0 (outer e) (omega arith) at

    low : (k : ℕ) (x : E) → slice_get (es ++ e ∷ []) k ≡ Some x → outer x < suc (length es)
    low k x h = elim (snoc_cases es e x k h) [
      | inl old ↦ let w = ok.within k x old in let b = slice_get_within es k x old in omega (arith, w, b)
      | inr new ↦ let same : outer x ≡ outer e = ap outer new.1 in let w = outer_within in omega (arith, same, w)
    ]

    within_more : (k : ℕ) (x : E) → slice_get (es ++ e ∷ []) k ≡ Some x → outer x ≤ k
    within_more k x h = elim (snoc_cases es e x k h) [
      | inl old ↦ ok.within k x old
      | inr new ↦ let same : outer x ≡ outer e = ap outer new.1 in let w = outer_within in omega (arith, same, w, new.0)
    ]

    -- beyond the new one nothing stands
    alone : (is : List I) (m : ℕ) → To (es ++ e ∷ []) is (suc (length es)) ≡ Some m → (is ≡ []) × (m ≡ suc (length es))
    alone [] m h = (refl, sym (same_Some (suc (length es)) m h))
    alone (i ∷ is) m h =
        let none : None ≡ Some m = ap (onward (To (es ++ e ∷ []) is)) (sym (none_beyond (es ++ e ∷ []) i (suc (length es)) low)) ∙ h in
        absurd cc

    -- what leads somewhere with one more did so before, or leads to that
    pub to_cases : (is : List I) (front : List I) (n m : ℕ) → To es front 0 ≡ Some n → To (es ++ e ∷ []) is n ≡ Some m
        → (To es is n ≡ Some m) ⊎ ((front ++ is ≡ path ++ id e ∷ []) × (m ≡ suc (length es)))
    to_cases [] front n m f h = inl h
    to_cases (i ∷ is) front n m f h =
        let o = onward_some (To (es ++ e ∷ []) is) (Child (es ++ e ∷ []) i n) m h in
        elim (child_cases es e i n o.0 o.1) [
          | inl old ↦
              let on : To es (front ++ i ∷ []) 0 ≡ Some o.0 =
              to_append es front (i ∷ []) 0 ∙ ap (onward (To es (i ∷ []))) f ∙ ap (onward (λ k. Some k)) old in
              elim (to_cases is (front ++ i ∷ []) o.0 m on o.2) [
                | inl led ↦ inl (ap (onward (To es is)) old ∙ led)
                | inr new ↦ inr (sym (append_assoc front (i ∷ []) is) ∙ new.0, new.1)
              ]
          | inr new ↦
              let end = alone is m (ap (To (es ++ e ∷ []) is) (sym new.2) ∙ o.2) in
              let begins : front ≡ path = ok.one front path n f (at ∙ ap Some new.0) in
              inr (ap (λ x. front ++ i ∷ x) end.0 ∙ ap (λ x. x ++ i ∷ []) begins ∙ ap (λ x. path ++ x ∷ []) (sym new.1), end.1)
        ]

    pub nested_more : Nested (es ++ e ∷ [])
    nested_more = record {
      within = within_more;
      one = λ p q k a b. elim (to_cases p [] 0 k refl a) [
        | inl x ↦ elim (to_cases q [] 0 k refl b) [
          | inl y ↦ ok.one p q k x y
          | inr y ↦ let w = to_within es p 0 k (omega arith) x in absurd (omega (arith, w, y.1))
        ]
        | inr x ↦ elim (to_cases q [] 0 k refl b) [
          | inl y ↦ let w = to_within es q 0 k (omega arith) y in absurd (omega (arith, w, x.1))
          | inr y ↦ x.0 ∙ sym y.0
        ]
      ];
    }

    -- the new one is led to
    pub to_new : Child es (id e) (outer e) ≡ None → To (es ++ e ∷ []) (path ++ id e ∷ []) 0 ≡ Some (suc (length es))
    to_new h =
        to_append (es ++ e ∷ []) path (id e ∷ []) 0 ∙ ap (onward (To (es ++ e ∷ []) (id e ∷ []))) (to_kept es e path 0 (outer e) at)
        ∙ ap (onward (λ k. Some k)) (child_new es e h)

  -- ---- which lists of ids lead somewhere

  module _ (alike : List I → List I → Bool) (means : (p q : List I) → alike p q ≡ true → p ≡ q) (itself : (p : List I) → alike p p ≡ true) where
    -- those that are one of these
    abbrev pub Knows : List E → List (List I) → Type 0
    Knows es seen = (i : I) (is : List I) → is_some (To es (i ∷ is) 0) ≡ list_any (alike (i ∷ is)) seen

    pub knows_none : Knows [] []
    knows_none i is = refl

    any_more : (p q : List I) (seen : List (List I)) → list_any (alike p) (seen ++ q ∷ []) ≡ (list_any (alike p) seen || alike p q)
    any_more p q seen = list_any-append (alike p) seen (q ∷ []) ∙ ap (λ b. list_any (alike p) seen || b) (no_more (alike p q))
      where
        no_more : (b : Bool) → (b || false) ≡ b
        no_more true = refl
        no_more false = refl

    or_right : (a b : Bool) → b ≡ true → true ≡ (a || b)
    or_right true b h = refl
    or_right false b h = sym h

    or_false : (a b : Bool) → a ≡ false → b ≡ false → false ≡ (a || b)
    or_false true b h k = absurd cc
    or_false false b h k = sym k

    module _ (es : List E) (seen : List (List I)) (knows : Knows es seen) where
      -- one that is there already
      pub knows_again : (i : I) (is : List I) (m : ℕ) → To es (i ∷ is) 0 ≡ Some m → Knows es (seen ++ (i ∷ is) ∷ [])
      knows_again i is m at j js = go (alike (j ∷ js) (i ∷ is)) refl
        where
          go : (b : Bool) → alike (j ∷ js) (i ∷ is) ≡ b → is_some (To es (j ∷ js) 0) ≡ list_any (alike (j ∷ js)) (seen ++ (i ∷ is) ∷ [])
          go true e =
              ap is_some (ap (λ p. To es p 0) (means (j ∷ js) (i ∷ is) e) ∙ at)
              ∙ or_right (list_any (alike (j ∷ js)) seen) (alike (j ∷ js) (i ∷ is)) e ∙ sym (any_more (j ∷ js) (i ∷ is) seen)
          go false e =
              knows j js ∙ or_none (list_any (alike (j ∷ js)) seen) ∙ ap (λ b. list_any (alike (j ∷ js)) seen || b) (sym e) ∙ sym (any_more (j ∷ js) (i ∷ is) seen)
            where
              or_none : (a : Bool) → a ≡ (a || false)
              or_none true = refl
              or_none false = refl

      -- one more
      pub knows_more : (e : E) (path : List I) (i : I) (is : List I) → Nested es → To es path 0 ≡ Some (outer e) → Child es (id e) (outer e) ≡ None
          → path ++ id e ∷ [] ≡ i ∷ is → Knows (es ++ e ∷ []) (seen ++ (i ∷ is) ∷ [])
      knows_more e path i is ok at fresh whole j js = go (To (es ++ e ∷ []) (j ∷ js) 0) refl
        where
          led : To (es ++ e ∷ []) (i ∷ is) 0 ≡ Some (suc (length es))
          led = ap (λ p. To (es ++ e ∷ []) p 0) (sym whole) ∙ to_new es e path ok at fresh

          go : (o : Option ℕ) → To (es ++ e ∷ []) (j ∷ js) 0 ≡ o → is_some o ≡ list_any (alike (j ∷ js)) (seen ++ (i ∷ is) ∷ [])
          go (Some m) to = elim (to_cases es e path ok at (j ∷ js) [] 0 m refl to) [
            | inl old ↦
                or_left (list_any (alike (j ∷ js)) seen) (alike (j ∷ js) (i ∷ is)) (sym (knows j js) ∙ ap is_some old) ∙ sym (any_more (j ∷ js) (i ∷ is) seen)
            | inr new ↦
                or_right (list_any (alike (j ∷ js)) seen) (alike (j ∷ js) (i ∷ is))
                (ap (λ p. alike p (i ∷ is)) (new.0 ∙ whole) ∙ itself (i ∷ is)) ∙ sym (any_more (j ∷ js) (i ∷ is) seen)
          ]
            where
              or_left : (a b : Bool) → a ≡ true → true ≡ (a || b)
              or_left true b h = refl
              or_left false b h = absurd cc
          go None to =
              or_false (list_any (alike (j ∷ js)) seen) (alike (j ∷ js) (i ∷ is)) (sym (knows j js) ∙ unknown (To es (j ∷ js) 0) refl) (other (alike (j ∷ js) (i ∷ is)) refl)
              ∙ sym (any_more (j ∷ js) (i ∷ is) seen)
            where
              unknown : (o : Option ℕ) → To es (j ∷ js) 0 ≡ o → is_some o ≡ false
              unknown None h = refl
              unknown (Some m) h = let none : None ≡ Some m = sym to ∙ to_kept es e (j ∷ js) 0 m h in absurd cc

              other : (b : Bool) → alike (j ∷ js) (i ∷ is) ≡ b → b ≡ false
              other false h = refl
              other true h =
                  let none : None ≡ Some (suc (length es)) = sym to ∙ ap (λ p. To (es ++ e ∷ []) p 0) (means (j ∷ js) (i ∷ is) h) ∙ led in
                  absurd cc
