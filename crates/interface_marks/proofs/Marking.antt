-- Rows of InterfaceImpl that are marked one after the other (II.22.23).
use Rattle.std.proofs.Common.{◌≡◌, ℕ, zero, suc, ◌+◌, ◌-◌, ◌<◌, ◌≤◌, ◌⊎◌, inl, inr, Bool, true, false, cond, nat_eq, List, [], ◌∷◌, ◌++◌, length, Option, Some, None, refl, sym, ◌∙◌, ap, subst, arith, length-append}
use Rattle.std.specs.Prelude.{slice_index, slice_index_or}
use Rattle.std.proofs.lemmas.Bool.{cases_eq, eq-eqb, ne_eqb}
use Rattle.std.proofs.lemmas.Option.{none-some}
use Rattle.hash_places.specs.Slots.{place_of}
use Rattle.hash_places.specs.declared.slots.Slot.{Slot}
use Rattle.image_model.specs.Columns.{interface_class}
use Rattle.image_model.specs.Rows.{count_of, HasRow}
use Rattle.row_groups.specs.Ranges.{Ascends}
use Rattle.row_groups.proofs.Ranges.{rises_to}
use Rattle.told_weights.specs.Fresh.{AreFresh, NumberTypes}
use Rattle.interface_marks.specs.Marking.{IsAlike, AreMarked, AreLast}

abbrev value_or : {X : Type 0} → X → Option X → X
value_or d None = d
value_or d (Some x) = x

some_same : {X : Type 0} (x y : X) → Some x ≡ Some y → x ≡ y
some_same x y s = ap (value_or x) s

-- ---- what rows name

module _ (image : List ℕ) (numbers : List ℕ) where
  pub marks_are : (marks : List Bool) → NumberTypes image numbers → AreMarked image numbers (count_of image 0x09) marks → AreFresh image marks
  marks_are marks tell are names namings = record {
    marked = λ row earlier there mark h.
        let before : HasRow image 0x09 earlier = (h.0, (let l = h.1 in let u = there.1 in omega arith)) in
        are.marked row earlier h.0 h.1 there.1 mark (h.2, (tell names earlier row namings before there).1 h.3);
    others = λ row there mark.
        let e = are.others row there.0 there.1 mark in
        let before : HasRow image 0x09 e.0 = (e.1, (let l = e.2 in let u = there.1 in omega arith)) in
        (e.0, (e.1, e.2, e.3.0, (tell names e.0 row namings before there).0 e.3.1));
  }

  -- ---- one row more

  front : (marks : List Bool) (b : Bool) (k : ℕ) → k < length marks → slice_index_or (marks ++ b ∷ []) k false ≡ slice_index_or marks k false
  front [] b k less = absurd (omega arith)
  front (m ∷ marks) b zero less = refl
  front (m ∷ marks) b (suc k) less = front marks b k (omega arith)

  last_one : (marks : List Bool) (b : Bool) (k : ℕ) → k ≡ length marks → slice_index_or (marks ++ b ∷ []) k false ≡ b
  last_one [] b zero e = refl
  last_one [] b (suc k) e = absurd (omega arith)
  last_one (m ∷ marks) b zero e = absurd (omega arith)
  last_one (m ∷ marks) b (suc k) e = last_one marks b k (omega arith)

  pub none_marked : (marks : List Bool) → length marks ≡ 1 → AreMarked image numbers 0 marks
  none_marked marks long = record {
    long = omega (arith, long);
    marked = λ row earlier some less le. absurd (omega arith);
    others = λ row some le. absurd (omega arith);
  }

  pub one_marked : (upto : ℕ) (marks more : List Bool) (fresh : Bool) → more ≡ marks ++ fresh ∷ [] → AreMarked image numbers upto marks
      → (fresh ≡ true → (earlier : ℕ) → 0 < earlier → earlier < upto + 1 → IsAlike image numbers earlier (upto + 1) → ⊥)
      → (fresh ≡ false → (earlier : ℕ) × (0 < earlier) × (earlier < upto + 1) × IsAlike image numbers earlier (upto + 1)) → AreMarked image numbers (upto + 1) more
  one_marked upto marks more fresh e are marks_it leaves_it = record {
    long = ap length e ∙ length-append marks (fresh ∷ []) ∙ (let l = are.long in omega arith);
    marked = λ row earlier some less le mark. elim (cases_eq row (upto + 1)) [
      | inl is ↦
          λ h.
          let m : fresh ≡ true = sym (last_one marks fresh (upto + 1) (sym are.long)) ∙ sym (ap (λ (l : List Bool). slice_index_or l (upto + 1) false) e) ∙ ap (λ (k : ℕ). slice_index_or more k false) (sym is) ∙ mark in
          marks_it m earlier some (omega (arith, less, is)) (subst (IsAlike image numbers earlier) is h)
      | inr other ↦
          λ h.
          let m = sym (front marks fresh row (let l = are.long in omega arith)) ∙ sym (ap (λ (l : List Bool). slice_index_or l row false) e) ∙ mark in
          are.marked row earlier some less (omega arith) m h
    ];
    others = λ row some le mark. elim (cases_eq row (upto + 1)) [
      | inl is ↦
          let m : fresh ≡ false = sym (last_one marks fresh (upto + 1) (sym are.long)) ∙ sym (ap (λ (l : List Bool). slice_index_or l (upto + 1) false) e) ∙ ap (λ (k : ℕ). slice_index_or more k false) (sym is) ∙ mark in
          let b = leaves_it m in
          (b.0, b.1, (let l = b.2 in omega (arith, l, is)), subst (IsAlike image numbers b.0) (sym is) b.3)
      | inr other ↦
          let m = sym (front marks fresh row (let l = are.long in omega arith)) ∙ sym (ap (λ (l : List Bool). slice_index_or l row false) e) ∙ mark in
          are.others row some (omega arith) m
    ];
  }

  -- ---- the last rows of numbers

  pub none_last : (last : List Slot) → ((h : ℕ) → place_of last h ≡ None) → AreLast image numbers 0 last
  none_last last none = record {
    some = λ number row e. absurd (none-some row (sym (none number) ∙ e));
    most = λ number row k e some le. absurd (omega arith);
    none = λ number k e some le. absurd (omega arith);
  }

  module _ (rise : Ascends image 0x09 0) (row : ℕ) (there : HasRow image 0x09 row) (last : List Slot) (are : AreLast image numbers (row - 1) last) (number : ℕ) (is : slice_index numbers row ≡ number) where
    before_it : (k : ℕ) → 0 < k → k ≤ row → interface_class image k ≤ interface_class image row
    before_it k some le = rises_to image 0x09 0 rise k row some le there.1

    before_or : (k : ℕ) → k ≤ row → (k ≡ row) ⊎ (k ≤ row - 1)
    before_or k le = elim (cases_eq k row) [ inl e ↦ inl e | inr n ↦ inr (omega arith) ]

    pub there_before : (q k : ℕ) → place_of last q ≡ Some k → HasRow image 0x09 k
    there_before q k e = let s = are.some q k e in (s.0, (let l = s.1 in let u = there.1 in omega arith))

    -- where the last row of its number has another class, no earlier row is alike
    pub is_fresh : ((k : ℕ) → place_of last number ≡ Some k → interface_class image k ≡ interface_class image row → ⊥)
        → (earlier : ℕ) → 0 < earlier → earlier < row → IsAlike image numbers earlier row → ⊥
    is_fresh leaves_it earlier some less h = go (place_of last number) refl
      where
        go : (o : Option ℕ) → place_of last number ≡ o → ⊥
        go None e = are.none number earlier e some (omega arith) (h.1 ∙ is)
        go (Some k) e =
            let s = are.some number k e in
            let most = are.most number k earlier e some (omega arith) (h.1 ∙ is) in
            let up = before_it k s.0 (let l = s.1 in omega arith) in
            let c = h.0 in
            leaves_it k e (omega (arith, most, up, c))

    pub is_alike : (k : ℕ) → place_of last number ≡ Some k → interface_class image k ≡ interface_class image row → (earlier : ℕ) × (0 < earlier) × (earlier < row) × IsAlike image numbers earlier row
    is_alike k e same = let s = are.some number k e in (k, s.0, (let l = s.1 in let t = there.0 in omega arith), (same, s.2 ∙ sym is))

    -- the row isn't kept
    pub last_stays : (k : ℕ) → place_of last number ≡ Some k → interface_class image k ≡ interface_class image row → AreLast image numbers row last
    last_stays k e same = record {
      some = λ q r f. let s = are.some q r f in (s.0, (let l = s.1 in omega arith), s.2);
      most = λ q r j f some le c. elim (before_or j le) [
        | inl at ↦
            let n : number ≡ q = sym is ∙ ap (λ (i : ℕ). slice_index numbers i) (sym at) ∙ c in
            let one : k ≡ r = some_same k r (sym e ∙ ap (place_of last) n ∙ f) in
            let a = ap (interface_class image) at in
            let b = ap (interface_class image) one in
            omega (arith, a, b, same)
        | inr earlier ↦ are.most q r j f some earlier c
      ];
      none = λ q j f some le c. elim (before_or j le) [
        | inl at ↦
            let n : number ≡ q = sym is ∙ ap (λ (i : ℕ). slice_index numbers i) (sym at) ∙ c in
            none-some k (sym f ∙ ap (place_of last) (sym n) ∙ e)
        | inr earlier ↦ are.none q j f some earlier c
      ];
    }

    -- the row is kept
    pub last_put : (put : List Slot) → ((q : ℕ) → place_of put q ≡ cond (nat_eq number q) (Some row) (place_of last q)) → AreLast image numbers row put
    last_put put h = record {
      some = λ q r f. some_at q r f (cases_eq number q);
      most = λ q r j f some le c. most_at q r j f some le c (cases_eq number q);
      none = λ q j f some le c. none_at q j f some le c (cases_eq number q);
    }
      where
        mine : (q : ℕ) → number ≡ q → place_of put q ≡ Some row
        mine q e = h q ∙ ap (λ (b : Bool). cond b (Some row) (place_of last q)) (eq-eqb number q e)

        others : (q : ℕ) → (number ≡ q → ⊥) → place_of put q ≡ place_of last q
        others q n = h q ∙ ap (λ (b : Bool). cond b (Some row) (place_of last q)) (ne_eqb number q n)

        some_at : (q r : ℕ) → place_of put q ≡ Some r → (number ≡ q) ⊎ (number ≡ q → ⊥) → (0 < r) × (r ≤ row) × (slice_index numbers r ≡ q)
        some_at q r f (inl e) =
            let one : row ≡ r = some_same row r (sym (mine q e) ∙ f) in
            subst (λ (r : ℕ). (0 < r) × (r ≤ row) × (slice_index numbers r ≡ q)) one (there.0, omega arith, is ∙ e)
        some_at q r f (inr n) = let s = are.some q r (sym (others q n) ∙ f) in (s.0, (let l = s.1 in omega arith), s.2)

        most_at : (q r j : ℕ) → place_of put q ≡ Some r → 0 < j → j ≤ row → slice_index numbers j ≡ q → (number ≡ q) ⊎ (number ≡ q → ⊥) → interface_class image j ≤ interface_class image r
        most_at q r j f some le c (inl e) =
            let one : row ≡ r = some_same row r (sym (mine q e) ∙ f) in
            subst (λ (r : ℕ). interface_class image j ≤ interface_class image r) one (before_it j some le)
        most_at q r j f some le c (inr n) = elim (before_or j le) [
          | inl at ↦ absurd (n (sym is ∙ ap (λ (i : ℕ). slice_index numbers i) (sym at) ∙ c))
          | inr earlier ↦ are.most q r j (sym (others q n) ∙ f) some earlier c
        ]

        none_at : (q j : ℕ) → place_of put q ≡ None → 0 < j → j ≤ row → slice_index numbers j ≡ q → (number ≡ q) ⊎ (number ≡ q → ⊥) → ⊥
        none_at q j f some le c (inl e) = none-some row (sym f ∙ mine q e)
        none_at q j f some le c (inr n) = elim (before_or j le) [
          | inl at ↦ n (sym is ∙ ap (λ (i : ℕ). slice_index numbers i) (sym at) ∙ c)
          | inr earlier ↦ are.none q j (sym (others q n) ∙ f) some earlier c
        ]
