-- What a search finds in slots, and what stands there once a hash was given a place.
use Rattle.std.proofs.Common.{◌≡◌, ℕ, zero, suc, ◌+◌, ◌-◌, ◌/◌, ◌^◌, ◌<◌, ◌≤◌, ◌⊎◌, inl, inr, List, [], ◌∷◌, Option, Some, None, length, cond, min, refl, sym, ap, subst, ◌∙◌, arith}
use Rattle.std.specs.Prelude.{true, false, ◌&&◌, slice_get, slice_set, slice_index_or, nat_eq, nat_lt, replicate, bit_xor}
use Rattle.std.proofs.lemmas.Bool.{cases_Bool, cases_eq, cases_lt, cases_order, eq-eqb, eqb-true, lt-ltb, ltb-true, le-ltb}
use Rattle.std.proofs.lemmas.Nat.{and_le_r}
use Rattle.std.proofs.lemmas.Option.{get_or_from_slice_get, same_Some, slice_get_within}
use Rattle.hash_places.specs.Slots.{AreEmpty, AreOther, AreReached, IsBefore, IsStop, place_in, place_of, spread, start_of, used_in}
use Rattle.hash_places.specs.declared.slots.Slot.{Slot}

-- ---- where a search begins, and which of two slots it comes to first

pub start_within : (count hash : ℕ) → 0 < count → start_of count hash < count
unfolding start_of
start_within count hash some = let below = and_le_r (bit_xor (spread hash) (spread hash / 2 ^ 32)) (count - 1) in omega (arith, below)

one_first : (start j k : ℕ) → (j ≡ k → ⊥) → IsBefore start j k ⊎ IsBefore start k j
one_first start j k apart = elim (cases_order j k) [
  | inl same ↦ absurd (apart same)
  | inr (inl less) ↦ elim (cases_lt j start) [
    | inr above ↦ inl (inl (above, less))
    | inl below ↦ elim (cases_lt k start) [
      | inr over ↦ inr (inr (below, inl over))
      | inl under ↦ inl (inr (under, inr less))
    ]
  ]
  | inr (inr more) ↦ elim (cases_lt k start) [
    | inr above ↦ inr (inl (above, more))
    | inl below ↦ elim (cases_lt j start) [
      | inr over ↦ inl (inr (below, inl over))
      | inl under ↦ inr (inr (under, inr more))
    ]
  ]
]

not_itself : (start k : ℕ) → IsBefore start k k → ⊥
not_itself start k (inl (a, b)) = omega (arith, b)
not_itself start k (inr (a, inl b)) = omega (arith, a, b)
not_itself start k (inr (a, inr b)) = omega (arith, b)

-- ---- what has a place

abbrev pub Holds : List Slot → ℕ → ℕ → Type 0
Holds slots hash place = (k : ℕ) × (s : Slot) × (slice_get slots k ≡ Some s) × (s.hash ≡ hash) × (s.place ≡ suc place)

is_own : (s : Slot) (hash : ℕ) → (nat_lt 0 s.place && nat_eq s.hash hash) ≡ true → (0 < s.place) × (s.hash ≡ hash)
is_own s hash e = elim (cases_Bool (nat_lt 0 s.place)) [
  | inr n ↦ let f : (false && nat_eq s.hash hash) ≡ true = rw n at e in absurd cc
  | inl y ↦ let f : (true && nat_eq s.hash hash) ≡ true = rw y at e in (ltb-true 0 s.place y, eqb-true s.hash hash f)
]

own : (s : Slot) (hash : ℕ) → 0 < s.place → s.hash ≡ hash → (nat_lt 0 s.place && nat_eq s.hash hash) ≡ true
own s hash used same = rw (lt-ltb 0 s.place used, eq-eqb s.hash hash same) refl

holds_of : (slots : List Slot) (hash place : ℕ) → place_of slots hash ≡ Some place → Holds slots hash place
holds_of [] hash place e = absurd cc
holds_of (s ∷ more) hash place e = elim (cases_Bool (nat_lt 0 s.place && nat_eq s.hash hash)) [
  | inl y ↦
      let o = is_own s hash y in
      let f : cond true (Some (s.place - 1)) (place_of more hash) ≡ Some place = rw y at e in
      let same = same_Some (s.place - 1) place f in
      (0, s, refl, o.1, omega (arith, o.0, same))
  | inr n ↦
      let f : cond false (Some (s.place - 1)) (place_of more hash) ≡ Some place = rw n at e in
      let h = holds_of more hash place f in
      (suc h.0, h.1, h.2, h.3, h.4)
]

none_here : (t : Slot) (more : List Slot) (hash : ℕ) → place_of (t ∷ more) hash ≡ None
    → ((nat_lt 0 t.place && nat_eq t.hash hash) ≡ false) × (place_of more hash ≡ None)
none_here t more hash e = elim (cases_Bool (nat_lt 0 t.place && nat_eq t.hash hash)) [
  | inl y ↦ let f : cond true (Some (t.place - 1)) (place_of more hash) ≡ None = rw y at e in absurd cc
  | inr n ↦ let f : cond false (Some (t.place - 1)) (place_of more hash) ≡ None = rw n at e in (n, f)
]

none_of : (slots : List Slot) (hash : ℕ) → place_of slots hash ≡ None → (place k : ℕ) (s : Slot) → slice_get slots k ≡ Some s → s.hash ≡ hash → s.place ≡ suc place → ⊥
none_of [] hash e place k s at same is = absurd cc
none_of (t ∷ more) hash e place zero s at same is =
    let eq : t ≡ s = same_Some t s at in
    let n : (nat_lt 0 s.place && nat_eq s.hash hash) ≡ false = rw eq at (none_here t more hash e).0 in
    let y : (nat_lt 0 s.place && nat_eq s.hash hash) ≡ true = own s hash (omega (arith, is)) same in
    absurd cc
none_of (t ∷ more) hash e place (suc k) s at same is = none_of more hash (none_here t more hash e).1 place k s at same is

cases_place : (o : Option ℕ) → (o ≡ None) ⊎ ((p : ℕ) × (o ≡ Some p))
cases_place None = inl refl
cases_place (Some p) = inr (p, refl)

module _ (slots : List Slot) (ok : AreReached slots) where
  -- no two slots have one hash
  pub only_one : (j k : ℕ) (s t : Slot) → slice_get slots j ≡ Some s → slice_get slots k ≡ Some t → 0 < s.place → 0 < t.place → s.hash ≡ t.hash → j ≡ k
  only_one j k s t here there used also same = elim (cases_eq j k) [
    | inl e ↦ e
    | inr apart ↦ elim (one_first (start_of (length slots) t.hash) j k apart) [
      | inl first ↦ absurd ((ok k t there also j s here first).1 same)
      | inr last ↦
          let other = ok j s here used k t there (subst (λ h. IsBefore (start_of (length slots) h) k j) (sym same) last) in
          absurd (other.1 (sym same))
    ]
  ]

  pub place_is : (hash place k : ℕ) (s : Slot) → slice_get slots k ≡ Some s → s.hash ≡ hash → s.place ≡ suc place → place_of slots hash ≡ Some place
  place_is hash place k s at same is = elim (cases_place (place_of slots hash)) [
    | inl none ↦ absurd (none_of slots hash none place k s at same is)
    | inr (p, some) ↦
        let g = holds_of slots hash p some in
        let here : g.0 ≡ k = only_one g.0 k g.1 s g.2 at (omega (arith, g.4)) (omega (arith, is)) (g.3 ∙ sym same) in
        let eq : g.1 ≡ s = same_Some g.1 s (sym g.2 ∙ ap (slice_get slots) here ∙ at) in
        let places : suc p ≡ suc place = sym g.4 ∙ ap (λ (t : Slot). t.place) eq ∙ is in
        some ∙ ap Some (omega (arith, places))
  ]

  -- where a search ends
  module _ (hash k : ℕ) (stop : IsStop slots hash k) where
    -- no other slot is used for the hash
    pub stop_only : (m : ℕ) (s : Slot) → slice_get slots m ≡ Some s → 0 < s.place → s.hash ≡ hash → m ≡ k
    stop_only m s at used same = elim (cases_eq m k) [
      | inl e ↦ e
      | inr apart ↦ elim (one_first (start_of (length slots) hash) m k apart) [
        | inl first ↦ absurd ((stop.before m s at first).1 same)
        | inr last ↦
            let other = ok m s at used k stop.here.0 stop.here.1 (subst (λ h. IsBefore (start_of (length slots) h) k m) (sym same) last) in
            elim stop.here.2 [
              | inl empty ↦ absurd (omega (arith, other.0, empty))
              | inr own ↦ absurd (other.1 (own ∙ sym same))
            ]
      ]
    ]

    pub stop_place : (s : Slot) → slice_get slots k ≡ Some s → place_in s.place ≡ place_of slots hash
    stop_place s at = elim (cases_lt 0 s.place) [
      | inl used ↦
          let eq : stop.here.0 ≡ s = same_Some stop.here.0 s (sym stop.here.1 ∙ at) in
          let own : s.hash ≡ hash = elim stop.here.2 [
            | inl empty ↦ let e : s.place ≡ 0 = sym (ap (λ (t : Slot). t.place) eq) ∙ empty in absurd (omega (arith, used, e))
            | inr same ↦ sym (ap (λ (t : Slot). t.hash) eq) ∙ same
          ] in
          rw (lt-ltb 0 s.place used) (sym (place_is hash (s.place - 1) k s at own (omega (arith, used))))
      | inr empty ↦ rw (le-ltb 0 s.place empty) (elim (cases_place (place_of slots hash)) [
        | inl none ↦ sym none
        | inr (p, some) ↦
            let g = holds_of slots hash p some in
            let here : g.0 ≡ k = stop_only g.0 g.1 g.2 (omega (arith, g.4)) g.3 in
            let eq : g.1 ≡ s = same_Some g.1 s (sym g.2 ∙ ap (slice_get slots) here ∙ at) in
            let places : s.place ≡ suc p = sym (ap (λ (t : Slot). t.place) eq) ∙ g.4 in
            absurd (omega (arith, places, empty))
      ])
    ]

-- the slot where a search ends, as the code reads it
pub stop_read : (slots : List Slot) (hash k : ℕ) (none : Slot) → IsStop slots hash k → slice_get slots k ≡ Some (slice_index_or slots k none)
stop_read slots hash k none stop = stop.here.1 ∙ ap Some (sym (get_or_from_slice_get slots k stop.here.0 none stop.here.1))

-- a search that ends nowhere
pub none_place : (slots : List Slot) (hash : ℕ) → AreOther slots hash → place_of slots hash ≡ None
none_place slots hash others = elim (cases_place (place_of slots hash)) [
  | inl none ↦ none
  | inr (p, some) ↦ let g = holds_of slots hash p some in absurd ((others g.0 g.1 g.2).1 g.3)
]

-- ---- slots that aren't used, and how many are

pub all_used : (slots : List Slot) → ((k : ℕ) (s : Slot) → slice_get slots k ≡ Some s → 0 < s.place) → used_in slots ≡ length slots
all_used [] used = refl
all_used (s ∷ more) used =
    let one = used 0 s refl in
    let rest = all_used more (λ k t at. used (suc k) t at) in
    omega (arith, one, rest)

pub none_used : (slots : List Slot) → AreEmpty slots → used_in slots ≡ 0
none_used [] empty = refl
none_used (s ∷ more) empty =
    let one = empty 0 s refl in
    let rest = none_used more (λ k t at. empty (suc k) t at) in
    omega (arith, one, rest)

pub empty_reached : (slots : List Slot) → AreEmpty slots → AreReached slots
empty_reached slots empty k s at used = let e = empty k s at in absurd (omega (arith, used, e))

pub empty_place : (slots : List Slot) → AreEmpty slots → (hash : ℕ) → place_of slots hash ≡ None
empty_place slots empty hash = elim (cases_place (place_of slots hash)) [
  | inl none ↦ none
  | inr (p, some) ↦ let g = holds_of slots hash p some in let e = empty g.0 g.1 g.2 in absurd (omega (arith, e, g.4))
]

pub empty_slots_are : (slots : List Slot) (s : Slot) (n : ℕ) → slots ≡ replicate n s → s.place ≡ 0 → AreEmpty slots
empty_slots_are slots s n e none k t at = go n k (subst (λ ss. slice_get ss k ≡ Some t) e at)
  where
    go : (n k : ℕ) → slice_get (replicate n s) k ≡ Some t → t.place ≡ 0
    go zero k at = absurd cc
    go (suc n) zero at = ap (λ (x : Slot). x.place) (sym (same_Some s t at)) ∙ none
    go (suc n) (suc k) at = go n k at

-- ---- a slot that is written

set_cases : (xs : List Slot) (k : ℕ) (x : Slot) (j : ℕ) (y : Slot) → slice_get (slice_set xs k x) j ≡ Some y
    → ((j ≡ k) × (y ≡ x)) ⊎ ((j ≡ k → ⊥) × (slice_get xs j ≡ Some y))
set_cases [] k x j y at = absurd cc
set_cases (z ∷ xs) zero x zero y at = inl (refl, sym (same_Some x y at))
set_cases (z ∷ xs) zero x (suc j) y at = inr ((λ e. omega (arith, e)), at)
set_cases (z ∷ xs) (suc k) x zero y at = inr ((λ e. omega (arith, e)), at)
set_cases (z ∷ xs) (suc k) x (suc j) y at = elim (set_cases xs k x j y at) [
  | inl h ↦ inl (ap suc h.0, h.1)
  | inr h ↦ inr ((λ e. h.0 (omega (arith, e))), h.1)
]

set_here : (xs : List Slot) (k : ℕ) (x y : Slot) → slice_get xs k ≡ Some y → slice_get (slice_set xs k x) k ≡ Some x
set_here [] k x y at = absurd cc
set_here (z ∷ xs) zero x y at = refl
set_here (z ∷ xs) (suc k) x y at = set_here xs k x y at

set_other : (xs : List Slot) (k j : ℕ) (x y : Slot) → (j ≡ k → ⊥) → slice_get xs j ≡ Some y → slice_get (slice_set xs k x) j ≡ Some y
set_other [] k j x y n at = absurd cc
set_other (z ∷ xs) zero zero x y n at = absurd (n refl)
set_other (z ∷ xs) zero (suc j) x y n at = at
set_other (z ∷ xs) (suc k) zero x y n at = at
set_other (z ∷ xs) (suc k) (suc j) x y n at = set_other xs k j x y (λ e. n (ap suc e)) at

pub set_long : (xs : List Slot) (k : ℕ) (x : Slot) → length (slice_set xs k x) ≡ length xs
set_long [] k x = refl
set_long (z ∷ xs) zero x = refl
set_long (z ∷ xs) (suc k) x = ap suc (set_long xs k x)

pub set_counted : (xs : List Slot) (k : ℕ) (x y : Slot) → slice_get xs k ≡ Some y → used_in (slice_set xs k x) + min 1 y.place ≡ used_in xs + min 1 x.place
set_counted [] k x y at = absurd cc
set_counted (z ∷ xs) zero x y at = let e = ap (λ (t : Slot). t.place) (same_Some z y at) in rw e (omega arith)
set_counted (z ∷ xs) (suc k) x y at = let h = set_counted xs k x y at in omega (arith, h)

module _ (slots : List Slot) (ok : AreReached slots) (hash k place : ℕ) (stop : IsStop slots hash k) (used : 0 < place) where
  abbrev pub new : Slot
  new = record { hash = hash; place = place }

  pub put_reached : AreReached (slice_set slots k new)
  put_reached m s at some j t there before = elim (set_cases slots k new m s at) [
    | inl own ↦ elim (set_cases slots k new j t there) [
      | inl also ↦ absurd (not_itself (start_of (length (slice_set slots k new)) s.hash) k
          (subst (λ n. IsBefore (start_of (length (slice_set slots k new)) s.hash) n k) also.0 (subst (λ n. IsBefore (start_of (length (slice_set slots k new)) s.hash) j n) own.0 before)))
      | inr old ↦
          let same : s.hash ≡ hash = ap (λ (x : Slot). x.hash) own.1 in
          let first : IsBefore (start_of (length slots) hash) j k = rw (set_long slots k new, same, own.0) at before in
          rw same (stop.before j t old.1 first)
    ]
    | inr was ↦ elim (set_cases slots k new j t there) [
      | inl also ↦ rw also.1 (used, λ same. was.0 (stop_only slots ok hash k stop m s was.1 some (sym same)))
      | inr old ↦ ok m s was.1 some j t old.1 (rw (set_long slots k new) at before)
    ]
  ]

  pub put_placed : (q : ℕ) → place_of (slice_set slots k new) q ≡ cond (nat_eq hash q) (Some (place - 1)) (place_of slots q)
  put_placed q =
      let at = set_here slots k new stop.here.0 stop.here.1 in
      let later : List Slot = slice_set slots k new in
      elim (cases_Bool (nat_eq hash q)) [
        | inl y ↦ rw y (place_is later put_reached q (place - 1) k new at (eqb-true hash q y) (omega (arith, used)))
        | inr n ↦
            let apart : hash ≡ q → ⊥ = λ e. let y = eq-eqb hash q e in absurd cc in
            rw n (elim (cases_place (place_of slots q)) [
              | inr (p, some) ↦
                  let g = holds_of slots q p some in
                  let elsewhere : g.0 ≡ k → ⊥ = λ e.
                  let eq : g.1 ≡ stop.here.0 = same_Some g.1 stop.here.0 (sym g.2 ∙ ap (slice_get slots) e ∙ stop.here.1) in
                  elim stop.here.2 [
                    | inl empty ↦ let z : g.1.place ≡ 0 = ap (λ (x : Slot). x.place) eq ∙ empty in absurd (omega (arith, z, g.4))
                    | inr own ↦ absurd (apart (sym own ∙ sym (ap (λ (x : Slot). x.hash) eq) ∙ g.3))
                  ] in
                  place_is later put_reached q p g.0 g.1 (set_other slots k g.0 new g.1 elsewhere g.2) g.3 g.4 ∙ sym some
              | inl none ↦ elim (cases_place (place_of later q)) [
                | inl also ↦ also ∙ sym none
                | inr (p, some) ↦
                    let g = holds_of later q p some in
                    elim (set_cases slots k new g.0 g.1 g.2) [
                      | inl own ↦ absurd (apart (sym (ap (λ (x : Slot). x.hash) own.1) ∙ g.3))
                      | inr old ↦ absurd (none_of slots q none p g.0 g.1 old.1 g.3 g.4)
                    ]
              ]
            ])
      ]

-- ---- the slots that are put into others, one by one

-- what is found in the others once the slots before `far` were put there
pub record ArePut (slots others : List Slot) (far : ℕ) : Type 0 where
  pub here : (j : ℕ) (s : Slot) → slice_get slots j ≡ Some s → j < far → 0 < s.place → place_of others s.hash ≡ Some (s.place - 1)
  pub only : (q p : ℕ) → place_of others q ≡ Some p → Holds slots q p

pub none_put : (slots others : List Slot) → AreEmpty others → ArePut slots others 0
none_put slots others empty = record {
  here = λ j s at less. absurd (omega (arith, less));
  only = λ q p at. let none = empty_place others empty q in absurd cc;
}

module _ (slots : List Slot) (ok : AreReached slots) (before after : List Slot) (i : ℕ) (s : Slot) (at : slice_get slots i ≡ Some s) (was : ArePut slots before i) where
  keep_here : s.place ≡ 0 → ((q : ℕ) → place_of after q ≡ place_of before q) → ArePut slots after (i + 1)
  keep_here empty same = record {
    here = λ j t there less used. elim (cases_eq j i) [
      | inl e ↦
          let eq : s ≡ t = same_Some s t (sym at ∙ ap (slice_get slots) (sym e) ∙ there) in
          let z : t.place ≡ 0 = sym (ap (λ (x : Slot). x.place) eq) ∙ empty in
          absurd (omega (arith, z, used))
      | inr apart ↦ same t.hash ∙ was.here j t there (omega (arith, less, apart)) used
    ];
    only = λ q p found. was.only q p (sym (same q) ∙ found);
  }

  put_here : 0 < s.place → ((q : ℕ) → place_of after q ≡ cond (nat_eq s.hash q) (Some (s.place - 1)) (place_of before q)) → ArePut slots after (i + 1)
  put_here used more = record {
    here = λ j t there less also. elim (cases_Bool (nat_eq s.hash t.hash)) [
      | inl y ↦
          let e : i ≡ j = only_one slots ok i j s t at there used also (eqb-true s.hash t.hash y) in
          let eq : s ≡ t = same_Some s t (sym at ∙ ap (slice_get slots) e ∙ there) in
          more t.hash ∙ ap (λ b. cond b (Some (s.place - 1)) (place_of before t.hash)) y ∙ ap (λ (x : Slot). Some (x.place - 1)) eq
      | inr n ↦
          let apart : j ≡ i → ⊥ = λ e.
          let eq : s ≡ t = same_Some s t (sym at ∙ ap (slice_get slots) (sym e) ∙ there) in
          let y = eq-eqb s.hash t.hash (ap (λ (x : Slot). x.hash) eq) in absurd cc in
          more t.hash ∙ ap (λ b. cond b (Some (s.place - 1)) (place_of before t.hash)) n ∙ was.here j t there (omega (arith, less, apart)) also
    ];
    only = λ q p found. elim (cases_Bool (nat_eq s.hash q)) [
      | inl y ↦
          let place : s.place - 1 ≡ p =
          same_Some (s.place - 1) p (sym (ap (λ b. cond b (Some (s.place - 1)) (place_of before q)) y) ∙ sym (more q) ∙ found) in
          (i, s, at, eqb-true s.hash q y, omega (arith, used, place))
      | inr n ↦ was.only q p (sym (ap (λ b. cond b (Some (s.place - 1)) (place_of before q)) n) ∙ sym (more q) ∙ found)
    ];
  }

  pub one_put : (s.place ≡ 0 → (q : ℕ) → place_of after q ≡ place_of before q)
      → (0 < s.place → (q : ℕ) → place_of after q ≡ cond (nat_eq s.hash q) (Some (s.place - 1)) (place_of before q)) → ArePut slots after (i + 1)
  one_put keeps puts = elim (cases_lt 0 s.place) [
    | inl used ↦ put_here used (puts used)
    | inr empty ↦ let e : s.place ≡ 0 = omega (arith, empty) in keep_here e (keeps e)
  ]

pub all_put : (slots others : List Slot) (far : ℕ) → length slots ≤ far → ArePut slots others far → (q : ℕ) → place_of others q ≡ place_of slots q
all_put slots others far all put q = elim (cases_place (place_of slots q)) [
  | inr (p, some) ↦
      let g = holds_of slots q p some in
      let within = slice_get_within slots g.0 g.1 g.2 in
      let e : g.1.place - 1 ≡ p = omega (arith, g.4) in
      ap (place_of others) (sym g.3) ∙ put.here g.0 g.1 g.2 (omega (arith, within, all)) (omega (arith, g.4)) ∙ ap Some e ∙ sym some
  | inl none ↦ elim (cases_place (place_of others q)) [
    | inl also ↦ also ∙ sym none
    | inr (p, some) ↦ let g = put.only q p some in absurd (none_of slots q none p g.0 g.1 g.2 g.3 g.4)
  ]
]
