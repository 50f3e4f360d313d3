-- What number_at and signed_at read is spelled so, and what is spelled so is read.
use Rattle.std.proofs.Common.{◌≡◌, ℕ, ◌+◌, ◌-◌, ◌*◌, ◌/◌, ◌%◌, ◌^◌, ◌<◌, ◌≤◌, ◌⊎◌, inl, inr, Bool, true, false, cond, nat_lt, nat_eq, ◌&&◌, ℤ, pos, negsuc, List, [], ◌∷◌, ◌++◌, length, take, drop, Option, Some, None, refl, sym, ap, subst, ◌∙◌, arith, length-append}
use Rattle.std.proofs.lemmas.Grind.{common_steps}
use Rattle.std.proofs.lemmas.List.{take-append-drop}
use Rattle.il_base.specs.Numbers.{Packed, PackedSigned, IsTurned, StandsAt, packed_bits}
use Rattle.sig_codec.specs.Reading.{◌>>=◌, Step, number_at, two_at, four_at, signed_at, turned_right}

-- a front that is spelled so, and what is behind it
pub record Took {X : Type 0} (Spells : List ℕ → X → Type 0) (bytes : List ℕ) (x : X) (rest : List ℕ) : Type 0 where
  pub front : List ℕ
  pub parts : bytes ≡ front ++ rest
  pub spelled : Spells front x

pub chosen : {A : Type 0} (b : Bool) (x y z : A) → cond b x y ≡ z → ((b ≡ true) × (x ≡ z)) ⊎ ((b ≡ false) × (y ≡ z))
chosen true x y z e = inl (refl, e)
chosen false x y z e = inr (refl, e)

abbrev pub done : {A : Type 0} → A → Option A
done x = Some x

pub some_is : {A : Type 0} (x y : A) → done x ≡ done y → x ≡ y
some_is x y e = cc

abbrev given : {X : Type 0} → X → List ℕ → Step X
given x rest = Some (x, rest)

both_are : {X : Type 0} (x y : X) (r s : List ℕ) → given x r ≡ given y s → (x ≡ y) × (r ≡ s)
both_are {X = X} x y r s e =
    let p : X × List ℕ = (x, r) in
    let q : X × List ℕ = (y, s) in
    let is = some_is p q e in
    (ap (λ (z : X × List ℕ). z.0) is, ap (λ (z : X × List ℕ). z.1) is)

one_takes : (a : ℕ) (more : List ℕ) (n : ℕ) (rest : List ℕ) → nat_lt a 128 ≡ true → given a more ≡ given n rest → Took Packed (a ∷ more) n rest
one_takes a more n rest lt e =
    let p = both_are a n more rest e in
    record { front = a ∷ []; parts = ap (λ (r : List ℕ). a ∷ r) p.1; spelled = (grind (arith, common_steps), p.0) }

two_takes : (a : ℕ) (more : List ℕ) (n : ℕ) (rest : List ℕ) → nat_lt a 128 ≡ false → nat_lt a 192 ≡ true → two_at a more ≡ Some (n, rest) → Took Packed (a ∷ more) n rest
two_takes a [] n rest lo hi e = absurd cc
two_takes a (b ∷ more) n rest lo hi e =
    elim (chosen (nat_lt b 256) (Some ((a - 128) * 256 + b, more)) None (Some (n, rest)) e) [
      | inl h ↦
          let p = both_are ((a - 128) * 256 + b) n more rest h.1 in
          let low : 128 ≤ a = grind (arith, common_steps) in
          let high : a < 192 = grind (arith, common_steps) in
          let byte : b < 256 = grind (arith, common_steps) in
          record { front = a ∷ b ∷ []; parts = ap (λ (r : List ℕ). a ∷ b ∷ r) p.1; spelled = (omega (arith, p.0), byte, omega (arith, p.0)) }
      | inr h ↦ absurd (let d = h.1 in cc)
    ]

below_all : (b c d k : ℕ) → (nat_lt b k && nat_lt c k && nat_lt d k) ≡ true → (b < k) × (c < k) × (d < k)
below_all b c d k e = (grind (arith, common_steps), grind (arith, common_steps), grind (arith, common_steps))

four_takes : (a : ℕ) (more : List ℕ) (n : ℕ) (rest : List ℕ) → nat_lt a 192 ≡ false → nat_lt a 224 ≡ true → four_at a more ≡ Some (n, rest) → Took Packed (a ∷ more) n rest
four_takes a [] n rest lo hi e = absurd cc
four_takes a (b ∷ []) n rest lo hi e = absurd cc
four_takes a (b ∷ c ∷ []) n rest lo hi e = absurd cc
four_takes a (b ∷ c ∷ d ∷ more) n rest lo hi e =
    elim (chosen (nat_lt b 256 && nat_lt c 256 && nat_lt d 256) (Some ((a - 192) * 2 ^ 24 + b * 2 ^ 16 + c * 2 ^ 8 + d, more)) None (Some (n, rest)) e) [
      | inl h ↦
          let p = both_are ((a - 192) * 2 ^ 24 + b * 2 ^ 16 + c * 2 ^ 8 + d) n more rest h.1 in
          let low : 192 ≤ a = grind (arith, common_steps) in
          let high : a < 224 = grind (arith, common_steps) in
          let byte = below_all b c d 256 h.0 in
          record { front = a ∷ b ∷ c ∷ d ∷ []; parts = ap (λ (r : List ℕ). a ∷ b ∷ c ∷ d ∷ r) p.1; spelled = (omega (arith, p.0, byte), byte.0, byte.1, byte.2, omega (arith, p.0, byte)) }
      | inr h ↦ absurd (let d = h.1 in cc)
    ]

-- the value of a step that found one
pub bind_some : {A B : Type 0} (r : Option A) (f : A → Option B) (y : B) → (r >>= f) ≡ Some y → (x : A) × (r ≡ Some x) × (f x ≡ Some y)
bind_some (Some x) f y e = (x, refl, e)
bind_some None f y e = absurd cc

pub number_takes : (bytes : List ℕ) (n : ℕ) (rest : List ℕ) → number_at bytes ≡ Some (n, rest) → Took Packed bytes n rest
unfolding number_at
number_takes [] n rest e = absurd cc
number_takes (a ∷ more) n rest e =
    elim (chosen (nat_lt a 128) (Some (a, more)) (cond (nat_lt a 192) (two_at a more) (cond (nat_lt a 224) (four_at a more) None)) (Some (n, rest)) e) [
      | inl h ↦ one_takes a more n rest h.0 h.1
      | inr h ↦ elim (chosen (nat_lt a 192) (two_at a more) (cond (nat_lt a 224) (four_at a more) None) (Some (n, rest)) h.1) [
        | inl k ↦ two_takes a more n rest h.0 k.0 k.1
        | inr k ↦ elim (chosen (nat_lt a 224) (four_at a more) None (Some (n, rest)) k.1) [
          | inl l ↦ four_takes a more n rest k.0 l.0 l.1
          | inr l ↦ absurd (let d = l.1 in cc)
        ]
      ]
    ]

pub number_again : (front : List ℕ) (n : ℕ) (rest : List ℕ) → Packed front n → number_at (front ++ rest) ≡ Some (n, rest)
unfolding number_at
number_again [] n rest h = absurd h
number_again (a ∷ []) n rest h = grind (arith, common_steps)
number_again (a ∷ b ∷ []) n rest h = grind (arith, common_steps)
number_again (a ∷ b ∷ c ∷ []) n rest h = absurd h
number_again (a ∷ b ∷ c ∷ d ∷ []) n rest h = grind (arith, common_steps)
number_again (a ∷ b ∷ c ∷ d ∷ x ∷ more) n rest h = absurd h

-- what stands at the front stands at place 0
pub stands_first : {X : Type 0} (Spells : List ℕ → X → Type 0) (bytes : List ℕ) (x : X) (rest : List ℕ) → (t : Took Spells bytes x rest) → StandsAt Spells bytes 0 x (length t.front)
stands_first Spells bytes x rest t =
    let whole : bytes ≡ t.front ++ rest = t.parts in
    let is : take (length t.front) (t.front ++ rest) ≡ t.front = grind (arith, common_steps) in
    rw whole (record { inside = omega (arith, length-append t.front rest); spelling = rw is t.spelled })

-- all that is behind a place
pub all_behind : (count : ℕ) (bytes : List ℕ) → take (length bytes - count) (drop count bytes) ≡ drop count bytes
all_behind count bytes = grind (arith, common_steps)

pub number_found : (bytes : List ℕ) (n count : ℕ) → StandsAt Packed bytes 0 n count → number_at bytes ≡ Some (n, drop count bytes)
number_found bytes n count h = subst (λ (b : List ℕ). number_at b ≡ Some (n, drop count bytes)) (take-append-drop count bytes) (number_again (take count bytes) n (drop count bytes) h.spelling)

pub number_lacks : (bytes : List ℕ) → ((n count : ℕ) → StandsAt Packed bytes 0 n count → ⊥) → number_at bytes ≡ None
number_lacks bytes lacks = go (number_at bytes) refl
  where
    go : (r : Step ℕ) → number_at bytes ≡ r → number_at bytes ≡ None
    go None e = e
    go (Some x) e = let t = number_takes bytes x.0 x.1 e in absurd (lacks x.0 (length t.front) (stands_first Packed bytes x.0 x.1 t))

-- ---- signed numbers

turned-7 : (t : ℕ) → t < 2 ^ 7 → IsTurned 7 (turned_right 7 t) t
turned-7 t lt = elim (chosen (nat_eq (t % 2) 0) (pos (t / 2)) (negsuc (2 ^ 6 - 1 - t / 2)) (turned_right 7 t) refl) [
  | inl h ↦ rw (sym h.1) (record { low = grind (arith, common_steps); high = grind (arith, common_steps); turns = grind (arith, common_steps) })
  | inr h ↦ rw (sym h.1) (record { low = grind (arith, common_steps); high = grind (arith, common_steps); turns = grind (arith, common_steps) })
]

turned-14 : (t : ℕ) → t < 2 ^ 14 → IsTurned 14 (turned_right 14 t) t
turned-14 t lt = elim (chosen (nat_eq (t % 2) 0) (pos (t / 2)) (negsuc (2 ^ 13 - 1 - t / 2)) (turned_right 14 t) refl) [
  | inl h ↦ rw (sym h.1) (record { low = grind (arith, common_steps); high = grind (arith, common_steps); turns = grind (arith, common_steps) })
  | inr h ↦ rw (sym h.1) (record { low = grind (arith, common_steps); high = grind (arith, common_steps); turns = grind (arith, common_steps) })
]

turned-29 : (t : ℕ) → t < 2 ^ 29 → IsTurned 29 (turned_right 29 t) t
turned-29 t lt = elim (chosen (nat_eq (t % 2) 0) (pos (t / 2)) (negsuc (2 ^ 28 - 1 - t / 2)) (turned_right 29 t) refl) [
  | inl h ↦ rw (sym h.1) (record { low = grind (arith, common_steps); high = grind (arith, common_steps); turns = grind (arith, common_steps) })
  | inr h ↦ rw (sym h.1) (record { low = grind (arith, common_steps); high = grind (arith, common_steps); turns = grind (arith, common_steps) })
]

turned : (front : List ℕ) (t : ℕ) → Packed front t → IsTurned (packed_bits (length front)) (turned_right (packed_bits (length front)) t) t
turned [] t h = absurd h
turned (a ∷ []) t h = turned-7 t h.0
turned (a ∷ b ∷ []) t h = turned-14 t h.0
turned (a ∷ b ∷ c ∷ []) t h = absurd h
turned (a ∷ b ∷ c ∷ d ∷ []) t h = turned-29 t h.0
turned (a ∷ b ∷ c ∷ d ∷ x ∷ more) t h = absurd h

unturned-7 : (z : ℤ) (t : ℕ) → IsTurned 7 z t → turned_right 7 t ≡ z
unturned-7 (pos n) t h = grind (arith, common_steps)
unturned-7 (negsuc n) t h = grind (arith, common_steps)

unturned-14 : (z : ℤ) (t : ℕ) → IsTurned 14 z t → turned_right 14 t ≡ z
unturned-14 (pos n) t h = grind (arith, common_steps)
unturned-14 (negsuc n) t h = grind (arith, common_steps)

unturned-29 : (z : ℤ) (t : ℕ) → IsTurned 29 z t → turned_right 29 t ≡ z
unturned-29 (pos n) t h = grind (arith, common_steps)
unturned-29 (negsuc n) t h = grind (arith, common_steps)

unturned : (front : List ℕ) (z : ℤ) (t : ℕ) → Packed front t → IsTurned (packed_bits (length front)) z t → turned_right (packed_bits (length front)) t ≡ z
unturned [] z t h is = absurd h
unturned (a ∷ []) z t h is = unturned-7 z t is
unturned (a ∷ b ∷ []) z t h is = unturned-14 z t is
unturned (a ∷ b ∷ c ∷ []) z t h is = absurd h
unturned (a ∷ b ∷ c ∷ d ∷ []) z t h is = unturned-29 z t is
unturned (a ∷ b ∷ c ∷ d ∷ x ∷ more) z t h is = absurd h

-- how many bytes a front has
front_length : (front rest : List ℕ) → length (front ++ rest) - length rest ≡ length front
front_length front rest = omega (arith, length-append front rest)

pub signed_again : (front : List ℕ) (z : ℤ) (rest : List ℕ) → PackedSigned front z → signed_at (front ++ rest) ≡ Some (z, rest)
unfolding signed_at
signed_again front z rest h =
    rw (number_again front h.0 rest h.2, front_length front rest, unturned front z h.0 h.2 h.1) refl

pub signed_takes : (bytes : List ℕ) (z : ℤ) (rest : List ℕ) → signed_at bytes ≡ Some (z, rest) → Took PackedSigned bytes z rest
unfolding signed_at
signed_takes bytes z rest e =
    let b = bind_some (number_at bytes) (λ n. Some (turned_right (packed_bits (length bytes - length n.1)) n.0, n.1)) (z, rest) e in
    let t = number_takes bytes b.0.0 b.0.1 b.1 in
    let p = both_are (turned_right (packed_bits (length bytes - length b.0.1)) b.0.0) z b.0.1 rest b.2 in
    let count : length bytes - length b.0.1 ≡ length t.front = ap (λ (x : List ℕ). length x - length b.0.1) t.parts ∙ front_length t.front b.0.1 in
    let value : turned_right (packed_bits (length t.front)) b.0.0 ≡ z = rw count at p.0 in
    record {
      front = t.front;
      parts = subst (λ (r : List ℕ). bytes ≡ t.front ++ r) p.1 t.parts;
      spelled = (b.0.0, subst (λ (v : ℤ). IsTurned (packed_bits (length t.front)) v b.0.0) value (turned t.front b.0.0 t.spelled), t.spelled);
    }

pub signed_found : (bytes : List ℕ) (z : ℤ) (count : ℕ) → StandsAt PackedSigned bytes 0 z count → signed_at bytes ≡ Some (z, drop count bytes)
signed_found bytes z count h = subst (λ (b : List ℕ). signed_at b ≡ Some (z, drop count bytes)) (take-append-drop count bytes) (signed_again (take count bytes) z (drop count bytes) h.spelling)

pub signed_lacks : (bytes : List ℕ) → ((z : ℤ) (count : ℕ) → StandsAt PackedSigned bytes 0 z count → ⊥) → signed_at bytes ≡ None
signed_lacks bytes lacks = go (signed_at bytes) refl
  where
    go : (r : Step ℤ) → signed_at bytes ≡ r → signed_at bytes ≡ None
    go None e = e
    go (Some x) e = let t = signed_takes bytes x.0 x.1 e in absurd (lacks x.0 (length t.front) (stands_first PackedSigned bytes x.0 x.1 t))
