-- The hash of a short name tells the name.
use Rattle.std.proofs.Common.{◌≡◌, ap, refl, sym, ◌∙◌, ℕ, zero, suc, ◌+◌, ◌-◌, ◌*◌, ◌/◌, ◌%◌, ◌^◌, ◌<◌, ◌≤◌, inl, inr, Bool, true, ◌&&◌, cond, List, [], ◌∷◌, take, fold, length, Option, Some, None, arith}
use Rattle.std.specs.Prelude.{slice_index, nat_lt}
use Rattle.std.specs.Cmp.{first_so, second_so}
use Rattle.std.specs.List.{list_all}
use Rattle.std.proofs.Math.Nat.{mod-eq_of_lt, mul_assoc, pow-le-pow_right}
use Rattle.std.proofs.Math.Seq.{take-suc, take-length}
use Rattle.std.proofs.lemmas.Bool.{cases_lt, cases_Bool, lt-ltb, ltb-true}
use Rattle.std.proofs.lemmas.List.Sums.{fold-append}
use Rattle.std.proofs.lemmas.Nat.{mul-mod_first, mul-mod_second}
use Rattle.type_terms.specs.declared.name.Scope.{Scope}
use Rattle.type_terms.specs.declared.name.Scope.TheVariants.{Here, Extern}
use Rattle.type_terms.specs.declared.name.TypeId.{TypeId}
use Rattle.type_terms.specs.declared.name.TypeName.{TypeName}
use Rattle.type_terms.specs.Hashing.{start, mix_name}
use Rattle.image_tokens.specs.NameHashes.{add_digit, number_of, spread, short_in, short_at, short_text, hash_by, name_hash}

abbrev pub are_bytes : List ℕ → Bool
are_bytes text = list_all (λ byte. nat_lt byte 256) text

pub bytes_pass : (text : List ℕ) → ((i : ℕ) → slice_index text i < 256) → are_bytes text ≡ true
bytes_pass [] small = refl
bytes_pass (b ∷ bs) small = ap (λ t. t && are_bytes bs) (lt-ltb b 256 (small 0)) ∙ bytes_pass bs (λ i. small (suc i))

bytes_at : (text : List ℕ) → are_bytes text ≡ true → (i : ℕ) → slice_index text i < 256
bytes_at [] h i = omega arith
bytes_at (b ∷ bs) h zero = ltb-true b 256 (first_so (nat_lt b 256) (are_bytes bs) h)
bytes_at (b ∷ bs) h (suc i) = bytes_at bs (second_so (nat_lt b 256) (are_bytes bs) h) i

-- ---- a text as a number

-- texts of one length behind which numbers are the same are the same
digits_told : (xs ys : List ℕ) (m n : ℕ) → length xs ≡ length ys → are_bytes xs ≡ true → are_bytes ys ≡ true
    → fold add_digit m xs ≡ fold add_digit n ys → (m ≡ n) × (xs ≡ ys)
digits_told [] [] m n long bx by e = (e, refl)
digits_told [] (y ∷ ys) m n long bx by e = absurd cc
digits_told (x ∷ xs) [] m n long bx by e = absurd cc
digits_told (x ∷ xs) (y ∷ ys) m n long bx by e =
    let sx = ltb-true x 256 (first_so (nat_lt x 256) (are_bytes xs) bx) in
    let sy = ltb-true y 256 (first_so (nat_lt y 256) (are_bytes ys) by) in
    let more = digits_told xs ys (add_digit m x) (add_digit n y) (omega (arith, long)) (second_so (nat_lt x 256) (are_bytes xs) bx) (second_so (nat_lt y 256) (are_bytes ys) by) e in
    let head : x ≡ y = omega (arith, more.0) in
    (omega (arith, more.0), ap (λ (z : ℕ). z ∷ xs) head ∙ ap (λ (zs : List ℕ). y ∷ zs) more.1)

-- a longer text behind a number over 0 ends at no number of a shorter one
longer_told : (xs ys : List ℕ) (k m : ℕ) → 0 < m → length xs ≡ length ys + k → are_bytes xs ≡ true → are_bytes ys ≡ true
    → fold add_digit m xs ≡ fold add_digit 1 ys → m ≡ 1
longer_told xs ys zero m some long bx by e = (digits_told xs ys m 1 (omega (arith, long)) bx by e).0
longer_told [] ys (suc k) m some long bx by e = absurd (omega (arith, long))
longer_told (x ∷ xs) ys (suc k) m some long bx by e =
    let up : add_digit m x ≡ 1 = longer_told xs ys k (add_digit m x) (omega (arith, some)) (omega (arith, long)) (second_so (nat_lt x 256) (are_bytes xs) bx) by e in
    absurd (omega (arith, up, some))

not_longer : (xs ys : List ℕ) → length ys < length xs → are_bytes xs ≡ true → are_bytes ys ≡ true → fold add_digit 1 xs ≡ fold add_digit 1 ys → ⊥
not_longer [] ys less bx by e = omega (arith, less)
not_longer (x ∷ xs) ys less bx by e =
    let up : add_digit 1 x ≡ 1 = longer_told xs ys (length xs - length ys) (add_digit 1 x) (omega arith) (omega (arith, less)) (second_so (nat_lt x 256) (are_bytes xs) bx) by e in
    omega (arith, up)

number_told : (xs ys : List ℕ) → are_bytes xs ≡ true → are_bytes ys ≡ true → number_of xs ≡ number_of ys → xs ≡ ys
unfolding number_of
number_told xs ys bx by e = elim (cases_lt (length xs) (length ys)) [
  | inl less ↦ absurd (not_longer ys xs less by bx (sym e))
  | inr le ↦ elim (cases_lt (length ys) (length xs)) [
    | inl less ↦ absurd (not_longer xs ys less bx by e)
    | inr also ↦ (digits_told xs ys 1 1 (omega (arith, le, also)) bx by e).1
  ]
]

-- the number of the first bytes of a text
pub number_below : (text : List ℕ) → ((i : ℕ) → slice_index text i < 256) → (k : ℕ) → k ≤ length text → fold add_digit 1 (take k text) < 2 * 256 ^ k
number_below text small zero le = omega arith
number_below text small (suc k) le =
    let before = number_below text small k (omega (arith, le)) in
    let byte = small k in
    let front = take-suc text k 0 (omega (arith, le)) in
    rw (front, fold-append add_digit 1 (take k text) (slice_index text k ∷ [])) (omega (arith, before, byte))

pub power_below : (k most : ℕ) → k ≤ most → 256 ^ k ≤ 256 ^ most
power_below k most le = pow-le-pow_right (omega arith) le

-- ---- numbers spread

collapse : (n : ℕ) → n % 2 ^ 64 % 2 ^ 54 ≡ n % 2 ^ 54
collapse n = omega arith

-- what stands before the last digit is found again
found_again : (n : ℕ) → n < 2 ^ 54 → (n * 0x9E3779B97F4A7C15 % 2 ^ 64 % 2 ^ 54) * 0x1E83E19937733D % 2 ^ 54 ≡ n
found_again n less =
    ap (λ z. z * 0x1E83E19937733D % 2 ^ 54) (collapse (n * 0x9E3779B97F4A7C15))
    ∙ mul-mod_first (n * 0x9E3779B97F4A7C15) 0x1E83E19937733D (2 ^ 54)
    ∙ ap (λ z. z % 2 ^ 54) (mul_assoc n 0x9E3779B97F4A7C15 0x1E83E19937733D)
    ∙ sym (mul-mod_second n (0x9E3779B97F4A7C15 * 0x1E83E19937733D) (2 ^ 54))
    ∙ ap (λ z. z % 2 ^ 54) (let one : n * 1 ≡ n = omega arith in one)
    ∙ mod-eq_of_lt less

parts_told : (a b r s : ℕ) → r < 256 → s < 256 → a * 256 + r ≡ b * 256 + s → (a ≡ b) × (r ≡ s)
parts_told a b r s first second e = (omega (arith, first, second, e), omega (arith, first, second, e))

joined : (m n : ℕ) → m / 256 ≡ n / 256 → m % 256 ≡ n % 256 → m ≡ n
joined m n high low = omega (arith, high, low)

spread_told : (m n : ℕ) → m < 2 ^ 62 → n < 2 ^ 62 → spread m ≡ spread n → m ≡ n
unfolding spread
spread_told m n first second e =
    let parts = parts_told (m / 256 * 0x9E3779B97F4A7C15 % 2 ^ 64 % 2 ^ 54) (n / 256 * 0x9E3779B97F4A7C15 % 2 ^ 64 % 2 ^ 54) (m % 256) (n % 256) (omega arith) (omega arith) e in
    let high : m / 256 ≡ n / 256 =
    sym (found_again (m / 256) (omega (arith, first))) ∙ ap (λ z. z * 0x1E83E19937733D % 2 ^ 54) parts.0 ∙ found_again (n / 256) (omega (arith, second)) in
    joined m n high parts.1

-- ---- names

-- what is known of the text of a short name
pub record IsTextOf (space name text : List ℕ) : Type 0 where
  pub nowhere : space ≡ []
  pub is : name ≡ text
  pub short : length text < 8
  pub bytes : are_bytes text ≡ true

short_in_told : (space name text : List ℕ) → short_in space name ≡ Some text → IsTextOf space name text
short_in_told [] name text h = elim (cases_Bool (nat_lt (length name) 8 && are_bytes name)) [
  | inl is_so ↦
      let e : Some name ≡ Some text = sym (ap (λ b. cond b (Some name) None) is_so) ∙ h in
      let is : name ≡ text = cc in
      record {
        nowhere = refl;
        is = is;
        short = rw (← is) (ltb-true (length name) 8 (first_so (nat_lt (length name) 8) (are_bytes name) is_so));
        bytes = rw (← is) (second_so (nat_lt (length name) 8) (are_bytes name) is_so);
      }
  | inr not_so ↦ let e : None ≡ Some text = sym (ap (λ b. cond b (Some name) None) not_so) ∙ h in absurd cc
]
short_in_told (b ∷ bs) name text h = absurd cc

pub short_in_is : (text : List ℕ) → length text ≤ 7 → ((i : ℕ) → slice_index text i < 256) → short_in [] text ≡ Some text
short_in_is text short small =
    ap (λ b. cond b (Some text) None) (ap (λ b. b && are_bytes text) (lt-ltb (length text) 8 (omega (arith, short))) ∙ bytes_pass text small)

pub record IsShort (scope : Scope) (path : List TypeId) (text : List ℕ) : Type 0 where
  pub here : scope ≡ Here
  pub is : path ≡ record { space = []; name = text } ∷ []
  pub short : length text < 8
  pub bytes : are_bytes text ≡ true

short_told : (scope : Scope) (path : List TypeId) (text : List ℕ) → short_at scope path ≡ Some text → IsShort scope path text
short_told Here [] text h = absurd cc
short_told Here (id ∷ []) text h =
    let t = short_in_told id.space id.name text h in
    record { here = refl; is = λ i. record { space = t.nowhere i; name = t.is i } ∷ []; short = t.short; bytes = t.bytes }
short_told Here (id ∷ next ∷ ids) text h = absurd cc
short_told (Extern k) path text h = absurd cc

number_small : (text : List ℕ) → length text < 8 → are_bytes text ≡ true → number_of text < 2 ^ 62
unfolding number_of
number_small text short bytes =
    let below = number_below text (bytes_at text bytes) (length text) (omega arith) in
    let power = power_below (length text) 7 (omega (arith, short)) in
    let whole : fold add_digit 1 (take (length text) text) ≡ fold add_digit 1 text = ap (fold add_digit 1) (take-length text) in
    omega (arith, below, power, whole)

same_text : (p q : Option (List ℕ)) (x y : ℕ) → ((t : List ℕ) → p ≡ Some t → (length t < 8) × (are_bytes t ≡ true)) → ((t : List ℕ) → q ≡ Some t → (length t < 8) × (are_bytes t ≡ true))
    → hash_by p x ≡ hash_by q y → hash_by p x < 2 ^ 63 → (t : List ℕ) × (p ≡ Some t) × (q ≡ Some t)
same_text None q x y of_p of_q e less = absurd (omega (arith, less))
same_text (Some t) None x y of_p of_q e less = absurd (omega (arith, less, e))
same_text (Some t) (Some u) x y of_p of_q e less =
    let a = of_p t refl in
    let b = of_q u refl in
    let number : number_of t ≡ number_of u = spread_told (number_of t) (number_of u) (number_small t a.0 a.1) (number_small u b.0 b.1) e in
    let is : t ≡ u = number_told t u a.1 b.1 number in
    (t, refl, ap Some (sym is))

-- names with one hash below 2^63 are one
pub name_told : (a b : TypeName) → name_hash a ≡ name_hash b → name_hash a < 2 ^ 63 → a ≡ b
unfolding name_hash
name_told a b e less =
    let same = same_text (short_text a) (short_text b) (mix_name start a) (mix_name start b)
    (λ t h. let s = short_told a.scope a.path t h in (s.short, s.bytes)) (λ t h. let s = short_told b.scope b.path t h in (s.short, s.bytes)) e less in
    let first = short_told a.scope a.path same.0 same.1 in
    let second = short_told b.scope b.path same.0 same.2 in
    let scopes : a.scope ≡ b.scope = first.here ∙ sym second.here in
    let paths : a.path ≡ b.path = first.is ∙ sym second.is in
    λ i. record { scope = scopes i; path = paths i }

pub hash_within : (text : List ℕ) → (hash : ℕ) → hash ≡ spread (number_of text) → hash < 2 ^ 63
unfolding spread
hash_within text hash e = omega (arith, e)
