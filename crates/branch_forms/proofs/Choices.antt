-- What making a branch long does to a choice of short branches.
use Rattle.std.proofs.Common.{◌≡◌, ◌≢◌, ◌∙◌, sym, ap, subst, refl, ℕ, zero, suc, ◌+◌, ◌-◌, ◌<◌, ◌≤◌, ◌⊎◌, inl, inr, Bool, true, false, List, [], ◌∷◌, length, map, Some, IsTrue, arith}
use Rattle.std.specs.List.{sum_by, slice_get, list_all}
use Rattle.std.proofs.Math.ListN.{set}
use Rattle.std.proofs.lemmas.Bool.Decides.{nat_tests}
use Rattle.std.proofs.lemmas.List.{take-set-le}
use Rattle.std.proofs.lemmas.List.Sums.{sum_by-cons}
use Rattle.std.proofs.lemmas.Option.{slice_get_within}
use Rattle.branch_forms.specs.declared.form.Form.{Form}
use Rattle.branch_forms.specs.declared.form.Form.TheVariants.{Fixed, Short, Long}
use Rattle.branch_forms.specs.Forms.{width, has_bytes, shortened, offset, is_near, is_near_at, IsShortTo, IsShort, Reaches, IsFar, IsValid, IsShortest}

-- ---- lists

get_set_same : {X : Type 0} (xs : List X) (k : ℕ) (x y : X) → slice_get xs k ≡ Some y → slice_get (set xs k x) k ≡ Some x
get_set_same [] k x y h = absurd cc
get_set_same (z ∷ xs) zero x y h = refl
get_set_same (z ∷ xs) (suc k) x y h = get_set_same xs k x y h

get_set_other : {X : Type 0} (xs : List X) (k : ℕ) (x : X) (j : ℕ) → j ≢ k → slice_get (set xs k x) j ≡ slice_get xs j
get_set_other [] k x j h = refl
get_set_other (z ∷ xs) zero x zero h = absurd (h refl)
get_set_other (z ∷ xs) zero x (suc j) h = refl
get_set_other (z ∷ xs) (suc k) x zero h = refl
get_set_other (z ∷ xs) (suc k) x (suc j) h = get_set_other xs k x j (λ e. h (ap suc e))

-- ---- offsets

-- the first list's instructions are nowhere longer than the second's
abbrev pub Below : List Form → List Form → Type 0
Below [] [] = Unit {0}
Below [] (y ∷ o) = ⊥
Below (x ∷ s) [] = ⊥
Below (x ∷ s) (y ∷ o) = (width x ≤ width y) × Below s o

IsShortForm : Form → Type 0
IsShortForm x = (to : ℕ) × (Some x ≡ Some (Short to))

width_below : (x y : Form) → shortened y ≡ shortened x → ((to : ℕ) × (Some y ≡ Some (Short to)) → (to : ℕ) × (Some x ≡ Some (Short to))) → width x ≤ width y
width_below (Fixed a) (Fixed b) e h = let n : b ≡ a = cc in omega arith
width_below (Fixed a) (Short b) e h = cc
width_below (Fixed a) (Long b) e h = cc
width_below (Short a) (Fixed b) e h = cc
width_below (Short a) (Short b) e h = omega arith
width_below (Short a) (Long b) e h = omega arith
width_below (Long a) (Fixed b) e h = cc
width_below (Long a) (Short b) e h = let no : Some (Long a) ≡ Some (Short (h (b, refl)).0) = (h (b, refl)).1 in cc
width_below (Long a) (Long b) e h = omega arith

head_same : (x y : Form) (s o : List Form) → y ∷ o ≡ x ∷ s → y ≡ x
head_same x y s o e = cc

tail_same : (x y : Form) (s o : List Form) → y ∷ o ≡ x ∷ s → o ≡ s
tail_same x y s o e = cc

pub below_from : (s o : List Form) → map shortened o ≡ map shortened s → ((k : ℕ) → IsShort o k → IsShort s k) → Below s o
below_from [] [] e h = tt
below_from [] (y ∷ o) e h = absurd cc
below_from (x ∷ s) [] e h = absurd cc
below_from (x ∷ s) (y ∷ o) e h =
    (width_below x y (head_same _ _ _ _ e) (h 0), below_from s o (tail_same _ _ _ _ e) (λ k i. h (suc k) i))

offsets_rise : (s : List Form) (a b : ℕ) → a ≤ b → offset s a ≤ offset s b
offsets_rise s zero b h = omega arith
offsets_rise s (suc a) zero h = absurd (omega arith)
offsets_rise [] (suc a) (suc b) h = omega arith
offsets_rise (x ∷ s) (suc a) (suc b) h =
    let below : a ≤ b = omega arith in
    let rest : offset s a ≤ offset s b = offsets_rise s a b below in
    simp sum_by-cons (omega arith)

offsets_grow : (s o : List Form) → Below s o → (a b : ℕ) → a ≤ b → offset s b + offset o a ≤ offset s a + offset o b
offsets_grow [] [] h zero zero le = omega arith
offsets_grow [] [] h zero (suc b) le = omega arith
offsets_grow [] [] h (suc a) zero le = absurd (omega arith)
offsets_grow [] [] h (suc a) (suc b) le = omega arith
offsets_grow [] (y ∷ o) h a b le = absurd h
offsets_grow (x ∷ s) [] h a b le = absurd h
offsets_grow (x ∷ s) (y ∷ o) h zero zero le = omega arith
offsets_grow (x ∷ s) (y ∷ o) h (suc a) zero le = absurd (omega arith)
offsets_grow (x ∷ s) (y ∷ o) h zero (suc b) le =
    let low : 0 ≤ b = omega arith in
    let rest : offset s b + offset o 0 ≤ offset s 0 + offset o b = offsets_grow s o h.1 0 b low in
    let here : width x ≤ width y = h.0 in
    simp sum_by-cons (omega arith)
offsets_grow (x ∷ s) (y ∷ o) h (suc a) (suc b) le =
    let low : a ≤ b = omega arith in
    let rest : offset s b + offset o a ≤ offset s a + offset o b = offsets_grow s o h.1 a b low in
    simp sum_by-cons (omega arith)

near_back : (f t g u : ℕ) → t ≤ f → f + u ≤ t + g → is_near g u ≡ true → is_near f t ≡ true
near_back f t g u low grow near = grind (arith, nat_tests)

near_ahead : (f t g u : ℕ) → f ≤ t → t + g ≤ f + u → is_near g u ≡ true → is_near f t ≡ true
near_ahead f t g u low grow near = grind (arith, nat_tests)

le_or : (a b : ℕ) → (a ≤ b) ⊎ (b ≤ a)
le_or a b = grind arith

-- what is near in a list with longer instructions is near
pub near_shrinks : (s o : List Form) → Below s o → (k to : ℕ) → is_near_at o k to ≡ true → is_near_at s k to ≡ true
near_shrinks s o h k to near =
    elim (le_or to (k + 1)) [
      | inl le ↦ near_back _ _ (offset o (k + 1)) (offset o to) (offsets_rise s to (k + 1) le) (offsets_grow s o h to (k + 1) le) near
      | inr le ↦ near_ahead _ _ (offset o (k + 1)) (offset o to) (offsets_rise s (k + 1) to le) (offsets_grow s o h (k + 1) to le) near
    ]

-- ---- a branch made long

same_or : (a b : ℕ) → (a ≡ b) ⊎ (a ≢ b)
same_or zero zero = inl refl
same_or zero (suc b) = inr (λ e. cc)
same_or (suc a) zero = inr (λ e. cc)
same_or (suc a) (suc b) = elim (same_or a b) [ inl e ↦ inl (ap suc e) | inr e ↦ inr (λ h. e (omega arith)) ]

-- what a choice is bound by: it is one of these instructions, and what is short in any valid one is short in it
pub record IsBound (forms choice : List Form) : Type 0 where
  pub same : map shortened choice ≡ forms
  pub greatest : (other : List Form) → map shortened other ≡ forms → IsValid other → (k : ℕ) → IsShort other k → IsShort choice k

short_is : (x : Form) (to : ℕ) → Some x ≡ Some (Short to) → x ≡ Short to
short_is x to e = cc

pub long_same : (s : List Form) (k to : ℕ) → IsShortTo s k to → map shortened (set s k (Long to)) ≡ map shortened s
long_same [] k to h = refl
long_same (x ∷ s) zero to h = ap (λ y. y ∷ map shortened s) (ap shortened (sym (short_is x to h)))
long_same (x ∷ s) (suc k) to h = ap (λ l. shortened x ∷ l) (long_same s k to h)

target_head : (x y : Form) (t u : ℕ) → shortened y ≡ shortened x → y ≡ Short t → x ≡ Short u → t ≡ u
target_head x y t u e f g = let h : Short t ≡ Short u = ap shortened (sym f) ∙ e ∙ ap shortened g in cc

same_target : (s o : List Form) (k t u : ℕ) → map shortened o ≡ map shortened s → IsShortTo o k t → IsShortTo s k u → t ≡ u
same_target [] o k t u e f g = absurd cc
same_target (x ∷ s) [] k t u e f g = absurd cc
same_target (x ∷ s) (y ∷ o) zero t u e f g =
    target_head x y t u (head_same _ _ _ _ e) (short_is y t f) (short_is x u g)
same_target (x ∷ s) (y ∷ o) (suc k) t u e f g = same_target s o k t u (tail_same _ _ _ _ e) f g

true_not_false : (b : Bool) → b ≡ true → b ≡ false → ⊥
true_not_false b t f = cc

-- a branch that is far in a bounded choice is short in no valid one
never_short : (forms s : List Form) (k to : ℕ) → IsBound forms s → IsFar s k to → (other : List Form) → map shortened other ≡ forms → IsValid other → IsShort other k → ⊥
never_short forms s k to bound far other same valid short =
    let choice : map shortened other ≡ map shortened s = same ∙ sym bound.same in
    let below : Below s other = below_from s other choice (bound.greatest other same valid) in
    let near : is_near_at s k short.0 ≡ true = near_shrinks s other below k short.0 (valid k short.0 short.1) in
    let e : short.0 ≡ to = same_target s other k short.0 to choice short.1 far.short in
    true_not_false (is_near_at s k to) (ap (λ t. is_near_at s k t) (sym e) ∙ near) far.far

pub lengthened : (forms s : List Form) (k to : ℕ) → IsBound forms s → IsFar s k to → IsBound forms (set s k (Long to))
lengthened forms s k to bound far = record {
  same = long_same s k to far.short ∙ bound.same;
  greatest = λ other same valid j short.
      elim (same_or j k) [
        | inl e ↦ absurd (never_short forms s k to bound far other same valid (subst (λ i. IsShort other i) e short))
        | inr ne ↦ let old = bound.greatest other same valid j short in (old.0, get_set_other s k (Long to) j ne ∙ old.1)
      ];
}

-- all branches short: nothing is shorter
at_first : (o : List Form) (k to : ℕ) → IsShortTo o k to → IsShortTo (map shortened o) k to
at_first [] k to h = absurd cc
at_first (x ∷ o) zero to h = ap (λ y. Some (shortened y)) (short_is x to h)
at_first (x ∷ o) (suc k) to h = at_first o k to h

pub bound_at_first : (forms : List Form) → map shortened forms ≡ forms → IsBound forms forms
bound_at_first forms e = record {
  same = e;
  greatest = λ other same valid k short. (short.0, subst (λ l. IsShortTo l k short.0) same (at_first other k short.0 short.1));
}

-- ---- the branches before a place

-- each short branch before `k` reaches its target
abbrev pub Settled : List Form → ℕ → Type 0
Settled s k = (i : ℕ) → i < k → Reaches s i

-- each instruction has a byte at least
bytes_stay : (s : List Form) → IsTrue (list_all has_bytes (map shortened s)) → IsTrue (list_all has_bytes s)
bytes_stay [] h = refl
bytes_stay (Fixed n ∷ s) h = let rest : IsTrue (list_all has_bytes (map shortened s)) = grind (arith, nat_tests) in
    let more : IsTrue (list_all has_bytes s) = bytes_stay s rest in grind (arith, nat_tests)
bytes_stay (Short t ∷ s) h = bytes_stay s h
bytes_stay (Long t ∷ s) h = bytes_stay s h

first_has : (x : Form) (s : List Form) → IsTrue (list_all has_bytes (x ∷ s)) → 0 < width x
first_has x s h = grind (arith, nat_tests)

others_have : (x : Form) (s : List Form) → IsTrue (list_all has_bytes (x ∷ s)) → IsTrue (list_all has_bytes s)
others_have x s h = grind (arith, nat_tests)

-- there are as many bytes as instructions at least
many_bytes : (s : List Form) → IsTrue (list_all has_bytes s) → (a b : ℕ) → a ≤ b → b ≤ length s → offset s a + b ≤ offset s b + a
many_bytes [] h zero zero le in_s = omega arith
many_bytes [] h zero (suc b) le in_s = absurd (omega arith)
many_bytes [] h (suc a) zero le in_s = absurd (omega arith)
many_bytes [] h (suc a) (suc b) le in_s = absurd (omega arith)
many_bytes (x ∷ s) h zero zero le in_s = omega arith
many_bytes (x ∷ s) h (suc a) zero le in_s = absurd (omega arith)
many_bytes (x ∷ s) h zero (suc b) le in_s =
    let fits : b ≤ length s = omega arith in
    let low : 0 ≤ b = omega arith in
    let rest : offset s 0 + b ≤ offset s b + 0 = many_bytes s (others_have x s h) 0 b low fits in
    let one : 0 < width x = first_has x s h in
    simp sum_by-cons (omega arith)
many_bytes (x ∷ s) h (suc a) (suc b) le in_s =
    let fits : b ≤ length s = omega arith in
    let low : a ≤ b = omega arith in
    let rest : offset s a + b ≤ offset s b + a = many_bytes s (others_have x s h) a b low fits in
    simp sum_by-cons (omega arith)

-- a branch more than 127 instructions before `k` doesn't lead past it
too_far : (f t k i o : ℕ) → f + (k + 1) ≤ o + (i + 1) → o ≤ t → i < k - 127 → is_near f t ≡ true → ⊥
too_far f t k i o many rise far near = grind (arith, nat_tests)

offset_before : (s : List Form) (k : ℕ) (x : Form) (b : ℕ) → b ≤ k → offset (set s k x) b ≡ offset s b
offset_before s k x b h = ap (sum_by width) (take-set-le b s k x h)

at_most_or : (a b : ℕ) → (a ≤ b) ⊎ (b + 1 ≤ a)
at_most_or a b = grind arith

near_before : (s : List Form) (k : ℕ) (x : Form) (i t : ℕ) → i + 1 ≤ k → t ≤ k → is_near_at s i t ≡ true → is_near_at (set s k x) i t ≡ true
near_before s k x i t le up near =
    ap (λ f. is_near f (offset (set s k x) t)) (offset_before s k x (i + 1) le) ∙ ap (λ o. is_near (offset s (i + 1)) o) (offset_before s k x t up) ∙ near

-- what a step back leaves before it is as near as it was
step_back : (s : List Form) (k to back : ℕ) → IsTrue (list_all has_bytes s) → k < length s → Settled s k → back ≡ k - 127 →
    Settled (set s k (Long to)) back
step_back s k to back bytes in_s settled e i low t short =
    let before : i + 1 ≤ k = omega arith in
    let other : i ≢ k = omega arith in
    let below : i < k = omega arith in
    let near : is_near_at s i t ≡ true = settled i below t (sym (get_set_other s k (Long to) i other) ∙ short) in
    elim (at_most_or t k) [
      | inl le ↦ near_before s k (Long to) i t before le near
      | inr up ↦
          let first : i + 1 ≤ k + 1 = omega arith in
          let fits : k + 1 ≤ length s = omega arith in
          let far : i < k - 127 = omega arith in
          absurd (too_far (offset s (i + 1)) (offset s t) k i (offset s (k + 1)) (many_bytes s bytes (i + 1) (k + 1) first fits) (offsets_rise s (k + 1) t up) far near)
    ]

pub stepped_back : (forms s : List Form) (k to back : ℕ) → IsTrue (list_all has_bytes forms) → IsBound forms s → k < length s → Settled s k →
    back ≡ k - 127 → Settled (set s k (Long to)) back
stepped_back forms s k to back bytes bound in_s settled e =
    step_back s k to back (bytes_stay s (ap (list_all has_bytes) bound.same ∙ bytes)) in_s settled e

-- ---- the end

all_settled : (s : List Form) (next : ℕ) → length s ≤ next → Settled s next → IsValid s
all_settled s next past settled k to short =
    let inside : k < length s = slice_get_within s k (Short to) short in
    let below : k < next = omega arith in
    settled k below to short

pub is_shortest : (forms s : List Form) (next : ℕ) → map shortened forms ≡ forms → IsBound forms s → length s ≤ next → Settled s next → IsShortest forms s
is_shortest forms s next short bound past settled = record {
  same = bound.same ∙ sym short;
  valid = all_settled s next past settled;
  greatest = λ other same valid k is. bound.greatest other (same ∙ short) valid k is;
}
