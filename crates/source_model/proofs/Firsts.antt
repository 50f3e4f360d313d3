-- The first of what is broken: it is among it, nothing stands before it, and lists are joined by their firsts.
use Rattle.std.proofs.Common.{◌≡◌, ℕ, ◌<◌, ◌⊎◌, inl, inr, List, [], ◌∷◌, ◌++◌, length, zero, suc, ap, sym, ◌∙◌, refl, subst, arith}
use Rattle.std.specs.Prelude.{false, Option, Some, None, slice_index_or}
use Rattle.source_model.specs.Faults.{Broken, earlier, earliest, is_before}
use Rattle.source_model.specs.Laws.{FirstIsLeast}

-- of three the first, whichever two are compared first
three : (x y z : Broken) → earlier (earlier (Some x) (Some y)) (Some z) ≡ earlier (Some x) (earlier (Some y) (Some z))
three x y z = grind arith

earlier_none : (o : Option Broken) → earlier o None ≡ o
earlier_none None = refl
earlier_none (Some x) = refl

joined : (x : Broken) (o p : Option Broken) → earlier (earlier (Some x) o) p ≡ earlier (Some x) (earlier o p)
joined x None None = refl
joined x None (Some z) = refl
joined x (Some y) None = refl
joined x (Some y) (Some z) = three x y z

pub first_of_joined : (xs ys : List Broken) → earliest (xs ++ ys) ≡ earlier (earliest xs) (earliest ys)
first_of_joined [] ys = refl
first_of_joined (x ∷ xs) ys = ap (earlier (Some x)) (first_of_joined xs ys) ∙ sym (joined x (earliest xs) (earliest ys))

-- ---- nothing stands before it

not_before_itself : (x : Broken) → is_before x x ≡ false
not_before_itself x = grind arith

-- what isn't before the second of two isn't before the first of them
not_before_first : (w x y z : Broken) → earlier (Some y) (Some z) ≡ Some x → is_before w z ≡ false → is_before w x ≡ false
not_before_first w x y z e h = grind arith

head_not_before : (x y z : Broken) → earlier (Some y) (Some z) ≡ Some x → is_before y x ≡ false
head_not_before x y z e = grind arith

same_some : (x y : Broken) → ◌≡◌ {A = Option Broken} (Some y) (Some x) → y ≡ x
same_some x y e = grind arith

some_of : (x : Broken) (o : Option Broken) → earlier (Some x) o ≡ None → ⊥
some_of x None e = grind arith
some_of x (Some y) e = grind arith

pub empty_if_none : (all : List Broken) → earliest all ≡ None → all ≡ []
empty_if_none [] e = refl
empty_if_none (x ∷ xs) e = absurd (some_of x (earliest xs) e)

-- the item at a place, in a list whose first is known
no_place : (all : List Broken) (k : ℕ) → all ≡ [] → k < length all → ⊥
no_place all k e h = let n : length all ≡ 0 = ap length e in absurd (omega arith)

none_before_by : (d x y : Broken) (ys : List Broken) (o : Option Broken) → earliest ys ≡ o → earlier (Some y) o ≡ Some x
    → ((z : Broken) (k : ℕ) → earliest ys ≡ Some z → k < length ys → is_before (slice_index_or ys k d) z ≡ false)
    → (k : ℕ) → k < suc (length ys) → is_before (slice_index_or (y ∷ ys) k d) x ≡ false
none_before_by d x y ys None e f h zero less =
    let same : y ≡ x = same_some x y f in subst (λ (w : Broken). is_before w x ≡ false) (sym same) (not_before_itself x)
none_before_by d x y ys None e f h (suc k) less = absurd (no_place ys k (empty_if_none ys e) (omega arith))
none_before_by d x y ys (Some z) e f h zero less = head_not_before x y z f
none_before_by d x y ys (Some z) e f h (suc k) less = not_before_first (slice_index_or ys k d) x y z f (h z k e (omega arith))

pub none_before : (d : Broken) (all : List Broken) (x : Broken) (k : ℕ) → earliest all ≡ Some x → k < length all → is_before (slice_index_or all k d) x ≡ false
none_before d [] x k e less = absurd (omega arith)
none_before d (y ∷ ys) x k e less = none_before_by d x y ys (earliest ys) refl e (none_before d ys) k less

-- ---- and it is among the list

pub record Place (all : List Broken) (x : Broken) : Type 0 where
  pub k : ℕ
  pub less : k < length all
  pub is : slice_index_or all k x ≡ x

later : (x y : Broken) (ys : List Broken) → Place ys x → Place (y ∷ ys) x
later x y ys p = record { k = suc p.k; less = omega (arith, p.less); is = p.is }

one_of_two : (x y z : Broken) → earlier (Some y) (Some z) ≡ Some x → (x ≡ y) ⊎ (x ≡ z)
one_of_two x y z e = grind arith

here : (x y : Broken) (ys : List Broken) → x ≡ y → Place (y ∷ ys) x
here x y ys e = record { k = 0; less = omega arith; is = sym e }

among_by : (x y z : Broken) (ys : List Broken) → Place ys z → (x ≡ y) ⊎ (x ≡ z) → Place (y ∷ ys) x
among_by x y z ys p (inl e) = here x y ys e
among_by x y z ys p (inr e) = subst (λ (w : Broken). Place (y ∷ ys) w) (sym e) (later z y ys p)

among_from : (x y : Broken) (ys : List Broken) (o : Option Broken) → earliest ys ≡ o → earlier (Some y) o ≡ Some x
    → ((z : Broken) → earliest ys ≡ Some z → Place ys z) → Place (y ∷ ys) x
among_from x y ys None e f h = here x y ys (sym (same_some x y f))
among_from x y ys (Some z) e f h = among_by x y z ys (h z e) (one_of_two x y z f)

not_none : (x : Broken) → ◌≡◌ {A = Option Broken} None (Some x) → ⊥
not_none x e = grind arith

pub among : (all : List Broken) (x : Broken) → earliest all ≡ Some x → Place all x
among [] x e = absurd (not_none x e)
among (y ∷ ys) x e = among_from x y ys (earliest ys) refl e (among ys)

pub first_is_least : FirstIsLeast
first_is_least = record {
  none = empty_if_none;
  among = λ all x e. let p = among all x e in (p.k, p.less, p.is);
  least = λ all x y k. none_before y all x k;
  joined = first_of_joined;
}
