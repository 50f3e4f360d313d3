-- What is kept besides, one after the other.
use Rattle.std.proofs.Common.{◌≡◌, ℕ, ◌+◌, ◌<◌, ◌≤◌, inl, inr, Bool, true, false, cond, nat_eq, Option, Some, None, Result, Ok, Err, OnOk, refl, sym, ◌∙◌, ap, subst, arith}
use Rattle.std.proofs.lemmas.Bool.{cases_lt, eqb-true, eq-eqb}
use Rattle.image_model.specs.Rows.{token_of}
use Rattle.kept_members.specs.Maps.{Has, AreTrue, Adds}

abbrev value_or : {X : Type 0} → X → Option X → X
value_or d None = d
value_or d (Some x) = x

pub some_same : {X : Type 0} (x y : X) → Some x ≡ Some y → x ≡ y
some_same x y s = ap (value_or x) s

pub none_is_not : {A X : Type 0} {x : X} → ◌≡◌ {A = Option X} None (Some x) → A
none_is_not e = absurd cc

pub on_ok : {X E P Q : Type 0} (r : Result X E) → OnOk r P → (P → Q) → OnOk r Q
on_ok (Ok x) h f = f h
on_ok (Err e) h f = tt

pub on_both : {X E P Q R : Type 0} (r : Result X E) → OnOk r P → OnOk r Q → (P → Q → R) → OnOk r R
on_both (Ok x) h k f = f h k
on_both (Err e) h k f = tt

-- ---- maps

pub adds_none : {X : Type 0} (Is : ℕ → X → Type 0) (all : ℕ → Option X) → Adds Is all all
adds_none Is all = record { so = λ t. t; stays = λ key h. h }

pub adds_both : {X : Type 0} (Is : ℕ → X → Type 0) (a b c : ℕ → Option X) → Adds Is a b → Adds Is b c → Adds Is a c
adds_both Is a b c p q = record { so = λ t. q.so (p.so t); stays = λ key h. q.stays key (p.stays key h) }

-- a value under a key
module _ {X : Type 0} (old new : ℕ → Option X) (key : ℕ) (x : X) (put : (q : ℕ) → new q ≡ cond (nat_eq key q) (Some x) (old q)) where
  put_at : (q : ℕ) (b : Bool) → nat_eq key q ≡ b → new q ≡ cond b (Some x) (old q)
  put_at q b t = put q ∙ ap (λ (c : Bool). cond c (Some x) (old q)) t

  pub has_one : Has new key
  has_one = (x, put_at key true (eq-eqb key key refl))

  stays_at : (q : ℕ) (b : Bool) → nat_eq key q ≡ b → Has old q → Has new q
  stays_at q true t h = (x, put_at q true t)
  stays_at q false t h = (h.0, put_at q false t ∙ h.1)

  so_at : (Is : ℕ → X → Type 0) → Is key x → AreTrue Is old → (q : ℕ) (y : X) (b : Bool) → nat_eq key q ≡ b → new q ≡ Some y → Is q y
  so_at Is is so q y true t e = subst (λ (k : ℕ). Is k y) (eqb-true key q t) (subst (Is key) (some_same x y (sym (put_at q true t) ∙ e)) is)
  so_at Is is so q y false t e = so q y (sym (put_at q false t) ∙ e)

  pub adds_one : (Is : ℕ → X → Type 0) → Is key x → Adds Is old new
  adds_one Is is = record { so = λ so q y e. so_at Is is so q y (nat_eq key q) refl e; stays = λ q h. stays_at q (nat_eq key q) refl h }

-- the same, where the key equals a number
pub has_at : {X : Type 0} (old new : ℕ → Option X) (key token : ℕ) (x : X) → ((q : ℕ) → new q ≡ cond (nat_eq key q) (Some x) (old q)) → key ≡ token → Has new token
has_at old new key token x put e = subst (Has new) e (has_one old new key x put)

pub adds_at : {X : Type 0} (Is : ℕ → X → Type 0) (old new : ℕ → Option X) (key token : ℕ) (x : X) → ((q : ℕ) → new q ≡ cond (nat_eq key q) (Some x) (old q)) → key ≡ token → Is token x → Adds Is old new
adds_at Is old new key token x put e is = adds_one old new key x put Is (subst (λ (k : ℕ). Is k x) (sym e) is)

-- nothing is kept
pub none_true : {X : Type 0} (Is : ℕ → X → Type 0) (all : ℕ → Option X) → ((key : ℕ) → all key ≡ None) → AreTrue Is all
none_true Is all none key x e = none_is_not (sym (none key) ∙ e)

-- ---- the first so many rows of a table of which something is said

abbrev pub Upto : {X : Type 0} → (ℕ → Type 0) → (table count : ℕ) → (ℕ → Option X) → Type 0
Upto Given table count all = (row : ℕ) → 0 < row → row ≤ count → Given row → Has all (token_of table row)

pub upto_none : {X : Type 0} (Given : ℕ → Type 0) (table : ℕ) (all : ℕ → Option X) → Upto Given table 0 all
upto_none Given table all row some upto g = absurd (omega (arith, some, upto))

pub upto_more : {X : Type 0} (Is : ℕ → X → Type 0) (Given : ℕ → Type 0) (table count : ℕ) (old new : ℕ → Option X) → Upto Given table count old → Adds Is old new → (Given (count + 1) → Has new (token_of table (count + 1))) → Upto Given table (count + 1) new
upto_more Is Given table count old new h adds last row some upto g = elim (cases_lt row (count + 1)) [
  | inl less ↦ adds.stays (token_of table row) (h row some (omega (arith, less)) g)
  | inr at ↦
      let same : count + 1 ≡ row = omega (arith, at, upto) in
      subst (λ (r : ℕ). Has new (token_of table r)) same (last (subst Given (sym same) g))
]

-- ---- rows that stand side by side

abbrev pub Within : {X : Type 0} → (table first count : ℕ) → (ℕ → Option X) → Type 0
Within table first count all = (k : ℕ) → k < count → Has all (token_of table (first + k))

pub within_none : {X : Type 0} (table first : ℕ) (all : ℕ → Option X) → Within table first 0 all
within_none table first all k less = absurd (omega (arith, less))

pub within_more : {X : Type 0} (Is : ℕ → X → Type 0) (table first count : ℕ) (old new : ℕ → Option X) → Within table first count old → Adds Is old new → Has new (token_of table (first + count)) → Within table first (count + 1) new
within_more Is table first count old new h adds last k less = elim (cases_lt k count) [
  | inl before ↦ adds.stays (token_of table (first + k)) (h k before)
  | inr at ↦
      let same : count ≡ k = omega (arith, at, less) in
      subst (λ (j : ℕ). Has new (token_of table (first + j))) same last
]
