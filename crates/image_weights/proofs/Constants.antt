-- What a constant weighs, by its element type and its value (II.22.9).
use Rattle.std.proofs.Common.{◌≡◌, ℕ, ◌+◌, ◌*◌, ◌==◌, inl, inr, Bool, true, false, cond, if◌then◌else◌, List, [], ◌∷◌, find, length, option_map, option_and_then, Option, Some, None, refl, sym, ◌∙◌, ap, arith}
use Rattle.std.proofs.lemmas.Bool.{cases_eq, eq-eqb, ne_eqb}
use Rattle.std.proofs.lemmas.Option.{none-some}
use Rattle.assembly_tree.specs.Weight.{constant_weight}
use Rattle.assembly_tree.specs.declared.members.Constant.{Constant}
use Rattle.assembly_tree.specs.declared.members.Constant.TheVariants as constant
use Rattle.image_model.specs.Constants.{Integer, integers, of_width, integer_constant, constant_of}
use Rattle.image_model.specs.Units.{units_of}

abbrev value_or : {X : Type 0} → X → Option X → X
value_or d None = d
value_or d (Some x) = x

-- the one that may be there weighs this
abbrev Weighs : ℕ → Option Constant → Type 0
Weighs n o = (c : Constant) → o ≡ Some c → constant_weight c ≡ n

none_weighs : (n : ℕ) → Weighs n None
none_weighs n c e = absurd (none-some c e)

some_weighs : (n : ℕ) (d : Constant) → constant_weight d ≡ n → Weighs n (Some d)
some_weighs n d h c e = ap constant_weight (sym (ap (value_or d) e)) ∙ h

chosen : (n : ℕ) (b : Bool) (x y : Option Constant) → Weighs n x → Weighs n y → Weighs n (if b then x else y)
chosen n true x y h k = h
chosen n false x y h k = k

skipped : (n : ℕ) (b : Bool) (x y : Option Constant) → b ≡ false → Weighs n y → Weighs n (if b then x else y)
skipped n true x y e h = absurd (true_false e)
  where
    true_false : true ≡ false → ⊥
    true_false f = cc
skipped n false x y e h = h

width_weighs : (n bytes : ℕ) (value : List ℕ) (c : Constant) → constant_weight c ≡ n → Weighs n (of_width bytes value c)
width_weighs n bytes value c h = chosen n (length value == bytes) (Some c) None (some_weighs n c h) (none_weighs n)

-- ---- a string's value has two bytes for each unit

abbrev pub IsTwice : List ℕ → Option (List ℕ) → Type 0
IsTwice value None = Unit {0}
IsTwice value (Some units) = length value ≡ 2 * length units

longer : (low high : ℕ) (more : List ℕ) (o : Option (List ℕ)) → IsTwice more o → IsTwice (low ∷ high ∷ more) (option_map (λ units. (low + 256 * high) ∷ units) o)
longer low high more None h = tt
longer low high more (Some units) h = omega (arith, h)

units_twice : (value : List ℕ) → IsTwice value (units_of value)
units_twice [] = refl
units_twice (low ∷ []) = tt
units_twice (low ∷ high ∷ more) = longer low high more (units_of more) (units_twice more)

string_weighs : (value : List ℕ) (o : Option (List ℕ)) → IsTwice value o → Weighs (64 + length value) (option_map constant.Str o)
unfolding constant_weight
string_weighs value None h = none_weighs (64 + length value)
string_weighs value (Some units) h = some_weighs (64 + length value) (constant.Str units) (omega (arith, h))

-- ---- integers

integer_weighs : (value : List ℕ) (t : Integer) → Weighs 64 (integer_constant value t)
unfolding constant_weight
integer_weighs value t = width_weighs 64 t.bytes value _ refl

found_weighs : (value : List ℕ) (o : Option Integer) → Weighs 64 (option_and_then (integer_constant value) o)
found_weighs value None = none_weighs 64
found_weighs value (Some t) = integer_weighs value t

others_weigh : (element : ℕ) (value : List ℕ) → (element == 0x0E) ≡ false → Weighs 64 (constant_of element value)
unfolding constant_of constant_weight
others_weigh element value other =
    chosen 64 (element == 0x02) _ _ (width_weighs 64 1 value _ refl)
    (chosen 64 (element == 0x03) _ _ (width_weighs 64 2 value _ refl)
    (chosen 64 (element == 0x0C) _ _ (width_weighs 64 4 value _ refl)
    (chosen 64 (element == 0x0D) _ _ (width_weighs 64 8 value _ refl)
    (skipped 64 (element == 0x0E) _ _ other
    (chosen 64 (element == 0x12) _ _ (width_weighs 64 4 value _ refl) (found_weighs value (find (λ t. t.element == element) integers)))))))

strings_weigh : (value : List ℕ) → Weighs (64 + length value) (constant_of 0x0E value)
unfolding constant_of
strings_weigh value = string_weighs value (units_of value) (units_twice value)

pub constant_told : (element : ℕ) (value : List ℕ) (c : Constant) → constant_of element value ≡ Some c → 64 + cond (element == 0x0E) (length value) 0 ≡ constant_weight c
constant_told element value c e = elim (cases_eq element 0x0E) [
  | inl is ↦ ap (λ (b : Bool). 64 + cond b (length value) 0) (eq-eqb element 0x0E is) ∙ sym (strings_weigh value c (ap (λ (k : ℕ). constant_of k value) (sym is) ∙ e))
  | inr other ↦ ap (λ (b : Bool). 64 + cond b (length value) 0) (ne_eqb element 0x0E other) ∙ sym (others_weigh element value (ne_eqb element 0x0E other) c e)
]
