-- Constants that are read are in the ranges of their types (II.22.9), where the bytes are bytes.
use Rattle.std.proofs.Common.{◌≡◌, ℕ, ◌+◌, ◌-◌, ◌<◌, ◌≤◌, ◌==◌, pos, negsuc, Bool, true, false, cond, ◌&&◌, nat_lt, int_le, if◌then◌else◌, List, [], ◌∷◌, find, length, slice_index, option_map, option_and_then, Option, Some, None, refl, arith}
use Rattle.std.proofs.lemmas.Grind.{common_steps}
use Rattle.std.proofs.lemmas.Bool.Decides.{nat_tests}
use Rattle.byteorder.specs.Endian.{little_number}
use Rattle.std.specs.List.{AllByRecursion}
use Rattle.assembly_tree.specs.declared.members.Constant.{Constant}
use Rattle.assembly_tree.specs.declared.members.Constant.TheVariants as constant
use Rattle.assembly_tree.specs.WellFormedMembers.{is_constant}
use Rattle.assembly_tree.specs.WellFormedNames.{option_all}
use Rattle.image_model.specs.Constants.{Integer, integers, of_width, integer_constant, constant_of}
use Rattle.image_model.specs.Units.{units_of}

abbrev Passes : Option Constant → Type 0
Passes o = option_all is_constant o ≡ true

chosen : (b : Bool) (x y : Option Constant) → Passes x → Passes y → Passes (if b then x else y)
chosen true x y h k = h
chosen false x y h k = k

width_passes : (n : ℕ) (value : List ℕ) (c : Constant) → is_constant c ≡ true → Passes (of_width n value c)
width_passes n value c e = chosen (length value == n) (Some c) None e refl

text_passes : (o : Option (List ℕ)) → Passes (option_map constant.Str o)
text_passes None = refl
text_passes (Some units) = refl

-- ---- integers

unsigned_in : (n most : ℕ) → n ≤ most → (int_le (pos 0) (pos n) && int_le (pos n) (pos most)) ≡ true
unsigned_in n most h = grind (arith, common_steps)

low_in : (n top : ℕ) → n ≤ top → (int_le (negsuc top) (pos n) && int_le (pos n) (pos top)) ≡ true
low_in n top h = grind (arith, common_steps)

high_in : (n top : ℕ) → n ≤ top → (int_le (negsuc top) (negsuc n) && int_le (negsuc n) (pos top)) ≡ true
high_in n top h = grind (arith, common_steps)

signed_in : (n top most : ℕ) → most ≡ top + top + 1 → n ≤ most → (b : Bool) → nat_lt n (top + 1) ≡ b
    → (int_le (negsuc top) (if b then pos n else negsuc (most - n)) && int_le (if b then pos n else negsuc (most - n)) (pos top)) ≡ true
signed_in n top most e h true is = low_in n top (grind (arith, nat_tests, is))
signed_in n top most e h false is = high_in (most - n) top (grind (arith, nat_tests, is))

module _ (value : List ℕ) (bytes : (k : ℕ) → slice_index value k < 256) where
  one : little_number 1 value ≤ 0xFF
  one = let a = bytes 0 in omega arith

  two : little_number 2 value ≤ 0xFFFF
  two = let a = bytes 0 in let b = bytes 1 in omega arith

  four : little_number 4 value ≤ 0xFFFFFFFF
  four = let a = bytes 0 in let b = bytes 1 in let c = bytes 2 in let d = bytes 3 in omega arith

  eight : little_number 8 value ≤ 0xFFFFFFFFFFFFFFFF
  eight =
      let a = bytes 0 in let b = bytes 1 in let c = bytes 2 in let d = bytes 3 in
      let e = bytes 4 in let f = bytes 5 in let g = bytes 6 in let h = bytes 7 in omega arith

  abbrev AllInRange : List Integer → Type 0
  AllInRange ts = AllByRecursion (λ t. Passes (integer_constant value t)) ts

  all_in_range : AllInRange integers
  all_in_range = (
    width_passes 1 value _ (signed_in (little_number 1 value) 0x7F 0xFF refl one (nat_lt (little_number 1 value) 0x80) refl),
    (
      width_passes 1 value _ (unsigned_in (little_number 1 value) 0xFF one),
      (
        width_passes 2 value _ (signed_in (little_number 2 value) 0x7FFF 0xFFFF refl two (nat_lt (little_number 2 value) 0x8000) refl),
        (
          width_passes 2 value _ (unsigned_in (little_number 2 value) 0xFFFF two),
          (
            width_passes 4 value _ (signed_in (little_number 4 value) 0x7FFFFFFF 0xFFFFFFFF refl four (nat_lt (little_number 4 value) 0x80000000) refl),
            (
              width_passes 4 value _ (unsigned_in (little_number 4 value) 0xFFFFFFFF four),
              (
                width_passes 8 value _ (signed_in (little_number 8 value) 0x7FFFFFFFFFFFFFFF 0xFFFFFFFFFFFFFFFF refl eight (nat_lt (little_number 8 value) 0x8000000000000000) refl),
                (
                  width_passes 8 value _ (unsigned_in (little_number 8 value) 0xFFFFFFFFFFFFFFFF eight),
                  tt,
                ),
              ),
            ),
          ),
        ),
      ),
    ),
  )

  found_passes : (test : Integer → Bool) (ts : List Integer) → AllInRange ts → Passes (option_and_then (integer_constant value) (find test ts))
  found_passes test [] h = refl
  found_passes test (t ∷ ts) h = go (test t) (found_passes test ts h.1)
    where
      go : (b : Bool) → Passes (option_and_then (integer_constant value) (find test ts)) → Passes (option_and_then (integer_constant value) (cond b (Some t) (find test ts)))
      go true k = h.0
      go false k = k

  pub constant_passes : (element : ℕ) → Passes (constant_of element value)
  unfolding constant_of
  constant_passes element =
      chosen (element == 0x02) _ _ (width_passes 1 value _ refl)
      (chosen (element == 0x03) _ _ (width_passes 2 value _ refl)
      (chosen (element == 0x0C) _ _ (width_passes 4 value _ refl)
      (chosen (element == 0x0D) _ _ (width_passes 8 value _ refl)
      (chosen (element == 0x0E) _ _ (text_passes (units_of value))
      (chosen (element == 0x12) _ _ (width_passes 4 value _ refl) (found_passes (λ t. t.element == element) integers all_in_range))))))
