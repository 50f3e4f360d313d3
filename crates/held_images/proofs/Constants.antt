-- Constants that are read are of numbers that fit (II.22.9).
use Rattle.std.proofs.Common.{◌≡◌, ℕ, ◌==◌, Bool, true, false, if◌then◌else◌, List, find, length, option_map, option_and_then, Option, Some, None, refl}
use Rattle.byteorder.specs.Endian.{little_number}
use Rattle.assembly_tree.specs.declared.members.Constant.{Constant}
use Rattle.assembly_tree.specs.declared.members.Constant.TheVariants as constant
use Rattle.assembly_tree.specs.WellFormedNames.{option_all}
use Rattle.image_model.specs.Constants.{Integer, integers, of_width, integer_constant, constant_of}
use Rattle.image_model.specs.Units.{units_of}
use Rattle.listing_growth.specs.Held.{are_units, is_constant_held}
use Rattle.formed_images.specs.Laws.{AreBytes}
use Rattle.held_images.proofs.Numbers.{lt_true, number_small, units_fit}

abbrev Passes : Option Constant → Type 0
Passes o = option_all is_constant_held o ≡ true

chosen : (b : Bool) (x y : Option Constant) → Passes x → Passes y → Passes (if b then x else y)
chosen true x y h k = h
chosen false x y h k = k

width_passes : (n : ℕ) (value : List ℕ) (c : Constant) → is_constant_held c ≡ true → Passes (of_width n value c)
width_passes n value c e = chosen (length value == n) (Some c) None e refl

text_passes : (o : Option (List ℕ)) → option_all are_units o ≡ true → Passes (option_map constant.Str o)
unfolding is_constant_held
text_passes None h = refl
text_passes (Some units) h = h

integer_passes : (value : List ℕ) (o : Option Integer) → Passes (option_and_then (integer_constant value) o)
unfolding is_constant_held
integer_passes value None = refl
integer_passes value (Some t) = width_passes t.bytes value _ refl

pub constant_passes : (element : ℕ) (value : List ℕ) → AreBytes value → Passes (constant_of element value)
unfolding constant_of is_constant_held
constant_passes element value h =
    let two = lt_true (little_number 2 value) 0x10000 (number_small 2 value h) in
    let four = lt_true (little_number 4 value) 0x100000000 (number_small 4 value h) in
    let eight = lt_true (little_number 8 value) 0x10000000000000000 (number_small 8 value h) in
    chosen (element == 0x02) _ _ (width_passes 1 value _ refl)
    (chosen (element == 0x03) _ _ (width_passes 2 value _ two)
    (chosen (element == 0x0C) _ _ (width_passes 4 value _ four)
    (chosen (element == 0x0D) _ _ (width_passes 8 value _ eight)
    (chosen (element == 0x0E) _ _ (text_passes (units_of value) (units_fit value h))
    (chosen (element == 0x12) _ _ (width_passes 4 value _ refl) (integer_passes value (find (λ t. t.element == element) integers)))))))
