-- The operands of code that is written: their sizes, and what they are read as.
use Rattle.std.proofs.Common.{◌≡◌, ◌∙◌, ◌⊎◌, inl, inr, ℕ, zero, suc, ◌<◌, ◌+◌, ◌*◌, ◌^◌, ℤ, pos, List, [], ◌∷◌, ◌++◌, length, drop, get_or, ap, refl, sym, subst, arith, Option, None, Some, IsSome}
use Rattle.std.specs.List.{flat_map}
use Rattle.std.proofs.lemmas.List.{length-append, drop_at, drop-drop}
use Rattle.std.proofs.lemmas.Int.{ints}
use Rattle.byteorder.specs.Endian.{little_number, twos_complement}
use Rattle.opcode_table.specs.declared.kind.OperandKind.{OperandKind}
use Rattle.opcode_table.specs.declared.kind.OperandKind.TheVariants as kinds
use Rattle.assembly_tree.specs.declared.body.Operand as operand
use Rattle.body_codec.specs.Instruction.{Piece, operand_size, number, signed, displacement}
use Rattle.body_codec.specs.Names.{TokenMap, token_of, writing}
use Rattle.body_codec.specs.Spelling.{nothing, target, targets, token, form, IsInteger, LeadsTo, SpellsOperand}
use Rattle.body_codec.specs.Encoding.{FitsBytes, IntegerFits, OperandFits, size_of}
use Rattle.body_codec.specs.Written.{HasToken, Reaches, far_from, number_bytes, or_zero, signed_bytes, tail_of, target_bytes}
use Rattle.body_codec.proofs.Numbers.{length-number, little_back, number_back, signed_1, signed_4, signed_8, signed_front_4}

-- ---- pieces of one width

-- the bytes of one of several, each of `w` bytes, stand behind those before it
pub one_of : {X : Type 0} (f : X → List ℕ) (w : ℕ) → ((x : X) → length (f x) ≡ w) → (xs : List X) (i : ℕ) (d : X) → i < length xs
    → (rest : List ℕ) × (drop (w * i) (flat_map f xs) ≡ f (get_or xs i d) ++ rest)
one_of f w width [] i d h = absurd (omega arith)
one_of f w width (x ∷ xs) zero d h =
    let e : w * 0 ≡ 0 = omega arith in (flat_map f xs, ap (λ n. drop n (f x ++ flat_map f xs)) e)
one_of f w width (x ∷ xs) (suc i) d h =
    let e : w * suc i ≡ w + w * i = grind arith in
    let more = one_of f w width xs i d (omega arith) in (
      more.0,
      ap (λ n. drop n (f x ++ flat_map f xs)) e ∙ sym (drop-drop (w * i) w (f x ++ flat_map f xs))
          ∙ ap (drop (w * i)) (drop_at (f x) (flat_map f xs) w (width x)) ∙ more.1,
    )

-- together they have as many bytes as they are, times `w`
pub all_of : {X : Type 0} (f : X → List ℕ) (w : ℕ) → ((x : X) → length (f x) ≡ w) → (xs : List X) → length (flat_map f xs) ≡ w * length xs
all_of f w width [] = omega arith
all_of f w width (x ∷ xs) =
    let e : w + w * length xs ≡ w * suc (length xs) = grind arith in
    length-append (f x) (flat_map f xs) ∙ ap (λ n. n + length (flat_map f xs)) (width x) ∙ ap (λ n. w + n) (all_of f w width xs) ∙ e

-- ---- sizes

-- only of a switch is the size in the operand
fixed : (kd : OperandKind) (tail : List ℕ) → (form kd ≡ targets → ⊥) → operand_size kd tail ≡ operand_size kd []
fixed kinds.Switch tail h = absurd (h refl)
fixed _ tail h = refl

nothing_size : (kd : OperandKind) → form kd ≡ nothing → 0 ≡ operand_size kd []
nothing_size kinds.Nothing h = refl
nothing_size _ h = cc

token_size : (kd : OperandKind) → form kd ≡ token → 4 ≡ operand_size kd []
token_size kinds.Method h = refl
token_size kinds.Field h = refl
token_size kinds.Of h = refl
token_size kinds.Text h = refl
token_size kinds.Token h = refl
token_size _ h = cc

is_switch : (kd : OperandKind) → form kd ≡ targets → kd ≡ kinds.Switch
is_switch kinds.Switch h = refl
is_switch _ h = cc

either : (kd a b : OperandKind) → form a ≡ token → form b ≡ token → (kd ≡ a) ⊎ (kd ≡ b) → form kd ≡ token
either kd a b f g (inl e) = ap form e ∙ f
either kd a b f g (inr e) = ap form e ∙ g

length-targets : (os : List ℕ) (next : ℕ) (ts : List ℕ) → length (target_bytes os next ts) ≡ 4 * length ts
length-targets os next ts = all_of (λ t. signed_bytes 4 (far_from os next t)) 4 (λ t. length-number 4 _) ts

no_targets : (kd : OperandKind) (z : ℤ) → IntegerFits (form kd) (operand_size kd []) z → form kd ≡ targets → ⊥
no_targets kinds.Switch z h e = absurd h
no_targets _ z h e = cc

pub tail_size : (numbers : TokenMap) (count tok next : ℕ) (os : List ℕ) (kd : OperandKind) (value : operand.Operand) → OperandFits numbers count kd value
    → length (tail_of tok os next kd value) ≡ size_of kd value
tail_size numbers count tok next os kd operand.TheVariants.Nothing fit = nothing_size kd fit
tail_size numbers count tok next os kd (operand.TheVariants.Var n) fit = length-number (operand_size kd []) n
tail_size numbers count tok next os kd (operand.TheVariants.Int n) fit = length-number (operand_size kd []) _
tail_size numbers count tok next os kd (operand.TheVariants.Real bits) fit = length-number (operand_size kd []) bits
tail_size numbers count tok next os kd (operand.TheVariants.Target t) fit = length-number (operand_size kd []) _
tail_size numbers count tok next os kd (operand.TheVariants.Targets ts) fit =
    length-append (number_bytes 4 (length ts)) (target_bytes os next ts)
    ∙ ap (λ n. n + length (target_bytes os next ts)) (length-number 4 (length ts)) ∙ ap (λ n. 4 + n) (length-targets os next ts)
tail_size numbers count tok next os kd (operand.TheVariants.Method m) fit = length-number 4 tok ∙ token_size kd (either kd kinds.Method kinds.Token refl refl fit.0)
tail_size numbers count tok next os kd (operand.TheVariants.Field f) fit = length-number 4 tok ∙ token_size kd (either kd kinds.Field kinds.Token refl refl fit.0)
tail_size numbers count tok next os kd (operand.TheVariants.Of o) fit = length-number 4 tok ∙ token_size kd (either kd kinds.Of kinds.Token refl refl fit.0)
tail_size numbers count tok next os kd (operand.TheVariants.Text units) fit = length-number 4 tok ∙ token_size kd (ap form fit.0)

-- an operand that isn't a switch's has the size of its kind
plain : (kd : OperandKind) (tail : List ℕ) → length tail ≡ operand_size kd [] → (form kd ≡ targets → ⊥) → length tail ≡ operand_size kd tail
plain kd tail e h = e ∙ sym (fixed kd tail h)

pub tail_whole : (numbers : TokenMap) (count tok next : ℕ) (os : List ℕ) (kd : OperandKind) (value : operand.Operand) → OperandFits numbers count kd value
    → size_of kd value < 2 ^ 31 → length (tail_of tok os next kd value) ≡ operand_size kd (tail_of tok os next kd value)
tail_whole numbers count tok next os kd operand.TheVariants.Nothing fit h = plain kd [] (nothing_size kd fit) (λ e. cc)
tail_whole numbers count tok next os kd (operand.TheVariants.Var n) fit h =
    let f = fit.0 in plain kd _ (length-number (operand_size kd []) n) (λ e. cc)
tail_whole numbers count tok next os kd (operand.TheVariants.Int n) fit h = plain kd _ (length-number (operand_size kd []) _) (no_targets kd n fit)
tail_whole numbers count tok next os kd (operand.TheVariants.Real bits) fit h =
    let f = fit.0 in plain kd _ (length-number (operand_size kd []) bits) (λ e. cc)
tail_whole numbers count tok next os kd (operand.TheVariants.Target t) fit h =
    let f = fit.0 in plain kd _ (length-number (operand_size kd []) _) (λ e. cc)
tail_whole numbers count tok next os kd (operand.TheVariants.Targets ts) fit h =
    let tail : List ℕ = number_bytes 4 (length ts) ++ target_bytes os next ts in
    let small : length ts < 256 ^ 4 = omega (arith, h) in
    length-append (number_bytes 4 (length ts)) (target_bytes os next ts)
    ∙ ap (λ n. n + length (target_bytes os next ts)) (length-number 4 (length ts)) ∙ ap (λ n. 4 + n) (length-targets os next ts)
    ∙ ap (λ n. 4 + 4 * n) (sym (little_back 4 (length ts) (target_bytes os next ts) small))
    ∙ ap (λ q. operand_size q tail) (sym (is_switch kd fit.0))
tail_whole numbers count tok next os kd (operand.TheVariants.Method m) fit h =
    let f = either kd kinds.Method kinds.Token refl refl fit.0 in plain kd _ (length-number 4 tok ∙ token_size kd f) (λ e. cc)
tail_whole numbers count tok next os kd (operand.TheVariants.Field m) fit h =
    let f = either kd kinds.Field kinds.Token refl refl fit.0 in plain kd _ (length-number 4 tok ∙ token_size kd f) (λ e. cc)
tail_whole numbers count tok next os kd (operand.TheVariants.Of o) fit h =
    let f = either kd kinds.Of kinds.Token refl refl fit.0 in plain kd _ (length-number 4 tok ∙ token_size kd f) (λ e. cc)
tail_whole numbers count tok next os kd (operand.TheVariants.Text units) fit h =
    let f : form kd ≡ token = ap form fit.0 in plain kd _ (length-number 4 _ ∙ token_size kd f) (λ e. cc)

-- ---- what they spell

int_spelled : (kd : OperandKind) (z : ℤ) → IntegerFits (form kd) (operand_size kd []) z → IsInteger (form kd) (signed_bytes (operand_size kd []) z) z
int_spelled kinds.Num8 z h = sym (signed_1 z h)
int_spelled kinds.Num32 z h = sym (signed_4 z h)
int_spelled kinds.Num64 z h = sym (signed_8 z h)
int_spelled kinds.Byte z (m, e, l) =
    let P : ℤ → Type 0 = λ n. n ≡ pos (number (signed_bytes 1 n)) in subst P (sym e) (ap pos (sym (number_back 1 m l)))
int_spelled _ z h = absurd h

target_spelled : (kd : OperandKind) (z : ℤ) → form kd ≡ target → (kd ≡ kinds.Branch8 → FitsBytes 1 z) → FitsBytes 4 z → signed (signed_bytes (operand_size kd []) z) ≡ z
target_spelled kinds.Branch8 z e short f = signed_1 z (short refl)
target_spelled kinds.Branch32 z e short f = signed_4 z f
target_spelled _ z e short f = cc

far_fits : (os : List ℕ) (next t : ℕ) → get_or os t 0 < 2 ^ 31 → next < 2 ^ 31 → FitsBytes 4 (far_from os next t)
far_fits os next t a b = record { low = omega (arith, ints); high = omega (arith, ints) }

token_back : (o : Option ℕ) → IsSome o → or_zero o < 2 ^ 32 → o ≡ Some (number (number_bytes 4 (or_zero o)))
token_back None some h = cc
token_back (Some t) some h = ap Some (sym (number_back 4 t h))

reached : (os : List ℕ) (next : ℕ) (kd : OperandKind) (t : ℕ) → Reaches os next kd (operand.TheVariants.Target t) → kd ≡ kinds.Branch8 → FitsBytes 1 (far_from os next t)
reached os next kd t r e =
    let P : OperandKind → Type 0 = λ q. Reaches os next q (operand.TheVariants.Target t) in subst P e r

-- the displacement of a target of a switch
one_target : (os : List ℕ) (next : ℕ) (ts : List ℕ) (i : ℕ) → i < length ts → FitsBytes 4 (far_from os next (get_or ts i 0))
    → displacement kinds.Switch (number_bytes 4 (length ts) ++ target_bytes os next ts) i ≡ far_from os next (get_or ts i 0)
one_target os next ts i h f =
    let A : List ℕ = number_bytes 4 (length ts) in
    let B : List ℕ = target_bytes os next ts in
    let one = one_of (λ t. signed_bytes 4 (far_from os next t)) 4 (λ t. length-number 4 _) ts i 0 h in
    ap (λ (bs : List ℕ). twos_complement 4 (little_number 4 bs))
    (sym (drop-drop (4 * i) 4 (A ++ B)) ∙ ap (drop (4 * i)) (drop_at A B 4 (length-number 4 (length ts))) ∙ one.1)
    ∙ signed_front_4 (far_from os next (get_or ts i 0)) one.0 f

pub tail_spelled : (numbers : TokenMap) (count next k : ℕ) (os : List ℕ) (pieces : List Piece) (kd : OperandKind) (value : operand.Operand)
    → OperandFits numbers count kd value → HasToken numbers value → size_of kd value < 2 ^ 31 → Reaches os next kd value
    → ((t : ℕ) → t < count → get_or os t 0 < 2 ^ 31) → next < 2 ^ 31
    → ((t : ℕ) → t < count → LeadsTo pieces k t (far_from os next t))
    → SpellsOperand (writing numbers) pieces k kd (tail_of (or_zero (token_of numbers value)) os next kd value) value
tail_spelled numbers count next k os pieces kd operand.TheVariants.Nothing fit tok size r small last led = fit
tail_spelled numbers count next k os pieces kd (operand.TheVariants.Var n) fit tok size r small last led =
    (fit.0, sym (number_back (operand_size kd []) n fit.1))
tail_spelled numbers count next k os pieces kd (operand.TheVariants.Int n) fit tok size r small last led = int_spelled kd n fit
tail_spelled numbers count next k os pieces kd (operand.TheVariants.Real bits) fit tok size r small last led =
    (fit.0, sym (number_back (operand_size kd []) bits fit.1))
tail_spelled numbers count next k os pieces kd (operand.TheVariants.Target t) fit tok size r small last led =
    let P : ℤ → Type 0 = LeadsTo pieces k t in
    (fit.0, subst P (sym (target_spelled kd (far_from os next t) fit.0 (reached os next kd t r) (far_fits os next t (small t fit.1) last))) (led t fit.1))
tail_spelled numbers count next k os pieces kd (operand.TheVariants.Targets ts) fit tok size r small last led =
    let few : length ts < 256 ^ 4 = omega (arith, size) in (
      fit.0,
      record {
        count = sym (little_back 4 (length ts) (target_bytes os next ts) few);
        each = λ i h.
            let t : ℕ = get_or ts i 0 in
            let P : ℤ → Type 0 = LeadsTo pieces k t in
            subst P (sym (one_target os next ts i h (far_fits os next t (small t (fit.1 i 0 h)) last))) (led t (fit.1 i 0 h));
      },
    )
tail_spelled numbers count next k os pieces kd (operand.TheVariants.Method m) fit tok size r small last led =
    record { formed = either kd kinds.Method kinds.Token refl refl fit.0; named = (fit.0, token_back (numbers.methods m) fit.1 tok) }
tail_spelled numbers count next k os pieces kd (operand.TheVariants.Field f) fit tok size r small last led =
    record { formed = either kd kinds.Field kinds.Token refl refl fit.0; named = (fit.0, token_back (numbers.fields f) fit.1 tok) }
tail_spelled numbers count next k os pieces kd (operand.TheVariants.Of o) fit tok size r small last led =
    record { formed = either kd kinds.Of kinds.Token refl refl fit.0; named = (fit.0, token_back (numbers.owners o) fit.1 tok) }
tail_spelled numbers count next k os pieces kd (operand.TheVariants.Text units) fit tok size r small last led =
    record { formed = ap form fit.0; named = (fit.0, token_back (numbers.texts units) fit.1 tok) }
