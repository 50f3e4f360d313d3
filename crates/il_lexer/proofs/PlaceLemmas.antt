-- Places move on with the bytes.
use Rattle.std.proofs.Common.{◌≡◌, ℕ, zero, suc, ◌+◌, ◌-◌, ◌≤◌, Bool, true, false, cond, nat_eq, List, [], ◌∷◌, ◌++◌, length, take, drop, min, refl, ap, sym, ◌∙◌, arith}
use Rattle.std.proofs.lemmas.List.{length-take-le, take_min}
use Rattle.il_base.specs.declared.pos.Pos.{Pos}
use Rattle.il_lexer.specs.Lexing.{next_place, place_after, place_of}

after_append : (p : Pos) (xs ys : List ℕ) → place_after p (xs ++ ys) ≡ place_after (place_after p xs) ys
after_append p [] ys = refl
after_append p (x ∷ xs) ys = after_append (next_place p x) xs ys

take_none : (n : ℕ) → ◌≡◌ {A = List ℕ} (take n []) []
take_none zero = refl
take_none (suc n) = refl

take_on : (a b : ℕ) (bs : List ℕ) → take (a + b) bs ≡ take a bs ++ take b (drop a bs)
take_on zero b bs = let e : 0 + b ≡ b = omega arith in ap (λ n. take n bs) e
take_on (suc a) b [] = take_none (suc a + b) ∙ sym (take_none b)
take_on (suc a) b (x ∷ bs) =
    let e : suc a + b ≡ suc (a + b) = omega arith in
    ap (λ n. take n (x ∷ bs)) e ∙ ap (λ ys. x ∷ ys) (take_on a b bs)

-- the place at `to` is the one behind the bytes from `from` on
pub place-between : (source : List ℕ) (from to : ℕ) → from ≤ to →
    place_after (place_of source from) (take (to - from) (drop from source)) ≡ place_of source to
unfolding place_of
place-between source from to le =
    let e : from + (to - from) ≡ to = omega arith in
    sym (after_append _ (take from source) (take (to - from) (drop from source)))
    ∙ ap (place_after (record { line = 1; col = 1 })) (sym (take_on from (to - from) source) ∙ ap (λ n. take n source) e)

next_line : (b : Bool) (p q : Pos) (n : ℕ) → p.line ≤ n → q.line ≤ n → (cond {A = Pos} b p q).line ≤ n
next_line true p q n left right = left
next_line false p q n left right = right

line_bounded : (bs : List ℕ) (p : Pos) → (place_after p bs).line ≤ p.line + length bs
line_bounded [] p = omega arith
line_bounded (x ∷ bs) p =
    let one : (next_place p x).line ≤ p.line + 1 =
    next_line (nat_eq x 10) (record { line = p.line + 1; col = 1 }) (record { line = p.line; col = p.col + 1 }) (p.line + 1)
    (omega arith) (omega arith) in
    let more : (place_after (next_place p x) bs).line ≤ (next_place p x).line + length bs = line_bounded bs (next_place p x) in
    omega arith

-- no place has a greater line than there are bytes before it, and one
pub place-line : (source : List ℕ) (at : ℕ) → at ≤ length source → (place_of source at).line ≤ at + 1
unfolding place_of
place-line source at le =
    let b : (place_after (record { line = 1; col = 1 }) (take at source)).line ≤ 1 + length (take at source) =
    line_bounded (take at source) (record { line = 1; col = 1 }) in
    let len : length (take at source) ≡ at = length-take-le at source le in
    omega arith

-- behind the last byte there is only the end
pub place-within : (source : List ℕ) (at : ℕ) → place_of source (min at (length source)) ≡ place_of source at
unfolding place_of
place-within source at = ap (place_after (record { line = 1; col = 1 })) (take_min at source)
