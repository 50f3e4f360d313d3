-- Keys of texts grow by the byte, and tell the last eight bytes.
use Rattle.std.proofs.Common.{◌≡◌, ℕ, zero, suc, ◌+◌, ◌%◌, ◌<◌, ◌≤◌, List, [], ◌∷◌, ◌++◌, length, take, drop, get_or, length-drop, take-append-drop, refl, ap, sym, ◌∙◌, arith}
use Rattle.il_lexer.specs.WordKeys.{key_more, key_from}

-- a byte more in the key
pub key-more : (k : ℕ) (bs : List ℕ) (n : ℕ) → n < length bs →
    key_from k (take (suc n) bs) ≡ key_more (key_from k (take n bs)) (get_or bs n 0)
key-more k [] n lt = absurd (omega arith)
key-more k (b ∷ bs) zero lt = refl
key-more k (b ∷ bs) (suc n) lt = key-more (key_more k b) bs n (omega arith)

abbrev pub AreBytes : List ℕ → Type 0
AreBytes bs = (i : ℕ) → get_or bs i 0 < 256

-- what so many bytes behind a key leave of it: its remainder by this
abbrev kept : ℕ → ℕ
kept zero = 18446744073709551616
kept (suc zero) = 72057594037927936
kept (suc (suc zero)) = 281474976710656
kept (suc (suc (suc zero))) = 1099511627776
kept (suc (suc (suc (suc zero)))) = 4294967296
kept (suc (suc (suc (suc (suc zero))))) = 16777216
kept (suc (suc (suc (suc (suc (suc zero)))))) = 65536
kept (suc (suc (suc (suc (suc (suc (suc zero))))))) = 256
kept (suc (suc (suc (suc (suc (suc (suc (suc n)))))))) = 1

-- keys with a byte more tell the byte, and what is left of the keys before it
step : (n j k x y : ℕ) → n < 8 → x < 256 → y < 256 → key_more j x % kept n ≡ key_more k y % kept n →
    (j % kept (suc n) ≡ k % kept (suc n)) × (x ≡ y)
step zero j k x y lt hx hy e = (omega arith, omega arith)
step (suc zero) j k x y lt hx hy e = (omega arith, omega arith)
step (suc (suc zero)) j k x y lt hx hy e = (omega arith, omega arith)
step (suc (suc (suc zero))) j k x y lt hx hy e = (omega arith, omega arith)
step (suc (suc (suc (suc zero)))) j k x y lt hx hy e = (omega arith, omega arith)
step (suc (suc (suc (suc (suc zero))))) j k x y lt hx hy e = (omega arith, omega arith)
step (suc (suc (suc (suc (suc (suc zero)))))) j k x y lt hx hy e = (omega arith, omega arith)
step (suc (suc (suc (suc (suc (suc (suc zero))))))) j k x y lt hx hy e = (omega arith, omega arith)
step (suc (suc (suc (suc (suc (suc (suc (suc n)))))))) j k x y lt hx hy e = absurd (omega arith)

told : (xs ys : List ℕ) (j k : ℕ) → AreBytes xs → AreBytes ys → length xs ≡ length ys → length xs ≤ 8 →
    key_from j xs ≡ key_from k ys → (j % kept (length xs) ≡ k % kept (length xs)) × (xs ≡ ys)
told [] [] j k bx by len le e = (ap (λ (n : ℕ). n % kept 0) e, refl)
told [] (y ∷ ys) j k bx by len le e = absurd (omega arith)
told (x ∷ xs) [] j k bx by len le e = absurd (omega arith)
told (x ∷ xs) (y ∷ ys) j k bx by len le e =
    let more = told xs ys (key_more j x) (key_more k y) (λ i. bx (suc i)) (λ i. by (suc i)) (omega (arith, len)) (omega arith) e in
    let last = step (length xs) j k x y (omega arith) (bx 0) (by 0) more.0 in
    (last.0, ap (λ (z : ℕ). z ∷ xs) last.1 ∙ ap (λ (zs : List ℕ). y ∷ zs) more.1)

-- texts of one length, of at most eight bytes, behind which keys are the same, are the same
pub key-tells : (xs ys : List ℕ) (j k : ℕ) → AreBytes xs → AreBytes ys → length xs ≡ length ys → length xs ≤ 8 →
    key_from j xs ≡ key_from k ys → xs ≡ ys
key-tells xs ys j k bx by len le e = (told xs ys j k bx by len le e).1

key-join : (k : ℕ) (xs ys : List ℕ) → key_from k (xs ++ ys) ≡ key_from (key_from k xs) ys
key-join k [] ys = refl
key-join k (x ∷ xs) ys = key-join (key_more k x) xs ys

dropped : (m : ℕ) (bs : List ℕ) → AreBytes bs → AreBytes (drop m bs)
dropped zero bs h i = h i
dropped (suc m) [] h i = omega arith
dropped (suc m) (b ∷ bs) h i = dropped m bs (λ j. h (suc j)) i

key-parts : (m : ℕ) (xs : List ℕ) → key_from 0 xs ≡ key_from (key_from 0 (take m xs)) (drop m xs)
key-parts m xs = sym (ap (key_from 0) (take-append-drop m xs)) ∙ key-join 0 (take m xs) (drop m xs)

-- texts of one length with one key are the same where they are so before their last eight bytes
pub long-tells : (m : ℕ) (xs ys : List ℕ) → AreBytes xs → AreBytes ys → length xs ≡ m + 8 → length ys ≡ m + 8 →
    key_from 0 xs ≡ key_from 0 ys → take m xs ≡ take m ys → xs ≡ ys
long-tells m xs ys bx by lx ly e same =
    let left : length (drop m xs) ≡ 8 = omega (arith, lx, length-drop m xs) in
    let right : length (drop m ys) ≡ 8 = omega (arith, ly, length-drop m ys) in
    let last : drop m xs ≡ drop m ys =
    key-tells (drop m xs) (drop m ys) (key_from 0 (take m xs)) (key_from 0 (take m ys)) (dropped m xs bx) (dropped m ys by)
    (left ∙ sym right) (omega (arith, left)) (sym (key-parts m xs) ∙ e ∙ key-parts m ys) in
    sym (take-append-drop m xs) ∙ ap (λ (zs : List ℕ). zs ++ drop m xs) same ∙ ap (λ (zs : List ℕ). take m ys ++ zs) last ∙ take-append-drop m ys
