-- Bytes that stand in the code are read where they stand.
use Rattle.std.proofs.Common.{◌≡◌, ap, refl, sym, ◌∙◌, ℕ, suc, ◌+◌, ◌-◌, List, [], ◌∷◌, ◌++◌, length, take, drop, arith}
use Rattle.std.proofs.lemmas.List.{append_assoc, length-append}
use Rattle.pe_layout.specs.FileMap.{readable, StandsAt}
use Rattle.image_members.specs.Placing.{StandsIn}

drop_front : (xs ys : List ℕ) → drop (length xs) (xs ++ ys) ≡ ys
drop_front [] ys = refl
drop_front (x ∷ xs) ys = drop_front xs ys

-- a list whose first items are these and more begins with these
begins : (xs front after : List ℕ) → take (length front + length after) xs ≡ front ++ after → (rest : List ℕ) × (xs ≡ front ++ rest)
begins xs [] after e = (xs, refl)
begins [] (y ∷ front) after e = let more : length (y ∷ front) + length after ≡ suc (length front + length after) = omega arith in
    let f : [] ≡ y ∷ (front ++ after) = ap (λ n. take n []) (sym more) ∙ e in absurd cc
begins (x ∷ xs) (y ∷ front) after e =
    let more : suc (length front + length after) ≡ length (y ∷ front) + length after = omega arith in
    let f : x ∷ take (length front + length after) xs ≡ y ∷ (front ++ after) = ap (λ n. take n (x ∷ xs)) more ∙ e in
    let head : x ≡ y = cc in
    let tail : take (length front + length after) xs ≡ front ++ after = cc in
    let inner = begins xs front after tail in
    (inner.0, ap (λ (zs : List ℕ). x ∷ zs) inner.1 ∙ ap (λ (z : ℕ). z ∷ (front ++ inner.0)) head)

pub code_is_read : (image code bytes : List ℕ) (rva : ℕ) → StandsAt image 0x2050 code → StandsIn code rva bytes → (rest : List ℕ) × (readable image rva ≡ bytes ++ rest)
code_is_read image code bytes rva stands h =
    let k = length h.before in
    let whole : code ≡ h.before ++ (bytes ++ h.after) = h.is ∙ append_assoc h.before bytes h.after in
    let long : length code ≡ k + (length bytes + length h.after) =
    ap (length {A = ℕ}) whole ∙ length-append h.before (bytes ++ h.after) ∙ ap (λ n. k + n) (length-append bytes h.after) in
    let left : length bytes + length h.after ≡ length code - k = omega arith in
    let from = stands.from k (omega arith) in
    let front : take (length bytes + length h.after) (readable image rva) ≡ bytes ++ h.after =
    ap (λ n. take n (readable image rva)) left ∙ ap (λ place. take (length code - k) (readable image place)) h.at
    ∙ from ∙ ap (drop k) whole ∙ drop_front h.before (bytes ++ h.after) in
    begins (readable image rva) bytes h.after front
