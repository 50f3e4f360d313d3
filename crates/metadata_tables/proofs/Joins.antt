-- Pieces one after another: each stands behind those before it.
use Rattle.std.proofs.Common.{◌≡◌, ℕ, zero, suc, ◌+◌, ◌<◌, ◌≤◌, List, [], ◌++◌, refl, sym, ap, ◌∙◌, arith, ⊎_elim, add-one}
use Rattle.std.proofs.lemmas.Bool.{lt-ltb, le-ltb, cases_lt}
use Rattle.std.proofs.lemmas.List.{append_assoc, append-nil}
use Rattle.metadata_tables.specs.Bytes.{joined, number_bytes, count_bytes}

pub joined_none : (piece : ℕ → List ℕ) → joined piece 0 ≡ []
unfolding joined
joined_none piece = refl

pub joined_more : (piece : ℕ → List ℕ) (n : ℕ) → joined piece (n + 1) ≡ joined piece n ++ piece n
unfolding joined
joined_more piece n = rw add-one refl

-- one more piece at the end of a list
pub joined_push : (old out new : List ℕ) (piece : ℕ → List ℕ) (n : ℕ) → out ≡ old ++ joined piece n → new ≡ out ++ piece n → new ≡ old ++ joined piece (n + 1)
joined_push old out new piece n before added =
    added ∙ ap (λ (x : List ℕ). x ++ piece n) before ∙ append_assoc old (joined piece n) (piece n) ∙ ap (λ (x : List ℕ). old ++ x) (sym (joined_more piece n))

-- only the pieces below n count
pub joined_agree : (f g : ℕ → List ℕ) (n : ℕ) → ((k : ℕ) → k < n → f k ≡ g k) → joined f n ≡ joined g n
unfolding joined
joined_agree f g zero same = refl
joined_agree f g (suc n) same =
    let front = joined_agree f g n (λ k h. same k (omega arith)) in
    let last = same n (omega arith) in
    rw (front, last) refl

-- what stands behind the first k + 1 pieces
pub joined_split : (piece : ℕ → List ℕ) (k n : ℕ) → k < n → (rest : List ℕ) × (joined piece n ≡ joined piece k ++ (piece k ++ rest))
unfolding joined
joined_split piece k zero h = absurd (omega arith)
joined_split piece k (suc n) h = ⊎_elim
    (λ below. let split = joined_split piece k n below in (
      split.0 ++ piece n,
      ap (λ (x : List ℕ). x ++ piece n) split.1 ∙ append_assoc (joined piece k) (piece k ++ split.0) (piece n) ∙ ap (λ (x : List ℕ). joined piece k ++ x) (append_assoc (piece k) split.0 (piece n)),
    ))
    (λ (past : n ≤ k). let same : k ≡ n = omega (arith, h, past) in
    ([], rw same (ap (λ (x : List ℕ). joined piece n ++ x) (sym (append-nil (piece n))))))
    (cases_lt k n)

-- the list before the first piece, and behind the last
pub joined_start : (old : List ℕ) (piece : ℕ → List ℕ) → old ≡ old ++ joined piece 0
joined_start old piece = rw joined_none (sym (append-nil old))

pub joined_end : (old out : List ℕ) (piece : ℕ → List ℕ) (k n : ℕ) → out ≡ old ++ joined piece k → k ≡ n → out ≡ old ++ joined piece n
joined_end old out piece k n is e = rw (← e) is

-- four lists put at the end in turn
pub four_more : (old a b c d x y z new : List ℕ) → x ≡ old ++ a → y ≡ x ++ b → z ≡ y ++ c → new ≡ z ++ d → new ≡ old ++ (a ++ b ++ c ++ d)
four_more old a b c d x y z new ex ey ez en = rw (en, ez, ey, ex) (simp append_assoc)

-- a row count is written where there are rows
pub count_some : (out new : List ℕ) (count : ℕ) → 0 < count → new ≡ out ++ number_bytes 4 count → new ≡ out ++ count_bytes count
count_some out new count some e = let t = lt-ltb 0 count some in rw t e

pub count_skip : (out new : List ℕ) (count : ℕ) → count ≤ 0 → new ≡ out → new ≡ out ++ count_bytes count
count_skip out new count none e = let t = le-ltb 0 count none in rw t (e ∙ sym (append-nil out))
