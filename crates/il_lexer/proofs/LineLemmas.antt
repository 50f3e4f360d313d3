-- Places on a line, and the line behind it.
use Rattle.std.proofs.Common.{◌≡◌, ℕ, zero, suc, ◌+◌, ◌-◌, ◌<◌, ◌≤◌, Bool, true, false, cond, not, nat_eq, List, [], ◌∷◌, ◌++◌, length, take, drop, refl, ap, sym, ◌∙◌, arith, length-append, length-drop, drop_at}
use Rattle.std.proofs.lemmas.Bool.{eqb-true}
use Rattle.std.proofs.lemmas.List.{drop-drop}
use Rattle.il_base.specs.declared.pos.Pos.{Pos}
use Rattle.il_lexer.specs.Classes.{first_passes}
use Rattle.il_lexer.specs.Runs.{front}
use Rattle.il_lexer.specs.declared.lines.Line.{Line}
use Rattle.il_lexer.specs.Lexing.{next_place, place_after, place_of, IsLine}
use Rattle.il_lexer.proofs.Fronts.{front-true, front-false, passed}
use Rattle.il_lexer.proofs.PlaceLemmas.{place-between}

abbrev is_on_line : ℕ → Bool
is_on_line c = not (nat_eq c 10)

on_line : (x : ℕ) (p : Pos) → nat_eq x 10 ≡ false → next_place p x ≡ record { line = p.line; col = p.col + 1 }
on_line x p e = ap (λ (t : Bool). cond {A = Pos} t (record { line = p.line + 1; col = 1 }) (record { line = p.line; col = p.col + 1 })) e

-- bytes of a line go on in it
goes_on : (bs : List ℕ) (n : ℕ) (p : Pos) → n ≤ front is_on_line bs → place_after p (take n bs) ≡ record { line = p.line; col = p.col + n }
goes_on bs zero p le = ap (λ (c : ℕ). record { line = p.line; col = c }) (omega arith)
goes_on [] (suc n) p le = absurd (omega arith)
goes_on (x ∷ bs) (suc n) p le = go (nat_eq x 10) refl (goes_on bs n)
  where
    go : (b : Bool) → nat_eq x 10 ≡ b → ((q : Pos) → n ≤ front is_on_line bs → place_after q (take n bs) ≡ record { line = q.line; col = q.col + n }) →
        place_after p (take (suc n) (x ∷ bs)) ≡ record { line = p.line; col = p.col + suc n }
    go true e more = absurd (omega (arith, front-false is_on_line x bs (ap not e)))
    go false e more =
        let f : front is_on_line (x ∷ bs) ≡ suc (front is_on_line bs) = front-true is_on_line x bs (ap not e) in
        let col : p.col + 1 + n ≡ p.col + suc n = omega arith in
        ap (λ (q : Pos). place_after q (take n bs)) (on_line x p e) ∙ more (record { line = p.line; col = p.col + 1 }) (omega arith) ∙
        ap (λ (c : ℕ). record { line = p.line; col = c }) col

not-false : (x : Bool) → not x ≡ false → x ≡ true
not-false true e = refl
not-false false e = sym e

-- behind the bytes of a line, where there is more, stands a line feed
feed : (bs : List ℕ) → front is_on_line bs < length bs → (rest : List ℕ) × (drop (front is_on_line bs) bs ≡ 10 ∷ rest)
feed bs lt = let f = passed is_on_line bs in go f.word f.after f.whole f.long f.stops
  where
    go : (word after : List ℕ) → bs ≡ word ++ after → length word ≡ front is_on_line bs → first_passes is_on_line after ≡ false →
        (rest : List ℕ) × (drop (front is_on_line bs) bs ≡ 10 ∷ rest)
    go word [] whole long stops = absurd (omega (arith, ap length whole, length-append word [], long))
    go word (y ∷ ys) whole long stops =
        let is : y ≡ 10 = eqb-true y 10 (not-false (nat_eq y 10) stops) in
        (ys, ap (drop (front is_on_line bs)) whole ∙ drop_at word (y ∷ ys) (front is_on_line bs) long ∙ ap (λ (z : ℕ). z ∷ ys) is)

pub place-on : (source : List ℕ) (line : Line) (to : ℕ) → IsLine source line → line.start ≤ to → to ≤ line.end →
    record { line = line.number; col = to - line.start + 1 } ≡ place_of source to
place-on source line to h ge le =
    let n = to - line.start in
    let few : n ≤ front is_on_line (drop line.start source) = omega (arith, h.ends) in
    let col : 1 + n ≡ to - line.start + 1 = omega arith in
    sym (sym (place-between source line.start to ge) ∙ ap (λ (p : Pos). place_after p (take n (drop line.start source))) h.begins ∙
    goes_on (drop line.start source) n (record { line = line.number; col = 1 }) few ∙ ap (λ (c : ℕ). record { line = line.number; col = c }) col)

pub line-after : (source : List ℕ) (line : Line) → IsLine source line → line.end < length source →
    place_of source (line.end + 1) ≡ record { line = line.number + 1; col = 1 }
line-after source line h lt =
    let bs = drop line.start source in
    let n = front is_on_line bs in
    let few : n < length bs = omega (arith, h.ends, length-drop line.start source) in
    let f = feed bs few in
    let behind : drop line.end source ≡ 10 ∷ f.0 = ap (λ (k : ℕ). drop k source) h.ends ∙ sym (drop-drop n line.start source) ∙ f.1 in
    let one : line.end + 1 - line.end ≡ 1 = omega arith in
    let here : place_of source line.end ≡ record { line = line.number; col = line.end - line.start + 1 } =
    sym (place-on source line line.end h (omega (arith, h.ends)) (omega arith)) in
    sym (place-between source line.end (line.end + 1) (omega arith)) ∙
    ap (λ (p : Pos). place_after p (take (line.end + 1 - line.end) (drop line.end source))) here ∙
    ap (λ (k : ℕ). place_after (record { line = line.number; col = line.end - line.start + 1 }) (take k (drop line.end source))) one ∙
    ap (λ (xs : List ℕ). place_after (record { line = line.number; col = line.end - line.start + 1 }) (take 1 xs)) behind
