-- Fronts of byte lists, and the runs of pieces that stand there.
use Rattle.std.proofs.Common.{◌≡◌, ℕ, zero, suc, ◌+◌, ◌-◌, ◌<◌, ◌≤◌, Bool, true, false, cond, not, ◌&&◌, ◌||◌, nat_eq, inl, inr, List, [], ◌∷◌, ◌++◌, length, take, drop, get_or, Option, None, Some, refl, ap, sym, ◌∙◌, arith, length-append, length-drop, take-append-drop, take_at, drop_at, true≢false, ne_eqb}
use Rattle.std.proofs.lemmas.Bool.{cases_Bool, cond-true, cond-false, eqb-true, false≢true}
use Rattle.std.proofs.lemmas.List.Sums.{take_while-cons}
use Rattle.std.specs.Option.{option_map}
use Rattle.il_lexer.specs.declared.runs.Run.{Run}
use Rattle.il_lexer.specs.Classes.{first_passes, first_is}
use Rattle.il_lexer.specs.Runs.{front, joined, from_piece, run_within, run_of}
use Rattle.il_lexer.specs.Spelled.{Each}
use Rattle.il_lexer.proofs.RunLemmas.{run-piece}

-- a front of so many bytes that is in a set
pub record Front (P : List ℕ → Type 0) (bs : List ℕ) (n : ℕ) : Type 0 where
  pub word : List ℕ
  pub after : List ℕ
  pub holds : P word
  pub whole : bs ≡ word ++ after
  pub long : length word ≡ n

pub front-map : {P : List ℕ → Type 0} (Q : List ℕ → Type 0) {bs : List ℕ} {n : ℕ} → Front P bs n → ((w : List ℕ) → P w → Q w) → Front Q bs n
front-map Q f g = record { word = f.word; after = f.after; holds = g f.word f.holds; whole = f.whole; long = f.long }

pub front-rest : {P : List ℕ → Type 0} {bs : List ℕ} {n : ℕ} → (f : Front P bs n) → drop n bs ≡ f.after
front-rest {bs = bs} {n = n} f = ap (drop n) f.whole ∙ drop_at f.word f.after n f.long

pub front-taken : {P : List ℕ → Type 0} {bs : List ℕ} {n : ℕ} → (f : Front P bs n) → take n bs ≡ f.word
front-taken {bs = bs} {n = n} f = ap (take n) f.whole ∙ take_at f.word f.after n f.long

-- the bytes up to a byte that is there
pub nonempty-drop : (n x : ℕ) (bs xs : List ℕ) → drop n bs ≡ x ∷ xs → n < length bs
nonempty-drop n x bs xs e =
    let len : length (drop n bs) ≡ length bs - n = length-drop n bs in
    let one : length (drop n bs) ≡ suc (length xs) = ap length e in
    omega arith

pub taken-long : (n x : ℕ) (bs xs : List ℕ) → drop n bs ≡ x ∷ xs → length (take n bs) ≡ n
taken-long n x bs xs e =
    let lt : n < length bs = nonempty-drop n x bs xs e in
    let all : length (take n bs) + length (drop n bs) ≡ length bs =
    sym (length-append (take n bs) (drop n bs)) ∙ ap length (take-append-drop n bs) in
    let len : length (drop n bs) ≡ length bs - n = length-drop n bs in
    omega arith

pub split-at : (n x : ℕ) (bs xs : List ℕ) → drop n bs ≡ x ∷ xs → bs ≡ take n bs ++ x ∷ xs
split-at n x bs xs e = sym (take-append-drop n bs) ∙ ap (λ ys. take n bs ++ ys) e

pub first-cons : (p : ℕ → Bool) (bs : List ℕ) → first_passes p bs ≡ true → (b : ℕ) × (rest : List ℕ) × (p b ≡ true) × (bs ≡ b ∷ rest)
first-cons p [] h = absurd (false≢true h)
first-cons p (b ∷ bs) h = (b, bs, h, refl)

pub first-is-cons : (x : ℕ) (bs : List ℕ) → first_is x bs ≡ true → (rest : List ℕ) × (bs ≡ x ∷ rest)
first-is-cons x [] h = absurd (false≢true h)
first-is-cons x (b ∷ bs) h = (bs, ap (λ y. y ∷ bs) (eqb-true b x h))

pub heads-same : (a b : ℕ) (xs ys : List ℕ) → a ∷ xs ≡ b ∷ ys → a ≡ b
heads-same a b xs ys e = ap (λ l. get_or l 0 0) e

pub tails-same : (a b : ℕ) (xs ys : List ℕ) → a ∷ xs ≡ b ∷ ys → xs ≡ ys
tails-same a b xs ys e = ap (drop 1) e

-- bytes that a test tells apart are two
pub differ : (p : ℕ → Bool) (b c : ℕ) → p b ≡ true → p c ≡ false → nat_eq b c ≡ false
differ p b c hb hc = ne_eqb b c (λ e. true≢false (sym hb ∙ ap p e ∙ hc))

pub eq-self : (q : ℕ) → nat_eq q q ≡ true
eq-self q = grind arith

-- tests and options
pub and3 : (x y z : Bool) → x ≡ true → y ≡ true → z ≡ true → (x && y && z) ≡ true
and3 true true z a b c = c
and3 true false z a b c = b
and3 false y z a b c = a

pub and3-parts : (x y z : Bool) → (x && y && z) ≡ true → (x ≡ true) × (y ≡ true) × (z ≡ true)
and3-parts true true z h = (refl, refl, h)
and3-parts true false z h = absurd (false≢true h)
and3-parts false y z h = absurd (false≢true h)

pub not-true : (x : Bool) → not x ≡ true → x ≡ false
not-true true h = absurd (false≢true h)
not-true false h = refl

pub or-false : (x y : Bool) → (x || y) ≡ false → (x ≡ false) × (y ≡ false)
or-false true y h = absurd (true≢false h)
or-false false y h = (refl, h)

pub cond-some : (t : Bool) (a n : ℕ) → cond t (Some a) None ≡ Some n → (t ≡ true) × (a ≡ n)
cond-some true a n h = (refl, cc)
cond-some false a n h = cc

pub none-first : (t : Bool) (o : Option ℕ) (n : ℕ) → cond t None o ≡ Some n → (t ≡ false) × (o ≡ Some n)
none-first true o n h = cc
none-first false o n h = (refl, h)

pub map-some : (k n : ℕ) (o : Option ℕ) → option_map (λ m. k + m) o ≡ Some n → (m : ℕ) × (o ≡ Some m) × (k + m ≡ n)
map-some k n None h = cc
map-some k n (Some m) h = (m, refl, cc)

-- fronts that pass a test
pub front-true : (p : ℕ → Bool) (b : ℕ) (bs : List ℕ) → p b ≡ true → front p (b ∷ bs) ≡ suc (front p bs)
front-true p b bs h = ap length (take_while-cons p b bs ∙ cond-true (p b) _ _ h)

pub front-false : (p : ℕ → Bool) (b : ℕ) (bs : List ℕ) → p b ≡ false → front p (b ∷ bs) ≡ 0
front-false p b bs h = ap length (take_while-cons p b bs ∙ cond-false (p b) _ _ h)

pub front-each : (p : ℕ → Bool) (w after : List ℕ) → Each p w → front p (w ++ after) ≡ length w + front p after
front-each p [] after h = omega arith
front-each p (b ∷ w) after h =
    let more : front p (w ++ after) ≡ length w + front p after = front-each p w after h.1 in
    let one : front p (b ∷ (w ++ after)) ≡ suc (front p (w ++ after)) = front-true p b (w ++ after) h.0 in
    omega arith

pub front-stops : (p : ℕ → Bool) (bs : List ℕ) → first_passes p bs ≡ false → front p bs ≡ 0
front-stops p [] h = refl
front-stops p (b ∷ bs) h = front-false p b bs h

-- the front that passes, as a front in the set, and what stands behind it
pub record Passed (p : ℕ → Bool) (bs : List ℕ) : Type 0 where
  pub word : List ℕ
  pub after : List ℕ
  pub each : Each p word
  pub whole : bs ≡ word ++ after
  pub long : length word ≡ front p bs
  pub stops : first_passes p after ≡ false

pub passed : (p : ℕ → Bool) (bs : List ℕ) → Passed p bs
passed p [] = record { word = []; after = []; each = tt; whole = refl; long = refl; stops = refl }
passed p (b ∷ bs) =
    let more : Passed p bs = passed p bs in
    elim (cases_Bool (p b)) [
      | inl h ↦ record {
        word = b ∷ more.word;
        after = more.after;
        each = (h, more.each);
        whole = ap (λ xs. b ∷ xs) more.whole;
        long = ap suc more.long ∙ sym (front-true p b bs h);
        stops = more.stops;
      }
      | inr h ↦ record {
        word = [];
        after = b ∷ bs;
        each = tt;
        whole = refl;
        long = sym (front-false p b bs h);
        stops = h;
      }
    ]

-- a run, piece by piece
abbrev pub is_piece : Option ℕ → Bool
is_piece None = false
is_piece (Some zero) = false
is_piece (Some (suc n)) = true

pub data Steps (piece : List ℕ → Option ℕ) : List ℕ → ℕ → ℕ → Type 0 where
  stop : {bs : List ℕ} {r k : ℕ} → is_piece (piece bs) ≡ false → r ≡ 0 → k ≡ 0 → Steps piece bs r k
  step : {b n r k rs ks : ℕ} {bs : List ℕ} → piece (b ∷ bs) ≡ Some (suc n) → Steps piece (drop n bs) r k → rs ≡ suc (n + r) →
      ks ≡ suc k → Steps piece (b ∷ bs) rs ks

abbrev StepsOf : (List ℕ → Option ℕ) → List ℕ → Run → Type 0
StepsOf piece bs run = Steps piece bs run.bytes run.pieces

step_on : (piece : List ℕ → Option ℕ) (b : ℕ) (bs : List ℕ) (more : ℕ → Run) →
    ((n : ℕ) → StepsOf piece (drop n bs) (more (suc n))) → (o : Option ℕ) → piece (b ∷ bs) ≡ o →
    StepsOf piece (b ∷ bs) (from_piece o more)
step_on piece b bs more rest None e = stop (ap is_piece e) refl refl
step_on piece b bs more rest (Some zero) e = stop (ap is_piece e) refl refl
step_on piece b bs more rest (Some (suc n)) e = step e (rest n) (omega arith) (omega arith)

steps_within : (piece : List ℕ → Option ℕ) → piece [] ≡ None → (turns : ℕ) (bs : List ℕ) → length bs ≤ turns →
    StepsOf piece bs (run_within turns piece bs)
steps_within piece e zero [] le = stop (ap is_piece e) refl refl
steps_within piece e zero (b ∷ bs) le = absurd (omega arith)
steps_within piece e (suc turns) [] le = stop (ap is_piece e) refl refl
steps_within piece e (suc turns) (b ∷ bs) le =
    step_on piece b bs (λ n. run_within turns piece (drop n (b ∷ bs)))
    (λ n. let short : length (drop n bs) ≤ turns = omega (arith, length-drop n bs) in steps_within piece e turns (drop n bs) short)
    (piece (b ∷ bs)) refl

pub steps : (piece : List ℕ → Option ℕ) → piece [] ≡ None → (bs : List ℕ) →
    Steps piece bs (run_of piece bs).bytes (run_of piece bs).pieces
unfolding run_of
steps piece e bs = let le : length bs ≤ length bs = omega arith in steps_within piece e (length bs) bs le

-- where a piece stands, the run has a byte
pub steps-some : {piece : List ℕ → Option ℕ} {bs : List ℕ} {r k : ℕ} → Steps piece bs r k → is_piece (piece bs) ≡ true → 0 < r
steps-some (stop none er ek) h = absurd (true≢false (sym h ∙ none))
steps-some (step {n = n} {r = r} e more er ek) h = omega arith

-- a piece of known length before the rest
pub run-append : (piece : List ℕ → Option ℕ) (w rest : List ℕ) → 0 < length w → piece (w ++ rest) ≡ Some (length w) →
    run_of piece (w ++ rest) ≡ joined (length w) (run_of piece rest)
run-append piece [] rest lt e = absurd (omega arith)
run-append piece (b ∷ w) rest lt e =
    run-piece piece b (length w) (w ++ rest) e ∙ ap (λ xs. joined (suc (length w)) (run_of piece xs)) (drop_at w rest (length w) refl)
