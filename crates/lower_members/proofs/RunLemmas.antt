-- First bytes of lists that begin alike.
use Rattle.std.proofs.Common.{◌≡◌, ◌+◌, ◌-◌, ◌<◌, ◌≤◌, ◌∙◌, ℕ, List, [], ◌∷◌, ◌++◌, Option, ap, refl, sym, length, take, arith}
use Rattle.std.specs.Prelude.{zero, suc}
use Rattle.std.proofs.lemmas.List.{append_assoc, flat_map_more, take-take}
use Rattle.source_model.specs.Data.{first_bytes, repeated}
use Rattle.lower_members.specs.Runs.{bytes_of_runs, run_bytes}
use Rattle.lower_members.specs.declared.runs.Run.{Run}

-- lists with the same first bytes have the same fewer first bytes
fewer : (n m : ℕ) (ys zs : List ℕ) → n ≤ m → take m ys ≡ take m zs → take n ys ≡ take n zs
fewer n m ys zs h e = sym (take-take n m ys h) ∙ ap (take n) e ∙ take-take n m zs h

cut_first : (m : ℕ) (more rest : List ℕ) → take m (take m more ++ rest) ≡ take m (more ++ rest)
cut_first zero more rest = refl
cut_first (suc m) [] rest = refl
cut_first (suc m) (x ∷ more) rest = ap (λ ys. x ∷ ys) (cut_first m more rest)

behind_both : (xs : List ℕ) (n m : ℕ) (ys zs : List ℕ) → take m ys ≡ take m zs → n ≤ length xs + m → take n (xs ++ ys) ≡ take n (xs ++ zs)
behind_both [] n m ys zs e h = fewer n m ys zs (omega (arith, h)) e
behind_both (x ∷ xs) zero m ys zs e h = refl
behind_both (x ∷ xs) (suc n) m ys zs e h = ap (λ l. x ∷ l) (behind_both xs n m ys zs e (omega (arith, h)))

-- of bytes that are added only those up to the room count
pub pushed_up_to : (size room : ℕ) (old more rest : List ℕ) → size ≤ length old + room → take size ((old ++ take room more) ++ rest) ≡ take size (old ++ (more ++ rest))
pushed_up_to size room old more rest h =
    ap (take size) (append_assoc old (take room more) rest) ∙ behind_both old size room (take room more ++ rest) (more ++ rest) (cut_first room more rest) h

pub once_more : (k : ℕ) (bytes : List ℕ) → 0 < k → repeated k bytes ≡ bytes ++ repeated (k - 1) bytes
once_more zero bytes h = absurd (omega (arith, h))
once_more (suc k) bytes h = let e : suc k - 1 ≡ k = omega arith in ap (λ n. bytes ++ repeated n bytes) (sym e)

-- one of the times that a run stands comes first
pub next_time : (size : Option ℕ) (old new once rest all : List ℕ) (k : ℕ) → 0 < k
    → ((more : List ℕ) → first_bytes size (new ++ more) ≡ first_bytes size (old ++ (once ++ more)))
    → first_bytes size (old ++ (repeated k once ++ rest)) ≡ all
    → first_bytes size (new ++ (repeated (k - 1) once ++ rest)) ≡ all
next_time size old new once rest all k some pushed before =
    pushed (repeated (k - 1) once ++ rest)
    ∙ ap (λ l. first_bytes size (old ++ l)) (sym (append_assoc once (repeated (k - 1) once) rest) ∙ ap (λ l. l ++ rest) (sym (once_more k once some)))
    ∙ before

pub run_pushed : (runs : List Run) (run : Run) → bytes_of_runs (runs ++ run ∷ []) ≡ bytes_of_runs runs ++ run_bytes run
run_pushed runs run = sym (flat_map_more run_bytes [] runs run)

pub nothing_many : (k : ℕ) → repeated k [] ≡ []
nothing_many zero = refl
nothing_many (suc k) = nothing_many k
