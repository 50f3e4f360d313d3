use Rattle.std.proofs.Common.{◌≡◌, ℕ, ◌+◌, Bool, false, cond, List, [], ◌∷◌, drop, Option, None, Some, refl, sym, ap, ◌∙◌, arith}
use Rattle.std.specs.Option.{option_map}
use Rattle.il_lexer.specs.Classes.{first_is}
use Rattle.il_lexer.specs.Runs.{run_of}
use Rattle.il_lexer.specs.Spellings.{part_length, dotted_part, name_length}
use Rattle.il_lexer.specs.declared.runs.Run.{Run}
use Rattle.il_lexer.proofs.RunLemmas.{run-none}
use Rattle.il_lexer.proofs.spellings.name_length.Goals as goal

undotted : (bs : List ℕ) → first_is 46 bs ≡ false → dotted_part bs ≡ None
undotted [] h = refl
undotted (b ∷ bs) h = ap (λ (t : Bool). cond {A = Option ℕ} t (option_map (λ n. 1 + n) (part_length bs)) None) h

-- a part that no dot follows is the whole name
alone : (bs : List ℕ) (n : ℕ) → Some n ≡ part_length bs → first_is 46 (drop n bs) ≡ false → Some n ≡ name_length bs
alone bs n e apart =
    let none : n + 0 ≡ n = omega arith in
    let h : n + (run_of dotted_part (drop n bs)).bytes ≡ n =
    ap (λ (r : Run). n + r.bytes) (run-none dotted_part (drop n bs) (undotted (drop n bs) apart)) ∙ none in
    sym (ap (option_map (λ m. m + (run_of dotted_part (drop m bs)).bytes)) (sym e) ∙ ap (λ (m : ℕ). Some m) h)

pub returns-then-not-stands_at-clause-value : goal.returns-then-not-stands_at-clause-value
returns-then-not-stands_at-clause-value c =
    alone c.args.rest.now c.in_ok-n.n c.in_ok-n.ensures.value (sym c.if-not-stands_at.ensures)
