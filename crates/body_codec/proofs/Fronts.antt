-- What the front of some bytes says of an opcode.
use Rattle.std.proofs.Common.{◌≡◌, ◌≢◌, ◌∙◌, sym, ap, refl, ℕ, ◌<◌, true, List, [], ◌∷◌, ◌++◌, length, get_or, take, drop, Option, None, Some, ◌≤◌, arith}
use Rattle.std.proofs.lemmas.List.{take-append-drop, length-append}
use Rattle.opcode_table.specs.Opcodes.{bytes_of}
use Rattle.opcode_table.specs.declared.op.Op.{Op}
use Rattle.body_codec.specs.Instruction.{joined, opcode_bytes}
use Rattle.body_codec.proofs.Opcodes.{formed, is_formed}
use Rattle.body_codec.proofs.Pieces.{opcode_some}

joined_front : (first : ℕ) (second : Option ℕ) (rest : List ℕ) (n : ℕ) → take n rest ≡ joined first second → rest ≡ joined first second ++ drop n rest
joined_front first second rest n h = sym (take-append-drop n rest) ∙ ap (λ x. x ++ drop n rest) h

-- an opcode whose bytes stand in front
pub opcode_front : (op : Op) (first : ℕ) (second : Option ℕ) (rest : List ℕ) (n : ℕ) → bytes_of op ≡ (first, second) → take n rest ≡ joined first second
    → rest ≡ opcode_bytes op ++ drop n rest
unfolding opcode_bytes
opcode_front op first second rest n e h =
    joined_front first second rest n h ∙ ap (λ (b : ℕ × Option ℕ). joined b.0 b.1 ++ drop n rest) (sym e)

short_only : (f first : ℕ) (s : Option ℕ) (rest more : List ℕ) → is_formed f s ≡ true → take 1 rest ≡ first ∷ [] → first ≢ 0xFE
    → rest ≡ joined f s ++ more → (f ≡ first) × (s ≡ None)
short_only f first None rest more w t n e = let h = sym (ap (take 1) e) ∙ t in (cc, refl)
short_only f first (Some x) rest more w t n e = let h = sym (ap (take 1) e) ∙ t in let same : f ≡ first = cc in absurd (grind arith)

long_only : (f second : ℕ) (s : Option ℕ) (rest more : List ℕ) → is_formed f s ≡ true → take 2 rest ≡ 0xFE ∷ second ∷ []
    → rest ≡ joined f s ++ more → (f ≡ 0xFE) × (s ≡ Some second)
long_only f second None [] more w t e = cc
long_only f second None (x ∷ rest) more w t e = let same : f ≡ 0xFE = cc in absurd (grind arith)
long_only f second (Some y) rest more w t e = let h = sym (ap (take 2) e) ∙ t in (cc, cc)

alone_not : (f : ℕ) (s : Option ℕ) (more : List ℕ) → is_formed f s ≡ true → 0xFE ∷ [] ≡ joined f s ++ more → ⊥
alone_not f None more w e = let same : f ≡ 0xFE = cc in grind arith
alone_not f (Some y) more w e = let l = ap length e in omega arith

pair_is : (p : ℕ × Option ℕ) (a : ℕ) (b : Option ℕ) → p.0 ≡ a → p.1 ≡ b → p ≡ (a, b)
pair_is p a b e f = ap (λ x. (x, p.1)) e ∙ ap (λ y. (a, y)) f

-- the opcode in front of bytes whose first is not 0xFE, and of those whose first is
pub short_bytes : (op : Op) (first : ℕ) (rest more : List ℕ) → take 1 rest ≡ first ∷ [] → first ≢ 0xFE → rest ≡ opcode_bytes op ++ more → bytes_of op ≡ (first, None)
unfolding opcode_bytes
short_bytes op first rest more t n e = let r = short_only _ first _ rest more (formed op) t n e in pair_is (bytes_of op) first None r.0 r.1

pub long_bytes : (op : Op) (second : ℕ) (rest more : List ℕ) → take 2 rest ≡ 0xFE ∷ second ∷ [] → rest ≡ opcode_bytes op ++ more → bytes_of op ≡ (0xFE, Some second)
unfolding opcode_bytes
long_bytes op second rest more t e = let r = long_only _ second _ rest more (formed op) t e in pair_is (bytes_of op) 0xFE (Some second) r.0 r.1

pub none_empty : (op : Op) (more : List ℕ) → [] ≡ opcode_bytes op ++ more → ⊥
none_empty op more e = let l = ap length e ∙ length-append (opcode_bytes op) more in let s = opcode_some op in omega arith

pub none_alone : (op : Op) (more : List ℕ) → 0xFE ∷ [] ≡ opcode_bytes op ++ more → ⊥
unfolding opcode_bytes
none_alone op more e = alone_not _ _ more (formed op) e

nothing : (xs : List ℕ) → length xs < 1 → xs ≡ []
nothing [] h = refl
nothing (x ∷ xs) h = absurd (omega arith)

single : (xs : List ℕ) (y : ℕ) → 1 ≤ length xs → length xs < 2 → get_or xs 0 0 ≡ y → xs ≡ y ∷ []
single [] y l h e = absurd (omega arith)
single (x ∷ []) y l h e = ap (λ z. z ∷ []) e
single (x ∷ z ∷ zs) y l h e = absurd (omega arith)

pub none_short : (rest : List ℕ) → length rest < 1 → (op : Op) (more : List ℕ) → rest ≡ opcode_bytes op ++ more → ⊥
none_short rest h op more e = none_empty op more (sym (nothing rest h) ∙ e)

pub none_single : (rest : List ℕ) → 1 ≤ length rest → length rest < 2 → get_or rest 0 0 ≡ 0xFE → (op : Op) (more : List ℕ) → rest ≡ opcode_bytes op ++ more → ⊥
none_single rest l h f op more e = none_alone op more (sym (single rest 0xFE l h f) ∙ e)
