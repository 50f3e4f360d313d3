-- Which demands a method meets, by what is said of it.
use Rattle.std.proofs.Common.{◌≡◌, ◌∙◌, sym, subst, refl, ℕ, ◌+◌, ◌-◌, ◌<◌, ◌≤◌, ◌⊎◌, inl, inr, Bool, true, false, not, List, length, get_or, slice_index_or, arith}
use Rattle.std.specs.Prelude.{◌↔◌, IsTrue}
use Rattle.std.proofs.lemmas.Bool.{false≢true, true≢false}
use Rattle.body_codec.specs.Faults.{IsCode, IsOutline}
use Rattle.body_codec.specs.Instruction.{Piece}
use Rattle.image_model.specs.Bodies.{body_of, HasBody, HasCodeType, HasHeader, HasInstructions, HasClauses}
use Rattle.image_model.specs.Rows.{count_of, HasRow}
use Rattle.method_states.specs.States.{HasGoodBody, HasState, AreStates}
use Rattle.method_states.specs.declared.state.BodyState.{BodyState}
use Rattle.method_states.specs.declared.state.BodyState.TheVariants as states
use Rattle.method_states.proofs.Sharing.{header_met}
use Rattle.body_demands.specs.Asked.{AskHeaders, AskInstructions, AskClauses, fails_header, fails_instructions, fails_clauses}

-- ---- a row that isn't a method's

pub header_other : (image : List ℕ) (table row : ℕ) → (table ≡ 0x06 → HasRow image 0x06 row → ⊥) → HasHeader image table row
header_other image table row never = record { code_type = λ e there. absurd (never e there); header = λ e there body. absurd (never e there) }

pub instructions_other : (image : List ℕ) (table row : ℕ) → (table ≡ 0x06 → HasRow image 0x06 row → ⊥) → HasInstructions image table row
instructions_other image table row never = λ e there body. absurd (never e there)

pub clauses_other : (image : List ℕ) (table row : ℕ) → (table ≡ 0x06 → HasRow image 0x06 row → ⊥) → HasClauses image table row
clauses_other image table row never = λ e there body. absurd (never e there)

-- ---- a good body

good_header : (image : List ℕ) (row : ℕ) → HasGoodBody image row → HasHeader image 0x06 row
good_header image row g = header_met image row g.code_type g.known

good_clauses : (image : List ℕ) (row : ℕ) → HasGoodBody image row → HasClauses image 0x06 row
good_clauses image row g = λ e there body. let o = g.outline.1 in (o.pieces, o.outline)

good_instructions : (image : List ℕ) (row : ℕ) → HasGoodBody image row → HasInstructions image 0x06 row
good_instructions image row g = λ e there body. let o = g.outline.1 in (o.pieces, o.outline.code)

-- ---- by what is said

meets_header : (image : List ℕ) (row : ℕ) (s : BodyState) → HasState image row s → fails_header s ≡ false → HasHeader image 0x06 row
meets_header image row states.Nothing h e = record { code_type = λ x there. h.0; header = λ x there body. absurd (h.1 body) }
meets_header image row states.Good h e = good_header image row h
meets_header image row states.Again h e = good_header image row h.good
meets_header image row states.Header h e = absurd (true≢false e)
meets_header image row states.Instructions h e = h.header
meets_header image row states.Clauses h e = h.header

not_header : (image : List ℕ) (row : ℕ) (s : BodyState) → HasState image row s → fails_header s ≡ true → HasHeader image 0x06 row → ⊥
not_header image row states.Header h e k = h.fails k
not_header image row states.Nothing h e k = false≢true e
not_header image row states.Good h e k = false≢true e
not_header image row states.Again h e k = false≢true e
not_header image row states.Instructions h e k = false≢true e
not_header image row states.Clauses h e k = false≢true e

meets_instructions : (image : List ℕ) (row : ℕ) (s : BodyState) → HasState image row s → HasHeader image 0x06 row → fails_instructions s ≡ false → HasInstructions image 0x06 row
meets_instructions image row states.Nothing h k e = λ x there body. absurd (h.1 body)
meets_instructions image row states.Good h k e = good_instructions image row h
meets_instructions image row states.Again h k e = good_instructions image row h.good
meets_instructions image row states.Header h k e = absurd (h.fails k)
meets_instructions image row states.Instructions h k e = absurd (true≢false e)
meets_instructions image row states.Clauses h k e = h.instructions

not_instructions : (image : List ℕ) (row : ℕ) (s : BodyState) → HasState image row s → fails_instructions s ≡ true → HasInstructions image 0x06 row → ⊥
not_instructions image row states.Instructions h e k = h.fails k
not_instructions image row states.Nothing h e k = false≢true e
not_instructions image row states.Good h e k = false≢true e
not_instructions image row states.Again h e k = false≢true e
not_instructions image row states.Header h e k = false≢true e
not_instructions image row states.Clauses h e k = false≢true e

meets_clauses : (image : List ℕ) (row : ℕ) (s : BodyState) → HasState image row s → HasHeader image 0x06 row → HasInstructions image 0x06 row → fails_clauses s ≡ false → HasClauses image 0x06 row
meets_clauses image row states.Nothing h k i e = λ x there body. absurd (h.1 body)
meets_clauses image row states.Good h k i e = good_clauses image row h
meets_clauses image row states.Again h k i e = good_clauses image row h.good
meets_clauses image row states.Header h k i e = absurd (h.fails k)
meets_clauses image row states.Instructions h k i e = absurd (h.fails i)
meets_clauses image row states.Clauses h k i e = absurd (true≢false e)

not_clauses : (image : List ℕ) (row : ℕ) (s : BodyState) → HasState image row s → fails_clauses s ≡ true → HasClauses image 0x06 row → ⊥
not_clauses image row states.Clauses h e k = h.fails k
not_clauses image row states.Nothing h e k = false≢true e
not_clauses image row states.Good h e k = false≢true e
not_clauses image row states.Again h e k = false≢true e
not_clauses image row states.Header h e k = false≢true e
not_clauses image row states.Instructions h e k = false≢true e

-- ---- and what is answered

told : (b r : Bool) (P : Type 0) → r ≡ not b → (b ≡ false → P) → (b ≡ true → P → ⊥) → IsTrue r ↔ P
told true r P e holds fails = (λ t. absurd (false≢true (sym e ∙ t)), λ p. absurd (fails refl p))
told false r P e holds fails = (λ t. holds refl, λ p. e)

pub headers_tell : (image : List ℕ) (all : List BodyState) (row : ℕ) (d : BodyState) (b r : Bool) → AskHeaders image all → HasRow image 0x06 row → b ≡ fails_header (slice_index_or all (row - 1) d)
    → r ≡ not b → IsTrue r ↔ HasHeader image 0x06 row
headers_tell image all row d b r a there e f =
    let s = slice_index_or all (row - 1) d in
    let h = a.said.each row d there.0 there.1 in
    told b r (HasHeader image 0x06 row) f (λ g. meets_header image row s h (sym e ∙ g)) (λ g. not_header image row s h (sym e ∙ g))

pub instructions_tell : (image : List ℕ) (all : List BodyState) (row : ℕ) (d : BodyState) (b r : Bool) → AskInstructions image all → HasRow image 0x06 row
    → b ≡ fails_instructions (slice_index_or all (row - 1) d) → r ≡ not b → IsTrue r ↔ HasInstructions image 0x06 row
instructions_tell image all row d b r a there e f =
    let s = slice_index_or all (row - 1) d in
    let h = a.said.each row d there.0 there.1 in
    told b r (HasInstructions image 0x06 row) f (λ g. meets_instructions image row s h (a.headers 0x06 row) (sym e ∙ g)) (λ g. not_instructions image row s h (sym e ∙ g))

pub clauses_tell : (image : List ℕ) (all : List BodyState) (row : ℕ) (d : BodyState) (b r : Bool) → AskClauses image all → HasRow image 0x06 row
    → b ≡ fails_clauses (slice_index_or all (row - 1) d) → r ≡ not b → IsTrue r ↔ HasClauses image 0x06 row
clauses_tell image all row d b r a there e f =
    let s = slice_index_or all (row - 1) d in
    let h = a.said.each row d there.0 there.1 in
    told b r (HasClauses image 0x06 row) f (λ g. meets_clauses image row s h (a.headers 0x06 row) (a.instructions 0x06 row) (sym e ∙ g)) (λ g. not_clauses image row s h (sym e ∙ g))

-- rows that aren't methods' meet the demand, and what is answered of one at its table
pub header_table : (image : List ℕ) (table row : ℕ) → (table ≡ 0x06 → ⊥) → HasHeader image table row
header_table image table row ne = header_other image table row (λ e there. ne e)

pub header_zero : (image : List ℕ) (table row : ℕ) → row ≡ 0 → HasHeader image table row
header_zero image table row z = header_other image table row (λ e there. let h = there.0 in omega arith)

pub header_past : (image : List ℕ) (table row : ℕ) (X : Type 0) → (45 ≤ table) ⊎ ((count_of image table < row) × X) → HasHeader image table row
header_past image table row X (inl far) = header_other image table row (λ e there. omega arith)
header_past image table row X (inr p) =
    header_other image table row (λ e there. let h = there.1 in let l : count_of image 0x06 < row = subst (λ (t : ℕ). count_of image t < row) e p.0 in omega arith)

pub header_at : (image : List ℕ) (table row : ℕ) (b : Bool) → table ≡ 0x06 → (IsTrue b ↔ HasHeader image 0x06 row) → IsTrue b ↔ HasHeader image table row
header_at image table row b e h = subst (λ (t : ℕ). IsTrue b ↔ HasHeader image t row) (sym e) h

pub ruleset header_steps = (header_table, header_zero, header_past, header_at)

-- rows that aren't methods' meet the demand, and what is answered of one at its table
pub instructions_table : (image : List ℕ) (table row : ℕ) → (table ≡ 0x06 → ⊥) → HasInstructions image table row
instructions_table image table row ne = instructions_other image table row (λ e there. ne e)

pub instructions_zero : (image : List ℕ) (table row : ℕ) → row ≡ 0 → HasInstructions image table row
instructions_zero image table row z = instructions_other image table row (λ e there. let h = there.0 in omega arith)

pub instructions_past : (image : List ℕ) (table row : ℕ) (X : Type 0) → (45 ≤ table) ⊎ ((count_of image table < row) × X) → HasInstructions image table row
instructions_past image table row X (inl far) = instructions_other image table row (λ e there. omega arith)
instructions_past image table row X (inr p) =
    instructions_other image table row (λ e there. let h = there.1 in let l : count_of image 0x06 < row = subst (λ (t : ℕ). count_of image t < row) e p.0 in omega arith)

pub instructions_at : (image : List ℕ) (table row : ℕ) (b : Bool) → table ≡ 0x06 → (IsTrue b ↔ HasInstructions image 0x06 row) → IsTrue b ↔ HasInstructions image table row
instructions_at image table row b e h = subst (λ (t : ℕ). IsTrue b ↔ HasInstructions image t row) (sym e) h

pub ruleset instructions_steps = (instructions_table, instructions_zero, instructions_past, instructions_at)

-- rows that aren't methods' meet the demand, and what is answered of one at its table
pub clauses_table : (image : List ℕ) (table row : ℕ) → (table ≡ 0x06 → ⊥) → HasClauses image table row
clauses_table image table row ne = clauses_other image table row (λ e there. ne e)

pub clauses_zero : (image : List ℕ) (table row : ℕ) → row ≡ 0 → HasClauses image table row
clauses_zero image table row z = clauses_other image table row (λ e there. let h = there.0 in omega arith)

pub clauses_past : (image : List ℕ) (table row : ℕ) (X : Type 0) → (45 ≤ table) ⊎ ((count_of image table < row) × X) → HasClauses image table row
clauses_past image table row X (inl far) = clauses_other image table row (λ e there. omega arith)
clauses_past image table row X (inr p) =
    clauses_other image table row (λ e there. let h = there.1 in let l : count_of image 0x06 < row = subst (λ (t : ℕ). count_of image t < row) e p.0 in omega arith)

pub clauses_at : (image : List ℕ) (table row : ℕ) (b : Bool) → table ≡ 0x06 → (IsTrue b ↔ HasClauses image 0x06 row) → IsTrue b ↔ HasClauses image table row
clauses_at image table row b e h = subst (λ (t : ℕ). IsTrue b ↔ HasClauses image t row) (sym e) h

pub ruleset clauses_steps = (clauses_table, clauses_zero, clauses_past, clauses_at)
