-- What a look at a body says, by the fault of its bytes.
use Rattle.std.specs.Prelude.{◌↔◌, IsTrue}
use Rattle.std.proofs.Common.{◌≡◌, ◌≢◌, ℕ, ◌/◌, ◌%◌, ◌^◌, Bool, List, refl, sym, subst, ap, ◌∙◌, ◌-◌, ◌<◌, ◌≤◌, ◌⊎◌, inl, inr, length, Result, Ok, Err, IfOk, Option, Some, None, arith}
use Rattle.body_codec.specs.declared.fault.BodyFault.{BodyFault}
use Rattle.image_model.specs.Naming.{IsToken}
use Rattle.image_model.specs.Rows.{HasRow}
use Rattle.method_states.proofs.Marking.{token_is, token_parts}
use Rattle.method_states.specs.States.{KnownHeader, Looks, fault_state}
use Rattle.method_states.specs.declared.row_marks.RowMarks.{RowMarks}
use Rattle.method_states.specs.declared.state.BodyState.{BodyState}
use Rattle.body_codec.specs.Faults.{IsCode, IsOutline, IsFaultOfAll}
use Rattle.body_codec.specs.Header.{code_of}
use Rattle.body_codec.specs.Instruction.{Piece}
use Rattle.body_codec.specs.declared.fault.BodyFault.TheVariants as faults
use Rattle.body_codec.proofs.Decoded.{target_code, range_outline}
use Rattle.body_codec.proofs.Outcomes.{stop_cut}

pub no_code_opcode : (bytes : List ℕ) (o : ℕ) → IsFaultOfAll bytes (faults.Opcode o) → (pieces : List Piece) → IsCode bytes pieces → ⊥
no_code_opcode bytes o h pieces c = stop_cut (code_of bytes) o h.1.rest pieces h.1.stops c.cut

pub no_code_cut : (bytes : List ℕ) (o : ℕ) → IsFaultOfAll bytes (faults.Cut o) → (pieces : List Piece) → IsCode bytes pieces → ⊥
no_code_cut bytes o h pieces c = stop_cut (code_of bytes) o h.1.rest pieces h.1.stops c.cut

pub no_code_target : (bytes : List ℕ) (o : ℕ) → IsFaultOfAll bytes (faults.Target o) → (pieces : List Piece) → IsCode bytes pieces → ⊥
no_code_target bytes o h pieces c = target_code bytes h.1.0 pieces o h.1.1 h.1.2 c

pub code_before_range : (bytes : List ℕ) (o : ℕ) → IsFaultOfAll bytes (faults.Range o) → (pieces : List Piece) × IsCode bytes pieces
code_before_range bytes o h = (h.1.0, h.1.1)

pub no_outline_range : (bytes : List ℕ) (o : ℕ) → IsFaultOfAll bytes (faults.Range o) → (pieces : List Piece) → IsOutline bytes pieces → ⊥
no_outline_range bytes o h pieces c = range_outline bytes h.1.0 pieces o h.1.1 h.1.2 c

looks_by : (image bytes : List ℕ) (marks : RowMarks) (fault : BodyFault) → KnownHeader image bytes → IsFaultOfAll bytes fault → fault ≢ faults.NoMemory
    → Looks image bytes marks marks (fault_state fault)
looks_by image bytes marks (faults.Range o) k h ne = (k, code_before_range bytes o h, no_outline_range bytes o h, refl)
looks_by image bytes marks (faults.Opcode o) k h ne = (k, no_code_opcode bytes o h, refl)
looks_by image bytes marks (faults.Cut o) k h ne = (k, no_code_cut bytes o h, refl)
looks_by image bytes marks (faults.Target o) k h ne = (k, no_code_target bytes o h, refl)
looks_by image bytes marks faults.Header k h ne = absurd (h k.header)
looks_by image bytes marks (faults.Token o) k h ne = absurd h
looks_by image bytes marks (faults.Far o) k h ne = absurd h
looks_by image bytes marks faults.NoMemory k h ne = absurd (ne refl)

pub looks_tail : {E : Type 0} (image bytes : List ℕ) (marks : RowMarks) (fault : BodyFault) (r : Result BodyState E) → KnownHeader image bytes → IsFaultOfAll bytes fault
    → IfOk r (λ s. (s ≡ fault_state fault) × (fault ≢ faults.NoMemory)) → IfOk r (Looks image bytes marks marks)
looks_tail image bytes marks fault (Ok s) k h g = subst (Looks image bytes marks marks) (sym g.0) (looks_by image bytes marks fault k h g.1)
looks_tail image bytes marks fault (Err e) k h g = tt

-- ---- locals

abbrev pub Locals : List ℕ → ℕ → Type 0
Locals image token = (token ≡ 0) ⊎ ((row : ℕ) × IsToken token 0x11 row × HasRow image 0x11 row)

pub locals_row : (image : List ℕ) (token : ℕ) (b : Bool) → (token ≡ 0 → ⊥) → token / 2 ^ 24 ≡ 0x11 → IsTrue b ↔ HasRow image 0x11 (token % 2 ^ 24) → IsTrue b ↔ Locals image token
locals_row image token b some table h = (
  λ t. inr (token % 2 ^ 24, token_is token 0x11 (token % 2 ^ 24) (sym table) refl, h.0 t),
  λ l. elim l [
    | inl zero ↦ absurd (some zero)
    | inr p ↦ h.1 (subst (HasRow image 0x11) (token_parts token 0x11 p.0 p.1).1 p.2)
  ],
)

pub locals_other : (image : List ℕ) (token : ℕ) → (token ≡ 0 → ⊥) → (token / 2 ^ 24 ≡ 0x11 → ⊥) → Locals image token → ⊥
locals_other image token some other (inl zero) = some zero
locals_other image token some other (inr p) = other (sym (token_parts token 0x11 p.0 p.1).0)
