-- What was read of each clause, and one more.
use Rattle.std.proofs.Common.{◌≡◌, sym, subst, refl, ℕ, ◌+◌, ◌<◌, ◌≤◌, inl, inr, List, [], ◌∷◌, ◌++◌, length, slice_index_or, arith}
use Rattle.std.specs.List.{All}
use Rattle.std.proofs.lemmas.Bool.{cases_lt}
use Rattle.std.proofs.lemmas.List.{length-append, length-map, get_or-map, get_or_default}
use Rattle.assembly_tree.specs.declared.body.Clause.{Clause}
use Rattle.assembly_tree.specs.declared.body.ClauseKind as handled
use Rattle.body_codec.specs.declared.fault.BodyFault.{BodyFault}
use Rattle.body_codec.specs.declared.fault.BodyFault.TheVariants as faults
use Rattle.body_codec.specs.declared.decoding.sections.ClauseRow.{ClauseRow}
use Rattle.body_codec.specs.declared.decoding.sections.Found.{Found}
use Rattle.body_codec.specs.Instruction.{Piece}
use Rattle.body_codec.specs.Names.{NameMap, reading}
use Rattle.body_codec.specs.Sections.{SpellsKind, SpellsClause, SpellsClauses}
use Rattle.body_codec.specs.Faults.{Catches, HaveCatches, IsUncaught}
use Rattle.body_codec.specs.ReadingClauses.{HasFilter, IsFound, rows_of, IsCatchAt, IsCatchFault}
use Rattle.body_codec.proofs.Marks.{each_push}
use Rattle.body_codec.proofs.Outcomes.{any_row}

abbrev clause_at : handled.ClauseKind → Found → Clause
clause_at kind f = record { kind = kind; try_start = f.region.try_start; try_end = f.region.try_end; handler_start = f.region.handler_start; handler_end = f.region.handler_end }

-- the first k clauses
pub record HandlersTo (names : NameMap) (found : List Found) (clauses : List Clause) (k : ℕ) : Type 0 where
  pub count : length clauses ≡ k
  pub spelled : (ps : List Piece) → All (IsFound ps) found → (j : ℕ) (f : Found) (c : Clause) → j < k → SpellsClause (reading names) ps (slice_index_or found j f).row (slice_index_or clauses j c)
  pub catches : (j : ℕ) (f : Found) → j < k → Catches names (slice_index_or found j f).row

pub handlers_none : (names : NameMap) (found : List Found) → HandlersTo names found [] 0
handlers_none names found = record { count = refl; spelled = λ ps h j f c l. absurd (omega arith); catches = λ j f l. absurd (omega arith) }

up_to : (P : ℕ → Type 0) (n : ℕ) → ((j : ℕ) → j < n → P j) → P n → (j : ℕ) → j < n + 1 → P j
up_to P n before here j h = elim (cases_lt j n) [ inl l ↦ before j l | inr g ↦ let e : n ≡ j = omega arith in subst P e here ]

pub handlers_more : (names : NameMap) (found : List Found) (clauses : List Clause) (k : ℕ) (f : Found) (kind : handled.ClauseKind) → HandlersTo names found clauses k → k < length found
    → ((ps : List Piece) → HasFilter ps (slice_index_or found k f).row (slice_index_or found k f).region.handler_start (slice_index_or found k f).region.filter
    → SpellsKind (reading names) ps (slice_index_or found k f).row (slice_index_or found k f).region.handler_start kind)
    → Catches names (slice_index_or found k f).row → HandlersTo names found (clauses ++ clause_at kind (slice_index_or found k f) ∷ []) (k + 1)
handlers_more names found clauses k f kind t l h g = record {
  count = let n = length-append clauses (clause_at kind (slice_index_or found k f) ∷ []) in let c = t.count in omega arith;
  spelled = λ ps all j e c m.
      each_push (λ n x. (e : Found) → SpellsClause (reading names) ps (slice_index_or found n e).row x) clauses (clause_at kind (slice_index_or found k f)) k t.count
      (λ n d i e. t.spelled ps all n e d i) (here ps all) j c m e;
  catches = λ j e m. up_to (λ n. (e : Found) → Catches names (slice_index_or found n e).row) k (λ n i e. t.catches n e i)
      (λ e. let P : Found → Type 0 = λ x. Catches names x.row in subst P (get_or_default found k f e l) g) j m e;
} where
  here : (ps : List Piece) → All (IsFound ps) found → (e : Found) → SpellsClause (reading names) ps (slice_index_or found k e).row (clause_at kind (slice_index_or found k f))
  here ps all e =
      let r = all k f l in
      let P : Found → Type 0 = λ x. SpellsClause (reading names) ps x.row (clause_at kind (slice_index_or found k f)) in
      subst P (get_or_default found k f e l) (record { try_range = r.try_range; handler_range = r.handler_range; kind = h ps r.kind })

rows_at : (found : List Found) (k : ℕ) (f : Found) (r : ClauseRow) → k < length found → slice_index_or (rows_of found) k r ≡ (slice_index_or found k f).row
rows_at found k f r h = get_or-map (λ (x : Found). x.row) found k f r h

any_found : Found
any_found = record { row = any_row; region = record { try_start = 0; try_end = 0; handler_start = 0; handler_end = 0; filter = 0 } }

pub handlers_all : (names : NameMap) (found : List Found) (clauses : List Clause) (k : ℕ) → HandlersTo names found clauses k → k ≡ length found → length found ≤ 65535
    → (ps : List Piece) → All (IsFound ps) found → SpellsClauses (reading names) ps (rows_of found) clauses
handlers_all names found clauses k t e few ps all =
    let n = length-map found (λ (x : Found). x.row) in
    let c = t.count in
    record {
      count = omega arith;
      few = omega arith;
      each = λ j r d l.
          let P : ClauseRow → Type 0 = λ x. SpellsClause (reading names) ps x (slice_index_or clauses j d) in
          subst P (sym (rows_at found j any_found r (omega arith))) (t.spelled ps all j any_found d (omega arith));
    }

pub handlers_fault : (names : NameMap) (found : List Found) (clauses : List Clause) (k : ℕ) (f : Found) (fault : BodyFault) → HandlersTo names found clauses k → k < length found
    → IsCatchAt names (slice_index_or found k f).row fault → IsCatchFault names (rows_of found) fault
handlers_fault names found clauses k f (faults.Token offset) t l h =
    let n = length-map found (λ (x : Found). x.row) in
    record {
      k = k;
      within = omega arith;
      at = λ r. let P : ClauseRow → Type 0 = λ x. offset ≡ x.handler_offset in subst P (sym (rows_at found k f r l)) h.0;
      before = λ j r m. let P : ClauseRow → Type 0 = Catches names in subst P (sym (rows_at found j any_found r (omega arith))) (t.catches j any_found m);
      uncaught = λ r. let P : ClauseRow → Type 0 = IsUncaught names in subst P (sym (rows_at found k f r l)) h.1;
    }
handlers_fault names found clauses k f faults.NoMemory t l h = tt
handlers_fault names found clauses k f faults.Header t l h = absurd h
handlers_fault names found clauses k f (faults.Far n) t l h = absurd h
handlers_fault names found clauses k f (faults.Opcode n) t l h = absurd h
handlers_fault names found clauses k f (faults.Cut n) t l h = absurd h
handlers_fault names found clauses k f (faults.Target n) t l h = absurd h
handlers_fault names found clauses k f (faults.Range n) t l h = absurd h

-- all catches of what was read
pub handlers_catch : (names : NameMap) (found : List Found) (clauses : List Clause) (k : ℕ) → HandlersTo names found clauses k → k ≡ length found → HaveCatches names (rows_of found) (length (rows_of found))
handlers_catch names found clauses k t e j r m =
    let n = length-map found (λ (x : Found). x.row) in
    let P : ClauseRow → Type 0 = Catches names in
    subst P (sym (rows_at found j any_found r (omega arith))) (t.catches j any_found (omega arith))
