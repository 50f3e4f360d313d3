-- One more clause of a section, and one more section.
use Rattle.std.proofs.Common.{◌≡◌, ◌≢◌, ◌∙◌, sym, ap, subst, refl, ℕ, zero, suc, ◌+◌, ◌<◌, ◌≤◌, ◌⊎◌, inl, inr, Bool, true, false, not, cond, ◌&&◌, ◌||◌, List, [], ◌∷◌, ◌++◌, length, take, drop, map, get_or, arith}
use Rattle.std.specs.List.{All, flat_map, fold, list_any, range_with_len}
use Rattle.std.proofs.lemmas.List.{append_assoc, append-nil, length-append, length-map, map_push, take-append-drop, drop_more, get_or-map, get_or_append_left, get_or_at}
use Rattle.std.proofs.lemmas.List.FromFn.{map-range_with_len_more, take-map-range_with_len, get_or-map-range_with_len, length-map-range_with_len}
use Rattle.body_codec.specs.declared.fault.BodyFault.{BodyFault}
use Rattle.body_codec.specs.declared.fault.BodyFault.TheVariants as faults
use Rattle.body_codec.specs.declared.decoding.sections.ClauseRow.{ClauseRow}
use Rattle.body_codec.specs.declared.decoding.sections.Region.{Region}
use Rattle.body_codec.specs.declared.decoding.sections.Found.{Found}
use Rattle.body_codec.specs.declared.decoding.sections.Clauses.{Clauses}
use Rattle.body_codec.specs.Instruction.{Piece}
use Rattle.body_codec.specs.Header.{code_end, has_sections}
use Rattle.body_codec.specs.Sections.{padded, can_be_read, has_more, section_end, clause_count, row_in, rows_in, sections, sections_from, clause_rows, is_broken}
use Rattle.body_codec.specs.Faults.{HasKind, IsClause, AreClauses, IsWrongAt, HasClauses}
use Rattle.body_codec.specs.ReadingClauses.{HasFilter, IsRegion, IsFound, rows_of, ReadsTo, HasRead, IsSectionFault, IsRangeFault}
use Rattle.body_codec.proofs.Rows.{readable_header, after_header}
use Rattle.body_codec.proofs.Outcomes.{any_row}
use Rattle.body_codec.proofs.Marks.{all_push}

any_found : Found
any_found = record { row = any_row; region = record { try_start = 0; try_end = 0; handler_start = 0; handler_end = 0; filter = 0 } }

filter_kind : (ps : List Piece) (row : ClauseRow) (handler filter : ℕ) → HasFilter ps row handler filter → HasKind ps row handler
filter_kind ps row handler filter h =
    elim h [
      | inl x ↦ inl x
      | inr u ↦ elim u [ inl x ↦ inr (inl (x.0, filter, x.1, x.2)) | inr v ↦ inr (inr v) ]
    ]

pub found_clause : (ps : List Piece) (row : ClauseRow) (r : Region) → IsRegion ps row r → IsClause ps row
found_clause ps row r h = record {
  try_start = r.try_start;
  try_end = r.try_end;
  handler_start = r.handler_start;
  handler_end = r.handler_end;
  try_range = h.try_range;
  handler_range = h.handler_range;
  kind = filter_kind ps row r.handler_start r.filter h.kind;
}

rows_length : (found : List Found) → length (rows_of found) ≡ length found
rows_length found = length-map found (λ (f : Found). f.row)

-- the rows of clauses that were found are clauses, also with others behind them
pub rows_are : (ps : List Piece) (found : List Found) (more : List ClauseRow) → All (IsFound ps) found → AreClauses ps (rows_of found ++ more) (length found)
rows_are ps found more each k r h =
    let n = rows_length found in
    let front : get_or (rows_of found ++ more) k r ≡ get_or (rows_of found) k r = get_or_append_left (rows_of found) more r k (omega arith) in
    let here : get_or (rows_of found) k r ≡ (get_or found k any_found).row = get_or-map (λ (f : Found). f.row) found k any_found r h in
    let P : ClauseRow → Type 0 = IsClause ps in
    subst P (sym (front ∙ here)) (found_clause ps (get_or found k any_found).row (get_or found k any_found).region (each k any_found h))

wrong_here : (ps : List Piece) (found : List Found) (row : ClauseRow) (more : List ClauseRow) (broken : Bool) → All (IsFound ps) found → length found ≤ 65535
    → ((IsClause ps row → ⊥) ⊎ (length found ≡ 65535)) → IsWrongAt ps (rows_of found ++ row ∷ more) broken (length found)
wrong_here ps found row more broken each few why =
    let n = rows_length found in
    let l = length-append (rows_of found) (row ∷ more) in
    record {
      few = few;
      there = omega arith;
      before = rows_are ps found (row ∷ more) each;
      wrong = elim why [
        | inl never ↦ inl (omega arith, λ d. let P : ClauseRow → Type 0 = λ x. IsClause ps x → ⊥ in subst P (sym (get_or_at (rows_of found) row more d (length found) n)) never)
        | inr e ↦ inr (inr (e, omega arith))
      ];
    }

-- ---- a section

pub rows_read : (bytes : List ℕ) (at : ℕ) → can_be_read bytes at ≡ true → rows_in bytes at ≡ map (row_in bytes at) (range_with_len 0 (clause_count bytes at))
unfolding rows_in
rows_read bytes at r = ap (λ b. cond b (map (row_in bytes at) (range_with_len 0 (clause_count bytes at))) []) r

pub rows_unread : (bytes : List ℕ) (at : ℕ) → can_be_read bytes at ≡ false → rows_in bytes at ≡ []
unfolding rows_in
rows_unread bytes at r = ap (λ b. cond b (map (row_in bytes at) (range_with_len 0 (clause_count bytes at))) []) r

-- the rows that were found of a section, up to clause k
pub record SectionTo (bytes : List ℕ) (ps : List Piece) (at : ℕ) (before found : List Found) (k : ℕ) : Type 0 where
  pub rows : rows_of found ≡ rows_of before ++ map (row_in bytes at) (range_with_len 0 k)
  pub few : length found ≤ 65535
  pub each : All (IsFound ps) found

pub section_none : (bytes : List ℕ) (ps : List Piece) (at : ℕ) (found : List Found) → length found ≤ 65535 → All (IsFound ps) found → SectionTo bytes ps at found found 0
section_none bytes ps at found few each = record { rows = sym (append-nil (rows_of found)); few = few; each = each }

pub section_more : (bytes : List ℕ) (ps : List Piece) (at : ℕ) (before found : List Found) (k : ℕ) (f : Found) → SectionTo bytes ps at before found k → length found ≢ 65535
    → f.row ≡ row_in bytes at k → IsFound ps f → SectionTo bytes ps at before (found ++ f ∷ []) (k + 1)
section_more bytes ps at before found k f t ne e h = record {
  rows = map_push (λ (x : Found). x.row) found f
      ∙ (ap (λ xs. xs ++ f.row ∷ []) t.rows
      ∙ (append_assoc (rows_of before) (map (row_in bytes at) (range_with_len 0 k)) (f.row ∷ [])
      ∙ ap (λ xs. rows_of before ++ xs) (ap (λ x. map (row_in bytes at) (range_with_len 0 k) ++ x ∷ []) e ∙ sym (map-range_with_len_more (row_in bytes at) 0 k k (omega arith)))));
  few = let few = t.few in let l = length-append found (f ∷ []) in omega arith;
  each = all_push (IsFound ps) found f t.each h;
}

-- the rows of a section from clause k on
rows_split : (bytes : List ℕ) (at count k : ℕ) → k < count → map (row_in bytes at) (range_with_len 0 count)
    ≡ map (row_in bytes at) (range_with_len 0 k) ++ row_in bytes at k ∷ drop (k + 1) (map (row_in bytes at) (range_with_len 0 count))
rows_split bytes at count k h =
    let f = row_in bytes at in
    let xs = map f (range_with_len 0 count) in
    let n = length-map-range_with_len f 0 count in
    let front : take k xs ≡ map f (range_with_len 0 k) = take-map-range_with_len f 0 count k (omega arith) in
    let here : get_or xs k any_row ≡ f k = get_or-map-range_with_len f 0 count k k any_row h (omega arith) in
    let back : drop k xs ≡ f k ∷ drop (k + 1) xs = drop_more xs k any_row (omega arith) ∙ ap (λ x. x ∷ drop (k + 1) xs) here in
    sym (take-append-drop k xs) ∙ (ap (λ ys. ys ++ drop k xs) front ∙ ap (λ ys. map f (range_with_len 0 k) ++ ys) back)

pub section_wrong : (bytes : List ℕ) (ps : List Piece) (at : ℕ) (before found : List Found) (k : ℕ) → SectionTo bytes ps at before found k → can_be_read bytes at ≡ true
    → k < clause_count bytes at → ((IsClause ps (row_in bytes at k) → ⊥) ⊎ (length found ≡ 65535)) → (rest : List ClauseRow) (broken : Bool)
    → IsWrongAt ps ((rows_of before ++ rows_in bytes at) ++ rest) broken (length found)
section_wrong bytes ps at before found k t r h why rest broken =
    let f = row_in bytes at in
    let front = map f (range_with_len 0 k) in
    let back = drop (k + 1) (map f (range_with_len 0 (clause_count bytes at))) in
    let whole : rows_in bytes at ≡ front ++ f k ∷ back = rows_read bytes at r ∙ rows_split bytes at (clause_count bytes at) k h in
    let all : (rows_of before ++ rows_in bytes at) ++ rest ≡ rows_of found ++ f k ∷ (back ++ rest) =
    ap (λ xs. (rows_of before ++ xs) ++ rest) whole
    ∙ (ap (λ xs. xs ++ rest) (sym (append_assoc (rows_of before) front (f k ∷ back)))
    ∙ (ap (λ xs. (xs ++ f k ∷ back) ++ rest) (sym t.rows) ∙ append_assoc (rows_of found) (f k ∷ back) rest)) in
    let P : List ClauseRow → Type 0 = λ xs. IsWrongAt ps xs broken (length found) in
    subst P (sym all) (wrong_here ps found (f k) (back ++ rest) broken t.each t.few why)

pub section_all : (bytes : List ℕ) (ps : List Piece) (at : ℕ) (before found : List Found) → SectionTo bytes ps at before found (clause_count bytes at) → can_be_read bytes at ≡ true
    → rows_of found ≡ rows_of before ++ rows_in bytes at
section_all bytes ps at before found t r = t.rows ∙ ap (λ xs. rows_of before ++ xs) (sym (rows_read bytes at r))

-- ---- sections

sections_there : (bytes : List ℕ) → has_sections bytes ≡ true → sections bytes ≡ sections_from (length bytes) bytes (padded (code_end bytes))
unfolding sections
sections_there bytes h = ap (λ b. cond b (sections_from (length bytes) bytes (padded (code_end bytes))) []) h

sections_nowhere : (bytes : List ℕ) → has_sections bytes ≡ false → sections bytes ≡ []
unfolding sections
sections_nowhere bytes h = ap (λ b. cond b (sections_from (length bytes) bytes (padded (code_end bytes))) []) h

abbrev unread : List ℕ → ℕ → Bool
unread bytes at = not (can_be_read bytes at)

pub reads_none : (bytes : List ℕ) (ps : List Piece) → has_sections bytes ≡ true → ReadsTo bytes ps [] (padded (code_end bytes))
reads_none bytes ps h =
    let s = sections_there bytes h in
    record {
      fuel = length bytes;
      enough = omega arith;
      rows = ap (flat_map (rows_in bytes)) s;
      broken = ap (list_any (unread bytes)) s;
      ends = λ end. ap (fold (λ e a. section_end bytes a) (code_end bytes)) s ∙ first_section (length bytes) end;
      few = omega arith;
      each = λ k d l. absurd (omega arith);
    } where
      first_section : (fuel end : ℕ) → fold (λ e a. section_end bytes a) (code_end bytes) (sections_from fuel bytes (padded (code_end bytes))) ≡ fold (λ e a. section_end bytes a) end (sections_from fuel bytes (padded (code_end bytes)))
      first_section zero end = refl
      first_section (suc f) end = refl

pub reads_nowhere : (bytes : List ℕ) (ps : List Piece) (c : Clauses) → has_sections bytes ≡ false → c.found ≡ [] → c.end ≡ code_end bytes → HasRead bytes ps c
reads_nowhere bytes ps c h e g =
    let s = sections_nowhere bytes h in
    record {
      rows = ap (flat_map (rows_in bytes)) s ∙ ap rows_of (sym e);
      read = ap (list_any (unread bytes)) s;
      ends = ap (fold (λ e a. section_end bytes a) (code_end bytes)) s ∙ sym g;
      few = let n = ap length e in omega arith;
      each = subst (All (IsFound ps)) (sym e) (λ k d l. absurd (omega arith));
    }

-- the sections from one on: it, and what follows it
abbrev following : ℕ → List ℕ → ℕ → List ℕ
following zero bytes at = []
following (suc f) bytes at = cond (can_be_read bytes at && has_more bytes at) (sections_from f bytes (padded (section_end bytes at))) []

head_section : (fuel : ℕ) (bytes : List ℕ) (at : ℕ) → sections_from fuel bytes at ≡ at ∷ following fuel bytes at
head_section zero bytes at = refl
head_section (suc f) bytes at = refl

none_follows : (fuel : ℕ) (bytes : List ℕ) (at : ℕ) → can_be_read bytes at && has_more bytes at ≡ false → following fuel bytes at ≡ []
none_follows zero bytes at e = refl
none_follows (suc f) bytes at e = ap (λ b. cond b (sections_from f bytes (padded (section_end bytes at))) []) e

and_false : (a b : Bool) → b ≡ false → a && b ≡ false
and_false true b e = e
and_false false b e = refl

pub padded_le : (n : ℕ) → n ≤ padded n
unfolding padded
padded_le n = omega arith

-- what a section leaves for those behind it
rest_rows : (bytes : List ℕ) (ps : List Piece) (found : List Found) (at : ℕ) (t : ReadsTo bytes ps found at)
    → clause_rows bytes ≡ (rows_of found ++ rows_in bytes at) ++ flat_map (rows_in bytes) (following t.fuel bytes at)
rest_rows bytes ps found at t =
    t.rows ∙ (ap (λ xs. rows_of found ++ flat_map (rows_in bytes) xs) (head_section t.fuel bytes at)
    ∙ sym (append_assoc (rows_of found) (rows_in bytes at) (flat_map (rows_in bytes) (following t.fuel bytes at))))

pub reads_more : (bytes : List ℕ) (ps : List Piece) (found new : List Found) (at : ℕ) → ReadsTo bytes ps found at → can_be_read bytes at ≡ true → has_more bytes at ≡ true
    → rows_of new ≡ rows_of found ++ rows_in bytes at → length new ≤ 65535 → All (IsFound ps) new → ReadsTo bytes ps new (padded (section_end bytes at))
reads_more bytes ps found new at t r m e few each = with_fuel t.fuel refl where
  with_fuel : (f : ℕ) → t.fuel ≡ f → ReadsTo bytes ps new (padded (section_end bytes at))
  with_fuel zero z = absurd (let h = readable_header bytes at r in let n = t.enough in omega arith)
  with_fuel (suc f) z =
      let both : can_be_read bytes at && has_more bytes at ≡ true = ap (λ b. b && has_more bytes at) r ∙ m in
      let next = sections_from f bytes (padded (section_end bytes at)) in
      let follow : following t.fuel bytes at ≡ next = ap (λ n. following n bytes at) z ∙ ap (λ b. cond b next []) both in
      let head : sections_from t.fuel bytes at ≡ at ∷ next = head_section t.fuel bytes at ∙ ap (λ xs. at ∷ xs) follow in
      record {
        fuel = f;
        enough = let n = t.enough in let p = padded_le (section_end bytes at) in let a = after_header bytes at in omega arith;
        rows = rest_rows bytes ps found at t ∙ (ap (λ xs. (rows_of found ++ rows_in bytes at) ++ flat_map (rows_in bytes) xs) follow ∙ ap (λ xs. xs ++ flat_map (rows_in bytes) next) (sym e));
        broken = t.broken ∙ (ap (list_any (unread bytes)) head ∙ ap (λ b. not b || list_any (unread bytes) next) r);
        ends = λ end. t.ends end ∙ (ap (fold (λ e a. section_end bytes a) end) head ∙ again f end);
        few = few;
        each = each;
      } where
        again : (f end : ℕ) → fold (λ e a. section_end bytes a) (section_end bytes at) (sections_from f bytes (padded (section_end bytes at))) ≡ fold (λ e a. section_end bytes a) end (sections_from f bytes (padded (section_end bytes at)))
        again zero end = refl
        again (suc g) end = refl

pub reads_all : (bytes : List ℕ) (ps : List Piece) (found : List Found) (at : ℕ) (c : Clauses) → ReadsTo bytes ps found at → can_be_read bytes at ≡ true → has_more bytes at ≡ false
    → rows_of c.found ≡ rows_of found ++ rows_in bytes at → length c.found ≤ 65535 → All (IsFound ps) c.found → c.end ≡ section_end bytes at → HasRead bytes ps c
reads_all bytes ps found at c t r m e few each g =
    let follow = none_follows t.fuel bytes at (and_false (can_be_read bytes at) (has_more bytes at) m) in
    let head : sections_from t.fuel bytes at ≡ at ∷ [] = head_section t.fuel bytes at ∙ ap (λ xs. at ∷ xs) follow in
    record {
      rows = rest_rows bytes ps found at t ∙ (ap (λ xs. (rows_of found ++ rows_in bytes at) ++ flat_map (rows_in bytes) xs) follow ∙ (append-nil (rows_of found ++ rows_in bytes at) ∙ sym e));
      read = t.broken ∙ (ap (list_any (unread bytes)) head ∙ ap (λ b. not b || false) r);
      ends = t.ends 0 ∙ (ap (fold (λ e a. section_end bytes a) 0) head ∙ sym g);
      few = few;
      each = each;
    }

pub reads_broken : (bytes : List ℕ) (ps : List Piece) (found : List Found) (at : ℕ) → ReadsTo bytes ps found at → can_be_read bytes at ≡ false
    → IsWrongAt ps (clause_rows bytes) (is_broken bytes) (length found)
reads_broken bytes ps found at t r =
    let follow = none_follows t.fuel bytes at (ap (λ b. b && has_more bytes at) r) in
    let head : sections_from t.fuel bytes at ≡ at ∷ [] = head_section t.fuel bytes at ∙ ap (λ xs. at ∷ xs) follow in
    let rows : clause_rows bytes ≡ rows_of found ++ [] =
    rest_rows bytes ps found at t ∙ (ap (λ xs. (rows_of found ++ rows_in bytes at) ++ flat_map (rows_in bytes) xs) follow
    ∙ (append-nil (rows_of found ++ rows_in bytes at) ∙ ap (λ xs. rows_of found ++ xs) (rows_unread bytes at r))) in
    let n = rows_length found in
    let l = ap length (rows ∙ append-nil (rows_of found)) in
    record {
      few = t.few;
      there = omega arith;
      before = subst (λ xs. AreClauses ps xs (length found)) (sym rows) (rows_are ps found [] t.each);
      wrong = inr (inl (omega arith, t.broken ∙ (ap (list_any (unread bytes)) head ∙ ap (λ b. not b || false) r)));
    }

pub reads_wrong : (bytes : List ℕ) (ps : List Piece) (found : List Found) (at : ℕ) (f : BodyFault) → ReadsTo bytes ps found at
    → IsSectionFault ps (rows_of found ++ rows_in bytes at) f → IsRangeFault bytes ps f
reads_wrong bytes ps found at (faults.Range clause) t h =
    subst (λ xs. IsWrongAt ps xs (is_broken bytes) clause) (sym (rest_rows bytes ps found at t)) (h (flat_map (rows_in bytes) (following t.fuel bytes at)) (is_broken bytes))
reads_wrong bytes ps found at faults.NoMemory t h = tt
reads_wrong bytes ps found at faults.Header t h = absurd h
reads_wrong bytes ps found at (faults.Far k) t h = absurd h
reads_wrong bytes ps found at (faults.Opcode k) t h = absurd h
reads_wrong bytes ps found at (faults.Cut k) t h = absurd h
reads_wrong bytes ps found at (faults.Target k) t h = absurd h
reads_wrong bytes ps found at (faults.Token k) t h = absurd h

pub read_clauses_are : (bytes : List ℕ) (ps : List Piece) (c : Clauses) → HasRead bytes ps c → HasClauses ps bytes
read_clauses_are bytes ps c h =
    let n = ap length h.rows ∙ rows_length c.found in
    let same : rows_of c.found ++ [] ≡ clause_rows bytes = append-nil (rows_of c.found) ∙ sym h.rows in
    let e = subst (λ xs. AreClauses ps xs (length c.found)) same (rows_are ps c.found [] h.each) in
    record {
      read = h.read;
      few = let few = h.few in omega arith;
      each = λ k r l. e k r (omega arith);
    }
