-- Each outcome of decoding excludes the others: a stage is passed or fails, and what fails first is told by the bytes.
use Rattle.std.proofs.Common.{◌≡◌, ◌∙◌, sym, ap, ℕ, ◌<◌, ◌≤◌, inl, inr, Bool, false, List, [], length, slice_index_or, None, Some, arith}
use Rattle.std.proofs.lemmas.Bool.{cases_lt, false≢true}
use Rattle.std.proofs.lemmas.List.{append-nil}
use Rattle.opcode_table.specs.declared.op.Op.TheVariants as ops
use Rattle.body_codec.specs.declared.decoding.sections.ClauseRow.{ClauseRow}
use Rattle.body_codec.specs.Instruction.{Piece, bytes_of_pieces, place}
use Rattle.body_codec.specs.Names.{NameMap}
use Rattle.body_codec.specs.Spelling.{IsCut}
use Rattle.body_codec.specs.Faults.{StopsAt, HasTargets, LacksTarget, HaveTargets, IsAstray, AreClauses, IsWrongAt, IsUnnamed, HasName, HaveNames, IsUncaught, Catches, HaveCatches, IsUnnamedAt, IsUncaughtAt}
use Rattle.body_codec.proofs.Pieces.{cut_tells, none_at_end}

abbrev pub any_piece : Piece
any_piece = record { op = ops.Nop; tail = [] }

abbrev pub any_row : ClauseRow
any_row = record { kind = 0; try_offset = 0; try_length = 0; handler_offset = 0; handler_length = 0; class_or_filter = 0 }

-- the least place at which something is wrong
least_tells : (Bad Good : ℕ → Type 0) → ((k : ℕ) → Bad k → Good k → ⊥) → (j k : ℕ) → Bad j → ((i : ℕ) → i < j → Good i) → Bad k → ((i : ℕ) → i < k → Good i) → j ≡ k
least_tells Bad Good never j k a p b q =
    elim (cases_lt j k) [
      | inl h ↦ absurd (never j a (q j h))
      | inr h ↦ elim (cases_lt k j) [ inl l ↦ absurd (never k b (p k l)) | inr l ↦ omega arith ]
    ]

-- ---- instructions

pub stop_tells : (code : List ℕ) (o o' : ℕ) (r r' : List ℕ) → StopsAt code o r → StopsAt code o' r' → (o ≡ o') × (r ≡ r')
stop_tells code o o' r r' s t =
    let u = cut_tells s.pieces t.pieces r r' s.each t.each s.stuck t.stuck (sym s.whole ∙ t.whole) in
    (s.at ∙ (ap (λ ps. length (bytes_of_pieces ps)) u.0 ∙ sym t.at), u.1)

pub stop_cut : (code : List ℕ) (o : ℕ) (r : List ℕ) (ps : List Piece) → StopsAt code o r → IsCut code ps → ⊥
stop_cut code o r ps s c =
    let u = cut_tells s.pieces ps r [] s.each c.each s.stuck none_at_end (sym s.whole ∙ (c.whole ∙ sym (append-nil (bytes_of_pieces ps)))) in
    let l = ap length u.1 in
    let h = s.some in
    omega arith

pub cut_same : (code : List ℕ) (ps qs : List Piece) → IsCut code ps → IsCut code qs → ps ≡ qs
cut_same code ps qs c d =
    (cut_tells ps qs [] [] c.each d.each none_at_end none_at_end
    (append-nil (bytes_of_pieces ps) ∙ (sym c.whole ∙ (d.whole ∙ sym (append-nil (bytes_of_pieces qs)))))).0

-- ---- targets

lacks_has : (ps : List Piece) (k : ℕ) (p : Piece) → LacksTarget ps k p → HasTargets ps k p → ⊥
lacks_has ps k p l h = let t = h l.0 l.1 in l.2 t.0 t.1

pub astray_not : (ps : List Piece) (o : ℕ) → IsAstray ps o → HaveTargets ps (length ps) → ⊥
astray_not ps o a h = lacks_has ps a.k (slice_index_or ps a.k any_piece) (a.lacks any_piece) (h a.k any_piece a.within)

pub astray_tells : (ps : List Piece) (o o' : ℕ) → IsAstray ps o → IsAstray ps o' → o ≡ o'
astray_tells ps o o' a b =
    let same : a.k ≡ b.k = least_tells (λ k. LacksTarget ps k (slice_index_or ps k any_piece)) (λ k. HasTargets ps k (slice_index_or ps k any_piece))
    (λ k. lacks_has ps k (slice_index_or ps k any_piece)) a.k b.k (a.lacks any_piece) (λ i l. a.before i any_piece l) (b.lacks any_piece) (λ i l. b.before i any_piece l) in
    a.at ∙ (ap (place ps) same ∙ sym b.at)

-- ---- clauses

pub wrong_not : (ps : List Piece) (rows : List ClauseRow) (broken : Bool) (c : ℕ) → IsWrongAt ps rows broken c → broken ≡ false → length rows ≤ 65535
    → AreClauses ps rows (length rows) → ⊥
wrong_not ps rows broken c w e f g =
    elim w.wrong [
      | inl x ↦ x.1 any_row (g c any_row x.0)
      | inr v ↦ elim v [
        | inl x ↦ false≢true (sym e ∙ x.1)
        | inr x ↦ let h = x.1 in omega arith
      ]
    ]

wrong_before : (ps : List Piece) (rows : List ClauseRow) (broken : Bool) (c d : ℕ) → IsWrongAt ps rows broken c → IsWrongAt ps rows broken d → c < d → ⊥
wrong_before ps rows broken c d w v l =
    let there = v.there in
    let few = v.few in
    elim w.wrong [
      | inl x ↦ x.1 any_row (v.before c any_row l)
      | inr u ↦ elim u [
        | inl x ↦ let h = x.0 in omega arith
        | inr x ↦ let h = x.0 in omega arith
      ]
    ]

pub wrong_tells : (ps : List Piece) (rows : List ClauseRow) (broken : Bool) (c d : ℕ) → IsWrongAt ps rows broken c → IsWrongAt ps rows broken d → c ≡ d
wrong_tells ps rows broken c d w v =
    elim (cases_lt c d) [
      | inl h ↦ absurd (wrong_before ps rows broken c d w v h)
      | inr h ↦ elim (cases_lt d c) [ inl l ↦ absurd (wrong_before ps rows broken d c v w l) | inr l ↦ omega arith ]
    ]

-- ---- names

unnamed_has : (names : NameMap) (p : Piece) → IsUnnamed names p → HasName names p → ⊥
unnamed_has names p u h = let v = h u.0 in let e : None ≡ Some v.0 = sym u.1 ∙ v.1 in cc

uncaught_has : (names : NameMap) (row : ClauseRow) → IsUncaught names row → Catches names row → ⊥
uncaught_has names row u h = let v = h u.0 in let e : None ≡ Some v.0 = sym u.1 ∙ v.1 in cc

pub unnamed_not : (names : NameMap) (ps : List Piece) (o : ℕ) → IsUnnamedAt names ps o → HaveNames names ps (length ps) → ⊥
unnamed_not names ps o u h = unnamed_has names (slice_index_or ps u.k any_piece) (u.unnamed any_piece) (h u.k any_piece u.within)

pub uncaught_not : (names : NameMap) (rows : List ClauseRow) (o : ℕ) → IsUncaughtAt names rows o → HaveCatches names rows (length rows) → ⊥
uncaught_not names rows o u h = uncaught_has names (slice_index_or rows u.k any_row) (u.uncaught any_row) (h u.k any_row u.within)

pub unnamed_tells : (names : NameMap) (ps : List Piece) (o o' : ℕ) → IsUnnamedAt names ps o → IsUnnamedAt names ps o' → o ≡ o'
unnamed_tells names ps o o' a b =
    let same : a.k ≡ b.k = least_tells (λ k. IsUnnamed names (slice_index_or ps k any_piece)) (λ k. HasName names (slice_index_or ps k any_piece))
    (λ k. unnamed_has names (slice_index_or ps k any_piece)) a.k b.k (a.unnamed any_piece) (λ i l. a.before i any_piece l) (b.unnamed any_piece) (λ i l. b.before i any_piece l) in
    a.at ∙ (ap (place ps) same ∙ sym b.at)

pub uncaught_tells : (names : NameMap) (rows : List ClauseRow) (o o' : ℕ) → IsUncaughtAt names rows o → IsUncaughtAt names rows o' → o ≡ o'
uncaught_tells names rows o o' a b =
    let same : a.k ≡ b.k = least_tells (λ k. IsUncaught names (slice_index_or rows k any_row)) (λ k. Catches names (slice_index_or rows k any_row))
    (λ k. uncaught_has names (slice_index_or rows k any_row)) a.k b.k (a.uncaught any_row) (λ i l. a.before i any_row l) (b.uncaught any_row) (λ i l. b.before i any_row l) in
    a.at any_row ∙ (ap (λ (k : ℕ). (slice_index_or rows k any_row).handler_offset) same ∙ sym (b.at any_row))
