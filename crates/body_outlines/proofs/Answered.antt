-- The outline of a body is told by its bytes, and so is the fault of bytes that have none.
use Rattle.std.proofs.Common.{◌≡◌, ◌≢◌, ◌∙◌, sym, ap, subst, refl, ℕ, ◌<◌, ◌^◌, ◌⊎◌, inl, inr, Bool, true, false, cond, List, [], ◌∷◌, ◌++◌, length, map, Option, None, Some, Result, Ok, Err, IfOk, IfErr, arith}
use Rattle.std.specs.List.{All, filter_map, cons_option, sum_by}
use Rattle.std.proofs.lemmas.List.{length-map}
use Rattle.body_codec.specs.declared.decoding.header.Header.{Header}
use Rattle.body_codec.specs.declared.decoding.sections.ClauseRow.{ClauseRow}
use Rattle.body_codec.specs.declared.decoding.marks.Mark.{Mark}
use Rattle.body_codec.specs.declared.decoding.outline.Outline.{Outline}
use Rattle.body_codec.specs.declared.decoding.sections.Found.{Found}
use Rattle.body_codec.specs.declared.fault.BodyFault.{BodyFault}
use Rattle.body_codec.specs.declared.fault.BodyFault.TheVariants as faults
use Rattle.body_codec.specs.Instruction.{Piece, kind, number}
use Rattle.body_codec.specs.Names.{takes_token}
use Rattle.body_codec.specs.Header.{locals_token, code_of}
use Rattle.body_codec.specs.Sections.{clause_rows}
use Rattle.body_codec.specs.Faults.{IsFaultOfAll, Answers}
use Rattle.body_codec.specs.NamedTokens.{AreNamed, token_in, caught_in, locals_in}
use Rattle.body_codec.specs.Reading.{IsHeader, pieces_of, IsMark, AreMarks}
use Rattle.body_codec.specs.ReadingClauses.{HasOutline, rows_of}
use Rattle.body_codec.proofs.Outcomes.{cut_same}
use Rattle.body_codec.proofs.Outlines.{outline_of}
use Rattle.body_codec.proofs.NamedDecoded.{only_tokens, only_fault_of_all}
use Rattle.body_codec.proofs.Places.{count_is, count_small}
use Rattle.body_outlines.specs.declared.outlined.BodyOutline.{BodyOutline}
use Rattle.body_outlines.specs.declared.outlined.TokenUse.{TokenUse}
use Rattle.body_outlines.specs.Outlines.{Outlines, token_use, use_in, targets_in, tokens_of}

-- ---- tokens

token_kept : (b : Bool) (u : TokenUse) (us : List TokenUse) (ts : List ℕ) → map (λ (x : TokenUse). x.token) us ≡ ts
    → map (λ (x : TokenUse). x.token) (cons_option (cond b (Some u) None) us) ≡ cons_option (cond b (Some u.token) None) ts
token_kept true u us ts e = ap (λ xs. u.token ∷ xs) e
token_kept false u us ts e = e

uses_tokens : (ps : List Piece) → map (λ (u : TokenUse). u.token) (filter_map use_in ps) ≡ filter_map token_in ps
uses_tokens [] = refl
uses_tokens (p ∷ ps) = token_kept (takes_token (kind p.op)) (token_use (kind p.op) (number p.tail)) (filter_map use_in ps) (filter_map token_in ps) (uses_tokens ps)

pub names_tokens : (bytes : List ℕ) (o : BodyOutline) → Outlines bytes o → AreNamed bytes (tokens_of o)
names_tokens bytes o h = record {
  header = h.header;
  pieces = h.pieces;
  outline = h.outline;
  all =
      ap (λ n. locals_in n ++ (map (λ (u : TokenUse). u.token) o.operands ++ o.catches)) h.locals
      ∙ (ap (λ us. locals_in (locals_token bytes) ++ (map (λ (u : TokenUse). u.token) us ++ o.catches)) h.operands
      ∙ (ap (λ ts. locals_in (locals_token bytes) ++ (ts ++ o.catches)) (uses_tokens h.pieces)
      ∙ ap (λ cs. locals_in (locals_token bytes) ++ (filter_map token_in h.pieces ++ cs)) h.catches));
}

-- ---- one outline

abbrev outline_with : ℕ → List TokenUse → List ℕ → ℕ → ℕ → ℕ → BodyOutline
outline_with locals operands catches instructions targets clauses =
    record { locals = locals; operands = operands; catches = catches; instructions = instructions; targets = targets; clauses = clauses }

abbrev told : List ℕ → List Piece → BodyOutline
told bytes ps =
    outline_with (locals_token bytes) (filter_map use_in ps) (filter_map caught_in (clause_rows bytes)) (length ps) (sum_by targets_in ps) (length (clause_rows bytes))

is_told : (bytes : List ℕ) (o : BodyOutline) (h : Outlines bytes o) → o ≡ told bytes h.pieces
is_told bytes o h =
    ap (λ x. outline_with x o.operands o.catches o.instructions o.targets o.clauses) h.locals
    ∙ (ap (λ x. outline_with (locals_token bytes) x o.catches o.instructions o.targets o.clauses) h.operands
    ∙ (ap (λ x. outline_with (locals_token bytes) (filter_map use_in h.pieces) x o.instructions o.targets o.clauses) h.catches
    ∙ (ap (λ x. outline_with (locals_token bytes) (filter_map use_in h.pieces) (filter_map caught_in (clause_rows bytes)) x o.targets o.clauses) h.instructions
    ∙ (ap (λ x. outline_with (locals_token bytes) (filter_map use_in h.pieces) (filter_map caught_in (clause_rows bytes)) (length h.pieces) x o.clauses) h.targets
    ∙ ap (λ x. outline_with (locals_token bytes) (filter_map use_in h.pieces) (filter_map caught_in (clause_rows bytes)) (length h.pieces) (sum_by targets_in h.pieces) x) h.clauses))))

outlines_tell : (bytes : List ℕ) (a b : BodyOutline) → Outlines bytes a → Outlines bytes b → a ≡ b
outlines_tell bytes a b h k =
    is_told bytes a h ∙ (ap (told bytes) (cut_same (code_of bytes) h.pieces k.pieces h.outline.code.cut k.outline.code.cut) ∙ sym (is_told bytes b k))

excluded : (bytes : List ℕ) (o : BodyOutline) (f : BodyFault) → Outlines bytes o → IsFaultOfAll bytes f → f ≡ faults.NoMemory
excluded bytes o f h g =
    elim (only_tokens bytes (Err f) tt g (tokens_of o) (names_tokens bytes o h)) [ inl e ↦ cc | inr e ↦ cc ]

pub only_outline : (bytes : List ℕ) (r : Result BodyOutline BodyFault) → IfOk r (Outlines bytes) → IfErr r (IsFaultOfAll bytes) → (o : BodyOutline) → Outlines bytes o → Answers r (Ok o)
only_outline bytes (Ok x) h g o a = inl (ap Ok (outlines_tell bytes x o h a))
only_outline bytes (Err f) h g o a = inr (ap Err (excluded bytes o f a g))

err_of : {X : Type 0} (e f : BodyFault) → Answers {X = X} (Err e) (Err f) → Answers {X = BodyOutline} (Err e) (Err f)
err_of e f (inl s) = inl (let same : e ≡ f = cc in ap Err same)
err_of e f (inr s) = inr (let same : e ≡ faults.NoMemory = cc in ap Err same)

pub only_fault : (bytes : List ℕ) (r : Result BodyOutline BodyFault) → IfOk r (Outlines bytes) → IfErr r (IsFaultOfAll bytes) → (f : BodyFault) → f ≢ faults.NoMemory → IsFaultOfAll bytes f
    → Answers r (Err f)
only_fault bytes (Ok x) h g f ne k = absurd (ne (excluded bytes x f h k))
only_fault bytes (Err e) h g f ne k = err_of {X = List ℕ} e f (only_fault_of_all bytes (Err e) tt g f ne k)

-- ---- from the stages

pub told_by : (bytes code : List ℕ) (h : Header) (o : Outline) (same : List Mark) (found : List Found) (operands : List TokenUse) (catches : List ℕ) (targets : ℕ) → IsHeader bytes h → HasOutline bytes o
    → code ≡ code_of bytes → same ≡ o.marks → found ≡ o.clauses.found → operands ≡ filter_map use_in (pieces_of code same) → catches ≡ filter_map caught_in (rows_of found)
    → targets ≡ sum_by targets_in (pieces_of code same) → Outlines bytes (outline_with h.locals operands catches (length same) targets (length found))
told_by bytes code h o same found operands catches targets i w e m g a b t = record {
  header = i.header;
  pieces = pieces_of (code_of bytes) o.marks;
  outline = outline_of bytes o w;
  locals = i.locals;
  operands = a ∙ (ap (λ x. filter_map use_in (pieces_of x same)) e ∙ ap (λ y. filter_map use_in (pieces_of (code_of bytes) y)) m);
  catches = b ∙ ap (filter_map caught_in) (ap rows_of g ∙ sym w.clauses.rows);
  instructions = ap (λ (ms : List Mark). length ms) m ∙ sym (count_is (code_of bytes) o.marks);
  targets = t ∙ (ap (λ x. sum_by targets_in (pieces_of x same)) e ∙ ap (λ y. sum_by targets_in (pieces_of (code_of bytes) y)) m);
  clauses = ap (λ (fs : List Found). length fs) g ∙ (sym (length-map o.clauses.found (λ (f : Found). f.row)) ∙ ap (λ (rows : List ClauseRow). length rows) (sym w.clauses.rows));
}

pub marks_small : (bytes : List ℕ) (o : Outline) (same : List Mark) → HasOutline bytes o → same ≡ o.marks → length same < 2 ^ 32
marks_small bytes o same w m =
    let few = count_small (code_of bytes) o.marks w.layout.marked in
    let small = w.layout.marked.small in
    let l = ap (λ (ms : List Mark). length ms) m in
    omega arith

pub marks_by : (bytes code : List ℕ) (o : Outline) (same : List Mark) → HasOutline bytes o → code ≡ code_of bytes → same ≡ o.marks → AreMarks code same
marks_by bytes code o same w e m = subst (λ x. AreMarks x same) (sym e) (subst (λ y. AreMarks (code_of bytes) y) (sym m) w.layout.marked)

pub each_by : (bytes code : List ℕ) (o : Outline) (same : List Mark) → HasOutline bytes o → code ≡ code_of bytes → same ≡ o.marks → All (IsMark code) same
each_by bytes code o same w e m = (marks_by bytes code o same w e m).each
