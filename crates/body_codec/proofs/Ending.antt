-- The parts of a body, one after the other.
use Rattle.std.proofs.Common.{◌≡◌, ◌∙◌, ℕ, ◌<◌, ◌+◌, ◌^◌, List, [], ◌++◌, length, map, get_or, ap, sym, subst, arith}
use Rattle.std.specs.List.{All}
use Rattle.std.proofs.lemmas.List.{length-map, get_or-map}
use Rattle.assembly_tree.specs.declared.body.Body.{Body}
use Rattle.assembly_tree.specs.declared.body.Clause.{Clause}
use Rattle.assembly_tree.specs.declared.body.Ins.{Ins}
use Rattle.body_codec.specs.declared.decoding.sections.ClauseRow.{ClauseRow}
use Rattle.body_codec.specs.Instruction.{bytes_of_pieces, kind}
use Rattle.body_codec.specs.Names.{TokenMap}
use Rattle.body_codec.specs.Encoding.{CanBeWritten, IsWritten}
use Rattle.body_codec.specs.Written.{AreOffsets, HasToken, Reaches, body_bytes, class_or_filter, code_bytes, front_bytes, header_bytes, locals_number, pieces_from, row_of, tail_bytes}
use Rattle.body_codec.proofs.Final.{is_written}

classes_fit : (numbers : TokenMap) (os : List ℕ) (cs : List Clause) (rows : List ClauseRow) → rows ≡ map (row_of numbers os) cs → All (λ r. r.class_or_filter < 2 ^ 32) rows
    → All (λ c. class_or_filter numbers os c.kind < 2 ^ 32) cs
unfolding row_of
classes_fit numbers os cs rows e f k c h =
    let R : ClauseRow = row_of numbers os c in
    let n : length rows ≡ length (map (row_of numbers os) cs) = ap length e in
    let l : k < length rows = omega (arith, n, length-map cs (row_of numbers os)) in
    let P : ClauseRow → Type 0 = λ r. r.class_or_filter < 2 ^ 32 in
    subst P (ap (λ (rs : List ClauseRow). get_or rs k R) e ∙ get_or-map (row_of numbers os) cs k c R h) (f k R l)

pub body_written : (numbers : TokenMap) (os : List ℕ) (body : Body) → AreOffsets body.code os → CanBeWritten numbers body → body.bound < 2 ^ 16
    → All (λ ins. HasToken numbers ins.operand) body.code
    → ((k : ℕ) (i : Ins) → k < length body.code → Reaches os (get_or os (k + 1) 0) (kind (get_or body.code k i).op) (get_or body.code k i).operand)
    → (rows : List ClauseRow) → rows ≡ map (row_of numbers os) body.clauses → All (λ r. r.class_or_filter < 2 ^ 32) rows
    → (locals : ℕ) → locals ≡ locals_number numbers.locals body.locals → locals < 2 ^ 32
    → (old head code whole : List ℕ) → old ≡ []
    → head ≡ old ++ header_bytes locals (get_or os (length body.code) 0) body
    → code ≡ head ++ bytes_of_pieces (pieces_from numbers os 0 body.code)
    → whole ≡ code ++ tail_bytes (length code) rows
    → IsWritten numbers body whole
unfolding body_bytes
body_written numbers os body o can bound tokens near rows rowed fit locals local small old head code whole empty one two three =
    let size : ℕ = get_or os (length body.code) 0 in
    let front : List ℕ = front_bytes numbers os body in
    let P : List ℕ → Type 0 = IsWritten numbers body in
    let Q : ℕ → Type 0 = λ n. n < 2 ^ 32 in
    let e1 : head ≡ header_bytes (locals_number numbers.locals body.locals) size body =
    one ∙ ap (λ (bs : List ℕ). bs ++ header_bytes locals size body) empty ∙ ap (λ n. header_bytes n size body) local in
    let e2 : code ≡ front = two ∙ ap (λ (bs : List ℕ). bs ++ code_bytes numbers os body.code) e1 in
    let e3 : whole ≡ body_bytes numbers os body =
    three ∙ ap (λ (bs : List ℕ). bs ++ tail_bytes (length bs) rows) e2 ∙ ap (λ (rs : List ClauseRow). front ++ tail_bytes (length front) rs) rowed in
    subst P (sym e3) (is_written numbers os body o can bound tokens near (subst Q local small) (classes_fit numbers os body.clauses rows rowed fit))
