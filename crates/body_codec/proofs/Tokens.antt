-- The tokens of one more instruction, and of one more clause.
use Rattle.std.proofs.Common.{◌≡◌, ◌∙◌, sym, ap, refl, ℕ, ◌+◌, ◌<◌, true, false, cond, nat_eq, List, [], ◌∷◌, ◌++◌, length, take, get_or, slice_index_or, Option, None, Some, arith}
use Rattle.std.specs.List.{filter_map, cons_option}
use Rattle.std.proofs.lemmas.List.{append_assoc, append-nil, take_more, length-map, get_or-map}
use Rattle.std.proofs.lemmas.Bool.Decides.{nat_tests}
use Rattle.byteorder.specs.Endian.{little_number}
use Rattle.opcode_table.specs.declared.kind.OperandKind.{OperandKind}
use Rattle.opcode_table.specs.declared.kind.OperandKind.TheVariants as kinds
use Rattle.body_codec.specs.declared.decoding.marks.Mark.{Mark}
use Rattle.body_codec.specs.declared.decoding.sections.ClauseRow.{ClauseRow}
use Rattle.body_codec.specs.declared.decoding.sections.Found.{Found}
use Rattle.body_codec.specs.Instruction.{operand_size, kind, number}
use Rattle.body_codec.specs.Names.{takes_token}
use Rattle.body_codec.specs.NamedTokens.{token_in, caught_in}
use Rattle.body_codec.specs.Reading.{piece_of, pieces_of, IsMark}
use Rattle.body_codec.specs.ReadingClauses.{rows_of}
use Rattle.body_codec.proofs.Outcomes.{any_piece, any_row}
use Rattle.body_codec.proofs.Places.{count_is}
use Rattle.body_codec.proofs.Targets.{piece_at}

cons_append : {Y : Type 0} (o : Option Y) (a b : List Y) → cons_option o (a ++ b) ≡ cons_option o a ++ b
cons_append None a b = refl
cons_append (Some y) a b = refl

filter_map_push : {X Y : Type 0} (h : X → Option Y) (xs : List X) (x : X) → filter_map h (xs ++ x ∷ []) ≡ filter_map h xs ++ cons_option (h x) []
filter_map_push h [] x = refl
filter_map_push h (y ∷ ys) x = ap (cons_option (h y)) (filter_map_push h ys x) ∙ cons_append (h y) (filter_map h ys) (cons_option (h x) [])

pub tokens_more : {X : Type 0} (h : X → Option ℕ) (xs : List X) (k : ℕ) (x d : X) (first tokens new : List ℕ) → k < length xs → get_or xs k d ≡ x
    → tokens ≡ first ++ filter_map h (take k xs) → new ≡ tokens ++ cons_option (h x) [] → new ≡ first ++ filter_map h (take (k + 1) xs)
tokens_more h xs k x d first tokens new l e t n =
    n ∙ (ap (λ ts. ts ++ cons_option (h x) []) t
    ∙ (append_assoc first (filter_map h (take k xs)) (cons_option (h x) [])
    ∙ ap (λ ts. first ++ ts) (ap (λ y. filter_map h (take k xs) ++ cons_option (h y) []) (sym e)
    ∙ (sym (filter_map_push h (take k xs) (get_or xs k d)) ∙ ap (filter_map h) (sym (take_more xs k d l))))))

pub operands_more : (code : List ℕ) (marks : List Mark) (k : ℕ) (m : Mark) (first tokens new : List ℕ) → k < length marks
    → tokens ≡ first ++ filter_map token_in (take k (pieces_of code marks)) → new ≡ tokens ++ cons_option (token_in (piece_of code (slice_index_or marks k m))) []
    → new ≡ first ++ filter_map token_in (take (k + 1) (pieces_of code marks))
operands_more code marks k m first tokens new l t n =
    let c = count_is code marks in
    tokens_more token_in (pieces_of code marks) k (piece_of code (slice_index_or marks k m)) any_piece first tokens new (omega arith) (piece_at code marks k m any_piece l) t n

pub catches_more : (found : List Found) (k : ℕ) (f : Found) (first tokens new : List ℕ) → k < length found
    → tokens ≡ first ++ filter_map caught_in (take k (rows_of found)) → new ≡ tokens ++ cons_option (caught_in (slice_index_or found k f).row) []
    → new ≡ first ++ filter_map caught_in (take (k + 1) (rows_of found))
catches_more found k f first tokens new l t n =
    let c = length-map found (λ (x : Found). x.row) in
    tokens_more caught_in (rows_of found) k (slice_index_or found k f).row any_row first tokens new (omega arith) (get_or-map (λ (x : Found). x.row) found k f any_row l) t n

token_size : (kd : OperandKind) (tail : List ℕ) → takes_token kd ≡ true → operand_size kd tail ≡ 4
token_size kinds.Method tail e = refl
token_size kinds.Field tail e = refl
token_size kinds.Of tail e = refl
token_size kinds.Text tail e = refl
token_size kinds.Token tail e = refl
token_size _ tail e = cc

pub token_length : (code : List ℕ) (m : Mark) → IsMark code m → takes_token (kind m.op) ≡ true → length (piece_of code m).tail ≡ 4
token_length code m w e = w.whole.size ∙ token_size (kind m.op) (piece_of code m).tail e

pub token_there : (code : List ℕ) (m : Mark) (token : ℕ) → IsMark code m → takes_token (kind m.op) ≡ true → token ≡ little_number 4 (piece_of code m).tail
    → token_in (piece_of code m) ≡ Some token
token_there code m token w e t =
    ap (λ b. cond b (Some (number (piece_of code m).tail)) None) e ∙ ap Some (ap (λ n. little_number n (piece_of code m).tail) (token_length code m w e) ∙ sym t)

pub token_nowhere : (code : List ℕ) (m : Mark) → takes_token (kind m.op) ≡ false → token_in (piece_of code m) ≡ None
token_nowhere code m e = ap (λ b. cond b (Some (number (piece_of code m).tail)) None) e

-- what an instruction adds
pub token_added : (code : List ℕ) (m : Mark) (token : ℕ) (tokens : List ℕ) → IsMark code m → takes_token (kind m.op) ≡ true → token ≡ little_number 4 (piece_of code m).tail
    → tokens ++ token ∷ [] ≡ tokens ++ cons_option (token_in (piece_of code m)) []
token_added code m token tokens w e t = ap (λ o. tokens ++ cons_option o []) (sym (token_there code m token w e t))

pub none_added : (code : List ℕ) (m : Mark) (tokens : List ℕ) → takes_token (kind m.op) ≡ false → tokens ≡ tokens ++ cons_option (token_in (piece_of code m)) []
none_added code m tokens e = sym (append-nil tokens) ∙ ap (λ o. tokens ++ cons_option o []) (sym (token_nowhere code m e))

pub ruleset token_steps = (token_added, none_added, token_length)

-- and a clause
pub catch_added : (row : ClauseRow) (tokens : List ℕ) → row.kind ≡ 0 → tokens ++ row.class_or_filter ∷ [] ≡ tokens ++ cons_option (caught_in row) []
catch_added row tokens h =
    let e : nat_eq row.kind 0 ≡ true = grind (arith, nat_tests) in
    ap (λ b. tokens ++ cons_option (cond b (Some row.class_or_filter) None) []) (sym e)

pub catch_none : (row : ClauseRow) (tokens : List ℕ) → (row.kind ≡ 0 → ⊥) → tokens ≡ tokens ++ cons_option (caught_in row) []
catch_none row tokens h =
    let e : nat_eq row.kind 0 ≡ false = grind (arith, nat_tests) in
    sym (append-nil tokens) ∙ ap (λ b. tokens ++ cons_option (cond b (Some row.class_or_filter) None) []) (sym e)

pub ruleset catch_steps = (catch_added, catch_none)
