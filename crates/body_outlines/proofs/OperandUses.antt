-- The token of one more instruction.
use Rattle.std.proofs.Common.{◌≡◌, ◌∙◌, sym, ap, refl, ℕ, ◌+◌, ◌<◌, true, false, cond, List, [], ◌∷◌, ◌++◌, length, take, get_or, slice_index_or, Option, None, Some, arith}
use Rattle.std.specs.List.{filter_map, cons_option}
use Rattle.std.proofs.lemmas.List.{append-nil, take_more, length-map, get_or-map}
use Rattle.byteorder.specs.Endian.{little_number}
use Rattle.opcode_table.specs.declared.kind.OperandKind.{OperandKind}
use Rattle.body_codec.specs.declared.decoding.marks.Mark.{Mark}
use Rattle.body_codec.specs.declared.decoding.sections.Found.{Found}
use Rattle.body_codec.specs.Instruction.{kind, number}
use Rattle.body_codec.specs.Names.{takes_token}
use Rattle.body_codec.specs.NamedTokens.{caught_in}
use Rattle.body_codec.specs.Reading.{piece_of, pieces_of, IsMark}
use Rattle.body_codec.specs.ReadingClauses.{rows_of}
use Rattle.body_codec.proofs.Outcomes.{any_piece, any_row}
use Rattle.body_codec.proofs.Places.{count_is}
use Rattle.body_codec.proofs.Targets.{piece_at}
use Rattle.body_codec.proofs.Tokens.{token_length}
use Rattle.body_outlines.specs.declared.outlined.TokenUse.{TokenUse}
use Rattle.body_outlines.specs.Outlines.{token_use, use_in}

cons_append : {Y : Type 0} (o : Option Y) (a b : List Y) → cons_option o (a ++ b) ≡ cons_option o a ++ b
cons_append None a b = refl
cons_append (Some y) a b = refl

filter_map_push : {X Y : Type 0} (h : X → Option Y) (xs : List X) (x : X) → filter_map h (xs ++ x ∷ []) ≡ filter_map h xs ++ cons_option (h x) []
filter_map_push h [] x = refl
filter_map_push h (y ∷ ys) x = ap (cons_option (h y)) (filter_map_push h ys x) ∙ cons_append (h y) (filter_map h ys) (cons_option (h x) [])

one_more : {X Y : Type 0} (h : X → Option Y) (xs : List X) (k : ℕ) (x d : X) (old new : List Y) → k < length xs → get_or xs k d ≡ x
    → old ≡ filter_map h (take k xs) → new ≡ old ++ cons_option (h x) [] → new ≡ filter_map h (take (k + 1) xs)
one_more h xs k x d old new l e t n =
    n ∙ (ap (λ ts. ts ++ cons_option (h x) []) t
    ∙ (ap (λ y. filter_map h (take k xs) ++ cons_option (h y) []) (sym e)
    ∙ (sym (filter_map_push h (take k xs) (get_or xs k d)) ∙ ap (filter_map h) (sym (take_more xs k d l)))))

pub operands_more : (code : List ℕ) (marks : List Mark) (k : ℕ) (m : Mark) (old new : List TokenUse) → k < length marks
    → old ≡ filter_map use_in (take k (pieces_of code marks)) → new ≡ old ++ cons_option (use_in (piece_of code (slice_index_or marks k m))) []
    → new ≡ filter_map use_in (take (k + 1) (pieces_of code marks))
operands_more code marks k m old new l t n =
    let c = count_is code marks in
    one_more use_in (pieces_of code marks) k (piece_of code (slice_index_or marks k m)) any_piece old new (omega arith) (piece_at code marks k m any_piece l) t n

pub catches_more : (found : List Found) (k : ℕ) (f : Found) (old new : List ℕ) → k < length found
    → old ≡ filter_map caught_in (take k (rows_of found)) → new ≡ old ++ cons_option (caught_in (slice_index_or found k f).row) []
    → new ≡ filter_map caught_in (take (k + 1) (rows_of found))
catches_more found k f old new l t n =
    let c = length-map found (λ (x : Found). x.row) in
    one_more caught_in (rows_of found) k (slice_index_or found k f).row any_row old new (omega arith) (get_or-map (λ (x : Found). x.row) found k f any_row l) t n

use_there : (code : List ℕ) (m : Mark) (k : OperandKind) (token : ℕ) → IsMark code m → k ≡ kind m.op → takes_token k ≡ true → token ≡ little_number 4 (piece_of code m).tail
    → use_in (piece_of code m) ≡ Some (token_use k token)
use_there code m k token w same e t =
    let taken : takes_token (kind m.op) ≡ true = ap takes_token (sym same) ∙ e in
    let four : length (piece_of code m).tail ≡ 4 = token_length code m w taken in
    ap (λ b. cond b (Some (token_use (kind m.op) (number (piece_of code m).tail))) None) taken
    ∙ (ap (λ x. Some (token_use x (number (piece_of code m).tail))) (sym same)
    ∙ ap (λ n. Some (token_use k n)) (ap (λ n. little_number n (piece_of code m).tail) four ∙ sym t))

-- what an instruction adds
pub use_added : (code : List ℕ) (m : Mark) (k : OperandKind) (token : ℕ) (uses : List TokenUse) → IsMark code m → k ≡ kind m.op → takes_token k ≡ true
    → token ≡ little_number 4 (piece_of code m).tail → uses ++ token_use k token ∷ [] ≡ uses ++ cons_option (use_in (piece_of code m)) []
use_added code m k token uses w same e t = ap (λ o. uses ++ cons_option o []) (sym (use_there code m k token w same e t))

pub none_added : (code : List ℕ) (m : Mark) (k : OperandKind) (uses : List TokenUse) → k ≡ kind m.op → takes_token k ≡ false → uses ≡ uses ++ cons_option (use_in (piece_of code m)) []
none_added code m k uses same e =
    let never : takes_token (kind m.op) ≡ false = ap takes_token (sym same) ∙ e in
    sym (append-nil uses) ∙ ap (λ b. uses ++ cons_option (cond b (Some (token_use (kind m.op) (number (piece_of code m).tail))) None) []) (sym never)

pub ruleset use_steps = (use_added, none_added, token_length)
