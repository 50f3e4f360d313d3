-- A body that is read has the form of one, and its short branches reach.
use Rattle.std.proofs.Common.{◌≡◌, ◌∙◌, sym, ap, subst, refl, ℕ, zero, suc, ◌+◌, ◌*◌, ◌-◌, ◌^◌, ◌<◌, ◌≤◌, ◌⊎◌, inl, inr, Bool, true, false, nat_lt, nat_le, ◌&&◌, ℤ, pos, negsuc, ◌-ℤ◌, if◌then◌else◌, List, [], ◌∷◌, ◌++◌, length, take, drop, get_or, slice_index, slice_index_or, Option, None, Some, option_map, arith}
use Rattle.std.specs.Prelude.{IsTrue, int_le, ◌≤ℤ◌, ◌<ℤ◌}
use Rattle.std.specs.Option.{option_or}
use Rattle.std.specs.List.{All, list_all, enumerate_from, sum_by}
use Rattle.std.proofs.lemmas.Bool.{cases_lt, le-ltb}
use Rattle.std.proofs.lemmas.Bool.Decides.{nat_tests}
use Rattle.std.proofs.lemmas.Int.{ints}
use Rattle.std.proofs.lemmas.Option.{none-some, same_Some}
use Rattle.std.proofs.lemmas.List.{length-append, length-take, length-drop, take-append-drop, get_or-append-add, get_or_default}
use Rattle.std.proofs.lemmas.List.Sums.{sum_by-cons}
use Rattle.byteorder.specs.Endian.{little_number, twos_complement}
use Rattle.byteorder.specs.Numbers.{little_from-lt}
use Rattle.opcode_table.specs.Opcodes.{bytes_of}
use Rattle.opcode_table.specs.Sizes.{bytes_in, opcode_size}
use Rattle.opcode_table.specs.declared.kind.OperandKind.{OperandKind}
use Rattle.opcode_table.specs.declared.kind.OperandKind.TheVariants as kinds
use Rattle.opcode_table.specs.declared.op.Op.{Op}
use Rattle.assembly_tree.specs.WellFormedBodies.{operand_kind, fits_kind, are_targets, is_instruction, offset_of, is_near, reaches_at, reaches, short_branches_reach, filter_before, is_forward, is_filter_inside, is_inside, is_clause, has_body_form}
use Rattle.assembly_tree.specs.WellFormedBodies as tree
use Rattle.assembly_tree.specs.WellFormedTerms.{is_count}
use Rattle.assembly_tree.specs.declared.body.Body.{Body}
use Rattle.assembly_tree.specs.declared.body.Clause.{Clause}
use Rattle.assembly_tree.specs.declared.body.ClauseKind as handled
use Rattle.assembly_tree.specs.declared.body.Ins.{Ins}
use Rattle.assembly_tree.specs.declared.body.Operand as operand
use Rattle.body_codec.specs.declared.decoding.sections.ClauseRow.{ClauseRow}
use Rattle.body_codec.specs.Instruction.{Piece, IsWhole, joined, opcode_bytes, operand_size, piece_bytes, bytes_of_pieces, place, kind, number, signed}
use Rattle.body_codec.specs.Names.{NameMap, reading, named}
use Rattle.body_codec.specs.Spelling.{Form, nothing, variable, integer, byte, real, target, targets, token, form, IsInteger, LeadsTo, SpellsOperand, SpellsIns, SpellsEach}
use Rattle.body_codec.specs.Header.{HasHeader, header_size, code_size, code_end, code_of}
use Rattle.body_codec.specs.Sections.{SpellsKind, SpellsClause, SpellsClauses, clause_rows}
use Rattle.body_codec.specs.Bodies.{Spells}
use Rattle.body_codec.proofs.Outcomes.{any_piece, any_row}
use Rattle.body_codec.proofs.Operands.{any_ins}
use Rattle.body_codec.proofs.Spelled.{to_token}
use Rattle.body_codec.proofs.Places.{place_zero, place_nil, place_suc}
use Rattle.body_outlines.specs.Laws.{IsFormed}

-- ---- bytes

abbrev AreBytes : List ℕ → Type 0
AreBytes xs = (k : ℕ) → slice_index xs k < 256

number_small : (tail : List ℕ) → AreBytes tail → number tail < 256 ^ length tail
number_small tail h = little_from-lt 0 (length tail) tail h

back_bytes : (xs ys : List ℕ) → AreBytes (xs ++ ys) → AreBytes ys
back_bytes xs ys h k = subst (λ b. b < 256) (get_or-append-add xs ys k 0) (h (length xs + k))

front_bytes : (xs ys : List ℕ) → AreBytes (xs ++ ys) → AreBytes xs
front_bytes [] ys h zero = omega arith
front_bytes [] ys h (suc k) = omega arith
front_bytes (x ∷ xs) ys h zero = h 0
front_bytes (x ∷ xs) ys h (suc k) = front_bytes xs ys (λ j. h (suc j)) k

piece_bytes_at : (ps : List Piece) (k : ℕ) (d : Piece) → k < length ps → AreBytes (bytes_of_pieces ps) → AreBytes (get_or ps k d).tail
piece_bytes_at [] k d l h = absurd (omega arith)
piece_bytes_at (p ∷ ps) zero d l h = back_bytes (opcode_bytes p.op) p.tail (front_bytes (piece_bytes p) (bytes_of_pieces ps) h)
piece_bytes_at (p ∷ ps) (suc k) d l h = piece_bytes_at ps k d (omega arith) (back_bytes (piece_bytes p) (bytes_of_pieces ps) h)

-- ---- tests

both : (a b : Bool) → a ≡ true → b ≡ true → a && b ≡ true
both a b e f = ap (λ x. x && b) e ∙ f

each_test : {X : Type 0} (p : X → Bool) (xs : List X) → ((k : ℕ) (d : X) → k < length xs → p (get_or xs k d) ≡ true) → list_all p xs ≡ true
each_test p [] h = refl
each_test p (x ∷ xs) h = both (p x) (list_all p xs) (h 0 x (omega arith)) (each_test p xs (λ k d l. h (suc k) d (omega arith)))

each_numbered : {X : Type 0} (p : ℕ × X → Bool) (n : ℕ) (xs : List X) → ((k : ℕ) (d : X) → k < length xs → p (n + k, get_or xs k d) ≡ true) → list_all p (enumerate_from n xs) ≡ true
each_numbered p n [] h = refl
each_numbered {X = X} p n (x ∷ xs) h =
    let zero_is : n + 0 ≡ n = omega arith in
    both (p (n, x)) (list_all p (enumerate_from (n + 1) xs)) (subst (λ (m : ℕ). p (m, x) ≡ true) zero_is (h 0 x (omega arith)))
    (each_numbered p (n + 1) xs (λ k (d : X) l. let same : n + suc k ≡ n + 1 + k = omega arith in subst (λ (m : ℕ). p (m, get_or xs k d) ≡ true) same (h (suc k) d (omega arith))))

lt_test : (a b : ℕ) → a < b → nat_lt a b ≡ true
lt_test a b h = grind (arith, nat_tests)

le_test : (a b : ℕ) → a ≤ b → nat_le a b ≡ true
le_test a b h = grind (arith, nat_tests)

-- ---- the range of an operand

abbrev IsNear : ℕ → ℤ → Type 0
IsNear half z = ((pos 0 -ℤ pos half) ≤ℤ z) × (z <ℤ pos half)

complement_near : (size half x : ℕ) → 2 ^ (8 * size - 1) ≡ half → 2 ^ (8 * size) ≡ half + half → x < half + half → IsNear half (twos_complement size x)
complement_near size half x e f h =
    elim (cases_lt x half) [
      | inl l ↦
          let t : nat_lt x (2 ^ (8 * size - 1)) ≡ true = ap (nat_lt x) e ∙ lt_test x half l in
          let P : Bool → Type 0 = λ b. IsNear half (if b then pos x else pos x -ℤ pos (2 ^ (8 * size))) in
          subst P (sym t) (omega (arith, ints), omega (arith, ints))
      | inr g ↦
          let t : nat_lt x (2 ^ (8 * size - 1)) ≡ false = ap (nat_lt x) e ∙ le-ltb x half g in
          let P : Bool → Type 0 = λ b. IsNear half (if b then pos x else pos x -ℤ pos (2 ^ (8 * size))) in
          subst P (sym t) (omega (arith, ints), omega (arith, ints))
    ]

-- a signed operand of so many bytes
signed_near : (tail : List ℕ) (size half : ℕ) → AreBytes tail → length tail ≡ size → 2 ^ (8 * size - 1) ≡ half → 2 ^ (8 * size) ≡ half + half → 256 ^ size ≡ half + half → IsNear half (signed tail)
signed_near tail size half h l e f g =
    let few = number_small tail h in
    let small : number tail < half + half = subst (λ (n : ℕ). number tail < n) (ap (λ k. 256 ^ k) l ∙ g) few in
    subst (λ k. IsNear half (twos_complement k (number tail))) (sym l) (complement_near size half (number tail) e f small)

byte_test : (z : ℤ) → IsNear 0x80 z → (int_le (negsuc 0x7F) z && int_le z (pos 0x7F)) ≡ true
byte_test z h =
    let a : int_le (negsuc 0x7F) z ≡ true = let l = h.0 in grind (arith, ints) in
    let b : int_le z (pos 0x7F) ≡ true = let l = h.1 in grind (arith, ints) in
    both (int_le (negsuc 0x7F) z) (int_le z (pos 0x7F)) a b

word_test : (z : ℤ) → IsNear 0x80000000 z → (int_le (negsuc 0x7FFFFFFF) z && int_le z (pos 0x7FFFFFFF)) ≡ true
word_test z h =
    let a : int_le (negsuc 0x7FFFFFFF) z ≡ true = let l = h.0 in grind (arith, ints) in
    let b : int_le z (pos 0x7FFFFFFF) ≡ true = let l = h.1 in grind (arith, ints) in
    both (int_le (negsuc 0x7FFFFFFF) z) (int_le z (pos 0x7FFFFFFF)) a b

unsigned_test : (n : ℕ) → n < 256 → (int_le (pos 0) (pos n) && int_le (pos n) (pos 0xFF)) ≡ true
unsigned_test n h = both (int_le (pos 0) (pos n)) (int_le (pos n) (pos 0xFF)) (le_test 0 n (omega arith)) (le_test n 0xFF (omega arith))

-- ---- operands fit their forms

nothing_fits : (kd : OperandKind) → nothing ≡ form kd → fits_kind kd operand.TheVariants.Nothing ≡ true
nothing_fits kinds.Nothing e = refl
nothing_fits _ e = cc

var_fits : (kd : OperandKind) (tail : List ℕ) → AreBytes tail → length tail ≡ operand_size kd tail → variable ≡ form kd → fits_kind kd (operand.TheVariants.Var (number tail)) ≡ true
var_fits kinds.Var8 tail h s e = let n = number_small tail h in let small : number tail < 256 = subst (λ k. number tail < 256 ^ k) s n in le_test (number tail) 0xFF (omega arith)
var_fits kinds.Var16 tail h s e = refl
var_fits _ tail h s e = cc

int_fits : (kd : OperandKind) (tail : List ℕ) (n : ℤ) → AreBytes tail → length tail ≡ operand_size kd tail → IsInteger (form kd) tail n → fits_kind kd (operand.TheVariants.Int n) ≡ true
int_fits kinds.Num8 tail n h s e = byte_test n (subst (IsNear 0x80) (sym e) (signed_near tail 1 0x80 h s refl refl refl))
int_fits kinds.Num32 tail n h s e = word_test n (subst (IsNear 0x80000000) (sym e) (signed_near tail 4 0x80000000 h s refl refl refl))
int_fits kinds.Num64 tail n h s e = refl
int_fits kinds.Byte tail n h s e =
    let few = number_small tail h in
    let small : number tail < 256 = subst (λ k. number tail < 256 ^ k) s few in
    subst (λ (z : ℤ). (int_le (pos 0) z && int_le z (pos 0xFF)) ≡ true) (sym e) (unsigned_test (number tail) small)
int_fits _ tail n h s e = absurd e

real_fits : (kd : OperandKind) (tail : List ℕ) → AreBytes tail → length tail ≡ operand_size kd tail → real ≡ form kd → fits_kind kd (operand.TheVariants.Real (number tail)) ≡ true
real_fits kinds.Real4 tail h s e = let n = number_small tail h in let small : number tail < 256 ^ 4 = subst (λ k. number tail < 256 ^ k) s n in le_test (number tail) 0xFFFFFFFF (omega arith)
real_fits kinds.Real8 tail h s e = refl
real_fits _ tail h s e = cc

target_fits : (kd : OperandKind) (t : ℕ) → target ≡ form kd → fits_kind kd (operand.TheVariants.Target t) ≡ true
target_fits kinds.Branch8 t e = refl
target_fits kinds.Branch32 t e = refl
target_fits _ t e = cc

targets_fit : (kd : OperandKind) (ts : List ℕ) → targets ≡ form kd → fits_kind kd (operand.TheVariants.Targets ts) ≡ true
targets_fit kinds.Switch ts e = refl
targets_fit _ ts e = cc

map_fits : {V : Type 0} (kd : OperandKind) (f : V → operand.Operand) → ((v : V) → fits_kind kd (f v) ≡ true) → (x : Option V) (o : operand.Operand) → option_map f x ≡ Some o → fits_kind kd o ≡ true
map_fits kd f h None o e = absurd (none-some o e)
map_fits kd f h (Some v) o e = subst (λ y. fits_kind kd y ≡ true) (same_Some (f v) o e) (h v)

or_fits : (kd : OperandKind) (a b : Option operand.Operand) (o : operand.Operand) → (a ≡ Some o → fits_kind kd o ≡ true) → (b ≡ Some o → fits_kind kd o ≡ true) → option_or a b ≡ Some o → fits_kind kd o ≡ true
or_fits kd None b o f g e = g e
or_fits kd (Some x) b o f g e = f e

name_fits : (names : NameMap) (kd : OperandKind) (t : ℕ) (o : operand.Operand) → named names kd t ≡ Some o → fits_kind kd o ≡ true
name_fits names kinds.Method t o e = map_fits kinds.Method operand.TheVariants.Method (λ v. refl) (names.methods t) o e
name_fits names kinds.Field t o e = map_fits kinds.Field operand.TheVariants.Field (λ v. refl) (names.fields t) o e
name_fits names kinds.Of t o e = map_fits kinds.Of operand.TheVariants.Of (λ v. refl) (names.owners t) o e
name_fits names kinds.Text t o e = map_fits kinds.Text operand.TheVariants.Text (λ v. refl) (names.texts t) o e
name_fits names kinds.Token t o e =
    or_fits kinds.Token (option_map operand.TheVariants.Method (names.methods t)) (option_or (option_map operand.TheVariants.Field (names.fields t)) (option_map operand.TheVariants.Of (names.owners t))) o
    (map_fits kinds.Token operand.TheVariants.Method (λ v. refl) (names.methods t) o)
    (or_fits kinds.Token (option_map operand.TheVariants.Field (names.fields t)) (option_map operand.TheVariants.Of (names.owners t)) o
    (map_fits kinds.Token operand.TheVariants.Field (λ v. refl) (names.fields t) o) (map_fits kinds.Token operand.TheVariants.Of (λ v. refl) (names.owners t) o)) e
name_fits names _ t o e = absurd (none-some o e)

operand_fits : (names : NameMap) (ps : List Piece) (k : ℕ) (kd : OperandKind) (tail : List ℕ) (o : operand.Operand) → AreBytes tail → length tail ≡ operand_size kd tail
    → SpellsOperand (reading names) ps k kd tail o → fits_kind kd o ≡ true
operand_fits names ps k kd tail operand.TheVariants.Nothing h s e = nothing_fits kd (sym e)
operand_fits names ps k kd tail (operand.TheVariants.Var n) h s e = subst (λ m. fits_kind kd (operand.TheVariants.Var m) ≡ true) (sym e.1) (var_fits kd tail h s (sym e.0))
operand_fits names ps k kd tail (operand.TheVariants.Int n) h s e = int_fits kd tail n h s e
operand_fits names ps k kd tail (operand.TheVariants.Real n) h s e = subst (λ m. fits_kind kd (operand.TheVariants.Real m) ≡ true) (sym e.1) (real_fits kd tail h s (sym e.0))
operand_fits names ps k kd tail (operand.TheVariants.Target t) h s e = target_fits kd t (sym e.0)
operand_fits names ps k kd tail (operand.TheVariants.Targets ts) h s e = targets_fit kd ts (sym e.0)
operand_fits names ps k kd tail (operand.TheVariants.Method m) h s e = name_fits names kd (number tail) (operand.TheVariants.Method m) e.named
operand_fits names ps k kd tail (operand.TheVariants.Field m) h s e = name_fits names kd (number tail) (operand.TheVariants.Field m) e.named
operand_fits names ps k kd tail (operand.TheVariants.Of m) h s e = name_fits names kd (number tail) (operand.TheVariants.Of m) e.named
operand_fits names ps k kd tail (operand.TheVariants.Text m) h s e = name_fits names kd (number tail) (operand.TheVariants.Text m) e.named

operand_inside : (names : NameMap) (ps : List Piece) (k : ℕ) (kd : OperandKind) (tail : List ℕ) (o : operand.Operand) → SpellsOperand (reading names) ps k kd tail o
    → are_targets (length ps) o ≡ true
operand_inside names ps k kd tail (operand.TheVariants.Target t) e = lt_test t (length ps) e.1.there
operand_inside names ps k kd tail (operand.TheVariants.Targets ts) e =
    each_test (λ t. nat_lt t (length ps)) ts (λ i d l.
    let low = (e.1.each i l).there in
    lt_test (get_or ts i d) (length ps) (subst (λ n. n < length ps) (get_or_default ts i 0 d l) low))
operand_inside names ps k kd tail operand.TheVariants.Nothing e = refl
operand_inside names ps k kd tail (operand.TheVariants.Var n) e = refl
operand_inside names ps k kd tail (operand.TheVariants.Int n) e = refl
operand_inside names ps k kd tail (operand.TheVariants.Real n) e = refl
operand_inside names ps k kd tail (operand.TheVariants.Method m) e = refl
operand_inside names ps k kd tail (operand.TheVariants.Field m) e = refl
operand_inside names ps k kd tail (operand.TheVariants.Of m) e = refl
operand_inside names ps k kd tail (operand.TheVariants.Text m) e = refl

-- ---- sizes

same_kind : (op : Op) → operand_kind op ≡ kind op
unfolding operand_kind kind
same_kind op = refl

joined_long : (first : ℕ) (second : Option ℕ) → length (joined first second) ≡ bytes_in (first, second)
joined_long first None = refl
joined_long first (Some second) = refl

opcode_long : (op : Op) → length (opcode_bytes op) ≡ opcode_size op
unfolding opcode_bytes opcode_size
opcode_long op = joined_long (bytes_of op).0 (bytes_of op).1

switch_long : (ps : List Piece) (k : ℕ) (names : NameMap) (tail : List ℕ) (o : operand.Operand) → SpellsOperand (reading names) ps k kinds.Switch tail o → 4 + 4 * little_number 4 tail ≡ tree.targets_size o
switch_long ps k names tail (operand.TheVariants.Targets ts) e = let c = e.1.count in omega arith
switch_long ps k names tail operand.TheVariants.Nothing e = let f : nothing ≡ targets = sym e in cc
switch_long ps k names tail (operand.TheVariants.Var n) e = let f : variable ≡ targets = sym e.0 in cc
switch_long ps k names tail (operand.TheVariants.Int n) e = absurd e
switch_long ps k names tail (operand.TheVariants.Real n) e = let f : real ≡ targets = sym e.0 in cc
switch_long ps k names tail (operand.TheVariants.Target t) e = let f : target ≡ targets = sym e.0 in cc
switch_long ps k names tail (operand.TheVariants.Method m) e = let f : token ≡ targets = sym e.formed in cc
switch_long ps k names tail (operand.TheVariants.Field m) e = let f : token ≡ targets = sym e.formed in cc
switch_long ps k names tail (operand.TheVariants.Of m) e = let f : token ≡ targets = sym e.formed in cc
switch_long ps k names tail (operand.TheVariants.Text m) e = let f : token ≡ targets = sym e.formed in cc

operand_long : (names : NameMap) (ps : List Piece) (k : ℕ) (kd : OperandKind) (tail : List ℕ) (o : operand.Operand) → SpellsOperand (reading names) ps k kd tail o
    → operand_size kd tail ≡ tree.operand_size kd o
operand_long names ps k kinds.Switch tail o e = switch_long ps k names tail o e
operand_long names ps k kinds.Nothing tail o e = refl
operand_long names ps k kinds.Var8 tail o e = refl
operand_long names ps k kinds.Var16 tail o e = refl
operand_long names ps k kinds.Num8 tail o e = refl
operand_long names ps k kinds.Num32 tail o e = refl
operand_long names ps k kinds.Num64 tail o e = refl
operand_long names ps k kinds.Byte tail o e = refl
operand_long names ps k kinds.Real4 tail o e = refl
operand_long names ps k kinds.Real8 tail o e = refl
operand_long names ps k kinds.Branch8 tail o e = refl
operand_long names ps k kinds.Branch32 tail o e = refl
operand_long names ps k kinds.Method tail o e = refl
operand_long names ps k kinds.Field tail o e = refl
operand_long names ps k kinds.Of tail o e = refl
operand_long names ps k kinds.Text tail o e = refl
operand_long names ps k kinds.Token tail o e = refl

piece_long : (names : NameMap) (ps : List Piece) (k : ℕ) (p : Piece) (i : Ins) → IsWhole p → SpellsIns (reading names) ps k p i → length (piece_bytes p) ≡ tree.size_of i
unfolding tree.size_of
piece_long names ps k p i w s =
    let whole = length-append (opcode_bytes p.op) p.tail in
    let first = opcode_long p.op in
    let same = ap opcode_size s.op in
    let kd : kind p.op ≡ operand_kind i.op = ap kind s.op ∙ sym (same_kind i.op) in
    let tail = w.size ∙ (operand_long names ps k (kind p.op) p.tail i.operand s.operand ∙ ap (λ x. tree.operand_size x i.operand) kd) in
    omega arith

-- where instructions begin, by both definitions
same_places : (ps : List Piece) (code : List Ins) → length ps ≡ length code → ((k : ℕ) (p : Piece) (i : Ins) → k < length code → length (piece_bytes (get_or ps k p)) ≡ tree.size_of (get_or code k i))
    → (k : ℕ) → place ps k ≡ offset_of code k
same_places ps code l h zero = place_zero ps
same_places [] [] l h (suc k) = place_nil (suc k)
same_places [] (i ∷ code) l h (suc k) = absurd (omega arith)
same_places (p ∷ ps) [] l h (suc k) = absurd (omega arith)
same_places (p ∷ ps) (i ∷ code) l h (suc k) =
    let here = h 0 p i (omega arith) in
    let more = same_places ps code (omega arith) (λ j q x m. h (suc j) q x (omega arith)) k in
    let a = place_suc p ps k in
    let b = sum_by-cons tree.size_of i (take k code) in
    omega arith

-- ---- short branches

near_test : (from to : ℕ) (z : ℤ) → IsNear 0x80 z → z ≡ pos to -ℤ pos from → is_near from to ≡ true
near_test from to z h e =
    let a = h.0 in
    let b = h.1 in
    both (nat_le from (to + 0x80)) (nat_le to (from + 0x7F)) (le_test from (to + 0x80) (omega (arith, ints))) (le_test to (from + 0x7F) (omega (arith, ints)))

reach_test : (code : List Ins) (k : ℕ) (kd : OperandKind) (o : operand.Operand)
    → ((t : ℕ) → kd ≡ kinds.Branch8 → o ≡ operand.TheVariants.Target t → is_near (offset_of code (k + 1)) (offset_of code t) ≡ true) → reaches_at code k kd o ≡ true
reach_test code k kinds.Branch8 (operand.TheVariants.Target t) h = h t refl refl
reach_test code k _ _ h = refl

-- ---- clauses

kind_inside : (names : NameMap) (ps : List Piece) (row : ClauseRow) (handler : ℕ) (k : handled.ClauseKind) → handler ≤ length ps → SpellsKind (reading names) ps row handler k
    → (filter_before handler k ≡ true) × (is_filter_inside (length ps) k ≡ true)
kind_inside names ps row handler (handled.TheVariants.Filter at) l s = (lt_test at handler s.1, le_test at (length ps) (let m = s.1 in omega arith))
kind_inside names ps row handler (handled.TheVariants.Catch o) l s = (refl, refl)
kind_inside names ps row handler handled.TheVariants.Finally l s = (refl, refl)
kind_inside names ps row handler handled.TheVariants.Fault l s = (refl, refl)

clause_formed : (names : NameMap) (ps : List Piece) (row : ClauseRow) (c : Clause) → SpellsClause (reading names) ps row c → is_clause (length ps) c ≡ true
unfolding is_clause
clause_formed names ps row c s =
    let a = s.try_range.some in let b = s.try_range.inside in let d = s.handler_range.some in let e = s.handler_range.inside in
    let k = kind_inside names ps row c.handler_start c.kind (omega arith) s.kind in
    let n = length ps in
    both (is_forward c) (is_inside n c)
    (both (nat_lt c.try_start c.try_end && nat_lt c.handler_start c.handler_end) (filter_before c.handler_start c.kind)
    (both (nat_lt c.try_start c.try_end) (nat_lt c.handler_start c.handler_end) (lt_test c.try_start c.try_end a) (lt_test c.handler_start c.handler_end d)) k.0)
    (both (nat_le c.try_start n && nat_le c.try_end n && nat_le c.handler_start n && nat_le c.handler_end n) (is_filter_inside n c.kind)
    (both (nat_le c.try_start n && nat_le c.try_end n && nat_le c.handler_start n) (nat_le c.handler_end n)
    (both (nat_le c.try_start n && nat_le c.try_end n) (nat_le c.handler_start n)
    (both (nat_le c.try_start n) (nat_le c.try_end n) (le_test c.try_start n (omega arith)) (le_test c.try_end n b)) (le_test c.handler_start n (omega arith))) (le_test c.handler_end n e)) k.1)

-- ---- the body

code_bytes : (bytes : List ℕ) → AreBytes bytes → AreBytes (code_of bytes)
unfolding code_of
code_bytes bytes h =
    let m = header_size bytes in
    let n = code_size bytes in
    let rest : AreBytes (drop m bytes) = back_bytes (take m bytes) (drop m bytes) (subst AreBytes (sym (take-append-drop m bytes)) h) in
    front_bytes (take n (drop m bytes)) (drop n (drop m bytes)) (subst AreBytes (sym (take-append-drop n (drop m bytes))) rest)

code_some : (bytes : List ℕ) → HasHeader bytes → 0 < length (code_of bytes)
unfolding code_of code_end
code_some bytes h =
    let s = h.some in
    let r = h.room in
    let l = length-take (code_size bytes) (drop (header_size bytes) bytes) in
    let d = length-drop (header_size bytes) bytes in
    omega arith

no_bytes : (ps : List Piece) → length ps ≤ 0 → length (bytes_of_pieces ps) ≡ 0
no_bytes [] h = refl
no_bytes (p ∷ ps) h = absurd (omega arith)

module _ (names : NameMap) (bytes : List ℕ) (body : Body) (size : ℕ) (are : (k : ℕ) → slice_index bytes k < 256) (s : Spells (reading names) bytes body size) where
  abbrev ps : List Piece
  ps = s.pieces

  count_same : length ps ≡ length body.code
  count_same = s.code.each.count

  piece_whole : (k : ℕ) (p : Piece) → k < length body.code → IsWhole (get_or ps k p)
  piece_whole k p l = s.code.cut.each k p (let c = count_same in omega arith)

  spelled_at : (k : ℕ) (p : Piece) (i : Ins) → k < length body.code → SpellsIns (reading names) ps k (get_or ps k p) (get_or body.code k i)
  spelled_at k p i l = s.code.each.each k p i l

  tail_bytes : (k : ℕ) → k < length body.code → AreBytes (get_or ps k any_piece).tail
  tail_bytes k l = piece_bytes_at ps k any_piece (let c = count_same in omega arith) (subst AreBytes s.code.cut.whole (code_bytes bytes are))

  instruction_formed : (k : ℕ) (i : Ins) → k < length body.code → is_instruction (length body.code) (get_or body.code k i) ≡ true
  instruction_formed k i l =
      let p = get_or ps k any_piece in
      let x = get_or body.code k i in
      let at = spelled_at k any_piece i l in
      let fits = operand_fits names ps k (kind p.op) p.tail x.operand (tail_bytes k l) (piece_whole k any_piece l).size at.operand in
      let inside = operand_inside names ps k (kind p.op) p.tail x.operand at.operand in
      let kd : kind p.op ≡ operand_kind x.op = ap kind at.op ∙ sym (same_kind x.op) in
      both (fits_kind (operand_kind x.op) x.operand) (are_targets (length body.code) x.operand) (subst (λ (m : OperandKind). fits_kind m x.operand ≡ true) kd fits)
      (subst (λ n. are_targets n x.operand ≡ true) count_same inside)

  places : (k : ℕ) → place ps k ≡ offset_of body.code k
  places k = same_places ps body.code count_same (λ j p i l. piece_long names ps j (get_or ps j p) (get_or body.code j i) (piece_whole j p l) (spelled_at j p i l)) k

  near_at : (k t : ℕ) (p : Piece) (o : operand.Operand) → AreBytes p.tail → IsWhole p → kind p.op ≡ kinds.Branch8 → o ≡ operand.TheVariants.Target t → SpellsOperand (reading names) ps k (kind p.op) p.tail o
      → is_near (offset_of body.code (k + 1)) (offset_of body.code t) ≡ true
  near_at k t p o are_tail w e f h =
      let one : length p.tail ≡ 1 = w.size ∙ ap (λ x. operand_size x p.tail) e in
      let leads = (subst (λ (q : operand.Operand). SpellsOperand (reading names) ps k (kind p.op) p.tail q) f h).1 in
      let near = signed_near p.tail 1 0x80 are_tail one refl refl refl in
      subst (λ n. is_near n (offset_of body.code t) ≡ true) (places (k + 1))
      (subst (λ n. is_near (place ps (k + 1)) n ≡ true) (places t) (near_test (place ps (k + 1)) (place ps t) (signed p.tail) near leads.distance_is))

  reach_at : (k : ℕ) (i : Ins) → k < length body.code → reaches body.code (0 + k, get_or body.code k i) ≡ true
  reach_at k i l =
      let p = get_or ps k any_piece in
      let x = get_or body.code k i in
      let at = spelled_at k any_piece i l in
      let same : 0 + k ≡ k = omega arith in
      let kd : kind p.op ≡ operand_kind x.op = ap kind at.op ∙ sym (same_kind x.op) in
      subst (λ (m : ℕ). reaches body.code (m, x) ≡ true) (sym same)
      (reach_test body.code k (operand_kind x.op) x.operand (λ t e f. near_at k t p x.operand (tail_bytes k l) (piece_whole k any_piece l) (kd ∙ e) f at.operand))

  clause_at : (k : ℕ) (c : Clause) → k < length body.clauses → is_clause (length body.code) (get_or body.clauses k c) ≡ true
  clause_at k c l =
      subst (λ n. is_clause n (get_or body.clauses k c) ≡ true) count_same
      (clause_formed names ps (get_or (clause_rows bytes) k any_row) (get_or body.clauses k c) (s.clauses.each k any_row c l))

  some_code : 0 < length body.code
  some_code =
      let l = ap length s.code.cut.whole in
      let some = code_some bytes s.header in
      elim (cases_lt 0 (length ps)) [
        | inl h ↦ let c = count_same in omega arith
        | inr h ↦ let none = no_bytes ps h in absurd (omega arith)
      ]

  form_is : IsTrue (is_count (length body.locals)) → IsTrue (has_body_form body)
  unfolding has_body_form
  form_is few =
      let n = length body.code in
      let c = s.clauses.count in let k = s.clauses.few in
      both (nat_lt 0 n && is_count (length body.locals) && is_count (length body.clauses) && list_all (is_instruction n) body.code) (list_all (is_clause n) body.clauses)
      (both (nat_lt 0 n && is_count (length body.locals) && is_count (length body.clauses)) (list_all (is_instruction n) body.code)
      (both (nat_lt 0 n && is_count (length body.locals)) (is_count (length body.clauses))
      (both (nat_lt 0 n) (is_count (length body.locals)) (lt_test 0 n some_code) few) (le_test (length body.clauses) 65535 (omega arith)))
      (each_test (is_instruction n) body.code (λ j d l. instruction_formed j d l)))
      (each_test (is_clause n) body.clauses (λ j d l. clause_at j d l))

  branches_are : IsTrue (short_branches_reach body.code)
  unfolding short_branches_reach
  branches_are = each_numbered (reaches body.code) 0 body.code (λ k d l. reach_at k d l)

pub body_formed : (names : NameMap) (bytes : List ℕ) (body : Body) (size : ℕ) → ((k : ℕ) → slice_index bytes k < 256) → Spells (reading names) bytes body size
    → IsTrue (is_count (length body.locals)) → IsFormed body
body_formed names bytes body size are s few = record { form = form_is names bytes body size are s few; short_branches = branches_are names bytes body size are s }
