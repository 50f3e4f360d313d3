-- Bodies of methods are held: operands are numbers of so many bytes, targets and filters are instructions, of which there are no
-- more than bytes of code (II.25.4, III.1.9).
use Rattle.std.proofs.Common.{◌≡◌, ◌∙◌, sym, ap, subst, refl, ℕ, zero, suc, ◌+◌, ◌*◌, ◌-◌, ◌/◌, ◌^◌, ◌<◌, ◌≤◌, inl, inr, Bool, true, false, nat_lt, ℤ, pos, negsuc, ◌-ℤ◌, if◌then◌else◌, List, [], ◌∷◌, length, drop, get_or, slice_index, Option, None, Some, option_map, arith}
use Rattle.std.specs.Prelude.{int_le, ◌≤ℤ◌, ◌<ℤ◌}
use Rattle.std.specs.Option.{option_or}
use Rattle.std.specs.List.{list_all}
use Rattle.std.proofs.lemmas.Bool.{and_from, cases_lt, le-ltb}
use Rattle.std.proofs.lemmas.Int.{ints}
use Rattle.std.proofs.lemmas.Option.{none-some, same_Some}
use Rattle.std.proofs.lemmas.List.{length-take, get_or_default}
use Rattle.byteorder.specs.Endian.{little_number, twos_complement}
use Rattle.opcode_table.specs.declared.kind.OperandKind.{OperandKind}
use Rattle.opcode_table.specs.declared.kind.OperandKind.TheVariants as kinds
use Rattle.type_terms.specs.declared.term.SigType.{SigType}
use Rattle.assembly_tree.specs.declared.body.Body.{Body}
use Rattle.assembly_tree.specs.declared.body.Clause.{Clause}
use Rattle.assembly_tree.specs.declared.body.ClauseKind as handles
use Rattle.assembly_tree.specs.declared.body.Ins.{Ins}
use Rattle.assembly_tree.specs.declared.body.Operand as operand
use Rattle.body_codec.specs.declared.decoding.sections.ClauseRow.{ClauseRow}
use Rattle.body_codec.specs.Instruction.{Piece, opcode_bytes, operand_size, piece_bytes, bytes_of_pieces, kind, number, signed}
use Rattle.body_codec.specs.Names.{NameMap, reading, named}
use Rattle.body_codec.specs.Spelling.{variable, real, form, IsInteger, SpellsOperand}
use Rattle.body_codec.specs.Header.{number_at, is_tiny, header_size, code_size, bound_of, locals_token, code_of, SpellsLocals}
use Rattle.body_codec.specs.Sections.{SpellsKind, clause_rows}
use Rattle.body_codec.specs.Bodies.{Spells}
use Rattle.body_codec.proofs.Outcomes.{any_piece, any_row}
use Rattle.body_codec.proofs.Pieces.{place_all}
use Rattle.body_codec.proofs.Places.{place_count}
use Rattle.image_model.specs.Namings.{AreNamings}
use Rattle.listing_growth.specs.Held.{is_u16, is_u32, is_u64, is_i64, is_type_held, is_operand_held, is_instruction_held, is_handled_held, is_clause_held, is_body_held}
use Rattle.formed_images.specs.Laws.{AreBytes}
use Rattle.held_images.proofs.Numbers.{lt_true, take_bytes, drop_bytes, front_bytes, back_bytes, number_small}
use Rattle.held_images.proofs.Terms.{owner_is_held}
use Rattle.held_images.proofs.References.{method_is_held, field_is_held, locals_are_held, text_is_held}

-- ---- lists

by_index : {X : Type 0} (test : X → Bool) (xs : List X) → ((k : ℕ) (d : X) → k < length xs → test (get_or xs k d) ≡ true) → list_all test xs ≡ true
by_index test [] f = refl
by_index test (x ∷ xs) f = and_from (test x) (list_all test xs) (f zero x (omega arith)) (by_index test xs (λ k d lt. f (suc k) d (omega arith)))

-- ---- the code's bytes

tail_bytes : (ps : List Piece) (k : ℕ) (d : Piece) → k < length ps → AreBytes (bytes_of_pieces ps) → AreBytes (get_or ps k d).tail
tail_bytes [] k d l h = absurd (omega arith)
tail_bytes (p ∷ ps) zero d l h = back_bytes (opcode_bytes p.op) p.tail (front_bytes (piece_bytes p) (bytes_of_pieces ps) h)
tail_bytes (p ∷ ps) (suc k) d l h = tail_bytes ps k d (omega arith) (back_bytes (piece_bytes p) (bytes_of_pieces ps) h)

code_bytes : (bytes : List ℕ) → AreBytes bytes → AreBytes (code_of bytes)
unfolding code_of
code_bytes bytes h = take_bytes (code_size bytes) (drop (header_size bytes) bytes) (drop_bytes (header_size bytes) bytes h)

size_at : (b : Bool) (x n : ℕ) → x < 256 → n < 2 ^ 32 → (if b then x / 4 else n) < 2 ^ 32
size_at true x n h k = omega arith
size_at false x n h k = k

code_small : (bytes : List ℕ) → AreBytes bytes → length (code_of bytes) < 2 ^ 32
unfolding code_of code_size number_at
code_small bytes h =
    let l = length-take (code_size bytes) (drop (header_size bytes) bytes) in
    let s = size_at (is_tiny bytes) (slice_index bytes 0) (little_number 4 (drop 4 bytes)) (h 0) (number_small 4 (drop 4 bytes) (drop_bytes 4 bytes h)) in
    omega arith

-- an instruction has at least one byte
pieces_few : (ps : List Piece) → length ps ≤ length (bytes_of_pieces ps)
pieces_few ps =
    let c = place_count ps (length ps) (omega arith) in
    let e = place_all ps (length ps) (omega arith) in
    omega arith

bound_at : (b : Bool) (n : ℕ) → n < 2 ^ 16 → is_u16 (if b then 8 else n) ≡ true
bound_at true n h = refl
bound_at false n h = lt_true n 0x10000 h

bound_held : (bytes : List ℕ) → AreBytes bytes → is_u16 (bound_of bytes) ≡ true
unfolding bound_of number_at
bound_held bytes h = bound_at (is_tiny bytes) (little_number 2 (drop 2 bytes)) (number_small 2 (drop 2 bytes) (drop_bytes 2 bytes h))

-- ---- numbers of operands

number_of : (tail : List ℕ) (size : ℕ) → AreBytes tail → length tail ≡ size → number tail < 256 ^ size
number_of tail size h e = subst (λ k. number tail < 256 ^ k) e (number_small (length tail) tail h)

var_held : (of : OperandKind) (tail : List ℕ) → AreBytes tail → length tail ≡ operand_size of tail → variable ≡ form of → is_u16 (number tail) ≡ true
var_held kinds.Var8 tail h s e = let n : number tail < 256 = number_of tail 1 h s in lt_true (number tail) 0x10000 (omega arith)
var_held kinds.Var16 tail h s e = lt_true (number tail) 0x10000 (number_of tail 2 h s)
var_held _ tail h s e = cc

real_held : (of : OperandKind) (tail : List ℕ) → AreBytes tail → length tail ≡ operand_size of tail → real ≡ form of → is_u64 (number tail) ≡ true
real_held kinds.Real4 tail h s e = let n : number tail < 0x100000000 = number_of tail 4 h s in lt_true (number tail) 0x10000000000000000 (omega arith)
real_held kinds.Real8 tail h s e = lt_true (number tail) 0x10000000000000000 (number_of tail 8 h s)
real_held _ tail h s e = cc

abbrev IsNear : ℕ → ℤ → Type 0
IsNear half z = ((pos 0 -ℤ pos half) ≤ℤ z) × (z <ℤ pos half)

complement_near : (size half x : ℕ) → 2 ^ (8 * size - 1) ≡ half → 2 ^ (8 * size) ≡ half + half → x < half + half → IsNear half (twos_complement size x)
complement_near size half x e f h =
    elim (cases_lt x half) [
      | inl l ↦
          let t : nat_lt x (2 ^ (8 * size - 1)) ≡ true = ap (nat_lt x) e ∙ lt_true x half l in
          let P : Bool → Type 0 = λ b. IsNear half (if b then pos x else pos x -ℤ pos (2 ^ (8 * size))) in
          subst P (sym t) (omega (arith, ints), omega (arith, ints))
      | inr g ↦
          let t : nat_lt x (2 ^ (8 * size - 1)) ≡ false = ap (nat_lt x) e ∙ le-ltb x half g in
          let P : Bool → Type 0 = λ b. IsNear half (if b then pos x else pos x -ℤ pos (2 ^ (8 * size))) in
          subst P (sym t) (omega (arith, ints), omega (arith, ints))
    ]

near_held : (half : ℕ) (z : ℤ) → half ≤ 0x8000000000000000 → IsNear half z → is_i64 z ≡ true
near_held half z few h =
    let a : int_le (negsuc 0x7FFFFFFFFFFFFFFF) z ≡ true = let l = h.0 in grind (arith, ints) in
    let b : int_le z (pos 0x7FFFFFFFFFFFFFFF) ≡ true = let l = h.1 in grind (arith, ints) in
    and_from (int_le (negsuc 0x7FFFFFFFFFFFFFFF) z) (int_le z (pos 0x7FFFFFFFFFFFFFFF)) a b

-- a signed operand of so many bytes
signed_held : (tail : List ℕ) (size half : ℕ) (n : ℤ) → AreBytes tail → length tail ≡ size → 2 ^ (8 * size - 1) ≡ half → 2 ^ (8 * size) ≡ half + half → 256 ^ size ≡ half + half → half ≤ 0x8000000000000000 → n ≡ signed tail → is_i64 n ≡ true
signed_held tail size half n h l e f g few is =
    let small : number tail < half + half = subst (λ (n : ℕ). number tail < n) g (number_of tail size h l) in
    let near = subst (λ k. IsNear half (twos_complement k (number tail))) (sym l) (complement_near size half (number tail) e f small) in
    near_held half n few (subst (IsNear half) (sym is) near)

int_held : (of : OperandKind) (tail : List ℕ) (n : ℤ) → AreBytes tail → length tail ≡ operand_size of tail → IsInteger (form of) tail n → is_i64 n ≡ true
int_held kinds.Num8 tail n h s e = signed_held tail 1 0x80 n h s refl refl refl (omega arith) e
int_held kinds.Num32 tail n h s e = signed_held tail 4 0x80000000 n h s refl refl refl (omega arith) e
int_held kinds.Num64 tail n h s e = signed_held tail 8 0x8000000000000000 n h s refl refl refl (omega arith) e
int_held kinds.Byte tail n h s e =
    let small : number tail < 256 = number_of tail 1 h s in
    let near : IsNear 256 (pos (number tail)) = (omega (arith, ints), omega (arith, ints)) in
    near_held 256 n (omega arith) (subst (IsNear 256) (sym e) near)
int_held _ tail n h s e = absurd e

-- ---- bodies

module _ (image : List ℕ) (names : NameMap) (tells : AreNamings image names) (bytes : AreBytes image) where
  mapped : {V : Type 0} (make : V → operand.Operand) (x : Option V) → ((v : V) → x ≡ Some v → is_operand_held (make v) ≡ true) → (o : operand.Operand) → option_map make x ≡ Some o → is_operand_held o ≡ true
  mapped make None h o e = absurd (none-some o e)
  mapped make (Some v) h o e = subst (λ y. is_operand_held y ≡ true) (same_Some (make v) o e) (h v refl)

  first_or : (x y : Option operand.Operand) (o : operand.Operand) → (x ≡ Some o → is_operand_held o ≡ true) → (y ≡ Some o → is_operand_held o ≡ true) → option_or x y ≡ Some o → is_operand_held o ≡ true
  first_or None y o f g e = g e
  first_or (Some v) y o f g e = f e

  method_named : (t : ℕ) (o : operand.Operand) → option_map operand.TheVariants.Method (names.methods t) ≡ Some o → is_operand_held o ≡ true
  method_named t o e = mapped operand.TheVariants.Method (names.methods t) (method_is_held image names tells t) o e

  field_named : (t : ℕ) (o : operand.Operand) → option_map operand.TheVariants.Field (names.fields t) ≡ Some o → is_operand_held o ≡ true
  field_named t o e = mapped operand.TheVariants.Field (names.fields t) (field_is_held image names tells t) o e

  owner_named : (t : ℕ) (o : operand.Operand) → option_map operand.TheVariants.Of (names.owners t) ≡ Some o → is_operand_held o ≡ true
  owner_named t o e = mapped operand.TheVariants.Of (names.owners t) (owner_is_held image names.owners tells.owners t) o e

  -- what a token names
  name_held : (of : OperandKind) (t : ℕ) (o : operand.Operand) → named names of t ≡ Some o → is_operand_held o ≡ true
  name_held kinds.Method t o e = method_named t o e
  name_held kinds.Field t o e = field_named t o e
  name_held kinds.Of t o e = owner_named t o e
  name_held kinds.Text t o e = mapped operand.TheVariants.Text (names.texts t) (text_is_held image names tells bytes t) o e
  name_held kinds.Token t o e =
      first_or (option_map operand.TheVariants.Method (names.methods t)) (option_or (option_map operand.TheVariants.Field (names.fields t)) (option_map operand.TheVariants.Of (names.owners t))) o (method_named t o)
      (first_or (option_map operand.TheVariants.Field (names.fields t)) (option_map operand.TheVariants.Of (names.owners t)) o (field_named t o) (owner_named t o)) e
  name_held _ t o e = absurd (none-some o e)

  -- targets are among fewer than 2^32 instructions
  module _ (pieces : List Piece) (few : length pieces < 2 ^ 32) where
    place_held : (t : ℕ) → t < length pieces → is_u32 t ≡ true
    place_held t l = lt_true t 0x100000000 (omega arith)

    operand_held : (k : ℕ) (of : OperandKind) (tail : List ℕ) (o : operand.Operand) → AreBytes tail → length tail ≡ operand_size of tail → SpellsOperand (reading names) pieces k of tail o → is_operand_held o ≡ true
    operand_held k of tail operand.TheVariants.Nothing h s e = refl
    operand_held k of tail (operand.TheVariants.Var n) h s e = subst (λ (m : ℕ). is_u16 m ≡ true) (sym e.1) (var_held of tail h s (sym e.0))
    operand_held k of tail (operand.TheVariants.Int n) h s e = int_held of tail n h s e
    operand_held k of tail (operand.TheVariants.Real n) h s e = subst (λ (m : ℕ). is_u64 m ≡ true) (sym e.1) (real_held of tail h s (sym e.0))
    operand_held k of tail (operand.TheVariants.Target t) h s e = place_held t e.1.there
    operand_held k of tail (operand.TheVariants.Targets ts) h s e =
        by_index is_u32 ts (λ i d l. place_held (get_or ts i d) (subst (λ n. n < length pieces) (get_or_default ts i 0 d l) (e.1.each i l).there))
    operand_held k of tail (operand.TheVariants.Method m) h s e = name_held of (number tail) (operand.TheVariants.Method m) e.named
    operand_held k of tail (operand.TheVariants.Field m) h s e = name_held of (number tail) (operand.TheVariants.Field m) e.named
    operand_held k of tail (operand.TheVariants.Of m) h s e = name_held of (number tail) (operand.TheVariants.Of m) e.named
    operand_held k of tail (operand.TheVariants.Text m) h s e = name_held of (number tail) (operand.TheVariants.Text m) e.named

    handled_held : (row : ClauseRow) (handler : ℕ) (c : handles.ClauseKind) → handler < length pieces → SpellsKind (reading names) pieces row handler c → is_handled_held c ≡ true
    handled_held row handler (handles.TheVariants.Catch o) l s = owner_is_held image names.owners tells.owners row.class_or_filter o s.1
    handled_held row handler (handles.TheVariants.Filter at) l s = let m = s.1 in place_held at (omega arith)
    handled_held row handler handles.TheVariants.Finally l s = refl
    handled_held row handler handles.TheVariants.Fault l s = refl

  locals_held : (token : ℕ) (types : List SigType) → SpellsLocals (reading names) token types → list_all is_type_held types ≡ true
  locals_held token types (inl s) = subst (λ (ts : List SigType). list_all is_type_held ts ≡ true) (sym s.1) refl
  locals_held token types (inr s) = locals_are_held image names tells token types s.1

  module _ (code : List ℕ) (body : Body) (size : ℕ) (are : AreBytes code) (s : Spells (reading names) code body size) where
    few_pieces : length s.pieces < 2 ^ 32
    few_pieces =
        let a = pieces_few s.pieces in
        let b = ap length s.code.cut.whole in
        let c = code_small code are in
        omega arith

    instruction_held : (k : ℕ) (i : Ins) → k < length body.code → is_instruction_held (get_or body.code k i) ≡ true
    unfolding is_instruction_held
    instruction_held k i l =
        let inside : k < length s.pieces = let c = s.code.each.count in omega arith in
        let p = get_or s.pieces k any_piece in
        operand_held s.pieces few_pieces k (kind p.op) p.tail (get_or body.code k i).operand
        (tail_bytes s.pieces k any_piece inside (subst AreBytes s.code.cut.whole (code_bytes code are)))
        (s.code.cut.each k any_piece inside).size (s.code.each.each k any_piece i l).operand

    clause_held : (k : ℕ) (c : Clause) → k < length body.clauses → is_clause_held (get_or body.clauses k c) ≡ true
    unfolding is_clause_held
    clause_held k c l =
        let x = s.clauses.each k any_row c l in
        let before : (get_or body.clauses k c).handler_start < length s.pieces = let a = x.handler_range.some in let b = x.handler_range.inside in omega arith in
        handled_held s.pieces few_pieces (get_or (clause_rows code) k any_row) (get_or body.clauses k c).handler_start (get_or body.clauses k c).kind before x.kind

    pub body_held : is_body_held body ≡ true
    unfolding is_body_held
    body_held =
        let bound = subst (λ (n : ℕ). is_u16 n ≡ true) (sym s.bound) (bound_held code are) in
        let locals = locals_held (locals_token code) body.locals s.locals in
        and_from _ _ (and_from _ _ (and_from _ _ bound locals) (by_index is_instruction_held body.code instruction_held)) (by_index is_clause_held body.clauses clause_held)
