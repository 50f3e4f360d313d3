-- What was read of each instruction, and one more.
use Rattle.std.proofs.Common.{◌≡◌, ◌∙◌, sym, ap, subst, refl, ℕ, ◌+◌, ◌<◌, Bool, true, false, List, [], ◌∷◌, ◌++◌, length, slice_index_or, Option, None, Some, Result, Ok, Err, IfOk, ok_or, option_map, arith}
use Rattle.std.specs.Option.{option_or}
use Rattle.std.proofs.lemmas.Bool.{false≢true}
use Rattle.std.proofs.lemmas.Option.{none-some, same_Some}
use Rattle.byteorder.specs.Endian.{little_number}
use Rattle.opcode_table.specs.declared.kind.OperandKind.{OperandKind}
use Rattle.opcode_table.specs.declared.kind.OperandKind.TheVariants as kinds
use Rattle.std.proofs.lemmas.List.{length-append}
use Rattle.opcode_table.specs.declared.op.Op.TheVariants as ops
use Rattle.assembly_tree.specs.declared.body.Ins.{Ins}
use Rattle.assembly_tree.specs.declared.body.Operand as operand
use Rattle.body_codec.specs.declared.fault.BodyFault.{BodyFault}
use Rattle.body_codec.specs.declared.fault.BodyFault.TheVariants as faults
use Rattle.body_codec.specs.declared.decoding.marks.Mark.{Mark}
use Rattle.body_codec.specs.Instruction.{Piece, operand_size, place, kind, number}
use Rattle.body_codec.specs.Names.{NameMap, Notation, reading, named}
use Rattle.body_codec.specs.Spelling.{token, form, SpellsToken, SpellsOperand, SpellsIns, SpellsEach}
use Rattle.body_codec.specs.Faults.{HasTargets, HaveTargets, IsUnnamed, HaveNames}
use Rattle.body_codec.specs.Reading.{piece_of, pieces_of, AreMarks, IsAimed, IsTokenAt, IsNameFault}
use Rattle.body_codec.proofs.Places.{count_is}
use Rattle.body_codec.proofs.Spelled.{operand_name}
use Rattle.body_codec.proofs.Marks.{each_push}
use Rattle.body_codec.proofs.Targets.{piece_at}

-- the first k instructions
pub record SpellsTo (w : Notation) (ps : List Piece) (code : List Ins) (k : ℕ) : Type 0 where
  pub count : length code ≡ k
  pub each : (j : ℕ) (p : Piece) (i : Ins) → j < k → SpellsIns w ps j (slice_index_or ps j p) (slice_index_or code j i)

pub spells_none : (w : Notation) (ps : List Piece) → SpellsTo w ps [] 0
spells_none w ps = record { count = refl; each = λ j p i h. absurd (omega arith) }

pub spells_more : (w : Notation) (ps : List Piece) (code : List Ins) (k : ℕ) (ins : Ins) → SpellsTo w ps code k
    → ((p : Piece) → SpellsIns w ps k (slice_index_or ps k p) ins) → SpellsTo w ps (code ++ ins ∷ []) (k + 1)
spells_more w ps code k ins t h = record {
  count = let l = length-append code (ins ∷ []) in let c = t.count in omega arith;
  each = λ j p i l. each_push (λ n x. SpellsIns w ps n (slice_index_or ps n p) x) code ins k t.count (λ n d m. t.each n p d m) (h p) j i l;
}

pub spells_all : (w : Notation) (ps : List Piece) (code : List Ins) (k : ℕ) → SpellsTo w ps code k → k ≡ length ps → SpellsEach w ps code
spells_all w ps code k t e = record {
  count = let c = t.count in omega arith;
  each = λ j p i l. t.each j p i (let c = t.count in omega arith);
}

-- names of what was read
pub names_to : (names : NameMap) (ps : List Piece) (code : List Ins) (k : ℕ) (i : Ins) → SpellsTo (reading names) ps code k → HaveNames names ps k
names_to names ps code k i t j p h e =
    let s = t.each j p i h in
    let q = slice_index_or ps j p in
    ((slice_index_or code j i).operand, operand_name names ps j (kind q.op) q.tail (slice_index_or code j i).operand s.operand e)

-- ---- with marks

pub aimed_at : (code : List ℕ) (marks : List Mark) (k : ℕ) (m : Mark) → AreMarks code marks → k < length marks → HaveTargets (pieces_of code marks) (length marks)
    → IsAimed (pieces_of code marks) (slice_index_or marks k m) (piece_of code (slice_index_or marks k m))
aimed_at code marks k m w l h = record {
  k = k;
  ends = sym (w.ends k m l);
  targets =
      let p = piece_of code m in
      let P : Piece → Type 0 = HasTargets (pieces_of code marks) k in
      subst P (piece_at code marks k m p l) (h k p l);
}

pub code_more : (w : Notation) (code : List ℕ) (marks : List Mark) (ins : List Ins) (k : ℕ) (m : Mark) (o : operand.Operand) → AreMarks code marks → k < length marks
    → SpellsTo w (pieces_of code marks) ins k
    → ((j : ℕ) → place (pieces_of code marks) (j + 1) ≡ (slice_index_or marks k m).end
    → SpellsOperand w (pieces_of code marks) j (kind (slice_index_or marks k m).op) (piece_of code (slice_index_or marks k m)).tail o)
    → SpellsTo w (pieces_of code marks) (ins ++ record { op = (slice_index_or marks k m).op; operand = o } ∷ []) (k + 1)
code_more w code marks ins k m o a l t h =
    let ps = pieces_of code marks in
    let i : Ins = record { op = (slice_index_or marks k m).op; operand = o } in
    let P : Piece → Type 0 = λ p. SpellsIns w ps k p i in
    spells_more w ps ins k i t (λ p. subst P (sym (piece_at code marks k m p l)) (record { op = refl; operand = h k (sym (a.ends k m l)) }))

pub code_fault : (names : NameMap) (code : List ℕ) (marks : List Mark) (ins : List Ins) (k : ℕ) (m : Mark) (any : Ins) (f : BodyFault) → AreMarks code marks → k < length marks
    → SpellsTo (reading names) (pieces_of code marks) ins k → IsTokenAt names (piece_of code (slice_index_or marks k m)) (slice_index_or marks k m).start f
    → IsNameFault names (pieces_of code marks) f
code_fault names code marks ins k m any (faults.Token offset) a l t h = record {
  k = k;
  within = let c = count_is code marks in omega arith;
  at = h.0 ∙ a.starts k m l;
  before = names_to names (pieces_of code marks) ins k any t;
  unnamed = λ p. let P : Piece → Type 0 = IsUnnamed names in subst P (sym (piece_at code marks k m p l)) h.1;
}
code_fault names code marks ins k m any faults.NoMemory a l t h = tt
code_fault names code marks ins k m any faults.Header a l t h = absurd h
code_fault names code marks ins k m any (faults.Far n) a l t h = absurd h
code_fault names code marks ins k m any (faults.Opcode n) a l t h = absurd h
code_fault names code marks ins k m any (faults.Cut n) a l t h = absurd h
code_fault names code marks ins k m any (faults.Target n) a l t h = absurd h
code_fault names code marks ins k m any (faults.Range n) a l t h = absurd h

pub any_ins : Ins
any_ins = record { op = ops.Nop; operand = operand.TheVariants.Nothing }

-- ---- tokens

abbrev is_name : operand.Operand → Bool
is_name (operand.TheVariants.Method m) = true
is_name (operand.TheVariants.Field f) = true
is_name (operand.TheVariants.Of o) = true
is_name (operand.TheVariants.Text u) = true
is_name operand.TheVariants.Nothing = false
is_name (operand.TheVariants.Var n) = false
is_name (operand.TheVariants.Int n) = false
is_name (operand.TheVariants.Real n) = false
is_name (operand.TheVariants.Target n) = false
is_name (operand.TheVariants.Targets n) = false

map_name : {V : Type 0} (f : V → operand.Operand) → ((v : V) → is_name (f v) ≡ true) → (x : Option V) (o : operand.Operand) → option_map f x ≡ Some o → is_name o ≡ true
map_name f h None o e = absurd (none-some o e)
map_name f h (Some v) o e = subst (λ y. is_name y ≡ true) (same_Some (f v) o e) (h v)

or_name : (a b : Option operand.Operand) (o : operand.Operand) → (a ≡ Some o → is_name o ≡ true) → (b ≡ Some o → is_name o ≡ true) → option_or a b ≡ Some o → is_name o ≡ true
or_name None b o f g e = g e
or_name (Some x) b o f g e = f e

named_name : (names : NameMap) (kd : OperandKind) (t : ℕ) (o : operand.Operand) → named names kd t ≡ Some o → is_name o ≡ true
named_name names kinds.Method t o e = map_name operand.TheVariants.Method (λ v. refl) (names.methods t) o e
named_name names kinds.Field t o e = map_name operand.TheVariants.Field (λ v. refl) (names.fields t) o e
named_name names kinds.Of t o e = map_name operand.TheVariants.Of (λ v. refl) (names.owners t) o e
named_name names kinds.Text t o e = map_name operand.TheVariants.Text (λ v. refl) (names.texts t) o e
named_name names kinds.Token t o e =
    or_name (option_map operand.TheVariants.Method (names.methods t)) (option_or (option_map operand.TheVariants.Field (names.fields t)) (option_map operand.TheVariants.Of (names.owners t))) o
    (map_name operand.TheVariants.Method (λ v. refl) (names.methods t) o)
    (or_name (option_map operand.TheVariants.Field (names.fields t)) (option_map operand.TheVariants.Of (names.owners t)) o
    (map_name operand.TheVariants.Field (λ v. refl) (names.fields t) o) (map_name operand.TheVariants.Of (λ v. refl) (names.owners t) o)) e
named_name names _ t o e = absurd (none-some o e)

named_formed : (names : NameMap) (kd : OperandKind) (t : ℕ) (o : operand.Operand) → named names kd t ≡ Some o → form kd ≡ token
named_formed names kinds.Method t o e = refl
named_formed names kinds.Field t o e = refl
named_formed names kinds.Of t o e = refl
named_formed names kinds.Text t o e = refl
named_formed names kinds.Token t o e = refl
named_formed names _ t o e = absurd (none-some o e)

form_size : (kd : OperandKind) (tail : List ℕ) → form kd ≡ token → operand_size kd tail ≡ 4
form_size kinds.Method tail e = refl
form_size kinds.Field tail e = refl
form_size kinds.Of tail e = refl
form_size kinds.Text tail e = refl
form_size kinds.Token tail e = refl
form_size _ tail e = cc

name_spelled : (w : Notation) (ps : List Piece) (k : ℕ) (kd : OperandKind) (tail : List ℕ) (o : operand.Operand) → is_name o ≡ true → SpellsToken w kd tail o → SpellsOperand w ps k kd tail o
name_spelled w ps k kd tail (operand.TheVariants.Method m) e h = h
name_spelled w ps k kd tail (operand.TheVariants.Field m) e h = h
name_spelled w ps k kd tail (operand.TheVariants.Of m) e h = h
name_spelled w ps k kd tail (operand.TheVariants.Text m) e h = h
name_spelled w ps k kd tail operand.TheVariants.Nothing e h = absurd (false≢true e)
name_spelled w ps k kd tail (operand.TheVariants.Var n) e h = absurd (false≢true e)
name_spelled w ps k kd tail (operand.TheVariants.Int n) e h = absurd (false≢true e)
name_spelled w ps k kd tail (operand.TheVariants.Real n) e h = absurd (false≢true e)
name_spelled w ps k kd tail (operand.TheVariants.Target n) e h = absurd (false≢true e)
name_spelled w ps k kd tail (operand.TheVariants.Targets n) e h = absurd (false≢true e)

-- what a token names, where its operand was read
pub token_spelled : (names : NameMap) (ps : List Piece) (kd d : OperandKind) (tail : List ℕ) (end t : ℕ) (name : Option operand.Operand) (fault : BodyFault) (r : Result operand.Operand BodyFault)
    → length tail ≡ operand_size kd tail → d ≡ kd → t ≡ little_number 4 tail → name ≡ named names d t → r ≡ ok_or name fault
    → IfOk r (λ o. (k : ℕ) → place ps (k + 1) ≡ end → SpellsOperand (reading names) ps k kd tail o)
token_spelled names ps kd d tail end t None fault (Ok o) size same number name e = let f : Ok o ≡ Err fault = e in cc
token_spelled names ps kd d tail end t (Some x) fault (Ok o) size same is_number name e = λ k h.
    let f : Ok o ≡ Ok x = e in
    let g : x ≡ o = cc in
    let n : named names kd t ≡ Some o = ap (λ y. named names y t) (sym same) ∙ (sym name ∙ ap Some g) in
    let formed = named_formed names kd t o n in
    let four : length tail ≡ 4 = size ∙ form_size kd tail formed in
    let whole : number tail ≡ t = ap (λ y. little_number y tail) four ∙ sym is_number in
    name_spelled (reading names) ps k kd tail o (named_name names kd t o n) (record { formed = formed; named = ap (λ y. named names kd y) whole ∙ n })
token_spelled names ps kd d tail end t name fault (Err f) size same is_number named e = tt
