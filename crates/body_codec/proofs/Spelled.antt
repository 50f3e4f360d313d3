-- What is spelled passes every stage of decoding, and is told by its bytes.
use Rattle.std.proofs.Common.{◌≡◌, ◌∙◌, sym, ap, subst, refl, ℕ, ◌<◌, ◌⊎◌, inl, inr, ℤ, pos, true, List, length, slice_index, slice_index_or, Option, Some, arith}
use Rattle.std.proofs.lemmas.Int.{ints}
use Rattle.std.proofs.lemmas.List.{same_lists, get_or_default}
use Rattle.opcode_table.specs.declared.op.Op.{Op}
use Rattle.opcode_table.specs.declared.kind.OperandKind.{OperandKind}
use Rattle.opcode_table.specs.declared.kind.OperandKind.TheVariants as kinds
use Rattle.assembly_tree.specs.declared.body.Ins.{Ins}
use Rattle.assembly_tree.specs.declared.body.Operand as operand
use Rattle.byteorder.specs.Endian.{little_number}
use Rattle.body_codec.specs.Instruction.{Piece, place, kind, number, signed, target_count, displacement}
use Rattle.body_codec.specs.Names.{NameMap, Notation, reading, takes_token, named}
use Rattle.body_codec.specs.Spelling.{Form, nothing, variable, integer, byte, real, target, targets, token, form, LeadsTo, IsInteger, SpellsTargets, SpellsOperand, SpellsIns, SpellsEach}
use Rattle.body_codec.proofs.Places.{place_tells}
use Rattle.body_codec.proofs.Outcomes.{any_piece}

-- ---- kinds and forms

pub form_token : (kd : OperandKind) → takes_token kd ≡ true → form kd ≡ token
form_token kinds.Method e = refl
form_token kinds.Field e = refl
form_token kinds.Of e = refl
form_token kinds.Text e = refl
form_token kinds.Token e = refl
form_token _ e = cc

pub count_form : (kd : OperandKind) (tail : List ℕ) (i : ℕ) → i < target_count kd tail → (form kd ≡ target) ⊎ (form kd ≡ targets)
count_form kinds.Branch8 tail i h = inl refl
count_form kinds.Branch32 tail i h = inl refl
count_form kinds.Switch tail i h = inr refl
count_form _ tail i h = absurd (omega arith)

pub distance_target : (kd : OperandKind) (tail : List ℕ) (i : ℕ) → form kd ≡ target → displacement kd tail i ≡ signed tail
distance_target kinds.Switch tail i e = cc
distance_target _ tail i e = refl

pub kind_targets : (kd : OperandKind) → form kd ≡ targets → kd ≡ kinds.Switch
kind_targets kinds.Switch e = refl
kind_targets _ e = cc

-- ---- operands by their form

pub to_target : (w : Notation) (ps : List Piece) (k : ℕ) (kd : OperandKind) (tail : List ℕ) (o : operand.Operand) → form kd ≡ target → SpellsOperand w ps k kd tail o
    → (t : ℕ) × (o ≡ operand.TheVariants.Target t) × LeadsTo ps k t (signed tail)
to_target w ps k kd tail operand.TheVariants.Nothing e h = let g : nothing ≡ target = sym h ∙ e in cc
to_target w ps k kd tail (operand.TheVariants.Var n) e h = let g : variable ≡ target = sym h.0 ∙ e in cc
to_target w ps k kd tail (operand.TheVariants.Int n) e h = absurd (subst (λ f. IsInteger f tail n) e h)
to_target w ps k kd tail (operand.TheVariants.Real n) e h = let g : real ≡ target = sym h.0 ∙ e in cc
to_target w ps k kd tail (operand.TheVariants.Target t) e h = (t, refl, h.1)
to_target w ps k kd tail (operand.TheVariants.Targets ts) e h = let g : targets ≡ target = sym h.0 ∙ e in cc
to_target w ps k kd tail (operand.TheVariants.Method m) e h = let g : token ≡ target = sym h.formed ∙ e in cc
to_target w ps k kd tail (operand.TheVariants.Field m) e h = let g : token ≡ target = sym h.formed ∙ e in cc
to_target w ps k kd tail (operand.TheVariants.Of m) e h = let g : token ≡ target = sym h.formed ∙ e in cc
to_target w ps k kd tail (operand.TheVariants.Text m) e h = let g : token ≡ target = sym h.formed ∙ e in cc

pub to_targets : (w : Notation) (ps : List Piece) (k : ℕ) (kd : OperandKind) (tail : List ℕ) (o : operand.Operand) → form kd ≡ targets → SpellsOperand w ps k kd tail o
    → (ts : List ℕ) × (o ≡ operand.TheVariants.Targets ts) × SpellsTargets ps k tail ts
to_targets w ps k kd tail operand.TheVariants.Nothing e h = let g : nothing ≡ targets = sym h ∙ e in cc
to_targets w ps k kd tail (operand.TheVariants.Var n) e h = let g : variable ≡ targets = sym h.0 ∙ e in cc
to_targets w ps k kd tail (operand.TheVariants.Int n) e h = absurd (subst (λ f. IsInteger f tail n) e h)
to_targets w ps k kd tail (operand.TheVariants.Real n) e h = let g : real ≡ targets = sym h.0 ∙ e in cc
to_targets w ps k kd tail (operand.TheVariants.Target t) e h = let g : target ≡ targets = sym h.0 ∙ e in cc
to_targets w ps k kd tail (operand.TheVariants.Targets ts) e h = (ts, refl, h.1)
to_targets w ps k kd tail (operand.TheVariants.Method m) e h = let g : token ≡ targets = sym h.formed ∙ e in cc
to_targets w ps k kd tail (operand.TheVariants.Field m) e h = let g : token ≡ targets = sym h.formed ∙ e in cc
to_targets w ps k kd tail (operand.TheVariants.Of m) e h = let g : token ≡ targets = sym h.formed ∙ e in cc
to_targets w ps k kd tail (operand.TheVariants.Text m) e h = let g : token ≡ targets = sym h.formed ∙ e in cc

pub to_token : (w : Notation) (ps : List Piece) (k : ℕ) (kd : OperandKind) (tail : List ℕ) (o : operand.Operand) → form kd ≡ token → SpellsOperand w ps k kd tail o
    → w.operand kd (number tail) o
to_token w ps k kd tail operand.TheVariants.Nothing e h = let g : nothing ≡ token = sym h ∙ e in cc
to_token w ps k kd tail (operand.TheVariants.Var n) e h = let g : variable ≡ token = sym h.0 ∙ e in cc
to_token w ps k kd tail (operand.TheVariants.Int n) e h = absurd (subst (λ f. IsInteger f tail n) e h)
to_token w ps k kd tail (operand.TheVariants.Real n) e h = let g : real ≡ token = sym h.0 ∙ e in cc
to_token w ps k kd tail (operand.TheVariants.Target t) e h = let g : target ≡ token = sym h.0 ∙ e in cc
to_token w ps k kd tail (operand.TheVariants.Targets ts) e h = let g : targets ≡ token = sym h.0 ∙ e in cc
to_token w ps k kd tail (operand.TheVariants.Method m) e h = h.named
to_token w ps k kd tail (operand.TheVariants.Field m) e h = h.named
to_token w ps k kd tail (operand.TheVariants.Of m) e h = h.named
to_token w ps k kd tail (operand.TheVariants.Text m) e h = h.named

-- an operand that is neither a target nor a token
abbrev plain : Form → List ℕ → operand.Operand
plain nothing tail = operand.TheVariants.Nothing
plain variable tail = operand.TheVariants.Var (number tail)
plain integer tail = operand.TheVariants.Int (signed tail)
plain byte tail = operand.TheVariants.Int (pos (number tail))
plain real tail = operand.TheVariants.Real (number tail)
plain target tail = operand.TheVariants.Nothing
plain targets tail = operand.TheVariants.Nothing
plain token tail = operand.TheVariants.Nothing

abbrev IsPlain : Form → Type 0
IsPlain target = ⊥
IsPlain targets = ⊥
IsPlain token = ⊥
IsPlain _ = Unit {0}

int_plain : (f : Form) (tail : List ℕ) (n : ℤ) → IsInteger f tail n → operand.TheVariants.Int n ≡ plain f tail
int_plain integer tail n h = ap operand.TheVariants.Int h
int_plain byte tail n h = ap operand.TheVariants.Int h
int_plain _ tail n h = absurd h

to_plain : (w : Notation) (ps : List Piece) (k : ℕ) (kd : OperandKind) (tail : List ℕ) (o : operand.Operand) → IsPlain (form kd) → SpellsOperand w ps k kd tail o
    → o ≡ plain (form kd) tail
to_plain w ps k kd tail operand.TheVariants.Nothing p h = ap (λ f. plain f tail) (sym h)
to_plain w ps k kd tail (operand.TheVariants.Var n) p h = ap operand.TheVariants.Var h.1 ∙ ap (λ f. plain f tail) (sym h.0)
to_plain w ps k kd tail (operand.TheVariants.Int n) p h = int_plain (form kd) tail n h
to_plain w ps k kd tail (operand.TheVariants.Real n) p h = ap operand.TheVariants.Real h.1 ∙ ap (λ f. plain f tail) (sym h.0)
to_plain w ps k kd tail (operand.TheVariants.Target t) p h = absurd (subst IsPlain h.0 p)
to_plain w ps k kd tail (operand.TheVariants.Targets ts) p h = absurd (subst IsPlain h.0 p)
to_plain w ps k kd tail (operand.TheVariants.Method m) p h = absurd (subst IsPlain h.formed p)
to_plain w ps k kd tail (operand.TheVariants.Field m) p h = absurd (subst IsPlain h.formed p)
to_plain w ps k kd tail (operand.TheVariants.Of m) p h = absurd (subst IsPlain h.formed p)
to_plain w ps k kd tail (operand.TheVariants.Text m) p h = absurd (subst IsPlain h.formed p)

-- ---- what is spelled passes

pub operand_targets : (w : Notation) (ps : List Piece) (k : ℕ) (kd : OperandKind) (tail : List ℕ) (o : operand.Operand) → SpellsOperand w ps k kd tail o
    → (i : ℕ) → i < target_count kd tail → (t : ℕ) × LeadsTo ps k t (displacement kd tail i)
operand_targets w ps k kd tail o h i l =
    elim (count_form kd tail i l) [
      | inl e ↦ let g = to_target w ps k kd tail o e h in (g.0, subst (λ d. LeadsTo ps k g.0 d) (sym (distance_target kd tail i e)) g.2)
      | inr e ↦
          let g = to_targets w ps k kd tail o e h in
          let s = kind_targets kd e in
          let lt : i < length g.0 = let c = g.2.count in let m : i < little_number 4 tail = subst (λ x. i < target_count x tail) s l in omega arith in
          (slice_index g.0 i, subst (λ x. LeadsTo ps k (slice_index g.0 i) (displacement x tail i)) (sym s) (g.2.each i lt))
    ]

pub operand_name : (names : NameMap) (ps : List Piece) (k : ℕ) (kd : OperandKind) (tail : List ℕ) (o : operand.Operand) → SpellsOperand (reading names) ps k kd tail o
    → takes_token kd ≡ true → named names kd (number tail) ≡ Some o
operand_name names ps k kd tail o h e = to_token (reading names) ps k kd tail o (form_token kd e) h

-- ---- and is told

leads_tell : (ps : List Piece) (k t u : ℕ) (d : ℤ) → LeadsTo ps k t d → LeadsTo ps k u d → t ≡ u
leads_tell ps k t u d a b =
    let e = a.distance_is in
    let f = b.distance_is in
    let at = a.there in
    let bt = b.there in
    let same : place ps t ≡ place ps u = omega (arith, ints) in
    place_tells ps t u (omega arith) (omega arith) same

targets_tell : (ps : List Piece) (k : ℕ) (tail : List ℕ) (ts us : List ℕ) → SpellsTargets ps k tail ts → SpellsTargets ps k tail us → ts ≡ us
targets_tell ps k tail ts us a b =
    let ca = a.count in
    let cb = b.count in
    same_lists ts us (omega arith) (λ i d h.
    get_or_default ts i d 0 h ∙ (leads_tell ps k (slice_index ts i) (slice_index us i) _ (a.each i h) (b.each i (omega arith))
    ∙ get_or_default us i 0 d (omega arith)))

pub some_tells : {X : Type 0} (o : Option X) (x y : X) → o ≡ Some x → o ≡ Some y → x ≡ y
some_tells o x y e f = let g : Some x ≡ Some y = sym e ∙ f in cc

operand_by_form : (names : NameMap) (ps : List Piece) (k : ℕ) (kd : OperandKind) (tail : List ℕ) (o u : operand.Operand) (f : Form) → form kd ≡ f
    → SpellsOperand (reading names) ps k kd tail o → SpellsOperand (reading names) ps k kd tail u → o ≡ u
operand_by_form names ps k kd tail o u target e h g =
    let a = to_target (reading names) ps k kd tail o e h in
    let b = to_target (reading names) ps k kd tail u e g in
    a.1 ∙ (ap operand.TheVariants.Target (leads_tell ps k a.0 b.0 (signed tail) a.2 b.2) ∙ sym b.1)
operand_by_form names ps k kd tail o u targets e h g =
    let a = to_targets (reading names) ps k kd tail o e h in
    let b = to_targets (reading names) ps k kd tail u e g in
    a.1 ∙ (ap operand.TheVariants.Targets (targets_tell ps k tail a.0 b.0 a.2 b.2) ∙ sym b.1)
operand_by_form names ps k kd tail o u token e h g =
    some_tells (named names kd (number tail)) o u (to_token (reading names) ps k kd tail o e h) (to_token (reading names) ps k kd tail u e g)
operand_by_form names ps k kd tail o u nothing e h g =
    let p = subst IsPlain (sym e) tt in to_plain (reading names) ps k kd tail o p h ∙ sym (to_plain (reading names) ps k kd tail u p g)
operand_by_form names ps k kd tail o u variable e h g =
    let p = subst IsPlain (sym e) tt in to_plain (reading names) ps k kd tail o p h ∙ sym (to_plain (reading names) ps k kd tail u p g)
operand_by_form names ps k kd tail o u integer e h g =
    let p = subst IsPlain (sym e) tt in to_plain (reading names) ps k kd tail o p h ∙ sym (to_plain (reading names) ps k kd tail u p g)
operand_by_form names ps k kd tail o u byte e h g =
    let p = subst IsPlain (sym e) tt in to_plain (reading names) ps k kd tail o p h ∙ sym (to_plain (reading names) ps k kd tail u p g)
operand_by_form names ps k kd tail o u real e h g =
    let p = subst IsPlain (sym e) tt in to_plain (reading names) ps k kd tail o p h ∙ sym (to_plain (reading names) ps k kd tail u p g)

ins_tell : (names : NameMap) (ps : List Piece) (k : ℕ) (p : Piece) (i j : Ins) → SpellsIns (reading names) ps k p i → SpellsIns (reading names) ps k p j → i ≡ j
ins_tell names ps k p i j a b =
    let op : i.op ≡ j.op = sym a.op ∙ b.op in
    let same = operand_by_form names ps k (kind p.op) p.tail i.operand j.operand (form (kind p.op)) refl a.operand b.operand in
    ap (λ (x : Op). let r : Ins = record { op = x; operand = i.operand } in r) op ∙ ap (λ (y : operand.Operand). let r : Ins = record { op = j.op; operand = y } in r) same

pub code_tells : (names : NameMap) (ps : List Piece) (code other : List Ins) → SpellsEach (reading names) ps code → SpellsEach (reading names) ps other → code ≡ other
code_tells names ps code other a b =
    let ca = a.count in
    let cb = b.count in
    same_lists code other (omega arith) (λ k d h. ins_tell names ps k (slice_index_or ps k any_piece) (slice_index_or code k d) (slice_index_or other k d) (a.each k any_piece d h) (b.each k any_piece d (omega arith)))
