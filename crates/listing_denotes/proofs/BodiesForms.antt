-- Each instruction of a body breaks no rule by itself: its number, its variable or its real number fits its operand.
use Rattle.std.proofs.Common.{◌≡◌, ℕ, ◌+◌, ◌<◌, ◌≤◌, ◌^◌, ◌&&◌, not, nat_eq, nat_le, Bool, true, false, cond, if◌then◌else◌, ℤ, pos, List, [], ◌∷◌, ◌++◌, take, refl, ap, sym, subst, ◌∙◌, arith}
use Rattle.std.proofs.lemmas.Bool.{false≢true, leb-true, ltb-true}
use Rattle.std.specs.List.{list_all, flat_map}
use Rattle.std.specs.Prelude.{⊤, is_some}
use Rattle.il_lexer.specs.declared.word.TheConstants as word
use Rattle.ilasm_grammar.specs.Ilasm.{ilasm, rule_by, has_bit}
use Rattle.ilasm_grammar.specs.declared.nonterminals.TheConstants as n
use Rattle.ilasm_grammar.specs.declared.productions.TheConstants as p
use Rattle.opcode_table.specs.Opcodes.{kind_of}
use Rattle.opcode_table.specs.declared.kind.OperandKind.{OperandKind}
use Rattle.opcode_table.specs.declared.kind.OperandKind.TheVariants as form
use Rattle.opcode_table.specs.declared.op.Op.{Op}
use Rattle.type_terms.specs.declared.term.Primitive.TheVariants as prim
use Rattle.assembly_tree.specs.WellFormedBodies.{operand_kind, fits_kind}
use Rattle.assembly_tree.specs.declared.assembly.Assembly.{Assembly}
use Rattle.assembly_tree.specs.declared.body.Ins.{Ins}
use Rattle.assembly_tree.specs.declared.body.Operand as operand
use Rattle.source_model.specs.BodyFaults.{label_names_in, variable_undeclared}
use Rattle.source_model.specs.BodyNumbers as range
use Rattle.source_model.specs.BodyNumbers.{number_out_of_range, real_out_of_range, real_bits_out_of_range, real_width, greatest_variable, variable_out_of_range}
use Rattle.source_model.specs.Forest as f
use Rattle.source_model.specs.Instructions.{instruction_forms, op_of, is_label, targets}
use Rattle.source_model.specs.OutOfRange.{fits_width}
use Rattle.source_model.specs.Source.{Source}
use Rattle.source_model.specs.TypeRules.{is_within, unless}
use Rattle.source_model.specs.Values.{or_zero, int_at, integer}
use Rattle.source_model.specs.Variables.{variable_number, variable_named, variable_token}
use Rattle.listing_constants.specs.Laws.{ConstantsAreRead}
use Rattle.listing_growth.specs.Held.{is_i64, is_operand_held}
use Rattle.listing_leaves.specs.Numbers as numbers
use Rattle.listing_model.specs.Bodies as written
use Rattle.listing_model.specs.Bodies.{is_token, is_short_real}
use Rattle.listing_model.specs.Grown.{body_of, Grows}
use Rattle.listing_model.specs.Shown.{Shown, none, Item, item, put, w}
use Rattle.listing_reading.specs.Below.{below, cant_stand, cant_lead}
use Rattle.listing_reading.specs.BelowMasks.{below_masks}
use Rattle.listing_reading.specs.Laws.{SearchesPass}
use Rattle.listing_reading.specs.Numbered.{numbered, Agrees}
use Rattle.listing_values.specs.Laws.{NumbersAreRead}
use Rattle.listing_denotes.proofs.ValuesFlags.{within, unless_none}

-- what holds the names of labels
abbrev pub name_parts : List ℕ
name_parts = p.INSTRUCTION_OP_BRANCH ∷ p.INSTRUCTION_SWITCH ∷ p.TRY_RANGE_NAME ∷ p.HANDLER_HANDLER ∷ p.FILTER_START_NAME ∷ []

-- bits of real numbers
abbrev real_parts : List ℕ
real_parts = p.REAL_BITS_FLOAT32 ∷ p.REAL_BITS_FLOAT64 ∷ p.REAL_BITS_REAL_BYTES ∷ []

-- each name of a label in these is that of one of the method's
abbrev pub NamesKnown : Source → f.Forest → List f.Part → Type 0
NamesKnown s method [] = ⊤
NamesKnown s method (q ∷ qs) = (list_all (is_label s method) (label_names_in q) ≡ true) × NamesKnown s method qs

-- an instruction by itself
pub record IsPlain (s : Source) (method : f.Forest) (q : f.Part) : Type 0 where
  pub number : nat_eq q.production p.INSTRUCTION_OP_NUM ≡ true → number_out_of_range s q ≡ []
  pub real : nat_eq q.production p.INSTRUCTION_OP_REAL ≡ true → real_out_of_range s q ≡ []
  pub declared : nat_eq q.production p.INSTRUCTION_OP_VAR ≡ true → variable_undeclared s method q ≡ []
  pub variable : nat_eq q.production p.INSTRUCTION_OP_VAR ≡ true → variable_out_of_range s method q ≡ []
  pub names : list_all (is_label s method) (targets q) ≡ true → NamesKnown s method (f.parts name_parts (f.branch q.production q.below f.none))

-- ---- forms in which nothing is asked

pub record IsOther (q : ℕ) : Type 0 where
  pub no_number : nat_eq q p.INSTRUCTION_OP_NUM ≡ false
  pub no_real : nat_eq q p.INSTRUCTION_OP_REAL ≡ false
  pub no_variable : nat_eq q p.INSTRUCTION_OP_VAR ≡ false

-- and forms that hold no name of a label
pub record IsNameless (q : ℕ) : Type 0 where
  pub own : f.is_among name_parts q ≡ false
  pub inside : cant_stand name_parts (body_of q) ≡ true

nothing_other : IsOther p.INSTRUCTION_OP_NONE
nothing_other = record { no_number = refl; no_real = refl; no_variable = refl }

branch_other : IsOther p.INSTRUCTION_OP_BRANCH
branch_other = record { no_number = refl; no_real = refl; no_variable = refl }

switch_other : IsOther p.INSTRUCTION_SWITCH
switch_other = record { no_number = refl; no_real = refl; no_variable = refl }

method_other : IsOther p.INSTRUCTION_OP_METHOD
method_other = record { no_number = refl; no_real = refl; no_variable = refl }

field_other : IsOther p.INSTRUCTION_OP_FIELD
field_other = record { no_number = refl; no_real = refl; no_variable = refl }

type_other : IsOther p.INSTRUCTION_OP_TYPE
type_other = record { no_number = refl; no_real = refl; no_variable = refl }

text_other : IsOther p.INSTRUCTION_LDSTR
text_other = record { no_number = refl; no_real = refl; no_variable = refl }

token_other : IsOther p.INSTRUCTION_LDTOKEN
token_other = record { no_number = refl; no_real = refl; no_variable = refl }

nothing_nameless : IsNameless p.INSTRUCTION_OP_NONE
unfolding ilasm rule_by has_bit below below_masks
nothing_nameless = record { own = refl; inside = refl }

variable_nameless : IsNameless p.INSTRUCTION_OP_VAR
unfolding ilasm rule_by has_bit below below_masks
variable_nameless = record { own = refl; inside = refl }

number_nameless : IsNameless p.INSTRUCTION_OP_NUM
unfolding ilasm rule_by has_bit below below_masks
number_nameless = record { own = refl; inside = refl }

real_nameless : IsNameless p.INSTRUCTION_OP_REAL
unfolding ilasm rule_by has_bit below below_masks
real_nameless = record { own = refl; inside = refl }

method_nameless : IsNameless p.INSTRUCTION_OP_METHOD
unfolding ilasm rule_by has_bit below below_masks
method_nameless = record { own = refl; inside = refl }

field_nameless : IsNameless p.INSTRUCTION_OP_FIELD
unfolding ilasm rule_by has_bit below below_masks
field_nameless = record { own = refl; inside = refl }

type_nameless : IsNameless p.INSTRUCTION_OP_TYPE
unfolding ilasm rule_by has_bit below below_masks
type_nameless = record { own = refl; inside = refl }

text_nameless : IsNameless p.INSTRUCTION_LDSTR
unfolding ilasm rule_by has_bit below below_masks
text_nameless = record { own = refl; inside = refl }

token_nameless : IsNameless p.INSTRUCTION_LDTOKEN
unfolding ilasm rule_by has_bit below below_masks
token_nameless = record { own = refl; inside = refl }

no_name_before : cant_stand (p.INDEX_NAME ∷ []) (take 1 (body_of p.INSTRUCTION_OP_VAR)) ≡ true
unfolding ilasm rule_by has_bit below below_masks
no_name_before = refl

no_number_before : cant_stand (p.INDEX_INT ∷ []) (take 1 (body_of p.INSTRUCTION_OP_VAR)) ≡ true
unfolding ilasm rule_by has_bit below below_masks
no_number_before = refl

index_leads : cant_lead (p.INDEX_INT ∷ p.INDEX_NAME ∷ []) (take 1 (body_of p.INSTRUCTION_OP_VAR)) ≡ true
unfolding ilasm rule_by
index_leads = refl

no_bits_before : cant_stand (p.REAL_BITS_FLOAT32 ∷ p.REAL_BITS_FLOAT64 ∷ p.REAL_BITS_REAL_BYTES ∷ []) (take 1 (body_of p.INSTRUCTION_OP_REAL)) ≡ true
unfolding ilasm rule_by has_bit below below_masks
no_bits_before = refl

-- ---- numbers that fit

byte_fits : (z : ℤ) → fits_kind form.Byte (operand.TheVariants.Int z) ≡ true → range.fits_kind form.Byte z ≡ true
byte_fits z h = h

num_8_fits : (z : ℤ) → fits_kind form.Num8 (operand.TheVariants.Int z) ≡ true → fits_width 8 z ≡ true
num_8_fits z h = grind (arith, h)

num_32_fits : (z : ℤ) → fits_kind form.Num32 (operand.TheVariants.Int z) ≡ true → fits_width 32 z ≡ true
num_32_fits z h = grind (arith, h)

num_64_fits : (z : ℤ) → is_i64 z ≡ true → fits_width 64 z ≡ true
num_64_fits z h = grind (arith, h)

bits_4_fit : (k : ℕ) → k < 0x100000000 → fits_width 32 (pos k) ≡ true
bits_4_fit k h = grind (arith, h)

bits_8_fit : (k : ℕ) → k < 0x10000000000000000 → fits_width 64 (pos k) ≡ true
bits_8_fit k h = grind (arith, h)

small_16 : (k : ℕ) → k < 0x10000 → k < 2 ^ 128
small_16 k h = omega arith

small_32 : (k : ℕ) → k < 0x100000000 → k < 2 ^ 128
small_32 k h = omega arith

small_64 : (k : ℕ) → k < 0x10000000000000000 → k < 2 ^ 128
small_64 k h = omega arith

four_bytes : (k : ℕ) → nat_le k 0xFFFFFFFF ≡ true → k < 0x100000000
four_bytes k h = let low = leb-true k 0xFFFFFFFF h in omega arith

two_bytes : (k : ℕ) → k < 0x10000 → k ≤ 0xFFFF
two_bytes k h = omega arith

-- an instruction by the form of its operand
abbrev pub by_form : Assembly → List Ins → Op → OperandKind → operand.Operand → Item
by_form a code op k o =
    cond (is_token k) (item p.INSTRUCTION_LDTOKEN (w word.LDTOKEN (put (written.token_item a.externs code o) none))) (written.operand_item a.externs code op o)

-- it is an instruction
pub form_among : (a : Assembly) (code : List Ins) (op : Op) (k : OperandKind) (o : operand.Operand) → fits_kind k o ≡ true → f.is_among instruction_forms (by_form a code op k o).production ≡ true
form_among a code op form.Nothing operand.TheVariants.Nothing h = refl
form_among a code op form.Var8 (operand.TheVariants.Var v) h = refl
form_among a code op form.Var16 (operand.TheVariants.Var v) h = refl
form_among a code op form.Num8 (operand.TheVariants.Int z) h = refl
form_among a code op form.Num32 (operand.TheVariants.Int z) h = refl
form_among a code op form.Num64 (operand.TheVariants.Int z) h = refl
form_among a code op form.Byte (operand.TheVariants.Int z) h = refl
form_among a code op form.Real4 (operand.TheVariants.Real bits) h = refl
form_among a code op form.Real8 (operand.TheVariants.Real bits) h = refl
form_among a code op form.Branch8 (operand.TheVariants.Target j) h = refl
form_among a code op form.Branch32 (operand.TheVariants.Target j) h = refl
form_among a code op form.Switch (operand.TheVariants.Targets js) h = refl
form_among a code op form.Method (operand.TheVariants.Method x) h = refl
form_among a code op form.Field (operand.TheVariants.Field x) h = refl
form_among a code op form.Of (operand.TheVariants.Of x) h = refl
form_among a code op form.Text (operand.TheVariants.Text us) h = refl
form_among a code op form.Token (operand.TheVariants.Method x) h = refl
form_among a code op form.Token (operand.TheVariants.Field x) h = refl
form_among a code op form.Token (operand.TheVariants.Of x) h = refl
form_among a code op k o h = absurd (false≢true h)

module _ (laws : NumbersAreRead) (constants : ConstantsAreRead) (searches : SearchesPass) (s : Source) (method : f.Forest) (a : Assembly) (code : List Ins) where
  abbrev q_at : Item → ℕ → f.Part
  q_at i at = f.part i.production (numbered at i.below)

  abbrev Plain : Item → Op → Type 0
  Plain i op = (at : ℕ) → Grows (body_of i.production) i.below → Agrees s at i.below → op_of s (q_at i at) ≡ op → IsPlain s method (q_at i at)

  nameless : (q : ℕ) → IsNameless q → (g : Shown) → Grows (body_of q) g → (at : ℕ) → NamesKnown s method (f.parts name_parts (f.branch q (numbered at g) f.none))
  nameless q h g grown at =
      let b = numbered at g in
      let own : f.parts name_parts (f.branch q b f.none) ≡ [] =
      ap (λ (c : Bool). (if c then f.part q b ∷ [] else f.parts name_parts b) ++ []) h.own ∙ ap (λ (ps : List f.Part). ps ++ []) (searches.nothing name_parts (body_of q) h.inside g grown at) in
      subst (NamesKnown s method) (sym own) tt

  other : (q : ℕ) → IsOther q → IsNameless q → (g : Shown) → Grows (body_of q) g → (at : ℕ) → IsPlain s method (f.part q (numbered at g))
  other q h nameless_here g grown at = record {
    number = λ e. absurd (false≢true (sym h.no_number ∙ e));
    real = λ e. absurd (false≢true (sym h.no_real ∙ e));
    declared = λ e. absurd (false≢true (sym h.no_variable ∙ e));
    variable = λ e. absurd (false≢true (sym h.no_variable ∙ e));
    names = λ e. nameless q nameless_here g grown at;
  }

  branch_plain : (b : f.Forest) → IsPlain s method (f.part p.INSTRUCTION_OP_BRANCH b)
  branch_plain b = record {
    number = λ e. absurd (false≢true e);
    real = λ e. absurd (false≢true e);
    declared = λ e. absurd (false≢true e);
    variable = λ e. absurd (false≢true e);
    names = λ e. (e, tt);
  }

  switch_plain : (b : f.Forest) → IsPlain s method (f.part p.INSTRUCTION_SWITCH b)
  switch_plain b = record {
    number = λ e. absurd (false≢true e);
    real = λ e. absurd (false≢true e);
    declared = λ e. absurd (false≢true e);
    variable = λ e. absurd (false≢true e);
    names = λ e. (e, tt);
  }

  -- ---- numbers

  number_plain : (op : Op) (k : OperandKind) (z : ℤ) → operand_kind op ≡ k → integer (numbers.integer z) ≡ z → range.fits_kind k z ≡ true → Plain (written.operand_item a.externs code op (operand.TheVariants.Int z)) op
  number_plain op k z of_kind back fits at grown ag said =
      let own = written.operand_item a.externs code op (operand.TheVariants.Int z) in
      let kind_is = ap operand_kind said ∙ of_kind in
      let value : int_at s (at + 1) ≡ z = ap (λ t. integer t) ag.1.0.text ∙ back in
      let right : number_out_of_range s (q_at own at) ≡ [] =
      ap (λ (j : OperandKind). unless (range.fits_kind j) s (at + 1)) kind_is ∙ unless_none (range.fits_kind k) s (at + 1) z value fits in
      record {
        number = λ e. right;
        real = λ e. absurd (false≢true e);
        declared = λ e. absurd (false≢true e);
        variable = λ e. absurd (false≢true e);
        names = λ e. nameless p.INSTRUCTION_OP_NUM number_nameless own.below grown at;
      }

  integer_back : (k : OperandKind) (z : ℤ) → fits_kind k (operand.TheVariants.Int z) ≡ true → is_i64 z ≡ true → (integer (numbers.integer z) ≡ z) × (range.fits_kind k z ≡ true)
  integer_back form.Num8 z h l = (laws.integer z (constants.small prim.I1 z h), num_8_fits z h)
  integer_back form.Num32 z h l = (laws.integer z (constants.small prim.I4 z h), num_32_fits z h)
  integer_back form.Num64 z h l = (laws.integer z (constants.small prim.I8 z l), num_64_fits z l)
  integer_back form.Byte z h l = (laws.integer z (constants.small prim.U1 z h), byte_fits z h)
  integer_back k z h l = absurd (false≢true h)

  number_form : (op : Op) (k : OperandKind) (z : ℤ) → operand_kind op ≡ k → fits_kind k (operand.TheVariants.Int z) ≡ true → is_i64 z ≡ true → Plain (written.operand_item a.externs code op (operand.TheVariants.Int z)) op
  number_form op k z e h l = let back = integer_back k z h l in number_plain op k z e back.0 back.1

  -- ---- variables

  variable_plain : (op : Op) (j : OperandKind) (k : ℕ) → operand_kind op ≡ j → k < 0x10000 → k ≤ greatest_variable j → Plain (written.operand_item a.externs code op (operand.TheVariants.Var k)) op
  unfolding ilasm rule_by
  variable_plain op j k of_kind small fits at grown ag said =
      let shown = (written.operand_item a.externs code op (operand.TheVariants.Var k)).below in
      let q = f.part p.INSTRUCTION_OP_VAR (numbered at shown) in
      let kind_is = ap operand_kind said ∙ of_kind in
      let unnamed : f.has p.INDEX_NAME q.below ≡ false = ap f.is_any_part (searches.parts (p.INDEX_NAME ∷ []) 1 (body_of p.INSTRUCTION_OP_VAR) no_name_before shown grown at) in
      let numbered_so : f.has p.INDEX_INT q.below ≡ true = ap f.is_any_part (searches.parts (p.INDEX_INT ∷ []) 1 (body_of p.INSTRUCTION_OP_VAR) no_number_before shown grown at) in
      let token_is : variable_token q ≡ at + 1 = ap (f.leaf_at 0) (searches.child (p.INDEX_INT ∷ p.INDEX_NAME ∷ []) 1 (body_of p.INSTRUCTION_OP_VAR) index_leads shown grown at) in
      let number : variable_number s method q ≡ pos k =
      ap (λ (c : Bool). if c then int_at s (variable_token q) else pos (or_zero (variable_named s method (op_of s q) (variable_token q)))) numbered_so
      ∙ (ap (int_at s) token_is ∙ (ap (λ t. integer t) ag.1.0.0.text ∙ laws.natural k (small_16 k small))) in
      let right : variable_out_of_range s method q ≡ [] =
      ap (λ (c : Bool). if c then [] else variable_token q ∷ [])
      (ap (λ (i : OperandKind). is_within (pos 0) (pos (greatest_variable i)) (variable_number s method q)) kind_is
      ∙ (ap (is_within (pos 0) (pos (greatest_variable j))) number ∙ within (greatest_variable j) k fits)) in
      let known : variable_undeclared s method q ≡ [] =
      ap (λ (c : Bool). if c && not (is_some (variable_named s method (op_of s q) (variable_token q))) then variable_token q ∷ [] else []) unnamed in
      record {
        number = λ e. absurd (false≢true e);
        real = λ e. absurd (false≢true e);
        declared = λ e. known;
        variable = λ e. right;
        names = λ e. nameless p.INSTRUCTION_OP_VAR variable_nameless shown grown at;
      }

  -- ---- real numbers

  abbrev real_shown : Op → Bool → ℕ → Shown
  real_shown op b bits = written.op_item n.OP_REAL op (put (written.real_bits b bits) none)

  four_plain : (op : Op) (bits : ℕ) → operand_kind op ≡ form.Real4 → bits < 0x100000000 → Plain (item p.INSTRUCTION_OP_REAL (real_shown op true bits)) op
  unfolding ilasm rule_by
  four_plain op bits of_kind small at grown ag said =
      let shown = real_shown op true bits in
      let q = f.part p.INSTRUCTION_OP_REAL (numbered at shown) in
      let wide : real_width (operand_kind (op_of s q)) ≡ 32 = ap real_width (ap operand_kind said ∙ of_kind) in
      let found = searches.parts real_parts 1 (body_of p.INSTRUCTION_OP_REAL) no_bits_before shown grown at in
      let own = f.part p.REAL_BITS_FLOAT32 (numbered (at + 1) (written.real_bits true bits).below) in
      let fits = unless_none (fits_width 32) s (f.leaf_at 2 own.below) (pos bits) (ap (λ t. integer t) ag.1.0.1.1.0.text ∙ laws.hexadecimal 8 bits (small_32 bits small)) (bits_4_fit bits small) in
      let right : real_out_of_range s q ≡ [] =
      ap (λ (k : ℕ). flat_map (real_bits_out_of_range s k) (f.parts real_parts q.below)) wide
      ∙ (ap (flat_map (real_bits_out_of_range s 32)) found ∙ ap (λ (ks : List ℕ). ks ++ []) fits) in
      record {
        number = λ e. absurd (false≢true e);
        real = λ e. right;
        declared = λ e. absurd (false≢true e);
        variable = λ e. absurd (false≢true e);
        names = λ e. nameless p.INSTRUCTION_OP_REAL real_nameless shown grown at;
      }

  eight_plain : (op : Op) (bits : ℕ) → operand_kind op ≡ form.Real8 → bits < 0x10000000000000000 → Plain (item p.INSTRUCTION_OP_REAL (real_shown op false bits)) op
  unfolding ilasm rule_by
  eight_plain op bits of_kind small at grown ag said =
      let shown = real_shown op false bits in
      let q = f.part p.INSTRUCTION_OP_REAL (numbered at shown) in
      let wide : real_width (operand_kind (op_of s q)) ≡ 64 = ap real_width (ap operand_kind said ∙ of_kind) in
      let found = searches.parts real_parts 1 (body_of p.INSTRUCTION_OP_REAL) no_bits_before shown grown at in
      let own = f.part p.REAL_BITS_FLOAT64 (numbered (at + 1) (written.real_bits false bits).below) in
      let fits = unless_none (fits_width 64) s (f.leaf_at 2 own.below) (pos bits) (ap (λ t. integer t) ag.1.0.1.1.0.text ∙ laws.hexadecimal 16 bits (small_64 bits small)) (bits_8_fit bits small) in
      let right : real_out_of_range s q ≡ [] =
      ap (λ (k : ℕ). flat_map (real_bits_out_of_range s k) (f.parts real_parts q.below)) wide
      ∙ (ap (flat_map (real_bits_out_of_range s 64)) found ∙ ap (λ (ks : List ℕ). ks ++ []) fits) in
      record {
        number = λ e. absurd (false≢true e);
        real = λ e. right;
        declared = λ e. absurd (false≢true e);
        variable = λ e. absurd (false≢true e);
        names = λ e. nameless p.INSTRUCTION_OP_REAL real_nameless shown grown at;
      }

  real_form : (op : Op) (bits : ℕ) (b : Bool) → is_short_real (kind_of op) ≡ b → Plain (item p.INSTRUCTION_OP_REAL (real_shown op b bits)) op → Plain (written.operand_item a.externs code op (operand.TheVariants.Real bits)) op
  real_form op bits b e h = subst (λ (c : Bool). Plain (item p.INSTRUCTION_OP_REAL (real_shown op c bits)) op) (sym e) h

  -- ---- any of them

  pub form_plain : (op : Op) (k : OperandKind) (o : operand.Operand) → kind_of op ≡ k → operand_kind op ≡ k → fits_kind k o ≡ true → is_operand_held o ≡ true → Plain (by_form a code op k o) op
  form_plain op form.Nothing operand.TheVariants.Nothing e q h l at grown ag said =
      other p.INSTRUCTION_OP_NONE nothing_other nothing_nameless (by_form a code op form.Nothing operand.TheVariants.Nothing).below grown at
  form_plain op form.Var8 (operand.TheVariants.Var v) e q h l at grown ag said = variable_plain op form.Var8 v q (ltb-true v 0x10000 l) (leb-true v 0xFF h) at grown ag said
  form_plain op form.Var16 (operand.TheVariants.Var v) e q h l at grown ag said = variable_plain op form.Var16 v q (ltb-true v 0x10000 l) (two_bytes v (ltb-true v 0x10000 l)) at grown ag said
  form_plain op form.Num8 (operand.TheVariants.Int z) e q h l at grown ag said = number_form op form.Num8 z q h l at grown ag said
  form_plain op form.Num32 (operand.TheVariants.Int z) e q h l at grown ag said = number_form op form.Num32 z q h l at grown ag said
  form_plain op form.Num64 (operand.TheVariants.Int z) e q h l at grown ag said = number_form op form.Num64 z q h l at grown ag said
  form_plain op form.Byte (operand.TheVariants.Int z) e q h l at grown ag said = number_form op form.Byte z q h l at grown ag said
  form_plain op form.Real4 (operand.TheVariants.Real bits) e q h l at grown ag said = real_form op bits true (ap is_short_real e) (four_plain op bits q (four_bytes bits h)) at grown ag said
  form_plain op form.Real8 (operand.TheVariants.Real bits) e q h l at grown ag said = real_form op bits false (ap is_short_real e) (eight_plain op bits q (ltb-true bits 0x10000000000000000 l)) at grown ag said
  form_plain op form.Branch8 (operand.TheVariants.Target j) e q h l at grown ag said = branch_plain (numbered at (by_form a code op form.Branch8 (operand.TheVariants.Target j)).below)
  form_plain op form.Branch32 (operand.TheVariants.Target j) e q h l at grown ag said = branch_plain (numbered at (by_form a code op form.Branch32 (operand.TheVariants.Target j)).below)
  form_plain op form.Switch (operand.TheVariants.Targets js) e q h l at grown ag said = switch_plain (numbered at (by_form a code op form.Switch (operand.TheVariants.Targets js)).below)
  form_plain op form.Method (operand.TheVariants.Method x) e q h l at grown ag said =
      other p.INSTRUCTION_OP_METHOD method_other method_nameless (by_form a code op form.Method (operand.TheVariants.Method x)).below grown at
  form_plain op form.Field (operand.TheVariants.Field x) e q h l at grown ag said =
      other p.INSTRUCTION_OP_FIELD field_other field_nameless (by_form a code op form.Field (operand.TheVariants.Field x)).below grown at
  form_plain op form.Of (operand.TheVariants.Of x) e q h l at grown ag said =
      other p.INSTRUCTION_OP_TYPE type_other type_nameless (by_form a code op form.Of (operand.TheVariants.Of x)).below grown at
  form_plain op form.Text (operand.TheVariants.Text us) e q h l at grown ag said =
      other p.INSTRUCTION_LDSTR text_other text_nameless (by_form a code op form.Text (operand.TheVariants.Text us)).below grown at
  form_plain op form.Token (operand.TheVariants.Method x) e q h l at grown ag said =
      other p.INSTRUCTION_LDTOKEN token_other token_nameless (by_form a code op form.Token (operand.TheVariants.Method x)).below grown at
  form_plain op form.Token (operand.TheVariants.Field x) e q h l at grown ag said =
      other p.INSTRUCTION_LDTOKEN token_other token_nameless (by_form a code op form.Token (operand.TheVariants.Field x)).below grown at
  form_plain op form.Token (operand.TheVariants.Of x) e q h l at grown ag said =
      other p.INSTRUCTION_LDTOKEN token_other token_nameless (by_form a code op form.Token (operand.TheVariants.Of x)).below grown at
  form_plain op k o e q h l at grown ag said = absurd (false≢true h)
