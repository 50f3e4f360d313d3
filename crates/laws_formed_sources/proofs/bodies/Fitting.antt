-- Operands fit the kinds that the classes of mnemonics take (ECMA-335 III.1.7, III.2.5, III.3.40).
use Rattle.std.proofs.Common.{◌≡◌, ℕ, suc, ◌+◌, ◌-◌, ◌<◌, ◌≤◌, ◌^◌, inl, inr, refl, ap, ◌∙◌, arith, nat_lt, nat_le}
use Rattle.std.specs.Prelude.{Bool, true, not, ◌==◌, ◌&&◌, ◌||◌, if◌then◌else◌, ℤ, pos, negsuc, int_le, ◌-ℤ◌}
use Rattle.std.proofs.lemmas.Bool.{and_parts, cases_Bool, le-leb, ltb-true, ltb-false}
use Rattle.std.proofs.lemmas.Bool.Decides.{Decides-eqb}
use Rattle.std.proofs.lemmas.Int.{ints}
use Rattle.std.proofs.lemmas.Nat.{mod_below}
use Rattle.type_terms.specs.declared.reference.FieldRef.{FieldRef}
use Rattle.type_terms.specs.declared.reference.MethodRef.{MethodRef}
use Rattle.type_terms.specs.declared.term.Owner.{Owner}
use Rattle.opcode_table.specs.declared.kind.OperandKind.{OperandKind}
use Rattle.opcode_table.specs.declared.kind.OperandKind.TheVariants as takes
use Rattle.assembly_tree.specs.WellFormedBodies.{fits_kind}
use Rattle.assembly_tree.specs.declared.body.Operand.TheVariants as operand
use Rattle.ilasm_grammar.specs.declared.nonterminals.TheConstants as n
use Rattle.source_model.specs.BodyNumbers.{greatest_variable, real_width}
use Rattle.source_model.specs.Constants.{wrapped}
use Rattle.source_model.specs.Operands.{number_in}
use Rattle.source_model.specs.Shapes.{natural}
use Rattle.source_model.specs.TypeRules.{is_within}
use Rattle.source_nodes.proofs.WrittenNames.{other_true}
use Rattle.laws_formed_sources.proofs.bodies.Words.{class_of}

-- where the kind is of this class, this holds
abbrev where_of : ℕ → OperandKind → Bool → Bool
where_of h k holds = not (class_of k == h) || holds

held : (h : ℕ) (k : OperandKind) (holds : Bool) → where_of h k holds ≡ true → class_of k ≡ h → holds ≡ true
held h k holds e is = other_true (class_of k == h) holds e ((Decides-eqb (class_of k) h).1 is)

-- ---- operands that fit whatever they hold

nothing_fit : (k : OperandKind) → where_of n.OP_NONE k (fits_kind k operand.Nothing) ≡ true
nothing_fit takes.Nothing = refl
nothing_fit takes.Var8 = refl
nothing_fit takes.Var16 = refl
nothing_fit takes.Num8 = refl
nothing_fit takes.Num32 = refl
nothing_fit takes.Num64 = refl
nothing_fit takes.Byte = refl
nothing_fit takes.Real4 = refl
nothing_fit takes.Real8 = refl
nothing_fit takes.Branch8 = refl
nothing_fit takes.Branch32 = refl
nothing_fit takes.Switch = refl
nothing_fit takes.Method = refl
nothing_fit takes.Field = refl
nothing_fit takes.Of = refl
nothing_fit takes.Text = refl
nothing_fit takes.Token = refl

pub nothing_fits : (k : OperandKind) → class_of k ≡ n.OP_NONE → fits_kind k operand.Nothing ≡ true
nothing_fits k is = held n.OP_NONE k (fits_kind k operand.Nothing) (nothing_fit k) is

target_fit : (at : ℕ) (k : OperandKind) → where_of n.OP_BRANCH k (fits_kind k (operand.Target at)) ≡ true
target_fit at takes.Nothing = refl
target_fit at takes.Var8 = refl
target_fit at takes.Var16 = refl
target_fit at takes.Num8 = refl
target_fit at takes.Num32 = refl
target_fit at takes.Num64 = refl
target_fit at takes.Byte = refl
target_fit at takes.Real4 = refl
target_fit at takes.Real8 = refl
target_fit at takes.Branch8 = refl
target_fit at takes.Branch32 = refl
target_fit at takes.Switch = refl
target_fit at takes.Method = refl
target_fit at takes.Field = refl
target_fit at takes.Of = refl
target_fit at takes.Text = refl
target_fit at takes.Token = refl

pub target_fits : (at : ℕ) (k : OperandKind) → class_of k ≡ n.OP_BRANCH → fits_kind k (operand.Target at) ≡ true
target_fits at k is = held n.OP_BRANCH k (fits_kind k (operand.Target at)) (target_fit at k) is

method_fit : (m : MethodRef) (k : OperandKind) → where_of n.OP_METHOD k (fits_kind k (operand.Method m)) ≡ true
method_fit m takes.Nothing = refl
method_fit m takes.Var8 = refl
method_fit m takes.Var16 = refl
method_fit m takes.Num8 = refl
method_fit m takes.Num32 = refl
method_fit m takes.Num64 = refl
method_fit m takes.Byte = refl
method_fit m takes.Real4 = refl
method_fit m takes.Real8 = refl
method_fit m takes.Branch8 = refl
method_fit m takes.Branch32 = refl
method_fit m takes.Switch = refl
method_fit m takes.Method = refl
method_fit m takes.Field = refl
method_fit m takes.Of = refl
method_fit m takes.Text = refl
method_fit m takes.Token = refl

pub method_fits : (m : MethodRef) (k : OperandKind) → class_of k ≡ n.OP_METHOD → fits_kind k (operand.Method m) ≡ true
method_fits m k is = held n.OP_METHOD k (fits_kind k (operand.Method m)) (method_fit m k) is

field_fit : (f : FieldRef) (k : OperandKind) → where_of n.OP_FIELD k (fits_kind k (operand.Field f)) ≡ true
field_fit f takes.Nothing = refl
field_fit f takes.Var8 = refl
field_fit f takes.Var16 = refl
field_fit f takes.Num8 = refl
field_fit f takes.Num32 = refl
field_fit f takes.Num64 = refl
field_fit f takes.Byte = refl
field_fit f takes.Real4 = refl
field_fit f takes.Real8 = refl
field_fit f takes.Branch8 = refl
field_fit f takes.Branch32 = refl
field_fit f takes.Switch = refl
field_fit f takes.Method = refl
field_fit f takes.Field = refl
field_fit f takes.Of = refl
field_fit f takes.Text = refl
field_fit f takes.Token = refl

pub field_fits : (f : FieldRef) (k : OperandKind) → class_of k ≡ n.OP_FIELD → fits_kind k (operand.Field f) ≡ true
field_fits f k is = held n.OP_FIELD k (fits_kind k (operand.Field f)) (field_fit f k) is

owner_fit : (o : Owner) (k : OperandKind) → where_of n.OP_TYPE k (fits_kind k (operand.Of o)) ≡ true
owner_fit o takes.Nothing = refl
owner_fit o takes.Var8 = refl
owner_fit o takes.Var16 = refl
owner_fit o takes.Num8 = refl
owner_fit o takes.Num32 = refl
owner_fit o takes.Num64 = refl
owner_fit o takes.Byte = refl
owner_fit o takes.Real4 = refl
owner_fit o takes.Real8 = refl
owner_fit o takes.Branch8 = refl
owner_fit o takes.Branch32 = refl
owner_fit o takes.Switch = refl
owner_fit o takes.Method = refl
owner_fit o takes.Field = refl
owner_fit o takes.Of = refl
owner_fit o takes.Text = refl
owner_fit o takes.Token = refl

pub owner_fits : (o : Owner) (k : OperandKind) → class_of k ≡ n.OP_TYPE → fits_kind k (operand.Of o) ≡ true
owner_fits o k is = held n.OP_TYPE k (fits_kind k (operand.Of o)) (owner_fit o k) is

-- ---- variables

within_byte : (z : ℤ) → is_within (pos 0) (pos 0xFF) z ≡ true → nat_le (natural z) 0xFF ≡ true
within_byte (pos m) e = go m (and_parts (int_le (pos 0) (pos m)) (int_le (pos m) (pos 0xFF)) e).1
  where
    go : (m : ℕ) → int_le (pos m) (pos 0xFF) ≡ true → nat_le m 0xFF ≡ true
    go m e = e
within_byte (negsuc m) e = absurd cc

pub variable_fits : (z : ℤ) (k : OperandKind) → class_of k ≡ n.OP_VAR → is_within (pos 0) (pos (greatest_variable k)) z ≡ true → fits_kind k (operand.Var (natural z)) ≡ true
variable_fits z takes.Nothing is e = absurd (omega (arith, is))
variable_fits z takes.Var8 is e = within_byte z e
variable_fits z takes.Var16 is e = refl
variable_fits z takes.Num8 is e = absurd (omega (arith, is))
variable_fits z takes.Num32 is e = absurd (omega (arith, is))
variable_fits z takes.Num64 is e = absurd (omega (arith, is))
variable_fits z takes.Byte is e = absurd (omega (arith, is))
variable_fits z takes.Real4 is e = absurd (omega (arith, is))
variable_fits z takes.Real8 is e = absurd (omega (arith, is))
variable_fits z takes.Branch8 is e = absurd (omega (arith, is))
variable_fits z takes.Branch32 is e = absurd (omega (arith, is))
variable_fits z takes.Switch is e = absurd (omega (arith, is))
variable_fits z takes.Method is e = absurd (omega (arith, is))
variable_fits z takes.Field is e = absurd (omega (arith, is))
variable_fits z takes.Of is e = absurd (omega (arith, is))
variable_fits z takes.Text is e = absurd (omega (arith, is))
variable_fits z takes.Token is e = absurd (omega (arith, is))

-- ---- numbers

wrapped_below : (k : ℕ) (z : ℤ) → 0 < 2 ^ k → wrapped k z < 2 ^ k
wrapped_below k (pos m) some = mod_below m (2 ^ k) some
wrapped_below k (negsuc m) some = omega (arith, some)

unsigned : (m high : ℕ) → m < suc high → (int_le (pos 0) (pos m) && int_le (pos m) (pos high)) ≡ true
unsigned m high h = grind (arith, ints)

signed : (half m : ℕ) → m < half + half → 0 < half
    → (int_le (negsuc (half - 1)) (if nat_lt m half then pos m else pos m -ℤ pos (half + half)) && int_le (if nat_lt m half then pos m else pos m -ℤ pos (half + half)) (pos (half - 1))) ≡ true
signed half m h some = elim (cases_Bool (nat_lt m half)) [
  | inl low ↦
      ap (λ (c : Bool). int_le (negsuc (half - 1)) (if c then pos m else pos m -ℤ pos (half + half)) && int_le (if c then pos m else pos m -ℤ pos (half + half)) (pos (half - 1))) low
      ∙ front (ltb-true m half low)
  | inr high ↦
      ap (λ (c : Bool). int_le (negsuc (half - 1)) (if c then pos m else pos m -ℤ pos (half + half)) && int_le (if c then pos m else pos m -ℤ pos (half + half)) (pos (half - 1))) high
      ∙ back (ltb-false m half high)
]
  where
    front : m < half → (int_le (negsuc (half - 1)) (pos m) && int_le (pos m) (pos (half - 1))) ≡ true
    front low = grind (arith, ints)

    back : half ≤ m → (int_le (negsuc (half - 1)) (pos m -ℤ pos (half + half)) && int_le (pos m -ℤ pos (half + half)) (pos (half - 1))) ≡ true
    back high = grind (arith, ints)

pub number_fits : (z : ℤ) (k : OperandKind) → class_of k ≡ n.OP_NUM → fits_kind k (operand.Int (number_in k z)) ≡ true
number_fits z takes.Nothing is = absurd (omega (arith, is))
number_fits z takes.Var8 is = absurd (omega (arith, is))
number_fits z takes.Var16 is = absurd (omega (arith, is))
number_fits z takes.Num8 is = signed 0x80 (wrapped 8 z) (wrapped_below 8 z (omega arith)) (omega arith)
number_fits z takes.Num32 is = signed 0x80000000 (wrapped 32 z) (wrapped_below 32 z (omega arith)) (omega arith)
number_fits z takes.Num64 is = refl
number_fits z takes.Byte is = unsigned (wrapped 8 z) 0xFF (wrapped_below 8 z (omega arith))
number_fits z takes.Real4 is = absurd (omega (arith, is))
number_fits z takes.Real8 is = absurd (omega (arith, is))
number_fits z takes.Branch8 is = absurd (omega (arith, is))
number_fits z takes.Branch32 is = absurd (omega (arith, is))
number_fits z takes.Switch is = absurd (omega (arith, is))
number_fits z takes.Method is = absurd (omega (arith, is))
number_fits z takes.Field is = absurd (omega (arith, is))
number_fits z takes.Of is = absurd (omega (arith, is))
number_fits z takes.Text is = absurd (omega (arith, is))
number_fits z takes.Token is = absurd (omega (arith, is))

-- ---- real numbers

-- bits fit where they fit 32 bits, if the instruction has so many
pub real_fits : (bits : ℕ) (k : OperandKind) → class_of k ≡ n.OP_REAL → (real_width k ≡ 32 → nat_le bits 0xFFFFFFFF ≡ true) → fits_kind k (operand.Real bits) ≡ true
real_fits bits takes.Nothing is small = absurd (omega (arith, is))
real_fits bits takes.Var8 is small = absurd (omega (arith, is))
real_fits bits takes.Var16 is small = absurd (omega (arith, is))
real_fits bits takes.Num8 is small = absurd (omega (arith, is))
real_fits bits takes.Num32 is small = absurd (omega (arith, is))
real_fits bits takes.Num64 is small = absurd (omega (arith, is))
real_fits bits takes.Byte is small = absurd (omega (arith, is))
real_fits bits takes.Real4 is small = small refl
real_fits bits takes.Real8 is small = refl
real_fits bits takes.Branch8 is small = absurd (omega (arith, is))
real_fits bits takes.Branch32 is small = absurd (omega (arith, is))
real_fits bits takes.Switch is small = absurd (omega (arith, is))
real_fits bits takes.Method is small = absurd (omega (arith, is))
real_fits bits takes.Field is small = absurd (omega (arith, is))
real_fits bits takes.Of is small = absurd (omega (arith, is))
real_fits bits takes.Text is small = absurd (omega (arith, is))
real_fits bits takes.Token is small = absurd (omega (arith, is))

pub wrapped_small : (z : ℤ) → nat_le (wrapped 32 z) 0xFFFFFFFF ≡ true
wrapped_small z = let small = wrapped_below 32 z (omega arith) in le-leb (wrapped 32 z) 0xFFFFFFFF (omega (arith, small))
