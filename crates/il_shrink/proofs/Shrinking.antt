-- The code of the shortest forms is the shrunk code.
use Rattle.std.proofs.Common.{◌≡◌, ◌∙◌, sym, ap, subst, refl, ℕ, ◌+◌, inl, inr, true, List, ◌++◌, length, map, take, drop, Some, arith}
use Rattle.std.specs.List.{slice_get}
use Rattle.std.proofs.Math.Seq.{take-append_seam}
use Rattle.std.proofs.lemmas.List.{length-map}
use Rattle.branch_forms.specs.declared.form.Form.{Form}
use Rattle.branch_forms.specs.declared.form.Form.TheVariants.{Short, Long}
use Rattle.branch_forms.specs.Forms.{width, has_bytes, shortened, IsShort, IsShortest}
use Rattle.branch_forms.specs.Forms as forms
use Rattle.opcode_table.specs.declared.kind.OperandKind.{OperandKind}
use Rattle.opcode_table.specs.declared.kind.OperandKind.TheVariants as kind
use Rattle.assembly_tree.specs.declared.body.Ins.{Ins}
use Rattle.assembly_tree.specs.declared.body.Operand as operand
use Rattle.assembly_tree.specs.WellFormedBodies.{operand_kind, size_of, offset_of, is_near, reaches_at, reaches, short_branches_reach}
use Rattle.il_shrink.specs.Branches.{short_form, is_short}
use Rattle.il_shrink.specs.Shrunk.{with_short, IsChoice, IsValid, IsShortAt, IsShrunkCode}
use Rattle.il_shrink.specs.Forms.{form_in, short_size, form_of, first_form, chosen}
use Rattle.il_shrink.proofs.Codes.{forms_short, firsts_short, firsts_same, code_at_most, chosen_forms, chosen_same, chosen_at_most, chosen_short}
use Rattle.il_shrink.proofs.InsForms.{IsBranchTo, branch_in, short_of, short_kind_is, kind_is_short}
use Rattle.il_shrink.proofs.Lists.{get_map, map_get, get_same, test_at, test_all}
use Rattle.il_shrink.proofs.Moves.{near_moves}
use Rattle.il_shrink.proofs.Ops.{short_stays}

-- ---- short branches

branch_of : (i : Ins) (t : ℕ) → form_of i ≡ Short t → IsBranchTo (operand_kind i.op) i.operand t
unfolding form_of
branch_of i t e = branch_in (operand_kind i.op) i.operand (short_size i) t e

form_by : (i : Ins) (t : ℕ) → operand_kind i.op ≡ kind.Branch8 → i.operand ≡ operand.TheVariants.Target t → form_of i ≡ Short t
unfolding form_of
form_by i t e o = ap (λ k. form_in k i.operand (short_size i)) e ∙ ap (λ p. form_in kind.Branch8 p (short_size i)) o

first_short : (i : Ins) (t : ℕ) → is_short i.op ≡ true → first_form i ≡ Short t → form_of i ≡ Short t
unfolding form_of
first_short i t s h = short_of (operand_kind i.op) i.operand (short_size i) t (short_kind_is i s) h

-- a short form is a short branch
pub short_at : (code : List Ins) (k : ℕ) → IsShort (map form_of code) k → IsShortAt code k
short_at code k (t, h) =
    let (i, at_k, is) = get_map form_of code k (Short t) h in
    (i, at_k, kind_is_short i (branch_of i t is).kind_is)

-- ---- validity

pub reaches_to : (code : List Ins) (k t : ℕ) (l : OperandKind) (o : operand.Operand) → IsBranchTo l o t → reaches_at code k l o ≡ true →
    is_near (offset_of code (k + 1)) (offset_of code t) ≡ true
reaches_to code k t l o b h =
    ap (λ p. reaches_at code k kind.Branch8 p) (sym b.operand_is) ∙ ap (λ m. reaches_at code k m o) (sym b.kind_is) ∙ h

pub reaches_by : (code : List Ins) (k : ℕ) (l : OperandKind) (o : operand.Operand) →
    ((t : ℕ) → l ≡ kind.Branch8 → o ≡ operand.TheVariants.Target t → is_near (offset_of code (k + 1)) (offset_of code t) ≡ true) → reaches_at code k l o ≡ true
reaches_by code k kind.Branch8 (operand.TheVariants.Target t) h = h t refl refl
reaches_by code k l o h = refl

-- a valid choice has valid forms
pub forms_valid : (code : List Ins) → IsValid code → forms.IsValid (map form_of code)
unfolding short_branches_reach
forms_valid code valid k t h =
    let (i, at_k, is) = get_map form_of code k (Short t) h in
    let place : k ≡ 0 + k = omega arith in
    let test : reaches_at code k (operand_kind i.op) i.operand ≡ true = test_at (reaches code) 0 code valid k k i place at_k in
    near_moves size_of width code (map form_of code) (code_at_most code) (k + 1) t (reaches_to code k t (operand_kind i.op) i.operand (branch_of i t is) test)

-- the code of valid forms is valid
pub chosen_valid : (code : List Ins) (fs : List Form) → map shortened fs ≡ map first_form code → forms.IsValid fs → IsValid (chosen code fs)
unfolding short_branches_reach
chosen_valid code fs e valid =
    let c = chosen code fs in
    test_all (reaches c) 0 c (λ k m i place at_k.
    let same : m ≡ k = omega arith in
    reaches_by c m (operand_kind i.op) i.operand (λ t l o.
    let here : slice_get fs k ≡ Some (Short t) =
    ap (λ gs. slice_get gs k) (sym (chosen_forms code fs e)) ∙ map_get form_of c k i at_k ∙ ap Some (form_by i t l o) in
    subst (λ n. is_near (offset_of c (n + 1)) (offset_of c t) ≡ true) (sym same)
    (near_moves width size_of fs c (chosen_at_most code fs e) (k + 1) t (valid k t here))))

-- ---- the greatest choice

first_get : (code other : List Ins) (fs : List Form) (k t : ℕ) (i : Ins) → IsChoice code other → map shortened fs ≡ map first_form code →
    slice_get other k ≡ Some i → slice_get fs k ≡ Some (Long t) → Some (first_form i) ≡ Some (Short t)
first_get code other fs k t i same e at_k long =
    sym (map_get first_form other k i at_k) ∙ ap (λ l. slice_get l k) (firsts_same code other same ∙ sym e) ∙ map_get shortened fs k (Long t) long

some_is : {X : Type 0} (x y : X) → Some x ≡ Some y → x ≡ y
some_is x y e = cc

no_both : (fs : List Form) (k t u : ℕ) → slice_get fs k ≡ Some (Long t) → slice_get fs k ≡ Some (Short u) → ⊥
no_both fs k t u a b = let e : Some (Long t) ≡ Some (Short u) = sym a ∙ b in let f : Long t ≡ Short u = some_is (Long t) (Short u) e in cc

module _ (code : List Ins) (fs : List Form) (best : IsShortest (map first_form code) fs) where
  same_forms : map shortened fs ≡ map first_form code
  same_forms = best.same ∙ firsts_short code

  not_long : (other : List Ins) → IsChoice code other → IsValid other → (k : ℕ) (i : Ins) → slice_get other k ≡ Some i → is_short i.op ≡ true →
      (t : ℕ) → slice_get fs k ≡ Some (Long t) → ⊥
  not_long other same valid k i at_k is_s t long =
      let first : first_form i ≡ Short t = some_is (first_form i) (Short t) (first_get code other fs k t i same same_forms at_k long) in
      let here : IsShort (map form_of other) k = (t, map_get form_of other k i at_k ∙ ap Some (first_short i t is_s first)) in
      let choice : map shortened (map form_of other) ≡ map shortened (map first_form code) =
      forms_short other ∙ firsts_same code other same ∙ sym (firsts_short code) in
      let (u, short) = best.greatest (map form_of other) choice (forms_valid other valid) k here in
      no_both fs k t u long short

  greatest : (other : List Ins) → IsChoice code other → IsValid other → (k : ℕ) → IsShortAt other k → IsShortAt (chosen code fs) k
  greatest other same valid k (i, at_k, is_s) =
      let choice : map with_short other ≡ map with_short (chosen code fs) = same ∙ sym (chosen_same code fs same_forms) in
      let (j, at_j, j_is) = get_same with_short other (chosen code fs) k i choice at_k in
      elim (chosen_short code fs k j at_j) [
        | inl (b, at_b, b_is) ↦
            let (p, at_p, p_is) = get_same with_short other code k i same at_k in
            let one : p ≡ b = some_is p b (sym at_p ∙ at_b) in
            let op : j.op ≡ i.op = ap (λ x. x.op) (sym b_is) ∙ ap (λ x. short_form x.op) (sym one) ∙ ap (λ x. x.op) p_is ∙ short_stays i.op is_s in
            (j, at_j, ap is_short op ∙ is_s)
        | inr (t, long) ↦ absurd (not_long other same valid k i at_k is_s t long)
      ]

  pub shrunk_by : IsShrunkCode code (chosen code fs)
  shrunk_by = record {
    choice_of = chosen_same code fs same_forms;
    valid = chosen_valid code fs same_forms best.valid;
    greatest = greatest;
  }

pub shrunk : (code : List Ins) (fs : List Form) (c : List Ins) → IsShortest (map first_form code) fs → c ≡ chosen code fs → IsShrunkCode code c
shrunk code fs c best e = subst (λ l. IsShrunkCode code l) (sym e) (shrunk_by code fs best)

pub same_length : (code : List Ins) (fs : List Form) → IsShortest (map first_form code) fs → length code ≡ length fs
same_length code fs best =
    sym (length-map code first_form) ∙ ap length (sym (firsts_short code) ∙ sym best.same) ∙ length-map fs shortened

-- what a slice of the forms' vector holds after they were made the shortest
pub slice_is : (code : List Ins) (now fs slice items : List Form) (n : ℕ) → now ≡ map first_form code → IsShortest now fs → length now ≡ n →
    slice ≡ take n (fs ++ drop (length fs) items) → slice ≡ fs
slice_is code now fs slice items n e best len is =
    let best_of : IsShortest (map first_form code) fs = subst (λ l. IsShortest l fs) e best in
    let same : length code ≡ length fs = same_length code fs best_of in
    let first : length now ≡ length code = ap length e ∙ length-map code first_form in
    let all : n ≡ length fs = omega arith in
    is ∙ ap (λ k. take k (fs ++ drop (length fs) items)) all ∙ take-append_seam fs (drop (length fs) items)

pub slice_length : (code : List Ins) (now fs slice : List Form) → now ≡ map first_form code → IsShortest now fs → slice ≡ fs → length code ≡ length slice
slice_length code now fs slice e best is = same_length code fs (subst (λ l. IsShortest l fs) e best) ∙ ap length (sym is)

pub shrunk_from : (code : List Ins) (now fs slice : List Form) (c : List Ins) → now ≡ map first_form code → IsShortest now fs → slice ≡ fs → c ≡ chosen code slice →
    IsShrunkCode code c
shrunk_from code now fs slice c e best is made = shrunk code fs c (subst (λ l. IsShortest l fs) e best) (made ∙ ap (chosen code) is)
