-- Two valid choices make one, and only one is the greatest.
use Rattle.std.proofs.Common.{◌≡◌, ◌∙◌, sym, ap, subst, refl, ℕ, zero, suc, ◌+◌, ◌≤◌, ◌⊎◌, inl, inr, min, Bool, true, false, cond, List, [], ◌∷◌, map, Some, arith}
use Rattle.std.specs.List.{slice_get}
use Rattle.opcode_table.specs.declared.kind.OperandKind.TheVariants as kind
use Rattle.assembly_tree.specs.declared.body.Ins.{Ins}
use Rattle.assembly_tree.specs.declared.body.Operand as operand
use Rattle.assembly_tree.specs.WellFormedBodies.{operand_kind, size_of, offset_of, is_near, reaches_at, reaches, short_branches_reach}
use Rattle.il_shrink.specs.Branches.{long_form, is_short}
use Rattle.il_shrink.specs.Laws.{ValidChoicesJoin, OneIsShrunk, ShortOnesStay}
use Rattle.il_shrink.specs.Shrunk.{with_short, IsValid, IsShortAt}
use Rattle.il_shrink.proofs.InsForms.{short_no_longer}
use Rattle.il_shrink.proofs.Lists.{test_at, test_all}
use Rattle.il_shrink.proofs.Moves.{AtMost, near_moves}
use Rattle.il_shrink.proofs.Ops.{short_stays, long_again}
use Rattle.il_shrink.proofs.Shrinking.{reaches_to, reaches_by}

-- ---- instructions that differ at most in their form

op_of : (x y : Ins) → with_short x ≡ with_short y → (b : Bool) → is_short x.op ≡ b → is_short y.op ≡ b → x.op ≡ y.op
op_of x y e true h g = sym (short_stays x.op h) ∙ ap (λ i. i.op) e ∙ short_stays y.op g
op_of x y e false h g = sym (long_again x.op h) ∙ ap (λ i. long_form i.op) e ∙ long_again y.op g

-- in the same form they are equal
ins_same : (x y : Ins) → with_short x ≡ with_short y → is_short y.op ≡ is_short x.op → x ≡ y
ins_same x y e same =
    let p : x.op ≡ y.op = op_of x y e (is_short x.op) refl same in
    let q : x.operand ≡ y.operand = ap (λ i. i.operand) e in
    λ i. record { op = p i; operand = q i }

bool_same : (a b : Bool) → (a ≡ true → b ≡ true) → (b ≡ true → a ≡ true) → b ≡ a
bool_same true b f g = f refl
bool_same false true f g = sym (g refl)
bool_same false false f g = refl

short_first : (x : Ins) (xs : List Ins) → IsShortAt (x ∷ xs) 0 → is_short x.op ≡ true
short_first x xs (i, at, h) = let e : x ≡ i = cc in ap (λ j. is_short j.op) e ∙ h

head_same : (x y : Ins) (xs ys : List Ins) → map with_short (x ∷ xs) ≡ map with_short (y ∷ ys) → with_short x ≡ with_short y
head_same x y xs ys e = cc

tail_same : (x y : Ins) (xs ys : List Ins) → map with_short (x ∷ xs) ≡ map with_short (y ∷ ys) → map with_short xs ≡ map with_short ys
tail_same x y xs ys e = cc

code_same : (xs ys : List Ins) → map with_short xs ≡ map with_short ys → ((k : ℕ) → IsShortAt xs k → IsShortAt ys k) →
    ((k : ℕ) → IsShortAt ys k → IsShortAt xs k) → xs ≡ ys
code_same [] [] e f g = refl
code_same [] (y ∷ ys) e f g = absurd cc
code_same (x ∷ xs) [] e f g = absurd cc
code_same (x ∷ xs) (y ∷ ys) e f g =
    let forward : is_short x.op ≡ true → is_short y.op ≡ true = λ h. short_first y ys (f 0 (x, refl, h)) in
    let back : is_short y.op ≡ true → is_short x.op ≡ true = λ h. short_first x xs (g 0 (y, refl, h)) in
    let first : x ≡ y = ins_same x y (head_same x y xs ys e) (bool_same (is_short x.op) (is_short y.op) forward back) in
    let rest : xs ≡ ys = code_same xs ys (tail_same x y xs ys e) (λ k h. f (suc k) h) (λ k h. g (suc k) h) in
    λ i. first i ∷ rest i

pub one_shrunk : OneIsShrunk
one_shrunk b c d h g =
    let codes : c.code ≡ d.code =
    code_same c.code d.code (h.code.choice_of ∙ sym g.code.choice_of) (λ k s. g.code.greatest c.code h.code.choice_of h.code.valid k s)
    (λ k s. h.code.greatest d.code g.code.choice_of g.code.valid k s) in
    h.same ∙ ap (λ l. record b { code = l }) codes ∙ sym g.same

pub shorts_stay : ShortOnesStay
shorts_stay b c h valid k s = h.code.greatest b.code refl valid k s

-- ---- what is short in either

either : Ins → Ins → Ins
either x y = cond (is_short y.op) y x

joined : List Ins → List Ins → List Ins
joined [] ys = []
joined (x ∷ xs) [] = []
joined (x ∷ xs) (y ∷ ys) = either x y ∷ joined xs ys

cond_same : (b : Bool) (x y : Ins) → with_short x ≡ with_short y → with_short (cond b y x) ≡ with_short x
cond_same true x y e = sym e
cond_same false x y e = refl

joined_same : (xs ys : List Ins) → map with_short xs ≡ map with_short ys → map with_short (joined xs ys) ≡ map with_short xs
unfolding joined either
joined_same [] ys e = refl
joined_same (x ∷ xs) [] e = absurd cc
joined_same (x ∷ xs) (y ∷ ys) e =
    ap (λ z. z ∷ map with_short (joined xs ys)) (cond_same (is_short y.op) x y (head_same x y xs ys e))
    ∙ ap (λ l. with_short x ∷ l) (joined_same xs ys (tail_same x y xs ys e))

-- a short branch is no longer than the same one
short_least : (x y : Ins) → with_short x ≡ with_short y → is_short y.op ≡ true → size_of y ≤ size_of x
short_least x y e h =
    let y_is : y ≡ with_short y = λ i. record { op = sym (short_stays y.op h) i; operand = y.operand } in
    let size : size_of y ≡ size_of (with_short x) = ap size_of (y_is ∙ sym e) in
    let least : size_of (with_short x) ≤ size_of x = short_no_longer x in
    omega arith

left_size : (b : Bool) (x y : Ins) → is_short y.op ≡ b → with_short x ≡ with_short y → min (size_of (cond b y x)) 255 ≤ size_of x
left_size true x y h e = let least : size_of y ≤ size_of x = short_least x y e h in omega arith
left_size false x y h e = omega arith

long_size : (b : Bool) (x y : Ins) → is_short x.op ≡ b → is_short y.op ≡ false → with_short x ≡ with_short y → size_of x ≤ size_of y
long_size true x y h g e = short_least y x (sym e) h
long_size false x y h g e = let same : size_of x ≡ size_of y = ap size_of (ins_same x y e (g ∙ sym h)) in omega arith

right_size : (b : Bool) (x y : Ins) → is_short y.op ≡ b → with_short x ≡ with_short y → min (size_of (cond b y x)) 255 ≤ size_of y
right_size true x y h e = omega arith
right_size false x y h e = let least : size_of x ≤ size_of y = long_size (is_short x.op) x y refl h e in omega arith

left_at_most : (xs ys : List Ins) → map with_short xs ≡ map with_short ys → AtMost size_of size_of xs (joined xs ys)
unfolding joined either
left_at_most [] ys e = tt
left_at_most (x ∷ xs) [] e = absurd cc
left_at_most (x ∷ xs) (y ∷ ys) e = (left_size (is_short y.op) x y refl (head_same x y xs ys e), left_at_most xs ys (tail_same x y xs ys e))

right_at_most : (xs ys : List Ins) → map with_short xs ≡ map with_short ys → AtMost size_of size_of ys (joined xs ys)
unfolding joined either
right_at_most [] [] e = tt
right_at_most [] (y ∷ ys) e = absurd cc
right_at_most (x ∷ xs) [] e = absurd cc
right_at_most (x ∷ xs) (y ∷ ys) e = (right_size (is_short y.op) x y refl (head_same x y xs ys e), right_at_most xs ys (tail_same x y xs ys e))

cond_is : (b : Bool) (x y i : Ins) → Some (cond b y x) ≡ Some i → (Some x ≡ Some i) ⊎ (Some y ≡ Some i)
cond_is true x y i h = inr h
cond_is false x y i h = inl h

joined_get : (xs ys : List Ins) (k : ℕ) (i : Ins) → slice_get (joined xs ys) k ≡ Some i → (slice_get xs k ≡ Some i) ⊎ (slice_get ys k ≡ Some i)
unfolding joined either
joined_get [] ys k i h = absurd cc
joined_get (x ∷ xs) [] k i h = absurd cc
joined_get (x ∷ xs) (y ∷ ys) zero i h = cond_is (is_short y.op) x y i h
joined_get (x ∷ xs) (y ∷ ys) (suc k) i h = joined_get xs ys k i h

cond_short : (b : Bool) (x y : Ins) → is_short y.op ≡ b → is_short x.op ≡ true → is_short (cond b y x).op ≡ true
cond_short true x y h g = h
cond_short false x y h g = g

left_short : (xs ys : List Ins) (k : ℕ) → map with_short xs ≡ map with_short ys → IsShortAt xs k → IsShortAt (joined xs ys) k
unfolding joined either
left_short [] ys k e (i, at, s) = absurd cc
left_short (x ∷ xs) [] k e h = absurd cc
left_short (x ∷ xs) (y ∷ ys) zero e h = (either x y, refl, cond_short (is_short y.op) x y refl (short_first x xs h))
left_short (x ∷ xs) (y ∷ ys) (suc k) e h = left_short xs ys k (tail_same x y xs ys e) h

cond_right : (b : Bool) (x y : Ins) → b ≡ true → cond b y x ≡ y
cond_right true x y h = refl
cond_right false x y h = absurd cc

right_short : (xs ys : List Ins) (k : ℕ) → map with_short xs ≡ map with_short ys → IsShortAt ys k → IsShortAt (joined xs ys) k
unfolding joined either
right_short [] [] k e (i, at, s) = absurd cc
right_short [] (y ∷ ys) k e h = absurd cc
right_short (x ∷ xs) [] k e h = absurd cc
right_short (x ∷ xs) (y ∷ ys) zero e h =
    let s = short_first y ys h in (either x y, refl, ap (λ z. is_short z.op) (cond_right (is_short y.op) x y s) ∙ s)
right_short (x ∷ xs) (y ∷ ys) (suc k) e h = right_short xs ys k (tail_same x y xs ys e) h

-- a choice that is nowhere longer is as near
near_in : (code f : List Ins) → AtMost size_of size_of code f → IsValid code → (k t : ℕ) (i : Ins) → slice_get code k ≡ Some i →
    operand_kind i.op ≡ kind.Branch8 → i.operand ≡ operand.TheVariants.Target t → is_near (offset_of f (k + 1)) (offset_of f t) ≡ true
unfolding short_branches_reach
near_in code f less valid k t i at_k l o =
    let place : k ≡ 0 + k = omega arith in
    let test : reaches_at code k (operand_kind i.op) i.operand ≡ true = test_at (reaches code) 0 code valid k k i place at_k in
    near_moves size_of size_of code f less (k + 1) t (reaches_to code k t (operand_kind i.op) i.operand (record { kind_is = l; operand_is = o }) test)

joined_valid : (d e : List Ins) → map with_short d ≡ map with_short e → IsValid d → IsValid e → IsValid (joined d e)
unfolding short_branches_reach
joined_valid d e same first second =
    test_all (reaches (joined d e)) 0 (joined d e) (λ k m i place at_k.
    let here : m ≡ k = omega arith in
    reaches_by (joined d e) m (operand_kind i.op) i.operand (λ t l o.
    subst (λ n. is_near (offset_of (joined d e) (n + 1)) (offset_of (joined d e) t) ≡ true) (sym here)
    (elim (joined_get d e k i at_k) [
      | inl at_d ↦ near_in d (joined d e) (left_at_most d e same) first k t i at_d l o
      | inr at_e ↦ near_in e (joined d e) (right_at_most d e same) second k t i at_e l o
    ])))

pub choices_join : ValidChoicesJoin
choices_join code d e one first two second =
    let same : map with_short d ≡ map with_short e = one ∙ sym two in (
      joined d e,
      record {
        choice_of = joined_same d e same ∙ one;
        valid = joined_valid d e same first second;
        short = λ k. (
          λ (i, at_k, s). elim (joined_get d e k i at_k) [ inl at_d ↦ inl (i, at_d, s) | inr at_e ↦ inr (i, at_e, s) ],
          λ h. elim h [ inl s ↦ left_short d e k same s | inr s ↦ right_short d e k same s ],
        );
      },
    )
