-- Demands and results are monotone, in every relation that refines the kinds of stack types.
use Rattle.std.proofs.Common.{◌≡◌, inl, inr, ℕ, zero, suc, ◌-◌, Bool, true, false, ◌&&◌, ◌||◌, List, [], ◌∷◌, ◌++◌, length, map, take, drop, refl, sym, ◌∙◌, ap, subst, Option, None, Some, IsTrue}
use Rattle.std.specs.Prelude.{slice_get, is_some, replicate, if◌then◌else◌}
use Rattle.std.proofs.lemmas.Bool.{or_cases, and_parts, and_from, or_left, or_right}
use Rattle.type_terms.specs.declared.term.SigType.{SigType}
use Rattle.type_terms.specs.declared.term.SigType.TheVariants as type
use Rattle.type_hierarchy.specs.Hierarchy.{Hierarchy}
use Rattle.type_hierarchy.specs.Stack.{Stack, i4, i8, native, float, null, ref, boxed, val, ptr, bad, is_reference, verification_type, verified}
use Rattle.code_flow.specs.declared.operation.Numeric.{Numeric}
use Rattle.code_flow.specs.Demands.{Demand, nothing, any, number, integer, index, object, condition, comparable, exactly, one_of, to, object_pointer, vector, vector_of, object_vector, Together, apart, paired, stored, Pairing, numeric, integral, equality, ordering, is_number, is_integer, is_index, is_object, is_pointer, referent, element, if_references, object_element, first, second, arithmetic, go_together, outcome, Meets, NullOr, MeetTogether, StoredIn}
use Rattle.code_flow.specs.Rows.{Row, Pushed, always, same, same_number, same_integer, pointed, fetched, computed, given, kept_if, reference_to, null_or_bad, fetched_from, primitive_of}
use Rattle.code_flow.specs.Stacks.{Each}
use Rattle.code_flow.specs.Effects.{operands_of, below_operands, taken, results}
use Rattle.code_flow.specs.Laws.{IsMonotone}
use Rattle.body_verifier.proofs.Refining.{Kinds, the_same, above, objects, LowerElement, LowerVector, is_null, is_vector, Refines}

-- ---- demands that the table has

-- a number, a value or a pointer, which nothing else is lower than
abbrev pub is_firm : Stack → Bool
is_firm i4 = true
is_firm i8 = true
is_firm native = true
is_firm float = true
is_firm null = false
is_firm (ref t) = false
is_firm (boxed t) = false
is_firm (val t) = true
is_firm (ptr t) = true
is_firm bad = false

pub record IsNumeric (t : SigType) : Type 0 where
  pub of : Numeric
  pub is : t ≡ type.Prim (verified (primitive_of of))

abbrev pub Sound : Demand → Type 0
Sound nothing = Unit {0}
Sound any = Unit {0}
Sound number = Unit {0}
Sound integer = Unit {0}
Sound index = Unit {0}
Sound object = Unit {0}
Sound condition = Unit {0}
Sound comparable = Unit {0}
Sound (exactly t) = IsTrue (is_firm t)
Sound (one_of t u) = IsTrue (is_firm t) × IsTrue (is_firm u)
Sound (to t) = Unit {0}
Sound object_pointer = Unit {0}
Sound vector = Unit {0}
Sound (vector_of t) = IsNumeric t
Sound object_vector = Unit {0}

-- ---- tests that only numbers and pointers pass

pub record IsPlain (test : Stack → Bool) : Type 0 where
  pub on_bad : test bad ≡ false
  pub on_null : test null ≡ false
  pub on_ref : (t : SigType) → test (ref t) ≡ false
  pub on_boxed : (t : SigType) → test (boxed t) ≡ false

both : {b : Bool} → b ≡ true → b ≡ false → ⊥
both a b = let f : ⊥ = cc in f

plain_object : (test : Stack → Bool) → IsPlain test → (t : Stack) → IsTrue (is_object t) → IsTrue (test t) → ⊥
plain_object test p null o h = both h p.on_null
plain_object test p (ref t) o h = both h (p.on_ref t)
plain_object test p (boxed t) o h = both h (p.on_boxed t)
plain_object test p i4 o h = absurd (let f : ⊥ = cc in f)
plain_object test p i8 o h = absurd (let f : ⊥ = cc in f)
plain_object test p native o h = absurd (let f : ⊥ = cc in f)
plain_object test p float o h = absurd (let f : ⊥ = cc in f)
plain_object test p (val t) o h = absurd (let f : ⊥ = cc in f)
plain_object test p (ptr t) o h = absurd (let f : ⊥ = cc in f)
plain_object test p bad o h = absurd (let f : ⊥ = cc in f)

-- what is lower than what passes is the same
plain_same : (test : Stack → Bool) → IsPlain test → (s t : Stack) → Kinds s t → IsTrue (test t) → s ≡ t
plain_same test p s t (the_same e) h = e
plain_same test p s t (above e) h = absurd (both (ap test (sym e) ∙ h) p.on_bad)
plain_same test p s t (objects a b) h = absurd (plain_object test p t b h)

number_plain : IsPlain is_number
number_plain = record { on_bad = refl; on_null = refl; on_ref = λ t. refl; on_boxed = λ t. refl }

integer_plain : IsPlain is_integer
integer_plain = record { on_bad = refl; on_null = refl; on_ref = λ t. refl; on_boxed = λ t. refl }

index_plain : IsPlain is_index
index_plain = record { on_bad = refl; on_null = refl; on_ref = λ t. refl; on_boxed = λ t. refl }

firm_plain : IsPlain is_firm
firm_plain = record { on_bad = refl; on_null = refl; on_ref = λ t. refl; on_boxed = λ t. refl }

pointer_plain : IsPlain is_pointer
pointer_plain = record { on_bad = refl; on_null = refl; on_ref = λ t. refl; on_boxed = λ t. refl }

plain_lower : (test : Stack → Bool) → IsPlain test → (s t : Stack) → Kinds s t → IsTrue (test t) → IsTrue (test s)
plain_lower test p s t k h = ap test (plain_same test p s t k h) ∙ h

-- a test that every object reference passes, and Bad doesn't
object_lower : (test : Stack → Bool) → test bad ≡ false → ((u : Stack) → IsTrue (is_object u) → IsTrue (test u)) → (s t : Stack) → Kinds s t → IsTrue (test t) → IsTrue (test s)
object_lower test b o s t (the_same e) h = ap test e ∙ h
object_lower test b o s t (above e) h = absurd (both (ap test (sym e) ∙ h) b)
object_lower test b o s t (objects x y) h = o s x

object_condition : (u : Stack) → IsTrue (is_object u) → IsTrue (is_integer u || is_object u || is_pointer u)
object_condition null h = refl
object_condition (ref t) h = refl
object_condition (boxed t) h = refl
object_condition i4 h = refl
object_condition i8 h = refl
object_condition native h = refl
object_condition float h = absurd (let f : ⊥ = cc in f)
object_condition (val t) h = absurd (let f : ⊥ = cc in f)
object_condition (ptr t) h = refl
object_condition bad h = absurd (let f : ⊥ = cc in f)

object_comparable : (u : Stack) → IsTrue (is_object u) → IsTrue (is_number u || is_object u || is_pointer u)
object_comparable null h = refl
object_comparable (ref t) h = refl
object_comparable (boxed t) h = refl
object_comparable i4 h = refl
object_comparable i8 h = refl
object_comparable native h = refl
object_comparable float h = refl
object_comparable (val t) h = absurd (let f : ⊥ = cc in f)
object_comparable (ptr t) h = refl
object_comparable bad h = absurd (let f : ⊥ = cc in f)

-- ---- pointers to reference types

no_referent : (t : Stack) → is_pointer t ≡ false → referent t ≡ None
no_referent i4 h = refl
no_referent i8 h = refl
no_referent native h = refl
no_referent float h = refl
no_referent null h = refl
no_referent (ref t) h = refl
no_referent (boxed t) h = refl
no_referent (val t) h = refl
no_referent (ptr t) h = absurd (let f : ⊥ = cc in f)
no_referent bad h = refl

points : (t : Stack) (u : SigType) → referent t ≡ Some u → IsTrue (is_pointer t)
points (ptr t) u h = refl
points i4 u h = absurd (let f : ⊥ = cc in f)
points i8 u h = absurd (let f : ⊥ = cc in f)
points native u h = absurd (let f : ⊥ = cc in f)
points float u h = absurd (let f : ⊥ = cc in f)
points null u h = absurd (let f : ⊥ = cc in f)
points (ref t) u h = absurd (let f : ⊥ = cc in f)
points (boxed t) u h = absurd (let f : ⊥ = cc in f)
points (val t) u h = absurd (let f : ⊥ = cc in f)
points bad u h = absurd (let f : ⊥ = cc in f)

some_of : {A : Type 0} (o : Option A) → IsTrue (is_some o) → (x : A) × (o ≡ Some x)
some_of None h = absurd (let f : ⊥ = cc in f)
some_of (Some x) h = (x, refl)

-- nothing but Bad is above Bad
bad_above : (s t : Stack) → Kinds s t → s ≡ bad → t ≡ bad
bad_above s t (the_same f) e = sym f ∙ e
bad_above s t (above f) e = f
bad_above s t (objects a b) e = absurd (both a (ap is_object e))

-- ---- pairs

pub data PairOf (p : Pairing) (s t : Stack) : Type 0 where
  numbers : IsTrue (is_number s) → IsTrue (is_number t) → PairOf p s t
  references : p ≡ equality → IsTrue (is_object s) → IsTrue (is_object t) → PairOf p s t
  pointers : IsTrue (is_pointer s) → IsTrue (is_pointer t) → PairOf p s t

arithmetic_numbers : (s t : Stack) → IsTrue (is_some (arithmetic s t)) → IsTrue (is_number s) × IsTrue (is_number t)
arithmetic_numbers i4 i4 h = (refl, refl)
arithmetic_numbers i4 i8 h = absurd (let f : ⊥ = cc in f)
arithmetic_numbers i4 native h = (refl, refl)
arithmetic_numbers i4 float h = absurd (let f : ⊥ = cc in f)
arithmetic_numbers i4 null h = absurd (let f : ⊥ = cc in f)
arithmetic_numbers i4 (ref t) h = absurd (let f : ⊥ = cc in f)
arithmetic_numbers i4 (boxed t) h = absurd (let f : ⊥ = cc in f)
arithmetic_numbers i4 (val t) h = absurd (let f : ⊥ = cc in f)
arithmetic_numbers i4 (ptr t) h = absurd (let f : ⊥ = cc in f)
arithmetic_numbers i4 bad h = absurd (let f : ⊥ = cc in f)
arithmetic_numbers i8 i4 h = absurd (let f : ⊥ = cc in f)
arithmetic_numbers i8 i8 h = (refl, refl)
arithmetic_numbers i8 native h = absurd (let f : ⊥ = cc in f)
arithmetic_numbers i8 float h = absurd (let f : ⊥ = cc in f)
arithmetic_numbers i8 null h = absurd (let f : ⊥ = cc in f)
arithmetic_numbers i8 (ref t) h = absurd (let f : ⊥ = cc in f)
arithmetic_numbers i8 (boxed t) h = absurd (let f : ⊥ = cc in f)
arithmetic_numbers i8 (val t) h = absurd (let f : ⊥ = cc in f)
arithmetic_numbers i8 (ptr t) h = absurd (let f : ⊥ = cc in f)
arithmetic_numbers i8 bad h = absurd (let f : ⊥ = cc in f)
arithmetic_numbers native i4 h = (refl, refl)
arithmetic_numbers native i8 h = absurd (let f : ⊥ = cc in f)
arithmetic_numbers native native h = (refl, refl)
arithmetic_numbers native float h = absurd (let f : ⊥ = cc in f)
arithmetic_numbers native null h = absurd (let f : ⊥ = cc in f)
arithmetic_numbers native (ref t) h = absurd (let f : ⊥ = cc in f)
arithmetic_numbers native (boxed t) h = absurd (let f : ⊥ = cc in f)
arithmetic_numbers native (val t) h = absurd (let f : ⊥ = cc in f)
arithmetic_numbers native (ptr t) h = absurd (let f : ⊥ = cc in f)
arithmetic_numbers native bad h = absurd (let f : ⊥ = cc in f)
arithmetic_numbers float i4 h = absurd (let f : ⊥ = cc in f)
arithmetic_numbers float i8 h = absurd (let f : ⊥ = cc in f)
arithmetic_numbers float native h = absurd (let f : ⊥ = cc in f)
arithmetic_numbers float float h = (refl, refl)
arithmetic_numbers float null h = absurd (let f : ⊥ = cc in f)
arithmetic_numbers float (ref t) h = absurd (let f : ⊥ = cc in f)
arithmetic_numbers float (boxed t) h = absurd (let f : ⊥ = cc in f)
arithmetic_numbers float (val t) h = absurd (let f : ⊥ = cc in f)
arithmetic_numbers float (ptr t) h = absurd (let f : ⊥ = cc in f)
arithmetic_numbers float bad h = absurd (let f : ⊥ = cc in f)
arithmetic_numbers null u h = absurd (let f : ⊥ = cc in f)
arithmetic_numbers (ref t) u h = absurd (let f : ⊥ = cc in f)
arithmetic_numbers (boxed t) u h = absurd (let f : ⊥ = cc in f)
arithmetic_numbers (val t) u h = absurd (let f : ⊥ = cc in f)
arithmetic_numbers (ptr t) u h = absurd (let f : ⊥ = cc in f)
arithmetic_numbers bad u h = absurd (let f : ⊥ = cc in f)

pair_by_three : (s t : Stack) → IsTrue (is_some (arithmetic s t) || (is_object s && is_object t) || (is_pointer s && is_pointer t)) → PairOf equality s t
pair_by_three s t h = elim (or_cases (is_some (arithmetic s t) || (is_object s && is_object t)) (is_pointer s && is_pointer t) h) [
  | inl two ↦ elim (or_cases (is_some (arithmetic s t)) (is_object s && is_object t) two) [
    | inl a ↦ let n = arithmetic_numbers s t a in numbers n.0 n.1
    | inr b ↦ let n = and_parts (is_object s) (is_object t) b in references refl n.0 n.1
  ]
  | inr c ↦ let n = and_parts (is_pointer s) (is_pointer t) c in pointers n.0 n.1
]

pair_by_two : (s t : Stack) → IsTrue (is_some (arithmetic s t) || (is_pointer s && is_pointer t)) → PairOf ordering s t
pair_by_two s t h = elim (or_cases (is_some (arithmetic s t)) (is_pointer s && is_pointer t) h) [
  | inl a ↦ let n = arithmetic_numbers s t a in numbers n.0 n.1
  | inr c ↦ let n = and_parts (is_pointer s) (is_pointer t) c in pointers n.0 n.1
]

pair_of : (p : Pairing) (s t : Stack) → IsTrue (go_together p s t) → PairOf p s t
pair_of numeric s t h = let n = arithmetic_numbers s t h in numbers n.0 n.1
pair_of integral s t h = let n = arithmetic_numbers s t (and_parts (is_integer s) (is_some (arithmetic s t)) h).1 in numbers n.0 n.1
pair_of equality s t h = pair_by_three s t h
pair_of ordering s t h = pair_by_two s t h

references_pair : (s t : Stack) → IsTrue (is_object s) → IsTrue (is_object t) → IsTrue (go_together equality s t)
references_pair s t a b =
    or_left (is_some (arithmetic s t) || (is_object s && is_object t)) (is_pointer s && is_pointer t)
    (or_right (is_some (arithmetic s t)) (is_object s && is_object t) (and_from (is_object s) (is_object t) a b))

pair_same : (p : Pairing) (s t u v : Stack) → s ≡ t → u ≡ v → IsTrue (go_together p t v) → IsTrue (go_together p s u)
pair_same p s t u v a b h = cc

pair_lower : (p : Pairing) (s t u v : Stack) → Kinds s t → Kinds u v → PairOf p t v → IsTrue (go_together p t v) → IsTrue (go_together p s u)
pair_lower p s t u v a b (numbers x y) h = pair_same p s t u v (plain_same is_number number_plain s t a x) (plain_same is_number number_plain u v b y) h
pair_lower p s t u v a b (pointers x y) h = pair_same p s t u v (plain_same is_pointer pointer_plain s t a x) (plain_same is_pointer pointer_plain u v b y) h
pair_lower p s t u v a b (references e x y) h =
    let first : IsTrue (is_object s) = object_lower is_object refl (λ u x. x) s t a x in
    let second : IsTrue (is_object u) = object_lower is_object refl (λ u x. x) u v b y in
    subst (λ (q : Pairing). IsTrue (go_together q s u)) (sym e) (references_pair s u first second)

-- ---- outcomes

no_arithmetic : (t v : Stack) → is_number t ≡ false → arithmetic t v ≡ None
no_arithmetic i4 v h = absurd (let f : ⊥ = cc in f)
no_arithmetic i8 v h = absurd (let f : ⊥ = cc in f)
no_arithmetic native v h = absurd (let f : ⊥ = cc in f)
no_arithmetic float v h = absurd (let f : ⊥ = cc in f)
no_arithmetic null v h = refl
no_arithmetic (ref t) v h = refl
no_arithmetic (boxed t) v h = refl
no_arithmetic (val t) v h = refl
no_arithmetic (ptr t) v h = refl
no_arithmetic bad v h = refl

bad_either_way : (b : Bool) → (if b then bad else bad) ≡ bad
bad_either_way true = refl
bad_either_way false = refl

no_outcome : (p : Pairing) (t v : Stack) → is_number t ≡ false → outcome p t v ≡ bad
no_outcome p t v h = rw (no_arithmetic t v h) (bad_either_way (go_together p t v))

no_outcome_apart : (p : Pairing) (t v : Stack) → go_together p t v ≡ false → outcome p t v ≡ bad
no_outcome_apart p t v h = rw h refl

object_no_number : (t : Stack) → IsTrue (is_object t) → is_number t ≡ false
object_no_number null h = refl
object_no_number (ref t) h = refl
object_no_number (boxed t) h = refl
object_no_number i4 h = absurd (let f : ⊥ = cc in f)
object_no_number i8 h = absurd (let f : ⊥ = cc in f)
object_no_number native h = absurd (let f : ⊥ = cc in f)
object_no_number float h = absurd (let f : ⊥ = cc in f)
object_no_number (val t) h = refl
object_no_number (ptr t) h = refl
object_no_number bad h = refl

pointer_no_number : (t : Stack) → IsTrue (is_pointer t) → is_number t ≡ false
pointer_no_number (ptr t) h = refl
pointer_no_number null h = refl
pointer_no_number (ref t) h = refl
pointer_no_number (boxed t) h = refl
pointer_no_number i4 h = absurd (let f : ⊥ = cc in f)
pointer_no_number i8 h = absurd (let f : ⊥ = cc in f)
pointer_no_number native h = absurd (let f : ⊥ = cc in f)
pointer_no_number float h = absurd (let f : ⊥ = cc in f)
pointer_no_number (val t) h = refl
pointer_no_number bad h = refl

-- ---- elements that are objects

if_reference_some : (u x : SigType) (b : Bool) → is_reference u ≡ b → (if b then Some u else None) ≡ Some x → (u ≡ x) × IsTrue (is_reference u)
if_reference_some u x true e h = (let is : u ≡ x = cc in is, e)
if_reference_some u x false e h = absurd (let f : ⊥ = cc in f)

object_element_some : (o : Option SigType) (x : SigType) → if_references o ≡ Some x → (o ≡ Some x) × IsTrue (is_reference x)
object_element_some None x h = absurd (let f : ⊥ = cc in f)
object_element_some (Some u) x h =
    let p = if_reference_some u x (is_reference u) refl h in
    (ap Some p.0, subst (λ (t : SigType). IsTrue (is_reference t)) p.0 p.1)

if_references_from : (d : SigType) → IsTrue (is_reference d) → if_references (Some d) ≡ Some d
if_references_from d h = rw h refl

-- ---- demands

module _ (w : Hierarchy) (R : Stack → Stack → Type 0) (r : Refines w R) where
  null_or_lower : (s t : Stack) (P : SigType → Type 0) → R s t → ((d e : SigType) → LowerElement w R d e → P e → P d) → (o : Option SigType) → element t ≡ o
      → NullOr t P o → NullOr s P (element s)
  null_or_lower s t P h low None e m =
      let t_null : t ≡ null = m in
      let s_null : s ≡ null = r.null_only s (subst (λ (x : Stack). R s x) t_null h) in
      subst (λ (x : Stack). NullOr x P (element x)) (sym s_null) refl
  null_or_lower s t P h low (Some u) e m = go (r.vectors s t u h e) where
    go : LowerVector w R s u → NullOr s P (element s)
    go (is_null z) = subst (λ (x : Stack). NullOr x P (element x)) (sym z) refl
    go (is_vector {d = d} is l) = subst (λ (x : Option SigType). NullOr s P x) (sym is) (low d u l m)

  meets_lower : (d : Demand) → Sound d → (s t : Stack) → R s t → Meets w d t → Meets w d s
  meets_lower nothing ok s t h m = tt
  meets_lower any ok s t h m = λ e. m (bad_above s t (r.kinds s t h) e)
  meets_lower number ok s t h m = plain_lower is_number number_plain s t (r.kinds s t h) m
  meets_lower integer ok s t h m = plain_lower is_integer integer_plain s t (r.kinds s t h) m
  meets_lower index ok s t h m = plain_lower is_index index_plain s t (r.kinds s t h) m
  meets_lower object ok s t h m = object_lower is_object refl (λ u x. x) s t (r.kinds s t h) m
  meets_lower condition ok s t h m = object_lower (λ (u : Stack). is_integer u || is_object u || is_pointer u) refl object_condition s t (r.kinds s t h) m
  meets_lower comparable ok s t h m = object_lower (λ (u : Stack). is_number u || is_object u || is_pointer u) refl object_comparable s t (r.kinds s t h) m
  meets_lower (exactly u) ok s t h m = plain_same is_firm firm_plain s t (r.kinds s t h) (ap is_firm m ∙ ok) ∙ m
  meets_lower (one_of u v) ok s t h (inl m) = inl (plain_same is_firm firm_plain s t (r.kinds s t h) (ap is_firm m ∙ ok.0) ∙ m)
  meets_lower (one_of u v) ok s t h (inr m) = inr (plain_same is_firm firm_plain s t (r.kinds s t h) (ap is_firm m ∙ ok.1) ∙ m)
  meets_lower (to u) ok s t h m = r.assign s t u h m
  meets_lower object_pointer ok s t h m =
      let x = some_of (referent t) m in
      let e : s ≡ t = plain_same is_pointer pointer_plain s t (r.kinds s t h) (points t x.0 x.1) in
      ap (λ (u : Stack). is_some (referent u)) e ∙ m
  meets_lower vector ok s t h m = null_or_lower s t (λ (e : SigType). Unit {0}) h (λ d e l p. tt) (element t) refl m
  meets_lower (vector_of u) ok s t h m =
      null_or_lower s t (λ (e : SigType). verification_type w e ≡ u) h (λ d e l p. l.numeric ok.of (p ∙ ok.is) ∙ sym ok.is) (element t) refl m
  meets_lower object_vector ok s t h m = null_or_lower s t (λ (e : SigType). IsTrue (is_reference e)) h (λ d e l p. (l.object p).0) (element t) refl m

  -- ---- operands together

  first_lower : (ss ts : List Stack) → Each R ss ts → R (first ss) (first ts)
  first_lower [] [] h = r.itself bad
  first_lower [] (t ∷ ts) h = absurd h
  first_lower (s ∷ ss) [] h = absurd h
  first_lower (s ∷ ss) (t ∷ ts) h = h.0

  second_lower : (ss ts : List Stack) → Each R ss ts → R (second ss) (second ts)
  second_lower [] [] h = r.itself bad
  second_lower [] (t ∷ ts) h = absurd h
  second_lower (s ∷ ss) [] h = absurd h
  second_lower (s ∷ []) (t ∷ []) h = r.itself bad
  second_lower (s ∷ []) (t ∷ v ∷ ts) h = absurd h.1
  second_lower (s ∷ u ∷ ss) (t ∷ []) h = absurd h.1
  second_lower (s ∷ u ∷ ss) (t ∷ v ∷ ts) h = h.1.0

  stored_lower : (s t u v : Stack) → R s t → R u v → (o : Option SigType) → referent t ≡ o → StoredIn w v o → StoredIn w u (referent s)
  stored_lower s t u v a b None e h = absurd h
  stored_lower s t u v a b (Some x) e h =
      let is : s ≡ t = plain_same is_pointer pointer_plain s t (r.kinds s t a) (points t x e) in
      subst (λ (o : Option SigType). StoredIn w u o) (sym (ap referent is ∙ e)) (r.assign u v (ref x) b h)

  together_lower : (g : Together) (ss ts : List Stack) → Each R ss ts → MeetTogether w g ts → MeetTogether w g ss
  together_lower apart ss ts h m = tt
  together_lower (paired p) ss ts h m =
      pair_lower p (first ss) (first ts) (second ss) (second ts) (r.kinds (first ss) (first ts) (first_lower ss ts h))
      (r.kinds (second ss) (second ts) (second_lower ss ts h)) (pair_of p (first ts) (second ts) m) m
  together_lower stored ss ts h m = stored_lower (first ss) (first ts) (second ss) (second ts) (first_lower ss ts h) (second_lower ss ts h) (referent (first ts)) refl m

  -- ---- results

  kept_lower : (test : Stack → Bool) → IsPlain test → (s t : Stack) → R s t → (b : Bool) → test t ≡ b → R (kept_if (test s) s) (kept_if b t)
  kept_lower test p s t h true e =
      let is : s ≡ t = plain_same test p s t (r.kinds s t h) e in
      subst (λ (x : Stack). R x t) (ap (λ (y : Stack). kept_if (test y) y) (sym is) ∙ refl) (rw e (r.itself t))
  kept_lower test p s t h false e = r.top (kept_if (test s) s)

  pointed_lower : (s t : Stack) → R s t → (o : Option SigType) → referent t ≡ o → R (reference_to (referent s)) (reference_to o)
  pointed_lower s t h None e = r.top (reference_to (referent s))
  pointed_lower s t h (Some x) e =
      let is : s ≡ t = plain_same is_pointer pointer_plain s t (r.kinds s t h) (points t x e) in
      subst (λ (o : Option SigType). R (reference_to o) (ref x)) (sym (ap referent is ∙ e)) (r.itself (ref x))

  nothing_lower : (s t : Stack) → R s t → R (fetched_from s (object_element s)) (null_or_bad t)
  nothing_lower s null h = subst (λ (x : Stack). R (fetched_from x (object_element x)) null) (sym (r.null_only s h)) (r.itself null)
  nothing_lower s i4 h = r.top (fetched_from s (object_element s))
  nothing_lower s i8 h = r.top (fetched_from s (object_element s))
  nothing_lower s native h = r.top (fetched_from s (object_element s))
  nothing_lower s float h = r.top (fetched_from s (object_element s))
  nothing_lower s (ref t) h = r.top (fetched_from s (object_element s))
  nothing_lower s (boxed t) h = r.top (fetched_from s (object_element s))
  nothing_lower s (val t) h = r.top (fetched_from s (object_element s))
  nothing_lower s (ptr t) h = r.top (fetched_from s (object_element s))
  nothing_lower s bad h = r.top (fetched_from s (object_element s))

  fetched_lower : (s t : Stack) → R s t → (o : Option SigType) → object_element t ≡ o → R (fetched_from s (object_element s)) (fetched_from t o)
  fetched_lower s t h None e = nothing_lower s t h
  fetched_lower s t h (Some x) e = go (r.vectors s t x h (object_element_some (element t) x e).0) where
    go : LowerVector w R s x → R (fetched_from s (object_element s)) (ref x)
    go (is_null z) = subst (λ (y : Stack). R (fetched_from y (object_element y)) (ref x)) (sym z) (r.null_lower x)
    go (is_vector {d = d} is l) =
        let o = l.object (object_element_some (element t) x e).1 in
        let found : object_element s ≡ Some d = ap if_references is ∙ if_references_from d o.0 in
        subst (λ (y : Option SigType). R (fetched_from s y) (ref x)) (sym found) o.1

  computed_lower : (p : Pairing) (s t u v : Stack) → R s t → R u v → (b : Bool) → go_together p t v ≡ b → R (outcome p s u) (outcome p t v)
  computed_lower p s t u v a c false e = subst (λ (x : Stack). R (outcome p s u) x) (sym (no_outcome_apart p t v e)) (r.top (outcome p s u))
  computed_lower p s t u v a c true e = go (pair_of p t v e) where
    go : PairOf p t v → R (outcome p s u) (outcome p t v)
    go (numbers x y) =
        let left : s ≡ t = plain_same is_number number_plain s t (r.kinds s t a) x in
        let right : u ≡ v = plain_same is_number number_plain u v (r.kinds u v c) y in
        let same_outcome : outcome p s u ≡ outcome p t v = ap (λ (z : Stack). outcome p z u) left ∙ ap (λ (z : Stack). outcome p t z) right in
        subst (λ (z : Stack). R z (outcome p t v)) (sym same_outcome) (r.itself (outcome p t v))
    go (references q x y) = subst (λ (z : Stack). R (outcome p s u) z) (sym (no_outcome p t v (object_no_number t x))) (r.top (outcome p s u))
    go (pointers x y) = subst (λ (z : Stack). R (outcome p s u) z) (sym (no_outcome p t v (pointer_no_number t x))) (r.top (outcome p s u))

  given_lower : (p : Pushed) (ss ts : List Stack) → Each R ss ts → R (given ss p) (given ts p)
  given_lower (always x) ss ts h = r.itself x
  given_lower same ss ts h = first_lower ss ts h
  given_lower same_number ss ts h = kept_lower is_number number_plain (first ss) (first ts) (first_lower ss ts h) (is_number (first ts)) refl
  given_lower same_integer ss ts h = kept_lower is_integer integer_plain (first ss) (first ts) (first_lower ss ts h) (is_integer (first ts)) refl
  given_lower pointed ss ts h = pointed_lower (first ss) (first ts) (first_lower ss ts h) (referent (first ts)) refl
  given_lower fetched ss ts h = fetched_lower (first ss) (first ts) (first_lower ss ts h) (object_element (first ts)) refl
  given_lower (computed p) ss ts h =
      computed_lower p (first ss) (first ts) (second ss) (second ts) (first_lower ss ts h) (second_lower ss ts h) (go_together p (first ts) (second ts)) refl

  all_given : (ps : List Pushed) (ss ts : List Stack) → Each R ss ts → Each R (map (given ss) ps) (map (given ts) ps)
  all_given [] ss ts h = tt
  all_given (p ∷ ps) ss ts h = (given_lower p ss ts h, all_given ps ss ts h)

  -- ---- stacks

  pub each_length : (ss ts : List Stack) → Each R ss ts → length ss ≡ length ts
  each_length [] [] h = refl
  each_length [] (t ∷ ts) h = absurd h
  each_length (s ∷ ss) [] h = absurd h
  each_length (s ∷ ss) (t ∷ ts) h = ap suc (each_length ss ts h.1)

  pub each_append : (ss ts us vs : List Stack) → Each R ss ts → Each R us vs → Each R (ss ++ us) (ts ++ vs)
  each_append [] [] us vs h k = k
  each_append [] (t ∷ ts) us vs h k = absurd h
  each_append (s ∷ ss) [] us vs h k = absurd h
  each_append (s ∷ ss) (t ∷ ts) us vs h k = (h.0, each_append ss ts us vs h.1 k)

  each_take : (n : ℕ) (ss ts : List Stack) → Each R ss ts → Each R (take n ss) (take n ts)
  each_take zero ss ts h = tt
  each_take (suc n) [] [] h = tt
  each_take (suc n) [] (t ∷ ts) h = absurd h
  each_take (suc n) (s ∷ ss) [] h = absurd h
  each_take (suc n) (s ∷ ss) (t ∷ ts) h = (h.0, each_take n ss ts h.1)

  each_drop : (n : ℕ) (ss ts : List Stack) → Each R ss ts → Each R (drop n ss) (drop n ts)
  each_drop zero ss ts h = h
  each_drop (suc n) [] [] h = tt
  each_drop (suc n) [] (t ∷ ts) h = absurd h
  each_drop (suc n) (s ∷ ss) [] h = absurd h
  each_drop (suc n) (s ∷ ss) (t ∷ ts) h = each_drop n ss ts h.1

  each_bad : (n : ℕ) → Each R (replicate n bad) (replicate n bad)
  each_bad zero = tt
  each_bad (suc n) = (r.itself bad, each_bad n)

  pub operands_lower : (n : ℕ) (ss ts : List Stack) → Each R ss ts → Each R (operands_of n ss) (operands_of n ts)
  operands_lower n ss ts h =
      let P : ℕ → Type 0 = λ (m : ℕ). Each R (operands_of n ss) (replicate (n - m) bad ++ drop (m - n) ts) in
      subst P (each_length ss ts h)
      (each_append (replicate (n - length ss) bad) (replicate (n - length ss) bad) (drop (length ss - n) ss) (drop (length ss - n) ts)
      (each_bad (n - length ss)) (each_drop (length ss - n) ss ts h))

  pub below_lower : (n : ℕ) (ss ts : List Stack) → Each R ss ts → Each R (below_operands n ss) (below_operands n ts)
  below_lower n ss ts h =
      let P : ℕ → Type 0 = λ (m : ℕ). Each R (below_operands n ss) (take (m - n) ts) in
      subst P (each_length ss ts h) (each_take (length ss - n) ss ts h)

  pub results_lower : (x : Row) (ss ts : List Stack) → Each R ss ts → Each R (results x ss) (results x ts)
  results_lower x ss ts h = all_given x.pushed (taken x ss) (taken x ts) (operands_lower (length x.operands) ss ts h)

  effect_by : (x : Row) (ss ts : List Stack) → Each R ss ts → (b : Bool)
      → Each R (if b then [] else below_operands (length x.operands) ss ++ results x ss) (if b then [] else below_operands (length x.operands) ts ++ results x ts)
  effect_by x ss ts h true = tt
  effect_by x ss ts h false =
      each_append (below_operands (length x.operands) ss) (below_operands (length x.operands) ts) (results x ss) (results x ts)
      (below_lower (length x.operands) ss ts h) (results_lower x ss ts h)

  -- ---- rows

  pub monotone : (x : Row) → ((n : ℕ) (d : Demand) → slice_get x.operands n ≡ Some d → Sound d) → IsMonotone w R x
  monotone x sound = record {
    demands = λ n d s t at h m. meets_lower d (sound n d at) s t h m;
    together = together_lower x.together;
    results = results_lower x;
    effects = λ ss ts h. effect_by x ss ts h x.empties;
  }
