-- The walk along two signatures goes on behind what both begin with where the values are one, and stops where they aren't.
use Rattle.std.proofs.Common.{◌≡◌, ◌↔◌, ℕ, zero, suc, ◌+◌, ◌-◌, ◌≤◌, ◌<◌, ◌⊎◌, inl, inr, Bool, true, false, cond, nat_lt, nat_eq, ◌&&◌, ℤ, List, [], ◌∷◌, ◌++◌, length, Option, Some, None, refl, sym, ap, subst, ◌∙◌, arith}
use Rattle.std.proofs.lemmas.Grind.{common_steps}
use Rattle.std.specs.List.{AllByRecursion}
use Rattle.std.specs.Ordering.{int_eq}
use Rattle.std.specs.Cmp.{signed_Decides}
use Rattle.type_terms.specs.declared.name.TypeName.{TypeName}
use Rattle.type_terms.specs.declared.term.Owner.{Owner, Name}
use Rattle.type_terms.specs.declared.term.Primitive as prim
use Rattle.type_terms.specs.declared.term.Owner.TheOpen as layer
use Rattle.type_terms.specs.declared.term.SigType.{SigType}
use Rattle.type_terms.specs.declared.term.SigType.TheVariants as type
use Rattle.sig_codec.specs.declared.element.Element.{Element}
use Rattle.sig_codec.specs.declared.element.Element.TheVariants as element
use Rattle.sig_codec.specs.Spelling.{kind_byte, prim_byte, modifier_byte}
use Rattle.sig_codec.specs.Tokens.{token_of_coded}
use Rattle.sig_codec.specs.Reading as whole
use Rattle.sig_codec.specs.Reading.{◌>>=◌, Step, Read, TypeStep, byte_at, number_at, signed_at, variable_at, kind_at, lookup, elements, element_of, is_at_sentinel, each_at, counted_at}
use Rattle.sig_codec.proofs.Numbers.{some_is, bind_some, chosen}
use Rattle.sig_codec.proofs.StepParts.{is_counted, is_variable, is_owned, is_declared_name, is_head, is_shaped, is_boxed, are_all, is_array, is_inst, is_modified, has_element}
use Rattle.sig_codec.proofs.Takes.{element_byte}
use Rattle.signature_facts.proofs.Told.{given, left, each_long}
use Rattle.signature_facts.proofs.WholeTold.{all_counted}
use Rattle.signature_equality.specs.Numbering.{IsCanon}
use Rattle.signature_equality.specs.Walking.{Both, both, Canon, Walk, same_byte, same_number, same_signed, token_at, same_owner, same_each, same_counted, same_types, same_all, same_list, same_array, same_inst, same_mod, same_parts, same_type}
use Rattle.signature_equality.proofs.Ties.{pointer_ties, by_ref_ties, sz_array_ties, pinned_ties, class_ties, value_ties, var_ties, mvar_ties, inst_ties, array_ties, mod_ties, name_ties, first_layer, first_byte}

abbrev pub Told : {X : Type 0} → Option Both → X → X → List ℕ → List ℕ → Type 0
Told r x y a b = ((r ≡ both a b) × (x ≡ y)) ⊎ ((r ≡ None) × (x ≡ y → ⊥))

abbrev pub paired : {X Y : Type 0} → X → Y → X × Y
paired x y = (x, y)

pub told_then : {X Y : Type 0} (r : Option Both) (k : Both → Option Both) (x y : X) (u v : Y) (a b c d : List ℕ) → Told r x y a b → Told (k (a, b)) u v c d → Told (r >>= k) (paired x u) (paired y v) c d
told_then {X = X} {Y = Y} r k x y u v a b c d (inl h) (inl j) = inl (rw h.0 j.0, ap (λ (z : X). paired z u) h.1 ∙ ap (λ (z : Y). paired y z) j.1)
told_then {X = X} {Y = Y} r k x y u v a b c d (inl h) (inr j) = inr (rw h.0 j.0, λ e. j.1 (ap (λ (z : X × Y). z.1) e))
told_then {X = X} {Y = Y} r k x y u v a b c d (inr h) j = inr (rw h.0 refl, λ e. h.1 (ap (λ (z : X × Y). z.0) e))

pub told_as : {X Y : Type 0} (r : Option Both) (x y : X) (u v : Y) (a b : List ℕ) → (x ≡ y → u ≡ v) → (u ≡ v → x ≡ y) → Told r x y a b → Told r u v a b
told_as r x y u v a b to back (inl h) = inl (h.0, to h.1)
told_as r x y u v a b to back (inr h) = inr (h.0, λ e. h.1 (back e))

pub told_if : {X : Type 0} (t : Bool) (x y : X) (a b : List ℕ) → (t ≡ true → x ≡ y) → (x ≡ y → t ≡ true) → Told (cond t (both a b) None) x y a b
told_if true x y a b to back = inl (refl, to refl)
told_if false x y a b to back = inr (refl, λ e. absurd (let f = back e in cc))

-- the same of a walk that is one with another, and of values behind equations
pub told_by : {X : Type 0} (r q : Option Both) (x y : X) (a b : List ℕ) → r ≡ q → Told q x y a b → Told r x y a b
told_by {X = X} r q x y a b e h = subst (λ (z : Option Both). Told z x y a b) (sym e) h

moved_first : {X : Type 0} (r : Option Both) (x z y : X) (a b : List ℕ) → x ≡ z → Told r x y a b → Told r z y a b
moved_first r x z y a b e h = told_as r x y z y a b (λ f. sym e ∙ f) (λ f. e ∙ f) h

moved_second : {X : Type 0} (r : Option Both) (x y z : X) (a b : List ℕ) → y ≡ z → Told r x y a b → Told r x z a b
moved_second r x y z a b e h = told_as r x y x z a b (λ f. f ∙ e) (λ f. f ∙ sym e) h

eq_nat : (n m : ℕ) → nat_eq n m ≡ true → n ≡ m
eq_nat n m e = grind (arith, common_steps)

nat_is : (n m : ℕ) → n ≡ m → nat_eq n m ≡ true
nat_is n m e = grind (arith, common_steps)

pub nat_chosen : {X : Type 0} (n m : ℕ) (x y : X) (w : Option Both) (a b : List ℕ) → (n ≡ m → Told w x y a b) → (x ≡ y → n ≡ m) → Told (cond (nat_eq n m) w None) x y a b
nat_chosen {X = X} n m x y w a b h back = go (nat_eq n m) refl
  where
    go : (t : Bool) → nat_eq n m ≡ t → Told (cond t w None) x y a b
    go true e = h (eq_nat n m e)
    go false e = inr (refl, λ f. absurd (let g = nat_is n m (back f) in cc))

-- ---- elements

lookup_is : (es : List (ℕ × Element)) (byte : ℕ) (e : Element) → AllByRecursion (λ p. p.0 ≡ element_byte p.1) es → lookup es byte ≡ Some e → byte ≡ element_byte e
lookup_is [] byte e all is = absurd cc
lookup_is (p ∷ es) byte e all is =
    elim (chosen (nat_eq byte p.0) (Some p.1) (lookup es byte) (Some e) is) [
      | inl h ↦ eq_nat byte p.0 h.0 ∙ all.0 ∙ ap element_byte (some_is p.1 e h.1)
      | inr h ↦ lookup_is es byte e all.1 h.1
    ]

pub element_is : (byte : ℕ) (e : Element) → element_of byte ≡ Some e → byte ≡ element_byte e
unfolding element_of
element_is byte e is =
    lookup_is elements byte e (refl, (refl, (refl, (refl, (refl, (refl, (refl, (refl, (refl, (refl, (refl, (refl, (refl, (refl, (refl, (refl, (refl, (refl, (refl, (refl, (refl, (refl, (refl, (refl, (refl, (refl, (refl, (refl, (refl, (refl, tt)))))))))))))))))))))))))))))) is

-- ---- steps

-- of a step that reads a value, the walk that goes along two of them
abbrev pub StepTold : {X : Type 0} → (List ℕ → Step X) → Walk → Type 0
StepTold {X = X} step walk = (s t : List ℕ) (x y : X × List ℕ) → step s ≡ Some x → step t ≡ Some y → Told (walk (s, t)) x.0 y.0 x.1 y.1

pub byte_told : StepTold byte_at same_byte
unfolding same_byte
byte_told s t x y e f =
    told_by (same_byte (s, t)) (cond (nat_eq x.0 y.0) (both x.1 y.1) None) x.0 y.0 x.1 y.1 (rw (e, f) refl)
    (told_if (nat_eq x.0 y.0) x.0 y.0 x.1 y.1 (eq_nat x.0 y.0) (nat_is x.0 y.0))

pub number_told : StepTold number_at same_number
unfolding same_number
number_told s t x y e f =
    told_by (same_number (s, t)) (cond (nat_eq x.0 y.0) (both x.1 y.1) None) x.0 y.0 x.1 y.1 (rw (e, f) refl)
    (told_if (nat_eq x.0 y.0) x.0 y.0 x.1 y.1 (eq_nat x.0 y.0) (nat_is x.0 y.0))

signed_told : StepTold signed_at same_signed
unfolding same_signed
signed_told s t x y e f =
    told_by (same_signed (s, t)) (cond (int_eq x.0 y.0) (both x.1 y.1) None) x.0 y.0 x.1 y.1 (rw (e, f) refl)
    (told_if (int_eq x.0 y.0) x.0 y.0 x.1 y.1 (signed_Decides x.0 y.0).0 (signed_Decides x.0 y.0).1)

-- ---- numbers, one after the other

module _ {X : Type 0} (step : List ℕ → Step X) (walk : Walk) (told : StepTold step walk) where
  none_told : (s t : List ℕ) (x y : List X × List ℕ) → given [] s ≡ Some x → given [] t ≡ Some y → Told (both s t) x.0 y.0 x.1 y.1
  none_told s t x y e f =
      let z : List X × List ℕ = ([], s) in
      let w : List X × List ℕ = ([], t) in
      subst (λ (x : List X × List ℕ). Told (both s t) x.0 y.0 x.1 y.1) (some_is z x e)
      (subst (λ (y : List X × List ℕ). Told (both s t) z.0 y.0 z.1 y.1) (some_is w y f) (inl (refl, refl)))

  pub each_told : (count : ℕ) (s t : List ℕ) (x y : List X × List ℕ) → each_at step count s ≡ Some x → each_at step count t ≡ Some y → Told (same_each walk count (s, t)) x.0 y.0 x.1 y.1
  each_told zero s t x y e f = none_told s t x y e f
  each_told (suc count) s t x y e f =
      let last : X → (List X × List ℕ) → Step (List X) = λ n xs. given (n ∷ xs.0) xs.1 in
      let rest : (X × List ℕ) → Step (List X) = λ n. each_at step count n.1 >>= last n.0 in
      let a = bind_some (step s) rest x e in
      let b = bind_some (step t) rest y f in
      let c = bind_some (each_at step count a.0.1) (last a.0.0) x a.2 in
      let d = bind_some (each_at step count b.0.1) (last b.0.0) y b.2 in
      let z : List X × List ℕ = (a.0.0 ∷ c.0.0, c.0.1) in
      let w : List X × List ℕ = (b.0.0 ∷ d.0.0, d.0.1) in
      let first = told s t a.0 b.0 a.1 b.1 in
      let more = each_told count a.0.1 b.0.1 c.0 d.0 c.1 d.1 in
      let r = same_each walk (suc count) (s, t) in
      let all = told_then (walk (s, t)) (same_each walk count) a.0.0 b.0.0 c.0.0 d.0.0 a.0.1 b.0.1 c.0.1 d.0.1 first more in
      let cons = told_as r (paired a.0.0 c.0.0) (paired b.0.0 d.0.0) (a.0.0 ∷ c.0.0) (b.0.0 ∷ d.0.0) c.0.1 d.0.1
      (λ e. ap (λ (p : X × List X). p.0 ∷ p.1) e)
      (λ e. let i : a.0.0 ≡ b.0.0 = cc in let j : c.0.0 ≡ d.0.0 = cc in ap (λ (n : X). paired n c.0.0) i ∙ ap (λ (ns : List X). paired b.0.0 ns) j) all in
      subst (λ (x : List X × List ℕ). Told r x.0 y.0 x.1 y.1) (some_is z x c.2)
      (subst (λ (y : List X × List ℕ). Told r z.0 y.0 z.1 y.1) (some_is w y d.2) cons)

  pub counted_told : (limit other : ℕ) (s t : List ℕ) (x y : List X × List ℕ) → counted_at step limit s ≡ Some x → counted_at step other t ≡ Some y
      → Told (same_counted walk (s, t)) x.0 y.0 x.1 y.1
  unfolding same_counted
  counted_told limit other s t x y e f =
      let p = is_counted step limit s x e in
      let q = is_counted step other t y f in
      let w = same_each walk p.count.0 (p.count.1, q.count.1) in
      told_by (same_counted walk (s, t)) (cond (nat_eq p.count.0 q.count.0) w None) x.0 y.0 x.1 y.1 (rw (p.counted, q.counted) refl)
      (nat_chosen p.count.0 q.count.0 x.0 y.0 w x.1 y.1
      (λ k. each_told p.count.0 p.count.1 q.count.1 x y p.each (subst (λ (n : ℕ). each_at step n q.count.1 ≡ Some y) (sym k) q.each))
      (λ k. sym (each_long step p.count.0 p.count.1 x p.each) ∙ ap length k ∙ each_long step q.count.0 q.count.1 y q.each))

-- ---- owners

token_read : (s : List ℕ) (n : ℕ × List ℕ) (token : ℕ) (rest : List ℕ) → number_at s ≡ Some n → token_of_coded n.0 ≡ Some token → n.1 ≡ rest → token_at s ≡ given token rest
unfolding token_at
token_read s n token rest e f g = rw (e, f, g) refl

module _ (owners : ℕ → Option Owner) (canon : Canon) (is : IsCanon owners canon) where
  pub owner_told : (s t : List ℕ) (x y : ℕ × Owner × List ℕ) → whole.owner_at owners s ≡ Some x → whole.owner_at owners t ≡ Some y → Told (same_owner canon (s, t)) x.1 y.1 x.2 y.2
  unfolding same_owner
  owner_told s t x y e f =
      let p = is_owned owners s x e in
      let q = is_owned owners t y f in
      let a = token_read s p.number x.0 x.2 p.counted p.token p.rest in
      let b = token_read t q.number y.0 y.2 q.counted q.token q.rest in
      let one = is x.0 y.0 x.1 y.1 p.named q.named in
      told_by (same_owner canon (s, t)) (cond (canon x.0 y.0) (both x.2 y.2) None) x.1 y.1 x.2 y.2 (rw (a, b) refl)
      (told_if (canon x.0 y.0) x.1 y.1 x.2 y.2 one.0 one.1)

  declared_told : StepTold (whole.declared_at owners) (same_owner canon)
  declared_told s t x y e f =
      let p = is_declared_name owners s x e in
      let q = is_declared_name owners t y f in
      told_as (same_owner canon (s, t)) (Name x.0) (Name y.0) x.0 y.0 x.1 y.1 (name_ties x.0 y.0) (ap Name)
      (owner_told s t (p.token, Name x.0, x.1) (q.token, Name y.0, y.1) p.owned q.owned)

  -- ---- types, by a step that reads the types in them

  abbrev pub TypeTold : Walk → TypeStep → Type 0
  TypeTold walk sub = (s t : List ℕ) (m n : ℕ) (x y : SigType × List ℕ × ℕ) → sub s m ≡ Some x → sub t n ≡ Some y → Told (walk (s, t)) x.0 y.0 x.1 y.1

  -- of lists of types, of which there might have been `count`
  abbrev pub ListTold : Option (ℕ × List ℕ × List ℕ) → ℕ → List SigType → List SigType → List ℕ → List ℕ → Type 0
  ListTold r count xs ys a b = ((r ≡ Some (count - length xs, a, b)) × (xs ≡ ys)) ⊎ ((r ≡ None) × (xs ≡ ys → ⊥))

  module _ (walk : Walk) (sub : TypeStep) (told : TypeTold walk sub) where
    abbrev several : SigType → (List SigType × List ℕ × ℕ) → Read (List SigType)
    several t ts = left (t ∷ ts.0) ts.1 ts.2

    abbrev more_types : ℕ → (SigType × List ℕ × ℕ) → Read (List SigType)
    more_types count t = whole.types_at sub count t.1 t.2 >>= several t.0

    -- what stands where there is no sentinel
    some_types : (count : ℕ) (s : List ℕ) (m : ℕ) (x : List SigType × List ℕ × ℕ) → (sub s m >>= more_types count) ≡ Some x
        → (t : SigType × List ℕ × ℕ) × ((ts : List SigType × List ℕ × ℕ) × (sub s m ≡ Some t) × (whole.types_at sub count t.1 t.2 ≡ Some ts) × (left (t.0 ∷ ts.0) ts.1 ts.2 ≡ Some x))
    some_types count s m x e =
        let a = bind_some (sub s m) (more_types count) x e in
        let c = bind_some (whole.types_at sub count a.0.1 a.0.2) (several a.0.0) x a.2 in
        (a.0, (c.0, a.1, c.1, c.2))

    abbrev triple : ℕ → List ℕ → List ℕ → Option (ℕ × List ℕ × List ℕ)
    triple more a b = Some (more, a, b)

    cons_told : (count : ℕ) (r : Option Both) (w : Both → Option (ℕ × List ℕ × List ℕ)) (t u : SigType × List ℕ × ℕ) (ts us : List SigType × List ℕ × ℕ)
        → Told r t.0 u.0 t.1 u.1 → ListTold (w (t.1, u.1)) count ts.0 us.0 ts.1 us.1 → ListTold (r >>= w) (suc count) (t.0 ∷ ts.0) (u.0 ∷ us.0) ts.1 us.1
    cons_told count r w t u ts us (inl h) (inl j) =
        let k : count - length ts.0 ≡ suc count - suc (length ts.0) = omega arith in
        inl (rw h.0 (j.0 ∙ ap (λ (k : ℕ). triple k ts.1 us.1) k), ap (λ (z : SigType). z ∷ ts.0) h.1 ∙ ap (λ (zs : List SigType). u.0 ∷ zs) j.1)
    cons_told count r w t u ts us (inl h) (inr j) = inr (rw h.0 j.0, λ e. j.1 (let i : ts.0 ≡ us.0 = cc in i))
    cons_told count r w t u ts us (inr h) j = inr (rw h.0 refl, λ e. h.1 (let i : t.0 ≡ u.0 = cc in i))

    -- at a sentinel of both, of one, or of none
    step_told : (count : ℕ) → ((s t : List ℕ) (m n : ℕ) (x y : List SigType × List ℕ × ℕ) → whole.types_at sub count s m ≡ Some x → whole.types_at sub count t n ≡ Some y
        → ListTold (same_types walk count (s, t)) count x.0 y.0 x.1 y.1)
        → (p q : Bool) (s t : List ℕ) (m n : ℕ) (x y : List SigType × List ℕ × ℕ)
        → cond p (left [] s m) (sub s m >>= more_types count) ≡ Some x → cond q (left [] t n) (sub t n >>= more_types count) ≡ Some y
        → ListTold (cond p (cond q (triple (suc count) s t) None) (cond q None (walk (s, t) >>= same_types walk count))) (suc count) x.0 y.0 x.1 y.1
    step_told count ih true true s t m n x y e f =
        let z : List SigType × List ℕ × ℕ = ([], s, m) in
        let w : List SigType × List ℕ × ℕ = ([], t, n) in
        let r = triple (suc count) s t in
        let k : suc count ≡ suc count - 0 = omega arith in
        subst (λ (x : List SigType × List ℕ × ℕ). ListTold r (suc count) x.0 y.0 x.1 y.1) (some_is z x e)
        (subst (λ (y : List SigType × List ℕ × ℕ). ListTold r (suc count) z.0 y.0 z.1 y.1) (some_is w y f) (inl (ap (λ (k : ℕ). triple k s t) k, refl)))
    step_told count ih true false s t m n x y e f =
        let z : List SigType × List ℕ × ℕ = ([], s, m) in
        let b = some_types count t n y f in
        let w : List SigType × List ℕ × ℕ = (b.0.0 ∷ b.1.0.0, b.1.0.1, b.1.0.2) in
        let none : length x.0 ≡ 0 = ap (λ (y : List SigType × List ℕ × ℕ). length y.0) (sym (some_is z x e)) in
        let some : length y.0 ≡ suc (length b.1.0.0) = ap (λ (y : List SigType × List ℕ × ℕ). length y.0) (sym (some_is w y b.1.3)) in
        inr (refl, λ h. absurd (let l = ap length h in omega arith))
    step_told count ih false true s t m n x y e f =
        let z : List SigType × List ℕ × ℕ = ([], t, n) in
        let b = some_types count s m x e in
        let w : List SigType × List ℕ × ℕ = (b.0.0 ∷ b.1.0.0, b.1.0.1, b.1.0.2) in
        let none : length y.0 ≡ 0 = ap (λ (y : List SigType × List ℕ × ℕ). length y.0) (sym (some_is z y f)) in
        let some : length x.0 ≡ suc (length b.1.0.0) = ap (λ (y : List SigType × List ℕ × ℕ). length y.0) (sym (some_is w x b.1.3)) in
        inr (refl, λ h. absurd (let l = ap length h in omega arith))
    step_told count ih false false s t m n x y e f =
        let a = some_types count s m x e in
        let b = some_types count t n y f in
        let z : List SigType × List ℕ × ℕ = (a.0.0 ∷ a.1.0.0, a.1.0.1, a.1.0.2) in
        let w : List SigType × List ℕ × ℕ = (b.0.0 ∷ b.1.0.0, b.1.0.1, b.1.0.2) in
        let r = walk (s, t) >>= same_types walk count in
        let first = told s t m n a.0 b.0 a.1.1 b.1.1 in
        let more = ih a.0.1 b.0.1 a.0.2 b.0.2 a.1.0 b.1.0 a.1.2 b.1.2 in
        subst (λ (x : List SigType × List ℕ × ℕ). ListTold r (suc count) x.0 y.0 x.1 y.1) (some_is z x a.1.3)
        (subst (λ (y : List SigType × List ℕ × ℕ). ListTold r (suc count) z.0 y.0 z.1 y.1) (some_is w y b.1.3)
        (cons_told count (walk (s, t)) (same_types walk count) a.0 b.0 a.1.0 b.1.0 first more))

    pub types_told : (count : ℕ) (s t : List ℕ) (m n : ℕ) (x y : List SigType × List ℕ × ℕ) → whole.types_at sub count s m ≡ Some x → whole.types_at sub count t n ≡ Some y
        → ListTold (same_types walk count (s, t)) count x.0 y.0 x.1 y.1
    types_told zero s t m n x y e f =
        let z : List SigType × List ℕ × ℕ = ([], s, m) in
        let w : List SigType × List ℕ × ℕ = ([], t, n) in
        let r = triple 0 s t in
        subst (λ (x : List SigType × List ℕ × ℕ). ListTold r 0 x.0 y.0 x.1 y.1) (some_is z x e)
        (subst (λ (y : List SigType × List ℕ × ℕ). ListTold r 0 z.0 y.0 z.1 y.1) (some_is w y f) (inl (refl, refl)))
    types_told (suc count) s t m n x y e f = step_told count (types_told count) (is_at_sentinel s) (is_at_sentinel t) s t m n x y e f

    all_end : (count : ℕ) (r : Option (ℕ × List ℕ × List ℕ)) (xs ys : List SigType) (a b : List ℕ) → count - length xs ≡ 0 → ListTold r count xs ys a b
        → Told (r >>= λ (x : ℕ × List ℕ × List ℕ). cond (nat_eq x.0 0) (both x.1 x.2) None) xs ys a b
    all_end count r xs ys a b k (inl h) = inl (rw (h.0, k) refl, h.1)
    all_end count r xs ys a b k (inr h) = inr (rw h.0 refl, h.1)

    pub all_told : (count : ℕ) (s t : List ℕ) (m n : ℕ) (x y : List SigType × List ℕ × ℕ) → whole.all_types_at sub count s m ≡ Some x → whole.all_types_at sub count t n ≡ Some y
        → Told (same_all walk count (s, t)) x.0 y.0 x.1 y.1
    unfolding same_all
    all_told count s t m n x y e f =
        let p = are_all sub count s m x e in
        let q = are_all sub count t n y f in
        let full = all_counted sub count s m x e in
        let k : count - length x.0 ≡ 0 = omega arith in
        all_end count (same_types walk count (s, t)) x.0 y.0 x.1 y.1 k (types_told count s t m n x y p.read q.read)

    pub list_told : (s t : List ℕ) (c d : ℕ × List ℕ) (m n : ℕ) (x y : List SigType × List ℕ × ℕ) → number_at s ≡ Some c → number_at t ≡ Some d
        → whole.all_types_at sub c.0 c.1 m ≡ Some x → whole.all_types_at sub d.0 d.1 n ≡ Some y → Told (same_list walk (s, t)) x.0 y.0 x.1 y.1
    unfolding same_list
    list_told s t c d m n x y g h e f =
        let w = same_all walk c.0 (c.1, d.1) in
        told_by (same_list walk (s, t)) (cond (nat_eq c.0 d.0) w None) x.0 y.0 x.1 y.1 (rw (g, h) refl)
        (nat_chosen c.0 d.0 x.0 y.0 w x.1 y.1
        (λ k. all_told c.0 c.1 d.1 m n x y e (subst (λ (z : ℕ). whole.all_types_at sub z d.1 n ≡ Some y) (sym k) f))
        (λ k. sym (all_counted sub c.0 c.1 m x e) ∙ ap length k ∙ all_counted sub d.0 d.1 n y f))

    -- a type made of one other
    boxed_told : (make : SigType → SigType) → ((t u : SigType) → make t ≡ make u → t ≡ u) → TypeTold walk (λ b n. whole.boxed_at sub make b n)
    boxed_told make ties s t m n x y e f =
        let p = is_boxed sub make s m x e in
        let q = is_boxed sub make t n y f in
        let inside = told s t m n (p.of, x.1, x.2) (q.of, y.1, y.2) p.read q.read in
        told_as (walk (s, t)) p.of q.of x.0 y.0 x.1 y.1 (λ h. sym p.made ∙ ap make h ∙ q.made) (λ h. ties p.of q.of (p.made ∙ h ∙ sym q.made)) inside

    -- a name, and a number
    named_told : (make : TypeName → SigType) → ((n m : TypeName) → make n ≡ make m → n ≡ m) → TypeTold (same_owner canon) (λ b n. whole.named_at owners make b n)
    named_told make ties s t m n x y e f =
        let a = bind_some (whole.declared_at owners s) (λ name. Some (make name.0, name.1, m)) x e in
        let b = bind_some (whole.declared_at owners t) (λ name. Some (make name.0, name.1, n)) y f in
        let z : SigType × List ℕ × ℕ = (make a.0.0, a.0.1, m) in
        let w : SigType × List ℕ × ℕ = (make b.0.0, b.0.1, n) in
        let r = same_owner canon (s, t) in
        let inside = told_as r a.0.0 b.0.0 (make a.0.0) (make b.0.0) a.0.1 b.0.1 (ap make) (ties a.0.0 b.0.0) (declared_told s t a.0 b.0 a.1 b.1) in
        subst (λ (x : SigType × List ℕ × ℕ). Told r x.0 y.0 x.1 y.1) (some_is z x a.2)
        (subst (λ (y : SigType × List ℕ × ℕ). Told r z.0 y.0 z.1 y.1) (some_is w y b.2) inside)

    numbered_told : (make : ℕ → SigType) → ((n m : ℕ) → make n ≡ make m → n ≡ m) → TypeTold same_number (λ b n. whole.numbered_at make b n)
    numbered_told make ties s t m n x y e f =
        let a = bind_some (variable_at s) (λ k. Some (make k.0, k.1, m)) x e in
        let b = bind_some (variable_at t) (λ k. Some (make k.0, k.1, n)) y f in
        let z : SigType × List ℕ × ℕ = (make a.0.0, a.0.1, m) in
        let w : SigType × List ℕ × ℕ = (make b.0.0, b.0.1, n) in
        let r = same_number (s, t) in
        let one = number_told s t a.0 b.0 (is_variable s a.0 a.1).counted (is_variable t b.0 b.1).counted in
        let inside = told_as r a.0.0 b.0.0 (make a.0.0) (make b.0.0) a.0.1 b.0.1 (ap make) (ties a.0.0 b.0.0) one in
        subst (λ (x : SigType × List ℕ × ℕ). Told r x.0 y.0 x.1 y.1) (some_is z x a.2)
        (subst (λ (y : SigType × List ℕ × ℕ). Told r z.0 y.0 z.1 y.1) (some_is w y b.2) inside)

    -- an array
    array_told : TypeTold (same_array walk) (λ b n. whole.array_at sub b n)
    unfolding same_array
    array_told s t m n x y e f =
        let p = is_array sub s m x e in
        let q = is_array sub t n y f in
        let a = is_shaped p.behind p.shape p.shaped in
        let b = is_shaped q.behind q.shape q.shaped in
        let of = told s t m n (p.of, p.behind, x.2) (q.of, q.behind, y.2) p.read q.read in
        let rank = number_told p.behind q.behind (p.shape.0, a.rank) (q.shape.0, b.rank) a.ranked b.ranked in
        let sizes = counted_told number_at same_number number_told p.shape.0 q.shape.0 a.rank b.rank (p.shape.1, a.sizes) (q.shape.1, b.sizes) a.sized b.sized in
        let lower = counted_told signed_at same_signed signed_told p.shape.0 q.shape.0 a.sizes b.sizes (p.shape.2, p.shape.3) (q.shape.2, q.shape.3) a.bounded b.bounded in
        let third : Walk = λ c. same_counted same_signed c in
        let second : Walk = λ b. same_counted same_number b >>= third in
        let first : Walk = λ a. same_number a >>= second in
        let cd = told_then (same_counted same_number (a.rank, b.rank)) third p.shape.1 q.shape.1 p.shape.2 q.shape.2 a.sizes b.sizes p.shape.3 q.shape.3 sizes lower in
        let bcd = told_then (same_number (p.behind, q.behind)) second p.shape.0 q.shape.0 (paired p.shape.1 p.shape.2) (paired q.shape.1 q.shape.2) a.rank b.rank p.shape.3 q.shape.3 rank cd in
        let all = told_then (walk (s, t)) first p.of q.of (paired p.shape.0 (paired p.shape.1 p.shape.2)) (paired q.shape.0 (paired q.shape.1 q.shape.2)) p.behind q.behind p.shape.3 q.shape.3 of bcd in
        let r = same_array walk (s, t) in
        let made = told_as r (paired p.of (paired p.shape.0 (paired p.shape.1 p.shape.2))) (paired q.of (paired q.shape.0 (paired q.shape.1 q.shape.2))) x.0 y.0 p.shape.3 q.shape.3
        (λ h. sym p.made ∙ ap (λ (z : SigType × (ℕ × (List ℕ × List ℤ))). type.Array z.0 z.1.0 z.1.1.0 z.1.1.1) h ∙ q.made)
        (λ h.
        let i = array_ties p.of q.of p.shape.0 q.shape.0 p.shape.1 q.shape.1 p.shape.2 q.shape.2 (p.made ∙ h ∙ sym q.made) in
        let i0 = i.0 in let i1 = i.1 in let i2 = i.2 in let i3 = i.3 in
        cc) all in
        subst (λ (c : List ℕ). Told r x.0 y.0 c y.1) p.rest (subst (λ (d : List ℕ). Told r x.0 y.0 p.shape.3 d) q.rest made)

    -- a generic type
    kind_read : (s : List ℕ) (v : Bool) (rest : List ℕ) → kind_at s ≡ Some (v, rest) → byte_at s ≡ Some (kind_byte v, rest)
    kind_read [] v rest e = absurd cc
    kind_read (b ∷ s) v rest e = go (nat_eq b 0x11) (nat_eq b 0x12) refl refl e
      where
        go : (p q : Bool) → nat_eq b 0x11 ≡ p → nat_eq b 0x12 ≡ q → cond p (given true s) (cond q (given false s) None) ≡ Some (v, rest) → given b s ≡ Some (kind_byte v, rest)
        go true q h k e =
            let z : Bool × List ℕ = (true, s) in
            let w : Bool × List ℕ = (v, rest) in
            let i = some_is z w e in
            let c = eq_nat b 0x11 h in
            ap (λ (n : ℕ). given n s) c ∙ ap (λ (x : Bool × List ℕ). given (kind_byte x.0) x.1) i
        go false true h k e =
            let z : Bool × List ℕ = (false, s) in
            let w : Bool × List ℕ = (v, rest) in
            let i = some_is z w e in
            let c = eq_nat b 0x12 k in
            ap (λ (n : ℕ). given n s) c ∙ ap (λ (x : Bool × List ℕ). given (kind_byte x.0) x.1) i
        go false false h k e = absurd cc

    kinds_tie : (v w : Bool) → kind_byte v ≡ kind_byte w → v ≡ w
    kinds_tie true true e = refl
    kinds_tie true false e = absurd (omega (arith, e))
    kinds_tie false true e = absurd (omega (arith, e))
    kinds_tie false false e = refl

    inst_told : TypeTold (same_inst canon walk) (λ b n. whole.inst_at owners sub b n)
    unfolding same_inst
    inst_told s t m n x y e f =
        let p = is_inst sub owners s m x e in
        let q = is_inst sub owners t n y f in
        let a = is_head owners s p.head p.headed in
        let b = is_head owners t q.head q.headed in
        let byte = byte_told s t (kind_byte p.head.0, a.kind) (kind_byte q.head.0, b.kind) (kind_read s p.head.0 a.kind a.value) (kind_read t q.head.0 b.kind b.value) in
        let value = told_as (same_byte (s, t)) (kind_byte p.head.0) (kind_byte q.head.0) p.head.0 q.head.0 a.kind b.kind (kinds_tie p.head.0 q.head.0) (ap kind_byte) byte in
        let owner = owner_told a.kind b.kind (a.token, Name p.head.1, a.count) (b.token, Name q.head.1, b.count) a.owned b.owned in
        let name = told_as (same_owner canon (a.kind, b.kind)) (Name p.head.1) (Name q.head.1) p.head.1 q.head.1 a.count b.count (name_ties p.head.1 q.head.1) (ap Name) owner in
        let args = list_told a.count b.count (p.head.2, p.head.3) (q.head.2, q.head.3) m n (p.args, x.1, x.2) (q.args, y.1, y.2) a.counted b.counted p.read q.read in
        let second : Walk = λ b. same_list walk b in
        let first : Walk = λ a. same_owner canon a >>= second in
        let bc = told_then (same_owner canon (a.kind, b.kind)) second p.head.1 q.head.1 p.args q.args a.count b.count x.1 y.1 name args in
        let all = told_then (same_byte (s, t)) first p.head.0 q.head.0 (paired p.head.1 p.args) (paired q.head.1 q.args) a.kind b.kind x.1 y.1 value bc in
        told_as (same_inst canon walk (s, t)) (paired p.head.0 (paired p.head.1 p.args)) (paired q.head.0 (paired q.head.1 q.args)) x.0 y.0 x.1 y.1
        (λ h. sym p.made ∙ ap (λ (z : Bool × (TypeName × List SigType)). type.Inst z.0 z.1.0 z.1.1) h ∙ q.made)
        (λ h.
        let i = inst_ties p.head.0 q.head.0 p.head.1 q.head.1 p.args q.args (p.made ∙ h ∙ sym q.made) in
        let i0 = i.0 in let i1 = i.1 in let i2 = i.2 in
        cc) all

    -- a type behind its modifier
    mod_told : (limit : ℕ) (required : Bool) → TypeTold (same_mod canon walk) (λ b n. whole.modified_at owners sub limit required b n)
    unfolding same_mod
    mod_told limit required s t m n x y e f =
        let p = is_modified sub owners limit required s m x e in
        let q = is_modified sub owners limit required t n y f in
        let owner = owner_told s t p.owner q.owner p.owned q.owned in
        let of = told p.owner.2 q.owner.2 p.left q.left (p.of, x.1, x.2) (q.of, y.1, y.2) p.read q.read in
        let all = told_then (same_owner canon (s, t)) (λ a. walk a) p.owner.1 q.owner.1 p.of q.of p.owner.2 q.owner.2 x.1 y.1 owner of in
        told_as (same_mod canon walk (s, t)) (paired p.owner.1 p.of) (paired q.owner.1 q.of) x.0 y.0 x.1 y.1
        (λ h. sym p.made ∙ ap (λ (z : Owner × SigType). type.Mod required z.0 z.1) h ∙ q.made)
        (λ h.
        let i = mod_ties required required p.owner.1 q.owner.1 p.of q.of (p.made ∙ h ∙ sym q.made) in
        let i0 = i.0 in let i1 = i.1 in
        cc) all

    prim_told : (p : prim.Primitive) → TypeTold (λ at. Some at) (λ b n. left (type.Prim p) b n)
    prim_told p s t m n x y e f =
        let z : SigType × List ℕ × ℕ = (type.Prim p, s, m) in
        let w : SigType × List ℕ × ℕ = (type.Prim p, t, n) in
        subst (λ (x : SigType × List ℕ × ℕ). Told (both s t) x.0 y.0 x.1 y.1) (some_is z x e)
        (subst (λ (y : SigType × List ℕ × ℕ). Told (both s t) z.0 y.0 z.1 y.1) (some_is w y f) (inl (refl, refl)))

    parts_told : (limit : ℕ) (e : Element) → TypeTold (same_parts canon walk e) (λ b n. whole.parts_at owners sub limit e b n)
    parts_told limit (element.Prim p) = prim_told p
    parts_told limit element.Pointer = boxed_told type.Pointer pointer_ties
    parts_told limit element.ByRef = boxed_told type.ByRef by_ref_ties
    parts_told limit element.Value = named_told type.Value value_ties
    parts_told limit element.Class = named_told type.Class class_ties
    parts_told limit element.Var = numbered_told type.Var var_ties
    parts_told limit element.Array = array_told
    parts_told limit element.Inst = inst_told
    parts_told limit element.SzArray = boxed_told type.SzArray sz_array_ties
    parts_told limit element.MVar = numbered_told type.MVar mvar_ties
    parts_told limit element.Required = mod_told limit true
    parts_told limit element.Optional = mod_told limit false
    parts_told limit element.Pinned = boxed_told type.Pinned pinned_ties

    -- a type tells the byte with which it begins
    first_is : (limit : ℕ) (e : Element) (s : List ℕ) (m : ℕ) (x : SigType × List ℕ × ℕ) → whole.parts_at owners sub limit e s m ≡ Some x → first_byte x.0 ≡ element_byte e
    first_is limit (element.Prim p) s m x e =
        let z : SigType × List ℕ × ℕ = (type.Prim p, s, m) in
        ap (λ (x : SigType × List ℕ × ℕ). first_byte x.0) (sym (some_is z x e)) ∙ ap first_layer (type.outs-Prim p)
    first_is limit element.Pointer s m x e = let p = is_boxed sub type.Pointer s m x e in ap first_byte (sym p.made) ∙ ap first_layer (type.outs-Pointer p.of)
    first_is limit element.ByRef s m x e = let p = is_boxed sub type.ByRef s m x e in ap first_byte (sym p.made) ∙ ap first_layer (type.outs-ByRef p.of)
    first_is limit element.SzArray s m x e = let p = is_boxed sub type.SzArray s m x e in ap first_byte (sym p.made) ∙ ap first_layer (type.outs-SzArray p.of)
    first_is limit element.Pinned s m x e = let p = is_boxed sub type.Pinned s m x e in ap first_byte (sym p.made) ∙ ap first_layer (type.outs-Pinned p.of)
    first_is limit element.Value s m x e =
        let a = bind_some (whole.declared_at owners s) (λ name. Some (type.Value name.0, name.1, m)) x e in
        let z : SigType × List ℕ × ℕ = (type.Value a.0.0, a.0.1, m) in
        ap (λ (x : SigType × List ℕ × ℕ). first_byte x.0) (sym (some_is z x a.2)) ∙ ap first_layer (type.outs-Value a.0.0)
    first_is limit element.Class s m x e =
        let a = bind_some (whole.declared_at owners s) (λ name. Some (type.Class name.0, name.1, m)) x e in
        let z : SigType × List ℕ × ℕ = (type.Class a.0.0, a.0.1, m) in
        ap (λ (x : SigType × List ℕ × ℕ). first_byte x.0) (sym (some_is z x a.2)) ∙ ap first_layer (type.outs-Class a.0.0)
    first_is limit element.Var s m x e =
        let a = bind_some (variable_at s) (λ k. Some (type.Var k.0, k.1, m)) x e in
        let z : SigType × List ℕ × ℕ = (type.Var a.0.0, a.0.1, m) in
        ap (λ (x : SigType × List ℕ × ℕ). first_byte x.0) (sym (some_is z x a.2)) ∙ ap first_layer (type.outs-Var a.0.0)
    first_is limit element.MVar s m x e =
        let a = bind_some (variable_at s) (λ k. Some (type.MVar k.0, k.1, m)) x e in
        let z : SigType × List ℕ × ℕ = (type.MVar a.0.0, a.0.1, m) in
        ap (λ (x : SigType × List ℕ × ℕ). first_byte x.0) (sym (some_is z x a.2)) ∙ ap first_layer (type.outs-MVar a.0.0)
    first_is limit element.Array s m x e =
        let p = is_array sub s m x e in ap first_byte (sym p.made) ∙ ap first_layer (type.outs-Array p.of p.shape.0 p.shape.1 p.shape.2)
    first_is limit element.Inst s m x e =
        let p = is_inst sub owners s m x e in ap first_byte (sym p.made) ∙ ap first_layer (type.outs-Inst p.head.0 p.head.1 p.args)
    first_is limit element.Required s m x e =
        let p = is_modified sub owners limit true s m x e in ap first_byte (sym p.made) ∙ ap first_layer (type.outs-Mod true p.owner.1 p.of)
    first_is limit element.Optional s m x e =
        let p = is_modified sub owners limit false s m x e in ap first_byte (sym p.made) ∙ ap first_layer (type.outs-Mod false p.owner.1 p.of)

  -- ---- types

  same_element : (b c : ℕ) (e f : Element) → b ≡ c → element_of b ≡ Some e → element_of c ≡ Some f → e ≡ f
  same_element b c e f h j k = some_is e f (sym j ∙ ap element_of h ∙ k)

  pub type_told : (depth : ℕ) → TypeTold (same_type canon depth) (whole.type_at owners depth)
  unfolding same_type whole.type_at
  type_told zero s t m n x y e f = absurd cc
  type_told (suc depth) s t zero n x y e f = absurd cc
  type_told (suc depth) s t (suc m) zero x y e f = absurd cc
  type_told (suc depth) s t (suc m) (suc n) x y e f =
      let p = has_element owners depth s m x e in
      let q = has_element owners depth t n y f in
      let walk = same_type canon depth in
      let sub = whole.type_at owners depth in
      let w = same_parts canon walk p.element (p.behind, q.behind) in
      told_by (same_type canon (suc depth) (s, t)) (cond (nat_eq p.byte q.byte) w None) x.0 y.0 x.1 y.1 (rw (p.first, q.first, p.is) refl)
      (nat_chosen p.byte q.byte x.0 y.0 w x.1 y.1
      (λ k.
      let same = same_element q.byte p.byte q.element p.element (sym k) q.is p.is in
      let parts : whole.parts_at owners sub depth p.element q.behind n ≡ Some y = subst (λ (z : Element). whole.parts_at owners sub depth z q.behind n ≡ Some y) same q.parts in
      parts_told walk sub (type_told depth) depth p.element p.behind q.behind m n x y p.parts parts)
      (λ k.
      element_is p.byte p.element p.is ∙ sym (first_is walk sub (type_told depth) depth p.element p.behind m x p.parts) ∙ ap first_byte k
      ∙ first_is walk sub (type_told depth) depth q.element q.behind n y q.parts ∙ sym (element_is q.byte q.element q.is)))
