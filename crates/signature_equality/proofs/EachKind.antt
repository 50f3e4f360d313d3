-- The walk along two whole signatures of each kind.
use Rattle.std.proofs.Common.{◌≡◌, ◌↔◌, ℕ, zero, suc, ◌+◌, ◌-◌, ◌≤◌, ◌<◌, ◌⊎◌, inl, inr, Bool, true, false, cond, nat_lt, nat_eq, ◌&&◌, List, [], ◌∷◌, ◌++◌, length, Option, Some, None, refl, sym, ap, subst, ◌∙◌, arith, length-append}
use Rattle.std.proofs.lemmas.Grind.{common_steps}
use Rattle.std.proofs.lemmas.List.{append_cancel_left}
use Rattle.std.specs.Option.{option_map}
use Rattle.std.specs.Prelude.{IsTrue, is_some}
use Rattle.type_terms.specs.declared.reference.MethodSig.{MethodSig}
use Rattle.type_terms.specs.declared.term.Owner.{Owner}
use Rattle.type_terms.specs.declared.term.SigType.{SigType}
use Rattle.sig_codec.specs.Reading as whole
use Rattle.sig_codec.specs.Reading.{◌>>=◌, Step, Read, TypeStep, byte_at, number_at, ended}
use Rattle.sig_codec.specs.Signature.{max_depth, max_nodes, method_byte, property_byte}
use Rattle.sig_codec.proofs.Methods.{method_whole, property_whole}
use Rattle.sig_codec.proofs.Numbers.{some_is, bind_some}
use Rattle.sig_codec.proofs.StepParts.{let_through}
use Rattle.signature_facts.specs.Scanning as scan
use Rattle.signature_facts.proofs.Told.{left}
use Rattle.signature_facts.proofs.WholeTold.{all_counted, few_types}
use Rattle.signature_equality.specs.declared.pair.Pair.{Pair}
use Rattle.signature_equality.specs.Numbering.{IsCanon}
use Rattle.signature_equality.specs.Walking.{Both, both, Canon, Walk, same_byte, same_types, same_all, same_list, same_type, same_params, same_field, same_locals, same_head, same_method, same_property_head, same_property}
use Rattle.signature_equality.proofs.Told.{Told, paired, told_then, told_as, told_by, nat_chosen, byte_told, TypeTold, ListTold, types_told, all_told, list_told, type_told}

told_is : {X : Type 0} (r : Option Both) (x y : X) (a b : List ℕ) → Told r x y a b → IsTrue (is_some r) ↔ (x ≡ y)
told_is r x y a b (inl h) = ((λ t. h.1), (λ e. ap is_some h.0))
told_is r x y a b (inr h) = ((λ t. absurd (let f = sym (ap is_some h.0) ∙ t in cc)), (λ e. absurd (h.1 e)))

-- what a call answers for a walk
pub answered : (r : Option Pair) (q : Option Both) (b : Bool) (P : Type 0) → option_map (λ (x : Pair). paired x.a.now x.b.now) r ≡ q → b ≡ is_some r → IsTrue (is_some q) ↔ P → IsTrue b ↔ P
answered r q b P e f h = subst (λ (z : Bool). IsTrue z ↔ P) (sym (f ∙ mapped r ∙ ap is_some e)) h
  where
    mapped : (r : Option Pair) → is_some r ≡ is_some (option_map (λ (x : Pair). paired x.a.now x.b.now) r)
    mapped None = refl
    mapped (Some x) = refl

-- a value that was read to the end
end_is : {A : Type 0} (read : A × List ℕ × ℕ) (v : A) → ended read ≡ Some v → read.0 ≡ v
end_is read v e = (let_through (nat_eq (length read.1) 0) read.0 v e).1

eq_nat : (n m : ℕ) → nat_eq n m ≡ true → n ≡ m
eq_nat n m e = grind (arith, common_steps)

nat_is : (n m : ℕ) → n ≡ m → nat_eq n m ≡ true
nat_is n m e = grind (arith, common_steps)

moved_both : {X : Type 0} (r : Option Both) (x y u v : X) (a b : List ℕ) → x ≡ u → y ≡ v → Told r x y a b → Told r u v a b
moved_both r x y u v a b e f h = told_as r x y u v a b (λ k. sym e ∙ k ∙ f) (λ k. e ∙ k ∙ sym f) h

module _ (owners : ℕ → Option Owner) (canon : Canon) (is : IsCanon owners canon) where
  abbrev sub : TypeStep
  sub = whole.type_at owners max_depth

  abbrev walk : Walk
  walk = same_type canon max_depth

  sub_told : TypeTold owners canon is walk sub
  sub_told = type_told owners canon is max_depth

  -- ---- types and fields

  -- what was read of a type by all of some bytes
  type_read : (b : List ℕ) (t : SigType) → whole.whole_type owners b ≡ Some t → (x : SigType × List ℕ × ℕ) × (sub b max_nodes ≡ Some x) × (x.0 ≡ t)
  unfolding whole.whole_type
  type_read b t e =
      let a = bind_some (sub b max_nodes) (λ t. ended t) t e in
      (a.0, a.1, end_is a.0 t a.2)

  type_walked : (a b : List ℕ) (s t : SigType) → whole.whole_type owners a ≡ Some s → whole.whole_type owners b ≡ Some t → (c : List ℕ) × ((d : List ℕ) × Told (walk (a, b)) s t c d)
  type_walked a b s t e f =
      let p = type_read a s e in
      let q = type_read b t f in
      (p.0.1, (q.0.1, moved_both (walk (a, b)) p.0.0 q.0.0 s t p.0.1 q.0.1 p.2 q.2 (sub_told a b max_nodes max_nodes p.0 q.0 p.1 q.1)))

  pub type_is : (a b : List ℕ) (s t : SigType) → whole.whole_type owners a ≡ Some s → whole.whole_type owners b ≡ Some t → IsTrue (is_some (same_type canon max_depth (a, b))) ↔ (s ≡ t)
  type_is a b s t e f = let w = type_walked a b s t e f in told_is (walk (a, b)) s t w.0 w.1.0 w.1.1

  -- what stands behind a first byte that is known
  tagged : {A : Type 0} (tag : ℕ) (go : List ℕ → Option A) (b : List ℕ) (v : A) → (byte_at b >>= λ (x : ℕ × List ℕ). cond (nat_eq x.0 tag) (go x.1) None) ≡ Some v
      → (x : ℕ × List ℕ) × (byte_at b ≡ Some x) × (x.0 ≡ tag) × (go x.1 ≡ Some v)
  tagged {A = A} tag go b v e =
      let a = bind_some (byte_at b) (λ (x : ℕ × List ℕ). cond (nat_eq x.0 tag) (go x.1) None) v e in
      let c = taken (nat_eq a.0.0 tag) (go a.0.1) a.2 in
      (a.0, a.1, eq_nat a.0.0 tag c.0, c.1)
    where
      taken : (t : Bool) (r : Option A) → cond t r None ≡ Some v → (t ≡ true) × (r ≡ Some v)
      taken true r h = (refl, h)
      taken false r h = absurd cc

  -- a byte that is the same, and what is told of the rest
  behind_byte : {X : Type 0} (k : Walk) (a b : List ℕ) (x y : ℕ × List ℕ) (u v : X) (c d : List ℕ) → byte_at a ≡ Some x → byte_at b ≡ Some y → x.0 ≡ y.0
      → Told (k (x.1, y.1)) u v c d → Told (same_byte (a, b) >>= k) u v c d
  behind_byte {X = X} k a b x y u v c d e f same h =
      let r = same_byte (a, b) >>= k in
      told_as r (paired x.0 u) (paired y.0 v) u v c d (λ i. ap (λ (z : ℕ × X). z.1) i) (λ i. ap (λ (n : ℕ). paired n u) same ∙ ap (λ (z : X). paired y.0 z) i)
      (told_then (same_byte (a, b)) k x.0 y.0 u v x.1 y.1 c d (byte_told a b x y e f) h)

  pub field_is : (a b : List ℕ) (s t : SigType) → whole.whole_field owners a ≡ Some s → whole.whole_field owners b ≡ Some t → IsTrue (is_some (same_field canon (a, b))) ↔ (s ≡ t)
  unfolding whole.whole_field same_field
  field_is a b s t e f =
      let p = tagged 0x06 (whole.whole_type owners) a s e in
      let q = tagged 0x06 (whole.whole_type owners) b t f in
      let w = type_walked p.0.1 q.0.1 s t p.3 q.3 in
      told_is (same_field canon (a, b)) s t w.0 w.1.0 (behind_byte (λ a. walk a) a b p.0 q.0 s t w.0 w.1.0 p.1 q.1 (p.2 ∙ sym q.2) w.1.1)

  -- ---- lists of types

  types_read : (b : List ℕ) (ts : List SigType) → whole.whole_types owners b ≡ Some ts
      → (c : ℕ × List ℕ) × ((x : List SigType × List ℕ × ℕ) × (number_at b ≡ Some c) × (whole.all_types_at sub c.0 c.1 max_nodes ≡ Some x) × (x.0 ≡ ts))
  unfolding whole.whole_types
  types_read b ts e =
      let second : (ℕ × List ℕ) → Option (List SigType) = λ c. whole.all_types_at sub c.0 c.1 max_nodes >>= λ ts. ended ts in
      let a = bind_some (number_at b) second ts e in
      let c = bind_some (whole.all_types_at sub a.0.0 a.0.1 max_nodes) (λ ts. ended ts) ts a.2 in
      (a.0, (c.0, a.1, c.1, end_is c.0 ts c.2))

  types_walked : (a b : List ℕ) (s t : List SigType) → whole.whole_types owners a ≡ Some s → whole.whole_types owners b ≡ Some t → (c : List ℕ) × ((d : List ℕ) × Told (same_list walk (a, b)) s t c d)
  types_walked a b s t e f =
      let p = types_read a s e in
      let q = types_read b t f in
      let told = list_told owners canon is walk sub sub_told a b p.0 q.0 max_nodes max_nodes p.1.0 q.1.0 p.1.1 q.1.1 p.1.2 q.1.2 in
      (p.1.0.1, (q.1.0.1, moved_both (same_list walk (a, b)) p.1.0.0 q.1.0.0 s t p.1.0.1 q.1.0.1 p.1.3 q.1.3 told))

  list_is : (tag : ℕ) (a b : List ℕ) (s t : List SigType) (x y : ℕ × List ℕ) → byte_at a ≡ Some x → byte_at b ≡ Some y → x.0 ≡ tag → y.0 ≡ tag
      → whole.whole_types owners x.1 ≡ Some s → whole.whole_types owners y.1 ≡ Some t → IsTrue (is_some (same_locals canon (a, b))) ↔ (s ≡ t)
  unfolding same_locals
  list_is tag a b s t x y e f i j g h =
      let w = types_walked x.1 y.1 s t g h in
      told_is (same_locals canon (a, b)) s t w.0 w.1.0 (behind_byte (λ a. same_list walk a) a b x y s t w.0 w.1.0 e f (i ∙ sym j) w.1.1)

  pub locals_is : (a b : List ℕ) (s t : List SigType) → whole.whole_locals owners a ≡ Some s → whole.whole_locals owners b ≡ Some t → IsTrue (is_some (same_locals canon (a, b))) ↔ (s ≡ t)
  unfolding whole.whole_locals
  locals_is a b s t e f =
      let p = tagged 0x07 (whole.whole_types owners) a s e in
      let q = tagged 0x07 (whole.whole_types owners) b t f in
      list_is 0x07 a b s t p.0 q.0 p.1 q.1 p.2 q.2 p.3 q.3

  some_read : (b : List ℕ) (ts : List SigType) → (whole.whole_types owners b >>= whole.some_types) ≡ Some ts → whole.whole_types owners b ≡ Some ts
  some_read b ts e =
      let a = bind_some (whole.whole_types owners b) whole.some_types ts e in
      a.1 ∙ kept (nat_eq (length a.0) 0) a.0 a.2
    where
      kept : (t : Bool) (us : List SigType) → cond t None (Some us) ≡ Some ts → Some us ≡ Some ts
      kept true us h = absurd cc
      kept false us h = h

  pub instantiation_is : (a b : List ℕ) (s t : List SigType) → whole.whole_instantiation owners a ≡ Some s → whole.whole_instantiation owners b ≡ Some t
      → IsTrue (is_some (same_locals canon (a, b))) ↔ (s ≡ t)
  unfolding whole.whole_instantiation
  instantiation_is a b s t e f =
      let p = tagged 0x0A (λ b. whole.whole_types owners b >>= whole.some_types) a s e in
      let q = tagged 0x0A (λ b. whole.whole_types owners b >>= whole.some_types) b t f in
      list_is 0x0A a b s t p.0 q.0 p.1 q.1 p.2 q.2 (some_read p.0.1 s p.3) (some_read q.0.1 t q.3)

  -- ---- parameters

  abbrev Params : Type 0
  Params = List SigType × Option ℕ × List ℕ × ℕ

  abbrev params : List SigType → Option ℕ → List ℕ → ℕ → Option Params
  params ps sentinel rest many = Some (ps, sentinel, rest, many)

  -- parameters as they were read: all at once, or with a sentinel between them
  data Parted (count : ℕ) (s : List ℕ) (m : ℕ) (p : Params) : Type 0 where
    alone : (x : List SigType × List ℕ × ℕ) → whole.types_at sub count s m ≡ Some x → length x.0 ≡ count → params x.0 None x.1 x.2 ≡ Some p → Parted count s m p
    around : (x o : List SigType × List ℕ × ℕ) (mark : ℕ × List ℕ) → whole.types_at sub count s m ≡ Some x → length x.0 < count → byte_at x.1 ≡ Some mark
        → whole.all_types_at sub (count - length x.0) mark.1 x.2 ≡ Some o → params (x.0 ++ o.0) (Some (length x.0)) o.1 o.2 ≡ Some p → Parted count s m p

  parted : (count : ℕ) (s : List ℕ) (m : ℕ) (p : Params) → whole.params_at sub count s m ≡ Some p → Parted count s m p
  unfolding whole.params_at
  parted count s m p e =
      let next : (List SigType × List ℕ × ℕ) → Option Params = λ f. cond (nat_lt (length f.0) count) (whole.others_at sub count f) (params f.0 None f.1 f.2) in
      let a = bind_some (whole.types_at sub count s m) next p e in
      go a.0 a.1 (few_types sub count s m a.0 a.1) (nat_lt (length a.0.0) count) refl a.2
    where
      go : (x : List SigType × List ℕ × ℕ) → whole.types_at sub count s m ≡ Some x → length x.0 ≤ count → (t : Bool) → nat_lt (length x.0) count ≡ t
          → cond t (whole.others_at sub count x) (params x.0 None x.1 x.2) ≡ Some p → Parted count s m p
      go x r few true short h =
          let last : (List SigType × List ℕ × ℕ) → Option Params = λ o. params (x.0 ++ o.0) (Some (length x.0)) o.1 o.2 in
          let second : (ℕ × List ℕ) → Option Params = λ m. whole.all_types_at sub (count - length x.0) m.1 x.2 >>= last in
          let c = bind_some (byte_at x.1) second p h in
          let d = bind_some (whole.all_types_at sub (count - length x.0) c.0.1 x.2) last p c.2 in
          let lt : length x.0 < count = grind (arith, common_steps) in
          around x d.0 c.0 r lt c.1 d.1 d.2
      go x r few false full h =
          let ge : count ≤ length x.0 = grind (arith, common_steps) in
          alone x r (omega arith) h

  abbrev no_sentinel : Option ℕ
  no_sentinel = None

  abbrev parts_of : Params → List SigType × Option ℕ
  parts_of p = (p.0, p.1)

  abbrev sentinel_number : Option ℕ → ℕ
  sentinel_number None = 0
  sentinel_number (Some n) = suc n

  abbrev next_params : ℕ × List ℕ × List ℕ → Option Both
  next_params x = cond (nat_eq x.0 0) (both x.1 x.2) (byte_at x.1 >>= λ (a : ℕ × List ℕ). byte_at x.2 >>= λ (b : ℕ × List ℕ). same_all walk x.0 (a.1, b.1))

  alone_told : (count : ℕ) (r : Option (ℕ × List ℕ × List ℕ)) (xs ys : List SigType) (a b : List ℕ) → length xs ≡ count → ListTold owners canon is r count xs ys a b
      → Told (r >>= next_params) (paired xs no_sentinel) (paired ys None) a b
  alone_told count r xs ys a b k (inl h) =
      let z : count - length xs ≡ 0 = omega arith in
      inl (rw (h.0, z) refl, ap (λ (z : List SigType). paired z None) h.1)
  alone_told count r xs ys a b k (inr h) = inr (rw h.0 refl, λ e. h.1 (ap (λ (z : List SigType × Option ℕ). z.0) e))

  around_told : (count : ℕ) (r : Option (ℕ × List ℕ × List ℕ)) (x y o q : List SigType × List ℕ × ℕ) (j k : ℕ × List ℕ) → length x.0 < count
      → byte_at x.1 ≡ Some j → byte_at y.1 ≡ Some k → whole.all_types_at sub (count - length x.0) j.1 x.2 ≡ Some o → whole.all_types_at sub (count - length y.0) k.1 y.2 ≡ Some q
      → ListTold owners canon is r count x.0 y.0 x.1 y.1
      → Told (r >>= next_params) (paired (x.0 ++ o.0) (Some (length x.0))) (paired (y.0 ++ q.0) (Some (length y.0))) o.1 q.1
  around_told count r x y o q j k lt e f g h (inl i) =
      let more = count - length x.0 in
      let long : length x.0 ≡ length y.0 = ap length i.1 in
      let some : nat_eq more 0 ≡ false = grind (arith, common_steps) in
      let second : whole.all_types_at sub more k.1 y.2 ≡ Some q = subst (λ (n : ℕ). whole.all_types_at sub (count - n) k.1 y.2 ≡ Some q) (sym long) h in
      let others = all_told owners canon is walk sub sub_told more j.1 k.1 x.2 y.2 o q g second in
      let w = same_all walk more (j.1, k.1) in
      let computed : (r >>= next_params) ≡ w = rw (i.0, some, e, f) refl in
      told_by (r >>= next_params) w (paired (x.0 ++ o.0) (Some (length x.0))) (paired (y.0 ++ q.0) (Some (length y.0))) o.1 q.1 computed
      (told_as w o.0 q.0 (paired (x.0 ++ o.0) (Some (length x.0))) (paired (y.0 ++ q.0) (Some (length y.0))) o.1 q.1
      (λ z. ap (λ (us : List SigType). paired (us ++ o.0) (Some (length us))) i.1 ∙ ap (λ (us : List SigType). paired (y.0 ++ us) (Some (length y.0))) z)
      (λ z. append_cancel_left y.0 o.0 q.0 (ap (λ (us : List SigType). us ++ o.0) (sym i.1) ∙ ap (λ (p : List SigType × Option ℕ). p.0) z))
      others)
  around_told count r x y o q j k lt e f g h (inr i) =
      inr (rw i.0 refl, λ z. i.1 (fronts x.0 y.0 o.0 q.0 (ap (λ (p : List SigType × Option ℕ). p.0) z) (let l = ap (λ (p : List SigType × Option ℕ). sentinel_number p.1) z in omega arith)))
    where
      fronts : (xs ys us vs : List SigType) → xs ++ us ≡ ys ++ vs → length xs ≡ length ys → xs ≡ ys
      fronts [] [] us vs e l = refl
      fronts [] (y ∷ ys) us vs e l = absurd (omega arith)
      fronts (x ∷ xs) [] us vs e l = absurd (omega arith)
      fronts (x ∷ xs) (y ∷ ys) us vs e l =
          let a : x ≡ y = cc in
          let b : xs ++ us ≡ ys ++ vs = cc in
          ap (λ (z : SigType). z ∷ xs) a ∙ ap (λ (zs : List SigType). y ∷ zs) (fronts xs ys us vs b (omega arith))

  -- one with a sentinel, one without
  unlike_told : (count : ℕ) (r : Option (ℕ × List ℕ × List ℕ)) (xs ys us : List SigType) (k : ℕ) (a b c d : List ℕ) → length xs ≡ count → length ys < count
      → ListTold owners canon is r count xs ys a b → (r ≡ None) × (paired xs no_sentinel ≡ paired us (Some k) → ⊥)
  unlike_told count r xs ys us k a b c d e lt (inl h) = absurd (let l = ap length h.1 in omega arith)
  unlike_told count r xs ys us k a b c d e lt (inr h) = (h.0, λ z. absurd (let l = ap (λ (p : List SigType × Option ℕ). sentinel_number p.1) z in omega arith))

  unlike_other : (count : ℕ) (r : Option (ℕ × List ℕ × List ℕ)) (xs ys us : List SigType) (k : ℕ) (a b : List ℕ) → length xs < count → length ys ≡ count
      → ListTold owners canon is r count xs ys a b → (r ≡ None) × (paired us (Some k) ≡ paired ys no_sentinel → ⊥)
  unlike_other count r xs ys us k a b lt e (inl h) = absurd (let l = ap length h.1 in omega arith)
  unlike_other count r xs ys us k a b lt e (inr h) = (h.0, λ z. absurd (let l = ap (λ (p : List SigType × Option ℕ). sentinel_number p.1) z in omega arith))

  params_cases : (count : ℕ) (s t : List ℕ) (m n : ℕ) (p q : Params) → Parted count s m p → Parted count t n q → Told (same_params walk count (s, t)) (parts_of p) (parts_of q) p.2 q.2
  unfolding same_params
  params_cases count s t m n p q (alone x e k h) (alone y f l i) =
      let z : Params = (x.0, None, x.1, x.2) in
      let w : Params = (y.0, None, y.1, y.2) in
      let r = same_params walk count (s, t) in
      let told = alone_told count (same_types walk count (s, t)) x.0 y.0 x.1 y.1 k (types_told owners canon is walk sub sub_told count s t m n x y e f) in
      subst (λ (p : Params). Told r (parts_of p) (parts_of q) p.2 q.2) (some_is z p h) (subst (λ (q : Params). Told r (parts_of z) (parts_of q) z.2 q.2) (some_is w q i) told)
  params_cases count s t m n p q (around x o j e lt b c h) (around y u k f mt d g i) =
      let z : Params = (x.0 ++ o.0, Some (length x.0), o.1, o.2) in
      let w : Params = (y.0 ++ u.0, Some (length y.0), u.1, u.2) in
      let r = same_params walk count (s, t) in
      let told = around_told count (same_types walk count (s, t)) x y o u j k lt b d c g (types_told owners canon is walk sub sub_told count s t m n x y e f) in
      subst (λ (p : Params). Told r (parts_of p) (parts_of q) p.2 q.2) (some_is z p h) (subst (λ (q : Params). Told r (parts_of z) (parts_of q) z.2 q.2) (some_is w q i) told)
  params_cases count s t m n p q (alone x e k h) (around y u j f mt d g i) =
      let z : Params = (x.0, None, x.1, x.2) in
      let w : Params = (y.0 ++ u.0, Some (length y.0), u.1, u.2) in
      let r = same_params walk count (s, t) in
      let no = unlike_told count (same_types walk count (s, t)) x.0 y.0 (y.0 ++ u.0) (length y.0) x.1 y.1 u.1 u.1 k mt (types_told owners canon is walk sub sub_told count s t m n x y e f) in
      subst (λ (p : Params). Told r (parts_of p) (parts_of q) p.2 q.2) (some_is z p h) (subst (λ (q : Params). Told r (parts_of z) (parts_of q) z.2 q.2) (some_is w q i) (inr (rw no.0 refl, no.1)))
  params_cases count s t m n p q (around x o j e lt b c h) (alone y f l i) =
      let z : Params = (x.0 ++ o.0, Some (length x.0), o.1, o.2) in
      let w : Params = (y.0, None, y.1, y.2) in
      let r = same_params walk count (s, t) in
      let no = unlike_other count (same_types walk count (s, t)) x.0 y.0 (x.0 ++ o.0) (length x.0) x.1 y.1 lt l (types_told owners canon is walk sub sub_told count s t m n x y e f) in
      subst (λ (p : Params). Told r (parts_of p) (parts_of q) p.2 q.2) (some_is z p h) (subst (λ (q : Params). Told r (parts_of z) (parts_of q) z.2 q.2) (some_is w q i) (inr (rw no.0 refl, no.1)))

  params_told : (count : ℕ) (s t : List ℕ) (m n : ℕ) (p q : Params) → whole.params_at sub count s m ≡ Some p → whole.params_at sub count t n ≡ Some q
      → Told (same_params walk count (s, t)) (parts_of p) (parts_of q) p.2 q.2
  params_told count s t m n p q e f = params_cases count s t m n p q (parted count s m p e) (parted count t n q f)

  params_long : (count : ℕ) (s : List ℕ) (m : ℕ) (p : Params) → whole.params_at sub count s m ≡ Some p → length p.0 ≡ count
  params_long count s m p e = go (parted count s m p e)
    where
      go : Parted count s m p → length p.0 ≡ count
      go (alone x r k h) = let z : Params = (x.0, None, x.1, x.2) in ap (λ (y : Params). length y.0) (sym (some_is z p h)) ∙ k
      go (around x o j r lt b c h) =
          let z : Params = (x.0 ++ o.0, Some (length x.0), o.1, o.2) in
          let long : length p.0 ≡ length (x.0 ++ o.0) = ap (λ (y : Params). length y.0) (sym (some_is z p h)) in
          let more = all_counted sub (count - length x.0) j.1 x.2 o c in
          omega (arith, long, more, lt, length-append x.0 o.0)

  -- ---- methods

  abbrev Call : Type 0
  Call = Bool × Bool × Bool × Bool

  abbrev sig_of : Call → ℕ → SigType → List SigType × Option ℕ → MethodSig
  sig_of call generic ret p = record { has_this = call.1; explicit_this = call.2; vararg = call.0; generic = generic; ret = ret; params = p.0; sentinel = p.1 }

  -- a method as it was read
  record MethodRead (b : List ℕ) (s : MethodSig) : Type 0 where
    byte : ℕ × List ℕ
    call : Call
    generic : ℕ × List ℕ
    count : ℕ × List ℕ
    ret : SigType × List ℕ × ℕ
    params : Params
    first : byte_at b ≡ Some byte
    called : whole.convention_of byte.0 ≡ Some call
    numbered : whole.generics_at call.3 byte.1 ≡ Some generic
    counted : number_at generic.1 ≡ Some count
    returned : sub count.1 max_nodes ≡ Some ret
    passed : whole.params_at sub count.0 ret.1 ret.2 ≡ Some params
    made : sig_of call generic.0 ret.0 (parts_of params) ≡ s

  method_read : (b : List ℕ) (s : MethodSig) → whole.whole_method owners b ≡ Some s → MethodRead b s
  unfolding whole.whole_method
  method_read b s e =
      let sixth : Call → ℕ → SigType → Params → Option MethodSig = λ call g ret p. cond (nat_eq (length p.2) 0) (Some (sig_of call g ret (parts_of p))) None in
      let fifth : Call → ℕ → ℕ → (SigType × List ℕ × ℕ) → Option MethodSig = λ call g n ret. whole.params_at sub n ret.1 ret.2 >>= sixth call g ret.0 in
      let fourth : Call → ℕ → (ℕ × List ℕ) → Option MethodSig = λ call g c. sub c.1 max_nodes >>= fifth call g c.0 in
      let third : Call → (ℕ × List ℕ) → Option MethodSig = λ call g. number_at g.1 >>= fourth call g.0 in
      let second : List ℕ → Call → Option MethodSig = λ rest call. whole.generics_at call.3 rest >>= third call in
      let first : (ℕ × List ℕ) → Option MethodSig = λ b. whole.convention_of b.0 >>= second b.1 in
      let p = bind_some (byte_at b) first s e in
      let q = bind_some (whole.convention_of p.0.0) (second p.0.1) s p.2 in
      let r = bind_some (whole.generics_at q.0.3 p.0.1) (third q.0) s q.2 in
      let c = bind_some (number_at r.0.1) (fourth q.0 r.0.0) s r.2 in
      let t = bind_some (sub c.0.1 max_nodes) (fifth q.0 r.0.0 c.0.0) s c.2 in
      let a = bind_some (whole.params_at sub c.0.0 t.0.1 t.0.2) (sixth q.0 r.0.0 t.0.0) s t.2 in
      let z = let_through (nat_eq (length a.0.2) 0) (sig_of q.0 r.0.0 t.0.0 (parts_of a.0)) s a.2 in
      record { byte = p.0; call = q.0; generic = r.0; count = c.0; ret = t.0; params = a.0; first = p.1; called = q.1; numbered = r.1; counted = c.1; returned = t.1; passed = a.1; made = z.1 }

  -- the first byte is told by the signature
  byte_is : (b : List ℕ) (s : MethodSig) (x : ℕ × List ℕ) → whole.whole_method owners b ≡ Some s → byte_at b ≡ Some x → x.0 ≡ method_byte s
  byte_is b s x e f =
      let spelled = (method_whole owners b s e).0 in
      let rest = spelled.a ++ (spelled.b ++ (spelled.c ++ spelled.d)) in
      let z : ℕ × List ℕ = (method_byte s, rest) in
      let g : Some z ≡ Some x = ap byte_at (sym spelled.whole) ∙ f in
      ap (λ (y : ℕ × List ℕ). y.0) (sym (some_is z x g))

  counts_read : (b : List ℕ) (s : MethodSig) (p : MethodRead b s) → scan.counts_at b ≡ Some (p.generic.0, p.count.0, p.count.1)
  unfolding scan.counts_at scan.is_generic
  counts_read b s p = rw (p.first, p.called, p.numbered, p.counted) refl

  abbrev head_test : ℕ → ℕ → ℕ → ℕ → ℕ → ℕ → Bool
  head_test a b g h m n = nat_eq a b && (nat_eq g h && nat_eq m n)

  head_same : (a b g h m n : ℕ) → head_test a b g h m n ≡ true → (a ≡ b) × (g ≡ h) × (m ≡ n)
  head_same a b g h m n e = (grind (arith, common_steps), grind (arith, common_steps), grind (arith, common_steps))

  same_heads : (a b g h m n : ℕ) → a ≡ b → g ≡ h → m ≡ n → head_test a b g h m n ≡ true
  same_heads a b g h m n e f i = rw (nat_is a b e, nat_is g h f, nat_is m n i) refl

  method_told : (a b : List ℕ) (s t : MethodSig) → whole.whole_method owners a ≡ Some s → whole.whole_method owners b ≡ Some t → (c : List ℕ) × ((d : List ℕ) × Told (same_method canon (a, b)) s t c d)
  unfolding same_method same_head
  method_told a b s t e f =
      let p = method_read a s e in
      let q = method_read b t f in
      let r = same_method canon (a, b) in
      let counts = counts_read a s p in
      let others = counts_read b t q in
      let body : Option Both = walk (p.count.1, q.count.1) >>= λ x. same_params walk p.count.0 x in (
        p.params.2,
        (
          q.params.2,
          told_by r (cond (head_test p.byte.0 q.byte.0 p.generic.0 q.generic.0 p.count.0 q.count.0) (Some (p.count.0, p.count.1, q.count.1)) None >>= λ (x : ℕ × List ℕ × List ℕ). walk (x.1, x.2) >>= λ y. same_params walk x.0 y) s t p.params.2 q.params.2
              (rw (p.first, q.first, counts, others) refl)
              (go p q (head_test p.byte.0 q.byte.0 p.generic.0 q.generic.0 p.count.0 q.count.0) refl),
        ),
      )
    where
      go : (p : MethodRead a s) (q : MethodRead b t) (h : Bool) → head_test p.byte.0 q.byte.0 p.generic.0 q.generic.0 p.count.0 q.count.0 ≡ h
          → Told (cond h (Some (p.count.0, p.count.1, q.count.1)) None >>= λ (x : ℕ × List ℕ × List ℕ). walk (x.1, x.2) >>= λ y. same_params walk x.0 y) s t p.params.2 q.params.2
      go p q true h =
          let same = head_same p.byte.0 q.byte.0 p.generic.0 q.generic.0 p.count.0 q.count.0 h in
          let call : p.call ≡ q.call = some_is p.call q.call (sym p.called ∙ ap whole.convention_of same.0 ∙ q.called) in
          let passed : whole.params_at sub p.count.0 q.ret.1 q.ret.2 ≡ Some q.params = subst (λ (n : ℕ). whole.params_at sub n q.ret.1 q.ret.2 ≡ Some q.params) (sym same.2) q.passed in
          let ret = sub_told p.count.1 q.count.1 max_nodes max_nodes p.ret q.ret p.returned q.returned in
          let args = params_told p.count.0 p.ret.1 q.ret.1 p.ret.2 q.ret.2 p.params q.params p.passed passed in
          let w : Option Both = walk (p.count.1, q.count.1) >>= λ x. same_params walk p.count.0 x in
          let all = told_then (walk (p.count.1, q.count.1)) (λ x. same_params walk p.count.0 x) p.ret.0 q.ret.0 (parts_of p.params) (parts_of q.params) p.ret.1 q.ret.1 p.params.2 q.params.2 ret args in
          told_as w (paired p.ret.0 (parts_of p.params)) (paired q.ret.0 (parts_of q.params)) s t p.params.2 q.params.2
          (λ z.
          sym p.made ∙ ap (λ (c : Call). sig_of c p.generic.0 p.ret.0 (parts_of p.params)) call ∙ ap (λ (g : ℕ). sig_of q.call g p.ret.0 (parts_of p.params)) same.1
          ∙ ap (λ (x : SigType × (List SigType × Option ℕ)). sig_of q.call q.generic.0 x.0 x.1) z ∙ q.made)
          (λ z.
          let i : sig_of p.call p.generic.0 p.ret.0 (parts_of p.params) ≡ sig_of q.call q.generic.0 q.ret.0 (parts_of q.params) = p.made ∙ z ∙ sym q.made in
          ap (λ (m : MethodSig). paired m.ret (paired m.params m.sentinel)) i)
          all
      go p q false h =
          inr (
            refl,
            λ z.
                let byte : p.byte.0 ≡ q.byte.0 = byte_is a s p.byte e p.first ∙ ap method_byte z ∙ sym (byte_is b t q.byte f q.first) in
                let i : sig_of p.call p.generic.0 p.ret.0 (parts_of p.params) ≡ sig_of q.call q.generic.0 q.ret.0 (parts_of q.params) = p.made ∙ z ∙ sym q.made in
                let generic : p.generic.0 ≡ q.generic.0 = ap (λ (m : MethodSig). m.generic) i in
                let count : p.count.0 ≡ q.count.0 = sym (params_long p.count.0 p.ret.1 p.ret.2 p.params p.passed) ∙ ap (λ (m : MethodSig). length m.params) i ∙ params_long q.count.0 q.ret.1 q.ret.2 q.params q.passed in
                let yes = same_heads p.byte.0 q.byte.0 p.generic.0 q.generic.0 p.count.0 q.count.0 byte generic count in
                absurd cc,
          )

  pub method_is : (a b : List ℕ) (s t : MethodSig) → whole.whole_method owners a ≡ Some s → whole.whole_method owners b ≡ Some t → IsTrue (is_some (same_method canon (a, b))) ↔ (s ≡ t)
  method_is a b s t e f = let w = method_told a b s t e f in told_is (same_method canon (a, b)) s t w.0 w.1.0 w.1.1

  -- ---- properties

  abbrev property_of : Bool → SigType → List SigType → MethodSig
  property_of has_this ret ps = record { has_this = has_this; explicit_this = false; vararg = false; generic = 0; ret = ret; params = ps; sentinel = None }

  record PropertyRead (b : List ℕ) (s : MethodSig) : Type 0 where
    byte : ℕ × List ℕ
    this : Bool
    count : ℕ × List ℕ
    ret : SigType × List ℕ × ℕ
    params : List SigType × List ℕ × ℕ
    first : byte_at b ≡ Some byte
    called : whole.property_has_this byte.0 ≡ Some this
    counted : number_at byte.1 ≡ Some count
    returned : sub count.1 max_nodes ≡ Some ret
    passed : whole.all_types_at sub count.0 ret.1 ret.2 ≡ Some params
    made : property_of this ret.0 params.0 ≡ s

  property_read : (b : List ℕ) (s : MethodSig) → whole.whole_property owners b ≡ Some s → PropertyRead b s
  unfolding whole.whole_property
  property_read b s e =
      let whole_of : Bool → SigType → (List SigType × List ℕ × ℕ) → MethodSig × List ℕ × ℕ = λ this ret p. (property_of this ret p.0, p.1, p.2) in
      let fifth : Bool → SigType → (List SigType × List ℕ × ℕ) → Option MethodSig = λ this ret p. ended (whole_of this ret p) in
      let fourth : Bool → ℕ → (SigType × List ℕ × ℕ) → Option MethodSig = λ this n ret. whole.all_types_at sub n ret.1 ret.2 >>= fifth this ret.0 in
      let third : Bool → (ℕ × List ℕ) → Option MethodSig = λ this c. sub c.1 max_nodes >>= fourth this c.0 in
      let second : List ℕ → Bool → Option MethodSig = λ rest this. number_at rest >>= third this in
      let first : (ℕ × List ℕ) → Option MethodSig = λ b. whole.property_has_this b.0 >>= second b.1 in
      let p = bind_some (byte_at b) first s e in
      let q = bind_some (whole.property_has_this p.0.0) (second p.0.1) s p.2 in
      let c = bind_some (number_at p.0.1) (third q.0) s q.2 in
      let t = bind_some (sub c.0.1 max_nodes) (fourth q.0 c.0.0) s c.2 in
      let a = bind_some (whole.all_types_at sub c.0.0 t.0.1 t.0.2) (fifth q.0 t.0.0) s t.2 in
      record { byte = p.0; this = q.0; count = c.0; ret = t.0; params = a.0; first = p.1; called = q.1; counted = c.1; returned = t.1; passed = a.1; made = end_is (whole_of q.0 t.0.0 a.0) s a.2 }

  property_byte_is : (b : List ℕ) (s : MethodSig) (x : ℕ × List ℕ) → whole.whole_property owners b ≡ Some s → byte_at b ≡ Some x → x.0 ≡ property_byte s.has_this
  property_byte_is b s x e f =
      let spelled = (property_whole owners b s e).0 in
      let rest = spelled.a ++ (spelled.b ++ spelled.c) in
      let z : ℕ × List ℕ = (property_byte s.has_this, rest) in
      let g : Some z ≡ Some x = ap byte_at (sym spelled.whole) ∙ f in
      ap (λ (y : ℕ × List ℕ). y.0) (sym (some_is z x g))

  property_counted : (b : List ℕ) (s : MethodSig) (p : PropertyRead b s) → scan.property_count_at b ≡ Some p.count
  unfolding scan.property_count_at
  property_counted b s p = rw (p.first, p.called, p.counted) refl

  property_told : (a b : List ℕ) (s t : MethodSig) → whole.whole_property owners a ≡ Some s → whole.whole_property owners b ≡ Some t
      → (c : List ℕ) × ((d : List ℕ) × Told (same_property canon (a, b)) s t c d)
  unfolding same_property same_property_head
  property_told a b s t e f =
      let p = property_read a s e in
      let q = property_read b t f in
      let r = same_property canon (a, b) in
      let counts = property_counted a s p in
      let others = property_counted b t q in (
        p.params.1,
        (
          q.params.1,
          told_by r (cond (nat_eq p.byte.0 q.byte.0 && nat_eq p.count.0 q.count.0) (Some (p.count.0, p.count.1, q.count.1)) None >>= λ (x : ℕ × List ℕ × List ℕ). walk (x.1, x.2) >>= λ y. same_all walk x.0 y) s t p.params.1 q.params.1
              (rw (p.first, q.first, counts, others) refl)
              (go p q (nat_eq p.byte.0 q.byte.0 && nat_eq p.count.0 q.count.0) refl),
        ),
      )
    where
      go : (p : PropertyRead a s) (q : PropertyRead b t) (h : Bool) → (nat_eq p.byte.0 q.byte.0 && nat_eq p.count.0 q.count.0) ≡ h
          → Told (cond h (Some (p.count.0, p.count.1, q.count.1)) None >>= λ (x : ℕ × List ℕ × List ℕ). walk (x.1, x.2) >>= λ y. same_all walk x.0 y) s t p.params.1 q.params.1
      go p q true h =
          let byte : p.byte.0 ≡ q.byte.0 = grind (arith, common_steps) in
          let count : p.count.0 ≡ q.count.0 = grind (arith, common_steps) in
          let this : p.this ≡ q.this = some_is p.this q.this (sym p.called ∙ ap whole.property_has_this byte ∙ q.called) in
          let passed : whole.all_types_at sub p.count.0 q.ret.1 q.ret.2 ≡ Some q.params = subst (λ (n : ℕ). whole.all_types_at sub n q.ret.1 q.ret.2 ≡ Some q.params) (sym count) q.passed in
          let ret = sub_told p.count.1 q.count.1 max_nodes max_nodes p.ret q.ret p.returned q.returned in
          let args = all_told owners canon is walk sub sub_told p.count.0 p.ret.1 q.ret.1 p.ret.2 q.ret.2 p.params q.params p.passed passed in
          let w : Option Both = walk (p.count.1, q.count.1) >>= λ x. same_all walk p.count.0 x in
          let all = told_then (walk (p.count.1, q.count.1)) (λ x. same_all walk p.count.0 x) p.ret.0 q.ret.0 p.params.0 q.params.0 p.ret.1 q.ret.1 p.params.1 q.params.1 ret args in
          told_as w (paired p.ret.0 p.params.0) (paired q.ret.0 q.params.0) s t p.params.1 q.params.1
          (λ z. sym p.made ∙ ap (λ (h : Bool). property_of h p.ret.0 p.params.0) this ∙ ap (λ (x : SigType × List SigType). property_of q.this x.0 x.1) z ∙ q.made)
          (λ z.
          let i : property_of p.this p.ret.0 p.params.0 ≡ property_of q.this q.ret.0 q.params.0 = p.made ∙ z ∙ sym q.made in
          ap (λ (m : MethodSig). paired m.ret m.params) i)
          all
      go p q false h =
          inr (
            refl,
            λ z.
                let byte : p.byte.0 ≡ q.byte.0 = property_byte_is a s p.byte e p.first ∙ ap (λ (m : MethodSig). property_byte m.has_this) z ∙ sym (property_byte_is b t q.byte f q.first) in
                let i : property_of p.this p.ret.0 p.params.0 ≡ property_of q.this q.ret.0 q.params.0 = p.made ∙ z ∙ sym q.made in
                let count : p.count.0 ≡ q.count.0 = sym (all_counted sub p.count.0 p.ret.1 p.ret.2 p.params p.passed) ∙ ap (λ (m : MethodSig). length m.params) i ∙ all_counted sub q.count.0 q.ret.1 q.ret.2 q.params q.passed in
                let yes : (nat_eq p.byte.0 q.byte.0 && nat_eq p.count.0 q.count.0) ≡ true = rw (nat_is p.byte.0 q.byte.0 byte, nat_is p.count.0 q.count.0 count) refl in
                absurd cc,
          )

  pub property_is : (a b : List ℕ) (s t : MethodSig) → whole.whole_property owners a ≡ Some s → whole.whole_property owners b ≡ Some t → IsTrue (is_some (same_property canon (a, b))) ↔ (s ≡ t)
  property_is a b s t e f = let w = property_told a b s t e f in told_is (same_property canon (a, b)) s t w.0 w.1.0 w.1.1
