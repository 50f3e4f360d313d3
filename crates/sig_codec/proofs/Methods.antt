-- A method or a property that is read is the one that its bytes spell, and what is spelled within bounds is read.
use Rattle.std.proofs.Common.{◌≡◌, ℕ, zero, suc, ◌+◌, ◌-◌, ◌/◌, ◌%◌, max, ◌<◌, ◌≤◌, inl, inr, Bool, true, false, cond, not, nat_lt, nat_eq, List, [], ◌∷◌, ◌++◌, length, map, take, drop, Option, Some, None, refl, sym, ap, subst, ◌∙◌, append_assoc, arith}
use Rattle.std.proofs.lemmas.Grind.{common_steps}
use Rattle.std.proofs.lemmas.List.{append-nil, take-append-drop, length-append, length-take, length-drop}
use Rattle.std.specs.List.{AllByRecursion}
use Rattle.il_base.specs.Numbers.{Packed}
use Rattle.type_terms.specs.declared.reference.MethodSig.{MethodSig}
use Rattle.type_terms.specs.declared.term.Owner.{Owner}
use Rattle.type_terms.specs.declared.term.SigType.{SigType}
use Rattle.type_terms.specs.Depth.{depth, largest}
use Rattle.type_terms.specs.Nodes.{nodes, list_nodes}
use Rattle.sig_codec.specs.Spelling.{Notation, reading}
use Rattle.sig_codec.specs.Signature.{method_byte, SpellsGeneric, SpellsParams, max_depth, max_nodes, IsMethod, IsProperty}
use Rattle.sig_codec.specs.Reading.{◌>>=◌, TypeStep, byte_at, number_at, lookup, type_at, types_at, all_types_at, is_at_sentinel, ended, kinds_of_call, flags_of_call, convention_of, generics_at, others_at, params_at, whole_method, property_has_this, whole_property}
use Rattle.sig_codec.proofs.Numbers.{some_is, bind_some, chosen, number_takes, number_again}
use Rattle.sig_codec.proofs.Parts.{two_parts}
use Rattle.sig_codec.proofs.Takes.{type_takes, types_take, all_types_take}
use Rattle.sig_codec.proofs.Again.{type_again, each_again}
use Rattle.sig_codec.proofs.Whole.{ended_is, is_nil, to_end}

-- ---- look-ups

lookup_gives : {X : Type 0} (P : ℕ → X → Type 0) (es : List (ℕ × X)) (byte : ℕ) (x : X) → AllByRecursion (λ p. P p.0 p.1) es → lookup es byte ≡ Some x → P byte x
lookup_gives P [] byte x all is = absurd cc
lookup_gives {X = X} P (p ∷ es) byte x all is =
    elim (chosen (nat_eq byte p.0) (Some p.1) (lookup es byte) (Some x) is) [
      | inl h ↦
          let same : byte ≡ p.0 = (let k = h.0 in grind (arith, common_steps)) in
          subst (λ (y : X). P byte y) (some_is p.1 x h.1) (subst (λ (b : ℕ). P b p.1) (sym same) all.0)
      | inr h ↦ lookup_gives P es byte x all.1 h.1
    ]

-- ---- how a method is called

-- the byte for vararg, a this, an explicit one, and generic
abbrev byte_of : Bool → Bool → Bool → Bool → ℕ
byte_of v t x g = (cond v 0x05 0x00) + (cond t 0x20 0x00) + (cond x 0x40 0x00) + (cond g 0x10 0x00)

abbrev IsKind : ℕ → Bool → Type 0
IsKind n v = n ≡ cond v 0x05 0x00

record AreFlags (n : ℕ) (f : Bool × Bool × Bool) : Type 0 where
  sum : n ≡ (cond f.0 2 0) + (cond f.1 4 0) + (cond f.2 1 0)
  explicit : f.1 ≡ true → f.0 ≡ true

sum_of_flags : (byte : ℕ) (v t x g : Bool) → byte % 16 ≡ cond v 0x05 0x00 → byte / 16 ≡ (cond t 2 0) + (cond x 4 0) + (cond g 1 0) → byte ≡ byte_of v t x g
sum_of_flags byte true true true true h k = omega (arith, h, k)
sum_of_flags byte true true true false h k = omega (arith, h, k)
sum_of_flags byte true true false true h k = omega (arith, h, k)
sum_of_flags byte true true false false h k = omega (arith, h, k)
sum_of_flags byte true false true true h k = omega (arith, h, k)
sum_of_flags byte true false true false h k = omega (arith, h, k)
sum_of_flags byte true false false true h k = omega (arith, h, k)
sum_of_flags byte true false false false h k = omega (arith, h, k)
sum_of_flags byte false true true true h k = omega (arith, h, k)
sum_of_flags byte false true true false h k = omega (arith, h, k)
sum_of_flags byte false true false true h k = omega (arith, h, k)
sum_of_flags byte false true false false h k = omega (arith, h, k)
sum_of_flags byte false false true true h k = omega (arith, h, k)
sum_of_flags byte false false true false h k = omega (arith, h, k)
sum_of_flags byte false false false true h k = omega (arith, h, k)
sum_of_flags byte false false false false h k = omega (arith, h, k)

convention_is : (byte : ℕ) (v t x g : Bool) → convention_of byte ≡ Some (v, t, x, g) → (byte ≡ byte_of v t x g) × (x ≡ true → t ≡ true)
unfolding convention_of
convention_is byte v t x g e =
    let y : Bool × Bool × Bool × Bool = (v, t, x, g) in
    let last : Bool → (Bool × Bool × Bool) → Option (Bool × Bool × Bool × Bool) = λ k f. Some (k, f.0, f.1, f.2) in
    let a = bind_some (lookup kinds_of_call (byte % 16)) (λ k. lookup flags_of_call (byte / 16) >>= λ f. last k f) y e in
    let b = bind_some (lookup flags_of_call (byte / 16)) (last a.0) y a.2 in
    let kind : IsKind (byte % 16) a.0 = lookup_gives IsKind kinds_of_call (byte % 16) a.0 (refl, (refl, tt)) a.1 in
    let flags = lookup_gives AreFlags flags_of_call (byte / 16) b.0
    (record { sum = refl; explicit = λ h. h }, (record { sum = refl; explicit = λ h. h }, (record { sum = refl; explicit = λ h. refl }, (record { sum = refl; explicit = λ h. refl }, (record { sum = refl; explicit = λ h. refl }, (record { sum = refl; explicit = λ h. refl }, tt)))))) b.1 in
    let z : Bool × Bool × Bool × Bool = (a.0, b.0.0, b.0.1, b.0.2) in
    subst (λ (q : Bool × Bool × Bool × Bool). (byte ≡ byte_of q.0 q.1 q.2 q.3) × (q.2 ≡ true → q.1 ≡ true)) (some_is z y b.2) (sum_of_flags byte a.0 b.0.0 b.0.1 b.0.2 kind flags.sum, flags.explicit)

convention_again : (v t x g : Bool) → (x ≡ true → t ≡ true) → convention_of (byte_of v t x g) ≡ Some (v, t, x, g)
unfolding convention_of
convention_again true true true true h = refl
convention_again true true true false h = refl
convention_again true true false true h = refl
convention_again true true false false h = refl
convention_again true false true true h = absurd (let e = h refl in cc)
convention_again true false true false h = absurd (let e = h refl in cc)
convention_again true false false true h = refl
convention_again true false false false h = refl
convention_again false true true true h = refl
convention_again false true true false h = refl
convention_again false true false true h = refl
convention_again false true false false h = refl
convention_again false false true true h = absurd (let e = h refl in cc)
convention_again false false true false h = absurd (let e = h refl in cc)
convention_again false false false true h = refl
convention_again false false false false h = refl

-- ---- lists of types

largest-append : (xs ys : List SigType) → largest (map depth (xs ++ ys)) ≡ max (largest (map depth xs)) (largest (map depth ys))
largest-append [] ys = omega arith
largest-append (x ∷ xs) ys = omega (arith, largest-append xs ys)

total-append : (xs ys : List SigType) → list_nodes (xs ++ ys) ≡ list_nodes xs + list_nodes ys
total-append [] ys = omega arith
total-append (x ∷ xs) ys = omega (arith, total-append xs ys)

-- the bit of a generic method, by the number of its parameters and by itself
abbrev number_bit : ℕ → ℕ
number_bit n = cond (nat_eq n 0) 0x00 0x10

abbrev generic_bit : Bool → ℕ
generic_bit g = cond g 0x10 0x00

-- parameters around a sentinel
params_parts : (sub : TypeStep) (count k : ℕ) (xs ys ps : List SigType) (a b rest : List ℕ) (many after left : ℕ)
    → types_at sub count (a ++ (0x41 ∷ (b ++ rest))) many ≡ Some (xs, 0x41 ∷ (b ++ rest), after) → length xs ≡ k → k < count
    → types_at sub (count - length xs) (b ++ rest) after ≡ Some (ys, rest, left) → length ys ≡ count - length xs → xs ++ ys ≡ ps
    → params_at sub count ((a ++ (0x41 ∷ b)) ++ rest) many ≡ Some (ps, Some k, rest, left)
unfolding params_at all_types_at
params_parts sub count k xs ys ps a b rest many after left e lx lt f ly both =
    let short : nat_lt (length xs) count ≡ true = grind (arith, common_steps) in
    let full : nat_lt (length ys) (count - length xs) ≡ false = grind (arith, common_steps) in
    rw (append_assoc a (0x41 ∷ b) rest, e, short, f, full, both, lx) refl

module _ (owners : ℕ → Option Owner) where
  abbrev w : Notation
  w = reading owners

  abbrev some_params : List SigType → Option ℕ → List ℕ → ℕ → Option (List SigType × Option ℕ × List ℕ × ℕ)
  some_params ps k rest n = Some (ps, k, rest, n)

  -- ---- the number of generic parameters

  generics_take : (generic : Bool) (bytes : List ℕ) (n : ℕ) (rest : List ℕ) → generics_at generic bytes ≡ Some (n, rest)
      → (front : List ℕ) × (bytes ≡ front ++ rest) × SpellsGeneric w n front × (number_bit n ≡ generic_bit generic)
  unfolding generics_at
  generics_take false bytes n rest e =
      let z : ℕ × List ℕ = (0, bytes) in
      let y : ℕ × List ℕ = (n, rest) in
      subst (λ (q : ℕ × List ℕ). (front : List ℕ) × (bytes ≡ front ++ q.1) × SpellsGeneric w q.0 front × (number_bit q.0 ≡ 0x00)) (some_is z y e) ([], refl, refl, refl)
  generics_take true bytes n rest e =
      let y : ℕ × List ℕ = (n, rest) in
      let a = bind_some (number_at bytes) (λ n. cond (nat_eq n.0 0) None (Some (n.0, n.1))) y e in
      let t = number_takes bytes a.0.0 a.0.1 a.1 in
      elim (chosen (nat_eq a.0.0 0) None (Some (a.0.0, a.0.1)) (Some y) a.2) [
        | inl h ↦ absurd (let d = h.1 in cc)
        | inr h ↦
            let z : ℕ × List ℕ = (a.0.0, a.0.1) in
            subst (λ (q : ℕ × List ℕ). (front : List ℕ) × (bytes ≡ front ++ q.1) × SpellsGeneric w q.0 front × (number_bit q.0 ≡ 0x10)) (some_is z y h.1)
            (t.front, t.parts, some_generic a.0.0 t.front t.spelled h.0, rw h.0 refl)
      ]
    where
      some_generic : (n : ℕ) (front : List ℕ) → Packed front n → nat_eq n 0 ≡ false → SpellsGeneric w n front
      some_generic zero front h e = absurd (let d : true ≡ false = e in cc)
      some_generic (suc n) front h e = h

  generics_again : (n : ℕ) (front rest : List ℕ) → SpellsGeneric w n front → generics_at (not (nat_eq n 0)) (front ++ rest) ≡ Some (n, rest)
  unfolding generics_at
  generics_again zero front rest h = rw h refl
  generics_again (suc n) front rest h =
      let is = number_again front (suc n) rest h in
      let some : nat_eq (suc n) 0 ≡ false = grind (arith, common_steps) in
      rw (some, is, some) refl

  -- ---- parameters

  pub record TookParams (limit count : ℕ) (bytes : List ℕ) (many : ℕ) (ps : List SigType) (sentinel : Option ℕ) (rest : List ℕ) (left : ℕ) : Type 0 where
    pub front : List ℕ
    pub parts : bytes ≡ front ++ rest
    pub spelled : SpellsParams w sentinel ps front
    pub counted : length ps ≡ count
    pub deep : largest (map depth ps) ≤ limit
    pub few : list_nodes ps + left ≡ many

  at_sentinel : (rest : List ℕ) → is_at_sentinel rest ≡ true → (b : List ℕ) × (rest ≡ 0x41 ∷ b)
  at_sentinel [] e = absurd cc
  at_sentinel (x ∷ b) e = (b, (let is : x ≡ 0x41 = grind (arith, common_steps) in ap (λ (k : ℕ). k ∷ b) is))

  pub params_take : (limit count : ℕ) (bytes : List ℕ) (many : ℕ) (ps : List SigType) (sentinel : Option ℕ) (rest : List ℕ) (left : ℕ)
      → params_at (type_at owners limit) count bytes many ≡ Some (ps, sentinel, rest, left) → TookParams limit count bytes many ps sentinel rest left
  unfolding params_at
  params_take limit count bytes many ps sentinel rest left e =
      let sub : TypeStep = type_at owners limit in
      let y : List SigType × Option ℕ × List ℕ × ℕ = (ps, sentinel, rest, left) in
      let alone : List SigType × List ℕ × ℕ → List SigType × Option ℕ × List ℕ × ℕ = λ f. (f.0, None, f.1, f.2) in
      let a = bind_some (types_at sub count bytes many) (λ f. cond (nat_lt (length f.0) count) (others_at sub count f) (Some (alone f))) y e in
      let r = types_take owners limit sub (type_takes owners limit) count bytes many a.0.0 a.0.1 a.0.2 a.1 in
      elim (chosen (nat_lt (length a.0.0) count) (others_at sub count a.0) (Some (alone a.0)) (Some y) a.2) [
        | inl h ↦
            let short : length a.0.0 < count = (let k = h.0 in grind (arith, common_steps)) in
            let at_end : is_at_sentinel a.0.1 ≡ true = elim r.ends [ inl g ↦ absurd (omega arith) | inr g ↦ g ] in
            let s = at_sentinel a.0.1 at_end in
            let joined : List SigType → List ℕ → ℕ → List SigType × Option ℕ × List ℕ × ℕ = λ us b k. (a.0.0 ++ us, Some (length a.0.0), b, k) in
            let e' : (all_types_at sub (count - length a.0.0) s.0 a.0.2 >>= λ o. Some (joined o.0 o.1 o.2)) ≡ Some y =
            ap (λ (b : List ℕ). byte_at b >>= λ m. all_types_at sub (count - length a.0.0) m.1 a.0.2 >>= λ o. Some (joined o.0 o.1 o.2)) (sym s.1) ∙ h.1 in
            let c = bind_some (all_types_at sub (count - length a.0.0) s.0 a.0.2) (λ o. Some (joined o.0 o.1 o.2)) y e' in
            let o = all_types_take owners limit sub (type_takes owners limit) (count - length a.0.0) s.0 a.0.2 c.0.0 c.0.1 c.0.2 c.1 in
            let z : List SigType × Option ℕ × List ℕ × ℕ = joined c.0.0 c.0.1 c.0.2 in
            let whole : bytes ≡ (r.front ++ (0x41 ∷ o.0.front)) ++ c.0.1 =
            two_parts bytes r.front (0x41 ∷ o.0.front) [] a.0.1 c.0.1 r.parts (s.1 ∙ ap (λ (x : List ℕ). 0x41 ∷ x) o.0.parts) in
            let first : take (length a.0.0) (a.0.0 ++ c.0.0) ≡ a.0.0 = grind (arith, common_steps) in
            let second : drop (length a.0.0) (a.0.0 ++ c.0.0) ≡ c.0.0 = grind (arith, common_steps) in
            let spelled : SpellsParams w (Some (length a.0.0)) (a.0.0 ++ c.0.0) (r.front ++ (0x41 ∷ o.0.front)) =
            (r.front, o.0.front, refl, omega (arith, length-append a.0.0 c.0.0, o.1, short), rw first r.spelled, rw second o.0.spelled) in
            subst (λ (q : List SigType × Option ℕ × List ℕ × ℕ). TookParams limit count bytes many q.0 q.1 q.2 q.3) (some_is z y c.2)
            (record {
              front = r.front ++ (0x41 ∷ o.0.front);
              parts = whole;
              spelled = spelled;
              counted = omega (arith, length-append a.0.0 c.0.0, o.1, short);
              deep = omega (arith, largest-append a.0.0 c.0.0, r.deep, o.0.deep);
              few = omega (arith, total-append a.0.0 c.0.0, r.counted, o.0.counted);
            })
        | inr h ↦
            let full : count ≤ length a.0.0 = (let k = h.0 in grind (arith, common_steps)) in
            subst (λ (q : List SigType × Option ℕ × List ℕ × ℕ). TookParams limit count bytes many q.0 q.1 q.2 q.3) (some_is (alone a.0) y h.1)
            (record { front = r.front; parts = r.parts; spelled = r.spelled; counted = omega (arith, r.few, full); deep = r.deep; few = r.counted })
      ]

  params_again : (limit : ℕ) (ps : List SigType) (sentinel : Option ℕ) (front rest : List ℕ) (many : ℕ) → SpellsParams w sentinel ps front
      → largest (map depth ps) ≤ limit → list_nodes ps ≤ many → params_at (type_at owners limit) (length ps) (front ++ rest) many ≡ Some (ps, sentinel, rest, many - list_nodes ps)
  unfolding params_at
  params_again limit ps None front rest many h deep few =
      let is = each_again owners h limit (length ps) rest many deep few (omega arith) (inl refl) in
      let full : nat_lt (length ps) (length ps) ≡ false = grind (arith, common_steps) in
      rw (is, full) refl
  params_again limit ps (Some k) front rest many h deep few =
      let a = h.0 in
      let b = h.1 in
      let xs : List SigType = take k ps in
      let ys : List SigType = drop k ps in
      let both : xs ++ ys ≡ ps = take-append-drop k ps in
      let lx : length xs ≡ k = omega (arith, length-take k ps, h.3) in
      let ly : length ys ≡ length ps - length xs = omega (arith, length-drop k ps, lx) in
      let sum : list_nodes xs + list_nodes ys ≡ list_nodes ps = sym (total-append xs ys) ∙ ap list_nodes both in
      let top : max (largest (map depth xs)) (largest (map depth ys)) ≡ largest (map depth ps) = sym (largest-append xs ys) ∙ ap (λ (z : List SigType). largest (map depth z)) both in
      let first = each_again owners h.4 limit (length ps) (0x41 ∷ (b ++ rest)) many (omega (arith, top)) (omega (arith, sum)) (omega (arith, lx, h.3)) (inr refl) in
      let second = each_again owners h.5 limit (length ps - length xs) rest (many - list_nodes xs) (omega (arith, top)) (omega (arith, sum)) (omega (arith, ly)) (inl ly) in
      let left : many - list_nodes xs - list_nodes ys ≡ many - list_nodes ps = omega (arith, sum) in
      let is = params_parts (type_at owners limit) (length ps) k xs ys ps a b rest many (many - list_nodes xs) (many - list_nodes xs - list_nodes ys) first lx h.3 second ly both in
      ap (λ (x : List ℕ). params_at (type_at owners limit) (length ps) (x ++ rest) many) h.2 ∙ is ∙ ap (λ (n : ℕ). some_params ps (Some k) rest n) left

  -- ---- methods

  pub method_whole : (bytes : List ℕ) (s : MethodSig) → whole_method owners bytes ≡ Some s → IsMethod owners bytes s
  unfolding whole_method
  method_whole [] s e = absurd cc
  method_whole (first ∷ bytes) s e =
      let sig_of : (Bool × Bool × Bool × Bool) → ℕ → SigType → List SigType → Option ℕ → MethodSig =
      λ call n ret ps k. record { has_this = call.1; explicit_this = call.2; vararg = call.0; generic = n; ret = ret; params = ps; sentinel = k } in
      let call_t : Type 0 = Bool × Bool × Bool × Bool in
      let e5 : call_t → ℕ → SigType → List SigType × Option ℕ × List ℕ × ℕ → Option MethodSig = λ call n ret p. cond (nat_eq (length p.2) 0) (Some (sig_of call n ret p.0 p.1)) None in
      let e4 : call_t → ℕ → ℕ → SigType × List ℕ × ℕ → Option MethodSig = λ call n count r. params_at (type_at owners max_depth) count r.1 r.2 >>= λ p. e5 call n r.0 p in
      let e3 : call_t → ℕ → ℕ × List ℕ → Option MethodSig = λ call n c. type_at owners max_depth c.1 max_nodes >>= λ r. e4 call n c.0 r in
      let e2 : call_t → ℕ × List ℕ → Option MethodSig = λ call g. number_at g.1 >>= λ c. e3 call g.0 c in
      let e1 : call_t → Option MethodSig = λ call. generics_at call.3 bytes >>= λ g. e2 call g in
      let a = bind_some (convention_of first) e1 s e in
      let b = bind_some (generics_at a.0.3 bytes) (e2 a.0) s a.2 in
      let c = bind_some (number_at b.0.1) (e3 a.0 b.0.0) s b.2 in
      let d = bind_some (type_at owners max_depth c.0.1 max_nodes) (e4 a.0 b.0.0 c.0.0) s c.2 in
      let f = bind_some (params_at (type_at owners max_depth) c.0.0 d.0.1 d.0.2) (e5 a.0 b.0.0 d.0.0) s d.2 in
      elim (chosen (nat_eq (length f.0.2) 0) (Some (sig_of a.0 b.0.0 d.0.0 f.0.0 f.0.1)) None (Some s) f.2) [
        | inl h ↦
            let z : MethodSig = sig_of a.0 b.0.0 d.0.0 f.0.0 f.0.1 in
            let end : f.0.2 ≡ [] = is_nil f.0.2 h.0 in
            let call = convention_is first a.0.0 a.0.1 a.0.2 a.0.3 a.1 in
            let g = generics_take a.0.3 bytes b.0.0 b.0.1 b.1 in
            let n = number_takes b.0.1 c.0.0 c.0.1 c.1 in
            let r = type_takes owners max_depth c.0.1 max_nodes d.0.0 d.0.1 d.0.2 d.1 in
            let p = params_take max_depth c.0.0 d.0.1 d.0.2 f.0.0 f.0.1 f.0.2 f.0.3 f.1 in
            let last : d.0.1 ≡ p.front = to_end d.0.1 p.front f.0.2 p.parts end in
            let head : first ≡ method_byte z = call.0 ∙ ap (λ (k : ℕ). (cond a.0.0 0x05 0x00) + (cond a.0.1 0x20 0x00) + (cond a.0.2 0x40 0x00) + k) (sym g.3) in
            let tail : bytes ≡ g.0 ++ (n.front ++ (r.front ++ p.front)) =
            g.1 ∙ ap (λ (x : List ℕ). g.0 ++ x) (n.parts ∙ ap (λ (x : List ℕ). n.front ++ x) (r.parts ∙ ap (λ (x : List ℕ). r.front ++ x) last)) in
            let counted : Packed n.front (length f.0.0) = rw p.counted n.spelled in
            subst (λ (q : MethodSig). IsMethod owners (first ∷ bytes) q) (some_is z s h.1) (
              record {
                a = g.0;
                b = n.front;
                c = r.front;
                d = p.front;
                whole = ap (λ (k : ℕ). k ∷ bytes) head ∙ ap (λ (x : List ℕ). method_byte z ∷ x) tail;
                explicit = call.1;
                generic = g.2;
                counted = counted;
                ret = r.spelled;
                params = p.spelled;
              },
              omega (arith, r.deep, p.deep),
              omega (arith, r.count, p.few),
            )
        | inr h ↦ absurd (let k = h.1 in cc)
      ]

  bit_is : (n : ℕ) → generic_bit (not (nat_eq n 0)) ≡ number_bit n
  bit_is n = elim (nat_eq n 0) as (λ b. generic_bit (not b) ≡ cond b 0x00 0x10) [ true ↦ refl | false ↦ refl ]

  pub whole_method_again : (bytes : List ℕ) (s : MethodSig) → IsMethod owners bytes s → whole_method owners bytes ≡ Some s
  unfolding whole_method
  whole_method_again bytes s h =
      let m = h.0 in
      let g : Bool = not (nat_eq s.generic 0) in
      let call = convention_again s.vararg s.has_this s.explicit_this g m.explicit in
      let head : method_byte s ≡ byte_of s.vararg s.has_this s.explicit_this g = ap (λ (k : ℕ). (cond s.vararg 0x05 0x00) + (cond s.has_this 0x20 0x00) + (cond s.explicit_this 0x40 0x00) + k) (sym (bit_is s.generic)) in
      let generic = generics_again s.generic m.a (m.b ++ (m.c ++ m.d)) m.generic in
      let count = number_again m.b (length s.params) (m.c ++ m.d) m.counted in
      let ret = type_again owners m.ret max_depth m.d max_nodes (omega (arith, h.1)) (omega (arith, h.2)) in
      let params = params_again max_depth s.params s.sentinel m.d [] (max_nodes - nodes s.ret) m.params (omega (arith, h.1)) (omega (arith, h.2)) in
      let last : params_at (type_at owners max_depth) (length s.params) m.d (max_nodes - nodes s.ret) ≡ Some (s.params, s.sentinel, [], max_nodes - nodes s.ret - list_nodes s.params) =
      ap (λ (x : List ℕ). params_at (type_at owners max_depth) (length s.params) x (max_nodes - nodes s.ret)) (sym (append-nil m.d)) ∙ params in
      ap (whole_method owners) (m.whole ∙ ap (λ (k : ℕ). k ∷ (m.a ++ (m.b ++ (m.c ++ m.d)))) head) ∙ rw (call, generic, count, ret, last) refl

  -- ---- properties

  property_first : (byte : ℕ) (t : Bool) → property_has_this byte ≡ Some t → byte ≡ cond t 0x28 0x08
  property_first byte t e = lookup_gives (λ n b. n ≡ cond b 0x28 0x08) ((0x08, false) ∷ (0x28, true) ∷ []) byte t (refl, (refl, tt)) e

  property_again : (t : Bool) → property_has_this (cond t 0x28 0x08) ≡ Some t
  property_again true = refl
  property_again false = refl

  abbrev set_explicit : MethodSig → Bool → MethodSig
  set_explicit s b = record { has_this = s.has_this; explicit_this = b; vararg = false; generic = 0; ret = s.ret; params = s.params; sentinel = None }

  abbrev set_vararg : MethodSig → Bool → MethodSig
  set_vararg s b = record { has_this = s.has_this; explicit_this = s.explicit_this; vararg = b; generic = 0; ret = s.ret; params = s.params; sentinel = None }

  abbrev set_generic : MethodSig → ℕ → MethodSig
  set_generic s n = record { has_this = s.has_this; explicit_this = s.explicit_this; vararg = s.vararg; generic = n; ret = s.ret; params = s.params; sentinel = None }

  abbrev set_sentinel : MethodSig → Option ℕ → MethodSig
  set_sentinel s k = record { has_this = s.has_this; explicit_this = s.explicit_this; vararg = s.vararg; generic = s.generic; ret = s.ret; params = s.params; sentinel = k }

  abbrev property_of : Bool → SigType → List SigType → MethodSig
  property_of t ret ps = record { has_this = t; explicit_this = false; vararg = false; generic = 0; ret = ret; params = ps; sentinel = None }

  same_property : (s : MethodSig) → s.explicit_this ≡ false → s.vararg ≡ false → s.generic ≡ 0 → s.sentinel ≡ None → property_of s.has_this s.ret s.params ≡ s
  same_property s x v g k =
      ap (λ (b : Bool). set_explicit s b) (sym x) ∙ ap (λ (b : Bool). set_vararg s b) (sym v) ∙ ap (λ (n : ℕ). set_generic s n) (sym g) ∙ ap (λ (o : Option ℕ). set_sentinel s o) (sym k)

  pub property_whole : (bytes : List ℕ) (s : MethodSig) → whole_property owners bytes ≡ Some s → IsProperty owners bytes s
  unfolding whole_property
  property_whole [] s e = absurd cc
  property_whole (first ∷ bytes) s e =
      let e4 : Bool → SigType → List SigType × List ℕ × ℕ → Option MethodSig = λ t ret p. ended (property_of t ret p.0, p.1, p.2) in
      let e3 : Bool → ℕ → SigType × List ℕ × ℕ → Option MethodSig = λ t n r. all_types_at (type_at owners max_depth) n r.1 r.2 >>= λ p. e4 t r.0 p in
      let e2 : Bool → ℕ × List ℕ → Option MethodSig = λ t n. type_at owners max_depth n.1 max_nodes >>= λ r. e3 t n.0 r in
      let e1 : Bool → Option MethodSig = λ t. number_at bytes >>= λ n. e2 t n in
      let a = bind_some (property_has_this first) e1 s e in
      let b = bind_some (number_at bytes) (e2 a.0) s a.2 in
      let c = bind_some (type_at owners max_depth b.0.1 max_nodes) (e3 a.0 b.0.0) s b.2 in
      let d = bind_some (all_types_at (type_at owners max_depth) b.0.0 c.0.1 c.0.2) (e4 a.0 c.0.0) s c.2 in
      let end = ended_is (property_of a.0 c.0.0 d.0.0, d.0.1, d.0.2) s d.2 in
      let n = number_takes bytes b.0.0 b.0.1 b.1 in
      let r = type_takes owners max_depth b.0.1 max_nodes c.0.0 c.0.1 c.0.2 c.1 in
      let p = all_types_take owners max_depth (type_at owners max_depth) (type_takes owners max_depth) b.0.0 c.0.1 c.0.2 d.0.0 d.0.1 d.0.2 d.1 in
      let last : c.0.1 ≡ p.0.front = to_end c.0.1 p.0.front d.0.1 p.0.parts end.0 in
      let counted : Packed n.front (length d.0.0) = rw p.1 n.spelled in
      let tail : bytes ≡ n.front ++ (r.front ++ p.0.front) = n.parts ∙ ap (λ (x : List ℕ). n.front ++ x) (r.parts ∙ ap (λ (x : List ℕ). r.front ++ x) last) in
      subst (λ (q : MethodSig). IsProperty owners (first ∷ bytes) q) end.1 (
        record {
          a = n.front;
          b = r.front;
          c = p.0.front;
          whole = ap (λ (k : ℕ). k ∷ bytes) (property_first first a.0 a.1) ∙ ap (λ (x : List ℕ). (cond a.0 0x28 0x08) ∷ x) tail;
          no_explicit = refl;
          no_vararg = refl;
          no_generic = refl;
          no_sentinel = refl;
          counted = counted;
          ret = r.spelled;
          params = p.0.spelled;
        },
        omega (arith, r.deep, p.0.deep),
        omega (arith, r.count, p.0.counted),
      )

  pub whole_property_again : (bytes : List ℕ) (s : MethodSig) → IsProperty owners bytes s → whole_property owners bytes ≡ Some s
  unfolding whole_property all_types_at
  whole_property_again bytes s h =
      let m = h.0 in
      let first = property_again s.has_this in
      let count = number_again m.a (length s.params) (m.b ++ m.c) m.counted in
      let ret = type_again owners m.ret max_depth m.c max_nodes (omega (arith, h.1)) (omega (arith, h.2)) in
      let params = each_again owners m.params max_depth (length s.params) [] (max_nodes - nodes s.ret) (omega (arith, h.1)) (omega (arith, h.2)) (omega arith) (inl refl) in
      let last : types_at (type_at owners max_depth) (length s.params) m.c (max_nodes - nodes s.ret) ≡ Some (s.params, [], max_nodes - nodes s.ret - list_nodes s.params) =
      ap (λ (x : List ℕ). types_at (type_at owners max_depth) (length s.params) x (max_nodes - nodes s.ret)) (sym (append-nil m.c)) ∙ params in
      let full : nat_lt (length s.params) (length s.params) ≡ false = grind (arith, common_steps) in
      let same : property_of s.has_this s.ret s.params ≡ s = same_property s m.no_explicit m.no_vararg m.no_generic m.no_sentinel in
      ap (whole_property owners) m.whole ∙ rw (first, count, ret, last, full, same) refl
