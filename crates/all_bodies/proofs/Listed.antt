-- The places that are listed are those of the methods with a body.
use Rattle.std.proofs.Common.{◌≡◌, get_or, ◌∙◌, ◌⊎◌, inl, inr, refl, sym, ap, subst, ℕ, zero, suc, ◌+◌, ◌<◌, ◌≤◌, arith, Bool, true, false, List, [], ◌∷◌, ◌++◌, Option, None, Some}
use Rattle.std.specs.Prelude.{slice_get, is_some, option_and_then, if◌then◌else◌}
use Rattle.std.specs.List.{Contains, enumerate_from, sum_by}
use Rattle.std.proofs.lemmas.Bool.{cases_Bool}
use Rattle.std.proofs.lemmas.List.{append_assoc, append-nil}
use Rattle.std.proofs.lemmas.List.Elements.{Contains-append_left, Contains-append_right}
use Rattle.std.proofs.lemmas.List.Sums.{get_or-le-sum_by}
use Rattle.std.proofs.lemmas.Option.{get_or_from_slice_get, slice_get_within}
use Rattle.type_terms.specs.declared.name.TypeId.{TypeId}
use Rattle.assembly_tree.specs.declared.assembly.Assembly.{Assembly}
use Rattle.assembly_tree.specs.declared.body.Body.{Body}
use Rattle.assembly_tree.specs.declared.members.Method.{Method}
use Rattle.assembly_tree.specs.declared.typedef.MethodPath.{MethodPath}
use Rattle.assembly_tree.specs.declared.typedef.TypeDef.{TypeDef}
use Rattle.assembly_tree.specs.declared.typedef.TypeDef.TheViews.{out-TypeDef}
use Rattle.assembly_tree.specs.Weight.{typedef_weight}
use Rattle.type_order.specs.Fields.{the_module}
use Rattle.code_flow.specs.Methods.{Declared, Nested, all_methods, declared_in, inwards, method_at, method_of, nested_in, places_in, type_by_place, with_body}
use Rattle.code_flow.proofs.Members.{contains_at, either, here, in_flat, none, of_append, of_flat, place_of, there}
use Rattle.body_verifier.specs.Checking.{HasBody, LeadsToBody}
use Rattle.all_bodies.specs.Places.{places_from, places_of}
use Rattle.all_bodies.proofs.PlaceLemmas.{all_out, places_out, type_heavy}

-- ---- numbered items

numbered : {X : Type 0} (xs : List X) (j k : ℕ) (x : X) → slice_get xs k ≡ Some x → Contains (enumerate_from j xs) (j + k, x)
numbered [] j k x at = absurd (let f : ⊥ = cc in f)
numbered {X} (y ∷ ys) j zero x at =
    let same : j ≡ j + 0 = omega arith in
    let is : y ≡ x = cc in
    let P : ℕ × X → Type 0 = λ (p : ℕ × X). Contains (enumerate_from j (y ∷ ys)) p in
    subst P (λ i. (same i, is i)) (here (j, y) (enumerate_from (j + 1) ys))
numbered {X} (y ∷ ys) j (suc k) x at =
    let same : (j + 1) + k ≡ j + suc k = omega arith in
    let P : ℕ × X → Type 0 = λ (p : ℕ × X). Contains (enumerate_from j (y ∷ ys)) p in
    subst P (λ i. (same i, x)) (there (j, y) (enumerate_from (j + 1) ys) ((j + 1) + k, x) (numbered ys (j + 1) k x at))

-- an item behind its number
record IsNumbered {X : Type 0} (xs : List X) (j : ℕ) (p : ℕ × X) : Type 0 where
  k : ℕ
  number : p.0 ≡ j + k
  at : slice_get xs k ≡ Some p.1

number_of : {X : Type 0} (xs : List X) (j : ℕ) (p : ℕ × X) → Contains (enumerate_from j xs) p → IsNumbered xs j p
number_of [] j p c = absurd (none p c)
number_of {X} (x ∷ xs) j p c = elim (either (j, x) (enumerate_from (j + 1) xs) p c) [
  | inl is ↦
      let same : j ≡ j + 0 = omega arith in
      record { k = 0; number = sym (ap (λ (q : ℕ × X). q.0) is) ∙ same; at = ap (λ (q : ℕ × X). Some q.1) is }
  | inr more ↦
      let r = number_of xs (j + 1) p more in
      let n = r.number in
      record { k = suc r.k; number = omega (arith, n); at = r.at }
]

-- ---- methods of one type

with_some : (places : List ℕ) (k : ℕ) (m : Method) → is_some m.body ≡ true → Contains (with_body places (k, m)) (record { types = places; method = k })
with_some places k m has =
    let p : MethodPath = record { types = places; method = k } in
    let P : Bool → Type 0 = λ (b : Bool). Contains (if b then p ∷ [] else []) p in
    subst P (sym has) (here p [])

in_methods : (places : List ℕ) (ms : List Method) (k : ℕ) (m : Method) → slice_get ms k ≡ Some m → is_some m.body ≡ true → Contains (places_in places ms) (record { types = places; method = k })
in_methods places ms k m at has =
    let same : 0 + k ≡ k = omega arith in
    let P : ℕ → Type 0 = λ (n : ℕ). Contains (places_in places ms) (record { types = places; method = n }) in
    subst P same (in_flat (with_body places) (enumerate_from 0 ms) (0 + k, m) (record { types = places; method = 0 + k }) (numbered ms 0 k m at) (with_some places (0 + k) m has))

-- a method with a body in a list of methods
record IsMethod (places : List ℕ) (ms : List Method) (p : MethodPath) : Type 0 where
  method : Method
  types : p.types ≡ places
  at : slice_get ms p.method ≡ Some method
  has : is_some method.body ≡ true

one_with : (places : List ℕ) (k : ℕ) (m : Method) (p : MethodPath) → Contains (with_body places (k, m)) p → (p ≡ record { types = places; method = k }) × (is_some m.body ≡ true)
one_with places k m p c = elim (cases_Bool (is_some m.body)) [
  | inl has ↦
      let own : MethodPath = record { types = places; method = k } in
      let P : Bool → Type 0 = λ (b : Bool). Contains (if b then own ∷ [] else []) p in
      elim (either own [] p (subst P has c)) [ inl is ↦ (sym is, has) | inr more ↦ absurd (none p more) ]
  | inr lacks ↦
      let own : MethodPath = record { types = places; method = k } in
      let P : Bool → Type 0 = λ (b : Bool). Contains (if b then own ∷ [] else []) p in
      absurd (none p (subst P lacks c))
]

of_methods : (places : List ℕ) (ms : List Method) (p : MethodPath) → Contains (places_in places ms) p → IsMethod places ms p
of_methods places ms p c =
    let x = of_flat (with_body places) (enumerate_from 0 ms) p c in
    let n = number_of ms 0 x.0 x.1 in
    let one = one_with places x.0.0 x.0.1 p x.2 in
    let number = n.number in
    let same : n.k ≡ p.method = omega (arith, number, ap (λ (q : MethodPath). q.method) one.0) in
    record {
      method = x.0.1;
      types = ap (λ (q : MethodPath). q.types) one.0;
      at = subst (λ (k : ℕ). slice_get ms k ≡ Some x.0.1) same n.at;
      has = one.1;
    }

-- ---- types

in_types : (outer : List ℕ) (ts : List TypeDef) (i j : ℕ) (t : TypeDef) (p : MethodPath) → slice_get ts j ≡ Some t → Contains (places_of t (outer ++ (i + j) ∷ [])) p → Contains (places_from outer i ts) p
in_types outer [] i j t p at c = absurd (let f : ⊥ = cc in f)
in_types outer (u ∷ us) i zero t p at c =
    let same : i + 0 ≡ i = omega arith in
    let is : t ≡ u = cc in
    Contains-append_left (places_of u (outer ++ i ∷ [])) (places_from outer (i + 1) us) p
    (subst (λ (n : ℕ). Contains (places_of u (outer ++ n ∷ [])) p) same (subst (λ (x : TypeDef). Contains (places_of x (outer ++ (i + 0) ∷ [])) p) is c))
in_types outer (u ∷ us) i (suc j) t p at c =
    let same : i + suc j ≡ (i + 1) + j = omega arith in
    Contains-append_right (places_of u (outer ++ i ∷ [])) (places_from outer (i + 1) us) p
    (in_types outer us (i + 1) j t p at (subst (λ (n : ℕ). Contains (places_of t (outer ++ n ∷ [])) p) same c))

-- one of the types side by side
record IsType (outer : List ℕ) (ts : List TypeDef) (i : ℕ) (p : MethodPath) : Type 0 where
  k : ℕ
  typedef : TypeDef
  at : slice_get ts k ≡ Some typedef
  inside : Contains (places_of typedef (outer ++ (i + k) ∷ [])) p

of_types : (outer : List ℕ) (ts : List TypeDef) (i : ℕ) (p : MethodPath) → Contains (places_from outer i ts) p → IsType outer ts i p
of_types outer [] i p c = absurd (none p c)
of_types outer (u ∷ us) i p c = elim (of_append (places_of u (outer ++ i ∷ [])) (places_from outer (i + 1) us) p c) [
  | inl first ↦
      let same : i ≡ i + 0 = omega arith in
      record { k = 0; typedef = u; at = refl; inside = subst (λ (n : ℕ). Contains (places_of u (outer ++ n ∷ [])) p) same first }
  | inr later ↦
      let r = of_types outer us (i + 1) p later in
      let same : (i + 1) + r.k ≡ i + suc r.k = omega arith in
      record { k = suc r.k; typedef = r.typedef; at = r.at; inside = subst (λ (n : ℕ). Contains (places_of r.typedef (outer ++ n ∷ [])) p) same r.inside }
]

-- ---- inwards

abbrev nested_at : List TypeId → TypeDef → Nested
nested_at path t = record { path = path ++ (out-TypeDef t).id ∷ []; typedef = t }

step_in : (path : List TypeId) (o : Option TypeDef) (ks : List ℕ) (n : Nested) → option_and_then (inwards ks) (nested_in path o) ≡ Some n
    → (t : TypeDef) × (o ≡ Some t) × (inwards ks (nested_at path t) ≡ Some n)
step_in path None ks n h = absurd (let e : ⊥ = cc in e)
step_in path (Some t) ks n h = (t, refl, h)

step_out : (path : List TypeId) (o : Option TypeDef) (ks : List ℕ) (n : Nested) (t : TypeDef) → o ≡ Some t → inwards ks (nested_at path t) ≡ Some n
    → option_and_then (inwards ks) (nested_in path o) ≡ Some n
step_out path o ks n t e h = ap (λ (x : Option TypeDef). option_and_then (inwards ks) (nested_in path x)) e ∙ h

in_type : (ks : List ℕ) (x : Nested) (outer : List ℕ) (n : Nested) (k : ℕ) (m : Method) → inwards ks x ≡ Some n → slice_get (out-TypeDef n.typedef).methods k ≡ Some m
    → is_some m.body ≡ true → Contains (places_of x.typedef outer) (record { types = outer ++ ks; method = k })
in_type [] x outer n k m h at has =
    let t = x.typedef in
    let is : n ≡ x = cc in
    let p : MethodPath = record { types = outer; method = k } in
    let own : Contains (places_in outer (out-TypeDef t).methods) p =
    in_methods outer (out-TypeDef t).methods k m (ap (λ (y : Nested). slice_get (out-TypeDef y.typedef).methods k) (sym is) ∙ at) has in
    let whole : Contains (places_of t outer) p =
    subst (λ (l : List MethodPath). Contains l p) (sym (places_out t outer)) (Contains-append_left (places_in outer (out-TypeDef t).methods) (places_from outer 0 (out-TypeDef t).nested) p own) in
    subst (λ (l : List ℕ). Contains (places_of t outer) (record { types = l; method = k })) (sym (append-nil outer)) whole
in_type (j ∷ js) x outer n k m h at has =
    let t = x.typedef in
    let s = step_in x.path (slice_get (out-TypeDef t).nested j) js n h in
    let p : MethodPath = record { types = outer ++ (j ∷ js); method = k } in
    let inner = in_type js (nested_at x.path s.0) (outer ++ j ∷ []) n k m s.2 at has in
    let there_too : Contains (places_of s.0 (outer ++ j ∷ [])) p =
    subst (λ (l : List ℕ). Contains (places_of s.0 (outer ++ j ∷ [])) (record { types = l; method = k })) (append_assoc outer (j ∷ []) js) inner in
    let same : j ≡ 0 + j = omega arith in
    let below : Contains (places_from outer 0 (out-TypeDef t).nested) p =
    in_types outer (out-TypeDef t).nested 0 j s.0 p s.1 (subst (λ (i : ℕ). Contains (places_of s.0 (outer ++ i ∷ [])) p) same there_too) in
    subst (λ (l : List MethodPath). Contains l p) (sym (places_out t outer)) (Contains-append_right (places_in outer (out-TypeDef t).methods) (places_from outer 0 (out-TypeDef t).nested) p below)

-- where a place that is listed leads, inwards from a type
record IsListed (x : Nested) (outer : List ℕ) (p : MethodPath) : Type 0 where
  ks : List ℕ
  to : Nested
  method : Method
  types : p.types ≡ outer ++ ks
  inner : inwards ks x ≡ Some to
  at : slice_get (out-TypeDef to.typedef).methods p.method ≡ Some method
  has : is_some method.body ≡ true

lighter : (ts : List TypeDef) (k : ℕ) (t : TypeDef) → slice_get ts k ≡ Some t → typedef_weight t ≤ sum_by typedef_weight ts
lighter ts k t at =
    let part = get_or-le-sum_by typedef_weight ts k t (slice_get_within ts k t at) in
    let same : typedef_weight (get_or ts k t) ≡ typedef_weight t = ap typedef_weight (get_or_from_slice_get ts k t t at) in
    omega arith

listed_in : (n : ℕ) (x : Nested) (outer : List ℕ) (p : MethodPath) → typedef_weight x.typedef ≤ n → Contains (places_of x.typedef outer) p → IsListed x outer p
listed_in zero x outer p light c = let heavy = type_heavy x.typedef in absurd (omega arith)
listed_in (suc n) x outer p light c =
    let t = x.typedef in
    elim (of_append (places_in outer (out-TypeDef t).methods) (places_from outer 0 (out-TypeDef t).nested) p (subst (λ (l : List MethodPath). Contains l p) (places_out t outer) c)) [
      | inl own ↦
          let m = of_methods outer (out-TypeDef t).methods p own in
          record { ks = []; to = x; method = m.method; types = m.types ∙ sym (append-nil outer); inner = refl; at = m.at; has = m.has }
      | inr below ↦
          let u = of_types outer (out-TypeDef t).nested 0 p below in
          let heavy = type_heavy t in
          let part = lighter (out-TypeDef t).nested u.k u.typedef u.at in
          let r = listed_in n (nested_at x.path u.typedef) (outer ++ (0 + u.k) ∷ []) p (omega arith) u.inside in
          let same : 0 + u.k ≡ u.k = omega arith in
          record {
            ks = u.k ∷ r.ks;
            to = r.to;
            method = r.method;
            types = r.types ∙ append_assoc outer ((0 + u.k) ∷ []) r.ks ∙ ap (λ (j : ℕ). outer ++ (j ∷ r.ks)) same;
            inner = step_out x.path (slice_get (out-TypeDef t).nested u.k) r.ks r.to u.typedef u.at r.inner;
            at = r.at;
            has = r.has;
          }
    ]

-- ---- the whole assembly

has_some : (m : Method) (b : Body) → m.body ≡ Some b → is_some m.body ≡ true
has_some m b e = ap is_some e

some_body : (m : Method) → is_some m.body ≡ true → (b : Body) × (m.body ≡ Some b)
some_body m h = go m.body refl h where
  go : (o : Option Body) → m.body ≡ o → is_some o ≡ true → (b : Body) × (m.body ≡ Some b)
  go None e has = absurd (let f : ⊥ = cc in f)
  go (Some b) e has = (b, e)

declared_at : (path : List TypeId) (n : ℕ) (o : Option Method) (d : Declared) → declared_in path n o ≡ Some d → o ≡ Some d.method
declared_at path n None d e = absurd (let f : ⊥ = cc in f)
declared_at path n (Some m) d e = let is : record { path = path; parameters = n; method = m } ≡ d = cc in ap (λ (x : Declared). Some x.method) is

method_found : (k : ℕ) (o : Option Nested) (d : Declared) → option_and_then (method_of k) o ≡ Some d → (n : Nested) × (o ≡ Some n) × (slice_get (out-TypeDef n.typedef).methods k ≡ Some d.method)
method_found k None d e = absurd (let f : ⊥ = cc in f)
method_found k (Some n) d e = (n, refl, declared_at n.path _ (slice_get (out-TypeDef n.typedef).methods k) d e)

listed_by : (a : Assembly) (ks : List ℕ) (k : ℕ) (d : Declared) (b : Body) → HasBody a (record { types = ks; method = k }) d b → Contains (all_methods a) (record { types = ks; method = k })
unfolding method_at
listed_by a [] k d b h =
    let p : MethodPath = record { types = []; method = k } in
    let own = in_methods [] a.methods k d.method (declared_at the_module 0 (slice_get a.methods k) d h.is) (has_some d.method b h.has) in
    subst (λ (l : List MethodPath). Contains l p) (sym (all_out a)) (Contains-append_left (places_in [] a.methods) (places_from [] 0 a.types) p own)
listed_by a (j ∷ js) k d b h =
    let p : MethodPath = record { types = j ∷ js; method = k } in
    let f = method_found k (type_by_place a (j ∷ js)) d h.is in
    let s = step_in [] (slice_get a.types j) js f.0 f.1 in
    let inner : Contains (places_of s.0 (j ∷ [])) p = in_type js (nested_at [] s.0) (j ∷ []) f.0 k d.method s.2 f.2 (has_some d.method b h.has) in
    let same : j ≡ 0 + j = omega arith in
    let below : Contains (places_from [] 0 a.types) p = in_types [] a.types 0 j s.0 p s.1 (subst (λ (i : ℕ). Contains (places_of s.0 (i ∷ [])) p) same inner) in
    subst (λ (l : List MethodPath). Contains l p) (sym (all_out a)) (Contains-append_right (places_in [] a.methods) (places_from [] 0 a.types) p below)

pub each_listed : (a : Assembly) (path : MethodPath) (d : Declared) (b : Body) → HasBody a path d b → Contains (all_methods a) path
each_listed a path d b h = listed_by a path.types path.method d b h

-- and each that is listed has one
own_body : (a : Assembly) (k : ℕ) (m : Method) → slice_get a.methods k ≡ Some m → is_some m.body ≡ true → LeadsToBody a (record { types = []; method = k })
unfolding method_at
own_body a k m at has =
    let b = some_body m has in
    (record { path = the_module; parameters = 0; method = m }, b.0, record { is = ap (declared_in the_module 0) at; has = b.1 })

inner_body : (a : Assembly) (j : ℕ) (js : List ℕ) (k : ℕ) (n : Nested) (m : Method) → type_by_place a (j ∷ js) ≡ Some n → slice_get (out-TypeDef n.typedef).methods k ≡ Some m → is_some m.body ≡ true
    → LeadsToBody a (record { types = j ∷ js; method = k })
unfolding method_at
inner_body a j js k n m e at has =
    let b = some_body m has in
    let path = n.path in (
      record { path = path; parameters = Rattle.std.specs.Prelude.length (out-TypeDef n.typedef).generics; method = m },
      b.0,
      record { is = ap (option_and_then (method_of k)) e ∙ ap (declared_in path (Rattle.std.specs.Prelude.length (out-TypeDef n.typedef).generics)) at; has = b.1 },
    )

pub has_listed : (a : Assembly) (path : MethodPath) → Contains (all_methods a) path → LeadsToBody a path
has_listed a path c = elim (of_append (places_in [] a.methods) (places_from [] 0 a.types) path (subst (λ (l : List MethodPath). Contains l path) (all_out a) c)) [
  | inl own ↦
      let m = of_methods [] a.methods path own in
      let k = path.method in
      let h = own_body a k m.method m.at m.has in
      subst (λ (l : List ℕ). LeadsToBody a (record { types = l; method = k })) (sym m.types) h
  | inr below ↦
      let u = of_types [] a.types 0 path below in
      let k = path.method in
      let r = listed_in (typedef_weight u.typedef) (nested_at [] u.typedef) ((0 + u.k) ∷ []) path (omega arith) u.inside in
      let same : 0 + u.k ≡ u.k = omega arith in
      let h = inner_body a u.k r.ks k r.to r.method (step_out [] (slice_get a.types u.k) r.ks r.to u.typedef u.at r.inner) r.at r.has in
      subst (λ (l : List ℕ). LeadsToBody a (record { types = l; method = k })) (sym (r.types ∙ ap (λ (j : ℕ). j ∷ r.ks) same)) h
]
