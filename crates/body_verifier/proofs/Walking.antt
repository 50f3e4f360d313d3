-- What is found at a place.
use Rattle.std.proofs.Common.{◌≡◌, ◌∙◌, refl, sym, ap, subst, ℕ, List, [], ◌∷◌, ◌++◌, length, Option, None, Some}
use Rattle.std.specs.Prelude.{slice_get, option_and_then, is_some, true}
use Rattle.type_terms.specs.declared.name.TypeId.{TypeId}
use Rattle.assembly_tree.specs.declared.assembly.Assembly.{Assembly}
use Rattle.assembly_tree.specs.declared.body.Body.{Body}
use Rattle.assembly_tree.specs.declared.members.Method.{Method}
use Rattle.assembly_tree.specs.declared.typedef.MethodPath.{MethodPath}
use Rattle.assembly_tree.specs.declared.typedef.TypeDef.{TypeDef}
use Rattle.assembly_tree.specs.declared.typedef.TypeDef.TheViews.{out-TypeDef}
use Rattle.body_verifier.specs.Checking.{HasBody, LeadsToBody}
use Rattle.body_verifier.specs.Finding.{method_in, typedef_at, typedef_by, typedef_in}
use Rattle.type_order.specs.Fields.{the_module}
use Rattle.code_flow.specs.Methods.{Declared, Nested, declared_in, inwards, method_at, method_by, method_of, nested_in, type_by_place}

-- paths play no part
same_by : (ks : List ℕ) (p : List TypeId) (o : Option TypeDef) → ((t : TypeDef) (q : List TypeId) → typedef_in (inwards ks (record { path = q; typedef = t })) ≡ typedef_by ks t)
    → typedef_in (option_and_then (inwards ks) (nested_in p o)) ≡ option_and_then (typedef_by ks) o
same_by ks p None h = refl
same_by ks p (Some t) h = h t (p ++ (out-TypeDef t).id ∷ [])

same_inwards : (ks : List ℕ) (t : TypeDef) (p : List TypeId) → typedef_in (inwards ks (record { path = p; typedef = t })) ≡ typedef_by ks t
same_inwards [] t p = refl
same_inwards (k ∷ ks) t p = same_by ks p (slice_get (out-TypeDef t).nested k) (same_inwards ks)

pub same_place : (a : Assembly) (ks : List ℕ) → typedef_in (type_by_place a ks) ≡ typedef_at a ks
same_place a [] = refl
same_place a (k ∷ ks) = same_by ks [] (slice_get a.types k) (same_inwards ks)

declared_method : (path : List TypeId) (n : ℕ) (o : Option Method) → method_in (declared_in path n o) ≡ o
declared_method path n None = refl
declared_method path n (Some m) = refl

typed_method : (k : ℕ) (o : Option Nested) (t : TypeDef) → typedef_in o ≡ Some t → method_in (option_and_then (method_of k) o) ≡ slice_get (out-TypeDef t).methods k
typed_method k None t e = absurd (let f : ⊥ = cc in f)
typed_method k (Some n) t e =
    let same : n.typedef ≡ t = cc in
    declared_method n.path (length (out-TypeDef n.typedef).generics) (slice_get (out-TypeDef n.typedef).methods k) ∙ ap (λ (u : TypeDef). slice_get (out-TypeDef u).methods k) same

untyped_method : (k : ℕ) (o : Option Nested) → typedef_in o ≡ None → method_in (option_and_then (method_of k) o) ≡ None
untyped_method k None e = refl
untyped_method k (Some n) e = absurd (let f : ⊥ = cc in f)

by_module : (a : Assembly) (ks : List ℕ) (k : ℕ) → ks ≡ [] → method_in (method_by a ks k) ≡ slice_get a.methods k
by_module a [] k e = declared_method the_module 0 (slice_get a.methods k)
by_module a (t ∷ ts) k e = absurd (let f : ⊥ = cc in f)

by_type : (a : Assembly) (ks : List ℕ) (k : ℕ) (t : TypeDef) → (ks ≡ [] → ⊥) → typedef_at a ks ≡ Some t → method_in (method_by a ks k) ≡ slice_get (out-TypeDef t).methods k
by_type a [] k t ne e = absurd (ne refl)
by_type a (j ∷ js) k t ne e = typed_method k (type_by_place a (j ∷ js)) t (same_place a (j ∷ js) ∙ e)

by_none : (a : Assembly) (ks : List ℕ) (k : ℕ) → (ks ≡ [] → ⊥) → typedef_at a ks ≡ None → method_in (method_by a ks k) ≡ None
by_none a [] k ne e = absurd (ne refl)
by_none a (j ∷ js) k ne e = untyped_method k (type_by_place a (j ∷ js)) (same_place a (j ∷ js) ∙ e)

pub in_module : (a : Assembly) (path : MethodPath) → path.types ≡ [] → method_in (method_at a path) ≡ slice_get a.methods path.method
unfolding method_at
in_module a path e = by_module a path.types path.method e

pub in_type : (a : Assembly) (path : MethodPath) (t : TypeDef) → (path.types ≡ [] → ⊥) → typedef_at a path.types ≡ Some t → method_in (method_at a path) ≡ slice_get (out-TypeDef t).methods path.method
unfolding method_at
in_type a path t ne e = by_type a path.types path.method t ne e

pub in_none : (a : Assembly) (path : MethodPath) → (path.types ≡ [] → ⊥) → typedef_at a path.types ≡ None → method_in (method_at a path) ≡ None
unfolding method_at
in_none a path ne e = by_none a path.types path.method ne e

-- a type's path, from its first place
pub starts_at : (a : Assembly) (k : ℕ) (ks : List ℕ) (t : TypeDef) → slice_get a.types k ≡ Some t
    → type_by_place a (k ∷ ks) ≡ inwards ks (record { path = (out-TypeDef t).id ∷ []; typedef = t })
starts_at a k ks t e = ap (λ (o : Option TypeDef). option_and_then (inwards ks) (nested_in [] o)) e

pub starts_nowhere : (a : Assembly) (k : ℕ) (ks : List ℕ) → slice_get a.types k ≡ None → type_by_place a (k ∷ ks) ≡ None
starts_nowhere a k ks e = ap (λ (o : Option TypeDef). option_and_then (inwards ks) (nested_in [] o)) e

-- ---- a method with a body

pub found_method : (a : Assembly) (path : MethodPath) (o : Option Declared) (m : Method) → method_at a path ≡ o → Some m ≡ method_in o → (d : Declared) × (method_at a path ≡ Some d) × (d.method ≡ m)
found_method a path None m e h = absurd (let f : ⊥ = cc in f)
found_method a path (Some d) m e h = (d, e, cc)

pub leads : (a : Assembly) (path : MethodPath) (m : Method) (b : Body) → Some m ≡ method_in (method_at a path) → m.body ≡ Some b → LeadsToBody a path
leads a path m b h e =
    let d = found_method a path (method_at a path) m refl h in
    (d.0, b, record { is = d.1; has = ap (λ (x : Method). x.body) d.2 ∙ e })

pub led : (a : Assembly) (path : MethodPath) (m : Method) → Some m ≡ method_in (method_at a path) → LeadsToBody a path → (b : Body) × (m.body ≡ Some b)
led a path m h l =
    let d = found_method a path (method_at a path) m refl h in
    let e : Some d.0 ≡ Some l.0 = sym d.1 ∙ l.2.is in
    let f : d.0 ≡ l.0 = cc in
    (l.1, ap (λ (x : Method). x.body) (sym d.2) ∙ ap (λ (x : Declared). x.method.body) f ∙ l.2.has)

some_body : (o : Option Body) → is_some o ≡ true → (b : Body) × (o ≡ Some b)
some_body None e = absurd (let f : ⊥ = cc in f)
some_body (Some b) e = (b, refl)

pub leads_some : (a : Assembly) (path : MethodPath) (m : Method) → Some m ≡ method_in (method_at a path) → is_some m.body ≡ true → LeadsToBody a path
leads_some a path m h e = let b = some_body m.body e in leads a path m b.0 h b.1

pub led_some : (a : Assembly) (path : MethodPath) (m : Method) → Some m ≡ method_in (method_at a path) → LeadsToBody a path → is_some m.body ≡ true
led_some a path m h l = let b = led a path m h l in ap is_some b.1

pub led_nowhere : (a : Assembly) (path : MethodPath) → method_in (method_at a path) ≡ None → LeadsToBody a path → ⊥
led_nowhere a path h l = let e : method_in (Some l.0) ≡ None = ap method_in (sym l.2.is) ∙ h in let f : ⊥ = cc in f

-- what is declared has the path and the parameters of its type
by_declared : (path : List TypeId) (n : ℕ) (o : Option Method) (d : Declared) → declared_in path n o ≡ Some d → (d.path ≡ path) × (d.parameters ≡ n)
by_declared path n None d e = absurd (let f : ⊥ = cc in f)
by_declared path n (Some m) d e =
    let f : record { path = path; parameters = n; method = m } ≡ d = cc in
    (sym (ap (λ (x : Declared). x.path) f), sym (ap (λ (x : Declared). x.parameters) f))

-- the type that a method is declared in
pub record IsDeclaredIn (a : Assembly) (ks : List ℕ) (d : Declared) : Type 0 where
  pub typed : (t : Nested) → type_by_place a ks ≡ Some t → (d.path ≡ t.path) × (d.parameters ≡ length (out-TypeDef t.typedef).generics)
  pub bare : ks ≡ [] → (d.path ≡ the_module) × (d.parameters ≡ 0)
  pub either : (ks ≡ [] → ⊥) → (t : Nested) × (type_by_place a ks ≡ Some t)

declared_typed : (k : ℕ) (o : Option Nested) (t : Nested) (d : Declared) → o ≡ Some t → option_and_then (method_of k) o ≡ Some d → (d.path ≡ t.path) × (d.parameters ≡ length (out-TypeDef t.typedef).generics)
declared_typed k None t d e h = absurd (let f : ⊥ = cc in f)
declared_typed k (Some n) t d e h =
    let same : n ≡ t = cc in
    let P : Nested → Type 0 = λ (x : Nested). (d.path ≡ x.path) × (d.parameters ≡ length (out-TypeDef x.typedef).generics) in
    subst P same (by_declared n.path (length (out-TypeDef n.typedef).generics) (slice_get (out-TypeDef n.typedef).methods k) d h)

some_type : (k : ℕ) (o : Option Nested) (d : Declared) → option_and_then (method_of k) o ≡ Some d → (t : Nested) × (o ≡ Some t)
some_type k None d h = absurd (let f : ⊥ = cc in f)
some_type k (Some n) d h = (n, refl)

declared_by : (a : Assembly) (ks : List ℕ) (k : ℕ) (d : Declared) → method_by a ks k ≡ Some d → IsDeclaredIn a ks d
declared_by a [] k d h = record {
  typed = λ t e. absurd (let f : ⊥ = cc in f);
  bare = λ e. by_declared the_module 0 (slice_get a.methods k) d h;
  either = λ ne. absurd (ne refl);
}
declared_by a (j ∷ js) k d h = record {
  typed = λ t e. declared_typed k (type_by_place a (j ∷ js)) t d e h;
  bare = λ e. absurd (let f : ⊥ = cc in f);
  either = λ ne. some_type k (type_by_place a (j ∷ js)) d h;
}

pub declared_at : (a : Assembly) (path : MethodPath) (d : Declared) → method_at a path ≡ Some d → IsDeclaredIn a path.types d
unfolding method_at
declared_at a path d h = declared_by a path.types path.method d h
