-- What a method at a place weighs, and what holds of it in a well-formed assembly.
use Rattle.std.proofs.Common.{◌≡◌, ◌∙◌, refl, sym, ap, subst, ℕ, zero, suc, ◌+◌, ◌*◌, ◌<◌, ◌≤◌, ◌^◌, ◌&&◌, arith, Bool, true, false, List, [], ◌∷◌, ◌++◌, length, map, get_or, Option, None, Some}
use Rattle.std.specs.Prelude.{slice_get, option_and_then, IsTrue}
use Rattle.std.specs.List.{All, AllPass, list_all, sum_by, flat_map, filter}
use Rattle.std.proofs.lemmas.Bool.{and_parts, leb-true}
use Rattle.std.proofs.lemmas.List.{length-map, length-append}
use Rattle.std.proofs.lemmas.List.Elements.{All-get_or}
use Rattle.std.proofs.lemmas.List.Sums.{sum-map, get_or-le-sum_by, AllPass-from_list_all, sum_by-le-sum_by}
use Rattle.std.proofs.lemmas.Option.{get_or_from_slice_get, slice_get_within}
use Rattle.type_terms.specs.declared.name.TypeId.{TypeId}
use Rattle.type_terms.specs.declared.term.SigType.{SigType}
use Rattle.assembly_tree.specs.declared.assembly.Assembly.{Assembly}
use Rattle.assembly_tree.specs.declared.body.Body.{Body}
use Rattle.assembly_tree.specs.declared.body.Clause.{Clause}
use Rattle.assembly_tree.specs.declared.body.Ins.{Ins}
use Rattle.assembly_tree.specs.declared.body.Operand.{Operand}
use Rattle.assembly_tree.specs.declared.body.Operand.TheVariants as operand
use Rattle.assembly_tree.specs.declared.members.Method.{Method}
use Rattle.assembly_tree.specs.declared.typedef.MethodPath.{MethodPath}
use Rattle.assembly_tree.specs.declared.typedef.TypeDef.{TypeDef}
use Rattle.assembly_tree.specs.declared.typedef.TypeDef.TheOpen.{TypeDef-F}
use Rattle.assembly_tree.specs.declared.typedef.TypeDef.TheFolds.{fold_out-TypeDef}
use Rattle.assembly_tree.specs.declared.typedef.TypeDef.TheViews.{out-TypeDef}
use Rattle.assembly_tree.specs.Weight.{optional, body_weight, clause_weight, instruction_weight, operand_weight, method_weight, own_weight, typedef_step, typedef_weight, weight_of}
use Rattle.assembly_tree.specs.WellFormed.{are_globals, is_well_formed, is_manifest, is_extern, are_classes, is_one_entry}
use Rattle.assembly_tree.specs.WellFormedBodies.{has_body_form, is_body, is_clause, is_instruction, short_branches_reach, names_well, size_of, operand_size, operand_kind, targets_size}
use Rattle.assembly_tree.specs.WellFormedMembers.{is_method}
use Rattle.assembly_tree.specs.WellFormedTerms.{is_count}
use Rattle.assembly_tree.specs.WellFormedTypes.{are_members, are_types, is_head, is_own, is_same_id}
use Rattle.body_verifier.specs.Checking.{HasBody}
use Rattle.type_order.specs.Fields.{the_module}
use Rattle.code_flow.specs.Methods.{Declared, Nested, declared_in, inwards, method_at, method_by, method_of, nested_in, type_by_place}

-- ---- weights of parts

some_part : {X : Type 0} (f : X → ℕ) (xs : List X) (k : ℕ) (x : X) → slice_get xs k ≡ Some x → f x ≤ sum_by f xs
some_part f xs k x at =
    let less = get_or-le-sum_by f xs k x (slice_get_within xs k x at) in
    let same : f (get_or xs k x) ≡ f x = ap f (get_or_from_slice_get xs k x x at) in
    omega arith

passes_at : {X : Type 0} (p : X → Bool) (xs : List X) (k : ℕ) (x : X) → list_all p xs ≡ true → slice_get xs k ≡ Some x → p x ≡ true
passes_at p xs k x all at =
    sym (ap p (get_or_from_slice_get xs k x x at))
    ∙ All-get_or (λ y. p y ≡ true) xs k x (slice_get_within xs k x at) (AllPass-from_list_all p xs all)

weight_out : (t : TypeDef) → typedef_weight t ≡ own_weight (out-TypeDef t) + sum_by typedef_weight (out-TypeDef t).nested
unfolding own_weight
weight_out t =
    fold_out-TypeDef ℕ typedef_step t ∙ ap (λ s. own_weight (out-TypeDef t) + s) (sum-map typedef_weight (out-TypeDef t).nested)

nested_weight : (t : TypeDef) → sum_by typedef_weight (out-TypeDef t).nested + 64 ≤ typedef_weight t
unfolding own_weight
nested_weight t = let e = weight_out t in omega arith

methods_weight : (t : TypeDef) → sum_by method_weight (out-TypeDef t).methods ≤ typedef_weight t
unfolding own_weight
methods_weight t = let e = weight_out t in omega arith

body_part : (m : Method) (b : Body) → m.body ≡ Some b → body_weight b ≤ method_weight m
unfolding method_weight
body_part m b e =
    let same : optional body_weight m.body ≡ body_weight b = ap (optional body_weight) e in
    omega arith

-- ---- a type at a place

-- a type meets its conditions, and those that it nests do
record IsFine (a : Assembly) (t : TypeDef) : Type 0 where
  top : Bool
  levels : ℕ
  own : is_own a top (out-TypeDef t) ≡ true
  nested : are_types a false levels (out-TypeDef t).nested ≡ true

none_formed : (a : Assembly) (top : Bool) (ts : List TypeDef) (k : ℕ) (t : TypeDef) → are_types a top 0 ts ≡ true → slice_get ts k ≡ Some t → ⊥
unfolding are_types
none_formed a top [] k t h at = let less = slice_get_within [] k t at in omega arith
none_formed a top (x ∷ xs) k t h at = let e : 1 + length xs ≡ 0 = grind arith in omega arith

formed_at : (a : Assembly) (top : Bool) (levels : ℕ) (ts : List TypeDef) (k : ℕ) (t : TypeDef) → are_types a top levels ts ≡ true → slice_get ts k ≡ Some t → IsFine a t
unfolding are_types
formed_at a top zero ts k t h at = absurd (none_formed a top ts k t h at)
formed_at a top (suc n) ts k t h at =
    let p = and_parts _ (list_all (λ t. is_own a top (out-TypeDef t) && are_types a false n (out-TypeDef t).nested) ts) h in
    let q = and_parts (is_own a top (out-TypeDef t)) (are_types a false n (out-TypeDef t).nested)
    (passes_at (λ t. is_own a top (out-TypeDef t) && are_types a false n (out-TypeDef t).nested) ts k t p.1 at) in
    record { top = top; levels = n; own = q.0; nested = q.1 }

-- what is known of a type inwards from one
record IsInside (a : Assembly) (outer inner : TypeDef) : Type 0 where
  light : typedef_weight inner ≤ typedef_weight outer
  fine : IsFine a outer → IsFine a inner

nested_step : (path : List TypeId) (o : Option TypeDef) (ks : List ℕ) (n : Nested) → option_and_then (inwards ks) (nested_in path o) ≡ Some n
    → (t : TypeDef) × (o ≡ Some t) × (inwards ks (record { path = path ++ (out-TypeDef t).id ∷ []; typedef = t }) ≡ Some n)
nested_step path None ks n h = absurd (let e : ⊥ = cc in e)
nested_step path (Some t) ks n h = (t, refl, h)

inside : (a : Assembly) (ks : List ℕ) (from to : Nested) → inwards ks from ≡ Some to → IsInside a from.typedef to.typedef
inside a [] from to h =
    let e : from ≡ to = cc in
    let P : Nested → Type 0 = λ (n : Nested). IsInside a from.typedef n.typedef in
    subst P e (record { light = omega arith; fine = λ f. f })
inside a (k ∷ ks) from to h =
    let s = nested_step from.path (slice_get (out-TypeDef from.typedef).nested k) ks to h in
    let next = inside a ks (record { path = from.path ++ (out-TypeDef s.0).id ∷ []; typedef = s.0 }) to s.2 in
    let part = some_part typedef_weight (out-TypeDef from.typedef).nested k s.0 s.1 in
    let whole = nested_weight from.typedef in
    record {
      light = let l = next.light in omega arith;
      fine = λ f. next.fine (formed_at a false f.levels (out-TypeDef from.typedef).nested k s.0 f.nested s.1);
    }

place_step : (a : Assembly) (k : ℕ) (ks : List ℕ) (n : Nested) → type_by_place a (k ∷ ks) ≡ Some n
    → (t : TypeDef) × (slice_get a.types k ≡ Some t) × (inwards ks (record { path = [] ++ (out-TypeDef t).id ∷ []; typedef = t }) ≡ Some n)
place_step a k ks n h = nested_step [] (slice_get a.types k) ks n h

classes_formed : (a : Assembly) → is_well_formed a ≡ true → are_types a true 100 a.types ≡ true
unfolding is_well_formed
classes_formed a h =
    let p = and_parts (is_manifest a a.manifest && list_all is_extern a.externs && are_classes a && are_globals a) (is_one_entry a) h in
    let q = and_parts (is_manifest a a.manifest && list_all is_extern a.externs && are_classes a) (are_globals a) p.0 in
    (and_parts (is_manifest a a.manifest && list_all is_extern a.externs) (are_classes a) q.0).1

globals_formed : (a : Assembly) → is_well_formed a ≡ true → are_globals a ≡ true
unfolding is_well_formed
globals_formed a h =
    let p = and_parts (is_manifest a a.manifest && list_all is_extern a.externs && are_classes a && are_globals a) (is_one_entry a) h in
    (and_parts (is_manifest a a.manifest && list_all is_extern a.externs && are_classes a) (are_globals a) p.0).1

methods_formed : (a : Assembly) → are_globals a ≡ true → list_all (is_method a) a.methods ≡ true
unfolding are_globals
methods_formed a h =
    let p = and_parts _ _ h in
    let q = and_parts _ _ p.0 in
    (and_parts _ _ q.0).1

types_weight : (a : Assembly) → sum_by typedef_weight a.types + 32768 ≤ weight_of a
unfolding weight_of
types_weight a = omega arith

globals_weight : (a : Assembly) → sum_by method_weight a.methods ≤ weight_of a
unfolding weight_of
globals_weight a = omega arith

-- a type that is found weighs no more than the assembly, and meets its conditions
record IsFound (a : Assembly) (t : TypeDef) : Type 0 where
  light : typedef_weight t ≤ weight_of a
  fine : IsFine a t

found : (a : Assembly) (ks : List ℕ) (n : Nested) → is_well_formed a ≡ true → type_by_place a ks ≡ Some n → IsFound a n.typedef
found a [] n formed h = absurd (let e : ⊥ = cc in e)
found a (k ∷ ks) n formed h =
    let s = place_step a k ks n h in
    let i = inside a ks (record { path = [] ++ (out-TypeDef s.0).id ∷ []; typedef = s.0 }) n s.2 in
    let part = some_part typedef_weight a.types k s.0 s.1 in
    let whole = types_weight a in
    record {
      light = let l = i.light in omega arith;
      fine = i.fine (formed_at a true 100 a.types k s.0 (classes_formed a formed) s.1);
    }

head_count : (a : Assembly) (top : Bool) (t : TypeDef-F TypeDef) → is_own a top t ≡ true → is_count (length t.generics) ≡ true
unfolding is_own is_head
head_count a top t h =
    let p = and_parts _ _ (and_parts _ _ (and_parts _ _ h).0).0 in
    let q = and_parts _ _ (and_parts _ _ (and_parts _ _ (and_parts _ _ (and_parts _ _ p.0).0).0).0).0 in
    (and_parts _ _ q.0).1

-- the number of generic parameters has 16 bits
pub few_generics : (a : Assembly) (ks : List ℕ) (n : Nested) → is_well_formed a ≡ true → type_by_place a ks ≡ Some n → length (out-TypeDef n.typedef).generics < 2 ^ 32
few_generics a ks n formed h =
    let f = (found a ks n formed h).fine in
    let l = leb-true (length (out-TypeDef n.typedef).generics) 65535 (head_count a f.top (out-TypeDef n.typedef) f.own) in
    omega arith

own_methods : (a : Assembly) (top : Bool) (t : TypeDef-F TypeDef) → is_own a top t ≡ true → list_all (is_method a) t.methods ≡ true
unfolding is_own are_members
own_methods a top t h =
    let p = and_parts _ _ (and_parts _ _ (and_parts _ _ h).0).0 in
    let q = and_parts _ _ (and_parts _ _ p.1).0 in
    (and_parts _ _ q.0).1

-- ---- a method at a place

-- a method that is found weighs no more than the assembly, and meets its conditions
record IsMethodIn (a : Assembly) (m : Method) : Type 0 where
  light : method_weight m ≤ weight_of a
  formed : is_method a m ≡ true

declared_step : (path : List TypeId) (n : ℕ) (o : Option Method) (d : Declared) → declared_in path n o ≡ Some d
    → (o ≡ Some d.method) × (d.path ≡ path) × (d.parameters ≡ n)
declared_step path n None d h = absurd (let e : ⊥ = cc in e)
declared_step path n (Some m) d h =
    let e : record { path = path; parameters = n; method = m } ≡ d = cc in
    (ap (λ (x : Declared). Some x.method) e, sym (ap (λ (x : Declared). x.path) e), sym (ap (λ (x : Declared). x.parameters) e))

typed_step : (a : Assembly) (k : ℕ) (o : Option Nested) (d : Declared) → option_and_then (method_of k) o ≡ Some d
    → (n : Nested) × (o ≡ Some n) × (method_of k n ≡ Some d)
typed_step a k None d h = absurd (let e : ⊥ = cc in e)
typed_step a k (Some n) d h = (n, refl, h)

method_by_in : (a : Assembly) (ks : List ℕ) (k : ℕ) (d : Declared) → is_well_formed a ≡ true → method_by a ks k ≡ Some d → IsMethodIn a d.method
method_by_in a [] k d formed h =
    let s = declared_step the_module 0 (slice_get a.methods k) d h in
    let part = some_part method_weight a.methods k d.method s.0 in
    let whole = globals_weight a in
    record { light = omega arith; formed = passes_at (is_method a) a.methods k d.method (methods_formed a (globals_formed a formed)) s.0 }
method_by_in a (t ∷ ts) k d formed h =
    let s = typed_step a k (type_by_place a (t ∷ ts)) d h in
    let f = found a (t ∷ ts) s.0 formed s.1 in
    let u = declared_step s.0.path (length (out-TypeDef s.0.typedef).generics) (slice_get (out-TypeDef s.0.typedef).methods k) d s.2 in
    let part = some_part method_weight (out-TypeDef s.0.typedef).methods k d.method u.0 in
    let whole = methods_weight s.0.typedef in
    record {
      light = let l = f.light in omega arith;
      formed = passes_at (is_method a) (out-TypeDef s.0.typedef).methods k d.method (own_methods a f.fine.top (out-TypeDef s.0.typedef) f.fine.own) u.0;
    }

method_at_in : (a : Assembly) (path : MethodPath) (d : Declared) → is_well_formed a ≡ true → method_at a path ≡ Some d → IsMethodIn a d.method
unfolding method_at
method_at_in a path d formed h = method_by_in a path.types path.method d formed h

body_formed : (a : Assembly) (m : Method) (b : Body) → m.body ≡ Some b → is_method a m ≡ true → is_body a b ≡ true
unfolding is_method
body_formed a m b e h =
    let p = and_parts _ _ (and_parts _ _ h).0 in
    let P : Option Body → Type 0 = λ (o : Option Body). Rattle.assembly_tree.specs.WellFormedNames.option_all (is_body a) o ≡ true in
    subst P e p.1

form_of : (a : Assembly) (b : Body) → is_body a b ≡ true → has_body_form b ≡ true
unfolding is_body
form_of a b h = (and_parts (has_body_form b) (short_branches_reach b.code) (and_parts (has_body_form b && short_branches_reach b.code) (names_well a b) h).0).0

-- a body of an assembly that is fit
pub record IsLightBody (b : Body) : Type 0 where
  pub light : body_weight b ≤ 2 ^ 26
  pub some : 0 < length b.code
  pub instructions : list_all (is_instruction (length b.code)) b.code ≡ true
  pub clauses : list_all (is_clause (length b.code)) b.clauses ≡ true

form_parts : (b : Body) → has_body_form b ≡ true → body_weight b ≤ 2 ^ 26 → IsLightBody b
unfolding has_body_form
form_parts b h l =
    let p = and_parts _ (list_all (is_clause (length b.code)) b.clauses) h in
    let q = and_parts _ (list_all (is_instruction (length b.code)) b.code) p.0 in
    let r = and_parts _ _ (and_parts _ _ q.0).0 in
    record { light = l; some = Rattle.std.proofs.lemmas.Bool.ltb-true 0 (length b.code) r.0; instructions = q.1; clauses = p.1 }

pub light_body : (a : Assembly) (path : MethodPath) (d : Declared) (b : Body) → IsTrue (is_well_formed a) → weight_of a ≤ 2 ^ 26 → HasBody a path d b → IsLightBody b
light_body a path d b formed light h =
    let m = method_at_in a path d formed h.is in
    let part = body_part d.method b h.has in
    let l = m.light in
    form_parts b (form_of a b (body_formed a d.method b h.has m.formed)) (omega arith)

-- ---- counts in a body

count_low : {X : Type 0} (f : X → ℕ) (c : ℕ) (xs : List X) → ((x : X) → c ≤ f x) → c * length xs ≤ sum_by f xs
count_low f c [] h = omega arith
count_low f c (x ∷ xs) h = let more = count_low f c xs h in let one = h x in let e = Rattle.std.proofs.lemmas.List.Sums.sum_by-cons f x xs in omega (arith, more, one, e)

heavy_instruction : (i : Ins) → 16 ≤ instruction_weight i
unfolding instruction_weight
heavy_instruction i = omega arith

heavy_clause : (c : Clause) → 64 ≤ clause_weight c
unfolding clause_weight
heavy_clause c = omega arith

pub few_instructions : (b : Body) → IsLightBody b → length b.code ≤ 2 ^ 22
unfolding body_weight
few_instructions b h =
    let low = count_low instruction_weight 16 b.code heavy_instruction in
    let light = h.light in
    omega arith

pub few_clauses : (b : Body) → IsLightBody b → length b.clauses ≤ 2 ^ 20
unfolding body_weight
few_clauses b h =
    let low = count_low clause_weight 64 b.clauses heavy_clause in
    let light = h.light in
    omega arith

pub few_locals : (b : Body) → IsLightBody b → length b.locals ≤ 2 ^ 20
unfolding body_weight
few_locals b h = let light = h.light in omega arith
