-- How much types declare: their parts in order, and no more than they weigh.
use Rattle.std.proofs.Common.{◌≡◌, ◌∙◌, refl, sym, ap, ℕ, zero, suc, ◌+◌, ◌≤◌, arith, Bool, true, false, List, [], ◌∷◌, ◌++◌, length, map, Option, None, Some}
use Rattle.std.specs.Prelude.{is_some, if◌then◌else◌}
use Rattle.std.specs.List.{flat_map, enumerate_from, sum_by}
use Rattle.std.proofs.lemmas.List.{length-append}
use Rattle.std.proofs.lemmas.List.Sums.{sum-map, sum_by-cons, sum_by-le-sum_by}
use Rattle.assembly_tree.specs.declared.assembly.Assembly.{Assembly}
use Rattle.assembly_tree.specs.declared.body.Body.{Body}
use Rattle.assembly_tree.specs.declared.body.Ins.{Ins}
use Rattle.assembly_tree.specs.declared.members.Method.{Method}
use Rattle.assembly_tree.specs.declared.typedef.MethodPath.{MethodPath}
use Rattle.assembly_tree.specs.declared.typedef.TypeDef.{TypeDef}
use Rattle.assembly_tree.specs.declared.typedef.TypeDef.TheFolds.{fold_out-TypeDef}
use Rattle.assembly_tree.specs.declared.typedef.TypeDef.TheViews.{out-TypeDef}
use Rattle.assembly_tree.specs.Nesting.{types_in, types_step}
use Rattle.assembly_tree.specs.Weight.{body_weight, instruction_weight, method_weight, optional, own_weight, typedef_step, typedef_weight, weight_of}
use Rattle.code_flow.specs.Methods.{all_methods, places_in, with_body}
use Rattle.all_bodies.specs.Counts.{bodies, bodies_in, body_count, body_step, instruction_step, instructions, instructions_in}
use Rattle.all_bodies.specs.Places.{places_from, places_of}
use Rattle.all_bodies.proofs.PlaceLemmas.{all_out, places_out, type_heavy}

abbrev pub with_bodies : Method → ℕ
with_bodies m = bodies m.body

abbrev pub with_code : Method → ℕ
with_code m = instructions m.body

-- ---- a type and those that it nests

pub classes_out : (t : TypeDef) → types_in t ≡ 1 + sum_by types_in (out-TypeDef t).nested
classes_out t = fold_out-TypeDef ℕ types_step t ∙ ap (λ (n : ℕ). 1 + n) (sum-map types_in (out-TypeDef t).nested)

pub bodies_out : (t : TypeDef) → bodies_in t ≡ sum_by with_bodies (out-TypeDef t).methods + sum_by bodies_in (out-TypeDef t).nested
bodies_out t = fold_out-TypeDef ℕ body_step t ∙ ap (λ (n : ℕ). sum_by with_bodies (out-TypeDef t).methods + n) (sum-map bodies_in (out-TypeDef t).nested)

pub instructions_out : (t : TypeDef) → instructions_in t ≡ sum_by with_code (out-TypeDef t).methods + sum_by instructions_in (out-TypeDef t).nested
instructions_out t =
    fold_out-TypeDef ℕ instruction_step t ∙ ap (λ (n : ℕ). sum_by with_code (out-TypeDef t).methods + n) (sum-map instructions_in (out-TypeDef t).nested)

-- ---- no more than the weight

weight_out : (t : TypeDef) → typedef_weight t ≡ own_weight (out-TypeDef t) + sum_by typedef_weight (out-TypeDef t).nested
unfolding own_weight
weight_out t =
    fold_out-TypeDef ℕ typedef_step t ∙ ap (λ (s : ℕ). own_weight (out-TypeDef t) + s) (sum-map typedef_weight (out-TypeDef t).nested)

pub methods_in_weight : (t : TypeDef) → 64 + sum_by method_weight (out-TypeDef t).methods + sum_by typedef_weight (out-TypeDef t).nested ≤ typedef_weight t
unfolding own_weight
methods_in_weight t = let e = weight_out t in omega arith

one_of_some : (o : Option Body) → bodies o ≤ 1
one_of_some None = omega arith
one_of_some (Some b) = omega arith

bodies_light : (m : Method) → bodies m.body ≤ method_weight m
unfolding method_weight
bodies_light m = let one = one_of_some m.body in omega arith

instruction_heavy : (xs : List Ins) → length xs ≤ sum_by instruction_weight xs
unfolding instruction_weight
instruction_heavy [] = omega arith
instruction_heavy (x ∷ xs) = let more = instruction_heavy xs in let first = sum_by-cons instruction_weight x xs in omega arith

code_in_body : (o : Option Body) → instructions o ≤ optional body_weight o
unfolding body_weight
code_in_body None = omega arith
code_in_body (Some b) = let h = instruction_heavy b.code in omega arith

code_light : (m : Method) → instructions m.body ≤ method_weight m
unfolding method_weight
code_light m = let h = code_in_body m.body in omega arith

pub bodies_low : (ms : List Method) → sum_by with_bodies ms ≤ sum_by method_weight ms
bodies_low ms = sum_by-le-sum_by with_bodies method_weight ms bodies_light

pub code_low : (ms : List Method) → sum_by with_code ms ≤ sum_by method_weight ms
code_low ms = sum_by-le-sum_by with_code method_weight ms code_light

classes_below : (n : ℕ) (ts : List TypeDef) → sum_by typedef_weight ts ≤ n → sum_by types_in ts ≤ sum_by typedef_weight ts
classes_below n [] h = omega arith
classes_below zero (t ∷ ts) h = let heavy = type_heavy t in let first = sum_by-cons typedef_weight t ts in absurd (omega arith)
classes_below (suc n) (t ∷ ts) h =
    let first = sum_by-cons typedef_weight t ts in
    let counted = sum_by-cons types_in t ts in
    let heavy = type_heavy t in
    let inside = classes_below n (out-TypeDef t).nested (omega arith) in
    let more = classes_below n ts (omega arith) in
    let out = classes_out t in
    omega arith

bodies_below : (n : ℕ) (ts : List TypeDef) → sum_by typedef_weight ts ≤ n → sum_by bodies_in ts ≤ sum_by typedef_weight ts
bodies_below n [] h = omega arith
bodies_below zero (t ∷ ts) h = let heavy = type_heavy t in let first = sum_by-cons typedef_weight t ts in absurd (omega arith)
bodies_below (suc n) (t ∷ ts) h =
    let first = sum_by-cons typedef_weight t ts in
    let counted = sum_by-cons bodies_in t ts in
    let heavy = methods_in_weight t in
    let own = bodies_low (out-TypeDef t).methods in
    let inside = bodies_below n (out-TypeDef t).nested (omega arith) in
    let more = bodies_below n ts (omega arith) in
    let out = bodies_out t in
    omega arith

instructions_below : (n : ℕ) (ts : List TypeDef) → sum_by typedef_weight ts ≤ n → sum_by instructions_in ts ≤ sum_by typedef_weight ts
instructions_below n [] h = omega arith
instructions_below zero (t ∷ ts) h = let heavy = type_heavy t in let first = sum_by-cons typedef_weight t ts in absurd (omega arith)
instructions_below (suc n) (t ∷ ts) h =
    let first = sum_by-cons typedef_weight t ts in
    let counted = sum_by-cons instructions_in t ts in
    let heavy = methods_in_weight t in
    let own = code_low (out-TypeDef t).methods in
    let inside = instructions_below n (out-TypeDef t).nested (omega arith) in
    let more = instructions_below n ts (omega arith) in
    let out = instructions_out t in
    omega arith

pub classes_low : (ts : List TypeDef) → sum_by types_in ts ≤ sum_by typedef_weight ts
classes_low ts = classes_below (sum_by typedef_weight ts) ts (omega arith)

pub bodies_among_low : (ts : List TypeDef) → sum_by bodies_in ts ≤ sum_by typedef_weight ts
bodies_among_low ts = bodies_below (sum_by typedef_weight ts) ts (omega arith)

pub instructions_low : (ts : List TypeDef) → sum_by instructions_in ts ≤ sum_by typedef_weight ts
instructions_low ts = instructions_below (sum_by typedef_weight ts) ts (omega arith)

pub parts_light : (a : Assembly) → sum_by method_weight a.methods + sum_by typedef_weight a.types ≤ weight_of a
unfolding weight_of
parts_light a = omega arith

-- ---- as many as are listed

listed_one : (places : List ℕ) (k : ℕ) (o : Option Body) (p : MethodPath) → length (if is_some o then p ∷ [] else []) ≡ bodies o
listed_one places k None p = refl
listed_one places k (Some b) p = refl

listed_methods : (places : List ℕ) (ms : List Method) (k : ℕ) → length (flat_map (with_body places) (enumerate_from k ms)) ≡ sum_by with_bodies ms
listed_methods places [] k = refl
listed_methods places (m ∷ ms) k =
    let more = listed_methods places ms (k + 1) in
    let one = listed_one places k m.body (record { types = places; method = k }) in
    let both = length-append (with_body places (k, m)) (flat_map (with_body places) (enumerate_from (k + 1) ms)) in
    both ∙ (λ i. one i + more i) ∙ sym (sum_by-cons with_bodies m ms)

listed_types : (n : ℕ) (outer : List ℕ) (ts : List TypeDef) (k : ℕ) → sum_by typedef_weight ts ≤ n → length (places_from outer k ts) ≡ sum_by bodies_in ts
listed_types n outer [] k h = refl
listed_types zero outer (t ∷ ts) k h = let heavy = type_heavy t in let first = sum_by-cons typedef_weight t ts in absurd (omega arith)
listed_types (suc n) outer (t ∷ ts) k h =
    let heavy = type_heavy t in
    let first = sum_by-cons typedef_weight t ts in
    let place = outer ++ k ∷ [] in
    let inside = listed_types n place (out-TypeDef t).nested 0 (omega arith) in
    let more = listed_types n outer ts (k + 1) (omega arith) in
    let own = listed_methods place (out-TypeDef t).methods 0 in
    let here : length (places_of t place) ≡ bodies_in t =
    ap length (places_out t place) ∙ length-append (places_in place (out-TypeDef t).methods) (places_from place 0 (out-TypeDef t).nested) ∙ (λ i. own i + inside i) ∙ sym (bodies_out t) in
    length-append (places_of t place) (places_from outer (k + 1) ts) ∙ (λ i. here i + more i) ∙ sym (sum_by-cons bodies_in t ts)

pub all_listed : (a : Assembly) → length (all_methods a) ≡ body_count a
all_listed a =
    let own = listed_methods [] a.methods 0 in
    let types = listed_types (sum_by typedef_weight a.types) [] a.types 0 (omega arith) in
    ap length (all_out a) ∙ length-append (places_in [] a.methods) (places_from [] 0 a.types) ∙ (λ i. own i + types i)
