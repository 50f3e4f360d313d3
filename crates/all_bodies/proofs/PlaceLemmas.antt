-- The places of methods, one more of them at a time.
use Rattle.std.proofs.Common.{◌≡◌, ◌∙◌, refl, sym, ap, ℕ, zero, suc, ◌+◌, ◌<◌, ◌≤◌, ◌^◌, arith, List, [], ◌∷◌, ◌++◌, length, get_or, map, take, Some}
use Rattle.std.specs.Prelude.{slice_get}
use Rattle.std.specs.List.{flat_map, enumerate_from, sum_by}
use Rattle.std.proofs.lemmas.Grind.{flat_map-append}
use Rattle.std.proofs.lemmas.List.{append_assoc, append-nil, length-take-le, take_more}
use Rattle.std.proofs.lemmas.List.Sums.{get_or-le-sum_by, sum-map, sum_by-append, sum_by-cons}
use Rattle.assembly_tree.specs.declared.assembly.Assembly.{Assembly}
use Rattle.assembly_tree.specs.declared.members.Method.{Method}
use Rattle.assembly_tree.specs.declared.typedef.MethodPath.{MethodPath}
use Rattle.assembly_tree.specs.declared.typedef.TypeDef.{TypeDef}
use Rattle.assembly_tree.specs.declared.typedef.TypeDef.TheFolds.{fold_out-TypeDef}
use Rattle.assembly_tree.specs.declared.typedef.TypeDef.TheViews.{out-TypeDef}
use Rattle.assembly_tree.specs.Weight.{method_weight, own_weight, typedef_step, typedef_weight, weight_of}
use Rattle.code_flow.specs.Methods.{all_methods, places_in, preorder, typedef_places, with_body}
use Rattle.all_bodies.specs.Places.{places_from, places_of}

-- ---- types

nested_places : (ts : List TypeDef) (outer : List ℕ) (k : ℕ) → flat_map (λ (x : ℕ × (List ℕ → List MethodPath)). x.1 (outer ++ x.0 ∷ [])) (enumerate_from k (map places_of ts)) ≡ places_from outer k ts
nested_places [] outer k = refl
nested_places (t ∷ ts) outer k = ap (λ (l : List MethodPath). places_of t (outer ++ k ∷ []) ++ l) (nested_places ts outer (k + 1))

top_places : (ts : List TypeDef) (k : ℕ) → flat_map typedef_places (enumerate_from k ts) ≡ places_from [] k ts
top_places [] k = refl
top_places (t ∷ ts) k = ap (λ (l : List MethodPath). places_of t (k ∷ []) ++ l) (top_places ts (k + 1))

-- those of a type are its own, and then those of the types that it nests
pub places_out : (t : TypeDef) (places : List ℕ) → places_of t places ≡ places_in places (out-TypeDef t).methods ++ places_from places 0 (out-TypeDef t).nested
places_out t places =
    ap (λ (p : List ℕ → List MethodPath). p places) (fold_out-TypeDef (List ℕ → List MethodPath) preorder t)
    ∙ ap (λ (l : List MethodPath). places_in places (out-TypeDef t).methods ++ l) (nested_places (out-TypeDef t).nested places 0)

pub all_out : (a : Assembly) → all_methods a ≡ places_in [] a.methods ++ places_from [] 0 a.types
unfolding all_methods
all_out a = ap (λ (l : List MethodPath). places_in [] a.methods ++ l) (top_places a.types 0)

types_end : (outer : List ℕ) (ts : List TypeDef) (k : ℕ) (t : TypeDef) → places_from outer k (ts ++ t ∷ []) ≡ places_from outer k ts ++ places_of t (outer ++ (k + length ts) ∷ [])
types_end outer [] k t =
    let same : k ≡ k + 0 = omega arith in
    append-nil (places_of t (outer ++ k ∷ [])) ∙ ap (λ (n : ℕ). places_of t (outer ++ n ∷ [])) same
types_end outer (u ∷ us) k t =
    let same : (k + 1) + length us ≡ k + suc (length us) = omega arith in
    let first = places_of u (outer ++ k ∷ []) in
    ap (λ (l : List MethodPath). first ++ l) (types_end outer us (k + 1) t ∙ ap (λ (n : ℕ). places_from outer (k + 1) us ++ places_of t (outer ++ n ∷ [])) same)
    ∙ sym (append_assoc first (places_from outer (k + 1) us) (places_of t (outer ++ (k + suc (length us)) ∷ [])))

pub types_more : (outer : List ℕ) (ts : List TypeDef) (k : ℕ) (t : TypeDef) → k < length ts → t ≡ get_or ts k t
    → places_from outer 0 (take (k + 1) ts) ≡ places_from outer 0 (take k ts) ++ (places_in (outer ++ k ∷ []) (out-TypeDef t).methods ++ places_from (outer ++ k ∷ []) 0 (out-TypeDef t).nested)
types_more outer ts k t low is =
    let all = length-take-le k ts (omega (arith, low)) in
    let long : 0 + length (take k ts) ≡ k = omega (arith, all) in
    ap (places_from outer 0) (take_more ts k t low ∙ ap (λ (x : TypeDef). take k ts ++ x ∷ []) (sym is)) ∙ types_end outer (take k ts) 0 t
    ∙ ap (λ (n : ℕ). places_from outer 0 (take k ts) ++ places_of t (outer ++ n ∷ [])) long
    ∙ ap (λ (l : List MethodPath). places_from outer 0 (take k ts) ++ l) (places_out t (outer ++ k ∷ []))

-- ---- methods

numbered_end : (ms : List Method) (k : ℕ) (m : Method) → enumerate_from k (ms ++ m ∷ []) ≡ enumerate_from k ms ++ (k + length ms, m) ∷ []
numbered_end [] k m = let same : k ≡ k + 0 = omega arith in ap (λ (n : ℕ). (n, m) ∷ []) same
numbered_end (x ∷ xs) k m =
    let same : (k + 1) + length xs ≡ k + suc (length xs) = omega arith in
    ap (λ (l : List (ℕ × Method)). (k, x) ∷ l) (numbered_end xs (k + 1) m ∙ ap (λ (n : ℕ). enumerate_from (k + 1) xs ++ (n, m) ∷ []) same)

pub methods_more : (places : List ℕ) (ms : List Method) (k : ℕ) (m : Method) → k < length ms → m ≡ get_or ms k m
    → places_in places (take (k + 1) ms) ≡ places_in places (take k ms) ++ with_body places (k, m)
methods_more places ms k m low is =
    let all = length-take-le k ms (omega (arith, low)) in
    let long : 0 + length (take k ms) ≡ k = omega (arith, all) in
    ap (places_in places) (take_more ms k m low ∙ ap (λ (x : Method). take k ms ++ x ∷ []) (sym is))
    ∙ ap (flat_map (with_body places)) (numbered_end (take k ms) 0 m ∙ ap (λ (n : ℕ). enumerate_from 0 (take k ms) ++ (n, m) ∷ []) long)
    ∙ flat_map-append (with_body places) (enumerate_from 0 (take k ms)) ((k, m) ∷ [])
    ∙ ap (λ (l : List MethodPath). places_in places (take k ms) ++ l) (append-nil (with_body places (k, m)))

-- ---- weights

weight_out : (t : TypeDef) → typedef_weight t ≡ own_weight (out-TypeDef t) + sum_by typedef_weight (out-TypeDef t).nested
unfolding own_weight
weight_out t =
    fold_out-TypeDef ℕ typedef_step t ∙ ap (λ s. own_weight (out-TypeDef t) + s) (sum-map typedef_weight (out-TypeDef t).nested)

method_heavy : (m : Method) → 64 ≤ method_weight m
unfolding method_weight
method_heavy m = omega arith

count_low : {X : Type 0} (weigh : X → ℕ) (xs : List X) → ((x : X) → 64 ≤ weigh x) → length xs ≤ sum_by weigh xs
count_low weigh [] each = omega arith
count_low weigh (x ∷ xs) each = let more = count_low weigh xs each in let here = each x in let first = sum_by-cons weigh x xs in omega arith

pub type_heavy : (t : TypeDef) → 64 + sum_by typedef_weight (out-TypeDef t).nested ≤ typedef_weight t
unfolding own_weight
type_heavy t = let e = weight_out t in omega arith

own_heavy : (t : TypeDef) → 64 ≤ typedef_weight t
own_heavy t = let h = type_heavy t in omega arith

pub few_types : (ts : List TypeDef) → length ts ≤ sum_by typedef_weight ts
few_types ts = count_low typedef_weight ts own_heavy

pub few_methods : (t : TypeDef) → length (out-TypeDef t).methods ≤ typedef_weight t
unfolding own_weight
few_methods t = let e = weight_out t in let low = count_low method_weight (out-TypeDef t).methods method_heavy in omega arith

pub type_in : (ts : List TypeDef) (k : ℕ) (t : TypeDef) → k < length ts → t ≡ get_or ts k t → typedef_weight t ≤ sum_by typedef_weight ts
type_in ts k t low is =
    let part = get_or-le-sum_by typedef_weight ts k t low in
    let same : typedef_weight (get_or ts k t) ≡ typedef_weight t = ap typedef_weight (sym is) in
    omega arith

pub types_light : (a : Assembly) → sum_by typedef_weight a.types ≤ weight_of a
unfolding weight_of
types_light a = omega arith

pub methods_few : (a : Assembly) → length a.methods ≤ weight_of a
unfolding weight_of
methods_few a = let low = count_low method_weight a.methods method_heavy in omega arith

-- ---- sums

pub sum_more : {X : Type 0} (f : X → ℕ) (xs : List X) (k : ℕ) (x : X) → k < length xs → x ≡ get_or xs k x → sum_by f (take (k + 1) xs) ≡ sum_by f (take k xs) + f x
sum_more {X} f xs k x low is =
    let one : sum_by f (x ∷ []) ≡ f x = omega arith in
    ap (sum_by f) (take_more xs k x low ∙ ap (λ (y : X). take k xs ++ y ∷ []) (sym is)) ∙ sum_by-append f (take k xs) (x ∷ []) ∙ ap (λ (n : ℕ). sum_by f (take k xs) + n) one
