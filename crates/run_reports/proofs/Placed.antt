-- A method that a place leads to has a reference.
use Rattle.std.proofs.Common.{◌≡◌, ℕ, true, List, [], ◌∷◌, ◌++◌, Option, None, Some, IsTrue, refl, ap, subst, sym, ◌∙◌}
use Rattle.std.specs.List.{All}
use Rattle.std.specs.Prelude.{slice_get, is_some, option_map, option_and_then}
use Rattle.std.proofs.lemmas.List.Elements.{All-append, All-nil, All-map, All-cons}
use Rattle.type_terms.specs.declared.name.TypeId.{TypeId}
use Rattle.assembly_tree.specs.declared.assembly.Assembly.{Assembly}
use Rattle.assembly_tree.specs.declared.members.Method.{Method}
use Rattle.assembly_tree.specs.declared.typedef.MethodPath.{MethodPath}
use Rattle.assembly_tree.specs.declared.typedef.TypeDef.{TypeDef}
use Rattle.assembly_tree.specs.declared.typedef.TypeDef.TheViews.{out-TypeDef}
use Rattle.body_verifier.specs.Reports.{ReportsEach, no_methods, method, reported}
use Rattle.body_verifier.specs.declared.report.Failure.{Failure}
use Rattle.code_flow.specs.Methods as flow
use Rattle.listing_model.specs.Canon.{Placed, inwards, methods_at, module_path, reference_at}
use Rattle.listing_model.specs.Members.{own_reference}
use Rattle.type_hierarchy.specs.Hierarchy.{Hierarchy}

-- what is known of a type where there is one
inner : (ks : List ℕ) (path : List TypeId) (n : flow.Nested)
    → ((u : TypeDef) → flow.inwards ks (record { path = path ++ (out-TypeDef u).id ∷ []; typedef = u }) ≡ Some n
    → inwards u ks path ≡ Some (record { path = n.path; methods = (out-TypeDef n.typedef).methods }))
    → (o : Option TypeDef) → option_and_then (flow.inwards ks) (flow.nested_in path o) ≡ Some n
    → option_and_then (λ u. inwards u ks path) o ≡ Some (record { path = n.path; methods = (out-TypeDef n.typedef).methods })
inner ks path n each None e = absurd cc
inner ks path n each (Some u) e = each u e

-- the type that places lead to inwards from a type, both ways
inward : (ks : List ℕ) (t : TypeDef) (outer : List TypeId) (n : flow.Nested) → flow.inwards ks (record { path = outer ++ (out-TypeDef t).id ∷ []; typedef = t }) ≡ Some n
    → inwards t ks outer ≡ Some (record { path = n.path; methods = (out-TypeDef n.typedef).methods })
inward [] t outer n is = let same : record { path = outer ++ (out-TypeDef t).id ∷ []; typedef = t } ≡ n = cc in ap (λ (m : flow.Nested). Some (record { path = m.path; methods = (out-TypeDef m.typedef).methods })) same
inward (k ∷ ks) t outer n is = inner ks (outer ++ (out-TypeDef t).id ∷ []) n (λ u e. inward ks u (outer ++ (out-TypeDef t).id ∷ []) n e) (slice_get (out-TypeDef t).nested k) is

there_in : (path : List TypeId) (methods : List Method) (k : ℕ) (m : Method) → slice_get methods k ≡ Some m
    → is_some (option_map (own_reference path) (slice_get methods k)) ≡ true
there_in path methods k m is = ap (λ (o : Option Method). is_some (option_map (own_reference path) o)) is

declared_there : (path : List TypeId) (parameters : ℕ) (o : Option Method) (d : flow.Declared) → flow.declared_in path parameters o ≡ Some d → (m : Method) × (o ≡ Some m)
declared_there path parameters None d is = absurd cc
declared_there path parameters (Some m) d is = (m, refl)

nested_there : (o : Option flow.Nested) (k : ℕ) (d : flow.Declared) → option_and_then (flow.method_of k) o ≡ Some d
    → (n : flow.Nested) × (m : Method) × (o ≡ Some n) × (slice_get (out-TypeDef n.typedef).methods k ≡ Some m)
nested_there None k d is = absurd cc
nested_there (Some n) k d is = let found = declared_there n.path _ (slice_get (out-TypeDef n.typedef).methods k) d is in (n, found.0, refl, found.1)

outward : (a : Assembly) (t : ℕ) (ts : List ℕ) (n : flow.Nested) → flow.type_by_place a (t ∷ ts) ≡ Some n
    → methods_at a (t ∷ ts) ≡ Some (record { path = n.path; methods = (out-TypeDef n.typedef).methods })
outward a t ts n is = inner ts [] n (λ u e. inward ts u [] n e) (slice_get a.types t) is

by_places : (a : Assembly) (types : List ℕ) (k : ℕ) (d : flow.Declared) → flow.method_by a types k ≡ Some d
    → is_some (option_and_then (λ (p : Placed). option_map (own_reference p.path) (slice_get p.methods k)) (methods_at a types)) ≡ true
by_places a [] k d is = let found = declared_there _ 0 (slice_get a.methods k) d is in there_in module_path a.methods k found.0 found.1
by_places a (t ∷ ts) k d is =
    let found = nested_there (flow.type_by_place a (t ∷ ts)) k d is in
    ap (λ (o : Option Placed). is_some (option_and_then (λ (p : Placed). option_map (own_reference p.path) (slice_get p.methods k)) o)) (outward a t ts found.0 found.2)
    ∙ there_in found.0.path (out-TypeDef found.0.typedef).methods k found.1 found.3

pub has_reference : (a : Assembly) (path : MethodPath) (d : flow.Declared) → flow.method_at a path ≡ Some d → IsTrue (is_some (reference_at a path))
unfolding flow.method_at reference_at
has_reference a path d is = by_places a path.types path.method d is

-- ---- reports

all_of : {X : Type 0} (P : Failure → Type 0) (named : X → Failure) (xs : List X) → ((x : X) → P (named x)) → All (λ (x : X). P (named x)) xs
all_of P named [] each = All-nil (λ x. P (named x))
all_of P named (x ∷ xs) each = All-cons (λ y. P (named y)) x xs (each x) (all_of P named xs each)

pub all_placed : (a : Assembly) (w : Hierarchy) (paths : List MethodPath) (failures : List Failure) → ReportsEach a w paths failures
    → All (λ (f : Failure). IsTrue (is_some (reference_at a f.method))) failures
all_placed a w paths failures no_methods = All-nil (λ (f : Failure). IsTrue (is_some (reference_at a f.method)))
all_placed a w paths failures (method {path} {paths = rest} {failures = own} {more} r others) =
    All-append (λ (f : Failure). IsTrue (is_some (reference_at a f.method))) own more
    (subst (λ fs. All (λ (f : Failure). IsTrue (is_some (reference_at a f.method))) fs) (sym r.all)
    (All-map (λ (f : Failure). IsTrue (is_some (reference_at a f.method))) (reported path r.body) r.broken
    (all_of (λ (f : Failure). IsTrue (is_some (reference_at a f.method))) (reported path r.body) r.broken (λ x. has_reference a path r.declared r.is))))
    (all_placed a w rest more others)
