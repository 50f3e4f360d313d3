-- Types that are placed one list after the other.
use Rattle.std.proofs.Common.{◌≡◌, ◌∙◌, ap, sym, subst, refl, inl, inr, arith, ℕ, ◌+◌, ◌<◌, List, [], ◌∷◌, ◌++◌, length, get_or, map, take}
use Rattle.std.specs.Prelude.{slice_get}
use Rattle.std.specs.List.{Contains, flat_map}
use Rattle.std.proofs.lemmas.List.{append_assoc, append-nil, length-append, take_more}
use Rattle.std.proofs.lemmas.List.Elements.{Contains-get_or}
use Rattle.std.proofs.lemmas.Option.{slice_get_within}
use Rattle.std.proofs.lemmas.Grind.{flat_map-append}
use Rattle.type_terms.specs.declared.name.Scope.{Scope}
use Rattle.type_terms.specs.declared.name.TypeId.{TypeId}
use Rattle.type_terms.specs.declared.name.TypeName.{TypeName}
use Rattle.assembly_tree.specs.declared.typedef.TypeDef.{TypeDef}
use Rattle.assembly_tree.specs.declared.typedef.TypeDef.TheViews.{out-TypeDef}
use Rattle.assembly_tree.specs.declared.typedef.TypeDef.TheFolds.{fold_out-TypeDef}
use Rattle.type_hierarchy.specs.Ancestors.{Paths, paths_step, typedef_paths}
use Rattle.type_hierarchy.specs.Gathered.{with_name}
use Rattle.type_hierarchy.specs.Names.{full_name}
use Rattle.type_hierarchy.proofs.ChainLemmas.{snoc_cases}
use Rattle.type_tables.specs.Placed.{placed, IsAt, IsGrown, Row, top, inside}

both_placed : (scope : Scope) (outer : List TypeId) (names : List TypeName) (a b : Paths)
    → placed scope outer (placed scope outer names a) b ≡ placed scope outer names (a ++ b)
unfolding placed
both_placed scope outer names [] b = refl
both_placed scope outer names (p ∷ a) b = both_placed scope outer (with_name names (full_name scope (outer ++ p))) a b

pub none_placed : (scope : Scope) (outer : List TypeId) (names : List TypeName) → placed scope outer names [] ≡ names
unfolding placed
none_placed scope outer names = refl

-- paths below a type are paths below those that nest it
inner_placed : (scope : Scope) (outer : List TypeId) (id : TypeId) (names : List TypeName) (paths : Paths)
    → placed scope (outer ++ id ∷ []) names paths ≡ placed scope outer names (map (λ path. id ∷ path) paths)
unfolding placed
inner_placed scope outer id names [] = refl
inner_placed scope outer id names (p ∷ paths) =
    (λ i. placed scope (outer ++ id ∷ []) (with_name names (full_name scope (append_assoc outer (id ∷ []) p i))) paths)
    ∙ inner_placed scope outer id (with_name names (full_name scope (outer ++ (id ∷ p)))) paths

all_of : (xs : List TypeDef) → flat_map (λ (paths : Paths). paths) (map typedef_paths xs) ≡ flat_map typedef_paths xs
all_of [] = refl
all_of (x ∷ xs) = ap (λ ps. typedef_paths x ++ ps) (all_of xs)

abbrev pub inner : TypeDef → Paths
inner t = map (λ path. (out-TypeDef t).id ∷ path) (flat_map typedef_paths (out-TypeDef t).nested)

pub paths_out : (t : TypeDef) → typedef_paths t ≡ ((out-TypeDef t).id ∷ []) ∷ inner t
paths_out t =
    fold_out-TypeDef Paths paths_step t
    ∙ ap (λ ps. ((out-TypeDef t).id ∷ []) ∷ map (λ path. (out-TypeDef t).id ∷ path) ps) (all_of (out-TypeDef t).nested)

pub type_placed : (scope : Scope) (outer path : List TypeId) (t : TypeDef) (now mid next : List TypeName)
    → path ≡ outer ++ (out-TypeDef t).id ∷ []
    → mid ≡ with_name now (full_name scope path)
    → next ≡ placed scope path mid (flat_map typedef_paths (out-TypeDef t).nested)
    → next ≡ placed scope outer now (typedef_paths t)
unfolding placed
type_placed scope outer path t now mid next at own below =
    below
    ∙ (λ i. placed scope (at i) (own i) (flat_map typedef_paths (out-TypeDef t).nested))
    ∙ inner_placed scope outer (out-TypeDef t).id (with_name now (full_name scope path)) (flat_map typedef_paths (out-TypeDef t).nested)
    ∙ (λ i. placed scope outer (with_name now (full_name scope (at i))) (inner t))
    ∙ ap (placed scope outer now) (sym (paths_out t))

pub step_placed : (scope : Scope) (outer : List TypeId) (first now next : List TypeName) (ts : List TypeDef) (i : ℕ) (t : TypeDef)
    → now ≡ placed scope outer first (flat_map typedef_paths (take i ts)) → next ≡ placed scope outer now (typedef_paths t)
    → i < length ts → t ≡ get_or ts i t → next ≡ placed scope outer first (flat_map typedef_paths (take (i + 1) ts))
step_placed scope outer first now next ts i t before more low is =
    more ∙ ap (λ ns. placed scope outer ns (typedef_paths t)) before ∙ both_placed scope outer first (flat_map typedef_paths (take i ts)) (typedef_paths t)
    ∙ ap (placed scope outer first)
    (ap (λ ps. flat_map typedef_paths (take i ts) ++ ps) (sym (append-nil (typedef_paths t)))
    ∙ ap (λ u. flat_map typedef_paths (take i ts) ++ flat_map typedef_paths (u ∷ [])) is
    ∙ sym (flat_map-append typedef_paths (take i ts) (get_or ts i t ∷ []))
    ∙ ap (flat_map typedef_paths) (sym (take_more ts i t low)))

-- ---- what stands at each place

pub grown_none : (scope : Scope) (outer : List TypeId) (from : ℕ) (ts : List TypeDef) (r : Row) → IsGrown scope outer from ts r r
grown_none scope outer from ts r = record { aligned = λ a. a; each = λ a k member name t at. inl at }

pub grown_both : (scope : Scope) (outer : List TypeId) (from : ℕ) (ts : List TypeDef) (a b c : Row)
    → IsGrown scope outer from ts a b → IsGrown scope outer from ts b c → IsGrown scope outer from ts a c
grown_both scope outer from ts a b c f g = record {
  aligned = λ ok. g.aligned (f.aligned ok);
  each = λ ok k member name t at. elim (g.each (f.aligned ok) k member name t at) [
    | inl was ↦ f.each ok k member name t was
    | inr is ↦ inr is
  ];
}

-- those that a type nests are among those that these types hold
pub grown_inside : (scope : Scope) (outer path : List TypeId) (from : ℕ) (ts : List TypeDef) (t : TypeDef) (a b : Row) → Contains ts t
    → path ≡ outer ++ (out-TypeDef t).id ∷ [] → IsGrown scope path from (out-TypeDef t).nested a b → IsGrown scope outer from ts a b
grown_inside scope outer path from ts t a b within e g = record {
  aligned = g.aligned;
  each = λ ok k member name u at. elim (g.each ok k member name u at) [
    | inl was ↦ inl was
    | inr is ↦ inr (record {
      path = (out-TypeDef t).id ∷ is.path;
      named = is.named ∙ (λ i. full_name scope (e i ++ is.path)) ∙ ap (full_name scope) (append_assoc outer ((out-TypeDef t).id ∷ []) is.path);
      in_member = is.in_member;
      at = inside within is.at;
    })
  ];
}

pub contains_at : (ts : List TypeDef) (i : ℕ) (t : TypeDef) → i < length ts → t ≡ get_or ts i t → Contains ts t
contains_at ts i t low is = subst (Contains ts) (sym is) (Contains-get_or ts i t low)

-- one more
pub grown_one : (scope : Scope) (outer path : List TypeId) (from : ℕ) (ts : List TypeDef) (t : TypeDef) (a b : Row) → Contains ts t
    → path ≡ outer ++ (out-TypeDef t).id ∷ []
    → b.names ≡ a.names ++ full_name scope path ∷ [] → b.members ≡ a.members ++ from ∷ [] → b.types ≡ a.types ++ t ∷ []
    → IsGrown scope outer from ts a b
grown_one scope outer path from ts t a b within e names members types = record {
  aligned = λ ok. record {
    members = ap length members ∙ length-append a.members (from ∷ []) ∙ ap (λ n. n + 1) ok.members ∙ sym (ap length names ∙ length-append a.names (full_name scope path ∷ []));
    types = ap length types ∙ length-append a.types (t ∷ []) ∙ ap (λ n. n + 1) ok.types ∙ sym (ap length names ∙ length-append a.names (full_name scope path ∷ []));
  };
  each = λ ok k member name u at.
      let by_members = ok.members in
      let by_types = ok.types in
      elim (snoc_cases a.names (full_name scope path) name k (ap (λ l. slice_get l k) (sym names) ∙ at.named)) [
        | inl old ↦
            let low = slice_get_within a.names k name old in
            elim (snoc_cases a.members from member k (ap (λ l. slice_get l k) (sym members) ∙ at.in_member)) [
              | inl m ↦ elim (snoc_cases a.types t u k (ap (λ l. slice_get l k) (sym types) ∙ at.typed)) [
                | inl v ↦ inl (record { named = old; in_member = m; typed = v })
                | inr v ↦ absurd (let place = v.0 in omega arith)
              ]
              | inr m ↦ absurd (let place = m.0 in omega arith)
            ]
        | inr new ↦
            let place = new.0 in
            elim (snoc_cases a.members from member k (ap (λ l. slice_get l k) (sym members) ∙ at.in_member)) [
              | inl m ↦ absurd (let low = slice_get_within a.members k member m in omega arith)
              | inr m ↦ elim (snoc_cases a.types t u k (ap (λ l. slice_get l k) (sym types) ∙ at.typed)) [
                | inl v ↦ absurd (let low = slice_get_within a.types k u v in omega arith)
                | inr v ↦ inr (record {
                  path = (out-TypeDef t).id ∷ [];
                  named = new.1 ∙ ap (full_name scope) e;
                  in_member = m.1;
                  at = subst (IsAt ts ((out-TypeDef t).id ∷ [])) (sym v.1) (top within);
                })
              ]
            ]
      ];
}
