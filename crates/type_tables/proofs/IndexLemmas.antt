-- Where types stand in the tree of an assembly, as their names are placed.
use Rattle.std.proofs.Common.{◌≡◌, ◌∙◌, ap, sym, subst, inl, inr, arith, Some, ℕ, zero, suc, ◌+◌, Bool, true, false, List, [], ◌∷◌, ◌++◌, length}
use Rattle.std.specs.Prelude.{slice_get}
use Rattle.std.specs.List.{Contains}
use Rattle.std.proofs.lemmas.List.{append_assoc, length-append}
use Rattle.std.proofs.lemmas.Option.{slice_get_within}
use Rattle.type_terms.specs.declared.name.Scope.{Scope}
use Rattle.type_terms.specs.declared.name.TypeId.{TypeId}
use Rattle.assembly_tree.specs.declared.assembly.Assembly.{Assembly}
use Rattle.assembly_tree.specs.declared.typedef.TypeDef.{TypeDef}
use Rattle.assembly_tree.specs.declared.typedef.TypeDef.TheViews.{out-TypeDef}
use Rattle.assembly_tree.specs.DataSize.{named}
use Rattle.assembly_tree.specs.WellFormedNames.{all_differ}
use Rattle.assembly_tree.specs.WellFormedTypes.{are_types, is_same_id}
use Rattle.type_hierarchy.specs.Indexed.{nested_in, types_at}
use Rattle.type_tables.specs.Indexing.{IsIndexed, StandsAt, at_top, below}
use Rattle.type_hierarchy.specs.Names.{full_name}
use Rattle.type_tables.specs.declared.places.Places.{Places}
use Rattle.type_hierarchy.proofs.ChainLemmas.{snoc_cases}
use Rattle.type_tables.proofs.TreePlaces.{differ_of, empty_types, in_by_place, named_here, nested_of}

pub indexed_none : (scope : Scope) (outer : List TypeId) (ts : List TypeDef) (p : Places) → IsIndexed scope outer ts p p
indexed_none scope outer ts p = record { paired = λ a. a; each = λ a k index name at. inl at }

pub indexed_both : (scope : Scope) (outer : List TypeId) (ts : List TypeDef) (a b c : Places) → IsIndexed scope outer ts a b → IsIndexed scope outer ts b c → IsIndexed scope outer ts a c
indexed_both scope outer ts a b c f g = record {
  paired = λ ok. g.paired (f.paired ok);
  each = λ ok k index name at. elim (g.each (f.paired ok) k index name at) [
    | inl was ↦ f.each ok k index name was
    | inr is ↦ inr is
  ];
}

-- those that a type nests are among those that these types hold
pub indexed_inside : (scope : Scope) (outer path : List TypeId) (ts : List TypeDef) (t : TypeDef) (a b : Places) → Contains ts t
    → path ≡ outer ++ (out-TypeDef t).id ∷ [] → IsIndexed scope path (out-TypeDef t).nested a b → IsIndexed scope outer ts a b
indexed_inside scope outer path ts t a b within e g = record {
  paired = g.paired;
  each = λ ok k index name at. elim (g.each ok k index name at) [
    | inl was ↦ inl was
    | inr is ↦ inr (record {
      path = (out-TypeDef t).id ∷ is.path;
      named = is.named ∙ (λ i. full_name scope (e i ++ is.path)) ∙ ap (full_name scope) (append_assoc outer ((out-TypeDef t).id ∷ []) is.path);
      at = below within is.at;
    })
  ];
}

-- one more
pub indexed_one : (scope : Scope) (outer path : List TypeId) (ts : List TypeDef) (t : TypeDef) (at : ℕ) (a b : Places) → slice_get ts at ≡ Some t
    → path ≡ outer ++ (out-TypeDef t).id ∷ [] → b.names ≡ a.names ++ full_name scope path ∷ [] → b.indexes ≡ a.indexes ++ at ∷ []
    → IsIndexed scope outer ts a b
indexed_one scope outer path ts t at a b typed e names indexes = record {
  paired = λ ok. ap length indexes ∙ length-append a.indexes (at ∷ []) ∙ ap (λ n. n + 1) ok ∙ sym (ap length names ∙ length-append a.names (full_name scope path ∷ []));
  each = λ ok k index name h.
      elim (snoc_cases a.names (full_name scope path) name k (ap (λ l. slice_get l k) (sym names) ∙ h.named)) [
        | inl old ↦ elim (snoc_cases a.indexes at index k (ap (λ l. slice_get l k) (sym indexes) ∙ h.indexed)) [
          | inl m ↦ inl (record { named = old; indexed = m })
          | inr m ↦ absurd (let low = slice_get_within a.names k name old in let place = m.0 in omega (arith, low, place, ok))
        ]
        | inr new ↦ elim (snoc_cases a.indexes at index k (ap (λ l. slice_get l k) (sym indexes) ∙ h.indexed)) [
          | inl m ↦ absurd (let low = slice_get_within a.indexes k index m in let place = new.0 in omega (arith, low, place, ok))
          | inr m ↦ inr (record {
            path = (out-TypeDef t).id ∷ [];
            named = new.1 ∙ ap (full_name scope) e;
            at = subst (StandsAt ts ((out-TypeDef t).id ∷ [])) (sym m.1) (at_top typed);
          })
        ]
      ];
}

-- ---- in a well-formed tree

no_snoc : (xs : List TypeId) (x : TypeId) → [] ≡ xs ++ x ∷ [] → ⊥
no_snoc [] x h = let f : ⊥ = cc in f
no_snoc (y ∷ ys) x h = let f : ⊥ = cc in f

some_names : {ts : List TypeDef} {path : List TypeId} {index : ℕ} → StandsAt ts path index → [] ≡ path → ⊥
some_names (at_top c) h = let f : ⊥ = cc in f
some_names (below c g) h = let f : ⊥ = cc in f

abbrev IsThere : List TypeDef → List TypeId → TypeId → ℕ → Type 0
IsThere ts outer id index = slice_get (types_at ts outer) index ≡ named id (types_at ts outer)

top_there : (ts : List TypeDef) (t : TypeDef) (index : ℕ) (outer : List TypeId) (id : TypeId) → all_differ is_same_id ts ≡ true → slice_get ts index ≡ Some t
    → (out-TypeDef t).id ∷ [] ≡ outer ++ id ∷ [] → IsThere ts outer id index
top_there ts t index [] id f h e =
    let same : (out-TypeDef t).id ≡ id = cc in
    h ∙ sym (named_here ts t f (in_by_place ts index t h)) ∙ ap (λ i. named i ts) same
top_there ts t index (o ∷ os) id f h e = absurd (let more : [] ≡ os ++ id ∷ [] = cc in no_snoc os id more)

below_there : (ts : List TypeDef) (t : TypeDef) (path outer : List TypeId) (id : TypeId) (index : ℕ) → all_differ is_same_id ts ≡ true → Contains ts t → ([] ≡ path → ⊥)
    → ((os : List TypeId) → path ≡ os ++ id ∷ [] → IsThere (out-TypeDef t).nested os id index)
    → (out-TypeDef t).id ∷ path ≡ outer ++ id ∷ [] → IsThere ts outer id index
below_there ts t path [] id index f c some inner e = absurd (let none : [] ≡ path = cc in some none)
below_there ts t path (o ∷ os) id index f c some inner e =
    let first : (out-TypeDef t).id ≡ o = cc in
    let more : path ≡ os ++ id ∷ [] = cc in
    let at : types_at ts (o ∷ os) ≡ types_at (out-TypeDef t).nested os =
    ap (λ i. types_at (nested_in (named i ts)) os) (sym first) ∙ ap (λ u. types_at (nested_in u) os) (named_here ts t f c) in
    subst (λ us. slice_get us index ≡ named id us) (sym at) (inner os more)

pub at_index : (a : Assembly) (b : Bool) (depth : ℕ) {ts : List TypeDef} {path : List TypeId} {index : ℕ} → are_types a b depth ts ≡ true → StandsAt ts path index
    → (outer : List TypeId) (id : TypeId) → path ≡ outer ++ id ∷ [] → IsThere ts outer id index
at_index a b zero f (at_top h) outer id e = absurd (empty_types a b _ _ f (in_by_place _ _ _ h))
at_index a b zero f (below c g) outer id e = absurd (empty_types a b _ _ f c)
at_index a b (suc depth) f (at_top h) outer id e = top_there _ _ _ outer id (differ_of a b depth _ f) h e
at_index a b (suc depth) f (below c g) outer id e =
    below_there _ _ _ outer id _ (differ_of a b depth _ f) c (some_names g) (λ os. at_index a false depth (nested_of a b depth _ _ f c) g os id) e
