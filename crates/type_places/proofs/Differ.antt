-- No two types have one path.
use Rattle.std.proofs.Common.{◌≡◌, ℕ, zero, suc, ◌&&◌, ◌||◌, not, nat_eq, Bool, true, false, cond, inl, inr, List, [], ◌∷◌, ◌++◌, length, None, Some, refl, ap, sym, subst, ◌∙◌, append-nil, append_assoc, arith}
use Rattle.std.proofs.lemmas.Bool.{and_parts, cases_Bool, eqb-true, false≢true}
use Rattle.std.specs.List.{list_all, list_any}
use Rattle.std.specs.Prelude.{find, option_map, codes}
use lib.Pointwise.{pointwise}
use Rattle.type_terms.specs.declared.name.TypeId.{TypeId}
use Rattle.assembly_tree.specs.DataSize.{is_id, with_type, type_below}
use Rattle.assembly_tree.specs.WellFormedNames.{all_differ, is_module}
use Rattle.assembly_tree.specs.WellFormedTypes.{is_own, is_same_id, are_types}
use Rattle.assembly_tree.specs.declared.assembly.Assembly.{Assembly}
use Rattle.assembly_tree.specs.declared.typedef.TypeDef.{TypeDef}
use Rattle.assembly_tree.specs.declared.typedef.TypeDef.TheViews.{out-TypeDef}
use Rattle.assembly_tree.proofs.FormedFacts.{types_named, heads_named}
use Rattle.type_places.specs.Laws.{is_same_place, module_path, PlacesDiffer}
use Rattle.type_places.specs.Places.{Placed, places_of, places, has_path, layout_found, layout_of}
use Rattle.type_places.proofs.Leads.{is_path, past_outer, none_named, id, inner, own, places_out, IsBeyond, Passes, NoneBeyond, none_beyond, Leads, all_lead}

both : (x y : Bool) → x ≡ true → y ≡ true → (x && y) ≡ true
both true y h k = k
both false y h k = h

-- ---- lists of places

-- none has a path whose first isn't found
none_any : (path : List TypeId) (qs : List Placed) → layout_found path qs ≡ None → list_any (has_path path) qs ≡ false
none_any path [] e = refl
none_any path (q ∷ qs) e = by (has_path path q) e (λ i. none_any path qs i)
  where
    by : (c : Bool) → option_map (λ (x : Placed). x.layout) (cond c (Some q) (find (has_path path) qs)) ≡ None → (layout_found path qs ≡ None → list_any (has_path path) qs ≡ false) →
        (c || list_any (has_path path) qs) ≡ false
    by true i later = absurd cc
    by false i later = later i

-- each of some is apart from all of others
abbrev AllApart : List Placed → List Placed → Type 0
AllApart [] ys = Unit {0}
AllApart (x ∷ xs) ys = (list_any (has_path x.path) ys ≡ false) × AllApart xs ys

neither : (b c : Bool) → b ≡ false → c ≡ false → (b || c) ≡ false
neither true c h k = h
neither false c h k = k

any_join : (test : Placed → Bool) (xs ys : List Placed) → list_any test xs ≡ false → list_any test ys ≡ false → list_any test (xs ++ ys) ≡ false
any_join test [] ys h k = k
any_join test (x ∷ xs) ys h k = let hs = neither_of (test x) (list_any test xs) h in neither (test x) (list_any test (xs ++ ys)) hs.0 (any_join test xs ys hs.1 k)
  where
    neither_of : (b c : Bool) → (b || c) ≡ false → (b ≡ false) × (c ≡ false)
    neither_of true c i = absurd (false≢true (sym i))
    neither_of false c i = (refl, i)

not_false : (b : Bool) → b ≡ false → not b ≡ true
not_false true h = absurd (false≢true (sym h))
not_false false h = refl

not_true : (b : Bool) → not b ≡ true → b ≡ false
not_true true h = absurd (false≢true h)
not_true false h = refl

differ_join : (xs ys : List Placed) → all_differ is_same_place xs ≡ true → all_differ is_same_place ys ≡ true → AllApart xs ys → all_differ is_same_place (xs ++ ys) ≡ true
differ_join [] ys d e h = e
differ_join (x ∷ xs) ys d e h =
    let ds = and_parts (not (list_any (has_path x.path) xs)) (all_differ is_same_place xs) d in
    both (not (list_any (has_path x.path) (xs ++ ys))) (all_differ is_same_place (xs ++ ys))
    (not_false _ (any_join (has_path x.path) xs ys (not_true _ ds.0) h.0)) (differ_join xs ys ds.1 e h.1)

-- ---- paths begin where the types stand

abbrev Begins : List TypeId → Placed → Type 0
Begins outer x = (more : List TypeId) × (x.path ≡ outer ++ more)

abbrev AllBegin : List TypeId → List Placed → Type 0
AllBegin outer [] = Unit {0}
AllBegin outer (x ∷ xs) = Begins outer x × AllBegin outer xs

begin_join : (outer : List TypeId) (xs ys : List Placed) → AllBegin outer xs → AllBegin outer ys → AllBegin outer (xs ++ ys)
begin_join outer [] ys h k = k
begin_join outer (x ∷ xs) ys h k = (h.0, begin_join outer xs ys h.1 k)

begin_before : (outer : List TypeId) (i : TypeId) (xs : List Placed) → AllBegin (outer ++ i ∷ []) xs → AllBegin outer xs
begin_before outer i [] h = tt
begin_before outer i (x ∷ xs) h = ((i ∷ h.0.0, h.0.1 ∙ append_assoc outer (i ∷ []) h.0.0), begin_before outer i xs h.1)

module _ (a : Assembly) where
  one_begins : (t : TypeDef) (outer : List TypeId) → AllBegin (inner t outer) (places (inner t outer) (out-TypeDef t).nested) → AllBegin (inner t outer) (places_of t outer)
  one_begins t outer h = subst (AllBegin (inner t outer)) (sym (places_out t outer)) (([], sym (append-nil (inner t outer))), h)

  all_begin : (depth : ℕ) (top : Bool) (ts : List TypeDef) → are_types a top depth ts ≡ true → (outer : List TypeId) → AllBegin outer (places outer ts)
  unfolding are_types
  all_begin zero top [] m outer = tt
  all_begin zero top (t ∷ ts) m outer = let none = eqb-true (suc (length ts)) 0 m in absurd (omega arith)
  all_begin (suc depth) top ts m outer = go (λ us n. all_begin depth false us n) ts (and_parts _ _ m).1
    where
      go : ((us : List TypeDef) → are_types a false depth us ≡ true → (outer : List TypeId) → AllBegin outer (places outer us)) → (us : List TypeDef) → list_all (Passes a top depth) us ≡ true → AllBegin outer (places outer us)
      go deeper [] mm = tt
      go deeper (t ∷ us) mm =
          let ms = and_parts (Passes a top depth t) (list_all (Passes a top depth) us) mm in
          let inside = and_parts (is_own a top (out-TypeDef t)) (are_types a false depth (out-TypeDef t).nested) ms.0 in
          begin_join outer (places_of t outer) (places outer us)
          (begin_before outer (id t) (places_of t outer) (one_begins t outer (deeper (out-TypeDef t).nested inside.1 (inner t outer)))) (go deeper us ms.1)

  -- ---- one type and those behind it

  apart_by : (t : TypeDef) (us : List TypeDef) → Leads a us → not (list_any (is_same_id t) us) ≡ true → (outer : List TypeId) (xs : List Placed) → AllBegin (inner t outer) xs → AllApart xs (places outer us)
  apart_by t us lead alone outer [] h = tt
  apart_by t us lead alone outer (x ∷ xs) h =
      let path = h.0.1 ∙ append_assoc outer (id t ∷ []) h.0.0 in
      let none : layout_found x.path (places outer us) ≡ None =
      ap (λ q. layout_found q (places outer us)) path ∙ (lead outer (id t) h.0.0 ∙ ap (λ o. layout_of (with_type (type_below h.0.0) o)) (none_named t us alone)) in
      (none_any x.path (places outer us) none, apart_by t us lead alone outer xs h.1)

  own_beyond : (outer : List TypeId) → IsBeyond outer outer
  own_beyond outer i more = ap (is_path (outer ++ i ∷ more)) (sym (append-nil outer)) ∙ past_outer outer (i ∷ more) []

  one_differs : (t : TypeDef) → NoneBeyond a (out-TypeDef t).nested → (outer : List TypeId) → all_differ is_same_place (places (inner t outer) (out-TypeDef t).nested) ≡ true →
      all_differ is_same_place (places_of t outer) ≡ true
  one_differs t beyond outer h =
      subst (λ qs. all_differ is_same_place qs ≡ true) (sym (places_out t outer))
      (both (not (list_any (has_path (inner t outer)) (places (inner t outer) (out-TypeDef t).nested))) (all_differ is_same_place (places (inner t outer) (out-TypeDef t).nested))
      (not_false _ (none_any (inner t outer) (places (inner t outer) (out-TypeDef t).nested) (beyond (inner t outer) (inner t outer) (own_beyond (inner t outer))))) h)

  all_differ_in : (depth : ℕ) (top : Bool) (ts : List TypeDef) → are_types a top depth ts ≡ true → (outer : List TypeId) → all_differ is_same_place (places outer ts) ≡ true
  unfolding are_types
  all_differ_in zero top [] m outer = refl
  all_differ_in zero top (t ∷ ts) m outer = let none = eqb-true (suc (length ts)) 0 m in absurd (omega arith)
  all_differ_in (suc depth) top ts m outer =
      go (λ us n. all_differ_in depth false us n) ts (and_parts _ _ m).0 (and_parts _ _ m).1
    where
      go : ((us : List TypeDef) → are_types a false depth us ≡ true → (outer : List TypeId) → all_differ is_same_place (places outer us) ≡ true) →
          (us : List TypeDef) → all_differ is_same_id us ≡ true → list_all (Passes a top depth) us ≡ true → all_differ is_same_place (places outer us) ≡ true
      go deeper [] d mm = refl
      go deeper (t ∷ us) d mm =
          let ds = and_parts (not (list_any (is_same_id t) us)) (all_differ is_same_id us) d in
          let ms = and_parts (Passes a top depth t) (list_all (Passes a top depth) us) mm in
          let inside = and_parts (is_own a top (out-TypeDef t)) (are_types a false depth (out-TypeDef t).nested) ms.0 in
          let nested = (out-TypeDef t).nested in
          differ_join (places_of t outer) (places outer us) (one_differs t (none_beyond a depth false nested inside.1) outer (deeper nested inside.1 (inner t outer))) (go deeper us ds.1 ms.1)
          (apart_by t us (leads_from us ds.1 ms.1) ds.0 outer (places_of t outer) (one_begins t outer (all_begin depth false nested inside.1 (inner t outer))))
        where
          leads_from : (us : List TypeDef) → all_differ is_same_id us ≡ true → list_all (Passes a top depth) us ≡ true → Leads a us
          leads_from us d mm = all_lead a (suc depth) top us (both (all_differ is_same_id us) (list_all (Passes a top depth) us) d mm)

  -- ---- `<Module>`

  no_space : (xs : List ℕ) → pointwise nat_eq xs [] ≡ true → nat_eq (length xs) 0 ≡ true
  no_space [] h = refl
  no_space (x ∷ xs) h = absurd (false≢true h)

  not_module : (i : TypeId) → not (is_module i) ≡ true → is_path (i ∷ []) module_path ≡ false
  not_module i h = elim (cases_Bool (is_path (i ∷ []) module_path)) [
    | inl is ↦
        let one = and_parts (pointwise nat_eq i.space [] && pointwise nat_eq i.name (codes "<Module>")) true is in
        let ids = and_parts (pointwise nat_eq i.space []) (pointwise nat_eq i.name (codes "<Module>")) one.0 in
        absurd (false≢true (sym (not_true (is_module i) h) ∙ both _ _ (no_space i.space ids.0) ids.1))
    | inr other ↦ other
  ]

  nested_beyond : (i : TypeId) → IsBeyond (i ∷ []) module_path
  nested_beyond i j more = none (is_id i (record { space = []; name = codes "<Module>" }))
    where
      none : (c : Bool) → (c && false) ≡ false
      none true = refl
      none false = refl

  one_no_module : (t : TypeDef) → NoneBeyond a (out-TypeDef t).nested → not (is_module (id t)) ≡ true → list_any (has_path module_path) (places_of t []) ≡ false
  one_no_module t beyond h =
      ap (list_any (has_path module_path)) (places_out t [])
      ∙ neither (has_path module_path (own t [])) (list_any (has_path module_path) (places (inner t []) (out-TypeDef t).nested)) (not_module (id t) h)
      (none_any module_path (places (inner t []) (out-TypeDef t).nested) (beyond (inner t []) module_path (nested_beyond (id t))))

  no_module_in : (depth : ℕ) (ts : List TypeDef) → are_types a true depth ts ≡ true → list_any (has_path module_path) (places [] ts) ≡ false
  unfolding are_types
  no_module_in zero [] m = refl
  no_module_in zero (t ∷ ts) m = let none = eqb-true (suc (length ts)) 0 m in absurd (omega arith)
  no_module_in (suc depth) ts m = go ts (and_parts _ _ m).1
    where
      go : (us : List TypeDef) → list_all (Passes a true depth) us ≡ true → list_any (has_path module_path) (places [] us) ≡ false
      go [] mm = refl
      go (t ∷ us) mm =
          let ms = and_parts (Passes a true depth t) (list_all (Passes a true depth) us) mm in
          let inside = and_parts (is_own a true (out-TypeDef t)) (are_types a false depth (out-TypeDef t).nested) ms.0 in
          let head = (heads_named a true (out-TypeDef t)).0 ((types_named a true (out-TypeDef t)).0 inside.0).head in
          any_join (has_path module_path) (places_of t []) (places [] us) (one_no_module t (none_beyond a depth false (out-TypeDef t).nested inside.1) head.not_module) (go us ms.1)

pub places_differ : PlacesDiffer
places_differ = record {
  differ = λ a top depth ts m. all_differ_in a depth top ts m [];
  no_module = λ a depth ts m. no_module_in a depth ts m;
}
