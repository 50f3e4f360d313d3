-- Called types side by side, with those that they nest, meet their conditions.
use Rattle.std.proofs.Common.{◌≡◌, ◌∙◌, ap, sym, refl, ℕ, zero, suc, ◌==◌, ◌&&◌, ◌||◌, Bool, true, false, not, List, [], ◌∷◌, map, length, IsTrue}
use Rattle.std.specs.List.{list_all, list_any}
use Rattle.std.proofs.lemmas.Bool.{and_parts}
use Rattle.std.proofs.lemmas.List.{length-map}
use Rattle.std.proofs.lemmas.List.Folds.{list_all-map}
use Rattle.assembly_tree.specs.DataSize.{is_id}
use Rattle.assembly_tree.specs.Nesting.{nested_in}
use Rattle.assembly_tree.specs.WellFormedNames.{all_differ}
use Rattle.assembly_tree.specs.WellFormedTypes.{are_members, are_types, has_its_accessors, is_head, is_own, is_same_id, members_differ}
use Rattle.assembly_tree.specs.declared.assembly.Assembly.{Assembly}
use Rattle.assembly_tree.specs.declared.typedef.TypeDef.{TypeDef}
use Rattle.assembly_tree.specs.declared.typedef.TypeDef.TheFolds.{fold_out-TypeDef}
use Rattle.assembly_tree.specs.declared.typedef.TypeDef.TheOpen.{TypeDef-F}
use Rattle.assembly_tree.specs.declared.typedef.TypeDef.TheViews.{out-TypeDef, out-roll-TypeDef}
use Rattle.tree_names.specs.Called.{Call, called_own, called_typedef}
use Rattle.tree_names.specs.Laws.{Carries, FormedNested, all_members_differ, differ_step}
use Rattle.tree_names.proofs.CalledTypes.{called_out}
use Rattle.tree_names.proofs.FormedTypes.{formed_own}
use Rattle.tree_names.proofs.Interfaces.{and_from}

-- ---- the layer of a called type

abbrev inside : Call → TypeDef → TypeDef-F TypeDef
inside f t = record (out-TypeDef t) { nested = map (called_typedef f) (nested_in t) }

out_called : (f : Call) (t : TypeDef) → out-TypeDef (called_typedef f t) ≡ called_own f (inside f t)
out_called f t = ap out-TypeDef (called_out f t) ∙ out-roll-TypeDef (called_own f (inside f t))

id_called : (f : Call) (t : TypeDef) → (out-TypeDef (called_typedef f t)).id ≡ (out-TypeDef t).id
unfolding called_own
id_called f t = ap (λ u. u.id) (out_called f t)

nested_called : (f : Call) (t : TypeDef) → nested_in (called_typedef f t) ≡ map (called_typedef f) (nested_in t)
unfolding called_own
nested_called f t = ap (λ u. u.nested) (out_called f t)

-- what a type nests is no part of its own conditions
own_inside : (a : Assembly) (top : Bool) (f : Call) (t : TypeDef) → is_own a top (inside f t) ≡ is_own a top (out-TypeDef t)
unfolding is_own is_head are_members has_its_accessors members_differ
own_inside a top f t = refl

differ_out : (t : TypeDef) → all_members_differ t ≡ (members_differ (out-TypeDef t) && list_all all_members_differ (nested_in t))
unfolding all_members_differ members_differ
differ_out t =
    fold_out-TypeDef Bool differ_step t
    ∙ ap (λ b. members_differ (out-TypeDef t) && b) (list_all-map (λ b. b) all_members_differ (nested_in t))

-- ---- ids side by side

any_called : (f : Call) (t : TypeDef) (ts : List TypeDef) → list_any (is_same_id (called_typedef f t)) (map (called_typedef f) ts) ≡ list_any (is_same_id t) ts
any_called f t [] = refl
any_called f t (u ∷ ts) = λ i. (is_id (id_called f t i) (id_called f u i) || any_called f t ts i)

differ_called : (f : Call) (ts : List TypeDef) → all_differ is_same_id (map (called_typedef f) ts) ≡ all_differ is_same_id ts
differ_called f [] = refl
differ_called f (t ∷ ts) = λ i. (not (any_called f t ts i) && differ_called f ts i)

-- ---- level by level

module _ (f : Call) (a c : Assembly) (carries : Carries f a c) where
  abbrev Level : ℕ → Type 0
  Level n = (top : Bool) (ts : List TypeDef) → are_types a top n ts ≡ true → list_all all_members_differ (map (called_typedef f) ts) ≡ true
      → are_types c top n (map (called_typedef f) ts) ≡ true

  abbrev fine : Assembly → Bool → ℕ → TypeDef → Bool
  fine x top n t = is_own x top (out-TypeDef t) && are_types x false n (out-TypeDef t).nested

  one : (n : ℕ) → Level n → (top : Bool) (t : TypeDef) → fine a top n t ≡ true → all_members_differ (called_typedef f t) ≡ true
      → fine c top n (called_typedef f t) ≡ true
  one n level top t h d =
      let hs = and_parts (is_own a top (out-TypeDef t)) (are_types a false n (nested_in t)) h in
      let out = out_called f t in
      let ds = and_parts (members_differ (out-TypeDef (called_typedef f t))) (list_all all_members_differ (nested_in (called_typedef f t)))
      (sym (differ_out (called_typedef f t)) ∙ d) in
      let nested = nested_called f t in
      and_from (is_own c top (out-TypeDef (called_typedef f t))) (are_types c false n (nested_in (called_typedef f t)))
      (ap (is_own c top) out ∙ formed_own f a c carries top (inside f t) (own_inside a top f t ∙ hs.0) (sym (ap members_differ out) ∙ ds.0))
      (ap (are_types c false n) nested ∙ level false (nested_in t) hs.1 (sym (ap (list_all all_members_differ) nested) ∙ ds.1))

  each : (n : ℕ) → Level n → (top : Bool) (ts : List TypeDef) → list_all (fine a top n) ts ≡ true
      → list_all all_members_differ (map (called_typedef f) ts) ≡ true → list_all (fine c top n) (map (called_typedef f) ts) ≡ true
  each n level top [] h d = refl
  each n level top (t ∷ ts) h d =
      let hs = and_parts (fine a top n t) (list_all (fine a top n) ts) h in
      let ds = and_parts (all_members_differ (called_typedef f t)) (list_all all_members_differ (map (called_typedef f) ts)) d in
      and_from (fine c top n (called_typedef f t)) (list_all (fine c top n) (map (called_typedef f) ts)) (one n level top t hs.0 ds.0) (each n level top ts hs.1 ds.1)

  levels : (n : ℕ) → Level n
  unfolding are_types
  levels zero top ts h d = ap (λ n. n == 0) (length-map ts (called_typedef f)) ∙ h
  levels (suc n) top ts h d =
      let hs = and_parts (all_differ is_same_id ts) (list_all (fine a top n) ts) h in
      and_from (all_differ is_same_id (map (called_typedef f) ts)) (list_all (fine c top n) (map (called_typedef f) ts)) (differ_called f ts ∙ hs.0)
      (each n (levels n) top ts hs.1 d)

pub formed_nested : FormedNested
formed_nested f a c carries top depth ts h d = levels f a c carries depth top ts h d
