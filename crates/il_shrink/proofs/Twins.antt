-- A name means the same type in the assembly and in the one with shrunk bodies, but for bodies.
use Rattle.std.proofs.Common.{◌≡◌, sym, ap, subst, refl, ℕ, ◌&&◌, ◌||◌, Bool, true, false, cond, List, [], ◌∷◌, length, Option, None, Some, is_some, nat_lt}
use Rattle.std.specs.List.{list_all}
use Rattle.type_terms.specs.declared.name.Scope as scope
use Rattle.type_terms.specs.declared.name.TypeId.{TypeId}
use Rattle.type_terms.specs.declared.name.TypeName.{TypeName}
use Rattle.type_terms.specs.declared.term.SigType.{SigType, fold-SigType}
use Rattle.type_terms.specs.declared.term.Owner.TheOpen.{SigType-F, Prim, Value}
use Rattle.assembly_tree.specs.declared.assembly.Assembly.{Assembly}
use Rattle.assembly_tree.specs.declared.typedef.TypeDef.{TypeDef}
use Rattle.assembly_tree.specs.declared.typedef.TypeDef.TheViews.{out-TypeDef}
use Rattle.assembly_tree.specs.DataSize.{is_id, has_id, named, with_type, type_below, type_at, declared_in, declared, layout_size, type_size, no_size, size_step, size_in_data}
use Rattle.assembly_tree.specs.WellFormedNames.{is_type_id, is_module_path, is_known_in, is_short_path, is_type_name}
use Rattle.il_shrink.specs.ShrunkAll.{IsShrunkOwn, AreShrunkTypes, none, more, IsShrunkAll}

-- a type and the one with shrunk bodies
pub record IsTwin (t u : TypeDef) : Type 0 where
  pub own : IsShrunkOwn (out-TypeDef t) (out-TypeDef u)
  pub nested : AreShrunkTypes (out-TypeDef t).nested (out-TypeDef u).nested

abbrev pub Twin : Option TypeDef → Option TypeDef → Type 0
Twin None None = Unit {0}
Twin None (Some u) = ⊥
Twin (Some t) None = ⊥
Twin (Some t) (Some u) = IsTwin t u

twin_if : (b : Bool) (t u : TypeDef) (p q : Option TypeDef) → IsTwin t u → Twin p q → Twin (cond b (Some t) p) (cond b (Some u) q)
twin_if true t u p q here rest = here
twin_if false t u p q here rest = rest

same_id : (id : TypeId) (t u : TypeDef) → IsShrunkOwn (out-TypeDef t) (out-TypeDef u) → has_id id u ≡ has_id id t
same_id id t u own = ap (λ x. is_id id x.id) own.same

named_twins : {ts us : List TypeDef} → AreShrunkTypes ts us → (id : TypeId) → Twin (named id ts) (named id us)
named_twins none id = tt
named_twins (more {t} {u} {ts} {us} own nested rest) id =
    subst (λ b. Twin (cond (has_id id t) (Some t) (named id ts)) (cond b (Some u) (named id us))) (sym (same_id id t u own))
    (twin_if (has_id id t) t u (named id ts) (named id us) (record { own = own; nested = nested }) (named_twins rest id))

with_twins : (go : TypeDef → Option TypeDef) → ((t u : TypeDef) → IsTwin t u → Twin (go t) (go u)) → (p q : Option TypeDef) → Twin p q →
    Twin (with_type go p) (with_type go q)
with_twins go h None None e = tt
with_twins go h None (Some u) e = absurd e
with_twins go h (Some t) None e = absurd e
with_twins go h (Some t) (Some u) e = h t u e

below_twins : (path : List TypeId) (t u : TypeDef) → IsTwin t u → Twin (type_below path t) (type_below path u)
below_twins [] t u h = h
below_twins (id ∷ path) t u h =
    with_twins (type_below path) (below_twins path) (named id (out-TypeDef t).nested) (named id (out-TypeDef u).nested) (named_twins h.nested id)

at_twins : {ts us : List TypeDef} → AreShrunkTypes ts us → (path : List TypeId) → Twin (type_at ts path) (type_at us path)
at_twins h [] = tt
at_twins {ts} {us} h (id ∷ path) = with_twins (type_below path) (below_twins path) (named id ts) (named id us) (named_twins h id)

twin_some : (p q : Option TypeDef) → Twin p q → is_some q ≡ is_some p
twin_some None None h = refl
twin_some None (Some u) h = absurd h
twin_some (Some t) None h = absurd h
twin_some (Some t) (Some u) h = refl

twin_size : (p q : Option TypeDef) → Twin p q → type_size q ≡ type_size p
twin_size None None h = refl
twin_size None (Some u) h = absurd h
twin_size (Some t) None h = absurd h
twin_size (Some t) (Some u) h = ap (λ x. layout_size x.layout) h.own.same

-- names and sizes are the same in both
pub record SameNames (a c : Assembly) : Type 0 where
  pub names : (n : TypeName) → is_type_name c n ≡ is_type_name a n
  pub sizes : (t : SigType) → size_in_data c t ≡ size_in_data a t

module _ (a c : Assembly) (h : IsShrunkAll a c) where
  known_in : (s : scope.Scope) (path : List TypeId) → is_known_in c s path ≡ is_known_in a s path
  known_in scope.TheVariants.Here path =
      ap (λ b. is_module_path path || b) (twin_some (type_at a.types path) (type_at c.types path) (at_twins h.types path))
  known_in (scope.TheVariants.Extern k) path = ap (λ x. nat_lt k (length x.externs)) h.same

  name_same : (n : TypeName) → is_type_name c n ≡ is_type_name a n
  unfolding is_type_name
  name_same n = ap (λ b. is_short_path n.path && list_all is_type_id n.path && b) (known_in n.scope n.path)

  declared_twins : (s : scope.Scope) (path : List TypeId) → Twin (declared_in a.types s path) (declared_in c.types s path)
  declared_twins scope.TheVariants.Here path = at_twins h.types path
  declared_twins (scope.TheVariants.Extern k) path = tt

  step_same : (l : SigType-F (Option ℕ) (Option ℕ)) → size_step c l ≡ size_step a l
  step_same (Value n) = twin_size (declared a n) (declared c n) (declared_twins n.scope n.path)
  step_same l = refl

  size_same : (t : SigType) → size_in_data c t ≡ size_in_data a t
  size_same t = ap (λ step. fold-SigType (Option ℕ) (Option ℕ) no_size step t) (λ i l. step_same l i)

  pub same_names : SameNames a c
  same_names = record { names = name_same; sizes = size_same }
