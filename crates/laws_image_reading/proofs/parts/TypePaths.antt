-- A path of the tree leads to the row of the type that stands there (ECMA-335 II.22.32).
use Rattle.std.proofs.Common.{◌≡◌, ap, refl, sym, ◌∙◌, subst, ℕ, ◌+◌, ◌<◌, List, [], ◌∷◌, ◌++◌, length, Option, Some, None, inl, inr, arith}
use Rattle.std.specs.Prelude.{◌⊎◌}
use Rattle.std.proofs.lemmas.List.{append_assoc}
use Rattle.type_terms.specs.declared.name.TypeId.{TypeId}
use Rattle.assembly_tree.specs.DataSize.{named, with_type, type_below, type_at}
use Rattle.assembly_tree.specs.declared.typedef.TypeDef.{TypeDef}
use Rattle.assembly_tree.specs.declared.typedef.TypeDef.TheViews.{out-TypeDef}
use Rattle.image_members.specs.Classes.{AreClasses}
use Rattle.image_members.specs.declared.classes.Class.{Class}
use Rattle.image_model.specs.Naming.{HasId, HasPath}
use Rattle.image_model.specs.Rows.{enclosing}
use Rattle.laws_image_parts.specs.AtRows.{AtEach}
use Rattle.laws_image_parts.proofs.RowLists.{each_front, each_back}
use Rattle.laws_writable_trees.proofs.Names.{find_class}

-- what comes of a type that there is
there : (o : Option TypeDef) (go : TypeDef → Option TypeDef) (t : TypeDef) → with_type go o ≡ Some t → (u : TypeDef) × (o ≡ Some u) × (go u ≡ Some t)
there None go t h = absurd cc
there (Some u) go t h = (u, refl, h)

-- what is known of the row of a type
pub record IsPlaced (image : List ℕ) (row : ℕ) (c : Class) : Type 0 where
  pub id : HasId image row (out-TypeDef c.of.now).id
  pub encloser : enclosing image row ≡ c.encloser

module _ (image : List ℕ) (P : ℕ → Class → Type 0) (placed : (row : ℕ) (c : Class) → P row c → IsPlaced image row c) where
  -- the path so far leads to the encloser of the types that come next
  abbrev Outer : ℕ → List TypeId → Type 0
  Outer encloser before = ((encloser ≡ 0) × (before ≡ [])) ⊎ ((0 < encloser) × HasPath image encloser before)

  one_more : (encloser row : ℕ) (before : List TypeId) (id : TypeId) → Outer encloser before → enclosing image row ≡ encloser → HasId image row id → HasPath image row (before ++ id ∷ [])
  one_more encloser row before id (inl top) within has =
      subst (λ (ids : List TypeId). HasPath image row (ids ++ id ∷ [])) (sym top.1) (HasPath.top (within ∙ top.0) has)
  one_more encloser row before id (inr nested) within has = HasPath.nested within nested.0 nested.1 has refl

  -- the row of a type, which is one of these classes
  pub record Leads (path : List TypeId) (t : TypeDef) : Type 0 where
    pub row : ℕ
    pub class : Class
    pub is : class.of.now ≡ t
    pub known : P row class
    pub leads : HasPath image row path

  -- the first of the types on a path
  record First (encloser : ℕ) (before : List TypeId) (id : TypeId) (u : TypeDef) : Type 0 where
    row : ℕ
    class : Class
    is : class.of.now ≡ u
    known : P row class
    some : 0 < row
    leads : HasPath image row (before ++ id ∷ [])
    inner : List Class
    nested : AreClasses row (row + 1) (out-TypeDef u).nested inner
    each : AtEach P (row + 1) inner

  first : (encloser row : ℕ) (types : List TypeDef) (classes : List Class) → AreClasses encloser row types classes → AtEach P row classes → 0 < row → (before : List TypeId) → Outer encloser before
      → (id : TypeId) (u : TypeDef) → named id types ≡ Some u → First encloser before id u
  first encloser row types classes are each some before outer id u is =
      let both = find_class encloser row types classes are id u is in
      let f = both.0 in
      let at = row + length f.before in
      let whole : AtEach P row (f.before ++ (f.class ∷ (f.inner ++ f.after))) = subst (AtEach P row) f.are each in
      let from : AtEach P at (f.class ∷ (f.inner ++ f.after)) = each_back P row f.before (f.class ∷ (f.inner ++ f.after)) whole in
      let here : at + 0 ≡ at = omega arith in
      let own : P at f.class = subst (λ n. P n f.class) here (from 0 f.class refl) in
      let place = placed at f.class own in
      let same : (out-TypeDef f.class.of.now).id ≡ id = ap (λ (t : TypeDef). (out-TypeDef t).id) f.is ∙ sym both.1 in
      record {
        row = at;
        class = f.class;
        is = f.is;
        known = own;
        some = omega arith;
        leads = one_more encloser at before id outer (place.encloser ∙ f.within) (subst (HasId image at) same place.id);
        inner = f.inner;
        nested = f.nested;
        each = each_front P (at + 1) f.inner f.after (each_back P at (f.class ∷ []) (f.inner ++ f.after) from);
      }

  abbrev LeadsFrom : List TypeId → Type 0
  LeadsFrom path =
      (encloser row : ℕ) (types : List TypeDef) (classes : List Class) → AreClasses encloser row types classes → AtEach P row classes → 0 < row → (before : List TypeId) → Outer encloser before
      → (t : TypeDef) → type_at types path ≡ Some t → Leads (before ++ path) t

  leads_on : (id : TypeId) (rest : List TypeId) → LeadsFrom rest → LeadsFrom (id ∷ rest)
  leads_on id [] go encloser row types classes are each some before outer t is =
      let u = there (named id types) (type_below []) t is in
      let f = first encloser row types classes are each some before outer id u.0 u.1 in
      let same : u.0 ≡ t = cc in
      record { row = f.row; class = f.class; is = f.is ∙ same; known = f.known; leads = f.leads }
  leads_on id (next ∷ rest) go encloser row types classes are each some before outer t is =
      let u = there (named id types) (type_below (next ∷ rest)) t is in
      let f = first encloser row types classes are each some before outer id u.0 u.1 in
      let more = go f.row (f.row + 1) (out-TypeDef u.0).nested f.inner f.nested f.each (omega arith) (before ++ id ∷ []) (inr (f.some, f.leads)) t u.2 in
      subst (λ path. Leads path t) (append_assoc before (id ∷ []) (next ∷ rest)) more

  path_leads : (path : List TypeId) → LeadsFrom path
  path_leads [] = λ encloser row types classes are each some before outer t is. absurd cc
  path_leads (id ∷ rest) = leads_on id rest (path_leads rest)

  pub path_to : (types : List TypeDef) (classes : List Class) → AreClasses 0 2 types classes → AtEach P 2 classes → (path : List TypeId) (t : TypeDef) → type_at types path ≡ Some t → Leads path t
  path_to types classes are each path t is = path_leads path 0 2 types classes are each (omega arith) [] (inl (refl, refl)) t is
