-- What a look-up by places finds.
use Rattle.std.proofs.Common.{◌≡◌, ◌∙◌, ap, sym, refl, None, Some, ℕ, ◌+◌, ◌<◌, List, [], ◌∷◌, ◌++◌, length, get_or, take, drop, Option, arith}
use Rattle.std.specs.Prelude.{slice_get}
use Rattle.std.proofs.lemmas.List.{drop_all, drop_more, length-drop, take_more}
use Rattle.type_terms.specs.declared.name.Scope.TheVariants.{Here}
use Rattle.type_terms.specs.declared.name.TypeId.{TypeId}
use Rattle.assembly_tree.specs.declared.assembly.Assembly.{Assembly}
use Rattle.assembly_tree.specs.declared.typedef.TypeDef.{TypeDef}
use Rattle.assembly_tree.specs.declared.typedef.TypeDef.TheViews.{out-TypeDef}
use Rattle.assembly_tree.specs.DataSize.{named, type_at, type_below, with_type}
use Rattle.type_hierarchy.specs.Indexed.{KnowsTypes, nested_in, types_at}
use Rattle.type_hierarchy.specs.Names.{full_name}
use Rattle.type_hierarchy.specs.declared.tables.Tables.{Tables}
use Rattle.type_hierarchy.proofs.Among.{among_none}

types_more : (ts : List TypeDef) (outer : List TypeId) (id : TypeId) → types_at ts (outer ++ id ∷ []) ≡ nested_in (named id (types_at ts outer))
types_more ts [] id = refl
types_more ts (o ∷ os) id = types_more (nested_in (named o ts)) os id

-- past the first name of a path that has more
with_more : (o : Option TypeDef) (id : TypeId) (more : List TypeId) → with_type (type_below (id ∷ more)) o ≡ type_at (nested_in o) (id ∷ more)
with_more None id more = refl
with_more (Some t) id more = refl

with_last : (o : Option TypeDef) (outer : List TypeId) (id : TypeId) → with_type (type_below (outer ++ id ∷ [])) o ≡ type_at (nested_in o) (outer ++ id ∷ [])
with_last o [] id = with_more o id []
with_last o (p ∷ ps) id = with_more o p (ps ++ id ∷ [])

with_itself : (o : Option TypeDef) → with_type (type_below []) o ≡ o
with_itself None = refl
with_itself (Some t) = refl

type_last : (ts : List TypeDef) (outer : List TypeId) (id : TypeId) → type_at ts (outer ++ id ∷ []) ≡ named id (types_at ts outer)
type_last ts [] id = with_itself (named id ts)
type_last ts (o ∷ os) id = with_last (named o ts) os id ∙ type_last (nested_in (named o ts)) os id

-- ---- one step of the look-up

-- a name that isn't among the names is that of no type
pub none_here : (a : Assembly) (t : Tables) (outer : List TypeId) (id : TypeId) → KnowsTypes a t
    → ((k : ℕ) → slice_get t.names k ≡ Some (full_name Here (outer ++ id ∷ [])) → ⊥) → None ≡ named id (types_at a.types outer)
none_here a t outer id know lacks = by_type (named id (types_at a.types outer)) (type_last a.types outer id)
  where
    by_type : (o : Option TypeDef) → type_at a.types (outer ++ id ∷ []) ≡ o → None ≡ o
    by_type None e = refl
    by_type (Some u) e = absurd (
        let yes = know.declared (outer ++ id ∷ []) u e in
        let no = among_none t.names (full_name Here (outer ++ id ∷ [])) lacks in
        let f : ⊥ = cc in f)

-- the path's next name, and those behind it
next_name : (ts : List TypeDef) (path : List TypeId) (depth : ℕ) (d : TypeId) (o : Option TypeDef) → depth < length path → o ≡ named (get_or path depth d) ts
    → type_at ts (drop depth path) ≡ with_type (type_below (drop (depth + 1) path)) o
next_name ts path depth d o low e =
    ap (type_at ts) (drop_more path depth d low) ∙ ap (with_type (type_below (drop (depth + 1) path))) (sym e)

pub types_next : (ts us : List TypeDef) (path : List TypeId) (depth : ℕ) (d : TypeId) (t : TypeDef) → depth < length path → us ≡ types_at ts (take depth path)
    → Some t ≡ named (get_or path depth d) us → (out-TypeDef t).nested ≡ types_at ts (take (depth + 1) path)
types_next ts us path depth d t low is e =
    sym (ap (types_at ts) (take_more path depth d low) ∙ types_more ts (take depth path) (get_or path depth d)
    ∙ ap (λ vs. nested_in (named (get_or path depth d) vs)) (sym is) ∙ ap nested_in (sym e))

pub found_none : (ts : List TypeDef) (path : List TypeId) (depth : ℕ) (d : TypeId) → depth < length path → None ≡ named (get_or path depth d) ts
    → None ≡ type_at ts (drop depth path)
found_none ts path depth d low e = sym (next_name ts path depth d None low e)

pub found_last : (ts : List TypeDef) (path : List TypeId) (depth : ℕ) (d : TypeId) (t : TypeDef) → depth < length path → depth + 1 ≡ length path
    → Some t ≡ named (get_or path depth d) ts → Some t ≡ type_at ts (drop depth path)
found_last ts path depth d t low end e =
    sym (next_name ts path depth d (Some t) low e
    ∙ ap (λ (p : List TypeId). with_type (type_below p) (Some t)) (drop_all (depth + 1) path (omega (arith, end))))

some_left : (path : List TypeId) (n : ℕ) → n < length path → [] ≡ drop n path → ⊥
some_left path n low h =
    let none = ap length h in
    let rest = length-drop n path in
    omega (arith, low, none, rest)

below_some : (t : TypeDef) (path : List TypeId) → ([] ≡ path → ⊥) → with_type (type_below path) (Some t) ≡ type_at (out-TypeDef t).nested path
below_some t [] some = absurd (some refl)
below_some t (id ∷ more) some = refl

pub found_more : (ts : List TypeDef) (path : List TypeId) (depth : ℕ) (d : TypeId) (t : TypeDef) (r : Option TypeDef) → depth + 1 < length path
    → Some t ≡ named (get_or path depth d) ts → r ≡ type_at (out-TypeDef t).nested (drop (depth + 1) path) → r ≡ type_at ts (drop depth path)
found_more ts path depth d t r low e is =
    is ∙ sym (below_some t (drop (depth + 1) path) (some_left path (depth + 1) low)) ∙ sym (next_name ts path depth d (Some t) (omega (arith, low)) e)

-- a name at a place of the path
pub name_at : (path : List TypeId) (depth : ℕ) → depth < length path → TypeId
name_at [] depth low = absurd (omega (arith, low))
name_at (id ∷ more) depth low = id
