-- Names that are gathered one list after the other.
use Rattle.std.proofs.Common.{◌≡◌, ◌∙◌, ap, sym, ℕ, ◌+◌, ◌<◌, Bool, true, false, List, [], ◌∷◌, ◌++◌, length, get_or, take, map, refl}
use Rattle.std.proofs.lemmas.List.{append-nil, take_more}
use Rattle.std.proofs.lemmas.Grind.{flat_map-append}
use Rattle.std.specs.List.{flat_map}
use Rattle.type_terms.specs.declared.name.TypeName.{TypeName}
use Rattle.type_terms.specs.declared.term.Primitive.{Primitive}
use Rattle.type_terms.specs.declared.term.Owner.{Owner}
use Rattle.type_terms.specs.declared.term.Owner.TheVariants as owner
use Rattle.type_terms.specs.declared.term.SigType.{SigType}
use Rattle.type_terms.specs.declared.term.SigType.TheVariants as type
use Rattle.type_terms.proofs.Layers.{fold-Name, fold-Prim, fold-Class, fold-Value, fold-Inst, fold-Var, fold-MVar, fold-Mod}
use Rattle.assembly_tree.specs.declared.typedef.TypeDef.{TypeDef}
use Rattle.assembly_tree.specs.declared.typedef.TypeDef.TheViews.{out-TypeDef}
use Rattle.assembly_tree.specs.declared.typedef.TypeDef.TheFolds.{fold_out-TypeDef}
use Rattle.type_hierarchy.specs.Gathered.{gathered, name_by, with_name, if_value}
use Rattle.type_hierarchy.specs.ValueNames.{Names, owner_step, type_step, in_type, in_owner, in_own, in_typedef, typedef_step}
use Rattle.type_hierarchy.specs.declared.meanings.Meanings.{Meanings}

pub both_in : (m : Meanings) (names a b : List TypeName) → gathered m (gathered m names a) b ≡ gathered m names (a ++ b)
unfolding gathered
both_in m names [] b = refl
both_in m names (n ∷ a) b = both_in m (with_name names (name_by m n)) a b

pub none_in : (m : Meanings) (names : List TypeName) → gathered m names [] ≡ names
unfolding gathered
none_in m names = refl

pub one_in : (m : Meanings) (names : List TypeName) (n : TypeName) → gathered m names (n ∷ []) ≡ with_name names (name_by m n)
unfolding gathered
one_in m names n = refl

-- ---- the names in an instantiation, and in a type with those that it nests

all_of : {X : Type 0} (f : X → Names) (xs : List X) → flat_map (λ (a : Names). a) (map f xs) ≡ flat_map f xs
all_of f [] = refl
all_of f (x ∷ xs) = ap (λ ns. f x ++ ns) (all_of f xs)

pub in_instance : (v : Bool) (n : TypeName) (args : List SigType) → in_type (type.Inst v n args) ≡ if_value v n ++ flat_map in_type args
in_instance true n args = fold-Inst Names Names owner_step type_step true n args ∙ ap (λ ns. n ∷ ns) (all_of in_type args)
in_instance false n args = fold-Inst Names Names owner_step type_step false n args ∙ all_of in_type args

pub in_name : (n : TypeName) → in_owner (owner.Name n) ≡ []
in_name n = fold-Name Names Names owner_step type_step n

pub in_prim : (p : Primitive) → in_type (type.Prim p) ≡ []
in_prim p = fold-Prim Names Names owner_step type_step p

pub in_class : (n : TypeName) → in_type (type.Class n) ≡ []
in_class n = fold-Class Names Names owner_step type_step n

pub in_value : (n : TypeName) → in_type (type.Value n) ≡ n ∷ []
in_value n = fold-Value Names Names owner_step type_step n

pub in_var : (k : ℕ) → in_type (type.Var k) ≡ []
in_var k = fold-Var Names Names owner_step type_step k

pub in_mvar : (k : ℕ) → in_type (type.MVar k) ≡ []
in_mvar k = fold-MVar Names Names owner_step type_step k

pub in_modified : (r : Bool) (by : Owner) (of : SigType) → in_type (type.Mod r by of) ≡ in_owner by ++ in_type of
in_modified r by of = fold-Mod Names Names owner_step type_step r by of

pub in_typedef_out : (t : TypeDef) → in_typedef t ≡ in_own (out-TypeDef t) ++ flat_map in_typedef (out-TypeDef t).nested
unfolding in_own
in_typedef_out t = fold_out-TypeDef Names typedef_step t ∙ ap (λ ns. in_own (out-TypeDef t) ++ ns) (all_of in_typedef (out-TypeDef t).nested)

-- ---- one more of a list

pub names_step : {X : Type 0} (f : X → Names) (xs : List X) (i : ℕ) (x : X) → i < length xs → x ≡ get_or xs i x
    → flat_map f (take i xs) ++ f x ≡ flat_map f (take (i + 1) xs)
names_step f xs i x low is =
    sym (ap (flat_map f) (take_more xs i x low) ∙ flat_map-append f (take i xs) (get_or xs i x ∷ [])
    ∙ ap (λ ns. flat_map f (take i xs) ++ ns) (append-nil (f (get_or xs i x)) ∙ ap f (sym is)))

pub step_in : {X : Type 0} (f : X → Names) (m : Meanings) (first now next : Names) (xs : List X) (i : ℕ) (x : X)
    → now ≡ gathered m first (flat_map f (take i xs)) → next ≡ gathered m now (f x) → i < length xs → x ≡ get_or xs i x
    → next ≡ gathered m first (flat_map f (take (i + 1) xs))
step_in f m first now next xs i x before more low is =
    more ∙ ap (λ ns. gathered m ns (f x)) before ∙ both_in m first (flat_map f (take i xs)) (f x)
    ∙ ap (gathered m first) (names_step f xs i x low is)

pub typedef_in : (m : Meanings) (now mid next : Names) (t : TypeDef) → mid ≡ gathered m now (in_own (out-TypeDef t))
    → next ≡ gathered m mid (flat_map in_typedef (out-TypeDef t).nested) → next ≡ gathered m now (in_typedef t)
typedef_in m now mid next t own inner =
    inner ∙ ap (λ ns. gathered m ns (flat_map in_typedef (out-TypeDef t).nested)) own
    ∙ both_in m now (in_own (out-TypeDef t)) (flat_map in_typedef (out-TypeDef t).nested)
    ∙ ap (gathered m now) (sym (in_typedef_out t))
