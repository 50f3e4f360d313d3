-- Names that are seen one list after the other.
use Rattle.std.proofs.Common.{◌≡◌, ◌∙◌, ap, sym, refl, ℕ, ◌+◌, ◌<◌, Bool, List, [], ◌∷◌, ◌++◌, length, get_or, take, map}
use Rattle.std.proofs.lemmas.List.{append-nil, take_more}
use Rattle.std.proofs.lemmas.Grind.{flat_map-append}
use Rattle.std.specs.List.{flat_map}
use Rattle.type_terms.specs.declared.name.TypeName.{TypeName}
use Rattle.type_terms.specs.declared.term.Primitive.{Primitive}
use Rattle.type_terms.specs.declared.term.Owner.{Owner}
use Rattle.type_terms.specs.declared.term.Owner.TheVariants as owner
use Rattle.type_terms.specs.declared.term.SigType.{SigType}
use Rattle.type_terms.specs.declared.term.SigType.TheVariants as type
use Rattle.type_terms.proofs.Layers.{fold-Name, fold-Prim, fold-Class, fold-Value, fold-Inst, fold-Var, fold-MVar, fold-Mod}
use Rattle.assembly_tree.specs.declared.typedef.TypeDef.{TypeDef}
use Rattle.assembly_tree.specs.declared.typedef.TypeDef.TheViews.{out-TypeDef}
use Rattle.assembly_tree.specs.declared.typedef.TypeDef.TheFolds.{fold_out-TypeDef}
use Rattle.tree_names.specs.Looking.{seen_all}
use Rattle.tree_names.specs.Named.{Names, owner_step, type_step, names_in_type, names_in_owner, names_in_own, names_in_typedef, typedef_step}

pub both_seen : {X : Type 0} (s : X → TypeName → X) (x : X) (a b : Names) → seen_all s (seen_all s x a) b ≡ seen_all s x (a ++ b)
unfolding seen_all
both_seen s x [] b = refl
both_seen s x (n ∷ a) b = both_seen s (s x n) a b

pub none_seen : {X : Type 0} (s : X → TypeName → X) (x : X) → seen_all s x [] ≡ x
unfolding seen_all
none_seen s x = refl

pub one_seen : {X : Type 0} (s : X → TypeName → X) (x : X) (n : TypeName) → seen_all s x (n ∷ []) ≡ s x n
unfolding seen_all
one_seen s x n = refl

pub first_seen : {X : Type 0} (s : X → TypeName → X) (x : X) (n : TypeName) (more : Names) → seen_all s x (n ∷ more) ≡ seen_all s (s x n) more
unfolding seen_all
first_seen s x n more = refl

-- ---- the names in a type by its variant

all_of : {X : Type 0} (f : X → Names) (xs : List X) → flat_map (λ (a : Names). a) (map f xs) ≡ flat_map f xs
all_of f [] = refl
all_of f (x ∷ xs) = ap (λ ns. f x ++ ns) (all_of f xs)

pub in_instance : (v : Bool) (n : TypeName) (args : List SigType) → names_in_type (type.Inst v n args) ≡ n ∷ flat_map names_in_type args
in_instance v n args = fold-Inst Names Names owner_step type_step v n args ∙ ap (λ ns. n ∷ ns) (all_of names_in_type args)

pub in_name : (n : TypeName) → names_in_owner (owner.Name n) ≡ n ∷ []
in_name n = fold-Name Names Names owner_step type_step n

pub in_prim : (p : Primitive) → names_in_type (type.Prim p) ≡ []
in_prim p = fold-Prim Names Names owner_step type_step p

pub in_class : (n : TypeName) → names_in_type (type.Class n) ≡ n ∷ []
in_class n = fold-Class Names Names owner_step type_step n

pub in_value : (n : TypeName) → names_in_type (type.Value n) ≡ n ∷ []
in_value n = fold-Value Names Names owner_step type_step n

pub in_var : (k : ℕ) → names_in_type (type.Var k) ≡ []
in_var k = fold-Var Names Names owner_step type_step k

pub in_mvar : (k : ℕ) → names_in_type (type.MVar k) ≡ []
in_mvar k = fold-MVar Names Names owner_step type_step k

pub in_modified : (r : Bool) (by : Owner) (of : SigType) → names_in_type (type.Mod r by of) ≡ names_in_owner by ++ names_in_type of
in_modified r by of = fold-Mod Names Names owner_step type_step r by of

pub in_typedef_out : (t : TypeDef) → names_in_typedef t ≡ names_in_own (out-TypeDef t) ++ flat_map names_in_typedef (out-TypeDef t).nested
unfolding names_in_own
in_typedef_out t = fold_out-TypeDef Names typedef_step t ∙ ap (λ ns. names_in_own (out-TypeDef t) ++ ns) (all_of names_in_typedef (out-TypeDef t).nested)

-- ---- one more of a list

pub names_step : {X : Type 0} (f : X → Names) (xs : List X) (i : ℕ) (x : X) → i < length xs → x ≡ get_or xs i x
    → flat_map f (take i xs) ++ f x ≡ flat_map f (take (i + 1) xs)
names_step f xs i x low is =
    sym (ap (flat_map f) (take_more xs i x low) ∙ flat_map-append f (take i xs) (get_or xs i x ∷ [])
    ∙ ap (λ ns. flat_map f (take i xs) ++ ns) (append-nil (f (get_or xs i x)) ∙ ap f (sym is)))

pub step_seen : {X Y : Type 0} (s : X → TypeName → X) (f : Y → Names) (first now next : X) (ys : List Y) (i : ℕ) (y : Y)
    → now ≡ seen_all s first (flat_map f (take i ys)) → next ≡ seen_all s now (f y) → i < length ys → y ≡ get_or ys i y
    → next ≡ seen_all s first (flat_map f (take (i + 1) ys))
step_seen s f first now next ys i y before more low is =
    more ∙ ap (λ x. seen_all s x (f y)) before ∙ both_seen s first (flat_map f (take i ys)) (f y)
    ∙ ap (seen_all s first) (names_step f ys i y low is)

pub typedef_seen : {X : Type 0} (s : X → TypeName → X) (now mid next : X) (t : TypeDef) → mid ≡ seen_all s now (names_in_own (out-TypeDef t))
    → next ≡ seen_all s mid (flat_map names_in_typedef (out-TypeDef t).nested) → next ≡ seen_all s now (names_in_typedef t)
typedef_seen s now mid next t own inner =
    inner ∙ ap (λ x. seen_all s x (flat_map names_in_typedef (out-TypeDef t).nested)) own
    ∙ both_seen s now (names_in_own (out-TypeDef t)) (flat_map names_in_typedef (out-TypeDef t).nested)
    ∙ ap (seen_all s now) (sym (in_typedef_out t))
