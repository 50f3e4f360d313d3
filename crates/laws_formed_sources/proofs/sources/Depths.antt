-- The depth of a type doesn't depend on what stands around it: that decides numbers of generic parameters alone.
use Rattle.std.proofs.Common.{◌≡◌, ℕ, ◌+◌, max, Bool, true, false, ◌==◌, List, [], ◌∷◌, ◌++◌, map, length, refl, ap, sym, ◌∙◌}
use Rattle.std.specs.Prelude.{if◌then◌else◌}
use Rattle.std.proofs.lemmas.List.{map-append}
use Rattle.type_terms.specs.Depth.{depth, largest, owner_depth}
use Rattle.type_terms.specs.declared.name.TypeName.{TypeName}
use Rattle.type_terms.specs.declared.term.Owner.{Owner, Name, Spec}
use Rattle.type_terms.specs.declared.term.Primitive.TheVariants as prim
use Rattle.type_terms.specs.declared.term.SigType.{SigType, Prim, Var, MVar, SzArray, Array, ByRef, Pointer, Mod, Pinned}
use Rattle.ilasm_grammar.specs.declared.productions.TheConstants.{NATIVE_INT_INT, SPEC_TYPE, SPEC_TYPE_NAME, TYPE, TYPE_BASE_BANG, TYPE_BASE_BOOL, TYPE_BASE_CHAR, TYPE_BASE_CLASS, TYPE_BASE_FLOAT32, TYPE_BASE_FLOAT64, TYPE_BASE_INT_TYPE, TYPE_BASE_NATIVE, TYPE_BASE_OBJECT, TYPE_BASE_STRING, TYPE_BASE_TYPEDREF, TYPE_BASE_VALUETYPE, TYPE_BASE_VOID, TYPE_SUFFIX_AMPERSAND, TYPE_SUFFIX_MODOPT, TYPE_SUFFIX_MODREQ, TYPE_SUFFIX_PINNED, TYPE_SUFFIX_STAR}
use Rattle.source_model.specs.Forest.{Forest, none, leaf, branch, has, is_among}
use Rattle.source_model.specs.Names.{type_name}
use Rattle.source_model.specs.Nodes.{Around, typar_names}
use Rattle.source_model.specs.Shapes.{dimensions, is_vector, lower_bounds, sizes}
use Rattle.source_model.specs.Source.{Source}
use Rattle.source_model.specs.Types.{array, base_type, first_owner, int_type, named_type, owners_in, suffix, suffixed, suffixes, type_of, types_in, variable_number}
use Rattle.source_syntax.proofs.TypeLemmas.{owners_leaf, owners_none, suffixed_leaf, suffixed_none, type_branch, type_leaf, type_none, types_at, types_leaf, types_none}
use Rattle.laws_formed_sources.proofs.sources.Layers.{depth-Array, depth-ByRef, depth-Inst, depth-MVar, depth-Mod, depth-Pinned, depth-Pointer, depth-Spec, depth-SzArray, depth-Var}

pub suffixed_at : (s : Source) (a : Around) (p : ℕ) (b after : Forest) (t : SigType)
    → suffixed s a (branch p b after) t ≡ suffixed s a after (if is_among suffixes p then suffix s p b (owners_in s a b) t else suffixed s a b t)
unfolding types_in type_of suffixed owners_in
suffixed_at s a p b after t = refl

abbrev pub own_owners : Source → Around → ℕ → Forest → List Owner
own_owners s a p b = if p == SPEC_TYPE_NAME then Name (type_name s b) ∷ [] else if p == SPEC_TYPE then map Spec (types_in s a b) else owners_in s a b

pub owners_at : (s : Source) (a : Around) (p : ℕ) (b after : Forest) → owners_in s a (branch p b after) ≡ own_owners s a p b ++ owners_in s a after
unfolding types_in type_of suffixed owners_in
owners_at s a p b after = refl

-- ---- one layer

record SameDepth (t u : SigType) : Type 0 where
  same : depth t ≡ depth u

either : (c : Bool) (t u v w : SigType) → SameDepth t u → SameDepth v w → SameDepth (if c then t else v) (if c then u else w)
either true t u v w h i = h
either false t u v w h i = i

or_else : (c : Bool) (t v w : SigType) → SameDepth v w → SameDepth (if c then t else v) (if c then t else w)
or_else true t v w i = record { same = refl }
or_else false t v w i = i

itself : {t : SigType} → SameDepth t t
itself = record { same = refl }

either_list : {X : Type 0} (f : X → ℕ) (c : Bool) (t u v w : List X) → map f t ≡ map f u → map f v ≡ map f w → map f (if c then t else v) ≡ map f (if c then u else w)
either_list f true t u v w h i = h
either_list f false t u v w h i = i

named_deep : (value : Bool) (name : TypeName) (ts us : List SigType) → map depth ts ≡ map depth us → SameDepth (named_type value name ts) (named_type value name us)
named_deep value name [] [] e = itself
named_deep value name [] (u ∷ us) e = absurd cc
named_deep value name (t ∷ ts) [] e = absurd cc
named_deep value name (t ∷ ts) (u ∷ us) e =
    record { same = depth-Inst value name (t ∷ ts) ∙ ap (λ ds. largest ds + 1) e ∙ sym (depth-Inst value name (u ∷ us)) }

first_deep : (os ps : List Owner) → map owner_depth os ≡ map owner_depth ps → owner_depth (first_owner os) ≡ owner_depth (first_owner ps)
first_deep [] [] e = refl
first_deep [] (p ∷ ps) e = absurd cc
first_deep (o ∷ os) [] e = absurd cc
first_deep (o ∷ os) (p ∷ ps) e = cc

mod_deep : (r : Bool) (by by' : Owner) (t u : SigType) → owner_depth by ≡ owner_depth by' → SameDepth t u → SameDepth (Mod r by t) (Mod r by' u)
mod_deep r by by' t u h e =
    record { same = depth-Mod r by t ∙ ap (λ d. max d (depth t) + 1) h ∙ ap (λ d. max (owner_depth by') d + 1) e.same ∙ sym (depth-Mod r by' u) }

specs_deep : (ts us : List SigType) → map depth ts ≡ map depth us → map owner_depth (map Spec ts) ≡ map owner_depth (map Spec us)
specs_deep ts us e = all ts ∙ e ∙ sym (all us)
  where
    all : (ts : List SigType) → map owner_depth (map Spec ts) ≡ map depth ts
    all [] = refl
    all (t ∷ ts) = ap (λ d. d ∷ map owner_depth (map Spec ts)) (depth-Spec t) ∙ ap (λ ds. depth t ∷ ds) (all ts)

module _ (s : Source) (a b : Around) where
  variables : (m n : ℕ) → SameDepth (Var m) (Var n)
  variables m n = record { same = depth-Var m ∙ sym (depth-Var n) }

  method_variables : (m n : ℕ) → SameDepth (MVar m) (MVar n)
  method_variables m n = record { same = depth-MVar m ∙ sym (depth-MVar n) }

  module _ (p : ℕ) (f : Forest) (ts us : List SigType) (e : map depth ts ≡ map depth us) where
    abbrev v0 : Around → List SigType → SigType
    v0 x l = if p == TYPE_BASE_BANG then Var (variable_number s (typar_names s x.class) f) else MVar (variable_number s (typar_names s x.method) f)

    abbrev v1 : Around → List SigType → SigType
    v1 x l = if p == TYPE_BASE_VALUETYPE then named_type true (type_name s f) l else v0 x l

    abbrev v2 : Around → List SigType → SigType
    v2 x l = if p == TYPE_BASE_CLASS then named_type false (type_name s f) l else v1 x l

    abbrev v3 : Around → List SigType → SigType
    v3 x l = if p == TYPE_BASE_NATIVE then (if has NATIVE_INT_INT f then Prim prim.NInt else Prim prim.NUint) else v2 x l

    abbrev v4 : Around → List SigType → SigType
    v4 x l = if p == TYPE_BASE_INT_TYPE then Prim (int_type f) else v3 x l

    abbrev v5 : Around → List SigType → SigType
    v5 x l = if p == TYPE_BASE_FLOAT64 then Prim prim.R8 else v4 x l

    abbrev v6 : Around → List SigType → SigType
    v6 x l = if p == TYPE_BASE_FLOAT32 then Prim prim.R4 else v5 x l

    abbrev v7 : Around → List SigType → SigType
    v7 x l = if p == TYPE_BASE_TYPEDREF then Prim prim.TypedRef else v6 x l

    abbrev v8 : Around → List SigType → SigType
    v8 x l = if p == TYPE_BASE_OBJECT then Prim prim.Object else v7 x l

    abbrev v9 : Around → List SigType → SigType
    v9 x l = if p == TYPE_BASE_STRING then Prim prim.Str else v8 x l

    abbrev v10 : Around → List SigType → SigType
    v10 x l = if p == TYPE_BASE_CHAR then Prim prim.Char else v9 x l

    abbrev v11 : Around → List SigType → SigType
    v11 x l = if p == TYPE_BASE_BOOL then Prim prim.Bool else v10 x l

    base_deep : SameDepth (base_type s a p f ts) (base_type s b p f us)
    base_deep =
        let d0 = either (p == TYPE_BASE_BANG) (Var (variable_number s (typar_names s a.class) f)) (Var (variable_number s (typar_names s b.class) f))
        (MVar (variable_number s (typar_names s a.method) f)) (MVar (variable_number s (typar_names s b.method) f)) (variables _ _) (method_variables _ _) in
        let d1 = either (p == TYPE_BASE_VALUETYPE) (named_type true (type_name s f) ts) (named_type true (type_name s f) us) (v0 a ts) (v0 b us) (named_deep true (type_name s f) ts us e) d0 in
        let d2 = either (p == TYPE_BASE_CLASS) (named_type false (type_name s f) ts) (named_type false (type_name s f) us) (v1 a ts) (v1 b us) (named_deep false (type_name s f) ts us e) d1 in
        let d3 = or_else (p == TYPE_BASE_NATIVE) (if has NATIVE_INT_INT f then Prim prim.NInt else Prim prim.NUint) (v2 a ts) (v2 b us) d2 in
        let d4 = or_else (p == TYPE_BASE_INT_TYPE) (Prim (int_type f)) (v3 a ts) (v3 b us) d3 in
        let d5 = or_else (p == TYPE_BASE_FLOAT64) (Prim prim.R8) (v4 a ts) (v4 b us) d4 in
        let d6 = or_else (p == TYPE_BASE_FLOAT32) (Prim prim.R4) (v5 a ts) (v5 b us) d5 in
        let d7 = or_else (p == TYPE_BASE_TYPEDREF) (Prim prim.TypedRef) (v6 a ts) (v6 b us) d6 in
        let d8 = or_else (p == TYPE_BASE_OBJECT) (Prim prim.Object) (v7 a ts) (v7 b us) d7 in
        let d9 = or_else (p == TYPE_BASE_STRING) (Prim prim.Str) (v8 a ts) (v8 b us) d8 in
        let d10 = or_else (p == TYPE_BASE_CHAR) (Prim prim.Char) (v9 a ts) (v9 b us) d9 in
        let d11 = or_else (p == TYPE_BASE_BOOL) (Prim prim.Bool) (v10 a ts) (v10 b us) d10 in
        or_else (p == TYPE_BASE_VOID) (Prim prim.Void) (v11 a ts) (v11 b us) d11

  deeper : (wrap : SigType → SigType) → ((t : SigType) → depth (wrap t) ≡ depth t + 1) → (t u : SigType) → SameDepth t u → SameDepth (wrap t) (wrap u)
  deeper wrap more t u e = record { same = more t ∙ ap (λ d. d + 1) e.same ∙ sym (more u) }

  array_deep : (f : Forest) (t u : SigType) → SameDepth t u → SameDepth (array s f t) (array s f u)
  array_deep f t u e =
      let wrapped : SigType → SigType = λ x. Array x (length (dimensions f)) (sizes s (dimensions f)) (lower_bounds s (dimensions f)) in
      either (is_vector f) (SzArray t) (SzArray u) (wrapped t) (wrapped u) (deeper (λ x. SzArray x) depth-SzArray t u e)
      (deeper wrapped (λ x. depth-Array x (length (dimensions f)) (sizes s (dimensions f)) (lower_bounds s (dimensions f))) t u e)

  module _ (p : ℕ) (f : Forest) (os ps : List Owner) (t u : SigType) (h : map owner_depth os ≡ map owner_depth ps) (e : SameDepth t u) where
    abbrev w0 : List Owner → SigType → SigType
    w0 by x = if p == TYPE_SUFFIX_MODOPT then Mod false (first_owner by) x else array s f x

    abbrev w1 : List Owner → SigType → SigType
    w1 by x = if p == TYPE_SUFFIX_MODREQ then Mod true (first_owner by) x else w0 by x

    abbrev w2 : List Owner → SigType → SigType
    w2 by x = if p == TYPE_SUFFIX_PINNED then Pinned x else w1 by x

    abbrev w3 : List Owner → SigType → SigType
    w3 by x = if p == TYPE_SUFFIX_STAR then Pointer x else w2 by x

    suffix_deep : SameDepth (suffix s p f os t) (suffix s p f ps u)
    suffix_deep =
        let d0 = either (p == TYPE_SUFFIX_MODOPT) (Mod false (first_owner os) t) (Mod false (first_owner ps) u) (array s f t) (array s f u)
        (mod_deep false (first_owner os) (first_owner ps) t u (first_deep os ps h) e) (array_deep f t u e) in
        let d1 = either (p == TYPE_SUFFIX_MODREQ) (Mod true (first_owner os) t) (Mod true (first_owner ps) u) (w0 os t) (w0 ps u)
        (mod_deep true (first_owner os) (first_owner ps) t u (first_deep os ps h) e) d0 in
        let d2 = either (p == TYPE_SUFFIX_PINNED) (Pinned t) (Pinned u) (w1 os t) (w1 ps u) (deeper (λ x. Pinned x) depth-Pinned t u e) d1 in
        let d3 = either (p == TYPE_SUFFIX_STAR) (Pointer t) (Pointer u) (w2 os t) (w2 ps u) (deeper (λ x. Pointer x) depth-Pointer t u e) d2 in
        either (p == TYPE_SUFFIX_AMPERSAND) (ByRef t) (ByRef u) (w3 os t) (w3 ps u) (deeper (λ x. ByRef x) depth-ByRef t u e) d3

  -- ---- whole types

  mutual
    pub types_deep : (f : Forest) → map depth (types_in s a f) ≡ map depth (types_in s b f)
    types_deep none = ap (map depth) (types_none s a) ∙ sym (ap (map depth) (types_none s b))
    types_deep (leaf k f) = ap (map depth) (types_leaf s a k f) ∙ types_deep f ∙ sym (ap (map depth) (types_leaf s b k f))
    types_deep (branch p g f) =
        ap (map depth) (types_at s a p g f)
        ∙ map-append depth (if p == TYPE then type_of s a g ∷ [] else types_in s a g) (types_in s a f)
        ∙ ap (λ ds. ds ++ map depth (types_in s a f)) (either_list depth (p == TYPE) (type_of s a g ∷ []) (type_of s b g ∷ []) (types_in s a g) (types_in s b g) (ap (λ d. d ∷ []) (type_deep g)) (types_deep g))
        ∙ ap (λ ds. map depth (if p == TYPE then type_of s b g ∷ [] else types_in s b g) ++ ds) (types_deep f)
        ∙ sym (map-append depth (if p == TYPE then type_of s b g ∷ [] else types_in s b g) (types_in s b f))
        ∙ sym (ap (map depth) (types_at s b p g f))

    pub type_deep : (f : Forest) → depth (type_of s a f) ≡ depth (type_of s b f)
    type_deep none = ap depth (type_none s a) ∙ sym (ap depth (type_none s b))
    type_deep (leaf k f) = ap depth (type_leaf s a k f) ∙ sym (ap depth (type_leaf s b k f))
    type_deep (branch p g f) =
        ap depth (type_branch s a p g f)
        ∙ suffixed_deep f (base_type s a p g (types_in s a g)) (base_type s b p g (types_in s b g)) (base_deep p g (types_in s a g) (types_in s b g) (types_deep g))
        ∙ sym (ap depth (type_branch s b p g f))

    suffixed_deep : (f : Forest) (t u : SigType) → SameDepth t u → depth (suffixed s a f t) ≡ depth (suffixed s b f u)
    suffixed_deep none t u e = ap depth (suffixed_none s a t) ∙ e.same ∙ sym (ap depth (suffixed_none s b u))
    suffixed_deep (leaf k f) t u e = ap depth (suffixed_leaf s a k f t) ∙ suffixed_deep f t u e ∙ sym (ap depth (suffixed_leaf s b k f u))
    suffixed_deep (branch p g f) t u e =
        ap depth (suffixed_at s a p g f t)
        ∙ suffixed_deep f (if is_among suffixes p then suffix s p g (owners_in s a g) t else suffixed s a g t)
        (if is_among suffixes p then suffix s p g (owners_in s b g) u else suffixed s b g u)
        (either (is_among suffixes p) (suffix s p g (owners_in s a g) t) (suffix s p g (owners_in s b g) u) (suffixed s a g t) (suffixed s b g u) (suffix_deep p g (owners_in s a g) (owners_in s b g) t u (owners_deep g) e) (record { same = suffixed_deep g t u e }))
        ∙ sym (ap depth (suffixed_at s b p g f u))

    pub owners_deep : (f : Forest) → map owner_depth (owners_in s a f) ≡ map owner_depth (owners_in s b f)
    owners_deep none = ap (map owner_depth) (owners_none s a) ∙ sym (ap (map owner_depth) (owners_none s b))
    owners_deep (leaf k f) = ap (map owner_depth) (owners_leaf s a k f) ∙ owners_deep f ∙ sym (ap (map owner_depth) (owners_leaf s b k f))
    owners_deep (branch p g f) =
        ap (map owner_depth) (owners_at s a p g f)
        ∙ map-append owner_depth (own_owners s a p g) (owners_in s a f)
        ∙ ap (λ ds. ds ++ map owner_depth (owners_in s a f))
        (either_list owner_depth (p == SPEC_TYPE_NAME) (Name (type_name s g) ∷ []) (Name (type_name s g) ∷ [])
        (if p == SPEC_TYPE then map Spec (types_in s a g) else owners_in s a g) (if p == SPEC_TYPE then map Spec (types_in s b g) else owners_in s b g) refl
        (either_list owner_depth (p == SPEC_TYPE) (map Spec (types_in s a g)) (map Spec (types_in s b g)) (owners_in s a g) (owners_in s b g)
        (specs_deep (types_in s a g) (types_in s b g) (types_deep g)) (owners_deep g)))
        ∙ ap (λ ds. map owner_depth (own_owners s b p g) ++ ds) (owners_deep f)
        ∙ sym (map-append owner_depth (own_owners s b p g) (owners_in s b f))
        ∙ sym (ap (map owner_depth) (owners_at s b p g f))
