-- The depths of types by their productions, which are the same wherever the types stand.
use Rattle.std.proofs.Common.{◌≡◌, ℕ, ◌+◌, List, [], ◌∷◌, ◌++◌, length, map, max, ap, sym, subst, ◌∙◌, refl, arith}
use Rattle.std.specs.Prelude.{Bool, true, false, ◌==◌, ◌&&◌, ◌||◌, nat_lt, if◌then◌else◌}
use Rattle.std.specs.List.{flat_map}
use Rattle.std.proofs.lemmas.Bool.Decides.{Decides-eqb}
use Rattle.std.proofs.lemmas.List.{map-append}
use Rattle.type_terms.specs.Depth.{depth, depth_step, largest, owner_depth, owner_depth_step}
use Rattle.type_terms.specs.declared.name.TypeName.{TypeName}
use Rattle.type_terms.specs.declared.term.Primitive.{Primitive}
use Rattle.type_terms.specs.declared.term.Primitive.TheVariants as prim
use Rattle.type_terms.specs.declared.term.Owner.{Owner, Name, Spec}
use Rattle.type_terms.specs.declared.term.SigType.{SigType, Prim, Var, MVar, SzArray, Array, ByRef, Pointer, Mod, Pinned}
use Rattle.type_terms.proofs.Layers.{fold-Array, fold-ByRef, fold-Class, fold-Inst, fold-MVar, fold-Mod, fold-Name, fold-Pinned, fold-Pointer, fold-Prim, fold-Spec, fold-SzArray, fold-Value, fold-Var}
use Rattle.ilasm_grammar.specs.declared.productions.TheConstants.{TYPE, TYPE_BASE_VOID, TYPE_BASE_BOOL, TYPE_BASE_CHAR, TYPE_BASE_STRING, TYPE_BASE_OBJECT, TYPE_BASE_TYPEDREF, TYPE_BASE_FLOAT32, TYPE_BASE_FLOAT64, TYPE_BASE_INT_TYPE, TYPE_BASE_NATIVE, TYPE_BASE_CLASS, TYPE_BASE_VALUETYPE, TYPE_BASE_BANG, NATIVE_INT_INT, TYPE_SUFFIX_AMPERSAND, TYPE_SUFFIX_STAR, TYPE_SUFFIX_PINNED, TYPE_SUFFIX_MODREQ, TYPE_SUFFIX_MODOPT, SPEC_TYPE_NAME, SPEC_TYPE}
use Rattle.source_model.specs.Forest.{Forest, none, leaf, branch, first_token, has, is_among, joined}
use Rattle.source_model.specs.Laws.{ForestsJoin}
use Rattle.source_model.specs.Names.{module_name, type_name}
use Rattle.source_model.specs.Nodes.{Around, entered, nodes_in, typar_names}
use Rattle.source_model.specs.Shapes.{dimensions, is_vector, lower_bounds, sizes}
use Rattle.source_model.specs.Source.{Source}
use Rattle.source_model.specs.TypeRules.{type_too_deep}
use Rattle.source_model.specs.Types.{array, base_type, first_owner, int_type, named_type, owners_in, suffix, suffixed, suffixes, type_of, types_in, variable_number}
use Rattle.source_syntax.proofs.LeastLemmas.{flat_append}
use Rattle.source_syntax.proofs.TypeLemmas.{owners_leaf, owners_none, suffixed_leaf, suffixed_none, type_branch, type_leaf, type_none, types_at, types_leaf, types_none}
use Rattle.check_visitor.specs.Surroundings.{found_in}
use Rattle.check_names.specs.TypeDepths.{base_depth, is_modifier}

-- ---- choices

either : (n : ℕ) (c : Bool) (x y : SigType) → depth x ≡ n → depth y ≡ n → depth (if c then x else y) ≡ n
either n true x y e f = e
either n false x y e f = f

other : (c : Bool) (x y : SigType) → c ≡ false → depth (if c then x else y) ≡ depth y
other c x y e = ap (λ b. depth (if b then x else y)) e

-- ---- layers

prim_depth : (x : Primitive) → depth (Prim x) ≡ 1
prim_depth x = fold-Prim ℕ ℕ owner_depth_step depth_step x

-- ---- bases

named_depth : (value : Bool) (name : TypeName) (args : List SigType) → depth (named_type value name args) ≡ largest (map depth args) + 1
named_depth true name [] = fold-Value ℕ ℕ owner_depth_step depth_step name
named_depth false name [] = fold-Class ℕ ℕ owner_depth_step depth_step name
named_depth value name (t ∷ ts) = fold-Inst ℕ ℕ owner_depth_step depth_step value name (t ∷ ts)

module _ (s : Source) (a : Around) (p : ℕ) (f : Forest) (args : List SigType) where
  -- those that aren't made of other types
  plain_base : (p == TYPE_BASE_CLASS) ≡ false → (p == TYPE_BASE_VALUETYPE) ≡ false → depth (base_type s a p f args) ≡ 1
  plain_base class value =
      let bang = if p == TYPE_BASE_BANG then Var (variable_number s (typar_names s a.class) f) else MVar (variable_number s (typar_names s a.method) f) in
      let values = if p == TYPE_BASE_VALUETYPE then named_type true (type_name s f) args else bang in
      let classes = if p == TYPE_BASE_CLASS then named_type false (type_name s f) args else values in
      let natives = if p == TYPE_BASE_NATIVE then (if has NATIVE_INT_INT f then Prim prim.NInt else Prim prim.NUint) else classes in
      let ints = if p == TYPE_BASE_INT_TYPE then Prim (int_type f) else natives in
      let doubles = if p == TYPE_BASE_FLOAT64 then Prim prim.R8 else ints in
      let floats = if p == TYPE_BASE_FLOAT32 then Prim prim.R4 else doubles in
      let typed = if p == TYPE_BASE_TYPEDREF then Prim prim.TypedRef else floats in
      let objects = if p == TYPE_BASE_OBJECT then Prim prim.Object else typed in
      let strings = if p == TYPE_BASE_STRING then Prim prim.Str else objects in
      let chars = if p == TYPE_BASE_CHAR then Prim prim.Char else strings in
      let bools = if p == TYPE_BASE_BOOL then Prim prim.Bool else chars in
      either 1 (p == TYPE_BASE_VOID) (Prim prim.Void) bools (prim_depth prim.Void)
      (either 1 (p == TYPE_BASE_BOOL) (Prim prim.Bool) chars (prim_depth prim.Bool)
      (either 1 (p == TYPE_BASE_CHAR) (Prim prim.Char) strings (prim_depth prim.Char)
      (either 1 (p == TYPE_BASE_STRING) (Prim prim.Str) objects (prim_depth prim.Str)
      (either 1 (p == TYPE_BASE_OBJECT) (Prim prim.Object) typed (prim_depth prim.Object)
      (either 1 (p == TYPE_BASE_TYPEDREF) (Prim prim.TypedRef) floats (prim_depth prim.TypedRef)
      (either 1 (p == TYPE_BASE_FLOAT32) (Prim prim.R4) doubles (prim_depth prim.R4)
      (either 1 (p == TYPE_BASE_FLOAT64) (Prim prim.R8) ints (prim_depth prim.R8)
      (either 1 (p == TYPE_BASE_INT_TYPE) (Prim (int_type f)) natives (prim_depth (int_type f))
      (either 1 (p == TYPE_BASE_NATIVE) (if has NATIVE_INT_INT f then Prim prim.NInt else Prim prim.NUint) classes
      (either 1 (has NATIVE_INT_INT f) (Prim prim.NInt) (Prim prim.NUint) (prim_depth prim.NInt) (prim_depth prim.NUint))
      (other (p == TYPE_BASE_CLASS) (named_type false (type_name s f) args) values class
      ∙ other (p == TYPE_BASE_VALUETYPE) (named_type true (type_name s f) args) bang value
      ∙ either 1 (p == TYPE_BASE_BANG) (Var (variable_number s (typar_names s a.class) f)) (MVar (variable_number s (typar_names s a.method) f))
      (fold-Var ℕ ℕ owner_depth_step depth_step (variable_number s (typar_names s a.class) f))
      (fold-MVar ℕ ℕ owner_depth_step depth_step (variable_number s (typar_names s a.method) f))))))))))))

  pub base_is : depth (base_type s a p f args) ≡ base_depth p (largest (map depth args))
  base_is = go (p == TYPE_BASE_CLASS) refl (p == TYPE_BASE_VALUETYPE) refl
    where
      go : (c : Bool) → (p == TYPE_BASE_CLASS) ≡ c → (v : Bool) → (p == TYPE_BASE_VALUETYPE) ≡ v → depth (base_type s a p f args) ≡ base_depth p (largest (map depth args))
      go true class v value =
          subst (λ q. depth (base_type s a q f args) ≡ base_depth q (largest (map depth args))) (sym ((Decides-eqb p TYPE_BASE_CLASS).0 class))
          (named_depth false (type_name s f) args)
      go false class true value =
          subst (λ q. depth (base_type s a q f args) ≡ base_depth q (largest (map depth args))) (sym ((Decides-eqb p TYPE_BASE_VALUETYPE).0 value))
          (named_depth true (type_name s f) args)
      go false class false value =
          plain_base class value
          ∙ sym (ap (λ c. if c || (p == TYPE_BASE_VALUETYPE) then largest (map depth args) + 1 else 1) class
          ∙ ap (λ c. if c then largest (map depth args) + 1 else 1) value)

-- ---- suffixes

-- the depth of the owner of a modifier
abbrev pub by_depth : ℕ → List Owner → ℕ
by_depth p by = if is_modifier p then owner_depth (first_owner by) else 0

module _ (s : Source) (p : ℕ) (f : Forest) (by : List Owner) (t : SigType) where
  plain_suffix : (p == TYPE_SUFFIX_MODREQ) ≡ false → (p == TYPE_SUFFIX_MODOPT) ≡ false → depth (suffix s p f by t) ≡ depth t + 1
  plain_suffix req opt =
      let mods = if p == TYPE_SUFFIX_MODOPT then Mod false (first_owner by) t else array s f t in
      let reqs = if p == TYPE_SUFFIX_MODREQ then Mod true (first_owner by) t else mods in
      let pins = if p == TYPE_SUFFIX_PINNED then Pinned t else reqs in
      let stars = if p == TYPE_SUFFIX_STAR then Pointer t else pins in
      let shaped = Array t (length (dimensions f)) (sizes s (dimensions f)) (lower_bounds s (dimensions f)) in
      either (depth t + 1) (p == TYPE_SUFFIX_AMPERSAND) (ByRef t) stars (fold-ByRef ℕ ℕ owner_depth_step depth_step t)
      (either (depth t + 1) (p == TYPE_SUFFIX_STAR) (Pointer t) pins (fold-Pointer ℕ ℕ owner_depth_step depth_step t)
      (either (depth t + 1) (p == TYPE_SUFFIX_PINNED) (Pinned t) reqs (fold-Pinned ℕ ℕ owner_depth_step depth_step t)
      (other (p == TYPE_SUFFIX_MODREQ) (Mod true (first_owner by) t) mods req
      ∙ other (p == TYPE_SUFFIX_MODOPT) (Mod false (first_owner by) t) (array s f t) opt
      ∙ either (depth t + 1) (is_vector f) (SzArray t) shaped (fold-SzArray ℕ ℕ owner_depth_step depth_step t)
      (fold-Array ℕ ℕ owner_depth_step depth_step t (length (dimensions f)) (sizes s (dimensions f)) (lower_bounds s (dimensions f))))))

  pub suffix_is : depth (suffix s p f by t) ≡ max (by_depth p by) (depth t) + 1
  suffix_is = go (p == TYPE_SUFFIX_MODREQ) refl (p == TYPE_SUFFIX_MODOPT) refl
    where
      go : (c : Bool) → (p == TYPE_SUFFIX_MODREQ) ≡ c → (v : Bool) → (p == TYPE_SUFFIX_MODOPT) ≡ v → depth (suffix s p f by t) ≡ max (by_depth p by) (depth t) + 1
      go true req v opt = subst (λ q. depth (suffix s q f by t) ≡ max (by_depth q by) (depth t) + 1) (sym ((Decides-eqb p TYPE_SUFFIX_MODREQ).0 req)) (fold-Mod ℕ ℕ owner_depth_step depth_step true (first_owner by) t)
      go false req true opt = subst (λ q. depth (suffix s q f by t) ≡ max (by_depth q by) (depth t) + 1) (sym ((Decides-eqb p TYPE_SUFFIX_MODOPT).0 opt)) (fold-Mod ℕ ℕ owner_depth_step depth_step false (first_owner by) t)
      go false req false opt =
          let plain : by_depth p by ≡ 0 =
          ap (λ c. if c || (p == TYPE_SUFFIX_MODOPT) then owner_depth (first_owner by) else 0) req ∙ ap (λ c. if c then owner_depth (first_owner by) else 0) opt in
          let same : depth t + 1 ≡ max (by_depth p by) (depth t) + 1 = omega (arith, plain) in
          plain_suffix req opt ∙ same

-- ---- the place doesn't matter

first_or_zero : List ℕ → ℕ
first_or_zero [] = 0
first_or_zero (d ∷ ds) = d

first_depth : (os : List Owner) → owner_depth (first_owner os) ≡ first_or_zero (map owner_depth os)
unfolding first_or_zero
first_depth [] = fold-Name ℕ ℕ owner_depth_step depth_step module_name
first_depth (o ∷ os) = refl

spec_depths : (ts : List SigType) → map owner_depth (map Spec ts) ≡ map depth ts
spec_depths [] = refl
spec_depths (t ∷ ts) =
    ap (λ d. d ∷ map owner_depth (map Spec ts)) (fold-Spec ℕ ℕ owner_depth_step depth_step t) ∙ ap (λ ds. depth t ∷ ds) (spec_depths ts)

module _ (s : Source) where
  pub suffixed_at : (a : Around) (p : ℕ) (b after : Forest) (t : SigType)
      → suffixed s a (branch p b after) t ≡ suffixed s a after (if is_among suffixes p then suffix s p b (owners_in s a b) t else suffixed s a b t)
  unfolding types_in type_of suffixed owners_in
  suffixed_at a p b after t = refl

  abbrev own_owners : Around → ℕ → Forest → List Owner
  own_owners a p b = if p == SPEC_TYPE_NAME then Name (type_name s b) ∷ [] else if p == SPEC_TYPE then map Spec (types_in s a b) else owners_in s a b

  owners_at : (a : Around) (p : ℕ) (b after : Forest) → owners_in s a (branch p b after) ≡ own_owners a p b ++ owners_in s a after
  unfolding types_in type_of suffixed owners_in
  owners_at a p b after = refl

  pub record Same (a b : Around) (f : Forest) : Type 0 where
    pub types : map depth (types_in s a f) ≡ map depth (types_in s b f)
    pub type : depth (type_of s a f) ≡ depth (type_of s b f)
    pub with : (t u : SigType) → depth t ≡ depth u → depth (suffixed s a f t) ≡ depth (suffixed s b f u)
    pub owners : map owner_depth (owners_in s a f) ≡ map owner_depth (owners_in s b f)

  same_branch : (a b : Around) (p : ℕ) (c after : Forest) → Same a b c → Same a b after → Same a b (branch p c after)
  same_branch a b p c after i r = record {
    types =
        ap (map depth) (types_at s a p c after) ∙ map-append depth (own a) (types_in s a after)
        ∙ ap (λ ds. ds ++ map depth (types_in s a after)) (own_types (p == TYPE)) ∙ ap (λ ds. map depth (own b) ++ ds) r.types
        ∙ sym (map-append depth (own b) (types_in s b after)) ∙ sym (ap (map depth) (types_at s b p c after));
    type =
        ap depth (type_branch s a p c after)
        ∙ r.with (base_type s a p c (types_in s a c)) (base_type s b p c (types_in s b c))
        (base_is s a p c (types_in s a c) ∙ ap (λ ds. base_depth p (largest ds)) i.types ∙ sym (base_is s b p c (types_in s b c)))
        ∙ sym (ap depth (type_branch s b p c after));
    with = λ t u e.
        ap depth (suffixed_at a p c after t)
        ∙ r.with (step a t (is_among suffixes p)) (step b u (is_among suffixes p)) (stepped t u e (is_among suffixes p))
        ∙ sym (ap depth (suffixed_at b p c after u));
    owners =
        ap (map owner_depth) (owners_at a p c after) ∙ map-append owner_depth (own_owners a p c) (owners_in s a after)
        ∙ ap (λ ds. ds ++ map owner_depth (owners_in s a after)) (owned (p == SPEC_TYPE_NAME) (p == SPEC_TYPE))
        ∙ ap (λ ds. map owner_depth (own_owners b p c) ++ ds) r.owners
        ∙ sym (map-append owner_depth (own_owners b p c) (owners_in s b after)) ∙ sym (ap (map owner_depth) (owners_at b p c after));
  }
    where
      own : Around → List SigType
      own x = if p == TYPE then type_of s x c ∷ [] else types_in s x c

      own_types : (e : Bool) → map depth (if e then type_of s a c ∷ [] else types_in s a c) ≡ map depth (if e then type_of s b c ∷ [] else types_in s b c)
      own_types true = ap (λ d. d ∷ []) i.type
      own_types false = i.types

      step : Around → SigType → Bool → SigType
      step x t e = if e then suffix s p c (owners_in s x c) t else suffixed s x c t

      stepped : (t u : SigType) → depth t ≡ depth u → (e : Bool) → depth (step a t e) ≡ depth (step b u e)
      stepped t u e true =
          suffix_is s p c (owners_in s a c) t
          ∙ ap (λ d. max (by_depth p (owners_in s a c)) d + 1) e
          ∙ ap (λ d. max (if is_modifier p then d else 0) (depth u) + 1)
          (first_depth (owners_in s a c) ∙ ap first_or_zero i.owners ∙ sym (first_depth (owners_in s b c)))
          ∙ sym (suffix_is s p c (owners_in s b c) u)
      stepped t u e false = i.with t u e

      owned : (n k : Bool)
          → map owner_depth (if n then Name (type_name s c) ∷ [] else if k then map Spec (types_in s a c) else owners_in s a c)
          ≡ map owner_depth (if n then Name (type_name s c) ∷ [] else if k then map Spec (types_in s b c) else owners_in s b c)
      owned true k = refl
      owned false true = spec_depths (types_in s a c) ∙ i.types ∙ sym (spec_depths (types_in s b c))
      owned false false = i.owners

  pub same : (a b : Around) (f : Forest) → Same a b f
  same a b none = record {
    types = ap (map depth) (types_none s a ∙ sym (types_none s b));
    type = ap depth (type_none s a ∙ sym (type_none s b));
    with = λ t u e. ap depth (suffixed_none s a t) ∙ e ∙ sym (ap depth (suffixed_none s b u));
    owners = ap (map owner_depth) (owners_none s a ∙ sym (owners_none s b));
  }
  same a b (leaf k after) =
      let r = same a b after in
      record {
        types = ap (map depth) (types_leaf s a k after) ∙ r.types ∙ sym (ap (map depth) (types_leaf s b k after));
        type = ap depth (type_leaf s a k after ∙ sym (type_leaf s b k after));
        with = λ t u e. ap depth (suffixed_leaf s a k after t) ∙ r.with t u e ∙ sym (ap depth (suffixed_leaf s b k after u));
        owners = ap (map owner_depth) (owners_leaf s a k after) ∙ r.owners ∙ sym (ap (map owner_depth) (owners_leaf s b k after));
      }
  same a b (branch p c after) = same_branch a b p c after (same a b c) (same a b after)

  -- ---- what is found in a forest

  abbrev at_node : Around → ℕ → Forest → List ℕ
  at_node x p b = type_too_deep s (record { production = p; below = b; around = entered s x p b })

  pub found_branch : (a : Around) (p : ℕ) (b f : Forest)
      → found_in type_too_deep s a (branch p b f) ≡ (at_node a p b ++ found_in type_too_deep s (entered s a p b) b) ++ found_in type_too_deep s a f
  found_branch a p b f =
      flat_append (type_too_deep s) (record { production = p; below = b; around = entered s a p b } ∷ nodes_in s (entered s a p b) b) (nodes_in s a f)

  pub found_same : (a b : Around) (f : Forest) → found_in type_too_deep s a f ≡ found_in type_too_deep s b f
  found_same a b none = refl
  found_same a b (leaf k f) = found_same a b f
  found_same a b (branch p c f) =
      let x = entered s a p c in
      let y = entered s b p c in
      found_branch a p c f
      ∙ ap (λ d. ((if (p == TYPE) && nat_lt 100 d then first_token c ∷ [] else []) ++ found_in type_too_deep s x c) ++ found_in type_too_deep s a f) (same x y c).type
      ∙ ap (λ ks. (at_node b p c ++ ks) ++ found_in type_too_deep s a f) (found_same x y c)
      ∙ ap (λ ks. (at_node b p c ++ found_in type_too_deep s y c) ++ ks) (found_same a b f)
      ∙ sym (found_branch b p c f)

  -- at a production that is no type
  pub found_other : (a : Around) (p : ℕ) (b f : Forest) → (p == TYPE) ≡ false
      → found_in type_too_deep s a (branch p b f) ≡ found_in type_too_deep s a b ++ found_in type_too_deep s a f
  found_other a p b f e =
      found_branch a p b f
      ∙ ap (λ c. ((if c && nat_lt 100 (depth (type_of s (entered s a p b) b)) then first_token b ∷ [] else []) ++ found_in type_too_deep s (entered s a p b) b) ++ found_in type_too_deep s a f) e
      ∙ ap (λ ks. ks ++ found_in type_too_deep s a f) (found_same (entered s a p b) a b)

  pub found_into : ForestsJoin → (a : Around) (p : ℕ) (b f : Forest) → (p == TYPE) ≡ false
      → found_in type_too_deep s a (branch p b f) ≡ found_in type_too_deep s a (joined b f)
  found_into joins a p b f e =
      found_other a p b f e ∙ sym (flat_append (type_too_deep s) (nodes_in s a b) (nodes_in s a f))
      ∙ ap (flat_map (type_too_deep s)) (sym (joins.productions s a b f))
