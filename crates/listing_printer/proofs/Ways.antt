-- Where places lead to, step by step.
use Rattle.std.proofs.Common.{◌≡◌, ℕ, zero, suc, ◌+◌, ◌<◌, nat_eq, true, false, List, [], ◌∷◌, ◌++◌, length, drop, get_or, Option, None, Some, refl, ap, sym, ◌∙◌, arith}
use Rattle.std.proofs.lemmas.Bool.{eqb-true}
use Rattle.std.specs.Prelude.{slice_get, is_some, option_map, option_and_then}
use Rattle.type_terms.specs.declared.name.TypeId.{TypeId}
use Rattle.assembly_tree.specs.declared.assembly.Assembly.{Assembly}
use Rattle.assembly_tree.specs.declared.members.Method.{Method}
use Rattle.assembly_tree.specs.declared.typedef.MethodPath.{MethodPath}
use Rattle.assembly_tree.specs.declared.typedef.TypeDef.{TypeDef}
use Rattle.assembly_tree.specs.declared.typedef.TypeDef.TheViews.{out-TypeDef}
use Rattle.listing_model.specs.Canon.{Placed, inwards, methods_at, module_path, reference_at, reference_line}
use Rattle.listing_model.specs.Members.{own_reference}
use Rattle.print_members.proofs.Steps.{drop_at}
use Rattle.listing_printer.specs.Ways.{onward}

then_same : {X Y : Type 0} (f g : X → Option Y) → ((x : X) → f x ≡ g x) → (o : Option X) → option_and_then f o ≡ option_and_then g o
then_same f g e None = refl
then_same f g e (Some x) = e x

inwards_is : (ks : List ℕ) (t : TypeDef) (outer : List TypeId) →
    inwards t ks outer ≡ onward (out-TypeDef t).nested (out-TypeDef t).methods (outer ++ (out-TypeDef t).id ∷ []) ks
inwards_is [] t outer = refl
inwards_is (k ∷ ks) t outer =
    then_same (λ u. inwards u ks (outer ++ (out-TypeDef t).id ∷ []))
    (λ u. onward (out-TypeDef u).nested (out-TypeDef u).methods ((outer ++ (out-TypeDef t).id ∷ []) ++ (out-TypeDef u).id ∷ []) ks)
    (λ u. inwards_is ks u (outer ++ (out-TypeDef t).id ∷ [])) (slice_get (out-TypeDef t).nested k)

-- places that lead further than to `<Module>`
pub walked : (a : Assembly) (ks : List ℕ) (types : List TypeDef) (methods : List Method) → nat_eq (length ks) 0 ≡ false → types ≡ a.types →
    methods_at a ks ≡ onward types methods [] ks
walked a [] types methods some et = absurd cc
walked a (k ∷ ks) types methods some et =
    then_same (λ t. inwards t ks []) (λ t. onward (out-TypeDef t).nested (out-TypeDef t).methods ((out-TypeDef t).id ∷ []) ks) (λ t. inwards_is ks t [])
    (slice_get a.types k)
    ∙ ap (λ ts. onward ts methods [] (k ∷ ks)) (sym et)

-- ---- what is there

got : {X : Type 0} (xs : List X) (k : ℕ) (x : X) → k < length xs → x ≡ get_or xs k x → slice_get xs k ≡ Some x
got [] k x h e = absurd (omega arith)
got (y ∷ ys) zero x h e = ap Some (sym e)
got (y ∷ ys) (suc k) x h e = got ys k x (omega arith) e

first_there : {X Y : Type 0} (o : Option X) (f : X → Option Y) → is_some (option_and_then f o) ≡ true → is_some o ≡ true
first_there None f h = h
first_there (Some x) f h = refl

second_there : (ms : List Method) (k : ℕ) (path : List TypeId) → is_some (option_map (own_reference path) (slice_get ms k)) ≡ true → k < length ms
second_there [] k path h = absurd cc
second_there (m ∷ ms) zero path h = omega arith
second_there (m ∷ ms) (suc k) path h = let less = second_there ms k path h in omega arith

-- ---- a place further

within_by : {Y : Type 0} (f : TypeDef → Option Y) (types : List TypeDef) (k : ℕ) → is_some (option_and_then f (slice_get types k)) ≡ true → k < length types
within_by f [] k h = absurd cc
within_by f (t ∷ ts) zero h = omega arith
within_by f (t ∷ ts) (suc k) h = let less = within_by f ts k h in omega arith

module _ (goal : Option Placed) (some : is_some goal ≡ true) (types : List TypeDef) (methods : List Method) (path : List TypeId) where
  pub is_within : (ks : List ℕ) (i k : ℕ) → i < length ks → k ≡ get_or ks i k → onward types methods path (drop i ks) ≡ goal → k < length types
  is_within ks i k h e so =
      within_by (λ t. onward (out-TypeDef t).nested (out-TypeDef t).methods (path ++ (out-TypeDef t).id ∷ []) (drop (i + 1) ks)) types k
      (ap is_some (sym (ap (onward types methods path) (drop_at ks i k h e)) ∙ so) ∙ some)

  pub further : (ks : List ℕ) (i k : ℕ) (t : TypeDef) (inner : List TypeDef) (found : List Method) (new : List TypeId) → i < length ks → k ≡ get_or ks i k →
      k < length types → t ≡ get_or types k t → inner ≡ (out-TypeDef t).nested → found ≡ (out-TypeDef t).methods → new ≡ path ++ (out-TypeDef t).id ∷ [] →
      onward types methods path (drop i ks) ≡ goal → onward inner found new (drop (i + 1) ks) ≡ goal
  further ks i k t inner found new h e less et en em ep so =
      let rest = drop (i + 1) ks in
      ap (λ ts. onward ts found new rest) en
      ∙ (ap (λ ms. onward (out-TypeDef t).nested ms new rest) em
      ∙ (ap (λ p. onward (out-TypeDef t).nested (out-TypeDef t).methods p rest) ep
      ∙ (sym (ap (onward types methods path) (drop_at ks i k h e)
      ∙ ap (option_and_then (λ u. onward (out-TypeDef u).nested (out-TypeDef u).methods (path ++ (out-TypeDef u).id ∷ []) rest)) (got types k t less et))
      ∙ so)))

-- ---- the method

pub types_there : (a : Assembly) (at : MethodPath) → is_some (reference_at a at) ≡ true → is_some (methods_at a at.types) ≡ true
unfolding reference_at
types_there a at h = first_there (methods_at a at.types) (λ p. option_map (own_reference p.path) (slice_get p.methods at.method)) h

pub method_there : (a : Assembly) (at : MethodPath) (path : List TypeId) (ms : List Method) → methods_at a at.types ≡ Some (record { path = path; methods = ms }) →
    is_some (reference_at a at) ≡ true → at.method < length ms
unfolding reference_at
method_there a at path ms e h =
    second_there ms at.method path
    (ap (λ o. is_some (option_and_then (λ (p : Placed). option_map (own_reference p.path) (slice_get p.methods at.method)) o)) (sym e) ∙ h)

pub method_is : (a : Assembly) (at : MethodPath) (path path' : List TypeId) (ms : List Method) (m : Method) (line : List ℕ) →
    methods_at a at.types ≡ Some (record { path = path; methods = ms }) → at.method < length ms → m ≡ get_or ms at.method m → path' ≡ path →
    line ≡ reference_line a (own_reference path' m) → option_map (reference_line a) (reference_at a at) ≡ Some line
unfolding reference_at
method_is a at path path' ms m line e less em ep hl =
    ap (λ o. option_map (reference_line a) (option_and_then (λ (p : Placed). option_map (own_reference p.path) (slice_get p.methods at.method)) o)) e
    ∙ (ap (λ o. option_map (reference_line a) (option_map (own_reference path) o)) (got ms at.method m less em)
    ∙ ap Some (ap (λ p. reference_line a (own_reference p m)) (sym ep) ∙ sym hl))

-- the methods of `<Module>`
pub module_found : (a : Assembly) (ks : List ℕ) (path : List TypeId) (ms : List Method) → nat_eq (length ks) 0 ≡ true → path ≡ module_path → ms ≡ a.methods →
    methods_at a ks ≡ Some (record { path = path; methods = ms })
module_found a [] path ms none ep em =
    ap (λ (p : List TypeId). Some (record { path = p; methods = a.methods })) (sym ep) ∙ ap (λ (xs : List Method). Some (record { path = path; methods = xs })) (sym em)
module_found a (k ∷ ks) path ms none ep em = let e = eqb-true (length (k ∷ ks)) 0 none in absurd (omega arith)

-- an item within a list is the same whatever stands for one behind it
pub item_any : {X : Type 0} (xs : List X) (k : ℕ) (d e : X) → k < length xs → get_or xs k d ≡ get_or xs k e
item_any [] k d e h = absurd (omega arith)
item_any (x ∷ xs) zero d e h = refl
item_any (x ∷ xs) (suc k) d e h = item_any xs k d e (omega arith)
