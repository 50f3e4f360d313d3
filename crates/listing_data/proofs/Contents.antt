-- The data of fields are bytes, and no more than the assembly weighs.
use Rattle.std.proofs.Common.{◌≡◌, ℕ, zero, suc, ◌+◌, ◌≤◌, ◌<◌, ◌^◌, ◌&&◌, Bool, true, false, List, [], ◌∷◌, ◌++◌, map, length, length-append, Option, None, Some, refl, ap, sym, subst, ◌∙◌, arith}
use Rattle.std.proofs.lemmas.Bool.{and_parts, eqb-true}
use Rattle.std.proofs.lemmas.List.Sums.{sum_by-cons, sum-map}
use Rattle.std.specs.List.{list_all}
use Rattle.std.specs.Prelude.{sum_by}
use Rattle.assembly_tree.specs.Weight.{field_weight, own_weight, typedef_step, typedef_weight, weight_of}
use Rattle.assembly_tree.specs.WellFormedNames.{option_all}
use Rattle.assembly_tree.specs.WellFormedTypes.{is_own, are_types}
use Rattle.assembly_tree.specs.declared.assembly.Assembly.{Assembly}
use Rattle.assembly_tree.specs.declared.members.Field.{Field}
use Rattle.assembly_tree.specs.declared.typedef.TypeDef.{TypeDef}
use Rattle.assembly_tree.specs.declared.typedef.TypeDef.TheFolds.{fold_out-TypeDef}
use Rattle.assembly_tree.specs.declared.typedef.TypeDef.TheOpen.{TypeDef-F}
use Rattle.assembly_tree.specs.declared.typedef.TypeDef.TheViews.{out-TypeDef}
use Rattle.assembly_tree.proofs.FormedFacts.{assemblies_named}
use Rattle.source_model.specs.Source.{Source}
use Rattle.listing_declarations.specs.Laws.{IsListingOf}
use Rattle.listing_growth.specs.Held.{are_bytes, is_field_held, is_own_held, typedef_holds, is_typedef_held, is_held}
use Rattle.listing_model.specs.Canon.{classes, contents}
use Rattle.listing_model.specs.Classes.{ClassShown, all_contents, class_step, class}
use Rattle.listing_model.specs.Members.{contents_then, field_contents}
use Rattle.listing_data.specs.Laws.{TypesStand, ContentsAreHeld}

both : (x y : Bool) → x ≡ true → y ≡ true → (x && y) ≡ true
both true y h k = k
both false y h k = h

-- ---- how many

held_one : (content : Option (List ℕ)) (rest : List (List ℕ)) → length (contents_then content rest) ≤ 1 + length rest
held_one None rest = omega arith
held_one (Some bytes) rest = omega arith

fields_light : (fs : List Field) → length (field_contents fs) ≤ sum_by field_weight fs
unfolding field_weight
fields_light [] = omega arith
fields_light (f ∷ fs) =
    let rest = fields_light fs in
    let one = held_one f.content (field_contents fs) in
    let all = sum_by-cons field_weight f fs in
    omega arith

pub weight_out : (t : TypeDef) → typedef_weight t ≡ own_weight (out-TypeDef t) + sum_by typedef_weight (out-TypeDef t).nested
unfolding own_weight
weight_out t = fold_out-TypeDef ℕ typedef_step t ∙ ap (λ s. own_weight (out-TypeDef t) + s) (sum-map typedef_weight (out-TypeDef t).nested)

-- ---- bytes

all_append : (xs ys : List (List ℕ)) → list_all are_bytes xs ≡ true → list_all are_bytes ys ≡ true → list_all are_bytes (xs ++ ys) ≡ true
all_append [] ys h k = k
all_append (x ∷ xs) ys h k =
    let hs = and_parts (are_bytes x) (list_all are_bytes xs) h in both (are_bytes x) (list_all are_bytes (xs ++ ys)) hs.0 (all_append xs ys hs.1 k)

then_bytes : (content : Option (List ℕ)) (rest : List (List ℕ)) → option_all are_bytes content ≡ true → list_all are_bytes rest ≡ true → list_all are_bytes (contents_then content rest) ≡ true
then_bytes None rest h k = k
then_bytes (Some bytes) rest h k = both (are_bytes bytes) (list_all are_bytes rest) h k

field_bytes : (fs : List Field) → list_all is_field_held fs ≡ true → list_all are_bytes (field_contents fs) ≡ true
unfolding is_field_held
field_bytes [] h = refl
field_bytes (f ∷ fs) h =
    let hs = and_parts (is_field_held f) (list_all is_field_held fs) h in
    let own = and_parts _ _ (and_parts _ _ hs.0).0 in
    then_bytes f.content (field_contents fs) own.1 (field_bytes fs hs.1)

all_held : (ts : List TypeDef) → list_all (λ ok. ok) (map is_typedef_held ts) ≡ true → list_all is_typedef_held ts ≡ true
all_held [] h = refl
all_held (t ∷ ts) h =
    let hs = and_parts (is_typedef_held t) (list_all (λ ok. ok) (map is_typedef_held ts)) h in
    both (is_typedef_held t) (list_all is_typedef_held ts) hs.0 (all_held ts hs.1)

held_out : (t : TypeDef) → is_typedef_held t ≡ true → (is_own_held (out-TypeDef t) ≡ true) × (list_all is_typedef_held (out-TypeDef t).nested ≡ true)
unfolding is_typedef_held is_own_held
held_out t h =
    let hs = and_parts _ _ (sym (fold_out-TypeDef Bool typedef_holds t) ∙ h) in (hs.0, all_held (out-TypeDef t).nested hs.1)

fields_of : (t : TypeDef-F TypeDef) → is_own_held t ≡ true → list_all is_field_held t.fields ≡ true
unfolding is_own_held
fields_of t h =
    let h9 = and_parts _ _ h in
    let h8 = and_parts _ _ h9.0 in
    let h7 = and_parts _ _ h8.0 in
    let h6 = and_parts _ _ h7.0 in
    let h5 = and_parts _ _ h6.0 in
    h5.1

-- ---- of types

module _ (a : Assembly) where
  abbrev pub its_contents : List TypeDef → List (List ℕ)
  its_contents ts = all_contents (map (class a.externs) ts)

  pub contents_out : (t : TypeDef) → (class a.externs t).contents ≡ field_contents (out-TypeDef t).fields ++ its_contents (out-TypeDef t).nested
  unfolding class
  contents_out t = ap (λ (c : ClassShown). c.contents) (fold_out-TypeDef ClassShown (class_step a.externs) t)

  abbrev pub Passes : Bool → ℕ → TypeDef → Bool
  Passes top depth t = is_own a top (out-TypeDef t) && are_types a false depth (out-TypeDef t).nested

  types_light : (depth : ℕ) (top : Bool) (ts : List TypeDef) → are_types a top depth ts ≡ true → length (its_contents ts) ≤ sum_by typedef_weight ts
  unfolding are_types own_weight
  types_light zero top [] m = omega arith
  types_light zero top (t ∷ ts) m = let none = eqb-true (suc (length ts)) 0 m in absurd (omega arith)
  types_light (suc depth) top ts m = go (λ us n. types_light depth false us n) ts (and_parts _ _ m).1
    where
      go : ((us : List TypeDef) → are_types a false depth us ≡ true → length (its_contents us) ≤ sum_by typedef_weight us) → (us : List TypeDef) → list_all (Passes top depth) us ≡ true →
          length (its_contents us) ≤ sum_by typedef_weight us
      go deeper [] mm = omega arith
      go deeper (t ∷ us) mm =
          let ms = and_parts (Passes top depth t) (list_all (Passes top depth) us) mm in
          let own = and_parts (is_own a top (out-TypeDef t)) (are_types a false depth (out-TypeDef t).nested) ms.0 in
          let inner = deeper (out-TypeDef t).nested own.1 in
          let fields = fields_light (out-TypeDef t).fields in
          let is = ap (λ xs. length xs) (contents_out t) in
          let split = length-append (field_contents (out-TypeDef t).fields) (its_contents (out-TypeDef t).nested) in
          let joined = length-append (class a.externs t).contents (its_contents us) in
          let parts = weight_out t in
          let all = sum_by-cons typedef_weight t us in
          let rest = go deeper us ms.1 in
          omega arith

  types_bytes : (depth : ℕ) (top : Bool) (ts : List TypeDef) → are_types a top depth ts ≡ true → list_all is_typedef_held ts ≡ true → list_all are_bytes (its_contents ts) ≡ true
  unfolding are_types
  types_bytes zero top [] m h = refl
  types_bytes zero top (t ∷ ts) m h = let none = eqb-true (suc (length ts)) 0 m in absurd (omega arith)
  types_bytes (suc depth) top ts m h = go (λ us n k. types_bytes depth false us n k) ts (and_parts _ _ m).1 h
    where
      go : ((us : List TypeDef) → are_types a false depth us ≡ true → list_all is_typedef_held us ≡ true → list_all are_bytes (its_contents us) ≡ true) → (us : List TypeDef) →
          list_all (Passes top depth) us ≡ true → list_all is_typedef_held us ≡ true → list_all are_bytes (its_contents us) ≡ true
      go deeper [] mm hh = refl
      go deeper (t ∷ us) mm hh =
          let ms = and_parts (Passes top depth t) (list_all (Passes top depth) us) mm in
          let own = and_parts (is_own a top (out-TypeDef t)) (are_types a false depth (out-TypeDef t).nested) ms.0 in
          let hs = and_parts (is_typedef_held t) (list_all is_typedef_held us) hh in
          let out = held_out t hs.0 in
          let its =
          all_append (field_contents (out-TypeDef t).fields) (its_contents (out-TypeDef t).nested) (field_bytes (out-TypeDef t).fields (fields_of (out-TypeDef t) out.0))
          (deeper (out-TypeDef t).nested own.1 out.1) in
          all_append (class a.externs t).contents (its_contents us) (subst (λ xs. list_all are_bytes xs ≡ true) (sym (contents_out t)) its) (go deeper us ms.1 hs.1)

-- ---- the whole

pub types_stand : TypesStand
unfolding is_held weight_of
types_stand s a listed =
    let wf = (assemblies_named a).0 listed.formed in
    let h4 = and_parts _ _ listed.held in
    let light = listed.light in
    record {
      formed = wf.classes;
      held = h4.1;
      light = omega arith;
      named = refl;
      short = omega arith;
      outermost = λ e. refl;
      leads = λ id more. refl;
    }

module _ (s : Source) (a : Assembly) (listed : IsListingOf s a) where
  few : length (contents a) < 2 ^ 128
  unfolding weight_of
  few =
      let wf = (assemblies_named a).0 listed.formed in
      let light = listed.light in
      let types = types_light a 100 true a.types wf.classes in
      let fields = fields_light a.fields in
      let joined = length-append (all_contents (classes a)) (field_contents a.fields) in
      omega arith

  bytes : list_all are_bytes (contents a) ≡ true
  unfolding is_held
  bytes =
      let wf = (assemblies_named a).0 listed.formed in
      let h4 = and_parts _ _ listed.held in
      let h3 = and_parts _ _ h4.0 in
      let h2 = and_parts _ _ h3.0 in
      all_append (all_contents (classes a)) (field_contents a.fields) (types_bytes a 100 true a.types wf.classes h4.1) (field_bytes a.fields h2.1)

pub contents_are_held : ContentsAreHeld
contents_are_held = record { few = few; bytes = bytes }
