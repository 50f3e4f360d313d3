-- The assembly with shrunk bodies meets the conditions of the one that it comes from.
use Rattle.std.proofs.Common.{◌≡◌, ◌∙◌, ap, refl, ℕ, zero, suc, ◌==◌, ◌&&◌, ◌||◌, Bool, true, false, not, nat_le, List, [], ◌∷◌, length, Option, None, Some, IsTrue, arith}
use Rattle.std.specs.List.{list_all, list_any}
use Rattle.assembly_tree.specs.declared.assembly.Assembly.{Assembly}
use Rattle.assembly_tree.specs.declared.assembly.Manifest.{Manifest}
use Rattle.assembly_tree.specs.declared.body.Body.{Body}
use Rattle.assembly_tree.specs.declared.members.Method.{Method}
use Rattle.assembly_tree.specs.declared.typedef.TypeDef.{TypeDef}
use Rattle.assembly_tree.specs.declared.typedef.TypeDef.TheOpen.{TypeDef-F}
use Rattle.assembly_tree.specs.declared.typedef.TypeDef.TheViews.{out-TypeDef}
use Rattle.assembly_tree.specs.DataSize.{is_id}
use Rattle.assembly_tree.specs.WellFormed.{is_manifest, is_extern, are_classes, are_globals, is_one_entry, is_well_formed}
use Rattle.assembly_tree.specs.WellFormedBodies.{is_body}
use Rattle.assembly_tree.specs.WellFormedMembers.{is_attribute, is_generic, is_param, is_field, is_method_head, is_method, is_property, is_event, is_same_field, is_same_method, is_same_property, is_same_event}
use Rattle.assembly_tree.specs.WellFormedNames.{option_all, all_differ}
use Rattle.assembly_tree.specs.WellFormedTerms.{is_plain_ref}
use Rattle.assembly_tree.specs.WellFormedTypes.{is_head, are_members, has_accessors_of_property, has_accessors_of_event, has_its_accessors, members_differ, is_own, is_same_id, are_types}
use Rattle.il_shrink.specs.ShrunkAll.{IsShrunkBody, IsShrunkMethod, AreShrunkMethods, IsShrunkOwn, AreShrunkTypes, none, more, IsShrunkAll}
use Rattle.il_shrink.proofs.Kept.{body_kept}
use Rattle.il_shrink.proofs.SameConditions as conditions
use Rattle.il_shrink.proofs.Sums.{entries_same}
use Rattle.il_shrink.proofs.Twins.{SameNames, same_names}

-- ---- methods

and_first : (a b : Bool) → IsTrue (a && b) → IsTrue a
and_first a b h = grind arith

and_second : (a b : Bool) → IsTrue (a && b) → IsTrue b
and_second a b h = grind arith

and_both : (a b : Bool) → IsTrue a → IsTrue b → IsTrue (a && b)
and_both a b h j = grind arith

fifth : (h g p o b t : Bool) → IsTrue (h && g && p && o && b && t) → IsTrue b
fifth h g p o b t all = grind arith

fifth_new : (h g p o b t n : Bool) → IsTrue (h && g && p && o && b && t) → IsTrue n → IsTrue (h && g && p && o && n && t)
fifth_new h g p o b t n all new = grind arith

body_formed : (a : Assembly) (p q : Option Body) → IsShrunkBody p q → IsTrue (option_all (is_body a) p) → IsTrue (option_all (is_body a) q)
body_formed a None None h formed = refl
body_formed a None (Some c) h formed = absurd h
body_formed a (Some b) None h formed = absurd h
body_formed a (Some b) (Some c) h formed = body_kept a b c h formed

method_with : (a : Assembly) (m : Method) (q : Option Body) → IsShrunkBody m.body q → IsTrue (is_method a m) → IsTrue (is_method a (record m { body = q }))
unfolding is_method is_method_head
method_with a m q h formed =
    fifth_new (is_method_head a m) (list_all (is_generic a) m.generics) (list_all (is_param a) m.params) (list_all (is_plain_ref a) m.overrides)
    (option_all (is_body a) m.body) (list_all (is_attribute a) m.attributes) (option_all (is_body a) q) formed
    (body_formed a m.body q h (fifth (is_method_head a m) (list_all (is_generic a) m.generics) (list_all (is_param a) m.params)
    (list_all (is_plain_ref a) m.overrides) (option_all (is_body a) m.body) (list_all (is_attribute a) m.attributes) formed))

methods_formed : (a : Assembly) (ms ns : List Method) → AreShrunkMethods ms ns → IsTrue (list_all (is_method a) ms) → IsTrue (list_all (is_method a) ns)
methods_formed a [] [] h formed = refl
methods_formed a [] (n ∷ ns) h formed = absurd h
methods_formed a (m ∷ ms) [] h formed = absurd h
methods_formed a (m ∷ ms) (n ∷ ns) h formed =
    let first : IsTrue (is_method a n) =
    ap (is_method a) h.0.same ∙ method_with a m n.body h.0.body (and_first (is_method a m) (list_all (is_method a) ms) formed) in
    and_both (is_method a n) (list_all (is_method a) ns) first (methods_formed a ms ns h.1 (and_second (is_method a m) (list_all (is_method a) ms) formed))

methods_length : (ms ns : List Method) → AreShrunkMethods ms ns → length ns ≡ length ms
methods_length [] [] h = refl
methods_length [] (n ∷ ns) h = absurd h
methods_length (m ∷ ms) [] h = absurd h
methods_length (m ∷ ms) (n ∷ ns) h = ap suc (methods_length ms ns h.1)

same_with : (m n : Method) (p q : Option Body) → is_same_method (record m { body = p }) (record n { body = q }) ≡ is_same_method m n
unfolding is_same_method
same_with m n p q = refl

same_pair : (m n x y : Method) → IsShrunkMethod m n → IsShrunkMethod x y → is_same_method n y ≡ is_same_method m x
same_pair m n x y h g = ap (λ z. is_same_method z y) h.same ∙ ap (is_same_method (record m { body = n.body })) g.same ∙ same_with m x n.body y.body

any_same : (m n : Method) (xs ys : List Method) → IsShrunkMethod m n → AreShrunkMethods xs ys → list_any (is_same_method n) ys ≡ list_any (is_same_method m) xs
any_same m n [] [] h g = refl
any_same m n [] (y ∷ ys) h g = absurd g
any_same m n (x ∷ xs) [] h g = absurd g
any_same m n (x ∷ xs) (y ∷ ys) h g =
    ap (λ b. b || list_any (is_same_method n) ys) (same_pair m n x y h g.0) ∙ ap (λ b. is_same_method m x || b) (any_same m n xs ys h g.1)

methods_differ : (ms ns : List Method) → AreShrunkMethods ms ns → all_differ is_same_method ns ≡ all_differ is_same_method ms
methods_differ [] [] h = refl
methods_differ [] (n ∷ ns) h = absurd h
methods_differ (m ∷ ms) [] h = absurd h
methods_differ (m ∷ ms) (n ∷ ns) h =
    ap (λ b. not b && all_differ is_same_method ns) (any_same m n ms ns h.0 h.1)
    ∙ ap (λ b. not (list_any (is_same_method m) ms) && b) (methods_differ ms ns h.1)

-- ---- types

their_methods : (h f m p e x d : Bool) → IsTrue (h && (f && m && p && e) && x && d) → IsTrue m
their_methods h f m p e x d all = grind arith

new_methods : (h f m p e x d n : Bool) → IsTrue (h && (f && m && p && e) && x && d) → IsTrue n → IsTrue (h && (f && n && p && e) && x && d)
new_methods h f m p e x d n all new = grind arith

module _ (a : Assembly) where
  own_with : (top : Bool) (t : TypeDef-F TypeDef) (ms : List Method) (us : List TypeDef) → AreShrunkMethods t.methods ms → IsTrue (is_own a top t) →
      IsTrue (is_own a top (record t { methods = ms; nested = us }))
  unfolding is_own is_head are_members has_its_accessors members_differ
  own_with top t ms us h formed =
      let fields = list_all (is_field a) t.fields in
      let methods = list_all (is_method a) t.methods in
      let properties = list_all (is_property a) t.properties in
      let events = list_all (is_event a) t.events in
      let accessors : ℕ → Bool = λ n. list_all (has_accessors_of_property n) t.properties && list_all (has_accessors_of_event n) t.events in
      let differ : Bool → Bool = λ b.
      all_differ is_same_field t.fields && b && all_differ is_same_property t.properties && all_differ is_same_event t.events in
      let new : IsTrue (list_all (is_method a) ms) =
      methods_formed a t.methods ms h
      (their_methods (is_head a top t) fields methods properties events (accessors (length t.methods)) (differ (all_differ is_same_method t.methods)) formed) in
      let made : IsTrue (is_head a top t && (fields && list_all (is_method a) ms && properties && events) && accessors (length t.methods) && differ (all_differ is_same_method t.methods)) =
      new_methods (is_head a top t) fields methods properties events (accessors (length t.methods)) (differ (all_differ is_same_method t.methods))
      (list_all (is_method a) ms) formed new in
      ap (λ n. is_head a top t && (fields && list_all (is_method a) ms && properties && events) && accessors n && differ (all_differ is_same_method ms))
      (methods_length t.methods ms h)
      ∙ ap (λ b. is_head a top t && (fields && list_all (is_method a) ms && properties && events) && accessors (length t.methods) && differ b)
      (methods_differ t.methods ms h)
      ∙ made

  own_formed : (top : Bool) (t u : TypeDef-F TypeDef) → IsShrunkOwn t u → IsTrue (is_own a top t) → IsTrue (is_own a top u)
  own_formed top t u h formed = ap (is_own a top) h.same ∙ own_with top t u.methods u.nested h.methods formed

same_ids : (t u v w : TypeDef) → IsShrunkOwn (out-TypeDef t) (out-TypeDef u) → IsShrunkOwn (out-TypeDef v) (out-TypeDef w) → is_same_id u w ≡ is_same_id t v
same_ids t u v w h g = ap (λ x. is_id x.id (out-TypeDef w).id) h.same ∙ ap (λ x. is_id (out-TypeDef t).id x.id) g.same

any_id : (t u : TypeDef) → IsShrunkOwn (out-TypeDef t) (out-TypeDef u) → {ts us : List TypeDef} → AreShrunkTypes ts us →
    list_any (is_same_id u) us ≡ list_any (is_same_id t) ts
any_id t u h none = refl
any_id t u h (more {t = v} {u = w} {ts} {us} own nested rest) =
    ap (λ b. b || list_any (is_same_id u) us) (same_ids t u v w h own) ∙ ap (λ b. is_same_id t v || b) (any_id t u h rest)

ids_differ : {ts us : List TypeDef} → AreShrunkTypes ts us → all_differ is_same_id us ≡ all_differ is_same_id ts
ids_differ none = refl
ids_differ (more {t} {u} {ts} {us} own nested rest) =
    ap (λ b. not b && all_differ is_same_id us) (any_id t u own rest) ∙ ap (λ b. not (list_any (is_same_id t) ts) && b) (ids_differ rest)

types_length : {ts us : List TypeDef} → AreShrunkTypes ts us → length us ≡ length ts
types_length none = refl
types_length (more own nested rest) = ap suc (types_length rest)

module _ (a : Assembly) where
  abbrev fine : Bool → ℕ → TypeDef → Bool
  fine top levels t = is_own a top (out-TypeDef t) && are_types a false levels (out-TypeDef t).nested

  types_fine : {ts us : List TypeDef} → AreShrunkTypes ts us → (top : Bool) (levels : ℕ) → IsTrue (list_all (fine top levels) ts) →
      IsTrue (list_all (fine top levels) us)
  unfolding are_types
  types_fine none top levels h = refl
  types_fine (more {t} {u} {ts} {us} own nested rest) top zero h =
      let here = and_first (fine top zero t) (list_all (fine top zero) ts) h in
      let owns = own_formed a top (out-TypeDef t) (out-TypeDef u) own (and_first (is_own a top (out-TypeDef t)) (are_types a false zero (out-TypeDef t).nested) here) in
      let within : IsTrue (are_types a false zero (out-TypeDef u).nested) =
      ap (λ n. n == 0) (types_length nested) ∙ and_second (is_own a top (out-TypeDef t)) (are_types a false zero (out-TypeDef t).nested) here in
      and_both (fine top zero u) (list_all (fine top zero) us)
      (and_both (is_own a top (out-TypeDef u)) (are_types a false zero (out-TypeDef u).nested) owns within)
      (types_fine rest top zero (and_second (fine top zero t) (list_all (fine top zero) ts) h))
  types_fine (more {t} {u} {ts} {us} own nested rest) top (suc levels) h =
      let here = and_first (fine top (suc levels) t) (list_all (fine top (suc levels)) ts) h in
      let owns = own_formed a top (out-TypeDef t) (out-TypeDef u) own (and_first (is_own a top (out-TypeDef t)) (are_types a false (suc levels) (out-TypeDef t).nested) here) in
      let inner : IsTrue (all_differ is_same_id (out-TypeDef t).nested && list_all (fine false levels) (out-TypeDef t).nested) =
      and_second (is_own a top (out-TypeDef t)) (are_types a false (suc levels) (out-TypeDef t).nested) here in
      let differ : IsTrue (all_differ is_same_id (out-TypeDef u).nested) =
      ids_differ nested ∙ and_first (all_differ is_same_id (out-TypeDef t).nested) (list_all (fine false levels) (out-TypeDef t).nested) inner in
      let each : IsTrue (list_all (fine false levels) (out-TypeDef u).nested) =
      types_fine nested false levels (and_second (all_differ is_same_id (out-TypeDef t).nested) (list_all (fine false levels) (out-TypeDef t).nested) inner) in
      and_both (fine top (suc levels) u) (list_all (fine top (suc levels)) us)
      (and_both (is_own a top (out-TypeDef u)) (are_types a false (suc levels) (out-TypeDef u).nested) owns
      (and_both (all_differ is_same_id (out-TypeDef u).nested) (list_all (fine false levels) (out-TypeDef u).nested) differ each))
      (types_fine rest top (suc levels) (and_second (fine top (suc levels) t) (list_all (fine top (suc levels)) ts) h))

  types_formed : {ts us : List TypeDef} → AreShrunkTypes ts us → (levels : ℕ) → IsTrue (are_types a true (suc levels) ts) → IsTrue (are_types a true (suc levels) us)
  unfolding are_types
  types_formed {ts} {us} h levels formed =
      and_both (all_differ is_same_id us) (list_all (fine true levels) us)
      (ids_differ h ∙ and_first (all_differ is_same_id ts) (list_all (fine true levels) ts) formed)
      (types_fine h true levels (and_second (all_differ is_same_id ts) (list_all (fine true levels) ts) formed))

  hundred : {ts us : List TypeDef} → AreShrunkTypes ts us → (n : ℕ) → n ≡ 100 → IsTrue (are_types a true n ts) → IsTrue (are_types a true n us)
  hundred h zero e formed = absurd (omega arith)
  hundred h (suc levels) e formed = types_formed h levels formed

-- ---- the assembly

record Parts (m x t f s d e n : Bool) : Type 0 where
  manifest : IsTrue m
  externs : IsTrue x
  types : IsTrue t
  fields : IsTrue f
  methods : IsTrue s
  fields_differ : IsTrue d
  methods_differ : IsTrue e
  entry : IsTrue n

apart : (m x t f s d e n : Bool) → IsTrue (m && x && t && (f && s && d && e) && n) → Parts m x t f s d e n
apart m x t f s d e n h =
    record { manifest = grind arith; externs = grind arith; types = grind arith; fields = grind arith; methods = grind arith; fields_differ = grind arith; methods_differ = grind arith; entry = grind arith }

together : (m x t f s d e n : Bool) → IsTrue m → IsTrue x → IsTrue t → IsTrue f → IsTrue s → IsTrue d → IsTrue e → IsTrue n → IsTrue (m && x && t && (f && s && d && e) && n)
together m x t f s d e n h1 h2 h3 h4 h5 h6 h7 h8 = grind arith

pub assembly_formed : (a c : Assembly) → IsShrunkAll a c → IsTrue (is_well_formed a) → IsTrue (is_well_formed c)
unfolding is_well_formed are_globals
assembly_formed a c h formed =
    let same : SameNames a c = same_names a c h in
    let parts =
    apart (is_manifest a a.manifest) (list_all is_extern a.externs) (are_classes a) (list_all (is_field a) a.fields) (list_all (is_method a) a.methods)
    (all_differ is_same_field a.fields) (all_differ is_same_method a.methods) (is_one_entry a) formed in
    together (is_manifest c c.manifest) (list_all is_extern c.externs) (are_classes c) (list_all (is_field c) c.fields) (list_all (is_method c) c.methods)
    (all_differ is_same_field c.fields) (all_differ is_same_method c.methods) (is_one_entry c)
    (ap (is_manifest c) (ap (λ x. x.manifest) h.same) ∙ ap (λ (f : Manifest → Bool). f a.manifest) (conditions.manifests a c same) ∙ parts.manifest)
    (ap (λ x. list_all is_extern x.externs) h.same ∙ parts.externs)
    (ap (λ (f : List TypeDef → Bool). f c.types) (conditions.types_at a c same true 100) ∙ hundred a h.types 100 refl parts.types)
    (ap (λ x. list_all (is_field c) x.fields) h.same ∙ ap (λ f. list_all f a.fields) (conditions.fields a c same) ∙ parts.fields)
    (ap (λ f. list_all f c.methods) (conditions.methods a c same) ∙ methods_formed a a.methods c.methods h.methods parts.methods)
    (ap (λ x. all_differ is_same_field x.fields) h.same ∙ parts.fields_differ)
    (methods_differ a.methods c.methods h.methods ∙ parts.methods_differ)
    (ap (λ n. nat_le n 1) (entries_same a c h) ∙ parts.entry)
