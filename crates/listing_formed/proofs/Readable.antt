-- What is well formed and held can be read back, and can be written.
use Rattle.std.proofs.Common.{◌≡◌, ℕ, zero, suc, ◌<◌, ◌^◌, arith, ◌&&◌, nat_lt, Bool, true, false, cond, List, [], ◌∷◌, map, length, slice_get, Option, None, Some, refl, sym, ◌∙◌}
use Rattle.std.proofs.lemmas.Bool.{and_parts, ltb-true}
use Rattle.std.proofs.lemmas.Fmt.{decimal_is_IsNumeral_wide}
use Rattle.std.specs.Char as char
use Rattle.std.specs.Fmt.{decimal}
use Rattle.std.specs.List.{list_all}
use Rattle.std.specs.Str.Parse.{AllDigits}
use Rattle.type_terms.specs.declared.name.Scope as scope
use Rattle.type_terms.specs.declared.name.TypeId.{TypeId}
use Rattle.type_terms.specs.declared.name.TypeName.{TypeName}
use Rattle.type_terms.specs.declared.reference.FieldRef.{FieldRef}
use Rattle.type_terms.specs.declared.reference.MethodRef.{MethodRef}
use Rattle.type_terms.specs.declared.term.Owner.{Owner, fold-Owner, fold-roll-Owner, map-Owner, roll-Owner}
use Rattle.type_terms.specs.declared.term.Owner.TheOpen as layer
use Rattle.type_terms.specs.declared.term.SigType.{SigType, fold-SigType, fold-roll-SigType, map-SigType, roll-SigType}
use Rattle.type_terms.proofs.Layers.{OwnerWith, TypeWith, owner_values, type_values, by_layers, owner_by_layers}
use Rattle.assembly_tree.specs.WellFormed.{is_extern}
use Rattle.assembly_tree.specs.WellFormedNames.{option_all, is_known_in, is_type_name}
use Rattle.assembly_tree.specs.WellFormedTerms as formed
use Rattle.assembly_tree.specs.declared.assembly.Assembly.{Assembly}
use Rattle.assembly_tree.specs.declared.assembly.ExternAssembly.{ExternAssembly}
use Rattle.assembly_tree.proofs.FormedFacts.{method_refs_named, field_refs_named, signatures_named}
use Rattle.listing_growth.specs.Held.{owner_holds, type_holds, is_type_held, is_owner_held, is_method_ref_held, is_field_ref_held}
use Rattle.listing_growth.specs.Standing.{has_name, owner_stands, type_stands, can_stand, owner_can_stand, all_stand, args_stand, method_stands, field_stands}
use Rattle.listing_leaves.specs.Laws.{has_no_zero, is_name}
use Rattle.listing_leaves.specs.Numbers as numbers
use Rattle.listing_model.specs.Types.{has_alias, alias, key_in, extern_key}
use Rattle.listing_references.specs.Laws.{IsMethodReadable, are_types_readable, option_all_readable, is_field_readable}
use Rattle.listing_terms.specs.Readable as may
use Rattle.listing_terms.specs.Readable.{is_scope_named, is_name_readable, is_type_readable, is_owner_readable}
use Rattle.listing_formed.specs.Laws.{NamesAssemblies, FormedAreReadable}

both : (x y : Bool) → x ≡ true → y ≡ true → (x && y) ≡ true
both true y h k = k
both false y h k = h

-- a list with an item isn't empty
some_length : (n : ℕ) → nat_lt 0 (suc n) ≡ true
some_length n = grind arith

-- ---- keys of assemblies

digit_clear : (c : ℕ) → char.digit_value c < 10 → nat_lt 0 c ≡ true
digit_clear c h = grind (arith, h)

clear : (ds : List ℕ) → AllDigits 10 ds → has_no_zero ds ≡ true
clear [] h = refl
clear (d ∷ ds) h = both (nat_lt 0 d) (has_no_zero ds) (digit_clear d h.0) (clear ds h.1)

alias_named : (k : ℕ) → k < 2 ^ 128 → is_name (alias k) ≡ true
unfolding numbers.natural
alias_named k small =
    let numeral = decimal_is_IsNumeral_wide k (grind (arith, small)) in
    both _ _ (some_length (length (decimal k))) (clear (decimal k) numeral.0.1)

get_passes : {X : Type 0} (t : X → Bool) (xs : List X) (k : ℕ) → list_all t xs ≡ true → option_all t (slice_get xs k) ≡ true
get_passes t [] k h = refl
get_passes t (x ∷ xs) zero h = (and_parts (t x) (list_all t xs) h).0
get_passes t (x ∷ xs) (suc k) h = get_passes t xs k (and_parts (t x) (list_all t xs) h).1

key_by : (b : Bool) (k : ℕ) (e : ExternAssembly) → k < 2 ^ 128 → is_name e.name ≡ true → is_name (cond b (alias k) e.name) ≡ true
key_by true k e h n = alias_named k h
key_by false k e h n = n

key_in_named : (externs : List ExternAssembly) (k : ℕ) (e : Option ExternAssembly) → k < 2 ^ 128 → option_all is_extern e ≡ true → is_name (key_in externs k e) ≡ true
unfolding is_extern
key_in_named externs k None h n = alias_named k h
key_in_named externs k (Some e) h n = key_by (has_alias externs e) k e h (and_parts (is_name e.name) _ n).0

key_named : (a : Assembly) → NamesAssemblies a → (k : ℕ) → nat_lt k (length a.externs) ≡ true → is_name (extern_key a.externs k) ≡ true
key_named a n k h =
    let low = ltb-true k (length a.externs) h in
    let few = n.few in
    key_in_named a.externs k (slice_get a.externs k) (omega arith) (get_passes is_extern a.externs k n.named)

-- ---- terms

-- what two tests give of each item
all_both : {X : Type 0} (p q r : X → Bool) → ((x : X) → p x ≡ true → q x ≡ true → r x ≡ true) → (xs : List X) →
    list_all p xs ≡ true → list_all q xs ≡ true → list_all r xs ≡ true
all_both p q r f [] h k = refl
all_both p q r f (x ∷ xs) h k =
    let hs = and_parts (p x) (list_all p xs) h in
    let ks = and_parts (q x) (list_all q xs) k in
    both (r x) (list_all r xs) (f x hs.0 ks.0) (all_both p q r f xs hs.1 ks.1)

module _ (a : Assembly) (n : NamesAssemblies a) where
  scope_ok : (sc : scope.Scope) (path : List TypeId) → is_known_in a sc path ≡ true → is_scope_named a.externs sc ≡ true
  scope_ok scope.TheVariants.Here path h = refl
  scope_ok (scope.TheVariants.Extern k) path h = both (nat_lt k (length a.externs)) (is_name (extern_key a.externs k)) h (key_named a n k h)

  name_ok : (t : TypeName) → is_type_name a t ≡ true → has_name t ≡ true → is_name_readable a.externs t ≡ true
  unfolding is_type_name
  name_ok t m h =
      let ms = and_parts _ _ m in
      let ls = and_parts _ _ ms.0 in
      both (is_scope_named a.externs t.scope) (may.is_path_named t.path) (scope_ok t.scope t.path ms.1) (both _ _ h ls.1)

  abbrev made : SigType → Bool
  made = fold-SigType Bool Bool (formed.owner_step a) (formed.type_step a)

  abbrev owner_made : Owner → Bool
  owner_made = fold-Owner Bool Bool (formed.owner_step a) (formed.type_step a)

  abbrev held : SigType → Bool
  held = fold-SigType Bool Bool owner_holds type_holds

  abbrev owner_held : Owner → Bool
  owner_held = fold-Owner Bool Bool owner_holds type_holds

  abbrev reads : SigType → Bool
  reads = fold-SigType Bool Bool (may.owner_step a.externs) (may.type_step a.externs)

  abbrev owner_reads : Owner → Bool
  owner_reads = fold-Owner Bool Bool (may.owner_step a.externs) (may.type_step a.externs)

  abbrev stands : SigType → Bool
  stands = fold-SigType Bool Bool owner_stands type_stands

  abbrev owner_may : Owner → Bool
  owner_may = fold-Owner Bool Bool owner_stands type_stands

  abbrev Q : SigType → Type 0
  Q t = made t ≡ true → held t ≡ true → (reads t ≡ true) × (stands t ≡ true)

  abbrev P : Owner → Type 0
  P o = owner_made o ≡ true → owner_held o ≡ true → (owner_reads o ≡ true) × (owner_may o ≡ true)

  abbrev values : List (TypeWith P Q) → List SigType
  values args = map (λ (x : TypeWith P Q). x.0) args

  args_both : (args : List (TypeWith P Q)) → list_all (λ ok. ok) (map made (values args)) ≡ true → list_all (λ ok. ok) (map held (values args)) ≡ true →
      (list_all (λ ok. ok) (map reads (values args)) ≡ true) × (list_all (λ ok. ok) (map stands (values args)) ≡ true)
  args_both [] m h = (refl, refl)
  args_both (x ∷ xs) m h =
      let ms = and_parts _ _ m in
      let hs = and_parts _ _ h in
      let one = x.1 ms.0 hs.0 in
      let more = args_both xs ms.1 hs.1 in
      (both _ _ one.0 more.0, both _ _ one.1 more.1)

  some_args : (test : SigType → Bool) (args : List (TypeWith P Q)) → nat_lt 0 (length (map made (values args))) ≡ true → nat_lt 0 (length (map test (values args))) ≡ true
  some_args test [] h = h
  some_args test (x ∷ xs) h = some_length _

  type_layer : (l : layer.SigType-F (OwnerWith P Q) (TypeWith P Q)) →
      formed.type_step a (map-SigType Owner SigType Bool Bool owner_made made (type_values P Q l)) ≡ true →
      type_holds (map-SigType Owner SigType Bool Bool owner_held held (type_values P Q l)) ≡ true →
      (may.type_step a.externs (map-SigType Owner SigType Bool Bool owner_reads reads (type_values P Q l)) ≡ true)
      × (type_stands (map-SigType Owner SigType Bool Bool owner_may stands (type_values P Q l)) ≡ true)
  type_layer (layer.Prim x) m h = (refl, refl)
  type_layer (layer.Class t) m h = (name_ok t m h, h)
  type_layer (layer.Value t) m h = (name_ok t m h, h)
  type_layer (layer.Inst v t args) m h =
      let ms = and_parts _ _ m in
      let ns = and_parts _ _ ms.0 in
      let hs = and_parts _ _ h in
      let all = args_both args ms.1 hs.1 in (
        both _ _ (name_ok t ns.0 hs.0) (both _ _ (some_args reads args ns.1) all.0),
        both _ _ hs.0 (both _ _ (some_args stands args ns.1) all.1),
      )
  type_layer (layer.Var k) m h = (m, refl)
  type_layer (layer.MVar k) m h = (m, refl)
  type_layer (layer.SzArray t) m h = t.1 m h
  type_layer (layer.Array t rank sizes lower) m h =
      let ms = and_parts _ _ m in
      let one = t.1 ms.1 h in
      (both _ _ ms.0 one.0, one.1)
  type_layer (layer.ByRef t) m h = t.1 m h
  type_layer (layer.Pointer t) m h = t.1 m h
  type_layer (layer.Mod required o t) m h =
      let ms = and_parts _ _ m in
      let hs = and_parts _ _ h in
      let by = o.1 ms.0 hs.0 in
      let of = t.1 ms.1 hs.1 in
      (both _ _ by.0 of.0, both _ _ by.1 of.1)
  type_layer (layer.Pinned t) m h = t.1 m h

  owner_layer : (l : layer.Owner-F (OwnerWith P Q) (TypeWith P Q)) →
      formed.owner_step a (map-Owner Owner SigType Bool Bool owner_made made (owner_values P Q l)) ≡ true →
      owner_holds (map-Owner Owner SigType Bool Bool owner_held held (owner_values P Q l)) ≡ true →
      (may.owner_step a.externs (map-Owner Owner SigType Bool Bool owner_reads reads (owner_values P Q l)) ≡ true)
      × (owner_stands (map-Owner Owner SigType Bool Bool owner_may stands (owner_values P Q l)) ≡ true)
  owner_layer (layer.Name t) m h = (name_ok t m h, h)
  owner_layer (layer.Spec t) m h = t.1 m h

  owner_rolled : (l : layer.Owner-F (OwnerWith P Q) (TypeWith P Q)) → P (roll-Owner (owner_values P Q l))
  owner_rolled l m h =
      let r = owner_layer l (sym (fold-roll-Owner Bool Bool (formed.owner_step a) (formed.type_step a) (owner_values P Q l)) ∙ m)
      (sym (fold-roll-Owner Bool Bool owner_holds type_holds (owner_values P Q l)) ∙ h) in (
        fold-roll-Owner Bool Bool (may.owner_step a.externs) (may.type_step a.externs) (owner_values P Q l) ∙ r.0,
        fold-roll-Owner Bool Bool owner_stands type_stands (owner_values P Q l) ∙ r.1,
      )

  type_rolled : (l : layer.SigType-F (OwnerWith P Q) (TypeWith P Q)) → Q (roll-SigType (type_values P Q l))
  type_rolled l m h =
      let r = type_layer l (sym (fold-roll-SigType Bool Bool (formed.owner_step a) (formed.type_step a) (type_values P Q l)) ∙ m)
      (sym (fold-roll-SigType Bool Bool owner_holds type_holds (type_values P Q l)) ∙ h) in (
        fold-roll-SigType Bool Bool (may.owner_step a.externs) (may.type_step a.externs) (type_values P Q l) ∙ r.0,
        fold-roll-SigType Bool Bool owner_stands type_stands (type_values P Q l) ∙ r.1,
      )

  type_all : (t : SigType) → Q t
  type_all = by_layers P Q owner_rolled type_rolled

  owner_all : (o : Owner) → P o
  owner_all = owner_by_layers P Q owner_rolled type_rolled

  -- ---- types and owners

  type_ok : (t : SigType) → formed.is_type a t ≡ true → is_type_held t ≡ true → (is_type_readable a.externs t ≡ true) × (can_stand t ≡ true)
  unfolding formed.is_type is_type_held is_type_readable can_stand
  type_ok t m h = type_all t (and_parts _ _ m).1 h

  owner_ok : (o : Owner) → formed.is_owner a o ≡ true → is_owner_held o ≡ true → (is_owner_readable a.externs o ≡ true) × (owner_can_stand o ≡ true)
  unfolding formed.is_owner is_owner_held is_owner_readable owner_can_stand
  owner_ok o m h = owner_all o (and_parts _ _ m).1 h

  types_read : (ts : List SigType) → list_all (formed.is_type a) ts ≡ true → list_all is_type_held ts ≡ true → are_types_readable a.externs ts ≡ true
  types_read = all_both (formed.is_type a) is_type_held (is_type_readable a.externs) (λ t m h. (type_ok t m h).0)

  types_stand : (ts : List SigType) → list_all (formed.is_type a) ts ≡ true → list_all is_type_held ts ≡ true → all_stand ts ≡ true
  types_stand = all_both (formed.is_type a) is_type_held can_stand (λ t m h. (type_ok t m h).1)

  -- ---- references

  args_ok : (generic : ℕ) (args : Option (List SigType)) → formed.are_arguments generic args ≡ true → option_all (list_all (formed.is_type a)) args ≡ true →
      option_all (list_all is_type_held) args ≡ true → (option_all_readable a.externs args ≡ true) × (args_stand args ≡ true)
  args_ok generic None c m h = (refl, refl)
  args_ok generic (Some ts) c m h = (types_read ts m h, both _ _ (and_parts _ _ c).0 (types_stand ts m h))

  method_ok : (r : MethodRef) → formed.is_method_ref a r ≡ true → is_method_ref_held r ≡ true → IsMethodReadable a.externs r × (method_stands r ≡ true)
  unfolding is_method_ref_held
  method_ok r m h =
      let f = (method_refs_named a r).0 m in
      let g = (signatures_named a r.sig).0 f.sig in
      let hs = and_parts _ _ h in
      let ks = and_parts _ _ hs.0 in
      let js = and_parts _ _ ks.1 in
      let owner = owner_ok r.owner f.owner ks.0 in
      let ret = type_ok r.sig.ret g.ret js.0 in
      let args = args_ok r.sig.generic r.args f.arguments f.args hs.1 in (
        record {
          called = f.name;
          owned = owner.0;
          returned = ret.0;
          parameters = types_read r.sig.params g.params js.1;
          explicit = g.explicit;
          inside = g.sentinel;
          counted = g.generic;
          many = f.arguments;
          arguments = args.0;
        },
        both _ _ owner.1 (both _ _ (both _ _ ret.1 (types_stand r.sig.params g.params js.1)) args.1),
      )

  field_ok : (r : FieldRef) → formed.is_field_ref a r ≡ true → is_field_ref_held r ≡ true → (is_field_readable a.externs r ≡ true) × (field_stands r ≡ true)
  unfolding is_field_ref_held
  field_ok r m h =
      let f = (field_refs_named a r).0 m in
      let hs = and_parts _ _ h in
      let owner = owner_ok r.owner f.owner hs.0 in
      let of = type_ok r.of f.of hs.1 in
      (both _ _ (both _ _ f.name owner.0) of.0, both _ _ owner.1 of.1)

pub formed_are_readable : FormedAreReadable
formed_are_readable = record { types = type_ok; owners = owner_ok; methods = method_ok; fields = field_ok }
