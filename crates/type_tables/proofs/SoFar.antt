-- The declared types of the first assemblies of a world.
use Rattle.std.proofs.Common.{◌≡◌, ◌∙◌, ap, sym, subst, refl, inl, inr, arith, None, Some, ℕ, ◌+◌, ◌≤◌, Bool, true, false, not, List, [], ◌∷◌, ◌++◌, length, map, take, Option}
use Rattle.std.specs.Prelude.{slice_get}
use Rattle.std.specs.List.{flat_map, list_any}
use Rattle.std.specs.Option.{option_map}
use Rattle.std.proofs.lemmas.List.{length-map, take-map, take_all, take_more}
use Rattle.std.proofs.lemmas.Option.{same_Some, slice_get-map, slice_get_within, get_or_from_slice_get}
use Rattle.type_terms.specs.declared.name.Scope.{Scope}
use Rattle.type_terms.specs.declared.name.Scope.TheVariants.{Here}
use Rattle.type_terms.specs.declared.name.TypeName.{TypeName}
use Rattle.assembly_tree.specs.declared.typedef.TypeDef.{TypeDef}
use Rattle.assembly_tree.specs.WellFormed.{are_classes}
use Rattle.type_hierarchy.specs.Ancestors.{typedef_paths}
use Rattle.type_hierarchy.specs.Declarations.{place_of}
use Rattle.type_tables.specs.Members.{IsMeaning, IsScopes, member}
use Rattle.type_hierarchy.specs.Names.{full_name, same_scope}
use Rattle.type_tables.specs.Placed.{IsAligned, IsAt, IsFrom, IsGrown, Row, Stands, placed}
use Rattle.type_tables.specs.Places.{ArePlaces, IsPlace}
use Rattle.type_hierarchy.specs.Scopes.{Sources, Member, member_of, members, own_scope}
use Rattle.type_hierarchy.specs.declared.meanings.Meanings.{Meanings}
use Rattle.type_tables.specs.declared.scopes.Scopes.{Scopes}
use Rattle.type_tables.proofs.NamingLemmas.{any_map}
use Rattle.type_tables.proofs.PlaceLemmas.{declares, declares_not, has_scope, is_member_of, names_all, names_of, names_with, names_without, owns_same, place_at}

-- those of the first `k` assemblies
pub record AreSoFar (s : Sources) (k : ℕ) (r : Row) : Type 0 where
  pub aligned : IsAligned r
  pub names : r.names ≡ names_of s (take k (members s))
  pub each : (j at : ℕ) (name : TypeName) (t : TypeDef) → Stands r j name at t → IsPlace s name at t

pub take_next : {X : Type 0} (xs : List X) (k : ℕ) (x : X) → slice_get xs k ≡ Some x → take k xs ++ x ∷ [] ≡ take (k + 1) xs
take_next xs k x at =
    ap (λ y. take k xs ++ y ∷ []) (sym (get_or_from_slice_get xs k x x at)) ∙ sym (take_more xs k x (slice_get_within xs k x at))

member_at : (s : Sources) (ns : List ℕ) (k n : ℕ) → map (member s) ns ≡ members s → slice_get ns k ≡ Some n → slice_get (members s) k ≡ Some (member s n)
member_at s ns k n all at = ap (λ l. slice_get l k) (sym all) ∙ slice_get-map (member s) ns k ∙ ap (option_map (member s)) at

by_number : (s : Sources) (z : Scopes) (k : ℕ) (m : Member) (means : Meanings) (o : Option ℕ) → IsScopes s z → slice_get z.numbers k ≡ o
    → option_map (member s) o ≡ Some m → slice_get z.meanings k ≡ Some means → IsMeaning s m means
by_number s z k m means None ok at is of = absurd (let f : ⊥ = cc in f)
by_number s z k m means (Some n) ok at is of = subst (λ (x : Member). IsMeaning s x means) (same_Some (member s n) m is) (ok.meanings k n means at of)

-- what is kept for an assembly says what its scopes mean
pub meaning_at : (s : Sources) (z : Scopes) (k : ℕ) (m : Member) (means : Meanings) → IsScopes s z → slice_get (members s) k ≡ Some m
    → slice_get z.meanings k ≡ Some means → IsMeaning s m means
meaning_at s z k m means ok at of =
    by_number s z k m means (slice_get z.numbers k) ok refl
    (sym (slice_get-map (member s) z.numbers k) ∙ ap (λ l. slice_get l k) ok.numbers ∙ at) of

any_scopes : (s : Sources) (z : Scopes) (k : ℕ) (own : Scope) → IsScopes s z
    → list_any (λ (m : Meanings). same_scope m.own own) (take k z.meanings) ≡ list_any (has_scope s own) (take k (members s))
any_scopes s z k own ok =
    sym (any_map (λ (x : Scope). same_scope x own) (λ (m : Meanings). m.own) (take k z.meanings))
    ∙ ap (list_any (λ (x : Scope). same_scope x own))
    (sym (take-map (λ (m : Meanings). m.own) k z.meanings)
    ∙ ap (take k) (owns_same s z.numbers z.meanings ok.paired ok.meanings ∙ ap (map (own_scope s)) ok.numbers)
    ∙ take-map (own_scope s) k (members s))
    ∙ any_map (λ (x : Scope). same_scope x own) (own_scope s) (take k (members s))

not_false : (b c : Bool) → b ≡ not c → b ≡ true → c ≡ false
not_false b true e h = sym h ∙ e
not_false b false e h = refl

not_so : (b c : Bool) → b ≡ not c → b ≡ false → c ≡ true
not_so b true e h = refl
not_so b false e h = sym h ∙ e

module _ (s : Sources) (z : Scopes) (k n : ℕ) (means : Meanings) (ok : IsScopes s z) (number : slice_get z.numbers k ≡ Some n) (meant : slice_get z.meanings k ≡ Some means) where
  abbrev this : Member
  this = member s n

  here : slice_get (members s) k ≡ Some this
  here = member_at s z.numbers k n ok.numbers number

  pub own_is : means.own ≡ own_scope s this
  own_is = ok.meanings k n means number meant Here

  any_is : list_any (λ (m : Meanings). same_scope m.own means.own) (take k z.meanings) ≡ list_any (has_scope s (own_scope s this)) (take k (members s))
  any_is = any_scopes s z k means.own ok ∙ ap (λ x. list_any (has_scope s x) (take k (members s))) own_is

  pub same_so_far : (b : Bool) (r : Row) → b ≡ not (list_any (λ (m : Meanings). same_scope m.own means.own) (take k z.meanings)) → b ≡ false → AreSoFar s k r → AreSoFar s (k + 1) r
  same_so_far b r e isnt before = record {
    aligned = before.aligned;
    names = names_without s (take k (members s)) this r.names (declares_not s k this here (sym any_is ∙ not_so b (list_any (λ (m : Meanings). same_scope m.own means.own) (take k z.meanings)) e isnt)) before.names
        ∙ ap (names_of s) (take_next (members s) k this here);
    each = before.each;
  }

  placed_here : (types : List TypeDef) (name : TypeName) (at : ℕ) (t : TypeDef) → types ≡ this.assembly.types → are_classes this.assembly ≡ true
      → member_of s (own_scope s this) ≡ Some this → IsFrom means.own [] k types name at t → IsPlace s name at t
  placed_here types name at t is formed first from = record {
    member = this;
    in_member = ap (slice_get (members s)) from.in_member ∙ here;
    is = ap (place_of s) (from.named ∙ ap (λ x. full_name x from.path) own_is)
        ∙ place_at s this from.path t first formed (subst (λ (ts : List TypeDef). IsAt ts from.path t) is from.at);
  }

  pub first_of_scope : (b : Bool) → b ≡ not (list_any (λ (m : Meanings). same_scope m.own means.own) (take k z.meanings)) → b ≡ true → member_of s (own_scope s this) ≡ Some this
  first_of_scope b e is = is_member_of s k this here (sym any_is ∙ not_false b (list_any (λ (m : Meanings). same_scope m.own means.own) (take k z.meanings)) e is)

  pub more_so_far : (b : Bool) (types : List TypeDef) (old new : Row) → b ≡ not (list_any (λ (m : Meanings). same_scope m.own means.own) (take k z.meanings)) → b ≡ true
      → types ≡ this.assembly.types → are_classes this.assembly ≡ true → AreSoFar s k old
      → new.names ≡ placed means.own [] old.names (flat_map typedef_paths types) → IsGrown means.own [] k types old new → AreSoFar s (k + 1) new
  more_so_far b types old new e is of formed before more grown =
      let first = first_of_scope b e is in
      record {
        aligned = grown.aligned before.aligned;
        names = names_with s (take k (members s)) this old.names new.names means.own (declares s this first) own_is before.names
            (more ∙ ap (λ ts. placed means.own [] old.names (flat_map typedef_paths ts)) of)
            ∙ ap (names_of s) (take_next (members s) k this here);
        each = λ j at name t stands. elim (grown.each before.aligned j at name t stands) [
          | inl was ↦ before.each j at name t was
          | inr from ↦ placed_here types name at t of formed first from
        ];
      }

nothing_at : (j : ℕ) (name : TypeName) → slice_get [] j ≡ Some name → ⊥
nothing_at j name h = let f : ⊥ = cc in f

pub none_so_far : (s : Sources) (r : Row) → r.names ≡ [] → r.members ≡ [] → r.types ≡ [] → AreSoFar s 0 r
none_so_far s r a b c = record {
  aligned = record { members = ap length b ∙ sym (ap length a); types = ap length c ∙ sym (ap length a) };
  names = a;
  each = λ j at name t stands. absurd (nothing_at j name (ap (λ l. slice_get l j) (sym a) ∙ stands.named));
}

pub all_so_far : (s : Sources) (z : Scopes) (k : ℕ) (r : Row) → IsScopes s z → length z.numbers ≤ k → AreSoFar s k r → ArePlaces s r
all_so_far s z k r ok past h =
    let long : length (members s) ≤ k = omega (arith, ap (λ (l : List Member). length l) ok.numbers, length-map z.numbers (member s)) in
    record {
      aligned = h.aligned;
      names = h.names ∙ ap (names_of s) (take_all k (members s) long) ∙ names_all s;
      each = h.each;
    }
