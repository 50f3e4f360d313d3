-- What the tables of a world say.
use Rattle.std.proofs.Common.{◌≡◌, ◌∙◌, ap, sym, refl, inl, inr, arith, None, Some, ℕ, zero, suc, ◌<◌, Bool, true, false, ◌&&◌, ◌||◌, List, [], ◌∷◌, ◌++◌, length, Option, cond}
use Rattle.std.specs.Prelude.{slice_get, option_and_then}
use Rattle.std.proofs.lemmas.Bool.{cases_Bool}
use Rattle.std.proofs.lemmas.List.{length-map}
use Rattle.std.proofs.lemmas.Option.{slice_get_within}
use Rattle.type_terms.specs.declared.name.Scope.{Scope}
use Rattle.type_terms.specs.declared.name.TypeName.{TypeName}
use Rattle.assembly_tree.specs.declared.typedef.TypeDef.{TypeDef}
use Rattle.assembly_tree.specs.declared.typedef.TypeDef.TheViews.{out-TypeDef}
use Rattle.type_hierarchy.specs.Ancestors.{declared_names}
use Rattle.type_tables.specs.Building.{AreEntries, AreTables, AreValues}
use Rattle.type_hierarchy.specs.Declarations.{Place, base_is_in, declaration_at, declaration_by, declaration_of, hierarchy_of, is_class_of, is_value_type, place_of}
use Rattle.type_hierarchy.specs.Gathered.{scope_by}
use Rattle.type_tables.specs.Members.{IsScopes, member}
use Rattle.type_hierarchy.specs.Names.{is_among, same_name, the_enum, the_object}
use Rattle.type_tables.specs.Placed.{Row, Stands}
use Rattle.type_tables.specs.Places.{ArePlaces}
use Rattle.type_hierarchy.specs.Reading.{reading_by, value_by}
use Rattle.type_hierarchy.specs.Scopes.{Sources, Member, image_scope, members, scope_in}
use Rattle.type_hierarchy.specs.Tables.{declaration, declaration_in, entry_in, entry_of, hierarchy_in}
use Rattle.type_hierarchy.specs.declared.meanings.Meanings.{Meanings}
use Rattle.type_tables.specs.declared.scopes.Scopes.{Scopes}
use Rattle.type_hierarchy.specs.declared.tables.Declared.{Declared}
use Rattle.type_hierarchy.specs.declared.tables.Tables.{Tables}
use Rattle.type_hierarchy.specs.declared.values.Values.{Values}
use Rattle.type_hierarchy.proofs.Among.{not_among}
use Rattle.type_hierarchy.proofs.ChainLemmas.{snoc_cases}
use Rattle.type_tables.proofs.PlaceLemmas.{declared_among}
use Rattle.type_tables.proofs.SoFar.{meaning_at}
use Rattle.type_hierarchy.proofs.TableLemmas.{entry_none, name_decides}
use Rattle.type_tables.proofs.ValueLemmas.{scopes_same}

-- ---- bounds

pub within_get : {X : Type 0} (xs : List X) (k : ℕ) → k < length xs → (x : X) × (slice_get xs k ≡ Some x)
within_get [] k low = absurd (omega (arith, low))
within_get (x ∷ xs) zero low = (x, refl)
within_get (x ∷ xs) (suc k) low = within_get xs k (omega (arith, low))

members_long : (s : Sources) (z : Scopes) → IsScopes s z → length (members s) ≡ length z.meanings
members_long s z ok = ap (λ (l : List Member). length l) (sym ok.numbers) ∙ length-map z.numbers (member s) ∙ sym ok.paired

pub scopes_some : (s : Sources) (z : Scopes) → IsScopes s z → 0 < length z.meanings
scopes_some s z ok = let e = members_long s z ok in omega (arith, e)

pub places_within : (s : Sources) (z : Scopes) (r : Row) → IsScopes s z → ArePlaces s r → (k at : ℕ) → slice_get r.members k ≡ Some at → at < length z.meanings
places_within s z r ok places k at is =
    let low = slice_get_within r.members k at is in
    let by_members = places.aligned.members in
    let by_types = places.aligned.types in
    let name = within_get r.names k (omega (arith, low, by_members)) in
    let typed = within_get r.types k (omega (arith, low, by_members, by_types)) in
    let p = places.each k at name.0 typed.0 (record { named = name.1; in_member = is; typed = typed.1 }) in
    let below = slice_get_within (members s) at p.member p.in_member in
    let e = members_long s z ok in
    omega (arith, below, e)

-- ---- one entry

pub entry_is : (s : Sources) (z : Scopes) (r : Row) (v : Values) (ok : IsScopes s z) (places : ArePlaces s r) (values : AreValues s v) (k at : ℕ) (name : TypeName) (t : TypeDef)
    (means : Meanings) (stands : Stands r k name at t) (meant : slice_get z.meanings at ≡ Some means) (is_object is_enum : Bool) (d : Declared)
    → is_object ≡ is_class_of v.core the_object name
    → is_enum ≡ (value_by v name && base_is_in v.core (scope_by means) the_enum (out-TypeDef t).extends)
    → declaration d ≡ declaration_by (reading_by v means) is_object is_enum (out-TypeDef t)
    → declaration_of s name ≡ Some (declaration d)
unfolding declaration_of
entry_is s z r v ok places values k at name t means stands meant is_object is_enum d object enum is =
    let place = places.each k at name t stands in
    let scopes = scopes_same s z r ok places k at name t means stands meant in
    let as_object = object ∙ ap (λ c. is_class_of c the_object name) values.core in
    let as_enum = enum ∙ (λ i. values.each name i && base_is_in (values.core i) (scopes i) the_enum (out-TypeDef t).extends) in
    ap (option_and_then (λ (p : Place). Some (declaration_at s name p))) place.is
    ∙ sym (ap Some (is ∙ (λ i. declaration_by (record { core = values.core i; scope = scopes i; is_value = λ n. values.each n i }) (as_object i) (as_enum i) (out-TypeDef t))))

pub entered_none : (s : Sources) (names : List TypeName) → AreEntries s names []
entered_none s names j name d at is = absurd (let f : ⊥ = cc in f)

pub entered_more : (s : Sources) (names : List TypeName) (entries : List Declared) (k : ℕ) (d : Declared) → length entries ≡ k → AreEntries s names entries
    → ((name : TypeName) → slice_get names k ≡ Some name → declaration_of s name ≡ Some (declaration d)) → AreEntries s names (entries ++ d ∷ [])
entered_more s names entries k d count before one j name e at is = elim (snoc_cases entries d e j is) [
  | inl was ↦ before j name e at was
  | inr last ↦ one name (ap (slice_get names) (sym (last.0 ∙ count)) ∙ at) ∙ ap (λ (x : Declared). Some (declaration x)) (sym last.1)
]

-- ---- all entries

record HasEntry (names : List TypeName) (entries : List Declared) (name : TypeName) : Type 0 where
  pub place : ℕ
  pub entry : Declared
  pub named : slice_get names place ≡ Some name
  pub entered : slice_get entries place ≡ Some entry
  pub is : entry_in names entries name ≡ Some entry

entry_among : (names : List TypeName) (entries : List Declared) (name : TypeName) → length entries ≡ length names → is_among names name ≡ true → HasEntry names entries name
entry_among [] entries name e h = absurd (let f : ⊥ = cc in f)
entry_among (n ∷ names) [] name e h = absurd (omega (arith, e))
entry_among (n ∷ names) (d ∷ entries) name e h = elim (cases_Bool (same_name name n)) [
  | inl same ↦ record {
    place = 0;
    entry = d;
    named = ap Some (sym ((name_decides name n).0 same));
    entered = refl;
    is = ap (λ b. cond b (Some d) (entry_in names entries name)) same;
  }
  | inr other ↦
      let more = entry_among names entries name (omega (arith, e)) (sym (ap (λ b. b || is_among names name) other) ∙ h) in
      record {
        place = suc more.place;
        entry = more.entry;
        named = more.named;
        entered = more.entered;
        is = ap (λ b. cond b (Some d) (entry_in names entries name)) other ∙ more.is;
      }
]

absent : (s : Sources) (name : TypeName) (o : Option Place) → place_of s name ≡ o → is_among (declared_names s) name ≡ false → declaration_of s name ≡ None
unfolding declaration_of
absent s name None e out = ap (option_and_then (λ (p : Place). Some (declaration_at s name p))) e
absent s name (Some p) e out = absurd (let h = declared_among s name p e in let f : ⊥ = cc in f)

declared_same : (s : Sources) (names : List TypeName) (entries : List Declared) (name : TypeName) → names ≡ declared_names s → length entries ≡ length names → AreEntries s names entries
    → declaration_in (entry_in names entries name) ≡ declaration_of s name
declared_same s names entries name all e entered = elim (cases_Bool (is_among names name)) [
  | inl h ↦
      let has = entry_among names entries name e h in
      ap declaration_in has.is ∙ sym (entered has.place name has.entry has.named has.entered)
  | inr h ↦
      ap declaration_in (entry_none names entries name (not_among names name h))
      ∙ sym (absent s name (place_of s name) refl (ap (λ l. is_among l name) (sym all) ∙ h))
]

image_same : (s : Sources) (z : Scopes) (means : Meanings) → IsScopes s z → slice_get z.meanings 0 ≡ Some means → (scope : Scope) → scope_by means scope ≡ image_scope s scope
unfolding scope_in
image_same s z means ok at scope = meaning_at s z 0 (record { number = 0; assembly = s.image }) means ok refl at scope

pub tables_all : (s : Sources) (z : Scopes) (r : Row) (v : Values) (t : Tables) (means : Meanings) → IsScopes s z → ArePlaces s r → AreValues s v
    → t.values ≡ v → t.means ≡ means → slice_get z.meanings 0 ≡ Some means → t.names ≡ r.names → length t.entries ≡ length t.names
    → AreEntries s t.names t.entries → AreTables s t
unfolding hierarchy_in hierarchy_of entry_of
tables_all s z r v t means ok places values valued meant at named count entered =
    let all = named ∙ places.names in
    let core = ap (λ (x : Values). x.core) valued ∙ values.core in
    let scope : scope_by t.means ≡ image_scope s = ap scope_by meant ∙ (λ i x. image_same s z means ok at x i) in
    let value : value_by t.values ≡ is_value_type s = ap value_by valued ∙ (λ i n. values.each n i) in
    record {
      paired = sym count;
      names = all;
      hierarchy = λ i. record {
        core = core i;
        scope = scope i;
        is_value = value i;
        declared = λ name. declared_same s t.names t.entries name all count entered i;
      };
    }
