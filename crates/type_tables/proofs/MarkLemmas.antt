-- Names that are gathered over the assemblies of a world.
use Rattle.std.proofs.Common.{◌≡◌, ◌∙◌, ap, refl, sym, ℕ, ◌+◌, ◌<◌, ◌≤◌, Bool, true, false, ◌||◌, if◌then◌else◌, List, [], ◌∷◌, ◌++◌, length, get_or, map, take, arith, inl, inr}
use Rattle.std.specs.List.{flat_map}
use Rattle.std.proofs.lemmas.Bool.{cases_Bool}
use Rattle.std.proofs.lemmas.Grind.{flat_map-append}
use Rattle.std.proofs.lemmas.List.{append-nil, length-map, take_all}
use Rattle.std.proofs.lemmas.List.Folds.{list_any-append}
use Rattle.type_terms.specs.declared.name.TypeName.{TypeName}
use Rattle.type_hierarchy.specs.Declarations.{valuetype_names}
use Rattle.type_hierarchy.specs.Gathered.{gathered, name_by, with_name}
use Rattle.type_tables.specs.Members.{IsMeaning, member}
use Rattle.type_hierarchy.specs.Names.{is_among, same_name}
use Rattle.type_hierarchy.specs.Scopes.{Sources, Member, members, scope_in}
use Rattle.type_hierarchy.specs.ValueNames.{value_names}
use Rattle.type_hierarchy.specs.declared.meanings.Meanings.{Meanings}
use Rattle.type_tables.proofs.NamingLemmas.{taken_step}
use Rattle.type_hierarchy.proofs.TableLemmas.{name_decides}

pub or_assoc : (a b c : Bool) → (a || (b || c)) ≡ ((a || b) || c)
or_assoc true b c = refl
or_assoc false b c = refl

pub or_false : (a : Bool) → (a || false) ≡ a
or_false true = refl
or_false false = refl

or_kept : (a b : Bool) → (b ≡ true → a ≡ true) → a ≡ (a || b)
or_kept true b h = refl
or_kept false true h = h refl
or_kept false false h = refl

-- ---- one name more

pub among_with : (names : List TypeName) (n name : TypeName) → is_among (with_name names n) name ≡ (is_among names name || same_name name n)
among_with names n name = elim (cases_Bool (is_among names n)) [
  | inl e ↦
      ap (λ b. is_among (if b then names else names ++ n ∷ []) name) e
      ∙ or_kept (is_among names name) (same_name name n) (λ h. ap (is_among names) ((name_decides name n).0 h) ∙ e)
  | inr e ↦
      ap (λ b. is_among (if b then names else names ++ n ∷ []) name) e
      ∙ list_any-append (same_name name) names (n ∷ [])
      ∙ ap (λ b. is_among names name || b) (or_false (same_name name n))
]

pub among_gathered : (m : Meanings) (names more : List TypeName) (name : TypeName)
    → is_among (gathered m names more) name ≡ (is_among names name || is_among (map (name_by m) more) name)
unfolding gathered
among_gathered m names [] name = sym (or_false (is_among names name))
among_gathered m names (n ∷ more) name =
    among_gathered m (with_name names (name_by m n)) more name
    ∙ ap (λ b. b || is_among (map (name_by m) more) name) (among_with names (name_by m n) name)
    ∙ sym (or_assoc (is_among names name) (same_name name (name_by m n)) (is_among (map (name_by m) more) name))

-- ---- the names in an assembly of the world

abbrev pub meant_in : Sources → Member → TypeName → TypeName
meant_in s m n = record { scope = scope_in s m n.scope; path = n.path }

abbrev pub marked_in : Sources → Member → List TypeName
marked_in s m = map (meant_in s m) (value_names m.assembly)

meant_same : (s : Sources) (of : Member) (m : Meanings) → IsMeaning s of m → (names : List TypeName) → map (name_by m) names ≡ map (meant_in s of) names
meant_same s of m is [] = refl
meant_same s of m is (n ∷ names) = λ i. record { scope = is n.scope i; path = n.path } ∷ meant_same s of m is names i

pub marked_more : (s : Sources) (ns : List ℕ) (k n : ℕ) (m : Meanings) (now next : List TypeName) → map (member s) ns ≡ members s
    → k < length ns → n ≡ get_or ns k n → IsMeaning s (member s n) m
    → ((name : TypeName) → is_among now name ≡ is_among (flat_map (marked_in s) (take k (members s))) name)
    → next ≡ gathered m now (value_names (member s n).assembly)
    → (name : TypeName) → is_among next name ≡ is_among (flat_map (marked_in s) (take (k + 1) (members s))) name
marked_more s ns k n m now next all low at is before more name =
    let so_far = flat_map (marked_in s) (take k (members s)) in
    let taken : take k (members s) ++ member s n ∷ [] ≡ take (k + 1) (members s) =
    (λ i. take k (sym all i) ++ member s n ∷ []) ∙ taken_step (member s) ns k n low at ∙ ap (take (k + 1)) all in
    ap (λ l. is_among l name) more
    ∙ among_gathered m now (value_names (member s n).assembly) name
    ∙ (λ i. before name i || is_among (meant_same s (member s n) m is (value_names (member s n).assembly) i) name)
    ∙ sym (list_any-append (same_name name) so_far (marked_in s (member s n)))
    ∙ ap (λ l. is_among (so_far ++ l) name) (sym (append-nil (marked_in s (member s n))))
    ∙ ap (λ l. is_among l name) (sym (flat_map-append (marked_in s) (take k (members s)) (member s n ∷ [])))
    ∙ ap (λ l. is_among (flat_map (marked_in s) l) name) taken

pub marked_all : (s : Sources) (ns : List ℕ) (k : ℕ) (names : List TypeName) → map (member s) ns ≡ members s → length ns ≤ k
    → ((name : TypeName) → is_among names name ≡ is_among (flat_map (marked_in s) (take k (members s))) name)
    → (name : TypeName) → is_among names name ≡ is_among (valuetype_names s) name
marked_all s ns k names all past h name =
    let long : length (members s) ≤ k = omega (arith, ap (λ (l : List Member). length l) all, length-map ns (member s)) in
    h name ∙ ap (λ l. is_among (flat_map (marked_in s) l) name) (take_all k (members s) long)
