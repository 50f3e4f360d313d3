-- A world from what is read of its assemblies.
use Rattle.std.proofs.Common.{◌≡◌, ◌∙◌, ap, sym, subst, inl, inr, arith, None, Some, ℕ, zero, suc, ◌<◌, ◌≤◌, ◌^◌, Bool, true, List, [], ◌∷◌, length, map, get_or, cond}
use Rattle.std.specs.Prelude.{slice_get, sum_by}
use Rattle.std.specs.List.{All, Contains, filter, flat_map}
use Rattle.std.specs.Option.{option_map}
use Rattle.std.proofs.lemmas.Bool.{cases_Bool}
use Rattle.std.proofs.lemmas.Bool.Decides.{Decides-eqb}
use Rattle.std.proofs.lemmas.List.Elements.{All-head, All-tail, Contains-append_cases}
use Rattle.std.proofs.lemmas.List.Sums.{sum_by-cons}
use Rattle.std.proofs.lemmas.Option.{same_Some, slice_get-map, slice_get_within}
use Rattle.type_terms.specs.declared.name.Scope.TheVariants.{Here}
use Rattle.type_terms.specs.declared.name.TypeId.{TypeId}
use Rattle.type_terms.specs.declared.name.TypeName.{TypeName}
use Rattle.assembly_tree.specs.declared.assembly.Assembly.{Assembly}
use Rattle.assembly_tree.specs.declared.assembly.ExternAssembly.{ExternAssembly}
use Rattle.assembly_tree.specs.Weight.{extern_weight, weight_of}
use Rattle.assembly_tree.specs.WellFormed.{are_classes, is_well_formed}
use Rattle.type_hierarchy.specs.Ancestors.{Declared, all_declared, declared_in, declared_names, declaring, has_number, typedef_paths, world_name}
use Rattle.type_tables.specs.Building.{AreTables}
use Rattle.type_hierarchy.specs.Declarations.{hierarchy_of}
use Rattle.type_hierarchy.specs.Hierarchy.{Hierarchy}
use Rattle.type_hierarchy.specs.Indexed.{KnowsTypes}
use Rattle.type_tables.specs.Landings.{AreSteps, IsListed}
use Rattle.type_tables.specs.Members.{IsScopes, assembly_of, member}
use Rattle.type_hierarchy.specs.Names.{full_name}
use Rattle.type_tables.specs.Placed.{Row}
use Rattle.type_tables.specs.Places.{ArePlaces}
use Rattle.type_hierarchy.specs.Scopes.{Sources, Member, member_of, members}
use Rattle.type_hierarchy.specs.Tables.{hierarchy_in}
use Rattle.type_hierarchy.specs.World.{Content}
use Rattle.type_order.specs.Worlds.{IsFit, IsWorldOf}
use Rattle.assignability.specs.Worlds.{HasNumber, IsCyclicType, IsFaultAt, IsFaultOf, IsFirstOf, IsNamedAt, IsRead}
use Rattle.assignability.specs.declared.building.Read.{Read}
use Rattle.assignability.specs.declared.building.WorldFault.{WorldFault}
use Rattle.assignability.specs.declared.building.WorldFault.TheVariants.{Cyclic, NoMemory}
use Rattle.type_tables.specs.declared.scopes.Scopes.{Scopes}
use Rattle.type_hierarchy.specs.declared.tables.Tables.{Tables}
use Rattle.type_tables.proofs.FillLemmas.{places_within, within_get}
use Rattle.assignability.proofs.FirstCyclic.{declared_once, first_is_cyclic, none_is_cyclic, none_is_grounded}
use Rattle.type_tables.proofs.PlaceLemmas.{is_declaring, parts_of}
use Rattle.type_tables.proofs.StepLists.{tables_listed}
use Rattle.type_tables.proofs.TreePlaces.{and_left, and_right, in_by_place, in_cases, none_in, later_in, first_in}

-- ---- the assemblies that are given

each_of : {X : Type 0} (P : X → Type 0) (xs : List X) (k : ℕ) (d : X) → All P xs → P d → P (get_or xs k d)
each_of P [] k d all h = h
each_of P (x ∷ xs) zero d all h = All-head P x xs all
each_of P (x ∷ xs) (suc k) d all h = each_of P xs k d (All-tail P x xs all) h

fit_of : (s : Sources) → IsFit s.image → All IsFit s.references → (n : ℕ) → IsFit (assembly_of s n)
fit_of s image references zero = image
fit_of s image references (suc k) = each_of IsFit s.references k s.image references image

classes_of : (a : Assembly) → is_well_formed a ≡ true → are_classes a ≡ true
unfolding is_well_formed
classes_of a h = and_right _ _ (and_left _ _ (and_left _ _ h))

pub formed_of : (s : Sources) → IsFit s.image → All IsFit s.references → (n : ℕ) → are_classes (assembly_of s n) ≡ true
formed_of s image references n = classes_of (assembly_of s n) (fit_of s image references n).0

few_by : {X : Type 0} (f : X → ℕ) (xs : List X) → ((x : X) → 0 < f x) → length xs ≤ sum_by f xs
few_by f [] h = omega arith
few_by f (x ∷ xs) h =
    let more = few_by f xs h in
    let one = h x in
    let e = sum_by-cons f x xs in
    omega (arith, more, one, e)

heavy : (e : ExternAssembly) → 0 < extern_weight e
unfolding extern_weight
heavy e = omega arith

externs_weigh : (a : Assembly) → sum_by extern_weight a.externs ≤ weight_of a
unfolding weight_of
externs_weigh a = omega arith

pub few_externs : (s : Sources) → IsFit s.image → All IsFit s.references → (n : ℕ) → length (assembly_of s n).externs < 2 ^ 32
few_externs s image references n =
    let a = assembly_of s n in
    let light = (fit_of s image references n).1 in
    let part = externs_weigh a in
    let few = few_by extern_weight a.externs heavy in
    omega (arith, light, part, few)

-- ---- what is read

number_of : (s : Sources) (z : Scopes) (r : Row) → IsScopes s z → ArePlaces s r → (k at number : ℕ) (name : TypeName) → slice_get r.names k ≡ Some name
    → slice_get r.members k ≡ Some at → slice_get z.numbers at ≡ Some number → HasNumber s name number
number_of s z r ok places k at number name named inside is =
    let low = slice_get_within r.names k name named in
    let by_types = places.aligned.types in
    let typed = within_get r.types k (omega (arith, low, by_types)) in
    let place = places.each k at name typed.0 (record { named = named; in_member = inside; typed = typed.1 }) in
    let parts = parts_of s name _ place.is in
    let same : parts.member ≡ place.member = parts.same in
    let there : slice_get (members s) at ≡ Some (member s number) =
    ap (λ l. slice_get l at) (sym ok.numbers) ∙ slice_get-map (member s) z.numbers at ∙ ap (option_map (member s)) is in
    record {
      member = parts.member;
      of = parts.of;
      is = ap (λ (m : Member). m.number) (same ∙ same_Some place.member (member s number) (sym place.in_member ∙ there));
    }

pub read_all : (s : Sources) (z : Scopes) (r : Row) (read : Read) → IsScopes s z → ArePlaces s r → AreTables s read.tables → KnowsTypes s.image read.tables → read.members ≡ r.members → read.numbers ≡ z.numbers
    → IsRead s read
read_all s z r read ok places tables types ms ns =
    let named : read.tables.names ≡ r.names = tables.names ∙ sym places.names in
    record {
      tables = tables;
      types = types;
      aligned = ap length ms ∙ places.aligned.members ∙ sym (ap length named);
      within = λ k at h.
          let below = places_within s z r ok places k at (ap (λ l. slice_get l k) (sym ms) ∙ h) in
          let paired = ok.paired in
          let long = ap length ns in
          omega (arith, below, paired, long);
      numbers = λ k at number name f g h.
          number_of s z r ok places k at number name (ap (λ l. slice_get l k) (sym named) ∙ f) (ap (λ l. slice_get l k) (sym ms) ∙ g) (ap (λ l. slice_get l at) (sym ns) ∙ h);
    }

-- ---- the walk over the tables as one over the world

steps_same : (s : Sources) (t : Tables) (steps : List (List ℕ)) → AreTables s t → AreSteps (hierarchy_in t) t.names steps → AreSteps (hierarchy_of s) (declared_names s) steps
steps_same s t steps tables are =
    subst (λ (w : Hierarchy). AreSteps w (declared_names s) steps) tables.hierarchy
    (subst (λ (ns : List TypeName). AreSteps (hierarchy_in t) ns steps) tables.names are)

listed_same : (s : Sources) (t : Tables) → AreTables s t → IsListed (hierarchy_of s) (declared_names s)
listed_same s t tables =
    subst (λ (w : Hierarchy). IsListed w (declared_names s)) tables.hierarchy
    (subst (λ (ns : List TypeName). IsListed (hierarchy_in t) ns) tables.names
    (tables_listed t tables.paired (λ j k name f g. declared_once s j k name (ap (λ l. slice_get l j) (sym tables.names) ∙ f) (ap (λ l. slice_get l k) (sym tables.names) ∙ g))))

pub world_is : (s : Sources) (read : Read) (w : Content) → IsRead s read → IsFirstOf read.tables None → w.nodes ≡ [] → w.tables ≡ read.tables → IsWorldOf s w
world_is s read w is first nodes same =
    let are = steps_same s read.tables first.steps is.tables first.are in
    let listed = listed_same s read.tables is.tables in
    record {
      hierarchy = ap hierarchy_in same ∙ is.tables.hierarchy;
      nodes = nodes;
      types = subst (KnowsTypes s.image) (sym same) is.types;
      acyclic = none_is_cyclic s first.steps are listed first.back;
      grounded = none_is_grounded s first.steps are listed first.back;
    }

-- ---- the number of the assembly of the first

filter_passes : {X : Type 0} (p : X → Bool) (xs : List X) (x : X) → Contains (filter p xs) x → p x ≡ true
filter_passes p [] x c = absurd (none_in x c)
filter_passes p (y ∷ ys) x c = elim (cases_Bool (p y)) [
  | inl e ↦ elim (in_cases y x (filter p ys) (subst (λ l. Contains l x) (ap (λ b. cond b (y ∷ filter p ys) (filter p ys)) e) c)) [
    | inl same ↦ ap p (sym same) ∙ e
    | inr d ↦ filter_passes p ys x d
  ]
  | inr e ↦ filter_passes p ys x (subst (λ l. Contains l x) (ap (λ b. cond b (y ∷ filter p ys) (filter p ys)) e) c)
]

same_member : (m : Member) (paths : List (List TypeId)) (d : Declared) → Contains (map (λ (path : List TypeId). record { member = m; path = path }) paths) d → d.member ≡ m
same_member m [] d c = absurd (none_in d c)
same_member m (path ∷ paths) d c = elim (in_cases _ d (map (λ (path : List TypeId). record { member = m; path = path }) paths) c) [
  | inl e ↦ ap (λ (x : Declared). x.member) (sym e)
  | inr h ↦ same_member m paths d h
]

member_passes : (s : Sources) (ms : List Member) (d : Declared) → ((m : Member) → Contains ms m → is_declaring s m ≡ true) → Contains (flat_map declared_in ms) d → is_declaring s d.member ≡ true
member_passes s [] d each c = absurd (none_in d c)
member_passes s (m ∷ ms) d each c = elim (Contains-append_cases (declared_in m) (flat_map declared_in ms) d c) [
  | inl h ↦ ap (is_declaring s) (same_member m (flat_map typedef_paths m.assembly.types) d h) ∙ each m (first_in m ms)
  | inr h ↦ member_passes s ms d (λ n g. each n (later_in m n ms g)) h
]

declared_declaring : (s : Sources) (k : ℕ) (d : Declared) → slice_get (all_declared s) k ≡ Some d → is_declaring s d.member ≡ true
unfolding all_declared
declared_declaring s k d h =
    member_passes s (declaring s) d (λ m c. filter_passes (is_declaring s) (members s) m c) (in_by_place (flat_map declared_in (declaring s)) k d h)

number_same : (s : Sources) (d : Declared) (name : TypeName) (m : Member) → is_declaring s d.member ≡ true → world_name s d ≡ name → member_of s name.scope ≡ Some m → m.number ≡ d.member.number
number_same s d name m is same of =
    (Decides-eqb m.number d.member.number).0
    (sym (ap (has_number d.member.number) (ap (λ (n : TypeName). member_of s n.scope) same ∙ of)) ∙ is)

cyclic_named : (s : Sources) (read : Read) (k assembly : ℕ) (at : TypeName) → IsRead s read → IsFirstOf read.tables (Some k) → IsNamedAt read k assembly at → IsCyclicType s assembly at
cyclic_named s read k assembly at is first named =
    let are = steps_same s read.tables first.steps is.tables first.are in
    let listed = listed_same s read.tables is.tables in
    let found = first_is_cyclic s first.steps are listed k named.name first.back (ap (λ l. slice_get l k) (sym is.tables.names) ∙ named.named) in
    let of = is.numbers k named.member assembly named.name named.named named.in_member named.number in
    let d = found.type in
    let declaring = declared_declaring s found.first.place d found.first.is in
    record {
      type = d;
      first = found.first;
      number = sym of.is ∙ number_same s d named.name of.member declaring found.named of.of;
      named = named.is ∙ ap (λ (n : TypeName). full_name Here n.path) (sym found.named);
    }

pub fault_is : (s : Sources) (read : Read) (k : ℕ) (e : WorldFault) → IsRead s read → IsFirstOf read.tables (Some k) → IsFaultAt read k e → IsFaultOf s e
fault_is s read k (Cyclic assembly at) is first h = cyclic_named s read k assembly at is first h
fault_is s read k NoMemory is first h = h
