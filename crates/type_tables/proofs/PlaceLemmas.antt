-- Where the names of a world are declared, assembly after assembly.
use Rattle.std.proofs.Common.{◌≡◌, ◌∙◌, ap, sym, subst, refl, inl, inr, arith, None, Some, ℕ, zero, suc, ◌+◌, ◌<◌, ◌≤◌, Bool, true, false, ◌||◌, cond, if◌then◌else◌, List, [], ◌∷◌, ◌++◌, length, map, take, Option}
use Rattle.std.specs.Prelude.{slice_get, nat_eq, option_and_then, fold}
use Rattle.std.specs.List.{Contains, filter, find, flat_map, list_any}
use Rattle.std.proofs.lemmas.Bool.{cases_Bool}
use Rattle.std.proofs.lemmas.Bool.Decides.{Decides-eqb}
use Rattle.std.proofs.lemmas.Grind.{flat_map-append}
use Rattle.std.proofs.lemmas.List.{append-nil, map-append}
use Rattle.std.proofs.lemmas.List.Elements.{filter-append}
use Rattle.std.proofs.lemmas.List.Folds.{fold-map}
use Rattle.std.proofs.lemmas.List.Sums.{fold-append}
use Rattle.std.proofs.lemmas.Option.{same_Some}
use Rattle.type_terms.specs.declared.name.Scope.{Scope}
use Rattle.type_terms.specs.declared.name.Scope.TheVariants.{Here}
use Rattle.type_terms.specs.declared.name.TypeId.{TypeId}
use Rattle.type_terms.specs.declared.name.TypeName.{TypeName}
use Rattle.assembly_tree.specs.declared.assembly.Assembly.{Assembly}
use Rattle.assembly_tree.specs.declared.typedef.TypeDef.{TypeDef}
use Rattle.assembly_tree.specs.DataSize.{type_at}
use Rattle.assembly_tree.specs.WellFormed.{are_classes}
use Rattle.type_hierarchy.specs.Ancestors.{Declared, all_declared, declared_in, declared_names, declaring, has_number, typedef_paths, world_name}
use Rattle.type_hierarchy.specs.Declarations.{Place, place_in, place_of}
use Rattle.type_hierarchy.specs.Gathered.{with_name}
use Rattle.type_tables.specs.Members.{IsMeaning, member}
use Rattle.type_hierarchy.specs.Names.{full_name, is_among, same_name, same_scope, same_text}
use Rattle.type_tables.specs.Placed.{IsAt, placed}
use Rattle.type_hierarchy.specs.Scopes.{Sources, Member, member_of, members, members_from, name_of, own_scope}
use Rattle.type_hierarchy.specs.declared.meanings.Meanings.{Meanings}
use Rattle.type_tables.proofs.MarkLemmas.{among_with, or_assoc, or_false}
use Rattle.type_hierarchy.proofs.TableLemmas.{name_decides, scope_decides}
use Rattle.type_tables.proofs.TreePlaces.{any_in, at_type, first_in, flat_in, in_cases, later_in, map_in, none_in, path_in}

-- ---- what a search finds

or_left : (a b : Bool) → (a || b) ≡ false → a ≡ false
or_left true b h = h
or_left false b h = refl

or_right : (a b : Bool) → (a || b) ≡ false → b ≡ false
or_right true b h = absurd (let f : ⊥ = cc in f)
or_right false b h = h

pub first_found : {X : Type 0} (p : X → Bool) (xs : List X) (k : ℕ) (x : X) → slice_get xs k ≡ Some x → list_any p (take k xs) ≡ false → p x ≡ true → find p xs ≡ Some x
first_found p [] k x at none h = absurd (let f : ⊥ = cc in f)
first_found p (y ∷ ys) zero x at none h = let e : y ≡ x = same_Some y x at in ap (λ b. cond b (Some y) (find p ys)) (ap p e ∙ h) ∙ ap Some e
first_found p (y ∷ ys) (suc k) x at none h =
    ap (λ b. cond b (Some y) (find p ys)) (or_left (p y) (list_any p (take k ys)) none)
    ∙ first_found p ys k x at (or_right (p y) (list_any p (take k ys)) none) h

-- what one search finds before a place
pub record IsEarlier {X : Type 0} (p : X → Bool) (xs : List X) (k : ℕ) : Type 0 where
  pub place : ℕ
  pub item : X
  pub before : place < k
  pub at : slice_get xs place ≡ Some item
  pub found : find p xs ≡ Some item

pub earlier_found : {X : Type 0} (p : X → Bool) (xs : List X) (k : ℕ) → list_any p (take k xs) ≡ true → IsEarlier p xs k
earlier_found p [] zero h = absurd (let f : ⊥ = cc in f)
earlier_found p [] (suc k) h = absurd (let f : ⊥ = cc in f)
earlier_found p (y ∷ ys) zero h = absurd (let f : ⊥ = cc in f)
earlier_found p (y ∷ ys) (suc k) h = elim (cases_Bool (p y)) [
  | inl e ↦ record { place = 0; item = y; before = omega arith; at = refl; found = ap (λ b. cond b (Some y) (find p ys)) e }
  | inr e ↦
      let more = earlier_found p ys k (sym (ap (λ b. b || list_any p (take k ys)) e) ∙ h) in
      let low = more.before in
      record { place = suc more.place; item = more.item; before = omega arith; at = more.at; found = ap (λ b. cond b (Some y) (find p ys)) e ∙ more.found }
]

pub find_passes : {X : Type 0} (p : X → Bool) (xs : List X) (x : X) → find p xs ≡ Some x → Contains xs x × (p x ≡ true)
find_passes p [] x h = absurd (let f : ⊥ = cc in f)
find_passes p (y ∷ ys) x h = elim (cases_Bool (p y)) [
  | inl e ↦
      let same : y ≡ x = same_Some y x (sym (ap (λ b. cond b (Some y) (find p ys)) e) ∙ h) in
      (subst (Contains (y ∷ ys)) same (first_in y ys), ap p (sym same) ∙ e)
  | inr e ↦
      let more = find_passes p ys x (sym (ap (λ b. cond b (Some y) (find p ys)) e) ∙ h) in
      (later_in y x ys more.0, more.1)
]

pub filter_in : {X : Type 0} (p : X → Bool) (xs : List X) (x : X) → Contains xs x → p x ≡ true → Contains (filter p xs) x
filter_in p [] x c h = absurd (none_in x c)
filter_in p (y ∷ ys) x c h = elim (cases_Bool (p y)) [
  | inl e ↦ subst (λ l. Contains l x) (sym (ap (λ b. cond b (y ∷ filter p ys) (filter p ys)) e)) (elim (in_cases y x ys c) [
    | inl same ↦ subst (Contains (y ∷ filter p ys)) same (first_in y (filter p ys))
    | inr d ↦ later_in y x (filter p ys) (filter_in p ys x d h)
  ])
  | inr e ↦ subst (λ l. Contains l x) (sym (ap (λ b. cond b (y ∷ filter p ys) (filter p ys)) e)) (elim (in_cases y x ys c) [
    | inl same ↦ absurd (let t : p y ≡ true = ap p same ∙ h in let f : ⊥ = cc in f)
    | inr d ↦ filter_in p ys x d h
  ])
]

-- ---- the numbers of assemblies differ

abbrev given_by : Bool → List Member → Member → List Member → List Member
given_by b skipped m kept = if b then skipped else m ∷ kept

number_here : (k : ℕ) (one : Member) (kept : List Member) (i : ℕ) (m : Member) → one.number ≡ k → ((j : ℕ) → slice_get kept j ≡ Some m → k + 1 ≤ m.number)
    → slice_get (one ∷ kept) i ≡ Some m → k ≤ m.number
number_here k one kept zero m is more h = let e = ap (λ (x : Member). x.number) (same_Some one m h) in omega (arith, is, e)
number_here k one kept (suc j) m is more h = let low = more j h in omega (arith, low)

numbers_from : (k : ℕ) (before : List (List ℕ)) (rs : List Assembly) (i : ℕ) (m : Member) → slice_get (members_from k before rs) i ≡ Some m → k ≤ m.number
numbers_from k before [] i m h = absurd (let f : ⊥ = cc in f)
numbers_from k before (r ∷ rs) i m h =
    let skipped = members_from (k + 1) before rs in
    let kept = members_from (k + 1) (before ++ name_of r ∷ []) rs in
    let one : Member = record { number = k; assembly = r } in
    elim (cases_Bool (list_any (same_text (name_of r)) before)) [
      | inl e ↦
          let low = numbers_from (k + 1) before rs i m (sym (ap (λ b. slice_get (given_by b skipped one kept) i) e) ∙ h) in
          omega (arith, low)
      | inr e ↦ number_here k one kept i m refl (λ j at. numbers_from (k + 1) (before ++ name_of r ∷ []) rs j m at) (sym (ap (λ b. slice_get (given_by b skipped one kept) i) e) ∙ h)
    ]

one_more : (k : ℕ) (one : Member) (kept : List Member) → one.number ≡ k
    → ((j : ℕ) (b : Member) → slice_get kept j ≡ Some b → k + 1 ≤ b.number)
    → ((i j : ℕ) (a b : Member) → slice_get kept i ≡ Some a → slice_get kept j ≡ Some b → a.number ≡ b.number → i ≡ j)
    → (i j : ℕ) (a b : Member) → slice_get (one ∷ kept) i ≡ Some a → slice_get (one ∷ kept) j ≡ Some b → a.number ≡ b.number → i ≡ j
one_more k one kept is low rest zero zero a b f g e = refl
one_more k one kept is low rest zero (suc j) a b f g e =
    absurd (let x = ap (λ (y : Member). y.number) (same_Some one a f) in let z = low j b g in omega (arith, is, x, z, e))
one_more k one kept is low rest (suc i) zero a b f g e =
    absurd (let x = ap (λ (y : Member). y.number) (same_Some one b g) in let z = low i a f in omega (arith, is, x, z, e))
one_more k one kept is low rest (suc i) (suc j) a b f g e = ap suc (rest i j a b f g e)

numbers_differ : (k : ℕ) (before : List (List ℕ)) (rs : List Assembly) (i j : ℕ) (a b : Member)
    → slice_get (members_from k before rs) i ≡ Some a → slice_get (members_from k before rs) j ≡ Some b → a.number ≡ b.number → i ≡ j
numbers_differ k before [] i j a b f g e = absurd (let h : ⊥ = cc in h)
numbers_differ k before (r ∷ rs) i j a b f g e =
    let skipped = members_from (k + 1) before rs in
    let kept = members_from (k + 1) (before ++ name_of r ∷ []) rs in
    let one : Member = record { number = k; assembly = r } in
    elim (cases_Bool (list_any (same_text (name_of r)) before)) [
      | inl t ↦
          numbers_differ (k + 1) before rs i j a b
          (sym (ap (λ c. slice_get (given_by c skipped one kept) i) t) ∙ f) (sym (ap (λ c. slice_get (given_by c skipped one kept) j) t) ∙ g) e
      | inr t ↦
          one_more k one kept refl (λ l m at. numbers_from (k + 1) (before ++ name_of r ∷ []) rs l m at)
          (λ l m x y p q h. numbers_differ (k + 1) (before ++ name_of r ∷ []) rs l m x y p q h) i j a b
          (sym (ap (λ c. slice_get (given_by c skipped one kept) i) t) ∙ f) (sym (ap (λ c. slice_get (given_by c skipped one kept) j) t) ∙ g) e
    ]

pub members_differ : (s : Sources) (i j : ℕ) (a b : Member) → slice_get (members s) i ≡ Some a → slice_get (members s) j ≡ Some b → a.number ≡ b.number → i ≡ j
members_differ s i j a b f g e =
    one_more 0 (record { number = 0; assembly = s.image }) (members_from 1 (name_of s.image ∷ []) s.references) refl
    (λ l m at. numbers_from 1 (name_of s.image ∷ []) s.references l m at)
    (λ l m x y p q h. numbers_differ 1 (name_of s.image ∷ []) s.references l m x y p q h) i j a b f g e

-- ---- which assemblies declare

abbrev pub has_scope : Sources → Scope → Member → Bool
has_scope s scope m = same_scope (own_scope s m) scope

abbrev pub is_declaring : Sources → Member → Bool
is_declaring s m = has_number m.number (member_of s (own_scope s m))

scope_same : (s : Sources) (m : Member) → has_scope s (own_scope s m) m ≡ true
scope_same s m = (scope_decides (own_scope s m) (own_scope s m)).1 refl

pub is_member_of : (s : Sources) (k : ℕ) (m : Member) → slice_get (members s) k ≡ Some m → list_any (has_scope s (own_scope s m)) (take k (members s)) ≡ false
    → member_of s (own_scope s m) ≡ Some m
unfolding member_of
is_member_of s k m at none = first_found (has_scope s (own_scope s m)) (members s) k m at none (scope_same s m)

declares_by : (m : Member) (o : Option Member) → o ≡ Some m → has_number m.number o ≡ true
declares_by m o e = ap (has_number m.number) e ∙ (Decides-eqb m.number m.number).1 refl

pub declares : (s : Sources) (m : Member) → member_of s (own_scope s m) ≡ Some m → is_declaring s m ≡ true
declares s m e = declares_by m (member_of s (own_scope s m)) e

other_of : (s : Sources) (k : ℕ) (m : Member) → slice_get (members s) k ≡ Some m → (IsEarlier (has_scope s (own_scope s m)) (members s) k)
    → is_declaring s m ≡ false
unfolding member_of
other_of s k m at other =
    let place = other.place in
    let low = other.before in
    ap (has_number m.number) other.found ∙ elim (cases_Bool (nat_eq other.item.number m.number)) [
      | inl e ↦ absurd (let same = members_differ s place k other.item m other.at at ((Decides-eqb other.item.number m.number).0 e) in omega (arith, same, low))
      | inr e ↦ e
    ]

pub declares_not : (s : Sources) (k : ℕ) (m : Member) → slice_get (members s) k ≡ Some m → list_any (has_scope s (own_scope s m)) (take k (members s)) ≡ true
    → is_declaring s m ≡ false
declares_not s k m at some = other_of s k m at (earlier_found (has_scope s (own_scope s m)) (members s) k some)

-- ---- the names of the first assemblies

abbrev pub names_of : Sources → List Member → List TypeName
names_of s ms = fold with_name [] (map (world_name s) (flat_map declared_in (filter (is_declaring s) ms)))

one_member : (s : Sources) (m : Member) (names : List TypeName) (scope : Scope) → scope ≡ own_scope s m
    → fold with_name names (map (world_name s) (declared_in m)) ≡ placed scope [] names (flat_map typedef_paths m.assembly.types)
unfolding placed
one_member s m names scope e =
    fold-map with_name (world_name s) names (declared_in m)
    ∙ fold-map (λ ns d. with_name ns (world_name s d)) (λ (path : List TypeId). record { member = m; path = path }) names (flat_map typedef_paths m.assembly.types)
    ∙ (λ i. fold (λ (ns : List TypeName) (path : List TypeId). with_name ns (full_name (sym e i) path)) names (flat_map typedef_paths m.assembly.types))

names_split : (s : Sources) (ms : List Member) (m : Member) → names_of s (ms ++ m ∷ []) ≡ fold with_name (names_of s ms) (map (world_name s) (flat_map declared_in (filter (is_declaring s) (m ∷ []))))
names_split s ms m =
    ap (λ l. fold with_name [] (map (world_name s) (flat_map declared_in l))) (filter-append (is_declaring s) ms (m ∷ []))
    ∙ ap (λ l. fold with_name [] (map (world_name s) l)) (flat_map-append declared_in (filter (is_declaring s) ms) (filter (is_declaring s) (m ∷ [])))
    ∙ ap (fold with_name []) (map-append (world_name s) (flat_map declared_in (filter (is_declaring s) ms)) (flat_map declared_in (filter (is_declaring s) (m ∷ []))))
    ∙ fold-append with_name [] (map (world_name s) (flat_map declared_in (filter (is_declaring s) ms))) (map (world_name s) (flat_map declared_in (filter (is_declaring s) (m ∷ []))))

pub names_with : (s : Sources) (ms : List Member) (m : Member) (now next : List TypeName) (scope : Scope) → is_declaring s m ≡ true → scope ≡ own_scope s m
    → now ≡ names_of s ms → next ≡ placed scope [] now (flat_map typedef_paths m.assembly.types) → next ≡ names_of s (ms ++ m ∷ [])
names_with s ms m now next scope is own before more =
    more ∙ sym (one_member s m now scope own)
    ∙ ap (λ ns. fold with_name ns (map (world_name s) (declared_in m))) before
    ∙ ap (λ l. fold with_name (names_of s ms) (map (world_name s) l)) (sym (append-nil (declared_in m)))
    ∙ ap (λ b. fold with_name (names_of s ms) (map (world_name s) (flat_map declared_in (cond b (m ∷ []) [])))) (sym is)
    ∙ sym (names_split s ms m)

pub names_without : (s : Sources) (ms : List Member) (m : Member) (now : List TypeName) → is_declaring s m ≡ false → now ≡ names_of s ms → now ≡ names_of s (ms ++ m ∷ [])
names_without s ms m now isnt before =
    before
    ∙ ap (λ b. fold with_name (names_of s ms) (map (world_name s) (flat_map declared_in (cond b (m ∷ []) [])))) (sym isnt)
    ∙ sym (names_split s ms m)

pub names_all : (s : Sources) → names_of s (members s) ≡ declared_names s
unfolding declared_names all_declared
names_all s = refl

-- ---- where a name is declared

pub place_at : (s : Sources) (m : Member) (path : List TypeId) (t : TypeDef) → member_of s (own_scope s m) ≡ Some m → are_classes m.assembly ≡ true
    → IsAt m.assembly.types path t → place_of s (full_name (own_scope s m) path) ≡ Some (record { member = m; typedef = t })
unfolding place_of
place_at s m path t first formed at =
    ap (option_and_then (λ (x : Member). place_in x (type_at x.assembly.types path))) first
    ∙ ap (place_in m) (at_type m.assembly true 100 formed at)

-- the parts of a place
pub record Parts (s : Sources) (name : TypeName) (p : Place) : Type 0 where
  pub member : Member
  pub typedef : TypeDef
  pub of : member_of s name.scope ≡ Some member
  pub at : type_at member.assembly.types name.path ≡ Some typedef
  pub same : member ≡ p.member

place_type : (s : Sources) (name : TypeName) (p : Place) (m : Member) (o : Option TypeDef) → member_of s name.scope ≡ Some m
    → type_at m.assembly.types name.path ≡ o → place_in m o ≡ Some p → Parts s name p
place_type s name p m None e f h = absurd (let g : ⊥ = cc in g)
place_type s name p m (Some t) e f h = record { member = m; typedef = t; of = e; at = f; same = ap (λ (x : Place). x.member) (same_Some (record { member = m; typedef = t }) p h) }

place_parts : (s : Sources) (name : TypeName) (p : Place) (o : Option Member) → member_of s name.scope ≡ o
    → option_and_then (λ (x : Member). place_in x (type_at x.assembly.types name.path)) o ≡ Some p → Parts s name p
place_parts s name p None e h = absurd (let f : ⊥ = cc in f)
place_parts s name p (Some m) e h = place_type s name p m (type_at m.assembly.types name.path) e refl h

pub parts_of : (s : Sources) (name : TypeName) (p : Place) → place_of s name ≡ Some p → Parts s name p
unfolding place_of
parts_of s name p h = place_parts s name p (member_of s name.scope) refl h

found_member : (s : Sources) (scope : Scope) (m : Member) → member_of s scope ≡ Some m → Contains (members s) m × (own_scope s m ≡ scope)
unfolding member_of
found_member s scope m h =
    let found = find_passes (has_scope s scope) (members s) m h in
    (found.0, (scope_decides (own_scope s m) scope).0 found.1)

among_fold : (names more : List TypeName) (name : TypeName) → is_among (fold with_name names more) name ≡ (is_among names name || is_among more name)
among_fold names [] name = sym (or_false (is_among names name))
among_fold names (n ∷ more) name =
    among_fold (with_name names n) more name
    ∙ ap (λ b. b || is_among more name) (among_with names n name)
    ∙ sym (or_assoc (is_among names name) (same_name name n) (is_among more name))

-- a name that is declared is among the declared names
pub declared_among : (s : Sources) (name : TypeName) (p : Place) → place_of s name ≡ Some p → is_among (declared_names s) name ≡ true
unfolding declared_names all_declared
declared_among s name p h =
    let parts = parts_of s name p h in
    let m = parts.member in
    let found = found_member s name.scope m parts.of in
    let first : member_of s (own_scope s m) ≡ Some m = ap (member_of s) found.1 ∙ parts.of in
    let kept : Contains (declaring s) m = filter_in (is_declaring s) (members s) m found.0 (declares s m first) in
    let path = path_in m.assembly.types name.path parts.typedef parts.at in
    let d : Declared = record { member = m; path = name.path } in
    let there : Contains (flat_map declared_in (declaring s)) d =
    flat_in declared_in (declaring s) m d kept (map_in (λ (path : List TypeId). record { member = m; path = path }) (flat_map typedef_paths m.assembly.types) name.path path) in
    let named : name ≡ world_name s d = λ i. record { scope = sym found.1 i; path = name.path } in
    among_fold [] (map (world_name s) (flat_map declared_in (declaring s))) name
    ∙ any_in (same_name name) (map (world_name s) (flat_map declared_in (declaring s))) (world_name s d)
    (map_in (world_name s) (flat_map declared_in (declaring s)) d there) ((name_decides name (world_name s d)).1 named)

-- ---- what the assemblies are by their meanings

pub owns_same : (s : Sources) (ns : List ℕ) (ms : List Meanings) → length ms ≡ length ns
    → ((k n : ℕ) (m : Meanings) → slice_get ns k ≡ Some n → slice_get ms k ≡ Some m → IsMeaning s (member s n) m)
    → map (λ (m : Meanings). m.own) ms ≡ map (own_scope s) (map (member s) ns)
owns_same s [] [] e h = refl
owns_same s [] (m ∷ ms) e h = absurd (omega (arith, e))
owns_same s (n ∷ ns) [] e h = absurd (omega (arith, e))
owns_same s (n ∷ ns) (m ∷ ms) e h = λ i. h 0 n m refl refl Here i ∷ owns_same s ns ms (omega (arith, e)) (λ k. h (suc k)) i
