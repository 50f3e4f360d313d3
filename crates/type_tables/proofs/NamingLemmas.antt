-- What names of assemblies mean, from the places of the entries.
use Rattle.std.proofs.Common.{◌≡◌, ◌∙◌, ap, refl, sym, ℕ, zero, suc, ◌+◌, ◌-◌, ◌<◌, ◌≤◌, Bool, true, false, ◌||◌, not, cond, if◌then◌else◌, List, [], ◌∷◌, ◌++◌, length, map, get_or, take, None, Some, arith, inl, inr}
use Rattle.std.specs.Prelude.{position, nat_lt, nat_eq, slice_get}
use Rattle.std.specs.List.{position_or_len, list_any, flat_map}
use Rattle.std.proofs.lemmas.Grind.{common_steps, flat_map-append}
use Rattle.std.proofs.lemmas.Bool.{cases_eq, cases_lt}
use Rattle.std.proofs.lemmas.Bool.Decides.{nat_tests}
use Rattle.std.proofs.lemmas.List.{length-map, map-append, take-map, take_more, take_all, append-nil, get_or_past}
use Rattle.std.proofs.lemmas.Option.{slice_get-map, slice_get_read, slice_get_past}
use Rattle.std.proofs.Math.ListN.{get_or-append}
use Rattle.std.proofs.Math.Seq.{get_or-append_seam}
use Rattle.std.specs.Option.{option_map}
use Rattle.type_terms.specs.declared.name.Scope.{Scope}
use Rattle.type_terms.specs.declared.name.Scope.TheVariants.{Here, Extern}
use Rattle.assembly_tree.specs.declared.assembly.Assembly.{Assembly}
use Rattle.assembly_tree.specs.declared.assembly.ExternAssembly.{ExternAssembly}
use Rattle.type_tables.specs.Entries.{IsNaming, extended}
use Rattle.type_hierarchy.specs.Gathered.{scope_by}
use Rattle.type_tables.specs.Members.{IsMeaning, assembly_of, member, scope_seen}
use Rattle.type_hierarchy.specs.Names.{same_text, is_core_name}
use Rattle.type_hierarchy.specs.Scopes.{Sources, Member, core_of, entry, entries, extern_names, extern_or_here, given, is_given, name_of, names_in, image_scope, reference_scope, scope_by_name, scope_in, scope_of_name}
use Rattle.type_hierarchy.specs.declared.meanings.Meanings.{Meanings}
use Rattle.type_tables.specs.declared.naming.Naming.{Naming}
use Rattle.type_hierarchy.proofs.ChainLemmas.{snoc_cases}

pub any_map : {X Y : Type 0} (p : Y → Bool) (f : X → Y) (xs : List X) → list_any p (map f xs) ≡ list_any (λ x. p (f x)) xs
any_map p f [] = refl
any_map p f (x ∷ xs) = ap (λ b. p (f x) || b) (any_map p f xs)

place_map : {X Y : Type 0} (p : Y → Bool) (f : X → Y) (xs : List X) → position_or_len p (map f xs) ≡ position_or_len (λ x. p (f x)) xs
place_map p f [] = refl
place_map p f (x ∷ xs) = let rest = place_map p f xs in grind (arith, common_steps)

pub position_map : {X Y : Type 0} (p : Y → Bool) (f : X → Y) (xs : List X) → position p (map f xs) ≡ position (λ x. p (f x)) xs
position_map p f xs =
    λ i. cond (nat_lt (place_map p f xs i) (length-map xs f i)) (Some (place_map p f xs i)) None

-- ---- the assembly of a number

pub assembly_at : (s : Sources) (number : ℕ) → (number ≡ 0 → ⊥) → assembly_of s number ≡ get_or s.references (number - 1) s.image
assembly_at s zero n = absurd (n refl)
assembly_at s (suc k) n = let e : suc k - 1 ≡ k = omega arith in ap (λ m. get_or s.references m s.image) (sym e)

-- ---- what a name means

module _ (s : Sources) (n : Naming) (ok : IsNaming s n) (from_image : Bool) (itself : Scope) (name : List ℕ) where
  abbrev by_entry : Bool → Scope
  by_entry b = if b then entry s itself name else itself

  abbrev by_image : Bool → Scope
  by_image b = if b then Here else by_entry (not from_image || is_given s name)

  pub means_core : is_core_name name ≡ true → n.core ≡ scope_of_name s from_image itself name
  means_core e = ok.core ∙ sym (ap (λ b. if b then core_of s else by_image (same_text name (name_of s.image))) e)

  module _ (other : is_core_name name ≡ false) where
    abbrev past_core : by_image (same_text name (name_of s.image)) ≡ scope_of_name s from_image itself name
    past_core = sym (ap (λ b. if b then core_of s else by_image (same_text name (name_of s.image))) other)

    pub means_image : same_text name n.image ≡ true → Here ≡ scope_of_name s from_image itself name
    means_image e = sym (ap by_image (ap (same_text name) (sym ok.image) ∙ e)) ∙ past_core

    module _ (no_image : same_text name n.image ≡ false) where
      past_image : by_entry (not from_image || is_given s name) ≡ scope_of_name s from_image itself name
      past_image = sym (ap by_image (ap (same_text name) (sym ok.image) ∙ no_image)) ∙ past_core

      given_is : list_any (same_text name) n.given ≡ is_given s name
      given_is = ap (list_any (same_text name)) ok.given ∙ any_map (same_text name) (λ (m : Member). name_of m.assembly) (given s)

      pub means_entry : (not from_image || list_any (same_text name) n.given) ≡ true → entry s itself name ≡ scope_of_name s from_image itself name
      means_entry e = sym (ap by_entry (ap (λ b. not from_image || b) (sym given_is) ∙ e)) ∙ past_image

      pub means_itself : (not from_image || list_any (same_text name) n.given) ≡ false → itself ≡ scope_of_name s from_image itself name
      means_itself e = sym (ap by_entry (ap (λ b. not from_image || b) (sym given_is) ∙ e)) ∙ past_image

-- ---- one more

pub taken_step : {X Y : Type 0} (f : X → Y) (xs : List X) (i : ℕ) (x : X) → i < length xs → x ≡ get_or xs i x
    → take i (map f xs) ++ f x ∷ [] ≡ take (i + 1) (map f xs)
taken_step f xs i x low is =
    ap (λ ys. ys ++ f x ∷ []) (take-map f i xs)
    ∙ sym (take-map f (i + 1) xs ∙ ap (map f) (take_more xs i x low) ∙ grind (arith, common_steps))

pub taken_all : {X Y : Type 0} (f : X → Y) (xs : List X) (i : ℕ) → length xs ≤ i → take i (map f xs) ≡ map f xs
taken_all f xs i past = take_all i (map f xs) (omega (arith, length-map xs f))

-- ---- what the scopes in an assembly mean

extern_at : (a : Assembly) (k : ℕ) (e : ExternAssembly) → k < length a.externs → e ≡ get_or a.externs k e → slice_get (extern_names a) k ≡ Some e.name
extern_at a k e low is =
    slice_get-map (λ (x : ExternAssembly). x.name) a.externs k ∙ ap (option_map (λ (x : ExternAssembly). x.name)) (slice_get_read a.externs (length a.externs) k e refl low is)

pub seen_at : (s : Sources) (b : Bool) (a : Assembly) (k : ℕ) (e : ExternAssembly) → k < length a.externs → e ≡ get_or a.externs k e
    → scope_of_name s b (Extern k) e.name ≡ scope_seen s b a (Extern k)
seen_at s true a k e low is = ap (scope_by_name s true (Extern k)) (sym (extern_at a k e low is))
seen_at s false a k e low is = ap (scope_by_name s false (Extern k)) (sym (extern_at a k e low is))

seen_past : (s : Sources) (b : Bool) (a : Assembly) (k : ℕ) → length a.externs ≤ k → Extern k ≡ scope_seen s b a (Extern k)
seen_past s true a k past = ap (scope_by_name s true (Extern k)) (sym (slice_get_past (extern_names a) k (omega (arith, length-map a.externs (λ (x : ExternAssembly). x.name)))))
seen_past s false a k past = ap (scope_by_name s false (Extern k)) (sym (slice_get_past (extern_names a) k (omega (arith, length-map a.externs (λ (x : ExternAssembly). x.name)))))

-- one more of the externs
pub meant_more : (s : Sources) (b : Bool) (a : Assembly) (now : List Scope) (i : ℕ) (x : Scope) (all : List Scope) → length now ≡ i
    → ((k : ℕ) → k < i → get_or now k (Extern k) ≡ scope_seen s b a (Extern k)) → x ≡ scope_seen s b a (Extern i) → all ≡ now ++ x ∷ []
    → (k : ℕ) → k < i + 1 → get_or all k (Extern k) ≡ scope_seen s b a (Extern k)
meant_more s b a now i x all count each is more k low = elim (cases_eq k i) [
  | inl e ↦
      (λ j. get_or (more j) (e j) (Extern (e j))) ∙ (λ j. get_or (now ++ x ∷ []) (sym count j) (Extern i))
      ∙ get_or-append_seam now x [] (Extern i) ∙ is ∙ (λ j. scope_seen s b a (Extern (sym e j)))
  | inr n ↦ rw more (get_or-append now (x ∷ []) (Extern k) k (omega arith) ∙ each k (omega arith))
]

pub meant_all : (s : Sources) (b : Bool) (a : Assembly) (m : Meanings) → m.own ≡ scope_seen s b a Here → length m.externs ≡ length a.externs
    → ((k : ℕ) → k < length a.externs → get_or m.externs k (Extern k) ≡ scope_seen s b a (Extern k))
    → (scope : Scope) → scope_by m scope ≡ scope_seen s b a scope
meant_all s b a m own count each Here = own
meant_all s b a m own count each (Extern k) = elim (cases_lt k (length a.externs)) [
  | inl low ↦ each k low
  | inr past ↦ get_or_past m.externs k (Extern k) (omega arith) ∙ seen_past s b a k past
]

-- ---- one more of the references

module _ (s : Sources) (ns : List ℕ) (i x : ℕ) (low : i < length ns) (is : x ≡ get_or ns i x) where
  abbrev all : List Member
  all = map (member s) ns

  pub given_more : map (λ (m : Member). name_of m.assembly) (take i all) ++ name_of (assembly_of s x) ∷ [] ≡ map (λ (m : Member). name_of m.assembly) (take (i + 1) all)
  given_more =
      sym (map-append (λ (m : Member). name_of m.assembly) (take i all) (member s x ∷ []))
      ∙ ap (map (λ (m : Member). name_of m.assembly)) (taken_step (member s) ns i x low is)

  pub names_more : flat_map names_in (take i all) ++ (name_of (assembly_of s x) ∷ extern_names (assembly_of s x)) ≡ flat_map names_in (take (i + 1) all)
  names_more =
      ap (λ l. flat_map names_in (take i all) ++ l) (sym (append-nil (names_in (member s x))))
      ∙ sym (flat_map-append names_in (take i all) (member s x ∷ []))
      ∙ ap (flat_map names_in) (taken_step (member s) ns i x low is)

pub entries_are : (s : Sources) → extended (name_of s.image) (extern_names s.image) (flat_map names_in (given s)) ≡ entries s
unfolding extended entries
entries_are s = refl

pub core_is : (s : Sources) → extern_or_here (position is_core_name (extern_names s.image)) ≡ core_of s
unfolding core_of
core_is s = refl

seen_reference : (s : Sources) (a : Assembly) (scope : Scope) → scope_seen s false a scope ≡ reference_scope s a scope
seen_reference s a Here = refl
seen_reference s a (Extern k) = refl

pub seen_is : (s : Sources) (n : ℕ) (scope : Scope) → scope_seen s (nat_eq n 0) (assembly_of s n) scope ≡ scope_in s (member s n) scope
unfolding scope_in
seen_is s zero Here = refl
seen_is s zero (Extern k) = refl
seen_is s (suc n) scope =
    let no : nat_eq (suc n) 0 ≡ false = grind (arith, nat_tests) in
    let a = assembly_of s (suc n) in
    ap (λ b. scope_seen s b a scope) no ∙ seen_reference s a scope
    ∙ sym (ap (λ b. if b then image_scope s scope else reference_scope s a scope) no)

some_same : (a b : ℕ) → Some a ≡ Some b → a ≡ b
some_same a b e = cc

-- one more of the meanings
pub meaning_more : (s : Sources) (ns : List ℕ) (now all : List Meanings) (i n : ℕ) (x : Meanings) → length now ≡ i
    → ((k m : ℕ) (y : Meanings) → slice_get ns k ≡ Some m → slice_get now k ≡ Some y → IsMeaning s (member s m) y)
    → slice_get ns i ≡ Some n → IsMeaning s (member s n) x → all ≡ now ++ x ∷ []
    → (k m : ℕ) (y : Meanings) → slice_get ns k ≡ Some m → slice_get all k ≡ Some y → IsMeaning s (member s m) y
meaning_more s ns now all i n x count each at is more k m y here there =
    elim (snoc_cases now x y k (ap (λ l. slice_get l k) (sym more) ∙ there)) [
      | inl old ↦ each k m y here old
      | inr new ↦
          let place : k ≡ i = new.0 ∙ count in
          let same : m ≡ n = some_same m n (sym here ∙ ap (slice_get ns) place ∙ at) in
          λ scope. ap (λ u. scope_by u scope) new.1 ∙ is scope ∙ ap (λ q. scope_in s (member s q) scope) (sym same)
    ]
