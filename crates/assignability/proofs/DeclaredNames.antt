-- The names of declared types, each once.
use Rattle.std.proofs.Common.{◌≡◌, inl, inr, refl, sym, ◌∙◌, ap, subst, ℕ, zero, suc, ◌+◌, ◌<◌, ◌≤◌, arith, List, [], ◌∷◌, ◌++◌, length, Some, true, if◌then◌else◌}
use Rattle.std.specs.Prelude.{slice_get, fold}
use Rattle.std.proofs.lemmas.Bool.{cases_Bool}
use Rattle.std.proofs.lemmas.List.{length-append}
use Rattle.std.proofs.lemmas.Option.{slice_get_within}
use Rattle.type_terms.specs.declared.name.TypeName.{TypeName}
use Rattle.type_hierarchy.specs.Gathered.{with_name}
use Rattle.type_hierarchy.specs.Distinct.{AreOnce}
use Rattle.type_hierarchy.specs.Names.{is_among, same_name}
use Rattle.type_hierarchy.proofs.Among.{not_among}
use Rattle.type_hierarchy.proofs.ChainLemmas.{snoc_cases, snoc_old, snoc_new}
use Rattle.type_hierarchy.proofs.TableLemmas.{name_decides}

abbrev pub all_of : List TypeName → List TypeName → List TypeName
all_of now names = fold with_name now names

-- ---- one name more

-- it is among the names, which stay; or it isn't, and comes at the end
data Joins (now : List TypeName) (name : TypeName) (next : List TypeName) : Type 0 where
  known : (j : ℕ) → slice_get now j ≡ Some name → next ≡ now → Joins now name next
  added : ((j : ℕ) → slice_get now j ≡ Some name → ⊥) → next ≡ now ++ name ∷ [] → Joins now name next

find_among : (names : List TypeName) (name : TypeName) → is_among names name ≡ true → (j : ℕ) × (slice_get names j ≡ Some name)
find_among [] name e = absurd (let h : ⊥ = cc in h)
find_among (n ∷ names) name e = elim (cases_Bool (same_name name n)) [
  | inl this ↦ (0, ap Some (sym ((name_decides name n).0 this)))
  | inr other ↦
      let rest : is_among names name ≡ true = cc in
      let j = find_among names name rest in
      (suc j.0, j.1)
]

joins : (now : List TypeName) (name : TypeName) → Joins now name (with_name now name)
joins now name = elim (cases_Bool (is_among now name)) [
  | inl there ↦ let j = find_among now name there in known j.0 j.1 (ap (λ b. if b then now else now ++ name ∷ []) there)
  | inr lacks ↦ added (not_among now name lacks) (ap (λ b. if b then now else now ++ name ∷ []) lacks)
]

-- ---- what was there stays

keeps_one : (now next : List TypeName) (name : TypeName) → Joins now name next → (k : ℕ) (n : TypeName) → slice_get now k ≡ Some n → slice_get next k ≡ Some n
keeps_one now next name (known j at e) k n h = ap (λ l. slice_get l k) e ∙ h
keeps_one now next name (added lacks e) k n h = ap (λ l. slice_get l k) e ∙ snoc_old now name n k h

keeps : (now names : List TypeName) (k : ℕ) (n : TypeName) → slice_get now k ≡ Some n → slice_get (all_of now names) k ≡ Some n
keeps now [] k n h = h
keeps now (name ∷ names) k n h = keeps (with_name now name) names k n (keeps_one now (with_name now name) name (joins now name) k n h)

-- ---- each is there

has_one : (now next : List TypeName) (name : TypeName) → Joins now name next → (j : ℕ) × (slice_get next j ≡ Some name)
has_one now next name (known j at e) = (j, ap (λ l. slice_get l j) e ∙ at)
has_one now next name (added lacks e) = (length now, ap (λ l. slice_get l (length now)) e ∙ snoc_new now name (length now) refl)

pub has_each : (now names : List TypeName) (q : ℕ) (n : TypeName) → slice_get names q ≡ Some n → (j : ℕ) × (slice_get (all_of now names) j ≡ Some n)
has_each now [] q n h = absurd (let z : ⊥ = cc in z)
has_each now (name ∷ names) zero n h =
    let j = has_one now (with_name now name) name (joins now name) in
    (j.0, keeps (with_name now name) names j.0 n (j.1 ∙ h))
has_each now (name ∷ names) (suc q) n h = has_each (with_name now name) names q n h

-- ---- no name stands twice

once_one : (now next : List TypeName) (name : TypeName) → Joins now name next → AreOnce now → AreOnce next
once_one now next name (known j at e) once = subst AreOnce (sym e) once
once_one now next name (added lacks e) once = subst AreOnce (sym e) both
  where
    both : AreOnce (now ++ name ∷ [])
    both j k n f g = elim (snoc_cases now name n j f) [
      | inl a ↦ elim (snoc_cases now name n k g) [
        | inl b ↦ once j k n a b
        | inr b ↦ absurd (lacks j (a ∙ ap Some b.1))
      ]
      | inr a ↦ elim (snoc_cases now name n k g) [
        | inl b ↦ absurd (lacks k (b ∙ ap Some a.1))
        | inr b ↦ a.0 ∙ sym b.0
      ]
    ]

pub once_all : (now names : List TypeName) → AreOnce now → AreOnce (all_of now names)
once_all now [] once = once
once_all now (name ∷ names) once = once_all (with_name now name) names (once_one now (with_name now name) name (joins now name) once)

pub once_none : AreOnce []
once_none j k n f g = absurd (let z : ⊥ = cc in z)

-- ---- the first place of each

-- the name at place k first comes at place p, and each before it is at a place before k
pub record IsFirst (names all : List TypeName) (k : ℕ) (n : TypeName) : Type 0 where
  pub place : ℕ
  pub is : slice_get names place ≡ Some n
  pub before : (q : ℕ) (m : TypeName) → q < place → slice_get names q ≡ Some m → (j : ℕ) × (j < k) × (slice_get all j ≡ Some m)

-- it was there, or comes behind
data Comes (now names all : List TypeName) (k : ℕ) (n : TypeName) : Type 0 where
  was : slice_get now k ≡ Some n → Comes now names all k n
  comes : length now ≤ k → IsFirst names all k n → Comes now names all k n

comes_later : (now next names : List TypeName) (name n : TypeName) (k : ℕ) → Joins now name next → Comes next names (all_of next names) k n → Comes now (name ∷ names) (all_of next names) k n
comes_later now next names name n k (known j at e) (was h) = was (ap (λ l. slice_get l k) (sym e) ∙ h)
comes_later now next names name n k (known j at e) (comes low f) =
    let same : length next ≡ length now = ap length e in
    comes (omega arith) (record {
      place = suc f.place;
      is = f.is;
      before = go;
    })
  where
    go : (q : ℕ) (m : TypeName) → q < suc f.place → slice_get (name ∷ names) q ≡ Some m → (i : ℕ) × (i < k) × (slice_get (all_of next names) i ≡ Some m)
    go zero m h g =
        let there = slice_get_within now j name at in
        let same : length next ≡ length now = ap length e in
        (j, omega arith, keeps next names j m (ap (λ l. slice_get l j) e ∙ at ∙ g))
    go (suc q) m h g = f.before q m (omega arith) g
comes_later now next names name n k (added lacks e) (was h) = elim (snoc_cases now name n k (ap (λ l. slice_get l k) (sym e) ∙ h)) [
  | inl old ↦ was old
  | inr new ↦ comes (let place = new.0 in omega arith) (record {
    place = 0;
    is = ap Some (sym new.1);
    before = λ q m low g. absurd (omega arith);
  })
]
comes_later now next names name n k (added lacks e) (comes low f) =
    let longer : length next ≡ length now + 1 = ap length e ∙ length-append now (name ∷ []) in
    comes (omega arith) (record {
      place = suc f.place;
      is = f.is;
      before = go;
    })
  where
    go : (q : ℕ) (m : TypeName) → q < suc f.place → slice_get (name ∷ names) q ≡ Some m → (i : ℕ) × (i < k) × (slice_get (all_of next names) i ≡ Some m)
    go zero m h g =
        let longer : length next ≡ length now + 1 = ap length e ∙ length-append now (name ∷ []) in
        (length now, omega arith, keeps next names (length now) m (ap (λ l. slice_get l (length now)) e ∙ snoc_new now name (length now) refl ∙ g))
    go (suc q) m h g = f.before q m (omega arith) g

each_comes : (now names : List TypeName) (k : ℕ) (n : TypeName) → slice_get (all_of now names) k ≡ Some n → Comes now names (all_of now names) k n
each_comes now [] k n h = was h
each_comes now (name ∷ names) k n h =
    comes_later now (with_name now name) names name n k (joins now name) (each_comes (with_name now name) names k n h)

pub first_of : (names : List TypeName) (k : ℕ) (n : TypeName) → slice_get (all_of [] names) k ≡ Some n → IsFirst names (all_of [] names) k n
first_of names k n h = go (each_comes [] names k n h)
  where
    go : Comes [] names (all_of [] names) k n → IsFirst names (all_of [] names) k n
    go (was e) = absurd (let z : ⊥ = cc in z)
    go (comes low f) = f

-- ---- there are no more than there are names

joins_length : (now next : List TypeName) (name : TypeName) → Joins now name next → length next ≤ length now + 1
joins_length now next name (known j at e) = let same : length next ≡ length now = ap length e in omega arith
joins_length now next name (added lacks e) = let longer : length next ≡ length now + 1 = ap length e ∙ length-append now (name ∷ []) in omega arith

pub all_length : (now names : List TypeName) → length (all_of now names) ≤ length now + length names
all_length now [] = omega arith
all_length now (name ∷ names) =
    let one = joins_length now (with_name now name) name (joins now name) in
    let more = all_length (with_name now name) names in
    omega arith
