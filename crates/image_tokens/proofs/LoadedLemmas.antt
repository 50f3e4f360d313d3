-- One text more in the heap of user strings.
use Rattle.std.proofs.Common.{◌≡◌, ◌⊎◌, ap, refl, sym, ◌∙◌, subst, ℕ, zero, suc, ◌+◌, ◌*◌, ◌/◌, ◌%◌, Bool, true, false, cond, List, [], ◌∷◌, ◌++◌, length, Some, Result, Ok, Err, inl, inr, arith}
use Rattle.std.specs.Prelude.{slice_get, Contains, IfOk, OnOk, nat_lt}
use Rattle.std.specs.List.{AllByRecursion}
use Rattle.std.proofs.lemmas.List.{length-append}
use Rattle.std.proofs.lemmas.List.Elements.{Contains-append_cases}
use Rattle.il_base.specs.Numbers.{packed_bytes}
use Rattle.assembly_tree.specs.Room.{packed_width, entry_size}
use Rattle.heaps.specs.Content.{HasUnits}
use Rattle.heaps.specs.Heap.{Heap, Grows}
use Rattle.heaps.specs.Written.{IsUnitsEntry}
use Rattle.image_tokens.specs.Loaded.{AreUnits, AreLoaded}
use Rattle.image_tokens.specs.Units.{HoldsUnits, KeepsUnits, bytes_of_units}
use Rattle.image_tokens.proofs.DistinctLemmas.{find_text, room_there, room_new}

-- ---- texts as bytes

-- bytes tell units apart
pub one_text : (a b : List ℕ) → AreUnits a → AreUnits b → bytes_of_units a ≡ bytes_of_units b → a ≡ b
one_text [] [] p q e = refl
one_text [] (y ∷ b) p q e = absurd cc
one_text (x ∷ a) [] p q e = absurd cc
one_text (x ∷ a) (y ∷ b) p q e =
    let low : x % 256 ≡ y % 256 = cc in
    let high : x / 256 % 256 ≡ y / 256 % 256 = cc in
    let more : bytes_of_units a ≡ bytes_of_units b = cc in
    let small = p.0 in
    let also = q.0 in
    let same : x ≡ y = omega arith in
    let rest = one_text a b p.1 q.1 more in
    λ i. same i ∷ rest i

pub two_each : (units : List ℕ) → length (bytes_of_units units) ≡ 2 * length units
two_each [] = refl
two_each (x ∷ units) = let rest = two_each units in omega arith

-- ---- the length of an entry

cond_length : (a b : Bool) (x y z : List ℕ) → length x ≡ 1 → length y ≡ 2 → length z ≡ 4 → length (cond a x (cond b y z)) ≡ cond a 1 (cond b 2 4)
cond_length true b x y z p q r = p
cond_length false true x y z p q r = q
cond_length false false x y z p q r = r

packed_length : (n : ℕ) → length (packed_bytes n) ≡ packed_width n
packed_length n = cond_length (nat_lt n 128) (nat_lt n 16384) _ _ _ refl refl refl

pub entry_length : (units entry : List ℕ) → IsUnitsEntry (bytes_of_units units) entry → length entry ≡ entry_size units
entry_length units entry (last, is, h) =
    let long : length (bytes_of_units units) ≡ 2 * length units = two_each units in
    let count : length (bytes_of_units units) + 1 ≡ 2 * length units + 1 = omega arith in
    let head = packed_length (length (bytes_of_units units) + 1) ∙ ap packed_width count in
    let body : length (bytes_of_units units ++ last ∷ []) ≡ 2 * length units + 1 = length-append (bytes_of_units units) (last ∷ []) ∙ count in
    ap (length {A = ℕ}) is ∙ length-append (packed_bytes (length (bytes_of_units units) + 1)) (bytes_of_units units ++ last ∷ []) ∙ (λ i. head i + body i)

-- ---- lists with one more

pub front : {X : Type 0} (xs ys : List X) (x : X) (k : ℕ) → slice_get xs k ≡ Some x → slice_get (xs ++ ys) k ≡ Some x
front [] ys x k h = absurd cc
front (z ∷ xs) ys x zero h = h
front (z ∷ xs) ys x (suc k) h = front xs ys x k h

behind : {X : Type 0} (xs : List X) (x : X) → slice_get (xs ++ x ∷ []) (length xs) ≡ Some x
behind [] x = refl
behind (z ∷ xs) x = behind xs x

all_item : {X : Type 0} (P : X → Type 0) (xs : List X) (k : ℕ) (x : X) → AllByRecursion P xs → slice_get xs k ≡ Some x → P x
all_item P [] k x all h = absurd cc
all_item P (y ∷ xs) zero x all h = let e : y ≡ x = cc in subst P e all.0
all_item P (y ∷ xs) (suc k) x all h = all_item P xs k x all.1 h

all_end : {X : Type 0} (P : X → Type 0) (xs : List X) (x : X) → AllByRecursion P xs → P x → AllByRecursion P (xs ++ x ∷ [])
all_end P [] x all p = (p, tt)
all_end P (y ∷ xs) x all p = (all.0, all_end P xs x all.1 p)

all_later : {X : Type 0} (P Q : X → Type 0) (xs : List X) → ((x : X) → P x → Q x) → AllByRecursion P xs → AllByRecursion Q xs
all_later P Q [] f all = tt
all_later P Q (x ∷ xs) f all = (f x all.0, all_later P Q xs f all.1)

single : (i j : ℕ) → Contains (i ∷ []) j → i ≡ j
single i j (zero, less, is) = is
single i j (suc k, less, is) = absurd (omega arith)

-- ---- one text more

abbrev Held : Heap → List ℕ → Type 0
Held user text = (index : ℕ) × HoldsUnits user (bytes_of_units text) index

module _ (user new : Heap) (ts : List (List ℕ)) (u : List ℕ) (loaded : AreLoaded user ts) (small : AreUnits u) where
  -- it was there
  load_there : (k : ℕ) → slice_get ts k ≡ Some u → new ≡ user → AreLoaded new (ts ++ u ∷ [])
  load_there k at same =
      let held : Held user u = all_item (Held user) ts k u loaded.each at in
      subst (λ (h : Heap). AreLoaded h (ts ++ u ∷ [])) (sym same) (record {
        units = all_end AreUnits ts u loaded.units small;
        each = all_end (Held user) ts u loaded.each held;
        only = λ index there. let o = loaded.only index there in (o.0, o.1, front ts (u ∷ []) o.1 o.0 o.2, o.3);
        size = loaded.size ∙ sym (room_there ts u k at);
      })

  -- it came
  load_new : ((k : ℕ) → slice_get ts k ≡ Some u → ⊥) → (index : ℕ) → HoldsUnits new (bytes_of_units u) index → KeepsUnits user new
      → Grows (IsUnitsEntry (bytes_of_units u)) user new index → AreLoaded new (ts ++ u ∷ [])
  load_new none index holds keeps (entry, bytes, used, is) = record {
    units = all_end AreUnits ts u loaded.units small;
    each = all_end (Held new) ts u
        (all_later (Held user) (Held new) ts (λ t h. (h.0, record { there = keeps.units h.0 (bytes_of_units t) h.1.there; used = keeps.used h.0 h.1.used })) loaded.each)
        (index, holds);
    only = λ j there. elim (Contains-append_cases user.used (index ∷ []) j (subst (λ xs. Contains xs j) used there)) [
      | inl old ↦ let o = loaded.only j old in (o.0, o.1, front ts (u ∷ []) o.1 o.0 o.2, keeps.units j (bytes_of_units o.1) o.3)
      | inr one ↦
          (length ts, u, behind ts u, subst (λ (k : ℕ). HasUnits new.bytes k (bytes_of_units u)) (single index j one) holds.there)
    ];
    size =
        let long = ap (length {A = ℕ}) bytes ∙ length-append user.bytes entry in
        let more = entry_length u entry is in
        let room = room_new ts u none in
        let was = loaded.size in
        omega arith;
  }

  -- what stands at its index was no other
  was_there : ((heap : List ℕ) (index : ℕ) (units other : List ℕ) → HasUnits heap index units → HasUnits heap index other → units ≡ other)
      → ((k : ℕ) → slice_get ts k ≡ Some u → ⊥) → (index : ℕ) → HoldsUnits user (bytes_of_units u) index → ⊥
  was_there one none index holds =
      let o = loaded.only index holds.used in
      let same : u ≡ o.1 =
      one_text u o.1 small (all_item AreUnits ts o.0 o.1 loaded.units o.2) (one user.bytes index (bytes_of_units u) (bytes_of_units o.1) holds.there o.3) in
      none o.0 (o.2 ∙ ap Some (sym same))

pub load_more : {E : Type 0} (user new : Heap) (ts : List (List ℕ)) (u : List ℕ) (r : Result ℕ E)
    → ((heap : List ℕ) (index : ℕ) (units other : List ℕ) → HasUnits heap index units → HasUnits heap index other → units ≡ other)
    → AreUnits u → IfOk r (HoldsUnits new (bytes_of_units u)) → ((index : ℕ) → HoldsUnits user (bytes_of_units u) index → new ≡ user) → KeepsUnits user new
    → IfOk r (λ index. (new ≡ user) ⊎ Grows (IsUnitsEntry (bytes_of_units u)) user new index) → AreLoaded user ts → OnOk r (AreLoaded new (ts ++ u ∷ []))
load_more user new ts u (Err e) one small holds known keeps grown loaded = tt
load_more user new ts u (Ok index) one small holds known keeps grown loaded = elim (find_text u ts) [
  | inl there ↦
      let held : Held user u = all_item (Held user) ts there.0 u loaded.each there.1 in
      load_there user new ts u loaded small there.0 there.1 (known held.0 held.1)
  | inr none ↦ elim grown [
    | inl same ↦ absurd (was_there user new ts u loaded small one none index (subst (λ (h : Heap). HoldsUnits h (bytes_of_units u) index) same holds))
    | inr more ↦ load_new user new ts u loaded small none index holds keeps more
  ]
]

-- an answer that is known
pub found_is : {E : Type 0} (H : ℕ → Type 0) (r : Result ℕ E) → ((index : ℕ) → H index → r ≡ Ok index) → IfOk r (λ found. (index : ℕ) → H index → found ≡ index)
found_is H (Err e) known = tt
found_is H (Ok x) known = λ index h. let e = known index h in cc
