-- Texts that are loaded, some after others.
use Rattle.std.proofs.Common.{◌≡◌, ◌⊎◌, ap, sym, ◌∙◌, subst, ℕ, suc, ◌+◌, ◌<◌, ◌≤◌, ◌^◌, List, [], ◌∷◌, ◌++◌, length, get_or, Result, Ok, Err, inl, inr, arith}
use Rattle.std.specs.Prelude.{Contains, IfOk, OnOk}
use Rattle.std.specs.List.{flat_map}
use Rattle.std.proofs.lemmas.List.{append-nil, append_assoc, length-append}
use Rattle.std.proofs.lemmas.List.Elements.{Contains-append_left}
use Rattle.std.proofs.lemmas.List.Sums.{sum_by-cons}
use Rattle.assembly_tree.specs.Room.{entry_size}
use Rattle.heaps.specs.Content.{HasUnits}
use Rattle.heaps.specs.Heap.{Heap, Grows}
use Rattle.heaps.specs.Written.{IsUnitsEntry}
use Rattle.image_tokens.specs.Loaded.{AreUnits, AreLoaded, Loads, entry_sizes}
use Rattle.image_tokens.specs.Units.{HoldsUnits, KeepsUnits, bytes_of_units}
use Rattle.image_tokens.proofs.LoadedLemmas.{entry_length, load_more}

pub sizes_both : (xs ys : List (List ℕ)) → entry_sizes (xs ++ ys) ≡ entry_sizes xs + entry_sizes ys
sizes_both [] ys = omega arith
sizes_both (x ∷ xs) ys =
    let rest = sizes_both xs ys in
    let a = sum_by-cons entry_size x (xs ++ ys) in
    let b = sum_by-cons entry_size x xs in
    omega arith

pub loads_nothing : (a : Heap) → Loads a a []
loads_nothing a = record { loaded = λ ts h. subst (AreLoaded a) (sym (append-nil ts)) h; size = omega arith }

pub loads_both : (a b c : Heap) (xs ys : List (List ℕ)) → Loads a b xs → Loads b c ys → Loads a c (xs ++ ys)
loads_both a b c xs ys p q = record {
  loaded = λ ts h. subst (AreLoaded c) (append_assoc ts xs ys) (q.loaded (ts ++ xs) (p.loaded ts h));
  size = (let first = p.size in let then = q.size in let both = sizes_both xs ys in omega arith);
}

-- the first texts leave room for those that follow
pub room_left : (a b : Heap) (xs ys whole : List (List ℕ)) → whole ≡ xs ++ ys → length a.bytes + entry_sizes whole ≤ 2 ^ 26 → Loads a b xs → length b.bytes + entry_sizes ys ≤ 2 ^ 26
room_left a b xs ys whole e fits p =
    let both = ap entry_sizes e ∙ sizes_both xs ys in
    let size = p.size in
    omega arith

module _ {X : Type 0} (f : X → List (List ℕ)) where
  -- those of the items before `rest` are loaded, and there is room for the others
  pub record LoadsTo (old new : Heap) (xs rest : List X) : Type 0 where
    pub on : (later : Heap) → Loads new later (flat_map f rest) → Loads old later (flat_map f xs)
    pub room : length new.bytes + entry_sizes (flat_map f rest) ≤ 2 ^ 26

  pub loads_begin : (a : Heap) (xs : List X) → length a.bytes + entry_sizes (flat_map f xs) ≤ 2 ^ 26 → LoadsTo a a xs xs
  loads_begin a xs room = record { on = λ later h. h; room = room }

  pub loads_fit : (a b : Heap) (xs rest more : List X) (x : X) → rest ≡ x ∷ more → LoadsTo a b xs rest → length b.bytes + entry_sizes (f x) ≤ 2 ^ 26
  loads_fit a b xs rest more x e l =
      let both = ap (λ ys. entry_sizes (flat_map f ys)) e ∙ sizes_both (f x) (flat_map f more) in
      let room = l.room in
      omega arith

  pub loads_on : (a b c : Heap) (xs rest more : List X) (x : X) → rest ≡ x ∷ more → LoadsTo a b xs rest → Loads b c (f x) → LoadsTo a c xs more
  loads_on a b c xs rest more x e l p = record {
    on = λ later h. l.on later (subst (λ ys. Loads b later (flat_map f ys)) (sym e) (loads_both b c later (f x) (flat_map f more) p h));
    room =
        let both = ap (λ ys. entry_sizes (flat_map f ys)) e ∙ sizes_both (f x) (flat_map f more) in
        let room = l.room in
        let size = p.size in
        omega arith;
  }

  pub loads_end : (a b : Heap) (xs rest : List X) → rest ≡ [] → LoadsTo a b xs rest → Loads a b (flat_map f xs)
  loads_end a b xs rest e l = l.on b (subst (λ ys. Loads b b (flat_map f ys)) (sym e) (loads_nothing b))

-- ---- one text

-- the units of a slice fit
pub all_fit : (xs : List ℕ) → ((k : ℕ) → get_or xs k 0 < 2 ^ 16) → AreUnits xs
all_fit [] f = tt
all_fit (x ∷ xs) f = (f 0, all_fit xs (λ k. f (suc k)))

pub loads_one : {E : Type 0} (user new : Heap) (u : List ℕ) (r : Result ℕ E)
    → ((heap : List ℕ) (index : ℕ) (units other : List ℕ) → HasUnits heap index units → HasUnits heap index other → units ≡ other)
    → AreUnits u → IfOk r (HoldsUnits new (bytes_of_units u)) → ((index : ℕ) → HoldsUnits user (bytes_of_units u) index → new ≡ user)
    → ((index : ℕ) (units : List ℕ) → HasUnits user.bytes index units → HasUnits new.bytes index units)
    → (content : List ℕ) → content ≡ bytes_of_units u → IfOk r (λ index. (new ≡ user) ⊎ Grows (IsUnitsEntry content) user new index) → OnOk r (Loads user new (u ∷ []))
loads_one user new u (Err e) one small holds known stays content same grown = tt
loads_one {E} user new u (Ok index) one small holds known stays content same grown =
    let grew : (new ≡ user) ⊎ Grows (IsUnitsEntry (bytes_of_units u)) user new index =
    subst (λ (xs : List ℕ). (new ≡ user) ⊎ Grows (IsUnitsEntry xs) user new index) same grown in
    let keeps : KeepsUnits user new = record {
      units = stays;
      used = λ k there. elim grew [
        | inl e ↦ subst (λ (h : Heap). Contains h.used k) (sym e) there
        | inr g ↦ subst (λ xs. Contains xs k) (sym g.2) (Contains-append_left user.used (index ∷ []) k there)
      ];
    } in
    record {
      loaded = λ ts h. load_more {E = E} user new ts u (Ok index) one small holds known keeps grew h;
      size = elim grew [
        | inl e ↦ let long = ap (λ (h : Heap). length h.bytes) e in omega arith
        | inr g ↦
            let long = ap (length {A = ℕ}) g.1 ∙ length-append user.bytes g.0 in
            let more = entry_length u g.0 g.3 in
            let single = sum_by-cons entry_size u [] in
            omega arith
      ];
    }
