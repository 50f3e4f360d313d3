-- Reading one after the other, as a loop does.
use Rattle.std.proofs.Common.{◌≡◌, ℕ, suc, ◌-◌, ◌+◌, ◌≤◌, ◌<◌, true, false, List, [], ◌∷◌, ◌++◌, Some, None, refl, sym, ap, ◌∙◌, append_assoc, arith}
use Rattle.std.proofs.lemmas.List.{append-nil}
use Rattle.sig_codec.specs.declared.stop.Stop.{Stop}
use Rattle.sig_codec.specs.declared.stop.Stop.TheVariants.{Memory, Unspelled}
use Rattle.type_terms.specs.declared.term.SigType.{SigType}
use Rattle.sig_codec.specs.Reading.{◌>>=◌, Fails, Step, Read, TypeStep, each_at, types_at, is_at_sentinel}

-- what was read before, and what is still read
abbrev pub with_front : {X : Type 0} → List X → Step (List X) → Step (List X)
with_front front read = read >>= λ x. Some (front ++ x.0, x.1)

regroup : {X : Type 0} (front : List X) (n : X) (read : Step (List X)) → with_front front (read >>= λ x. Some (n ∷ x.0, x.1)) ≡ with_front (front ++ n ∷ []) read
regroup {X = X} front n (Some x) = ap (λ (ns : List X). Some (ns, x.1)) (simp append_assoc)
regroup front n None = refl

pub goes_on : {X : Type 0} (step : List ℕ → Step X) (front : List X) (count i : ℕ) (bytes : List ℕ) (n : X) (after : List ℕ) (total : Step (List X)) → i < count → step bytes ≡ Some (n, after)
    → with_front front (each_at step (count - i) bytes) ≡ total → with_front (front ++ n ∷ []) (each_at step (count - (i + 1)) after) ≡ total
goes_on step front count i bytes n after total lt h so_far =
    let k : count - i ≡ suc (count - (i + 1)) = omega arith in
    let one : with_front front (each_at step (count - i) bytes) ≡ with_front (front ++ n ∷ []) (each_at step (count - (i + 1)) after) = rw (k, h) (regroup front n (each_at step (count - (i + 1)) after)) in
    sym one ∙ so_far

pub ends : {X : Type 0} (step : List ℕ → Step X) (e : Stop) (front : List X) (count i : ℕ) (bytes : List ℕ) (total : Step (List X)) → i < count → Fails e (step bytes)
    → with_front front (each_at step (count - i) bytes) ≡ total → Fails e total
ends step Memory front count i bytes total lt h so_far = tt
ends step Unspelled front count i bytes total lt h so_far =
    let k : count - i ≡ suc (count - (i + 1)) = omega arith in
    let one : with_front front (each_at step (count - i) bytes) ≡ None = rw (k, h) refl in
    sym so_far ∙ one

pub is_done : {X : Type 0} (step : List ℕ → Step X) (front : List X) (count i : ℕ) (bytes : List ℕ) (total : Step (List X)) → count ≤ i → with_front front (each_at step (count - i) bytes) ≡ total → total ≡ Some (front, bytes)
is_done {X = X} step front count i bytes total le so_far =
    let k : count - i ≡ 0 = omega arith in
    let one : with_front front (each_at step (count - i) bytes) ≡ Some (front, bytes) = rw k (ap (λ (ns : List X). Some (ns, bytes)) (append-nil front)) in
    sym so_far ∙ one

-- ---- types

-- the same for types
abbrev pub with_types : List SigType → Read (List SigType) → Read (List SigType)
with_types front read = read >>= λ x. Some (front ++ x.0, x.1, x.2)

regroup_types : (front : List SigType) (t : SigType) (read : Read (List SigType)) → with_types front (read >>= λ x. Some (t ∷ x.0, x.1, x.2)) ≡ with_types (front ++ t ∷ []) read
regroup_types front t (Some x) = ap (λ (ts : List SigType). Some (ts, x.1, x.2)) (simp append_assoc)
regroup_types front t None = refl

pub types_go_on : (sub : TypeStep) (front : List SigType) (count i : ℕ) (bytes : List ℕ) (nodes : ℕ) (t : SigType) (after : List ℕ) (left : ℕ) (total : Read (List SigType)) → i < count
    → is_at_sentinel bytes ≡ false → sub bytes nodes ≡ Some (t, after, left)
    → with_types front (types_at sub (count - i) bytes nodes) ≡ total → with_types (front ++ t ∷ []) (types_at sub (count - (i + 1)) after left) ≡ total
types_go_on sub front count i bytes nodes t after left total lt at_type h so_far =
    let k : count - i ≡ suc (count - (i + 1)) = omega arith in
    let one : with_types front (types_at sub (count - i) bytes nodes) ≡ with_types (front ++ t ∷ []) (types_at sub (count - (i + 1)) after left) =
    rw (k, at_type, h) (regroup_types front t (types_at sub (count - (i + 1)) after left)) in
    sym one ∙ so_far

pub types_fail : (sub : TypeStep) (e : Stop) (front : List SigType) (count i : ℕ) (bytes : List ℕ) (nodes : ℕ) (total : Read (List SigType)) → i < count
    → is_at_sentinel bytes ≡ false → Fails e (sub bytes nodes) → with_types front (types_at sub (count - i) bytes nodes) ≡ total → Fails e total
types_fail sub Memory front count i bytes nodes total lt at_type h so_far = tt
types_fail sub Unspelled front count i bytes nodes total lt at_type h so_far =
    let k : count - i ≡ suc (count - (i + 1)) = omega arith in
    let one : with_types front (types_at sub (count - i) bytes nodes) ≡ None = rw (k, at_type, h) refl in
    sym so_far ∙ one

pub types_stop : (sub : TypeStep) (front : List SigType) (count i : ℕ) (bytes : List ℕ) (nodes : ℕ) (total : Read (List SigType)) → i < count
    → is_at_sentinel bytes ≡ true → with_types front (types_at sub (count - i) bytes nodes) ≡ total → total ≡ Some (front, bytes, nodes)
types_stop sub front count i bytes nodes total lt at_end so_far =
    let k : count - i ≡ suc (count - (i + 1)) = omega arith in
    let one : with_types front (types_at sub (count - i) bytes nodes) ≡ Some (front, bytes, nodes) = rw (k, at_end) (ap (λ (ts : List SigType). Some (ts, bytes, nodes)) (append-nil front)) in
    sym so_far ∙ one

pub types_are_done : (sub : TypeStep) (front : List SigType) (count i : ℕ) (bytes : List ℕ) (nodes : ℕ) (total : Read (List SigType)) → count ≤ i
    → with_types front (types_at sub (count - i) bytes nodes) ≡ total → total ≡ Some (front, bytes, nodes)
types_are_done sub front count i bytes nodes total le so_far =
    let k : count - i ≡ 0 = omega arith in
    let one : with_types front (types_at sub (count - i) bytes nodes) ≡ Some (front, bytes, nodes) = rw k (ap (λ (ts : List SigType). Some (ts, bytes, nodes)) (append-nil front)) in
    sym so_far ∙ one
