-- Sites that hang together, and where instructions begin.
use Rattle.std.proofs.Common.{◌≡◌, ◌≢◌, ◌∙◌, inl, inr, ℕ, zero, suc, ◌<◌, ◌≤◌, ◌+◌, List, [], ◌∷◌, ◌++◌, length, take, get_or, ap, refl, sym, subst, arith, below_more, zero-add, Option, None, Some}
use Rattle.std.specs.List.{All}
use Rattle.std.proofs.Math.ListN.{set, length-set}
use Rattle.std.proofs.lemmas.Bool.{cases_order}
use Rattle.std.proofs.lemmas.List.{get_or_append_left, get_or_push, length-append, get_or-set_same, get_or-set_other}
use Rattle.std.proofs.lemmas.List.Sums.{sum_by-cons}
use Rattle.std.proofs.lemmas.Grind.{same_number_lists}
use Rattle.assembly_tree.specs.declared.body.Ins.{Ins}
use Rattle.body_codec.specs.declared.encoding.site.Site.{Site}
use Rattle.body_codec.specs.Instruction.{operand_size}
use Rattle.body_codec.specs.Encoding.{ins_size, offset}
use Rattle.body_codec.specs.Written.{AreOffsets}
use Rattle.body_codec.specs.Chains.{AreLinked, IsLatest, count_to, offsets_from, offsets_of}
use Rattle.body_codec.proofs.Offsets.{offset_none}

-- ---- offsets

offset_cons : (ins : Ins) (rest : List Ins) (k : ℕ) → offset (ins ∷ rest) (suc k) ≡ ins_size ins + offset rest k
unfolding offset
offset_cons ins rest k = sum_by-cons ins_size ins (take k rest)

length_from : (at : ℕ) (code : List Ins) → length (offsets_from at code) ≡ suc (length code)
length_from at [] = refl
length_from at (ins ∷ rest) = ap suc (length_from (at + ins_size ins) rest)

from_at : (at : ℕ) (code : List Ins) (k : ℕ) → k ≤ length code → get_or (offsets_from at code) k 0 ≡ at + offset code k
from_at at [] zero h = omega (arith, offset_none [])
from_at at [] (suc k) h = absurd (omega arith)
from_at at (ins ∷ rest) zero h = omega (arith, offset_none (ins ∷ rest))
from_at at (ins ∷ rest) (suc k) h = omega (arith, from_at (at + ins_size ins) rest k (omega arith), offset_cons ins rest k)

pub are_offsets : (code : List Ins) → AreOffsets code (offsets_of code)
unfolding offsets_of
are_offsets code = record {
  count = length_from 0 code;
  each = λ k h. from_at 0 code k h ∙ zero-add (offset code k);
}

pub same_offsets : (code : List Ins) (os : List ℕ) → AreOffsets code os → os ≡ offsets_of code
same_offsets code os o =
    let a : AreOffsets code (offsets_of code) = are_offsets code in
    same_number_lists os (offsets_of code) (o.count ∙ sym a.count)
    (λ k h. let l : k ≤ length code = omega (arith, o.count) in o.each k l ∙ sym (a.each k l))

-- ---- one more site

pub site_front : (S : List Site) (s d : Site) (i : ℕ) → i < length S → get_or (S ++ s ∷ []) i d ≡ get_or S i d
site_front S s d i h = get_or_append_left S (s ∷ []) d i h

pub site_last : (S : List Site) (s d : Site) → get_or (S ++ s ∷ []) (length S) d ≡ s
site_last S s d = get_or_push S s d (length S) refl

pub length_more : (S : List Site) (s : Site) → length (S ++ s ∷ []) ≡ length S + 1
length_more S s = length-append S (s ∷ [])

-- what holds of each site, and of one more
pub each_site : (P : ℕ → Site → Type 0) (S : List Site) (s : Site) → ((i : ℕ) (d : Site) → i < length S → P i (get_or S i d)) → P (length S) s
    → (i : ℕ) (d : Site) → i < length (S ++ s ∷ []) → P i (get_or (S ++ s ∷ []) i d)
each_site P S s all here i d h =
    below_more (λ n. (e : Site) → P n (get_or (S ++ s ∷ []) n e)) (length S)
    (λ n l e. let Q : Site → Type 0 = P n in subst Q (sym (site_front S s e n l)) (all n e l))
    (λ e. let Q : Site → Type 0 = P (length S) in subst Q (sym (site_last S s e)) here)
    i (omega (arith, length_more S s)) d

pub latest_none : (S : List Site) (t : ℕ) → IsLatest S t 0 None
latest_none S t = record {
  within = omega arith;
  it = λ m d e. cc;
  later = λ i d a b. absurd (omega arith);
}

latest_front : (S : List Site) (s : Site) (t n : ℕ) (o : Option ℕ) → n ≤ length S → IsLatest S t n o → IsLatest (S ++ s ∷ []) t n o
latest_front S s t n o h l = record {
  within = l.within;
  it = λ m d e.
      let c : count_to o ≡ m + 1 = ap count_to e in
      let w : count_to o ≤ n = l.within in
      ap (λ (x : Site). x.to) (site_front S s d m (omega arith)) ∙ l.it m d e;
  later = λ i d a b e. l.later i d a b (ap (λ (x : Site). x.to) (sym (site_front S s d i (omega arith))) ∙ e);
}

latest_last : (S : List Site) (s : Site) → IsLatest (S ++ s ∷ []) s.to (length S + 1) (Some (length S))
latest_last S s = record {
  within = omega arith;
  it = λ m d e. let q : length S ≡ m = cc in ap (λ (x : Site). x.to) (get_or_push S s d m q);
  later = λ i d a b. absurd (omega arith);
}

latest_other : (S : List Site) (s : Site) (t : ℕ) (o : Option ℕ) → t ≢ s.to → IsLatest S t (length S) o → IsLatest (S ++ s ∷ []) t (length S + 1) o
latest_other S s t o ne l =
    let f : IsLatest (S ++ s ∷ []) t (length S) o = latest_front S s t (length S) o (omega arith) l in
    let w : count_to o ≤ length S = l.within in
    record {
      within = omega arith;
      it = f.it;
      later = λ i d a b.
          below_more (λ n. count_to o ≤ n → (x : Site) → (get_or (S ++ s ∷ []) n x).to ≡ t → ⊥) (length S)
          (λ n m c x. f.later n x c m)
          (λ c x e. ne (sym e ∙ ap (λ (y : Site). y.to) (site_last S s x))) i b a d;
    }

-- ---- links

pub linked_none : (L : List (Option ℕ)) → All (λ o. o ≡ None) L → AreLinked 0 0 [] L
linked_none L none = record {
  few = omega arith;
  inside = λ i s h. absurd (omega arith);
  before = λ i s h. absurd (omega arith);
  latest = λ t o a b. let P : Option ℕ → Type 0 = IsLatest [] t 0 in subst P (sym (none t o b)) (latest_none [] t);
}

pub linked_wider : (size known size' known' : ℕ) (S : List Site) (L : List (Option ℕ)) → size ≤ size' → known ≤ known' → AreLinked size known S L → AreLinked size' known' S L
linked_wider size known size' known' S L h k l = record {
  few = omega (arith, l.few);
  inside = λ i s m. omega (arith, l.inside i s m);
  before = l.before;
  latest = λ t o a b. l.latest t o (omega arith) b;
}

-- one more site, which waits
pub linked_more : (size known : ℕ) (S : List Site) (L : List (Option ℕ)) (s : Site) (size' : ℕ) → s.place ≡ size → known ≤ s.to → s.to < length L
    → 0 < operand_size s.kind [] → size' ≡ size + operand_size s.kind [] → ((d : Option ℕ) → get_or L s.to d ≡ s.before) → AreLinked size known S L
    → AreLinked size' known (S ++ s ∷ []) (set L s.to (Some (length S)))
linked_more size known S L s size' here later within some grown is l =
    let w : ℕ = operand_size s.kind [] in
    let B : Option ℕ → Type 0 = IsLatest S s.to (length S) in
    record {
      few = omega (arith, l.few, length_more S s);
      inside = each_site (λ i x. x.place + operand_size x.kind [] ≤ size') S s (λ i d h. omega (arith, l.inside i d h)) (omega arith);
      before = each_site (λ i x. IsLatest (S ++ s ∷ []) x.to i x.before) S s
          (λ i d h. latest_front S s (get_or S i d).to i (get_or S i d).before (omega arith) (l.before i d h))
          (latest_front S s s.to (length S) s.before (omega arith) (subst B (is None) (l.latest s.to None later within)));
      latest = λ t o a b.
          let m : t < length L = omega (arith, length-set L s.to (Some (length S))) in
          let P : ℕ → Option ℕ → Type 0 = IsLatest (S ++ s ∷ []) t in
          let Q : Option ℕ → Type 0 = P (length (S ++ s ∷ [])) in
          let R : ℕ → Type 0 = λ n. P n (Some (length S)) in
          let T : ℕ → Type 0 = λ n. P n (get_or L t o) in
          let other : t ≢ s.to → Q (get_or (set L s.to (Some (length S))) t o) =
          λ ne. subst Q (sym (get_or-set_other L s.to t (Some (length S)) o ne))
          (subst T (sym (length_more S s)) (latest_other S s t (get_or L t o) ne (l.latest t o a m))) in
          elim (cases_order t s.to) [
            | inl e ↦
                let V : ℕ → Type 0 = λ x. IsLatest (S ++ s ∷ []) x (length (S ++ s ∷ [])) (get_or (set L s.to (Some (length S))) x o) in
                let W : ℕ → Type 0 = λ n. IsLatest (S ++ s ∷ []) s.to n (Some (length S)) in
                let X : Option ℕ → Type 0 = IsLatest (S ++ s ∷ []) s.to (length (S ++ s ∷ [])) in
                subst V (sym e) (subst X (sym (get_or-set_same L s.to (Some (length S)) o within)) (subst W (sym (length_more S s)) (latest_last S s)))
            | inr (inl h) ↦ other (λ e. omega arith)
            | inr (inr h) ↦ other (λ e. omega arith)
          ];
    }
