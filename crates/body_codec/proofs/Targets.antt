-- Where a displacement leads.
use Rattle.std.proofs.Common.{◌≡◌, ◌∙◌, sym, ap, subst, refl, ℕ, ◌+◌, ◌<◌, inl, inr, ℤ, pos, negsuc, ◌+ℤ◌, List, length, slice_index_or, false, Option, None, Some, IfSome, IfNone, arith}
use Rattle.std.specs.Option.{is_none, IsSome}
use Rattle.std.proofs.lemmas.Bool.{cases_lt, false≢true}
use Rattle.std.proofs.lemmas.Option.{none-some, same_Some}
use Rattle.std.proofs.lemmas.List.{get_or-map}
use Rattle.std.specs.Int.{FitsUnsigned}
use Rattle.std.specs.Int.RustNames.{unsigned_abs}
use Rattle.std.proofs.lemmas.Int.{ints}
use mir.Syntax.{w64}
use Rattle.body_codec.specs.declared.decoding.marks.Mark.{Mark}
use Rattle.body_codec.specs.Instruction.{Piece, place}
use Rattle.body_codec.specs.Spelling.{LeadsTo}
use Rattle.body_codec.specs.Faults.{HasTargets, HaveTargets}
use Rattle.body_codec.specs.Reading.{piece_of, pieces_of, AreMarks, BeginsAt}
use Rattle.body_codec.proofs.Places.{count_is, place_inside}

pub fits_same : (z : ℤ) → FitsUnsigned w64 z → pos (unsigned_abs z) ≡ z
fits_same (pos n) h = refl
fits_same (negsuc n) h = absurd (let l = h.0 in omega (arith, ints))

pub behind_none : (code : List ℕ) (marks : List Mark) (end from : ℕ) (distance d : ℤ) → AreMarks code marks → from ≡ end → d ≡ distance
    → (FitsUnsigned w64 (pos from +ℤ d) → ⊥) → (k t : ℕ) → place (pieces_of code marks) (k + 1) ≡ end → LeadsTo (pieces_of code marks) k t distance → ⊥
behind_none code marks end from distance d m p q never k t e l =
    let f = l.distance_is in
    let c = count_is code marks in
    let there = l.there in
    let inside = place_inside code marks t m (omega arith) in
    let small = m.small in
    never (omega (arith, ints), omega (arith, ints))

-- the sum, where it fits
pub sum_is : (end from offset : ℕ) (distance d : ℤ) → from ≡ end → d ≡ distance → FitsUnsigned w64 (pos from +ℤ d) × (offset ≡ unsigned_abs (pos from +ℤ d)) → pos offset ≡ pos end +ℤ distance
sum_is end from offset distance d p q h =
    ap pos h.1 ∙ (fits_same (pos from +ℤ d) h.0 ∙ (ap (λ x. pos x +ℤ d) p ∙ ap (λ x. pos end +ℤ x) q))

pub behind_some : (ps : List Piece) (end offset : ℕ) (distance : ℤ) (r : Option ℕ) → pos offset ≡ pos end +ℤ distance → IfSome r (BeginsAt ps offset)
    → IfSome r (λ t. (k : ℕ) → place ps (k + 1) ≡ end → LeadsTo ps k t distance)
behind_some ps end offset distance None e h = tt
behind_some ps end offset distance (Some t) e h = λ k f.
    record { there = h.there; distance_is = let a = h.at in omega (arith, ints) }

pub behind_nothing : (ps : List Piece) (end offset : ℕ) (distance : ℤ) (r : Option ℕ) → pos offset ≡ pos end +ℤ distance → IfNone r ((t : ℕ) → BeginsAt ps offset t → ⊥)
    → IfNone r ((k t : ℕ) → place ps (k + 1) ≡ end → LeadsTo ps k t distance → ⊥)
behind_nothing ps end offset distance (Some t) e h = tt
behind_nothing ps end offset distance None e h = λ k t f l.
    h t (record { there = l.there; at = let a = l.distance_is in omega (arith, ints) })

-- ---- where something was found

pub some_of : {X : Type 0} (r : Option X) (P : X → Type 0) → is_none r ≡ false → IfSome r P → (x : X) × P x
some_of None P e h = absurd (false≢true (sym e))
some_of (Some x) P e h = (x, h)

pub some_from : {X Q : Type 0} (r : Option X) → IfNone r Q → (Q → ⊥) → IsSome r
some_from None h never = absurd (never h)
some_from (Some x) h never = refl

pub some_at : {X : Type 0} (r : Option X) (x : X) (P : X → Type 0) → r ≡ Some x → IfSome r P → P x
some_at None x P e h = absurd (none-some x e)
some_at (Some y) x P e h = subst P (same_Some y x e) h

-- ---- one more instruction

-- the piece at a mark's place
pub piece_at : (code : List ℕ) (marks : List Mark) (k : ℕ) (m : Mark) (p : Piece) → k < length marks → slice_index_or (pieces_of code marks) k p ≡ piece_of code (slice_index_or marks k m)
piece_at code marks k m p h = get_or-map (piece_of code) marks k m p h

pub targets_more : (code : List ℕ) (marks : List Mark) (n : ℕ) (m : Mark) → AreMarks code marks → n < length marks → HaveTargets (pieces_of code marks) n
    → ((k : ℕ) → place (pieces_of code marks) (k + 1) ≡ (slice_index_or marks n m).end → HasTargets (pieces_of code marks) k (piece_of code (slice_index_or marks n m)))
    → HaveTargets (pieces_of code marks) (n + 1)
targets_more code marks n m w l before here k p h =
    elim (cases_lt k n) [
      | inl lt ↦ before k p lt
      | inr ge ↦
          let same : k ≡ n = omega arith in
          let P : Piece → Type 0 = HasTargets (pieces_of code marks) k in
          let at : slice_index_or (pieces_of code marks) k p ≡ piece_of code (slice_index_or marks n m) =
          piece_at code marks k m p (omega arith) ∙ ap (λ (j : ℕ). piece_of code (slice_index_or marks j m)) same in
          subst P (sym at) (here k (ap (λ j. place (pieces_of code marks) (j + 1)) same ∙ sym (w.ends n m l)))
    ]
