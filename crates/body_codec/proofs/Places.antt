-- Where instructions begin: rising, and told by their numbers.
use Rattle.std.proofs.Common.{◌≡◌, ◌≢◌, ◌∙◌, sym, ap, subst, refl, ℕ, zero, suc, ◌+◌, ◌<◌, ◌≤◌, ◌⊎◌, inl, inr, Option, None, Some, IfNone, List, [], ◌∷◌, length, take, set, get_or, replicate, slice_index, arith}
use Rattle.std.proofs.lemmas.Bool.{cases_eq, cases_lt}
use Rattle.std.proofs.lemmas.List.{length-append, length-map, get_or-replicate, length-replicate, length-set, get_or-set_same, get_or-set_other}
use Rattle.body_codec.specs.declared.decoding.marks.Mark.{Mark}
use Rattle.body_codec.specs.declared.decoding.sections.ClauseRow.{ClauseRow}
use Rattle.body_codec.specs.Sections.{IsRange}
use Rattle.body_codec.specs.Faults.{HasKind}
use Rattle.body_codec.specs.Instruction.{Piece, piece_bytes, bytes_of_pieces, place}
use Rattle.body_codec.specs.Reading.{piece_of, pieces_of, AreMarks, StartsTo, IsLayout, BeginsAt}
use Rattle.body_codec.proofs.Pieces.{piece_some, place_more, place_all}

pub place_nil : (k : ℕ) → place [] k ≡ 0
unfolding place
place_nil zero = refl
place_nil (suc k) = refl

pub place_zero : (ps : List Piece) → place ps 0 ≡ 0
unfolding place
place_zero ps = refl

pub place_suc : (p : Piece) (ps : List Piece) (k : ℕ) → place (p ∷ ps) (suc k) ≡ length (piece_bytes p) + place ps k
unfolding place
place_suc p ps k = length-append (piece_bytes p) (bytes_of_pieces (take k ps))

pub place_le : (ps : List Piece) (j k : ℕ) → j ≤ k → place ps j ≤ place ps k
place_le [] j k h = let a = place_nil j in let b = place_nil k in omega arith
place_le (p ∷ ps) zero k h = let a = place_zero (p ∷ ps) in omega arith
place_le (p ∷ ps) (suc j) zero h = absurd (omega arith)
place_le (p ∷ ps) (suc j) (suc k) h =
    let more = place_le ps j k (omega arith) in
    let a = place_suc p ps j in
    let b = place_suc p ps k in
    omega arith

pub place_lt : (ps : List Piece) (j k : ℕ) → j < k → k ≤ length ps → place ps j < place ps k
place_lt ps j k h l =
    let a = place_more ps j (omega arith) in
    let b = place_le ps (j + 1) k (omega arith) in
    omega arith

-- a place is that of one instruction
pub place_tells : (ps : List Piece) (j k : ℕ) → j ≤ length ps → k ≤ length ps → place ps j ≡ place ps k → j ≡ k
place_tells ps j k h l e =
    elim (cases_lt j k) [
      | inl a ↦ let x = place_lt ps j k a l in absurd (omega arith)
      | inr b ↦ elim (cases_lt k j) [
        | inl a ↦ let x = place_lt ps k j a h in absurd (omega arith)
        | inr d ↦ omega arith
      ]
    ]

pub place_count : (ps : List Piece) (k : ℕ) → k ≤ length ps → k ≤ place ps k
place_count ps zero h = omega arith
place_count [] (suc k) h = absurd (omega arith)
place_count (p ∷ ps) (suc k) h =
    let more = place_count ps k (omega arith) in
    let a = place_suc p ps k in
    let s = piece_some p in
    omega arith

-- ---- marks

pub count_is : (code : List ℕ) (marks : List Mark) → length (pieces_of code marks) ≡ length marks
count_is code marks = length-map marks (piece_of code)

pub end_is : (code : List ℕ) (marks : List Mark) → AreMarks code marks → place (pieces_of code marks) (length marks) ≡ length code
end_is code marks m = let n = count_is code marks in place_all (pieces_of code marks) (length marks) (omega arith) ∙ ap length (sym m.cut.whole)

pub place_inside : (code : List ℕ) (marks : List Mark) (k : ℕ) → AreMarks code marks → k < length marks → place (pieces_of code marks) k < length code
place_inside code marks k m h =
    let n = count_is code marks in
    let l = place_lt (pieces_of code marks) k (length marks) h (omega arith) in
    let e = end_is code marks m in
    omega arith

pub count_small : (code : List ℕ) (marks : List Mark) → AreMarks code marks → length marks ≤ length code
count_small code marks m =
    let n = count_is code marks in
    let l = place_count (pieces_of code marks) (length marks) (omega arith) in
    let e = end_is code marks m in
    omega arith

-- ---- the table of starts

pub starts_none : (code : List ℕ) (marks : List Mark) → StartsTo code marks 0 (replicate (length code) 0xFFFFFFFF)
starts_none code marks = record {
  size = length-replicate (length code) 0xFFFFFFFF;
  each = λ at h. inr (get_or-replicate (length code) at 0xFFFFFFFF 0 h, λ t l e. absurd (omega arith));
}

-- what an entry of the table says
abbrev Entry : List Piece → ℕ → ℕ → ℕ → Type 0
Entry ps n at start = ((start < n) × (place ps start ≡ at)) ⊎ ((start ≡ 0xFFFFFFFF) × ((t : ℕ) → t < n → place ps t ≡ at → ⊥))

entry_kept : (ps : List Piece) (k at start : ℕ) → place ps k ≢ at → Entry ps k at start → Entry ps (k + 1) at start
entry_kept ps k at start ne (inl e) = inl (omega arith, e.1)
entry_kept ps k at start ne (inr e) =
    inr (e.0, λ t l f. elim (cases_eq t k) [ inl same ↦ ne (ap (place ps) (sym same) ∙ f) | inr other ↦ e.1 t (omega arith) f ])

pub starts_more : (code : List ℕ) (marks : List Mark) (k start : ℕ) (starts : List ℕ) → StartsTo code marks k starts → start ≡ place (pieces_of code marks) k → start < length code
    → StartsTo code marks (k + 1) (set starts start k)
starts_more code marks k start starts t e h = record {
  size = length-set starts start k ∙ t.size;
  each = λ at l. elim (cases_eq at start) [
    | inl same ↦
        let here : get_or (set starts start k) at 0 ≡ k = ap (λ x. get_or (set starts start k) x 0) same ∙ get_or-set_same starts start k 0 (let s = t.size in omega arith) in
        let P : ℕ → Type 0 = Entry (pieces_of code marks) (k + 1) at in
        subst P (sym here) (inl (omega arith, sym e ∙ sym same))
    | inr other ↦
        let there : get_or (set starts start k) at 0 ≡ get_or starts at 0 = get_or-set_other starts start at k 0 other in
        let P : ℕ → Type 0 = Entry (pieces_of code marks) (k + 1) at in
        subst P (sym there) (entry_kept (pieces_of code marks) k at (get_or starts at 0) (λ f. other (sym f ∙ sym e)) (t.each at l))
  ];
}

pub begins_at : (code : List ℕ) (marks : List Mark) (starts : List ℕ) (n : ℕ) → IsLayout code marks starts → n < length code
    → slice_index starts n ≢ 0xFFFFFFFF → BeginsAt (pieces_of code marks) n (slice_index starts n)
begins_at code marks starts n l h ne =
    elim (l.started.each n h) [
      | inl f ↦ record { there = let c = count_is code marks in let s = f.0 in omega arith; at = f.1 }
      | inr f ↦ absurd (ne f.0)
    ]

pub begins_none : (code : List ℕ) (marks : List Mark) (starts : List ℕ) (n : ℕ) → IsLayout code marks starts → n < length code
    → slice_index starts n ≡ 0xFFFFFFFF → (t : ℕ) → BeginsAt (pieces_of code marks) n t → ⊥
begins_none code marks starts n l h e t b =
    elim (l.started.each n h) [
      | inl f ↦ let s = f.0 in let m = count_small code marks l.marked in let small = l.marked.small in omega arith
      | inr f ↦ f.1 t (let c = count_is code marks in let s = b.there in omega arith) b.at
    ]

pub begins_before : (code : List ℕ) (marks : List Mark) (starts : List ℕ) (n : ℕ) → IsLayout code marks starts → length code ≤ n
    → (t : ℕ) → BeginsAt (pieces_of code marks) n t → ⊥
begins_before code marks starts n l h t b =
    let c = count_is code marks in
    let s = b.there in
    let p = place_inside code marks t l.marked (omega arith) in
    let e = b.at in
    omega arith

-- an offset behind the code is no edge of an instruction, and one in the code is one only where an instruction begins
pub no_edge_behind : (code : List ℕ) (marks : List Mark) (n : ℕ) → AreMarks code marks → length code < n → (k : ℕ) → k ≤ length marks → place (pieces_of code marks) k ≡ n → ⊥
no_edge_behind code marks n m h k l e =
    let g = end_is code marks m in
    let p = place_le (pieces_of code marks) k (length marks) l in
    omega arith

pub edge_begins : (code : List ℕ) (marks : List Mark) (n : ℕ) (r : Option ℕ) → AreMarks code marks → n ≢ length code
    → IfNone r ((t : ℕ) → BeginsAt (pieces_of code marks) n t → ⊥) → IfNone r ((k : ℕ) → k ≤ length marks → place (pieces_of code marks) k ≡ n → ⊥)
edge_begins code marks n (Some t) m ne h = tt
edge_begins code marks n None m ne h = λ k l e.
    let c = count_is code marks in
    elim (cases_lt k (length marks)) [
      | inl lt ↦ h k (record { there = omega arith; at = e })
      | inr ge ↦ let same : k ≡ length marks = omega arith in ne (sym e ∙ (ap (place (pieces_of code marks)) same ∙ end_is code marks m))
    ]

-- ---- ranges

pub range_some : (ps : List Piece) (offset size first last : ℕ) → place ps first ≡ offset → place ps last ≡ offset + size → 0 < size → last ≤ length ps → IsRange ps offset size first last
range_some ps offset size first last e f s l = record {
  some = elim (cases_lt first last) [ inl h ↦ h | inr h ↦ let p = place_le ps last first h in absurd (omega arith) ];
  inside = l;
  begins = e;
  ends = f;
}

pub range_none : (ps : List Piece) (offset first last : ℕ) → IsRange ps offset 0 first last → ⊥
range_none ps offset first last r =
    let s = r.some in let i = r.inside in let b = r.begins in let e = r.ends in
    let p = place_lt ps first last s i in
    omega arith

pub range_tells : (ps : List Piece) (offset size first last f l : ℕ) → IsRange ps offset size first last → IsRange ps offset size f l → (first ≡ f) × (last ≡ l)
range_tells ps offset size first last f l a b =
    let sa = a.some in let sb = b.some in let ia = a.inside in let ib = b.inside in
    (place_tells ps first f (omega arith) (omega arith) (a.begins ∙ sym b.begins), place_tells ps last l ia ib (a.ends ∙ sym b.ends))

-- a filter that doesn't begin before its handler is none
pub filter_none : (ps : List Piece) (row : ClauseRow) (handler filter : ℕ) → handler ≤ length ps → filter ≤ length ps → row.kind ≡ 1 → place ps filter ≡ row.class_or_filter
    → handler ≤ filter → HasKind ps row handler → ⊥
filter_none ps row handler filter l m one e h k =
    elim k [
      | inl x ↦ omega arith
      | inr u ↦ elim u [
        | inl x ↦ let lt = x.2 in let same = place_tells ps x.1 filter (omega arith) m (x.3 ∙ sym e) in omega arith
        | inr v ↦ elim v [ inl x ↦ omega arith | inr x ↦ omega arith ]
      ]
    ]
