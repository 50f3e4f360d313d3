-- What is said of a method by the look at its body, or by a method above with the same body.
use Rattle.std.proofs.Common.{◌≡◌, ◌≢◌, ◌∙◌, sym, ap, subst, refl, ℕ, ◌+◌, ◌-◌, ◌<◌, ◌≤◌, inl, inr, List, [], ◌∷◌, ◌++◌, length, get_or, slice_index_or, arith}
use Rattle.std.proofs.lemmas.Bool.{cases_lt}
use Rattle.std.proofs.lemmas.List.{length-append, get_or_append_left, get_or-append-add}
use Rattle.body_codec.specs.Faults.{IsCode, IsOutline}
use Rattle.body_codec.specs.Header.{HasHeader as IsHeader}
use Rattle.body_codec.specs.Instruction.{Piece}
use Rattle.body_outlines.specs.Outlines.{Outlines, tokens_of}
use Rattle.body_outlines.specs.declared.outlined.BodyOutline.{BodyOutline}
use Rattle.image_model.specs.Bodies.{body_of, HasBody, HasCodeType, HasLocals, HasKnownHeader, HasHeader, HasInstructions, HasClauses, BodyNames}
use Rattle.image_model.specs.Columns.{method_rva}
use Rattle.image_model.specs.Rows.{HasRow}
use Rattle.pe_layout.specs.FileMap.{readable}
use Rattle.method_states.specs.Marks.{MarkBesides}
use Rattle.method_states.specs.States.{KnownHeader, Looks, again, HasGoodBody, IsAgain, FailsHeader, FailsInstructions, FailsClauses, HasState, AreStatesTo}
use Rattle.method_states.specs.declared.row_marks.RowMarks.{RowMarks}
use Rattle.method_states.specs.declared.state.BodyState.{BodyState}
use Rattle.method_states.specs.declared.state.BodyState.TheVariants as states

-- ---- headers

pub header_met : (image : List ℕ) (method : ℕ) → HasCodeType image method → KnownHeader image (body_of image method) → HasHeader image 0x06 method
header_met image method code known = record {
  code_type = λ e there. code;
  header = λ e there body. record { header = known.header; locals = known.locals };
}

known_of : (image : List ℕ) (method : ℕ) → HasRow image 0x06 method → HasBody image method → HasHeader image 0x06 method → KnownHeader image (body_of image method)
known_of image method there body h = let k = h.header refl there body in record { header = k.header; locals = k.locals }

pub bad_type : (image : List ℕ) (method : ℕ) → HasRow image 0x06 method → (HasCodeType image method → ⊥) → FailsHeader image method
bad_type image method there bad = record { fails = λ h. bad (h.code_type refl there) }

-- ---- by a look

pub looked : (image : List ℕ) (method : ℕ) (old new : RowMarks) (s : BodyState) → HasRow image 0x06 method → HasBody image method → HasCodeType image method
    → Looks image (body_of image method) old new s → HasState image method s
looked image method old new states.Good there body code l = record { there = body; code_type = code; known = l.0; outline = (l.1, l.2) }
looked image method old new states.Header there body code l = record { fails = λ h. l.0 (known_of image method there body h) }
looked image method old new states.Instructions there body code l = record {
  header = header_met image method code l.0;
  fails = λ h. let c = h refl there body in l.1 c.0 c.1;
}
looked image method old new states.Clauses there body code l = record {
  header = header_met image method code l.0;
  instructions = λ e t b. l.1;
  fails = λ h. let c = h refl there body in l.2 c.0 c.1;
}
looked image method old new states.Nothing there body code l = absurd l
looked image method old new states.Again there body code l = absurd l

-- ---- by a method above

pub same_body : (image : List ℕ) (a b : ℕ) → method_rva image a ≡ method_rva image b → body_of image a ≡ body_of image b
same_body image a b e = ap (readable image) e

good_along : (image : List ℕ) (a b : ℕ) → method_rva image a ≡ method_rva image b → HasCodeType image b → HasGoodBody image a → HasGoodBody image b
good_along image a b e code g =
    let P : List ℕ → Type 0 = λ bytes. (o : BodyOutline) × Outlines bytes o in
    record {
      there = λ z. g.there (e ∙ z);
      code_type = code;
      known = subst (KnownHeader image) (same_body image a b e) g.known;
      outline = subst P (same_body image a b e) g.outline;
    }

header_along : (image : List ℕ) (a b : ℕ) → method_rva image a ≡ method_rva image b → HasRow image 0x06 a → HasCodeType image b → HasHeader image 0x06 a → HasHeader image 0x06 b
header_along image a b e there code h = record {
  code_type = λ x t. code;
  header = λ x t body.
      let k = h.header refl there (λ z. body (sym e ∙ z)) in
      record { header = subst IsHeader (same_body image a b e) k.header; locals = subst (HasLocals image) (same_body image a b e) k.locals };
}

instructions_along : (image : List ℕ) (a b : ℕ) → method_rva image a ≡ method_rva image b → HasRow image 0x06 a → HasInstructions image 0x06 a → HasInstructions image 0x06 b
instructions_along image a b e there h = λ x t body.
    let P : List ℕ → Type 0 = λ bytes. (pieces : List Piece) × IsCode bytes pieces in
    subst P (same_body image a b e) (h refl there (λ z. body (sym e ∙ z)))

clauses_along : (image : List ℕ) (a b : ℕ) → method_rva image a ≡ method_rva image b → HasRow image 0x06 a → HasClauses image 0x06 a → HasClauses image 0x06 b
clauses_along image a b e there h = λ x t body.
    let P : List ℕ → Type 0 = λ bytes. (pieces : List Piece) × IsOutline bytes pieces in
    subst P (same_body image a b e) (h refl there (λ z. body (sym e ∙ z)))

pub shared : (image : List ℕ) (first method : ℕ) (s t : BodyState) → HasRow image 0x06 first → HasRow image 0x06 method → first < method → method_rva image first ≡ method_rva image method
    → HasBody image method → HasCodeType image first → HasCodeType image method → HasState image first s → t ≡ again s → HasState image method t
shared image first method s t there here above e body fc mc h f = subst (HasState image method) (sym f) (by_state s h) where
  by_state : (s : BodyState) → HasState image first s → HasState image method (again s)
  by_state states.Good g = record { good = good_along image first method e mc g; first = first; above = above; row = there; same = e; first_good = g }
  by_state states.Again g = record {
    good = good_along image first method e mc g.good;
    first = g.first;
    above = let a = g.above in omega arith;
    row = g.row;
    same = g.same ∙ e;
    first_good = g.first_good;
  }
  by_state states.Nothing g = absurd (g.1 (λ z. body (sym e ∙ z)))
  by_state states.Header g = record { fails = λ k. g.fails (header_along image method first (sym e) here fc k) }
  by_state states.Instructions g = record {
    header = header_along image first method e there mc g.header;
    fails = λ k. g.fails (instructions_along image method first (sym e) here k);
  }
  by_state states.Clauses g = record {
    header = header_along image first method e there mc g.header;
    instructions = instructions_along image first method e there g.instructions;
    fails = λ k. g.fails (clauses_along image method first (sym e) here k);
  }

-- ---- one more state

pub states_more : (image : List ℕ) (count : ℕ) (all : List BodyState) (s : BodyState) → AreStatesTo image count all → HasState image (count + 1) s → AreStatesTo image (count + 1) (all ++ s ∷ [])
states_more image count all s h g = record {
  long = let l = length-append all (s ∷ []) in let n = h.long in omega arith;
  each = λ method d some upto. elim (cases_lt method (count + 1)) [
    | inl before ↦
        let at = get_or_append_left all (s ∷ []) d (method - 1) (let n = h.long in omega arith) in
        subst (HasState image method) (sym at) (h.each method d some (omega arith))
    | inr last ↦
        let same : method ≡ count + 1 = omega arith in
        let at = get_or-append-add all (s ∷ []) 0 d in
        let place : length all + 0 ≡ method - 1 = let n = h.long in omega arith in
        subst (HasState image method) (sym (ap (λ (k : ℕ). get_or (all ++ s ∷ []) k d) (sym place) ∙ at)) (subst (λ (m : ℕ). HasState image m s) (sym same) g)
  ];
}
