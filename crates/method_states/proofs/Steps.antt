-- One more method: its state, the RVAs that were seen, and the rows that were named.
use Rattle.std.proofs.Common.{◌≡◌, ◌∙◌, sym, ap, subst, refl, ℕ, ◌+◌, ◌-◌, ◌<◌, ◌≤◌, inl, inr, Bool, true, false, cond, nat_eq, List, length, slice_index_or, Option, Some, None, arith}
use Rattle.std.proofs.lemmas.Bool.{cases_eq, eq-eqb, ne_eqb}
use Rattle.std.proofs.lemmas.Option.{same_Some}
use Rattle.body_outlines.specs.Outlines.{Outlines}
use Rattle.hash_places.specs.Slots.{place_of}
use Rattle.hash_places.specs.declared.slots.Slot.{Slot}
use Rattle.image_model.specs.Bodies.{body_of, HasBody, HasCodeType, BodyNames}
use Rattle.image_model.specs.Columns.{method_rva}
use Rattle.image_model.specs.Naming.{IsToken}
use Rattle.image_model.specs.Rows.{HasRow}
use Rattle.metadata_tables.specs.Schema.{schema, columns_of}
use Rattle.pe_layout.specs.FileMap.{readable}
use Rattle.method_states.specs.States.{KnownHeader, Looks, again, HasGoodBody, NamedTo, AreNamedTo, AreSeen, AreStatesTo, HasState}
use Rattle.method_states.specs.declared.row_marks.RowMarks.{RowMarks}
use Rattle.method_states.specs.declared.state.BodyState.{BodyState}
use Rattle.method_states.specs.declared.state.BodyState.TheVariants as states
use Rattle.method_states.proofs.Naming.{named_along, named_kept, named_good}
use Rattle.method_states.proofs.Sharing.{looked, shared}

pub columns_of_methods : length (columns_of 0x06) ≡ 6
unfolding schema
columns_of_methods = refl

one_less : (method : ℕ) → 0 < method → method - 1 + 1 ≡ method
one_less method h = omega arith

-- ---- RVAs that were seen

pub seen_kept : (image : List ℕ) (method : ℕ) (seen : List Slot) → AreSeen image (method - 1) seen → AreSeen image method seen
seen_kept image method seen h rva m e = let x = h rva m e in (x.0, let u = x.1 in omega arith, x.2, x.3)

pub seen_more : (image : List ℕ) (method rva : ℕ) (old new : List Slot) → HasRow image 0x06 method → AreSeen image (method - 1) old
    → ((q : ℕ) → place_of new q ≡ cond (nat_eq rva q) (Some method) (place_of old q)) → rva ≡ method_rva image method → HasCodeType image method → AreSeen image method new
seen_more image method rva old new there h places e code q m f =
    elim (cases_eq rva q) [
      | inl same ↦
          let at : place_of new q ≡ Some method = places q ∙ ap (λ b. cond b (Some method) (place_of old q)) (eq-eqb rva q same) in
          let here : method ≡ m = same_Some method m (sym at ∙ f) in
          let P : ℕ → Type 0 = λ x. (0 < x) × (x ≤ method) × (method_rva image x ≡ q) × HasCodeType image x in
          subst P here (there.0, omega arith, sym e ∙ same, code)
      | inr other ↦
          let at : place_of new q ≡ place_of old q = places q ∙ ap (λ b. cond b (Some method) (place_of old q)) (ne_eqb rva q other) in
          seen_kept image method old h q m (sym at ∙ f)
    ]

-- ---- states

pub state_again : (image : List ℕ) (method first : ℕ) (all : List BodyState) (d t : BodyState) (seen : List Slot) (rva : ℕ) → HasRow image 0x06 method → AreStatesTo image (method - 1) all
    → AreSeen image (method - 1) seen → place_of seen rva ≡ Some first → rva ≡ method_rva image method → (rva ≡ 0 → ⊥) → HasCodeType image method
    → t ≡ again (slice_index_or all (first - 1) d) → HasState image method t
state_again image method first all d t seen rva there states_are seen_are at e some code f =
    let x = seen_are rva first at in
    let upto = x.1 in
    let low = there.0 in
    let high = there.1 in
    let first_there : HasRow image 0x06 first = (x.0, omega arith) in
    shared image first method (slice_index_or all (first - 1) d) t first_there there (omega arith) (x.2 ∙ e) (λ z. some (e ∙ z)) x.3 code (states_are.each first d x.0 upto) f

pub first_below : (image : List ℕ) (method first rva : ℕ) (all : List BodyState) (seen : List Slot) → AreStatesTo image (method - 1) all → AreSeen image (method - 1) seen → place_of seen rva ≡ Some first
    → (0 < first) × (first - 1 < length all)
first_below image method first rva all seen states_are seen_are at =
    let x = seen_are rva first at in
    let some = x.0 in
    let upto = x.1 in
    let long = states_are.long in
    (some, omega arith)

pub state_looked : (image : List ℕ) (method rva : ℕ) (old new : RowMarks) (s : BodyState) → HasRow image 0x06 method → (rva ≡ 0 → ⊥) → rva ≡ method_rva image method → HasCodeType image method
    → Looks image (readable image rva) old new s → HasState image method s
state_looked image method rva old new s there some e code l =
    looked image method old new s there (λ z. some (e ∙ z)) code (subst (λ r. Looks image (readable image r) old new s) e l)

-- ---- names

kept_at : (image : List ℕ) (method : ℕ) (marks : RowMarks) → 0 < method → AreNamedTo image (method - 1) marks
    → ((token table row : ℕ) → BodyNames image method token → IsToken token table row → NamedTo image (method - 1) table row) → AreNamedTo image method marks
kept_at image method marks some h last =
    let e = one_less method some in
    subst (λ (n : ℕ). AreNamedTo image n marks) e
    (named_kept image (method - 1) marks h (λ token table row n is. last token table row (subst (λ (m : ℕ). BodyNames image m token) e n) is))

pub named_bad_type : (image : List ℕ) (method : ℕ) (marks : RowMarks) → HasRow image 0x06 method → (HasCodeType image method → ⊥) → AreNamedTo image (method - 1) marks → AreNamedTo image method marks
named_bad_type image method marks there bad h = kept_at image method marks there.0 h (λ token table row n is. absurd (bad n.code_type))

pub named_nothing : (image : List ℕ) (method : ℕ) (marks : RowMarks) → HasRow image 0x06 method → (HasBody image method → ⊥) → AreNamedTo image (method - 1) marks → AreNamedTo image method marks
named_nothing image method marks there none h = kept_at image method marks there.0 h (λ token table row n is. absurd (none n.there))

pub named_again : (image : List ℕ) (method first rva : ℕ) (seen : List Slot) (marks : RowMarks) → HasRow image 0x06 method → AreSeen image (method - 1) seen → place_of seen rva ≡ Some first
    → rva ≡ method_rva image method → AreNamedTo image (method - 1) marks → AreNamedTo image method marks
named_again image method first rva seen marks there seen_are at e h =
    let x = seen_are rva first at in
    kept_at image method marks there.0 h (λ token table row n is. record {
      method = first;
      some = x.0;
      upto = x.1;
      token = token;
      names = named_along image method first token (sym (x.2 ∙ e)) x.3 n;
      is = is;
    })

known_by : (image : List ℕ) (method token : ℕ) → BodyNames image method token → KnownHeader image (body_of image method)
known_by image method token n = record { header = n.named.header; locals = n.locals }

named_by_look : (image : List ℕ) (method : ℕ) (old new : RowMarks) (s : BodyState) → HasRow image 0x06 method → HasBody image method → HasCodeType image method
    → Looks image (body_of image method) old new s → AreNamedTo image (method - 1) old → AreNamedTo image method new
named_by_look image method old new states.Good there body code l h =
    let e = one_less method there.0 in
    let good : HasGoodBody image method = record { there = body; code_type = code; known = l.0; outline = (l.1, l.2) } in
    subst (λ (n : ℕ). AreNamedTo image n new) e
    (named_good image (method - 1) old new l.1 h (subst (HasGoodBody image) (sym e) good)
    (subst (λ (m : ℕ). Outlines (body_of image m) l.1) (sym e) l.2) l.3)
named_by_look image method old new states.Header there body code l h =
    subst (AreNamedTo image method) (sym l.1) (kept_at image method old there.0 h (λ token table row n is. absurd (l.0 (known_by image method token n))))
named_by_look image method old new states.Instructions there body code l h =
    subst (AreNamedTo image method) (sym l.2) (kept_at image method old there.0 h (λ token table row n is. absurd (l.1 n.named.pieces n.named.outline.code)))
named_by_look image method old new states.Clauses there body code l h =
    subst (AreNamedTo image method) (sym l.3) (kept_at image method old there.0 h (λ token table row n is. absurd (l.2 n.named.pieces n.named.outline)))
named_by_look image method old new states.Nothing there body code l h = absurd l
named_by_look image method old new states.Again there body code l h = absurd l

pub named_looked : (image : List ℕ) (method rva : ℕ) (old new : RowMarks) (s : BodyState) → HasRow image 0x06 method → (rva ≡ 0 → ⊥) → rva ≡ method_rva image method → HasCodeType image method
    → Looks image (readable image rva) old new s → AreNamedTo image (method - 1) old → AreNamedTo image method new
named_looked image method rva old new s there some e code l h =
    named_by_look image method old new s there (λ z. some (e ∙ z)) code (subst (λ r. Looks image (readable image r) old new s) e l) h
