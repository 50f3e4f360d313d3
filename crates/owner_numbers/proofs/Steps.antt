-- Rows of TypeSpec get their numbers one after the other.
use Rattle.std.proofs.Common.{◌≡◌, ℕ, zero, suc, replicate, ◌+◌, ◌-◌, ◌^◌, ◌≤◌, ◌<◌, ◌⊎◌, inl, inr, cond, Bool, true, false, List, [], ◌∷◌, ◌++◌, Option, Some, None, length, refl, sym, ap, subst, ◌∙◌, arith}
use Rattle.std.specs.Prelude.{◌↔◌, nat_eq, slice_get, slice_set, slice_index}
use Rattle.std.proofs.lemmas.Bool.{cases_eq, cases_Bool, eqb-true}
use Rattle.std.proofs.lemmas.Option.{same_Some, slice_get-get_or}
use Rattle.type_terms.specs.Depth.{depth, owner_depth}
use Rattle.type_terms.specs.declared.term.Owner.{Owner}
use Rattle.type_terms.specs.declared.term.Owner.TheVariants.{Spec}
use Rattle.type_terms.specs.declared.term.SigType.{SigType}
use Rattle.hash_places.specs.Slots.{place_of}
use Rattle.image_model.specs.Columns.{type_spec_signature}
use Rattle.image_model.specs.Laws.{OneOwners}
use Rattle.image_model.specs.Naming.{TellsOwners}
use Rattle.image_model.specs.Rows.{count_of, HasRow}
use Rattle.image_namings.proofs.Transfer.{depth-Spec}
use Rattle.name_numbers.specs.declared.numbering.Named.{Named}
use Rattle.row_twins.specs.Linked as linked
use Rattle.row_twins.specs.Linked.{AreLinked, AddsRow}
use Rattle.row_twins.specs.Twins.{IsWithin}
use Rattle.row_twins.specs.declared.hashed.Hashed.{Hashed}
use Rattle.row_twins.specs.declared.hashed.HashedRows.{HashedRows}
use Rattle.row_twins.proofs.Finding.{snoc_cases, snoc_old, snoc_new}
use Rattle.signature_facts.specs.Scanning.{OwnersFacts}
use Rattle.type_names.specs.Numbers.{TellNames, TypeNumbers}
use Rattle.owner_numbers.specs.Canon.{Classes, AreNumbered, AreComparable, MayCompare, below}
use Rattle.owner_numbers.specs.Sorting.{MayBeSorted, IsClass, HasClass, AreFirsts, IsFirst, AreSorted, AreDone, AreClasses}
use Rattle.owner_numbers.specs.Terms.{term_in, term_of, spec_count, level_at, hash_at, HaveOneTerm}
use Rattle.owner_numbers.specs.declared.classes.Sorted.{Sorted}
use Rattle.owner_numbers.proofs.Narrow.{below_is}
use Rattle.owner_numbers.proofs.Numbered.{numbered}
use Rattle.owner_numbers.proofs.Telling.{told_apart}
use Rattle.owner_numbers.proofs.Told.{level_some, level_back, hash_is}

abbrev InRows : List Hashed → ℕ → ℕ → Type 0
InRows rows hash row = linked.HasRow rows hash row

pub within_there : (image : List ℕ) (row : ℕ) → IsWithin (spec_count image) row → HasRow image 0x1B row × (row < 2 ^ 24)
within_there image row w = let a = w.0 in let b = w.1 in ((a, omega arith), omega arith)

pub there_within : (image : List ℕ) (row : ℕ) → HasRow image 0x1B row → row < 2 ^ 24 → IsWithin (spec_count image) row
there_within image row there few = let a = there.0 in let b = there.1 in (a, omega arith)

-- ---- numbers of rows that have one

module _ (image : List ℕ) (owners : ℕ → Option Owner) (it : Sorted) (firsts : AreFirsts image owners it) where
  abbrev class_of : ℕ → ℕ
  class_of row = slice_index it.classes.items row

  pub one_class : (one other : ℕ) (s t : SigType) → 0 < class_of one → 0 < class_of other → term_of image owners one ≡ Some s → term_of image owners other ≡ Some t
      → (class_of one ≡ class_of other) ↔ (s ≡ t)
  one_class one other s t p q e f =
      let a = firsts.class one p in
      let b = firsts.class other q in (
        λ same. same_Some s t (sym e ∙ a.2 ∙ ap (term_of image owners) same ∙ sym b.2 ∙ f),
        λ same. firsts.apart a.0 b.0 (class_of one) (class_of other) a.1 b.1 (sym a.2 ∙ e ∙ ap (λ (x : SigType). Some x) same ∙ sym f ∙ b.2),
      )

read : (classes : List ℕ) (k : ℕ) → k < length classes → slice_get classes k ≡ Some (slice_index classes k)
read classes k lt = slice_get-get_or classes k 0 lt

-- ---- rows that may be compared

module _ (image : List ℕ) (names : TypeNumbers) (facts : OwnersFacts) (may : MayBeSorted image names facts) (tell : TellNames names.image names.named) where
  tell_here : TellNames image names.named
  tell_here = subst (λ (i : List ℕ). TellNames i names.named) may.same tell

  all_numbered : AreNumbered image names.named
  all_numbered = numbered image names.named tell_here may.meets may.scopes

  module _ (level row : ℕ) (within : IsWithin (spec_count image) row) (is : level_at facts row ≡ Some level) (it : Sorted) (sorted : AreSorted image facts level it) (done : AreDone image facts it level row) where
    abbrev known : Classes
    known = record { image = image; named = names.named; classes = it.classes.items }

    pub comparable : (hash other : ℕ) → InRows it.firsts.rows hash other → (owners : ℕ → Option Owner) → TellsOwners image owners → AreComparable known owners row other
    comparable hash other has owners tells =
        let f = may.facts_are owners tells in
        let first = sorted.firsts hash other has in
        let o = within_there image other first.within in
        let r = within_there image row within in
        let one = level_back image owners tells f.0 facts f.1 other o.0 o.1 first.depth first.is in
        let two = level_back image owners tells f.0 facts f.1 row r.0 r.1 level is in
        let low = first.low in
        let so = sorted.so owners tells in
        let long = sorted.long in
        record {
          limit = level;
          one = one.0;
          two = two.0;
          one_is = one.1;
          two_is = two.1;
          one_deep = omega (arith, one.2);
          two_deep = omega (arith, two.2);
          canon = λ x y p q e g.
              let a = below_is level owners x p e in
              let b = below_is level owners y q g in
              told_apart image names.named tell_here all_numbered owners tells it.classes.items (λ o. owner_depth o < level)
              (λ c d s t ct dt cf df cs ds ch dh.
              let cw = there_within image c ct cf in
              let dw = there_within image d dt df in
              let sd : depth s < level = omega (arith, depth-Spec s) in
              let td : depth t < level = omega (arith, depth-Spec t) in
              let cdone = done c (depth s) cw (level_some image owners tells f.0 facts f.1 c ct cf s cs) (inl sd) in
              let ddone = done d (depth t) dw (level_some image owners tells f.0 facts f.1 d dt df t ds) (inl td) in
              let cl : c < length it.classes.items = let w = cw.1 in omega arith in
              let dl : d < length it.classes.items = let w = dw.1 in omega arith in
              (slice_index it.classes.items c, slice_index it.classes.items d, read it.classes.items c cl, read it.classes.items d dl, one_class image owners it so c d s t cdone ddone cs ds))
              x y p q a.0 b.0 a.1 b.1;
        }

    pub may_compare : (hash other : ℕ) → InRows it.firsts.rows hash other → MayCompare known row other
    may_compare hash other has = record {
      told = may.told;
      row_there = (within_there image row within).0;
      other_there = (within_there image other (sorted.firsts hash other has).within).0;
      comparable = comparable hash other has;
    }

-- ---- a row whose number is its own

has_cases : (old : List Hashed) (r : Hashed) (hash row : ℕ) → InRows (old ++ r ∷ []) hash row → InRows old hash row ⊎ ((r.hash ≡ hash) × (r.row ≡ row))
has_cases old r hash row (place, at) =
    let x : Hashed = record { hash = hash; row = row } in
    elim (snoc_cases old r x place at) [
      | inl was ↦ inl (place, was)
      | inr is ↦ inr (ap (λ (x : Hashed). x.hash) (sym is.1), ap (λ (x : Hashed). x.row) (sym is.1))
    ]

has_grown : (old : List Hashed) (r : Hashed) (hash row : ℕ) → InRows old hash row → InRows (old ++ r ∷ []) hash row
has_grown old r hash row (place, at) = (place, snoc_old old r (record { hash = hash; row = row }) place at)

has_new : (old : List Hashed) (hash row : ℕ) → InRows (old ++ record { hash = hash; row = row } ∷ []) hash row
has_new old hash row = (length old, snoc_new old (record { hash = hash; row = row }) (length old) refl)

module _ (image : List ℕ) (names : TypeNumbers) (facts : OwnersFacts) (may : MayBeSorted image names facts) (one_map : OneOwners) (level hash row : ℕ) (within : IsWithin (spec_count image) row) (is : level_at facts row ≡ Some level)
    (hashed : hash ≡ hash_at facts row) (old : Sorted) (firsts : HashedRows) (sorted : AreSorted image facts level old) (are : AreLinked firsts) (adds : AddsRow old.firsts.rows firsts.rows hash row)
    (none : (class : ℕ) → InRows old.firsts.rows hash class → HaveOneTerm image class row → ⊥) where
  abbrev new : Sorted
  new = record { classes = old.classes; by_index = old.by_index; firsts = firsts }

  abbrev r : Hashed
  r = record { hash = hash; row = row }

  grown : (h q : ℕ) → InRows old.firsts.rows h q → InRows firsts.rows h q
  grown h q has = subst (λ (xs : List Hashed). InRows xs h q) (sym adds) (has_grown old.firsts.rows r h q has)

  here : InRows firsts.rows hash row
  here = subst (λ (xs : List Hashed). InRows xs hash row) (sym adds) (has_new old.firsts.rows hash row)

  either : (h q : ℕ) → InRows firsts.rows h q → InRows old.firsts.rows h q ⊎ ((hash ≡ h) × (row ≡ q))
  either h q has = has_cases old.firsts.rows r h q (subst (λ (xs : List Hashed). InRows xs h q) adds has)

  first_new : (h q : ℕ) → InRows firsts.rows h q → IsFirst image facts level h q
  first_new h q has = elim (either h q has) [
    | inl was ↦ sorted.firsts h q was
    | inr e ↦
        let one : IsFirst image facts level hash row = record { within = within; hashed = hashed; depth = level; is = is; low = omega arith } in
        subst (IsFirst image facts level h) e.1 (subst (λ (n : ℕ). IsFirst image facts level n row) e.0 one)
  ]

  -- no row with the type of this one was kept
  alone : (owners : ℕ → Option Owner) → TellsOwners image owners → (h q : ℕ) → InRows old.firsts.rows h q → term_of image owners q ≡ term_of image owners row → ⊥
  alone owners tells h q has same =
      let f = may.facts_are owners tells in
      let first = sorted.firsts h q has in
      let a = within_there image q first.within in
      let b = within_there image row within in
      let two = level_back image owners tells f.0 facts f.1 row b.0 b.1 level is in
      let ha = hash_is image owners tells f.0 facts f.1 q a.0 a.1 two.0 (same ∙ two.1) in
      let hb = hash_is image owners tells f.0 facts f.1 row b.0 b.1 two.0 two.1 in
      let e : h ≡ hash = first.hashed ∙ ha ∙ sym hb ∙ sym hashed in
      none q (subst (λ (n : ℕ). InRows old.firsts.rows n q) e has)
      (λ others told. subst (λ (o : ℕ → Option Owner). term_of image o q ≡ term_of image o row) (one_map image owners others tells told) same)

  apart_new : (owners : ℕ → Option Owner) → TellsOwners image owners → (g h one other : ℕ) → InRows firsts.rows g one → InRows firsts.rows h other → term_of image owners one ≡ term_of image owners other → one ≡ other
  apart_new owners tells g h one other p q same = elim (either g one p) [
    | inl a ↦ elim (either h other q) [
      | inl b ↦ (sorted.so owners tells).apart g h one other a b same
      | inr b ↦ absurd (alone owners tells g one a (same ∙ ap (term_of image owners) (sym b.1)))
    ]
    | inr a ↦ elim (either h other q) [
      | inl b ↦ absurd (alone owners tells h other b (sym same ∙ ap (term_of image owners) (sym a.1)))
      | inr b ↦ sym a.1 ∙ b.1
    ]
  ]

  pub kept : AreSorted image facts level new
  kept = record {
    long = sorted.long;
    linked = are;
    firsts = first_new;
    so = λ owners tells.
        let so = sorted.so owners tells in
        record {
          apart = apart_new owners tells;
          by_index = λ index class e. let c = so.by_index index class e in (c.0, grown c.0 class c.1, c.2);
          class = λ q some. let c = so.class q some in (c.0, grown c.0 (slice_index old.classes.items q) c.1, c.2);
        };
  }

  pub own_class : HasClass image new row row
  own_class = (within, λ owners tells. (hash, here, refl))

pub class_by_index : (image : List ℕ) (names : TypeNumbers) (facts : OwnersFacts) → MayBeSorted image names facts → (level row index class : ℕ) (it : Sorted) → AreSorted image facts level it
    → index ≡ type_spec_signature image row → place_of it.by_index index ≡ Some class → HasClass image it row class
class_by_index image names facts may level row index class it sorted e found =
    let told = may.told in
    let c = (sorted.so told.0 told.1).by_index index class found in (
      (sorted.firsts c.0 class c.1).within,
      λ owners tells.
          let d = (sorted.so owners tells).by_index index class found in
          (d.0, d.1, ap (term_in image owners) (sym e) ∙ d.2),
    )

pub class_found : (image : List ℕ) (facts : OwnersFacts) (level row hash class : ℕ) (it : Sorted) → AreSorted image facts level it → InRows it.firsts.rows hash class → HaveOneTerm image class row → HasClass image it row class
class_found image facts level row hash class it sorted has one =
    ((sorted.firsts hash class has).within, λ owners tells. (hash, has, sym (one owners tells)))

-- ---- a number is noted

module _ (image : List ℕ) (facts : OwnersFacts) (level row class index : ℕ) (old new : Sorted) (sorted : AreSorted image facts level old) (within : IsWithin (spec_count image) row) (is : index ≡ type_spec_signature image row)
    (has : HasClass image old row class) (firsts : new.firsts ≡ old.firsts) (long : length new.classes.items ≡ length old.classes.items)
    (here : slice_index new.classes.items row ≡ class) (else_where : (q : ℕ) → (q ≡ row → ⊥) → slice_index new.classes.items q ≡ slice_index old.classes.items q)
    (placed : (q : ℕ) → place_of new.by_index q ≡ cond (nat_eq index q) (Some class) (place_of old.by_index q)) where
  abbrev rows_old : List Hashed
  rows_old = old.firsts.rows

  back : (h q : ℕ) → InRows new.firsts.rows h q → InRows rows_old h q
  back h q e = subst (λ (f : HashedRows). InRows f.rows h q) firsts e

  fore : (h q : ℕ) → InRows rows_old h q → InRows new.firsts.rows h q
  fore h q e = subst (λ (f : HashedRows). InRows f.rows h q) (sym firsts) e

  index_noted : (owners : ℕ → Option Owner) → TellsOwners image owners → (i c : ℕ) → place_of new.by_index i ≡ Some c → IsClass image owners new i c
  index_noted owners tells i c e = elim (cases_Bool (nat_eq index i)) [
    | inl same ↦
        let i_is : index ≡ i = eqb-true index i same in
        let c_is : class ≡ c = same_Some class c (sym (placed i ∙ ap (λ (b : Bool). cond b (Some class) (place_of old.by_index i)) same) ∙ e) in
        let h = has.1 owners tells in
        let one : IsClass image owners new index class = (h.0, fore h.0 class h.1, ap (term_in image owners) is ∙ h.2) in
        subst (λ (n : ℕ). IsClass image owners new n c) i_is (subst (IsClass image owners new index) c_is one)
    | inr other ↦
        let was = sym (placed i ∙ ap (λ (b : Bool). cond b (Some class) (place_of old.by_index i)) other) ∙ e in
        let b = (sorted.so owners tells).by_index i c was in
        (b.0, fore b.0 c b.1, b.2)
  ]

  class_noted : (owners : ℕ → Option Owner) → TellsOwners image owners → (q : ℕ) → 0 < slice_index new.classes.items q
      → (hash : ℕ) × InRows new.firsts.rows hash (slice_index new.classes.items q) × (term_of image owners q ≡ term_of image owners (slice_index new.classes.items q))
  class_noted owners tells q some = elim (cases_eq q row) [
    | inl e ↦
        let h = has.1 owners tells in
        let same : class ≡ slice_index new.classes.items q = sym here ∙ ap (slice_index new.classes.items) (sym e) in
        subst (λ (c : ℕ). (hash : ℕ) × InRows new.firsts.rows hash c × (term_of image owners q ≡ term_of image owners c)) same (h.0, fore h.0 class h.1, ap (term_of image owners) e ∙ h.2)
    | inr n ↦
        let same = else_where q n in
        let b = (sorted.so owners tells).class q (subst (λ (c : ℕ). 0 < c) same some) in
        subst (λ (c : ℕ). (hash : ℕ) × InRows new.firsts.rows hash c × (term_of image owners q ≡ term_of image owners c)) (sym same) (b.0, fore b.0 (slice_index old.classes.items q) b.1, b.2)
  ]

  pub noted : AreSorted image facts level new
  noted = record {
    long = long ∙ sorted.long;
    linked = subst AreLinked (sym firsts) sorted.linked;
    firsts = λ h q e. sorted.firsts h q (back h q e);
    so = λ owners tells.
        record {
          apart = λ g h one other p q same. (sorted.so owners tells).apart g h one other (back g one p) (back h other q) same;
          by_index = index_noted owners tells;
          class = class_noted owners tells;
        };
  }

  pub done_more : AreDone image facts old level row → AreDone image facts new level (row + 1)
  done_more done q d w l before = elim (cases_eq q row) [
    | inl e ↦
        let some = has.0.0 in
        let same : slice_index new.classes.items q ≡ class = ap (slice_index new.classes.items) e ∙ here in
        omega arith
    | inr n ↦
        let was = done q d w l (elim before [ inl low ↦ inl low | inr at ↦ let less = at.1 in inr (at.0, omega arith) ]) in
        omega (arith, else_where q n)
  ]

-- ---- the rows of a level, and all

pub done_past : (image : List ℕ) (facts : OwnersFacts) (it : Sorted) (level row : ℕ) → (level_at facts row ≡ Some level → ⊥) → AreDone image facts it level row → AreDone image facts it level (row + 1)
done_past image facts it level row other done q d w l before = elim before [
  | inl low ↦ done q d w l (inl low)
  | inr at ↦ elim (cases_eq q row) [
    | inl e ↦ absurd (other (subst (λ (n : ℕ). level_at facts n ≡ Some level) e (l ∙ ap (λ (n : ℕ). Some n) at.0)))
    | inr n ↦ let less = at.1 in done q d w l (inr (at.0, omega arith))
  ]
]

pub deeper : (image : List ℕ) (facts : OwnersFacts) (it : Sorted) (level : ℕ) → AreSorted image facts level it → AreSorted image facts (level + 1) it
deeper image facts it level sorted = record {
  long = sorted.long;
  linked = sorted.linked;
  firsts = λ h q e. let f = sorted.firsts h q e in let low = f.low in record { within = f.within; hashed = f.hashed; depth = f.depth; is = f.is; low = omega arith };
  so = sorted.so;
}

pub done_level : (image : List ℕ) (facts : OwnersFacts) (it : Sorted) (level upto : ℕ) → spec_count image < upto → AreDone image facts it level upto → AreDone image facts it (level + 1) 1
done_level image facts it level upto past done q d w l before = elim before [
  | inl low ↦ elim (cases_eq d level) [
    | inl e ↦ let a = w.1 in done q d w l (inr (e, omega arith))
    | inr n ↦ done q d w l (inl (omega arith))
  ]
  | inr at ↦ let some = w.0 in let less = at.1 in absurd (omega arith)
]

pub none_done : (image : List ℕ) (facts : OwnersFacts) (it : Sorted) → AreDone image facts it 0 1
none_done image facts it q d w l before = elim before [
  | inl low ↦ absurd (omega arith)
  | inr at ↦ let some = w.0 in let less = at.1 in absurd (omega arith)
]

pub none_yet : (image : List ℕ) (facts : OwnersFacts) (it : Sorted) → length it.classes.items ≡ spec_count image + 1 → AreLinked it.firsts → it.firsts.rows ≡ [] → ((h : ℕ) → place_of it.by_index h ≡ None)
    → ((q : ℕ) → slice_index it.classes.items q ≡ 0) → AreSorted image facts 0 it
none_yet image facts it long are empty places naught = record {
  long = long;
  linked = are;
  firsts = λ h q e. absurd (nothing h q (subst (λ (xs : List Hashed). InRows xs h q) empty e));
  so = λ owners tells.
      record {
        apart = λ g h one other p q same. absurd (nothing g one (subst (λ (xs : List Hashed). InRows xs g one) empty p));
        by_index = λ i c e. absurd (let n = places i in cc);
        class = λ q some. absurd (let z = naught q in omega arith);
      };
}
  where
    nothing : (h q : ℕ) → InRows [] h q → ⊥
    nothing h q (place, at) = absurd cc

pub all_sorted : (image : List ℕ) (names : TypeNumbers) (facts : OwnersFacts) → MayBeSorted image names facts → (it : Sorted) (level deepest : ℕ) → AreSorted image facts level it → AreDone image facts it level 1
    → ((row d : ℕ) → 0 < row → row ≤ spec_count image → level_at facts row ≡ Some d → d ≤ deepest) → deepest < level → AreClasses image it.classes.items
all_sorted image names facts may it level deepest sorted done low past = record {
  long = sorted.long;
  same = λ owners tells one other s t a b e f.
      let g = may.facts_are owners tells in
      let at = within_there image one a in
      let bt = within_there image other b in
      let la = level_some image owners tells g.0 facts g.1 one at.0 at.1 s e in
      let lb = level_some image owners tells g.0 facts g.1 other bt.0 bt.1 t f in
      let da = low one (depth s) a.0 a.1 la in
      let db = low other (depth t) b.0 b.1 lb in
      one_class image owners it (sorted.so owners tells) one other s t (done one (depth s) a la (inl (omega arith))) (done other (depth t) b lb (inl (omega arith))) e f;
}

pub zero_there : (n q : ℕ) → slice_index (replicate n 0) q ≡ 0
zero_there zero q = refl
zero_there (suc n) zero = refl
zero_there (suc n) (suc q) = zero_there n q

pub set_same : (xs : List ℕ) (k v : ℕ) → k < length xs → slice_index (slice_set xs k v) k ≡ v
set_same [] k v h = absurd (omega arith)
set_same (x ∷ xs) zero v h = refl
set_same (x ∷ xs) (suc k) v h = set_same xs k v (omega arith)

pub set_other : (xs : List ℕ) (j k v : ℕ) → (j ≡ k → ⊥) → slice_index (slice_set xs k v) j ≡ slice_index xs j
set_other [] j k v ne = refl
set_other (x ∷ xs) zero zero v ne = absurd (ne refl)
set_other (x ∷ xs) zero (suc k) v ne = refl
set_other (x ∷ xs) (suc j) zero v ne = refl
set_other (x ∷ xs) (suc j) (suc k) v ne = set_other xs j k v (λ e. ne (omega arith))

pub set_long : (xs : List ℕ) (k v : ℕ) → length (slice_set xs k v) ≡ length xs
set_long [] k v = refl
set_long (x ∷ xs) zero v = refl
set_long (x ∷ xs) (suc k) v = ap suc (set_long xs k v)

pub done_moved : (image : List ℕ) (facts : OwnersFacts) (old new : Sorted) (level upto : ℕ) → new.classes.items ≡ old.classes.items → AreDone image facts old level upto → AreDone image facts new level upto
done_moved image facts old new level upto e done q d w l b = subst (λ (n : ℕ). 0 < n) (sym (ap (λ (xs : List ℕ). slice_index xs q) e)) (done q d w l b)
