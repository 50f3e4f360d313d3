-- Attributes behind what they belong to, and the parts of rows with commas.
use Rattle.std.proofs.Common.{◌≡◌, ℕ, suc, ◌+◌, Bool, true, false, cond, if◌then◌else◌, List, [], ◌∷◌, ◌++◌, map, take_while, refl, ap, ◌∙◌, append-nil}
use Rattle.std.proofs.lemmas.Bool.{and_parts}
use Rattle.std.proofs.lemmas.List.Sums.{take_while-cons}
use Rattle.std.specs.List.{list_all}
use Rattle.source_model.specs.Forest as f
use Rattle.source_model.specs.Items.{is_custom, begins_run, runs, customs_outside}
use Rattle.listing_model.specs.Shown.{Item, size, star_production, star_below, behind_comma}
use Rattle.listing_reading.specs.Laws.{RunsAreRead, CommasAreRead}
use Rattle.listing_reading.specs.Numbered.{numbered}
use Rattle.listing_reading.specs.Rows.{AreAmong, parts_behind, IsEndOfRun}

-- ---- attributes

-- attributes, and then what is none
taken : (cs rest : List f.Part) → list_all is_custom cs ≡ true → IsEndOfRun rest → take_while is_custom (cs ++ rest) ≡ cs
taken [] [] h e = refl
taken [] (p ∷ ps) h e = take_while-cons is_custom p ps ∙ ap (λ c. cond c (p ∷ take_while is_custom ps) []) e
taken (c ∷ cs) rest h e =
    let hs = and_parts (is_custom c) (list_all is_custom cs) h in
    take_while-cons is_custom c (cs ++ rest)
    ∙ (ap (λ b. cond b (c ∷ take_while is_custom (cs ++ rest)) []) hs.0 ∙ ap (λ ps. c ∷ ps) (taken cs rest hs.1 e))

run_is : (head : f.Part) (cs rest : List f.Part) → list_all is_custom cs ≡ true → IsEndOfRun rest →
    runs (head ∷ (cs ++ rest)) ≡ record { head = head; customs = cs } ∷ runs (cs ++ rest)
run_is head cs rest h e = ap (λ ps. record { head = head; customs = ps } ∷ runs (cs ++ rest)) (taken cs rest h e)

-- attributes in a run belong to its head, any other to what surrounds them
in_run : (cs rest : List f.Part) → list_all is_custom cs ≡ true → customs_outside true (cs ++ rest) ≡ customs_outside true rest
in_run [] rest h = refl
in_run (c ∷ cs) rest h =
    let hs = and_parts (is_custom c) (list_all is_custom cs) h in
    ap (λ b. if b then customs_outside true (cs ++ rest) else customs_outside (begins_run c) (cs ++ rest)) hs.0 ∙ in_run cs rest hs.1

outside : (cs rest : List f.Part) → list_all is_custom cs ≡ true → customs_outside false (cs ++ rest) ≡ cs ++ customs_outside false rest
outside [] rest h = refl
outside (c ∷ cs) rest h =
    let hs = and_parts (is_custom c) (list_all is_custom cs) h in
    ap (λ b. if b then c ∷ customs_outside false (cs ++ rest) else customs_outside (begins_run c) (cs ++ rest)) hs.0 ∙ ap (λ ps. c ∷ ps) (outside cs rest hs.1)

head_is : (b : Bool) (head : f.Part) (rest : List f.Part) → is_custom head ≡ false → customs_outside b (head ∷ rest) ≡ customs_outside (begins_run head) rest
head_is b head rest h =
    ap (λ c. if c then (if b then [] else head ∷ []) ++ customs_outside b rest else customs_outside (begins_run head) rest) h

pub runs_are_read : RunsAreRead
runs_are_read = record { run = run_is; inside = in_run; outside = outside; head = head_is }

-- ---- rows with commas

parts_of_commas : (sought : List ℕ) (more end comma : ℕ) → f.is_among sought more ≡ false → f.is_among sought end ≡ false → f.is_among sought comma ≡ false →
    (items : List Item) → AreAmong sought items → (at : ℕ) (after : f.Forest) →
    f.parts sought (f.branch (star_production more end (map (behind_comma comma) items)) (numbered at (star_below more end (map (behind_comma comma) items))) after)
    ≡ parts_behind at items ++ f.parts sought after
parts_of_commas sought more end comma m e c [] h at after = ap (λ (b : Bool). (if b then f.part end f.none ∷ [] else []) ++ f.parts sought after) e
parts_of_commas sought more end comma m e c (i ∷ is) h at after =
    let js = map (behind_comma comma) is in
    let next = at + size (behind_comma comma i).below in
    let row = f.branch (star_production more end js) (numbered next (star_below more end js)) f.none in
    let own = numbered (suc at) i.below in
    let one = f.leaf at (f.branch i.production own f.none) in
    ap (λ (b : Bool). (if b then f.part more (f.branch comma one row) ∷ []
    else (if f.is_among sought comma then f.part comma one ∷ [] else (if f.is_among sought i.production then f.part i.production own ∷ [] else f.parts sought own) ++ []) ++ f.parts sought row) ++ f.parts sought after) m
    ∙ (ap (λ (b : Bool). ((if b then f.part comma one ∷ [] else (if f.is_among sought i.production then f.part i.production own ∷ [] else f.parts sought own) ++ []) ++ f.parts sought row) ++ f.parts sought after) c
    ∙ (ap (λ (b : Bool). (((if b then f.part i.production own ∷ [] else f.parts sought own) ++ []) ++ f.parts sought row) ++ f.parts sought after) h.0
    ∙ ap (λ ps. (f.part i.production own ∷ ps) ++ f.parts sought after) (parts_of_commas sought more end comma m e c is h.1 next f.none ∙ append-nil _)))

pub commas_are_read : CommasAreRead
commas_are_read = parts_of_commas
