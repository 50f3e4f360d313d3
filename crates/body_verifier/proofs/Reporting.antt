-- What is reported of instructions in order.
use Rattle.std.proofs.Common.{◌≡◌, ◌∙◌, refl, sym, ap, subst, ℕ, suc, ◌+◌, ◌-◌, ◌<◌, ◌≤◌, ◌^◌, arith, List, [], ◌∷◌, ◌++◌, length, map, take, drop, get_or, Some}
use Rattle.std.specs.List.{sum_by}
use Rattle.std.proofs.lemmas.List.{take_more, map-append}
use Rattle.std.proofs.lemmas.List.Sums.{sum_by-append, sum_by-take-le, sum_by-take-drop}
use Rattle.std.proofs.Math.Seq.{drop-cons, take-add}
use Rattle.assembly_tree.specs.declared.body.Body.{Body}
use Rattle.assembly_tree.specs.declared.body.Ins.{Ins}
use Rattle.assembly_tree.specs.declared.typedef.MethodPath.{MethodPath}
use Rattle.assembly_tree.specs.WellFormedBodies.{size_of, offset_of}
use Rattle.body_verifier.specs.declared.report.Broken.{Broken}
use Rattle.body_verifier.specs.declared.report.Failure.{Failure}
use Rattle.body_verifier.specs.Finding.{RisesWithin}
use Rattle.body_verifier.specs.Reports.{reported}

pub rises_at : (code : List Ins) (k : ℕ) (bs : List Broken) (i : ℕ) (d : Broken) → i < length bs → RisesWithin code k (drop i bs)
    → (k ≤ (get_or bs i d).at) × ((get_or bs i d).at < length code) × RisesWithin code (get_or bs i d).at (drop (i + 1) bs)
rises_at code k bs i d below h =
    let P : List Broken → Type 0 = λ (xs : List Broken). RisesWithin code k xs in
    let all : RisesWithin code k (get_or bs i d ∷ drop (suc i) bs) = subst P (drop-cons bs i d below) h in
    let Q : ℕ → Type 0 = λ (n : ℕ). RisesWithin code (get_or bs i d).at (drop n bs) in
    (all.0, all.1, subst Q (let e : suc i ≡ i + 1 = omega arith in e) all.2)

pub offset_to : (code : List Ins) (k p : ℕ) → k ≤ p → offset_of code p ≡ offset_of code k + sum_by size_of (take (p - k) (drop k code))
offset_to code k p le =
    let e : k + (p - k) ≡ p = omega arith in
    ap (λ (n : ℕ). sum_by size_of (take n code)) (sym e) ∙ ap (sum_by size_of) (take-add k (p - k) code) ∙ sum_by-append size_of (take k code) (take (p - k) (drop k code))

pub offset_low : (code : List Ins) (p : ℕ) → offset_of code p ≤ sum_by size_of code
offset_low code p = sum_by-take-le size_of code p

pub part_low : (code : List Ins) (k p : ℕ) → sum_by size_of (take (p - k) (drop k code)) ≤ sum_by size_of code
part_low code k p =
    let a = sum_by-take-le size_of (drop k code) (p - k) in
    let b = sum_by-take-drop size_of code k in
    omega arith

pub reported_more : (path : MethodPath) (b : Body) (code : List Ins) (bs : List Broken) (i offset : ℕ) (d : Broken) (old new : List Failure) (x : Failure) → i < length bs → b.code ≡ code
    → offset ≡ offset_of code (get_or bs i d).at → x ≡ record { method = path; offset = offset; rule = (get_or bs i d).rule } → new ≡ old ++ x ∷ []
    → old ≡ map (reported path b) (take i bs) → new ≡ map (reported path b) (take (i + 1) bs)
reported_more path b code bs i offset d old new x below same at is more before =
    let y = get_or bs i d in
    let there : offset ≡ offset_of b.code y.at = at ∙ ap (λ (c : List Ins). offset_of c y.at) (sym same) in
    let e : x ≡ reported path b y = is ∙ ap (λ (n : ℕ). let f : Failure = record { method = path; offset = n; rule = y.rule } in f) there in
    more ∙ ap (λ (xs : List Failure). xs ++ x ∷ []) before ∙ ap (λ (z : Failure). map (reported path b) (take i bs) ++ z ∷ []) e
    ∙ sym (ap (map (reported path b)) (take_more bs i d below) ∙ map-append (reported path b) (take i bs) (y ∷ []))
