-- The status that is due is that of what is given.
use Rattle.std.proofs.Common.{◌≡◌, ℕ, zero, suc, ◌<◌, ◌≤◌, ◌^◌, List, [], ◌∷◌, Some, length, refl, sym, ap, subst, ◌∙◌, arith}
use Rattle.std.specs.List.{All, AllZip, Contains}
use Rattle.std.specs.Prelude.{slice_get}
use Rattle.std.proofs.lemmas.List.Elements.{All-head, All-tail}
use Rattle.std.proofs.lemmas.Option.{get_or_from_slice_get}
use Rattle.assembly_tree.specs.declared.assembly.Assembly.{Assembly}
use Rattle.assignability.specs.Worlds.{IsCyclicType}
use Rattle.body_verifier.specs.Reports.{ReportsAll}
use Rattle.body_verifier.specs.declared.report.Failure.{Failure}
use Rattle.image_assemblies.specs.Laws.{ImagesHaveOneOutcome}
use Rattle.image_model.specs.Faults.{Reads}
use Rattle.image_model.specs.declared.place.Place.{Place}
use Rattle.type_hierarchy.specs.Ancestors.{IsAcyclic, all_declared}
use Rattle.type_hierarchy.specs.Declarations.{hierarchy_of}
use Rattle.type_hierarchy.specs.Scopes.{Sources, sources}
use Rattle.type_terms.specs.declared.name.TypeName.{TypeName}
use Rattle.run_reports.specs.Reports.{IsFirstFault, MeritsFailures, MeritsReport, status_of}
use Rattle.run_reports.specs.Reports.IsFirstFault.{here as first_here, later}
use Rattle.run_reports.specs.Reports.MeritsFailures.{cyclic as due_cyclic, report as due_report}
use Rattle.run_reports.specs.Reports.MeritsReport.{faulty as due_faulty, read as due_read}

low_at : {X : Type 0} (xs : List X) (k : ℕ) (x : X) → slice_get xs k ≡ Some x → k < length xs
low_at [] k x h = absurd cc
low_at (y ∷ ys) zero x h = omega arith
low_at (y ∷ ys) (suc k) x h = let low = low_at ys k x h in omega (arith, low)

contains_at : {X : Type 0} (xs : List X) (k : ℕ) (x : X) → slice_get xs k ≡ Some x → Contains xs x
contains_at xs k x h = (k, low_at xs k x h, get_or_from_slice_get xs k x x h)

-- ---- assemblies

no_ring : (s : Sources) (k : ℕ) (at : TypeName) → IsCyclicType s k at → IsAcyclic s → ⊥
no_ring s k at ring acyclic = acyclic ring.type (contains_at (all_declared s) ring.first.place ring.type ring.first.is) ring.first.cyclic

-- where the report is had
pub due_of_report : (s : Sources) (failures : List Failure) → IsAcyclic s → ((others : List Failure) → ReportsAll s.image (hierarchy_of s) others → failures ≡ others)
    → (m : ℕ) → MeritsFailures s m → status_of failures ≡ m
due_of_report s failures acyclic alone m (due_cyclic k at ring one) = absurd (no_ring s k at ring acyclic)
due_of_report s failures acyclic alone m (due_report others free reports is) = ap status_of (alone others reports) ∙ sym is

-- where a type is its own ancestor
pub due_of_ring : (s : Sources) (k : ℕ) (at : TypeName) → IsCyclicType s k at → (m : ℕ) → MeritsFailures s m → 1 ≡ m
due_of_ring s k at ring m (due_cyclic j there other one) = sym one
due_of_ring s k at ring m (due_report failures acyclic reports is) = absurd (no_ring s k at ring acyclic)

-- ---- images

module _ (law : ImagesHaveOneOutcome) where
  apart : (images : List (List ℕ)) (all : List Assembly) (k rule : ℕ) (at : Place) → All (λ (image : List ℕ). length image ≤ 2 ^ 26) images
      → IsFirstFault images k rule at → AllZip Reads images all → ⊥
  apart [] all k rule at small fault reads = elim fault [ ]
  apart (image ∷ images) [] k rule at small fault reads = absurd reads
  apart (image ∷ images) (a ∷ all) k rule at small (first_here fault) reads = (law image (All-head (λ (i : List ℕ). length i ≤ 2 ^ 26) image images small)).not_both a rule at reads.0 fault
  apart (image ∷ images) (a ∷ all) k rule at small (later b read rest) reads = apart images all _ rule at (All-tail (λ (i : List ℕ). length i ≤ 2 ^ 26) image images small) rest reads.1

  same_reading : (images : List (List ℕ)) (all others : List Assembly) → All (λ (image : List ℕ). length image ≤ 2 ^ 26) images
      → AllZip Reads images all → AllZip Reads images others → all ≡ others
  same_reading [] [] [] small reads also = refl
  same_reading [] [] (b ∷ others) small reads also = absurd also
  same_reading [] (a ∷ all) others small reads also = absurd reads
  same_reading (image ∷ images) [] others small reads also = absurd reads
  same_reading (image ∷ images) (a ∷ all) [] small reads also = absurd also
  same_reading (image ∷ images) (a ∷ all) (b ∷ others) small reads also =
      let one : a ≡ b = (law image (All-head (λ (i : List ℕ). length i ≤ 2 ^ 26) image images small)).one_assembly a b reads.0 also.0 in
      let more : all ≡ others = same_reading images all others (All-tail (λ (i : List ℕ). length i ≤ 2 ^ 26) image images small) reads.1 also.1 in
      ap (λ x. x ∷ all) one ∙ ap (λ xs. b ∷ xs) more

  head_of : {X : Type 0} {x y : X} {xs ys : List X} → x ∷ xs ≡ y ∷ ys → x ≡ y
  head_of e = cc

  tail_of : {X : Type 0} {x y : X} {xs ys : List X} → x ∷ xs ≡ y ∷ ys → xs ≡ ys
  tail_of e = cc

  module _ (images : List (List ℕ)) (small : All (λ (image : List ℕ). length image ≤ 2 ^ 26) images) where
    -- where all are read
    pub due_of_reading : (a : Assembly) (references : List Assembly) (number : ℕ) → AllZip Reads images (a ∷ references)
        → ((m : ℕ) → MeritsFailures (sources a references) m → number ≡ m) → (m : ℕ) → MeritsReport images m → number ≡ m
    due_of_reading a references number reads due m (due_faulty k rule at fault one) = absurd (apart images (a ∷ references) k rule at small fault reads)
    due_of_reading a references number reads due m (due_read b others also merits) =
        let same = same_reading images (a ∷ references) (b ∷ others) small reads also in
        let first : a ≡ b = head_of same in
        let rest : references ≡ others = tail_of same in
        due m (subst (λ x. MeritsFailures (sources x references) m) (sym first) (subst (λ xs. MeritsFailures (sources b xs) m) (sym rest) merits))

    -- where one has a fault
    pub due_of_fault : (k rule : ℕ) (at : Place) → IsFirstFault images k rule at → (m : ℕ) → MeritsReport images m → 1 ≡ m
    due_of_fault k rule at fault m (due_faulty j other there also one) = sym one
    due_of_fault k rule at fault m (due_read b others reads merits) = absurd (apart images (b ∷ others) k rule at small fault reads)
