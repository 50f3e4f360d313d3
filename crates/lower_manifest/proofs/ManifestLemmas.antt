-- A manifest is that of its parts, and the numbers in it are in their ranges.
use Rattle.std.proofs.Common.{◌≡◌, ℕ, ◌<◌, ◌^◌, List, [], ◌∷◌, ap, sym, subst, ◌∙◌, arith}
use Rattle.std.specs.List.{AllByRecursion}
use Rattle.assembly_tree.specs.declared.assembly.Manifest.{Manifest}
use Rattle.assembly_tree.specs.declared.members.Attribute.{Attribute}
use Rattle.ilasm_grammar.specs.declared.productions.TheConstants.{ASSEMBLY_ASSEMBLY_ATTR_STAR, DECL_SUBSYSTEM}
use Rattle.source_model.specs.Forest.{Part, leaf_at, parts}
use Rattle.source_model.specs.Manifests.{last_said, this_assembly}
use Rattle.source_model.specs.OutOfRange.{is_16_bits}
use Rattle.source_model.specs.Shapes.{natural}
use Rattle.source_model.specs.Source.{Source}
use Rattle.source_model.specs.Values.{int_at}
use Rattle.source_syntax.proofs.ReferenceLemmas.{of_the}
use Rattle.source_flags.specs.InRange.{AllInRange, IsInRange}
use Rattle.lower_manifest.specs.Settings.{setting_said}
use Rattle.lower_manifest.specs.declared.settings.Setting.TheVariants.{Subsystem}
use Rattle.source_flags.proofs.Bits.{of_16_bits, passes_at}
use Rattle.source_flags.proofs.Gathered.{IsSought, all_follow, of_parts}
use Rattle.lower_manifest.proofs.KeyLemmas.{only}

abbrev pub manifest_of : List ℕ → List ℕ → ℕ → List ℕ → List ℕ → ℕ → List ℕ → ℕ → ℕ → ℕ → ℕ → ℕ → List Attribute → List Attribute → Manifest
manifest_of a0 a1 a2 a3 a4 a5 a6 a7 a8 a9 a10 a11 a12 a13 = record {
  name = a0;
  version = a1;
  flags = a2;
  key = a3;
  culture = a4;
  hash = a5;
  «module» = a6;
  image_base = a7;
  file_alignment = a8;
  stack_reserve = a9;
  subsystem = a10;
  cor_flags = a11;
  attributes = a12;
  module_attributes = a13;
}

pub same_manifest : (a0 b0 : List ℕ) (a1 b1 : List ℕ) (a2 b2 : ℕ) (a3 b3 : List ℕ) (a4 b4 : List ℕ) (a5 b5 : ℕ) (a6 b6 : List ℕ) (a7 b7 : ℕ) (a8 b8 : ℕ) (a9 b9 : ℕ) (a10 b10 : ℕ) (a11 b11 : ℕ) (a12 b12 : List Attribute) (a13 b13 : List Attribute) → a0 ≡ b0 → a1 ≡ b1 → a2 ≡ b2 → a3 ≡ b3 → a4 ≡ b4 → a5 ≡ b5 → a6 ≡ b6 → a7 ≡ b7 → a8 ≡ b8 → a9 ≡ b9 → a10 ≡ b10 → a11 ≡ b11 → a12 ≡ b12 → a13 ≡ b13
    → manifest_of a0 a1 a2 a3 a4 a5 a6 a7 a8 a9 a10 a11 a12 a13 ≡ manifest_of b0 b1 b2 b3 b4 b5 b6 b7 b8 b9 b10 b11 b12 b13
same_manifest a0 b0 a1 b1 a2 b2 a3 b3 a4 b4 a5 b5 a6 b6 a7 b7 a8 b8 a9 b9 a10 b10 a11 b11 a12 b12 a13 b13 h0 h1 h2 h3 h4 h5 h6 h7 h8 h9 h10 h11 h12 h13 =
    ap (λ x. manifest_of x a1 a2 a3 a4 a5 a6 a7 a8 a9 a10 a11 a12 a13) h0
    ∙ ap (λ x. manifest_of b0 x a2 a3 a4 a5 a6 a7 a8 a9 a10 a11 a12 a13) h1
    ∙ ap (λ x. manifest_of b0 b1 x a3 a4 a5 a6 a7 a8 a9 a10 a11 a12 a13) h2
    ∙ ap (λ x. manifest_of b0 b1 b2 x a4 a5 a6 a7 a8 a9 a10 a11 a12 a13) h3
    ∙ ap (λ x. manifest_of b0 b1 b2 b3 x a5 a6 a7 a8 a9 a10 a11 a12 a13) h4
    ∙ ap (λ x. manifest_of b0 b1 b2 b3 b4 x a6 a7 a8 a9 a10 a11 a12 a13) h5
    ∙ ap (λ x. manifest_of b0 b1 b2 b3 b4 b5 x a7 a8 a9 a10 a11 a12 a13) h6
    ∙ ap (λ x. manifest_of b0 b1 b2 b3 b4 b5 b6 x a8 a9 a10 a11 a12 a13) h7
    ∙ ap (λ x. manifest_of b0 b1 b2 b3 b4 b5 b6 b7 x a9 a10 a11 a12 a13) h8
    ∙ ap (λ x. manifest_of b0 b1 b2 b3 b4 b5 b6 b7 b8 x a10 a11 a12 a13) h9
    ∙ ap (λ x. manifest_of b0 b1 b2 b3 b4 b5 b6 b7 b8 b9 x a11 a12 a13) h10
    ∙ ap (λ x. manifest_of b0 b1 b2 b3 b4 b5 b6 b7 b8 b9 b10 x a12 a13) h11
    ∙ ap (λ x. manifest_of b0 b1 b2 b3 b4 b5 b6 b7 b8 b9 b10 b11 x a13) h12
    ∙ ap (λ x. manifest_of b0 b1 b2 b3 b4 b5 b6 b7 b8 b9 b10 b11 b12 x) h13

-- what stands below the declaration of the assembly is in range
pub declaration_in_range : (s : Source) → AllInRange s s.tree → AllInRange s (this_assembly s)
declaration_in_range s h = of_the (IsInRange s) ASSEMBLY_ASSEMBLY_ATTR_STAR s.tree h

-- ---- the subsystem has 16 bits

abbrev number_of : Source → Part → ℕ
number_of s p = natural (int_at s (leaf_at 1 p.below))

said_fits : (s : Source) (ps : List Part) (other : ℕ) → AllByRecursion (λ p. number_of s p < 2 ^ 16) ps → other < 2 ^ 16 → last_said (number_of s) other ps < 2 ^ 16
said_fits s [] other h less = less
said_fits s (p ∷ ps) other h less = said_fits s ps (number_of s p) h.1 h.0

subsystem_number : (s : Source) (p : Part) → IsSought (IsInRange s) (DECL_SUBSYSTEM ∷ []) p → number_of s p < 2 ^ 16
subsystem_number s p h =
    let own : IsInRange s DECL_SUBSYSTEM p.below = subst (λ q. IsInRange s q p.below) (only DECL_SUBSYSTEM p.production h.0) h.1 in
    let m = of_16_bits (int_at s (leaf_at 1 p.below)) (passes_at is_16_bits s (leaf_at 1 p.below) own.manifest) in
    subst (λ k. k < 2 ^ 16) (sym (ap natural m.1)) m.2

pub subsystem_fits : (s : Source) → AllInRange s s.tree → setting_said s Subsystem s.tree < 2 ^ 16
subsystem_fits s h =
    let ps = parts (DECL_SUBSYSTEM ∷ []) s.tree in
    said_fits s ps 3
    (all_follow (IsSought (IsInRange s) (DECL_SUBSYSTEM ∷ [])) (λ p. number_of s p < 2 ^ 16) ps (λ p. subsystem_number s p)
    (of_parts (IsInRange s) (DECL_SUBSYSTEM ∷ []) s.tree h))
    (omega arith)
