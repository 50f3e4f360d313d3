-- Assemblies that a source names, from their parts.
use Rattle.std.proofs.Common.{◌≡◌, ℕ, ◌+◌, List, [], ◌∷◌, ◌++◌, map, take, ap, sym, ◌∙◌, refl}
use Rattle.std.specs.Prelude.{Some, slice_get}
use Rattle.std.specs.List.{AllByRecursion, flat_map}
use Rattle.std.proofs.lemmas.List.{append_assoc, map-append}
use Rattle.assembly_tree.specs.declared.assembly.ExternAssembly.{ExternAssembly}
use Rattle.ilasm_grammar.specs.Ilasm.{ilasm, rule_by}
use Rattle.ilasm_grammar.specs.declared.nonterminals.TheConstants.{SOURCE}
use Rattle.ilasm_grammar.specs.declared.productions.TheConstants.{ASSEMBLY_EXTERN, DECL_ASSEMBLY}
use Rattle.ilasm_grammar.specs.declared.symbol.Symbol.TheVariants.{Nonterminal}
use Rattle.ilasm_grammar.specs.declared.terminals.TheConstants as t
use Rattle.source_model.specs.Forest.{Part, parts}
use Rattle.source_model.specs.Items.{declarations}
use Rattle.source_model.specs.Manifests.{extern_assemblies, extern_assembly}
use Rattle.source_model.specs.Source.{Source}
use Rattle.source_nodes.specs.Derived.{Fits, HasBodies}
use Rattle.source_syntax.proofs.NameTokens.{terminals_of_rule}
use Rattle.source_nodes.proofs.PieceLemmas.{mapped_below, take_next}
use Rattle.source_flags.specs.InRange.{AllInRange, IsInRange}
use Rattle.source_flags.specs.Lines.{productions_of}
use Rattle.lower_manifest.specs.Chosen.{are_of}
use Rattle.source_flags.specs.declared.gathering.Kind.TheVariants.{Declarations, One}
use Rattle.lower_manifest.proofs.Among.{all_of_kind, externs_declared}
use Rattle.source_flags.proofs.Gathered.{IsSought, all_follow, of_parts}
use Rattle.lower_manifest.specs.Externs.{extern_at}

abbrev pub extern_of : List ℕ → List ℕ → ℕ → List ℕ → List ℕ → List ℕ → ExternAssembly
extern_of a0 a1 a2 a3 a4 a5 = record { name = a0; version = a1; flags = a2; key = a3; culture = a4; hash = a5 }

pub same_extern : (a0 b0 : List ℕ) (a1 b1 : List ℕ) (a2 b2 : ℕ) (a3 b3 : List ℕ) (a4 b4 : List ℕ) (a5 b5 : List ℕ) → a0 ≡ b0 → a1 ≡ b1 → a2 ≡ b2 → a3 ≡ b3 → a4 ≡ b4 → a5 ≡ b5
    → extern_of a0 a1 a2 a3 a4 a5 ≡ extern_of b0 b1 b2 b3 b4 b5
same_extern a0 b0 a1 b1 a2 b2 a3 b3 a4 b4 a5 b5 h0 h1 h2 h3 h4 h5 =
    ap (λ x. extern_of x a1 a2 a3 a4 a5) h0
    ∙ ap (λ x. extern_of b0 x a2 a3 a4 a5) h1
    ∙ ap (λ x. extern_of b0 b1 x a3 a4 a5) h2
    ∙ ap (λ x. extern_of b0 b1 b2 x a4 a5) h3
    ∙ ap (λ x. extern_of b0 b1 b2 b3 x a5) h4
    ∙ ap (λ x. extern_of b0 b1 b2 b3 b4 x) h5

pub extern_is_name : slice_get (terminals_of_rule (ilasm ASSEMBLY_EXTERN)) 1 ≡ Some t.NAME
unfolding ilasm rule_by
extern_is_name = refl

-- ---- those that declarations name

-- the assemblies that a declaration names
abbrev pub named_in : Source → Part → List ExternAssembly
named_in s p = map (extern_at s) (parts (ASSEMBLY_EXTERN ∷ []) p.below)

pub mapped_flat : {X Y Z : Type 0} (g : Y → Z) (h : X → List Y) (xs : List X) → flat_map (λ x. map g (h x)) xs ≡ map g (flat_map h xs)
mapped_flat g h [] = refl
mapped_flat g h (x ∷ xs) = ap (λ zs. map g (h x) ++ zs) (mapped_flat g h xs) ∙ sym (map-append g (h x) (flat_map h xs))

-- those of all declarations are those of the source
pub named_in_all : (s : Source) → Fits s (Nonterminal SOURCE ∷ []) s.tree × HasBodies s s.tree
    → flat_map (named_in s) (are_of (One DECL_ASSEMBLY) (declarations s.tree)) ≡ extern_assemblies s
named_in_all s h =
    mapped_flat (extern_at s) (λ (p : Part). parts (ASSEMBLY_EXTERN ∷ []) p.below) (are_of (One DECL_ASSEMBLY) (declarations s.tree))
    ∙ ap (map (extern_at s)) (externs_declared s h.0 h.1)
    ∙ mapped_below (extern_assembly s) (parts (ASSEMBLY_EXTERN ∷ []) s.tree)

-- what stands below each declaration of one production is in range
pub declared_in_range : (s : Source) → AllInRange s s.tree → AllByRecursion (λ (p : Part). AllInRange s p.below) (are_of (One DECL_ASSEMBLY) (declarations s.tree))
declared_in_range s h =
    all_of_kind (λ (p : Part). AllInRange s p.below) (One DECL_ASSEMBLY) (declarations s.tree)
    (all_follow (IsSought (IsInRange s) (productions_of Declarations)) (λ (p : Part). AllInRange s p.below) (declarations s.tree) (λ p g. g.2)
    (of_parts (IsInRange s) (productions_of Declarations) s.tree h))

-- one more was added
pub mapped_next : {X Y : Type 0} (g : X → Y) (xs : List X) (i : ℕ) (x : X) (before ys : List Y) → slice_get xs i ≡ Some x
    → ys ≡ before ++ map g (take i xs) → ys ++ g x ∷ [] ≡ before ++ map g (take (i + 1) xs)
mapped_next g xs i x before ys at e =
    ap (λ zs. zs ++ g x ∷ []) e ∙ append_assoc before (map g (take i xs)) (g x ∷ [])
    ∙ ap (λ zs. before ++ zs) (sym (map-append g (take i xs) (x ∷ [])) ∙ ap (map g) (sym (take_next xs i x at)))
