-- The assembly as a whole, from its parts.
use Rattle.std.proofs.Common.{◌≡◌, ℕ, ◌<◌, ◌^◌, List, [], ◌∷◌, length, map, refl, ap, sym, subst, ◌∙◌, arith}
use Rattle.std.specs.List.{AllByRecursion, flat_map}
use Rattle.std.proofs.lemmas.List.{length-map}
use Rattle.assembly_tree.specs.declared.assembly.Assembly.{Assembly}
use Rattle.assembly_tree.specs.declared.assembly.ExternAssembly.{ExternAssembly}
use Rattle.assembly_tree.specs.declared.assembly.Manifest.{Manifest}
use Rattle.assembly_tree.specs.declared.typedef.TypeDef.{TypeDef}
use Rattle.ilasm_grammar.specs.declared.nonterminals.TheConstants.{SOURCE}
use Rattle.ilasm_grammar.specs.declared.productions.TheConstants.{ASSEMBLY_EXTERN, DECL_ASSEMBLY}
use Rattle.ilasm_grammar.specs.declared.symbol.Symbol.TheVariants.{Nonterminal}
use Rattle.source_model.specs.Classes.{assembly, classes_in}
use Rattle.source_model.specs.Forest.{Forest, Part, parts, preorder}
use Rattle.source_model.specs.Items.{declarations}
use Rattle.source_model.specs.Manifests.{extern_assemblies, extern_assembly, manifest}
use Rattle.source_model.specs.Names.{extern_key, externs, key_token}
use Rattle.source_model.specs.Nodes.{nothing_around}
use Rattle.source_model.specs.Source.{Source}
use Rattle.source_model.specs.Values.{name_text}
use Rattle.source_flags.specs.Lines.{productions_of}
use Rattle.lower_manifest.specs.Chosen.{are_of}
use Rattle.source_flags.specs.declared.gathering.Kind.TheVariants.{Declarations, One}
use Rattle.lower_manifest.proofs.Among.{externs_declared}
use Rattle.source_flags.proofs.Gathered.{IsSought, all_follow, of_parts}
use Rattle.source_nodes.specs.Derived.{Fits, HasBodies}
use Rattle.source_syntax.specs.Namings.{tokens_named}
use Rattle.source_syntax.specs.Places.{IsAt}
use Rattle.source_nodes.specs.Readers.{Reads}
use Rattle.source_syntax.specs.declared.name_lists.Naming.TheVariants as naming
use Rattle.source_syntax.specs.declared.place.Place.{Place}
use Rattle.source_nodes.proofs.PieceLemmas.{mapped_below}
use Rattle.source_syntax.proofs.SizeLemmas.{few_each}
use Rattle.lower_manifest.proofs.ExternLemmas.{mapped_flat}
use Rattle.elaborate.specs.ClassParts.{AreGlobals}
use Rattle.elaborate.specs.WholeParts.{AllWhole, IsWhole, IsWholePart}
use Rattle.elaborate.specs.declared.assemblies.Globals.{Globals}

pub key_tokens_are : (fs : List Forest) → flat_map (tokens_named naming.Assembly) fs ≡ map key_token fs
key_tokens_are [] = refl
key_tokens_are (f ∷ fs) = ap (λ ks. key_token f ∷ ks) (key_tokens_are fs)

pub keys_are : (s : Source) (fs : List Forest) → map (name_text s) (map key_token fs) ≡ map (extern_key s) fs
keys_are s [] = refl
keys_are s (f ∷ fs) = ap (λ ks. extern_key s f ∷ ks) (keys_are s fs)

-- the tokens of the keys of the assemblies that a declaration names
abbrev pub keys_in : Part → List ℕ
keys_in p = map (λ (q : Part). key_token q.below) (parts (ASSEMBLY_EXTERN ∷ []) p.below)

-- those of all declarations are those of the source
pub keys_in_all : (s : Source) → Fits s (Nonterminal SOURCE ∷ []) s.tree × HasBodies s s.tree
    → flat_map keys_in (are_of (One DECL_ASSEMBLY) (declarations s.tree)) ≡ map key_token (externs s)
keys_in_all s h =
    mapped_flat (λ (q : Part). key_token q.below) (λ (p : Part). parts (ASSEMBLY_EXTERN ∷ []) p.below) (are_of (One DECL_ASSEMBLY) (declarations s.tree))
    ∙ ap (map (λ (q : Part). key_token q.below)) (externs_declared s h.0 h.1)
    ∙ mapped_below key_token (parts (ASSEMBLY_EXTERN ∷ []) s.tree)

few_externs : (s : Source) (n : ℕ) → length (preorder s.tree) ≡ n → n < 2 ^ 32 → length (externs s) < 2 ^ 32
few_externs s n e few = omega (arith, few_each ASSEMBLY_EXTERN s.tree, e, few)

pub few_assemblies : (s : Source) (all : List ExternAssembly) → all ≡ extern_assemblies s → length (externs s) < 2 ^ 32 → length all < 2 ^ 32
few_assemblies s all e few = omega (arith, ap length e, length-map (externs s) (extern_assembly s), few)

-- a place outside of all classes
pub at_outside : (x : Place) (s : Source) (n : ℕ) → Reads x.reader s → x.keys.now ≡ map (extern_key s) (externs s)
    → x.class.now ≡ [] → x.method.now ≡ [] → length (preorder s.tree) ≡ n → n < 2 ^ 32 → IsAt x s nothing_around
at_outside x s n r keys class method e few = record {
  reads = r;
  keys = keys;
  few = few_externs s n e few;
  class = class;
  method = method;
  few-class = omega arith;
  few-method = omega arith;
}

pub declarations_whole : (s : Source) → AllWhole s s.tree → AllByRecursion (IsWholePart s) (declarations s.tree)
declarations_whole s each =
    all_follow (IsSought (IsWhole s) (productions_of Declarations)) (IsWholePart s) (declarations s.tree) (λ p g. (g.1, g.2))
    (of_parts (IsWhole s) (productions_of Declarations) s.tree each)

pub whole : (s : Source) (m : Manifest) (es : List ExternAssembly) (g : Globals) (ts : List TypeDef) → m ≡ manifest s → es ≡ extern_assemblies s → AreGlobals s g
    → ts ≡ classes_in s nothing_around s.tree
    → (record { manifest = m; externs = es; fields = g.fields; methods = g.methods; types = ts }) ≡ assembly s
unfolding assembly
whole s m es g ts i j k l = λ n. record { manifest = i n; externs = j n; fields = k.fields-are n; methods = k.methods-are n; types = l n }
