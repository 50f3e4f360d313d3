-- What the lines of an assembly say.
use Rattle.std.proofs.Common.{◌≡◌, ℕ, List, ◌∷◌, [], Some, refl, sym, subst}
use Rattle.std.specs.Prelude.{Bool, true, false, ◌==◌, ◌||◌, slice_get}
use Rattle.std.proofs.lemmas.Bool.Decides.{Decides-eqb}
use Rattle.std.specs.List.{flat_map}
use Rattle.il_lexer.specs.declared.types.TokenKind.TheVariants as kind
use Rattle.ilasm_grammar.specs.Ilasm.{ilasm, rule_by}
use Rattle.ilasm_grammar.specs.declared.productions.TheConstants.{DECL_MODULE, EXTERN_ITEM_HASH, KEY_PUBLICKEY, KEY_PUBLICKEYTOKEN, KEY_VER}
use Rattle.ilasm_grammar.specs.declared.terminals.TheConstants as t
use Rattle.source_model.specs.Forest.{Forest, is_among, leaf_at}
use Rattle.source_model.specs.OutOfRange.{is_16_bits}
use Rattle.source_model.specs.Source.{Source}
use Rattle.source_model.specs.TypeRules.{unless}
use Rattle.source_model.specs.Values.{int_at}
use Rattle.source_nodes.specs.Derived.{FitsBody}
use Rattle.source_nodes.specs.Readers.{IsOf}
use Rattle.source_syntax.proofs.NameTokens.{terminals_of_rule}
use Rattle.source_nodes.proofs.Empties.{nothing_in}
use Rattle.source_flags.specs.InRange.{IsInRange}
use Rattle.source_flags.proofs.Bits.{passes_at}
use Rattle.lower_manifest.proofs.Tokens.{equals_at}

-- the one production that is sought
pub only : (p q : ℕ) → is_among (p ∷ []) q ≡ true → q ≡ p
only p q e = go (p == q) refl e
  where
    go : (c : Bool) → (p == q) ≡ c → (c || false) ≡ true → q ≡ p
    go true is h = sym ((Decides-eqb p q).0 is)
    go false is h = absurd cc

-- ---- the version

pub record FourNumbers (s : Source) (f : Forest) : Type 0 where
  pub major : is_16_bits (int_at s (leaf_at 1 f)) ≡ true
  pub minor : is_16_bits (int_at s (leaf_at 3 f)) ≡ true
  pub build : is_16_bits (int_at s (leaf_at 5 f)) ≡ true
  pub revision : is_16_bits (int_at s (leaf_at 7 f)) ≡ true

abbrev out_at : Source → Forest → ℕ → List ℕ
out_at s f k = unless is_16_bits s (leaf_at k f)

pub four_numbers : (s : Source) (f : Forest) → IsInRange s KEY_VER f → FourNumbers s f
four_numbers s f h =
    let a = nothing_in (out_at s f 1) (flat_map (out_at s f) (3 ∷ 5 ∷ 7 ∷ [])) h.manifest in
    let b = nothing_in (out_at s f 3) (flat_map (out_at s f) (5 ∷ 7 ∷ [])) a.1 in
    let c = nothing_in (out_at s f 5) (flat_map (out_at s f) (7 ∷ [])) b.1 in
    let d = nothing_in (out_at s f 7) [] c.1 in
    record {
      major = passes_at is_16_bits s (leaf_at 1 f) a.0;
      minor = passes_at is_16_bits s (leaf_at 3 f) b.0;
      build = passes_at is_16_bits s (leaf_at 5 f) c.0;
      revision = passes_at is_16_bits s (leaf_at 7 f) d.0;
    }

-- ---- the key

key_bytes : slice_get (terminals_of_rule (ilasm KEY_PUBLICKEY)) 1 ≡ Some t.EQ_BYTES
unfolding ilasm rule_by
key_bytes = refl

token_bytes : slice_get (terminals_of_rule (ilasm KEY_PUBLICKEYTOKEN)) 1 ≡ Some t.EQ_BYTES
unfolding ilasm rule_by
token_bytes = refl

pub hash_bytes : slice_get (terminals_of_rule (ilasm EXTERN_ITEM_HASH)) 1 ≡ Some t.EQ_BYTES
unfolding ilasm rule_by
hash_bytes = refl

pub module_is_name : slice_get (terminals_of_rule (ilasm DECL_MODULE)) 1 ≡ Some t.NAME
unfolding ilasm rule_by
module_is_name = refl

pub key_is_bytes : (s : Source) (p : ℕ) (f : Forest) → is_among (KEY_PUBLICKEY ∷ KEY_PUBLICKEYTOKEN ∷ []) p ≡ true → FitsBody s p f
    → IsOf s kind.EqBytes (leaf_at 1 f)
key_is_bytes s p f e h = go (KEY_PUBLICKEY == p) refl e
  where
    go : (c : Bool) → (KEY_PUBLICKEY == p) ≡ c → (c || (is_among (KEY_PUBLICKEYTOKEN ∷ []) p)) ≡ true → IsOf s kind.EqBytes (leaf_at 1 f)
    go true is i = equals_at s KEY_PUBLICKEY 1 f key_bytes (subst (λ q. FitsBody s q f) (sym ((Decides-eqb KEY_PUBLICKEY p).0 is)) h)
    go false is i = equals_at s KEY_PUBLICKEYTOKEN 1 f token_bytes (subst (λ q. FitsBody s q f) (only KEY_PUBLICKEYTOKEN p i) h)
