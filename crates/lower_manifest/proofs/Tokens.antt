-- Which tokens of a production are bytes or strings, from its body.
use Rattle.std.proofs.Common.{◌≡◌, ℕ, Option, None, Some, refl, ap, arith}
use Rattle.std.specs.Prelude.{slice_get, option_map}
use Rattle.il_lexer.specs.declared.types.Token.{Token}
use Rattle.il_lexer.specs.declared.types.TokenKind.{TokenKind}
use Rattle.il_lexer.specs.declared.types.TokenKind.TheVariants as kind
use Rattle.ilasm_grammar.specs.Grammar.{Rule}
use Rattle.ilasm_grammar.specs.Ilasm.{ilasm}
use Rattle.ilasm_grammar.specs.Terminals.{terminal_of}
use Rattle.ilasm_grammar.specs.declared.terminals.TheConstants as t
use Rattle.source_model.specs.Forest.{Forest, leaf_at}
use Rattle.source_model.specs.Source.{Source}
use Rattle.source_nodes.specs.Derived.{FitsBody, FitsRule, terminal_at}
use Rattle.source_nodes.specs.Readers.{IsOf}
use Rattle.source_syntax.proofs.BodyLemmas.{fits_leaf}
use Rattle.source_syntax.proofs.NameTokens.{terminals_of_rule}
use Rattle.source_nodes.proofs.WrittenNames.{word_is_more}

kind_equals : (k : TokenKind) → terminal_of k ≡ t.EQ_BYTES → k ≡ kind.EqBytes
kind_equals kind.Name e = absurd cc
kind_equals kind.Scope e = absurd cc
kind_equals kind.Int e = absurd cc
kind_equals kind.QString e = absurd cc
kind_equals kind.EqBytes e = refl
kind_equals kind.ByteArray e = absurd cc
kind_equals kind.RealBytes e = absurd cc
kind_equals kind.Hash e = absurd cc
kind_equals kind.Unused e = absurd cc
kind_equals (kind.Word k) e = absurd (word_is_more k 4 (omega arith) e)

kind_array : (k : TokenKind) → terminal_of k ≡ t.BYTE_ARRAY → k ≡ kind.ByteArray
kind_array kind.Name e = absurd cc
kind_array kind.Scope e = absurd cc
kind_array kind.Int e = absurd cc
kind_array kind.QString e = absurd cc
kind_array kind.EqBytes e = absurd cc
kind_array kind.ByteArray e = refl
kind_array kind.RealBytes e = absurd cc
kind_array kind.Hash e = absurd cc
kind_array kind.Unused e = absurd cc
kind_array (kind.Word k) e = absurd (word_is_more k 5 (omega arith) e)

kind_real : (k : TokenKind) → terminal_of k ≡ t.REAL_BYTES → k ≡ kind.RealBytes
kind_real kind.Name e = absurd cc
kind_real kind.Scope e = absurd cc
kind_real kind.Int e = absurd cc
kind_real kind.QString e = absurd cc
kind_real kind.EqBytes e = absurd cc
kind_real kind.ByteArray e = absurd cc
kind_real kind.RealBytes e = refl
kind_real kind.Hash e = absurd cc
kind_real kind.Unused e = absurd cc
kind_real (kind.Word k) e = absurd (word_is_more k 6 (omega arith) e)

of_kind : (o : Option Token) (m : ℕ) (kind : TokenKind) → ((k : TokenKind) → terminal_of k ≡ m → k ≡ kind)
    → option_map (λ (x : Token). terminal_of x.kind) o ≡ Some m → option_map (λ (x : Token). x.kind) o ≡ Some kind
of_kind None m kind back e = absurd cc
of_kind (Some x) m kind back e = let same : terminal_of x.kind ≡ m = cc in ap (λ y. Some y) (back x.kind same)

by_rule : (s : Source) (o : Option Rule) (f : Forest) → FitsRule s o f → (k x : ℕ) → slice_get (terminals_of_rule o) k ≡ Some x → terminal_at s (leaf_at k f) ≡ Some x
by_rule s None f h k x e = absurd h
by_rule s (Some r) f h k x e = fits_leaf s r.body f h k x e

pub equals_at : (s : Source) (p k : ℕ) (f : Forest) → slice_get (terminals_of_rule (ilasm p)) k ≡ Some t.EQ_BYTES → FitsBody s p f → IsOf s kind.EqBytes (leaf_at k f)
equals_at s p k f e h = of_kind (slice_get s.tokens (leaf_at k f)) t.EQ_BYTES kind.EqBytes kind_equals (by_rule s (ilasm p) f h k t.EQ_BYTES e)

pub array_at : (s : Source) (p k : ℕ) (f : Forest) → slice_get (terminals_of_rule (ilasm p)) k ≡ Some t.BYTE_ARRAY → FitsBody s p f → IsOf s kind.ByteArray (leaf_at k f)
array_at s p k f e h = of_kind (slice_get s.tokens (leaf_at k f)) t.BYTE_ARRAY kind.ByteArray kind_array (by_rule s (ilasm p) f h k t.BYTE_ARRAY e)

pub real_at : (s : Source) (p k : ℕ) (f : Forest) → slice_get (terminals_of_rule (ilasm p)) k ≡ Some t.REAL_BYTES → FitsBody s p f → IsOf s kind.RealBytes (leaf_at k f)
real_at s p k f e h = of_kind (slice_get s.tokens (leaf_at k f)) t.REAL_BYTES kind.RealBytes kind_real (by_rule s (ilasm p) f h k t.REAL_BYTES e)

kind_string : (k : TokenKind) → terminal_of k ≡ t.QSTRING → k ≡ kind.QString
kind_string kind.Name e = absurd cc
kind_string kind.Scope e = absurd cc
kind_string kind.Int e = absurd cc
kind_string kind.QString e = refl
kind_string kind.EqBytes e = absurd cc
kind_string kind.ByteArray e = absurd cc
kind_string kind.RealBytes e = absurd cc
kind_string kind.Hash e = absurd cc
kind_string kind.Unused e = absurd cc
kind_string (kind.Word k) e = absurd (word_is_more k 3 (omega arith) e)

pub string_at : (s : Source) (p k : ℕ) (f : Forest) → slice_get (terminals_of_rule (ilasm p)) k ≡ Some t.QSTRING → FitsBody s p f → IsOf s kind.QString (leaf_at k f)
string_at s p k f e h = of_kind (slice_get s.tokens (leaf_at k f)) t.QSTRING kind.QString kind_string (by_rule s (ilasm p) f h k t.QSTRING e)
