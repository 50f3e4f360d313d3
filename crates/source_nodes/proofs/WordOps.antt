-- The opcode of each word, found by the word's number.
use Rattle.std.proofs.Common.{◌≡◌, ℕ, zero, suc, List, ◌∷◌, [], map, Some, None, refl, ap, sym, ◌∙◌}
use Rattle.std.specs.Prelude.{Option, bytes_eq, find, slice_get, option_map}
use Rattle.std.proofs.lemmas.Option.{same_Some, slice_get-get_or}
use Rattle.il_lexer.specs.Spelled.{IsWord}
use Rattle.il_lexer.specs.WordList.{words}
use Rattle.il_lexer.specs.declared.types.Token.{Token}
use Rattle.il_lexer.specs.declared.types.TokenKind.{TokenKind}
use Rattle.il_lexer.specs.declared.types.TokenKind.TheVariants.{Name, Scope, Int, QString, EqBytes, ByteArray, RealBytes, Hash, Unused, Word}
use Rattle.opcode_table.specs.Opcodes.{names}
use Rattle.opcode_table.specs.declared.op.Op.{Op}
use Rattle.source_model.specs.Instructions.{op_or_nop}
use Rattle.source_model.specs.Source.{Source, word_at, word_number, word_of_token}
use Rattle.source_nodes.specs.Readers.{IsOf}
use Rattle.source_nodes.specs.declared.word_ops.TheConstants.{WORD_OPS}

abbrev op_named : List ℕ → Op
op_named word = op_or_nop (find (λ row. bytes_eq row.0 word) names)

-- the table holds at the number of each word the opcode that the word names
table_fits : map op_named words ≡ WORD_OPS
unfolding names words
table_fits = refl

get_map : {X Y : Type 0} (f : X → Y) (xs : List X) (k : ℕ) (x : X) → slice_get xs k ≡ Some x → slice_get (map f xs) k ≡ Some (f x)
get_map f [] k x at = absurd cc
get_map f (y ∷ xs) zero x at = let same : y ≡ x = cc in ap (λ z. Some (f z)) same
get_map f (y ∷ xs) (suc k) x at = get_map f xs k x at

pub op_numbered : (k : ℕ) (op : Op) → slice_get WORD_OPS k ≡ Some op → (word : List ℕ) → IsWord k word →
    op ≡ op_or_nop (find (λ row. bytes_eq row.0 word) names)
op_numbered k op e word is =
    let at : slice_get words k ≡ Some word = slice_get-get_or words k [] is.0 ∙ ap Some is.1 in
    let here : slice_get (map op_named words) k ≡ Some (op_named word) = get_map op_named words k word at in
    same_Some op (op_named word) (sym e ∙ ap (λ ops. slice_get ops k) (sym table_fits) ∙ here)

-- ---- the token that is a word

kind_is : (kind : TokenKind) (n : ℕ) → word_number kind ≡ Some n → kind ≡ Word n
kind_is (Word k) n e = let same : k ≡ n = cc in ap Word same
kind_is Name n e = absurd cc
kind_is Scope n e = absurd cc
kind_is Int n e = absurd cc
kind_is QString n e = absurd cc
kind_is EqBytes n e = absurd cc
kind_is ByteArray n e = absurd cc
kind_is RealBytes n e = absurd cc
kind_is Hash n e = absurd cc
kind_is Unused n e = absurd cc

pub is_of_word : (s : Source) (k n : ℕ) → word_at s k ≡ Some n → IsOf s (Word n) k
is_of_word s k n e = go (slice_get s.tokens k) e
  where
    go : (o : Option Token) → word_of_token o ≡ Some n → option_map (λ (t : Token). t.kind) o ≡ Some (Word n)
    go None f = absurd cc
    go (Some t) f = ap Some (kind_is t.kind n f)
