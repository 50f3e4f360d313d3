-- The lengths of data, item by item.
use Rattle.std.proofs.Common.{◌≡◌, ℕ, ◌+◌, ◌<◌, ◌≤◌, List, [], ◌∷◌, ◌++◌, ap, sym, ◌∙◌, refl, subst, arith, Option, None, Some}
use Rattle.std.specs.Prelude.{Bool, true, false, nat_lt, if◌then◌else◌, slice_get, option_map}
use Rattle.std.proofs.lemmas.Option.{same_Some}
use Rattle.il_lexer.specs.declared.types.Token.{Token}
use Rattle.il_lexer.specs.declared.types.TokenKind.{TokenKind}
use Rattle.il_lexer.specs.declared.types.TokenKind.TheVariants as kind
use Rattle.ilasm_grammar.specs.Grammar.{rule_of}
use Rattle.ilasm_grammar.specs.Ilasm.{ilasm, rule_by}
use Rattle.ilasm_grammar.specs.Terminals.{terminal_of}
use Rattle.ilasm_grammar.specs.declared.nonterminals.TheConstants as n
use Rattle.ilasm_grammar.specs.declared.productions.TheConstants.{DATA_ITEM_BYTES, DATA_ITEM_DATA_NUM}
use Rattle.ilasm_grammar.specs.declared.symbol.Symbol.TheVariants.{Terminal}
use Rattle.ilasm_grammar.specs.declared.terminals.TheConstants as t
use Rattle.ilasm_grammar.specs.declared.tree.TreeNode.{TreeNode}
use Rattle.source_model.specs.Data.{data_items, item_length}
use Rattle.source_model.specs.Forest as tree
use Rattle.source_model.specs.Forest.{Forest, Part, first_token, joined, leaf_at, part, parts}
use Rattle.source_model.specs.Laws.{ForestsJoin}
use Rattle.source_model.specs.OutOfRange.{counted_length, item_past_length, stands_too_often}
use Rattle.source_model.specs.Source.{Source}
use Rattle.source_nodes.specs.Derived.{FitsBody}
use Rattle.source_nodes.specs.Least.{least}
use Rattle.source_nodes.specs.Readers.{IsOf, Reads}
use Rattle.source_nodes.specs.declared.reader.Reader.{Reader}
use Rattle.source_nodes.proofs.WrittenNames.{first_terminal, fits_rule, word_is_more}
use Rattle.check_names.specs.DataItems.{is_item, known_length}
use Rattle.check_visitor.proofs.AskingLemmas.{Bodied}

-- ---- items

pub items_own : (q : ℕ) (b a : Forest) → is_item q ≡ true → data_items (tree.branch q b a) ≡ part q b ∷ data_items a
items_own q b a e = ap (λ (c : Bool). (if c then part q b ∷ [] else data_items b) ++ data_items a) e

pub items_other : ForestsJoin → (q : ℕ) (b a : Forest) → is_item q ≡ false → data_items (joined b a) ≡ data_items (tree.branch q b a)
items_other joins q b a e =
    joins.parts [] (DATA_ITEM_BYTES ∷ DATA_ITEM_DATA_NUM ∷ []) b a
    ∙ ap (λ (c : Bool). (if c then part q b ∷ [] else data_items b) ++ data_items a) (sym e)

-- a source that is read, in which these nodes stand
pub record In (r : Reader) (nodes : List TreeNode) : Type 0 where
  pub source : Source
  pub reads : Reads r source
  pub bodied : Bodied source nodes

-- the item that passes the length, with so many bytes before it
abbrev pub passing : ℕ → (r : Reader) (nodes : List TreeNode) → In r nodes → Forest → Option ℕ
passing before r nodes i f = least (item_past_length i.source before (data_items f))

module _ (s : Source) (before length q : ℕ) (b a : Forest) (own : is_item q ≡ true) (is : length ≡ counted_length s (part q b)) where
  at_item : (c : Bool) → nat_lt 67108864 (before + length) ≡ c
      → least (if c then first_token b ∷ [] else item_past_length s (before + length) (data_items a)) ≡ least (item_past_length s before (data_items (tree.branch q b a)))
  at_item c e =
      ap (λ (d : Bool). least (if d then first_token b ∷ [] else item_past_length s (before + length) (data_items a))) (sym e)
      ∙ ap (λ k. least (if nat_lt 67108864 (before + k) then first_token b ∷ [] else item_past_length s (before + k) (data_items a))) is
      ∙ ap (λ ps. least (item_past_length s before ps)) (sym (items_own q b a own))

  pub passes : (token : ℕ) → token ≡ first_token b → 67108864 < before + length → Some token ≡ least (item_past_length s before (data_items (tree.branch q b a)))
  passes token first more =
      let test : nat_lt 67108864 (before + length) ≡ true = grind arith in
      ap (λ k. Some k) first ∙ at_item true test

  pub keeps : (next : ℕ) → before + length ≤ 67108864 → next ≡ before + length
      → least (item_past_length s next (data_items a)) ≡ least (item_past_length s before (data_items (tree.branch q b a)))
  keeps next less same =
      let test : nat_lt 67108864 (before + length) ≡ false = grind arith in
      ap (λ k. least (item_past_length s k (data_items a))) same ∙ at_item false test

-- ---- what is known of an item, and what is counted

some_of : (c : Bool) (n known : ℕ) → Some n ≡ (if c then None else Some known) → n ≡ (if c then 0 else known)
some_of true n known e = absurd cc
some_of false n known e = same_Some n known e

none_of : (c : Bool) (known : ℕ) → None ≡ (if c then None else Some known) → 0 ≡ (if c then 0 else known)
none_of true known e = refl
none_of false known e = absurd cc

pub some_counted : (s : Source) (p : Part) (n : ℕ) → Some n ≡ known_length s p → n ≡ counted_length s p
some_counted s p n e = some_of (stands_too_often s p.below) n (item_length s p) e

pub none_counted : (s : Source) (p : Part) → None ≡ known_length s p → 0 ≡ counted_length s p
none_counted s p e = none_of (stands_too_often s p.below) (item_length s p) e

-- ---- bytes

kind_bytes : (k : TokenKind) → terminal_of k ≡ t.BYTE_ARRAY → k ≡ kind.ByteArray
kind_bytes kind.Name e = absurd cc
kind_bytes kind.Scope e = absurd cc
kind_bytes kind.Int e = absurd cc
kind_bytes kind.QString e = absurd cc
kind_bytes kind.EqBytes e = absurd cc
kind_bytes kind.ByteArray e = refl
kind_bytes kind.RealBytes e = absurd cc
kind_bytes kind.Hash e = absurd cc
kind_bytes kind.Unused e = absurd cc
kind_bytes (kind.Word k) e = absurd (word_is_more k t.BYTE_ARRAY (omega arith) e)

is_of_kind : (o : Option Token) → option_map (λ (x : Token). terminal_of x.kind) o ≡ Some t.BYTE_ARRAY → option_map (λ (x : Token). x.kind) o ≡ Some kind.ByteArray
is_of_kind None e = absurd cc
is_of_kind (Some x) e = let same : terminal_of x.kind ≡ t.BYTE_ARRAY = cc in ap (λ y. Some y) (kind_bytes x.kind same)

rule_bytes : ilasm DATA_ITEM_BYTES ≡ Some (rule_of n.DATA_ITEM (Terminal t.BYTE_ARRAY ∷ []))
unfolding ilasm rule_by
rule_bytes = refl

pub is_bytes : (s : Source) (p : ℕ) (f : Forest) → p ≡ DATA_ITEM_BYTES → FitsBody s p f → IsOf s kind.ByteArray (leaf_at 0 f)
is_bytes s p f e h =
    is_of_kind (slice_get s.tokens (leaf_at 0 f))
    (first_terminal s t.BYTE_ARRAY [] f (fits_rule s DATA_ITEM_BYTES n.DATA_ITEM _ f rule_bytes (subst (λ q. FitsBody s q f) e h)))
