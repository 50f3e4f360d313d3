-- The terminals that stand for kinds of tokens.
use Rattle.std.specs.Prelude.{ℕ, ◌+◌, if◌then◌else◌, nat_lt}
use Rattle.il_lexer.specs.declared.types.TokenKind.{TokenKind}
use Rattle.il_lexer.specs.declared.types.TokenKind.TheVariants.{Name, Scope, Int, QString, EqBytes, ByteArray, RealBytes, Hash, Unused, Word}
use Rattle.ilasm_grammar.specs.declared.terminals.TheConstants.{NAME, SCOPE, INT, QSTRING, EQ_BYTES, BYTE_ARRAY, REAL_BYTES, HASH, UNUSED, WORDS, END}

-- the terminal that stands for a kind of token; a word that the table of words lacks is in no production
abbrev pub terminal_of : TokenKind → ℕ
terminal_of Name = NAME
terminal_of Scope = SCOPE
terminal_of Int = INT
terminal_of QString = QSTRING
terminal_of EqBytes = EQ_BYTES
terminal_of ByteArray = BYTE_ARRAY
terminal_of RealBytes = REAL_BYTES
terminal_of Hash = HASH
terminal_of Unused = UNUSED
terminal_of (Word number) = if nat_lt (WORDS + number) END then WORDS + number else UNUSED
