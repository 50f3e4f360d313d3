-- What a reader's tokens spell.
use Rattle.std.proofs.Common.{◌≡◌, ℕ, zero, suc, ◌-◌, ◌⊎◌, inl, inr, List, [], ◌∷◌, ◌++◌, length, map, Option, None, Some, refl, ap, sym, subst, ◌∙◌, take_at}
use Rattle.std.specs.Prelude.{IsUtf8, slice_get, option_map}
use Rattle.il_lexer.specs.Lexing.{Lexes, all_placed}
use Rattle.il_lexer.specs.Longest.{LongestSpelling}
use Rattle.il_lexer.specs.Spelled.{IsSpelling}
use Rattle.il_lexer.specs.Tokens.{lexeme}
use Rattle.il_lexer.specs.Unplaced.{Reads as ReadsSpellings, Spelling, ReadsAsItLexes, spelling_in, unmarked}
use Rattle.il_lexer.specs.declared.types.Token.{Token}
use Rattle.il_lexer.specs.declared.types.TokenKind.{TokenKind}
use Rattle.il_lexer.specs.declared.types.TokenKind.TheVariants.{Name, Scope}
use Rattle.source_model.specs.Forest.{Forest}
use Rattle.source_model.specs.Source.{Source, bytes_of, spelling}
use Rattle.source_nodes.specs.Readers.{IsOf, Reads}
use Rattle.source_nodes.specs.declared.reader.Reader.{Reader}
use Rattle.source_nodes.proofs.Utf8Lemmas.{InAscii, cut_utf8, name_in_ascii, scope_in_ascii}

module _ (longest : LongestSpelling) where
  -- each of the spellings that a source reads as is one
  reads_spelled : {bs : List ℕ} {ss : List Spelling} → ReadsSpellings bs ss → (k : ℕ) (x : Spelling) → slice_get ss k ≡ Some x → IsSpelling x.kind x.text
  reads_spelled (ReadsSpellings.done e) k x at = absurd cc
  reads_spelled (ReadsSpellings.more lead {after = after} {s = s} {more = ss} e g t rest) zero x at =
      let l = longest.token (s.text ++ after) (lexeme s.kind (length s.text)) t in
      let same : s ≡ x = cc in
      subst (λ y. IsSpelling y.kind y.text) same (subst (IsSpelling s.kind) (take_at s.text after (length s.text) refl) l.stands.spelled)
  reads_spelled (ReadsSpellings.more lead {after = after} {s = s} {more = ss} e g t rest) (suc k) x at = reads_spelled rest k x at

  get_map : {X Y : Type 0} (f : X → Y) (xs : List X) (k : ℕ) (x : X) → slice_get xs k ≡ Some x → slice_get (map f xs) k ≡ Some (f x)
  get_map f [] k x at = absurd cc
  get_map f (y ∷ xs) zero x at = let same : y ≡ x = cc in ap (λ z. Some (f z)) same
  get_map f (y ∷ xs) (suc k) x at = get_map f xs k x at

  kind_of : (o : Option Token) (kind : TokenKind) → option_map (λ (t : Token). t.kind) o ≡ Some kind → (t : Token) × (o ≡ Some t) × (t.kind ≡ kind)
  kind_of None kind h = absurd cc
  kind_of (Some t) kind h = (t, refl, cc)

  pub token_spelled : ReadsAsItLexes → (s : Source) → Lexes s.bytes s.tokens → (kind : TokenKind) (k : ℕ) → IsOf s kind k → IsSpelling kind (spelling s k)
  token_spelled reads s lexes kind k is =
      let t = kind_of (slice_get s.tokens k) kind is in
      let x = spelling_in s.bytes t.0 in
      let at : slice_get (map (spelling_in s.bytes) s.tokens) k ≡ Some x = get_map (spelling_in s.bytes) s.tokens k t.0 t.1 in
      let h : IsSpelling t.0.kind x.text = reads_spelled (reads.reads s.bytes s.tokens lexes) k x at in
      subst (IsSpelling kind) (ap (bytes_of s.bytes) (sym t.1)) (subst (λ y. IsSpelling y x.text) t.2 h)

-- such a token is UTF-8, since the source is
pub token_utf8 : (s : Source) (kind : TokenKind) (k : ℕ) → Lexes s.bytes s.tokens → IsOf s kind k → InAscii (spelling s k) → IsUtf8 (spelling s k)
token_utf8 s kind k lexes is a = go (slice_get s.tokens k) is a
  where
    go : (o : Option Token) → option_map (λ (t : Token). t.kind) o ≡ Some kind → InAscii (bytes_of s.bytes o) → IsUtf8 (bytes_of s.bytes o)
    go None h b = absurd cc
    go (Some t) h b = cut_utf8 s.bytes (bytes_of s.bytes (Some t)) t.start (t.end - t.start) lexes.0 b refl

pub name_is_utf8 : LongestSpelling → ReadsAsItLexes → (s : Source) (k : ℕ) (w : List ℕ) → w ≡ spelling s k → Lexes s.bytes s.tokens →
    IsOf s Name k ⊎ IsOf s Scope k → IsUtf8 w
name_is_utf8 longest reads s k w e lexes (inl is) =
    subst IsUtf8 (sym e) (token_utf8 s Name k lexes is (name_in_ascii (spelling s k) (token_spelled longest reads s lexes Name k is)))
name_is_utf8 longest reads s k w e lexes (inr is) =
    subst IsUtf8 (sym e) (token_utf8 s Scope k lexes is (scope_in_ascii (spelling s k) (token_spelled longest reads s lexes Scope k is)))

-- ---- the reader

pub reader_spelling : (r : Reader) (s : Source) (k : ℕ) (w : List ℕ) → Reads r s →
    ((tree : Forest) → w ≡ spelling (record { bytes = r.source.now; tokens = all_placed r.source.now r.spans.now; tree = tree }) k) → w ≡ spelling s k
reader_spelling r s k w h value =
    value s.tree ∙ ap (λ ts. bytes_of r.source.now (slice_get ts k)) (sym h.tokens) ∙ ap (λ bs. bytes_of bs (slice_get s.tokens k)) (sym h.bytes)
