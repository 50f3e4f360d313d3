-- Strings: their pieces, and that they are UTF-8.
use Rattle.std.proofs.Common.{◌≡◌, ℕ, List, [], ◌∷◌, ◌++◌, Some, drop, map, refl, ap, sym, subst, ◌∙◌, arith, append_assoc}
use Rattle.std.specs.Prelude.{IsUtf8, false, slice_get}
use Rattle.std.specs.List.{flat_map}
use Rattle.std.proofs.lemmas.Str.{IsUtf8-append, IsUtf8-nil}
use Rattle.il_lexer.specs.Lexing.{Lexes}
use Rattle.il_lexer.specs.Longest.{LongestSpelling}
use Rattle.il_lexer.specs.Spelled.{IsSpelling}
use Rattle.il_lexer.specs.Unplaced.{ReadsAsItLexes}
use Rattle.il_lexer.specs.declared.types.TokenKind.TheVariants.{QString}
use Rattle.ilasm_grammar.specs.Ilasm.{ilasm, rule_by}
use Rattle.ilasm_grammar.specs.declared.productions.TheConstants.{PLUS_STRING, TEXT}
use Rattle.ilasm_grammar.specs.declared.terminals.TheConstants as t
use Rattle.ilasm_grammar.specs.declared.tree.TreeNode.{TreeNode}
use Rattle.ilasm_grammar.specs.declared.tree.TreeNode.TheVariants.{Branch}
use Rattle.source_model.specs.Constants.{text_in}
use Rattle.source_model.specs.Forest.{Forest, branch, each, leaf_at, preorder}
use Rattle.source_model.specs.Laws.{ForestsJoin}
use Rattle.source_model.specs.Source.{Source, spelling}
use Rattle.source_model.specs.Values.{between_quotes, unescaped}
use Rattle.source_nodes.specs.Derived.{FitsBody, HasBodies, OfEach}
use Rattle.source_nodes.specs.Readers.{IsOf}
use Rattle.source_nodes.specs.Walk.{Opens, is_of}
use Rattle.source_nodes.specs.declared.walk.Opened.{Opened}
use Rattle.source_nodes.proofs.Collecting.{SoFar, each_other, each_own, ends, goes_in, is_other, starts}
use Rattle.source_nodes.proofs.NameLemmas.{string_text}
use Rattle.source_syntax.proofs.NameTokens.{Each, IsBody, each_body, terminals_of_rule}
use Rattle.source_nodes.proofs.ReaderLemmas.{token_spelled, token_utf8}
use Rattle.source_nodes.proofs.Utf8Lemmas.{before_ascii, behind_ascii, string_in_ascii, text_utf8}
use Rattle.lower_manifest.specs.Texts.{later_bytes, piece_bytes}
use Rattle.lower_manifest.proofs.Tokens.{string_at}

-- ---- which tokens are strings

first_string : slice_get (terminals_of_rule (ilasm TEXT)) 0 ≡ Some t.QSTRING
unfolding ilasm rule_by
first_string = refl

later_string : slice_get (terminals_of_rule (ilasm PLUS_STRING)) 1 ≡ Some t.QSTRING
unfolding ilasm rule_by
later_string = refl

pub text_begins : (s : Source) (f : Forest) → FitsBody s TEXT f → IsOf s QString (leaf_at 0 f)
text_begins s f h = string_at s TEXT 0 f first_string h

pub piece_goes_on : (s : Source) (f : Forest) → FitsBody s PLUS_STRING f → IsOf s QString (leaf_at 1 f)
piece_goes_on s f h = string_at s PLUS_STRING 1 f later_string h

-- ---- a walk for the pieces behind the first

module _ (s : Source) (first : List ℕ) where
  abbrev pub Joined : Forest → List TreeNode → List ℕ → Type 0
  Joined f left found = SoFar (FitsBody s) (later_bytes s) (first ++ later_bytes s f) left found

  pub joined_start : (f : Forest) (nodes : List TreeNode) → preorder f ≡ nodes → HasBodies s f → Joined f nodes first
  joined_start f nodes e h = starts (FitsBody s) (later_bytes s) (first ++ later_bytes s f) f nodes first e h refl

  pub joined_take : (f : Forest) (left : List TreeNode) (x : Opened) (found longer : List ℕ) (count token : ℕ) → Opens left x → x.node ≡ Branch PLUS_STRING count
      → ((b : Forest) → preorder b ≡ x.below.now → token ≡ leaf_at 1 b) → (IsOf s QString token → longer ≡ found ++ piece_bytes s token)
      → Joined f left found → Joined f x.after.now longer
  joined_take f left x found longer count token o is at adds sf =
      let b = o.branch sf.rest PLUS_STRING count sf.is is in
      let h : HasBodies s (branch PLUS_STRING b.inner b.rest) = subst (OfEach (FitsBody s)) b.is sf.each in
      let here = at b.inner b.inner-is in
      let known : IsOf s QString token = subst (IsOf s QString) (sym here) (piece_goes_on s b.inner h.0) in
      record {
        rest = b.rest;
        is = b.rest-is;
        each = h.2;
        same = ap (λ ks. ks ++ later_bytes s b.rest) (adds known ∙ ap (λ k. found ++ piece_bytes s k) here)
            ∙ append_assoc found (piece_bytes s (leaf_at 1 b.inner)) (later_bytes s b.rest)
            ∙ ap (λ ks. found ++ ks)
            (sym (ap (λ gs. flat_map (piece_bytes s) (map (leaf_at 1) gs)) (each_own PLUS_STRING b.inner b.rest)) ∙ ap (later_bytes s) (sym b.is))
            ∙ sf.same;
      }

  pub joined_go_in : ForestsJoin → (f : Forest) (left : List TreeNode) (x : Opened) (found : List ℕ) → Opens left x → is_of PLUS_STRING x.node ≡ false
      → Joined f left found → Joined f x.behind.now found
  joined_go_in joins f left x found o other sf =
      goes_in (FitsBody s) (later_bytes s) (first ++ later_bytes s f) left x found o (λ k a. refl)
      (λ q count b a is. ap (λ gs. flat_map (piece_bytes s) (map (leaf_at 1) gs)) (each_other PLUS_STRING joins q b a (is_other PLUS_STRING x.node q count other is))) sf

  pub joined_end : (f : Forest) (left : List TreeNode) (found : List ℕ) → left ≡ [] → Joined f left found → found ≡ first ++ later_bytes s f
  joined_end f left found e sf = ends (FitsBody s) (later_bytes s) (first ++ later_bytes s f) left found e refl sf

-- ---- strings are UTF-8

behind_quote : (w : List ℕ) → IsSpelling QString w → IsUtf8 w → IsUtf8 (drop 1 w)
behind_quote w (text, h, e) u =
    subst (λ x. IsUtf8 (drop 1 x)) (sym e) (behind_ascii [] (text ++ 34 ∷ []) 34 (omega arith) (subst IsUtf8 e u))

unquoted_utf8 : (w : List ℕ) → IsSpelling QString w → IsUtf8 w → IsUtf8 (unescaped (between_quotes w))
unquoted_utf8 w h u =
    let st = string_text w h in
    let inner : IsUtf8 st.0 = before_ascii st.0 [] 34 (omega arith) (subst IsUtf8 st.2 (behind_quote w h u)) in
    subst (λ x. IsUtf8 (unescaped x)) st.3 (text_utf8 st.1 inner)

module _ (longest : LongestSpelling) (reads : ReadsAsItLexes) (s : Source) (lexes : Lexes s.bytes s.tokens) where
  piece_utf8 : (k : ℕ) → IsOf s QString k → IsUtf8 (piece_bytes s k)
  piece_utf8 k is =
      let spelled = token_spelled longest reads s lexes QString k is in
      unquoted_utf8 (spelling s k) spelled (token_utf8 s QString k lexes is (string_in_ascii (spelling s k) spelled))

  later_utf8 : (fs : List Forest) → Each (IsBody s PLUS_STRING) fs → IsUtf8 (flat_map (piece_bytes s) (map (leaf_at 1) fs))
  later_utf8 [] h = IsUtf8-nil
  later_utf8 (f ∷ fs) h =
      IsUtf8-append (piece_bytes s (leaf_at 1 f)) (flat_map (piece_bytes s) (map (leaf_at 1) fs)) (piece_utf8 (leaf_at 1 f) (piece_goes_on s f h.0.0)) (later_utf8 fs h.1)

  pub whole_utf8 : (f : Forest) → FitsBody s TEXT f → HasBodies s f → IsUtf8 (text_in s f)
  whole_utf8 f fits bodies =
      IsUtf8-append (piece_bytes s (leaf_at 0 f)) (later_bytes s f) (piece_utf8 (leaf_at 0 f) (text_begins s f fits))
      (later_utf8 (each PLUS_STRING f) (each_body s PLUS_STRING f bodies))
