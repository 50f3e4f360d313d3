-- The text of a listing, as tokens.
use Rattle.std.proofs.Common.{◌≡◌, ℕ, List, [], ◌∷◌, ◌++◌, drop, refl, sym, subst, append-nil, arith}
use Rattle.il_lexer.specs.Lexing.{mark_length}
use Rattle.il_lexer.specs.Unplaced.{Reads, PrintedReads, ReadsAsItLexes, unmarked}
use Rattle.il_lexer.specs.WordList.{words}
use Rattle.assembly_tree.specs.declared.assembly.Assembly.{Assembly}
use Rattle.assembly_tree.specs.declared.assembly.ExternAssembly.{ExternAssembly}
use Rattle.listing_growth.specs.Laws.{CanonStands}
use Rattle.listing_leaves.specs.Laws.{LeavesEnd}
use Rattle.listing_model.specs.Canon.{source_of, canon, listing}
use Rattle.listing_model.specs.Manifests.{extern_lines, manifest_lines}
use Rattle.listing_model.specs.Shown.{Item, leaves}
use Rattle.listing_model.specs.Text.{front, text}
use Rattle.listing_tokens.specs.Laws.{spellings, IsListed, LeavesAreRead, ListingsAreShallow}
use Rattle.listing_tokens.proofs.Canon.{canon_sound}
use Rattle.listing_tokens.proofs.Depth.{tokens_shallow}
use Rattle.listing_tokens.proofs.Ends.{AreFine}
use Rattle.listing_tokens.proofs.Terms.{LeafLaws}
use Rattle.listing_tokens.proofs.Words.{reads, fine}

-- a listing begins with no byte order mark
unmarked_by : (a : Assembly) (k : ℕ) (es : List ExternAssembly) (more : List Item) →
    mark_length (text (source_of a (extern_lines a.externs k es ++ (manifest_lines a.externs a.manifest ++ more)))) ≡ 0
unfolding words manifest_lines text mark_length
unmarked_by a k [] more = refl
unmarked_by a k (e ∷ es) more = refl

no_mark : (a : Assembly) → mark_length (listing a) ≡ 0
unfolding listing canon
no_mark a = unmarked_by a 0 a.externs _

module _ (laws : LeafLaws) (leaves_end : LeavesEnd) (printed : PrintedReads) (a : Assembly) (listed : IsListed a) where
  all_fine : AreFine (leaves (canon a))
  all_fine = subst AreFine (append-nil (leaves (canon a))) (fine 300 (canon a) [] (canon_sound laws a listed) tt)

  text_reads : Reads (listing a) (spellings (canon a))
  unfolding listing text
  text_reads = reads leaves_end printed front (leaves (canon a)) all_fine

  unmarked_reads : Reads (unmarked (listing a)) (spellings (canon a))
  unmarked_reads = subst (λ k. Reads (drop k (listing a)) (spellings (canon a))) (sym (no_mark a)) text_reads

pub leaves_read : LeafLaws → LeavesEnd → PrintedReads → ReadsAsItLexes → LeavesAreRead
leaves_read laws leaves_end printed lexed = record {
  reads = λ a listed. text_reads laws leaves_end printed a listed;
  lexes = λ a listed utf8. lexed.lexes (listing a) (spellings (canon a)) utf8 (unmarked_reads laws leaves_end printed a listed);
}

pub listings_shallow : LeafLaws → CanonStands → ListingsAreShallow
listings_shallow laws stands a listed tokens e =
    let low = tokens_shallow (canon a) (stands a listed.formed listed.held) 300 [] (canon_sound laws a listed) (listing a) tokens e in
    omega arith
