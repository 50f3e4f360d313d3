-- A listing is a source.
use Rattle.std.proofs.Common.{◌≡◌, ℕ, List, [], ◌∷◌, map, refl, ap, sym, subst, ◌∙◌, IsUtf8}
use Rattle.il_lexer.specs.Unplaced.{Spelling, spelling_in}
use Rattle.il_lexer.specs.declared.types.Token.{Token}
use Rattle.ilasm_grammar.specs.Grammar.{Derives}
use Rattle.ilasm_grammar.specs.Ilasm.{ilasm}
use Rattle.ilasm_grammar.specs.Parsing.{IsTreeOf, terminals_of}
use Rattle.ilasm_grammar.specs.Terminals.{terminal_of}
use Rattle.ilasm_grammar.specs.declared.nonterminals.TheConstants as n
use Rattle.ilasm_grammar.specs.declared.symbol.Symbol.TheVariants.{Nonterminal}
use Rattle.assembly_tree.specs.declared.assembly.Assembly.{Assembly}
use Rattle.source_model.specs.Forest as f
use Rattle.source_model.specs.Source.{Source}
use Rattle.listing_growth.specs.Laws.{CanonStands}
use Rattle.listing_model.specs.Canon.{canon, listing}
use Rattle.listing_model.specs.Grown.{terminals}
use Rattle.listing_model.specs.Laws.{GrownIsDerived}
use Rattle.listing_model.specs.Shown.{Leaf, leaves}
use Rattle.listing_reading.specs.Laws.{ForestsAgree}
use Rattle.listing_reading.specs.Numbered.{numbered}
use Rattle.listing_tokens.specs.Laws.{spelling, IsListed, LeavesAreRead}
use Rattle.listing_denotes.specs.Whole.{Lists, ListingsAreSources, ListingsAreRead, FaultlessListingsDenote}

-- the terminals of tokens by their spellings
kinds_of : (source : List ℕ) (tokens : List Token) → map (λ (x : Spelling). terminal_of x.kind) (map (spelling_in source) tokens) ≡ terminals_of tokens
kinds_of source [] = refl
kinds_of source (t ∷ ts) = ap (λ ks. terminal_of t.kind ∷ ks) (kinds_of source ts)

kinds_shown : (ls : List Leaf) → map (λ (x : Spelling). terminal_of x.kind) (map spelling ls) ≡ map (λ (l : Leaf). terminal_of l.kind) ls
kinds_shown [] = refl
kinds_shown (l ∷ ls) = ap (λ ks. terminal_of l.kind ∷ ks) (kinds_shown ls)

module _ (stands : CanonStands) (derived : GrownIsDerived) (forests : ForestsAgree) (read : LeavesAreRead) (a : Assembly) (listed : IsListed a) (utf8 : IsUtf8 (listing a)) where
  abbrev tokens : List Token
  tokens = (read.lexes a listed utf8).0

  abbrev source : Source
  source = record { bytes = listing a; tokens = tokens; tree = numbered 0 (canon a) }

  same_kinds : terminals (canon a) ≡ terminals_of tokens
  same_kinds =
      sym (kinds_shown (leaves (canon a)))
      ∙ (ap (map (λ (x : Spelling). terminal_of x.kind)) (sym (read.lexes a listed utf8).2) ∙ kinds_of (listing a) tokens)

  tree_derived : IsTreeOf tokens (f.preorder (numbered 0 (canon a)))
  tree_derived =
      let one = derived.derives (Nonterminal n.SOURCE ∷ []) (canon a) (stands a listed.formed listed.held) 0 in
      subst (λ ks. Derives ilasm 0 (Nonterminal n.SOURCE ∷ []) ks (f.preorder (numbered 0 (canon a)))) same_kinds
      (subst (λ ns. Derives ilasm 0 (Nonterminal n.SOURCE ∷ []) (terminals (canon a)) ns) (sym (forests.nodes 0 (canon a))) one)

  lists : Lists a
  lists = record {
    source = source;
    read = record { bytes-are = refl; lexes = (read.lexes a listed utf8).1; derived = tree_derived };
    listed = record {
      tree = refl;
      tokens = forests.tokens source (canon a) (read.lexes a listed utf8).2;
      formed = listed.formed;
      held = listed.held;
      light = listed.light;
    };
  }

pub listings_are_sources : CanonStands → GrownIsDerived → ForestsAgree → LeavesAreRead → ListingsAreSources
listings_are_sources stands derived forests read a listed utf8 = lists stands derived forests read a listed utf8

pub faultless_listings_denote : ListingsAreSources → ListingsAreRead → FaultlessListingsDenote
faultless_listings_denote sources meant a listed utf8 faultless =
    let l = sources a listed utf8 in
    record { source = l.source; read = l.read; faultless = faultless l.source l.read l.listed; is = sym (meant.says l.source a l.listed) }
