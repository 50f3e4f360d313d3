use Rattle.listing_tokens.proofs.Whole.{listings_shallow}
use Rattle.listing_tokens.proofs.laws.listings_are_shallow.Goals as goal

pub returns : goal.returns
returns c =
    listings_shallow (record {
      numbers = c.numbers_are_leaves.ensures;
      bytes = c.bytes_are_leaves.ensures;
      texts = c.texts_are_leaves.ensures;
      names = c.names_are_leaves.ensures;
    }) c.canon_is_derived.ensures
