use Rattle.listing_tokens.proofs.Whole.{leaves_read}
use Rattle.listing_tokens.proofs.laws.leaves_are_read.Goals as goal

pub returns : goal.returns
returns c =
    leaves_read (record {
      numbers = c.numbers_are_leaves.ensures;
      bytes = c.bytes_are_leaves.ensures;
      texts = c.texts_are_leaves.ensures;
      names = c.names_are_leaves.ensures;
    }) c.leaves_end.ensures c.printed_spellings_are_read.ensures c.tokens_are_spellings.ensures
