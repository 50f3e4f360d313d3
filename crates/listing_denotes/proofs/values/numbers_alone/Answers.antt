use Rattle.listing_denotes.proofs.ValuesNumbers.{numbers_alone}
use Rattle.listing_denotes.proofs.values.numbers_alone.Goals as goal

pub returns : goal.returns
returns c = numbers_alone
