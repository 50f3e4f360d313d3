use Rattle.heaps.proofs.ContentLemmas.{HasText-append, HasGuid-append}
use Rattle.heaps.proofs.BlobLemmas.{HasBlob-append, HasUnits-append, HasShortBlob-append, HasWrittenUnits-append}
use Rattle.heaps.proofs.laws.contents_stay.Goals as goal

pub returns-clause-text : goal.returns-clause-text
returns-clause-text c = HasText-append

pub returns-clause-blob : goal.returns-clause-blob
returns-clause-blob c = HasBlob-append

pub returns-clause-units : goal.returns-clause-units
returns-clause-units c = HasUnits-append

pub returns-clause-id : goal.returns-clause-id
returns-clause-id c = HasGuid-append

pub returns-clause-short : goal.returns-clause-short
returns-clause-short c = HasShortBlob-append

pub returns-clause-written : goal.returns-clause-written
returns-clause-written c = HasWrittenUnits-append
