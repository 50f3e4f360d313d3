use Rattle.heaps.proofs.ContentLemmas.{HasText-unique, HasGuid-unique}
use Rattle.heaps.proofs.BlobLemmas.{HasBlob-unique, HasUnits-unique}
use Rattle.heaps.proofs.laws.one_content_at_an_index.Goals as goal

pub returns-clause-text : goal.returns-clause-text
returns-clause-text c = HasText-unique

pub returns-clause-blob : goal.returns-clause-blob
returns-clause-blob c = HasBlob-unique

pub returns-clause-units : goal.returns-clause-units
returns-clause-units c = HasUnits-unique

pub returns-clause-id : goal.returns-clause-id
returns-clause-id c = HasGuid-unique
