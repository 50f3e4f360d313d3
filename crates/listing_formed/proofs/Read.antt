-- Well-formed terms are read back.
use Rattle.listing_references.specs.Laws.{MethodsAreRead, FieldsAreRead}
use Rattle.listing_terms.specs.Laws.{TermsAreRead}
use Rattle.listing_formed.specs.Laws.{FormedAreRead}
use Rattle.listing_formed.proofs.Readable.{formed_are_readable}

pub formed_are_read : TermsAreRead → MethodsAreRead → FieldsAreRead → FormedAreRead
formed_are_read terms methods fields = record {
  types = λ s around a k t m h at ag. terms.types s around a.externs k.keys t (formed_are_readable.types a k.names t m h).0 at ag;
  owners = λ s around a k o m h at ag after. terms.owners s around a.externs k.keys o (formed_are_readable.owners a k.names o m h).0 at ag after;
  methods = λ s around a k r m h at ag. let ok = formed_are_readable.methods a k.names r m h in methods s around a.externs k.keys r ok.0 ok.1 at ag;
  fields = λ s around a k r m h at ag. let ok = formed_are_readable.fields a k.names r m h in fields s around a.externs k.keys r ok.0 ok.1 at ag;
}
