-- A listing denotes its assembly where its types and its methods break no rule.
use Rattle.listing_denotes.specs.Quiet.{DeclarationsDenote}
use Rattle.listing_denotes.specs.Values.{ExternsBreakNothing}
use Rattle.listing_denotes.specs.Manifests.{ManifestsBreakNothing}
use Rattle.listing_denotes.specs.Members.{FieldsBreakNothing}
use Rattle.listing_denotes.specs.Denoting.{MembersDenote}

pub members_denote : DeclarationsDenote → ExternsBreakNothing → ManifestsBreakNothing → FieldsBreakNothing → MembersDenote
members_denote denote externs manifests fields a listed utf8 members =
    denote a listed utf8
    (λ s is.
    record {
      externs = externs s a is;
      manifest = manifests s a is;
      types = (members s is).types;
      fields = fields.globals s a is;
      methods = (members s is).methods;
    })
