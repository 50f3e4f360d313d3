-- A listing denotes its assembly.
use Rattle.listing_denotes.specs.Bodies.{MethodsBreakNothing}
use Rattle.listing_denotes.specs.Classes.{TypesBreakNothing, ListingsDenote}
use Rattle.listing_denotes.specs.Denoting.{MembersDenote}

pub listings_denote : MembersDenote → TypesBreakNothing → MethodsBreakNothing → ListingsDenote
listings_denote denote types methods a listed utf8 = denote a listed utf8 (λ s lists. record { types = types.listed s a lists; methods = methods.globals s a lists })
