-- What fills a slot of an interface.
use Rattle.std.specs.Prelude.{true, false, List, [], ◌∷◌, None, Some}
use Rattle.std.specs.List.{Contains}
use Rattle.type_terms.specs.declared.term.SigType.{SigType}
use Rattle.assembly_tree.specs.declared.assembly.Assembly.{Assembly}
use Rattle.assembly_tree.specs.declared.members.Method.{Method}
use Rattle.type_hierarchy.specs.Hierarchy.{Hierarchy}
use Rattle.class_model.specs.Slots.{plain_sig, sig_of}
use Rattle.class_members.specs.Offers.{Offer, IsOfferedAbove}

-- a method
abbrev pub member_want : Hierarchy → SigType → Method → Offer
member_want w face slot = record { put = true; owner = None; name = slot.name; sig = sig_of w face slot.sig }

-- an override with its signature as it is written
abbrev pub written_want : Hierarchy → SigType → Method → Offer
written_want w face slot = record { put = false; owner = Some face; name = slot.name; sig = plain_sig w slot.sig }

-- an override with arguments put in
abbrev pub applied_want : Hierarchy → SigType → Method → Offer
applied_want w face slot = record { put = true; owner = Some face; name = slot.name; sig = sig_of w face slot.sig }

-- each of these fills the slot
abbrev pub wants : Hierarchy → SigType → Method → List Offer
wants w face slot = member_want w face slot ∷ written_want w face slot ∷ applied_want w face slot ∷ []

-- the type or an ancestor offers one of them
pub record IsAnswered (a : Assembly) (w : Hierarchy) (t face : SigType) (slot : Method) : Type 0 where
  pub want : Offer
  pub among : Contains (wants w face slot) want
  pub above : IsOfferedAbove a w t want
