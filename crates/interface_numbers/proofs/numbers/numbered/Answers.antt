use Rattle.std.proofs.Common.{◌≡◌, List, ℕ, ◌-◌, length, map, get_or, subst, sym}
use Rattle.image_model.specs.Rows.{count_of}
use Rattle.twin_numbers.specs.Numbered.{NumberTwins}
use Rattle.interface_numbers.specs.Known.{SameType}
use Rattle.interface_numbers.specs.Places.{ArePlaced, AreHeads}
use Rattle.interface_numbers.proofs.Placing.{heads_are}
use Rattle.interface_numbers.proofs.Numbering.{numbered}
use Rattle.interface_numbers.proofs.numbers.numbered.Goals as goal

pub twins_of-requires-clause-heads : goal.twins_of-requires-clause-heads
twins_of-requires-clause-heads g c =
    rw c.as_slice-heads.ensures (heads_are c.args.image.now (count_of c.args.image.now 0x09) c.in_ok-placed.placed.places c.in_ok-placed.placed.heads c.in_ok-placed.ensures.placed)

pub returns : goal.returns
returns g c =
    let twin = rw c.as_slice-heads.ensures at c.in_ok-twins.ensures in
    let map_is = rw (c.as_slice.ensures, c.as_slice-2.ensures) at c.in_ok-found.ensures in
    numbered c.args.image.now (g.O.Owners.facts c.args.facts.now) (g.N.Numbering.canon c.args.numbers.now) c.requires c.blob_is_computed.ensures c.tokens_name_one_thing.ensures
    c.in_ok-placed.placed.places c.in_ok-placed.placed.heads c.in_ok-twins.twins c.in_ok-placed.ensures.placed twin c.in_ok-found.found map_is
