use Rattle.std.proofs.Common.{ap, ◌∙◌}
use Rattle.run_listings.specs.Listings.{told}
use Rattle.run_listings.specs.Listings.GivesListing.{a_listing, a_fault}
use Rattle.run_listings.proofs.Denoted.{denoted}
use Rattle.run_listings.proofs.Merited.{is_due}
use Rattle.run_listings.proofs.listing.listed.Goals as goal

pub image_fault_said-requires : goal.image_fault_said-requires
image_fault_said-requires c =
    let range = c.faults_are_numbered.ensures c.args.image.now c.in-Err-Bad.rule c.in-Err-Bad.at (rw c.in-Err-Bad.field-0-is at c.in-Err-Bad.ensures.fault) in
    record { first = range.0; last = range.1 }

pub returns-in-Ok-clause-gives : goal.returns-in-Ok-clause-gives
returns-in-Ok-clause-gives c =
    let reads = c.in-Ok.ensures.reads in
    let denotes =
    denoted c.listings_denote.ensures c.what_is_read_is_held.ensures c.args.image.now c.in-Ok.a c.bytes_in_range.ensures c.in-Ok.ensures.formed reads
    c.in_ok-listing-in-Ok.ensures.utf8 in
    a_listing c.in-Ok.a reads denotes (c.in_ok-ending-in-Ok.ensures ∙ ap (told c.args.out) c.in_ok-listing-in-Ok.ensures.spelled)

pub returns-in-Ok-clause-merits : goal.returns-in-Ok-clause-merits
returns-in-Ok-clause-merits c m due =
    let reads = c.in-Ok.ensures.reads in
    let denotes =
    denoted c.listings_denote.ensures c.what_is_read_is_held.ensures c.args.image.now c.in-Ok.a c.bytes_in_range.ensures c.in-Ok.ensures.formed reads
    c.in_ok-listing-in-Ok.ensures.utf8 in
    is_due c.an_image_has_one_outcome.ensures c.args.file.now c.args.out c.args.image.now c.requires c.in_ok-ending-in-Ok.ending m due
    (a_listing c.in-Ok.a reads denotes (c.in_ok-ending-in-Ok.ensures ∙ ap (told c.args.out) c.in_ok-listing-in-Ok.ensures.spelled))

pub returns-in-Err-Bad-clause-gives : goal.returns-in-Err-Bad-clause-gives
returns-in-Err-Bad-clause-gives c =
    a_fault c.in-Err-Bad.rule c.in-Err-Bad.at (rw c.in-Err-Bad.field-0-is at c.in-Err-Bad.ensures.fault) c.in_ok-ending-in-Err-Bad.ensures

pub returns-in-Err-Bad-clause-merits : goal.returns-in-Err-Bad-clause-merits
returns-in-Err-Bad-clause-merits c m due =
    is_due c.an_image_has_one_outcome.ensures c.args.file.now c.args.out c.args.image.now c.requires c.in_ok-ending-in-Err-Bad.ending m due
    (a_fault c.in-Err-Bad.rule c.in-Err-Bad.at (rw c.in-Err-Bad.field-0-is at c.in-Err-Bad.ensures.fault) c.in_ok-ending-in-Err-Bad.ensures)
