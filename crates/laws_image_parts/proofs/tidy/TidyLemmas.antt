-- All that makes an image tidy, put together.
use Rattle.laws_image_parts.specs.bodies.Bodies.{BodiesAreRead}
use Rattle.laws_image_parts.specs.bodies.Loaded.{LoadedAreTidy}
use Rattle.laws_image_parts.specs.names.Written.{LaidOutIsWritten}
use Rattle.laws_image_parts.specs.namings.Namings.{NamingsAreRead}
use Rattle.laws_image_parts.specs.tidiness.Entries.{EntriesAreShort}
use Rattle.laws_image_parts.specs.tidiness.Fields.{FieldsAreWritten}
use Rattle.laws_image_parts.specs.tidiness.Once.{RowsStandOnce, ContentsStandOnce}
use Rattle.laws_image_parts.specs.tidy.Short.{SignaturesAreShort}
use Rattle.laws_image_parts.specs.tidy.Tidy.{ImagesAreTidy}

-- what the laws of crates below say
pub record BelowSays : Type 0 where
  pub written : LaidOutIsWritten
  pub namings : NamingsAreRead
  pub bodies : BodiesAreRead
  pub loaded : LoadedAreTidy
  pub rows : RowsStandOnce
  pub contents : ContentsStandOnce
  pub entries : EntriesAreShort
  pub fields : FieldsAreWritten
  pub signatures : SignaturesAreShort

pub images_tidy : BelowSays → ImagesAreTidy
images_tidy below a classes r tables code entry id kind image f l formed tidy =
    let w = below.written a classes r tables code entry id kind image f l in
    let n = below.namings a classes r tables code image w tidy.readable in
    let once = below.contents a classes r tables code id image f l.metadata tidy.contents in
    let loads = below.loaded a classes r tables code entry id kind image f l tidy.contents in
    let entries = below.entries a classes r tables code id image f l.metadata tidy.contents in
    let bodies = below.bodies a classes r tables code entry id kind image f l n.names n.back in
    record {
      once = record {
        rows = below.rows a classes r tables code id image f l.metadata tidy.rows tidy.two_cells;
        strings = once.strings;
        guids = once.guids;
        blobs = once.blobs;
        user = loads.once;
      };
      short = record {
        names = n.names;
        named = n.tells;
        signatures = below.signatures a classes r tables code image w n.names n.back.owners;
        blobs = entries.blobs;
        user = loads.short;
        bodies = bodies.shortest;
        data_placed = entries.data_placed;
      };
      fields = below.fields a classes r tables code entry id kind image f l formed;
    }
