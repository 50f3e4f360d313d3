use Rattle.heaps.specs.Content.{HasText, HasBlob, HasUnits}
use Rattle.heaps.specs.Written.{HasShortBlob, HasWrittenUnits}
use Rattle.image_model.specs.Streams.{strings_of, user_of, blobs_of}
use Rattle.image_layout.proofs.ReadLemmas.{filling, stays}
use Rattle.image_layout.proofs.laws.heaps_are_read.Goals as goal

pub returns : goal.returns
returns c = λ r tables id image h.
    let strings = r.heaps.strings.bytes in
    let blobs = r.heaps.blobs.bytes in
    let user = r.heaps.user.bytes in
    let stay = c.contents_stay.ensures in
    record {
      texts = λ index text has. stays (λ heap. HasText heap index text) strings (strings_of image) h.strings (stay.text strings (filling strings) index text has);
      blobs = λ index blob has. stays (λ heap. HasBlob heap index blob) blobs (blobs_of image) h.blobs (stay.blob blobs (filling blobs) index blob has);
      units = λ index units has. stays (λ heap. HasUnits heap index units) user (user_of image) h.user (stay.units user (filling user) index units has);
      short = λ index blob has. stays (λ heap. HasShortBlob heap index blob) blobs (blobs_of image) h.blobs (stay.short blobs (filling blobs) index blob has);
      written = λ index units has. stays (λ heap. HasWrittenUnits heap index units) user (user_of image) h.user (stay.written user (filling user) index units has);
    }
