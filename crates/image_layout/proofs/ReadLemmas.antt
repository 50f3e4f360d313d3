-- What is read from the streams of a laid-out image.
use Rattle.std.proofs.Common.{◌≡◌, ℕ, suc, ◌-◌, List, ◌++◌, length, replicate, sym, ◌∙◌, ap, refl, subst, arith}
use Rattle.std.specs.Prelude.{slice_index}
use Rattle.std.proofs.lemmas.List.{get_or-take}
use Rattle.image_model.specs.Root.{filled}
use Rattle.image_model.specs.Streams.{tables_of}
use Rattle.metadata_tables.specs.Encoding.{Holds}
use Rattle.metadata_tables.specs.Laws.{LongerStream}
use Rattle.metadata_tables.specs.Stream.{heap_sizes}
use Rattle.pe_layout.specs.Fields.{round_up}
use Rattle.image_layout.specs.Laws.{ReadsTables, TablesAreRead}
use Rattle.image_layout.specs.Sizes.{heap_flags}
use Rattle.image_tokens.specs.declared.references.References.{References}
use Rattle.image_members.specs.Pushing.{Tables}

-- what fills a stream up
pub filling : List ℕ → List ℕ
filling bytes = replicate (round_up (length bytes) 4 - length bytes) 0

pub filled_is : (bytes : List ℕ) → filled bytes ≡ bytes ++ filling bytes
unfolding filled filling
filled_is bytes = refl

-- what holds of bytes and of longer ones holds of a stream
pub stays : (P : List ℕ → Type 0) (bytes stream : List ℕ) → stream ≡ filled bytes → P (bytes ++ filling bytes) → P stream
stays P bytes stream is h = subst P (sym (is ∙ filled_is bytes)) h

reads_stream : (longer : LongerStream) (r : References) (tables : Tables) (stream image : List ℕ) → Holds tables (heap_flags r) stream
    → tables_of image ≡ stream ++ filling stream → ReadsTables r tables image
reads_stream longer r tables stream image holds is =
    let kept = longer stream (filling stream) holds.whole in
    let sizes : heap_sizes stream ≡ heap_flags r = sym (get_or-take 8 stream 6 0 (omega arith)) ∙ ap (λ xs. slice_index xs 6) holds.front in
    record {
      whole = rw is kept.whole;
      heaps = rw is (kept.heaps ∙ sizes);
      counts = λ table. rw is (kept.counts table ∙ holds.counts table);
      cells = λ table row column in_row in_column. rw is (
          let count = holds.counts table in
          kept.cells table (suc row) column (omega arith, omega arith) in_column ∙ holds.cells table row column in_row in_column
          );
    }

pub reads_tables : LongerStream → TablesAreRead
reads_tables longer r tables id image h = reads_stream longer r tables h.rows.stream image h.rows.holds (h.rows.is ∙ filled_is h.rows.stream)
