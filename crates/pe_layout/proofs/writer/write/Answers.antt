-- The image is the one that the definition of its layout gives; what each clause says of it is a lemma.
use Rattle.std.proofs.Common.{◌≡◌, ℕ, ◌≤◌, ◌+◌, ◌*◌, List, length, None}
use Rattle.pe_layout.specs.FileMap.{StandsAt}
use Rattle.pe_layout.specs.CliHeader.{metadata_rva_of, metadata_size_of, metadata_of, entry_token_of}
use Rattle.pe_layout.specs.Faults.{pe_fault}
use Rattle.pe_layout.specs.Numbers.{numbers_of}
use Rattle.pe_layout.specs.Frame.{HasFrame, IsFilled}
use Rattle.pe_layout.specs.Layout.{image_of, IsRanged}
use Rattle.pe_layout.proofs.WrittenFrame.{IsWritten, written, if_ok}
use Rattle.pe_layout.proofs.writer.write.Goals as goal

pub returns : goal.returns
returns c =
    let p = c.args.parts.now in
    let W : List ℕ → Type 0 = λ image. IsWritten image p in
    let G : List ℕ → Type 0 = λ image. (image ≡ image_of p) × IsRanged p in
    let all = if_ok c.image_of.result G W (λ image given. written image p c.requires.base c.requires.alignment c.requires.size given) c.image_of.ensures in
    record {
      opens = if_ok c.image_of.result W (λ image. pe_fault image ≡ None) (λ image w. w.opens) all;
      frame = if_ok c.image_of.result W (λ image. HasFrame image p.kind) (λ image w. w.frame) all;
      filled = if_ok c.image_of.result W IsFilled (λ image w. w.filled) all;
      numbers = if_ok c.image_of.result W (λ image. numbers_of image ≡ p.numbers) (λ image w. w.numbers) all;
      entry = if_ok c.image_of.result W (λ image. entry_token_of image ≡ p.entry) (λ image w. w.entry) all;
      code = if_ok c.image_of.result W (λ image. StandsAt image 0x2050 p.code) (λ image w. w.code) all;
      metadata = if_ok c.image_of.result W (λ image. StandsAt image (metadata_rva_of image) p.metadata) (λ image w. w.metadata) all;
      metadata_size = if_ok c.image_of.result W (λ image. metadata_size_of image ≡ length p.metadata) (λ image w. w.metadata_size) all;
      metadata_bytes = if_ok c.image_of.result W (λ image. metadata_of image ≡ p.metadata) (λ image w. w.metadata_bytes) all;
      len = if_ok c.image_of.result W (λ image. length image ≤ length p.code + length p.metadata + 3 * p.numbers.file_alignment + 178) (λ image w. w.len) all;
    }
