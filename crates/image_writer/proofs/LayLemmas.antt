-- What is made of an assembly, laid out.
use Rattle.std.proofs.Common.{inl, inr, ℕ, ◌+◌, ◌*◌, ◌<◌, ◌≤◌, ◌^◌, List, length, arith}
use Rattle.assembly_tree.specs.Weight.{weight_of}
use Rattle.assembly_tree.specs.declared.assembly.Assembly.{Assembly}
use Rattle.image_layout.specs.Sizes.{heap_bytes, stream_bytes}
use Rattle.image_tokens.specs.declared.references.References.{References}
use Rattle.image_members.specs.Pushing.{Tables}
use Rattle.image_members.specs.declared.classes.Class.{Class}
use Rattle.image_writer.specs.Contents.{IsContents}
use Rattle.image_writer.proofs.RoomLemmas.{fits}
use Rattle.pe_layout.specs.Numbers.{IsFileAlignment}
use Rattle.laws_tree_weights.specs.Laws.{WeightIsEnough}
use Rattle.laws_tree_weights.specs.RowCounts.{FilledIsCounted}

alignment_most : (n : ℕ) → IsFileAlignment n → n ≤ 0x1000
alignment_most n (inl e) = omega (arith, e)
alignment_most n (inr (inl e)) = omega (arith, e)
alignment_most n (inr (inr (inl e))) = omega (arith, e)
alignment_most n (inr (inr (inr e))) = omega (arith, e)

module _ (a : Assembly) (classes : List Class) (r : References) (tables : Tables) (code : List ℕ) (h : IsContents a classes r tables code) where
  pub contents_fit : WeightIsEnough → FilledIsCounted → weight_of a ≤ 2 ^ 26 → length code + heap_bytes r + stream_bytes tables + 139 < 2 ^ 26
  contents_fit enough counted light = let fit = fits enough counted a classes r tables code h.filled h.room h.long in omega arith

  -- the parts of the file's frame take no more than what is left of the weight
  pub contents_small : WeightIsEnough → FilledIsCounted → IsFileAlignment a.manifest.file_alignment → (image : List ℕ)
      → length image ≤ length code + heap_bytes r + stream_bytes tables + 3 * a.manifest.file_alignment + 317 → length image ≤ weight_of a
  contents_small enough counted aligned image short =
      let fit = fits enough counted a classes r tables code h.filled h.room h.long in
      let most = alignment_most a.manifest.file_alignment aligned in
      omega arith
