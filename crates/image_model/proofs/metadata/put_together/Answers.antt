use Rattle.std.proofs.Common.{◌≡◌, ℕ, List, length, ◌++◌, [], ◌∙◌, ap}
use Rattle.image_model.specs.Root.{filled}
use Rattle.image_model.specs.Written.{root_of, metadata_of}
use Rattle.image_model.proofs.MetadataLemmas.{six_pieces, metadata_holds, metadata_written, length-metadata}
use Rattle.image_model.proofs.metadata.put_together.Goals as goal
use Rattle.image_model.proofs.metadata.put_together.Goals.{In_ok-push_filled-5}

built : (c : In_ok-push_filled-5) → c.push_filled-5.new.out ≡ metadata_of c.args.streams.now
unfolding metadata_of
built c =
    let s = c.args.streams.now in
    let a : List ℕ = filled s.tables.now in
    let b : List ℕ = filled s.strings.now in
    let u : List ℕ = filled s.user.now in
    let g : List ℕ = filled s.guids.now in
    let e : List ℕ = filled s.blobs.now in
    let root : List ℕ = root_of (length a) (length b) (length u) (length g) (length e) in
    six_pieces [] root a b u g e c.push_root.new.out c.push_filled.new.out c.push_filled-2.new.out c.push_filled-3.new.out c.push_filled-4.new.out c.push_filled-5.new.out
    (c.in_ok-push_root.ensures ∙ ap (λ (xs : List ℕ). xs ++ root) c.in_ok-out.ensures)
    c.in_ok-push_filled.ensures c.in_ok-push_filled-2.ensures c.in_ok-push_filled-3.ensures c.in_ok-push_filled-4.ensures c.in_ok-push_filled-5.ensures

pub returns-clause-holds : goal.returns-clause-holds
returns-clause-holds c = rw (built c) (metadata_holds c.args.streams.now c.requires)

pub returns-clause-len : goal.returns-clause-len
returns-clause-len c = rw (built c) (length-metadata c.args.streams.now c.requires)

pub returns-clause-written : goal.returns-clause-written
returns-clause-written c = rw (built c) (metadata_written c.args.streams.now c.requires)
