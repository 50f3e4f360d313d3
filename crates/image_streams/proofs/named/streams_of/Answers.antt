use Rattle.std.proofs.Common.{◌≡◌, ℕ, ◌≤◌, length, arith, refl, sym, ap, ◌∙◌, subst, List, true, false}
use Rattle.std.specs.Prelude.{IfSome, Some, None}
use Rattle.pe_layout.specs.Fields.{u32_at}
use Rattle.pe_layout.specs.CliHeader.{metadata_of, metadata_size_of}
use Rattle.image_streams.specs.Walks.{LieInside, StandOnce}
use Rattle.image_streams.proofs.Roots.{lie_in_root, stand_in_root, root_of_parts, if_some}
use Rattle.image_streams.proofs.named.streams_of.Goals as goal

pub u32_at-requires : goal.u32_at-requires
u32_at-requires c = let l = c.lie_inside.ensures.long c.if-not-lie_inside.false in omega arith

pub returns-then-not-lie_inside-clause-none : goal.returns-then-not-lie_inside-clause-none
returns-then-not-lie_inside-clause-none c root =
    let e = c.metadata-metadata.ensures in
    let yes = c.lie_inside.ensures.inside.1 (subst LieInside (sym e) (lie_in_root c.args.pe.now root)) in
    let no_ = c.if-not-lie_inside.true in cc

pub returns-clause-root : goal.returns-clause-root
returns-clause-root c =
    let e = c.metadata-metadata.ensures in
    let there : length (metadata_of c.args.pe.now) ≡ metadata_size_of c.args.pe.now = ap length (sym e) ∙ c.if-metadata-metadata_size.false ∙ c.metadata_size.ensures in
    let signature : u32_at (metadata_of c.args.pe.now) 0 ≡ 0x424A5342 = ap (λ m. u32_at m 0) (sym e) ∙ sym c.u32_at.ensures ∙ c.if-u32_at-ne-SIGNATURE.false in
    let lie : LieInside (metadata_of c.args.pe.now) = subst LieInside e (c.lie_inside.ensures.inside.0 c.if-not-lie_inside.false) in
    if_some _ _ c.streams_in.result (λ it once. root_of_parts c.args.pe.now there signature lie (subst StandOnce e once)) c.streams_in.ensures.once
