-- The tokens of StandAloneSig name the locals that they were given to.
use Rattle.std.proofs.Common.{◌≡◌, ap, sym, subst, ℕ, ◌+◌, ◌-◌, ◌<◌, List, Option, Some, arith}
use Rattle.std.specs.Prelude.{slice_get, slice_index}
use Rattle.sig_codec.specs.Signature.{SpellsLocals}
use Rattle.sig_codec.specs.Tokens.{GivesBack}
use Rattle.type_terms.specs.declared.term.Owner.{Owner}
use Rattle.type_terms.specs.declared.term.SigType.{SigType}
use Rattle.image_tokens.specs.Found.{token_in}
use Rattle.image_tokens.specs.KnownTokens.{locals_apart}
use Rattle.image_tokens.specs.References.{AreKnown, HasSignature, IsLocalsToken, IsLocalsRow, tokens_of}
use Rattle.image_tokens.specs.declared.references.References.{References}
use Rattle.image_tokens.specs.declared.row_set.Cells.{Cells}
use Rattle.image_tokens.proofs.NameLemmas.{holds_of_found}
use Rattle.image_rows.specs.Filled.{first_cell}
use Rattle.image_layout.specs.Laws.{ReadsHeaps}
use Rattle.image_model.specs.Columns.{locals_signature}
use Rattle.image_model.specs.Naming.{NamesLocals}
use Rattle.laws_image_parts.specs.AtRows.{Reads}
use Rattle.laws_image_parts.specs.RowCells.{locals_cells}
use Rattle.laws_image_parts.specs.RowsRead.{IsMade}
use Rattle.laws_image_parts.proofs.CellLemmas.{get_low}
use Rattle.laws_image_parts.specs.names.Locals.{AreTaken, LocalsAreReadable, LocalsRead}
use Rattle.laws_image_parts.proofs.names.General.{get_some}
use Rattle.laws_image_parts.proofs.names.OneToken.{OneBlob}
use Rattle.laws_image_parts.proofs.names.RowMap.{IsHeld, row_map, map_told, map_tells}
use Rattle.laws_image_parts.proofs.names.SignatureLemmas.{Rereads, SpellsOne, reads_back, one_signature, in_image, is_signature}

module _ (rereads : Rereads SpellsLocals) (one : SpellsOne SpellsLocals AreTaken) (r : References) (image : List ℕ) (blob : OneBlob) (heaps : ReadsHeaps r image)
    (owners : ℕ → Option Owner) (back : GivesBack (tokens_of r) owners) (known : AreKnown r) (reads : Reads 0x11 locals_cells (IsMade first_cell) r.referred.locals image)
    (readable : LocalsAreReadable r) where
  abbrev Holds : Cells → List SigType → Type 0
  Holds cells types = HasSignature SpellsLocals r types cells.first

  has : (k : ℕ) (cells : Cells) → slice_get r.referred.locals k ≡ Some cells → (types : List SigType) × Holds cells types
  has k cells at =
      let is : IsLocalsRow r cells = known.rows.locals k cells at in
      (is.locals, subst (λ (c : Cells). Holds c is.locals) (sym is.are) is.signature)

  has_one : (k : ℕ) (cells : Cells) (x y : List SigType) → slice_get r.referred.locals k ≡ Some cells → Holds cells x → Holds cells y → x ≡ y
  has_one k cells x y at h g =
      one_signature SpellsLocals AreTaken rereads one r image blob heaps owners back x y cells.first h g (readable k cells x at h) (readable k cells y at g)

  abbrev Held : ℕ → List SigType → Type 0
  Held = IsHeld 0x11 r.referred.locals Holds

  column : (row : ℕ) (cells : Cells) → 0 < row → slice_get r.referred.locals (row - 1) ≡ Some cells → locals_signature image row ≡ cells.first
  column row cells some at =
      let same : 1 + (row - 1) ≡ row = omega arith in
      let is : locals_cells image row ≡ first_cell cells = subst (λ m. locals_cells image m ≡ first_cell cells) same (reads.each (row - 1) cells at) in
      ap (λ (cs : List ℕ). slice_index cs 0) is

  names_them : (token : ℕ) (types : List SigType) → Held token types → NamesLocals image owners token types
  names_them token types h =
      let low = get_low r.referred.locals (h.row - 1) h.cells h.at in
      let some = h.some in
      let taken = readable (h.row - 1) h.cells types h.at h.holds in
      NamesLocals.signed h.is (some, omega (arith, reads.count))
      (in_image SpellsLocals AreTaken rereads one r image blob heaps owners back types h.cells.first (locals_signature image h.row) h.holds (column h.row h.cells h.some h.at))
      (reads_back SpellsLocals AreTaken rereads one r image blob heaps owners back types h.cells.first h.holds, taken.0, taken.1)

  holds_them : (token : ℕ) (types : List SigType) → NamesLocals image owners token types → Held token types
  holds_them token types (NamesLocals.signed {row = row} {bytes = bytes} is there held h) =
      let some = there.0 in
      let high = there.1 in
      let found = get_some r.referred.locals (row - 1) (omega (arith, reads.count)) in
      let own = has (row - 1) found.0 found.1 in
      let same : own.0 ≡ types =
      is_signature SpellsLocals AreTaken rereads one r image blob heaps owners back own.0 types found.0.first (locals_signature image row) bytes own.1 (column row found.0 some found.1)
      (readable (row - 1) found.0 own.0 found.1 own.1) held h.0 (h.1, h.2) in
      record { row = row; cells = found.0; is = is; some = some; at = found.1; holds = subst (Holds found.0) same own.1 }

  given : (types : List SigType) (token : ℕ) → token_in locals_apart r.known.locals types ≡ Some token → Held token types
  given types token at =
      let h : IsLocalsToken r types token = holds_of_found locals_apart (λ e. IsLocalsToken r e.0 e.1) r.known.locals types token known.locals at in
      record { row = h.row; cells = record { first = h.blob; second = 0; third = 0 }; is = record { is = h.is.is; fits = h.is.fits }; some = h.at.counted; at = h.at.at; holds = h.signature }

  pub locals_read : LocalsRead r image owners
  locals_read = record {
    locals = row_map 0x11 r.referred.locals Holds has has_one;
    tells = λ token types. (
      λ e. names_them token types (map_told 0x11 r.referred.locals Holds has has_one token types e),
      λ h. map_tells 0x11 r.referred.locals Holds has has_one token types (holds_them token types h),
    );
    back = λ types token at. map_tells 0x11 r.referred.locals Holds has has_one token types (given types token at);
  }
