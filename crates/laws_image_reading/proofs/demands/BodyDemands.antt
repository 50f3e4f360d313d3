-- What is asked of bodies holds where they spell something.
use Rattle.std.proofs.Common.{◌≡◌, ◌≢◌, subst, ℕ, ◌+◌, ◌-◌, List, length, Option, None, Some, inl, inr, arith}
use Rattle.assembly_tree.specs.declared.assembly.Assembly.{Assembly}
use Rattle.assembly_tree.specs.declared.body.Body.{Body}
use Rattle.assembly_tree.specs.declared.body.Ins.{Ins}
use Rattle.assembly_tree.specs.declared.body.Operand.TheVariants as operand
use Rattle.body_codec.specs.Bodies.{Spells}
use Rattle.body_codec.specs.Header.{SpellsLocals, locals_token}
use Rattle.body_codec.specs.Names.{NameMap, reading}
use Rattle.body_codec.proofs.Decoded.{Passes, spelled_passes}
use Rattle.opcode_table.specs.declared.op.Op.TheVariants as op
use Rattle.type_terms.specs.declared.term.SigType.{SigType}
use Rattle.image_members.specs.Places.{all_methods}
use Rattle.image_members.specs.declared.classes.Class.{Class}
use Rattle.image_model.specs.Bodies.{HasBody, HasKnownHeader, HasLocals}
use Rattle.image_model.specs.Columns.{method_rva}
use Rattle.image_model.specs.Naming.{IsToken, NamesLocals}
use Rattle.image_model.specs.Namings.{AreNamings}
use Rattle.image_model.specs.Reading.{BodyIs}
use Rattle.image_model.specs.Rows.{HasRow, count_of}
use Rattle.pe_layout.specs.FileMap.{readable}
use Rattle.laws_image_parts.proofs.tidiness.ListLemmas.{get_some}
use Rattle.laws_image_parts.specs.bodies.Bodies.{BodiesRead}
use Rattle.laws_image_reading.specs.demands.OnBodies.{BodiesMeet}

-- an instruction without operand
any : Ins
any = record { op = op.Nop; operand = operand.Nothing }

module _ (a : Assembly) (classes : List Class) (image : List ℕ) (names : NameMap) (namings : AreNamings image names) (bodies : BodiesRead a classes image names)
    (count : count_of image 0x06 ≡ length (all_methods a classes)) where
  body_at : (rva : ℕ) (o : Option Body) → BodyIs image names rva o → rva ≢ 0 → (body : Body) × (size : ℕ) × Spells (reading names) (readable image rva) body size
  body_at rva None h some = absurd (some h)
  body_at rva (Some body) h some = (body, h.1.0, h.1.1)

  -- a row with a body spells it
  row_spells : (row : ℕ) → HasRow image 0x06 row → HasBody image row → (body : Body) × (size : ℕ) × Spells (reading names) (readable image (method_rva image row)) body size
  row_spells row there has =
      let some = there.0 in
      let high = there.1 in
      let found = get_some (all_methods a classes) (row - 1) (omega arith) in
      let same : 1 + (row - 1) ≡ row = omega arith in
      body_at (method_rva image row) found.0.body (subst (λ n. BodyIs image names (method_rva image n) found.0.body) same (bodies.bodies (row - 1) found.0 found.1)) has

  passes : (row : ℕ) → HasRow image 0x06 row → HasBody image row → Passes names (readable image (method_rva image row))
  passes row there has = let b = row_spells row there has in spelled_passes names (readable image (method_rva image row)) b.0 b.1 any b.2

  -- locals that are named have a row
  locals_row : {token : ℕ} {types : List SigType} → NamesLocals image names.owners token types → (row : ℕ) × IsToken token 0x11 row × HasRow image 0x11 row
  locals_row (NamesLocals.signed {row = row} is there held spelled) = (row, is, there)

  locals_known : (bytes : List ℕ) (types : List SigType) → SpellsLocals (reading names) (locals_token bytes) types → HasLocals image bytes
  locals_known bytes types (inl none) = inl none.0
  locals_known bytes types (inr some) = inr (locals_row ((namings.locals (locals_token bytes) types).0 some.1))

  header_known : (row : ℕ) → HasRow image 0x06 row → HasBody image row → HasKnownHeader image row
  header_known row there has =
      let p = passes row there has in
      record { header = p.known.header; locals = locals_known (readable image (method_rva image row)) p.known.types p.known.locals }

  pub bodies_meet : BodiesMeet image names
  bodies_meet = record {
    headers = header_known;
    instructions_hold = λ table row is there has. let p = passes row there has in (p.pieces, record { cut = p.cut; targets = p.targets });
    clauses_hold = λ table row is there has. let p = passes row there has in (p.pieces, record { code = record { cut = p.cut; targets = p.targets }; clauses = p.clauses });
    tokens_hold = λ table row is there has.
        let p = passes row there has in
        record {
          pieces = p.pieces;
          outline = record { code = record { cut = p.cut; targets = p.targets }; clauses = p.clauses };
          operands = p.names_known;
          catches = p.catches;
        };
  }
