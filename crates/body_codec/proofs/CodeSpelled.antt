-- Code that is written spells its instructions.
use Rattle.std.proofs.Common.{◌≡◌, ◌∙◌, ℕ, zero, suc, ◌<◌, ◌≤◌, ◌+◌, ◌^◌, pos, ◌-ℤ◌, List, length, take, get_or, ap, refl, sym, subst, arith, add-one}
use Rattle.std.specs.List.{All}
use Rattle.std.proofs.lemmas.List.{length-append}
use Rattle.opcode_table.specs.declared.op.Op.TheVariants.{Nop}
use Rattle.assembly_tree.specs.declared.body.Ins.{Ins}
use Rattle.assembly_tree.specs.declared.body.Operand as operand
use Rattle.body_codec.specs.Instruction.{Piece, IsWhole, bytes_of_pieces, kind, opcode_bytes, piece_bytes, place}
use Rattle.body_codec.specs.Names.{TokenMap, writing}
use Rattle.body_codec.specs.Spelling.{LeadsTo, SpellsCode, SpellsIns}
use Rattle.body_codec.specs.Encoding.{OperandFits, ins_size, offset, size_of}
use Rattle.body_codec.specs.Written.{AreOffsets, HasToken, Reaches, code_bytes, far_from, piece_of, pieces_from}
use Rattle.body_codec.proofs.Offsets.{offset_more, offset_none, offset_within}
use Rattle.body_codec.proofs.CodePieces.{first_piece, length-pieces, pieces_all, pieces_more}
use Rattle.body_codec.proofs.Tails.{tail_size, tail_spelled, tail_whole}

module _ (numbers : TokenMap) (os : List ℕ) (code : List Ins) (o : AreOffsets code os)
    (fits : All (λ ins. OperandFits numbers (length code) (kind ins.op) ins.operand) code) (last : offset code (length code) < 2 ^ 31) where
  piece_size : (k : ℕ) (ins : Ins) → OperandFits numbers (length code) (kind ins.op) ins.operand → length (piece_bytes (piece_of numbers os k ins)) ≡ ins_size ins
  unfolding piece_of
  piece_size k ins f =
      length-append (opcode_bytes ins.op) _ ∙ ap (λ n. length (opcode_bytes ins.op) + n) (tail_size numbers (length code) _ _ os (kind ins.op) ins.operand f)

  -- each piece stands where its instruction begins
  pub place_is : (t : ℕ) → t ≤ length code → place (pieces_from numbers os 0 code) t ≡ offset code t
  unfolding place
  place_is zero h = sym (offset_none code)
  place_is (suc t) h =
      let d : Ins = record { op = Nop; operand = operand.TheVariants.Nothing } in
      let l : t < length code = omega arith in
      let ins : Ins = get_or code t d in
      ap (λ n. length (bytes_of_pieces (take n (pieces_from numbers os 0 code)))) (sym (add-one t))
      ∙ ap length (pieces_more numbers os code t d l)
      ∙ length-append (bytes_of_pieces (take t (pieces_from numbers os 0 code))) (piece_bytes (piece_of numbers os t ins))
      ∙ ap (λ n. n + length (piece_bytes (piece_of numbers os t ins))) (place_is t (omega arith))
      ∙ ap (λ n. offset code t + n) (piece_size t ins (fits t d l))
      ∙ sym (offset_more code t d l)
      ∙ ap (offset code) (add-one t)

  -- so a displacement by offsets leads to the instruction
  leads : (k t : ℕ) → k < length code → t < length code → LeadsTo (pieces_from numbers os 0 code) k t (far_from os (get_or os (k + 1) 0) t)
  leads k t h w = record {
    there = omega (arith, length-pieces numbers os 0 code);
    distance_is =
        ap (λ n. pos n -ℤ pos (get_or os (k + 1) 0)) (o.each t (omega arith) ∙ sym (place_is t (omega arith)))
        ∙ ap (λ n. pos (place (pieces_from numbers os 0 code) t) -ℤ pos n) (o.each (k + 1) (omega arith) ∙ sym (place_is (k + 1) (omega arith)));
  }

  -- no instruction has more bytes than the code
  ins_small : (k : ℕ) (i : Ins) → k < length code → size_of (kind (get_or code k i).op) (get_or code k i).operand < 2 ^ 31
  ins_small k i h = omega (arith, offset_more code k i h, offset_within code (k + 1), last)

  offset_small : (t : ℕ) → t ≤ length code → get_or os t 0 < 2 ^ 31
  offset_small t h = omega (arith, o.each t h, offset_within code t, last)

  whole : (k : ℕ) (i : Ins) → k < length code → IsWhole (piece_of numbers os k (get_or code k i))
  unfolding piece_of
  whole k i h = record { size = tail_whole numbers (length code) _ _ os (kind (get_or code k i).op) (get_or code k i).operand (fits k i h) (ins_small k i h) }

  spelled : All (λ ins. HasToken numbers ins.operand) code
      → ((k : ℕ) (i : Ins) → k < length code → Reaches os (get_or os (k + 1) 0) (kind (get_or code k i).op) (get_or code k i).operand)
      → (k : ℕ) (i : Ins) → k < length code → SpellsIns (writing numbers) (pieces_from numbers os 0 code) k (piece_of numbers os k (get_or code k i)) (get_or code k i)
  unfolding piece_of
  spelled tokens near k i h = record {
    op = refl;
    operand = tail_spelled numbers (length code) (get_or os (k + 1) 0) k os (pieces_from numbers os 0 code) (kind (get_or code k i).op) (get_or code k i).operand
        (fits k i h) (tokens k i h) (ins_small k i h) (near k i h) (λ t w. offset_small t (omega arith)) (offset_small (k + 1) (omega arith)) (λ t w. leads k t h w);
  }

  pub code_spelled : All (λ ins. HasToken numbers ins.operand) code
      → ((k : ℕ) (i : Ins) → k < length code → Reaches os (get_or os (k + 1) 0) (kind (get_or code k i).op) (get_or code k i).operand)
      → SpellsCode (writing numbers) (pieces_from numbers os 0 code) code (code_bytes numbers os code)
  code_spelled tokens near = record {
    cut = record {
      whole = refl;
      each = λ k p h.
          let d : Ins = record { op = Nop; operand = operand.TheVariants.Nothing } in
          let l : k < length code = omega (arith, length-pieces numbers os 0 code) in
          let P : Piece → Type 0 = IsWhole in
          subst P (sym (first_piece numbers os code k p d l)) (whole k d l);
    };
    each = record {
      count = length-pieces numbers os 0 code;
      each = λ k p i h.
          let P : Piece → Type 0 = λ q. SpellsIns (writing numbers) (pieces_from numbers os 0 code) k q (get_or code k i) in
          subst P (sym (first_piece numbers os code k p i h)) (spelled tokens near k i h);
    };
  }

  -- the code has as many bytes as its end says
  pub code_size_is : length (code_bytes numbers os code) ≡ offset code (length code)
  unfolding place
  code_size_is = ap length (sym (pieces_all numbers os code)) ∙ place_is (length code) (omega arith)
