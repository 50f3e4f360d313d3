-- One more instruction of a draft, and all of them.
use Rattle.std.proofs.Common.{◌≡◌, ◌∙◌, ◌⊎◌, inl, inr, ℕ, ◌<◌, ◌≤◌, ◌+◌, ◌^◌, ◌++◌, List, [], ◌∷◌, length, take, get_or, ap, refl, sym, subst, arith, below_more, ℤ, Option, None, Some, Result, Ok, Err}
use Rattle.std.specs.List.{All}
use Rattle.std.specs.Result.{OnOk}
use Rattle.std.proofs.lemmas.Grind.{same_number_lists}
use Rattle.std.proofs.lemmas.List.{append_assoc, get_or_append_left, get_or_default, get_or_push, length-append}
use Rattle.opcode_table.specs.declared.kind.OperandKind.{OperandKind}
use Rattle.opcode_table.specs.declared.kind.OperandKind.TheVariants as kinds
use Rattle.assembly_tree.specs.declared.body.Ins.{Ins}
use Rattle.assembly_tree.specs.declared.body.Operand as operand
use Rattle.body_codec.specs.declared.encoding.site.Site.{Site}
use Rattle.body_codec.specs.Instruction.{bytes_of_pieces, kind, opcode_bytes, operand_size, piece_bytes, place}
use Rattle.body_codec.specs.Names.{TokenMap, token_of}
use Rattle.body_codec.specs.Encoding.{FitsBytes, IsFirstFar, OperandFits, distance, ins_size, offset, size_of}
use Rattle.body_codec.specs.Spelling.{form, target}
use Rattle.body_codec.specs.Written.{AreOffsets, AreWithin, Reaches, far_from, or_zero, piece_of, pieces_from, tail_of}
use Rattle.body_codec.specs.Chains.{AreFar, Drafts, IsFarTo, IsShort, IsWatched, Waits, from_on, offsets_of}
use Rattle.body_codec.proofs.CodeSpelled.{place_is}
use Rattle.body_codec.proofs.Drafts.{draft_done}
use Rattle.body_codec.proofs.Far.{far_is}
use Rattle.body_codec.proofs.Links.{are_offsets}
use Rattle.body_codec.proofs.Offsets.{offset_more}

pub on_both : {T E P Q R : Type 0} (r : Result T E) → (P → Q → R) → OnOk r P → OnOk r Q → OnOk r R
on_both (Ok x) f p q = f p q
on_both (Err e) f p q = tt

-- where the next instruction begins
pub next_is : (code : List Ins) (at : ℕ) (ins : Ins) (want bytes out : List ℕ) → at < length code → ((d : Ins) → get_or code at d ≡ ins) → length want ≡ offset code at
    → length bytes ≡ length want → out ≡ bytes ++ opcode_bytes ins.op → length out + size_of (kind ins.op) ins.operand ≡ offset code (at + 1)
next_is code at ins want bytes out h is w same e =
    let l : length out ≡ length bytes + length (opcode_bytes ins.op) = ap length e ∙ length-append bytes (opcode_bytes ins.op) in
    let s : ins_size (get_or code at ins) ≡ ins_size ins = ap ins_size (is ins) in
    omega (arith, l, s, offset_more code at ins h)

pub short_is : (code : List Ins) (at to next : ℕ) (ins : Ins) → at < length code → ((d : Ins) → get_or code at d ≡ ins) → next ≡ offset code (at + 1)
    → kind ins.op ≡ kinds.Branch8 → ins.operand ≡ operand.TheVariants.Target to → IsShort code at to next
short_is code at to next ins h is n k e = record {
  inside = h;
  kind_is = λ d. ap (λ (i : Ins). kind i.op) (is d) ∙ k;
  branch = λ d. ap (λ (i : Ins). i.operand) (is d) ∙ e;
  end_is = n;
}

pub ins_added : (numbers : TokenMap) (code : List Ins) (at next token : ℕ) (ins : Ins) (want B : List ℕ) (S : List Site) (O : List ℕ) (F : Option ℕ) (n : ℕ)
    → at < length code → ((d : Ins) → get_or code at d ≡ ins) → next ≡ offset code (at + 1) → token ≡ or_zero (token_of numbers ins.operand)
    → Drafts (from_on (at + 1)) code at ((want ++ opcode_bytes ins.op) ++ tail_of token (offsets_of code) next (kind ins.op) ins.operand) B S O F n
    → ((to : ℕ) → kind ins.op ≡ kinds.Branch8 → ins.operand ≡ operand.TheVariants.Target to → IsWatched (from_on (at + 1)) code S F at to)
    → Drafts (from_on (at + 1)) code (at + 1) (want ++ piece_bytes (piece_of numbers (offsets_of code) at ins)) B S O F n
unfolding piece_of
ins_added numbers code at next token ins want B S O F n h is ne te d watched =
    let os : List ℕ = offsets_of code in
    let a : AreOffsets code os = are_offsets code in
    let there : next ≡ get_or os (at + 1) 0 = ne ∙ sym (a.each (at + 1) (omega arith)) in
    let P : List ℕ → Type 0 = λ w. Drafts (from_on (at + 1)) code (at + 1) w B S O F n in
    let same : (want ++ opcode_bytes ins.op) ++ tail_of token os next (kind ins.op) ins.operand
    ≡ want ++ (opcode_bytes ins.op ++ tail_of (or_zero (token_of numbers ins.operand)) os (get_or os (at + 1) 0) (kind ins.op) ins.operand) =
    append_assoc want (opcode_bytes ins.op) (tail_of token os next (kind ins.op) ins.operand)
    ∙ ap (λ t. want ++ (opcode_bytes ins.op ++ tail_of t os next (kind ins.op) ins.operand)) te
    ∙ ap (λ m. want ++ (opcode_bytes ins.op ++ tail_of (or_zero (token_of numbers ins.operand)) os m (kind ins.op) ins.operand)) there in
    let here : (t end : ℕ) → IsShort code at t end → IsWatched (from_on (at + 1)) code S F at t =
    λ t end sh. watched t (ap (λ (i : Ins). kind i.op) (sym (is ins)) ∙ sh.kind_is ins) (ap (λ (i : Ins). i.operand) (sym (is ins)) ∙ sh.branch ins) in
    subst P same (draft_done (from_on (at + 1)) code at _ B S O F n here d)

-- ---- the whole code

-- a draft of nothing
pub draft_none : (code : List Ins) (n : ℕ) → n ≡ length code → Drafts (from_on 0) code 0 [] [] [] [] None n
draft_none code n e = record {
  count_is = e;
  bytes_are = record { count = refl; same = λ q h closed. absurd (omega arith) };
  sites_are = λ i s h. absurd (omega arith);
  offsets_are = λ k h. absurd (omega arith);
  far_are = tt;
  watched = λ k t end h sh. absurd (omega arith);
}

-- a branch and a switch have displacements
pub some_size : (numbers : TokenMap) (count : ℕ) (kd : OperandKind) (value : operand.Operand) → OperandFits numbers count kd value → (to : ℕ) → value ≡ operand.TheVariants.Target to → 0 < operand_size kd []
some_size numbers count kd value fit to e =
    let P : operand.Operand → Type 0 = OperandFits numbers count kd in target_size kd (subst P e fit).0 where
      target_size : (k : OperandKind) → form k ≡ target → 0 < operand_size k []
      target_size kinds.Branch8 f = omega arith
      target_size kinds.Branch32 f = omega arith
      target_size _ f = cc

module _ (code : List Ins) (want bytes : List ℕ) (S : List Site) (os : List ℕ) (far : Option ℕ) (n : ℕ)
    (d : Drafts (from_on (length code)) code (length code) want bytes S os far n) where
  -- at the end nothing is open
  none_open : (i : ℕ) (s : Site) → i < length S → from_on (length code) i (get_or S i s) → ⊥
  none_open i s h o = omega (arith, (d.sites_are i s h).to_inside)

  pub bytes_done : bytes ≡ want
  bytes_done = same_number_lists bytes want d.bytes_are.count (λ k h. d.bytes_are.same k (omega (arith, d.bytes_are.count)) (λ i s l o c. none_open i s l o))

  none_waits : (k t : ℕ) → Waits (from_on (length code)) S k t → ⊥
  none_waits k t w =
      let s : Site = record { at = 0; kind = kinds.Nothing; place = 0; end = 0; to = 0; before = None } in
      none_open w.number s w.within (w.site s).0

  -- so each short branch reaches or is known not to
  settled : (k t end : ℕ) → k < length code → IsShort code k t end → FitsBytes 1 (distance code k t) ⊎ IsFarTo far k
  settled k t end h sh =
      elim (d.watched k t end h sh) [
        | inl f ↦ inl f
        | inr (inl f) ↦ inr f
        | inr (inr f) ↦ absurd (none_waits k t f)
      ]

short_at : (code : List Ins) (k t : ℕ) (i : Ins) → k < length code → kind (get_or code k i).op ≡ kinds.Branch8 → (get_or code k i).operand ≡ operand.TheVariants.Target t
    → IsShort code k t (offset code (k + 1))
short_at code k t i h kd e = record {
  inside = h;
  kind_is = λ d. ap (λ (x : Ins). kind x.op) (get_or_default code k d i h) ∙ kd;
  branch = λ d. ap (λ (x : Ins). x.operand) (get_or_default code k d i h) ∙ e;
  end_is = refl;
}

-- the one that is known not to is the first
pub far_first : (code : List Ins) (want bytes : List ℕ) (S : List Site) (os : List ℕ) (far : Option ℕ) (n at : ℕ) → far ≡ Some at
    → Drafts (from_on (length code)) code (length code) want bytes S os far n → IsFirstFar code at
far_first code want bytes S os far n at e d =
    let P : Option ℕ → Type 0 = AreFar code in
    let f = subst P e d.far_are in
    let Q : ℕ → Option ℕ → Type 0 = λ k o. IsFarTo o k in
    record {
      within = f.0;
      before = λ k i h is.
          let l : k < length code = omega (arith, f.0) in
          elim (settled code want bytes S os far n d k is.to (offset code (k + 1)) l (short_at code k is.to i l is.short is.branch)) [
            | inl g ↦ is.far g
            | inr g ↦ let R : Option ℕ → Type 0 = λ o. IsFarTo o k in let m : at ≤ k = subst R e g in omega arith
          ];
      far = f.1;
    }

reaches_of : (os : List ℕ) (next : ℕ) (kd : OperandKind) (value : operand.Operand)
    → ((t : ℕ) → kd ≡ kinds.Branch8 → value ≡ operand.TheVariants.Target t → FitsBytes 1 (far_from os next t)) → Reaches os next kd value
reaches_of os next kinds.Branch8 (operand.TheVariants.Target t) f = f t refl refl
reaches_of os next kd value f = tt

-- and where there is none, each reaches
pub all_near : (code : List Ins) (want bytes : List ℕ) (S : List Site) (os : List ℕ) (far : Option ℕ) (n : ℕ) → far ≡ None
    → All (λ ins. AreWithin (length code) ins.operand) code → Drafts (from_on (length code)) code (length code) want bytes S os far n
    → (k : ℕ) (i : Ins) → k < length code
    → Reaches (offsets_of code) (get_or (offsets_of code) (k + 1) 0) (kind (get_or code k i).op) (get_or code k i).operand
all_near code want bytes S os far n e within d k i h =
    let all : List ℕ = offsets_of code in
    reaches_of all (get_or all (k + 1) 0) (kind (get_or code k i).op) (get_or code k i).operand
    (λ t kd v.
    let W : operand.Operand → Type 0 = AreWithin (length code) in
    let w : t < length code = subst W v (within k i h) in
    let P : ℤ → Type 0 = FitsBytes 1 in
    let R : Option ℕ → Type 0 = λ o. IsFarTo o k in
    elim (settled code want bytes S os far n d k t (offset code (k + 1)) h (short_at code k t i h kd v)) [
      | inl f ↦ subst P (sym (far_is code all k t (are_offsets code) h w)) f
      | inr f ↦ absurd (subst R e f)
    ])

-- where each instruction begins and the code ends
pub offsets_done : (code : List Ins) (os : List ℕ) (end : ℕ) → length os ≡ length code → ((k : ℕ) → k < length os → get_or os k 0 ≡ offset code k)
    → end ≡ offset code (length code) → AreOffsets code (os ++ end ∷ [])
offsets_done code os end count each last = record {
  count = length-append os (end ∷ []) ∙ omega (arith, count);
  each = λ k h.
      below_more (λ m. get_or (os ++ end ∷ []) m 0 ≡ offset code m) (length os)
      (λ m l. get_or_append_left os (end ∷ []) 0 m l ∙ each m l)
      (get_or_push os end 0 (length os) refl ∙ last ∙ ap (offset code) (sym count)) k (omega (arith, count));
}

-- the bytes of the first instructions are as many as the offset behind them says
pub size_at : (numbers : TokenMap) (code : List Ins) → All (λ ins. OperandFits numbers (length code) (kind ins.op) ins.operand) code → offset code (length code) < 2 ^ 31
    → (k : ℕ) → k ≤ length code → length (bytes_of_pieces (take k (pieces_from numbers (offsets_of code) 0 code))) ≡ offset code k
unfolding place
size_at numbers code fits last k h = place_is numbers (offsets_of code) code (are_offsets code) fits last k h
