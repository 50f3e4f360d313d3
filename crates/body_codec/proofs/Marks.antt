-- One more instruction, and the end of the code.
use Rattle.std.proofs.Common.{◌≡◌, ◌∙◌, sym, ap, subst, refl, ℕ, zero, suc, ◌+◌, ◌-◌, ◌<◌, ◌≤◌, ◌^◌, List, [], ◌∷◌, ◌++◌, length, take, drop, get_or, slice_index_or, arith}
use Rattle.std.specs.List.{All, slice_range}
use Rattle.std.proofs.lemmas.List.{append_assoc, append-nil, append_cancel_right, length-append, length-take-le, length-drop, take-append-drop, drop-drop, take_all, length-map, map_push, length_push}
use Rattle.std.proofs.lemmas.List.Concat.{flat_map-append}
use Rattle.opcode_table.specs.declared.op.Op.{Op}
use Rattle.body_codec.specs.declared.fault.BodyFault.{BodyFault}
use Rattle.body_codec.specs.declared.fault.BodyFault.TheVariants as faults
use Rattle.body_codec.specs.declared.decoding.marks.Mark.{Mark}
use Rattle.body_codec.specs.Instruction.{Piece, IsWhole, opcode_bytes, operand_size, piece_bytes, bytes_of_pieces, place, kind}
use Rattle.body_codec.specs.Reading.{piece_of, pieces_of, IsMark, MarksTo, AreMarks, BeginsNone, IsStop, IsScanFault}
use Rattle.body_codec.specs.Faults.{StopsAt}
use Rattle.body_codec.proofs.Pieces.{place_push, place_all, opcode_some}

-- what holds of each item and of one more
pub all_push : {X : Type 0} (P : X → Type 0) (xs : List X) (x : X) → All P xs → P x → All P (xs ++ x ∷ [])
all_push P [] x a h zero d l = h
all_push P [] x a h (suc k) d l = absurd (omega arith)
all_push P (y ∷ ys) x a h zero d l = a 0 d (omega arith)
all_push P (y ∷ ys) x a h (suc k) d l = all_push P ys x (λ j e m. a (suc j) e (omega arith)) h k d (omega arith)

-- what holds of each item with its place, and of one more
pub each_push : {X : Type 0} (P : ℕ → X → Type 0) (xs : List X) (x : X) (n : ℕ) → length xs ≡ n → ((j : ℕ) (d : X) → j < n → P j (get_or xs j d)) → P n x
    → (j : ℕ) (d : X) → j < n + 1 → P j (get_or (xs ++ x ∷ []) j d)
each_push P [] x n l e h zero d m = subst (λ k. P k x) (sym l) h
each_push P [] x n l e h (suc j) d m = absurd (omega arith)
each_push P (y ∷ ys) x zero l e h j d m = absurd (omega arith)
each_push P (y ∷ ys) x (suc n) l e h zero d m = e 0 d (omega arith)
each_push P (y ∷ ys) x (suc n) l e h (suc j) d m = each_push (λ k. P (suc k)) ys x n (omega arith) (λ i d g. e (suc i) d (omega arith)) h j d (omega arith)

bytes_push : (ps : List Piece) (p : Piece) → bytes_of_pieces (ps ++ p ∷ []) ≡ bytes_of_pieces ps ++ piece_bytes p
bytes_push ps p = flat_map-append piece_bytes ps (p ∷ []) ∙ ap (λ x. bytes_of_pieces ps ++ x) (append-nil (piece_bytes p))

pub pieces_push : (code : List ℕ) (marks : List Mark) (m : Mark) → pieces_of code (marks ++ m ∷ []) ≡ pieces_of code marks ++ piece_of code m ∷ []
pieces_push code marks m = map_push (piece_of code) marks m

-- a front, and the next piece of the list
front_more : (code p : List ℕ) (at end : ℕ) → drop at code ≡ p ++ drop end code → take end code ≡ take at code ++ p
front_more code p at end h =
    append_cancel_right (take end code) (take at code ++ p) (drop end code)
    (take-append-drop end code ∙ (sym (take-append-drop at code) ∙ (ap (λ x. take at code ++ x) h ∙ sym (append_assoc (take at code) p (drop end code)))))

pub marks_none : (code : List ℕ) → MarksTo code [] 0
marks_none code = record {
  within = omega arith;
  whole = refl;
  pieces = λ k d h. absurd (omega arith);
  each = λ k d h. absurd (omega arith);
  starts = λ k d h. absurd (omega arith);
  ends = λ k d h. absurd (omega arith);
}

-- what holds at each place below n and at n
more_places : (F : Mark → ℕ) (G H : ℕ → ℕ) (marks : List Mark) (m : Mark) → ((k : ℕ) (d : Mark) → k < length marks → F (slice_index_or marks k d) ≡ G k)
    → ((k : ℕ) → k < length marks → G k ≡ H k) → F m ≡ H (length marks)
    → (k : ℕ) (d : Mark) → k < length (marks ++ m ∷ []) → F (slice_index_or (marks ++ m ∷ []) k d) ≡ H k
more_places F G H [] m each same last zero d h = last
more_places F G H [] m each same last (suc k) d h = absurd (omega arith)
more_places F G H (x ∷ xs) m each same last zero d h = each 0 d (omega arith) ∙ same 0 (omega arith)
more_places F G H (x ∷ xs) m each same last (suc k) d h =
    more_places F (λ j. G (suc j)) (λ j. H (suc j)) xs m (λ j e l. each (suc j) e (omega arith)) (λ j l. same (suc j) (omega arith)) last k d (omega arith)

pub marks_more : (code : List ℕ) (marks : List Mark) (m : Mark) (at : ℕ) → MarksTo code marks at → m.start ≡ at → IsMark code m → MarksTo code (marks ++ m ∷ []) m.end
marks_more code marks m at t e w =
    let ps = pieces_of code marks in
    let p = piece_of code m in
    let count : length ps ≡ length marks = length-map marks (piece_of code) in
    let push = pieces_push code marks m in
    let spelled = subst (λ n. drop n code ≡ piece_bytes p ++ drop m.end code) e w.spelled in
    let front = front_more code (piece_bytes p) at m.end spelled in
    let whole : take m.end code ≡ bytes_of_pieces (ps ++ p ∷ []) = front ∙ (ap (λ x. x ++ piece_bytes p) t.whole ∙ sym (bytes_push ps p)) in
    let here : length (bytes_of_pieces ps) ≡ at = ap length (sym t.whole) ∙ length-take-le at code t.within in
    let there : length (bytes_of_pieces (ps ++ p ∷ [])) ≡ m.end = ap length (sym whole) ∙ length-take-le m.end code w.room in
    let starts = more_places (λ x. x.start) (place ps) (place (ps ++ p ∷ [])) marks m t.starts (λ k h. sym (place_push ps p k (omega arith)))
    (e ∙ (sym here ∙ (sym (place_all ps (length marks) (omega arith)) ∙ sym (place_push ps p (length marks) (omega arith))))) in
    let ends = more_places (λ x. x.end) (λ k. place ps (k + 1)) (λ k. place (ps ++ p ∷ []) (k + 1)) marks m t.ends (λ k h. sym (place_push ps p (k + 1) (omega arith)))
    (sym there ∙ sym (place_all (ps ++ p ∷ []) (length marks + 1) (omega (arith, length_push ps p)))) in
    record {
      within = w.room;
      whole = whole ∙ ap bytes_of_pieces (sym push);
      pieces = subst (λ qs. All IsWhole qs) (sym push) (all_push IsWhole ps p t.pieces w.whole);
      each = all_push (IsMark code) marks m t.each w;
      starts = λ k d h. starts k d h ∙ ap (λ qs. place qs k) (sym push);
      ends = λ k d h. ends k d h ∙ ap (λ qs. place qs (k + 1)) (sym push);
    }

pub marks_all : (code : List ℕ) (marks : List Mark) (at : ℕ) → length code < 2 ^ 32 → MarksTo code marks at → length code ≤ at → AreMarks code marks
marks_all code marks at small t h = record {
  small = small;
  cut = record { whole = sym (take_all at code h) ∙ t.whole; each = t.pieces };
  each = t.each;
  starts = t.starts;
  ends = t.ends;
}

stopped : (code : List ℕ) (marks : List Mark) (at offset : ℕ) → MarksTo code marks at → at < length code → offset ≡ at → BeginsNone (drop at code) → StopsAt code offset (drop at code)
stopped code marks at offset t h e none = record {
  pieces = pieces_of code marks;
  whole = sym (take-append-drop at code) ∙ ap (λ x. x ++ drop at code) t.whole;
  each = t.pieces;
  at = e ∙ (sym (length-take-le at code t.within) ∙ ap length t.whole);
  some = let l = length-drop at code in omega arith;
  stuck = none;
}

pub marks_stop : (code : List ℕ) (marks : List Mark) (at : ℕ) (f : BodyFault) → MarksTo code marks at → at < length code → IsStop at (drop at code) f → IsScanFault code f
marks_stop code marks at (faults.Opcode offset) t h s = record { rest = drop at code; stops = stopped code marks at offset t h s.0 s.1; unknown = s.2 }
marks_stop code marks at (faults.Cut offset) t h s = record { rest = drop at code; stops = stopped code marks at offset t h s.0 s.1; begins = s.2 }
marks_stop code marks at faults.Header t h s = absurd s
marks_stop code marks at (faults.Far k) t h s = absurd s
marks_stop code marks at (faults.Target k) t h s = absurd s
marks_stop code marks at (faults.Range k) t h s = absurd s
marks_stop code marks at (faults.Token k) t h s = absurd s
marks_stop code marks at faults.NoMemory t h s = absurd s

-- the mark of an opcode of `size` bytes at a place, and an operand of `n` bytes behind it
pub marked : (code : List ℕ) (op : Op) (at size n : ℕ) → at < length code → drop at code ≡ opcode_bytes op ++ drop size (drop at code)
    → size ≤ length (drop at code) → n ≤ length (drop (at + size) code) → n ≡ operand_size (kind op) (take n (drop (at + size) code))
    → IsMark code (record { op = op; start = at; operand = at + size; end = at + size + n })
marked code op at size n h e s l k =
    let b = drop (at + size) code in
    let width : at + size + n - (at + size) ≡ n = omega arith in
    let tail : slice_range code (at + size) (at + size + n) ≡ take n b = ap (λ x. take x b) width in
    let rest : drop size (drop at code) ≡ b = drop-drop size at code in
    let more : drop n b ≡ drop (at + size + n) code = drop-drop n (at + size) code in
    let first = ap length e ∙ length-append (opcode_bytes op) (drop size (drop at code)) in
    let some = opcode_some op in
    let ld = length-drop at code in
    let ls = length-drop size (drop at code) in
    let lb = length-drop (at + size) code in
    let split : b ≡ take n b ++ drop n b = sym (take-append-drop n b) in
    record {
      whole = record { size = ap length tail ∙ (length-take-le n b l ∙ (k ∙ ap (operand_size (kind op)) (sym tail))) };
      spelled = e ∙ (ap (λ x. opcode_bytes op ++ x) (rest ∙ (split ∙ (ap (λ x. x ++ drop n b) (sym tail) ∙ ap (λ x. slice_range code (at + size) (at + size + n) ++ x) more)))
          ∙ sym (append_assoc (opcode_bytes op) (slice_range code (at + size) (at + size + n)) (drop (at + size + n) code)));
      opened = omega arith;
      ordered = omega arith;
      room = omega arith;
    }
