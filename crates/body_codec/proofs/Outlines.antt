-- The outline of a body, from the steps that read it.
use Rattle.std.proofs.Common.{◌≡◌, ◌∙◌, sym, ap, subst, ℕ, ◌-◌, ◌<◌, ◌^◌, inl, inr, List, ◌++◌, length, take, drop, arith}
use Rattle.std.specs.List.{All, filter_map, slice_range}
use Rattle.std.proofs.lemmas.List.{append_assoc, length-take}
use Rattle.type_terms.specs.declared.term.SigType.{SigType}
use Rattle.assembly_tree.specs.declared.body.Clause.{Clause}
use Rattle.assembly_tree.specs.declared.body.Ins.{Ins}
use Rattle.body_codec.specs.declared.fault.BodyFault.{BodyFault}
use Rattle.body_codec.specs.declared.fault.BodyFault.TheVariants as faults
use Rattle.body_codec.specs.declared.decoding.header.Header.{Header}
use Rattle.body_codec.specs.declared.decoding.marks.Mark.{Mark}
use Rattle.body_codec.specs.declared.decoding.sections.Clauses.{Clauses}
use Rattle.body_codec.specs.declared.decoding.sections.Found.{Found}
use Rattle.body_codec.specs.NamedTokens.{AreNamed, token_in, caught_in, locals_in}
use Rattle.body_codec.specs.declared.decoding.outline.Outline.{Outline}
use Rattle.body_codec.specs.Instruction.{Piece}
use Rattle.body_codec.specs.Names.{NameMap, reading}
use Rattle.body_codec.specs.Spelling.{SpellsEach}
use Rattle.body_codec.specs.Header.{HasHeader, header_size, code_size, code_end, code_of, locals_token, SpellsLocals}
use Rattle.body_codec.specs.Sections.{clause_rows, SpellsClauses}
use Rattle.body_codec.specs.Bodies.{Spells}
use Rattle.body_codec.specs.Faults.{IsKnown, HaveTargets, IsCode, IsOutline, IsOutlineFault, IsFault, IsFaultOfAll}
use Rattle.body_codec.specs.Reading.{IsHeader, pieces_of, AreMarks, AreStarts, IsLayout, IsScanFault, IsTargetFault, IsNameFault}
use Rattle.body_codec.specs.ReadingClauses.{IsFound, rows_of, HasRead, IsRangeFault, IsCatchFault, IsLocalsFault, HasOutline}
use Rattle.body_codec.proofs.Places.{count_is}
use Rattle.body_codec.proofs.Sections.{read_clauses_are}
use Rattle.body_codec.proofs.Decoded.{code_names}

pub code_is : (bytes : List ℕ) (h : Header) → IsHeader bytes h → slice_range bytes h.start h.end ≡ code_of bytes
unfolding code_of code_end
code_is bytes h i =
    let s = i.start in
    let e = i.end in
    let n : h.end - h.start ≡ code_size bytes = omega arith in
    ap (λ k. take k (drop h.start bytes)) n ∙ ap (λ k. take (code_size bytes) (drop k bytes)) s

pub code_small : (bytes : List ℕ) (h : Header) → IsHeader bytes h → length (code_of bytes) < 2 ^ 32
unfolding code_of
code_small bytes h i = let s = i.small in let l = length-take (code_size bytes) (drop (header_size bytes) bytes) in omega arith

pub scan_fault : (bytes : List ℕ) (f : BodyFault) → IsScanFault (code_of bytes) f → IsOutlineFault bytes f
scan_fault bytes (faults.Opcode n) h = h
scan_fault bytes (faults.Cut n) h = h
scan_fault bytes faults.NoMemory h = tt
scan_fault bytes faults.Header h = absurd h
scan_fault bytes (faults.Far n) h = absurd h
scan_fault bytes (faults.Target n) h = absurd h
scan_fault bytes (faults.Range n) h = absurd h
scan_fault bytes (faults.Token n) h = absurd h

pub target_fault : (bytes : List ℕ) (marks : List Mark) (f : BodyFault) → AreMarks (code_of bytes) marks → IsTargetFault (pieces_of (code_of bytes) marks) f → IsOutlineFault bytes f
target_fault bytes marks (faults.Target n) m h = (pieces_of (code_of bytes) marks, m.cut, h)
target_fault bytes marks (faults.Opcode n) m h = absurd h
target_fault bytes marks (faults.Cut n) m h = absurd h
target_fault bytes marks faults.NoMemory m h = absurd h
target_fault bytes marks faults.Header m h = absurd h
target_fault bytes marks (faults.Far n) m h = absurd h
target_fault bytes marks (faults.Range n) m h = absurd h
target_fault bytes marks (faults.Token n) m h = absurd h

pub code_good : (bytes : List ℕ) (marks : List Mark) → AreMarks (code_of bytes) marks → HaveTargets (pieces_of (code_of bytes) marks) (length marks) → IsCode bytes (pieces_of (code_of bytes) marks)
code_good bytes marks m t = record {
  cut = m.cut;
  targets = subst (HaveTargets (pieces_of (code_of bytes) marks)) (sym (count_is (code_of bytes) marks)) t;
}

pub range_fault : (bytes : List ℕ) (marks : List Mark) (f : BodyFault) → AreMarks (code_of bytes) marks → HaveTargets (pieces_of (code_of bytes) marks) (length marks)
    → IsRangeFault bytes (pieces_of (code_of bytes) marks) f → IsOutlineFault bytes f
range_fault bytes marks (faults.Range n) m t h = (pieces_of (code_of bytes) marks, code_good bytes marks m t, h)
range_fault bytes marks faults.NoMemory m t h = tt
range_fault bytes marks (faults.Target n) m t h = absurd h
range_fault bytes marks (faults.Opcode n) m t h = absurd h
range_fault bytes marks (faults.Cut n) m t h = absurd h
range_fault bytes marks faults.Header m t h = absurd h
range_fault bytes marks (faults.Far n) m t h = absurd h
range_fault bytes marks (faults.Token n) m t h = absurd h

pub outline_of : (bytes : List ℕ) (o : Outline) → HasOutline bytes o → IsOutline bytes (pieces_of (code_of bytes) o.marks)
outline_of bytes o h = record {
  code = code_good bytes o.marks h.layout.marked h.targets;
  clauses = read_clauses_are bytes (pieces_of (code_of bytes) o.marks) o.clauses h.clauses;
}

-- ---- with names

pub known_of : (names : NameMap) (bytes : List ℕ) (h : Header) (types : List SigType) → IsHeader bytes h → SpellsLocals (reading names) h.locals types → IsKnown names bytes
known_of names bytes h types i l = record { header = i.header; types = types; locals = subst (λ t. SpellsLocals (reading names) t types) i.locals l }

pub locals_fault : (names : NameMap) (bytes : List ℕ) (h : Header) (f : BodyFault) → IsHeader bytes h → IsLocalsFault names h.locals f → IsFault names bytes f
locals_fault names bytes h faults.Header i l = λ k. l k.types (subst (λ t. SpellsLocals (reading names) t k.types) (sym i.locals) k.locals)
locals_fault names bytes h faults.NoMemory i l = tt
locals_fault names bytes h (faults.Opcode n) i l = absurd l
locals_fault names bytes h (faults.Cut n) i l = absurd l
locals_fault names bytes h (faults.Target n) i l = absurd l
locals_fault names bytes h (faults.Range n) i l = absurd l
locals_fault names bytes h (faults.Token n) i l = absurd l
locals_fault names bytes h (faults.Far n) i l = absurd l

pub outline_fault : (names : NameMap) (bytes : List ℕ) (f : BodyFault) → IsKnown names bytes → IsOutlineFault bytes f → IsFault names bytes f
outline_fault names bytes faults.Header k o = absurd o
outline_fault names bytes (faults.Opcode n) k o = (k, o)
outline_fault names bytes (faults.Cut n) k o = (k, o)
outline_fault names bytes (faults.Target n) k o = (k, o)
outline_fault names bytes (faults.Range n) k o = (k, o)
outline_fault names bytes (faults.Token n) k o = absurd o
outline_fault names bytes (faults.Far n) k o = absurd o
outline_fault names bytes faults.NoMemory k o = tt

pub outline_fault_of_all : (bytes : List ℕ) (f : BodyFault) → HasHeader bytes → IsOutlineFault bytes f → IsFaultOfAll bytes f
outline_fault_of_all bytes faults.Header k o = absurd o
outline_fault_of_all bytes (faults.Opcode n) k o = (k, o)
outline_fault_of_all bytes (faults.Cut n) k o = (k, o)
outline_fault_of_all bytes (faults.Target n) k o = (k, o)
outline_fault_of_all bytes (faults.Range n) k o = (k, o)
outline_fault_of_all bytes (faults.Token n) k o = absurd o
outline_fault_of_all bytes (faults.Far n) k o = absurd o
outline_fault_of_all bytes faults.NoMemory k o = tt

pub name_fault : (names : NameMap) (bytes : List ℕ) (ps : List Piece) (f : BodyFault) → IsKnown names bytes → IsOutline bytes ps → IsNameFault names ps f → IsFault names bytes f
name_fault names bytes ps (faults.Token n) k o h = (k, (ps, o, inl h))
name_fault names bytes ps faults.NoMemory k o h = tt
name_fault names bytes ps faults.Header k o h = absurd h
name_fault names bytes ps (faults.Opcode n) k o h = absurd h
name_fault names bytes ps (faults.Cut n) k o h = absurd h
name_fault names bytes ps (faults.Target n) k o h = absurd h
name_fault names bytes ps (faults.Range n) k o h = absurd h
name_fault names bytes ps (faults.Far n) k o h = absurd h

pub catch_fault : (names : NameMap) (bytes : List ℕ) (ps : List Piece) (code : List Ins) (any : Ins) (f : BodyFault) → IsKnown names bytes → IsOutline bytes ps → SpellsEach (reading names) ps code
    → IsCatchFault names (clause_rows bytes) f → IsFault names bytes f
catch_fault names bytes ps code any (faults.Token n) k o s h = (k, (ps, o, inr (code_names names ps code any s, h)))
catch_fault names bytes ps code any faults.NoMemory k o s h = tt
catch_fault names bytes ps code any faults.Header k o s h = absurd h
catch_fault names bytes ps code any (faults.Opcode n) k o s h = absurd h
catch_fault names bytes ps code any (faults.Cut n) k o s h = absurd h
catch_fault names bytes ps code any (faults.Target n) k o s h = absurd h
catch_fault names bytes ps code any (faults.Range n) k o s h = absurd h
catch_fault names bytes ps code any (faults.Far n) k o s h = absurd h

pub spelled_body : (names : NameMap) (bytes : List ℕ) (h : Header) (o : Outline) (locals : List SigType) (code : List Ins) (clauses : List Clause) → IsHeader bytes h → HasOutline bytes o
    → SpellsLocals (reading names) h.locals locals → SpellsEach (reading names) (pieces_of (code_of bytes) o.marks) code
    → SpellsClauses (reading names) (pieces_of (code_of bytes) o.marks) (rows_of o.clauses.found) clauses
    → Spells (reading names) bytes (record { bound = h.bound; init = h.init; locals = locals; code = code; clauses = clauses }) o.clauses.end
spelled_body names bytes h o locals code clauses i w l c s = record {
  header = i.header;
  bound = i.bound;
  init = i.init;
  locals = subst (λ t. SpellsLocals (reading names) t locals) i.locals l;
  pieces = pieces_of (code_of bytes) o.marks;
  code = record { cut = w.layout.marked.cut; each = c };
  read = w.clauses.read;
  clauses = subst (λ rows. SpellsClauses (reading names) (pieces_of (code_of bytes) o.marks) rows clauses) (sym w.clauses.rows) s;
  ends = sym w.clauses.ends;
}

-- ---- the same where the code and the marks go by other names

pub scan_by : (bytes code : List ℕ) (f : BodyFault) → code ≡ code_of bytes → IsScanFault code f → IsOutlineFault bytes f
scan_by bytes code f e h = scan_fault bytes f (subst (λ x. IsScanFault x f) e h)

pub target_by : (bytes code : List ℕ) (marks same : List Mark) (f : BodyFault) → code ≡ code_of bytes → same ≡ marks → AreMarks code marks → IsTargetFault (pieces_of code same) f
    → IsOutlineFault bytes f
target_by bytes code marks same f e m a h =
    target_fault bytes marks f (subst (λ x. AreMarks x marks) e a) (subst (λ x. IsTargetFault (pieces_of x marks) f) e (subst (λ y. IsTargetFault (pieces_of code y) f) m h))

pub range_by : (bytes code : List ℕ) (marks same : List Mark) (f : BodyFault) → code ≡ code_of bytes → same ≡ marks → AreMarks code marks → HaveTargets (pieces_of code same) (length same)
    → IsRangeFault bytes (pieces_of code same) f → IsOutlineFault bytes f
range_by bytes code marks same f e m a t h =
    range_fault bytes marks f (subst (λ x. AreMarks x marks) e a)
    (subst (λ x. HaveTargets (pieces_of x marks) (length marks)) e (subst (λ y. HaveTargets (pieces_of code y) (length y)) m t))
    (subst (λ x. IsRangeFault bytes (pieces_of x marks) f) e (subst (λ y. IsRangeFault bytes (pieces_of code y) f) m h))

pub outline_by : (bytes code : List ℕ) (marks same : List Mark) (starts : List ℕ) (clauses : Clauses) → code ≡ code_of bytes → same ≡ marks → AreMarks code marks
    → AreStarts code same starts → HaveTargets (pieces_of code same) (length same) → HasRead bytes (pieces_of code same) clauses
    → HasOutline bytes (record { marks = marks; starts = starts; clauses = clauses })
outline_by bytes code marks same starts clauses e m a s t h = record {
  layout = record {
    marked = subst (λ x. AreMarks x marks) e a;
    started = subst (λ x. AreStarts x marks starts) e (subst (λ y. AreStarts code y starts) m s);
  };
  targets = subst (λ x. HaveTargets (pieces_of x marks) (length marks)) e (subst (λ y. HaveTargets (pieces_of code y) (length y)) m t);
  clauses = subst (λ x. HasRead bytes (pieces_of x marks) clauses) e (subst (λ y. HasRead bytes (pieces_of code y) clauses) m h);
}

pub layout_by : (bytes code : List ℕ) (o : Outline) (same : List Mark) (starts : List ℕ) → code ≡ code_of bytes → same ≡ o.marks → starts ≡ o.starts → HasOutline bytes o
    → IsLayout code same starts
layout_by bytes code o same starts e m s h =
    subst (λ x. IsLayout x same starts) (sym e) (subst (λ y. IsLayout (code_of bytes) y starts) (sym m) (subst (λ z. IsLayout (code_of bytes) o.marks z) (sym s) h.layout))

pub targets_by : (bytes code : List ℕ) (o : Outline) (same : List Mark) → code ≡ code_of bytes → same ≡ o.marks → HasOutline bytes o → HaveTargets (pieces_of code same) (length same)
targets_by bytes code o same e m h =
    subst (λ x. HaveTargets (pieces_of x same) (length same)) (sym e) (subst (λ y. HaveTargets (pieces_of (code_of bytes) y) (length y)) (sym m) h.targets)

pub name_by : (names : NameMap) (bytes code : List ℕ) (o : Outline) (same : List Mark) (f : BodyFault) → IsKnown names bytes → HasOutline bytes o → code ≡ code_of bytes → same ≡ o.marks
    → IsNameFault names (pieces_of code same) f → IsFault names bytes f
name_by names bytes code o same f k h e m n =
    name_fault names bytes (pieces_of (code_of bytes) o.marks) f k (outline_of bytes o h)
    (subst (λ x. IsNameFault names (pieces_of x o.marks) f) e (subst (λ y. IsNameFault names (pieces_of code y) f) m n))

each_by : (names : NameMap) (bytes code : List ℕ) (o : Outline) (same : List Mark) (ins : List Ins) → code ≡ code_of bytes → same ≡ o.marks
    → SpellsEach (reading names) (pieces_of code same) ins → SpellsEach (reading names) (pieces_of (code_of bytes) o.marks) ins
each_by names bytes code o same ins e m h =
    subst (λ x. SpellsEach (reading names) (pieces_of x o.marks) ins) e (subst (λ y. SpellsEach (reading names) (pieces_of code y) ins) m h)

pub catch_by : (names : NameMap) (bytes code : List ℕ) (o : Outline) (same : List Mark) (ins : List Ins) (found : List Found) (any : Ins) (f : BodyFault) → IsKnown names bytes
    → HasOutline bytes o → code ≡ code_of bytes → same ≡ o.marks → found ≡ o.clauses.found → SpellsEach (reading names) (pieces_of code same) ins
    → IsCatchFault names (rows_of found) f → IsFault names bytes f
catch_by names bytes code o same ins found any f k h e m g s c =
    catch_fault names bytes (pieces_of (code_of bytes) o.marks) ins any f k (outline_of bytes o h) (each_by names bytes code o same ins e m s)
    (subst (λ rows. IsCatchFault names rows f) (ap rows_of g ∙ sym h.clauses.rows) c)

pub body_by : (names : NameMap) (bytes code : List ℕ) (h : Header) (o : Outline) (same : List Mark) (found : List Found) (locals : List SigType) (ins : List Ins) (clauses : List Clause)
    → IsHeader bytes h → HasOutline bytes o → code ≡ code_of bytes → same ≡ o.marks → found ≡ o.clauses.found → SpellsLocals (reading names) h.locals locals
    → SpellsEach (reading names) (pieces_of code same) ins
    → ((ps : List Piece) → All (IsFound ps) found → SpellsClauses (reading names) ps (rows_of found) clauses)
    → Spells (reading names) bytes (record { bound = h.bound; init = h.init; locals = locals; code = ins; clauses = clauses }) o.clauses.end
body_by names bytes code h o same found locals ins clauses i w e m g l s c =
    let ps = pieces_of (code_of bytes) o.marks in
    let all = subst (λ fs. All (IsFound ps) fs) (sym g) w.clauses.each in
    spelled_body names bytes h o locals ins clauses i w l (each_by names bytes code o same ins e m s)
    (subst (λ fs. SpellsClauses (reading names) ps (rows_of fs) clauses) g (c ps all))

pub named_by : (bytes code : List ℕ) (h : Header) (o : Outline) (same : List Mark) (found : List Found) (first more tokens : List ℕ) → IsHeader bytes h → HasOutline bytes o
    → code ≡ code_of bytes → same ≡ o.marks → found ≡ o.clauses.found → first ≡ locals_in h.locals → more ≡ first ++ filter_map token_in (pieces_of code same)
    → tokens ≡ more ++ filter_map caught_in (rows_of found) → AreNamed bytes tokens
named_by bytes code h o same found first more tokens i w e m g a b c = record {
  header = i.header;
  pieces = pieces_of (code_of bytes) o.marks;
  outline = outline_of bytes o w;
  all =
      c ∙ (ap (λ xs. xs ++ filter_map caught_in (rows_of found)) b
      ∙ (append_assoc first (filter_map token_in (pieces_of code same)) (filter_map caught_in (rows_of found))
      ∙ (ap (λ xs. xs ++ (filter_map token_in (pieces_of code same) ++ filter_map caught_in (rows_of found))) (a ∙ ap locals_in i.locals)
      ∙ (ap (λ x. locals_in (locals_token bytes) ++ (filter_map token_in (pieces_of x same) ++ filter_map caught_in (rows_of found))) e
      ∙ (ap (λ y. locals_in (locals_token bytes) ++ (filter_map token_in (pieces_of (code_of bytes) y) ++ filter_map caught_in (rows_of found))) m
      ∙ ap (λ rows. locals_in (locals_token bytes) ++ (filter_map token_in (pieces_of (code_of bytes) o.marks) ++ filter_map caught_in rows)) (ap rows_of g ∙ sym w.clauses.rows))))));
}
