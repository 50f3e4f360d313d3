-- Where a production can't stand: what grows from symbols holds none of those that are sought.
use Rattle.std.proofs.Common.{◌≡◌, inl, inr, ℕ, zero, suc, ◌+◌, ◌&&◌, ◌||◌, not, nat_eq, Bool, true, false, if◌then◌else◌, bit_or, List, [], ◌∷◌, ◌++◌, take, drop, Option, None, Some, refl, ap, sym, subst, ◌∙◌, arith}
use Rattle.std.proofs.lemmas.Bool.{and_parts, cases_Bool, eqb-true, false≢true}
use Rattle.std.proofs.lemmas.Nat.Bits.{bit_at_or, bit_at-lt}
use Rattle.std.specs.Int.{bit_at}
use Rattle.std.specs.Prelude.{option_map, ⊤}
use Rattle.ilasm_grammar.specs.Grammar.{Rule}
use Rattle.ilasm_grammar.specs.Ilasm.{ilasm, body_at, has_bit, picked}
use Rattle.ilasm_grammar.specs.declared.symbol.Symbol.{Symbol}
use Rattle.ilasm_grammar.specs.declared.symbol.Symbol.TheVariants.{Terminal, Nonterminal}
use Rattle.ilasm_grammar.proofs.IlasmFacts.{ilasm_table}
use Rattle.ilasm_grammar.proofs.TableCheck.{ilasm_tables, ilasm_checked}
use Rattle.ilasm_grammar.proofs.TableFacts.{at_rule}
use Rattle.ilasm_grammar.proofs.Tables.{all_below}
use Rattle.source_model.specs.Forest as f
use Rattle.listing_model.specs.Grown.{head_of, body_in, body_of, Grows}
use Rattle.listing_model.specs.Shown.{Shown, size}
use Rattle.listing_model.specs.Shown.{Shown as s}
use Rattle.listing_reading.specs.Below.{below, is_no_head, are_apart_from, cant_stand, is_other_head, heads_differ, cant_lead}
use Rattle.listing_reading.specs.BelowMasks.{below_masks}
use Rattle.listing_reading.specs.Laws.{SearchesPass}
use Rattle.listing_reading.specs.Numbered.{numbered, rest, place}

-- ---- the sets are closed

abbrev is_subset : ℕ → ℕ → Bool
is_subset a b = nat_eq (bit_or a b) b

abbrev all_within : ℕ → List Symbol → Bool
all_within mask [] = true
all_within mask (Terminal t ∷ more) = all_within mask more
all_within mask (Nonterminal n ∷ more) = is_subset (below n) mask && all_within mask more

abbrev is_closed : ℕ → Bool
is_closed p = has_bit (below (ilasm_tables.head p)) (ilasm_tables.head p) && all_within (below (ilasm_tables.head p)) (ilasm_tables.body p)

closed : all_below is_closed ilasm_tables.productions ≡ true
unfolding ilasm_tables body_at has_bit below below_masks
closed = refl

closed_by : (p n : ℕ) (o : Option Rule) → ilasm p ≡ o → option_map (λ (r : Rule). r.head) o ≡ Some n →
    (has_bit (below n) n ≡ true) × (all_within (below n) (body_in o) ≡ true)
closed_by p n None e h = absurd cc
closed_by p n (Some r) e h =
    let same : r.head ≡ n = cc in
    let t = and_parts _ _ (at_rule ilasm_tables ilasm_checked ilasm picked ilasm_table is_closed closed e) in
    let head : ilasm_tables.head p ≡ n = ap (λ (y : Rule). y.head) (ilasm_table.rules e).1 ∙ same in
    let body : ilasm_tables.body p ≡ r.body = ap (λ (y : Rule). y.body) (ilasm_table.rules e).1 in (
      ap (λ k. has_bit (below k) k) (sym head) ∙ t.0,
      (ap (λ k. all_within (below k) r.body) (sym head) ∙ ap (all_within (below (ilasm_tables.head p))) (sym body)) ∙ t.1,
    )

closed_at : (p n : ℕ) → head_of p ≡ Some n → (has_bit (below n) n ≡ true) × (all_within (below n) (body_of p) ≡ true)
closed_at p n h = closed_by p n (ilasm p) refl h

-- ---- sets

larger : (a b i : ℕ) → nat_eq (bit_or a b) b ≡ true → has_bit a i ≡ true → has_bit b i ≡ true
unfolding has_bit
larger a b i e h =
    let joined = ap (λ k. bit_at k i) (eqb-true (bit_or a b) b e) in
    let most = bit_at_or a b i in
    let one = eqb-true (bit_at a i) 1 h in
    let low = bit_at-lt b i in
    let is : bit_at b i ≡ 1 = omega arith in
    subst (λ k. nat_eq k 1 ≡ true) (sym is) refl

none_in : (a b i : ℕ) → nat_eq (bit_or a b) b ≡ true → not (has_bit b i) ≡ true → not (has_bit a i) ≡ true
none_in a b i e h = elim (cases_Bool (has_bit a i)) [
  | inl in_it ↦ absurd (false≢true (sym (ap not (larger a b i e in_it)) ∙ h))
  | inr out ↦ ap not out
]

head_outside : (a b : ℕ) (o : Option ℕ) → nat_eq (bit_or a b) b ≡ true → is_no_head b o ≡ true → is_no_head a o ≡ true
head_outside a b None e h = refl
head_outside a b (Some n) e h = none_in a b n e h

both : (x y : Bool) → x ≡ true → y ≡ true → (x && y) ≡ true
both true y h k = k
both false y h k = h

apart_within : (a b : ℕ) (sought : List ℕ) → nat_eq (bit_or a b) b ≡ true → are_apart_from b sought ≡ true → are_apart_from a sought ≡ true
apart_within a b [] e h = refl
apart_within a b (q ∷ qs) e h =
    let hs = and_parts (is_no_head b (head_of q)) (are_apart_from b qs) h in
    both _ _ (head_outside a b (head_of q) e hs.0) (apart_within a b qs e hs.1)

body_apart : (mask : ℕ) (sought : List ℕ) (symbols : List Symbol) → all_within mask symbols ≡ true → are_apart_from mask sought ≡ true →
    cant_stand sought symbols ≡ true
body_apart mask sought [] w h = refl
body_apart mask sought (Terminal t ∷ more) w h = body_apart mask sought more w h
body_apart mask sought (Nonterminal n ∷ more) w h =
    let ws = and_parts (is_subset (below n) mask) (all_within mask more) w in
    both _ _ (apart_within (below n) mask sought ws.0 h) (body_apart mask sought more ws.1 h)

-- a production of a nonterminal is none of those that are sought
not_sought : (p n : ℕ) (test : Option ℕ → Bool) → test (Some n) ≡ false → head_of p ≡ Some n → (q : ℕ) → test (head_of q) ≡ true → nat_eq q p ≡ false
not_sought p n test out h q t = elim (cases_Bool (nat_eq q p)) [
  | inl e ↦ absurd (false≢true (sym (ap test (ap head_of (eqb-true q p e) ∙ h) ∙ out) ∙ t))
  | inr e ↦ e
]

none_among : (p n mask : ℕ) → has_bit mask n ≡ true → head_of p ≡ Some n → (sought : List ℕ) → are_apart_from mask sought ≡ true → f.is_among sought p ≡ false
none_among p n mask bit h [] a = refl
none_among p n mask bit h (q ∷ qs) a =
    let ns = and_parts (is_no_head mask (head_of q)) (are_apart_from mask qs) a in
    ap (λ (c : Bool). c || f.is_among qs p) (not_sought p n (is_no_head mask) (ap not bit) h q ns.0) ∙ none_among p n mask bit h qs ns.1

none_leads : (p n : ℕ) → head_of p ≡ Some n → (sought : List ℕ) → heads_differ n sought ≡ true → f.is_among sought p ≡ false
none_leads p n h [] a = refl
none_leads p n h (q ∷ qs) a =
    let ns = and_parts (is_other_head n (head_of q)) (heads_differ n qs) a in
    let self : nat_eq n n ≡ true = grind arith in
    ap (λ (c : Bool). c || f.is_among qs p) (not_sought p n (is_other_head n) (ap not self) h q ns.0) ∙ none_leads p n h qs ns.1

-- ---- what holds none

-- none of these productions stands in a forest
abbrev pub Lacks : List ℕ → f.Forest → Type 0
Lacks sought f.none = ⊤
Lacks sought (f.leaf k after) = Lacks sought after
Lacks sought (f.branch p below after) = (f.is_among sought p ≡ false) × Lacks sought below × Lacks sought after

pub lacks : (sought : List ℕ) (symbols : List Symbol) → cant_stand sought symbols ≡ true → (g : Shown) → Grows symbols g → (at : ℕ) → Lacks sought (numbered at g)
lacks sought symbols e s.none h at = tt
lacks sought [] e (s.leaf l a) h at = absurd h
lacks sought [] e (s.branch p b a) h at = absurd h
lacks sought (Terminal t ∷ more) e (s.leaf l a) h at = lacks sought more e a h.1 (suc at)
lacks sought (Terminal t ∷ more) e (s.branch p b a) h at = absurd h
lacks sought (Nonterminal n ∷ more) e (s.leaf l a) h at = absurd h
lacks sought (Nonterminal n ∷ more) e (s.branch p b a) h at =
    let es = and_parts (are_apart_from (below n) sought) (cant_stand sought more) e in
    let c = closed_at p n h.0 in
    (none_among p n (below n) c.0 h.0 sought es.0, lacks sought (body_of p) (body_apart (below n) sought (body_of p) c.1 es.0) b h.1 at, lacks sought more es.1 a h.2 (at + size b))

parts_past : (sought : List ℕ) (p : ℕ) (b a : f.Forest) → f.is_among sought p ≡ false → f.parts sought (f.branch p b a) ≡ f.parts sought b ++ f.parts sought a
parts_past sought p b a e = ap (λ (c : Bool). (if c then f.part p b ∷ [] else f.parts sought b) ++ f.parts sought a) e

pub no_parts : (sought : List ℕ) (g : f.Forest) → Lacks sought g → f.parts sought g ≡ []
no_parts sought f.none h = refl
no_parts sought (f.leaf k after) h = no_parts sought after h
no_parts sought (f.branch p b a) h =
    parts_past sought p b a h.0 ∙ (ap (λ ps. ps ++ f.parts sought a) (no_parts sought b h.1) ∙ no_parts sought a h.2)

nothing_there : (sought : List ℕ) (symbols : List Symbol) → cant_stand sought symbols ≡ true → (g : Shown) → Grows symbols g → (at : ℕ) →
    f.parts sought (numbered at g) ≡ []
nothing_there sought symbols e g h at = no_parts sought (numbered at g) (lacks sought symbols e g h at)

-- ---- past the first trees

find_past : (sought : List ℕ) (k : ℕ) (symbols : List Symbol) → cant_stand sought (take k symbols) ≡ true → (g : Shown) → Grows symbols g → (at : ℕ) →
    f.parts sought (numbered at g) ≡ f.parts sought (numbered (place k at g) (rest k g))
find_past sought zero symbols e g h at = refl
find_past sought (suc k) symbols e s.none h at = refl
find_past sought (suc k) [] e (s.leaf l a) h at = absurd h
find_past sought (suc k) [] e (s.branch p b a) h at = absurd h
find_past sought (suc k) (Terminal t ∷ more) e (s.leaf l a) h at = find_past sought k more e a h.1 (suc at)
find_past sought (suc k) (Terminal t ∷ more) e (s.branch p b a) h at = absurd h
find_past sought (suc k) (Nonterminal n ∷ more) e (s.leaf l a) h at = absurd h
find_past sought (suc k) (Nonterminal n ∷ more) e (s.branch p b a) h at =
    let es = and_parts (are_apart_from (below n) sought) (cant_stand sought (take k more)) e in
    let c = closed_at p n h.0 in
    parts_past sought p (numbered at b) (numbered (at + size b) a) (none_among p n (below n) c.0 h.0 sought es.0)
    ∙ (ap (λ ps. ps ++ f.parts sought (numbered (at + size b) a)) (nothing_there sought (body_of p) (body_apart (below n) sought (body_of p) c.1 es.0) b h.1 at)
    ∙ find_past sought k more es.1 a h.2 (at + size b))

child_past : (sought : List ℕ) (k : ℕ) (symbols : List Symbol) → cant_lead sought (take k symbols) ≡ true → (g : Shown) → Grows symbols g → (at : ℕ) →
    f.child sought (numbered at g) ≡ f.child sought (numbered (place k at g) (rest k g))
child_past sought zero symbols e g h at = refl
child_past sought (suc k) symbols e s.none h at = refl
child_past sought (suc k) [] e (s.leaf l a) h at = absurd h
child_past sought (suc k) [] e (s.branch p b a) h at = absurd h
child_past sought (suc k) (Terminal t ∷ more) e (s.leaf l a) h at = child_past sought k more e a h.1 (suc at)
child_past sought (suc k) (Terminal t ∷ more) e (s.branch p b a) h at = absurd h
child_past sought (suc k) (Nonterminal n ∷ more) e (s.leaf l a) h at = absurd h
child_past sought (suc k) (Nonterminal n ∷ more) e (s.branch p b a) h at =
    let es = and_parts (heads_differ n sought) (cant_lead sought (take k more)) e in
    ap (λ (c : Bool). if c then numbered at b else f.child sought (numbered (at + size b) a)) (none_leads p n h.0 sought es.0)
    ∙ child_past sought k more es.1 a h.2 (at + size b)

grows_rest : (k : ℕ) (symbols : List Symbol) (g : Shown) → Grows symbols g → Grows (drop k symbols) (rest k g)
grows_rest zero symbols g h = h
grows_rest (suc k) [] s.none h = tt
grows_rest (suc k) [] (s.leaf l a) h = absurd h
grows_rest (suc k) [] (s.branch p b a) h = absurd h
grows_rest (suc k) (Terminal t ∷ more) s.none h = absurd h
grows_rest (suc k) (Terminal t ∷ more) (s.leaf l a) h = grows_rest k more a h.1
grows_rest (suc k) (Terminal t ∷ more) (s.branch p b a) h = absurd h
grows_rest (suc k) (Nonterminal n ∷ more) s.none h = absurd h
grows_rest (suc k) (Nonterminal n ∷ more) (s.leaf l a) h = absurd h
grows_rest (suc k) (Nonterminal n ∷ more) (s.branch p b a) h = grows_rest k more a h.2

pub searches_pass : SearchesPass
searches_pass = record { nothing = nothing_there; parts = find_past; child = child_past; rest = grows_rest }
