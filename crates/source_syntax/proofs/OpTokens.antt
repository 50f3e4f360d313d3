-- Each instruction has a token: a mnemonic.
use Rattle.std.proofs.Common.{◌≡◌, ℕ, zero, suc, ◌+◌, ◌<◌, List, [], ◌∷◌, length, Option, None, Some, refl, ap, sym, subst, ◌∙◌, arith, length-append, slice_get}
use Rattle.std.specs.Prelude.{Bool, true, false, not, ◌==◌, ◌||◌, ◌&&◌, option_map}
use Rattle.std.specs.List.{AllByRecursion}
use Rattle.std.proofs.lemmas.Bool.Decides.{Decides-eqb}
use Rattle.ilasm_grammar.specs.Grammar.{Rule, rule_of}
use Rattle.ilasm_grammar.specs.Ilasm.{ilasm, rule_by, body_by}
use Rattle.ilasm_grammar.specs.declared.nonterminals.TheConstants as n
use Rattle.ilasm_grammar.specs.declared.symbol.Symbol.{Symbol}
use Rattle.ilasm_grammar.specs.declared.symbol.Symbol.TheVariants.{Terminal, Nonterminal}
use Rattle.source_model.specs.Forest.{Forest, none, leaf, branch, Part, is_among, tokens_of}
use Rattle.source_model.specs.Instructions.{instruction_forms, instructions_of}
use Rattle.source_model.specs.Source.{Source}
use Rattle.source_nodes.specs.Derived.{head_of, Fits, FitsRule, FitsBody, HasBodies}
use Rattle.source_syntax.proofs.LabelTokens.{IsFit, parts_fit}
use Rattle.source_syntax.proofs.OrderLemmas.{HasTokens}
use Rattle.source_nodes.proofs.WrittenNames.{both_true, other_true}

-- ---- bodies that begin with a token, and the nonterminals that have only such

abbrev begins : List Symbol → Bool
begins [] = false
begins (Terminal x ∷ more) = true
begins (Nonterminal x ∷ more) = false

-- the nonterminals of mnemonics
abbrev is_op : ℕ → Bool
is_op h =
    is_among
    (n.OP_NONE ∷ n.OP_VAR ∷ n.OP_NUM ∷ n.OP_REAL ∷ n.OP_BRANCH ∷ n.OP_METHOD ∷ n.OP_FIELD ∷ n.OP_TYPE ∷ []) h

abbrev begins_op : List Symbol → Bool
begins_op [] = false
begins_op (Terminal x ∷ more) = true
begins_op (Nonterminal h ∷ more) = is_op h

-- from this place on the bodies of those begin with a token
abbrev ops_begin : List ℕ → List Symbol → ℕ → List ℕ → Bool
ops_begin starts bodies at [] = true
ops_begin starts bodies at (h ∷ hs) = (not (is_op h) || begins (body_by starts bodies at)) && ops_begin starts bodies (1 + at) hs

op_begins : (starts : List ℕ) (bodies : List Symbol) (at : ℕ) (hs : List ℕ) → ops_begin starts bodies at hs ≡ true → (q h : ℕ) → slice_get hs q ≡ Some h
    → is_op h ≡ true → begins (body_by starts bodies (at + q)) ≡ true
op_begins starts bodies at [] e q h got op = absurd cc
op_begins starts bodies at (g ∷ gs) e zero h got op =
    let same : g ≡ h = cc in
    let here : at ≡ at + 0 = omega arith in
    let both = both_true (not (is_op g) || begins (body_by starts bodies at)) (ops_begin starts bodies (1 + at) gs) e in
    subst (λ k. begins (body_by starts bodies k) ≡ true) here
    (other_true (is_op g) (begins (body_by starts bodies at)) both.0 (ap is_op same ∙ op))
op_begins starts bodies at (g ∷ gs) e (suc q) h got op =
    let next : 1 + at + q ≡ at + suc q = omega arith in
    let both = both_true (not (is_op g) || begins (body_by starts bodies at)) (ops_begin starts bodies (1 + at) gs) e in
    subst (λ k. begins (body_by starts bodies k) ≡ true) next (op_begins starts bodies (1 + at) gs both.1 q h got op)

begins_in : (heads starts : List ℕ) (bodies : List Symbol) (p h : ℕ) → ops_begin starts bodies 0 heads ≡ true
    → option_map (λ (r : Rule). r.head) (rule_by heads starts bodies p) ≡ Some h → is_op h ≡ true → (r : Rule) → rule_by heads starts bodies p ≡ Some r → begins r.body ≡ true
unfolding rule_by
begins_in heads starts bodies p h test e op r is = go (slice_get heads p) refl e is
  where
    go : (o : Option ℕ) → slice_get heads p ≡ o → option_map (λ (x : Rule). x.head) (option_map (λ (k : ℕ). rule_of k (body_by starts bodies p)) o) ≡ Some h
        → option_map (λ (k : ℕ). rule_of k (body_by starts bodies p)) o ≡ Some r → begins r.body ≡ true
    go None got e is = absurd cc
    go (Some k) got e is =
        let same : k ≡ h = cc in
        let body : body_by starts bodies p ≡ r.body = cc in
        let start : 0 + p ≡ p = omega arith in
        ap begins (sym body) ∙ ap (λ q. begins (body_by starts bodies q)) (sym start)
        ∙ op_begins starts bodies 0 heads test p h (got ∙ ap Some same) op

mnemonic_begins : (p h : ℕ) → head_of p ≡ Some h → is_op h ≡ true → (r : Rule) → ilasm p ≡ Some r → begins r.body ≡ true
unfolding ilasm
mnemonic_begins p h e op r is = begins_in _ _ _ p h refl e op r is

begun : (s : Source) (body : List Symbol) (f : Forest) → begins body ≡ true → Fits s body f → 0 < length (tokens_of f)
begun s [] f e h = absurd cc
begun s (Nonterminal x ∷ more) f e h = absurd cc
begun s (Terminal x ∷ more) none e h = absurd h
begun s (Terminal x ∷ more) (leaf k a) e h = omega arith
begun s (Terminal x ∷ more) (branch p b a) e h = absurd h

-- below a mnemonic stands a token
mnemonic_has : (s : Source) (p h : ℕ) (b : Forest) → head_of p ≡ Some h → is_op h ≡ true → FitsBody s p b → 0 < length (tokens_of b)
mnemonic_has s p h b e op fits = go (ilasm p) refl fits
  where
    go : (o : Option Rule) → ilasm p ≡ o → FitsRule s o b → 0 < length (tokens_of b)
    go None is fit = absurd fit
    go (Some r) is fit = begun s r.body b (mnemonic_begins p h e op r is) fit

-- below a body that begins with a token or a mnemonic stands a token
op_begun : (s : Source) (body : List Symbol) (f : Forest) → begins_op body ≡ true → Fits s body f → HasBodies s f → 0 < length (tokens_of f)
op_begun s [] f e h bodies = absurd cc
op_begun s (Terminal x ∷ more) none e h bodies = absurd h
op_begun s (Terminal x ∷ more) (leaf k a) e h bodies = omega arith
op_begun s (Terminal x ∷ more) (branch p b a) e h bodies = absurd h
op_begun s (Nonterminal x ∷ more) none e h bodies = absurd h
op_begun s (Nonterminal x ∷ more) (leaf k a) e h bodies = absurd h
op_begun s (Nonterminal x ∷ more) (branch p b a) e h bodies =
    let some = mnemonic_has s p x b h.0 e bodies.0 in
    omega (arith, some, length-append (tokens_of b) (tokens_of a))

-- ---- instructions

-- the bodies of these productions begin so
abbrev forms_begin : List (Option Rule) → Bool
forms_begin [] = true
forms_begin (None ∷ rs) = false
forms_begin (Some r ∷ rs) = begins_op r.body && forms_begin rs

abbrev rules_of : List ℕ → List (Option Rule)
rules_of [] = []
rules_of (p ∷ ps) = ilasm p ∷ rules_of ps

forms_do : forms_begin (rules_of instruction_forms) ≡ true
unfolding ilasm rule_by
forms_do = refl

later_forms : (o : Option Rule) (rs : List (Option Rule)) → forms_begin (o ∷ rs) ≡ true → forms_begin rs ≡ true
later_forms None rs t = absurd cc
later_forms (Some r) rs t = (both_true (begins_op r.body) (forms_begin rs) t).1

form_begins : (s : Source) (ps : List ℕ) (q : ℕ) → forms_begin (rules_of ps) ≡ true → is_among ps q ≡ true → (f : Forest) → FitsBody s q f → HasBodies s f
    → 0 < length (tokens_of f)
form_begins s [] q test among f fits bodies = absurd cc
form_begins s (p ∷ ps) q test among f fits bodies = go (p == q) refl among (λ a. form_begins s ps q (later_forms (ilasm p) (rules_of ps) test) a f fits bodies)
  where
    found : (o : Option Rule) → FitsRule s o f → forms_begin (o ∷ rules_of ps) ≡ true → 0 < length (tokens_of f)
    found None fit t = absurd fit
    found (Some r) fit t = op_begun s r.body f (both_true (begins_op r.body) (forms_begin (rules_of ps)) t).0 fit bodies

    go : (c : Bool) → (p == q) ≡ c → (c || is_among ps q) ≡ true → (is_among ps q ≡ true → 0 < length (tokens_of f)) → 0 < length (tokens_of f)
    go true same a later = found (ilasm p) (subst (λ k. FitsBody s k f) (sym ((Decides-eqb p q).0 same)) fits) test
    go false apart a later = later a

pub instructions_have_tokens : (s : Source) (f : Forest) → HasBodies s f → AllByRecursion HasTokens (instructions_of f)
instructions_have_tokens s f h = all (instructions_of f) (parts_fit s instruction_forms f h)
  where
    all : (ps : List Part) → AllByRecursion (IsFit s instruction_forms) ps → AllByRecursion HasTokens ps
    all [] fits = tt
    all (p ∷ ps) fits = (form_begins s instruction_forms p.production forms_do fits.0.among p.below fits.0.fits fits.0.bodies, all ps fits.1)
