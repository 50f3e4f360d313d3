-- What is left to do falls as instructions are looked at.
use Rattle.std.proofs.Common.{◌≡◌, ◌≢◌, refl, sym, ◌∙◌, ap, subst, ℕ, ◌+◌, ◌*◌, ◌<◌, ◌≤◌, arith, List, length}
use Rattle.std.specs.List.{sum_by}
use Rattle.type_terms.specs.declared.term.SigType.{SigType}
use Rattle.type_hierarchy.specs.Hierarchy.{Hierarchy}
use Rattle.type_hierarchy.specs.Laws.{IsGrounded}
use Rattle.stack_states.specs.Meetings.{IsNewMeeting}
use Rattle.body_verifier.specs.Potential.{IsLow, changes, total, potential}
use Rattle.code_flow.specs.Typings.{State, Typing}
use Rattle.stack_states.specs.Waiting.{Waiting, pushed}
use Rattle.body_verifier.specs.Ways.{Setup, IsSetUp, HasNoMore, HasLessAt}
use Rattle.body_verifier.proofs.Following.{IsChanged}
use Rattle.body_verifier.proofs.Ranks.{changes_fall}
use Rattle.body_verifier.proofs.Totals.{products_fall, sum_pushed}

-- where no stack is deeper than `depth`
pub changed_less : (w : Hierarchy) (at : Setup) (depth : ℕ) (typing later : Typing) (list : Waiting) (t : ℕ) (y z : State) → IsSetUp w at → t < length at.frame.code
    → IsChanged typing later t z → IsNewMeeting w (typing t) y z → IsLow depth z → HasLessAt depth at typing list.numbers later (pushed list t).numbers
changed_less w at depth typing later list t y z s into c m low cost =
    let n = length at.frame.code in
    let v : ℕ → ℕ = λ (k : ℕ). changes at.height at.top depth (typing k) in
    let u : ℕ → ℕ = λ (k : ℕ). changes at.height at.top depth (later k) in
    let there : u t ≡ changes at.height at.top depth z = ap (changes at.height at.top depth) c.at in
    let less : changes at.height at.top depth z < v t = changes_fall w at.height s.grounded at.top s.low depth (typing t) z m.meets.left m.other low in
    let sum = products_fall v u cost n t into (omega arith) (λ k ne. ap (changes at.height at.top depth) (c.elsewhere k ne)) in
    let wait = sum_pushed cost list t in
    omega arith

pub changed_budget : (w : Hierarchy) (at : Setup) (typing later : Typing) (list : Waiting) (t : ℕ) (y z : State) → IsSetUp w at → t < length at.frame.code
    → IsChanged typing later t z → IsNewMeeting w (typing t) y z → IsLow (length at.frame.code + 1) z → HasNoMore at typing list.numbers later (pushed list t).numbers
changed_budget w at typing later list t y z s into c m low = changed_less w at (length at.frame.code + 1) typing later list t y z s into c m low

pub less_then : (at : Setup) (depth : ℕ) (a b c : Typing) (xs ys zs : List ℕ) → HasLessAt depth at a xs b ys → HasLessAt depth at b ys c zs → HasLessAt depth at a xs c zs
less_then at depth a b c xs ys zs h i cost = let p = h cost in let q = i cost in omega arith

pub no_more_then : (at : Setup) (a b c : Typing) (xs ys zs : List ℕ) → HasNoMore at a xs b ys → HasNoMore at b ys c zs → HasNoMore at a xs c zs
no_more_then at a b c xs ys zs h i cost = let p = h cost in let q = i cost in omega arith
