-- The same question at another budget. One law has it all: a smaller budget's reply is the larger one's, where the smaller budget is no less than
-- that reply's units, else 6. So a reply that is not 6 stays at every larger budget, and there is one at most with enough budget and room.
use mathlib.Core.Path.{◌≡◌, refl, sym, ap, ◌∙◌}
use mathlib.Core.Logic.{◌↔◌, ◌≢◌}
use mathlib.Core.Bool.{Bool, true, false, ◌&&◌, ◌||◌}
use mathlib.Core.List.{List}
use Prim.Native.Nat.{ℕ, ◌+◌, ◌-◌, ◌≤◌, ◌<◌}
use native.Mathlib.Omega.{arith}
use native.Mathlib.Nat.{lt_of_not-le, le_refl}
use native.Mathlib.Decide.{dec_le}
use lib.ListN.{length}
use lib.Dec.{leb, ltb, eqb}
use mir.Facts.{yes_leb, no_leb}
use Rattle.definition.specs.Syntax.{pick}
use Rattle.definition.specs.Question.{Read, got, fault, Question, read_question}
use Rattle.definition.specs.Run.{Out, done, fail, stop, M, and_then, ◌>>=◌, give, refuse, charge}
use Rattle.definition.specs.Rules.{Result}
use Rattle.definition.specs.Reply.{Reply, refusal, most, reported, error_code, error_at, error_words, result_words, answer, out_reply, read_reply, reply}
use Rattle.laws.specs.OtherBudgets.{Allowed, Settled, at_budget, reply_with, WithEnough}
use Rattle.laws.specs.Count.{IsRun}
use Rattle.laws.proofs.Steps.{is_true, is_false, pick_true, pick_false, pick_has, charge_then}
use Rattle.laws.proofs.Budgets.{late, smaller, answer_steady}
use Rattle.laws.proofs.Tried.{from_three, allowed_reply, Tried, bad_budget, short_work, bad_length, is_read, tried, run_reply}

abbrev pub code_of : Reply → ℕ
code_of R = R.code

-- ## A reply at a budget

at_enough : (l : ℕ) (R : Reply) → R.units ≤ l → at_budget l R ≡ R
unfolding at_budget
at_enough l R h = pick_true _ _ (is_true (leb R.units l) (yes_leb h))

at_short : (l : ℕ) (R : Reply) → l < R.units → at_budget l R ≡ refusal 6 0 l
unfolding at_budget
at_short l R h = pick_false _ _ (is_false (leb R.units l) (no_leb h))

at_ended : (l : ℕ) (R : Reply) → (at_budget l R).code ≢ 6 → R.units ≤ l
unfolding refusal
at_ended l R h = elim (dec_le R.units l) [ yes i ↦ i | no i ↦ absurd (h (ap code_of (at_short l R (lt_of_not-le i)))) ]

-- ## Replies, one for each budget, of which each decides those of all smaller budgets

record ByUnits (F : ℕ → Reply) : Type 0 where
  smaller : (l k : ℕ) → l ≤ k → F l ≡ at_budget l (F k)

module _ {F : ℕ → Reply} (u : ByUnits F) {b : ℕ} (ended : (F b).code ≢ 6) where
  stays : {b' : ℕ} → b ≤ b' → F b' ≡ F b
  stays {b'} h =
      let e : F b ≡ at_budget b (F b') = u.smaller b b' h in
      sym (e ∙ at_enough b (F b') (at_ended b (F b') (λ x. ended (ap code_of e ∙ x))))

  elsewhere : (b' : ℕ) → F b' ≡ at_budget b' (F b)
  elsewhere b' =
      let units : (F b).units ≤ b = at_ended b (F b) (λ x. ended (ap code_of (u.smaller b b (le_refl b)) ∙ x)) in
      elim (dec_le b b') [
        | yes h ↦ stays h ∙ sym (at_enough b' (F b) (omega (arith, units, h)))
        | no h ↦ let i : b' < b = lt_of_not-le h in u.smaller b' b (omega (arith, i))
      ]

-- ## Runs, at any budget at all

reported_units : (room c p u : ℕ) (ws : List ℕ) → (reported room c p u ws).units ≡ u
unfolding reported
reported_units room c p u ws = pick_has (λ (R : Reply). R.units ≡ u) _ refl refl

-- a run that came to o with the budget k comes with l to what is charged k - l more (`smaller`, Budgets); so its reply is the other's at l
late_reply : (kind room l k : ℕ) (o : Out Result) → l ≤ k → out_reply kind l room (late (k - l) o) ≡ at_budget l (out_reply kind k room o)
unfolding late out_reply refusal give refuse ◌>>=◌ and_then
late_reply kind room l k o h = go o
  where
    ends : (x : M Result) (c p : ℕ) (ws : List ℕ) → ((r n : ℕ) → out_reply kind l room (x r n) ≡ reported room c p (l - r) ws) → (r n : ℕ)
        → out_reply kind l room ((charge (k - l) >>= λ u. x) r n) ≡ at_budget l (reported room c p (k - r) ws)
    ends x c p ws e r n =
        let told : ℕ → Reply = λ u. reported room c p u ws in
        let units : (told (k - r)).units ≡ k - r = reported_units room c p (k - r) ws in
        charge_then (λ o. out_reply kind l room o ≡ at_budget l (told (k - r))) x (k - l) r n
        (λ i. let s : l - (r - (k - l)) ≡ k - r = omega arith in
        e (r - (k - l)) n ∙ ap told s ∙ sym (at_enough l (told (k - r)) (omega (arith, units, i, h))))
        (λ i. sym (at_short l (told (k - r)) (omega (arith, units, i))))

    go : (o : Out Result) → out_reply kind l room (late (k - l) o) ≡ at_budget l (out_reply kind k room o)
    go (done a r n) = ends (give a) 0 0 (result_words kind a) (λ r n. refl) r n
    go (fail e r) = ends (refuse e) (error_code e.error) (error_at e.about) (error_words e.shown) (λ r n. refl) r 0
    go stop =
        elim (dec_le k l) [
          | yes i ↦ let s : l ≡ k = omega (arith, h, i) in ap (refusal 6 0) s ∙ sym (at_enough l (refusal 6 0 k) i)
          | no i ↦ sym (at_short l (refusal 6 0 k) (lt_of_not-le i))
        ]

run_by_units : (q : Question) (room : ℕ) → ByUnits (λ b. reply_with b room q)
unfolding reply_with
run_by_units q room = record {
  smaller = λ l k h. rw (smaller (answer_steady q) l k 0 h) (late_reply q.kind room l k (answer q k 0) h);
}

pub run_at_smaller_budget : (q : Question) (room : ℕ) {b b' : ℕ} → b' ≤ b → reply_with b' room q ≡ at_budget b' (reply_with b room q)
run_at_smaller_budget q room {b} {b'} h = (run_by_units q room).smaller b' b h

pub run_same_at_larger_budget : (q : Question) (room : ℕ) {b b' : ℕ} → (reply_with b room q).code ≢ 6 → b ≤ b' → reply_with b' room q ≡ reply_with b room q
run_same_at_larger_budget q room ended h = stays (run_by_units q room) ended h

-- ## Calls

read_by_units : (room : ℕ) (r : Read Question) → ByUnits (λ b. read_reply b room r)
unfolding read_reply reply_with refusal
read_by_units room (fault c p) = record { smaller = λ l k h. sym (at_enough l (refusal c p 0) (omega arith)) }
read_by_units room (got q p ws) = run_by_units q room

from_three_by_units : (room : ℕ) (ws : List ℕ) → ByUnits (λ b. from_three b room ws)
unfolding pick refusal
from_three_by_units room ws = go (eqb (length ws) 0 || ltb 2048 (length ws))
  where
    go : (t : Bool) → ByUnits (λ b. pick t (refusal 3 0 0) (read_reply b room (read_question ws)))
    go true = record { smaller = λ l k h. sym (at_enough l (refusal 3 0 0) (omega arith)) }
    go false = read_by_units room (read_question ws)

-- any two allowed budgets, whatever the code
pub at_smaller_budget : {budget work budget' work' : ℕ} (room : ℕ) (ws : List ℕ) → Allowed budget work → Allowed budget' work' → budget' ≤ budget
    → reply budget' work' room ws ≡ at_budget budget' (reply budget work room ws)
at_smaller_budget {budget} {budget' = budget'} room ws a a' h =
    allowed_reply room ws a' ∙ (from_three_by_units room ws).smaller budget' budget h ∙ ap (at_budget budget') (sym (allowed_reply room ws a))

module _ (budget work room : ℕ) (ws : List ℕ) where
  abbrev R : Reply
  R = reply budget work room ws

  -- where none of 1, 2 and 6 is the answer, the budget is allowed
  pub settled_allowed : Settled R.code → Allowed budget work
  unfolding refusal
  settled_allowed s = go (tried budget work room ws) s
    where
      go : {r : Reply} → Tried budget work room ws r → Settled r.code → Allowed budget work
      go bad_budget s = absurd (s.not_1 refl)
      go short_work s = absurd (s.not_2 refl)
      go (bad_length a) s = a
      go (is_read a few) s = a

  module _ (here : Allowed budget work) (not_6 : R.code ≢ 6) {budget' work' : ℕ} (there : Allowed budget' work') where
    ended : (from_three budget room ws).code ≢ 6
    ended e = not_6 (ap code_of (allowed_reply room ws here) ∙ e)

    pub at_budget_lem : reply budget' work' room ws ≡ at_budget budget' R
    at_budget_lem =
        allowed_reply room ws there ∙ elsewhere (from_three_by_units room ws) ended budget' ∙ ap (at_budget budget') (sym (allowed_reply room ws here))

    pub same_at_larger_budget : budget ≤ budget' → reply budget' work' room ws ≡ R
    same_at_larger_budget h = allowed_reply room ws there ∙ stays (from_three_by_units room ws) ended h ∙ sym (allowed_reply room ws here)

    pub same_from_its_units : R.units ≤ budget' → reply budget' work' room ws ≡ R
    same_from_its_units h = at_budget_lem ∙ at_enough budget' R h

    pub six_exactly_below_its_units : ((reply budget' work' room ws).code ≡ 6) ↔ (budget' < R.units)
    unfolding refusal
    six_exactly_below_its_units = (
      λ e. elim (dec_le R.units budget') [
        | yes h ↦ absurd (not_6 (sym (ap code_of (same_from_its_units h)) ∙ e))
        | no h ↦ lt_of_not-le h
      ],
      λ h. ap code_of (at_budget_lem ∙ at_short budget' R h),
    )

-- ## With enough budget, past 8,192 if need be, and enough room: one reply at most

pick_roomy : (t : Bool) (x y : Reply) → y.code ≡ 7 → (pick t x y).code ≢ 7 → pick t x y ≡ x
unfolding pick
pick_roomy true x y e h = refl
pick_roomy false x y e h = absurd (h e)

reported_roomy : (room room' c p u : ℕ) (ws : List ℕ) → (reported room c p u ws).code ≢ 7 → (reported room' c p u ws).code ≢ 7
    → reported room c p u ws ≡ reported room' c p u ws
unfolding reported
reported_roomy room room' c p u ws h h' = pick_roomy _ _ _ refl h ∙ sym (pick_roomy _ _ _ refl h')

rooms_same : (kind b room room' : ℕ) (o : Out Result) → (out_reply kind b room o).code ≢ 7 → (out_reply kind b room' o).code ≢ 7
    → out_reply kind b room o ≡ out_reply kind b room' o
unfolding out_reply
rooms_same kind b room room' (done a l n) h h' = reported_roomy room room' _ _ _ _ h h'
rooms_same kind b room room' (fail e l) h h' = reported_roomy room room' _ _ _ _ h h'
rooms_same kind b room room' stop h h' = refl

pub one_with_enough : {q : Question} {R R' : Reply} → WithEnough q R → WithEnough q R' → R ≡ R'
unfolding reply_with
one_with_enough {q} {R} {R'} e e' =
    let m : ℕ = e.budget + e'.budget in
    let s : R ≡ reply_with m e.room q = raised e m (omega arith) in
    let s' : R' ≡ reply_with m e'.room q = raised e' m (omega arith) in
    s ∙ rooms_same q.kind m e.room e'.room (answer q m 0) (λ x. e.not_7 (ap code_of s ∙ x)) (λ x. e'.not_7 (ap code_of s' ∙ x)) ∙ sym s'
  where
    raised : {R : Reply} (e : WithEnough q R) (m : ℕ) → e.budget ≤ m → R ≡ reply_with m e.room q
    raised e m h = e.is ∙ sym (stays (run_by_units q e.room) (λ x. e.not_6 (ap code_of e.is ∙ x)) h)

-- what a call that is run gets is such a reply, unless it is 6 or 7
pub with_enough : {budget work : ℕ} {ws : List ℕ} {q : Question} → IsRun budget work ws q → (room : ℕ)
    → (reply budget work room ws).code ≢ 6 → (reply budget work room ws).code ≢ 7 → WithEnough q (reply budget work room ws)
with_enough {budget} a room h k = record { budget = budget; room = room; is = run_reply a room; not_6 = h; not_7 = k }

-- and so is every result of a run, whose words are no more than a reply can have, with whatever budget it was come to
pub accepted_with_enough : (q : Question) (budget : ℕ) {left names : ℕ} {r : Result} → answer q budget 0 ≡ done r left names
    → length (result_words q.kind r) ≤ most
    → WithEnough q (record { code = 0; at = 0; len = length (result_words q.kind r); units = budget - left; report = result_words q.kind r })
unfolding reply_with out_reply reported
accepted_with_enough q budget {r = r} e h =
    let n : ℕ = length (result_words q.kind r) in
    let room : leb n n ≡ true = is_true (leb n n) (yes_leb (le_refl n)) in
    let fits : (leb n n && leb n most) ≡ true = rw room (is_true (leb n most) (yes_leb h)) in
    record {
      budget = budget;
      room = n;
      is = rw e (sym (pick_true _ _ fits));
      not_6 = λ x. omega (arith, x);
      not_7 = λ x. omega (arith, x);
    }
