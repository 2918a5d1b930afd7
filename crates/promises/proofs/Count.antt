-- The count through the contracts of both functions for C: "6 Budget: the next charge would pass the budget", and at no other time.
use mathlib.Core.Path.{◌≡◌, refl, sym, ap, ◌∙◌}
use mathlib.Core.Bool.{Bool, true, false}
use mathlib.Core.Logic.{◌↔◌, ◌≢◌}
use mathlib.Core.List.{List}
use mathlib.Core.Option.{some}
use Prim.Native.Nat.{ℕ, ◌-◌, ◌/◌, ◌%◌, ◌≤◌, min}
use native.Mathlib.Omega.{arith}
use lib.ListN.{length, get_or}
use lib.Dec.{ltb, eqb}
use mir.Facts.{no_ltb}
use borrow.Author.Tests.{ltb-false, eqb-true}
use Rattle.definition.specs.Syntax.{pick}
use Rattle.definition.specs.Question.{Question}
use Rattle.definition.specs.Reply.{Reply, refusal, answer, reply}
use Rattle.definition.specs.Memory.{call}
use Rattle.definition.specs.Host.{words_of, desk_reply, byte_reply, numbers, HostCall, host_call}
use Rattle.laws.specs.Count.{Count, count_to, Passes, IsRun}
use Rattle.laws.proofs.Count.{six_exactly_past_count_to, units_are_the_count}
use Rattle.laws.proofs.Steps.{is_false}
use Rattle.alike.proofs.Refusals.{six_is_run}
use Rattle.sized.proofs.Answering.{whole}
use Rattle.host.specs.Host.{Answered, Checked}

-- Q is the question that the words q are read as, with an allowed budget and enough work
pub check_6_exactly_past_count : {budget : ℕ} {q w w' s s' ns : List ℕ} {r : ℕ} {Q : Question} → IsRun budget (length w) q Q
    → Checked budget q w w' s s' ns r → (r ≡ 6) ↔ Passes (count_to 8192 Q) budget
unfolding call refusal
check_6_exactly_past_count {s = s} a c =
    let x = six_exactly_past_count_to a 8192 a.allowed.high (length s) in
    (λ e. x.0 (sym c.returns ∙ e), λ p. c.returns ∙ ap (λ (R : Reply). R.code) (x.1 p))

-- "Units equal this count in the definition": the fourth number, unless it is 6 that is returned
pub check_units_are_the_count : {budget : ℕ} {q w w' s s' ns : List ℕ} {r : ℕ} {Q : Question} → IsRun budget (length w) q Q
    → Checked budget q w w' s s' ns r → r ≢ 6 → Count (answer Q) 0 (some (get_or ns 3 0))
unfolding call numbers
check_units_are_the_count {s = s} a c h = rw c.four (units_are_the_count a (length s) (λ e. h (c.returns ∙ e)))

-- the telephone host, with room for the four numbers and a question of whole words
pub answer_6_exactly_past_count : {b s s' : List ℕ} {r : ℕ} {Q : Question} → 16 ≤ length s → length b % 4 ≡ 0
    → IsRun 384 16384 (words_of b (length b / 4)) Q → Answered b s s' r → (r ≡ 6) ↔ Passes (count_to 8192 Q) 384
unfolding host_call pick refusal
answer_6_exactly_past_count {b} {s} h k a c =
    let room : ℕ = (length s - 16) / 4 in
    let x = six_exactly_past_count_to a 8192 a.allowed.high (min room 4096) in
    let e = rw (is_false (ltb (length s) 16) (no_ltb h), whole room b k) at c.returns in
    (λ i. x.0 (sym e ∙ i), λ p. e ∙ ap (λ (R : Reply). R.code) (x.1 p))

-- ## And at no other time: a call that gets 6 is one that is run

pub check_6_is_run : {budget : ℕ} {q w w' s s' ns : List ℕ} {r : ℕ} → Checked budget q w w' s s' ns r → r ≡ 6 → (Q : Question) × IsRun budget (length w) q Q
unfolding call
check_6_is_run {budget} {q} {w} {s = s} c e = six_is_run budget (length w) (length s) q (sym c.returns ∙ e)

pub answer_6_is_run : {b s s' : List ℕ} {r : ℕ} → Answered b s s' r → r ≡ 6
    → (16 ≤ length s) × (length b % 4 ≡ 0) × ((Q : Question) × IsRun 384 16384 (words_of b (length b / 4)) Q)
unfolding host_call byte_reply desk_reply pick refusal
answer_6_is_run {b} {s} c e = go (ltb (length s) 16) refl (eqb (length b % 4) 0) refl _ (sym c.returns ∙ e)
  where
    room : ℕ
    room = min ((length s - 16) / 4) 4096

    ws : List ℕ
    ws = words_of b (length b / 4)

    go : (x : Bool) → ltb (length s) 16 ≡ x → (y : Bool) → eqb (length b % 4) 0 ≡ y → (u : List ℕ)
        → (pick {A = HostCall} x (record { returns = 8; reply_slice = s })
        (record { returns = (pick y (reply 384 16384 room ws) (refusal 3 0 0)).code; reply_slice = u })).returns ≡ 6
        → (16 ≤ length s) × (length b % 4 ≡ 0) × ((Q : Question) × IsRun 384 16384 ws Q)
    go true a y k u h = absurd (omega (arith, h))
    go false a true k u h = (ltb-false (length s) 16 a, eqb-true (length b % 4) 0 k, six_is_run 384 16384 room ws h)
    go false a false k u h = absurd (omega (arith, h))
