-- From what a run came to, to its reply.
use mathlib.Core.Path.{◌≡◌, refl}
use mathlib.Core.Bool.{false, ◌&&◌}
use mathlib.Core.List.{List}
use mathlib.Core.Option.{some-injective}
use Prim.Native.Nat.{ℕ, ◌-◌, ◌≤◌, ◌<◌, ◌^◌}
use native.Mathlib.Omega.{arith}
use native.Mathlib.Nat.{lt_of_not-le}
use native.Mathlib.Decide.{dec_le}
use lib.ListN.{length}
use lib.Dec.{leb, le→leb}
use mir.Facts.{no_leb}
use Rattle.definition.specs.Syntax.{pick}
use Rattle.definition.specs.Run.{Out}
use Rattle.definition.specs.Rules.{Result}
use Rattle.definition.specs.Reply.{most, refusal, reported, out_reply}
use Rattle.definition.specs.Memory.{report_after}
use Rattle.laws.specs.Count.{charged}
use Rattle.laws.proofs.Codes.{error}
use Rattle.laws.proofs.Steps.{is_true, is_false}
use Rattle.layout.specs.declared.State.{State}
use Rattle.judging.specs.declared.Answer.{Answer}
use Rattle.judging.specs.declared.Bad.{Bad}
use Rattle.judging.specs.declared.Stop.TheVariants.{Fail, Spent}
use Rattle.judging.specs.Ending.{Step, EndsJ, ran_out}
use Rattle.std.specs.Prelude.{Result as Outcome, Ok, Err}
use Rattle.judging.proofs.Steps.{came, failed_by}
use Rattle.writing.specs.Spelling.{Spelled}
use Rattle.report.specs.Reports.{OfResult, OfError, Reports, Reported}
use Rattle.report.specs.Reports as told
use Rattle.report.specs.declared.NoRoom.{NoRoom}
use Rattle.report.proofs.Replies.{room_ground, landed_result, result_spelled, result_reported, error_spelled, error_reported}
use Rattle.replies.specs.declared.Reply.{Reply}
use Rattle.entry.specs.Entry.{Gives, told_of, length_of, FinishPre, Finishes}

-- ## What became of a report

both_false : (a b c : ℕ) → (a ≤ b → a ≤ c → ⊥) → (leb a b && leb a c) ≡ false
both_false a b c h =
    elim (dec_le a b) [
      | yes p ↦ rw (is_true (leb a b) (le→leb a b p)) (is_false (leb a c) (no_leb (lt_of_not-le (h p))))
      | no p ↦ rw (is_false (leb a b) (no_leb (lt_of_not-le p)))
    ]

-- a reply with the code c, which the program has as c', and so on
pub told_gives : {c c' p p' : ℕ} (u : ℕ) (ws : List ℕ) {s s' : List ℕ} {y : Outcome ℕ NoRoom} → c' ≡ c → p' ≡ p → Reported s s' ws y
    → Gives (reported (length s) c p u ws) s s' (told_of c' p' u y)
unfolding reported report_after pick
told_gives u ws {s} e f (told.reported h k n w) =
    let b = is_true (leb (length ws) (length s)) (le→leb (length ws) (length s) h) in
    let d = is_true (leb (length ws) most) (le→leb (length ws) most k) in
    record { numbers = record { code = rw (b, d) e; at = rw (b, d) f; len = rw (b, d) n; units = rw (b, d) }; report = rw (b, d) w }
told_gives u ws {s} e f (told.no_room h n w) =
    let b = both_false (length ws) (length s) most h in
    record { numbers = record { code = rw b; at = rw b; len = rw b n; units = rw b }; report = rw b w }

told_small : {ws s s' : List ℕ} {y : Outcome ℕ NoRoom} → Reported s s' ws y → length_of y < 2 ^ 32
told_small (told.reported h k e w) = omega arith
told_small (told.no_room h e w) = omega arith

-- ## An answer

module _ {q w : List ℕ} {s : State} {z : Step} {a : Answer} (pre : FinishPre q w s z) (d : z ≡ Ok a) (kind : ℕ) where
  answer_charge : a.charge ≡ s.left - a.st.left
  unfolding charged
  answer_charge = some-injective _ _ (rw (d, (came pre.ends d).is) at pre.charge)

  pub answer_units : a.charge < 2 ^ 32
  answer_units = omega (arith, answer_charge, pre.budget)

  pub answer_spelled : Spelled q w a.st.top (OfResult q w kind a s.low)
  answer_spelled = let x = (came pre.ends d).land in result_spelled kind (landed_result x pre.low) (room_ground x.room)

  module _ {sl sl' : List ℕ} {y : Outcome ℕ NoRoom} (rep : Reports (OfResult q w kind a s.low) sl sl' y) where
    pub answer_small : length_of y < 2 ^ 32
    answer_small = told_small (result_reported kind (landed_result (came pre.ends d).land pre.low) rep)

    pub answer_gives : Finishes q w kind s z sl sl' (told_of 0 0 a.charge y)
    unfolding out_reply
    answer_gives = record {
      gives = λ R h.
          let c = came h d in
          rw (answer_charge, c.is) (told_gives (s.left - a.st.left) _ refl refl (result_reported kind (landed_result c.land pre.low) rep));
    }

-- ## A type error

module _ {q w : List ℕ} {s : State} {z : Step} {b : Bad} (pre : FinishPre q w s z) (d : z ≡ Err (Fail b)) where
  error_charge : b.charge ≡ s.left - b.st.left
  unfolding charged
  error_charge = some-injective _ _ (rw (d, (failed_by pre.ends d).is) at pre.charge)

  pub error_units : b.charge < 2 ^ 32
  error_units = omega (arith, error_charge, pre.budget)

  pub error_code : b.code < 2 ^ 32
  error_code = let f = failed_by pre.ends d in omega (arith, f.fails.code, (error f.e.error).most)

  pub error_words : Spelled q w b.st.top (OfError q w b)
  error_words =
      let x = (failed_by pre.ends d).fails in
      error_spelled x (record { base = x.base; fits = x.within; cap = pre.cap })

  module _ {sl sl' : List ℕ} {y : Outcome ℕ NoRoom} (rep : Reports (OfError q w b) sl sl' y) where
    pub error_length : length_of y < 2 ^ 32
    error_length = told_small (error_reported (failed_by pre.ends d).fails rep)

    pub error_gives : (kind : ℕ) → Finishes q w kind s z sl sl' (told_of b.code b.name b.charge y)
    unfolding out_reply
    error_gives kind = record {
      gives = λ R h.
          let f = failed_by h d in
          let x = f.fails in
          rw (error_charge, f.is) (told_gives (s.left - b.st.left) _ x.code x.name (error_reported x rep));
    }

-- ## Out of budget

pub spent_gives : {q w : List ℕ} {s : State} {z : Step} {kind : ℕ} {sl : List ℕ} {r : Reply} → z ≡ Err Spent
    → r ≡ record { code = 6; at = 0; len = 0; units = s.left } → Finishes q w kind s z sl sl r
unfolding out_reply refusal report_after
spent_gives {q} {w} {s} {z} {kind} {sl} d e = record { gives = λ R h. rw e (go (rw d at h)) }
  where
    go : {R : Out Result} → EndsJ q w s (Err Spent) R → Gives (out_reply kind s.left (length sl) R) sl sl (record { code = 6; at = 0; len = 0; units = s.left })
    go ran_out = record { numbers = record { code = refl; at = refl; len = refl; units = refl }; report = refl }
