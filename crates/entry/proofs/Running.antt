-- A question's run, from the entries that it has to pay for to its reply.
use mathlib.Core.Path.{◌≡◌, refl, subst₃}
use mathlib.Core.Bool.{Bool, true, false}
use mathlib.Core.List.{List}
use Prim.Native.Nat.{ℕ, ◌≤◌}
use native.Mathlib.Omega.{arith}
use lib.ListN.{length}
use lib.Dec.{eqb}
use Rattle.definition.specs.Syntax.{pick}
use Rattle.definition.specs.Run.{stop, and_then, ◌>>=◌, give}
use Rattle.definition.specs.Types.{apply}
use Rattle.definition.specs.Rules.{outside, judge}
use Rattle.definition.specs.Reply.{refusal, answer, out_reply, work_words}
use Rattle.definition.specs.Memory.{report_after}
use Rattle.judging.specs.Ending.{Step}
use Rattle.layout.specs.Kinds.{kind_number}
use Rattle.judging.proofs.Steps.{step_none}
use Rattle.contexts.specs.declared.Opened.{Opened}
use Rattle.reading.specs.Questions.{Accepted}
use Rattle.reading.proofs.Questions.{asks_context}
use Rattle.reading.specs.declared.Question.{Question}
use Rattle.replies.specs.declared.Reply.{Reply}
use Rattle.entry.specs.Entry.{Gives, RunPre, Runs, Prepares, Answers, FinishPre, Finishes}

-- ## Entering cannot be paid

module _ {q : List ℕ} {a : Question} (acc : Accepted q a) (budget : ℕ) (few : budget ≤ a.entries) where
  stops : judge (outside acc.asked.manner) acc.asked.asks budget 0 ≡ stop
  stops =
      let c = (asks_context acc.asks).list.count in
      step_none (outside acc.asked.manner) acc.asked.asks budget 0 (omega arith)

  answer_stops : answer acc.asked budget 0 ≡ stop
  unfolding answer pick ◌>>=◌ and_then
  answer_stops = go (eqb acc.asked.kind 7)
    where
      go : (b : Bool) → pick b (do r ← judge (outside acc.asked.manner) acc.asked.asks; A ← apply r.1 r.0; give (A, r.1, r.2)) (judge (outside acc.asked.manner) acc.asked.asks) budget 0 ≡ stop
      go true = rw stops refl
      go false = stops

pub unpaid : {q : List ℕ} {a : Question} {budget : ℕ} {s : List ℕ} {r : Reply} → budget ≤ a.entries
    → r ≡ record { code = 6; at = 0; len = 0; units = budget } → Runs q budget a s s r
unfolding out_reply refusal report_after
unpaid {budget = budget} h e = record {
  gives = λ acc.
      rw (e, answer_stops acc budget h) (record { numbers = record { code = refl; at = refl; len = refl; units = refl }; report = refl });
}

-- ## The reply

module _ {q w w₁ w₂ : List ℕ} {budget : ℕ} {a : Question} {o : Opened} {z : Step} (pre : RunPre q w budget a) (op : Prepares q w₁ budget a o)
    (an : Answers q w₁ w₂ a o.st z) where
  pub finish_pre : FinishPre q w₂ o.st z
  unfolding work_words
  finish_pre =
      let e = an.keep in
      record {
        low = omega (arith, op.ready.low);
        cap = omega (arith, op.ready.cap);
        budget = omega (arith, op.left, pre.high);
        R = answer pre.read.asked o.st.left o.st.fresh;
        ends = an.ends pre.read;
        charge = an.charge pre.read;
      }

  pub runs : {s s' : List ℕ} {r : Reply} → Finishes q w₂ (kind_number a.kind) o.st z s s' r → Runs q budget a s s' r
  runs {s} {s'} {r} f = record {
    gives = λ acc.
        let g : Gives (out_reply (kind_number a.kind) o.st.left (length s) (answer acc.asked o.st.left o.st.fresh)) s s' r = f.gives _ (an.ends acc) in
        subst₃ (λ k b n. Gives (out_reply k b (length s) (answer acc.asked b n)) s s' r) acc.kind op.left op.fresh g;
  }
