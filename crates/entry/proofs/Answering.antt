-- From what was read, and from a run, to the reply.
use mathlib.Core.Path.{◌≡◌, refl, ap, ◌∙◌}
use mathlib.Core.List.{List, ◌++◌}
use Prim.Native.Nat.{ℕ, ◌-◌}
use lib.ListN.{length, drop, replicate}
use lib.Seq.{drop_at}
use Rattle.definition.specs.Syntax.{pick}
use Rattle.definition.specs.Question.{read_question}
use Rattle.definition.specs.Run.{Out, done, fail, stop}
use Rattle.definition.specs.Rules.{Result}
use Rattle.definition.specs.Reply as definition
use Rattle.definition.specs.Reply.{refusal, reported, error_code, out_reply, read_reply, answer, reply}
use Rattle.definition.specs.Memory.{work_after, call}
use Rattle.reading.specs.Questions.{Accepted}
use Rattle.reading.specs.declared.Question.{Question}
use Rattle.replies.specs.declared.Reply.{Reply}
use Rattle.laws.specs.Codes.{Late}
use Rattle.laws.proofs.Codes.{error, error_late}
use Rattle.laws.proofs.Steps.{pick_has}
use Rattle.entry.specs.Entry.{Replied, outcome, Gives, Cleared}

-- ## A run's reply is none of 1 to 5

reported_late : (room c p u : ℕ) (ws : List ℕ) → Late c → Late (reported room c p u ws).code
unfolding reported
reported_late room c p u ws h = pick_has (λ (R : definition.Reply). Late R.code) _ h refl

out_late : (k budget room : ℕ) (o : Out Result) → Late (out_reply k budget room o).code
unfolding out_reply refusal
out_late k budget room (done r l n) = reported_late room 0 0 (budget - l) _ refl
out_late k budget room (fail e l) = reported_late room (error_code e.error) _ (budget - l) _ (error_late (error e.error))
out_late k budget room stop = refl

-- ## The reply

pub replied : {q w w' s s' : List ℕ} {budget : ℕ} {a : Question} {r : Reply} → Accepted q a → reply budget (length w) (length s) q ≡ read_reply budget (length s) (read_question q)
    → Cleared q w w' budget a s s' r → Replied budget q w w' s s' r
unfolding call work_after read_reply pick
replied {q} {w} {w'} {s} {s'} {budget} {a} {r} t e c =
    let R : definition.Reply = outcome budget (length s) t.asked in
    let f : reply budget (length w) (length s) q ≡ R = e ∙ ap (read_reply budget (length s)) t.is in
    let g : Gives R s s' r = c.runs.gives t in
    record {
      numbers = rw f g.numbers;
      report = rw f g.report;
      work = rw (f, out_late t.asked.kind budget (length s) (answer t.asked budget 0)) c.work;
    }

-- what is zeroed and what stays, where a part was written before
pub cleared : (w v : List ℕ) (n : ℕ) → length v ≡ n → replicate n 0 ++ drop n (v ++ drop n w) ≡ replicate n 0 ++ drop n w
cleared w v n e = ap (replicate n 0 ++◌) (drop_at v (drop n w) n e)
