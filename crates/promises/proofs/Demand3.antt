-- Demand 3 of the exported functions, through their contracts.
use mathlib.Core.Path.{◌≡◌, sym, ◌∙◌}
use mathlib.Core.Bool.{Bool, true, false}
use mathlib.Core.List.{List, ◌++◌}
use Prim.Native.Nat.{ℕ, ◌-◌, ◌*◌, ◌/◌, ◌%◌, ◌<◌, min}
use lib.ListN.{length, drop}
use lib.Dec.{T, ltb, ltb→lt}
use Rattle.definition.specs.Syntax.{pick}
use Rattle.definition.specs.Reply.{Reply}
use Rattle.definition.specs.Memory.{call}
use Rattle.definition.specs.Host.{words_of, bytes_of, byte_reply, numbers, HostCall, host_call}
use Rattle.alike.specs.Alike.{Pairing, itself, AlikeQuestions, AlikeReplies}
use Rattle.alike.proofs.Words.{same_length}
use Rattle.alike.proofs.Demand3.{alike, calls_alike, no_literal, no_literal_call}
use Rattle.sized.proofs.Answering.{whole}
use Rattle.host.specs.Host.{Answered, Checked}
use Rattle.promises.specs.Common.{SameChecks, SameAnswers, AlikeChecks, AlikeAnswers}
use Rattle.promises.proofs.One.{one_check, one_answer}

-- ## sporeflask_check

-- the same budget, work and report slice
pub checks_alike : {P : Pairing} {q q' : List ℕ} → AlikeQuestions P q q' → {budget : ℕ} {w s w₁ w₂ s₁ s₂ n₁ n₂ : List ℕ} {r₁ r₂ : ℕ}
    → Checked budget q w w₁ s s₁ n₁ r₁ → Checked budget q' w w₂ s s₂ n₂ r₂
    → AlikeChecks P (call budget q w s).answered (call budget q' w s).answered r₁ r₂ n₁ n₂ s₁ s₂ w₁ w₂
checks_alike h {budget} {w} {s} a b =
    let c = calls_alike h budget w s in
    record {
      alike = c.answered;
      returns = (a.returns, b.returns);
      four = (a.four, b.four);
      rest = c.rest;
      report = (a.report ∙ c.report_slice, b.report ∙ c.report_slice');
      work = a.work ∙ c.work_slice ∙ sym b.work;
    }

-- "No such reply depends on a literal's value."
pub check_no_literal : {q q' : List ℕ} → AlikeQuestions itself q q' → {budget : ℕ} {w s w₁ w₂ s₁ s₂ n₁ n₂ : List ℕ} {r₁ r₂ : ℕ}
    → Checked budget q w w₁ s s₁ n₁ r₁ → Checked budget q' w w₂ s s₂ n₂ r₂ → SameChecks r₁ r₂ n₁ n₂ s₁ s₂ w₁ w₂
check_no_literal {q} {q'} h {budget} {w} {s} a b =
    let e : call budget q' w s ≡ call budget q w s = sym (no_literal_call h budget w s) in
    one_check a (record { returns = b.returns ∙ rw e; four = b.four ∙ rw e; report = b.report ∙ rw e; work = b.work ∙ rw e })

-- ## sporeflask_answer

-- what a reply comes to, by whether the reply slice is under 16 bytes
abbrev handed : Bool → Reply → List ℕ → HostCall
handed short R s =
    let ws : List ℕ = numbers R ++ R.report in
    pick short
    (record { returns = 8; reply_slice = s })
    (record { returns = R.code; reply_slice = bytes_of ws ++ drop (4 * length ws) s })

handed_alike : {P : Pairing} (short : Bool) {R R' : Reply} (s : List ℕ) → (T short → length s < 16) → AlikeReplies P R R'
    → AlikeAnswers P R R' (handed short R s).returns (handed short R' s).returns (handed short R s).reply_slice (handed short R' s).reply_slice
unfolding pick numbers
handed_alike true s h a = AlikeAnswers.short (h tt)
handed_alike false {R} {R'} s h a =
    let l : length R.report ≡ length R'.report = same_length a.report.words in
    rw (← l) (AlikeAnswers.told a _)

-- bytes that are whole words, of questions alike
pub answers_alike : {P : Pairing} {b b' : List ℕ} → length b % 4 ≡ 0 → length b' % 4 ≡ 0
    → AlikeQuestions P (words_of b (length b / 4)) (words_of b' (length b' / 4)) → {s s₁ s₂ : List ℕ} {r₁ r₂ : ℕ}
    → Answered b s s₁ r₁ → Answered b' s s₂ r₂
    → AlikeAnswers P (byte_reply ((length s - 16) / 4) b) (byte_reply ((length s - 16) / 4) b') r₁ r₂ s₁ s₂
unfolding host_call
answers_alike {P} {b} {b'} k k' h {s} a a' =
    let room : ℕ = (length s - 16) / 4 in
    let x : AlikeReplies P (byte_reply room b) (byte_reply room b') = rw (whole room b k, whole room b' k') (alike h 384 16384 (min room 4096)) in
    rw (a.returns, a'.returns, a.reply, a'.reply) (handed_alike (ltb (length s) 16) s (ltb→lt (length s) 16) x)

pub answer_no_literal : {b b' : List ℕ} → length b % 4 ≡ 0 → length b' % 4 ≡ 0
    → AlikeQuestions itself (words_of b (length b / 4)) (words_of b' (length b' / 4)) → {s s₁ s₂ : List ℕ} {r₁ r₂ : ℕ}
    → Answered b s s₁ r₁ → Answered b' s s₂ r₂ → SameAnswers r₁ r₂ s₁ s₂
unfolding host_call
answer_no_literal {b} {b'} k k' h {s} a a' =
    let room : ℕ = (length s - 16) / 4 in
    let e : byte_reply room b' ≡ byte_reply room b = whole room b' k' ∙ sym (no_literal h 384 16384 (min room 4096)) ∙ sym (whole room b k) in
    one_answer a (record { returns = a'.returns ∙ rw e; reply = a'.reply ∙ rw e })
