-- No two replies meet the contract of an exported function: what it promises leaves nothing open.
use mathlib.Core.Path.{sym, ◌∙◌}
use mathlib.Core.List.{List}
use Prim.Native.Nat.{ℕ}
use Rattle.replies.specs.declared.Reply.{Reply}
use Rattle.entry.specs.Entry.{Replied}
use Rattle.host.specs.Host.{Answered, Checked, numbers_of}
use Rattle.host.proofs.Replying.{checked}
use Rattle.promises.specs.Common.{SameChecks, SameAnswers}

-- sporeflask_check
pub one_check : {budget : ℕ} {q w s w₁ w₂ s₁ s₂ n₁ n₂ : List ℕ} {r₁ r₂ : ℕ} → Checked budget q w w₁ s s₁ n₁ r₁ → Checked budget q w w₂ s s₂ n₂ r₂
    → SameChecks r₁ r₂ n₁ n₂ s₁ s₂ w₁ w₂
one_check a b =
    record {
      reply = record { returns = a.returns ∙ sym b.returns; four = a.four ∙ sym b.four; report = a.report ∙ sym b.report };
      work = a.work ∙ sym b.work;
    }

-- sporeflask_answer
pub one_answer : {b s s₁ s₂ : List ℕ} {r₁ r₂ : ℕ} → Answered b s s₁ r₁ → Answered b s s₂ r₂ → SameAnswers r₁ r₂ s₁ s₂
one_answer a b = record { returns = a.returns ∙ sym b.returns; reply = a.reply ∙ sym b.reply }

-- the library's entry
pub one_reply : {budget : ℕ} {q w s w₁ w₂ s₁ s₂ : List ℕ} {r₁ r₂ : Reply} → Replied budget q w w₁ s s₁ r₁ → Replied budget q w w₂ s s₂ r₂
    → SameChecks r₁.code r₂.code (numbers_of r₁) (numbers_of r₂) s₁ s₂ w₁ w₂
one_reply a b = one_check (checked a) (checked b)
