-- The same question at another budget, through the contracts of both functions for C.
use mathlib.Core.Path.{◌≡◌, sym, ◌∙◌}
use mathlib.Core.Logic.{◌↔◌, ◌≢◌}
use mathlib.Core.List.{List}
use Prim.Native.Nat.{ℕ, ◌-◌, ◌/◌, ◌%◌, ◌≤◌, ◌<◌, min}
use lib.ListN.{length, get_or}
use lib.Dec.{ltb, lit≤}
use mir.Facts.{no_ltb}
use Rattle.definition.specs.Syntax.{pick}
use Rattle.definition.specs.Reply.{work_words, reply}
use Rattle.definition.specs.Memory.{call, report_after}
use Rattle.definition.specs.Host.{words_of, numbers, host_call}
use Rattle.laws.specs.OtherBudgets.{Allowed, Settled}
use Rattle.laws.proofs.Steps.{is_false}
use Rattle.laws.proofs.OtherBudgets.{settled_allowed, same_at_larger_budget, same_from_its_units, six_exactly_below_its_units}
use Rattle.replies.proofs.Lengths.{replies}
use Rattle.sized.proofs.Answering.{whole}
use Rattle.host.specs.Host.{Answered, Checked}
use Rattle.promises.specs.Common.{SameReplies, SameTold}

-- ## sporeflask_check, called twice: once with a code that is none of 1, 2 and 6, and with any allowed budget and enough work for it

module _ {budget budget' : ℕ} {q w v w₁ v₂ s s₁ s₂ n₁ n₂ : List ℕ} {r₁ r₂ : ℕ} (c : Checked budget q w w₁ s s₁ n₁ r₁)
    (c' : Checked budget' q v v₂ s s₂ n₂ r₂) (settled : Settled r₁) (there : Allowed budget' (length v)) where
  here : Allowed budget (length w)
  unfolding call
  here = settled_allowed budget (length w) (length s) q (rw c.returns at settled)

  not_6 : (reply budget (length w) (length s) q).code ≢ 6
  unfolding call
  not_6 e = settled.not_6 (c.returns ∙ e)

  same : reply budget' (length v) (length s) q ≡ reply budget (length w) (length s) q → SameReplies r₁ r₂ n₁ n₂ s₁ s₂
  unfolding call
  same e = record {
    returns = c.returns ∙ rw (← e) (sym c'.returns);
    four = c.four ∙ rw (← e) (sym c'.four);
    report = c.report ∙ rw (← e) (sym c'.report);
  }

  pub check_same_at_larger_budget : budget ≤ budget' → SameReplies r₁ r₂ n₁ n₂ s₁ s₂
  check_same_at_larger_budget h = same (same_at_larger_budget budget (length w) (length s) q here not_6 there h)

  pub check_same_from_its_units : get_or n₁ 3 0 ≤ budget' → SameReplies r₁ r₂ n₁ n₂ s₁ s₂
  unfolding call numbers
  check_same_from_its_units h = same (same_from_its_units budget (length w) (length s) q here not_6 there (rw c.four at h))

  pub check_6_exactly_below_its_units : (r₂ ≡ 6) ↔ (budget' < get_or n₁ 3 0)
  unfolding call numbers
  check_6_exactly_below_its_units = rw (c'.returns, c.four) (six_exactly_below_its_units budget (length w) (length s) q here not_6 there)

-- ## Both functions: the question's words, and as much room

module _ {budget : ℕ} {b s s' w w' t t' ns : List ℕ} {r r' : ℕ} (a : Answered b s s' r) (c : Checked budget (words_of b (length b / 4)) w w' t t' ns r')
    (long : 16 ≤ length s) (whole_words : length b % 4 ≡ 0) (room : length t ≡ min ((length s - 16) / 4) 4096) (there : Allowed budget (length w)) where
  words : List ℕ
  words = words_of b (length b / 4)

  desk : Allowed 384 16384
  unfolding work_words
  desk = record { low = lit≤ tt; high = lit≤ tt; enough = lit≤ tt }

  -- what sporeflask_answer tells is the reply at the desk's sizes
  returned : r ≡ (reply 384 16384 (length t) words).code
  unfolding host_call pick words
  returned = rw (is_false (ltb (length s) 16) (no_ltb long), whole ((length s - 16) / 4) b whole_words, ← room) at a.returns

  same_told : reply budget (length w) (length t) words ≡ reply 384 16384 (length t) words → SameTold r r' ns s s' t t'
  unfolding call host_call numbers report_after pick words
  same_told e =
      let replied = rw (is_false (ltb (length s) 16) (no_ltb long), whole ((length s - 16) / 4) b whole_words, ← room) at a.reply in
      record {
        returns = returned ∙ rw (← e) (sym c.returns);
        report = (reply 384 16384 (length t) words).report;
        written = rw (returned, c.four, e) (replies 384 16384 (length t) words).many;
        bytes = replied ∙ rw (c.four, e);
        words = c.report ∙ rw e;
      }

  -- from what sporeflask_answer gave, at the budget 384, to what sporeflask_check gives
  pub answer_same_at_larger_budget : r ≢ 6 → 384 ≤ budget → SameTold r r' ns s s' t t'
  answer_same_at_larger_budget not_6 h = same_told (same_at_larger_budget 384 16384 (length t) words desk (λ e. not_6 (returned ∙ e)) there h)

  -- and from what sporeflask_check gave
  module _ (not_6 : r' ≢ 6) where
    ended : (reply budget (length w) (length t) words).code ≢ 6
    unfolding call words
    ended e = not_6 (c.returns ∙ e)

    pub answer_same_from_its_units : get_or ns 3 0 ≤ 384 → SameTold r r' ns s s' t t'
    unfolding call numbers words
    answer_same_from_its_units h = same_told (sym (same_from_its_units budget (length w) (length t) words there ended desk (rw c.four at h)))

    pub answer_6_exactly_below_its_units : (r ≡ 6) ↔ (384 < get_or ns 3 0)
    unfolding call numbers words
    answer_6_exactly_below_its_units = rw (returned, c.four) (six_exactly_below_its_units budget (length w) (length t) words there ended desk)
