-- Memory: what the report slice and the work slice hold after a call.
use Rattle.std.specs.Prelude.{ℕ, ◌&&◌, List, ◌++◌, length, drop, replicate, leb}
use Rattle.definition.specs.Syntax.{pick}
use Rattle.definition.specs.Reply.{Reply, work_words, reply, reply_computes}

-- "Memory: words of the report slice past the written length, and all of it on 1 to 7, are unchanged" (a reply's report is empty on 1 to 7)
unfoldable pub report_after : Reply → List ℕ → List ℕ
report_after r slice = r.report ++ drop (length r.report) slice

-- "Work is untouched on 1 to 5; otherwise its first 32 x budget + 4,096 words end as 0 and the rest unchanged."
unfoldable pub work_after : Reply → ℕ → List ℕ → List ℕ
work_after r budget work = pick (leb 1 r.code && leb r.code 5) work (replicate (work_words budget) 0 ++ drop (work_words budget) work)

-- what a call leaves: its reply, the report slice, the work slice
pub record Call : Type 0 where
  pub answered : Reply
  pub report_slice : List ℕ
  pub work_slice : List ℕ

-- "What work held at entry changes nothing": the reply asks for its length alone
unfoldable pub call : ℕ → List ℕ → List ℕ → List ℕ → Call
call budget question work slice =
    let r : Reply = reply budget (length work) (length slice) question in
    record { answered = r; report_slice = report_after r slice; work_slice = work_after r budget work }

-- `unfolding memory_computes` opens every definition above, and those they rest on
unfoldable pub memory_computes : Unit {0}
unfolding report_after work_after call reply_computes
memory_computes = tt
