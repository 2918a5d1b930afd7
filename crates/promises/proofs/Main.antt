-- The three demands, and what orders 2, 5 and 8 ask to be shown, as theorems: what is read after the definition (crates/definition/specs). Each restates
-- the theorem behind its `=`. Further.antt has the other theorems of docs/THEOREMS.md, which says of each what it does not say. The words of the
-- statements:
--   Answered, Checked          what sporeflask_answer and sporeflask_check promise: crates/host/specs/Host.antt
--   SameAnswers, SameChecks    two calls return and leave the same: specs/Common.antt
--   SameReplies, SameTold      two calls of sporeflask_check, or one of each function, give the same reply: specs/Common.antt
--   AlikeAnswers, AlikeChecks  two calls return and leave the same but for paired names: specs/Common.antt
--   IsRun                      a call that none of 1 to 5 refuses, and the question that its words are: crates/laws/specs/Count.antt
--   Count                      the count of a run, a number or none: the same file
--   count_to                    a question's count as far as a bound, computed: the same file
--   Passes                     a count is none, or larger than a budget: the same file
--   Allowed                    a budget from 1 to 8,192, and work that is long enough for it: crates/laws/specs/OtherBudgets.antt
--   Settled                    a code that is none of 1, 2 and 6: the same file
--   Relettered                 two types that differ only in the names bound by Forall: crates/laws/specs/Letters.antt
--   Den, Base                  what a type reference denotes, by the question's words and by work below t: crates/layout/specs/Denotes.antt
--   mono_of                     the stored monotype mark of a type reference: crates/layout/specs/Monotypes.antt
--   Judged, Asks, Marked       what the six judgements' functions promise, are asked, and the marks in what they give: crates/judging/specs
--   AlikeQuestions             well-formed questions that are alike by a pairing of their names: crates/alike/specs/Alike.antt
--   Pairing, itself            a pairing of variables' and of types' names; the one of every name with itself: the same file
--   Change, pairing, change    new names and literals; how they pair the names; words with them: crates/alike/proofs/Changes.antt
-- b is a question's bytes, q its words, Q what they are read as; w and s are the slices before a call, w' and s' after it, ns the four numbers,
-- r what is returned; of two calls these are w₁, w₂ and so on, and v the second one's work. `get_or ns 3 0` is the fourth of ns.
use mathlib.Core.Path.{◌≡◌}
use mathlib.Core.Bool.{true, false}
use mathlib.Core.List.{List, [], map}
use mathlib.Core.Logic.{◌↔◌, ◌≢◌}
use mathlib.Core.Option.{Option, some}
use Prim.Native.Nat.{ℕ, ◌+◌, ◌-◌, ◌/◌, ◌%◌, ◌≤◌, ◌<◌, min}
use lib.ListN.{length, get_or}
use Rattle.definition.specs.Syntax.{Ty, Ctx, Judgement, Tree, parameter_mismatch}
use Rattle.definition.specs.Question.{Question}
use Rattle.definition.specs.Run.{done, fail, M}
use Rattle.definition.specs.Types.{is_mono, apply}
use Rattle.definition.specs.Rules.{judge, same_ty, parameter}
use Rattle.definition.specs.Reply.{Reply, answer, reply}
use Rattle.definition.specs.Memory.{report_after, work_after, call}
use Rattle.definition.specs.Host.{word_at, words_of, byte_reply, numbers, host_call}
use Rattle.laws.specs.OtherBudgets.{Allowed, Settled}
use Rattle.laws.specs.Count.{Count, count_to, Passes, IsRun}
use Rattle.laws.specs.Letters.{Relettered}
use Rattle.laws.proofs.Cases.{seen, asked, cases, letter_cases}
use Rattle.laws.proofs.LaterPasses.{calls}
use Rattle.laws.proofs as laws-proofs
use Rattle.alike.specs.Alike.{Pairing, itself, AlikeQuestions, WellFormed}
use Rattle.alike.proofs.Changes.{Change, pairing, change}
use Rattle.alike.proofs as alike-proofs
use Rattle.layout.specs.Monotypes.{mono_of}
use Rattle.layout.specs.Denotes.{Den, Base}
use Rattle.layout.specs.declared.Span.{Span}
use Rattle.layout.specs.declared.State.{State}
use Rattle.layout.proofs as layout-proofs
use Rattle.judging.specs.Asking.{here, Asks}
use Rattle.judging.specs.Ending.{Judged}
use Rattle.judging.specs.Marks.{Marked}
use Rattle.judging.specs.declared.Answer.{Answer}
use Rattle.judging.specs.declared.Ask.{Ask}
use Rattle.judging.specs.declared.Here.{Here}
use Rattle.std.specs.Prelude.{Ok}
use Rattle.judging.proofs as judging-proofs
use Rattle.host.specs.Host.{Answered, Checked}
use Rattle.promises.specs.Common.{SameReplies, SameChecks, SameAnswers, SameTold, AlikeChecks, AlikeAnswers}
use Rattle.promises.proofs as promises-proofs

-- # Demand 1: "Every question, made of any words, with any budget and buffers of any length, gets exactly one reply of document 01 and the
-- call ends. Nothing is left for the caller to have tested."

-- Both functions promise `Answered` and `Checked` and ask for nothing (crates/host/src/lib.rt; crates/promises/src/lib.rt calls them with nothing
-- known), and a proved function ends: its loops and cycles of calls have a number that falls. `answer_is`, `check_is`: all that is returned and
-- left is the definition's, on a refusal too. `one_answer`, `one_check`: no second reply meets the contract.
module _ (b s : List ℕ) where
  pub answer_is : {s' : List ℕ} {r : ℕ} → Answered b s s' r → (r ≡ (host_call b s).returns) × (s' ≡ (host_call b s).reply_slice)
  answer_is a = (a.returns, a.reply)

  pub one_answer : {s₁ s₂ : List ℕ} {r₁ r₂ : ℕ} → Answered b s s₁ r₁ → Answered b s s₂ r₂ → SameAnswers r₁ r₂ s₁ s₂
  one_answer = promises-proofs.One.one_answer

module _ (budget : ℕ) (q w s : List ℕ) where
  abbrev R : Reply
  R = reply budget (length w) (length s) q

  pub check_is : {w' s' ns : List ℕ} {r : ℕ} → Checked budget q w w' s s' ns r
      → (r ≡ R.code) × (ns ≡ numbers R) × (s' ≡ report_after R s) × (w' ≡ work_after R budget w)
  unfolding call
  check_is c = (c.returns, c.four, c.report, c.work)

  pub one_check : {w₁ w₂ s₁ s₂ n₁ n₂ : List ℕ} {r₁ r₂ : ℕ} → Checked budget q w w₁ s s₁ n₁ r₁ → Checked budget q w w₂ s s₂ n₂ r₂
      → SameChecks r₁ r₂ n₁ n₂ s₁ s₂ w₁ w₂
  one_check = promises-proofs.One.one_check

-- ## "running out of budget is reported when the counted work passes the budget and at no other time"

-- The count is computed as far as 8,192, the largest budget. `check_6_is_run`, `answer_6_is_run`: what gets 6 is run, and not refused by 1 to 5.
module _ {budget : ℕ} {q w w' s s' ns : List ℕ} {r : ℕ} (c : Checked budget q w w' s s' ns r) where
  pub check_6_exactly_past_count : {Q : Question} → IsRun budget (length w) q Q → (r ≡ 6) ↔ Passes (count_to 8192 Q) budget
  check_6_exactly_past_count run = promises-proofs.Count.check_6_exactly_past_count run c

  pub check_6_is_run : r ≡ 6 → (Q : Question) × IsRun budget (length w) q Q
  check_6_is_run = promises-proofs.Count.check_6_is_run c

  -- "Units equal this count in the definition." Units are the fourth number.
  pub check_units_are_the_count : {Q : Question} → IsRun budget (length w) q Q → r ≢ 6 → Count (answer Q) 0 (some (get_or ns 3 0))
  check_units_are_the_count run = promises-proofs.Count.check_units_are_the_count run c

module _ {b s s' : List ℕ} {r : ℕ} (a : Answered b s s' r) where
  pub answer_6_exactly_past_count : {Q : Question} → 16 ≤ length s → length b % 4 ≡ 0 → IsRun 384 16384 (words_of b (length b / 4)) Q
      → (r ≡ 6) ↔ Passes (count_to 8192 Q) 384
  answer_6_exactly_past_count room whole run = promises-proofs.Count.answer_6_exactly_past_count room whole run a

  pub answer_6_is_run : r ≡ 6 → (16 ≤ length s) × (length b % 4 ≡ 0) × ((Q : Question) × IsRun 384 16384 (words_of b (length b / 4)) Q)
  answer_6_is_run = promises-proofs.Count.answer_6_is_run a

-- a run has one count at most
pub one_count : {A : Type 0} {m : M A} {n : ℕ} {c c' : Option ℕ} → Count m n c → Count m n c' → c ≡ c'
one_count = laws-proofs.Count.one_count

-- # Demand 2: "They are proved against a definition of document 01's rules and run against the Rust"

-- Proved: `answer_is` and `check_is`, in both modes. That the definition is the Rust in plain mode is run, and not proved: docs/EVIDENCE.md.

-- "Cases (a) to (o) are one proved table under a single theorem": crates/laws/proofs/Cases.antt
pub fifteen : map (λ c. seen (asked c) c.2) cases ≡ map (λ c. c.2) cases
fifteen = laws-proofs.Cases.fifteen

-- The Rust passes until nothing changes, the definition once: "Later passes of apply_ctx_type change nothing". B came of a pass; a pass over B
-- gives B again, for a unit for each part of B (`calls`, crates/laws/proofs/LaterPasses.antt).
pub later_pass : (Γ : Ctx) (A B : Ty) (l n l' n' k : ℕ) → apply Γ A l n ≡ done B l' n' → apply Γ B (calls Γ B + k) n ≡ done B k n
later_pass = laws-proofs.LaterPasses.later_pass

-- # Demand 3: "two well-formed questions, alike except in the values of literals and in names, where variable names pair one to one and type
-- names pair one to one .. get .. replies alike word by word but for paired names. No such reply depends on a literal's value."

-- sporeflask_check, with the same budget and slices; alike questions have the same mode, alike replies the same number, length and units
module _ {budget : ℕ} {q q' w s w₁ w₂ s₁ s₂ n₁ n₂ : List ℕ} {r₁ r₂ : ℕ} where
  pub checks_alike : {P : Pairing} → AlikeQuestions P q q' → Checked budget q w w₁ s s₁ n₁ r₁ → Checked budget q' w w₂ s s₂ n₂ r₂
      → AlikeChecks P (call budget q w s).answered (call budget q' w s).answered r₁ r₂ n₁ n₂ s₁ s₂ w₁ w₂
  checks_alike h = promises-proofs.Demand3.checks_alike h

  pub check_no_literal : AlikeQuestions itself q q' → Checked budget q w w₁ s s₁ n₁ r₁ → Checked budget q' w w₂ s s₂ n₂ r₂
      → SameChecks r₁ r₂ n₁ n₂ s₁ s₂ w₁ w₂
  check_no_literal h = promises-proofs.Demand3.check_no_literal h

-- sporeflask_answer, with questions of whole words and the same reply slice
module _ {b b' s s₁ s₂ : List ℕ} {r₁ r₂ : ℕ} (whole : length b % 4 ≡ 0) (whole' : length b' % 4 ≡ 0) where
  pub answers_alike : {P : Pairing} → AlikeQuestions P (words_of b (length b / 4)) (words_of b' (length b' / 4)) → Answered b s s₁ r₁ → Answered b' s s₂ r₂
      → AlikeAnswers P (byte_reply ((length s - 16) / 4) b) (byte_reply ((length s - 16) / 4) b') r₁ r₂ s₁ s₂
  answers_alike h = promises-proofs.Demand3.answers_alike whole whole' h

  pub answer_no_literal : AlikeQuestions itself (words_of b (length b / 4)) (words_of b' (length b' / 4)) → Answered b s s₁ r₁ → Answered b' s s₂ r₂
      → SameAnswers r₁ r₂ s₁ s₂
  answer_no_literal h = promises-proofs.Demand3.answer_no_literal whole whole' h

-- No well-formed question, no renaming and no literal is left out: every well-formed question is alike itself, and itself with its names
-- renamed one to one and its literals changed. (Which questions are not alike: `decided`, in Further.)
abbrev pub alike_itself : {q : List ℕ} → WellFormed q → AlikeQuestions itself q q
alike_itself = alike-proofs.WellFormed.alike_itself

pub changed : (c : Change) {q : List ℕ} (h : WellFormed q) → AlikeQuestions (pairing c) q (change c (alike_itself h).labels q)
changed = alike-proofs.Changes.changed

-- # Order 2: "Strict parameters are equal when they differ only in the names bound by Forall. A bound name is not a free one of the same number,
-- and Var is not ETVar. Plain mode is untouched; demand 3 is proved again for strict."

-- Demand 3's theorems above are of both modes. Exactly where bound names alone differ does `same_ty []` hold, which compares strict parameters
-- (crates/definition/specs/Rules.antt); what ChkLam then comes to, where the context applied to the expected P is P': it goes on with what
-- application left of the budget, or refuses with both types. Plain mode does nothing there.
pub only_bound_names : (A B : Ty) → (same_ty [] A B ≡ true) ↔ Relettered A B
only_bound_names = laws-proofs.Letters.only_bound_names

pub strict_parameter : (Γ : Ctx) (A P : Ty) {P' : Ty} (l n : ℕ) {l' n' : ℕ} → apply Γ P l n ≡ done P' l' n'
    → (Relettered A P' → parameter true Γ A P l n ≡ done tt l' n') × ((Relettered A P' → ⊥) → parameter true Γ A P l n ≡ fail (parameter_mismatch A P') l')
strict_parameter = laws-proofs.Letters.strict_parameter

pub plain_parameter : (Γ : Ctx) (A P : Ty) (l n : ℕ) → parameter false Γ A P l n ≡ done tt l n
plain_parameter = laws-proofs.Letters.plain_parameter

-- the order's cases as one table: crates/laws/proofs/Cases.antt
pub other_letters : map (λ c. seen (asked c) c.2) letter_cases ≡ map (λ c. c.2) letter_cases
other_letters = laws-proofs.Cases.other_letters

-- # Order 5: "The number that nobody gets. .. Show that no question in either mode draws 16"

-- of every budget, work, room and list of words, the mode among them; neither returned nor told as the first of the four numbers
pub never_16 : (budget work room : ℕ) (q : List ℕ) → (reply budget work room q).code ≢ 16
never_16 = alike-proofs.Refusals.never_16

pub check_never_16 : {budget : ℕ} {q w w' s s' ns : List ℕ} {r : ℕ} → Checked budget q w w' s s' ns r → (r ≢ 16) × (get_or ns 0 0 ≢ 16)
check_never_16 = promises-proofs.Never16.check_never_16

pub answer_never_16 : {b s s' : List ℕ} {r : ℕ} → Answered b s s' r → (r ≢ 16) × (16 ≤ length s → word_at s' 0 ≢ 16)
answer_never_16 = promises-proofs.Never16.answer_never_16

-- ## "a question answered at one budget, with any code except 1, 2 and 6, gets the same reply at every larger one that document 01 allows, given
-- the same report slice and enough work"

-- sporeflask_check, called twice with the same question and report slice. At a smaller budget it gives the same too, or 6, and 6 exactly where that
-- budget is less than the first call's units, the fourth number.
module _ {budget budget' : ℕ} {q w v w₁ v₂ s s₁ s₂ n₁ n₂ : List ℕ} {r₁ r₂ : ℕ} (c : Checked budget q w w₁ s s₁ n₁ r₁)
    (c' : Checked budget' q v v₂ s s₂ n₂ r₂) (settled : Settled r₁) (allowed : Allowed budget' (length v)) where
  pub check_same_at_larger_budget : budget ≤ budget' → SameReplies r₁ r₂ n₁ n₂ s₁ s₂
  check_same_at_larger_budget = promises-proofs.OtherBudgets.check_same_at_larger_budget c c' settled allowed

  pub check_same_from_its_units : get_or n₁ 3 0 ≤ budget' → SameReplies r₁ r₂ n₁ n₂ s₁ s₂
  check_same_from_its_units = promises-proofs.OtherBudgets.check_same_from_its_units c c' settled allowed

  pub check_6_exactly_below_its_units : (r₂ ≡ 6) ↔ (budget' < get_or n₁ 3 0)
  check_6_exactly_below_its_units = promises-proofs.OtherBudgets.check_6_exactly_below_its_units c c' settled allowed

-- sporeflask_answer, whose budget is 384, and sporeflask_check with the question's words and a report slice t that has as much room: what the first
-- gave, unless 6, the second gives with 384 or more; and what the second gave with any allowed budget, unless 6, tells what the first gives
module _ {budget : ℕ} {b s s' w w' t t' ns : List ℕ} {r r' : ℕ} (a : Answered b s s' r) (c : Checked budget (words_of b (length b / 4)) w w' t t' ns r')
    (long : 16 ≤ length s) (whole : length b % 4 ≡ 0) (room : length t ≡ min ((length s - 16) / 4) 4096) (allowed : Allowed budget (length w)) where
  pub answer_same_at_larger_budget : r ≢ 6 → 384 ≤ budget → SameTold r r' ns s s' t t'
  answer_same_at_larger_budget = promises-proofs.OtherBudgets.answer_same_at_larger_budget a c long whole room allowed

  pub answer_same_from_its_units : r' ≢ 6 → get_or ns 3 0 ≤ 384 → SameTold r r' ns s s' t t'
  answer_same_from_its_units = promises-proofs.OtherBudgets.answer_same_from_its_units a c long whole room allowed

  pub answer_6_exactly_below_its_units : r' ≢ 6 → (r ≡ 6) ↔ (384 < get_or ns 3 0)
  answer_6_exactly_below_its_units = promises-proofs.OtherBudgets.answer_6_exactly_below_its_units a c long whole room allowed

-- # Order 8: "Each type record keeps this as a stored yes or no .. Prove that the stored mark always equals the walk."

-- whatever a type reference denotes; that all references of a run denote types is in the contracts. `judged_marks`: so of those that a judgement
-- gives
pub mono_is_walk : {q w : List ℕ} {t r : ℕ} {T : Ty} → Base q w t → Den q w t r T → mono_of w r ≡ is_mono T
mono_is_walk = layout-proofs.Denotes.mono_is_walk

pub judged_marks : {h : Here} {q w w₁ : List ℕ} {s : State} {g : Span} {a : Ask} {b : Answer} {j : Judgement} {C : Ty} {Δ : Ctx} {t : Tree} {l n : ℕ}
    → Judged h q w w₁ s g a (Ok b) → Asks q w s.top g a j → judge (here h) j s.left s.fresh ≡ done (C, Δ, t) l n → Marked w₁ b C Δ
judged_marks = judging-proofs.Whole.judged_marks
