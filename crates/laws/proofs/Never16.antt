-- No run ends in InstantiationError, in any mode, whatever the budget, and no question that is run gets 16: `solve` would refuse with it only
-- where a type is no monotype, and Arrow and Forall have rules of their own.
use mathlib.Core.Logic.{◌≢◌}
use mathlib.Core.Bool.{Bool, true, false, not}
use mathlib.Core.List.{List}
use Prim.Native.Nat.{ℕ, ◌-◌}
use lib.Dec.{T, leb}
use Rattle.definition.specs.Syntax.{pick, Ty, Ctx, Judgement}
use Rattle.definition.specs.Question.{Question}
use Rattle.definition.specs.Run.{Out, done, fail, stop, M, and_then, ◌>>=◌, give, refuse, halt, charge, fresh}
use Rattle.definition.specs.Types.{apply}
use Rattle.definition.specs.Rules.{Result, Here, judge_by, judge}
use Rattle.definition.specs.Reply.{Reply, refusal, reported, answer, out_reply}
use Rattle.laws.specs.Codes.{is_one_of, Listed, EndsListed}
use Rattle.laws.specs.OtherBudgets.{reply_with}
use Rattle.laws.proofs.Steps.{pick_has}
use Rattle.laws.proofs.Congruence.{Compatible, rule_congruent, apply_to_r, judge_to_r, answer_r}

-- of m alone; the second run is there since a relation is of two
record OnlyListed (A : Type 0) (m m' : M A) : Type 0 where
  ends : (l n : ℕ) → EndsListed (m l n)

then_listed : {A B : Type 0} (o : Out A) (f : A → M B) → EndsListed o → ((a : A) (l n : ℕ) → EndsListed (f a l n)) → EndsListed (and_then o f)
unfolding and_then
then_listed (done a l n) f p h = h a l n
then_listed (fail e l) f p h = p
then_listed stop f p h = tt

charge_listed : (b : Bool) (l n : ℕ) → EndsListed (pick b (done (tt {0}) l n) stop)
unfolding pick
charge_listed true l n = tt
charge_listed false l n = tt

only_listed : Compatible OnlyListed
unfolding give refuse fresh charge ◌>>=◌
only_listed = record {
  give_r = λ a. record { ends = λ l n. tt };
  refuse_r = λ e d. record { ends = λ l n. d };
  fresh_r = record { ends = λ l n. tt };
  charge_r = λ c. record { ends = λ l n. charge_listed (leb c l) (l - c) n };
  bind_r = λ {A} {B} {m} {m'} {f} {f'} hm hf. record { ends = λ l n. then_listed (m l n) f (hm.ends l n) (λ a. (hf a).ends) };
}

halt_listed : (A : Type 0) → OnlyListed A halt halt
unfolding halt
halt_listed A = record { ends = λ l n. tt }

apply_listed : (Γ : Ctx) (A : Ty) → OnlyListed Ty (apply Γ A) (apply Γ A)
unfolding apply
apply_listed Γ A = record { ends = λ l n. (apply_to_r OnlyListed only_listed halt_listed l Γ A).ends l n }

judge_listed : (h : Here) (j : Judgement) → OnlyListed Result (judge h j) (judge h j)
unfolding judge_by
judge_listed h j = record { ends = λ l n. (judge_to_r OnlyListed only_listed halt_listed apply_listed rule_congruent l h j).ends l n }

-- each of the six judgements, whatever it runs in, with any budget and any fresh names taken; and what a question asks
pub judgement_listed : (h : Here) (j : Judgement) (l n : ℕ) → EndsListed (judge h j l n)
judgement_listed h j l n = (judge_listed h j).ends l n

pub answer_listed : (q : Question) (l n : ℕ) → EndsListed (answer q l n)
answer_listed q l n = (answer_r OnlyListed only_listed halt_listed apply_listed judge_listed q).ends l n

-- ## The codes of replies to what is run

reported_listed : (room c p u : ℕ) (ws : List ℕ) → Listed c → Listed (reported room c p u ws).code
unfolding reported
reported_listed room c p u ws h = pick_has (λ (R : Reply). Listed R.code) _ h tt

out_listed : (kind b room : ℕ) (o : Out Result) → EndsListed o → Listed (out_reply kind b room o).code
unfolding out_reply refusal
out_listed kind b room (done r l n) h = reported_listed room 0 0 _ _ tt
out_listed kind b room (fail e l) h = reported_listed room _ _ _ _ h
out_listed kind b room stop h = tt

pub run_listed : (budget room : ℕ) (q : Question) → Listed (reply_with budget room q).code
unfolding reply_with
run_listed budget room q = out_listed q.kind budget room (answer q budget 0) (answer_listed q budget 0)

-- a code that is one of cs, where 16 is not
pub not_16 : {c : ℕ} (cs : List ℕ) → T (not (is_one_of 16 cs)) → T (is_one_of c cs) → c ≢ 16
not_16 cs h k e = let z : T (is_one_of 16 cs) = rw e at k in not_both (is_one_of 16 cs) h z
  where
    not_both : (b : Bool) → T (not b) → T b → ⊥
    not_both true h k = h
    not_both false h k = k
