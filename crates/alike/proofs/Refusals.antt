-- What refuses a call, from 1 to 5 (a reading gives 4 or 5 alone): every other call is run; and so no reply has a code that is not listed, 16 among
-- these.
use mathlib.Core.Path.{◌≡◌, refl}
use mathlib.Core.Logic.{◌≢◌}
use mathlib.Core.Bool.{◌&&◌}
use mathlib.Core.List.{List}
use Prim.Native.Nat.{ℕ, ◌≤◌}
use lib.ListN.{length}
use lib.Dec.{T, leb}
use Rattle.definition.specs.Question.{Read, got, fault, Question, read_question}
use Rattle.definition.specs.Reply.{Reply, refusal, read_reply, reply}
use Rattle.laws.specs.Codes.{Late, reply_codes, Listed}
use Rattle.laws.specs.OtherBudgets.{Allowed, reply_with}
use Rattle.laws.specs.Count.{IsRun}
use Rattle.laws.proofs.Tried.{Tried, bad_budget, short_work, bad_length, is_read, tried}
use Rattle.laws.proofs.Never16.{run_listed, not_16}
use Rattle.alike.proofs.WellFormed.{IsFault, shape, name, four_or_five}

-- ## What none of 1 to 5 refuses is run

no_late : (c : ℕ) → T (leb 1 c && leb c 5) → Late c → ⊥
no_late c t e = rw e at t

pub late_is_run : (budget work room : ℕ) (ws : List ℕ) → Late (reply budget work room ws).code → (q : Question) × IsRun budget work ws q
unfolding read_reply refusal
late_is_run budget work room ws e = go (tried budget work room ws) e
  where
    early : {A : Type 0} {c : ℕ} → IsFault c → Late c → A
    early shape e = absurd (no_late 4 tt e)
    early name e = absurd (no_late 5 tt e)

    run : Allowed budget work → length ws ≤ 2048 → (r : Read Question) → read_question ws ≡ r → Late (read_reply budget room r).code
        → (q : Question) × IsRun budget work ws q
    run a few (got q p vs) read e = (q, record { allowed = a; few = few; place = p; rest = vs; read = read })
    run a few (fault c p) read e = early (four_or_five ws read) e

    go : {R : Reply} → Tried budget work room ws R → Late R.code → (q : Question) × IsRun budget work ws q
    go bad_budget e = absurd (no_late 1 tt e)
    go short_work e = absurd (no_late 2 tt e)
    go (bad_length a) e = absurd (no_late 3 tt e)
    go (is_read a few) e = run a few (read_question ws) refl e

pub six_is_run : (budget work room : ℕ) (ws : List ℕ) → (reply budget work room ws).code ≡ 6 → (q : Question) × IsRun budget work ws q
six_is_run budget work room ws e = late_is_run budget work room ws (rw e)

-- ## Every reply's code

fault_listed : {c : ℕ} → IsFault c → Listed c
fault_listed shape = tt
fault_listed name = tt

pub every_code : (budget work room : ℕ) (ws : List ℕ) → Listed (reply budget work room ws).code
unfolding read_reply reply_with refusal
every_code budget work room ws = go (tried budget work room ws)
  where
    read : (r : Read Question) → read_question ws ≡ r → Listed (read_reply budget room r).code
    read (got q p rest) e = run_listed budget room q
    read (fault c p) e = fault_listed (four_or_five ws e)

    go : {R : Reply} → Tried budget work room ws R → Listed R.code
    go bad_budget = tt
    go short_work = tt
    go (bad_length a) = tt
    go (is_read a few) = read (read_question ws) refl

pub never_16 : (budget work room : ℕ) (ws : List ℕ) → (reply budget work room ws).code ≢ 16
never_16 budget work room ws = not_16 reply_codes tt (every_code budget work room ws)
