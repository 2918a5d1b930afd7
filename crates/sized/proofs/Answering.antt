-- From words read to the reply in bytes.
use mathlib.Core.Path.{◌≡◌, refl, sym, ap, ◌∙◌}
use mathlib.Core.Bool.{Bool, true, false}
use mathlib.Core.List.{List, ◌++◌, append_assoc}
use mathlib.Core.Logic.{◌≢◌}
use Prim.Native.Nat.{ℕ, ◌*◌, ◌/◌, ◌%◌, ◌≤◌, ◌<◌, min}
use native.Mathlib.Omega.{arith}
use native.Mathlib.Nat.{lt_of_not-le}
use native.Mathlib.Decide.{dec_le}
use lib.ListN.{length, take, drop}
use lib.Seq.{take_at, take_all, length-take-le}
use lib.Dec.{eqb}
use borrow.Author.Tests.{ne_eqb}
use Rattle.definition.specs.Syntax.{pick}
use Rattle.definition.specs.Reply.{Reply, refusal, reply, work_words}
use Rattle.definition.specs.Memory.{report_after, call}
use Rattle.definition.specs.Host.{words_of, desk_reply, byte_reply}
use Rattle.laws.proofs.Steps.{pick_true, pick_false}
use Rattle.replies.specs.declared.Reply as program
use Rattle.replies.specs.Numbers.{Numbers, written_of}
use Rattle.replies.proofs.Lengths.{LengthTold, in_bytes, length_written}
use Rattle.entry.specs.Entry.{Replied}
use Rattle.entry.proofs.Refusing.{too_long}
use Rattle.wire.proofs.Bytes.{length_words}
use Rattle.sized.specs.Sized.{BytesAnswered, Told}

-- ## BadLength

-- nothing is written
pub refused : {b s : List ℕ} → byte_reply (length s) b ≡ refusal 3 0 0 → BytesAnswered b s s (record { code = 3; at = 0; len = 0; units = 0 })
unfolding refusal report_after
refused e = record { numbers = record { code = rw e; at = rw e; len = rw e; units = rw e }; report = rw e }

pub too_many : (room : ℕ) (b : List ℕ) → 2048 < length b / 4 → byte_reply room b ≡ refusal 3 0 0
unfolding byte_reply desk_reply work_words pick
too_many room b h = go (eqb (length b % 4) 0)
  where
    ws : List ℕ
    ws = words_of b (length b / 4)

    long : reply 384 16384 (min room 4096) ws ≡ refusal 3 0 0
    long = too_long 384 16384 (min room 4096) ws (omega arith) (omega arith) (omega arith) (omega (arith, length_words b (length b / 4)))

    go : (x : Bool) → pick x (reply 384 16384 (min room 4096) ws) (refusal 3 0 0) ≡ refusal 3 0 0
    go true = long
    go false = refl

pub not_whole : (room : ℕ) (b : List ℕ) → 4 * (length b / 4) ≢ length b → byte_reply room b ≡ refusal 3 0 0
unfolding byte_reply
not_whole room b h = pick_false _ _ (ne_eqb (length b % 4) 0 (λ e. h (omega arith)))

cut : (input : List ℕ) → 8196 < length input → byte_reply 4096 (take 8196 input) ≡ byte_reply 4096 input
cut input h =
    let e : length (take 8196 input) ≡ 8196 = length-take-le 8196 input (omega arith) in
    too_many 4096 (take 8196 input) (omega arith) ∙ sym (too_many 4096 input (omega arith))

-- a longer input is answered as its first 8,196 bytes, which the desk program reads
pub read_enough : (input : List ℕ) → byte_reply 4096 (take 8196 input) ≡ byte_reply 4096 input
read_enough input =
    elim (dec_le (length input) 8196) [
      | yes h ↦ ap (byte_reply 4096) (take_all 8196 input h)
      | no h ↦ cut input (lt_of_not-le h)
    ]

-- ## Whole words

pub whole : (room : ℕ) (b : List ℕ) → length b % 4 ≡ 0 → byte_reply room b ≡ reply 384 16384 (min room 4096) (words_of b (length b / 4))
unfolding byte_reply desk_reply
whole room b k = rw k (pick_true _ _ refl)

-- words held what was read, then what they held before
pub asked : {b w w' s s' : List ℕ} (ws rest : List ℕ) {r : program.Reply} → 4 * (length b / 4) ≡ length b → length w ≡ 16384 → length s ≤ 4096
    → ws ≡ words_of b (length b / 4) ++ rest → Replied 384 (take (length b / 4) ws) w w' s s' r → BytesAnswered b s s' r
unfolding call
asked {b} {w} {w'} {s} {s'} ws rest h l m e x =
    let q : take (length b / 4) ws ≡ words_of b (length b / 4) = rw e (take_at (words_of b (length b / 4)) rest (length b / 4) (length_words b (length b / 4))) in
    let z : length b % 4 ≡ 0 = omega (arith, h) in
    let c : min (length s) 4096 ≡ length s = omega (arith, m) in
    let f : reply 384 (length w) (length s) (take (length b / 4) ws) ≡ byte_reply (length s) b = rw (q, l) (sym (rw c at (whole (length s) b z))) in
    record { numbers = rw (← f) x.numbers; report = rw (← f) x.report }

-- ## The report's first words

-- they are the report, in a slice that goes on after the part that was lent
pub first_words : {R : Reply} {t : List ℕ} {r : program.Reply} {room : ℕ} (part rest : List ℕ) → LengthTold room R → Numbers R r → t ≡ report_after R part
    → take (written_of r) (t ++ rest) ≡ R.report
unfolding report_after
first_words {R} {t} {r} part rest k n e =
    rw e (ap (take (written_of r)) (append_assoc R.report (drop (length R.report) part) rest)
    ∙ take_at R.report _ (written_of r) (length_written k n))

pub within : {b part t : List ℕ} {r : program.Reply} (room : ℕ) (rest : List ℕ) → length part ≡ room → room ≤ 4096
    → BytesAnswered b part t r → Told b room (t ++ rest) r
within {b} {part} {t} {r} room rest l h a =
    let R : Reply = byte_reply room b in
    let n : Numbers R r = rw l at a.numbers in
    let e : t ≡ report_after R part = rw l at a.report in
    let k : LengthTold (min room 4096) R = in_bytes room b in
    record { numbers = n; report = first_words part rest k n e; fits = omega (arith, length_written k n, k.within) }
