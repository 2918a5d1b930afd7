-- From the entry's reply to a frame's bytes.
use mathlib.Core.Path.{◌≡◌, ap, ◌∙◌}
use mathlib.Core.List.{List, [], ◌∷◌, ◌++◌}
use Prim.Native.Nat.{ℕ, ◌+◌, ◌*◌, ◌≤◌}
use native.Mathlib.Omega.{arith}
use lib.ListN.{length, take}
use lib.Seq.{take_at}
use Rattle.definition.specs.Reply as definition
use Rattle.definition.specs.Reply.{reply}
use Rattle.definition.specs.Memory.{call}
use Rattle.definition.specs.Host.{words_of, bytes_of, numbers}
use Rattle.replies.specs.declared.Reply.{Reply}
use Rattle.replies.specs.Numbers.{Numbers, written_of}
use Rattle.entry.specs.Entry.{Replied}
use Rattle.wire.proofs.Bytes.{length_words, length_bytes}
use Rattle.replies.proofs.Lengths.{LengthTold, replies, length_written}
use Rattle.sized.proofs.Answering.{first_words}
use Rattle.replay.specs.declared.Frame.{Frame}
use Rattle.replay.specs.Replayed.{framed, FrameAnswered, Replayed}

-- words held what was read, then what they held before; the report slice goes on after the part that was lent
pub asked : {b w w' part t : List ℕ} {r : Reply} (f : Frame) (ws rest more : List ℕ) → length w ≡ f.work → length part ≡ f.report
    → ws ≡ words_of b f.count ++ rest → Replied f.budget (take f.count ws) w w' part t r → FrameAnswered f b (t ++ more) r
unfolding call
asked {b} {w} {w'} {part} {t} {r} f ws rest more lw lp e x =
    let q : take f.count ws ≡ words_of b f.count = rw e (take_at (words_of b f.count) rest f.count (length_words b f.count)) in
    let i : reply f.budget (length w) (length part) (take f.count ws) ≡ framed f b = rw (q, lw, lp) in
    let n : Numbers (framed f b) r = rw i at x.numbers in
    let k : LengthTold f.report (framed f b) = replies f.budget f.work f.report (words_of b f.count) in
    record { numbers = n; report = first_words part more k n (rw i at x.report); fits = omega (arith, length_written k n, k.within) }

pub replayed : {b s out ns : List ℕ} {r : Reply} {n : ℕ} (f : Frame) (rest : List ℕ) → FrameAnswered f b s r
    → ns ≡ r.code ∷ r.at ∷ r.len ∷ r.units ∷ [] → n ≡ written_of r → out ≡ bytes_of (ns ++ take n s) ++ rest → 16 + 4 * n ≤ length out
    → Replayed f b out (16 + 4 * n)
unfolding numbers
replayed {b} {s} {out} {ns} {r} {n} f rest a v w e h =
    let R : definition.Reply = framed f b in
    let k : LengthTold f.report R = replies f.budget f.work f.report (words_of b f.count) in
    let m : Numbers R r = a.numbers in
    let t : take n s ≡ R.report = rw w a.report in
    let o : out ≡ bytes_of (numbers R ++ R.report) ++ rest = rw (v, m.code, m.at, m.len, m.units, t) at e in
    let l : length (bytes_of (numbers R ++ R.report)) ≡ 16 + 4 * n = length_bytes (numbers R ++ R.report) ∙ omega (arith, w, length_written k m) in
    record { is = ap (take (16 + 4 * n)) o ∙ take_at (bytes_of (numbers R ++ R.report)) rest (16 + 4 * n) l; within = h }
