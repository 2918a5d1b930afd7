-- From the reply in words to the reply slice.
use mathlib.Core.Path.{◌≡◌, ap, ◌∙◌}
use mathlib.Core.List.{List, ◌++◌}
use Prim.Native.Nat.{ℕ, suc, ◌+◌, ◌-◌, ◌*◌, ◌/◌, ◌≤◌, ◌<◌, min}
use native.Mathlib.Omega.{arith}
use lib.ListN.{length, take, drop}
use borrow.Author.Tests.{lt-ltb, le-ltb}
use Rattle.definition.specs.Syntax.{pick}
use Rattle.definition.specs.Reply.{Reply}
use Rattle.definition.specs.Host.{bytes_of, desk_reply, byte_reply, numbers, host_call}
use Rattle.replies.specs.declared.Reply as program
use Rattle.replies.specs.Numbers.{Numbers, written_of}
use Rattle.entry.specs.Entry.{Replied}
use Rattle.sized.specs.Sized.{Told}
use Rattle.host.specs.Host.{Answered, Checked, numbers_of}

-- ## The call

pub short : {b s : List ℕ} → length s < 16 → Answered b s s 8
unfolding host_call pick
short {b} {s} h = let t = lt-ltb (length s) 16 h in record { returns = rw t; reply = rw t }

capped : (room : ℕ) (b : List ℕ) → byte_reply (min room 4096) b ≡ byte_reply room b
unfolding byte_reply desk_reply
capped room b = let e : min (min room 4096) 4096 ≡ min room 4096 = omega arith in rw e

pub answered : {b s s' rep ns : List ℕ} {r : program.Reply} {room n : ℕ} → 16 ≤ length s → room ≡ min ((length s - 16) / 4) 4096 → Told b room rep r
    → ns ≡ numbers_of r → n ≡ written_of r → s' ≡ bytes_of (ns ++ take n rep) ++ drop (16 + 4 * length (take n rep)) s → Answered b s s' r.code
unfolding host_call pick numbers
answered {b} {s} {s'} {rep} {ns} {r} {room} {n} h e t v w f =
    let R : Reply = byte_reply ((length s - 16) / 4) b in
    let i : byte_reply room b ≡ R = ap (λ (m : ℕ). byte_reply m b) e ∙ capped ((length s - 16) / 4) b in
    let p : Numbers R r = rw i at t.numbers in
    let q : take n rep ≡ R.report = rw w (rw i at t.report) in
    let l = le-ltb (length s) 16 h in
    let k : 16 + 4 * length R.report ≡ 4 * suc (suc (suc (suc (length R.report)))) = omega arith in
    record { returns = rw l p.code; reply = f ∙ rw (l, v, q, p.code, p.at, p.len, p.units, k) }

-- ## The numbers of the free function

pub checked : {budget : ℕ} {q w w' s s' : List ℕ} {r : program.Reply} → Replied budget q w w' s s' r
    → Checked budget q w w' s s' (numbers_of r) r.code
unfolding numbers
checked a =
    let n = a.numbers in
    record {
      returns = n.code;
      four = rw (n.code, n.at, n.len, n.units);
      report = a.report;
      work = a.work;
    }

pub checked_in : {budget : ℕ} {q w w' s s' ns : List ℕ} {r : program.Reply} → ns ≡ numbers_of r → Replied budget q w w' s s' r
    → Checked budget q w w' s s' ns r.code
checked_in e a = rw e (checked a)
