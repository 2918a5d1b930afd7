-- How many words a reply's report has: none on NoRoom, else as many as its length says; never more than there is room for.
use mathlib.Core.Path.{◌≡◌, refl, sym}
use mathlib.Core.Bool.{Bool, true, false, ◌&&◌}
use mathlib.Core.List.{List, []}
use mathlib.Core.Logic.{◌≢◌}
use Prim.Native.Nat.{ℕ, ◌-◌, ◌≤◌, ◌/◌, min}
use native.Mathlib.Omega.{arith}
use lib.ListN.{length}
use lib.Dec.{T, leb, eqb, leb→le}
use borrow.Author.Tests.{eq-eqb, ne_eqb}
use Rattle.definition.specs.Syntax.{pick}
use Rattle.definition.specs.Question.{Read, got, fault, Question, read_question}
use Rattle.definition.specs.Run.{Out, done, fail, stop}
use Rattle.definition.specs.Rules.{Result}
use Rattle.definition.specs.Reply.{Reply, most, refusal, reported, error_code, out_reply, read_reply, reply}
use Rattle.definition.specs.Host.{desk_reply, byte_reply, words_of}
use Rattle.laws.proofs.Steps.{pick_true, pick_false, pick_has}
use Rattle.laws.proofs.Codes.{error, not_seven}
use Rattle.replies.specs.declared.Reply as program
use Rattle.replies.specs.Numbers.{Numbers, written_of}

pub record LengthTold (room : ℕ) (R : Reply) : Type 0 where
  pub many : length R.report ≡ pick (eqb R.code 7) 0 R.len
  pub within : length R.report ≤ room

refused : (room c p u : ℕ) → LengthTold room (refusal c p u)
unfolding refusal pick
refused room c p u = record { many = go (eqb c 7); within = omega arith }
  where
    go : (b : Bool) → ◌≡◌ {A = ℕ} 0 (pick b 0 0)
    go true = refl
    go false = refl

reports : (room c p u : ℕ) (ws : List ℕ) → eqb c 7 ≡ false → LengthTold room (reported room c p u ws)
unfolding reported pick
reports room c p u ws e = go (leb (length ws) room) (leb (length ws) most) (leb→le (length ws) room)
  where
    go : (a b : Bool) → (T a → length ws ≤ room) → LengthTold room (pick (a && b) (record { code = c; at = p; len = length ws; units = u; report = ws }) (record { code = 7; at = 0; len = min (length ws) most; units = u; report = [] }))
    go true true h = record { many = rw e; within = h tt }
    go true false h = record { many = refl; within = omega arith }
    go false b h = record { many = refl; within = omega arith }

outs : (k budget room : ℕ) (o : Out Result) → LengthTold room (out_reply k budget room o)
unfolding out_reply
outs k budget room (done r l n) = reports room 0 0 (budget - l) _ refl
outs k budget room (fail e l) = reports room (error_code e.error) _ (budget - l) _ (not_seven (error e.error))
outs k budget room stop = refused room 6 0 budget

reads : (budget room : ℕ) (x : Read Question) → LengthTold room (read_reply budget room x)
unfolding read_reply
reads budget room (fault c p) = refused room c p 0
reads budget room (got q p ws) = outs q.kind budget room _

pub replies : (budget work room : ℕ) (ws : List ℕ) → LengthTold room (reply budget work room ws)
unfolding reply
replies budget work room ws =
    pick_has (LengthTold room) _ (refused room 1 0 0)
    (pick_has (LengthTold room) _ (refused room 2 0 0)
    (pick_has (LengthTold room) _ (refused room 3 0 0) (reads budget room (read_question ws))))

pub in_bytes : (room : ℕ) (b : List ℕ) → LengthTold (min room 4096) (byte_reply room b)
unfolding byte_reply desk_reply
in_bytes room b = pick_has (LengthTold (min room 4096)) _ (replies 384 16384 (min room 4096) (words_of b (length b / 4))) (refused (min room 4096) 3 0 0)

-- ## In the program's reply

pub none : (r : program.Reply) → r.code ≡ 7 → 0 ≡ written_of r
none r e = sym (pick_true 0 r.len (eq-eqb r.code 7 e))

pub some : (r : program.Reply) → r.code ≢ 7 → r.len ≡ written_of r
some r p = sym (pick_false 0 r.len (ne_eqb r.code 7 p))

pub length_written : {room : ℕ} {R : Reply} {r : program.Reply} → LengthTold room R → Numbers R r → length R.report ≡ written_of r
length_written t n = rw (n.code, n.len) t.many
