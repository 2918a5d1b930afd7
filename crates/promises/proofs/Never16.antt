-- "no question in either mode draws 16", through the contracts: what both functions for C return is listed, but for 8, and 16 is not.
use mathlib.Core.Path.{◌≡◌, refl}
use mathlib.Core.Logic.{◌≢◌}
use mathlib.Core.Bool.{Bool, true, false, ◌&&◌, ◌||◌}
use mathlib.Core.List.{List, [], ◌∷◌, ◌++◌}
use Prim.Native.Nat.{ℕ, ◌-◌, ◌/◌, ◌≤◌, min}
use native.Mathlib.Omega.{arith}
use lib.ListN.{length, get_or}
use lib.Dec.{T, ltb, eqb, leb}
use mir.Facts.{no_ltb}
use borrow.Author.Tests.{eqb-true, leb-true}
use Rattle.definition.specs.Syntax.{pick}
use Rattle.definition.specs.Reply.{Reply, refusal}
use Rattle.definition.specs.Memory.{call}
use Rattle.definition.specs.Host.{word_at, words_of, bytes_of, desk_reply, byte_reply, numbers, HostCall, host_call}
use Rattle.laws.specs.Codes.{reply_codes, is_one_of, Listed}
use Rattle.laws.proofs.Steps.{is_false, pick_has}
use Rattle.laws.proofs.Never16.{not_16}
use Rattle.alike.proofs.Refusals.{every_code, never_16}
use Rattle.host.specs.Host.{Answered, Checked}

-- ## sporeflask_check

pub check_code : {budget : ℕ} {q w w' s s' ns : List ℕ} {r : ℕ} → Checked budget q w w' s s' ns r → Listed r
unfolding call
check_code {budget} {q} {w} {s = s} c = rw c.returns (every_code budget (length w) (length s) q)

-- neither returned nor the first of the four numbers
pub check_never_16 : {budget : ℕ} {q w w' s s' ns : List ℕ} {r : ℕ} → Checked budget q w w' s s' ns r → (r ≢ 16) × (get_or ns 0 0 ≢ 16)
unfolding call numbers
check_never_16 {budget} {q} {w} {s = s} c =
    (not_16 reply_codes tt (check_code c), rw c.four (never_16 budget (length w) (length s) q))

-- ## sporeflask_answer

byte_listed : (room : ℕ) (b : List ℕ) → Listed (byte_reply room b).code
unfolding byte_reply desk_reply refusal
byte_listed room b = pick_has (λ (R : Reply). Listed R.code) _ (every_code 384 16384 (min room 4096) (words_of b (length b / 4))) tt

pub answer_code : {b s s' : List ℕ} {r : ℕ} → Answered b s s' r → T (is_one_of r (8 ∷ reply_codes))
unfolding host_call pick
answer_code {b} {s} a = rw a.returns (go (ltb (length s) 16) _)
  where
    R : Reply
    R = byte_reply ((length s - 16) / 4) b

    more : (x : Bool) → Listed R.code → T (x || is_one_of R.code reply_codes)
    more true h = tt
    more false h = h

    go : (short : Bool) (t : List ℕ)
        → T (is_one_of (pick {A = HostCall} short (record { returns = 8; reply_slice = s }) (record { returns = R.code; reply_slice = t })).returns (8 ∷ reply_codes))
    go true t = tt
    go false t = more (eqb R.code 8) (byte_listed ((length s - 16) / 4) b)

-- a number that is one of some is no larger than what none of them passes
all_up_to : List ℕ → ℕ → Bool
all_up_to [] m = true
all_up_to (d ∷ ds) m = leb d m && all_up_to ds m

no_larger : {c : ℕ} (ds : List ℕ) {m : ℕ} → T (all_up_to ds m) → T (is_one_of c ds) → c ≤ m
unfolding all_up_to
no_larger [] s k = absurd k
no_larger {c} (d ∷ ds) {m} s k = go (eqb c d) refl (leb d m) refl s k (no_larger ds)
  where
    go : (x : Bool) → eqb c d ≡ x → (y : Bool) → leb d m ≡ y → T (y && all_up_to ds m) → T (x || is_one_of c ds)
        → (T (all_up_to ds m) → T (is_one_of c ds) → c ≤ m) → c ≤ m
    go x e false f s k rest = absurd s
    go true e true f s k rest = rw (eqb-true c d e) (leb-true d m f)
    go false e true f s k rest = rest s k

-- so that a code's first byte is all of it
first_word : {c : ℕ} (ws rest : List ℕ) → Listed c → word_at (bytes_of (c ∷ ws) ++ rest) 0 ≡ c
unfolding word_at bytes_of all_up_to
first_word {c} ws rest h = let small : c ≤ 255 = no_larger reply_codes tt h in omega arith

-- neither returned nor the first word of the reply
pub answer_never_16 : {b s s' : List ℕ} {r : ℕ} → Answered b s s' r → (r ≢ 16) × (16 ≤ length s → word_at s' 0 ≢ 16)
unfolding host_call numbers pick
answer_never_16 {b} {s} a =
    let code = byte_listed ((length s - 16) / 4) b in (
      not_16 (8 ∷ reply_codes) tt (answer_code a),
      λ h. rw (a.reply, is_false (ltb (length s) 16) (no_ltb h), first_word _ _ code) (not_16 reply_codes tt code),
    )
