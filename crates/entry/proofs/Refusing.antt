-- Refusals 1 to 5, and what is left where none of 1, 2, 3 is given.
use mathlib.Core.Path.{◌≡◌, refl, ◌∙◌}
use mathlib.Core.Bool.{Bool, true, false, ◌||◌}
use mathlib.Core.List.{List}
use mathlib.Core.Logic.{◌≢◌}
use Prim.Native.Nat.{ℕ, ◌≤◌, ◌<◌}
use native.Mathlib.Omega.{arith}
use lib.ListN.{length}
use lib.Dec.{leb, ltb, eqb, le→leb, lt→ltb, eqb_refl}
use mir.Facts.{no_ltb, no_eqb}
use Rattle.definition.specs.Syntax.{pick}
use Rattle.definition.specs.Question.{fault, read_question}
use Rattle.definition.specs.Reply.{refusal, read_reply, work_words, reply}
use Rattle.definition.specs.Memory.{report_after, work_after, call}
use Rattle.laws.proofs.Steps.{is_true, is_false}
use Rattle.entry.specs.Entry.{Replied}

-- ## A refusal leaves both slices as they were

pub refused : (budget : ℕ) (q w s : List ℕ) (c p : ℕ) → reply budget (length w) (length s) q ≡ refusal c p 0 → 1 ≤ c → c ≤ 5
    → Replied budget q w w s s (record { code = c; at = p; len = 0; units = 0 })
unfolding call report_after work_after refusal pick
refused budget q w s c p e l h = record {
  numbers = record { code = rw e; at = rw e; len = rw e; units = rw e };
  report = rw e;
  work = rw (e, is_true (leb 1 c) (le→leb 1 c l), is_true (leb c 5) (le→leb c 5 h));
}

-- ## The tests

lt_true : (a b : ℕ) → a < b → ltb a b ≡ true
lt_true a b h = is_true (ltb a b) (lt→ltb a b h)

lt_false : (a b : ℕ) → b ≤ a → ltb a b ≡ false
lt_false a b h = is_false (ltb a b) (no_ltb h)

zero_true : (n : ℕ) → n < 1 → eqb n 0 ≡ true
zero_true n h = let e : n ≡ 0 = omega arith in rw e (is_true (eqb 0 0) (eqb_refl 0))

zero_false : (n : ℕ) → 1 ≤ n → eqb n 0 ≡ false
zero_false n h = let p : n ≢ 0 = λ e. omega arith in is_false (eqb n 0) (no_eqb p)

or_true : (b : Bool) → (b || true) ≡ true
or_true true = refl
or_true false = refl

module _ (budget work room : ℕ) (ws : List ℕ) where
  pub no_budget : budget < 1 → reply budget work room ws ≡ refusal 1 0 0
  unfolding reply pick
  no_budget h = rw (zero_true budget h)

  pub large_budget : 8192 < budget → reply budget work room ws ≡ refusal 1 0 0
  unfolding reply pick
  large_budget h = rw (lt_true 8192 budget h, or_true (eqb budget 0))

  module _ (low : 1 ≤ budget) (high : budget ≤ 8192) where
    pub short_work : work < work_words budget → reply budget work room ws ≡ refusal 2 0 0
    unfolding reply pick
    short_work h = rw (zero_false budget low, lt_false 8192 budget high, lt_true work (work_words budget) h)

    module _ (enough : work_words budget ≤ work) where
      pub no_words : length ws < 1 → reply budget work room ws ≡ refusal 3 0 0
      unfolding reply pick
      no_words h = rw (zero_false budget low, lt_false 8192 budget high, lt_false work (work_words budget) enough, zero_true (length ws) h)

      pub too_long : 2048 < length ws → reply budget work room ws ≡ refusal 3 0 0
      unfolding reply pick
      too_long h =
          rw (zero_false budget low, lt_false 8192 budget high, lt_false work (work_words budget) enough, lt_true 2048 (length ws) h, or_true (eqb (length ws) 0))

      pub read : 1 ≤ length ws → length ws ≤ 2048 → reply budget work room ws ≡ read_reply budget room (read_question ws)
      unfolding reply pick
      read h k =
          rw (zero_false budget low, lt_false 8192 budget high, lt_false work (work_words budget) enough, zero_false (length ws) h, lt_false 2048 (length ws) k)

      pub faulted : 1 ≤ length ws → length ws ≤ 2048 → (c p : ℕ) → read_question ws ≡ fault c p → reply budget work room ws ≡ refusal c p 0
      unfolding read_reply
      faulted h k c p e = read h k ∙ rw e
