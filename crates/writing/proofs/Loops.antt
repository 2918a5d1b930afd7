-- Loops over things that stand one after the other: what is left of them, and what follows for the whole.
use mathlib.Core.Path.{◌≡◌, refl, ap}
use mathlib.Core.List.{List, []}
use Prim.Native.Nat.{ℕ, ◌+◌, ◌≤◌, ◌^◌, min}
use native.Mathlib.Omega.{arith}
use lib.ListN.{length}
use Rattle.writing.specs.Spelling.{◌Then◌, Long, Spelled, Writable, Writes}
use Rattle.writing.proofs.Spelling.{past_none, spelled_as, spelled_second, writable_as, writable_next, writes_as, writes_then, long_as, long_then}

-- ## Lengths: S is left of what S₀ says

pub record Summing (q w : List ℕ) (t : ℕ) (S₀ S : List ℕ → Type 0) (sum : ℕ) : Type 0 where
  pub rest : Spelled q w t S
  pub small : sum ≤ 2 ^ 32
  pub whole : (m : ℕ) → Long (2 ^ 32) S m → Long (2 ^ 32) S₀ (min (sum + m) (2 ^ 32))

module _ {q w : List ℕ} {t : ℕ} {S₀ S : List ℕ → Type 0} {sum : ℕ} where
  pub sum_next : {One S' : List ℕ → Type 0} {n sum' : ℕ} → ((ws : List ℕ) → S ws → (One Then S') ws) → Summing q w t S₀ S sum
      → Long (2 ^ 32) One n → sum' ≡ min (sum + n) (2 ^ 32) → Summing q w t S₀ S' sum'
  sum_next {n = n} f x k e = record {
    rest = spelled_second (spelled_as f x.rest);
    small = omega arith;
    whole = λ m l. let a = x.whole (min (n + m) (2 ^ 32)) (long_as f (long_then k l refl)) in record { is = λ ws y. let b = a.is ws y in omega arith };
  }

  pub sum_end : ((ws : List ℕ) → S ws → ws ≡ []) → Summing q w t S₀ S sum → Long (2 ^ 32) S₀ sum
  sum_end f x =
      let a = x.whole 0 (record { is = λ ws y. omega (arith, ap length (f ws y)) }) in
      record { is = λ ws y. let b = a.is ws y in omega (arith, x.small) }

-- ## Words: S is left to be written at z, of what S₀ says at p

pub record Putting (q w : List ℕ) (t : ℕ) (S₀ : List ℕ → Type 0) (s₀ : List ℕ) (p : ℕ) (S : List ℕ → Type 0) (s : List ℕ) (z : ℕ) : Type 0 where
  pub rest : Writable q w t S s z
  pub whole : (s' : List ℕ) (y : ℕ) → Writes S s s' z y → Writes S₀ s₀ s' p y

pub put_first : {q w : List ℕ} {t : ℕ} {S₀ S : List ℕ → Type 0} {s : List ℕ} {p : ℕ} → ((ws : List ℕ) → S₀ ws → S ws)
    → Writable q w t S₀ s p → Putting q w t S₀ s p S s p
put_first f x = record { rest = writable_as f x; whole = λ s' y k. writes_as f k }

module _ {q w : List ℕ} {t : ℕ} {S₀ S : List ℕ → Type 0} {s₀ s : List ℕ} {p z : ℕ} where
  pub put_next : {One S' : List ℕ → Type 0} {s' : List ℕ} {y : ℕ} → ((ws : List ℕ) → S ws → (One Then S') ws) → Putting q w t S₀ s₀ p S s z
      → Writes One s s' z y → Putting q w t S₀ s₀ p S' s' y
  put_next f x k = record {
    rest = writable_next (writable_as f x.rest) k;
    whole = λ s'' y l. x.whole s'' y (writes_as f (writes_then k l));
  }

  pub put_end : ((ws : List ℕ) → S ws → ws ≡ []) → Putting q w t S₀ s₀ p S s z → Writes S₀ s₀ s p z
  put_end f x = x.whole s z (record { past = λ ws y r. rw (f ws y) (past_none s z) })
